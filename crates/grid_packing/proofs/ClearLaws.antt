-- Laws of the bytes of counters that are all 0. Assumes nothing.
use Prim.Native.Nat.{ℕ, ◌+◌, ◌*◌, ◌/◌, ◌%◌, ◌<◌}
use mathlib.Core.Path.{◌≡◌, sym, ap, ap₂, ◌∙◌}
use mathlib.Core.Bool.{Bool, true, false}
use mathlib.Core.List.{List}
use native.Mathlib.Omega.{arith}
use lib.ListN.{length, get_or, length-append, replicate, length-replicate}
use lib.Pow.{pow_pos}
use Rattle.bits.specs.Bits.{sum, list, has, word, words, bytes, Below}
use Rattle.bits.proofs.TestLaws.{clash}
use Rattle.bits.proofs.BoundLaws.{length_list, list_ext, list_get_or}
use Rattle.bits.proofs.ByteLaws.{get_or_zeros}
use Rattle.bits.proofs.BitLaws.{has_zero, is_word}
use Rattle.rdis.specs.Packing.{width, bytes_for, in_order, packed}
use Rattle.rdis.proofs.PackingLaws.{in_order_below, packed_bits, width_some}
use Rattle.grid_sets.specs.Sets.{times}
use Rattle.grid_sets.proofs.RoomLaws.{packs}
use Rattle.grid_sets.specs.Promises.{packable, Pack}

pub zeros : (n : ℕ) → replicate n 0 ≡ list {A = ℕ} n (λ _. 0)
zeros n = list_get_or n (λ _. 0) 0 (replicate n 0) (length-replicate n 0) (λ i _. get_or_zeros n i)

zeros_packed : (w m : ℕ) (cs : List ℕ) → 0 < w → ((t : ℕ) → get_or cs t 0 ≡ 0) → m ≡ bytes_for w (length cs) → list m (λ _. 0) ≡ packed w cs
unfolding bytes words
zeros_packed w m cs z h e =
    let f : ℕ → Bool = λ p. has (get_or cs (p / w) 0) (p % w) in
    let none : (p : ℕ) → f p ≡ false = λ p. ap (λ y. has y (p % w)) (h (p / w)) ∙ has_zero (p % w) in
    list_ext m (λ _. 0) (λ i. word 8 (λ k. f (8 * i + k))) (λ i _. is_word 8 0 (λ k. f (8 * i + k)) (pow_pos 8) (λ k _. has_zero k ∙ sym (none (8 * i + k))))
    ∙ ap (λ x. list x (λ i. word 8 (λ k. f (8 * i + k)))) e ∙ sym (packed_bits w cs z (λ i. rw (h i) (pow_pos w)))

pub cleared : (k m n : ℕ) (rows columns before after : List ℕ) → packable k m n 0 (length before) ≡ true → after ≡ list (length before) (λ _. 0) → Pack k m n 0 rows columns before after
unfolding times sum
cleared k m n rows columns before after h e =
    let r = times rows 0 in
    let c = times columns 0 in
    let size : length (in_order m n r c) ≡ m + n = length-append (list m r) (list n c) ∙ ap₂ ◌+◌ (length_list m r) (length_list n c) in
    let below : Below 1 (in_order m n r c) = in_order_below m n r c 1 (omega arith) (λ i _. omega arith) (λ j _. omega arith) in
    let room = (packs k m n 0 (length before) h).1.size in
    record {
      bytes = λ _. e ∙ zeros_packed (width k) (length before) (in_order m n r c) (width_some k) (λ t. let l = below t in omega arith) (room ∙ ap (bytes_for (width k)) (sym size));
      untouched = λ q. clash h q;
    }
