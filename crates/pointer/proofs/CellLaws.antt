-- The loops over the cells of a row: copying, setting the bits of entries, and storing. Assumes nothing.
use mathlib.Core.Path.{◌≡◌, refl, sym, ap, subst, ◌∙◌}
use mathlib.Core.Bool.{cond}
use mathlib.Core.List.{List}
use Prim.Native.Nat.{ℕ, ◌+◌, ◌*◌, ◌/◌, ◌%◌, ◌<◌}
use native.Mathlib.Omega.{arith}
use lib.Bits.{bit_and, bit_xor, and_le_l, xor_lt}
use lib.Dec.{eqb}
use lib.ListN.{length, get_or, take, set, length-set}
use Rattle.bits.specs.Bits.{has, at, bytes, list, Below}
use Rattle.bits.proofs.BitLaws.{is_word}
use Rattle.bits.proofs.ByteLaws.{below_set, at_byte, is_bytes, bytes_more}
use Rattle.pointer_promises.specs.Pointer.{pointer, replacement, entry, shown, stored}
use Rattle.pointer_promises.proofs.EntryLaws.{shown_snoc}
use Rattle.pointer.proofs.OctetLaws.{bit_chosen, at_changed, one_more_lem}

-- after i entries of the metadata m each bit is what they and the cells show
pub record Patching (cells m out : List ℕ) (i : ℕ) : Type 0 where
  pub long : length out ≡ 64
  pub bits : (q : ℕ) → at out q ≡ shown (list i (entry m)) q (at cells q)
  pub below : Below 256 out

module _ (cells m : List ℕ) where
  pub patch_start : (out : List ℕ) → length cells ≡ 64 → Below 256 cells → out ≡ cells → Patching cells m out 0
  unfolding shown list
  patch_start out l b e = subst (λ x. Patching cells m x 0) (sym e) (record { long = l; bits = λ q. refl; below = b })

  pub patch_more : (out : List ℕ) (i e v : ℕ) → e ≡ entry m i → v < 256 → ((j : ℕ) → has v j ≡ cond (eqb (pointer e % 8) j) (replacement e) (has (get_or out (pointer e / 8) 0) j))
      → Patching cells m out i → Patching cells m (set out (pointer e / 8) v) (i + 1)
  patch_more out i e v r f h p =
      let k : length out ≡ 64 = p.long in
      record {
        long = length-set out (pointer e / 8) v ∙ k;
        bits = λ q.
            at_changed out (pointer e) q v (replacement e) (omega arith) h ∙ ap (cond (eqb (pointer e) q) (replacement e)) (p.bits q)
            ∙ sym (ap (λ l. shown l q (at cells q)) (one_more_lem m i e r) ∙ shown_snoc (list i (entry m)) e q (at cells q));
        below = below_set 256 out (pointer e / 8) v p.below f;
      }

  pub patch_done : (out : List ℕ) (i a : ℕ) → i ≡ a → Patching cells m out i → out ≡ bytes 64 (λ p. shown (list a (entry m)) p (at cells p))
  patch_done out i a e p =
      is_bytes 64 (λ q. shown (list a (entry m)) q (at cells q)) out p.long p.below (λ q _. p.bits q ∙ ap (λ x. shown (list x (entry m)) q (at cells q)) e)

-- one byte of cells more
pub store_more : (wanted mask values cells : List ℕ) (j : ℕ) → let v = bit_xor (get_or wanted j 0) (bit_and (get_or mask j 0) (bit_xor (get_or wanted j 0) (get_or values j 0))) in get_or wanted j 0 < 256 → get_or mask j 0 < 256 → j < length cells
    → take j cells ≡ bytes j (stored wanted mask values) → take (j + 1) (set cells j v) ≡ bytes (j + 1) (stored wanted mask values)
unfolding stored
store_more wanted mask values cells j b c l e =
    let v : ℕ = bit_xor (get_or wanted j 0) (bit_and (get_or mask j 0) (bit_xor (get_or wanted j 0) (get_or values j 0))) in
    let f : v < 256 = xor_lt 8 (get_or wanted j 0) _ b (omega (arith, and_le_l (get_or mask j 0) (bit_xor (get_or wanted j 0) (get_or values j 0)))) in
    bytes_more j (stored wanted mask values) v cells l e
    (is_word 8 v (λ k. stored wanted mask values (8 * j + k)) f
    (λ k q. bit_chosen (get_or wanted j 0) (get_or mask j 0) (get_or values j 0) k ∙ sym (rw (at_byte mask j k q, at_byte values j k q, at_byte wanted j k q))))
