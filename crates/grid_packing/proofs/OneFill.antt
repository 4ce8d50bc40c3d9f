-- Counters that are stored by their planes leave no second list: some counters have the planes, whatever these are. Assumes nothing.
use Prim.Native.Nat.{ℕ, ◌+◌, ◌-◌, ◌*◌, ◌<◌}
use mathlib.Core.Path.{◌≡◌, refl, sym, ap, ◌∙◌}
use mathlib.Core.Bool.{Bool, true, false, cond}
use mathlib.Core.Logic.{⊎_elim}
use native.Mathlib.Omega.{arith}
use borrow.Author.Tests.{lt-ltb, le-ltb}
use lib.Dec.{ltb}
use lib.Seq.{ext_get_or}
use Rattle.bits.specs.Bits.{num, has}
use Rattle.bits.proofs.TestLaws.{lt_or_le}
use Rattle.bits.proofs.BitLaws.{is_word}
use Rattle.grid_sets.specs.declared.Threes.{Threes}
use Rattle.grid_sets.specs.Planes.{AreThrees}
use Rattle.grid_packing.specs.Promises.{AreWords, OneFill}

-- the number of three bits
abbrev three : Bool → Bool → Bool → ℕ
three a b c = num a + (2 * num b + 4 * num c)

record Bits (a b c : Bool) : Type 0 where
  zeroth : has (three a b c) 0 ≡ a
  first : has (three a b c) 1 ≡ b
  second : has (three a b c) 2 ≡ c

bits_of_three : (a b c : Bool) → Bits a b c
unfolding has
bits_of_three true true true = record { zeroth = refl; first = refl; second = refl }
bits_of_three true true false = record { zeroth = refl; first = refl; second = refl }
bits_of_three true false true = record { zeroth = refl; first = refl; second = refl }
bits_of_three true false false = record { zeroth = refl; first = refl; second = refl }
bits_of_three false true true = record { zeroth = refl; first = refl; second = refl }
bits_of_three false true false = record { zeroth = refl; first = refl; second = refl }
bits_of_three false false true = record { zeroth = refl; first = refl; second = refl }
bits_of_three false false false = record { zeroth = refl; first = refl; second = refl }

-- the counters that planes have, and whatever equals them
abbrev counter_of : Threes → ℕ → ℕ
counter_of p i = three (has p.planes.low i) (has p.planes.high i) (has p.top i)

have_planes : (p : Threes) (f : ℕ → ℕ) → AreWords p → ((i : ℕ) → i < 64 → f i ≡ counter_of p i) → AreThrees 64 f p
have_planes p f w e = record {
  bits = record {
    lower = is_word 64 p.planes.low _ w.low (λ i l. sym (ap (λ x. has x 0) (e i l) ∙ (bits i).zeroth));
    higher = is_word 64 p.planes.high _ w.high (λ i l. sym (ap (λ x. has x 1) (e i l) ∙ (bits i).first));
  };
  third = is_word 64 p.top _ w.top (λ i l. sym (ap (λ x. has x 2) (e i l) ∙ (bits i).second));
}
  where
    bits : (i : ℕ) → Bits (has p.planes.low i) (has p.planes.high i) (has p.top i)
    bits i = bits_of_three (has p.planes.low i) (has p.planes.high i) (has p.top i)

-- those of the first planes, and then those of the second
module _ (first second : Threes) where
  abbrev all : ℕ → ℕ
  all i = cond (ltb i 64) (counter_of first i) (counter_of second (i - 64))

  before : (i : ℕ) → i < 64 → all i ≡ counter_of first i
  before i l = ap (λ b. cond b (counter_of first i) (counter_of second (i - 64))) (lt-ltb i 64 l)

  after : (i : ℕ) → all (64 + i) ≡ counter_of second i
  after i =
      let there : 64 + i - 64 ≡ i = omega arith in
      ap (λ b. cond b (counter_of first (64 + i)) (counter_of second (64 + i - 64))) (le-ltb (64 + i) 64 (omega arith)) ∙ ap (counter_of second) there

pub one_fill : OneFill
one_fill w first second b a a' p q l l' s s' =
    let f = all first second in
    let one = have_planes first f p (before first second) in
    let two = have_planes second (λ i. f (64 + i)) q (λ i _. after first second i) in
    ext_get_or 0 a a' (l ∙ sym l') (λ t k. ⊎_elim
    (λ j. s.fills f one two t j k ∙ sym (s'.fills f one two t j (omega arith)))
    (λ j. s.keeps t j ∙ sym (s'.keeps t j)) (lt_or_le t (16 * w)))
