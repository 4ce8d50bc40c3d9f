-- What the private steps from bytes to sets say. Nobody who reads the promises needs this page. Assumes nothing.
use Rattle.std.specs.Prelude.{ℕ, ◌+◌, ◌*◌, ◌<◌, ◌≡◌, Bool, cond, List, eqb, Result, Ok, Err}
use Rattle.std.specs.Int.Count.{count_trailing_zeros}
use Rattle.bits.specs.Bits.{has, word}
use Rattle.refusals.specs.declared.Refusal.{Refusal}
use Rattle.refusals.specs.declared.Refusal.TheVariants.{BitPastEnd, AboveK}
use Rattle.rdis.specs.Packing.{spare_clear}

-- the bits at every third place of v are f, 16 of them
abbrev pub FromThirds : ℕ → (ℕ → Bool) → Type 0
FromThirds v f = (i : ℕ) → i < 16 → has v (3 * i) ≡ f i

-- a plane is made of those of four words
abbrev pub FromFour : ℕ → ℕ → ℕ → ℕ → ℕ → Type 0
FromFour a b c d r = (f : ℕ → Bool) → FromThirds a f → FromThirds b (λ i. f (16 + i)) → FromThirds c (λ i. f (32 + i)) → FromThirds d (λ i. f (48 + i)) → r ≡ word 64 f

-- spare bits that are clear or not, judged; and those past n counters of w bits
abbrev pub clear_judged : Bool → Result (Unit {0}) Refusal
clear_judged s = cond s (Ok tt) (Err BitPastEnd)

abbrev pub spare_judged : ℕ → ℕ → List ℕ → Result (Unit {0}) Refusal
spare_judged w n bs = clear_judged (spare_clear w n bs)

-- counters judged, where those of the first lines are above K, and those of the second, which are counted from m on
abbrev pub lines_judged : ℕ → ℕ → ℕ → Result (Unit {0}) Refusal
lines_judged first second m =
    cond (eqb first 0) (cond (eqb second 0) (Ok tt) (Err (AboveK (m + count_trailing_zeros 64 second)))) (Err (AboveK (count_trailing_zeros 64 first)))
