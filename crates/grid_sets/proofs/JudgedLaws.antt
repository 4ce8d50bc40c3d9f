-- Laws of the judgments of counters in bytes: which are accepted, and what a judgment is in numbers. Assumes nothing.
use Prim.Native.Nat.{ℕ, ◌+◌}
use mathlib.Core.Path.{refl}
use mathlib.Core.Bool.{Bool, true, false, not, cond}
use mathlib.Core.List.{List}
use native.Mathlib.Omega.{arith}
use lib.ListN.{length}
use Rattle.std.specs.Prelude.{Ok, Err}
use Rattle.refusals.specs.declared.Refusal.TheVariants.{WrongLength, BitPastEnd, AboveK}
use Rattle.refusals.proofs.NumberLaws.{on_accepted, on_refused}
use Rattle.rdis.specs.Packing.{width, above, first_above, spare_clear}
use Rattle.grid_sets.specs.Promises.{roomy, counters_judged, unpack_judged, unpack_number, convertible, convert_judged, convert_number, Numbers, UnpackNumbers, ConvertNumbers, ConvertBytes, ConvertUntouched}

-- ---- in numbers

-- a judgment by three tests
by_tests : (k n : ℕ) (bs : List ℕ) (long spare high : Bool) → Numbers k n bs (cond (not long) 2 (cond (not spare) 3 (cond high 4 0)))
    (cond (not long) (Err WrongLength) (cond (not spare) (Err BitPastEnd) (cond high (Err (AboveK (first_above k n bs))) (Ok tt))))
by_tests k n bs false spare high = record { number = refl; names = λ e. absurd (omega arith); names_none = λ _. refl }
by_tests k n bs true false high = record { number = refl; names = λ e. absurd (omega arith); names_none = λ _. refl }
by_tests k n bs true true true = record { number = refl; names = λ _. refl; names_none = λ h. absurd (h refl) }
by_tests k n bs true true false = record { number = refl; names = λ e. absurd (omega arith); names_none = λ _. refl }

pub unpack_numbers : UnpackNumbers
unfolding unpack_number unpack_judged counters_judged
unpack_numbers k m n bs c p = rw p.judged (by_tests k (m + n) bs (roomy k m n (length bs)) (spare_clear (width k) (m + n) bs) (above k (m + n) bs))

pub convert_numbers : ConvertNumbers
unfolding convert_number convert_judged counters_judged
convert_numbers k k' m n bs before c after p = rw p.judged (by_tests k (m + n) bs (convertible k k' m n (length bs) (length before)) (spare_clear (width k) (m + n) bs) (above k (m + n) bs))

-- and what a conversion leaves, by its number
pub convert_bytes : ConvertBytes
convert_bytes k k' m n bs before c after p z = on_accepted c p.bytes z

pub convert_untouched : ConvertUntouched
convert_untouched k k' m n bs before c after p h = on_refused c p.untouched h
