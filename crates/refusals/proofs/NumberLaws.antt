-- Laws of the numbers of refusals. Assumes nothing.
use Prim.Native.Nat.{ℕ, ◌<◌}
use mathlib.Core.Path.{◌≡◌, refl}
use mathlib.Core.Logic.{◌≢◌}
use native.Mathlib.Omega.{arith}
use Rattle.std.specs.Prelude.{Result, Ok, Err, OnOk, OnErr}
use Rattle.std.specs.Result.{IsErrAnd}
use Rattle.std.proofs.lemmas.Result.{err_from_is_err_and}
use Rattle.refusals.specs.Numbers.{number, index, number_of}
use Rattle.refusals.specs.declared.Refusal.{Refusal}
use Rattle.refusals.specs.declared.Refusal.TheVariants.{OutOfRange, WrongLength, BitPastEnd, Malformed, AboveK, SamePointer, NoEntryLeft, Unmaskable, ShortBlock, LongBlock, Misread}

-- each has a number
pub number_some : (e : Refusal) → 0 < number e
number_some OutOfRange = omega arith
number_some WrongLength = omega arith
number_some BitPastEnd = omega arith
number_some Malformed = omega arith
number_some (AboveK _) = omega arith
number_some SamePointer = omega arith
number_some NoEntryLeft = omega arith
number_some Unmaskable = omega arith
number_some ShortBlock = omega arith
number_some LongBlock = omega arith
number_some Misread = omega arith

pub not_zero : (e : Refusal) → number e ≢ 0
not_zero e z = let p : 0 < number e = number_some e in absurd (omega arith)

-- an index comes with 4 alone
pub no_index : (e : Refusal) → number e ≢ 4 → index e ≡ 0
no_index (AboveK _) h = absurd (h refl)
no_index OutOfRange h = refl
no_index WrongLength h = refl
no_index BitPastEnd h = refl
no_index Malformed h = refl
no_index SamePointer h = refl
no_index NoEntryLeft h = refl
no_index Unmaskable h = refl
no_index ShortBlock h = refl
no_index LongBlock h = refl
no_index Misread h = refl

-- what holds of an accepted call, and what of a refused one, by the number
pub on_accepted : {A P : Type 0} (j : Result A Refusal) → OnOk j P → number_of j ≡ 0 → P
on_accepted (Ok u) p z = p
on_accepted (Err e) p z = absurd (not_zero e z)

pub on_refused : {A P : Type 0} (j : Result A Refusal) → OnErr j P → 0 < number_of j → P
on_refused (Ok u) p h = absurd (omega arith)
on_refused (Err e) p h = p

-- a refusal that `?` passes on has the number of the one that came
pub passed_on : {A : Type 0} (r : Result A Refusal) (e : Refusal) (k : ℕ) → IsErrAnd r (λ y. y ≡ e) → number e ≡ k → number_of r ≡ k
passed_on r e k h n = let p = err_from_is_err_and r h in rw (p.1, p.2) n
