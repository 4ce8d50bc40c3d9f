-- What is judged of counters: by the lines that are above K, and with their spare bits. Assumes nothing.
use Prim.Native.Nat.{ℕ, ◌+◌, ◌≤◌, ◌<◌}
use mathlib.Core.Path.{◌≡◌, refl, ap}
use mathlib.Core.Bool.{Bool, true, false, not, cond, ◌&&◌}
use mathlib.Core.Logic.{⊎_elim}
use native.Mathlib.Omega.{arith}
use borrow.Author.Tests.{le-ltb}
use lib.Dec.{ltb}
use lib.ListN.{get_or}
use Rattle.std.specs.Prelude.{Result, Ok, Err}
use Rattle.std.specs.Result.{result_and}
use Rattle.refusals.specs.declared.Refusal.{Refusal}
use Rattle.refusals.specs.declared.Refusal.TheVariants.{BitPastEnd, AboveK}
use Rattle.bits.specs.Bits.{some, first, words}
use Rattle.bits.proofs.TestLaws.{clash, lt_or_le}
use Rattle.bits.proofs.BoundLaws.{some_none}
use Rattle.bits.proofs.ByteLaws.{length_words, past_end}
use Rattle.grid_sets.specs.Sets.{sets_of, first_line}
use Rattle.grid_sets.proofs.SetLaws.{some_line_lem, first_line_lem}
use Rattle.grid_counters.specs.Steps.{clear_judged, lines_judged}

-- h: a counter is above k, and the first that is refuses them all
abbrev pub high_judged : Bool → ℕ → Result (Unit {0}) Refusal
high_judged h t = cond h (Err (AboveK t)) (Ok tt)

-- of n counters f
abbrev pub above_judged : ℕ → ℕ → (ℕ → ℕ) → Result (Unit {0}) Refusal
above_judged n k f = high_judged (some n (λ t. ltb k (f t))) (first n (λ t. ltb k (f t)))

-- there are eight sets
no_set : (n k : ℕ) (f : ℕ → ℕ) → 8 ≤ k → get_or (sets_of n f) k 0 ≡ 0
unfolding sets_of
no_set n k f h = past_end (words 8 n (λ s i. ltb s (f i))) k (omega (arith, length_words 8 n (λ s i. ltb s (f i))))

-- a and b: there is no first line, and no second; h: there is a line, and then the first is t
by_lines : (a b h : Bool) (x y t : ℕ) → not (a && b) ≡ h → (h ≡ true → cond a y x ≡ t)
    → ◌≡◌ {A = Result (Unit {0}) Refusal} (cond a (cond b (Ok tt) (Err (AboveK y))) (Err (AboveK x))) (high_judged h t)
by_lines true true true x y t e f = clash e refl
by_lines true true false x y t e f = refl
by_lines true false true x y t e f = ap (λ i. Err (AboveK i)) (f refl)
by_lines true false false x y t e f = clash refl e
by_lines false b true x y t e f = ap (λ i. Err (AboveK i)) (f refl)
by_lines false b false x y t e f = clash refl e

-- m counters f, and n that come after them, are judged by the lines of their sets numbered k
pub lines_are : (m n k : ℕ) (f : ℕ → ℕ) → ((t : ℕ) → f t < 8) → m ≤ 64 → n ≤ 64
    → lines_judged (get_or (sets_of m f) k 0) (get_or (sets_of n (λ j. f (m + j))) k 0) m ≡ above_judged (m + n) k f
unfolding first_line
lines_are m n k f few lm ln = ⊎_elim
    (λ l. by_lines _ _ _ _ _ _ (some_line_lem m n k f l) (first_line_lem m n k f l lm ln))
    (λ l. rw (no_set m k f l, no_set n k (λ j. f (m + j)) l, some_none (m + n) (λ t. ltb k (f t)) (λ t _. le-ltb k (f t) (omega (arith, few t)))))
    (lt_or_le k 8)

-- and with the spare bits
pub spare_first : (s : Bool) (j : Result (Unit {0}) Refusal) → result_and (clear_judged s) j ≡ cond (not s) (Err BitPastEnd) j
spare_first true j = refl
spare_first false j = refl
