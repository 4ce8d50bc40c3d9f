-- Laws of the numbers that are answered: what a 0 tells. Assumes nothing.
use mathlib.Core.Path.{◌≡◌, refl, sym}
use mathlib.Core.Bool.{Bool, true, false, cond, ◌&&◌}
use mathlib.Core.List.{List, []}
use mathlib.Core.Logic.{◌↔◌, ⊎_elim}
use Prim.Native.Nat.{ℕ, ◌+◌, ◌≤◌, ◌<◌}
use native.Mathlib.Omega.{arith}
use borrow.Author.Tests.{leb-true, le-leb, lt-leb, eqb-true, eq-eqb}
use lib.Dec.{eqb, leb, lit<}
use lib.ListN.{length}
use Rattle.bits.specs.First.{Refusal, First}
use Rattle.bits.proofs.TestLaws.{lt_or_le, and_in, and_left, and_right, eqb_iff, false_iff, iff_stable}
use Rattle.bits.proofs.FirstLaws.{hit, miss, last, NoneOf, Numbered, accepted}
use Rattle.pointer_promises.specs.Pointer.{size, spare, active, formed, held, repeats, measured, verdict, read_number, needed, write_number}
use Rattle.pointer_promises.specs.Refusals.{InRange, WriteLengths, Spare, WellFormed, NamedTwice, row_refusals, write_refusals}
use Rattle.pointer_promises.proofs.FormedLaws.{formed_iff}
use Rattle.pointer_promises.proofs.ServedLaws.{twice_iff, none_left_iff}
use Rattle.pointer_promises.proofs.RefusalLaws.{range_iff, read_first, write_first}

-- ---- n and the lengths

pub record Measured (n : ℕ) (fixed : Bool) (m : ℕ) : Type 0 where
  pub least : 1 ≤ n
  pub most : n ≤ 10
  pub sized : fixed ≡ true
  pub long : m ≡ size n

pub measured_zero : (n : ℕ) (fixed : Bool) (m : ℕ) → measured n fixed m ≡ 0 → Measured n fixed m
unfolding measured
measured_zero n fixed m h = all (go (leb 1 n && leb n 10) (fixed && eqb m (size n)) h)
  where
    go : (a b : Bool) → ◌≡◌ {A = ℕ} (cond a (cond b 0 2) 1) 0 → (a ≡ true) × (b ≡ true)
    go true true h = (refl, refl)
    go true false h = absurd (omega arith)
    go false b h = absurd (omega arith)

    all : (leb 1 n && leb n 10 ≡ true) × (fixed && eqb m (size n) ≡ true) → Measured n fixed m
    all (a, b) = record {
      least = leb-true 1 n (and_left (leb 1 n) (leb n 10) a);
      most = leb-true n 10 (and_right (leb 1 n) (leb n 10) a);
      sized = and_left fixed (eqb m (size n)) b;
      long = eqb-true m (size n) (and_right fixed (eqb m (size n)) b);
    }

pub measured_low : (n : ℕ) (fixed : Bool) (m : ℕ) → n < 1 → 1 ≡ measured n fixed m
unfolding measured
measured_low n fixed m h = rw (lt-leb 1 n h)

pub measured_high : (n : ℕ) (fixed : Bool) (m : ℕ) → 10 < n → 1 ≡ measured n fixed m
unfolding measured
measured_high n fixed m h = rw (le-leb 1 n (omega arith), lt-leb n 10 h)

pub measured_in : (n : ℕ) (fixed : Bool) (m : ℕ) (t : Bool) → 1 ≤ n → n ≤ 10 → t ≡ fixed && eqb m (size n) → cond t 0 2 ≡ measured n fixed m
unfolding measured
measured_in n fixed m t l h e = rw (le-leb 1 n l, le-leb n 10 h, e)

measured_ok : (n : ℕ) (fixed : Bool) (m : ℕ) → 1 ≤ n → n ≤ 10 → fixed ≡ true → m ≡ size n → measured n fixed m ≡ 0
measured_ok n fixed m l h f e = sym (measured_in n fixed m true l h (sym (and_in f (eq-eqb m (size n) e))))

-- where n and the lengths are right, the metadata decides
pub read_ok : (n cells : ℕ) (m : List ℕ) (out : ℕ) → 1 ≤ n → n ≤ 10 → cells ≡ 64 → length m ≡ size n → out ≡ 64 → read_number n cells m out ≡ verdict n m
unfolding read_number
read_ok n cells m out l h c e o = rw (c, o, measured_ok n true (length m) l h refl e)

-- ---- the metadata

pub verdict_tests : (n : ℕ) (m : List ℕ) (a b c : Bool) → a ≡ spare n m → b ≡ formed n m → c ≡ repeats (held n m) → cond a 3 (cond b (cond c 5 0) 4) ≡ verdict n m
unfolding verdict
verdict_tests n m a b c p q r = rw (p, q, r)

pub record Clean (n : ℕ) (m : List ℕ) : Type 0 where
  pub spares : spare n m ≡ false
  pub forms : formed n m ≡ true
  pub differs : repeats (held n m) ≡ false

pub verdict_zero : (n : ℕ) (m : List ℕ) → verdict n m ≡ 0 → Clean n m
unfolding verdict
verdict_zero n m h = let (a, b, c) = go (spare n m) (formed n m) (repeats (held n m)) h in record { spares = a; forms = b; differs = c }
  where
    go : (a b c : Bool) → ◌≡◌ {A = ℕ} (cond a 3 (cond b (cond c 5 0) 4)) 0 → (a ≡ false) × (b ≡ true) × (c ≡ false)
    go true b c h = absurd (omega arith)
    go false true true h = absurd (omega arith)
    go false true false h = (refl, refl, refl)
    go false false c h = absurd (omega arith)

-- ---- what it tells that no refusal applies

pub record Passed (n : ℕ) (m : List ℕ) : Type 0 where
  pub range : InRange n
  pub forms : WellFormed n m
  pub differs : repeats (held n m) ≡ false

-- a call that answers 0: the lengths too are right, and none of its other refusals applies
row_passed : (Lengths : Type 0) (n : ℕ) (m : List ℕ) (others : List Refusal) (x : ℕ) → Numbered others → First (row_refusals Lengths n m others) x → x ≡ 0
    → Passed n m × ((Lengths → ⊥) → ⊥) × NoneOf others
row_passed Lengths n m others x u f z = go (accepted _ x (lit< tt, (lit< tt, (lit< tt, (lit< tt, (lit< tt, u))))) f z)
  where
    go : NoneOf (row_refusals Lengths n m others) → Passed n m × ((Lengths → ⊥) → ⊥) × NoneOf others
    go (p, (q, (r, (s, (t, rest))))) =
        let range : InRange n = iff_stable _ (range_iff n) p in
        let forms : WellFormed n m = iff_stable _ (formed_iff n m range) s in
        (record { range = range; forms = forms; differs = false_iff _ (twice_iff n m range forms) t }, q, rest)

pub read_passed : (n cells : ℕ) (m : List ℕ) (out : ℕ) → read_number n cells m out ≡ 0 → Passed n m
read_passed n cells m out z = (row_passed _ n m [] _ tt (read_first n cells m out) z).0

module _ (n : ℕ) (wanted mask values : List ℕ) (cells : ℕ) (m : List ℕ) where
  -- none of 1 to 5 applies: 6 exactly where the active entries and the unserved positions are more than n
  pub full_exactly : (k : ℕ) → First (write_refusals n wanted mask values cells m) k → InRange n
      → WriteLengths n (length wanted) (length mask) (length values) cells (length m) → (Spare n m → ⊥) → WellFormed n m → (NamedTwice n m → ⊥)
      → (k ≡ 6) ↔ (n < active n m + needed wanted mask values (held n m))
  full_exactly k r range lengths clear forms differ =
      let rest = miss (miss (miss (miss (miss r (λ h. h range)) (λ h. h lengths)) clear) (λ h. h forms)) differ in
      let (to, from) = none_left_iff n m range forms wanted mask values in
      (λ e. from (last rest (omega arith)), λ l. hit rest (to l))

  -- what an accepted write tells
  pub record Accepted : Type 0 where
    pub judged : Passed n m
    pub long : length wanted ≡ 64
    pub few : active n m + needed wanted mask values (held n m) ≤ n

  pub write_zero : write_number n wanted mask values cells m ≡ 0 → Accepted
  write_zero z =
      let (j, sized, (left, _)) = row_passed _ n m _ _ (lit< tt, tt) (write_first n wanted mask values cells m) z in
      let over : n < active n m + needed wanted mask values (held n m) → ⊥ = λ l. left ((none_left_iff n m j.range j.forms wanted mask values).0 l) in
      record {
        judged = j;
        long = iff_stable _ (eqb_iff (length wanted) 64) (λ h. sized (λ l. h l.data_bytes));
        few = ⊎_elim (λ l. absurd (over l)) (λ l. l) (lt_or_le n (active n m + needed wanted mask values (held n m)));
      }
