-- Laws of the first line that applies: it is unique, tests in turn find it, which line applies tells it, and where the numbers rise it is the lowest.
-- Assumes nothing.
use Prim.Native.Nat.{ℕ, ◌<◌}
use mathlib.Core.Path.{◌≡◌, refl, sym, ◌∙◌}
use mathlib.Core.Bool.{Bool, true, false, cond, ◌&&◌}
use mathlib.Core.List.{List, [], ◌∷◌}
use mathlib.Core.Logic.{◌↔◌, ◌≢◌, inl, inr, ⊎_elim}
use native.Mathlib.Omega.{arith}
use native.Mathlib.Decide.{ℕ_discrete}
use borrow.Author.Tests.{ltb-true}
use lib.Dec.{ltb}
use Rattle.bits.specs.Lowest.{Lowest}
use Rattle.bits.specs.First.{Refusal, ◌when◌, First, Applies, rising, RisingLowest}
use Rattle.bits.proofs.TestLaws.{lt_or_le, and_left, and_right, iff_false}

-- ---- told by which line applies

module _ {o x : ℕ} {P : Type 0} {rs : List Refusal} where
  pub hit : First ((o when P) ∷ rs) x → P → x ≡ o
  hit r p = ⊎_elim (λ (h, e). e) (λ (h, f). absurd (h p)) r.found

  pub miss : First ((o when P) ∷ rs) x → (P → ⊥) → First rs x
  miss r n = record { found = ⊎_elim (λ (h, e). absurd (n h)) (λ (h, f). f) r.found }

  -- told by the number: a line that has another one did not apply, and the last applies where there is a refusal
  pub skip : First ((o when P) ∷ rs) x → x ≢ o → First rs x
  skip r n = record { found = ⊎_elim (λ (h, e). absurd (n e)) (λ (h, f). f) r.found }

  -- a line applies where none after it gives the number
  pub told : First ((o when P) ∷ rs) x → (First rs x → ⊥) → P
  told r n = ⊎_elim (λ (h, e). h) (λ (h, f). absurd (n (record { found = f }))) r.found

pub last : {o x : ℕ} {P : Type 0} → First ((o when P) ∷ []) x → 0 < x → P
last r l = ⊎_elim (λ (h, e). h) (λ (h, z). absurd (omega arith)) r.found

pub missed : {x : ℕ} → First [] x → x ≡ 0
missed r = r.found

-- no other number is
pub first_one : (rs : List Refusal) (x y : ℕ) → First rs x → First rs y → x ≡ y
first_one [] x y r s = missed r ∙ sym (missed s)
first_one ((o when P) ∷ rs) x y r s = ⊎_elim (λ (h, e). e ∙ sym (hit s h)) (λ (h, f). first_one rs x y (record { found = f }) (miss s h)) r.found

-- where every number is below b, so is this one
abbrev pub Under : ℕ → List Refusal → Type 0
Under b [] = 0 < b
Under b ((o when P) ∷ rs) = (o < b) × Under b rs

pub first_under : (b : ℕ) (rs : List Refusal) (x : ℕ) → Under b rs → First rs x → x < b
first_under b [] x u r = omega (arith, missed r)
first_under b ((o when P) ∷ rs) x (u, us) r = ⊎_elim (λ (h, e). omega arith) (λ (h, f). first_under b rs x us (record { found = f })) r.found

-- ---- found by tests in turn: those after a line may assume that it does not apply

pub first_test : (o x : ℕ) (P : Type 0) (rs : List Refusal) (t : Bool) → (t ≡ true) ↔ P → ((P → ⊥) → First rs x) → First ((o when P) ∷ rs) (cond t o x)
first_test o x P rs true f r = record { found = inl (f.0 refl, refl) }
first_test o x P rs false f r = record { found = inr (iff_false false f refl, (r (iff_false false f refl)).found) }

pub first_none : First [] 0
first_none = record { found = refl }

-- ---- where the call is accepted

-- no line applies; and every line has a number, which is not 0
abbrev pub NoneOf : List Refusal → Type 0
NoneOf [] = Unit {0}
NoneOf ((o when P) ∷ rs) = (P → ⊥) × NoneOf rs

abbrev pub Numbered : List Refusal → Type 0
Numbered [] = Unit {0}
Numbered ((o when P) ∷ rs) = (0 < o) × Numbered rs

pub accepted : (rs : List Refusal) (x : ℕ) → Numbered rs → First rs x → x ≡ 0 → NoneOf rs
accepted [] x u r z = tt
accepted ((o when P) ∷ rs) x (u, us) r z = (λ p. omega (arith, hit r p), accepted rs x us (skip r (λ e. omega arith)) z)

pub accepts : (rs : List Refusal) (x : ℕ) → NoneOf rs → First rs x → x ≡ 0
accepts [] x n r = missed r
accepts ((o when P) ∷ rs) x (n, ns) r = accepts rs x ns (miss r n)

-- ---- where the numbers rise

rises : (b o : ℕ) (t : Bool) → ltb b o && t ≡ true → (b < o) × (t ≡ true)
rises b o t u = (ltb-true b o (and_left (ltb b o) t u), and_right (ltb b o) t u)

-- a line that applies has a number above b
applies_above : (b y : ℕ) (rs : List Refusal) → rising b rs ≡ true → Applies rs y → b < y
applies_above b y [] u h = absurd h
applies_above b y ((o when P) ∷ rs) u h =
    let (l, us) = rises b o _ u in ⊎_elim (λ (p, e). omega arith) (λ k. let g = applies_above o y rs us k in omega arith) h

lowest_of : (b : ℕ) (rs : List Refusal) (x : ℕ) → rising b rs ≡ true → First rs x → Lowest (Applies rs) x
lowest_of b [] x u r = record { applies = λ l. absurd (omega (arith, missed r)); lowest = λ y l h. h; none = λ z y h. h }
lowest_of b ((o when P) ∷ rs) x u r =
    let (l, us) = rises b o _ u in ⊎_elim (λ (p, e). this l us p e) (λ (n, f). later n (lowest_of o rs x us (record { found = f }))) r.found
  where
    this : b < o → rising o rs ≡ true → P → x ≡ o → Lowest (Applies ((o when P) ∷ rs)) x
    this l us p e = record {
      applies = λ _. inl (p, e);
      lowest = λ y k. ⊎_elim (λ (_, q). omega arith) (λ h. let g = applies_above o y rs us h in omega arith);
      none = λ z y h. omega arith;
    }

    later : (P → ⊥) → Lowest (Applies rs) x → Lowest (Applies ((o when P) ∷ rs)) x
    later n s = record { applies = λ k. inr (s.applies k); lowest = λ y k. ⊎_elim (λ (p, _). n p) (s.lowest y k); none = λ z y. ⊎_elim (λ (p, _). n p) (s.none z y) }

first_of : (b : ℕ) (rs : List Refusal) (x : ℕ) → rising b rs ≡ true → Lowest (Applies rs) x → First rs x
first_of b [] x u r = record { found = ⊎_elim (λ l. absurd (r.applies l)) (λ l. omega arith) (lt_or_le 0 x) }
first_of b ((o when P) ∷ rs) x u r = let (l, us) = rises b o _ u in go l us (first_of o rs x us) (ℕ_discrete x o)
  where
    go : b < o → rising o rs ≡ true → (Lowest (Applies rs) x → First rs x) → Dec (x ≡ o) → First ((o when P) ∷ rs) x
    go l us later (yes e) =
        record { found = inl (⊎_elim (λ (p, _). p) (λ h. let g = applies_above o x rs us h in absurd (omega arith)) (r.applies (omega arith)), e) }
    go l us later (no e) =
        let rest : 0 < x → Applies rs x = λ k. ⊎_elim (λ (_, q). absurd (e q)) (λ h. h) (r.applies k) in
        let n : P → ⊥ =
        λ p. ⊎_elim (λ k. r.lowest o (applies_above o x rs us (rest k)) (inl (p, refl))) (λ k. r.none (omega arith) o (inl (p, refl))) (lt_or_le 0 x) in
        record { found = inr (n, (later (record { applies = rest; lowest = λ y k h. r.lowest y k (inr h); none = λ z y h. r.none z y (inr h) })).found) }

pub rising_lowest : RisingLowest
rising_lowest rs x u = (lowest_of 0 rs x u, first_of 0 rs x u)
