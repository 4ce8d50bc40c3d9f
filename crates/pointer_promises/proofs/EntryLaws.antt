-- Laws of lists of entries: which positions they name, whether two name the same, and what a position shows. Assumes nothing.
use mathlib.Core.Path.{◌≡◌, refl, sym, ap, ap₂, ◌∙◌}
use mathlib.Core.Bool.{Bool, true, false, cond, ◌||◌}
use mathlib.Core.List.{List, [], ◌∷◌, ◌++◌, map}
use mathlib.Core.Logic.Iff
use mathlib.Core.Logic.{◌↔◌, ◌⊎◌, inl, inr, ⊎_elim}
use Prim.Native.Nat.{ℕ, zero, suc, ◌+◌, ◌*◌, ◌/◌, ◌%◌, ◌<◌}
use native.Mathlib.Omega.{arith}
use borrow.Author.Tests.{eqb-true, eq-eqb}
use lib.Dec.{eqb}
use lib.ListN.{length, get_or}
use Rattle.bits.specs.Bits.{num, has, at}
use Rattle.bits.proofs.TestLaws.{clash, eqb_iff, or_iff, same_test, num_lt, eqb_num, or_neither}
use Rattle.pointer_promises.specs.Pointer.{pointer, replacement, names, repeats, shown, renewed}

-- ---- what the tests test

pub names_iff : (es : List ℕ) (p : ℕ) → (names es p ≡ true) ↔ ((i : ℕ) × (i < length es) × (pointer (get_or es i 0) ≡ p))
unfolding names
names_iff [] p = (λ h. clash h refl, λ (i, l, h). absurd (omega arith))
names_iff (e ∷ es) p = Iff.trans (or_iff _ (eqb_iff (pointer e) p) _ (names_iff es p)) (⊎_elim (λ h. (0, omega arith, h)) (λ (i, l, h). (suc i, omega arith, h)), back)
  where
    back : (i : ℕ) × (i < length (e ∷ es)) × (pointer (get_or (e ∷ es) i 0) ≡ p) → (pointer e ≡ p) ⊎ ((i : ℕ) × (i < length es) × (pointer (get_or es i 0) ≡ p))
    back (zero, l, h) = inl h
    back (suc i, l, h) = inr (i, omega arith, h)

-- two different places of the list hold one pointer
abbrev pub Twice : List ℕ → Type 0
Twice es = (i : ℕ) × (j : ℕ) × (i < j) × (j < length es) × (pointer (get_or es j 0) ≡ pointer (get_or es i 0))

pub repeats_iff : (es : List ℕ) → (repeats es ≡ true) ↔ Twice es
unfolding repeats
repeats_iff [] = (λ h. clash h refl, λ (i, j, d, l, h). absurd (omega arith))
repeats_iff (e ∷ es) =
    Iff.trans (or_iff _ (names_iff es (pointer e)) _ (repeats_iff es))
    (⊎_elim (λ (j, l, h). (0, suc j, omega arith, omega arith, h)) (λ (i, j, d, l, h). (suc i, suc j, omega arith, omega arith, h)), back)
  where
    back : Twice (e ∷ es) → ((j : ℕ) × (j < length es) × (pointer (get_or es j 0) ≡ pointer e)) ⊎ Twice es
    back (i, zero, d, l, h) = absurd (omega arith)
    back (zero, suc j, d, l, h) = inl (j, omega arith, h)
    back (suc i, suc j, d, l, h) = inr (i, j, omega arith, omega arith, h)

-- ---- what a position shows

-- a position that none names shows its cell
pub shown_unnamed : (es : List ℕ) (p : ℕ) (v : Bool) → names es p ≡ false → shown es p v ≡ v
unfolding shown names
shown_unnamed [] p v h = refl
shown_unnamed (e ∷ es) p v h =
    let (a, b) = or_neither (eqb (pointer e) p) (names es p) h in shown_unnamed es p (cond (eqb (pointer e) p) (replacement e) v) b ∙ ap (λ t. cond t (replacement e) v) a

-- where no two name the same, a position that entry i names shows that entry's replacement bit
pub shown_named : (es : List ℕ) (i p : ℕ) (v : Bool) → repeats es ≡ false → i < length es → pointer (get_or es i 0) ≡ p → shown es p v ≡ replacement (get_or es i 0)
unfolding shown repeats
shown_named [] i p v d l h = absurd (omega arith)
shown_named (e ∷ es) zero p v d l h =
    let (a, b) = or_neither (names es (pointer e)) (repeats es) d in
    shown_unnamed es p (cond (eqb (pointer e) p) (replacement e) v) (ap (names es) (sym h) ∙ a) ∙ ap (λ t. cond t (replacement e) v) (eq-eqb (pointer e) p h)
shown_named (e ∷ es) (suc i) p v d l h =
    let (a, b) = or_neither (names es (pointer e)) (repeats es) d in shown_named es i p (cond (eqb (pointer e) p) (replacement e) v) b (omega arith) h

-- ---- one entry more, at the end

or_assoc : (a b c : Bool) → a || (b || c) ≡ a || b || c
or_assoc true b c = refl
or_assoc false b c = refl

eqb_sym : (a b : ℕ) → eqb a b ≡ eqb b a
eqb_sym a b = same_test (eqb a b) (eqb b a) (λ h. eq-eqb b a (sym (eqb-true a b h))) (λ h. eq-eqb a b (sym (eqb-true b a h)))

pub names_append : (xs ys : List ℕ) (p : ℕ) → names (xs ++ ys) p ≡ names xs p || names ys p
unfolding names
names_append [] ys p = refl
names_append (x ∷ xs) ys p = ap (λ t. eqb (pointer x) p || t) (names_append xs ys p) ∙ or_assoc (eqb (pointer x) p) (names xs p) (names ys p)

pub names_snoc : (es : List ℕ) (e p : ℕ) → names (es ++ (e ∷ [])) p ≡ cond (eqb (pointer e) p) true (names es p)
unfolding names
names_snoc es e p = names_append es (e ∷ []) p ∙ swap (names es p) (eqb (pointer e) p)
  where
    swap : (a b : Bool) → a || (b || false) ≡ cond b true a
    swap true true = refl
    swap true false = refl
    swap false true = refl
    swap false false = refl

pub repeats_snoc : (es : List ℕ) (e : ℕ) → repeats (es ++ (e ∷ [])) ≡ repeats es || names es (pointer e)
unfolding repeats names
repeats_snoc [] e = refl
repeats_snoc (x ∷ xs) e =
    ap₂ ◌||◌ (names_snoc xs e (pointer x) ∙ ap (λ t. cond t true (names xs (pointer x))) (eqb_sym (pointer e) (pointer x))) (repeats_snoc xs e)
    ∙ turn (eqb (pointer x) (pointer e)) (names xs (pointer x)) (repeats xs) (names xs (pointer e))
  where
    turn : (a b c d : Bool) → cond a true b || (c || d) ≡ b || c || (a || d)
    turn true true c d = refl
    turn true false true d = refl
    turn true false false d = refl
    turn false true c d = refl
    turn false false c d = refl

pub shown_snoc : (es : List ℕ) (e p : ℕ) (v : Bool) → shown (es ++ (e ∷ [])) p v ≡ cond (eqb (pointer e) p) (replacement e) (shown es p v)
unfolding shown
shown_snoc [] e p v = refl
shown_snoc (x ∷ xs) e p v = shown_snoc xs e p (cond (eqb (pointer x) p) (replacement x) v)

-- ---- entries with the wanted bits of their positions

module _ (wanted : List ℕ) where
  pub renewed_lt : (e : ℕ) → renewed wanted e < 1024
  unfolding renewed
  renewed_lt e = omega (arith, num_lt (at wanted (pointer e)))

  pub renewed_pointer : (e : ℕ) → pointer (renewed wanted e) ≡ pointer e
  unfolding renewed
  renewed_pointer e = omega arith

  pub renewed_replacement : (e : ℕ) → replacement (renewed wanted e) ≡ at wanted (pointer e)
  unfolding renewed has
  renewed_replacement e =
      let l : num (at wanted (pointer e)) < 2 = num_lt (at wanted (pointer e)) in
      let h : (e % 512 + 512 * num (at wanted (pointer e))) / 512 % 2 ≡ num (at wanted (pointer e)) = omega arith in
      ap (λ x. eqb x 1) h ∙ eqb_num (at wanted (pointer e))

  pub get_or_renewed : (es : List ℕ) (i : ℕ) → i < length es → get_or (map (renewed wanted) es) i 0 ≡ renewed wanted (get_or es i 0)
  get_or_renewed [] i h = absurd (omega arith)
  get_or_renewed (e ∷ es) zero h = refl
  get_or_renewed (e ∷ es) (suc i) h = get_or_renewed es i (omega arith)

  pub names_renewed : (es : List ℕ) (p : ℕ) → names (map (renewed wanted) es) p ≡ names es p
  unfolding names
  names_renewed [] p = refl
  names_renewed (e ∷ es) p = ap₂ (λ x t. eqb x p || t) (renewed_pointer e) (names_renewed es p)

  pub repeats_renewed : (es : List ℕ) → repeats (map (renewed wanted) es) ≡ repeats es
  unfolding repeats
  repeats_renewed [] = refl
  repeats_renewed (e ∷ es) = ap₂ ◌||◌ (ap (names (map (renewed wanted) es)) (renewed_pointer e) ∙ names_renewed es (pointer e)) (repeats_renewed es)

  -- a position that one of them names shows its wanted bit
  pub shown_renewed : (es : List ℕ) (p : ℕ) (v : Bool) → shown (map (renewed wanted) es) p v ≡ cond (names es p) (at wanted p) v
  unfolding shown names
  shown_renewed [] p v = refl
  shown_renewed (e ∷ es) p v =
      ap (shown (map (renewed wanted) es) p) (ap₂ (λ x t. cond (eqb x p) t v) (renewed_pointer e) (renewed_replacement e))
      ∙ shown_renewed es p (cond (eqb (pointer e) p) (at wanted (pointer e)) v)
      ∙ go (eqb (pointer e) p) refl (names es p)
    where
      go : (t : Bool) → eqb (pointer e) p ≡ t → (s : Bool) → cond s (at wanted p) (cond t (at wanted (pointer e)) v) ≡ cond (t || s) (at wanted p) v
      go true h true = refl
      go true h false = ap (at wanted) (eqb-true (pointer e) p h)
      go false h true = refl
      go false h false = refl
