-- Laws of the positions that pass a test, in rising order. Assumes nothing.
use mathlib.Core.Path.{◌≡◌, refl, sym, ap, ap₂, ◌∙◌}
use mathlib.Core.Bool.{Bool, true, false, cond, ◌&&◌, ◌||◌}
use mathlib.Core.List.{List, [], ◌∷◌, ◌++◌, append-nil, append_assoc}
use mathlib.Core.Logic.{◌⊎◌, inl, inr, ⊎_elim}
use Prim.Native.Nat.{ℕ, zero, suc, ◌%◌, ◌≤◌, ◌<◌}
use native.Mathlib.Nat.{eq-or-lt_of_le}
use native.Mathlib.Omega.{arith}
use borrow.Author.Tests.{eq-eqb, ne_eqb, lt-ltb, le-ltb}
use lib.Dec.{eqb, ltb}
use lib.ListN.{length, get_or, length-append, get_or-append}
use lib.Seq.{get_or_at}
use Rattle.bits.specs.Bits.{num, sum}
use Rattle.bits.proofs.TestLaws.{lt_or_le}
use Rattle.pointer_promises.specs.Pointer.{pointer, names, repeats, positions}
use Rattle.pointer_promises.proofs.EntryLaws.{names_append, names_snoc, repeats_snoc}

-- the elements of ps are below n and pass f, and each is below the next
pub record Rising (f : ℕ → Bool) (n : ℕ) (ps : List ℕ) : Type 0 where
  pub bound : (i : ℕ) → i < length ps → get_or ps i 0 < n
  pub passes : (i : ℕ) → i < length ps → f (get_or ps i 0) ≡ true
  pub rise : (i j : ℕ) → i < j → j < length ps → get_or ps i 0 < get_or ps j 0

module _ (f : ℕ → Bool) where
  pub positions_take : (p : ℕ) → f p ≡ true → positions (suc p) f ≡ positions p f ++ (p ∷ [])
  unfolding positions
  positions_take p h = rw h

  pub positions_skip : (p : ℕ) → f p ≡ false → positions (suc p) f ≡ positions p f
  unfolding positions
  positions_skip p h = rw h (append-nil (positions p f))

  -- between q and r none passes
  pub positions_none : (q r : ℕ) → q ≤ r → ((p : ℕ) → q ≤ p → p < r → f p ≡ false) → positions r f ≡ positions q f
  positions_none q zero l h = let e : q ≡ 0 = omega arith in rw e
  positions_none q (suc r) l h =
      ⊎_elim
      (λ e. rw e)
      (λ k. positions_skip r (h r (omega arith) (omega arith)) ∙ positions_none q r (omega arith) (λ p a b. h p a (omega arith)))
      (eq-or-lt_of_le l)

  length_cond : (t : Bool) (p : ℕ) → length (cond t (p ∷ []) []) ≡ num t
  length_cond true p = refl
  length_cond false p = refl

  pub length_positions : (n : ℕ) → length (positions n f) ≡ sum n (λ p. num (f p))
  unfolding positions sum
  length_positions zero = refl
  length_positions (suc n) = omega (arith, length-append (positions n f) (cond (f n) (n ∷ []) []), length_cond (f n) n, length_positions n)

  pub positions_grow : (q r : ℕ) → q ≤ r → length (positions q f) ≤ length (positions r f)
  unfolding positions
  positions_grow q zero l = let e : q ≡ 0 = omega arith in rw e (omega arith)
  positions_grow q (suc r) l =
      ⊎_elim (λ e. rw e (omega arith)) (λ k. omega (arith, length-append (positions r f) (cond (f r) (r ∷ []) []), positions_grow q r (omega arith))) (eq-or-lt_of_le l)

  -- by cases on whether the last passes
  module _ (P : List ℕ → Type 0) where
    by_last : (n : ℕ) → (f n ≡ true → P (positions n f ++ (n ∷ []))) → (f n ≡ false → P (positions n f)) → P (positions (suc n) f)
    by_last n a b = go (f n) refl
      where
        go : (t : Bool) → f n ≡ t → P (positions (suc n) f)
        go true h = rw (positions_take n h) (a h)
        go false h = rw (positions_skip n h) (b h)

  -- below, at and above n
  thirds : (n p : ℕ) → (p < n) ⊎ ((p ≡ n) ⊎ (n < p))
  thirds n p = ⊎_elim inl (λ h. ⊎_elim (λ e. inr (inl (sym e))) (λ l. inr (inr l)) (eq-or-lt_of_le h)) (lt_or_le p n)

  more : (n p : ℕ) → n < 512 → f n ≡ true → cond (eqb (pointer n) p) true (ltb p n && f p) ≡ ltb p (suc n) && f p
  more n p l h =
      ⊎_elim
      (λ k. rw (ne_eqb (n % 512) p (omega arith), lt-ltb p n k, lt-ltb p (suc n) (omega arith)))
      (⊎_elim
      (λ e. rw (e, eq-eqb (n % 512) n (omega arith), lt-ltb n (suc n) (omega arith)) (sym h))
      (λ k. rw (ne_eqb (n % 512) p (omega arith), le-ltb p n (omega arith), le-ltb p (suc n) k)))
      (thirds n p)

  same : (n p : ℕ) → f n ≡ false → ltb p n && f p ≡ ltb p (suc n) && f p
  same n p h =
      ⊎_elim
      (λ k. rw (lt-ltb p n k, lt-ltb p (suc n) (omega arith)))
      (⊎_elim
      (λ e. rw (e, h, le-ltb n n (omega arith), lt-ltb n (suc n) (omega arith)))
      (λ k. rw (le-ltb p n (omega arith), le-ltb p (suc n) k)))
      (thirds n p)

  pub names_positions : (n p : ℕ) → n ≤ 512 → names (positions n f) p ≡ ltb p n && f p
  unfolding names positions
  names_positions zero p l = ap (λ t. t && f p) (sym (le-ltb p 0 (omega arith)))
  names_positions (suc n) p l =
      by_last (λ ps. names ps p ≡ ltb p (suc n) && f p) n
      (λ h. names_snoc (positions n f) n p ∙ ap (cond (eqb (pointer n) p) true) (names_positions n p (omega arith)) ∙ more n p l h)
      (λ h. names_positions n p (omega arith) ∙ same n p h)

  old : (n : ℕ) (ps : List ℕ) (i : ℕ) → i < length ps → get_or (ps ++ (n ∷ [])) i 0 ≡ get_or ps i 0
  old n ps i l = get_or-append ps (n ∷ []) 0 i l

  last : (n : ℕ) (ps : List ℕ) (i : ℕ) → length ps ≤ i → i < length (ps ++ (n ∷ [])) → get_or (ps ++ (n ∷ [])) i 0 ≡ n
  last n ps i k l = get_or_at ps n [] 0 i (omega (arith, length-append ps (n ∷ [])))

  rising_more : (n : ℕ) (ps : List ℕ) → f n ≡ true → Rising f n ps → Rising f (suc n) (ps ++ (n ∷ []))
  rising_more n ps h r = record {
    bound = λ i l. ⊎_elim (λ k. rw (old n ps i k) (omega (arith, r.bound i k))) (λ k. rw (last n ps i k l) (omega arith)) (lt_or_le i (length ps));
    passes = λ i l. ⊎_elim (λ k. rw (old n ps i k) (r.passes i k)) (λ k. rw (last n ps i k l) h) (lt_or_le i (length ps));
    rise = λ i j d l.
        ⊎_elim
        (λ k. rw (old n ps i (omega arith), old n ps j k) (r.rise i j d k))
        (λ k. let m : i < length ps = omega (arith, length-append ps (n ∷ [])) in rw (old n ps i m, last n ps j k l) (r.bound i m))
        (lt_or_le j (length ps));
  }

  pub rising : (n : ℕ) → Rising f n (positions n f)
  unfolding positions
  rising zero = record { bound = λ i l. absurd (omega arith); passes = λ i l. absurd (omega arith); rise = λ i j d l. absurd (omega arith) }
  rising (suc n) =
      let r = rising n in
      by_last (Rising f (suc n)) n
      (λ h. rising_more n (positions n f) h r)
      (λ h. record { bound = λ i l. omega (arith, r.bound i l); passes = r.passes; rise = r.rise })

-- positions that no entry of es names are named once
pub repeats_positions : (es : List ℕ) (f : ℕ → Bool) (n : ℕ) → n ≤ 512 → repeats es ≡ false → ((p : ℕ) → f p ≡ true → names es p ≡ false) → repeats (es ++ positions n f) ≡ false
unfolding positions
repeats_positions es f zero l d h = rw append-nil d
repeats_positions es f (suc n) l d h =
    by_last f (λ ps. repeats (es ++ ps) ≡ false) n
    (λ t.
    let e : pointer n ≡ n = omega arith in
    ap repeats (sym (append_assoc es (positions n f) (n ∷ []))) ∙ repeats_snoc (es ++ positions n f) n
    ∙ ap₂ ◌||◌ (repeats_positions es f n (omega arith) d h)
    (ap (names (es ++ positions n f)) e ∙ names_append es (positions n f) n
    ∙ ap₂ ◌||◌ (h n t) (names_positions f n n (omega arith) ∙ ap (λ b. b && f n) (le-ltb n n (omega arith)))))
    (λ t. repeats_positions es f n (omega arith) d h)

pub positions_ext : (n : ℕ) (f g : ℕ → Bool) → ((p : ℕ) → p < n → f p ≡ g p) → positions n f ≡ positions n g
unfolding positions
positions_ext zero f g h = refl
positions_ext (suc n) f g h = ap₂ (λ ps t. ps ++ cond t (n ∷ []) []) (positions_ext n f g (λ p l. h p (omega arith))) (h n (omega arith))
