-- The loop that plans: byte by byte, and from one unserved position to the next. Assumes nothing.
use mathlib.Core.Path.{◌≡◌, sym, ap, subst, ◌∙◌}
use mathlib.Core.Bool.{Bool, true, false, not, ◌&&◌, and-true, and-false}
use mathlib.Core.List.{List, [], ◌∷◌, ◌++◌, append-nil, append_assoc}
use mathlib.Core.Logic.{⊎_elim}
use Prim.Native.Nat.{ℕ, ◌+◌, ◌-◌, ◌*◌, ◌≤◌, ◌<◌}
use native.Mathlib.Omega.{arith}
use native.Mathlib.Numerals.{add-one}
use borrow.Author.Tests.{leb-true, le-leb, lt-leb, eq-eqb, ne_eqb}
use lib.Dec.{eqb, leb}
use lib.ListN.{length, get_or, set, length-append}
use Rattle.bits.specs.Bits.{has}
use Rattle.bits.proofs.TestLaws.{and_left, and_right, lt_or_le}
use Rattle.bits.proofs.BitLaws.{has_zero}
use Rattle.bits.proofs.ByteLaws.{at_byte}
use Rattle.words.specs.SetBits.{TakesLowest}
use Rattle.words.proofs.SetBitsLaws.{place_below}
use Rattle.pointer_promises.specs.Pointer.{positions, renewed}
use Rattle.pointer.specs.Steps.{unserved_at, unserved_in, Noted, TooMany}
use Rattle.pointer.proofs.EncodeLaws.{noted_more}
use Rattle.pointer_promises.proofs.PositionLaws.{positions_take, positions_none, positions_grow}

-- p is the first position from q on that passes f
record Next (f : ℕ → Bool) (q p : ℕ) : Type 0 where
  pub after : q ≤ p
  pub within : p < 512
  pub passes : f p ≡ true
  pub first : (r : ℕ) → q ≤ r → r < p → f r ≡ false

-- ---- the loop: ds notes the entries l and one for each position below q that passes f, a in all

pub record Planning (n : ℕ) (wanted : List ℕ) (f : ℕ → Bool) (l ds : List ℕ) (a q : ℕ) : Type 0 where
  pub few : a ≤ n
  pub reach : q ≤ 512
  pub count : a ≡ length (l ++ positions q f)
  pub noted : Noted wanted ds (l ++ positions q f)

module _ (n : ℕ) (wanted : List ℕ) (f : ℕ → Bool) (l : List ℕ) where
  pub plan_start : (ds : List ℕ) (held : ℕ) → held ≤ n → length l ≡ held → Noted wanted ds l → Planning n wanted f l ds held 0
  unfolding positions
  plan_start ds held h e k =
      record { few = omega arith; reach = omega arith; count = sym e ∙ ap length (sym (append-nil l)); noted = subst (Noted wanted ds) (sym (append-nil l)) k }

  module _ (ds : List ℕ) (a q : ℕ) (c : Planning n wanted f l ds a q) where
    -- nothing is found up to r
    moved : (r : ℕ) → r ≤ 512 → l ++ positions q f ≡ l ++ positions r f → Planning n wanted f l ds a r
    moved r h e = record { few = c.few; reach = h; count = c.count ∙ ap length e; noted = subst (Noted wanted ds) e c.noted }

    module _ (p : ℕ) (s : Next f q p) where
      -- the positions up to p are those below q, and p
      upto : l ++ positions q f ++ (p ∷ []) ≡ l ++ positions (p + 1) f
      upto =
          append_assoc l (positions q f) (p ∷ [])
          ∙ ap (λ ps. l ++ ps) (sym (ap (λ x. positions x f) (add-one p) ∙ positions_take f p s.passes ∙ ap (λ ps. ps ++ (p ∷ [])) (positions_none f q p s.after s.first)))

      length_upto : a + 1 ≡ length (l ++ positions (p + 1) f)
      length_upto = sym (ap length (sym upto) ∙ length-append (l ++ positions q f) (p ∷ []) ∙ ap (λ x. x + 1) (sym c.count))

      plan_more : (v : ℕ) → a + 1 ≤ n → n ≤ 10 → v ≡ renewed wanted p → Planning n wanted f l (set ds (a + 1) v) (a + 1) (p + 1)
      plan_more v k most e = record {
        few = k;
        reach = omega (arith, s.within);
        count = length_upto;
        noted = subst (Noted wanted (set ds (a + 1) v)) upto (noted_more wanted ds (l ++ positions q f) a p v (sym c.count) (omega arith) e c.noted);
      }

      plan_over : n < a + 1 → TooMany n f l
      plan_over k = record {
        over =
            omega (arith, length_upto, length-append l (positions (p + 1) f), length-append l (positions 512 f), positions_grow f (p + 1) 512 (omega (arith, s.within)));
      }

-- ---- the loop within byte i: rest has the positions from q on that pass f

pub record Sifting (n : ℕ) (wanted : List ℕ) (f : ℕ → Bool) (l ds : List ℕ) (a i rest : ℕ) : Type 0 where
  pub q : ℕ
  pub after : 8 * i ≤ q
  pub within : q ≤ 8 * i + 8
  pub small : rest < 256
  pub bits : (k : ℕ) → k < 8 → has rest k ≡ leb q (8 * i + k) && f (8 * i + k)
  pub upto : Planning n wanted f l ds a q

module _ (n : ℕ) (wanted mask values served l ds : List ℕ) (a i x : ℕ) where
  pub sift_start : Planning n wanted (unserved_at wanted mask values served) l ds a (8 * i) → x < 256
      → ((k : ℕ) → has x k ≡ unserved_in wanted mask values (get_or served i 0) i k) → Sifting n wanted (unserved_at wanted mask values served) l ds a i x
  sift_start c s h = record {
    q = 8 * i;
    after = omega arith;
    within = omega arith;
    small = s;
    bits = λ k b. h k ∙ sym (rw (le-leb (8 * i) (8 * i + k) (omega arith), at_byte mask i k b, at_byte wanted i k b, at_byte values i k b, at_byte served i k b));
    upto = c;
  }

module _ (n : ℕ) (wanted : List ℕ) (f : ℕ → Bool) (l ds : List ℕ) (a i rest : ℕ) (c : Sifting n wanted f l ds a i rest) (in_row : i < 64) where
  -- what is asked of the positions from q on
  from_q : (k : ℕ) → k < 8 → c.q ≤ 8 * i + k → has rest k ≡ f (8 * i + k)
  from_q k y h = c.bits k y ∙ ap (λ t. t && f (8 * i + k)) (le-leb c.q (8 * i + k) h)

  unset : (p : ℕ) → c.q ≤ p → p < 8 * i + 8 → has rest (p - 8 * i) ≡ false → f p ≡ false
  unset p h b z =
      let k : ℕ = p - 8 * i in
      let e : p ≡ 8 * i + k = omega (arith, c.after) in
      ap f e ∙ sym (from_q k (omega (arith, c.after)) (omega arith)) ∙ z

  pub sift_done : rest ≡ 0 → Planning n wanted f l ds a (8 * (i + 1))
  sift_done z =
      moved n wanted f l ds a c.q c.upto (8 * (i + 1)) (omega arith)
      (ap (λ ps. l ++ ps) (sym (positions_none f c.q (8 * (i + 1)) (omega (arith, c.within)) (λ p h b. unset p h (omega arith) (ap (λ x. has x (p - 8 * i)) z ∙ has_zero (p - 8 * i))))))

  -- the next place is t, after which y is left
  module _ (t y : ℕ) (take : TakesLowest rest t y) where
    low : t < 8
    low = place_below 8 rest t y c.small take

    next : Next f c.q (8 * i + t)
    next =
        let both : leb c.q (8 * i + t) && f (8 * i + t) ≡ true = sym (c.bits t low) ∙ take.set in
        record {
          after = leb-true c.q (8 * i + t) (and_left (leb c.q (8 * i + t)) (f (8 * i + t)) both);
          within = omega (arith, low);
          passes = and_right (leb c.q (8 * i + t)) (f (8 * i + t)) both;
          first = λ r h b. unset r h (omega (arith, low)) (take.lowest (r - 8 * i) (omega (arith, c.after)));
        }

    pub sift_over : n < a + 1 → TooMany n f l
    sift_over h = plan_over n wanted f l ds a c.q c.upto (8 * i + t) next h

    pub sift_more : (v : ℕ) → a + 1 ≤ n → n ≤ 10 → v ≡ renewed wanted (8 * i + t) → Sifting n wanted f l (set ds (a + 1) v) (a + 1) i y
    sift_more v k most e =
        record {
          q = 8 * i + t + 1;
          after = omega arith;
          within = omega (arith, low);
          small = omega (arith, take.fewer, c.small);
          bits = λ k b. take.others k ∙ ⊎_elim (up_to k) (past k b) (lt_or_le k (t + 1));
          upto = plan_more n wanted f l ds a c.q c.upto (8 * i + t) next v k most e;
        }
      where
        up_to : (k : ℕ) → k < t + 1 → has rest k && not (eqb k t) ≡ leb (8 * i + t + 1) (8 * i + k) && f (8 * i + k)
        up_to k h =
            ⊎_elim (λ d. ap (λ u. u && not (eqb k t)) (take.lowest k d))
            (λ d. let o : k ≡ t = omega arith in ap (λ u. has rest k && not u) (eq-eqb k t o) ∙ and-false (has rest k)) (lt_or_le k t)
            ∙ sym (ap (λ u. u && f (8 * i + k)) (lt-leb (8 * i + t + 1) (8 * i + k) (omega arith)))

        past : (k : ℕ) → k < 8 → t + 1 ≤ k → has rest k && not (eqb k t) ≡ leb (8 * i + t + 1) (8 * i + k) && f (8 * i + k)
        past k b h =
            ap (λ u. has rest k && not u) (ne_eqb k t (λ o. absurd (omega arith))) ∙ and-true (has rest k) ∙ from_q k b (omega (arith, next.after))
            ∙ sym (ap (λ u. u && f (8 * i + k)) (le-leb (8 * i + t + 1) (8 * i + k) (omega arith)))
