-- Laws of what is in the input: buffers, forms and places. Assumes nothing.
use mathlib.Core.Path.{◌≡◌, refl, sym, ap, ap₂, subst, ◌∙◌}
use mathlib.Core.Bool.{Bool, true, false, not, cond, ◌&&◌}
use mathlib.Core.List.{List, [], ◌∷◌}
use Prim.Native.Nat.{ℕ, zero, suc, ◌+◌, ◌-◌, ◌*◌, ◌≤◌, ◌<◌}
use native.Mathlib.Nat.{le_trans, mul-le-mul_left}
use native.Mathlib.Numerals.{add-one}
use native.Mathlib.Omega.{arith}
use native.Mathlib.Decide.{dec_lt, ℕ_discrete}
use lib.Dec.{eqb, leb, ltb}
use lib.ListN.{length, get_or, get_or-eq_default}
use borrow.Author.Tests.{eqb-true, eqb-false, not-true, leb-true, ltb-true, ne_eqb, le-leb, lt-leb, lt-ltb}
use Rattle.bits.specs.Bits.{some}
use Rattle.bits.proofs.TestLaws.{same_test, and_left, and_right, false_when}
use Rattle.bits.proofs.BoundLaws.{some_in, some_out}
use Rattle.calls.specs.Format.{many, is_buffer, is_over, after_numbers, after_buffer, table, form_of, width, place_of, place, form_end, has_none, no_form, Whole}
use Rattle.std.specs.Prelude.{Result, Ok, Err, IsOk}
use borrow.Author.Rules.{rules}
use Rattle.calls.specs.Kinds.{tag_of, why, Found}
use Rattle.calls.specs.declared.kind.Bad.{Bad}
use Rattle.calls.specs.declared.kind.Bad.TheVariants.{Length, CutShort}
use Rattle.calls.specs.declared.kind.Kind.{Kind}
use Rattle.calls.specs.declared.kind.Kind.TheVariants.{PointerWrite, PointerRead, GridPlan, GridRead, GridStore, GridConvert, Transfer}
use Rattle.calls.specs.declared.kind.Form.{Form}

-- ---- buffers

-- a buffer with elements of w bytes is there whole at place p
pub record Stands (bs : List ℕ) (p w : ℕ) : Type 0 where
  pub place : p ≡ 0 → ⊥
  pub few : many bs p ≤ 1024
  pub whole : p + 2 + w * many bs p ≤ length bs

all_three : (a b c : Bool) → a && b && c ≡ true → (a ≡ true) × (b ≡ true) × (c ≡ true)
all_three a b c h = let k : a && b ≡ true = and_left (a && b) c h in (and_left a b k, and_right a b k, and_right (a && b) c h)

pub is_buffer_lem : (bs : List ℕ) (p w : ℕ) → is_buffer bs p w ≡ true → Stands bs p w
unfolding is_buffer
is_buffer_lem bs p w h =
    let (a, b, c) = all_three (not (eqb p 0)) (leb (many bs p) 1024) (leb (p + 2 + w * many bs p) (length bs)) h in
    record { place = eqb-false p 0 (not-true (eqb p 0) a); few = leb-true _ _ b; whole = leb-true _ _ c }

pub no_buffer : (bs : List ℕ) (p w : ℕ) → (Stands bs p w → ⊥) → 0 ≡ after_buffer bs p w
unfolding after_buffer
no_buffer bs p w f = rw (false_when (is_buffer bs p w) (λ h. f (is_buffer_lem bs p w h)))

pub a_buffer : (bs : List ℕ) (p w : ℕ) → Stands bs p w → p + 2 + w * many bs p ≡ after_buffer bs p w
unfolding is_buffer after_buffer
a_buffer bs p w h = rw (ne_eqb p 0 h.place, le-leb _ _ h.few, le-leb _ _ h.whole)

-- a buffer with too many elements
pub record Over (bs : List ℕ) (p : ℕ) : Type 0 where
  pub place : p ≡ 0 → ⊥
  pub said : p + 2 ≤ length bs
  pub many : 1024 < many bs p

pub is_over_lem : (bs : List ℕ) (p : ℕ) → is_over bs p ≡ true → Over bs p
unfolding is_over
is_over_lem bs p h =
    let (a, b, c) = all_three (not (eqb p 0)) (leb (p + 2) (length bs)) (ltb 1024 (many bs p)) h in
    record { place = eqb-false p 0 (not-true (eqb p 0) a); said = leb-true _ _ b; many = ltb-true _ _ c }

pub over_is : (bs : List ℕ) (p : ℕ) → Over bs p → is_over bs p ≡ true
unfolding is_over
over_is bs p h = rw (ne_eqb p 0 h.place, le-leb _ _ h.said, lt-ltb _ _ h.many)

-- where the n bytes of a buffer's size, or those of its length, are there or not
module _ (bs : List ℕ) (p w : ℕ) (z : 0 < p) (l : p ≤ length bs) where
  pub cut_length : length bs - p < 2 → (after_buffer bs p w ≡ 0) × (CutShort ≡ why (is_over bs p))
  cut_length h = (
    sym (no_buffer bs p w (λ s. omega (arith, s.whole))),
    ap why (sym (false_when (is_over bs p) (λ e. let o = is_over_lem bs p e in absurd (omega (arith, o.said))))),
  )

  module _ {n : ℕ} (e : n ≡ many bs p) (k : 2 ≤ length bs - p) where
    pub too_many : 1024 < n → (after_buffer bs p w ≡ 0) × (Length ≡ why (is_over bs p))
    too_many h = (
      sym (no_buffer bs p w (λ s. omega (arith, s.few))),
      ap why (sym (over_is bs p (record { place = λ y. omega arith; said = omega arith; many = omega arith }))),
    )

    pub cut_elements : n ≤ 1024 → length bs - p < 2 + w * n → (after_buffer bs p w ≡ 0) × (CutShort ≡ why (is_over bs p))
    cut_elements m h = (
      sym (no_buffer bs p w (λ s. let x = ap (λ y. w * y) e in omega (arith, s.whole))),
      ap why (sym (false_when (is_over bs p) (λ y. let o = is_over_lem bs p y in absurd (omega (arith, o.many))))),
    )

    pub buffer_there : n ≤ 1024 → 2 + w * n ≤ length bs - p → (p + (2 + w * n) ≡ after_buffer bs p w) × (0 < p + (2 + w * n))
    buffer_there m h =
        let x = ap (λ y. w * y) e in
        let s : p + (2 + w * n) ≡ p + 2 + w * many bs p = omega arith in
        (s ∙ a_buffer bs p w (record { place = λ y. omega arith; few = omega arith; whole = omega arith }), omega arith)

pub small : (w n : ℕ) → w ≤ 8 → n ≤ 1024 → w * n ≤ 8192
small w n l k = le_trans (mul-le-mul_left w k) (omega arith)

-- the end of a buffer and that of the numbers, whichever way they are judged
pub after_cases : (bs : List ℕ) (p w : ℕ) (P : ℕ → Type 0) → (Stands bs p w → P (p + 2 + w * many bs p)) → P 0 → P (after_buffer bs p w)
unfolding after_buffer
after_cases bs p w P f z = go (is_buffer bs p w) refl
  where
    go : (t : Bool) → is_buffer bs p w ≡ t → P (cond t (p + 2 + w * many bs p) 0)
    go true e = f (is_buffer_lem bs p w e)
    go false e = z

pub numbers_cases : (bs : List ℕ) (n : ℕ) (P : ℕ → Type 0) → (1 + 8 * n ≤ length bs → P (1 + 8 * n)) → P 0 → P (after_numbers bs n)
unfolding after_numbers
numbers_cases bs n P f z = go (leb (1 + 8 * n) (length bs)) refl
  where
    go : (t : Bool) → leb (1 + 8 * n) (length bs) ≡ t → P (cond t (1 + 8 * n) 0)
    go true e = f (leb-true (1 + 8 * n) (length bs) e)
    go false e = z

-- what does not end at 0 is there
pub stands : (bs : List ℕ) (p w : ℕ) → (after_buffer bs p w ≡ 0 → ⊥) → Stands bs p w
stands bs p w = after_cases bs p w (λ x. (x ≡ 0 → ⊥) → Stands bs p w) (λ s _. s) (λ h. absurd (h refl))

pub numbers_stand : (bs : List ℕ) (n : ℕ) → (after_numbers bs n ≡ 0 → ⊥) → 1 + 8 * n ≤ length bs
numbers_stand bs n = numbers_cases bs n (λ x. (x ≡ 0 → ⊥) → 1 + 8 * n ≤ length bs) (λ s _. s) (λ h. absurd (h refl))

-- ---- forms

-- a form has at most four numbers and five buffers, with elements of at most eight bytes, and no width past them
pub record Small (f : Form) : Type 0 where
  pub numbers : f.numbers ≤ 4
  pub buffers : f.buffers ≤ 5
  pub widths : (i : ℕ) → get_or f.widths i 0 ≤ 8
  pub past : (i : ℕ) → f.buffers ≤ i → get_or f.widths i 0 ≡ 0

abbrev are_narrow : ℕ → List ℕ → Bool
are_narrow n [] = true
are_narrow zero (w ∷ ws) = eqb w 0 && are_narrow zero ws
are_narrow (suc n) (w ∷ ws) = leb w 8 && are_narrow n ws

abbrev are_small : List Form → Bool
are_small [] = true
are_small (f ∷ fs) = leb f.numbers 4 && leb f.buffers 5 && are_narrow f.buffers f.widths && are_small fs

narrow_at : (n : ℕ) (ws : List ℕ) → are_narrow n ws ≡ true → (i : ℕ) → (get_or ws i 0 ≤ 8) × (n ≤ i → get_or ws i 0 ≡ 0)
narrow_at n [] h i = (omega arith, λ _. refl)
narrow_at zero (w ∷ ws) h zero = let e = eqb-true w 0 (and_left (eqb w 0) (are_narrow zero ws) h) in (omega arith, λ _. e)
narrow_at zero (w ∷ ws) h (suc i) = let (a, b) = narrow_at zero ws (and_right (eqb w 0) (are_narrow zero ws) h) i in (a, λ _. b (omega arith))
narrow_at (suc n) (w ∷ ws) h zero = (leb-true w 8 (and_left (leb w 8) (are_narrow n ws) h), λ l. absurd (omega arith))
narrow_at (suc n) (w ∷ ws) h (suc i) = let (a, b) = narrow_at n ws (and_right (leb w 8) (are_narrow n ws) h) i in (a, λ l. b (omega arith))

small_at : (fs : List Form) → are_small fs ≡ true → (tag : ℕ) → Small (get_or fs tag no_form)
small_at [] h tag =
    let n = narrow_at 0 no_form.widths refl in
    record { numbers = omega arith; buffers = omega arith; widths = λ i. (n i).0; past = λ i. (n i).1 }
small_at (f ∷ fs) h zero =
    let s : Bool = leb f.numbers 4 && leb f.buffers 5 && are_narrow f.buffers f.widths in
    let (a, b, c) = all_three (leb f.numbers 4) (leb f.buffers 5) (are_narrow f.buffers f.widths) (and_left s (are_small fs) h) in
    let n = narrow_at f.buffers f.widths c in
    record { numbers = leb-true _ _ a; buffers = leb-true _ _ b; widths = λ i. (n i).0; past = λ i. (n i).1 }
small_at (f ∷ fs) h (suc tag) = small_at fs (and_right (leb f.numbers 4 && leb f.buffers 5 && are_narrow f.buffers f.widths) (are_small fs) h) tag

pub small_form : (tag : ℕ) → Small (form_of tag)
unfolding form_of table
small_form tag = small_at table refl tag

-- a tag that is none of 1 to 7
pub no_form_past : (tag : ℕ) → (0 < tag → 7 < tag) → no_form ≡ form_of tag
unfolding form_of table
no_form_past zero h = refl
no_form_past (suc tag) h = sym (get_or-eq_default table no_form {n = suc tag} (h (omega arith)))

-- the end of a call, whichever way it is judged
pub form_cases : (bs : List ℕ) (f : Form) (P : ℕ → Type 0) → P (place_of bs f f.buffers) → P 0 → P (form_end bs f)
unfolding form_end
form_cases bs f P x z = go (eqb f.buffers 0)
  where
    go : (t : Bool) → P (cond t 0 (place_of bs f f.buffers))
    go true = z
    go false = x

pub no_buffers : (bs : List ℕ) (f : Form) → f.buffers ≡ 0 → 0 ≡ form_end bs f
unfolding form_end
no_buffers bs f e = rw e

pub some_buffers : (bs : List ℕ) (f : Form) → (f.buffers ≡ 0 → ⊥) → place_of bs f f.buffers ≡ form_end bs f
unfolding form_end
some_buffers bs f h = rw (ne_eqb f.buffers 0 h)

-- where a call does not end at 0, all its numbers and buffers are there
module _ (bs : List ℕ) (f : Form) where
  pub buffer_stands : (n : ℕ) → (place_of bs f (suc n) ≡ 0 → ⊥) → Stands bs (place_of bs f n) (get_or f.widths n 0)
  unfolding place_of
  buffer_stands n h = stands bs (place_of bs f n) (get_or f.widths n 0) h

  pub buffers_stand : (n i : ℕ) → i < n → (place_of bs f n ≡ 0 → ⊥) → Stands bs (place_of bs f i) (get_or f.widths i 0)
  buffers_stand zero i l h = absurd (omega arith)
  buffers_stand (suc n) i l h =
      elim (dec_lt i n) [
        | yes k ↦ buffers_stand n i k (buffer_stands n h).place
        | no k ↦ let e : i ≡ n = omega arith in subst (λ j. Stands bs (place_of bs f j) (get_or f.widths j 0)) (sym e) (buffer_stands n h)
      ]

  pub first_numbers : (n : ℕ) → (place_of bs f n ≡ 0 → ⊥) → 1 + 8 * f.numbers ≤ length bs
  unfolding place_of
  first_numbers zero h = numbers_stand bs f.numbers h
  first_numbers (suc n) h = first_numbers n (buffer_stands n h).place

  pub whole_place : (form_end bs f ≡ 0 → ⊥) → place_of bs f f.buffers ≡ 0 → ⊥
  whole_place = form_cases bs f (λ x. (x ≡ 0 → ⊥) → place_of bs f f.buffers ≡ 0 → ⊥) (λ h. h) (λ h. absurd (h refl))

pub stands_at : (bs : List ℕ) (tag i : ℕ) → Whole bs tag → i < (form_of tag).buffers → Stands bs (place bs tag i) (width tag i)
stands_at bs tag i h l = buffers_stand bs (form_of tag) (form_of tag).buffers i l (whole_place bs (form_of tag) h)

pub number_stands : (bs : List ℕ) (tag i : ℕ) → Whole bs tag → i < (form_of tag).numbers → 1 + 8 * i + 8 ≤ length bs
number_stands bs tag i h l = omega (arith, first_numbers bs (form_of tag) (form_of tag).buffers (whole_place bs (form_of tag) h))

-- no place is past the end
after_within : (bs : List ℕ) (p w : ℕ) → after_buffer bs p w ≤ length bs
after_within bs p w = after_cases bs p w (λ x. x ≤ length bs) (λ h. h.whole) (omega arith)

pub place_within : (bs : List ℕ) (f : Form) (i : ℕ) → place_of bs f i ≤ length bs
unfolding place_of
place_within bs f zero = numbers_cases bs f.numbers (λ x. x ≤ length bs) (λ h. h) (omega arith)
place_within bs f (suc i) = after_within bs (place_of bs f i) (get_or f.widths i 0)

-- ---- from place to place

module _ (bs : List ℕ) (f : Form) where
  -- behind a place that is not there none is
  none_after : (j i : ℕ) → j ≤ i → place_of bs f j ≡ 0 → place_of bs f i ≡ 0
  none_after j i l z =
      elim (ℕ_discrete (place_of bs f i) 0) [
        | yes e ↦ e
        | no n ↦ elim (ℕ_discrete i j) [ yes e ↦ absurd (n (ap (place_of bs f) e ∙ z)) | no m ↦ absurd ((buffers_stand bs f i j (omega arith) n).place z) ]
      ]

  -- so a buffer has too many elements where the first that is not there has
  over_at : (j i : ℕ) → j < i → (place_of bs f j ≡ 0 → ⊥) → place_of bs f (suc j) ≡ 0
      → is_over bs (place_of bs f j) ≡ some i (λ k. is_over bs (place_of bs f k))
  over_at j i l n z =
      same_test (is_over bs (place_of bs f j)) (some i (λ k. is_over bs (place_of bs f k))) (some_in i (λ k. is_over bs (place_of bs f k)) j l)
      (λ e.
      let (k, m, o) = some_out i (λ k. is_over bs (place_of bs f k)) e in
      let over = is_over_lem bs (place_of bs f k) o in
      elim (dec_lt k j) [
        | yes y ↦ let s = buffers_stand bs f j k y n in absurd (omega (arith, s.few, over.many))
        | no x ↦ elim (dec_lt j k) [
          | yes y ↦ absurd (over.place (none_after (suc j) k (omega arith) z))
          | no y ↦ let same : k ≡ j = omega arith in subst (λ q. is_over bs (place_of bs f q) ≡ true) same o
        ]
      ])

  -- the numbers are not there, or they are
  pub no_numbers : (i : ℕ) → length bs < 1 + 8 * f.numbers → (place_of bs f i ≡ 0) × (CutShort ≡ why (some i (λ k. is_over bs (place_of bs f k))))
  unfolding place_of after_numbers
  no_numbers i h =
      let z : place_of bs f 0 ≡ 0 = rw (lt-leb (1 + 8 * f.numbers) (length bs) h) in (
        none_after 0 i (omega arith) z,
        ap why
            (sym (false_when (some i (λ k. is_over bs (place_of bs f k)))
            (λ e. let (k, m, o) = some_out i (λ k. is_over bs (place_of bs f k)) e in (is_over_lem bs (place_of bs f k) o).place (none_after 0 k (omega arith) z)))),
      )

  pub place_first : 1 + 8 * f.numbers ≤ length bs → 1 + 8 * f.numbers ≡ place_of bs f 0
  unfolding place_of after_numbers
  place_first h = rw (le-leb (1 + 8 * f.numbers) (length bs) h)

  -- a buffer is there, or it is not
  pub place_next : (j : ℕ) {p q w : ℕ} → p ≡ place_of bs f j → w ≡ get_or f.widths j 0 → q ≡ after_buffer bs p w → q ≡ place_of bs f (j + 1)
  unfolding place_of
  place_next j e g h = h ∙ ap₂ (after_buffer bs) e g ∙ ap (place_of bs f) (sym (add-one j))

  pub no_place : (j i : ℕ) {p w : ℕ} {e : Bad} → j < i → 0 < p → p ≡ place_of bs f j → w ≡ get_or f.widths j 0 → (after_buffer bs p w ≡ 0) × (e ≡ why (is_over bs p))
      → (place_of bs f i ≡ 0) × (e ≡ why (some i (λ k. is_over bs (place_of bs f k))))
  unfolding place_of
  no_place j i l z s g (h, y) =
      let none : place_of bs f (suc j) ≡ 0 = ap₂ (after_buffer bs) (sym s) (sym g) ∙ h in
      (none_after (suc j) i l none, y ∙ ap (λ x. why (is_over bs x)) s ∙ ap why (over_at j i l (λ x. omega arith) none))

-- ---- kinds

-- every kind has a form
pub kind_form : (k : Kind) → has_none (form_of (tag_of k)) ≡ false
unfolding form_of table
kind_form = elim [ PointerWrite ↦ refl | PointerRead ↦ refl | GridPlan ↦ refl | GridRead ↦ refl | GridStore ↦ refl | GridConvert ↦ refl | Transfer ↦ refl ]

pub kind_end : (bs : List ℕ) (k : Kind) → place_of bs (form_of (tag_of k)) (form_of (tag_of k)).buffers ≡ form_end bs (form_of (tag_of k))
kind_end bs k = some_buffers bs (form_of (tag_of k)) (eqb-false (form_of (tag_of k)).buffers 0 (kind_form k))

-- a call with this tag is there whole, and its buffer i has elements of w bytes
pub record Held (bs : List ℕ) (tag i w : ℕ) : Type 0 where
  pub wide : width tag i ≡ w
  pub some : 0 < w
  pub whole : Whole bs tag

-- so it is one of the call's buffers, and is there whole
pub held_index : {bs : List ℕ} {tag i w : ℕ} → Held bs tag i w → i < (form_of tag).buffers
held_index {bs} {tag} {i} h = elim (dec_lt i (form_of tag).buffers) [ yes l ↦ l | no l ↦ absurd (omega (arith, h.wide, h.some, (small_form tag).past i (omega arith))) ]

pub held_small : {bs : List ℕ} {tag i w : ℕ} → Held bs tag i w → i ≤ 5
held_small {bs} {tag} h = omega (arith, held_index h, (small_form tag).buffers)

pub held_stands : {bs : List ℕ} {tag i w p : ℕ} → Held bs tag i w → p ≡ place bs tag i → Stands bs p w
held_stands {bs} {tag} {i} {w} h e =
    subst (λ x. Stands bs x w) (sym e) (subst (Stands bs (place bs tag i)) h.wide (stands_at bs tag i h.whole (held_index h)))

-- a buffer that has elements, of a call that is there whole
pub held : {bs : List ℕ} (kind : Kind) {i w n : ℕ} → n ≡ form_end bs (form_of (tag_of kind)) → 0 < n → width (tag_of kind) i ≡ w → 0 < w → Held bs (tag_of kind) i w
held kind e l h p = record { wide = h; some = p; whole = λ z. omega arith }

pub found_ok : {bs : List ℕ} {tag i w : ℕ} (r : Result ℕ Bad) → Held bs tag i w → Found bs (form_of tag) i r → IsOk r
found_ok (Ok p) h f = search rules
found_ok (Err e) h f = absurd ((held_stands h refl).place f.0)
