-- Laws of bad calls: their line, and why they are none. Assumes nothing.
use mathlib.Core.Path.{◌≡◌, refl, sym, ap, ap₂, ◌∙◌}
use mathlib.Core.Bool.{Bool, true, false, not, ◌&&◌, ◌||◌}
use mathlib.Core.List.{List, [], ◌∷◌, ◌++◌}
use mathlib.Core.Logic.{◌↔◌, ◌⊎◌, inl, inr, ⊎_elim}
use Prim.Native.Nat.{ℕ, zero, suc, ◌≤◌, ◌<◌}
use native.Mathlib.Omega.{arith}
use Rattle.std.specs.Prelude.{None, Some, slice_get}
use Rattle.std.proofs.lemmas.Option.{none-some, slice_get_within, get_or_from_slice_get}
use native.Mathlib.Decide.{dec_lt}
use lib.Dec.{eqb}
use lib.ListN.{length, get_or, drop, length-append, get_or-eq_default}
use borrow.Author.Tests.{eq-eqb, eqb-true, not-true}
use Rattle.bits.proofs.TestLaws.{clash, and_left, and_right, or_out}
use Rattle.wire.specs.Text.{Put}
use Rattle.wire.proofs.TextLaws.{put_both, length_decimals}
use Rattle.calls.specs.Format.{table, form_of, no_form, has_none, has_over, is_bad, call_end, is_cut_short}
use Rattle.calls.specs.Bad.{Reason, its_tag, a_length, cut_short, first_of, reason, reason_text, bad_call}
use Rattle.calls.specs.Claims.{ReasonStays, ReasonIsTag, ReasonIsCut}
use Rattle.calls.specs.declared.kind.Form.{Form}
use Rattle.bits.specs.Bits.{some}
use Rattle.calls.specs.Format.{is_over, place_of, form_end}
use Rattle.calls.specs.Kinds.{tag_of, why, NoCall}
use Rattle.calls.specs.declared.kind.Bad.{Bad}
use Rattle.calls.specs.declared.kind.Bad.TheVariants.{Tag, CutShort}
use Rattle.calls.specs.declared.kind.Kind.{Kind}
use Rattle.calls.proofs.FormatLaws.{no_buffers, kind_form, kind_end}
use Rattle.calls.proofs.StreamLaws.{has_over_more, never}

-- ---- the line

-- how long it is
length_reason : (w : Reason) → length (reason_text w) ≤ 9
unfolding reason_text
length_reason its_tag = omega arith
length_reason a_length = omega arith
length_reason cut_short = omega arith

pub length_bad : (number offset : ℕ) (w : Reason) → length (bad_call number offset w) ≤ 70
unfolding bad_call
length_bad number offset w =
    rw (length-append, length-append, length-append, length-append, length-append, length-append)
    (omega (arith, length_decimals 20 number, length_decimals 20 offset, length_reason w))

-- the number, the offset, the reason and the end of the line, one after the other
pub put_line : {a b c d e f : List ℕ} {p q r s t u : ℕ} {front middle colon why : List ℕ} → Put front a p b q → Put middle b q c r → Put colon c r d s → Put why d s e t
    → Put (10 ∷ []) e t f u → Put (front ++ (middle ++ (colon ++ (why ++ (10 ∷ []))))) a p f u
put_line v w x y z = put_both v (put_both w (put_both x (put_both y z)))

-- ---- why

-- where the tag is none, the buffers are not looked at
first_tag : (none a b : Bool) → none ≡ true → first_of none a ≡ first_of none b
unfolding first_of
first_tag true a b e = refl
first_tag false a b e = clash e refl

-- whatever follows, what is no call and not cut short is none for the same reason
pub reason_more : ReasonStays
unfolding reason is_cut_short is_bad
reason_more [] rest z h = clash refl h
reason_more (t ∷ bs) rest z h =
    let f : Form = form_of t in
    ⊎_elim (first_tag (has_none f) (has_over (t ∷ bs ++ rest) f) (has_over (t ∷ bs) f)) (λ e. ap (first_of (has_none f)) (has_over_more (t ∷ bs) rest f e ∙ sym e))
    (or_out (has_none f) (has_over (t ∷ bs) f) (never t bs z h))

-- the reasons are three
abbrev code : Reason → ℕ
code its_tag = 0
code a_length = 1
code cut_short = 2

tag_iff : (none over : Bool) → (first_of none over ≡ its_tag) ↔ (none ≡ true)
unfolding first_of
tag_iff true over = (λ _. refl, λ _. refl)
tag_iff false true = (λ e. absurd (omega (arith, ap code e)), λ e. clash e refl)
tag_iff false false = (λ e. absurd (omega (arith, ap code e)), λ e. clash e refl)

-- the tags from 1 to 7 have a form
abbrev have_buffers : List Form → Bool
have_buffers [] = true
have_buffers (f ∷ fs) = not (has_none f) && have_buffers fs

buffers_at : (fs : List Form) → have_buffers fs ≡ true → (i : ℕ) → i < length fs → has_none (get_or fs i no_form) ≡ false
buffers_at [] h i l = absurd (omega arith)
buffers_at (f ∷ fs) h zero l = not-true (has_none f) (and_left (not (has_none f)) (have_buffers fs) h)
buffers_at (f ∷ fs) h (suc i) l = buffers_at fs (and_right (not (has_none f)) (have_buffers fs) h) i (omega arith)

has_form : (tag : ℕ) → 0 < tag → tag ≤ 7 → has_none (form_of tag) ≡ false
unfolding form_of table
has_form zero l h = absurd (omega arith)
has_form (suc i) l h = buffers_at (drop 1 table) refl i h

-- and no others have
none_iff : (tag : ℕ) → (has_none (form_of tag) ≡ true) ↔ ((tag ≡ 0) ⊎ (7 < tag))
unfolding form_of table
none_iff tag = (
  λ e. elim (dec_lt 7 tag) [ yes l ↦ inr l | no l ↦ elim (dec_lt 0 tag) [ yes k ↦ clash e (has_form tag k (omega arith)) | no k ↦ inl (omega arith) ] ],
  ⊎_elim (λ e. rw e) (λ l. ap has_none (get_or-eq_default table no_form {n = tag} l)),
)

pub reason_tag : ReasonIsTag
unfolding reason
reason_tag bs =
    let f : Form = form_of (get_or bs 0 0) in
    let (a, b) = tag_iff (has_none f) (has_over bs f) in
    let (c, d) = none_iff (get_or bs 0 0) in
    (λ e. c (a e), λ x. b (d x))

cut_iff : (none over ends : Bool) → ends ≡ true → (first_of none over ≡ cut_short) ↔ (ends && not (none || over) ≡ true)
unfolding first_of
cut_iff true over true e = (λ h. absurd (omega (arith, ap code h)), λ h. clash h refl)
cut_iff false true true e = (λ h. absurd (omega (arith, ap code h)), λ h. clash h refl)
cut_iff false false true e = (λ _. refl, λ _. refl)
cut_iff none over false e = clash e refl

pub reason_cut : ReasonIsCut
unfolding reason is_cut_short is_bad
reason_cut tag bs z = cut_iff (has_none (form_of tag)) (has_over (tag ∷ bs) (form_of tag)) (eqb (call_end (tag ∷ bs)) 0) (eq-eqb (call_end (tag ∷ bs)) 0 z)

-- ---- what reading a call finds where there is none

short_by : (bs : List ℕ) (none over : Bool) → 0 < length bs → call_end bs ≡ 0 → none ≡ has_none (form_of (get_or bs 0 0)) → over ≡ has_over bs (form_of (get_or bs 0 0))
    → is_cut_short bs ≡ not (none || over)
unfolding is_cut_short is_bad
short_by [] none over l z e f = absurd (omega arith)
short_by (t ∷ bs) none over l z e f = ap₂ (λ x y. x && not y) (eq-eqb (call_end (t ∷ bs)) 0 z) (ap₂ ◌||◌ (sym e) (sym f))

-- there are no bytes
pub no_bytes : (bs : List ℕ) → None ≡ slice_get bs 0 → NoCall bs CutShort
unfolding is_cut_short form_of table
no_bytes [] h = record { none = sym (no_buffers [] (form_of 0) refl); short = refl; said = λ l. absurd (omega arith) }
no_bytes (t ∷ bs) h = absurd (none-some t h)

-- the first byte is the tag
pub tag_first : (bs : List ℕ) {t : ℕ} → Some t ≡ slice_get bs 0 → (0 < length bs) × (get_or bs 0 0 ≡ t)
tag_first bs {t} e = (slice_get_within bs 0 t (sym e), get_or_from_slice_get bs 0 t 0 (sym e))

-- the tag is none
pub no_kind : (bs : List ℕ) {t : ℕ} {e : Bad} → Some t ≡ slice_get bs 0 → (e ≡ Tag) × (has_none (form_of t) ≡ true) → NoCall bs e
unfolding reason first_of
no_kind bs {t} s (h, n) =
    let (l, g) = tag_first bs s in
    let f : Form = form_of (get_or bs 0 0) in
    let k : has_none f ≡ true = ap (λ x. has_none (form_of x)) g ∙ n in
    let z = sym (no_buffers bs f (eqb-true f.buffers 0 k)) in
    rw h (record { none = z; short = short_by bs true (has_over bs f) l z (sym k) refl; said = λ _. rw k })

-- a buffer is not there
by_over : (bs : List ℕ) (over : Bool) → 0 < length bs → call_end bs ≡ 0 → over ≡ has_over bs (form_of (get_or bs 0 0)) → false ≡ has_none (form_of (get_or bs 0 0)) → NoCall bs (why over)
unfolding reason first_of
by_over bs true l z o n = record { none = z; short = short_by bs false true l z n o; said = λ _. rw (← n, ← o) }
by_over bs false l z o n = record { none = z; short = short_by bs false false l z n o; said = λ _. rw (← n, ← o) }

pub no_end : (bs : List ℕ) {t : ℕ} {e : Bad} (kind : Kind) → Some t ≡ slice_get bs 0 → t ≡ tag_of kind
    → (place_of bs (form_of (tag_of kind)) (form_of (tag_of kind)).buffers ≡ 0)
    × (e ≡ why (some (form_of (tag_of kind)).buffers (λ j. is_over bs (place_of bs (form_of (tag_of kind)) j)))) → NoCall bs e
no_end bs kind s t (h, k) =
    let (l, g) = tag_first bs s in
    let f : Form = form_of (tag_of kind) in
    let same = ap form_of (g ∙ t) in
    let z : call_end bs ≡ 0 = ap (form_end bs) same ∙ sym (kind_end bs kind) ∙ h in
    rw k (by_over bs (has_over bs f) l z (ap (has_over bs) (sym same)) (sym (ap has_none same ∙ kind_form kind)))
