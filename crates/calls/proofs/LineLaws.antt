-- Laws of a call's line: bytes that follow the call change nothing of it, it is short, and there is no second one. Assumes nothing.
use mathlib.Core.Path.{◌≡◌, sym, ap, subst, transport, ◌∙◌}
use mathlib.Core.List.{List, [], ◌∷◌, ◌++◌}
use Prim.Native.Nat.{ℕ, suc, ◌+◌, ◌*◌, ◌≤◌, ◌<◌}
use native.Mathlib.Nat.{mul-suc, mul-le-mul_left}
use native.Mathlib.Omega.{arith}
use native.Mathlib.Decide.{dec_lt}
use lib.Dec.{lit≤}
use lib.ListN.{length, get_or, length-append, get_or-eq_default}
use Rattle.bits.specs.Bits.{list, number_at}
use Rattle.bits.proofs.BoundLaws.{list_ext, get_or_list, length_list}
use Rattle.pointer_promises.proofs.Unique as pointer
use Rattle.grid_promises.proofs.OneAnswer as grid
use Rattle.grid_promises.proofs.OneConversion.{one_convert}
use Rattle.words.proofs.LoadLaws.{number_before}
use Rattle.wire.proofs.TextLaws.{put_same, one_put}
use Rattle.calls.specs.Format.{call_number, many, elements, form_of, width, place, buffer_of, numbers_of, buffers_of, call_end, Whole}
use Rattle.calls.specs.Text.{each, bytes_text, words_text, behind, line}
use Rattle.calls.specs.Calls.{counts, LineBy, LineAt, LineOf, ended, pointer_write, pointer_read, grid_plan, grid_read, grid_store, grid_convert, transfer}
use Rattle.calls.specs.Claims.{OneLine, LineIsShort, OnePrinted}
use Rattle.calls.proofs.FormatLaws.{Stands, stands_at, number_stands}
use Rattle.calls.proofs.StreamLaws.{call_within, place_more, tag_more}
use Rattle.calls.proofs.ElementLaws.{length_elements}
use Rattle.calls.proofs.TextLaws.{length_buffer, length_line}
use Rattle.calls.proofs.ScriptLaws.{one_script, scripted_lengths}

-- ---- bytes that follow

module _ (bs rest : List ℕ) where
  elements_more : (p w : ℕ) → Stands bs p w → elements bs p w ≡ elements (bs ++ rest) p w
  unfolding elements
  elements_more p w h =
      let e : many (bs ++ rest) p ≡ many bs p = number_before bs rest p 2 (omega (arith, h.whole)) in
      ap (λ n. list n (λ i. number_at bs (p + 2 + w * i) w)) (sym e)
      ∙ list_ext (many (bs ++ rest) p) (λ i. number_at bs (p + 2 + w * i) w) (λ i. number_at (bs ++ rest) (p + 2 + w * i) w)
      (λ i l.
      let k : w * suc i ≤ w * many bs p = mul-le-mul_left w (omega arith) in
      sym (number_before bs rest (p + 2 + w * i) w (omega (arith, mul-suc w i, h.whole))))

  module _ (tag : ℕ) (h : Whole bs tag) where
    numbers_of_more : numbers_of bs tag ≡ numbers_of (bs ++ rest) tag
    numbers_of_more = list_ext (form_of tag).numbers (call_number bs) (call_number (bs ++ rest)) (λ i l. sym (number_before bs rest (1 + 8 * i) 8 (number_stands bs tag i h l)))

    buffers_of_more : buffers_of bs tag ≡ buffers_of (bs ++ rest) tag
    unfolding buffer_of
    buffers_of_more =
        list_ext (form_of tag).buffers (buffer_of bs tag) (buffer_of (bs ++ rest) tag)
        (λ i l.
        let s = stands_at bs tag i h l in
        elements_more (place bs tag i) (width tag i) s ∙ ap (λ p. elements (bs ++ rest) p (width tag i)) (sym (place_more bs rest (form_of tag) i s.place)))

  pub line_more : (text : List ℕ) → (call_end bs ≡ 0 → ⊥) → LineOf bs text → LineOf (bs ++ rest) text
  line_more _ h (ended {text = text} l) =
      let tag : ℕ = get_or bs 0 0 in
      ended (subst (λ t. LineAt (bs ++ rest) t text) (sym (tag_more bs rest (omega (arith, call_within bs)))) (transport (λ i. LineBy tag (numbers_of_more tag h i) (buffers_of_more tag h i) text) l))

-- ---- how long a line is

-- n buffers of at most 1,025 elements
data Sized : ℕ → List (List ℕ) → Type 0 where
  none : Sized 0 []
  bytes : {n : ℕ} {ws : List (List ℕ)} (s : List ℕ) → length s ≤ 1025 → Sized n ws → Sized (suc n) (bytes_text s ∷ ws)
  words : {n : ℕ} {ws : List (List ℕ)} (s : List ℕ) → length s ≤ 1025 → Sized n ws → Sized (suc n) (words_text s ∷ ws)

sized : {n : ℕ} {ws : List (List ℕ)} → Sized n ws → length (each behind ws) ≤ 16401 * n
unfolding each
sized none = omega arith
sized (bytes s f r) = rw length-append (omega (arith, length_buffer 2 1025 s (omega arith) f, sized r))
sized (words s f r) = rw length-append (omega (arith, length_buffer 16 1025 s (omega arith) f, sized r))

short : {n : ℕ} {ws : List (List ℕ)} (x : ℕ) (fs : List ℕ) → length fs ≤ 5 → Sized n ws → n ≤ 2 → length (line x fs ws) < 32928
short {ws = ws} x fs h r k = omega (arith, length_line x fs ws, sized r)

few_short : {ns : List ℕ} {bss : List (List ℕ)} {text : List ℕ} (tag : ℕ) → ((i : ℕ) → length (get_or bss i []) ≤ 1024) → LineBy tag ns bss text → length text < 32928
few_short tag f (pointer_write _ c m) = short _ _ (lit≤ tt) (bytes _ (omega (arith, f 3)) (bytes _ (omega (arith, f 4)) none)) (lit≤ tt)
few_short tag f (pointer_read _ o) = short _ _ (lit≤ tt) (bytes _ (omega (arith, f 2)) none) (lit≤ tt)
few_short tag f (grid_plan _ c) = short _ _ (lit≤ tt) (bytes _ (omega (arith, f 3)) none) (lit≤ tt)
few_short tag f (grid_read _ o) = short _ _ (lit≤ tt) (words _ (omega (arith, f 2)) none) (lit≤ tt)
few_short tag f (grid_store _ c) = short _ _ (lit≤ tt) (words _ (omega (arith, f 4)) none) (lit≤ tt)
few_short tag f (grid_convert _ o) = short _ _ (lit≤ tt) (bytes _ (omega (arith, f 1)) none) (lit≤ tt)
few_short tag f (transfer s) = let (o, n) = scripted_lengths s in short _ _ (lit≤ tt) (words _ (omega (arith, f 2)) (bytes _ (omega (arith, f 1)) none)) (lit≤ tt)

few : (bs : List ℕ) (tag : ℕ) → Whole bs tag → (i : ℕ) → length (get_or (buffers_of bs tag) i []) ≤ 1024
unfolding buffer_of
few bs tag h i =
    elim (dec_lt i (form_of tag).buffers) [
      | yes l ↦ rw (get_or_list (form_of tag).buffers (buffer_of bs tag) [] i l, length_elements) (stands_at bs tag i h l).few
      | no l ↦ rw (get_or-eq_default (buffers_of bs tag) [] {n = i} (rw length_list (omega arith))) (omega arith)
    ]

pub line_short : LineIsShort
line_short bs _ h (ended l) = rw length-append (omega (arith, few_short (get_or bs 0 0) (few bs (get_or bs 0 0) h) l))

-- ---- no second line

one_by_tag : {ns : List ℕ} {bss : List (List ℕ)} {text text' : List ℕ} (tag : ℕ) → LineBy tag ns bss text → LineBy tag ns bss text' → text ≡ text'
one_by_tag tag (pointer_write l _ _) (pointer_write m _ _) =
    let (a, c, d) = pointer.write_unique _ _ _ _ _ _ _ _ _ _ _ _ l m in λ i. line (a i).number ((a i).active ∷ (a i).new ∷ []) (bytes_text (c i) ∷ bytes_text (d i) ∷ [])
one_by_tag tag (pointer_read l _) (pointer_read m _) =
    let (a, o) = pointer.read_unique _ _ _ _ _ _ _ _ l m in λ i. line (a i).number [] (bytes_text (o i) ∷ [])
one_by_tag tag (grid_plan l _) (grid_plan m _) =
    let (a, c) = grid.one_plan _ _ _ _ _ _ _ l.exactly m.exactly in λ i. line (a i).number (counts (a i)) (bytes_text (c i) ∷ [])
one_by_tag tag (grid_read l _) (grid_read m _) =
    let (a, o) = grid.one_read _ _ _ _ _ _ _ _ _ _ l.exactly m.exactly in λ i. line (a i).number ((a i).index ∷ []) (words_text (o i) ∷ [])
one_by_tag tag (grid_store l _) (grid_store m _) =
    let (a, c) = grid.one_store _ _ _ _ _ _ _ _ l.exactly m.exactly in λ i. line (a i).number (counts (a i) ++ ((a i).index ∷ [])) (words_text (c i) ∷ [])
one_by_tag tag (grid_convert l _) (grid_convert m _) =
    let (a, o) = one_convert _ _ _ _ _ _ _ _ _ _ l.exactly m.exactly in λ i. line (a i).number ((a i).index ∷ []) (bytes_text (o i) ∷ [])
one_by_tag tag (transfer s) (transfer s') =
    let (a, o, n) = one_script s s' in λ i. line (a i).number ((a i).index ∷ []) (words_text (o i) ∷ bytes_text (n i) ∷ [])

pub one_line : OneLine
one_line bs _ _ (ended l) (ended m) = ap (λ t. t ++ (10 ∷ [])) (one_by_tag (get_or bs 0 0) l m)

-- so what is done has one outcome
pub one_printed : OnePrinted
one_printed bs before after after' taken taken' p q q' h k =
    let e : taken ≡ taken' = h.takes ∙ sym k.takes in
    elim (dec_lt 0 taken) [
      | yes l ↦
          let m = h.made (λ z. omega arith) in
          let n = k.made (λ z. omega arith) in
          let (a, b) = one_put (put_same (one_line bs m.text n.text m.line n.line) m.put) n.put in (e, a, b)
      | no l ↦
          let (a, b) = h.none (omega arith) in
          let (c, d) = k.none (omega arith) in
          (e, a ∙ sym c, b ∙ sym d)
    ]
