-- What is in the input: numbers, buffers and calls, by the bytes from a call's first on. Places count bytes from 0; the place 0, where no number and no
-- buffer can start or end, says that there is no call. Assumes nothing.
use Rattle.std.specs.Prelude.{◌≡◌, Bool, true, cond, not, ◌&&◌, ◌||◌, List, [], ◌∷◌, ℕ, zero, suc, ◌+◌, ◌*◌, eqb, leb, ltb, length, get_or}
use Rattle.bits.specs.Bits.{some, list, number_at}
use Rattle.calls.specs.declared.kind.Form.{Form}

-- number i of a call, from 0 on: they follow the tag, eight bytes each
abbrev pub call_number : List ℕ → ℕ → ℕ
call_number bs i = number_at bs (1 + 8 * i) 8

-- where a call's n numbers end, that follow the tag
unfoldable pub after_numbers : List ℕ → ℕ → ℕ
after_numbers bs n = cond (leb (1 + 8 * n) (length bs)) (1 + 8 * n) 0

-- how many elements the buffer at place p has
abbrev pub many : List ℕ → ℕ → ℕ
many bs p = number_at bs p 2

-- a buffer with elements of w bytes is there whole at place p, and has at most 1024 of them
unfoldable pub is_buffer : List ℕ → ℕ → ℕ → Bool
is_buffer bs p w = not (eqb p 0) && leb (many bs p) 1024 && leb (p + 2 + w * many bs p) (length bs)

-- where it ends
unfoldable pub after_buffer : List ℕ → ℕ → ℕ → ℕ
after_buffer bs p w = cond (is_buffer bs p w) (p + 2 + w * many bs p) 0

-- it says how many elements it has, and they are too many: whatever follows, it is no buffer
unfoldable pub is_over : List ℕ → ℕ → Bool
is_over bs p = not (eqb p 0) && leb (p + 2) (length bs) && ltb 1024 (many bs p)

-- its elements
unfoldable pub elements : List ℕ → ℕ → ℕ → List ℕ
elements bs p w = list (many bs p) (λ i. number_at bs (p + 2 + w * i) w)

-- ---- calls

-- a form of call: how many numbers it has, how many buffers, and the widths of their elements, with 0 where there is no buffer
abbrev pub form : ℕ → ℕ → List ℕ → Form
form numbers buffers widths = record { numbers = numbers; buffers = buffers; widths = widths }

-- the form of what is no call
abbrev pub no_form : Form
no_form = form 0 0 (0 ∷ 0 ∷ 0 ∷ 0 ∷ 0 ∷ [])

-- the table of docs/CALLS.md, by the tag from 0 on
unfoldable pub table : List Form
table =
    no_form
    ∷ form 1 5 (1 ∷ 1 ∷ 1 ∷ 1 ∷ 1 ∷ [])
    ∷ form 1 3 (1 ∷ 1 ∷ 1 ∷ 0 ∷ 0 ∷ [])
    ∷ form 3 4 (8 ∷ 8 ∷ 8 ∷ 1 ∷ 0 ∷ [])
    ∷ form 3 3 (8 ∷ 1 ∷ 8 ∷ 0 ∷ 0 ∷ [])
    ∷ form 3 5 (8 ∷ 8 ∷ 8 ∷ 1 ∷ 8 ∷ [])
    ∷ form 4 2 (1 ∷ 1 ∷ 0 ∷ 0 ∷ 0 ∷ [])
    ∷ form 3 3 (1 ∷ 1 ∷ 8 ∷ 0 ∷ 0 ∷ [])
    ∷ []

unfoldable pub form_of : ℕ → Form
form_of tag = get_or table tag no_form

abbrev pub width : ℕ → ℕ → ℕ
width tag i = get_or (form_of tag).widths i 0

-- where buffer i of a call of this form starts, from 0 on; where i is their number, where the call ends
unfoldable pub place_of : List ℕ → Form → ℕ → ℕ
place_of bs f zero = after_numbers bs f.numbers
place_of bs f (suc i) = after_buffer bs (place_of bs f i) (get_or f.widths i 0)

abbrev pub place : List ℕ → ℕ → ℕ → ℕ
place bs tag i = place_of bs (form_of tag) i

-- where a call of this form ends; every call has a buffer
unfoldable pub form_end : List ℕ → Form → ℕ
form_end bs f = cond (eqb f.buffers 0) 0 (place_of bs f f.buffers)

-- it is the form of no call
abbrev pub has_none : Form → Bool
has_none f = eqb f.buffers 0

-- a buffer of a call of this form has too many elements
abbrev pub has_over : List ℕ → Form → Bool
has_over bs f = some f.buffers (λ i. is_over bs (place_of bs f i))

-- there is no call of this form, whatever follows
unfoldable pub is_bad : List ℕ → Form → Bool
is_bad bs f = has_none f || has_over bs f

-- a call with this tag is there whole
abbrev pub Whole : List ℕ → ℕ → Type 0
Whole bs tag = form_end bs (form_of tag) ≡ 0 → ⊥

-- the elements of buffer i of a call
unfoldable pub buffer_of : List ℕ → ℕ → ℕ → List ℕ
buffer_of bs tag i = elements bs (place bs tag i) (width tag i)

-- all its numbers, and all its buffers
abbrev pub numbers_of : List ℕ → ℕ → List ℕ
numbers_of bs tag = list (form_of tag).numbers (call_number bs)

abbrev pub buffers_of : List ℕ → ℕ → List (List ℕ)
buffers_of bs tag = list (form_of tag).buffers (buffer_of bs tag)

-- where the call at the front of the bytes ends
abbrev pub call_end : List ℕ → ℕ
call_end bs = form_end bs (form_of (get_or bs 0 0))

-- the call at the front of the bytes is cut short: it is not there whole, but may be with bytes that follow
unfoldable pub is_cut_short : List ℕ → Bool
is_cut_short [] = true
is_cut_short (tag ∷ bs) = eqb (call_end (tag ∷ bs)) 0 && not (is_bad (tag ∷ bs) (form_of tag))
