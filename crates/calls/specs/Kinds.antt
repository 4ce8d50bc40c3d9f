-- The kinds of call by their tags, the reasons why bytes are no call, and what reading a call finds. Assumes nothing.
use Rattle.std.specs.Prelude.{◌≡◌, Bool, true, false, List, ℕ, ◌<◌, Result, Ok, Err, MatchResult, length}
use Rattle.bits.specs.Bits.{some}
use Rattle.calls.specs.declared.kind.Kind.{Kind}
use Rattle.calls.specs.declared.kind.Kind.TheVariants.{PointerWrite, PointerRead, GridPlan, GridRead, GridStore, GridConvert, Transfer}
use Rattle.calls.specs.declared.kind.Bad.{Bad}
use Rattle.calls.specs.declared.kind.Bad.TheVariants.{Tag, Length, CutShort}
use Rattle.calls.specs.declared.kind.Form.{Form}
use Rattle.calls.specs.Format.{form_of, after_buffer, place_of, is_over, has_none, call_end, is_cut_short}
use Rattle.calls.specs.Bad.{Reason, its_tag, a_length, cut_short, reason}

-- the tag of the calls of a kind
abbrev pub tag_of : Kind → ℕ
tag_of PointerWrite = 1
tag_of PointerRead = 2
tag_of GridPlan = 3
tag_of GridRead = 4
tag_of GridStore = 5
tag_of GridConvert = 6
tag_of Transfer = 7

-- the kind of the calls with this tag, or that no call has it
abbrev pub IsKindOf : ℕ → Result Kind Bad → Type 0
IsKindOf tag r = MatchResult r (λ kind. tag ≡ tag_of kind) (λ e. (e ≡ Tag) × (has_none (form_of tag) ≡ true))

-- the reason that the line of a bad call gives
abbrev pub told : Bad → Reason
told Tag = its_tag
told Length = a_length
told CutShort = cut_short

-- the reason why a buffer is not there, by whether it has too many elements
abbrev pub why : Bool → Bad
why true = Length
why false = CutShort

-- where the buffer at place p ends, its elements w bytes each, or why it is not there
abbrev pub After : List ℕ → ℕ → ℕ → Result ℕ Bad → Type 0
After bs p w r = MatchResult r (λ q. (q ≡ after_buffer bs p w) × (0 < q)) (λ e. (after_buffer bs p w ≡ 0) × (e ≡ why (is_over bs p)))

-- where buffer i of a call of this form starts, or why it is not there up to that place
abbrev pub Found : List ℕ → Form → ℕ → Result ℕ Bad → Type 0
Found bs f i r = MatchResult r (λ p. (p ≡ place_of bs f i) × (0 < p)) (λ e. (place_of bs f i ≡ 0) × (e ≡ why (some i (λ j. is_over bs (place_of bs f j)))))

abbrev pub is_short : Bad → Bool
is_short Tag = false
is_short Length = false
is_short CutShort = true

-- there is no call at the front of the bytes, for this reason: more bytes may help just where they are cut short
pub record NoCall (bs : List ℕ) (e : Bad) : Type 0 where
  pub none : call_end bs ≡ 0
  pub short : is_cut_short bs ≡ is_short e
  pub said : 0 < length bs → told e ≡ reason bs

-- how many bytes a call takes, 0 where there is none
abbrev pub taken : Result ℕ Bad → ℕ
taken (Ok n) = n
taken (Err e) = 0
