-- A bad call: why there is no call at the front of the bytes, and the line that says so, as ASCII codes. Assumes nothing.
use Rattle.std.specs.Prelude.{Bool, true, false, List, [], ◌∷◌, ◌++◌, ℕ, get_or}
use Rattle.calls.specs.Format.{form_of, has_none, has_over}
use Rattle.wire.specs.Text.{decimal}

-- the tag is none of the table's, or a buffer says that it has more than 1,024 elements, or the bytes end before the call does
pub data Reason : Type 0 where
  its_tag : Reason
  a_length : Reason
  cut_short : Reason

-- the first that applies, by whether the tag is none of the table's, and whether a buffer has too many elements
unfoldable pub first_of : Bool → Bool → Reason
first_of true over = its_tag
first_of false true = a_length
first_of false false = cut_short

-- why there is no call at the front of the bytes, where there is none
unfoldable pub reason : List ℕ → Reason
reason bs = first_of (has_none (form_of (get_or bs 0 0))) (has_over bs (form_of (get_or bs 0 0)))

-- `its tag`, `a length` and `cut short`
unfoldable pub reason_text : Reason → List ℕ
reason_text its_tag = 105 ∷ 116 ∷ 115 ∷ 32 ∷ 116 ∷ 97 ∷ 103 ∷ []
reason_text a_length = 97 ∷ 32 ∷ 108 ∷ 101 ∷ 110 ∷ 103 ∷ 116 ∷ 104 ∷ []
reason_text cut_short = 99 ∷ 117 ∷ 116 ∷ 32 ∷ 115 ∷ 104 ∷ 111 ∷ 114 ∷ 116 ∷ []

-- `bad call `, the number of the call, ` at byte `, the offset of its first byte, `: `, the reason, and the end of the line
unfoldable pub bad_call : ℕ → ℕ → Reason → List ℕ
bad_call number offset why =
    ((98 ∷ 97 ∷ 100 ∷ 32 ∷ 99 ∷ 97 ∷ 108 ∷ 108 ∷ 32 ∷ []) ++ decimal number)
    ++ (((32 ∷ 97 ∷ 116 ∷ 32 ∷ 98 ∷ 121 ∷ 116 ∷ 101 ∷ 32 ∷ []) ++ decimal offset) ++ ((58 ∷ 32 ∷ []) ++ (reason_text why ++ (10 ∷ []))))
