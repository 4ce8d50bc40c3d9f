-- What is proved of these definitions themselves, beside the code: proofs/Claims.antt has a proof of each. Assumes nothing.
use Rattle.std.specs.Prelude.{◌≡◌, true, false, List, ◌∷◌, ◌++◌, ◌↔◌, ◌⊎◌, ℕ, ◌≤◌, ◌<◌, length, get_or, drop}
use Rattle.bits.specs.Bits.{Below}
use Rattle.grid_promises.specs.declared.ReadAnswer.{ReadAnswer}
use Rattle.calls.specs.Format.{call_end, is_cut_short}
use Rattle.calls.specs.Bad.{its_tag, cut_short, reason}
use Rattle.calls.specs.Scripts.{Scripted}
use Rattle.calls.specs.Calls.{LineOf, Printed}
use Rattle.calls.specs.Stream.{left, Turns, start, came, CallsTo}
use Rattle.calls.specs.Stream.{State}

-- ---- where calls end

-- a call lies within the bytes
abbrev pub EndsWithin : Type 0
EndsWithin = (bs : List ℕ) → call_end bs ≤ length bs

-- what is not cut short stays what it is, a call or none, whatever follows
abbrev pub EndStays : Type 0
EndStays = (bs rest : List ℕ) → is_cut_short bs ≡ false → call_end (bs ++ rest) ≡ call_end bs

-- what is cut short has fewer bytes than the longest call
abbrev pub CutIsShort : Type 0
CutIsShort = (bs : List ℕ) → is_cut_short bs ≡ true → length bs < 41003

-- and some bytes that follow do make it a call
abbrev pub MayBeCall : Type 0
MayBeCall = (bs : List ℕ) → Below 256 bs → is_cut_short bs ≡ true → (rest : List ℕ) × (call_end (bs ++ rest) ≡ 0 → ⊥)

-- ---- why there is no call

-- whatever follows, what is no call and not cut short is none for the same reason
abbrev pub ReasonStays : Type 0
ReasonStays = (bs rest : List ℕ) → call_end bs ≡ 0 → is_cut_short bs ≡ false → reason (bs ++ rest) ≡ reason bs

-- its tag is the reason where it is none of 1 to 7
abbrev pub ReasonIsTag : Type 0
ReasonIsTag = (bs : List ℕ) → (reason bs ≡ its_tag) ↔ ((get_or bs 0 0 ≡ 0) ⊎ (7 < get_or bs 0 0))

-- that it is cut short is the reason where bytes that follow could still make it a call
abbrev pub ReasonIsCut : Type 0
ReasonIsCut = (tag : ℕ) (bs : List ℕ) → call_end (tag ∷ bs) ≡ 0 → (reason (tag ∷ bs) ≡ cut_short) ↔ (is_cut_short (tag ∷ bs) ≡ true)

-- ---- lines

-- a call has no second line
abbrev pub OneLine : Type 0
OneLine = (bs text text' : List ℕ) → LineOf bs text → LineOf bs text' → text ≡ text'

-- bytes that follow it change nothing of its line
abbrev pub LineStays : Type 0
LineStays = (bs rest text : List ℕ) → (call_end bs ≡ 0 → ⊥) → LineOf bs text → LineOf (bs ++ rest) text

-- no line is longer than this
abbrev pub LineIsShort : Type 0
LineIsShort = (bs text : List ℕ) → (call_end bs ≡ 0 → ⊥) → LineOf bs text → length text ≤ 32928

-- so what is done with the bytes of a call, or of none, leaves one answer and one buffer
abbrev pub OnePrinted : Type 0
OnePrinted = (bs before after after' : List ℕ) (taken taken' p q q' : ℕ) → Printed bs taken before p after q → Printed bs taken' before p after' q'
    → (taken ≡ taken') × (q ≡ q') × (after ≡ after')

-- a transfer by a script has no second end
abbrev pub OneScript : Type 0
OneScript = (m n k : ℕ) (bytes script out after after' numbers numbers' : List ℕ) (a a' : ReadAnswer)
    → Scripted m n k bytes script out a after numbers → Scripted m n k bytes script out a' after' numbers' → (a ≡ a') × (after ≡ after') × (numbers ≡ numbers')

-- ---- the whole run

-- of all the bytes that came, the first are those of the calls that were made, which are as many as were counted, and what is left of them starts at the offset
abbrev pub CallsComeFirst : Type 0
CallsComeFirst = (input output input' output' : List ℕ) (n : ℕ) (s : State) (turns : Turns start input output n s input' output')
    → (drop s.offset (came turns) ≡ left input' s.at s.end) × CallsTo (came turns) s.calls s.offset

-- ---- all of them

pub record Claims : Type 0 where
  pub ends_within : EndsWithin
  pub end_stays : EndStays
  pub cut_is_short : CutIsShort
  pub may_be_call : MayBeCall
  pub reason_stays : ReasonStays
  pub reason_is_tag : ReasonIsTag
  pub reason_is_cut : ReasonIsCut
  pub one_line : OneLine
  pub line_stays : LineStays
  pub line_is_short : LineIsShort
  pub one_printed : OnePrinted
  pub one_script : OneScript
  pub calls_come_first : CallsComeFirst
