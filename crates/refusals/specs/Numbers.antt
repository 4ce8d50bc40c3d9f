-- The numbers of refusals (document 01, "Refusals"; document 02 for 8, 9 and 13), and the index that is answered with one. Assumes nothing.
use Rattle.std.specs.Prelude.{ℕ, Result, Ok, Err}
use Rattle.refusals.specs.declared.Refusal.{Refusal}
use Rattle.refusals.specs.declared.Refusal.TheVariants.{OutOfRange, WrongLength, BitPastEnd, Malformed, AboveK, SamePointer, NoEntryLeft, Unmaskable, ShortBlock, LongBlock, Misread}

-- the number that a call answers
abbrev pub number : Refusal → ℕ
number OutOfRange = 1
number WrongLength = 2
number BitPastEnd = 3
number Malformed = 4
number (AboveK _) = 4
number SamePointer = 5
number NoEntryLeft = 6
number Unmaskable = 7
number ShortBlock = 8
number LongBlock = 9
number Misread = 13

-- the index that it answers with it
abbrev pub index : Refusal → ℕ
index (AboveK first) = first
index OutOfRange = 0
index WrongLength = 0
index BitPastEnd = 0
index Malformed = 0
index SamePointer = 0
index NoEntryLeft = 0
index Unmaskable = 0
index ShortBlock = 0
index LongBlock = 0
index Misread = 0

-- 0 where nothing is refused
abbrev pub number_of : {A : Type 0} → Result A Refusal → ℕ
number_of (Ok _) = 0
number_of (Err e) = number e

abbrev pub index_of : {A : Type 0} → Result A Refusal → ℕ
index_of (Ok _) = 0
index_of (Err e) = index e
