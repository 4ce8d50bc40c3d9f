-- Starts, lumps, finishes and counts of what is missing, in any order, and what they come to: the read of the bytes sent since the last start, however they
-- were cut. It is said of whatever keeps the demands. Assumes nothing.
use Rattle.std.specs.Prelude.{ℕ, ◌+◌, ◌<◌, ◌≤◌, ◌^◌, ◌≡◌, List, [], ◌∷◌, ◌++◌, ◌↔◌, ◌⊎◌, ◌≢◌, length}
use Rattle.bits.specs.Bits.{Below}
use Rattle.bits.specs.First.{◌when◌, First}
use Rattle.rdis.specs.Block.{Block}
use Rattle.grid_promises.specs.Refusals.{InRange}
use Rattle.grid_promises.specs.Demands.{StoreDemands}
use Rattle.grid_promises.specs.Promises.{Read}
use Rattle.grid_promises.specs.declared.ReadAnswer.{ReadAnswer}
use Rattle.grid_promises.specs.declared.Answer.{Answer}
use Rattle.fragment_promises.specs.declared.Transfer.{Transfer}
use Rattle.fragment_promises.specs.declared.MissingAnswer.{MissingAnswer}
use Rattle.fragment_promises.specs.Transfers.{counter_bytes, size, size_of, counters_of, cells_of, word_bytes, started, lumped}
use Rattle.fragment_promises.specs.Demands.{Good, StartDemands, LumpDemands, FinishDemands, MissingDemands}
use Rattle.fragment_promises.specs.Promises.{FinishesBy, MissesBy}

-- ---- calls in turn

pub data Event : Type 0 where
  start : (m n k : ℕ) → Event
  lump : (bs : List ℕ) → Event
  finish : (out : List ℕ) → Event
  -- how many bytes are missing?
  ask : Event

-- each is lent the record as the one before left it, and keeps what is demanded of it. The last two only read it
pub data Calls : Transfer → List Event → Transfer → Type 0 where
  none : {t : Transfer} → Calls t [] t
  starts : {m n k x : ℕ} {t u v : Transfer} {es : List Event} → StartDemands m n k x u → Calls u es v → Calls t (start m n k ∷ es) v
  takes : {bs : List ℕ} {x : ℕ} {t u v : Transfer} {es : List Event} → LumpDemands t bs x u → Calls u es v → Calls t (lump bs ∷ es) v
  ends : {out after : List ℕ} {a : ReadAnswer} {t v : Transfer} {es : List Event} → FinishesBy t out a after → Calls t es v → Calls t (finish out ∷ es) v
  asks : {a : MissingAnswer} {t v : Transfer} {es : List Event} → MissesBy t a → Calls t es v → Calls t (ask ∷ es) v

-- the record that the definitions make of them
abbrev pub goes : Transfer → Event → Transfer
goes t (start m n k) = started m n k
goes t (lump bs) = lumped t bs
goes t (finish out) = t
goes t ask = t

abbrev pub run : Transfer → List Event → Transfer
run t [] = t
run t (e ∷ es) = run (goes t e) es

-- whatever keeps the demands brings it there, from a start on
abbrev pub AsDefined : Type 0
AsDefined = (t u : Transfer) (m n k : ℕ) (es : List Event) → Calls t (start m n k ∷ es) u → u ≡ run (started m n k) es

-- ---- what the caller did, with no thought of refusals: the numbers of the last start, and all the bytes sent since, those of refused lumps too

pub record Story : Type 0 where
  pub rows : ℕ
  pub columns : ℕ
  pub k : ℕ
  pub sent : List ℕ

abbrev pub begun : ℕ → ℕ → ℕ → Story
begun m n k = record { rows = m; columns = n; k = k; sent = [] }

abbrev pub tell : Story → Event → Story
tell h (start m n k) = begun m n k
tell h (lump bs) = record { rows = h.rows; columns = h.columns; k = h.k; sent = h.sent ++ bs }
tell h (finish out) = h
tell h ask = h

abbrev pub story : Story → List Event → Story
story h [] = h
story h (e ∷ es) = story (tell h e) es

-- its numbers lie in their ranges, and the number of bytes that its block has
abbrev pub Fine : Story → Type 0
Fine h = InRange h.rows h.columns h.k

abbrev pub whole : Story → ℕ
whole h = size h.rows h.columns h.k

-- ---- the theorem: after a start, and any calls, each further call answers as the story alone says. Which record there was before the start does not count

-- a lump: 1 for bad numbers, 9 where more was sent than the block has, this lump included
abbrev pub EveryLump : Type 0
EveryLump =
    (t u v : Transfer) (m n k : ℕ) (es : List Event) (bs : List ℕ) (x : ℕ) → Calls t (start m n k ∷ es) u → LumpDemands u bs x v
    → let h = tell (story (begun m n k) es) (lump bs) in First ((1 when (Fine h → ⊥)) ∷ (9 when (whole h < length h.sent)) ∷ []) x

-- after a start and any calls every finish ends as P says of their story
abbrev pub AfterCalls : (Story → List ℕ → ReadAnswer → List ℕ → Type 0) → Type 0
AfterCalls P =
    (t u : Transfer) (m n k : ℕ) (es : List Event) (out : List ℕ) (a : ReadAnswer) (after : List ℕ)
    → Calls t (start m n k ∷ es) u → FinishesBy u out a after → P (story (begun m n k) es) out a after

-- a finish: as if all that was sent were held
abbrev pub EveryFinish : Type 0
EveryFinish = AfterCalls (λ h out a after. FinishDemands h.rows h.columns h.k (length h.sent) h.sent out a after)

-- what is missing, as if all that was sent were taken: 1 for bad numbers, 9 where more was sent than the block has, else how many bytes were not sent yet
abbrev pub EveryMissing : Type 0
EveryMissing =
    (t u : Transfer) (m n k : ℕ) (es : List Event) (a : MissingAnswer) → Calls t (start m n k ∷ es) u → MissesBy u a
    → let h = story (begun m n k) es in MissingDemands h.rows h.columns h.k (length h.sent) a

-- ---- its cases. Each has good numbers, but for the last

-- the ordinary read's own promise on the counters and cell words that were sent
abbrev pub ReadsSent : Story → List ℕ → ReadAnswer → List ℕ → Type 0
ReadsSent h = Read h.rows h.columns h.k (cells_of h.rows h.columns h.k h.sent) (counters_of h.rows h.columns h.k h.sent)

-- a whole block was sent
abbrev pub Whole : Type 0
Whole = AfterCalls (λ h out a after. Fine h → Below 256 h.sent → length h.sent ≡ whole h → ReadsSent h out a after)

-- the same of counters and cells that were sent as bytes: they are read as if they were lent
abbrev pub Sent : Type 0
Sent =
    (t u : Transfer) (m n k : ℕ) (es : List Event) (cells counters out : List ℕ) (a : ReadAnswer) (after : List ℕ)
    → Calls t (start m n k ∷ es) u → FinishesBy u out a after
    → let h = story (begun m n k) es in Fine h → length cells ≡ h.rows → length counters ≡ counter_bytes h.rows h.columns h.k
    → Below (2 ^ 64) cells → Below 256 counters → h.sent ≡ counters ++ word_bytes cells → Read h.rows h.columns h.k cells counters out a after

-- so what an accepted store left, sent as bytes with its counters, comes back as the data
abbrev pub StoreThenSend : Type 0
StoreThenSend =
    (t u : Transfer) (b : Block) (k : ℕ) (es : List Event) (counters old cells out : List ℕ) (s : Answer) (a : ReadAnswer) (after : List ℕ)
    → StoreDemands b k counters old s cells → s.number ≡ 0 → Below 256 counters → length out ≡ b.rows
    → Calls t (start b.rows b.columns k ∷ es) u → FinishesBy u out a after
    → story (begun b.rows b.columns k) es ≡ record { rows = b.rows; columns = b.columns; k = k; sent = counters ++ word_bytes cells }
    → (a.number ≡ 0) × (after ≡ b.data·)

-- refused with this number: the output is as it was
pub record RefusedWith (x : ℕ) (out : List ℕ) (a : ReadAnswer) (after : List ℕ) : Type 0 where
  pub number : a.number ≡ x
  pub index : a.index ≡ 0
  pub untouched : after ≡ out

-- an output of another length: 2, while no more bytes were sent than the block has, ahead of all that is judged of them
abbrev pub WrongOutput : Type 0
WrongOutput = AfterCalls (λ h out a after. Fine h → length h.sent ≤ whole h → length out ≢ h.rows → RefusedWith 2 out a after)

-- fewer bytes were sent, and the output has the right length: 8, whatever they are
abbrev pub Short : Type 0
Short = AfterCalls (λ h out a after. Fine h → length out ≡ h.rows → length h.sent < whole h → RefusedWith 8 out a after)

-- more bytes were sent: 9, whatever the output
abbrev pub Long : Type 0
Long = AfterCalls (λ h out a after. Fine h → whole h < length h.sent → RefusedWith 9 out a after)

-- bad numbers: 1, whatever was sent
abbrev pub Bad : Type 0
Bad = AfterCalls (λ h out a after. (Fine h → ⊥) → RefusedWith 1 out a after)

-- ---- what is missing tells how a finish with an output of the right length ends

-- after a start, any calls and an answer of how many bytes are missing, such a finish ends as P says
abbrev pub AfterMissing : (ℕ → Story → List ℕ → ReadAnswer → List ℕ → Type 0) → Type 0
AfterMissing P =
    (t u : Transfer) (m n k : ℕ) (es : List Event) (a : MissingAnswer) → Calls t (start m n k ∷ es) u → MissesBy u a → a.number ≡ 0
    → (out : List ℕ) (b : ReadAnswer) (after : List ℕ) → FinishesBy u out b after
    → let h = story (begun m n k) es in length out ≡ h.rows → P a.bytes h out b after

-- none: it is the ordinary read, and answers 0, 3 or 4, so never 1, 9 or 8
abbrev pub NoneMissing : Type 0
NoneMissing = AfterMissing (λ bytes h out b after. bytes ≡ 0 → Below 256 h.sent
    → ReadsSent h out b after × ((b.number ≡ 0) ⊎ (b.number ≡ 3) ⊎ (b.number ≡ 4)))

-- some: 8
abbrev pub SomeMissing : Type 0
SomeMissing = AfterMissing (λ bytes h out b after. 0 < bytes → RefusedWith 8 out b after)

-- and, whoever made the record, which lumps fit: those of at most that many bytes, and no longer one
abbrev pub MissingFits : Type 0
MissingFits =
    (t u : Transfer) (bs : List ℕ) (x : ℕ) (a : MissingAnswer) → MissesBy t a → a.number ≡ 0 → LumpDemands t bs x u → (x ≡ 0) ↔ (length bs ≤ a.bytes)

-- ---- 1 at the start, and 9 there and ever after

-- a start itself answers 1 for bad numbers, and else 0
pub record StartAnswers (m n k x : ℕ) : Type 0 where
  pub bad : (InRange m n k → ⊥) → x ≡ 1
  pub good : InRange m n k → x ≡ 0

abbrev pub EveryStart : Type 0
EveryStart = (m n k x : ℕ) (u : Transfer) → StartDemands m n k x u → StartAnswers m n k x

-- calls without a start
abbrev pub NoStart : List Event → Type 0
NoStart [] = Unit {0}
NoStart (start m n k ∷ es) = ⊥
NoStart (lump bs ∷ es) = NoStart es
NoStart (finish out ∷ es) = NoStart es
NoStart (ask ∷ es) = NoStart es

-- every call with this record but a start answers 9
pub record Nine (v : Transfer) : Type 0 where
  pub lumps : (bs : List ℕ) (x : ℕ) (w : Transfer) → LumpDemands v bs x w → x ≡ 9
  pub finishes : (out : List ℕ) (a : ReadAnswer) (after : List ℕ) → FinishesBy v out a after → RefusedWith 9 out a after
  pub asks : (a : MissingAnswer) → MissesBy v a → (a.number ≡ 9) × (a.bytes ≡ 0)

-- more bytes were sent than the block has: 9, and so after any further calls without a start
abbrev pub EverAfter : Type 0
EverAfter =
    (t u v : Transfer) (m n k : ℕ) (es more : List Event) → Calls t (start m n k ∷ es) u → Calls u more v → NoStart more
    → let h = story (begun m n k) es in Fine h → whole h < length h.sent → Nine v

-- a refused lump leaves the bytes that are held, and all others
abbrev pub NotTaken : Type 0
NotTaken =
    (t u : Transfer) (bs : List ℕ) (x : ℕ) → LumpDemands t bs x u → (Good t → ⊥) ⊎ (size_of t < t.taken + length bs) → u.bytes ≡ t.bytes

-- ---- one start and lumps alone

abbrev pub lumps : List (List ℕ) → List Event
lumps [] = []
lumps (bs ∷ bss) = lump bs ∷ lumps bss

abbrev pub joined : List (List ℕ) → List ℕ
joined [] = []
joined (bs ∷ bss) = bs ++ joined bss

-- how a finish ends by the joined bytes B
pub record ByLength (m n k : ℕ) (B out : List ℕ) (a : ReadAnswer) (after : List ℕ) : Type 0 where
  pub as_long : Below 256 B → length B ≡ size m n k → Read m n k (cells_of m n k B) (counters_of m n k B) out a after
  pub shorter : length B < size m n k → RefusedWith 8 out a after
  pub longer : size m n k < length B → RefusedWith 9 out a after

abbrev pub Joined : Type 0
Joined =
    (t u : Transfer) (m n k : ℕ) (bss : List (List ℕ)) (out : List ℕ) (a : ReadAnswer) (after : List ℕ) → InRange m n k → length out ≡ m
    → Calls t (start m n k ∷ lumps bss) u → FinishesBy u out a after → ByLength m n k (joined bss) out a after

-- two ways to cut the same bytes end the same
abbrev pub TwoCuttings : Type 0
TwoCuttings =
    (t u t' u' : Transfer) (m n k : ℕ) (bss css : List (List ℕ)) (out : List ℕ) (a a' : ReadAnswer) (x x' : List ℕ) → joined bss ≡ joined css
    → Calls t (start m n k ∷ lumps bss) u → Calls t' (start m n k ∷ lumps css) u' → FinishesBy u out a x → FinishesBy u' out a' x' → (a ≡ a') × (x ≡ x')

-- ---- what does not count

-- how the bytes are cut, and what lies between: sequences that tell the same story end the same
abbrev pub AnyCutting : Type 0
AnyCutting =
    (t u t' u' : Transfer) (m n k m' n' k' : ℕ) (es es' : List Event) (out : List ℕ) (a a' : ReadAnswer) (x x' : List ℕ)
    → story (begun m n k) es ≡ story (begun m' n' k') es' → Calls t (start m n k ∷ es) u → Calls t' (start m' n' k' ∷ es') u'
    → FinishesBy u out a x → FinishesBy u' out a' x' → (a ≡ a') × (x ≡ x')

-- a lump of no bytes leaves any record as it is
abbrev pub EmptyLump : Type 0
EmptyLump = (t u : Transfer) (x : ℕ) → LumpDemands t [] x u → u ≡ t

-- so does a finish: calls with it left out are calls from the same record to the same record
abbrev pub FinishBetween : Type 0
FinishBetween = (t u : Transfer) (es es' : List Event) (out : List ℕ) → Calls t (es ++ finish out ∷ es') u → Calls t (es ++ es') u

-- nothing before a start counts
abbrev pub StartsAfresh : Type 0
StartsAfresh = (h : Story) (m n k : ℕ) (es es' : List Event) → story h (es ++ start m n k ∷ es') ≡ story (begun m n k) es'

-- ---- 1 and 9 stay until a start, whoever made the record: calls without one leave it as it is

abbrev pub Refused : Transfer → Type 0
Refused t = (Good t → ⊥) ⊎ (size_of t < t.taken)

abbrev pub Stays : Type 0
Stays = (t u : Transfer) (es : List Event) → Refused t → NoStart es → Calls t es u → u ≡ t
