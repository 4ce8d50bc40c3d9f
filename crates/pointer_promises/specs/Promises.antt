-- What the two calls promise, for every argument. What a write is to store, its data, is called `wanted`; a name with a prime is a buffer at exit.
-- Theorems.antt says that no second answer keeps them. Assumes nothing.
use Rattle.std.specs.Prelude.{ℕ, ◌+◌, ◌*◌, ◌≤◌, ◌<◌, ◌≡◌, true, false, List, ◌↔◌, ◌≢◌, length}
use Rattle.bits.specs.Bits.{at, bytes}
use Rattle.bits.specs.First.{First}
use Rattle.pointer_promises.specs.Pointer.{pointer, replacement, entry, active, held, shown, after, active_after, stored, encode, read_number, needed, write_number}
use Rattle.pointer_promises.specs.Refusals.{InRange, WriteLengths, Spare, Active, WellFormed, Names, NamedTwice, Unserved, read_refusals, write_refusals}
use Rattle.pointer_promises.specs.declared.ReadAnswer.{ReadAnswer}
use Rattle.pointer_promises.specs.declared.WriteAnswer.{WriteAnswer}

pub record Read (n : ℕ) (cells metadata out : List ℕ) (answer : ReadAnswer) (out' : List ℕ) : Type 0 where
  -- the number, computed
  pub number : answer.number ≡ read_number n (length cells) metadata (length out)
  -- the first refusal that applies, or 0 where none does
  pub first : First (read_refusals n (length cells) metadata (length out)) answer.number
  -- a refusal alters nothing
  pub refused : answer.number ≢ 0 → out' ≡ out
  -- else each position's bit is what it shows
  pub filled : answer.number ≡ 0 → out' ≡ bytes 64 (λ p. shown (held n metadata) p (at cells p))
  -- which is its cell where no active entry names it, and else that entry's replacement bit
  pub shows : answer.number ≡ 0 → (a p : ℕ) → Active n metadata a → p < 512 → ((e : ℕ) → e < a → Names metadata e p → ⊥) → at out' p ≡ at cells p
  pub replaces : answer.number ≡ 0 → (a e p : ℕ) → Active n metadata a → e < a → p < 512 → Names metadata e p → at out' p ≡ at metadata (1 + 10 * e + 9)

pub record Write (n : ℕ) (wanted mask values cells metadata : List ℕ) (answer : WriteAnswer) (cells' metadata' : List ℕ) : Type 0 where
  -- the number, computed
  pub number : answer.number ≡ write_number n wanted mask values (length cells) metadata
  -- the first refusal that applies, or 0 where none does
  pub first : First (write_refusals n wanted mask values (length cells) metadata) answer.number
  -- a refusal alters nothing and counts nothing
  pub refused : answer.number ≢ 0 → (answer.active ≡ 0) × (answer.new ≡ 0) × (cells' ≡ cells) × (metadata' ≡ metadata)
  -- else the cells, the metadata and the counts are exactly these
  pub stores : answer.number ≡ 0 → cells' ≡ bytes 64 (stored wanted mask values)
  pub encodes : answer.number ≡ 0 → metadata' ≡ encode n (after wanted mask values (held n metadata))
  pub counts : answer.number ≡ 0 → (answer.active ≡ active_after n wanted mask values metadata) × (answer.new ≡ needed wanted mask values (held n metadata))
  -- where none of 1 to 5 applies: 6 exactly where the active entries and the unserved positions are more than n
  pub full : InRange n → WriteLengths n (length wanted) (length mask) (length values) (length cells) (length metadata) → (Spare n metadata → ⊥)
      → WellFormed n metadata → (NamedTwice n metadata → ⊥) → (answer.number ≡ 6) ↔ (n < active n metadata + needed wanted mask values (held n metadata))
  -- a sound cell takes its wanted bit, a stuck one holds its stuck value
  pub sound : answer.number ≡ 0 → (p : ℕ) → p < 512 → at mask p ≡ false → at cells' p ≡ at wanted p
  pub stuck : answer.number ≡ 0 → (p : ℕ) → p < 512 → at mask p ≡ true → at cells' p ≡ at values p
  -- the metadata says how many entries are active, before and afterwards, and the new ones are the difference
  pub counted : answer.number ≡ 0 → Active n metadata (active n metadata)
  pub noted : answer.number ≡ 0 → Active n metadata' answer.active
  pub adds : answer.number ≡ 0 → answer.active ≡ active n metadata + answer.new
  -- an active entry keeps its place and pointer, and each entry has the wanted bit of its position
  pub kept : answer.number ≡ 0 → (e : ℕ) → e < active n metadata → pointer (entry metadata' e) ≡ pointer (entry metadata e)
  pub renews : answer.number ≡ 0 → (e : ℕ) → e < answer.active → replacement (entry metadata' e) ≡ at wanted (pointer (entry metadata' e))
  -- the new ones name unserved positions, in rising order
  pub serves : answer.number ≡ 0 → (e : ℕ) → active n metadata ≤ e → e < answer.active
      → Unserved wanted mask values metadata (active n metadata) (pointer (entry metadata' e))
  pub rises : answer.number ≡ 0 → (e f : ℕ) → active n metadata ≤ e → e < f → f < answer.active → pointer (entry metadata' e) < pointer (entry metadata' f)
  -- a read of what was left, into any output of the right length, answers 0 and gives the wanted bits
  pub reads : answer.number ≡ 0 → (out : List ℕ) → length out ≡ 64 → Read n cells' metadata' out (record { number = 0 }) wanted
