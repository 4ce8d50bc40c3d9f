-- What the private functions promise each other. No public contract cites these. Assumes nothing.
use Rattle.std.specs.Prelude.{ℕ, zero, suc, ◌+◌, ◌/◌, ◌%◌, ◌≤◌, ◌<◌, ◌≡◌, Bool, true, not, cond, ◌&&◌, List, ◌++◌, map, length, get_or, eqb}
use Rattle.std.specs.Bool.{xor}
use Rattle.bits.specs.Bits.{has, at}
use Rattle.pointer_promises.specs.Pointer.{size, active, spare, formed, held, names, repeats, positions, renewed, after, active_after, slot, needed}

-- the metadata's bits after nine others, as digits of ten bits: the full bit is the highest of the first, and each entry is one of the others
unfoldable pub digit : ℕ → List ℕ → ℕ → ℕ
digit n es zero = cond (eqb (length es) n) 512 0
digit n es (suc e) = slot n es e

-- bit p of the metadata that such digits are cut into
abbrev pub digit_bit : List ℕ → ℕ → Bool
digit_bit ds p = has (get_or ds ((p + 9) / 10) 0) ((p + 9) % 10)

-- the digits after the first are the entries es with their wanted bits, and zeros after these
pub record Noted (wanted ds es : List ℕ) : Type 0 where
  pub long : length ds ≡ 12
  pub first : get_or ds 0 0 ≡ 0
  pub entries : (e : ℕ) → e < length es → get_or ds (suc e) 0 ≡ renewed wanted (get_or es e 0)
  pub rest : (e : ℕ) → length es ≤ e → get_or ds (suc e) 0 ≡ 0

-- with the full bit or the count, ds becomes the digits of the metadata of a entries
abbrev pub Digits : ℕ → List ℕ → ℕ → List ℕ → Type 0
Digits n ds a ds' = (wanted es : List ℕ) → length es ≡ a → Noted wanted ds es → (d : ℕ) → get_or ds' d 0 ≡ digit n (map (renewed wanted) es) d

-- n is in range, the metadata m has the length for it, and a of the n entries are active
pub record Counted (n : ℕ) (m : List ℕ) (a : ℕ) : Type 0 where
  pub least : 1 ≤ n
  pub most : n ≤ 10
  pub long : length m ≡ size n
  pub count : a ≡ active n m
  pub few : a ≤ n

-- the numbers 3 and 4, and the number 5, of metadata m
abbrev pub arranged : ℕ → List ℕ → ℕ
arranged n m = cond (spare n m) 3 (cond (formed n m) 0 4)

abbrev pub shared : ℕ → List ℕ → ℕ
shared n m = cond (repeats (held n m)) 5 0

-- served has the positions that the active entries name
pub record Served (n : ℕ) (m served : List ℕ) : Type 0 where
  pub bits : (p : ℕ) → at served p ≡ names (held n m) p

-- what a call finds in the metadata m that it accepts: the row n', m', and the positions served
pub record Found (n : ℕ) (fixed : Bool) (m : List ℕ) (n' : ℕ) (m' served : List ℕ) : Type 0 where
  pub entries : n' ≡ n
  pub bytes : m' ≡ m
  pub sized : fixed ≡ true
  pub marks : Served n m served

-- position p is stuck at the other value than the wanted one, and not marked as served
abbrev pub unserved_at : List ℕ → List ℕ → List ℕ → List ℕ → ℕ → Bool
unserved_at wanted mask values served p = at mask p && xor (at wanted p) (at values p) && not (at served p)

-- the same of position k of byte i, where s is the byte of served positions
abbrev pub unserved_in : List ℕ → List ℕ → List ℕ → ℕ → ℕ → ℕ → Bool
unserved_in wanted mask values s i k = has (get_or mask i 0) k && xor (has (get_or wanted i 0) k) (has (get_or values i 0) k) && not (has s k)

-- the entries es, and one for each position that f says is unserved, are a in all, at most n
pub record Planned (n : ℕ) (wanted : List ℕ) (f : ℕ → Bool) (es : List ℕ) (a : ℕ) (ds : List ℕ) : Type 0 where
  pub few : a ≤ n
  pub count : a ≡ length (es ++ positions 512 f)
  pub noted : Noted wanted ds (es ++ positions 512 f)

-- they are more than n
pub record TooMany (n : ℕ) (f : ℕ → Bool) (es : List ℕ) : Type 0 where
  pub over : n < length (es ++ positions 512 f)

-- what a write is to store: into the cells what was lent, and a entries as the digits ds
pub record Made (n : ℕ) (wanted mask values : List ℕ) (cells : ℕ) (m wanted' mask' values' : List ℕ) (a new : ℕ) (ds : List ℕ) : Type 0 where
  pub wants : wanted' ≡ wanted
  pub masks : mask' ≡ mask
  pub holds : values' ≡ values
  pub stores : cells ≡ 64
  pub most : n ≤ 10
  pub notes : length m ≡ size n
  pub count : a ≡ active_after n wanted mask values m
  pub adds : new ≡ needed wanted mask values (held n m)
  pub digits : (d : ℕ) → get_or ds d 0 ≡ digit n (after wanted mask values (held n m)) d
