-- What it is to store the bytes of a word in a list of bytes. Assumes nothing.
use Rattle.std.specs.Prelude.{ℕ, ◌+◌, ◌*◌, ◌<◌, ◌≤◌, ◌≡◌, Bool, List, length, get_or}
use Rattle.bits.specs.Bits.{has, word, Below}

-- the first q bytes are made of the bits f, or all bytes where there are fewer
abbrev pub Filled : ℕ → (ℕ → Bool) → List ℕ → Type 0
Filled q f bs = (t : ℕ) → t < q → t < length bs → get_or bs t 0 ≡ word 8 (λ k. f (8 * t + k))

-- the n lowest bytes of v are stored from byte q on, as far as there are bytes
pub record Stores (q n v : ℕ) (before after : List ℕ) : Type 0 where
  -- where the first q bytes are made of the bits f, and those bytes of v of the bits that follow, the first q + n are made of f
  pub fills : (f : ℕ → Bool) → Filled q f before → ((i : ℕ) → i < 8 * n → has v i ≡ f (8 * q + i)) → Filled (q + n) f after
  -- the bytes after them are as they were
  pub keeps : (t : ℕ) → q + n ≤ t → get_or after t 0 ≡ get_or before t 0

-- no second list of as many bytes is left
abbrev pub OneStored : Type 0
OneStored =
    (q n v : ℕ) (before after after' : List ℕ) → Below 256 before → length after ≡ length before → length after' ≡ length before
    → Stores q n v before after → Stores q n v before after' → after ≡ after'
