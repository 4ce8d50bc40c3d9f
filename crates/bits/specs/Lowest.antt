-- The answer of a call that may be refused for several reasons, each with its number. Assumes nothing.
use Rattle.std.specs.Prelude.{ℕ, ◌<◌, ◌≡◌}

-- x is the lowest number that applies, or 0 where none does
pub record Lowest (P : ℕ → Type 0) (x : ℕ) : Type 0 where
  pub applies : 0 < x → P x
  pub lowest : (y : ℕ) → y < x → P y → ⊥
  pub none : x ≡ 0 → (y : ℕ) → P y → ⊥
