-- The refusals of numbers and lengths, for a read, a plan, a store and a conversion. m are the rows, n the columns, k is K, k' a conversion's target, and the
-- others are lengths. Assumes nothing.
use Rattle.std.specs.Prelude.{ℕ, Bool, not, cond, ◌&&◌, eqb}
use Rattle.grid_promises.specs.Calls.{in_range, counters_sized}
use Rattle.grid_promises.specs.Conversion.{convert_in_range, convert_sized}

-- 1, 2 or else 0, where a test tells whether every buffer of words has as many as there are rows
unfoldable pub judged : ℕ → ℕ → ℕ → ℕ → Bool → ℕ
judged m n k counters words = cond (not (in_range m n k)) 1 (cond (words && counters_sized m n k counters) 0 2)

abbrev pub read_judged : ℕ → ℕ → ℕ → ℕ → ℕ → ℕ → ℕ
read_judged m n k cells counters out = judged m n k counters (eqb cells m && eqb out m)

abbrev pub plan_judged : ℕ → ℕ → ℕ → ℕ → ℕ → ℕ → ℕ → ℕ
plan_judged m n k d mask values counters = judged m n k counters (eqb d m && (eqb mask m && eqb values m))

abbrev pub store_judged : ℕ → ℕ → ℕ → ℕ → ℕ → ℕ → ℕ → ℕ → ℕ
store_judged m n k d mask values counters cells = judged m n k counters ((eqb d m && (eqb mask m && eqb values m)) && eqb cells m)

abbrev pub convert_judged : ℕ → ℕ → ℕ → ℕ → ℕ → ℕ → ℕ
convert_judged m n k k' counters out = cond (not (convert_in_range m n k k')) 1 (cond (convert_sized m n k k' counters out) 0 2)
