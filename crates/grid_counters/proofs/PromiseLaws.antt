-- What a code proof cites at each return: from the sets there to the whole promise. Assumes nothing.
use Prim.Native.Nat.{ℕ, ◌+◌, ◌<◌}
use mathlib.Core.Path.{◌≡◌, refl, ap, ap₂, ◌∙◌}
use mathlib.Core.Bool.{false, not, cond}
use mathlib.Core.List.{List}
use native.Mathlib.Nat.{mod-lt, lt_of_lt_of_le}
use lib.ListN.{length, get_or, replicate}
use lib.Pow.{pow_pos}
use Rattle.std.specs.Prelude.{Result, Err}
use Rattle.std.specs.Result.{result_and}
use Rattle.refusals.specs.declared.Refusal.{Refusal}
use Rattle.refusals.specs.declared.Refusal.TheVariants.{WrongLength, BitPastEnd}
use Rattle.bits.proofs.TestLaws.{clash}
use Rattle.rdis.specs.Packing.{width, counter, row_counter, column_counter, spare_clear, above, first_above}
use Rattle.rdis.proofs.PackingLaws.{bits_few}
use Rattle.grid_sets.specs.Sets.{sets_of}
use Rattle.grid_sets.specs.Promises.{roomy, counters_judged, unpack_judged, Unpack}
use Rattle.grid_sets.proofs.RoomLaws.{Room, is_roomy_lem}
use Rattle.grid_counters.specs.Steps.{spare_judged, lines_judged}
use Rattle.grid_counters.proofs.JudgeLaws.{lines_are, spare_first}

pub not_roomy : (k m n : ℕ) (bs : List ℕ) → roomy k m n (length bs) ≡ false → Unpack k m n bs (record { judged = Err WrongLength; rows = replicate 8 0; columns = replicate 8 0 })
unfolding unpack_judged
not_roomy k m n bs h = record { judged = rw h; no_rows = λ _. refl; no_columns = λ _. refl; row_sets = λ e. clash e h; column_sets = λ e. clash e h }

pub counter_few : (k : ℕ) (bs : List ℕ) (t : ℕ) → counter (width k) bs t < 8
unfolding counter
counter_few k bs t = lt_of_lt_of_le (mod-lt _ (pow_pos (width k))) (bits_few k)

-- the judgment of bytes of the right length, by that of their spare bits and of the lines above k
pub judged : (k m n : ℕ) (bs r c : List ℕ) → Room k m n (length bs) → r ≡ sets_of m (row_counter (width k) bs) → c ≡ sets_of n (column_counter (width k) m bs)
    → (s l j : Result (Unit {0}) Refusal) → s ≡ spare_judged (width k) (m + n) bs → l ≡ lines_judged (get_or r k 0) (get_or c k 0) m → j ≡ result_and s l
    → Unpack k m n bs (record { judged = j; rows = r; columns = c })
unfolding unpack_judged counters_judged above first_above
judged k m n bs r c few er ec s l j es el e =
    let held = is_roomy_lem k m n (length bs) few in
    record {
      judged = rw held
          (e ∙ ap₂ result_and es el ∙ spare_first (spare_clear (width k) (m + n) bs) _
          ∙ ap (cond (not (spare_clear (width k) (m + n) bs)) (Err BitPastEnd)) (rw (er, ec) (lines_are m n k (counter (width k) bs) (counter_few k bs) few.rows few.columns)));
      no_rows = λ h. clash held h;
      no_columns = λ h. clash held h;
      row_sets = λ _. er;
      column_sets = λ _. ec;
    }
