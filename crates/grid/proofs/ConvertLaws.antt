-- What a code proof cites at each return of a conversion: from the tests' values and the converted counters to the whole promise. Assumes nothing.
use Prim.Native.Nat.{ℕ, ◌+◌}
use mathlib.Core.Path.{◌≡◌, refl, sym, ◌∙◌}
use mathlib.Core.Bool.{true}
use mathlib.Core.List.{List}
use Rattle.std.specs.Prelude.{Result, Err}
use native.Mathlib.Omega.{arith}
use lib.ListN.{length}
use Rattle.bits.specs.Bits.{Below}
use Rattle.bits.proofs.TestLaws.{and_in}
use Rattle.rdis.proofs.PackingLaws.{width_holds}
use Rattle.grid_sets.specs.Promises as bytewise
use Rattle.grid_sets.proofs.JudgedLaws.{convert_numbers, convert_untouched, convert_bytes}
use Rattle.refusals.proofs.NumberLaws.{number_some}
use Rattle.refusals.specs.Numbers.{number, index, number_of, index_of}
use Rattle.refusals.specs.declared.Refusal.{Refusal}
use Rattle.grid_sets.proofs.RoomLaws.{is_roomy_lem, can_pack}
use Rattle.grid_promises.specs.Conversion.{convert_in_range, convert_sized, convert_number, ConvertInRange, ConvertLengths}
use Rattle.grid_promises.proofs.ConvertLaws.{convert_in_range_lem, convert_sized_lem}
use Rattle.grid_promises.proofs.ConvertDemands.{convert_demands}
use Rattle.grid_promises.proofs.IndexLaws.{no_index, index_is_lem}
use Rattle.grid_checks.specs.Numbers.{convert_judged}
use Rattle.grid_levels.proofs.Returns.{passes, judged_refusal}
use Rattle.grid.specs.Steps.{Converts}

module _ (m n k k' : ℕ) (counters out : List ℕ) (bytes : Below 256 counters) where
  abbrev number_judged : ℕ
  number_judged = convert_judged m n k k' (length counters) (length out)

  -- numbers and lengths that are wrong
  pub convert_judged_lem : (e : Refusal) → number e ≡ number_judged → Converts m n k k' counters out (Err e) out
  unfolding convert_number
  convert_judged_lem e h =
      let (x, other, i) = judged_refusal (convert_in_range m n k k') (convert_sized m n k k' (length counters) (length out)) _ e h in
      convert_demands m n k k' counters out (record { number = number e; index = index e }) out (record {
        number = x;
        index_is = i ∙ sym (no_index k (m + n) counters (number e) other);
        untouched = λ _. refl;
        bytes_are = λ z. absurd (omega (arith, number_some e, z));
      }) bytes

  module _ (z : 0 ≡ number_judged) where
    right : (convert_in_range m n k k' ≡ true) × (convert_sized m n k k' (length counters) (length out) ≡ true)
    right = passes (convert_in_range m n k k') (convert_sized m n k k' (length counters) (length out)) (sym z)

    range : ConvertInRange m n k k'
    range = (convert_in_range_lem m n k k').0 right.0

    lengths : ConvertLengths m n k k' (length counters) (length out)
    lengths = (convert_sized_lem m n k k' (length counters) (length out)).0 right.1

    -- so the counters can be converted: K fits the target's bits
    can : bytewise.convertible k k' m n (length counters) (length out) ≡ true
    unfolding bytewise.convertible
    can = and_in
        (is_roomy_lem k m n (length counters) (record { rows = range.before.rows.1; columns = range.before.columns.1; size = lengths.counter_bytes }))
        (can_pack k' m n k (length out) (omega (arith, range.larger, width_holds k' range.after.levels.1))
        (record { rows = range.after.rows.1; columns = range.after.columns.1; size = lengths.out_bytes }))

    pub convert_done : (c : Result (Unit {0}) Refusal) (after : List ℕ) → bytewise.Convert k k' m n counters out c after → Converts m n k k' counters out c after
    unfolding convert_number bytewise.convert_number
    convert_done c after p =
        let x = convert_numbers k k' m n counters out c after p in
        convert_demands m n k k' counters out (record { number = number_of c; index = index_of c }) after (record {
          number = x.number ∙ rw (can, right.0, right.1);
          index_is = index_is_lem k (m + n) counters (number_of c) (index_of c) x.names x.names_none;
          untouched = convert_untouched k k' m n counters out c after p;
          bytes_are = convert_bytes k k' m n counters out c after p;
        }) bytes
