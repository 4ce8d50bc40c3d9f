-- The one test: every call of the tables comes to its line; so does whatever meets its promise. Assumes nothing.
use mathlib.Core.Path.{refl, subst}
use mathlib.Core.Bool.{xor}
use mathlib.Core.List.{List, [], ◌∷◌, head-eq_of_cons-eq, tail-eq_of_cons-eq}
use lib.Count.{ones, ones_in}
use Rattle.bits.specs.Bits.{some, first, sum, most, list, has, word, words, at, bytes, number, digits}
use Rattle.rdis.specs.Block.{bit, differs, faulty, count, faults}
use Rattle.rdis.specs.Levels.{whole, takes, taken, left, levels, plan}
use Rattle.rdis.specs.Cells.{flips, holds, stored, reading, misreads}
use Rattle.rdis.specs.Packing.{width, bytes_for, packed, counter, unpacked, above, first_above, spare_clear}
use Rattle.grid_promises.specs.Calls.{in_range, counters_sized, past, read_number, plan_number, store_number, bad_index}
use Rattle.grid_promises.specs.Conversion.{convert_in_range, convert_sized, convert_number}
use Rattle.fragment_promises.specs.Transfers.{size, words_from, standing, finish_number, lumped}
use Rattle.pointer_promises.specs.Pointer as pointer
use Rattle.cases.specs.Lines.{line}
use Rattle.cases.specs.Table.{Row, table}
use Rattle.cases.specs.Edges.{row_edges, read_edges, plan_edges, store_edges}
use Rattle.cases.specs.IndexEdges.{index_edges}
use Rattle.cases.specs.LevelEdges.{level_edges}
use Rattle.cases.specs.ConvertEdges.{convert_edges}
use Rattle.cases.specs.FragmentEdges.{fragment_edges}
use Rattle.cases.specs.Statements.{EveryCase, EveryEdge, Computed, Promised, Every, EveryPromise}
use Rattle.cases.proofs.PromiseLaws.{promised}

computed : EveryCase × EveryEdge
unfolding line some first sum most list has word words at bytes number digits bit differs faulty count faults ones ones_in whole takes taken left levels plan flips holds stored reading misreads width bytes_for packed counter unpacked above first_above bad_index spare_clear in_range counters_sized past read_number plan_number store_number convert_in_range convert_sized convert_number xor pointer.entry pointer.spare pointer.active pointer.unary pointer.idle pointer.formed pointer.held pointer.names pointer.repeats pointer.shown pointer.unserved pointer.positions pointer.renewed pointer.after pointer.active_after pointer.stored pointer.slot pointer.metadata_bit pointer.encode pointer.measured pointer.verdict pointer.read_number pointer.needed pointer.write_judged pointer.write_number size words_from standing finish_number lumped
computed = (refl, (refl, refl, refl, refl, refl, refl, refl, refl))

pub every_case : EveryCase
every_case = computed.0

pub every_edge : EveryEdge
every_edge = computed.1

-- rows whose calls come to their lines are promised
each : (rs : List Row) → Computed rs → Every rs
each [] e = tt
each (r ∷ rs) e = (subst (Promised r.call) (head-eq_of_cons-eq e) (promised r.call), each rs (tail-eq_of_cons-eq e))

pub every_promise : EveryPromise
every_promise =
    let (rows, reads, plans, stores, names, levels, converts, transfers) = every_edge in (
      each table every_case,
      each row_edges rows,
      each read_edges reads,
      each plan_edges plans,
      each store_edges stores,
      each index_edges names,
      each level_edges levels,
      each convert_edges converts,
      each fragment_edges transfers,
    )
