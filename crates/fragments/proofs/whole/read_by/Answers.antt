use Rattle.std.proofs.Common.{◌+◌, ◌*◌, length}
use mathlib.Core.Path.{◌≡◌, sym, ap, ◌∙◌}
use native.Mathlib.Omega.{arith}
use lib.Seq.{length-take-le}
use Rattle.grid_promises.proofs.OldReads.{longest_counters}
use Rattle.fragment_promises.specs.Transfers.{words_from}
use Rattle.fragments.proofs.CodeLaws.{whole_length, same_read}
use Rattle.fragments.proofs.whole.read_by.Goals as goal
use Rattle.fragments.proofs.whole.read_by.Goals.{After-counter_bytes-from}

-- what the counters' bytes are
long : (b : After-counter_bytes-from) → length b.args.bytes.now ≡ b.counter_bytes-from.result + 8 * b.args.sizes.rows
long b = let s = b.args.sizes in whole_length s.rows s.columns s.k b.counter_bytes-from.result b.args.bytes.now b.counter_bytes-from.ensures b.requires.0

pub words_into-requires : goal.words_into-requires
words_into-requires c =
    let b = (goal.at.words_into-requires c).After-counter_bytes-from in
    let s = c.args.sizes in
    let few = longest_counters s.rows s.columns s.k s.in_range in
    (omega (arith, c.requires.1, s.in_range.rows.1), omega (arith, c.counter_bytes-from.ensures, few), omega (arith, c.requires.1, long b))

pub slice_bounds-read-end : goal.slice_bounds-read-end
slice_bounds-read-end c =
    let b = (goal.at.slice_bounds-read-end c).After-counter_bytes-from in
    sym (length-take-le c.counter_bytes-from.result c.args.bytes.now (omega (arith, long b)))

pub returns : goal.returns
returns c =
    let s = c.args.sizes in
    let from = c.counter_bytes-from in
    same_read s.rows s.columns s.k from.result c.args.bytes.now _ c.args.out.now c.read.result _ from.ensures
    (c.words_into.ensures ∙ ap (λ j. words_from from.result j c.args.bytes.now) c.requires.1) c.read.ensures
