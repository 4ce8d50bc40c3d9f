use native.Mathlib.Omega.{arith}
use mathlib.Core.Path.{◌≡◌, sym, ap, ◌∙◌}
use Prim.Native.Nat.{◌+◌}
use Rattle.std.specs.Prelude.{Ok, get_or, length}
use Rattle.std.proofs.lemmas.Result.{err_from_is_err_and}
use Rattle.rdis.specs.Packing.{width, counter}
use Rattle.grid_sets.specs.Sets.{sets_of}
use Rattle.grid_sets.specs.Planes.{AreThrees}
use Rattle.grid_sets.proofs.PlaneLaws.{threes_ext}
use Rattle.grid_sets.proofs.RoomLaws.{Room}
use Rattle.grid_counters.specs.Steps.{spare_judged}
use Rattle.grid_counters.proofs.PromiseLaws.{counter_few}
use Rattle.grid_counters.proofs.ConvertLaws.{not_held, not_packable, convert_spare, convert_above, convert_done}
use Rattle.grid_counters.proofs.conversion.convert.Goals as goal
use Rattle.grid_counters.proofs.conversion.convert.Goals.{In_ok-held, After-none_above}

-- what is held are the arguments
room : (i : In_ok-held) → let a = i.args in Room a.k a.rows a.columns (length a.bytes.now)
room i =
    let h = i.in_ok-held.held in
    let same = i.in_ok-held.ensures.ok in
    let r : Room h.k h.rows h.columns (length h.bytes.now) = record { rows = h.few_rows; columns = h.few_columns; size = h.sized } in
    rw (same.0, same.1, same.2, same.3) at r

spare : (s : After-none_above) → let a = s.args in spare_judged (width a.k) (a.rows + a.columns) a.bytes.now ≡ Ok tt
spare s = let same = s.in_ok-held.ensures.ok in sym (rw (same.0, same.1, same.2, same.3) at s.spare_clear.ensures) ∙ s.in_ok-spare_clear.was

first_planes : (n : After-none_above) → let a = n.args in AreThrees 64 (counter (width a.k) a.bytes.now) n.planes-first.result
first_planes n =
    let a = n.args in
    let same = n.in_ok-held.ensures.ok in
    let f = counter (width a.k) a.bytes.now in
    threes_ext 64 _ f _ (λ i _. ap f (omega arith)) (rw (same.0, same.3) at n.planes-first.ensures)

second_planes : (n : After-none_above) → let a = n.args in AreThrees 64 (λ i. counter (width a.k) a.bytes.now (64 + i)) n.planes-second.result
second_planes n = let same = n.in_ok-held.ensures.ok in rw (same.0, same.3) at n.planes-second.ensures

-- which are above K
first_above : (n : After-none_above) → let a = n.args in get_or n.thresholds.result a.k 0 ≡ get_or (sets_of 64 (counter (width a.k) a.bytes.now)) a.k 0
first_above n = let a = n.args in ap (λ s. get_or s a.k 0) (n.thresholds.ensures 64 _ (counter_few a.k a.bytes.now) (first_planes n))

second_above : (n : After-none_above) → let a = n.args in get_or n.thresholds-2.result a.k 0 ≡ get_or (sets_of 64 (λ i. counter (width a.k) a.bytes.now (64 + i))) a.k 0
second_above n = let a = n.args in ap (λ s. get_or s a.k 0) (n.thresholds-2.ensures 64 _ (λ t. counter_few a.k a.bytes.now (64 + t)) (second_planes n))

pub returns-in_err-held : goal.returns-in_err-held
returns-in_err-held c =
    let a = c.args in
    let p = err_from_is_err_and c.from_residual.result c.from_residual.ensures.1 in
    let e = c.in_err-held.ensures.err in
    rw (p.1, p.2, e.0) (not_held a.k a.to a.rows a.columns a.bytes.now a.out.now e.1)

pub returns-then-not-packable : goal.returns-then-not-packable
returns-then-not-packable c = let a = c.args in not_packable a.k a.to a.rows a.columns a.bytes.now a.out.now (sym c.if-not-packable.ensures)

pub returns-in_err-spare_clear : goal.returns-in_err-spare_clear
returns-in_err-spare_clear c =
    let a = c.args in
    let same = c.in_ok-held.ensures.ok in
    let p = err_from_is_err_and c.from_residual-in_err-spare_clear.result c.from_residual-in_err-spare_clear.ensures.1 in
    rw (p.1, p.2)
    (convert_spare a.k a.to a.rows a.columns a.bytes.now a.out.now (room (goal.at.returns-in_err-spare_clear c).In_ok-held) (sym c.if-not-packable.ensures) _
    (sym (rw (same.0, same.1, same.2, same.3) at c.spare_clear.ensures) ∙ c.in_err-spare_clear.was))

pub returns-in_err-none_above : goal.returns-in_err-none_above
returns-in_err-none_above c =
    let a = c.args in
    let at = goal.at.returns-in_err-none_above c in
    let p = err_from_is_err_and c.from_residual-in_err-none_above.result c.from_residual-in_err-none_above.ensures.1 in
    rw (p.1, p.2)
    (convert_above a.k a.to a.rows a.columns a.bytes.now a.out.now (room at.In_ok-held) (sym c.if-not-packable.ensures) (spare at.After-none_above) _ _ (first_above at.After-none_above) (second_above at.After-none_above) _
    (sym c.none_above.ensures ∙ c.in_err-none_above.was))

pub returns : goal.returns
returns c =
    let a = c.args in
    let at = goal.at.returns c in
    convert_done a.k a.to a.rows a.columns a.bytes.now a.out.now (room at.In_ok-held) (sym c.if-not-packable.ensures) (spare at.After-none_above) _ _ (first_above at.After-none_above) (second_above at.After-none_above)
    (sym c.none_above.ensures ∙ c.in_ok-none_above.was) _ _ (first_planes at.After-none_above) (second_planes at.After-none_above) c.fill_planes.new.out (omega arith) c.fill_planes.ensures
