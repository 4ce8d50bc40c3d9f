use mathlib.Core.Path.{◌≡◌, ap, ◌∙◌}
use mathlib.Core.Bool.{Bool, not}
use Prim.Native.Nat.{ℕ, ◌+◌, ◌*◌, ◌^◌}
use native.Mathlib.Omega.{arith}
use lib.Dec.{eqb}
use lib.ListN.{get_or}
use Rattle.bits.specs.Bits.{num}
use Rattle.grid_levels.proofs.StuckLaws.{four_bits}
use Rattle.grid_levels.proofs.stuck.bits_of_four.Goals as goal

pub returns : goal.returns
returns c =
    let a = c.args in
    let f : ℕ → Bool = λ k. not (eqb (get_or a.words.now (a.i + k) 0) 0) in
    let here : a.i ≡ a.i + 0 = omega arith in
    four_bits f c.mark_if.result c.mark_if-2.result c.mark_if-3.result c.mark_if-4.result
    c.mark_if.ensures c.mark_if-2.ensures c.mark_if-3.ensures
    (c.mark_if-4.ensures ∙ ap (λ x. num (not (eqb (get_or a.words.now x 0) 0)) * 2 ^ 0) here)
