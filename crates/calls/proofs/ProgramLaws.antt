-- Laws of the program as a state. Assumes nothing.
use mathlib.Core.Path.{◌≡◌, refl}
use mathlib.Core.Bool.{not}
use Rattle.std.specs.ControlFlow.{break_value}
use Rattle.std.specs.Option.{is_some}
use Rattle.std.specs.declared.ops.ControlFlow.{ControlFlow}
use Rattle.std.specs.declared.ops.ControlFlow.TheVariants.{Continue, Break}
use Rattle.calls.specs.Program.{goes_on}

pub flow_goes : {B C : Type 0} (f : ControlFlow B C) → goes_on f ≡ not (is_some (break_value f))
flow_goes (Continue x) = refl
flow_goes (Break x) = refl
