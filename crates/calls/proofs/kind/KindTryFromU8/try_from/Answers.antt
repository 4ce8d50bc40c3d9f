use mathlib.Core.Path.{refl, sym, ap}
use native.Mathlib.Omega.{arith}
use Rattle.calls.specs.Format.{has_none}
use Rattle.calls.proofs.FormatLaws.{no_form_past}
use Rattle.calls.proofs.kind.KindTryFromU8.try_from.Goals as goal

pub returns-in_default : goal.returns-in_default
returns-in_default c = (refl, ap has_none (sym (no_form_past _ (λ h. omega arith))))
