use Rattle.calls.proofs.CallLaws.{made}
use Rattle.calls.proofs.call.call.Goals as goal

pub returns-clause-printed : goal.returns-clause-printed
returns-clause-printed c = let k = c.in_ok-call.call in made k.kind k.ends k.whole c.in_ok-call.ensures c.answer.ensures c.end_line.ensures
