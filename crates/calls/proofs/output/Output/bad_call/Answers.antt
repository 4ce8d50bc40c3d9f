use Rattle.wire.proofs.TextLaws.{put_both}
use Rattle.calls.specs.Bad.{bad_call}
use Rattle.calls.proofs.BadLaws.{put_line}
use Rattle.calls.proofs.output.Output.bad_call.Goals as goal

pub returns : goal.returns
unfolding bad_call
returns c = put_line (put_both c.text.ensures c.number.ensures) (put_both c.text-2.ensures c.number-2.ensures) c.text-3.ensures c.reason.ensures c.end_line.ensures
