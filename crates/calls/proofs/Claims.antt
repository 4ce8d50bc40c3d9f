-- A proof of each claim. Assumes nothing.
use Rattle.calls.specs.Claims.{Claims}
use Rattle.calls.proofs.StreamLaws.{call_within, call_more, short_few}
use Rattle.calls.proofs.CutLaws.{may_be_call}
use Rattle.calls.proofs.BadLaws.{reason_more, reason_tag, reason_cut}
use Rattle.calls.proofs.LineLaws.{one_line, line_more, line_short, one_printed}
use Rattle.calls.proofs.RunLaws.{calls_first}
use Rattle.calls.proofs.ScriptLaws.{one_script}

pub claims : Claims
claims = record {
  ends_within = call_within;
  end_stays = call_more;
  cut_is_short = short_few;
  may_be_call = may_be_call;
  reason_stays = reason_more;
  reason_is_tag = reason_tag;
  reason_is_cut = reason_cut;
  one_line = one_line;
  line_stays = line_more;
  line_is_short = line_short;
  one_printed = one_printed;
  one_script = λ m n k bytes script out after after' numbers numbers' a a'. one_script;
  calls_come_first = calls_first;
}
