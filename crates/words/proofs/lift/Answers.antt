use borrow.Author.Rules.{rules}
use mathlib.Core.Path.{◌≡◌}
use Rattle.words.proofs.LoadLaws.{lifted}
use Rattle.words.proofs.lift.Goals as goal

pub returns : goal.returns
returns c =
    let same : c.from.result ≡ c.args.x = search rules in
    rw same (lifted c.args.x c.args.up (search rules) c.requires)
