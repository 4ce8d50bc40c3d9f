use Rattle.std.proofs.Common.{◌≡◌, ◌∙◌, ap, ◌^◌, leb, bit_or, rules}
use Rattle.std.specs.List.{fold}
use Rattle.grid_checks.proofs.JudgeLaws.{joined_reaches}
use Rattle.grid_checks.proofs.joined.Goals as goal

pub returns : goal.returns
returns c n =
    let e : c.fold.result ≡ fold (λ all w. bit_or w all) 0 c.args.words.now = search rules in
    ap (leb (2 ^ n)) e ∙ joined_reaches n c.args.words.now
