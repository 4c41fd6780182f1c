use Rattle.std.proofs.Common.{◌∙◌, rules}
use Rattle.figure.proofs.Points.{at_points}
use Rattle.figure.proofs.laws.points_answer_as_ticks.Goals as goal

pub returns : goal.returns
returns c =
    let rule = at_points c.args.operation c.args.a c.args.b in
    record { rule = rule; answer = (search rules) ∙ rule }
