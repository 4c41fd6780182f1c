use Rattle.std.proofs.Common.{rules}
use Rattle.figure.proofs.Ranges.{both_ranged}
use Rattle.figure.proofs.band.Bands.from_ends.Goals as goal

pub returns : goal.returns
returns c = both_ranged c.args.ends c.in_ok-low.low c.in_ok-high.high _ c.in_order.ensures.band (search rules) (search rules)
