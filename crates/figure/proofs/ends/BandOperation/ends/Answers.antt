use Rattle.std.proofs.Common.{rules}
use Rattle.figure.proofs.Orders.{in_order_as}
use Rattle.figure.proofs.ends.BandOperation.ends.Goals as goal

pub returns-in-Add-clause-ordered : goal.returns-in-Add-clause-ordered
returns-in-Add-clause-ordered c =
    in_order_as c.args.self.operation c.args.self.left c.args.self.right c.end_by_end.result (search rules)

pub returns-in-Mul-clause-ordered : goal.returns-in-Mul-clause-ordered
returns-in-Mul-clause-ordered c =
    in_order_as c.args.self.operation c.args.self.left c.args.self.right c.corners.result (search rules)
