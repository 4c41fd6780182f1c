use Rattle.std.proofs.Common.{arith}
use Rattle.std.proofs.lemmas.Result.{IfOk-weaker}
use Rattle.listing.proofs.report.report.Goals as goal

pub returns-clause-enough : goal.returns-clause-enough
returns-clause-enough c =
    let table = c.read_table-lines.new.table in
    let lines = c.read_table-lines.result in
    IfOk-weaker c.told.result _ _ (λ out h more long. (table, lines, c.read_table-lines.ensures.enough more (omega arith), h)) c.told.ensures
