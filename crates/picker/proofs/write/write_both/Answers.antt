-- Both writes are of the first of an order.
use Rattle.std.proofs.Common.{rules}
use Rattle.std.proofs.lemmas.Iterator.{YieldsList-from_slice}
use Rattle.picker.proofs.Parts.{both_parts_written}
use Rattle.picker.proofs.write.write_both.Goals as goal

pub returns : goal.returns
returns c =
    let one = c.write_first-last.ensures.gives c.args.first.now (YieldsList-from_slice _ (search rules)).runs in
    let two = c.write_first.ensures.gives c.args.second.now (YieldsList-from_slice _ (search rules)).runs in
    rw c.or.ensures (both_parts_written _ _ _ _ _ _ _ _ _ (search rules) one two)
