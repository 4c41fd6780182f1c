use Rattle.std.proofs.Common.{◌-◌, ◌/◌, ◌^◌, ap, ◌∙◌}
use lib.Bits.{bit_and}
use Rattle.std.proofs.lemmas.Nat.{and_mask, one_shl}
use Rattle.formula.proofs.word.bits.Goals as goal

pub returns-clause-value : goal.returns-clause-value
returns-clause-value c =
    let high = c.args.word / 2 ^ c.args.low in
    ap (λ many. bit_and high (many - 1)) (one_shl c.args.many 32 c.requires.many) ∙ and_mask high c.args.many
