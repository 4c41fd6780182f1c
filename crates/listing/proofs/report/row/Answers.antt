use Rattle.std.proofs.Common.{IsUtf8, sym, subst, rules}
use Rattle.listing.proofs.Digits.{line_is_text}
use Rattle.listing.proofs.report.row.Goals as goal

pub unwrap-line-requires : goal.unwrap-line-requires
unwrap-line-requires c = let text = subst IsUtf8 (sym c.write-digits.ensures.value) (line_is_text _) in search rules
