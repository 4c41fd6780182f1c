use Rattle.std.proofs.Common.{◌≡◌, length, string_bytes}
use Rattle.listing.specs.Report.{rows_text}
use Rattle.listing.proofs.report.rows.Given as goal

abbrev pub invariant-loop-place : goal.invariant-loop-place
invariant-loop-place l = string_bytes l.out ≡ rows_text l.words (length l.counts) l.place
