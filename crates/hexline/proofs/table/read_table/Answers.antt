-- A turn reads one line or ends at it.
use Rattle.std.proofs.Common.{◌≡◌, ◌<◌, length, get_or, arith, rules, tests}
use Rattle.std.proofs.lemmas.List.{length_push}
use Rattle.std.proofs.lemmas.Fn.{always_returns_same}
use Rattle.std.proofs.lemmas.Iterator.Consumers.{YieldsList-turn, YieldsList-end}
use Rattle.std.proofs.lemmas.Result.{err_from_is_err_and}
use Rattle.hexline.specs.Lines.{Whole, lines_of}
use Rattle.hexline.proofs.Cuts.{YieldsList-from_split_inclusive}
use Rattle.hexline.proofs.Steps.{one_more, stop}
use Rattle.hexline.proofs.Longer.{whole_longer, stopped_longer}
use Rattle.hexline.proofs.table.read_table.Goals as goal
use Rattle.hexline.proofs.table.read_table.Goals.{After-without_newline}

-- the line of this turn is the text's line of this number
here : (c : After-without_newline) → (c.loop-line.count < length (lines_of c.args.text.now)) × (c.without_newline.result.now ≡ get_or (lines_of c.args.text.now) c.loop-line.count c.without_newline.result.now)
here c =
    let turn = YieldsList-turn (YieldsList-from_split_inclusive _ _ c.args.text.now (cc) (always_returns_same _ _ _ (λ a r q k. search (rules, tests)))) c.loop-line.yielded _ c.loop-line.yielded_by _ _ c.in-Some.line c.in-Some.is c.next.ensures.steps in
    rw (c.loop-line.invariant.count, c.without_newline.ensures) turn

pub loop-line-preserved : goal.loop-line-preserved
loop-line-preserved c =
    let read = one_more _ _ _ _ _ c.loop-line.invariant.room (omega arith) c.loop-line.invariant.head (here (goal.at.loop-line-preserved c).After-without_newline) _ c.in_ok-read_line.ensures in
    record { count = omega (arith, length_push c.loop-line.yielded c.in-Some.line); room = omega (arith, c.in_ok-read_line.ensures.0); head = read }

pub returns-in_err-read_line : goal.returns-in_err-read_line
returns-in_err-read_line c =
    let p = err_from_is_err_and c.from_residual.result c.from_residual.ensures.1 in
    let told = stop _ _ _ _ _ c.loop-line.invariant.room (omega arith) c.loop-line.invariant.head (here (goal.at.returns-in_err-read_line c).After-without_newline) _ c.in_err-read_line.field-0.0 c.in_err-read_line.ensures in
    record { reads = rw (p.1, p.2) told; enough = λ more big. rw (p.1, p.2) (stopped_longer _ more _ _ big _ told) }

pub returns : goal.returns
returns c =
    let end = YieldsList-end (YieldsList-from_split_inclusive _ _ c.args.text.now (cc) (always_returns_same _ _ _ (λ a r q k. search (rules, tests)))) c.loop-line.yielded _ c.loop-line.yielded_by _ _ c.in-None.is c.next.ensures.steps in
    let told : Whole (lines_of c.args.text.now) c.args.table.now c.loop-line.table c.loop-line.count = record { all = omega (arith, end.1); room = c.loop-line.invariant.room; head = c.loop-line.invariant.head } in
    record { reads = told; enough = λ more big. whole_longer _ more _ _ big _ told }
