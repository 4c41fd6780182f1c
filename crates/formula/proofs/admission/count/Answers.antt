use Rattle.std.proofs.Common.{ℕ, ◌+◌, List, sym, subst, arith}
use Rattle.std.proofs.lemmas.Result.{err_from_is_err_and}
use Rattle.formula.specs.Admission.{Counted, FirstBad}
use Rattle.formula.proofs.Counts.{counted_more, good_more}
use Rattle.formula.proofs.Checks.{first_bad}
use Rattle.formula.proofs.admission.count.Goals as goal

pub returns-in_err-count_word : goal.returns-in_err-count_word
returns-in_err-count_word c =
    let words = c.args.words.now in
    let before = c.args.work.now in
    let place = c.loop-place.place in
    let why = c.in_err-count_word.field-0.0 in
    let told = c.in_err-count_word.ensures in
    let here : FirstBad c.args.inputs words place why = record { within = omega arith; before = c.loop-place.invariant.0; here = sym told.answer } in
    let bad = first_bad c.args.inputs words _ place why c.requires.sized c.requires.room here in
    let same = subst (λ (work : List ℕ). Counted words place before work) (sym told.count) c.loop-place.invariant.1 in
    let p = err_from_is_err_and c.from_residual.result c.from_residual.ensures.1 in
    rw (p.1, p.2) (record { answer = bad.0; counts = subst (λ (many : ℕ). Counted words many before c.count_word.new.work) (sym bad.1) same })

pub loop-place-preserved : goal.loop-place-preserved
loop-place-preserved c =
    let inputs = c.args.inputs in
    let words = c.args.words.now in
    let before = c.args.work.now in
    let work = c.loop-place.work in
    let place = c.loop-place.place in
    let told = c.in_ok-count_word.ensures in
    let good = good_more inputs words place c.loop-place.invariant.0 (sym told.answer) in
    let counted = counted_more inputs words before work place good (omega arith) c.loop-place.invariant.1 in
    (good, subst (λ (work : List ℕ). Counted words (place + 1) before work) (sym told.count) counted)
