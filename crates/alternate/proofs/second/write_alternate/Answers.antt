use Rattle.std.proofs.Common.{◌≡◌, ℕ, List, drop, length, min, refl, ap, ◌∙◌, take, rules}
use Rattle.std.specs.Slice.Iter.{iter_rest}
use Rattle.std.proofs.lemmas.Grind.{common_steps}
use Rattle.std.proofs.lemmas.Iterator.{YieldsList-from_slice}
use Rattle.std.proofs.lemmas.Iterator.Adapters.{YieldsList-from_skip}
use Rattle.std.proofs.lemmas.Iterator.Consumers.{YieldsList-from_chain, YieldsList-at}
use Rattle.picker.specs.Greedy.{overlaid}
use Rattle.picker.proofs.Writing.{read_all, written_more}
use Rattle.alternate.specs.Alternation.{length-order}
use Rattle.alternate.specs.Meaning.{order}
use Rattle.alternate.proofs.Stepping.{every_second}
use Rattle.alternate.proofs.second.write_alternate.Goals as goal

pub loop-place-preserved : goal.loop-place-preserved
loop-place-preserved c =
    let step = c.in-Some.ensures.steps in
    let more = written_more _ _ c.next.new.self _ _ _ c.in-Some.number c.loop-place.invariant step.0.1 step.1 step.2 in
    record { place = more.place; room = more.room; written = let written = more.written in search (rules, common_steps) }

pub returns : goal.returns
returns c =
    let shown = c.args.shown.now in
    let list = c.args.list.now in
    let room = min c.args.q (length list) in
    let firsts = c.step_by-firsts in
    let over = c.step_by-passed_over in
    let rest : iter_rest c.skip.result.iter ≡ shown = cc in
    let evens = every_second _ _ firsts.result shown firsts.ensures.step_minus_one firsts.ensures.first_take (YieldsList-at firsts.ensures.source (YieldsList-from_slice shown cc)) in
    let odds = every_second _ _ over.result (drop 1 shown) over.ensures.step_minus_one over.ensures.first_take (YieldsList-at over.ensures.source (YieldsList-from_skip 1 (YieldsList-from_slice shown rest) cc)) in
    let first : c.chain.result.a ≡ firsts.result = cc in
    let second : c.chain.result.b ≡ over.result = cc in
    let both = YieldsList-from_chain {s = c.chain.result} (YieldsList-at first evens) (YieldsList-at second odds) c.chain.ensures.first_done c.chain.ensures.second_done in
    let iterator = c.into_iter-place-iterator.result in
    let source : iterator.iter.iter ≡ c.chain.result = cc in
    let as_many : min iterator.iter.n (length shown) ≡ min room (length shown) = search rules in
    let fresh : iterator.count ≡ 0 = cc in
    let came = read_all iterator.iter.n (order shown) iterator (YieldsList-at source both) refl fresh c.loop-place.yielded _ c.loop-place.yielded_by _ _ c.in-None.is c.next.ensures.steps in
    c.loop-place.invariant.written ∙ ap (λ (numbers : List ℕ). overlaid numbers list) (came ∙ ap (λ (n : ℕ). take (min iterator.iter.n n) (order shown)) (length-order shown) ∙ ap (λ (n : ℕ). take n (order shown)) as_many)
