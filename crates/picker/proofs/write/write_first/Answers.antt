use Rattle.std.proofs.Common.{rules, ◌≡◌, ℕ, List, length, min, None, sym, ap, ◌∙◌}
use Rattle.std.proofs.lemmas.Iterator.{YieldsList}
use Rattle.std.proofs.lemmas.Iterator.Consumers.{YieldsList-at}
use Rattle.picker.specs.Greedy.{overlaid}
use Rattle.picker.specs.Orders.{last_pick}
use Rattle.picker.proofs.Writing.{last_read, read_all, written_more}
use Rattle.picker.proofs.write.write_first.Goals as goal

pub loop-place-preserved : goal.loop-place-preserved
loop-place-preserved g c =
    let turns = c.loop-place.yielded in
    let step = c.in-Some.ensures.steps in
    record {
      can = search rules;
      so_far = written_more turns _ _ _ _ _ c.in-Some.number c.loop-place.invariant.so_far step.0.1 step.1 step.2;
      last = sym (last_read turns c.in-Some.place c.in-Some.number);
    }

pub returns : goal.returns
returns g c = record {
  gives = λ order yields.
      let room = min c.args.q (length c.args.list.now) in
      let iterator = c.into_iter-place-iterator.result in
      let source : iterator.iter.iter ≡ c.args.numbers = cc in
      let taken : iterator.iter.n ≡ room = cc in
      let fresh : iterator.count ≡ 0 = cc in
      let road : YieldsList g.I.Iterator.next_gives (λ number. number.now) c.args.numbers order = record { runs = yields } in
      let came = read_all room order iterator (YieldsList-at source road) taken fresh c.loop-place.yielded _ c.loop-place.yielded_by _ _ c.in-None.is c.next.ensures.steps in
      record {
        written = c.loop-place.invariant.so_far.written ∙ ap (λ (numbers : List ℕ). overlaid numbers c.args.list.now) came;
        told = c.loop-place.invariant.last ∙ ap (last_pick None) came;
      };
}
