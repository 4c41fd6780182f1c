-- Every second item of an iterator, as `step_by(2)` gives them. Assumes nothing.
use Rattle.std.proofs.Common.{◌≡◌, ℕ, ◌+◌, Bool, IsTrue, cond, ◌≤◌, List, [], ◌∷◌, ◌++◌, length, map, drop, Option, Some, None, refl, sym, ap, ◌∙◌, subst, arith}
use Rattle.std.proofs.lemmas.Iterator.{YieldsList}
use Rattle.std.proofs.lemmas.Iterator.Consumers.{YieldsList-end}
use Rattle.std.proofs.lemmas.List.{drop_all, drop_at, length-map}
use Rattle.std.specs.Iterator.{AlwaysYields, Yields}
use Rattle.std.specs.Iterator.Adapters.{step_by_first_take, step_by_gap, step_by_source, step_by_steps}
use Rattle.std.specs.declared.iter.StepBy.{StepBy}
use Rattle.alternate.specs.Meaning.{evens}

evens_from : (x : ℕ) (xs : List ℕ) → evens (x ∷ xs) ≡ x ∷ evens (drop 1 xs)
evens_from x [] = refl
evens_from x (y ∷ xs) = refl

module _ {S A : Type 0} (steps : S → Option A → S → Type 0) (v : A → ℕ) where
  -- after some items and one more, what is left of the list
  later : (xs : List A) (all : List ℕ) (s t u : S) (x : A) → AlwaysYields steps v s all → Yields steps s xs t → steps t (Some x) u → (rest : List ℕ) × (all ≡ map v xs ++ (v x ∷ rest)) × AlwaysYields steps v u rest
  later [] [] s t u x gives came step = absurd (gives x u (subst (λ (k : S). steps k (Some x) u) (sym came) step))
  later [] (y ∷ all) s t u x gives came step =
      let first = gives.1 x u (subst (λ (k : S). steps k (Some x) u) (sym came) step) in
      (all, ap (λ (z : ℕ). z ∷ all) (sym first.0), first.1)
  later (w ∷ xs) [] s t u x gives came step = absurd (gives w came.0 came.1)
  later (w ∷ xs) (y ∷ all) s t u x gives came step =
      let first = gives.1 w came.0 came.1 in
      let more = later xs all came.0 t u x first.1 came.2 step in
      (more.0, ap (λ (z : ℕ). z ∷ all) (sym first.0) ∙ ap (λ (zs : List ℕ). v w ∷ zs) more.1, more.2)

  -- what is left of every second item, where the source has `all` left
  record Left (s : StepBy S) (left : List ℕ) : Type 0 where
    all : List ℕ
    gives : AlwaysYields steps v (step_by_source s) all
    gap : step_by_gap s ≡ 1
    is : left ≡ evens (drop (cond (step_by_first_take s) 0 1) all)

  passed : (s : StepBy S) (n : ℕ) → step_by_gap s ≡ 1 → n ≡ cond (step_by_first_take s) 0 (step_by_gap s) → n ≡ cond (step_by_first_take s) 0 1
  passed s n gap is = is ∙ ap (λ (k : ℕ). cond (step_by_first_take s) 0 k) gap

  at_end : (s t : StepBy S) (left : List ℕ) → Left s left → step_by_steps steps s None t → left ≡ []
  at_end s t left h step =
      let n = passed s step.2.0 h.gap step.2.2 in
      let road : YieldsList steps v (step_by_source s) h.all = record { runs = h.gives } in
      let came = (YieldsList-end road step.2.1 _ step.2.3.1 None _ refl step.2.3.2).0 in
      let short : length h.all ≤ cond (step_by_first_take s) 0 1 = omega (arith, ap length came, length-map step.2.1 v, step.2.4, n) in
      h.is ∙ ap evens (drop_all _ h.all short)

  at_item : (s t : StepBy S) (x : A) (left : List ℕ) → Left s left → step_by_steps steps s (Some x) t → (rest : List ℕ) × (left ≡ v x ∷ rest) × Left t rest
  at_item s t x left h step =
      let n = passed s step.2.0 h.gap step.2.2 in
      let more = later step.2.1 h.all _ _ _ x h.gives step.2.3.1 step.2.3.2 in
      let rest : drop (cond (step_by_first_take s) 0 1) h.all ≡ v x ∷ more.0 =
      ap (drop (cond (step_by_first_take s) 0 1)) more.1 ∙ drop_at (map v step.2.1) (v x ∷ more.0) _ (length-map step.2.1 v ∙ step.2.4 ∙ n) in (
        evens (drop 1 more.0),
        h.is ∙ ap evens rest ∙ evens_from (v x) more.0,
        record {
          all = more.0;
          gives = more.2;
          gap = step.0 ∙ h.gap;
          is = ap (λ (b : Bool). evens (drop (cond b 0 1) more.0)) (sym step.1);
        },
      )

  gives_left : (left : List ℕ) (s : StepBy S) → Left s left → AlwaysYields (step_by_steps steps) v s left
  gives_left [] s h = λ x t step. let item = at_item s t x [] h step in omega (arith, ap length item.1)
  gives_left (y ∷ left) s h = (
    λ t step. omega (arith, ap length (at_end s t (y ∷ left) h step)),
    λ x t step.
        let item = at_item s t x (y ∷ left) h step in
        let head : v x ≡ y = cc in
        let tail : item.0 ≡ left = cc in
        (head, gives_left left t (subst (Left t) tail item.2)),
  )

  -- the facts of the iterator are the clauses of `step_by` at 2
  pub every_second : (s : StepBy S) (all : List ℕ) → step_by_gap s + 1 ≡ 2 → IsTrue (step_by_first_take s) → YieldsList steps v (step_by_source s) all → YieldsList (step_by_steps steps) v s (evens all)
  every_second s all gap fresh road = record {
    runs = gives_left (evens all) s record { all = all; gives = road.runs; gap = omega (arith, gap); is = ap (λ (b : Bool). evens (drop (cond b 0 1) all)) (sym fresh) };
  }
