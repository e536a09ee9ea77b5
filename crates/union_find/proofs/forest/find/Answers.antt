use Rattle.std.proofs.Common.{ℕ, ◌≤◌, get_or, arith, sym, ◌∙◌}
use Rattle.std.proofs.lemmas.List.{length-set}
use Rattle.union_find.proofs.Roots.{root_halved, root_along, root_at, set_below}
use Rattle.union_find.proofs.forest.find.Goals as goal

pub loop-parents-preserved : goal.loop-parents-preserved
loop-parents-preserved c =
    let p : _ = c.loop-parents.parents in
    let x : ℕ = c.loop-parents.x in
    let f = c.loop-parents.invariant in
    let k : get_or p x 0 ≤ x = f.still x in
    let m : get_or p (get_or p x 0) 0 ≤ get_or p x 0 = f.still (get_or p x 0) in
    let v : ℕ = get_or p (get_or p x 0) 0 in
    let h = root_halved p f.still x f.inside in
    record {
      still = set_below p f.still x v f.inside (omega arith);
      inside = rw (length-set p x v) (omega arith);
      same = λ i. h i ∙ f.same i;
      here = h v ∙ (root_along p f.still (get_or p x 0) ∙ (root_along p f.still x ∙ f.here));
    }

pub returns-clause-root : goal.returns-clause-root
returns-clause-root c =
    sym (root_at c.loop-parents.parents c.loop-parents.x c.loop-parents-test.false) ∙ c.loop-parents.invariant.here
