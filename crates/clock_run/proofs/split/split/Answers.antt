use Rattle.std.proofs.Common.{◌∙◌, ◌+◌, ◌≤◌, ℕ, List, [], ◌∷◌, ◌++◌, length, take, sym, subst, arith, rules}
use Rattle.std.specs.List.{AllZip}
use Rattle.clock_run.specs.Plan.{AreNodesOf}
use Rattle.clock_run.proofs.Splitting.{end_more, end_inside, own_more}
use Rattle.clock_run.proofs.split.split.Goals as goal

pub overflow_add-end : goal.overflow_add-end
overflow_add-end c =
    let inside = end_inside c.args.pads.now c.loop-pad.pad-index c.pad-item.result (omega arith) c.pad-item.is _ _ _
    c.loop-pad.invariant.place c.bit_count.ensures c.requires in
    search rules

pub offset_bounds-nodes-start : goal.offset_bounds-nodes-start
offset_bounds-nodes-start c =
    let inside = end_inside c.args.pads.now c.loop-pad.pad-index c.pad-item.result (omega arith) c.pad-item.is _ _ _
    c.loop-pad.invariant.place c.bit_count.ensures c.requires in
    let from : c.loop-pad.start ≤ length c.args.nodes.now = omega arith in
    search rules

pub slice_bounds-to_vec-end : goal.slice_bounds-to_vec-end
slice_bounds-to_vec-end c =
    let inside = end_inside c.args.pads.now c.loop-pad.pad-index c.pad-item.result (omega arith) c.pad-item.is _ _ _
    c.loop-pad.invariant.place c.bit_count.ensures c.requires in
    search rules

pub loop-pad-preserved : goal.loop-pad-preserved
loop-pad-preserved c =
    let pads = c.args.pads.now in
    let k = c.loop-pad.pad-index in
    let place = c.loop-pad.invariant.place in
    let items = c.from_vec.ensures ∙ c.in_ok-to_vec.ensures.items_if_clones_equal (λ x y e. e) in
    record {
      place = end_more pads k c.pad-item.result
          (omega arith) c.pad-item.is c.loop-pad.start c.bit_count.result place c.bit_count.ensures;
      own = λ net z.
          subst (λ (xs : List (List ℕ)). AllZip (AreNodesOf net) (take (k + 1) pads) xs) (sym c.in_ok-push.ensures.ok)
          (subst (λ (xs : List ℕ). AllZip (AreNodesOf net) (take (k + 1) pads) (c.loop-pad.own ++ xs ∷ [])) (sym items)
          (own_more pads k c.pad-item.result
          (omega arith) c.pad-item.is net c.args.nodes.now c.loop-pad.own c.loop-pad.start
          c.bit_count.result place
          c.bit_count.ensures z (c.loop-pad.invariant.own net z)));
    }
