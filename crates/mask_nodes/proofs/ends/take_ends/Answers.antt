use Rattle.std.proofs.Common.{◌≢◌, ◌+◌, ◌<◌, ℕ, List, length, get_or, sym, subst, arith, refl, ◌∙◌}
use Rattle.std.specs.Prelude.{◌↔◌, Contains}
use Rattle.std.proofs.lemmas.List.Filters.{dedup_is}
use Rattle.union_find.specs.declared.pair.Pair.{Pair}
use Rattle.mask_nodes.specs.Ends.{pair_of}
use Rattle.mask_nodes.proofs.Ending.{AreTaken, taken_none, taken_more, all_taken, nodes_rise, nodes_same}
use Rattle.mask_nodes.proofs.ends.take_ends.Goals as goal
use Rattle.mask_nodes.proofs.ends.take_ends.Goals.{then-loop-place-test+else-ends-place, else-loop-place-test}

pub loop-place-init : goal.loop-place-init
loop-place-init c =
    subst (AreTaken c.args.ends.now c.args.channel c.args.place.now c.args.place.now) (sym c.new-nodes.ensures)
    (taken_none c.args.ends.now c.args.channel c.args.place.now c.requires.within c.requires.before)

pub loop-place-preserved : goal.loop-place-preserved
loop-place-preserved c =
    let ends : List Pair = c.args.ends.now in
    let place : ℕ = c.loop-place.place in
    subst (AreTaken ends c.args.channel c.args.place.now (place + 1)) (sym c.in_ok-push.ensures.ok)
    (taken_more ends c.args.channel c.args.place.now place c.loop-place.nodes
    (get_or ends place (pair_of 0 0)).b c.loop-place.invariant c.loop-place-test.true c.if-ends-place.true refl)

pub returns-clause-after : goal.returns-clause-after
returns-clause-after c =
    let last : c.loop-place.place < length c.args.ends.now
    → (get_or c.args.ends.now c.loop-place.place (pair_of 0 0)).a ≢ c.args.channel = elim c.loop-place-test.branch [
      | then-loop-place-test+else-ends-place w ↦ λ l. w.if-ends-place.false
      | else-loop-place-test w ↦ λ l. let n = w.loop-place-test.false in absurd (omega arith)
    ] in
    (all_taken c.args.ends.now c.args.channel c.args.place.now c.loop-place.place c.loop-place.nodes
    c.loop-place.invariant c.requires.sorted c.requires.before c.requires.after last).after

pub returns-clause-ascending : goal.returns-clause-ascending
returns-clause-ascending c =
    nodes_rise c.sort_unstable.new.self.items c.from_vec.result c.sort_unstable.ensures.sorted
    (c.from_vec.ensures ∙ dedup_is _ _ _ c.dedup.ensures.filtered)

pub returns-clause-each : goal.returns-clause-each
returns-clause-each c =
    let last : c.loop-place.place < length c.args.ends.now
    → (get_or c.args.ends.now c.loop-place.place (pair_of 0 0)).a ≢ c.args.channel = elim c.loop-place-test.branch [
      | then-loop-place-test+else-ends-place w ↦ λ l. w.if-ends-place.false
      | else-loop-place-test w ↦ λ l. let n = w.loop-place-test.false in absurd (omega arith)
    ] in
    let all =
    all_taken c.args.ends.now c.args.channel c.args.place.now c.loop-place.place c.loop-place.nodes
    c.loop-place.invariant c.requires.sorted c.requires.before c.requires.after last in
    nodes_same c.into_vec-nodes.result.items c.sort_unstable.new.self.items c.from_vec.result
    (λ k. Contains c.args.ends.now (pair_of c.args.channel k))
    (subst (λ zs. (k : ℕ) → Contains zs k ↔ Contains c.args.ends.now (pair_of c.args.channel k))
    (sym c.into_vec-nodes.ensures) all.each) c.sort_unstable.ensures.permutation
    (c.from_vec.ensures ∙ dedup_is _ _ _ c.dedup.ensures.filtered)
