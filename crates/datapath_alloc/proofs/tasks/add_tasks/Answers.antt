use Rattle.std.proofs.Common.{◌≡◌, ◌+◌, ◌∙◌, List, ℕ, suc, length, refl, ap, subst, sym, arith}
use Rattle.std.specs.Prelude.{slice_index}
use Rattle.control_nor.specs.declared.names.Names.{Names}
use Rattle.control_nor.specs.Lowering.{nets_before}
use Rattle.path_order.specs.Order.{start}
use Rattle.datapath_making.specs.Marking.{last_from}
use Rattle.datapath_alloc.specs.Progress.{IsMadeTo, IsMarkedAt}
use Rattle.datapath_alloc.specs.Noting.{IsSharing}
use Rattle.datapath_alloc.proofs.Marks.{marked_done, rebased}
use Rattle.datapath_alloc.proofs.Reaching.{before_within}
use Rattle.datapath_alloc.proofs.Noting.{marked_shares, none_shared, noted_within}
use Rattle.datapath_alloc.proofs.Sharers.{nets_are_shared}
use Rattle.datapath_alloc.proofs.tasks.add_tasks.Goals as goal

pub mark-requires-clause-rises : goal.mark-requires-clause-rises
mark-requires-clause-rises c = let z = c.requires.unmarked in omega (arith, z)

pub mark-requires-clause-within : goal.mark-requires-clause-within
mark-requires-clause-within c =
    let m = c.args.making.now in
    let g = c.requires.made.given in
    before_within c.args.rtl.now m.control m.names g.sound g.lowered 0 (omega arith)

pub mark-requires-in-loop-index-clause-rises : goal.mark-requires-in-loop-index-clause-rises
mark-requires-in-loop-index-clause-rises c =
    let was = c.loop-index.making in
    let m = c.add_task.new.making in
    let marks = ap (λ ks. (last_from start ks).control) c.in_ok-add_task.ensures.marks.marks in
    let at = c.loop-index.invariant.1.control in
    let names = c.in_ok-add_task.ensures.marks.names in
    let tasks = ap (λ (n : Names). length n.tasks) c.loop-index.invariant.2 in
    let end : nets_before was.names (suc c.loop-index.index)
    ≡ slice_index c.as_slice.result.now c.loop-index.index
    = ap (λ (n : Names). slice_index n.ends c.loop-index.index) (sym names)
    ∙ ap (λ (xs : List ℕ). slice_index xs c.loop-index.index) (sym c.as_slice.ensures) in
    let l = c.loop-index-test.true in
    let n = c.len-index-end.ensures in
    let rise = c.loop-index.invariant.0.given.lowered.placed.rise c.loop-index.index (omega (arith, l, n, tasks)) in
    omega (arith, marks, at, end, rise)

pub mark-requires-in-loop-index-clause-within : goal.mark-requires-in-loop-index-clause-within
mark-requires-in-loop-index-clause-within c =
    let m = c.add_task.new.making in
    let names = c.in_ok-add_task.ensures.marks.names in
    let tasks = ap (λ (n : Names). length n.tasks) (names ∙ c.loop-index.invariant.2) in
    let end : nets_before m.names (suc c.loop-index.index) ≡ slice_index c.as_slice.result.now c.loop-index.index
    = ap (λ (xs : List ℕ). slice_index xs c.loop-index.index) (sym c.as_slice.ensures) in
    let g = c.in_ok-add_task.ensures.made.given in
    let l = c.loop-index-test.true in
    let n = c.len-index-end.ensures in
    let w = before_within c.args.rtl.now m.control m.names g.sound g.lowered (suc c.loop-index.index)
    (omega (arith, l, n, tasks)) in
    omega (arith, end, w)

pub loop-index-init : goal.loop-index-init
loop-index-init c =
    let m = c.args.making.now in
    let new = c.mark.new.self in
    let h = marked_done c.args.rtl.now m.control m.names (length c.args.rtl.now.cells) 0 0 m.names.start m new
    c.requires.made c.in_ok-mark.ensures.marked c.in_ok-mark.ensures.made in (
      rebased c.args.rtl.now m.control m.names (length c.args.rtl.now.cells) 0 0 new h.0,
      record {
        slices = h.1;
        control = h.2 ∙ ap (λ (n : Names). n.start) (sym h.0.begun.names);
      },
      refl,
      marked_shares c.args.rtl.now 0 m.names.start c.new-built.result m new
          (none_shared c.args.rtl.now c.new-built.result m c.new-built.ensures.operators c.new-built.ensures.numbers)
          c.in_ok-mark.ensures.marked,
    )

pub loop-index-preserved : goal.loop-index-preserved
loop-index-preserved c =
    let was = c.loop-index.making in
    let m = c.add_task.new.making in
    let new = c.mark-in-loop-index.new.self in
    let h = marked_done c.args.rtl.now m.control m.names (length c.args.rtl.now.cells) (suc c.loop-index.index) 0
    (slice_index c.as_slice.result.now c.loop-index.index) m new c.in_ok-add_task.ensures.made
    c.in_ok-mark-2.ensures.marked c.in_ok-mark-2.ensures.made in
    let e : suc c.loop-index.index ≡ c.loop-index.index + 1 = omega arith in (
      subst (λ n. IsMadeTo c.args.rtl.now (length c.args.rtl.now.cells) n 0 new) e
          (rebased c.args.rtl.now m.control m.names (length c.args.rtl.now.cells) (suc c.loop-index.index) 0 new h.0),
      subst (λ n. IsMarkedAt n new) e (record {
        slices = h.1;
        control = h.2 ∙ (ap (λ (xs : List ℕ). slice_index xs c.loop-index.index) c.as_slice.ensures
            ∙ ap (λ (n : Names). slice_index n.ends c.loop-index.index) (sym h.0.begun.names));
      }),
      h.0.begun.names ∙ (c.in_ok-add_task.ensures.marks.names ∙ c.loop-index.invariant.2),
      subst (λ n. IsSharing c.args.rtl.now n c.add_task.new.built new) e
          (marked_shares c.args.rtl.now (suc c.loop-index.index) (slice_index c.as_slice.result.now c.loop-index.index)
          c.add_task.new.built m new c.in_ok-add_task.ensures.sharing c.in_ok-mark-2.ensures.marked),
    )

pub returns-clause-shared : goal.returns-clause-shared
returns-clause-shared c =
    let m = c.loop-index.making in
    let tasks = ap (λ (n : Names). length n.tasks) c.loop-index.invariant.2 in
    let over = c.loop-index-test.false in
    let n = c.len-index-end.ensures in
    nets_are_shared c.args.rtl.now m.control m.names c.loop-index.invariant.0.given c.loop-index.built m.words m.lifts
    (noted_within c.args.rtl.now m.names (length m.names.tasks) c.loop-index.index c.loop-index.built m.words m.lifts
    (omega (arith, over, n, tasks)) c.loop-index.invariant.3.noted)

pub returns-clause-made : goal.returns-clause-made
returns-clause-made c =
    let m = c.loop-index.making in
    let tasks = ap (λ (n : Names). length n.tasks) c.loop-index.invariant.2 in
    let over = c.loop-index-test.false in
    let n = c.len-index-end.ensures in
    let within = c.loop-index.auto.index-end in
    let all : c.loop-index.index ≡ length m.names.tasks = omega (arith, over, n, tasks, within) in
    subst (λ k. IsMadeTo c.args.rtl.now (length c.args.rtl.now.cells) k 0 m) all c.loop-index.invariant.0

pub returns-clause-marked : goal.returns-clause-marked
returns-clause-marked c =
    let m = c.loop-index.making in
    let tasks = ap (λ (n : Names). length n.tasks) c.loop-index.invariant.2 in
    let over = c.loop-index-test.false in
    let n = c.len-index-end.ensures in
    let within = c.loop-index.auto.index-end in
    let all : c.loop-index.index ≡ length m.names.tasks = omega (arith, over, n, tasks, within) in
    subst (λ k. IsMarkedAt k m) all c.loop-index.invariant.1
