use Rattle.std.proofs.Common.{◌≡◌, ◌+◌, ℕ, length, sym, ◌∙◌, subst, arith, List, Option}
use Rattle.mp_shapes.specs.declared.table.Class.{Class}
use Rattle.mp_shapes.specs.Marking.{Marked}
use Rattle.mp_shapes.proofs.Finding.{mark_none, mark_skip, mark_set}
use Rattle.mp_shapes.proofs.classes.mark.Goals.{in-Some, in_default}
use Rattle.mp_shapes.proofs.classes.mark.Goals as goal

pub loop-j-init : goal.loop-j-init
loop-j-init c = mark_none c.args.layout c.args.items.now c.args.classes.now

pub set-requires : goal.set-requires
set-requires c = omega (arith, c.loop-j.invariant.size, c.requires.inside c.loop-j.j c.loop-j-test.true)

pub loop-j-preserved : goal.loop-j-preserved
loop-j-preserved c = elim c.match-item_class.branch [
  | in-Some w ↦
      let P : List (Option Class)
      → Type 0 = λ xs. Marked c.args.layout c.args.items.now (c.loop-j.j + 1) c.args.classes.now xs in
      subst P (sym (w.classes-is ∙ w.set.ensures))
      (mark_set c.args.layout c.args.items.now c.loop-j.j w.in-Some.class c.args.classes.now c.loop-j.classes
      c.loop-j.invariant
      (sym c.item_class.ensures ∙ w.in-Some.is) c.loop-j-test.true
      (omega (arith, c.loop-j.invariant.size, c.requires.inside c.loop-j.j c.loop-j-test.true)) c.requires.apart)
  | in_default w ↦
      let P : List (Option Class)
      → Type 0 = λ xs. Marked c.args.layout c.args.items.now (c.loop-j.j + 1) c.args.classes.now xs in
      subst P (sym w.classes-is)
      (mark_skip c.args.layout c.args.items.now c.loop-j.j c.args.classes.now c.loop-j.classes c.loop-j.invariant
      (sym c.item_class.ensures ∙ w.in_default.is))
]

pub returns : goal.returns
returns c =
    let e : c.loop-j.j ≡ length c.args.items.now = omega (arith, c.loop-j.auto.j-end, c.loop-j-test.false) in
    let P : ℕ → Type 0 = λ k. Marked c.args.layout c.args.items.now k c.args.classes.now c.loop-j.classes in
    subst P e c.loop-j.invariant
