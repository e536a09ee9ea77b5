use Rattle.std.proofs.Common.{◌≡◌, ◌<◌, length, ℕ, replicate, List, sym, ◌∙◌, ap, subst, arith, Option, Some, None}
use Rattle.form_reader.specs.Sound.{kind_at}
use Rattle.mp_shapes.specs.Layout.{layout}
use Rattle.mp_shapes.specs.Marking.{Marked}
use Rattle.mp_shapes.proofs.Finding.{Found, items_inside, items_apart, found_start, found_skip, found_more}
use Rattle.mp_shapes.proofs.Finding.{first_defect, all_found, at, root_inside, refuses10}
use Rattle.std.proofs.Common.{◌+◌}
use Rattle.std.proofs.lemmas.List.{get_or_read}
use Rattle.mp_shapes.specs.declared.table.Class.{Class}
use Rattle.mp_shapes.proofs.classes.classify.Goals.{in-Some+in-Some-shape_of, in_default}
use Rattle.mp_shapes.proofs.classes.classify.Goals as goal

pub loop-n-init : goal.loop-n-init
loop-n-init c =
    let lt : c.args.root < length c.args.forms.now.nodes =
    root_inside c.args.forms.now c.requires.sound c.args.root c.requires.rooted.0 c.requires.rooted.1 in
    let e : c.in_ok-classes.classes ≡ replicate c.len-count.result None = c.in_ok-classes.ensures in
    let P : List (Option Class) → Type 0 = λ xs. Found c.args.forms.now 0 xs in
    subst P (sym c.set.ensures)
    (found_start c.args.forms.now c.requires.sound c.args.root c.requires.rooted.0 c.requires.rooted.1 lt
    c.in_ok-classes.classes
    (e ∙ ap (λ k. replicate k None) c.len-count.ensures))

pub mark-requires-clause-inside : goal.mark-requires-clause-inside
mark-requires-clause-inside c =
    let lt : c.loop-n.n < length c.args.forms.now.nodes = omega (arith, c.loop-n-test.true, c.len-count.ensures) in
    λ k kl. let h =
    items_inside c.args.forms.now c.requires.sound c.loop-n.n c.items_of.result.now lt c.items_of.ensures k kl in
    rw (c.loop-n.invariant.size) h

pub mark-requires-clause-apart : goal.mark-requires-clause-apart
mark-requires-clause-apart c =
    let lt : c.loop-n.n < length c.args.forms.now.nodes = omega (arith, c.loop-n-test.true, c.len-count.ensures) in
    items_apart c.args.forms.now c.requires.sound c.loop-n.n c.items_of.result.now lt c.items_of.ensures

pub returns-in-None-clause-err : goal.returns-in-None-clause-err
returns-in-None-clause-err c =
    let lt : c.loop-n.n < length c.args.forms.now.nodes = omega (arith, c.loop-n-test.true, c.len-count.ensures) in
    let here : at c.loop-n.classes c.loop-n.n ≡ Some c.in-Some.class =
    sym (get_or_read c.loop-n.classes c.loop-n.n c.at.result.now
    (omega (arith, lt, c.loop-n.invariant.size)) c.at.ensures None) ∙ c.in-Some.is in
    let no_shape : layout c.args.forms.now c.in-Some.class (kind_at c.args.forms.now c.loop-n.n) ≡ None =
    sym c.shape_of.ensures ∙ c.in-None.is in
    refuses10 c.args.forms.now c.loop-n.n c.no_shape.result c.at-in-None.result.now lt c.at-in-None.ensures
    c.no_shape.ensures
    (first_defect c.args.forms.now c.requires.sound c.loop-n.n c.loop-n.classes c.in-Some.class c.loop-n.invariant lt
    here no_shape)

pub loop-n-preserved : goal.loop-n-preserved
loop-n-preserved c = elim c.match-at.branch [
  | in-Some+in-Some-shape_of w ↦
      let lt : c.loop-n.n < length c.args.forms.now.nodes = omega (arith, c.loop-n-test.true, c.len-count.ensures) in
      let here : at c.loop-n.classes c.loop-n.n ≡ Some w.in-Some.class =
      sym (get_or_read c.loop-n.classes c.loop-n.n c.at.result.now
      (omega (arith, lt, c.loop-n.invariant.size)) c.at.ensures None) ∙ w.in-Some.is in
      let shape : layout c.args.forms.now w.in-Some.class (kind_at c.args.forms.now c.loop-n.n)
      ≡ Some w.in-Some-shape_of.shape = sym w.shape_of.ensures ∙ w.in-Some-shape_of.is in
      let M : List ℕ → List (Option Class)
      → Type 0 = λ is old. Marked w.in-Some-shape_of.shape is (length is) old w.mark.new.classes in
      let N : List ℕ → Type 0 = λ is. M is c.loop-n.classes in
      let marked = subst N w.items_of.ensures w.mark.ensures in
      let P : List (Option Class) → Type 0 = λ xs. Found c.args.forms.now (c.loop-n.n + 1) xs in
      subst P (sym w.classes-is)
      (found_more c.args.forms.now c.requires.sound c.loop-n.n c.loop-n.classes w.mark.new.classes w.in-Some.class
      w.in-Some-shape_of.shape
      c.loop-n.invariant lt here shape marked)
  | in_default w ↦
      let lt : c.loop-n.n < length c.args.forms.now.nodes = omega (arith, c.loop-n-test.true, c.len-count.ensures) in
      let here : at c.loop-n.classes c.loop-n.n ≡ None =
      sym (get_or_read c.loop-n.classes c.loop-n.n c.at.result.now
      (omega (arith, lt, c.loop-n.invariant.size)) c.at.ensures None) ∙ w.in_default.is in
      let P : List (Option Class) → Type 0 = λ xs. Found c.args.forms.now (c.loop-n.n + 1) xs in
      subst P (sym w.classes-is) (found_skip c.args.forms.now c.loop-n.n c.loop-n.classes c.loop-n.invariant here)
]

pub returns-clause-ok : goal.returns-clause-ok
returns-clause-ok c =
    all_found c.args.forms.now c.requires.sound c.loop-n.n c.loop-n.classes c.loop-n.invariant
    (omega (arith, c.loop-n-test.false, c.len-count.ensures))
