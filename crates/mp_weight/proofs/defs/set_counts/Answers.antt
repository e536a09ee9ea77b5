use Rattle.std.proofs.Common.{◌≡◌, ◌+◌, ℕ, List, length, get_or, replicate, ap, sym, ◌∙◌, subst, arith}
use Rattle.mp_base.specs.Entries.{IsAt}
use Rattle.mp_base.proofs.Entries.{entry}
use Rattle.mp_program.specs.declared.program.Form.{Form}
use Rattle.mp_weight.specs.Weighing.{AreSetCounts}
use Rattle.mp_weight.proofs.Counting.{none_counted, form_counted}
use Rattle.mp_weight.proofs.defs.set_counts.Goals as goal

pub loop-f-init : goal.loop-f-init
loop-f-init c =
    none_counted c.args.program.now c.from_vec-counts.result
    (c.from_vec-counts.ensures ∙ c.in_ok-from_elem.ensures.items_if_clones_equal (λ y e. e)
    ∙ ap (λ n. replicate n 0) (c.len.ensures))

pub bounds-targets-f : goal.bounds-targets-f
bounds-targets-f c =
    omega (
      arith,
      ap (λ (ns : List ℕ). length ns) c.as_slice-targets.ensures,
      ap
          (λ (fs : List Form). length fs) c.as_slice-form-items.ensures,
      c.requires.meant.as_many_targets,
    )

pub count_set-requires : goal.count_set-requires
count_set-requires c =
    omega (
      arith,
      c.loop-f.invariant.bound
          (get_or c.as_slice-targets.result.now c.loop-f.f 0),
      c.as_slice-form-items.type_inv.1,
    )

pub loop-f-preserved : goal.loop-f-preserved
loop-f-preserved c =
    let at : IsAt c.args.program.now.forms c.loop-f.f c.form-item.result =
    subst (λ (fs : List Form). IsAt fs c.loop-f.f c.form-item.result) c.as_slice-form-items.ensures
    (entry c.as_slice-form-items.result.now c.loop-f.f c.loop-f-test.true c.form-item.is) in
    subst (AreSetCounts c.args.program.now (c.loop-f.f + 1)) (sym c.count_set.ensures)
    (form_counted c.args.program.now c.loop-f.f
    (get_or c.as_slice-targets.result.now c.loop-f.f 0) c.form-item.result c.loop-f.counts c.requires.own
    c.loop-f.invariant at
    (λ x place v is. ap (λ ts. get_or ts c.loop-f.f 0) c.as_slice-targets.ensures
    ∙ c.requires.meant.targets c.loop-f.f c.form-item.result x place v at is))

pub returns : goal.returns
returns c =
    let end : c.loop-f.f ≡ length c.args.program.now.forms =
    omega (arith, ap (λ (fs : List Form). length fs) c.as_slice-form-items.ensures) in
    subst (λ k. AreSetCounts c.args.program.now k c.loop-f.counts) end c.loop-f.invariant
