use Rattle.std.proofs.Common.{◌≡◌, ℕ, List, sym, ◌∙◌, ap, subst, arith, length}
use Rattle.std.proofs.lemmas.List.{length-set}
use Rattle.mp_program.specs.declared.program.Def.{Def}
use Rattle.mp_base.specs.Entries.{IsAt}
use Rattle.mp_base.proofs.Entries.{entry}
use Rattle.mp_order.specs.Demands.{WeighsDriven}
use Rattle.mp_order.proofs.Judging.{kept_driven}
use Rattle.mp_order.proofs.judge.keep_driven.Goals.{then-is_driven, else-is_driven}
use Rattle.mp_order.proofs.judge.keep_driven.Goals as goal

pub put-requires : goal.put-requires
put-requires c =
    let e : length c.as_slice-def-items.result.now ≡ length c.args.program.now.defs =
    ap (length {A = Def}) c.as_slice-def-items.ensures in
    omega (arith, e, c.loop-d-test.true, c.loop-d.invariant.0)

pub loop-d-preserved : goal.loop-d-preserved
loop-d-preserved c =
    let A : List Def → Type 0 = λ xs. IsAt xs c.loop-d.d c.def-item.result in
    let at : IsAt c.args.program.now.defs c.loop-d.d c.def-item.result =
    subst A c.as_slice-def-items.ensures
    (entry c.as_slice-def-items.result.now c.loop-d.d c.loop-d-test.true c.def-item.is) in
    let P : List ℕ → Type 0 = λ xs. (length xs ≡ length c.args.program.now.defs) × WeighsDriven c.args.program.now xs in
    elim c.if-is_driven.branch [
      | then-is_driven w ↦ subst P (sym (w.kept-is ∙ w.put.ensures)) (
        length-set c.loop-d.kept c.loop-d.d w.read.result ∙ c.loop-d.invariant.0,
        kept_driven c.args.program.now c.loop-d.kept c.loop-d.d w.read.result c.def-item.result
            (at, sym c.is_driven.ensures ∙ w.if-is_driven.true) c.loop-d.invariant.1,
      )
      | else-is_driven w ↦ subst P (sym w.kept-is) c.loop-d.invariant
    ]
