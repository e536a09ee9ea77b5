use Rattle.std.proofs.Common.{◌≡◌, ◌+◌, ◌-◌, ◌<◌, ℕ, List, sym, ◌∙◌, ap, subst, length, arith, get_or}
use Rattle.mp_program.specs.declared.program.Form.{Form}
use Rattle.mp_base.specs.Entries.{IsAt}
use Rattle.mp_base.proofs.Entries.{entry, within, one_entry}
use Rattle.mp_order.specs.Tables.{Lifted}
use Rattle.mp_order.specs.Demands.{Asks}
use Rattle.mp_order.proofs.Tables.{lifted_none, lifted_as}
use Rattle.mp_order.proofs.Asking.{ask_none, ask_set}
use Rattle.mp_order.proofs.demands.ask.Goals.{in-Set+then-mark-gt0, in-Set+else-mark-gt0, in_default}
use Rattle.mp_order.proofs.demands.ask.Goals as goal

pub loop-n-init : goal.loop-n-init
loop-n-init c =
    lifted_none (Asks c.args.program.now c.args.meanings.now c.args.tops.now c.args.marks.now 0) c.args.demands.now
    (λ i k lt g. absurd (omega (arith, g.5)))

pub loop-n-preserved : goal.loop-n-preserved
loop-n-preserved c =
    let A : List Form → Type 0 = λ xs. IsAt xs c.loop-n.n c.form-item.result in
    let at : IsAt c.args.program.now.forms c.loop-n.n c.form-item.result =
    subst A c.as_slice-form-items.ensures
    (entry c.as_slice-form-items.result.now c.loop-n.n c.loop-n-test.true c.form-item.is) in
    let P : List ℕ
    → Type 0 = λ xs. Lifted
    (Asks c.args.program.now c.args.meanings.now c.args.tops.now c.args.marks.now (c.loop-n.n + 1)) c.args.demands.now
    xs in
    elim c.match-form.branch [
      | in-Set+then-mark-gt0 w ↦
          let some : 0 < get_or c.args.marks.now c.loop-n.n 0 =
          omega (arith, w.read_wide-mark.ensures, w.if-mark-gt0.true) in
          let means : w.read-target.result ≡ get_or c.args.meanings.now.targets c.loop-n.n 0 =
          w.read-target.ensures ∙ ap (λ xs. get_or xs c.loop-n.n 0) w.as_slice.ensures in
          let L : ℕ
          → Type 0 = λ v. Lifted
          (λ i k. (i ≡ w.read-target.result) × (k ≡ v - 1)) c.loop-n.demands w.lift.new.numbers in
          let H : ℕ
          → Type 0 = λ v. Lifted
          (λ i k. (i ≡ w.read-target.result) × (k ≡ v)) w.lift.new.numbers w.lift-then-mark-gt0.new.numbers in
          subst P (sym w.demands-is)
          (ask_set c.args.program.now c.args.meanings.now c.args.tops.now c.args.marks.now c.loop-n.n
          c.form-item.result w.in-Set.target w.in-Set.at w.in-Set.value
          w.read-target.result c.args.demands.now c.loop-n.demands w.lift.new.numbers w.lift-then-mark-gt0.new.numbers
          at w.in-Set.is some means c.loop-n.invariant
          (subst L w.read_wide-mark.ensures w.lift.ensures)
          (subst H (w.from.ensures ∙ w.read.ensures) w.lift-then-mark-gt0.ensures))
      | in-Set+else-mark-gt0 w ↦
          subst P (sym w.demands-is)
          (ask_none c.args.program.now c.args.meanings.now c.args.tops.now c.args.marks.now c.loop-n.n
          c.args.demands.now c.loop-n.demands c.loop-n.invariant
          (λ y name there v yn kind some. omega (arith, some, w.read_wide-mark.ensures, w.if-mark-gt0.false)))
      | in_default w ↦
          subst P (sym w.demands-is)
          (ask_none c.args.program.now c.args.meanings.now c.args.tops.now c.args.marks.now c.loop-n.n
          c.args.demands.now c.loop-n.demands c.loop-n.invariant
          (λ y name there v yn kind some. w.in_default.not-Set name there v
          (ap (λ (x : Form). x.kind)
          (one_entry c.args.program.now.forms c.loop-n.n c.form-item.result y at yn) ∙ kind)))
    ]

pub returns : goal.returns
returns c =
    let e : length c.as_slice-form-items.result.now ≡ length c.args.program.now.forms =
    ap (length {A = Form}) c.as_slice-form-items.ensures in
    let P = Asks c.args.program.now c.args.meanings.now c.args.tops.now c.args.marks.now in
    lifted_as (P c.loop-n.n)
    (P (length c.args.program.now.forms)) c.args.demands.now c.loop-n.demands c.loop-n.invariant
    (λ a k (f, y, name, there, v, lt, at, kind, target, some, worth). (
      f,
      y,
      name,
      there,
      v,
      within c.args.program.now.forms f at,
      at,
      kind,
      target,
      some,
      worth,
    ))
    (λ a k (f, y, name, there, v, lt, at, kind, target, some, worth). (
      f,
      y,
      name,
      there,
      v,
      omega (arith, within c.args.program.now.forms f at, e, c.loop-n-test.false),
      at,
      kind,
      target,
      some,
      worth,
    ))
