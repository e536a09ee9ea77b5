use Rattle.std.proofs.Common.{◌≡◌, ◌∙◌, ap, subst, List, ℕ, length, replicate}
use Rattle.mp_order.specs.Tables.{Lifted}
use Rattle.mp_order.specs.Demands.{Asks, AreTops, AreMarks}
use Rattle.mp_order.proofs.Demanding.{are_demands}
use Rattle.mp_order.proofs.demands.demands.Goals as goal

pub returns : goal.returns
returns c =
    let tops : AreTops c.args.program.now c.args.weights.now 0 c.in_ok-tops.tops = c.in_ok-tops.ensures in
    let M : List ℕ → Type 0 = λ xs. AreMarks c.args.program.now xs c.in_ok-marks.marks in
    let marks : AreMarks c.args.program.now c.in_ok-tops.tops c.in_ok-marks.marks =
    subst M c.as_slice.ensures c.in_ok-marks.ensures in
    let none : c.in_ok-demands.demands ≡ replicate c.len.result 0 = c.in_ok-demands.ensures in
    let L : List ℕ
    → Type 0 = λ xs. Lifted
    (Asks c.args.program.now c.args.meanings.now xs c.in_ok-marks.marks (length c.args.program.now.forms))
    c.in_ok-demands.demands c.ask.new.demands in
    are_demands c.args.program.now c.args.meanings.now c.args.weights.now c.in_ok-tops.tops c.in_ok-marks.marks
    c.in_ok-demands.demands c.ask.new.demands
    c.sound.ensures c.sets.ensures c.reads.ensures c.requires.meant c.requires.own tops marks
    (none ∙ ap (λ n. replicate n 0) c.len.ensures) (subst L c.as_slice-2.ensures c.ask.ensures)
