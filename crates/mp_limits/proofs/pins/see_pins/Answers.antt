use Rattle.std.proofs.Common.{append-nil, ◌≡◌, ◌+◌, ◌++◌, ◌∷◌, [], List, length, get_or, take, sym, ◌∙◌, ap, subst}
use Rattle.std.proofs.Common.{arith, Option}
use Rattle.std.proofs.lemmas.Bool.{not-true, not-false}
use Rattle.mp_base.specs.declared.refusal.Place.{Place}
use Rattle.mp_base.proofs.Lists.{take_whole}
use Rattle.mp_program.specs.declared.program.Pin.{Pin}
use Rattle.mp_limits.specs.Finding.{SeenPins, pins_before}
use Rattle.mp_limits.proofs.Seen.{grows, pushed, seen_new, seen_again, pins_more}
use Rattle.mp_limits.proofs.pins.see_pins.Goals.{then-not-branch, else-not-branch}
use Rattle.mp_limits.proofs.pins.see_pins.Goals as goal

pub loop-pin-init : goal.loop-pin-init
loop-pin-init c =
    let P : List Pin → Type 0 = λ ps. SeenPins ps c.args.seen.now c.args.found in
    subst P (sym (append-nil (pins_before c.args.defs.now c.args.index))) c.requires.seen

none : Pin
none = record { place = record { offset = 0; line = 0; column = 0 }; number = 0 }

pub loop-pin-preserved : goal.loop-pin-preserved
unfolding none
loop-pin-preserved c =
    let before = pins_before c.args.defs.now c.args.index in
    let ps = c.as_slice-pin-items.result.now in
    let i = c.loop-pin.pin-index in
    let P : List Pin → Option Place → Type 0 = λ qs found. SeenPins qs c.insert.new.self found in
    let longer : before ++ take (i + 1) ps ≡ (before ++ take i ps) ++ get_or ps i none ∷ [] =
    pushed before ps i none c.loop-pin-test.true in
    let grown = grows (get_or ps i none).number c.loop-pin.seen c.insert.new.self c.in_ok-insert.ensures.updates.0 in
    elim c.if-not-branch.branch [
      | then-not-branch w ↦
          subst (λ qs. P qs c.if-not-branch.found) (sym longer)
          (subst (P ((before ++ take i ps) ++ get_or ps i none ∷ [])) (sym (w.found-is ∙ w.earlier-found.ensures))
          (seen_again (before ++ take i ps)
          (get_or ps i none) c.loop-pin.seen c.insert.new.self c.loop-pin.found c.loop-pin.invariant
          (not-false _ (sym c.in_ok-insert.ensures.added ∙ w.if-not-branch.true)) grown))
      | else-not-branch w ↦
          subst (λ qs. P qs c.if-not-branch.found) (sym longer)
          (subst (P ((before ++ take i ps) ++ get_or ps i none ∷ [])) (sym w.found-is)
          (seen_new (before ++ take i ps)
          (get_or ps i none) c.loop-pin.seen c.insert.new.self c.loop-pin.found c.loop-pin.invariant
          (not-true _ (sym c.in_ok-insert.ensures.added ∙ w.if-not-branch.false)) grown))
    ]

pub returns : goal.returns
returns c =
    let end : c.loop-pin.pin-index ≡ length c.as_slice-pin-items.result.now = omega arith in
    let P : List Pin → Type 0 = λ ps. SeenPins ps c.loop-pin.seen c.loop-pin.found in
    subst P (ap (λ k. pins_before c.args.defs.now c.args.index ++ take k c.as_slice-pin-items.result.now) end
    ∙ ap (λ ps. pins_before c.args.defs.now c.args.index ++ ps)
    (take_whole c.as_slice-pin-items.result.now ∙ c.as_slice-pin-items.ensures)
    ∙ sym (pins_more c.args.defs.now c.args.index c.index-defs-index.result c.requires.inside)) c.loop-pin.invariant
