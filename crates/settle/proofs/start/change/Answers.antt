use Rattle.std.proofs.Common.{◌≡◌, ◌<◌, ◌∙◌, [], ℕ, List, Some, None, true, length, refl, subst, inl, inr, arith}
use Rattle.std.proofs.Math.ListN.{set}
use Rattle.std.proofs.lemmas.List.{get_or_default, get_or-set_same, get_or-set_other, length-set}
use Rattle.mp_base.specs.declared.value.Trit.TheVariants.{X}
use Rattle.switch_net.specs.Values.{driver_at}
use Rattle.settle.specs.Wake.{Wakes}
use Rattle.settle.proofs.Waking.{marked_here, widens_mark, widens_then, wakes_wider}
use Rattle.settle.proofs.start.change.Goals as goal

pub returns-in-None : goal.returns-in-None
returns-in-None c =
    let drive = c.args.board.now.drive.now in
    let driver = driver_at drive in
    let node = c.args.node in
    let old = c.args.waits.now in
    let mid = c.wake_beside.new.waits in
    let sized = c.wake_beside.auto.waits in
    let room = c.requires.waits in
    let inside = c.requires.node in
    let drive_sized = c.requires.moment.drive_sized in
    let lt : node < length mid = omega arith in
    let free : driver node ≡ None = get_or_default drive node None _ (omega arith) ∙ c.in-None.is in
    let mark = widens_mark driver mid node lt free in
    record {
      driven = λ t e. absurd (cc);
      kept = λ n _. refl;
      waiting = λ _. marked_here mid node lt;
      told = inl refl;
      beside =
          λ ch in' at. wakes_wider driver ch.ends mid (set mid node true) (length-set mid node true) mark
          (c.wake_beside.ensures.wakes ch in' at);
      widens = widens_then driver old mid (set mid node true) c.wake_beside.ensures.widens mark;
    }

pub returns-in-Some : goal.returns-in-Some
returns-in-Some c =
    let b = c.args.board.now in
    let drive = b.drive.now in
    let driver = driver_at drive in
    let node = c.args.node in
    let values = c.args.values.now in
    let v = c.in-Some.value in
    let mid = c.wake_beside.new.waits in
    let after = c.wake.new.waits in
    let inside = c.requires.node in
    let drive_sized = c.requires.moment.drive_sized in
    let values_sized = c.requires.moment.values_sized in
    let gated_sized = c.requires.moment.gated_sized in
    let lt : node < length values = omega arith in
    let is : driver node ≡ Some v = get_or_default drive node None _ (omega arith) ∙ c.in-Some.is in
    let list = c.as_slice.ensures ∙ get_or_default b.gated.now node c.index-board-node.result [] (omega arith) in
    record {
      driven = λ t e. get_or-set_same values node v X lt ∙ cc;
      kept = λ n q. elim q [ inl ne ↦ get_or-set_other values node n v X ne | inr free ↦ absurd (cc) ];
      waiting = λ free. absurd (cc);
      told = inr (subst (λ (xs : List ℕ). Wakes driver xs after) list c.wake.ensures.wakes);
      beside =
          λ ch in' at. wakes_wider driver ch.ends mid after c.wake.auto.waits c.wake.ensures.widens
          (c.wake_beside.ensures.wakes ch in' at);
      widens = widens_then driver c.args.waits.now mid after c.wake_beside.ensures.widens c.wake.ensures.widens;
    }
