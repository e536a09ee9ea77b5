use Rattle.std.proofs.Common.{◌+◌, ◌∙◌, sym, subst, take}
use Rattle.std.specs.Prelude.{filter}
use Rattle.std.specs.List.{AllZip}
use Rattle.fabric.specs.Numbers.{IsTapPair, is_tap}
use Rattle.fabric.proofs.Switching.{more_made, none_made, tap_tile}
use Rattle.fabric.proofs.fabric.Fabric.pairs.Goals.{in-Some+in_ok-push, in_default}
use Rattle.fabric.proofs.fabric.Fabric.pairs.Goals as goal

pub loop-m-preserved : goal.loop-m-preserved
loop-m-preserved c =
    let plan = c.args.self.now in
    let marks = c.as_slice-m-items.result.now in
    elim c.match-joined.branch [
      | in-Some+in_ok-push w ↦ more_made (IsTapPair plan) is_tap marks c.loop-m.m-index _ c.loop-m.pairs
          c.match-joined.pairs w.in-Some.pair c.loop-m-test.true c.loop-m.invariant
          (tap_tile plan _ w.in-Some.pair w.in-Some.ensures) w.in-Some.ensures (w.pairs-is ∙ w.in_ok-push.ensures.ok)
      | in_default w ↦ subst (AllZip (IsTapPair plan) (filter is_tap (take (c.loop-m.m-index + 1) marks)))
          (sym w.pairs-is)
          (none_made (IsTapPair plan) is_tap marks c.loop-m.m-index _ c.loop-m.pairs c.loop-m-test.true
          c.loop-m.invariant w.in_default.ensures)
    ]
