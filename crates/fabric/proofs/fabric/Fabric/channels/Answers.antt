use Rattle.std.proofs.Common.{◌+◌, ◌∙◌, sym, subst, take, get_or}
use Rattle.std.specs.Prelude.{filter}
use Rattle.std.specs.List.{AllZip}
use Rattle.fabric.specs.Switches.{IsSwitch, is_switch}
use Rattle.tile_cells.specs.declared.tile.Tile.TheVariants.{TapL}
use Rattle.fabric.specs.declared.thing.Mark.{Mark}
use Rattle.fabric.specs.Numbers.{number_of}
use Rattle.fabric.proofs.Switching.{more_made, none_made, switch_tile, no_switch}
use Rattle.fabric.proofs.fabric.Fabric.channels.Goals.{in-Tran+in_ok-transistor-in-Tran+in_ok-push-in-Tran}
use Rattle.fabric.proofs.fabric.Fabric.channels.Goals.{in-PullUp+in_ok-pull_up-in-PullUp+in_ok-push-in-PullUp, in-TapL}
use Rattle.fabric.proofs.fabric.Fabric.channels.Goals as goal

abbrev no_mark_here : Mark
no_mark_here = record { tile = TapL; band = 0; row = 0; column = 0 }

pub loop-m-preserved : goal.loop-m-preserved
loop-m-preserved c = elim c.match-m.branch [
  | in-Tran+in_ok-transistor-in-Tran+in_ok-push-in-Tran w ↦ more_made
      (IsSwitch c.args.self.now (number_of c.args.self.now c.args.numbers.now)) is_switch c.as_slice-m-items.result.now
      c.loop-m.m-index _ c.loop-m.channels c.match-m.channels w.in_ok-transistor-in-Tran.field-0 c.loop-m-test.true
      c.loop-m.invariant
      (switch_tile c.args.self.now (number_of c.args.self.now c.args.numbers.now) _ w.in_ok-transistor-in-Tran.field-0
      w.in_ok-transistor-in-Tran.ensures) w.in_ok-transistor-in-Tran.ensures
      (w.channels-is ∙ w.in_ok-push-in-Tran.ensures.ok)
  | in-PullUp+in_ok-pull_up-in-PullUp+in_ok-push-in-PullUp w ↦ more_made
      (IsSwitch c.args.self.now (number_of c.args.self.now c.args.numbers.now)) is_switch c.as_slice-m-items.result.now
      c.loop-m.m-index _ c.loop-m.channels c.match-m.channels w.in_ok-pull_up-in-PullUp.field-0 c.loop-m-test.true
      c.loop-m.invariant
      (switch_tile c.args.self.now (number_of c.args.self.now c.args.numbers.now) _ w.in_ok-pull_up-in-PullUp.field-0
      w.in_ok-pull_up-in-PullUp.ensures) w.in_ok-pull_up-in-PullUp.ensures
      (w.channels-is ∙ w.in_ok-push-in-PullUp.ensures.ok)
  | in-TapL w ↦ subst (AllZip (IsSwitch c.args.self.now (number_of c.args.self.now c.args.numbers.now))
      (filter is_switch (take (c.loop-m.m-index + 1) c.as_slice-m-items.result.now))) (sym w.channels-is)
      (none_made (IsSwitch c.args.self.now (number_of c.args.self.now c.args.numbers.now)) is_switch
      c.as_slice-m-items.result.now c.loop-m.m-index _ c.loop-m.channels c.loop-m-test.true c.loop-m.invariant
      (no_switch (get_or c.as_slice-m-items.result.now c.loop-m.m-index no_mark_here) w.in-TapL.is))
]
