use Rattle.std.proofs.Common.{take}
use Rattle.std.specs.Prelude.{filter}
use Rattle.std.specs.List.{AllZip}
use Rattle.fabric.specs.Switches.{IsSwitch, is_switch}
use Rattle.fabric.specs.Numbers.{number_of}
use Rattle.fabric.proofs.fabric.Fabric.channels.Given as goal

abbrev pub invariant-loop-m : goal.invariant-loop-m
invariant-loop-m l = AllZip (IsSwitch l.self (number_of l.self l.numbers))
    (filter is_switch (take l.m-index l.m-items)) l.channels
