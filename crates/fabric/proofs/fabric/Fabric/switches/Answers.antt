use Rattle.std.proofs.Common.{subst, refl}
use Rattle.std.specs.Prelude.{filter}
use Rattle.std.specs.List.{AllZip}
use Rattle.fabric.specs.Switches.{IsSwitch, is_switch}
use Rattle.fabric.specs.Numbers.{number_of}
use Rattle.fabric.proofs.Switching.{are_among, switches_are}
use Rattle.fabric.proofs.fabric.Fabric.switches.Goals as goal

pub untagged-requires : goal.untagged-requires
untagged-requires c =
    let classes = c.in_ok-classes.classes in
    are_among c.args.self.now classes.count (number_of c.args.self.now classes.numbers)
    (filter is_switch c.args.self.now.marks) c.in_ok-channels.channels _ c.in_ok-classes.ensures.numbers
    (subst (λ z. AllZip (IsSwitch c.args.self.now (number_of c.args.self.now z))
    (filter is_switch c.args.self.now.marks) c.in_ok-channels.channels) c.as_slice.ensures c.in_ok-channels.ensures)
    refl

pub returns : goal.returns
returns c =
    switches_are c.args.self.now c.in_ok-classes.classes c.in_ok-channels.channels c.untagged.result
    c.in_ok-classes.ensures
    (subst (λ z. AllZip (IsSwitch c.args.self.now (number_of c.args.self.now z))
    (filter is_switch c.args.self.now.marks) c.in_ok-channels.channels) c.as_slice.ensures c.in_ok-channels.ensures)
    c.untagged.ensures
