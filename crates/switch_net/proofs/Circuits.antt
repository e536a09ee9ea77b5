-- Circuits that break no rule, for all crates above.
use Rattle.mp_base.specs.declared.pad.Pads.{Pads}
use Rattle.mp_base.specs.declared.refusal.Broken.{Broken}
use Rattle.switch_net.specs.declared.network.Network.{Network}
use Rattle.switch_net.specs.Breaks.{HasPads, IsFirstOfCircuit, n3, n4}

-- a network that has its pads breaks no rule with them
pub breaks_nothing : (net : Network) (pads : Pads) (b : Broken) → HasPads net pads → IsFirstOfCircuit net pads b → ⊥
breaks_nothing net pads b has (n3 i tag driven before) = has.apart i (tag, driven)
breaks_nothing net pads b has (n4 apart i name missing before) = has.labelled i name missing
