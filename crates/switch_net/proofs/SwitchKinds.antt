-- Channels that conduct may conduct, for all crates above.
use Rattle.mp_base.specs.declared.value.Trit.{Trit}
use Rattle.switch_net.specs.declared.network.ChannelKind.{ChannelKind}
use Rattle.switch_net.specs.Settled.{KindIsOn, KindMayBeOn}
use Rattle.switch_net.specs.declared.network.ChannelKind.TheVariants.{Enhancement, Depletion}
use Rattle.switch_net.specs.declared.network.ChannelKind.TheVariants.{Partial}

pub on_may_be_on : (k : ChannelKind) (t : Trit) → KindIsOn k t → KindMayBeOn k t
on_may_be_on Enhancement t h = λ z. cc
on_may_be_on Depletion t h = tt
on_may_be_on Partial t h = tt
