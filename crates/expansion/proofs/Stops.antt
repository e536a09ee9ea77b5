-- Reasons for which something is too long.
use Rattle.expansion.specs.declared.item.Stop.{Stop}
use Rattle.expansion.specs.declared.item.Stop.TheVariants.{NoMemory, TooLong}
use Rattle.expansion.specs.Filling.{Stops}

pub stops_weaker : {P Q : Type 0} → (P → Q) → (stop : Stop) → Stops P stop → Stops Q stop
stops_weaker weaker TooLong reason = weaker reason
stops_weaker weaker NoMemory reason = tt
