use Rattle.std.proofs.Common.{map}
use Rattle.mp_base.proofs.Names.{Seen}
use Rattle.mp_base.proofs.pad_names.are_pad_names.Given as goal

abbrev pub invariant-loop-name : goal.invariant-loop-name
invariant-loop-name l = Seen l.seen (map (λ name. name.now) l.names) l.name-index
