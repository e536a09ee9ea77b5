use Rattle.extractor.specs.Tagging.{AreSeen, AreTagged}
use Rattle.switch_net.specs.Names.{number_of}
use Rattle.extractor.proofs.tags.tags_of.Given as goal

abbrev pub invariant-loop-n : goal.invariant-loop-n
invariant-loop-n l = AreTagged l.labels l.nodes l.n l.tags × AreSeen (number_of l.seen) l.tags
