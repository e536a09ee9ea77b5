use Rattle.extractor.specs.Naming.{AreNamed}
use Rattle.extractor.proofs.over.nodes_named.Given as goal

abbrev pub invariant-loop-n : goal.invariant-loop-n
invariant-loop-n l = AreNamed l.labels l.metal l.polysilicon l.diffusion l.n l.nodes
