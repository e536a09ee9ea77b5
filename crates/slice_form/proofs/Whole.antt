-- A data path, as its placing takes it.
use Rattle.std.proofs.lemmas.Bool.{ltb-true}
use Rattle.nor_net.specs.Elements.{Joined}
use Rattle.path_form.specs.Shape.{rank}
use Rattle.slice_form.specs.Whole.{JointsFall}

pub joints_fall : JointsFall
joints_fall p n m h = ltb-true (rank p.order m) (rank p.order n) (p.whole.ordered n (Joined m) h)
