-- Two sets of layers that `==` finds equal.
use Rattle.std.proofs.Common.{◌≡◌, true}
use Rattle.std.specs.Prelude.{◌==◌}
use Rattle.std.proofs.lemmas.Bool.{eqb-true}
use Rattle.cover_tree.specs.declared.layer_set.LayerSet.{LayerSet}

pub same_set : (a b : LayerSet) → (a.bits == b.bits) ≡ true → a ≡ b
same_set a b e = λ i. record { bits = eqb-true a.bits b.bits e i }
