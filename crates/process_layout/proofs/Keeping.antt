-- Lists that keep what they had, for all crates above.
use Rattle.std.proofs.Common.{List}
use Rattle.process_layout.specs.Steps.{Keeps}

pub keeps_same : {X : Type 0} (xs : List X) → Keeps xs xs
keeps_same xs = λ k x at. at

pub keeps_more : {X : Type 0} (xs ys zs : List X) → Keeps xs ys → Keeps ys zs → Keeps xs zs
keeps_more xs ys zs h g = λ k x at. g k x (h k x at)
