-- Where an enable comes from, for all crates above.
use Rattle.std.proofs.Common.{ℕ, ◌≡◌, true, ap}
use Rattle.std.proofs.lemmas.Bool.{eqb-true}
use Rattle.process_plan.specs.declared.enable.Origin.{Origin}
use Rattle.process_plan.specs.declared.enable.Origin.TheVariants.{At, Always}
use Rattle.process_layout.specs.Counts.{is_of}

pub own_origin : (k : ℕ) (o : Origin) → is_of k o ≡ true → (i : ℕ) × (o ≡ At k i)
own_origin k Always h = absurd (cc)
own_origin k (At j i) h = (i, ap (λ n. At n i) (eqb-true j k h))
