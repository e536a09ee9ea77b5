-- A latch that is added stands for a latch of the path.
use Rattle.std.proofs.Common.{◌≡◌, ℕ, List, [], ◌∷◌, ◌++◌, Option, Some, None, Result, Ok, Err, ◌∙◌, ap}
use Rattle.std.specs.Prelude.{IfOk, IfSome, slice_get}
use Rattle.std.proofs.lemmas.Bool.{false≢true}
use Rattle.mp_base.specs.declared.refusal.NoMemory.{NoMemory}
use Rattle.nor_net.specs.declared.net.NetId.{NetId}
use Rattle.nor_net.specs.declared.net.NetKind.{NetKind}
use Rattle.nor_net.specs.declared.net.NetKind.TheVariants as kinds
use Rattle.nor_net.specs.declared.net.Part.{Part}
use Rattle.nor_net.specs.declared.net.Part.TheVariants.{Input, Gate, Latch}
use Rattle.nor_net.specs.declared.net.Phase.{Phase}
use Rattle.nor_net.specs.Elements.{Spot}
use Rattle.nor_net.specs.Shape.{Fed, IsAdded, kind_of}
use Rattle.path_sources.specs.declared.sources.Source.{Source}
use Rattle.path_flat.specs.Adding.{IsElementAdded}
use Rattle.path_sources.specs.Sources.{element_in}

module _ (own : List Part) (n w band : ℕ) (source : Source) (of : Spot → NetId) (old new : List Part) (phase : Phase)
    (source_of : Option NetId) (kind : NetKind) where
  one_added : (id : NetId) (o : Option Part) → IfSome o (λ p. kind ≡ kind_of p) → kind ≡ kinds.Latch phase source_of
      → IfSome o Fed → IsAdded old (Latch phase None) new id
      → IfSome o (λ part. IsElementAdded (element_in w band source part) of old new id)
  one_added id None is latch fed added = tt
  one_added id (Some Input) is latch fed added = cc
  one_added id (Some (Gate inputs)) is latch fed added = cc
  one_added id (Some (Latch other None)) is latch fed added = absurd (false≢true fed)
  one_added id (Some (Latch other (Some m))) is latch fed added =
      let same : phase ≡ other = cc in
      record {
        parts = added.parts ∙ ap (λ q. old ++ Latch q None ∷ []) same;
        number = ap (λ k. record { 0 = k }) added.number;
      }

  pub latch_added : (r : Result NetId NoMemory) → IfSome (slice_get own n) (λ p. kind ≡ kind_of p)
      → kind ≡ kinds.Latch phase source_of → IfSome (slice_get own n) Fed
      → IfOk r (λ id. IsAdded old (Latch phase None) new id)
      → IfOk r (λ id. IfSome (slice_get own n) (λ part. IsElementAdded (element_in w band source part) of old new id))
  latch_added (Ok id) is latch fed added = one_added id (slice_get own n) is latch fed added
  latch_added (Err e) is latch fed added = added
