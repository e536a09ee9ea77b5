-- The data of a latch is a net of the path.
use Rattle.std.proofs.Common.{◌≡◌, ℕ, ◌<◌, Option, Some, None, refl, sym, subst}
use Rattle.std.specs.Prelude.{slice_get}
use Rattle.std.proofs.lemmas.Bool.{false≢true}
use Rattle.nor_net.specs.declared.net.Part.{Part}
use Rattle.nor_net.specs.declared.net.Part.TheVariants.{Input, Gate, Latch}
use Rattle.nor_net.specs.declared.net.Phase.{Phase}
use Rattle.nor_net.specs.Elements.{Spot, Latched, spot}
use Rattle.nor_net.specs.Shape.{Fed, IsNet, MayFeed}
use Rattle.path_form.specs.declared.path.DataPath.{DataPath}
use Rattle.path_form.specs.Shape.{rank}
use Rattle.path_form.specs.Showing.{path_nets}
use Rattle.path_flat.specs.Numbered.{total}
use Rattle.path_sources.specs.Sources.{parts_of}
use Rattle.path_sources.specs.Sources.{element_in, path_source}
use Rattle.path_sources.proofs.Elements.{HasPart, has_part, net_at}
use Rattle.path_flat.proofs.Fed.{NoLatch}
use Rattle.path_flat.proofs.PadInputs.{parts_net}
use Rattle.path_flat.proofs.Stepping.{net_within}
use Rattle.path_flat.proofs.Takes.{source_no_latch}

module _ (p : DataPath) (shapes : IsNet p.control × IsNet p.slices.net) where
  pub data_within : (n : Spot) (phase : Phase) (m : Spot) → path_nets p n ≡ Some (Latched phase m)
      → rank p.order m < total p.order
  data_within n phase m is = by_part h.part h.at h.element h.fed
    where
      h : HasPart p n (Latched phase m)
      h = has_part p n (Latched phase m) is

      by_data : (x : ℕ) (ph : Phase) (o : Option Part) → slice_get (parts_of p n.band) x ≡ o → MayFeed ph o
          → rank p.order (record { band = n.band; net = x }) < total p.order
      by_data x ph None e may = absurd may
      by_data x ph (Some Input) e may =
          let d = net_at p n.band x Input h.band e tt in net_within p (record { band = n.band; net = x }) d.0 d.1
      by_data x ph (Some (Gate inputs)) e may =
          let d = net_at p n.band x (Gate inputs) h.band e tt in
          net_within p (record { band = n.band; net = x }) d.0 d.1
      by_data x ph (Some (Latch q s)) e may = absurd may

      by_part : (part : Part) → slice_get (parts_of p n.band) n.net ≡ Some part
          → Latched phase m ≡ element_in p.width n.band (path_source p n.band n.net) part → Fed part
          → rank p.order m < total p.order
      by_part Input at e fed =
          absurd (subst NoLatch (sym e) (source_no_latch p.width n.band (path_source p n.band n.net)))
      by_part (Gate inputs) at e fed = cc
      by_part (Latch ph None) at e fed = absurd (false≢true fed)
      by_part (Latch ph (Some x)) at e fed =
          let same : spot n.band x ≡ m = cc in
          subst (λ (y : Spot). rank p.order y < total p.order) same
          (by_data x.0 ph (slice_get (parts_of p n.band) x.0) refl
          ((parts_net p shapes n.band).stand n.net (Latch ph (Some x)) at))
