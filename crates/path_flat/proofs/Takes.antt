-- What stands for a latch may take what stands for its data.
use Rattle.std.proofs.Common.{◌≡◌, ℕ, ◌<◌, ◌+◌, List, [], Option, Some, None, Bool, true, false, cond, eqb, refl, sym}
use Rattle.std.proofs.Common.{◌∙◌, ap, subst, arith}
use Rattle.std.specs.Prelude.{IfSome, nat_lt, slice_get, slice_set, ◌-◌}
use Rattle.std.specs.Int.{bit_at}
use Rattle.std.proofs.lemmas.Bool.{false≢true, ltb-true}
use Rattle.std.proofs.lemmas.Option.{get_or_from_slice_get, slice_get_within}
use Rattle.nor_net.specs.declared.net.NetId.{NetId}
use Rattle.nor_net.specs.declared.net.Part.{Part}
use Rattle.nor_net.specs.declared.net.Part.TheVariants.{Input, Gate, Latch}
use Rattle.nor_net.specs.declared.net.Phase.{Phase}
use Rattle.nor_net.specs.Elements.{Spot, Element, Given, Nor, Latched, Joined, Low, spot}
use Rattle.nor_net.specs.Shape.{Fed, IsNet, MayFeed, MayTake, fed}
use Rattle.path_form.specs.declared.path.DataPath.{DataPath}
use Rattle.path_form.specs.Shape.{is_input, rank, takes_pad, times}
use Rattle.path_form.specs.Showing.{path_nets}
use Rattle.path_flat.specs.declared.places.Place.{Place}
use Rattle.path_sources.specs.declared.sources.Source.{Source}
use Rattle.path_sources.specs.declared.sources.Source.TheVariants.{Pad, Below, Above, Bits, Control, Slice}
use Rattle.path_flat.specs.Feeding.{IsFedAt, MayTakeAt}
use Rattle.path_flat.specs.Numbered.{IsFew, IsNumberedTo, total}
use Rattle.path_flat.specs.Numbers.{spot_of}
use Rattle.path_sources.specs.Sources.{parts_of}
use Rattle.path_sources.specs.Sources.{element_in, path_source, source_element}
use Rattle.path_sources.proofs.Elements.{gate_is}
use Rattle.path_flat.proofs.Fed.{NoLatch, few_fed, fed_more, unfed, unfed_more}
use Rattle.path_flat.proofs.Here.{IsHere, own_at}
use Rattle.path_flat.proofs.PadInputs.{pad_given, pads_of, parts_net, parts_take}
use Rattle.path_flat.proofs.Stepping.{net_within}

test_no_latch : (b : Bool) (m : Spot) → NoLatch (cond b Low (Joined m))
test_no_latch true m = tt
test_no_latch false m = tt

bit_no_latch : (b : Bool) → NoLatch (cond b (Nor []) Low)
bit_no_latch true = tt
bit_no_latch false = tt

pub source_no_latch : (w band : ℕ) (x : Source) → NoLatch (source_element w band x)
source_no_latch w band Pad = tt
source_no_latch w band (Below f) = test_no_latch (eqb band 1) (spot (band - 1) f)
source_no_latch w band (Above f) = test_no_latch (eqb band w) (spot (band + 1) f)
source_no_latch w band (Bits b) = bit_no_latch (eqb (bit_at b (band - 1)) 1)
source_no_latch w band (Control f) = tt
source_no_latch w band (Slice x f) = tt

module _ (p : DataPath) (shapes : IsNet p.control × IsNet p.slices.net) (i : ℕ) (place : Place) (h : IsHere p i place)
    (flat : List Part) (of : Spot → NetId) (so : IsNumberedTo p (total p.order) i flat of) where
  abbrev s : Spot
  s = spot_of place

  within : rank p.order s < total p.order
  within = let r = h.place_rank in let w = h.within in omega (arith, r, w)

  module _ (phase : Phase) (m : NetId) (at : slice_get (parts_of p place.band) place.net
      ≡ Some (Latch phase (Some m)))
      (is : path_nets p s ≡ Some (Latched phase (spot place.band m))) where
    feeds : MayFeed phase (slice_get flat (of (spot place.band m)).0)
    feeds = by_part (slice_get (parts_of p place.band) m.0) refl
        ((parts_net p shapes place.band).stand place.net (Latch phase (Some m)) at)
      where
        by_part : (o : Option Part) → slice_get (parts_of p place.band) m.0 ≡ o → MayFeed phase o
            → MayFeed phase (slice_get flat (of (spot place.band m)).0)
        by_part None e may = absurd may
        by_part (Some (Gate inputs)) e may =
            let n = gate_is p place.band m.0 inputs h.part.band e in
            subst (MayFeed phase)
            (sym (so.each (spot place.band m) _ n (net_within p (spot place.band m) _ n))) tt
        by_part (Some Input) e may =
            let pads = pads_of p place.band in
            let takes = parts_take p place.band place.net (Latch phase (Some m))
            (slice_get_within (parts_of p place.band) place.net (Latch phase (Some m)) at) in
            let here = sym (ap (λ x. takes_pad (parts_of p place.band) pads x)
            (get_or_from_slice_get (parts_of p place.band) place.net (Latch phase (Some m))
            (Latch phase (Some m)) at))
            ∙ takes in
            let some = ltb-true 0 (times m.0 pads)
            (sym (ap (λ o. cond (is_input o) (nat_lt 0 (times m.0 pads)) true) e) ∙ here) in
            let n = pad_given p place.band m.0 h.part.band e some in
            subst (MayFeed phase) (sym (so.each (spot place.band m) Given n
            (net_within p (spot place.band m) Given n))) may
        by_part (Some (Latch q x)) e may = absurd may

    may_take : MayTake (slice_get flat (of s).0) (slice_get flat (of (spot place.band m)).0)
    may_take =
        subst (λ o. MayTake o (slice_get flat (of (spot place.band m)).0))
        (sym (unfed p (total p.order) i flat of so s h.place_rank phase (spot place.band m) is within)) feeds

  at_part : (part : Part) → slice_get (parts_of p place.band) place.net ≡ Some part
      → h.e ≡ element_in p.width place.band (path_source p place.band place.net) part
      → MayTakeAt of place flat part
  at_part Input at e = tt
  at_part (Gate inputs) at e = tt
  at_part (Latch phase None) at e = tt
  at_part (Latch phase (Some m)) at e = may_take phase m at (h.is ∙ ap (λ (x : Element). Some x) e)

  pub own_may : (own : List Part) → own ≡ parts_of p place.band
      → IfSome (slice_get own place.net) (MayTakeAt of place flat)
  own_may own e =
      subst (λ o. IfSome o (MayTakeAt of place flat)) (sym (own_at p i place h own e))
      (at_part h.part.part h.part.at h.part.element)

  -- one more net was gone over
  pub record IsNext (new : List Part) : Type 0 where
    pub numbered : IsNumberedTo p (total p.order) (i + 1) new of
    pub few : IsFew p new

  same : (new : List Part) → IsFew p flat → new ≡ flat → NoLatch h.e → IsNext new
  same new few e none =
      subst IsNext (sym e)
      (record { numbered = unfed_more p (total p.order) i flat of so s h.place_rank h.e h.is none; few = few })

  next_of : (new : List Part) → IsFew p flat → (part : Part)
      → h.e ≡ element_in p.width place.band (path_source p place.band place.net) part
      → slice_get (parts_of p place.band) place.net ≡ Some part → Fed part
      → IsFedAt of place flat new part → IsNext new
  next_of new few Input e at is_fed after = same new few after
      (subst NoLatch (sym e) (source_no_latch p.width place.band (path_source p place.band place.net)))
  next_of new few (Gate inputs) e at is_fed after = same new few after (subst NoLatch (sym e) tt)
  next_of new few (Latch phase None) e at is_fed after = absurd (false≢true is_fed)
  next_of new few (Latch phase (Some m)) e at is_fed after =
      let is = h.is ∙ ap (λ (x : Element). Some x) e in
      let a = (of s).0 in
      let set : new ≡ slice_set flat a (Latch phase (Some (of (spot place.band m)))) =
      subst (λ o. IfSome o (λ latch. new ≡ slice_set flat a (fed (of (spot place.band m)) latch)))
      (unfed p (total p.order) i flat of so s h.place_rank phase (spot place.band m) is within) after in
      subst IsNext (sym set) (record {
        numbered = fed_more p (total p.order) i flat of so s h.place_rank phase (spot place.band m) is within;
        few = few_fed p (total p.order) i flat of so s h.place_rank phase (spot place.band m) is within few;
      })

  pub own_next : (own new : List Part) → own ≡ parts_of p place.band → IsFew p flat
      → IfSome (slice_get own place.net) (IsFedAt of place flat new) → IsNext new
  own_next own new e few after =
      next_of new few h.part.part h.part.element h.part.at h.part.fed
      (subst (λ o. IfSome o (IsFedAt of place flat new))
      (own_at p i place h own e) after)
