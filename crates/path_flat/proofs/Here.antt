-- The net at an index of the order, with what stands there.
use Rattle.std.proofs.Common.{◌≡◌, ℕ, ◌<◌, ◌≤◌, zero, suc, List, Some, length, get_or, sym, ◌∙◌, ap, subst, arith}
use Rattle.std.specs.Prelude.{IfSome, slice_get}
use Rattle.std.proofs.lemmas.Option.{slice_get-get_or, slice_get_within}
use Rattle.nor_net.specs.declared.net.NetId.{NetId}
use Rattle.nor_net.specs.declared.net.Part.{Part}
use Rattle.nor_net.specs.Elements.{Spot, Element}
use Rattle.nor_net.specs.Shape.{Fed}
use Rattle.path_form.specs.declared.path.DataPath.{DataPath}
use Rattle.path_form.specs.Shape.{rank}
use Rattle.path_form.specs.Showing.{path_nets}
use Rattle.path_flat.specs.declared.places.Place.{Place}
use Rattle.path_sources.specs.declared.sources.Source.{Source}
use Rattle.path_flat.specs.Adding.{IsElementAdded, IsReady}
use Rattle.path_flat.specs.Numbered.{IsNumberedTo, total}
use Rattle.path_flat.specs.Numbers.{HasShape, row_size, spot_of}
use Rattle.path_sources.specs.Sources.{parts_of}
use Rattle.path_flat.specs.Order.{places_of}
use Rattle.path_sources.specs.Sources.{element_in, path_source}
use Rattle.path_sources.proofs.Elements.{HasPart, has_part}
use Rattle.path_flat.proofs.Ranks.{length_places, rank_at}
use Rattle.path_flat.proofs.Room.{HasRoom, inputs_enough, nets_enough}
use Rattle.path_flat.proofs.Stepping.{counted_once, ready_below, within_net}

pub record IsHere (p : DataPath) (i : ℕ) (place : Place) : Type 0 where
  pub e : Element
  pub is : path_nets p (spot_of place) ≡ Some e
  pub place_rank : rank p.order (spot_of place) ≡ i
  pub within : i < total p.order
  pub part : HasPart p (spot_of place) e

pub is_here : (p : DataPath) (places : List Place) (i : ℕ) (d : Place) → places ≡ places_of p.order
    → i < length places
    → IsHere p i (get_or places i d)
is_here p places i d all l =
    let place = get_or places i d in
    let at : slice_get (places_of p.order) i ≡ Some place =
    ap (λ (xs : List Place). slice_get xs i) (sym all) ∙ slice_get-get_or places i d l in
    let r : rank p.order (spot_of place) ≡ i = rank_at p.order i place at (counted_once p (spot_of place)) in
    let n = ap length all ∙ length_places p.order in
    let w : i < total p.order = omega (arith, l, n) in
    let net = within_net p (spot_of place) (omega (arith, r, w)) in
    record { e = net.0; is = net.1; place_rank = r; within = w; part = has_part p (spot_of place) net.0 net.1 }

-- all stand at the end
pub all_here : (p : DataPath) (places : List Place) (i : ℕ) → places ≡ places_of p.order → i ≤ length places
    → length places ≤ i → i ≡ total p.order
all_here p places i all l g = let n = ap length all ∙ length_places p.order in omega (arith, l, g, n)

module _ (p : DataPath) (i : ℕ) (place : Place) (h : IsHere p i place) (own : List Part)
    (is_own : own ≡ parts_of p place.band) where
  pub own_at : slice_get own place.net ≡ Some h.part.part
  own_at = ap (λ (xs : List Part). slice_get xs place.net) is_own ∙ h.part.at

  pub own_within : place.net < length own
  own_within = slice_get_within own place.net h.part.part own_at

  pub own_fed : IfSome (slice_get own place.net) Fed
  own_fed = subst (λ o. IfSome o Fed) (sym own_at) h.part.fed

  module _ (source : Source) (is_source : source ≡ path_source p place.band place.net) where
    element : element_in p.width place.band source h.part.part ≡ h.e
    element = ap (λ s. element_in p.width place.band s h.part.part) is_source ∙ sym h.part.element

    pub own_ready : (flat : List Part) (of : Spot → NetId) → IsNumberedTo p i 0 flat of → HasRoom p i flat
        → IfSome (slice_get own place.net)
        (λ part. IsReady (element_in p.width place.band source part) of flat)
    own_ready flat of so room =
        subst (λ o. IfSome o (λ part. IsReady (element_in p.width place.band source part) of flat)) (sym own_at)
        (subst (λ e. IsReady e of flat) (sym element) ready)
      where
        ready : IsReady h.e of flat
        ready = record {
          nets = (let a = nets_enough p i flat (spot_of place) h.e room h.is h.place_rank in
              let b = p.whole.few_nets in omega (arith, a, b));
          inputs = (let a = inputs_enough p i flat (spot_of place) h.e room h.is h.place_rank in
              let b = p.whole.few_inputs in omega (arith, a, b));
          below = ready_below p i flat of so (spot_of place) h.e h.is h.place_rank;
        }

    pub own_added : (flat new : List Part) (of : Spot → NetId) (id : NetId)
        → IfSome (slice_get own place.net)
        (λ part. IsElementAdded (element_in p.width place.band source part) of flat new id)
        → IsElementAdded h.e of flat new id
    own_added flat new of id added =
        subst (λ e. IsElementAdded e of flat new id) element
        (subst (λ o. IfSome o (λ part. IsElementAdded (element_in p.width place.band source part) of flat new id))
        own_at
        added)

-- a net of a path has room for its number
pub has_room : (p : DataPath) (n : Spot) (e : Element) (rows : List (List NetId)) → HasPart p n e
    → HasShape p.width (length p.control) (length p.slices.net) rows → n.net < row_size rows n.band
has_room p n e rows part shape = by_band n.band part.at part.band
  where
    by_band : (b : ℕ) → slice_get (parts_of p b) n.net ≡ Some part.part → b ≤ p.width → n.net < row_size rows b
    by_band zero at l =
        let w = slice_get_within p.control n.net part.part at in let s = shape.first in omega (arith, w, s)
    by_band (suc k) at l =
        let w = slice_get_within p.slices.net n.net part.part
        (sym (ap (λ (xs : List Part). slice_get xs n.net) (Rattle.path_sources.proofs.Elements.slice_parts p k)) ∙ at) in
        let s = shape.others k (omega (arith, l)) in omega (arith, w, s)

pub shape_kept : (w c s : ℕ) (old new : List (List NetId)) → HasShape w c s old
    → ((band : ℕ) → row_size new band ≡ row_size old band) → HasShape w c s new
shape_kept w c s old new h same =
    record { first = same 0 ∙ h.first; others = λ k l. same (suc k) ∙ h.others k l }
