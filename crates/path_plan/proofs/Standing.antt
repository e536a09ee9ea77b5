-- The labels of a path's chip stand on the nets of their points, so the chip is laid out.
use Rattle.std.proofs.Common.{◌≡◌, ◌≢◌, inl, inr, ℕ, zero, suc, ◌+◌, ◌≤◌, List, [], ◌∷◌, refl, sym, subst}
use Rattle.std.proofs.Common.{arith}
use Rattle.std.specs.Prelude.{All, AllPairs}
use Rattle.std.specs.List.{AllZip}
use Rattle.mp_base.specs.declared.pad.Pads.{Pads}
use Rattle.mp_base.proofs.Members.{Member}
use Rattle.switch_net.specs.declared.limits.TheConstants.{MOST_NODES_AND_CHANNELS}
use Rattle.switch_net.specs.declared.network.Network.{Network}
use Rattle.switch_net.specs.Pads.{chip_labels}
use Rattle.nor_net.specs.Elements.{Spot}
use Rattle.drawing.specs.Draws.{Point}
use Rattle.fabric.specs.declared.chip.ChipLabel.{ChipLabel}
use Rattle.fabric.specs.Counted.{thing_count}
use Rattle.fabric.specs.Plan.{Plan, IsFabric}
use Rattle.fabric.specs.Shape.{shape}
use Rattle.fabric.specs.Switches.{AreSwitches, Net}
use Rattle.rtl_form.specs.declared.rtl.Rtl.{Rtl}
use Rattle.path_form.specs.declared.path.DataPath.{DataPath}
use Rattle.path_form.specs.Showing.{path_nets}
use Rattle.slice_chip.specs.Drawn.{DrawsSliced}
use Rattle.slice_chip.specs.Order.{AreInOrder}
use Rattle.slice_chip.specs.Unders.{IsLed}
use Rattle.chip_laws.specs.Fabrics.{FabricLays, IsAt}
use Rattle.chip_laws.specs.Labels.{LabelsStand}
use Rattle.chip_laws.specs.Laws.{IsExtracted, names_of}
use Rattle.chip_laws.specs.Rows.{rows_at}
use Rattle.chip_laws.specs.Sound.{FabricsAreFew, IsOnNet, LabelsFit}
use Rattle.path_labels.specs.Labels.{IsAtPoint, label_points, net_at}
use Rattle.path_chips.specs.Planned.{IsPathLaidOut}
use Rattle.path_plan.proofs.Points.{IsThere, here, is_net, points_there}

-- what holds place by place where all on the left are of a kind
pub zip_weaker : {A B : Type 0} (Kind : A → Type 0) (R S : A → B → Type 0) (xs : List A) (ys : List B)
    → ((x : A) → Member xs x → Kind x) → ((x : A) (y : B) → Kind x → R x y → S x y) → AllZip R xs ys → AllZip S xs ys
zip_weaker Kind R S [] [] k h z = tt
zip_weaker Kind R S [] (y ∷ ys) k h z = absurd z
zip_weaker Kind R S (x ∷ xs) [] k h z = absurd z
zip_weaker Kind R S (x ∷ xs) (y ∷ ys) k h z =
    (h x y (k x (inl refl)) z.0, zip_weaker Kind R S xs ys (λ a m. k a (inr m)) h z.1)

on_nets : (f : Plan) (number : Net → ℕ) (place : Point → ℕ) (at : List Point) (labels : List ChipLabel)
    → AllZip (IsAt f number place) at labels → All (IsOnNet f) labels
on_nets f number place [] [] z i d h = absurd (omega arith)
on_nets f number place [] (l ∷ ls) z i d h = absurd z
on_nets f number place (a ∷ rest) [] z i d h = absurd z
on_nets f number place (a ∷ rest) (l ∷ ls) z zero d h = record { net = z.0.net; is = z.0.is; on = z.0.on }
on_nets f number place (a ∷ rest) (l ∷ ls) z (suc i) d h = on_nets f number place rest ls z.1 i d (omega arith)

module _ (p : DataPath) (f : Plan) (led : IsLed p f) (lawful : IsFabric f)
    (order : AreInOrder p led.bare led.sliced) (number : Net → ℕ) (network : Network)
    (switched : AreSwitches f number network) (node : Point → ℕ)
    (drawn : DrawsSliced p (led.sliced).control (led.sliced).slices number network node) (stand : LabelsStand)
    (labels : List ChipLabel) (there : AllZip (IsAtPoint p f) (label_points p) labels)
  where
    abbrev ins : List (List Spot)
    ins = rows_at (p.pads).inputs p.inputs

    abbrev outs : List (List Spot)
    outs = rows_at (p.pads).outputs p.outputs

    are_at : AllZip (IsAt f number node) (label_points p) labels
    are_at =
        zip_weaker (IsThere p) (IsAtPoint p f) (IsAt f number node) (label_points p) labels (points_there p)
        (λ at label h c. record {
          net = net_at p f at;
          is = is_net p f led order at h;
          here = here p f led order number network node drawn at h;
          on = stand f lawful (net_at p f at) (is_net p f led order at h) label c;
        }) there

    abbrev Extracted : Network → Pads → Type 0
    Extracted n pads =
        IsExtracted n network pads (path_nets p) (rows_at pads.inputs p.inputs) (rows_at pads.outputs p.outputs) node

    pub laid_out : LabelsFit → FabricsAreFew → FabricLays → thing_count f + 2 ≤ MOST_NODES_AND_CHANNELS
        → names_of labels ≡ chip_labels p.pads → AllPairs ◌≢◌ (chip_labels p.pads) → (rtl : Rtl) → p.pads ≡ rtl.pads
        → IsPathLaidOut rtl p network node (shape f) labels
    laid_out fit few lays count named differ rtl of_pads flat are = (
      fit f lawful labels (subst (AllPairs ◌≢◌) (sym named) differ)
          (on_nets f number node (label_points p) labels are_at) flat are,
      few f lawful network number switched count,
      λ n is. subst (Extracted n) of_pads
          (lays f lawful network number switched p.pads (path_nets p) ins outs node (drawn.draws) drawn.inside
          labels named are_at flat are n is),
    )
