-- What is drawn of a data path is planned.
use Rattle.std.proofs.Common.{◌≡◌, ◌≢◌, ℕ, List, inl, inr, length, subst, sym}
use Rattle.std.specs.Prelude.{All, codes}
use Rattle.mp_base.specs.declared.pad.Pads.{Pads}
use Rattle.switch_net.specs.Breaks.{HasPads}
use Rattle.switch_net.specs.Clock.{IsLabelled}
use Rattle.switch_net.specs.declared.network.Channel.{Channel}
use Rattle.switch_net.specs.declared.network.ChannelKind.TheVariants.{Partial}
use Rattle.switch_net.specs.declared.network.Network.{Network}
use Rattle.nor_net.specs.declared.net.Phase.{Phase}
use Rattle.nor_net.specs.declared.net.Phase.TheVariants.{A, B, C}
use Rattle.nor_net.specs.Elements.{Spot, Given}
use Rattle.nor_net.specs.Shape.{IsNet}
use Rattle.drawing.specs.Draws.{Ground, IsDrawn, OfPhase, Point, Power, lone, pass, pull_down, pull_up}
use Rattle.drawn_nets.specs.Circuits.{DrawsCircuit}
use Rattle.drawn_nets.specs.Law.{IsKind}
use Rattle.path_form.specs.declared.path.DataPath.{DataPath}
use Rattle.path_form.specs.Showing.{ShowsTransfers, path_nets}
use Rattle.rtl_form.specs.declared.rtl.Rtl.{Rtl}
use Rattle.ground_ways.specs.Ratioed.{IsPhase, IsRatioed}
use Rattle.ground_ways.specs.Ways.{OneToGround, PullUpsAreTied, TransistorsAreClocked}
use Rattle.chip_laws.specs.Laws.{AreRowsApart, AreRowsOf, CircuitsHavePads, IsExtracted, NetworksDrawCircuits}
use Rattle.chip_laws.specs.Planned.{FollowsTransfers}
use Rattle.chip_laws.specs.Rows.{PathsAreFed, PathsShowRows, RowsFollow, rows_at}
use Rattle.path_chips.specs.Planned.{PathsArePlanned}
use Rattle.path_chips.specs.Ratioed.{PathsAreRatioed}
use Rattle.path_chips.proofs.GivenBits.{given_in_rows}
use Rattle.path_chips.proofs.PadRows.{rows_apart, rows_fit, rows_full, rows_given, rows_long}
use Rattle.std.specs.Prelude.{Contains}

-- what holds of the rows of a path, at pads that are its own
record AreGoodRows (p : DataPath) (pads : Pads) : Type 0 where
  in_rows : AreRowsOf pads.inputs (rows_at pads.inputs p.inputs)
  out_rows : AreRowsOf pads.outputs (rows_at pads.outputs p.outputs)
  are_given : All (λ nets. All (λ k. IsKind (path_nets p) k Given) nets) (rows_at pads.inputs p.inputs)
  have_given : (k : Spot) → IsKind (path_nets p) k Given
      → (nets : List Spot) × Contains (rows_at pads.inputs p.inputs) nets × Contains nets k
  apart : AreRowsApart (rows_at pads.inputs p.inputs)
  many : length (rows_at pads.outputs p.outputs) ≡ length pads.outputs

good_rows : (p : DataPath) → AreGoodRows p p.pads
good_rows p = record {
  in_rows = rows_fit (p.pads).inputs p.inputs p.whole.entries_fit.0.0;
  out_rows = rows_fit (p.pads).outputs p.outputs p.whole.entries_fit.1.0;
  are_given = rows_given p;
  have_given = given_in_rows p;
  apart = rows_apart p;
  many = rows_long (p.pads).outputs p.outputs p.whole.entries_fit.1.0;
}

-- an extracted network is a circuit of the path
module _ (drawn : NetworksDrawCircuits) (fed : PathsAreFed) (rtl : Rtl) (p : DataPath) (n m : Network)
    (place : Point → ℕ) (same : p.pads ≡ rtl.pads) (control : IsNet p.control) (slices : IsNet p.slices.net)
    (e : IsExtracted n m rtl.pads (path_nets p) (rows_at (rtl.pads).inputs p.inputs)
    (rows_at (rtl.pads).outputs p.outputs) place)
  where
    good : AreGoodRows p rtl.pads
    good = subst (AreGoodRows p) same (good_rows p)

    abbrev node : Point → ℕ
    node q = (e.numbers).node_back (place q)

    circuit : DrawsCircuit n rtl.pads (path_nets p) (rows_at (rtl.pads).inputs p.inputs)
        (rows_at (rtl.pads).outputs p.outputs) node
    circuit =
        drawn n m rtl.pads (path_nets p) (rows_at (rtl.pads).inputs p.inputs) (rows_at (rtl.pads).outputs p.outputs)
        place e (fed p control slices) good.in_rows good.out_rows good.are_given good.have_given

    follows : RowsFollow → PathsShowRows → CircuitsHavePads → ShowsTransfers rtl p
        → HasPads n rtl.pads × FollowsTransfers rtl n
    follows follow show have shows = (
      have n rtl.pads (path_nets p) (rows_at (rtl.pads).inputs p.inputs) (rows_at (rtl.pads).outputs p.outputs) node
          circuit good.apart,
      follow rtl (path_nets p) (rows_at (rtl.pads).inputs p.inputs) (rows_at (rtl.pads).outputs p.outputs) n node
          (show rtl p same shows) good.many (rows_full (rtl.pads).outputs p.outputs) circuit,
    )

    whole : (c : Channel) → IsDrawn (path_nets p) node c → c.kind ≢ Partial
    whole c (pull_down k ins i h among is) u = let d = is.enhancement in cc (d, u)
    whole c (pull_up k ins h is) u = let d = is.depletion in cc (d, u)
    whole c (pass k ph source h is) u = let d = is.enhancement in cc (d, u)
    whole c (lone k none is) u = let d = is.depletion in cc (d, u)

    at_phase : (phase : Phase) (gate : ℕ) → gate ≡ node (OfPhase phase) → IsPhase n gate
    at_phase A gate is = inl (subst (IsLabelled n (codes "phia")) (sym is) circuit.phia)
    at_phase B gate is = inr (inl (subst (IsLabelled n (codes "phib")) (sym is) circuit.phib))
    at_phase C gate is = inr (inr (subst (IsLabelled n (codes "phic")) (sym is) circuit.phic))

    ratioed : OneToGround → PullUpsAreTied → TransistorsAreClocked → IsRatioed n
    ratioed one tied clocked = record {
      not_partial = λ c k. whole c (circuit.draws.only c k);
      ground = node Ground;
      power = node Power;
      is_ground = circuit.ground;
      is_power = circuit.power;
      tied = λ d k. (tied n.channels (path_nets p) node circuit.draws circuit.is_fed d k).0;
      alone = circuit.draws.alone;
      fed = λ c k. (tied n.channels (path_nets p) node circuit.draws circuit.is_fed c k).1;
      clocked = λ c k kind. elim (clocked n.channels (path_nets p) node circuit.draws c k kind) [
        | inl ground ↦ inl ground
        | inr gate ↦ inr (at_phase gate.0 c.gate gate.1)
      ];
      one_channel = one n.channels (path_nets p) node circuit.draws circuit.is_fed;
    }

pub paths_are_planned : NetworksDrawCircuits → PathsAreFed → RowsFollow → PathsShowRows → CircuitsHavePads
    → PathsArePlanned
paths_are_planned drawn fed follow show have rtl p m place rects labels same shows control slices named laid =
    record {
      named = named;
      draws = λ flat are.
          let l = laid flat are in
          record {
            labels_fit = l.0;
            few = l.1;
            each = λ network is.
                follows drawn fed rtl p network m place same control slices (l.2 network is) follow show have shows;
          };
    }

pub paths_are_ratioed : NetworksDrawCircuits → PathsAreFed → OneToGround → PullUpsAreTied
    → TransistorsAreClocked → PathsAreRatioed
paths_are_ratioed drawn fed one tied clocked rtl p n m place same control slices e =
    ratioed drawn fed rtl p n m place same control slices e one tied clocked
