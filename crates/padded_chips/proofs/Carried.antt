-- A label in the corner of a net names what is joined to the net's pad.
use Rattle.std.proofs.Common.{◌≡◌, ◌<◌, ◌≤◌, ◌+◌, ◌-◌, ℕ, zero, suc, inl, inr, refl, sym, subst, subst₂, ap, ◌∙◌, arith}
use Rattle.std.proofs.Common.{List, [], ◌∷◌, length, get_or, map, Some, Contains}
use Rattle.std.specs.List.{range_with_len}
use Rattle.std.proofs.lemmas.List.{get_or_default}
use Rattle.std.proofs.lemmas.List.FromFn.{length-map-range_with_len, get_or-map-range_with_len}
use Rattle.lam_geom.specs.declared.layer.Layer.{Layer}
use Rattle.lam_geom.specs.declared.layer.Layer.TheVariants.{NM}
use Rattle.lam_geom.specs.declared.label.FlatLabel.{FlatLabel}
use Rattle.lam_geom.specs.declared.rect.Rect.{Rect}
use Rattle.lam_geom.specs.Chains.{Chain}
use Rattle.lam_geom.specs.Squares.{Square, covered}
use Rattle.lam_geom.proofs.Chains.{keep_along, turn_chain}
use Rattle.switch_net.specs.Conductors.{Conducts, ConductsOn, Joined}
use Rattle.switch_net.specs.Labels.{IsNamed, Names}
use Rattle.switch_net.proofs.Joins.{join_ends, join_flip}
use Rattle.fabric.specs.declared.chip.ChipLabel.{ChipLabel}
use Rattle.fabric.specs.Labelled.{IsLabelOf}
use Rattle.fabric.specs.Plan.{Plan, IsFabric}
use Rattle.fabric.specs.Shape.{shape}
use Rattle.fabric.specs.Switches.{Net, IsNet}
use Rattle.fabric_laws.specs.Theorem.{IsLabelOn}
use Rattle.mask_gluing.specs.Gluing.{Touches}
use Rattle.pad_frame.specs.declared.frames.PadWish.{PadWish}
use Rattle.pad_frame.specs.declared.frames.Framed.{Framed}
use Rattle.pad_frame.specs.Frames.{piece_of, spot_x, spot_y, AreFramed}
use Rattle.chip_pads.specs.Ports.{bridge, ArePorts, IsPadOf, pieces_of, PadsReachNets}
use Rattle.chip_laws.specs.Labels.{IsInCorner, LabelsStand}
use Rattle.padded_chips.specs.Padding.{IsCarried}
use Rattle.padded_chips.specs.Carrying.{IsOnPad, LabelsAreCarried}

-- ---- the piece of a pad

piece_at : (wishes : List PadWish) (j : ℕ) → suc j < length wishes
    → get_or (pieces_of wishes) (suc j) [] ≡ piece_of wishes (suc j)
piece_at wishes j h =
    get_or-map-range_with_len (piece_of wishes) 1 (length wishes - 1) j (suc j) [] (omega (arith, h)) (omega arith)

has_piece : (wishes : List PadWish) (j : ℕ) → j < length wishes
    → Contains (pieces_of wishes) (get_or (pieces_of wishes) j [])
has_piece wishes j h =
    let l = length-map-range_with_len (piece_of wishes) 1 (length wishes - 1) in
    let k : j < length (pieces_of wishes) = omega (arith, h, l) in
    (j, k, get_or_default (pieces_of wishes) j (get_or (pieces_of wishes) j []) [] k)

on_piece : (wishes : List PadWish) (framed : Framed) → AreFramed wishes framed → (j : ℕ) → j < length wishes
    → covered (get_or (pieces_of wishes) j []) NM (spot_x (length wishes)) (spot_y j)
on_piece wishes framed fr zero h = inr (fr.labelled 0 h)
on_piece wishes framed fr (suc j) h =
    subst (λ p. covered p NM (spot_x (length wishes)) (spot_y (suc j))) (sym (piece_at wishes j h))
    (fr.labelled (suc j) h)

-- ---- what the label of a net names

module _ (rects : List Rect) where
  -- where the label's square conducts, it names that square alone
  named_here : (label : FlatLabel) (l : Layer) (s : Square) → label.layer ≡ Some l → Names (covered rects) label s
      → ConductsOn (covered rects) l label.x label.y → record { layer = l; x = label.x; y = label.y } ≡ s
  named_here label l s e n on =
      by (subst (λ z. IsNamed (covered rects) label.x label.y z s.layer) e n.layer)
    where
      by : IsNamed (covered rects) label.x label.y (Some l) s.layer
          → record { layer = l; x = label.x; y = label.y } ≡ s
      by (inl (same, c)) = λ i. record { layer = (sym same) i; x = (sym n.x) i; y = (sym n.y) i }
      by (inr (never, c)) = absurd (never on)

pub labels_carried : PadsReachNets → LabelsStand → LabelsAreCarried
labels_carried reach stand f w wishes framed fr ports j h n net pad new old corner same on = record {
  name = same;
  piece = get_or (pieces_of wishes) j [];
  among = has_piece wishes j h;
  layer = on.layer;
  on = subst₂ (λ x y. covered (get_or (pieces_of wishes) j []) NM x y) (sym on.x) (sym on.y)
      (on_piece wishes framed fr j h);
  along = along;
}
  where
    along : (flat : FlatLabel) (s t : Square) → IsLabelOf old flat → Names (covered (shape f)) flat s
        → Touches (shape f) (get_or (pieces_of wishes) j []) t → Chain (Joined (covered (shape f))) s t
    along flat s t is names a =
        let o = stand f w n net old corner flat is in
        let q : Square = record { layer = o.layer; x = flat.x; y = flat.y } in
        let c = reach f w wishes framed fr ports j h n pad q t o.on a in
        let conducts : Conducts (covered (shape f)) q =
        keep_along (Conducts (covered (shape f))) (λ u v k p. (join_ends (covered (shape f)) u v k).1)
        (turn_chain (join_flip (covered (shape f))) c) a.conducts in
        subst (λ z. Chain (Joined (covered (shape f))) z t)
        (named_here (shape f) flat o.layer s o.named names conducts) c
