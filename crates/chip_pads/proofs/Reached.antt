-- What touches the metal of a pad is joined to the net of the pad's port.
use Rattle.std.proofs.Common.{◌≡◌, ◌<◌, ◌≤◌, ◌+◌, ◌-◌, ℕ, zero, suc, inl, inr, subst, ap, ◌∙◌, arith, List, [], length}
use Rattle.std.proofs.Common.{get_or}
use Rattle.lam_geom.specs.Chains.{Chain}
use Rattle.lam_geom.specs.Squares.{Square, IsIn, covered, RectanglesAreJoined}
use Rattle.lam_geom.proofs.Adjoins.{adjoin_map}
use Rattle.lam_geom.proofs.Chains.{map_chain, turn_chain}
use Rattle.switch_net.specs.Conductors.{Conducts, Joined}
use Rattle.switch_net.specs.Conductors.Joined.{beside}
use Rattle.switch_net.proofs.Joins.{join_flip}
use Rattle.fabric.specs.Plan.{Plan, IsFabric}
use Rattle.fabric.specs.Shape.{ground_trunk, shape}
use Rattle.fabric.specs.Switches.{Net}
use Rattle.fabric.specs.Switches.Net.{ground}
use Rattle.fabric_laws.specs.Theorem.{IsOn}
use Rattle.fabric_laws.specs.West.{FacesWest, FabricsFaceWest}
use Rattle.mask_gluing.specs.Gluing.{Touches}
use Rattle.pad_frame.specs.declared.frames.PadWish.{PadWish}
use Rattle.pad_frame.specs.declared.frames.Framed.{Framed}
use Rattle.pad_frame.specs.Frames.{piece_of, AreFramed}
use Rattle.chip_pads.specs.Ports.{ArePorts, IsPadOf, pieces_of, PadsReachNets}
use Rattle.chip_pads.proofs.Glued as glued
use Rattle.chip_pads.proofs.Glued.{mapped_at}

module _ (joined : RectanglesAreJoined) (f : Plan) (w : IsFabric f) (west : FacesWest f) (wishes : List PadWish)
    (framed : Framed) (fr : AreFramed wishes framed) (ports : ArePorts f wishes) where
  reached : (j : ℕ) → j < length wishes → (n : Net) → IsPadOf f wishes j n → (s t : Square) → IsOn f n s
      → Touches (shape f) (get_or (pieces_of wishes) j []) t → Chain (Joined (covered (shape f))) s t
  reached zero h n (inl (e, g)) s t on a =
      map_chain (λ p q k. beside (adjoin_map (IsIn (ground_trunk f)) (Conducts (covered (shape f)))
      (glued.trunk_conducts joined f w west wishes framed fr ports) p q k))
      (joined (ground_trunk f) s t (subst (λ z. IsOn f z s) g on)
      (glued.on_trunk joined f w west wishes framed fr ports t a))
  reached zero h n (inr (le, c)) s t on a = absurd (omega (arith, le))
  reached (suc j) h n (inl (e, g)) s t on a = absurd (omega (arith, e))
  reached (suc j) h n (inr (le, (m, among, tile, row, net))) s t on a =
      let is : get_or (pieces_of wishes) (suc j) [] ≡ piece_of wishes (suc j) =
      mapped_at (piece_of wishes) 1 (length wishes - 1) j [] (omega (arith, h))
      ∙ ap (piece_of wishes) (let e : 1 + j ≡ suc j = omega arith in e) in
      turn_chain (join_flip (covered (shape f)))
      (west.joined m n t s
      (glued.beginning joined f w west wishes framed fr ports (suc j) h m among tile row t
      (subst (λ p. Touches (shape f) p t) is a)) net on)

pub pads_reach : RectanglesAreJoined → FabricsFaceWest → PadsReachNets
pads_reach joined faces f w wishes framed fr ports = reached joined f w (faces f w) wishes framed fr ports
