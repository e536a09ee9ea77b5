-- Labels in the corners of nets are carried to the pads at the heights of the nets' ports.
use Rattle.std.proofs.Common.{◌≡◌, ◌≢◌, ◌⊎◌, ◌<◌, ◌≤◌, ◌+◌, ◌^◌, ℕ, zero, suc, inl, inr, refl, sym, subst, ap}
use Rattle.std.proofs.Common.{◌∙◌, arith, List, [], ◌∷◌, length, get_or, All, Contains}
use Rattle.std.specs.Prelude.{pos, slice_get, Some}
use Rattle.std.specs.List.{AllZip}
use Rattle.std.proofs.lemmas.Int.{ints}
use Rattle.std.proofs.lemmas.List.{get_or-map, get_or_default, length-map}
use Rattle.std.proofs.lemmas.Option.{get_or_from_slice_get, slice_get_within}
use Rattle.mp_base.proofs.Zips.{zip_at, zip_from_places, zip_length}
use Rattle.tile_cells.specs.declared.tile.Tile.TheVariants.{Under}
use Rattle.fabric.specs.declared.chip.ChipLabel.{ChipLabel}
use Rattle.fabric.specs.declared.thing.Mark.{Mark}
use Rattle.fabric.specs.Plan.{Plan, IsFabric}
use Rattle.fabric.specs.Shape.{shape}
use Rattle.fabric.specs.Switches.{Net, IsNet}
use Rattle.fabric.specs.Switches.Net.{segment, line, ground, power}
use Rattle.fabric_laws.specs.West.{crossing_low}
use Rattle.pad_frame.specs.declared.frames.PadWish.{PadWish}
use Rattle.pad_frame.specs.Frames.{no_wish, row_at}
use Rattle.pad_order.specs.declared.ports.Port.{Port}
use Rattle.pad_order.specs.Ordered.{AreParted, IsParted}
use Rattle.chip_pads.specs.Heights.{HasPort, port_low, PortsAreOfNets, PortsAreParted}
use Rattle.chip_pads.specs.Ports.{ArePorts, IsPadOf, pieces_of}
use Rattle.chip_laws.specs.Labels.{IsInCorner}
use Rattle.padded_labels.specs.declared.labels.Padding.{Padding}
use Rattle.padded_labels.specs.Padded.{IsPadded, ports_at}
use Rattle.padded_chips.specs.Carrying.{LabelsAreCarried}
use Rattle.framed_chips.specs.Cornered.{AreCornered, CornersAreCarried, CornersAreParted}
use Rattle.padded_chips.specs.Padding.{IsCarried}

-- a net is ground or another
is_ground : (n : Net) → (n ≡ ground) ⊎ (n ≢ ground)
is_ground (segment s) = inr (λ e. cc)
is_ground (line l) = inr (λ e. cc)
is_ground ground = inl refl
is_ground power = inr (λ e. cc)

-- what has a port is a net
is_net : (f : Plan) (n : Net) → HasPort f n → IsNet f n
is_net f (segment s) h = h.0
is_net f (line l) h = absurd h
is_net f ground h = tt
is_net f power h = tt

ports_long : (labels : List ChipLabel) (heights : List ℕ) → length heights ≡ length labels
    → length (ports_at labels heights) ≡ length labels
ports_long [] heights e = refl
ports_long (l ∷ ls) [] e = absurd (omega (arith, e))
ports_long (l ∷ ls) (h ∷ hs) e = let i = ports_long ls hs (omega (arith, e)) in omega (arith, i)

port_height : (labels : List ChipLabel) (heights : List ℕ) (i : ℕ) (d : Port) → length heights ≡ length labels
    → i < length labels → (get_or (ports_at labels heights) i d).height ≡ get_or heights i 0
port_height [] heights i d e lt = absurd (omega (arith, lt))
port_height (l ∷ ls) [] i d e lt = absurd (omega (arith, e))
port_height (l ∷ ls) (h ∷ hs) zero d e lt = refl
port_height (l ∷ ls) (h ∷ hs) (suc i) d e lt = port_height ls hs i d (omega (arith, e)) (omega (arith, lt))

module _ (apart : PortsAreParted) (of_nets : PortsAreOfNets) (carried : LabelsAreCarried) (f : Plan) (w : IsFabric f)
    (labels : List ChipLabel) (heights : List ℕ) (c : AreCornered f labels heights) where
  long : length c.nets ≡ length labels
  long = zip_length (IsInCorner f) c.nets labels c.corners

  highs : length heights ≡ length labels
  highs = ap (λ (hs : List ℕ). length hs) c.high ∙ length-map c.nets (port_low f) ∙ long

  height_is : (i : ℕ) → i < length labels → get_or heights i 0 ≡ port_low f (get_or c.nets i ground)
  height_is i lt =
      let l = long in
      ap (λ (hs : List ℕ). get_or hs i 0) c.high ∙ get_or-map (port_low f) c.nets i ground 0 (omega (arith, lt, l))

  has_port : (i : ℕ) → i < length labels → HasPort f (get_or c.nets i ground)
  has_port i lt = let l = long in c.ported i ground (omega (arith, lt, l))

  pub are_parted : length labels ≤ 2 ^ 20 → All (λ h. h ≤ 2 ^ 30) heights → AreParted (ports_at labels heights)
  are_parted few low = record {
    few = (let p = ports_long labels heights highs in omega (arith, p, few));
    low = λ i d lt. (let p = ports_long labels heights highs in let q = highs in
        let h = port_height labels heights i d highs (omega (arith, lt, p)) in
        let k = low i 0 (omega (arith, lt, p, q)) in
        omega (arith, h, k));
    apart = λ i j d h k. (let p = ports_long labels heights highs in let l = long in
        let a : i < length labels = omega (arith, h, k, p) in
        let b : j < length labels = omega (arith, k, p) in
        two i j d (port_height labels heights i d highs a ∙ height_is i a)
        (port_height labels heights j d highs b ∙ height_is j b)
        (apart f w (get_or c.nets i ground) (get_or c.nets j ground) (has_port i a) (has_port j b)
        (c.differ i j ground h (omega (arith, b, l)))));
  }
    where
      two : (i j : ℕ) (d : Port)
          → (get_or (ports_at labels heights) i d).height ≡ port_low f (get_or c.nets i ground)
          → (get_or (ports_at labels heights) j d).height ≡ port_low f (get_or c.nets j ground)
          → (port_low f (get_or c.nets i ground) + 7 ≤ port_low f (get_or c.nets j ground))
          ⊎ (port_low f (get_or c.nets j ground) + 7 ≤ port_low f (get_or c.nets i ground))
          → IsParted (get_or (ports_at labels heights) i d) (get_or (ports_at labels heights) j d)
      two i j d a b (inl h) = inl (omega (arith, a, b, h))
      two i j d a b (inr h) = inr (omega (arith, a, b, h))

  module _ (padding : Padding) (padded : IsPadded labels heights padding) where
    abbrev ws : List PadWish
    ws = padded.wishes

    -- the net of a pad
    pad_net : (j : ℕ) → j < length ws
        → (n : Net) × HasPort f n × (row_at ws j ≡ pos (port_low f n))
    pad_net j lt =
        let a = padded.asked j no_wish lt in
        let at = (a.1).1 in
        let h = highs in
        let k : (a.1).0 < length labels = omega (arith, at, h) in (
          get_or c.nets (a.1).0 ground,
          has_port (a.1).0 k,
          a.2 ∙ ap pos (sym (get_or_default heights (a.1).0 0 a.0 at ∙ (a.1).2) ∙ height_is (a.1).0 k),
        )

    -- where the row is that of ground, the pad is the first
    low_first : (j : ℕ) → j < length ws → row_at ws j ≡ pos 6 → j ≡ 0
    low_first zero lt e = refl
    low_first (suc j) lt e =
        let n = pad_net 0 (omega (arith, lt)) in
        let z = n.2 in
        let up = (padded.rising).rising 0 (suc j) no_wish (omega arith) lt in
        absurd (omega (arith, ints, z, up, e))

    -- the pad of ground
    ground_pad : (j : ℕ) × (j < length ws) × (row_at ws j ≡ pos 6)
    ground_pad =
        let g = c.grounded in
        let at = g.1 in
        let l = long in
        let m = padded.long in
        let k : g.0 < length labels = omega (arith, at, l) in
        let some_old = within labels g.0 k in
        let some_new = within padding.labels g.0 (omega (arith, k, m)) in
        let mv = padded.moved g.0 some_new.0 some_old.0 some_new.1 some_old.1 in (
          mv.pad,
          mv.there,
          mv.row ∙ ap pos (height_is g.0 k ∙ ap (port_low f) (g.2)),
        )
      where
        within : (xs : List ChipLabel) (i : ℕ) → i < length xs → (x : ChipLabel) × (slice_get xs i ≡ Some x)
        within [] i lt = absurd (omega (arith, lt))
        within (x ∷ xs) zero lt = (x, refl)
        within (x ∷ xs) (suc i) lt = within xs i (omega (arith, lt))

    first_row : row_at ws 0 ≡ pos 6
    first_row =
        let g = ground_pad in
        subst (λ j. row_at ws j ≡ pos 6) (low_first g.0 g.1 g.2) g.2

    some_pads : 1 ≤ length ws
    some_pads = let g = ground_pad in let h = g.1 in omega (arith, h)

    not_both : (n : Net) → (port_low f n + 7 ≤ 6) ⊎ (6 + 7 ≤ port_low f n) → port_low f n ≡ 6 → ⊥
    not_both n (inl h) e = omega (arith, h, e)
    not_both n (inr h) e = omega (arith, h, e)

    behind : (j : ℕ) (n : Net) → HasPort f n → n ≢ ground → row_at ws j ≡ pos (port_low f n) → 1 ≤ j
    behind zero n p g e =
        let z = first_row in
        let low : port_low f n ≡ 6 = omega (arith, ints, e, z) in
        absurd (not_both n (apart f w n ground p tt g) low)
    behind (suc j) n p g e = omega arith

    -- a pad at the height of a net's port is for the net
    is_pad : (j : ℕ) → j < length ws → (n : Net) → HasPort f n → row_at ws j ≡ pos (port_low f n) → IsPadOf f ws j n
    is_pad j lt n p e =
        of_nets f w ws j n p e (elim (is_ground n) [
          | inl g ↦ inl (low_first j lt (e ∙ ap (λ m. pos (port_low f m)) g), g)
          | inr g ↦ inr (behind j n p g e, g)
        ])

    are_ports : ArePorts f ws
    are_ports = record {
      some = some_pads;
      ground = first_row;
      others = λ j le lt. (let n = pad_net j lt in crossing j le n.0 (is_pad j lt n.0 n.1 n.2));
    }
      where
        crossing : (j : ℕ) → 1 ≤ j → (n : Net) → IsPadOf f ws j n → (m : Mark) × Contains f.marks m × (m.tile ≡ Under)
            × (row_at ws j ≡ pos (crossing_low f m))
        crossing j le n (inl (e, g)) = absurd (omega (arith, e, le))
        crossing j le n (inr (l, (m, among, tile, row, net))) = (m, among, tile, row)

    are_carried : AllZip (IsCarried (shape f) (pieces_of ws)) padding.labels labels
    are_carried =
        zip_from_places (IsCarried (shape f) (pieces_of ws)) padding.labels labels (sym padded.long)
        (λ i new old e g.
        let m = padded.moved i new old e g in
        let lt = slice_get_within labels i old g in
        let n : Net = get_or c.nets i ground in
        let p = has_port i lt in
        let l = long in
        let corner = subst (IsInCorner f n) (get_or_from_slice_get labels i old old g)
        (zip_at (IsInCorner f) c.nets labels c.corners i ground old (omega (arith, lt, l))) in
        carried f w ws padded.frame padded.drawn are_ports m.pad m.there n (is_net f n p)
        (is_pad m.pad m.there n p (m.row ∙ ap pos (height_is i lt))) new old corner m.name
        (record { layer = m.layer; x = m.x; y = m.y }))

pub corners_parted : PortsAreParted → PortsAreOfNets → LabelsAreCarried → CornersAreParted
corners_parted apart of_nets carried f w labels heights c few low =
    are_parted apart of_nets carried f w labels heights c few low

pub corners_carried : PortsAreParted → PortsAreOfNets → LabelsAreCarried → CornersAreCarried
corners_carried apart of_nets carried f w labels heights c padding padded = (
  are_ports apart of_nets carried f w labels heights c padding padded,
  are_carried apart of_nets carried f w labels heights c padding padded,
)
