-- Chips with pads are as wide and high as their fabric and frame, and keep what their fabrics keep.
use Rattle.std.proofs.Common.{ℕ, zero, suc, ◌≡◌, ◌≢◌, ◌+◌, ◌-◌, ◌*◌, ◌<◌, ◌≤◌, inl, refl, sym, ◌∙◌, ap, subst}
use Rattle.std.proofs.Common.{arith, List, [], ◌∷◌, ◌++◌, length, Bool, true, false, cond, All, Contains}
use Rattle.std.specs.Prelude.{flat_map, ℤ, pos, negsuc, neg_ℤ, ◌+ℤ◌, ◌*ℤ◌, ◌≤ℤ◌, int_le}
use Rattle.std.specs.List.{range_with_len}
use Rattle.std.proofs.lemmas.Int.{ints}
use Rattle.std.proofs.lemmas.List.{length-append}
use Rattle.std.proofs.lemmas.List.Elements.{All-nil, All-cons, All-append}
use Rattle.mp_base.proofs.Ranges.{flat_count}
use Rattle.lam_geom.specs.declared.layer.Layer.TheVariants.{NM}
use Rattle.lam_geom.specs.declared.rect.Rect.{Rect}
use Rattle.lam_geom.specs.Extent.{IsAtMost, lambda}
use Rattle.lam_geom.specs.Rules.{IsClean}
use Rattle.lam_geom.specs.Squares.{Square, covered}
use Rattle.switch_net.specs.declared.network.ChannelKind.TheVariants.{Enhancement, Depletion}
use Rattle.cif_form.specs.Fits.{IsSmall}
use Rattle.cif_form.specs.Labels.{IsSpace}
use Rattle.tile_cells.specs.declared.tile.Tile.TheVariants.{Under}
use Rattle.fabric.specs.declared.chip.Chip.{Chip}
use Rattle.fabric.specs.declared.chip.ChipLabel.{ChipLabel}
use Rattle.fabric.specs.declared.thing.Mark.{Mark}
use Rattle.fabric.specs.Counted.{rectangle_count}
use Rattle.fabric.specs.Plan.{Plan, IsFabric, bands}
use Rattle.fabric.specs.Shape.{base, last_column, shape}
use Rattle.fabric.proofs.Bases.{bands_lie, rectangles_counted}
use Rattle.fabric_laws.specs.Sized.{AreSized, FabricsAreSized, IsOblong}
use Rattle.fabric_laws.specs.Sized.IsSized.{transistor, pull_up}
use Rattle.fabric_laws.specs.West.{crossing_low, IsBeginning, FabricsFaceWest, FabricsAreHeld}
use Rattle.metal_pieces.specs.Pieces.{metal, all_of}
use Rattle.river_route.specs.Routes.{bent, route_rects}
use Rattle.mask_gluing.specs.Laws.{GluedKeepsChannels, KeepsChannels}
use Rattle.pad_frame.specs.declared.frames.PadWish.{PadWish}
use Rattle.pad_frame.specs.Frames.{piece, piece_of, row_at, spot_x, spot_y, stub_at, west}
use Rattle.chip_pads.specs.Ports.{ArePorts, PadsAreClean, PadsAreDrawn, PadsAreGlued, PadsAreHeld, bridge, pieces_of}
use Rattle.cif_emit.specs.Emittable.{FabricsAreOnGrid, IsEmittable, IsOnGrid, IsOnLambda, chip_rects}
use Rattle.cif_emit.specs.Emittable.{farthest}
use Rattle.framed_chips.specs.Framed.{FramedAreClean, FramedAreEmittable, FramedAreFew, FramedAreHeld, FramedAreSized}
use Rattle.framed_chips.specs.Framed.{IsFramed}

-- ---- channels

module _ (was is : List Rect) (keeps : KeepsChannels was is) where
  oblong : (r : Square) (wide high : ℕ) (IsAlong : Rect → Square → Type 0)
      → IsOblong (covered was) r wide high IsAlong → IsOblong (covered is) r wide high IsAlong
  oblong r wide high IsAlong o = record {
    left = o.left;
    low = o.low;
    squares = λ s. (
      λ h. (o.squares s).0 ((keeps.of r s).0 h),
      λ i. (keeps.of r s).1 ((o.squares s).1 i),
    );
    ends = λ t. (λ h. (o.ends t).0 ((keeps.end r t).0 h), λ b. (keeps.end r t).1 ((o.ends t).1 b));
  }

  sized : AreSized (covered was) → AreSized (covered is)
  sized are r h = elim (are r ((keeps.square r).0 h)) [
    | transistor k o ↦ transistor (keeps.kind r Enhancement k) (oblong r 2 2 _ o)
    | pull_up k o ↦ pull_up (keeps.kind r Depletion k) (oblong r 2 16 _ o)
  ]

-- ---- the frame is on whole lambda

-- so many lambda are small in half-units
record IsNear (z : ℤ) : Type 0 where
  low : neg_ℤ (pos farthest) ≤ℤ z
  high : z ≤ℤ pos farthest

small : (z : ℤ) → neg_ℤ (pos 2_147_483_647) ≤ℤ z → z ≤ℤ pos 2_147_483_647 → IsSmall z
small (pos n) l h = omega (arith, ints)
small (negsuc n) l h = omega (arith, ints)

small_lambda : (z : ℤ) → IsNear z → IsSmall (pos lambda *ℤ z)
small_lambda z n = let l = n.low in let h = n.high in small (pos 500 *ℤ z) (omega (arith, ints)) (omega (arith, ints))

on_lambda : (z : ℤ) → IsNear z → IsOnLambda (pos lambda *ℤ z)
on_lambda z n = record { whole = (z, refl); small = small_lambda z n }

on_grid : (x0 y0 x1 y1 : ℤ) → IsNear x0 → IsNear y0 → IsNear x1 → IsNear y1 → IsOnGrid (metal x0 y0 x1 y1)
on_grid x0 y0 x1 y1 a b c d =
    record { x0 = on_lambda x0 a; y0 = on_lambda y0 b; x1 = on_lambda x1 c; y1 = on_lambda y1 d }

two : {x y : Rect} (rest : List Rect) → IsOnGrid x → IsOnGrid y → All IsOnGrid rest → All IsOnGrid (x ∷ y ∷ rest)
two {x} {y} rest a b h = All-cons IsOnGrid x (y ∷ rest) a (All-cons IsOnGrid y rest b h)

three : {x y z : Rect} → IsOnGrid x → IsOnGrid y → IsOnGrid z → All IsOnGrid (x ∷ y ∷ z ∷ [])
three {x} {y} {z} a b c = two (z ∷ []) a b (All-cons IsOnGrid z [] c (All-nil IsOnGrid))

near : (z : ℤ) (k : ℕ) → z ≡ pos k → k ≤ farthest → IsNear z
near z k e h = record { low = omega (arith, ints); high = omega (arith, ints) }

module _ (pads : ℕ) (fits : 60 * pads ≤ farthest) where
  -- within the frame
  west_near : (far : ℕ) → far ≤ 50 → 1 ≤ pads → IsNear (west pads far)
  west_near far h some = record { low = omega (arith, ints); high = omega (arith, ints) }

  lane_near : (x : ℕ) → x ≤ 7 * pads → IsNear (west pads 0 +ℤ pos x)
  lane_near x h = record { low = omega (arith, ints); high = omega (arith, ints) }

  four_up : (z : ℤ) (k : ℕ) → z ≡ pos k → k + 4 ≤ farthest → IsNear (z +ℤ pos 4)
  four_up z k e h = near (z +ℤ pos 4) (k + 4) (omega (arith, ints)) h

  bent_on : (k l r low high : ℕ) → k < pads → l + 4 ≤ farthest → r + 4 ≤ farthest → low + 4 ≤ farthest
      → high + 4 ≤ farthest
      → (lz rz lowz highz : ℤ) → lz ≡ pos l → rz ≡ pos r → lowz ≡ pos low → highz ≡ pos high
      → All IsOnGrid (bent (west pads 0) pads k lz rz lowz highz)
  bent_on k l r low high lt a b c d lz rz lowz highz el er elow ehigh =
      let left = west pads 0 in
      let w = west_near 0 (omega arith) (omega (arith, lt)) in
      let far = lane_near (7 * k + 4) (omega (arith, lt)) in
      let lane = lane_near (7 * k) (omega (arith, lt)) in
      let edge = lane_near (7 * pads) (omega arith) in
      three
      (on_grid left lz (left +ℤ pos (7 * k + 4)) (lz +ℤ pos 4) w (near lz l el (omega (arith, a))) far
      (four_up lz l el a))
      (on_grid (left +ℤ pos (7 * k)) lowz (left +ℤ pos (7 * k + 4)) (highz +ℤ pos 4) lane
      (near lowz low elow (omega (arith, c))) far (four_up highz high ehigh d))
      (on_grid (left +ℤ pos (7 * k)) rz (left +ℤ pos (7 * pads)) (rz +ℤ pos 4) lane
      (near rz r er (omega (arith, b))) edge (four_up rz r er b))

  route_on : (j l r : ℕ) → j < pads → l + 4 ≤ farthest → r + 4 ≤ farthest → (lz rz : ℤ) → lz ≡ pos l → rz ≡ pos r
      → All IsOnGrid (route_rects (west pads 0) pads j lz rz)
  route_on j l r lt a b lz rz el er = by (int_le rz lz)
    where
      by : (c : Bool) → All IsOnGrid
          (cond c (bent (west pads 0) pads j lz rz rz lz) (bent (west pads 0) pads (pads - 1 - j) lz rz lz rz))
      by true = bent_on j l r r l lt a b b a lz rz rz lz el er er el
      by false = bent_on (pads - 1 - j) l r l r (omega (arith, lt)) a b a b lz rz lz rz el er el er

  piece_on : (j r : ℕ) → j < pads → r + 4 ≤ farthest → (row : ℤ) → row ≡ pos r → All IsOnGrid (piece pads j row)
  piece_on j r lt b row e =
      let some : 1 ≤ pads = omega (arith, lt) in
      let outer = west_near 50 (omega arith) some in
      let inner = west_near 10 (omega arith) some in
      let edge = west_near 0 (omega arith) some in
      let stub : 60 * j + 18 + 4 ≤ farthest = omega (arith, lt, fits) in
      two (route_rects (west pads 0) pads j (stub_at j) row)
      (on_grid (west pads 50) (pos (60 * j)) (west pads 10) (pos (60 * j + 40)) outer
      (near _ (60 * j) refl (omega (arith, lt, fits))) inner (near _ (60 * j + 40) refl (omega (arith, lt, fits))))
      (on_grid (west pads 10) (stub_at j) (west pads 0) (stub_at j +ℤ pos 4) inner
      (near _ (60 * j + 18) refl (omega (arith, stub))) edge (four_up (stub_at j) (60 * j + 18) refl stub))
      (route_on j (60 * j + 18) r lt stub b (stub_at j) row refl e)

  spot_small : (j : ℕ) → j < pads → IsSmall (spot_x pads) × IsSmall (spot_y j)
  spot_small j lt = (
    small_lambda (west pads 30) (west_near 30 (omega arith) (omega (arith, lt))),
    small (spot_y j) (omega (arith, ints)) (omega (arith, ints, lt, fits)),
  )

-- ---- ports

module _ (f : Plan) (w : IsFabric f) (faces : FabricsFaceWest) (hold : FabricsAreHeld) (wishes : List PadWish)
    (ports : ArePorts f wishes) where
  -- a crossing is below the top of the fabric
  crossing_below : (m : Mark) → Contains f.marks m → m.tile ≡ Under → crossing_low f m + 4 ≤ base f (bands f)
  crossing_below m mm mt =
      let s : Square = record { layer = NM; x = pos 0; y = pos (500 * crossing_low f m + 1999) } in
      let b : IsBeginning f m s = record {
        at = record { among = mm; tile = mt; low = omega (arith, ints); high = omega (arith, ints) };
        layer = refl;
        left = omega (arith, ints);
        right = omega (arith, ints);
      } in
      let t = (hold f w NM s.x s.y ((faces f w).drawn m s b)).top in
      omega (arith, ints)

  lowest : 48 ≤ base f (bands f)
  lowest = let z = bands_lie f 0 (bands f) in let b = w.bands in let r = w.rows 0 0 w.bands in omega (arith, z, b, r)

  row_low : (j : ℕ) → j < length wishes → (k : ℕ) × (row_at wishes j ≡ pos k) × (k + 4 ≤ base f (bands f))
  row_low zero h = (6, ports.ground, (let l = lowest in omega arith))
  row_low (suc j) h =
      let o = ports.others (suc j) (omega arith) h in (crossing_low f o.0, o.3, crossing_below o.0 o.1 o.2)

  pieces_on : base f (bands f) ≤ farthest → 60 * length wishes ≤ farthest → (a n : ℕ) → a + n ≤ length wishes
      → All IsOnGrid (flat_map (piece_of wishes) (range_with_len a n))
  pieces_on high fits a zero h = All-nil IsOnGrid
  pieces_on high fits a (suc n) h =
      let r = row_low a (omega (arith, h)) in
      let low = r.2 in
      All-append IsOnGrid (piece_of wishes a) (flat_map (piece_of wishes) (range_with_len (a + 1) n))
      (piece_on (length wishes) fits a r.0 (omega (arith, h)) (omega (arith, low, high)) (row_at wishes a) r.1)
      (pieces_on high fits (a + 1) n (omega (arith, h)))

bridge_on : IsOnGrid bridge
bridge_on =
    on_grid (pos 0) (pos 6) (pos 7) (pos 10) (near _ 0 refl (omega arith)) (near _ 6 refl (omega arith))
    (near _ 7 refl (omega arith)) (near _ 10 refl (omega arith))

-- ---- chips

route_count : (left : ℤ) (n j : ℕ) (l r : ℤ) → length (route_rects left n j l r) ≡ 3
route_count left n j l r = by (int_le r l)
  where
    by : (c : Bool) → length (cond c (bent left n j l r r l) (bent left n (n - 1 - j) l r l r)) ≡ 3
    by true = refl
    by false = refl

piece_count : (pads j : ℕ) (row : ℤ) → length (piece pads j row) ≤ 5
piece_count pads j row = let r = route_count (west pads 0) pads j (stub_at j) row in omega (arith, r)

module _ (chip : Chip) (framed : IsFramed chip) where
  whole : PadsAreDrawn → chip_rects chip ≡ shape chip.fabric ++ all_of (pieces_of framed.wishes)
  whole drawn =
      ap (λ l. shape chip.fabric ++ l)
      (framed.extra ∙ drawn framed.wishes framed.frame framed.drawn (framed.ports).some)

  few : length (chip_rects chip) ≤ rectangle_count chip.fabric + (5 * length chip.labels + 1)
  few =
      let wishes = framed.wishes in
      let pieces = flat_map (piece_of wishes) (range_with_len 0 (length wishes)) in
      let a = length-append (shape chip.fabric) chip.extra in
      let b = rectangles_counted chip.fabric in
      let c = ap length framed.extra in
      let d = ap length (framed.drawn).drawn in
      let e = flat_count (piece_of wishes) 5 0 (length wishes)
      (λ j. piece_count (length wishes) j (row_at wishes j)) in
      let g = framed.as_many in
      omega (arith, a, b, c, d, e, g)

  module _ (w : IsFabric chip.fabric) where
    held : PadsAreHeld → PadsAreDrawn → (high : ℕ) → base chip.fabric (bands chip.fabric) ≤ high
        → 60 * length chip.labels ≤ high
        → IsAtMost (covered (chip_rects chip)) (20 * (chip.fabric).columns + 7 * length chip.labels + 43) high
    held law drawn high tall pads_high =
        let same = framed.as_many in
        let three = w.columns in
        let across : ℕ = 20 * (chip.fabric).columns + 7 * length chip.labels + 43 in
        let wide : 20 * last_column chip.fabric + 7 * length framed.wishes + 63 ≡ across = omega (arith, same, three) in
        subst (λ rects. IsAtMost (covered rects) across high) (sym (whole drawn))
        (subst (λ n. IsAtMost (covered (shape chip.fabric ++ all_of (pieces_of framed.wishes))) n high) wide
        (law chip.fabric w framed.wishes framed.frame framed.drawn framed.ports high tall
        (omega (arith, same, pads_high))))

    clean : PadsAreClean → PadsAreDrawn → IsClean (covered (chip_rects chip))
    clean law drawn =
        subst (λ rects. IsClean (covered rects)) (sym (whole drawn))
        (law chip.fabric w framed.wishes framed.frame framed.drawn framed.ports)

    sized_chip : PadsAreGlued → PadsAreDrawn → GluedKeepsChannels → FabricsAreSized
        → AreSized (covered (chip_rects chip))
    sized_chip glued drawn keeps sizes =
        let pieces = pieces_of framed.wishes in
        subst (λ rects. AreSized (covered rects)) (sym (whole drawn))
        (sized (shape chip.fabric) (shape chip.fabric ++ all_of pieces)
        (keeps (shape chip.fabric) pieces
        (glued chip.fabric w framed.wishes framed.frame framed.drawn framed.ports))
        (sizes chip.fabric w))

    emittable : FabricsFaceWest → FabricsAreHeld → FabricsAreOnGrid → 20 * (chip.fabric).columns ≤ farthest
        → base chip.fabric (bands chip.fabric) ≤ farthest → 60 * length chip.labels ≤ farthest
        → All (λ (l : ChipLabel). (0 < length l.name) × All (λ b. (b ≢ 59) × ¬ IsSpace b) l.name) chip.labels
        → IsEmittable (chip_rects chip) chip.labels
    emittable faces hold grid wide high fits names =
        let wishes = framed.wishes in
        let same = framed.as_many in
        let room : 60 * length wishes ≤ farthest = omega (arith, same, fits) in
        record {
          corners = All-append IsOnGrid (shape chip.fabric) chip.extra (grid chip.fabric w wide high)
              (subst (All IsOnGrid) (sym framed.extra)
              (All-cons IsOnGrid bridge _ bridge_on
              (subst (All IsOnGrid) (sym (framed.drawn).drawn)
              (pieces_on chip.fabric w faces hold wishes framed.ports high room 0 (length wishes) (omega arith)))));
          names = λ i d h.
              let (j, lt, on) = framed.on_pads i d h in
              let s = spot_small (length wishes) room j lt in
              let n = names i d h in
              record {
                x = subst IsSmall (sym on.x) s.0;
                y = subst IsSmall (sym on.y) s.1;
                layer = inl on.layer;
                named = n.0;
                plain = n.1;
              };
        }

pub framed_held : PadsAreHeld → PadsAreDrawn → FramedAreHeld
framed_held law drawn chip w framed = held chip framed w law drawn

pub framed_clean : PadsAreClean → PadsAreDrawn → FramedAreClean
framed_clean law drawn chip w framed = clean chip framed w law drawn

pub framed_sized : PadsAreGlued → PadsAreDrawn → GluedKeepsChannels → FabricsAreSized → FramedAreSized
framed_sized glued drawn keeps sizes chip w framed = sized_chip chip framed w glued drawn keeps sizes

pub framed_few : FramedAreFew
framed_few chip framed = few chip framed

pub framed_emittable : FabricsFaceWest → FabricsAreHeld → FabricsAreOnGrid → FramedAreEmittable
framed_emittable faces hold grid chip w framed = emittable chip framed w faces hold grid
