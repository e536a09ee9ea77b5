-- The ports of different nets lie at different heights, since two segments of a row share no column.
use Rattle.std.proofs.Common.{◌≡◌, ◌≢◌, ◌⊎◌, ◌<◌, ◌≤◌, ◌+◌, ◌*◌, ℕ, inl, inr, refl, sym, subst, ap, ◌∙◌, arith}
use Rattle.std.proofs.Common.{List, Contains, length, get_or, cond, eqb}
use Rattle.std.specs.Prelude.{pos}
use Rattle.std.proofs.lemmas.Bool.{cases_lt, eq-eqb, ne_eqb}
use Rattle.std.proofs.lemmas.List.{get_or_default}
use Rattle.std.proofs.lemmas.List.Elements.{All-contains}
use Rattle.tile_cells.specs.declared.tile.Tile.TheVariants.{Under}
use Rattle.fabric.specs.declared.thing.Mark.{Mark}
use Rattle.fabric.specs.declared.thing.Segment.{Segment}
use Rattle.fabric.specs.Plan.{Plan, IsFabric, IsSegment, SegmentsApart, rows_of}
use Rattle.fabric.specs.Shape.{base, lift}
use Rattle.fabric.specs.Switches.{Net}
use Rattle.fabric.specs.Switches.Net.{segment, line, ground, power}
use Rattle.fabric.proofs.Bases.{bases_rise, bands_lie}
use Rattle.fabric_laws.specs.West.{crossing_low, IsCrossingOf}
use Rattle.pad_frame.specs.declared.frames.PadWish.{PadWish}
use Rattle.pad_frame.specs.Frames.{row_at}
use Rattle.chip_pads.specs.Ports.{IsPadOf}
use Rattle.chip_pads.specs.Heights.{IsCrossed, HasPort, port_low, PortsAreParted, PortsAreOfNets}

module _ (f : Plan) (w : IsFabric f) where
  is_segment : (s : Segment) → Contains f.segments s → IsSegment f s
  is_segment s c = All-contains (IsSegment f) f.segments s w.segments c

  -- two segments of one row don't both begin in column 1
  one_first : (s t : Segment) → Contains f.segments s → Contains f.segments t → s.first ≡ 1 → t.first ≡ 1
      → s.band ≡ t.band → s.row ≡ t.row → s ≡ t
  one_first s t c d a b band row = elim (cases_lt c.0 d.0) [
    | inl lt ↦ absurd (no s t (is_segment s c).order (is_segment t d).order a b
        (subst (λ z. SegmentsApart s z) (get_or_default f.segments d.0 s t d.1 ∙ d.2)
        (subst (λ z. SegmentsApart z (get_or f.segments d.0 s)) c.2 (w.segments_apart c.0 d.0 s lt d.1)) band row))
    | inr le ↦ elim (cases_lt d.0 c.0) [
      | inl lt ↦ absurd (no t s (is_segment t d).order (is_segment s c).order b a
          (subst (λ z. SegmentsApart t z) (get_or_default f.segments c.0 t s c.1 ∙ c.2)
          (subst (λ z. SegmentsApart z (get_or f.segments c.0 t)) d.2 (w.segments_apart d.0 c.0 t lt c.1)) (sym band)
          (sym row)))
      | inr ge ↦ (let e : c.0 ≡ d.0 = omega (arith, le, ge) in
          sym c.2 ∙ ap (λ k. get_or f.segments k s) e ∙ get_or_default f.segments d.0 s t d.1 ∙ d.2)
    ]
  ]
    where
      no : (p q : Segment) → p.first ≤ p.last → q.first ≤ q.last → p.first ≡ 1 → q.first ≡ 1
          → (p.last + 1 < q.first) ⊎ (q.last + 1 < p.first) → ⊥
      no p q x y a b (inl l) = omega (arith, l, x, y, a, b)
      no p q x y a b (inr l) = omega (arith, l, x, y, a, b)

  abbrev Parted : Net → Net → Type 0
  Parted n m = (port_low f n + 7 ≤ port_low f m) ⊎ (port_low f m + 7 ≤ port_low f n)

  flip : (n m : Net) → Parted n m → Parted m n
  flip n m (inl h) = inr h
  flip n m (inr h) = inl h

  two_segments : (s t : Segment) → HasPort f (segment s) → HasPort f (segment t) → segment s ≢ segment t
      → Parted (segment s) (segment t)
  two_segments s t (c, a, p) (d, b, q) ne =
      let x = (is_segment s c).below in
      let y = (is_segment t d).below in
      elim ((bands_lie f s.band t.band).lie) [
        | inl (lt, h) ↦ inl (omega (arith, h, x))
        | inr (inl (e, same, rows)) ↦ elim (cases_lt s.row t.row) [
          | inl lt ↦ inl (omega (arith, same, lt))
          | inr le ↦ elim (cases_lt t.row s.row) [
            | inl lt ↦ inr (omega (arith, same, lt))
            | inr ge ↦ absurd (ne (ap segment (one_first s t c d a b e (omega (arith, le, ge)))))
          ]
        ]
        | inr (inr (lt, h)) ↦ inr (omega (arith, h, y))
      ]

  above_ground : (s : Segment) → HasPort f (segment s) → Parted ground (segment s)
  above_ground s (c, a, p) = let r = (is_segment s c).row in inl (omega (arith, r))

  beside_power : (s : Segment) → HasPort f (segment s) → Parted (segment s) power
  beside_power s (c, a, p) =
      let x = (is_segment s c).below in
      elim ((bands_lie f 0 s.band).lie) [
        | inl (lt, h) ↦ inr (omega (arith, h))
        | inr (inl (e, same, rows)) ↦ inl (omega (arith, same, rows, x))
        | inr (inr (lt, h)) ↦ absurd (omega (arith, lt))
      ]

  parted : (n m : Net) → HasPort f n → HasPort f m → n ≢ m → Parted n m
  parted (segment s) (segment t) p q ne = two_segments s t p q ne
  parted (segment s) ground p q ne = flip ground (segment s) (above_ground s p)
  parted (segment s) power p q ne = beside_power s p
  parted ground (segment t) p q ne = above_ground t q
  parted power (segment t) p q ne = flip (segment t) power (beside_power t q)
  parted ground ground p q ne = absurd (ne refl)
  parted power power p q ne = absurd (ne refl)
  parted ground power p q ne = inl (omega arith)
  parted power ground p q ne = inr (omega arith)
  parted (line l) m p q ne = absurd p
  parted (segment s) (line l) p q ne = absurd q
  parted ground (line l) p q ne = absurd q
  parted power (line l) p q ne = absurd q

  -- ---- at crossings

  signal_low : (b r : ℕ) → r < rows_of f b → lift f Under b r ≡ 0
  signal_low b r h = ap (λ z. cond z 21 0) (ne_eqb r (rows_of f b) (λ e. omega (arith, e, h)))

  top_low : (b r : ℕ) → r ≡ rows_of f b → lift f Under b r ≡ 21
  top_low b r h = ap (λ z. cond z 21 0) (eq-eqb r (rows_of f b) h)

  low_is : (m : Mark) (b r : ℕ) → m.band ≡ b → m.row ≡ r → crossing_low f m ≡ base f b + 12 * r + lift f Under b r + 6
  low_is m b r e g = λ i. base f (e i) + 12 * g i + lift f Under (e i) (g i) + 6

  segment_pad : (wishes : List PadWish) (j : ℕ) (s : Segment) → HasPort f (segment s)
      → row_at wishes j ≡ pos (port_low f (segment s)) → 1 ≤ j → IsPadOf f wishes j (segment s)
  segment_pad wishes j s (c, a, (m, among, tile, band, row)) at le =
      let x = (is_segment s c).below in
      let g = low_is m s.band s.row band row in
      let z = signal_low s.band s.row x in
      let e : crossing_low f m ≡ port_low f (segment s) = omega (arith, g, z) in
      inr (le, (m, among, tile, at ∙ ap pos (sym e), inr (s, c, sym band, sym row, a, refl)))

  power_pad : (wishes : List PadWish) (j : ℕ) → HasPort f power → row_at wishes j ≡ pos (port_low f power) → 1 ≤ j
      → IsPadOf f wishes j power
  power_pad wishes j (m, among, tile, band, row) at le =
      let g = low_is m 0 (rows_of f 0) band row in
      let z = top_low 0 (rows_of f 0) refl in
      let e : crossing_low f m ≡ port_low f power = omega (arith, g, z) in
      inr (le, (m, among, tile, at ∙ ap pos (sym e), inl (row ∙ ap (rows_of f) (sym band), refl)))

  higher_pad : (wishes : List PadWish) (j : ℕ) (n : Net) → HasPort f n → row_at wishes j ≡ pos (port_low f n) → 1 ≤ j
      → n ≢ ground → IsPadOf f wishes j n
  higher_pad wishes j (segment s) p at le ne = segment_pad wishes j s p at le
  higher_pad wishes j (line l) p at le ne = absurd p
  higher_pad wishes j ground p at le ne = absurd (ne refl)
  higher_pad wishes j power p at le ne = power_pad wishes j p at le

  pad_of : (wishes : List PadWish) (j : ℕ) (n : Net) → HasPort f n → row_at wishes j ≡ pos (port_low f n)
      → (j ≡ 0) × (n ≡ ground) ⊎ (1 ≤ j) × (n ≢ ground) → IsPadOf f wishes j n
  pad_of wishes j n p at (inl h) = inl h
  pad_of wishes j n p at (inr (le, ne)) = higher_pad wishes j n p at le ne

pub ports_parted : PortsAreParted
ports_parted f w n m p q ne = parted f w n m p q ne

pub ports_of_nets : PortsAreOfNets
ports_of_nets f w wishes j n p at which = pad_of f w wishes j n p at which
