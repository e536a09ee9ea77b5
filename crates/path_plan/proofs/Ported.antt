-- Each label of a path's chip is in the corner of a net that has a port: of a segment that begins in column 1, in whose
-- row a crossing stands, or of a supply. No two are in the corner of one net.
use Rattle.std.proofs.Common.{◌≡◌, ◌≢◌, inl, inr, ℕ, zero, suc, ◌+◌, ◌*◌, ◌<◌, ◌≤◌, Bool, true, false, cond, not}
use Rattle.std.proofs.Common.{List, [], ◌∷◌, length, get_or, map, refl, sym, ◌∙◌, ap, subst, arith}
use Rattle.std.specs.Prelude.{All, AllPairs, Contains, ◌==◌}
use Rattle.std.specs.List.{AllZip}
use Rattle.std.proofs.Math.Nat.{mul-le-mul_right}
use Rattle.std.proofs.lemmas.Bool.{cases_order, eq-eqb, true≢false}
use Rattle.std.proofs.lemmas.List.{get_or-map, length-map}
use Rattle.std.proofs.lemmas.List.Elements.{All-contains, Contains-append_left, Contains-append_right, Contains-get_or}
use Rattle.std.proofs.lemmas.Simd.{map-map}
use Rattle.mp_base.specs.declared.pad.Pad.{Pad}
use Rattle.mp_base.proofs.Members.{Member, append_left, append_right, contains_member, flat_member, map_member}
use Rattle.mp_base.proofs.Members.{member_append, member_at, member_contains, range_has}
use Rattle.tile_cells.specs.declared.tile.Tile.TheVariants.{Under}
use Rattle.nor_net.specs.declared.net.NetId.{NetId}
use Rattle.nor_net.specs.declared.net.Phase.{Phase}
use Rattle.nor_net.specs.declared.net.Phase.TheVariants.{A, B, C}
use Rattle.nor_net.specs.Shape as shape
use Rattle.drawing.specs.Draws.{Point, OfNet, Ground, Power, OfPhase}
use Rattle.fabric.specs.declared.chip.ChipLabel.{ChipLabel}
use Rattle.fabric.specs.declared.thing.Mark.{Mark}
use Rattle.fabric.specs.declared.thing.Segment.{Segment}
use Rattle.fabric.specs.Plan.{Plan, IsFabric, IsSegment, SegmentsApart, bands, rows_of}
use Rattle.fabric.specs.Switches.{Net}
use Rattle.fabric.specs.Switches.Net.{segment, ground, power}
use Rattle.track_assign.specs.declared.packing.Tracks.{Tracks}
use Rattle.array_form.specs.Homes.{phase_number}
use Rattle.array_form.specs.Laying.{band_segment}
use Rattle.array_form.specs.Lists.{mark}
use Rattle.path_form.specs.declared.path.DataPath.{DataPath}
use Rattle.path_form.specs.Shape.{entries_of}
use Rattle.path_form.specs.Showing.{pad_bits, pad_spot}
use Rattle.path_values.proofs.Realized.{in_entries}
use Rattle.slice_form.specs.Path.{Path, parts}
use Rattle.slice_form.specs.PathLists.{bands_of}
use Rattle.slice_form.specs.Slices.{columns_wanted}
use Rattle.slice_form.specs.Whole.{pad_entries, path_of}
use Rattle.slice_laying.specs.Added.{of_phases}
use Rattle.slice_laying.specs.Paths.{IsPlaceable}
use Rattle.slice_laying.proofs.WholePaths.{placeable}
use Rattle.slice_chip.specs.Ends.{IsWest}
use Rattle.slice_chip.specs.Order.{AreInOrder, nowhere, number_at}
use Rattle.slice_chip.specs.Sliced.{path_laid}
use Rattle.slice_chip.specs.Unders.{IsLed, led, rows_in, under, unders}
use Rattle.slice_chip.proofs.ControlRoom.{bands_are}
use Rattle.slice_chip.proofs.Led as led_off
use Rattle.slice_chip.proofs.TapsStand as stand
use Rattle.chip_laws.specs.Labels.{IsInCorner}
use Rattle.chip_laws.specs.Rows.{rows_at}
use Rattle.chip_pads.specs.Heights.{HasPort, IsCrossed, port_low}
use Rattle.framed_chips.specs.Cornered.{AreCornered}
use Rattle.path_labels.specs.Labels.{AreEntriesOf, IsAtPoint, IsEntryOf, height_at, label_points, net_at, points_in}
use Rattle.path_labels.proofs.Entries.{entry_at}
use Rattle.path_plan.proofs.Bare.{fewer_marks}
use Rattle.path_plan.proofs.Bits.{bit_at, labels_differ}
use Rattle.path_plan.proofs.Points.{HasNet, IsThere, net_in_band, number_in, phase_small, points_there, segment_same}

-- ---- what is led to the west edge

abbrev beats : DataPath → List ℕ
beats p = of_phases (λ ph. length p.control + phase_number ph)

ground_no_power : ground ≡ power → ⊥
ground_no_power e = cc

ground_no_segment : (s : Segment) → ground ≡ segment s → ⊥
ground_no_segment s e = cc

power_no_segment : (s : Segment) → power ≡ segment s → ⊥
power_no_segment s e = cc

module _ (p : DataPath) where
  abbrev whole : Path
  whole = path_of p

  -- the point is a supply, a phase, or a net that is led to the edge
  abbrev IsJoined : Point → Type 0
  IsJoined (OfNet s) = (s.band ≤ p.width) × Member (led whole s.band) s.net
  IsJoined Ground = Unit {0}
  IsJoined Power = Unit {0}
  IsJoined (OfPhase ph) = Unit {0}

  -- the entries of these pads are among the path's
  abbrev AreOwn : List Pad → List NetId → Type 0
  AreOwn pads ids = (w : Bool) (id : NetId) → Contains (entries_of w pads ids) id → Contains (pad_entries w p) id

  among_numbers : (w : Bool) (id : NetId) → Contains (pad_entries w p) id
      → Member (map (λ (id : NetId). id.0) (pad_entries w p)) id.0
  among_numbers w id c =
      map_member (λ (id : NetId). id.0) (pad_entries w p) id (contains_member (pad_entries w p) id c)

  bit_joined : (pad : Pad) (id : NetId) (k : ℕ) → IsEntryOf p pad id
      → ((w : Bool) → not (pad.width == 0) ≡ w → Contains (pad_entries w p) id) → k < pad_bits pad
      → IsJoined (OfNet (pad_spot pad id k))
  bit_joined pad id k e own lt = by_sort (pad.width == 0) refl lt
    where
      by_sort : (b : Bool) → (pad.width == 0) ≡ b → k < cond b 1 pad.width
          → (cond b 0 (suc k) ≤ p.width) × Member (led whole (cond b 0 (suc k))) id.0
      by_sort true s l = (
        omega arith,
        append_left whole.west_signals (beats p) id.0
            (among_numbers false id (own false (ap not s))),
      )
      by_sort false s l =
          let same = e.wide (λ z. true≢false (sym (eq-eqb pad.width 0 z) ∙ s)) in
          (omega (arith, l, same), among_numbers true id (own true (ap not s)))

  bits_joined : (pads : List Pad) (ids : List NetId) → AreEntriesOf p pads ids → AreOwn pads ids → (at : Point)
      → Member (points_in (rows_at pads ids)) at → IsJoined at
  bits_joined pads ids fit own at m =
      let b = bit_at pads ids at m in
      subst IsJoined b.same
      (bit_joined b.pad b.id b.bit (entry_at p pads ids b.place b.pad b.id fit b.is_pad b.is_id)
      (λ w s. own w b.id (in_entries w pads ids b.place b.pad b.id b.is_pad b.is_id s)) b.below)

  points_joined : (at : Point) → Member (label_points p) at → IsJoined at
  points_joined at (inl e) = subst IsJoined e tt
  points_joined at (inr (inl e)) = subst IsJoined e tt
  points_joined at (inr (inr (inl e))) = subst IsJoined e tt
  points_joined at (inr (inr (inr (inl e)))) = subst IsJoined e tt
  points_joined at (inr (inr (inr (inr (inl e))))) = subst IsJoined e tt
  points_joined at (inr (inr (inr (inr (inr m))))) =
      elim (member_append (points_in (rows_at (p.pads).inputs p.inputs))
      (points_in (rows_at (p.pads).outputs p.outputs)) at m) [
        | inl k ↦ bits_joined (p.pads).inputs p.inputs (p.whole.pads_fit.0, p.whole.entries_fit.0)
            (λ w id c. Contains-append_left (entries_of w (p.pads).inputs p.inputs)
            (entries_of w (p.pads).outputs p.outputs) id c) at k
        | inr k ↦ bits_joined (p.pads).outputs p.outputs (p.whole.pads_fit.1, p.whole.entries_fit.1)
            (λ w id c. Contains-append_right (entries_of w (p.pads).inputs p.inputs)
            (entries_of w (p.pads).outputs p.outputs) id c) at k
      ]

  beat_member : (ph : Phase) → Member (led whole 0) (length p.control + phase_number ph)
  beat_member ph =
      append_right whole.west_signals (beats p) (length p.control + phase_number ph) (among ph)
    where
      among : (ph : Phase) → Member (beats p) (length p.control + phase_number ph)
      among A = inl refl
      among B = inr (inl refl)
      among C = inr (inr (inl refl))

  -- ---- the numbers of segments differ

  abbrev each : ℕ
  each = length p.slices.net + 3

  slices_apart : (k l n m : ℕ) → n < each → m < each → k * each + n ≡ l * each + m → (k ≡ l) × (n ≡ m)
  slices_apart k l n m a b e = elim (cases_order k l) [
    | inl same ↦ (same, (let s : k * each ≡ l * each = ap (λ z. z * each) same in omega (arith, s, e)))
    | inr (inl lt) ↦ absurd (let r : (k + 1) * each ≤ l * each = mul-le-mul_right each (omega (arith, lt)) in
        omega (arith, r, a, e))
    | inr (inr gt) ↦ absurd (let r : (l + 1) * each ≤ k * each = mul-le-mul_right each (omega (arith, gt)) in
        omega (arith, r, b, e))
  ]

  numbers_apart : (b c n m : ℕ) → HasNet p b n → HasNet p c m → number_at p b n ≡ number_at p c m
      → (b ≡ c) × (n ≡ m)
  numbers_apart zero zero n m h k e = (refl, e)
  numbers_apart zero (suc c) n m h k e = absurd (omega (arith, h, e))
  numbers_apart (suc b) zero n m h k e = absurd (omega (arith, k, e))
  numbers_apart (suc b) (suc c) n m h k e =
      let x = h.1 in let y = k.1 in
      let s = slices_apart b c n m (omega (arith, x)) (omega (arith, y)) (omega (arith, e)) in
      (ap suc s.0, s.1)

  no_beat : (b n : ℕ) (ph : Phase) → HasNet p b n → number_at p b n ≡ length p.control + phase_number ph → ⊥
  no_beat zero n ph h e = omega (arith, h, e)
  no_beat (suc b) n ph h e = let s = phase_small ph in omega (arith, s, e)

  phases_apart : (x y : Phase) → length p.control + phase_number x ≡ length p.control + phase_number y → x ≡ y
  phases_apart A A e = refl
  phases_apart B B e = refl
  phases_apart C C e = refl
  phases_apart A B e = absurd (omega (arith, e))
  phases_apart A C e = absurd (omega (arith, e))
  phases_apart B A e = absurd (omega (arith, e))
  phases_apart B C e = absurd (omega (arith, e))
  phases_apart C A e = absurd (omega (arith, e))
  phases_apart C B e = absurd (omega (arith, e))

  -- ---- in the fabric

  module _ (control_net : shape.IsNet p.control) (slice_net : shape.IsNet p.slices.net) (f : Plan)
      (is_led : IsLed p f) (lawful : IsFabric f) (order : AreInOrder p is_led.bare is_led.sliced)
    where
      abbrev control : Tracks
      control = (is_led.sliced).control

      abbrev slices : Tracks
      slices = (is_led.sliced).slices

      abbrev ready : IsPlaceable whole
      ready = placeable p control_net slice_net

      pub bare_lawful : IsFabric is_led.bare
      bare_lawful = fewer_marks is_led.bare (unders whole control slices) (subst IsFabric is_led.is lawful)

      laid_lawful : IsFabric (path_laid whole (columns_wanted whole) control slices)
      laid_lawful = subst IsFabric (is_led.sliced).is bare_lawful

      abbrev cols : ℕ → ℕ → List ℕ
      cols =
          stand.cols whole ready control slices (is_led.sliced).control_tracks (is_led.sliced).slice_tracks

      there : (b k : ℕ) → Member (led whole b) k → k < length (parts whole b) + 3
      there b k m = (led_off.is_led whole ready control slices (is_led.sliced).control_tracks
          (is_led.sliced).slice_tracks b k m).there

      abbrev at_number : ℕ → ℕ → Segment
      at_number b k = get_or f.segments (number_at p b k) nowhere

      segment_is : (b k : ℕ) → b ≤ p.width → Member (led whole b) k
          → at_number b k ≡ band_segment b (cols b) (rows_in control slices b) k
      segment_is zero k le m = segment_same p f is_led order k ∙ order.control k (there 0 k m)
      segment_is (suc b) k le m =
          segment_same p f is_led order (number_at p (suc b) k)
          ∙ order.slices b k (omega (arith, le)) (there (suc b) k m)

      among : (m : Mark) → Member (unders whole control slices) m → Contains f.marks m
      among m h =
          subst (λ (f : Plan). Contains f.marks m) (sym is_led.is)
          (Contains-append_right (is_led.bare).marks (unders whole control slices) m
          (member_contains (unders whole control slices) m h))

      under_there : (b k : ℕ) → b ≤ p.width → Member (led whole b) k → Contains f.marks (under control slices b k)
      under_there b k le m =
          among (under control slices b k)
          (inr (flat_member (λ b. map (under control slices b) (led whole b)) (bands_of whole) b
          (under control slices b k) (range_has 0 (suc p.width) b (omega arith) (omega (arith, le)))
          (map_member (under control slices b) (led whole b) k m)))

      port : (b k : ℕ) → b ≤ p.width → Member (led whole b) k → HasPort f (segment (at_number b k))
      port b k le m =
          let e = segment_is b k le m in (
            Contains-get_or f.segments (number_at p b k) nowhere
                (number_in p f is_led order b k le (there b k m)),
            ap (λ (s : Segment). s.first) e
                ∙ led_off.first_one whole ready control slices (is_led.sliced).control_tracks
                (is_led.sliced).slice_tracks laid_lawful b k le m,
            (
              under control slices b k,
              under_there b k le m,
              refl,
              ap (λ (s : Segment). s.band) (sym e),
              ap (λ (s : Segment). s.row) (sym e),
            ),
          )

      bands_count : bands f ≡ suc p.width
      bands_count =
          ap (λ (f : Plan). bands f) is_led.is ∙ ap (λ (f : Plan). bands f) (is_led.sliced).is
          ∙ bands_are whole control (columns_wanted whole) control.rows slices.rows

      -- a segment that is led to the edge has a port
      pub west_port : (s : Segment) → Contains f.segments s → IsWest whole control slices s → HasPort f (segment s)
      west_port s c w =
          let in_band = (All-contains (IsSegment f) f.segments s lawful.segments c).band in
          let many = bands_count in (
            c,
            w.first,
            (
              under control slices s.band w.number,
              under_there s.band w.number (omega (arith, in_band, many))
                  (contains_member (led whole s.band) w.number w.joined),
              refl,
              refl,
              sym w.row,
            ),
          )

      top_row : rows_of f 0 ≡ suc control.rows
      top_row = ap (λ (f : Plan). rows_of f 0) (is_led.is) ∙ ap (λ (f : Plan). rows_of f 0) (is_led.sliced).is

      power_port : IsCrossed f 0 (rows_of f 0)
      power_port = (
        mark Under 0 (suc control.rows) 0,
        among (mark Under 0 (suc control.rows) 0) (inl refl),
        refl,
        refl,
        sym top_row,
      )

      port_at : (at : Point) → IsJoined at → HasPort f (net_at p f at)
      port_at (OfNet s) h = port s.band s.net h.0 h.1
      port_at Ground h = tt
      port_at Power h = power_port
      port_at (OfPhase ph) h = port 0 (length p.control + phase_number ph) (omega arith) (beat_member ph)

      -- segments of different numbers are different
      one_number : (i j : ℕ) → i < length f.segments → j < length f.segments
          → get_or f.segments i nowhere ≡ get_or f.segments j nowhere → i ≡ j
      one_number i j a b e = elim (cases_order i j) [
        | inl same ↦ same
        | inr (inl lt) ↦ absurd (apart i j lt b e)
        | inr (inr gt) ↦ absurd (apart j i gt a (sym e))
      ]
        where
          apart : (i j : ℕ) → i < j → j < length f.segments
              → get_or f.segments i nowhere ≡ get_or f.segments j nowhere → ⊥
          apart i j lt b e =
              let t = get_or f.segments j nowhere in
              let long = (All-contains (IsSegment f) f.segments t lawful.segments
              (Contains-get_or f.segments j nowhere b)).order in
              let two : SegmentsApart t t =
              subst (λ s. SegmentsApart s t) e (lawful.segments_apart i j nowhere lt b) in
              elim (two refl refl) [
                | inl before ↦ omega (arith, before, long)
                | inr behind ↦ omega (arith, behind, long)
              ]

      same_segment : (s t : Segment) → segment s ≡ segment t → s ≡ t
      same_segment s t e = cc

      in_list : (b n : ℕ) → HasNet p b n → number_at p b n < length f.segments
      in_list b n h = let i = net_in_band p b n h in number_in p f is_led order b n i.0 i.1

      beat_in : (ph : Phase) → length p.control + phase_number ph < length f.segments
      beat_in ph =
          number_in p f is_led order 0 (length p.control + phase_number ph) (omega arith)
          (let s = phase_small ph in omega (arith, s))

      -- points on one net are one
      one_point : (x y : Point) → IsThere p x → IsThere p y → net_at p f x ≡ net_at p f y → x ≡ y
      one_point (OfNet s) (OfNet t) h k e =
          let n = one_number (number_at p s.band s.net) (number_at p t.band t.net) (in_list s.band s.net h)
          (in_list t.band t.net k) (same_segment _ _ e) in
          let w = numbers_apart s.band t.band s.net t.net h k n in
          λ i. OfNet (record { band = w.0 i; net = w.1 i })
      one_point (OfNet s) (OfPhase ph) h k e =
          absurd (no_beat s.band s.net ph h
          (one_number (number_at p s.band s.net) (length p.control + phase_number ph) (in_list s.band s.net h)
          (beat_in ph) (same_segment _ _ e)))
      one_point (OfPhase ph) (OfNet s) h k e =
          absurd (no_beat s.band s.net ph k
          (sym (one_number (length p.control + phase_number ph) (number_at p s.band s.net) (beat_in ph)
          (in_list s.band s.net k) (same_segment _ _ e))))
      one_point (OfPhase x) (OfPhase y) h k e =
          ap OfPhase (phases_apart x y
          (one_number (length p.control + phase_number x) (length p.control + phase_number y) (beat_in x) (beat_in y)
          (same_segment _ _ e)))
      one_point Ground Ground h k e = refl
      one_point Power Power h k e = refl
      one_point Ground Power h k e = absurd (ground_no_power e)
      one_point Power Ground h k e = absurd (ground_no_power (sym e))
      one_point Ground (OfNet s) h k e = absurd (ground_no_segment _ e)
      one_point Ground (OfPhase ph) h k e = absurd (ground_no_segment _ e)
      one_point Power (OfNet s) h k e = absurd (power_no_segment _ e)
      one_point Power (OfPhase ph) h k e = absurd (power_no_segment _ e)
      one_point (OfNet s) Ground h k e = absurd (ground_no_segment _ (sym e))
      one_point (OfNet s) Power h k e = absurd (power_no_segment _ (sym e))
      one_point (OfPhase ph) Ground h k e = absurd (ground_no_segment _ (sym e))
      one_point (OfPhase ph) Power h k e = absurd (power_no_segment _ (sym e))

      abbrev pub nets : List Net
      nets = map (net_at p f) (label_points p)

      nets_ported : All (HasPort f) nets
      nets_ported i d h =
          let l = length-map (label_points p) (net_at p f) in
          let lt : i < length (label_points p) = omega (arith, h, l) in
          let m = member_at (label_points p) i Power lt in
          subst (HasPort f) (sym (get_or-map (net_at p f) (label_points p) i Power d lt))
          (port_at (get_or (label_points p) i Power) (points_joined (get_or (label_points p) i Power) m))

      nets_differ : AllPairs ◌≢◌ nets
      nets_differ i j d lt h e =
          let l = length-map (label_points p) (net_at p f) in
          let b : j < length (label_points p) = omega (arith, h, l) in
          let a : i < length (label_points p) = omega (arith, lt, b) in
          let x = get_or (label_points p) i Power in
          let y = get_or (label_points p) j Power in
          labels_differ p i j Power lt b
          (one_point x y (points_there p x (member_at (label_points p) i Power a))
          (points_there p y (member_at (label_points p) j Power b))
          (sym (get_or-map (net_at p f) (label_points p) i Power d a) ∙ e
          ∙ get_or-map (net_at p f) (label_points p) j Power d b))

      corners_zip : (at : List Point) (labels : List ChipLabel) → AllZip (IsAtPoint p f) at labels
          → AllZip (IsInCorner f) (map (net_at p f) at) labels
      corners_zip [] [] z = tt
      corners_zip [] (l ∷ ls) z = absurd z
      corners_zip (a ∷ rest) [] z = absurd z
      corners_zip (a ∷ rest) (l ∷ ls) z = (z.0, corners_zip rest ls z.1)

      pub cornered : (labels : List ChipLabel) (heights : List ℕ) → AllZip (IsAtPoint p f) (label_points p) labels
          → heights ≡ map (height_at p f) (label_points p) → AreCornered f labels heights
      cornered labels heights there high = record {
        nets = nets;
        corners = corners_zip (label_points p) labels there;
        ported = nets_ported;
        high = high ∙ sym (map-map (port_low f) (net_at p f) (label_points p));
        differ = nets_differ;
        grounded = (1, omega arith, refl);
      }
