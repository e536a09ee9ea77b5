-- The crossings of pads stand where segments begin, each alone in its place.
use Rattle.std.proofs.Common.{◌≡◌, inl, inr, ℕ, zero, suc, ◌<◌, ◌≤◌, ◌+◌, ◌==◌}
use Rattle.std.proofs.Common.{List, [], ◌∷◌, ◌++◌, length, map, true, false, refl, sym, ◌∙◌, ap, subst, arith}
use Rattle.std.specs.Prelude.{◌≢◌, flat_map, slice_index, Contains, if◌then◌else◌}
use Rattle.std.specs.List.{range_with_len}
use Rattle.std.proofs.lemmas.List.Elements.{Contains-append_left}
use Rattle.mp_base.proofs.Members.{Member, member_contains, contains_member, member_map, member_flat, range_members}
use Rattle.tile_cells.specs.declared.tile.Tile.{Tile}
use Rattle.tile_cells.specs.declared.tile.Tile.TheVariants.{TapL, TapR, Tran, PullUp, Under}
use Rattle.fabric.specs.declared.thing.Side.{Side}
use Rattle.fabric.specs.declared.thing.Segment.{Segment}
use Rattle.fabric.specs.declared.thing.Line.{Line}
use Rattle.fabric.specs.declared.thing.Mark.{Mark}
use Rattle.fabric.specs.Plan.{Plan, IsFabric, IsLine, IsMark, LineAt, Stands, BeginsAt, MarksApart, bands, rows_of}
use Rattle.fabric.specs.Plan.{with_added}
use Rattle.fabric_extent.specs.Bounds.{HasNoUnder}
use Rattle.nor_net.specs.declared.net.NetId.{NetId}
use Rattle.track_assign.specs.declared.packing.Tracks.{Tracks}
use Rattle.array_form.specs.Homes.{phase_number}
use Rattle.array_form.specs.Lists.{mark}
use Rattle.array_form.proofs.Added.{added_is_fabric}
use Rattle.array_form.proofs.Laid.{all_at}
use Rattle.array_form.proofs.Listing.{same_to}
use Rattle.array_form.proofs.Pairs.{Each, Pairs, each_at, each_from, pairs_append, pairs_flat_range}
use Rattle.path_form.specs.declared.path.DataPath.{DataPath}
use Rattle.path_form.specs.Shape.{times}
use Rattle.path_form.proofs.Joining.{there}
use Rattle.slice_form.specs.Path.{Path, west}
use Rattle.slice_form.specs.PathLists.{bands_of}
use Rattle.slice_form.specs.Slices.{columns_wanted}
use Rattle.slice_form.specs.Whole.{numbers_of, pad_entries, path_of}
use Rattle.slice_laying.specs.Added.{of_phases}
use Rattle.slice_laying.specs.Fitting.{AreSliceTracks}
use Rattle.slice_laying.specs.Paths.{IsPlaceable}
use Rattle.slice_laying.proofs.WholePaths.{placeable}
use Rattle.slice_chip.specs.Sliced.{AreControlTracks, path_laid}
use Rattle.slice_chip.specs.Unders.{UndersFit, led, rows_in, under, unders}
use Rattle.slice_chip.proofs.ControlRoom as room
use Rattle.slice_chip.proofs.Led as led_off
use Rattle.slice_chip.proofs.NoUnder.{sliced_has_no_under}

pairs_map : {X Y : Type 0} (P : X → X → Type 0) (Q : Y → Y → Type 0) (g : X → Y) (xs : List X) → Pairs P xs
    → ((x y : X) → Member xs x → Member xs y → P x y → Q (g x) (g y)) → Pairs Q (map g xs)
pairs_map P Q g [] h k = tt
pairs_map P Q g (x ∷ xs) h k = (
  each_from (Q (g x)) (map g xs)
      (λ z m. let w = member_map g xs z m in
      subst (Q (g x)) w.2 (k x w.0 (inl refl) (inr w.1) (each_at (P x) xs h.0 w.0 w.1))),
  pairs_map P Q g xs h.1 (λ y z m n. k y z (inr m) (inr n)),
)

-- nets that are each at most once among some are all different
all_differ : (ids : List NetId) → ((n : ℕ) → times n ids ≤ 1) → Pairs ◌≢◌ (numbers_of ids)
all_differ [] once = tt
all_differ (x ∷ xs) once = (
  each_from (λ m. x.0 ≢ m) (numbers_of xs) (λ z m e. again z (member_map (λ (id : NetId). id.0) xs z m) e),
  all_differ xs (λ n. let t = once n in let s = fewer n in omega (arith, t, s)),
)
  where
    fewer : (n : ℕ) → times n xs ≤ times n (x ∷ xs)
    fewer n = omega arith

    again : (z : ℕ) → (y : NetId) × Member xs y × (y.0 ≡ z) → x.0 ≡ z → ⊥
    again z (y, m, s) e =
        let h = there x.0 xs y (member_contains xs y m) (s ∙ sym e) in
        let f : times x.0 (x ∷ xs) ≡ 1 + times x.0 xs =
        ap (λ b. (if b then 1 else 0) + times x.0 xs) (same_to x.0 x.0 refl) in
        let t = once x.0 in omega (arith, h, f, t)

-- a mark that is no crossing stands behind column 0
behind : (f : Plan) → IsFabric f → (t : Tile) (b r c : ℕ) → t ≢ Under → Stands f t b r c → 1 ≤ c
behind f lawful t b r c other s = by_tile t other s
  where
    at_line : (side : Side) → LineAt f side b c → 1 ≤ c
    at_line side h =
        let l = (all_at (IsLine f) f.lines h.line lawful.lines (contains_member f.lines h.line h.among)).column in
        let e = h.passes.column in omega (arith, l, e)

    by_tile : (t : Tile) → t ≢ Under → Stands f t b r c → 1 ≤ c
    by_tile TapL other s = at_line _ s.0
    by_tile TapR other s = at_line _ s.0
    by_tile Tran other s = at_line _ s.0
    by_tile PullUp other (at_top, (l, among, passes, last)) =
        at_line _ (record { line = l; among = among; passes = passes })
    by_tile Under other s = absurd (other refl)

module _ (p : Path) (ready : IsPlaceable p) (control slices : Tracks) (below : AreControlTracks p control)
    (above : AreSliceTracks p slices) (differ : (b : ℕ) → Pairs ◌≢◌ (west p b))
  where
    abbrev all : Plan
    all = path_laid p (columns_wanted p) control slices

    abbrev more : List Mark
    more = unders p control slices

    abbrev ours : List Mark
    ours = flat_map (λ b. map (under control slices b) (led p b)) (bands_of p)

    abbrev power : Mark
    power = mark Under 0 (suc control.rows) 0

    abbrev beats : List ℕ
    beats = of_phases (λ ph. length p.control + phase_number ph)

    beats_differ : Pairs ◌≢◌ beats
    beats_differ = (
      ((λ e. absurd (omega (arith, e))), ((λ e. absurd (omega (arith, e))), tt)),
      (((λ e. absurd (omega (arith, e))), tt), (tt, tt)),
    )

    beat_high : (k : ℕ) → Member beats k → length p.control ≤ k
    beat_high k (inl e) = omega (arith, e)
    beat_high k (inr (inl e)) = omega (arith, e)
    beat_high k (inr (inr (inl e))) = omega (arith, e)
    beat_high k (inr (inr (inr m))) = absurd m

    led_differ : (b : ℕ) → Pairs ◌≢◌ (led p b)
    led_differ zero =
        pairs_append ◌≢◌ p.west_signals beats (differ 0) beats_differ
        (λ i j m n e. let l = (ready.path).joined 0 i (member_contains p.west_signals i m) in
        let h = beat_high j n in absurd (omega (arith, l, h, e)))
    led_differ (suc b) = differ 1

    -- a crossing is of one of the segments that are led to the edge
    of_ours : (m : Mark) → Member ours m → (b k : ℕ) × (b ≤ p.width) × Member (led p b) k
        × (under control slices b k ≡ m)
    of_ours m h =
        let w = member_flat (λ b. map (under control slices b) (led p b)) (bands_of p) m h in
        let u = member_map (under control slices w.0) (led p w.0) m w.2 in
        let r = (range_members 0 (suc p.width) w.0 w.1).1 in
        (w.0, u.0, omega (arith, r), u.1, u.2)

    module _ (lawful : IsFabric all) (bare : HasNoUnder all) where
      abbrev whole : Plan
      whole = with_added all [] [] more

      begins_still : (b r : ℕ) → BeginsAt all b r → BeginsAt whole b r
      begins_still b r (s, among, in_band, in_row, first) =
          (s, Contains-append_left all.segments [] s among, in_band, in_row, first)

      bands_are : bands all ≡ suc p.width
      bands_are = room.bands_are p control (columns_wanted p) control.rows slices.rows

      stands : (m : Mark) → Member more m → IsMark whole m
      stands m (inl e) = subst (IsMark whole) e (refl, (let b = bands_are in omega (arith, b)), inl refl)
      stands m (inr h) =
          let w = of_ours m h in
          subst (IsMark whole) w.4 (
            refl,
            (let b = bands_are in let l = w.2 in omega (arith, b, l)),
            inr (begins_still w.0 (suc (rows_in control slices w.0 w.1))
                (led_off.begins p ready control slices below above lawful w.0 w.1 w.2 w.3)),
          )

      -- no two in one row
      row_low : (b k : ℕ) → 0 ≡ b → Member (led p b) k → rows_in control slices b k < control.rows
      row_low zero k e m = below.below k (led_off.is_led p ready control slices below above 0 k m).there
      row_low (suc b) k e m = absurd (omega (arith, e))

      power_alone : (m : Mark) → Member ours m → MarksApart power m
      power_alone m h =
          let w = of_ours m h in
          subst (MarksApart power) w.4
          (λ b r c. let l = row_low w.0 w.1 b w.3 in omega (arith, r, l))

      ours_apart : Pairs MarksApart ours
      ours_apart =
          pairs_flat_range MarksApart (λ b. map (under control slices b) (led p b)) 0 (suc p.width)
          (λ b lo hi. pairs_map ◌≢◌ MarksApart (under control slices b) (led p b) (led_differ b)
          (λ i j m n ne band row column. led_off.rows_differ p ready control slices below above lawful b i j
          (omega (arith, hi)) m n ne
          (let e : rows_in control slices b i ≡ rows_in control slices b j = omega (arith, row) in e)))
          (λ b d l m lo lt hi u v band row column.
          let x = member_map (under control slices b) (led p b) l u in
          let y = member_map (under control slices d) (led p d) m v in
          let i : b ≡ l.band = ap (λ (k : Mark). k.band) x.2 in
          let j : d ≡ m.band = ap (λ (k : Mark). k.band) y.2 in
          omega (arith, lt, band, i, j))

      new_column : (m : Mark) → Member more m → m.column ≡ 0
      new_column m (inl e) = sym (ap (λ (k : Mark). k.column) e)
      new_column m (inr h) = let w = of_ours m h in sym (ap (λ (k : Mark). k.column) w.4)

      apart : (m k : Mark) → Member all.marks m → Member more k → MarksApart m k
      apart m k h i band row column =
          let z = new_column k i in
          let s = behind all lawful m.tile m.band m.row m.column (bare m (member_contains all.marks m h))
          (all_at (IsMark all) all.marks m lawful.marks h) in
          omega (arith, z, s, column)

      pub whole_lawful : IsFabric whole
      whole_lawful =
          added_is_fabric all lawful [] more (λ l m. absurd m) tt (λ l m k q. absurd q) stands
          (each_from (MarksApart power) ours power_alone, ours_apart) apart

pub nets_differ : (p : DataPath) (b : ℕ) → Pairs ◌≢◌ (west (path_of p) b)
nets_differ p zero = all_differ (pad_entries false p) p.whole.apart.0
nets_differ p (suc b) = all_differ (pad_entries true p) p.whole.apart.1

pub unders_fit : UndersFit
unders_fit p control_net slice_net f sliced lawful =
    subst (λ (f : Plan). IsFabric f → HasNoUnder f
    → IsFabric (with_added f [] [] (unders (path_of p) sliced.control sliced.slices))) (sym sliced.is)
    (whole_lawful (path_of p) (placeable p control_net slice_net) sliced.control sliced.slices sliced.control_tracks
    sliced.slice_tracks (nets_differ p))
    lawful (sliced_has_no_under p control_net slice_net f sliced)
