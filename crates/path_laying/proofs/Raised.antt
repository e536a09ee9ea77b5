-- The control, the slices and the taps one after another.
use Rattle.std.proofs.Common.{◌≡◌, ℕ, suc, ◌+◌, ◌*◌, ◌<◌, ◌≤◌, Option, Some, None, [], ◌++◌, length, get_or}
use Rattle.std.proofs.Common.{true, refl, sym, ◌∙◌, ap, subst, arith}
use Rattle.std.specs.Prelude.{flat_map, slice_get, slice_index}
use Rattle.std.specs.List.{range_with_len}
use Rattle.std.proofs.lemmas.List.{get_or_default, length-append}
use Rattle.mp_base.proofs.Ranges.{flat_count}
use Rattle.track_assign.specs.Density.{IsDensity}
use Rattle.track_assign.specs.declared.packing.Tracks.{Tracks}
use Rattle.fabric.specs.Plan.{Plan, IsFabric, with_added}
use Rattle.fabric.specs.Room.{IsRoomy}
use Rattle.nor_net.specs.declared.net.Part.{Part}
use Rattle.nor_net.specs.declared.net.Part.TheVariants.{Input, Gate, Latch}
use Rattle.nor_net.specs.Shape.{Fed, IsFed, IsNet, gate_inputs}
use Rattle.path_form.specs.Shape as shape
use Rattle.array_form.specs.declared.band.Band.{Band}
use Rattle.array_form.specs.declared.band.Placed.{Placed}
use Rattle.array_form.specs.Laying.{AreTracks, band_marks, with_net}
use Rattle.array_form.specs.Place.{columns_in, cols_in, intervals_in, HasSpace, IsPlaced}
use Rattle.array_form.proofs.Counting.{segments_count, lines_count, marks_count}
use Rattle.array_form.proofs.Rows.{rows_few}
use Rattle.band_lists.specs.Listed.{AreRows}
use Rattle.path_form.specs.declared.path.DataPath.{DataPath}
use Rattle.track_assign.proofs.Densities.{density_once}
use Rattle.slice_form.specs.Path.{Path, Cast, Lift}
use Rattle.slice_form.specs.Slices.{columns_wanted, control_columns, slice_columns}
use Rattle.slice_form.specs.Whole.{path_of}
use Rattle.slice_laying.specs.Added.{slice_marks, joint_marks, with_slices}
use Rattle.slice_laying.specs.Fitting.{HasRoomFor}
use Rattle.slice_laying.specs.Taps.{control_cast_taps, control_lift_taps, control_taps, with_taps}
use Rattle.slice_joints.specs.Control.{IsControlBand}
use Rattle.slice_place.specs.declared.placing.PlacedSlices.{PlacedSlices}
use Rattle.slice_place.specs.Placed.{joints, AreSlicesPlaced, HasSlicesSpace, IsSlicesFitted}
use Rattle.slice_place.proofs.Roomy.{marks_most, joint_marks_most}
use Rattle.slice_chip.specs.Sliced.{ControlsLeaveRoom, TapsFit, IsSliced, control_cols, empty, slices_laid}
use Rattle.slice_chip.specs.Sliced.{with_control}
use Rattle.slice_chip.specs.Unders.{UndersFit, unders}
use Rattle.path_laying.specs.Steps.{IsEmpty, HasControl, IsControlPlaced, HasSlices, AreSlicesIn, IsTapped}
use Rattle.path_laying.proofs.Crossed.{unders_most}
use Rattle.path_laying.proofs.Emptied.{IsFew, times_most}

-- each latch of the control has its data
part_fed : (q : Part) → shape.is_fed q ≡ true → Fed q
part_fed Input h = tt
part_fed (Gate ins) h = tt
part_fed (Latch ph None) h = absurd (cc h)
part_fed (Latch ph (Some d)) h = refl

pub is_fed : (p : DataPath) → IsFed p.control
is_fed p k d lt = part_fed (get_or p.control k d) (p.whole.fed.0 k d lt)

-- an empty fabric has space for the control
pub control_space : (p : Path) → IsFew p → (columns control slices : ℕ)
    → HasSpace (empty p columns control slices) p.control
control_space p is_few columns control slices =
    let n = is_few.control in
    let g = is_few.control_inputs in
    record { segments = omega (arith, n); lines = omega (arith, n); marks = omega (arith, n, g) }

-- the control as it was placed
module _ (p : Path) (is_few : IsFew p) (band : Band) (is : IsControlBand p band)
    (same : control_columns p ≡ columns_in band p.control) (old new : Plan) (placed : Placed)
    (empty_is : IsEmpty p old) (at : IsPlaced band p.control old new placed) where
  abbrev tracks : Tracks
  tracks = at.tracks

  density : IsDensity (intervals_in (control_columns p) p.control) tracks.rows tracks.column
  density =
      subst (λ y. IsDensity (intervals_in y p.control) tracks.rows tracks.column) (sym same) at.density

  rows_are : AreRows tracks (length p.control + 3)
  rows_are =
      let few = rows_few (control_columns p) p.control tracks.rows tracks.column density in
      let n = is_few.control in
      record {
        long = at.long;
        below = λ k d lt.
            let e = get_or_default tracks.row k d 0 lt in
            let l = at.long in
            let b = (at.are_tracks).below k (omega (arith, lt, l)) in omega (arith, e, b);
        few = omega (arith, few, n);
      }

  once : empty_is.control ≡ tracks.rows
  once = density_once (intervals_in (control_columns p) p.control) empty_is.control empty_is.column tracks.rows
      tracks.column empty_is.density density

  pub control_placed : IsControlPlaced p new placed
  control_placed =
      let row : ℕ → ℕ = slice_index tracks.row in
      let e = empty_is.is ∙ ap (λ z. empty p (columns_wanted p) z empty_is.slices) once in
      record {
        control = tracks;
        told = at.groups;
        laid = record {
          tracks = subst (λ y. AreTracks y p.control (cols_in y p.control) row tracks.rows) (sym same) at.are_tracks;
          rows = rows_are;
          density = density;
          slices = empty_is.slices;
          high = empty_is.high;
          is = at.after ∙ (λ i. with_net (e i) (is.index i) (sym same i) p.control (cols_in
              (sym same i) p.control) row);
        };
      }

-- the slices above it
module _ (p : DataPath) (is_few : IsFew (path_of p)) (f : Plan) (control : Tracks)
    (has : HasControl (path_of p) f control) where
  abbrev q : Path
  q = path_of p

  pub slices_fitted : ControlsLeaveRoom → IsNet p.control → IsSlicesFitted f q
  slices_fitted law is_net = (
    has.slices,
    has.high.column,
    has.high.density,
    subst (λ z. HasRoomFor z q has.slices) (sym has.is)
        (law p is_net control (record { row = []; rows = has.slices; column = 0 })),
  )

  segments_few : length f.segments ≤ 4099
  segments_few =
      let e = ap (λ (z : Plan). length z.segments) has.is in
      let s = segments_count 0 (control_cols q) (slice_index control.row) p.control in
      let n = is_few.control in omega (arith, e, s, n)

  lines_few : length f.lines ≤ 8192
  lines_few =
      let e = ap (λ (z : Plan). length z.lines) has.is in
      let s = lines_count 0 (control_columns q) p.control in
      let n = is_few.control in omega (arith, e, s, n)

  marks_few : length f.marks ≤ 20480
  marks_few =
      let e = ap (λ (z : Plan). length z.marks) has.is in
      let s = marks_count 0 (suc control.rows) (slice_index control.row) (control_columns q) p.control in
      let n = is_few.control in
      let g = is_few.control_inputs in omega (arith, e, s, n, g)

  pub slices_space : HasSlicesSpace f q
  slices_space =
      let n = is_few.slices in
      let g = is_few.slice_inputs in
      let j = is_few.joints in
      let a = times_most p.width (length q.slice + 3) 4099 is_few.width (omega (arith, n)) in
      let b = times_most p.width (2 * length q.slice + 2 * joints q) 24576 is_few.width (omega (arith, n, j)) in
      let c = times_most p.width (3 * length q.slice + gate_inputs q.slice + 3 + 3 * joints q) 45059 is_few.width
      (omega (arith, n, g, j)) in
      record {
        segments = (let s = segments_few in omega (arith, s, a));
        lines = (let s = lines_few in omega (arith, s, b, j));
        marks = (let s = marks_few in omega (arith, s, c, j));
      }

  pub slices_in : (new : Plan) (placed : PlacedSlices) → AreSlicesPlaced q f new placed
      → AreSlicesIn q new control placed
  slices_in new placed at =
      let tracks = at.tracks in
      let once = density_once (intervals_in (slice_columns q) q.slice) has.slices has.high.column tracks.rows
      tracks.column has.high.density at.density in
      record {
        laid = record {
          slices = tracks;
          tracks = at.are_tracks;
          density = at.density;
          is = at.after
              ∙ (ap (λ z. with_slices z q (suc tracks.rows) (slice_index tracks.row)) has.is
              ∙ ap (λ z. with_slices (with_control (empty q (columns_wanted q) control.rows z) q control) q
              (suc tracks.rows) (slice_index tracks.row)) once);
        };
        told = at.told.groups;
        rows = record {
          long = at.long;
          below = λ k d lt. low tracks at k d lt;
          few = (let r = rows_few (slice_columns q) q.slice tracks.rows tracks.column at.density in
              let n = is_few.slices in omega (arith, r, n));
        };
      }
    where
      low : (tracks : Tracks) (at : AreSlicesPlaced q f new placed) → (k d : ℕ) → k < length at.tracks.row
          → get_or at.tracks.row k d < at.tracks.rows
      low tracks at k d lt =
          let b = at.are_tracks.below k (let l = at.long in omega (arith, l, lt)) in
          subst (λ r. r < at.tracks.rows) (get_or_default at.tracks.row k 0 d lt) b

-- and the taps of the control
cast_one : (row : ℕ → ℕ) (i : ℕ) (o : Option Cast) → length (control_cast_taps row i o) ≤ 1
cast_one row i None = omega arith
cast_one row i (Some c) = omega arith

lift_one : (p : Path) (row : ℕ → ℕ) (i : ℕ) (o : Option Lift) → length (control_lift_taps p row i o) ≤ 1
lift_one p row i None = omega arith
lift_one p row i (Some l) = omega arith

taps_most : (p : Path) (row : ℕ → ℕ) → length (control_taps p row) ≤ 3 + (length p.casts + length p.lifts)
taps_most p row =
    let casts = flat_map (λ i. control_cast_taps row i (slice_get p.casts i)) (range_with_len 0 (length p.casts)) in
    let lifts = flat_map (λ i. control_lift_taps p row i (slice_get p.lifts i)) (range_with_len 0 (length p.lifts)) in
    let a = length-append casts lifts in
    let b = flat_count (λ i. control_cast_taps row i (slice_get p.casts i)) 1 0 (length p.casts)
    (λ i. cast_one row i (slice_get p.casts i)) in
    let c = flat_count (λ i. control_lift_taps p row i (slice_get p.lifts i)) 1 0 (length p.lifts)
    (λ i. lift_one p row i (slice_get p.lifts i)) in
    omega (arith, a, b, c)

module _ (p : DataPath) (is_few : IsFew (path_of p)) (f : Plan) (control : Tracks)
    (has : HasSlices (path_of p) f control) where
  pub taps_stand : TapsFit → IsNet p.control → IsNet p.slices.net
      → AreTracks (control_columns (path_of p)) p.control (control_cols (path_of p)) (slice_index control.row)
      control.rows
      → IsFabric f → IsFabric (with_taps f (path_of p) (slice_index control.row))
  taps_stand law control_net slice_net tracks lawful =
      subst (λ z. IsFabric (with_taps z (path_of p) (slice_index control.row))) (sym has.is)
      (law p control_net slice_net control has.slices tracks has.tracks (subst IsFabric has.is lawful))

  marks_before : length f.marks ≤ 2_912_448
  marks_before =
      let q = path_of p in
      let top : ℕ = suc has.slices.rows in
      let row : ℕ → ℕ = slice_index has.slices.row in
      let e = ap (λ (z : Plan). length z.marks) has.is in
      let first = band_marks 0 (suc control.rows) (slice_index control.row) (control_columns q) p.control in
      let s = marks_count 0 (suc control.rows) (slice_index control.row) (control_columns q) p.control in
      let a = length-append first (slice_marks q top row ++ joint_marks q top row) in
      let b = length-append (slice_marks q top row) (joint_marks q top row) in
      let c = marks_most q top row in
      let d = joint_marks_most q top row in
      let n = is_few.slices in
      let m = is_few.control in
      let h = is_few.control_inputs in
      let g = is_few.slice_inputs in
      let j = is_few.joints in
      let t = times_most p.width (3 * length q.slice + gate_inputs q.slice) 20480 is_few.width (omega (arith, n, g)) in
      let u = times_most p.width (3 + 3 * joints q) 24579 is_few.width (omega (arith, j)) in
      omega (arith, e, s, a, b, c, d, m, h, j, t, u)

  pub taps_roomy : IsRoomy f → IsRoomy (with_taps f (path_of p) (slice_index control.row))
  taps_roomy r =
      let row : ℕ → ℕ = slice_index control.row in
      let s = length-append f.segments [] in
      let l = length-append f.lines [] in
      let m = length-append f.marks (control_taps (path_of p) row) in
      let t = taps_most (path_of p) row in
      let c = is_few.casts in
      record {
        columns_fit = r.columns_fit;
        bands_fit = r.bands_fit;
        rows_fit = r.rows_fit;
        segments_fit = (let h = r.segments_fit in omega (arith, s, h));
        lines_fit = (let h = r.lines_fit in omega (arith, l, h));
        marks_fit = (let b = marks_before in omega (arith, m, t, c, b));
      }

-- the whole path
abbrev pub sliced_from : (p : DataPath) (early f new : Plan) (control : Tracks) → HasControl (path_of p) early control
    → HasSlices (path_of p) f control → new ≡ with_taps f (path_of p) (slice_index control.row) → IsSliced p new
sliced_from p early f new control below above is = record {
  control = control;
  slices = above.slices;
  control_tracks = below.tracks;
  slice_tracks = above.tracks;
  control_density = below.density;
  slice_density = above.density;
  is = is ∙ ap (λ f. with_taps f (path_of p) (slice_index control.row)) above.is;
}

-- and the crossings of pads
module _ (p : DataPath) (f : Plan) (control slices : Tracks) (tapped : IsTapped p f control slices) where
  pub unders_stand : UndersFit → IsNet p.control → IsNet p.slices.net → IsFabric f
      → IsFabric (with_added f [] [] (unders (path_of p) control slices))
  unders_stand law control_net slice_net lawful =
      subst (λ s. IsFabric (with_added f [] [] (unders (path_of p) control s))) tapped.slices_is
      (subst (λ c. IsFabric (with_added f [] [] (unders (path_of p) c tapped.sliced.slices))) tapped.control_is
      (law p control_net slice_net f tapped.sliced lawful))

  abbrev before : Plan
  before = slices_laid (path_of p) (columns_wanted (path_of p)) tapped.sliced.control tapped.sliced.slices

  sliced_before : HasSlices (path_of p) before tapped.sliced.control
  sliced_before = record {
    slices = tapped.sliced.slices;
    tracks = tapped.sliced.slice_tracks;
    density = tapped.sliced.slice_density;
    is = refl;
  }

  pub unders_roomy : IsFew (path_of p) → IsRoomy f → IsRoomy (with_added f [] [] (unders (path_of p) control slices))
  unders_roomy is_few r =
      let row : ℕ → ℕ = slice_index tapped.sliced.control.row in
      let s = length-append f.segments [] in
      let l = length-append f.lines [] in
      let m = length-append f.marks (unders (path_of p) control slices) in
      let e = ap (λ (z : Plan). length z.marks) tapped.sliced.is in
      let g = length-append before.marks (control_taps (path_of p) row) in
      let b = marks_before p is_few before tapped.sliced.control sliced_before in
      let t = taps_most (path_of p) row in
      let c = is_few.casts in
      let w = is_few.width in
      let u = unders_most p control slices 4096 4096 is_few.control is_few.slices in
      record {
        columns_fit = r.columns_fit;
        bands_fit = r.bands_fit;
        rows_fit = r.rows_fit;
        segments_fit = (let h = r.segments_fit in omega (arith, s, h));
        lines_fit = (let h = r.lines_fit in omega (arith, l, h));
        marks_fit = omega (arith, m, e, g, b, t, c, w, u);
      }
