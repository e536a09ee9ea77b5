-- A fabric just as large as a small path wants, in which nothing stands.
use Rattle.std.proofs.Common.{◌≡◌, ℕ, zero, suc, ◌+◌, ◌*◌, ◌<◌, ◌≤◌, List, [], ◌∷◌, length, replicate, sym, ◌∙◌}
use Rattle.std.proofs.Common.{ap, subst, arith}
use Rattle.std.specs.Prelude.{All, max, sum}
use Rattle.std.proofs.lemmas.List.{length-replicate}
use Rattle.std.proofs.lemmas.List.Folds.{sum_by-replicate}
use Rattle.std.proofs.lemmas.List.Elements.{All-replicate}
use Rattle.std.proofs.lemmas.List.Sums.{sum_by-cons}
use Rattle.mp_base.proofs.Lists.{length_map}
use Rattle.mp_base.proofs.Members.{contains_member}
use Rattle.track_assign.specs.Density.{IsDensity}
use Rattle.fabric.specs.Plan.{Plan, rows_of}
use Rattle.fabric.specs.Plan as plan
use Rattle.fabric.specs.Room.{limit}
use Rattle.nor_net.specs.Shape.{gate_inputs}
use Rattle.array_form.specs.declared.band.Band.{Band}
use Rattle.array_form.specs.declared.band.Size.{Size}
use Rattle.array_form.specs.Homes.{end_of}
use Rattle.array_form.specs.Place.{columns_in, intervals_in, IsMeasured, IsFitted}
use Rattle.array_form.proofs.Homes.{count_most}
use Rattle.array_form.proofs.Rows.{rows_few}
use Rattle.path_form.specs.declared.path.DataPath.{DataPath}
use Rattle.slice_form.specs.Path.{Path, IsPath}
use Rattle.slice_form.specs.Slices.{base_of, columns_wanted, control_columns, slice_columns}
use Rattle.slice_form.specs.Whole.{path_of, cast_of, lift_of, carry_of, programmed_of}
use Rattle.slice_joints.specs.Control.{IsControlBand}
use Rattle.slice_place.specs.declared.placing.SliceSize.{SliceSize}
use Rattle.slice_place.specs.Placed.{IsSliceSize}
use Rattle.slice_chip.specs.Sliced.{empty}
use Rattle.path_laying.specs.Laid.{IsSmallPath}
use Rattle.path_laying.specs.Steps.{IsEmpty, IsHigh}
use Rattle.path_laying.proofs.BandTaps.{tap_in, west_in}

-- a path with few nets, joints and gate inputs, as it is placed
pub record IsFew (p : Path) : Type 0 where
  pub width : p.width ≤ 64
  pub control : length p.control ≤ 4096
  pub slices : length p.slice ≤ 4096
  pub casts : length p.casts + length p.lifts ≤ 4096
  pub joints : length p.casts + length p.lifts + (length p.chains + length p.programs) ≤ 8192
  pub control_inputs : gate_inputs p.control ≤ 8192
  pub slice_inputs : gate_inputs p.slice ≤ 8192

pub few : (p : DataPath) → IsSmallPath p → IsFew (path_of p)
few p small =
    let a = length_map cast_of p.casts in
    let b = length_map lift_of p.lifts in
    let c = length_map carry_of p.slices.chains in
    let d = length_map (programmed_of p.width) p.slices.programs in
    let j = small.joints in
    let g = small.programs in
    record {
      width = p.whole.width.1;
      control = small.control;
      slices = small.slices;
      casts = omega (arith, a, b, j);
      joints = omega (arith, a, b, c, d, j, g);
      control_inputs = small.control_inputs;
      slice_inputs = small.slice_inputs;
    }

pub times_most : (w x k : ℕ) → w ≤ 64 → x ≤ k → w * x ≤ 64 * k
times_most w x k h l = grind arith

module _ (p : Path) (is_few : IsFew p) where
  pub base_few : base_of p < limit
  base_few = let c = is_few.casts in omega (arith, c)

  control_end : end_of (control_columns p) p.control ≤ 8196
  control_end =
      let m = count_most (control_columns p).homed (length p.control) in
      let c = is_few.casts in
      let n = is_few.control in omega (arith, m, c, n)

  slice_end : end_of (slice_columns p) p.slice ≤ 8196
  slice_end =
      let m = count_most (slice_columns p).homed (length p.slice) in
      let c = is_few.casts in
      let n = is_few.slices in omega (arith, m, c, n)

  pub columns_few : columns_wanted p < limit
  columns_few = let a = control_end in let b = slice_end in omega (arith, a, b)

  pub columns_enough : 3 ≤ columns_wanted p
  columns_enough =
      let e : 4 ≤ end_of (control_columns p) p.control = omega arith in omega (arith, e)

  -- the rows of its bands
  module _ (control slices column : ℕ) (density : IsDensity (intervals_in (control_columns p) p.control) control column)
      (high : IsHigh p slices) where
    abbrev rows : List ℕ
    rows = suc control ∷ replicate p.width (suc slices)

    control_few : control ≤ 4099
    control_few =
        let r = rows_few (control_columns p) p.control control column density in
        let n = is_few.control in omega (arith, r, n)

    slices_few : slices ≤ 4099
    slices_few =
        let r = rows_few (slice_columns p) p.slice slices high.column high.density in
        let n = is_few.slices in omega (arith, r, n)

    pub rows_long : length rows < limit
    rows_long =
        let l = length-replicate p.width (suc slices) in
        let w = is_few.width in omega (arith, l, w)

    pub rows_sum : sum rows < limit
    rows_sum =
        let s = sum_by-replicate (λ (x : ℕ). x) p.width (suc slices) in
        let c = sum_by-cons (λ (x : ℕ). x) (suc control) (replicate p.width (suc slices)) in
        let t = times_most p.width (suc slices) 4100 is_few.width (let f = slices_few in omega (arith, f)) in
        let f = control_few in omega (arith, s, c, t, f)

    pub rows_some : All (λ r. 1 ≤ r) rows
    rows_some zero d lt = omega arith
    rows_some (suc k) d lt =
        All-replicate (λ (r : ℕ). 1 ≤ r) p.width (suc slices) (omega arith) k d (omega (arith, lt))

-- what was measured is what is wanted
module _ (p : Path) (band : Band) (same : control_columns p ≡ columns_in band p.control) (size : Size)
    (control : IsMeasured band p.control size) (slice_size : SliceSize) (slices : IsSliceSize p slice_size) where
  pub columns_same : max size.columns slice_size.columns ≡ columns_wanted p
  columns_same =
      let a = control.columns_is ∙ ap (λ y. suc (end_of y p.control)) (sym same) in
      let b = slices.columns_is in
      λ i. max (a i) (b i)

  pub rows_same : (rows : List ℕ) → rows ≡ size.rows ∷ slice_size.rows
      → rows ≡ suc control.rows ∷ replicate p.width (suc slices.rows)
  rows_same all e = e ∙ (λ i. control.rows_is i ∷ slices.rows_is i)

  pub control_density : IsDensity (intervals_in (control_columns p) p.control) control.rows control.column
  control_density =
      subst (λ y. IsDensity (intervals_in y p.control) control.rows control.column) (sym same) control.density

  pub high : IsHigh p slices.rows
  high = record { column = slices.column; density = slices.density }

  pub is_empty : (rows : List ℕ) → rows ≡ size.rows ∷ slice_size.rows → (columns : ℕ)
      → columns ≡ max size.columns slice_size.columns → (f : Plan) → f ≡ plan.empty columns rows → IsEmpty p f
  is_empty rows e columns wide f is =
      let c = wide ∙ columns_same in
      let r = rows_same rows e in
      record {
        control = control.rows;
        column = control.column;
        density = control_density;
        slices = slices.rows;
        high = high;
        is = is ∙ (λ i. plan.empty (c i) (r i));
      }

-- the control may be placed in it
module _ (p : Path) (path : IsPath p) (band : Band) (is : IsControlBand p band)
    (same : control_columns p ≡ columns_in band p.control) (control slices column : ℕ)
    (density : IsDensity (intervals_in (control_columns p) p.control) control column) where
  wide : (a b : ℕ) → a ≤ max a b
  wide a b = omega arith

  pub fitted : IsFitted (empty p (columns_wanted p) control slices) band p.control
  fitted = (
    control,
    column,
    subst (λ y. IsDensity (intervals_in y p.control) control column) same density,
    record {
      index = (let e = is.index in omega (arith, e));
      first = (let e = is.first in omega (arith, e));
      taps_in = λ t c. let i = tap_in p path band is t (contains_member band.taps t c) in (i.net, i.first);
      west_in = λ i c. west_in p path band is i (contains_member band.west i c);
      columns = subst (λ y. suc (end_of y p.control) ≤ columns_wanted p) same
          (wide (suc (end_of (control_columns p) p.control)) (suc (end_of (slice_columns p) p.slice)));
      rows_is = ap (rows_of (empty p (columns_wanted p) control slices)) is.index;
      no_segments = λ s c. absurd (contains_member [] s c);
      no_marks = λ m c. absurd (contains_member [] m c);
      no_lines = λ l c. absurd (contains_member [] l c);
    },
  )
