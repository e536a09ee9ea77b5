use Rattle.std.proofs.Common.{◌<◌, ◌≤◌, ◌∷◌, ◌∙◌, ℕ, List, length, sym, ap, subst, arith}
use Rattle.std.specs.Prelude.{All, sum}
use Rattle.fabric.specs.Room.{limit}
use Rattle.slice_form.specs.Whole.{path_of}
use Rattle.path_laying.proofs.BandTaps.{band_of}
use Rattle.path_laying.proofs.Emptied as emptied
use Rattle.path_laying.proofs.laying.empty_fabric.Goals as goal

pub measure-requires : goal.measure-requires
measure-requires c =
    let p = c.args.path.now in
    band_of (path_of p) (c.paths_are_placeable.ensures p c.len-nets.ensures.shape c.len-slices.ensures.shape).path
    c.args.band.now c.requires.band (emptied.base_few (path_of p) (emptied.few p c.requires.small))

pub new-requires-clause-columns : goal.new-requires-clause-columns
new-requires-clause-columns c =
    let p = c.args.path.now in
    let q = path_of p in
    let same = c.controls_match.ensures q c.args.band.now c.requires.band in
    let e = emptied.columns_same q c.args.band.now same c.in_ok-control.control c.in_ok-control.ensures
    c.in_ok-slices.slices c.in_ok-slices.ensures in
    let n = emptied.columns_enough q (emptied.few p c.requires.small) in
    let w = c.max.ensures in
    omega (arith, e, n, w)

pub new-requires-clause-rows : goal.new-requires-clause-rows
new-requires-clause-rows c =
    let p = c.args.path.now in
    let q = path_of p in
    let same = c.controls_match.ensures q c.args.band.now c.requires.band in
    let rows = c.in_ok-rows.ensures ∙ ap (λ l. c.in_ok-control.control.rows ∷ l) c.as_slice.ensures in
    let m = c.in_ok-control.ensures in
    let s = c.in_ok-slices.ensures in
    subst (All (λ (r : ℕ). 1 ≤ r))
    (sym (emptied.rows_same q c.args.band.now same c.in_ok-control.control m c.in_ok-slices.slices s
    c.in_ok-rows.rows rows))
    (emptied.rows_some q (emptied.few p c.requires.small) m.rows s.rows m.column
    (emptied.control_density q c.args.band.now same c.in_ok-control.control m c.in_ok-slices.slices s)
    (emptied.high q c.args.band.now same c.in_ok-control.control m c.in_ok-slices.slices s))

pub new-requires-clause-room : goal.new-requires-clause-room
new-requires-clause-room c =
    let p = c.args.path.now in
    let q = path_of p in
    let is_few = emptied.few p c.requires.small in
    let same = c.controls_match.ensures q c.args.band.now c.requires.band in
    let rows = c.in_ok-rows.ensures ∙ ap (λ l. c.in_ok-control.control.rows ∷ l) c.as_slice.ensures in
    let m = c.in_ok-control.ensures in
    let s = c.in_ok-slices.ensures in
    let e = emptied.columns_same q c.args.band.now same c.in_ok-control.control m c.in_ok-slices.slices s in
    let r = emptied.rows_same q c.args.band.now same c.in_ok-control.control m c.in_ok-slices.slices s
    c.in_ok-rows.rows rows in
    let d = emptied.control_density q c.args.band.now same c.in_ok-control.control m c.in_ok-slices.slices s in
    let h = emptied.high q c.args.band.now same c.in_ok-control.control m c.in_ok-slices.slices s in (
      (let n = emptied.columns_few q is_few in let w = c.max.ensures in omega (arith, e, n, w)),
      subst (λ (l : List ℕ). length l < limit) (sym r) (emptied.rows_long q is_few m.rows s.rows m.column d h),
      subst (λ (l : List ℕ). sum l < limit) (sym r) (emptied.rows_sum q is_few m.rows s.rows m.column d h),
    )

pub returns : goal.returns
returns c =
    let q = path_of c.args.path.now in
    let same = c.controls_match.ensures q c.args.band.now c.requires.band in
    emptied.is_empty q c.args.band.now same c.in_ok-control.control c.in_ok-control.ensures c.in_ok-slices.slices
    c.in_ok-slices.ensures c.in_ok-rows.rows
    (c.in_ok-rows.ensures ∙ ap (λ l. c.in_ok-control.control.rows ∷ l) c.as_slice.ensures) c.max.result c.max.ensures
    c.in_ok-fabric.fabric c.in_ok-fabric.ensures
