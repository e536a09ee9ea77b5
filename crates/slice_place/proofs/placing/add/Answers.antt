use Rattle.std.proofs.Common.{◌≡◌, ◌∙◌, suc, sym, subst, slice_index}
use Rattle.fabric.specs.Plan.{Plan, IsFabric, with_added}
use Rattle.fabric.specs.Room.{IsRoomy}
use Rattle.track_assign.proofs.Densities.{density_once}
use Rattle.array_form.specs.Place.{intervals_in}
use Rattle.slice_form.specs.Slices.{slice_columns}
use Rattle.slice_form.specs.Whole.{path_of}
use Rattle.slice_laying.specs.Added.{with_slices}
use Rattle.slice_laying.specs.Fitting.{HasRoomFor}
use Rattle.slice_place.proofs.Roomy.{slices_are_roomy}
use Rattle.slice_place.proofs.placing.add.Goals as goal

pub add-requires-clause-met : goal.add-requires-clause-met
add-requires-clause-met c =
    let f : Plan = c.args.fabric.now in
    let p = path_of c.args.path.now in
    let tracks = c.args.tracks.now in
    let l = c.requires.listed in
    let a = c.deref.ensures.value ∙ l.segments in
    let b = c.deref-2.ensures.value ∙ l.lines in
    let m = c.deref-3.ensures.value ∙ l.marks in
    let e : with_added f c.deref.result.now c.deref-2.result.now c.deref-3.result.now
    ≡ with_slices f p (suc tracks.rows) (slice_index tracks.row) =
    λ i. with_added f (a i) (b i) (m i) in
    let t = c.requires.fitted in
    let once = density_once (intervals_in (slice_columns p) p.slice) t.0 t.1 tracks.rows tracks.column t.2
    c.requires.tracks.density in
    subst IsFabric (sym e)
    (c.slices_fit.ensures c.args.path.now c.len-nets.ensures.shape c.len-slices.ensures.shape f
    c.requires.kept.met tracks (subst (HasRoomFor f p) once t.3) c.requires.tracks.apart)

pub add-requires-clause-room : goal.add-requires-clause-room
add-requires-clause-room c =
    let f : Plan = c.args.fabric.now in
    let p = path_of c.args.path.now in
    let tracks = c.args.tracks.now in
    let l = c.requires.listed in
    let a = c.deref.ensures.value ∙ l.segments in
    let b = c.deref-2.ensures.value ∙ l.lines in
    let m = c.deref-3.ensures.value ∙ l.marks in
    let e : with_added f c.deref.result.now c.deref-2.result.now c.deref-3.result.now
    ≡ with_slices f p (suc tracks.rows) (slice_index tracks.row) =
    λ i. with_added f (a i) (b i) (m i) in
    subst IsRoomy (sym e)
    (slices_are_roomy p f (suc tracks.rows) (slice_index tracks.row) c.requires.kept.roomy c.requires.space)

pub returns : goal.returns
returns c =
    let f : Plan = c.args.fabric.now in
    let l = c.requires.listed in
    let a = c.deref.ensures.value ∙ l.segments in
    let b = c.deref-2.ensures.value ∙ l.lines in
    let m = c.deref-3.ensures.value ∙ l.marks in
    c.in_ok-add.ensures ∙ (λ i. with_added f (a i) (b i) (m i))
