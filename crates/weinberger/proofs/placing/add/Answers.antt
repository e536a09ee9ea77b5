use Rattle.std.proofs.Common.{◌≡◌, ◌∙◌, sym, subst, slice_index}
use Rattle.nor_net.specs.declared.net.Part.{Part}
use Rattle.std.proofs.Common.{List}
use Rattle.array_form.specs.declared.band.Band.{Band}
use Rattle.array_form.specs.Laying.{with_net}
use Rattle.array_form.specs.Place.{columns_in, cols_in}
use Rattle.fabric.specs.Plan.{Plan, IsFabric, with_added}
use Rattle.fabric.specs.Room.{IsRoomy}
use Rattle.weinberger.proofs.Fitted.{same_fabric, is_fabric, is_roomy}
use Rattle.weinberger.proofs.placing.add.Goals as goal

pub add-requires-clause-met : goal.add-requires-clause-met
add-requires-clause-met c =
    let f : Plan = c.args.fabric.now in
    let band : Band = c.args.band.now in
    let parts : List Part = c.args.net.now in
    let tracks = c.args.layout.now.tracks in
    let l = c.requires.listed in
    let a = c.deref.ensures.value ∙ l.segments in
    let b = c.deref-2.ensures.value ∙ l.lines in
    let m = c.deref-3.ensures.value ∙ l.marks in
    let e : with_added f c.deref.result.now c.deref-2.result.now c.deref-3.result.now
    ≡ with_net f band.index (columns_in band parts) parts (cols_in (columns_in band parts) parts)
    (slice_index tracks.row) =
    (λ i. with_added f (a i) (b i) (m i)) ∙ same_fabric f band parts c.requires.fitted tracks c.requires.tracks in
    subst IsFabric (sym e)
    (is_fabric f band parts c.requires.fitted tracks c.requires.tracks c.requires.kept.met c.requires.shape
    c.requires.fed)

pub add-requires-clause-room : goal.add-requires-clause-room
add-requires-clause-room c =
    let f : Plan = c.args.fabric.now in
    let band : Band = c.args.band.now in
    let parts : List Part = c.args.net.now in
    let tracks = c.args.layout.now.tracks in
    let l = c.requires.listed in
    let a = c.deref.ensures.value ∙ l.segments in
    let b = c.deref-2.ensures.value ∙ l.lines in
    let m = c.deref-3.ensures.value ∙ l.marks in
    let e : with_added f c.deref.result.now c.deref-2.result.now c.deref-3.result.now
    ≡ with_net f band.index (columns_in band parts) parts (cols_in (columns_in band parts) parts)
    (slice_index tracks.row) =
    (λ i. with_added f (a i) (b i) (m i)) ∙ same_fabric f band parts c.requires.fitted tracks c.requires.tracks in
    subst IsRoomy (sym e)
    (is_roomy f band parts c.requires.fitted tracks c.requires.tracks c.requires.kept.roomy c.requires.space)

pub returns : goal.returns
returns c =
    let f : Plan = c.args.fabric.now in
    let band : Band = c.args.band.now in
    let parts : List Part = c.args.net.now in
    let tracks = c.args.layout.now.tracks in
    let l = c.requires.listed in
    let a = c.deref.ensures.value ∙ l.segments in
    let b = c.deref-2.ensures.value ∙ l.lines in
    let m = c.deref-3.ensures.value ∙ l.marks in
    c.in_ok-add.ensures
    ∙ ((λ i. with_added f (a i) (b i) (m i)) ∙ same_fabric f band parts c.requires.fitted tracks c.requires.tracks)
