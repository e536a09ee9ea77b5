use Rattle.std.proofs.Common.{sym, subst}
use Rattle.array_form.specs.Place.{HasSpace, IsFitted}
use Rattle.slice_form.specs.Whole.{path_of}
use Rattle.path_laying.proofs.Emptied.{few, fitted}
use Rattle.path_laying.proofs.Raised.{control_placed, control_space, is_fed}
use Rattle.slice_form.specs.Slices.{columns_wanted}
use Rattle.path_laying.proofs.laying.place_control.Goals as goal

pub place-requires-clause-fed : goal.place-requires-clause-fed
place-requires-clause-fed c = is_fed c.args.path.now

pub place-requires-clause-fitted : goal.place-requires-clause-fitted
place-requires-clause-fitted c =
    let p = c.args.path.now in
    let q = path_of p in
    let e = c.requires.empty in
    subst (λ f. IsFitted f c.args.band.now p.control) (sym e.is)
    (fitted q (c.paths_are_placeable.ensures p c.len-nets.ensures.shape c.len-slices.ensures.shape).path
    c.args.band.now c.requires.band (c.controls_match.ensures q c.args.band.now c.requires.band) e.control e.slices
    e.column e.density)

pub place-requires-clause-space : goal.place-requires-clause-space
place-requires-clause-space c =
    let p = c.args.path.now in
    let q = path_of p in
    let e = c.requires.empty in
    subst (λ f. HasSpace f p.control) (sym e.is)
    (control_space q (few p c.requires.small) (columns_wanted q) e.control e.slices)

pub returns : goal.returns
returns c =
    let p = c.args.path.now in
    let q = path_of p in
    control_placed q (few p c.requires.small) c.args.band.now c.requires.band
    (c.controls_match.ensures q c.args.band.now c.requires.band) c.args.fabric.now c.place.new.fabric
    c.in_ok-placed.placed c.requires.empty c.in_ok-placed.ensures
