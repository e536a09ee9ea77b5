use Rattle.std.proofs.Common.{◌∙◌}
use Rattle.lam_geom.specs.declared.layer.Layer.TheVariants.{ND}
use Rattle.cif_form.specs.Place.{dot}
use Rattle.cif_place.specs.Placing.{place_of}
use Rattle.cif_place.proofs.Numbers.{kept_128}
use Rattle.cif_place.proofs.point.dot_at.Goals as goal

pub returns : goal.returns
returns c =
    let x = kept_128 c.args.across c.requires.across in
    let y = kept_128 c.args.up c.requires.up in
    c.place.ensures ND ∙ (λ i. place_of c.args.placement (dot (x i) (y i)))
