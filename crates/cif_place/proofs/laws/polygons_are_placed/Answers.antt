use Rattle.std.proofs.Common.{◌∙◌, sym, subst, map}
use Rattle.poly_split.specs.Moving.{laid_point, Fills}
use Rattle.cif_place.specs.Pointing.{laying_of}
use Rattle.cif_place.proofs.Points.{all_lay}
use Rattle.cif_place.proofs.laws.polygons_are_placed.Goals as goal

pub returns-clause-placed : goal.returns-clause-placed
returns-clause-placed c = λ p l ps rs straight fills.
    subst (Fills l (map (laid_point (laying_of p)) ps)) (all_lay p rs)
    (c.fillings_are_laid.ensures.laid (laying_of p) l ps rs straight fills)

pub returns-clause-from : goal.returns-clause-from
returns-clause-from c = λ p l ps rs straight fills.
    let back = c.fillings_are_laid.ensures.lifted (laying_of p) l ps rs straight fills in
    (back.0, back.1, sym (all_lay p back.0) ∙ back.2)
