use Rattle.std.proofs.Common.{◌∙◌, ap, sym, subst}
use Rattle.cif_place.specs.Placing.{AreSmall, rect_of, laid}
use Rattle.cif_place.proofs.Placements.{small_exchanged, rect_exchanged}
use Rattle.cif_place.proofs.placement.Placement.place.Goals as goal

pub lay-requires-clause-small : goal.lay-requires-clause-small
lay-requires-clause-small c =
    subst AreSmall (sym c.exchanged_if.ensures) (small_exchanged c.args.self.swaps c.args.edges c.requires.small)

pub returns : goal.returns
returns c = λ l.
    let p = c.args.self in
    c.lay.ensures l ∙ ap (λ e. laid p.flips_x p.flips_y p.dx p.dy (rect_of l e)) c.exchanged_if.ensures
    ∙ ap (laid p.flips_x p.flips_y p.dx p.dy) (rect_exchanged p.swaps l c.args.edges)
