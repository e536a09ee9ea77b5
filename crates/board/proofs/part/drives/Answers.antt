use Rattle.std.proofs.Common.{◌≡◌, subst}
use Rattle.board.proofs.part.drives.Goals as goal

-- The names of the box's parts are Rattle's own, and may change.
pub returns : goal.returns
returns g c =
    subst (λ v. c.drives.result ≡ (g.dyn-1.0.entry v.0).1.driven_in ((g.dyn-1.0.entry v.0).1.state v.1))
    c.deref_box-1.ensures.1 c.drives.ensures
