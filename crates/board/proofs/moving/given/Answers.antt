use Rattle.std.proofs.Common.{◌<◌, length, ◌∙◌}
use Rattle.board.specs.declared.link.Link.{Link}
use Rattle.board.proofs.Faces.{driven_at}
use Rattle.board.proofs.Given.{found, given_some}
use Rattle.board.proofs.moving.given.Goals as goal

pub bounds-parts-link : goal.bounds-parts-link
bounds-parts-link g c =
    found (λ (l : Link). l.part < length c.args.parts.now) c.args.links.now c.args.input c.in-Some.link
    c.in-Some.ensures
    c.requires

pub returns-in-Some : goal.returns-in-Some
returns-in-Some g c =
    let inside = found (λ (l : Link). l.part < length c.args.parts.now) c.args.links.now c.args.input c.in-Some.link
    c.in-Some.ensures c.requires in
    given_some c.args.links.now _ c.args.clock c.args.input c.args.pad.now c.in-Some.link c.within.result
    c.drives.result
    c.in-Some.ensures c.within.ensures
    (c.drives.ensures
    ∙ driven_at _ c.args.parts.now c.in-Some.link.part c.index-parts-link.result inside c.index-parts-link.is)
