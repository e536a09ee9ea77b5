use Rattle.std.proofs.Common.{◌<◌, length, All, sym, subst}
use Rattle.board.specs.declared.link.Link.{Link}
use Rattle.board_cases.proofs.boards.run.Goals as goal

pub run_on-requires-clause-parts : goal.run_on-requires-clause-parts
run_on-requires-clause-parts g c =
    subst (λ links. All (λ (l : Link). l.part < length c.args.parts.now.items) links) (sym c.in_ok-board.ensures.links)
    (subst (λ parts. All (λ (l : Link). l.part < length parts) c.in_ok-links.links) c.deref.ensures.value
    c.in_ok-links.ensures.parts)
