use Rattle.std.proofs.Common.{◌∙◌, ap}
use Rattle.board.specs.Links.{driven_of, pad_of}
use Rattle.board.proofs.Words.{naming_none, naming_three}
use Rattle.board.proofs.reading.naming.Goals as goal

pub returns-in-Some : goal.returns-in-Some
returns-in-Some g c =
    naming_three _ c.args.pads.now _ c.in-Some.part.now c.in-Some.seen.now c.in-Some.driven.now _ c.in-Some.ensures
    c.part_named-place.ensures
    (c.pad_named-output.ensures ∙ ap (λ ps. pad_of ps c.in-Some.seen.now) c.as_slice.ensures)
    (c.driven_named-input.ensures ∙ ap (λ ps. driven_of ps c.in-Some.driven.now) c.as_slice-in-Some.ensures)

pub returns-in-None : goal.returns-in-None
returns-in-None g c = naming_none _ c.args.pads.now _ c.in-None.ensures
