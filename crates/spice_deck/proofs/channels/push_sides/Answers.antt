use Rattle.std.proofs.Common.{codes, ◌++◌, ◌∙◌, ap}
use Rattle.spice_deck.specs.Deck.{long, sides_text, thousandths, width}
use Rattle.spice_deck.proofs.Numbering.{behind}
use Rattle.spice_deck.proofs.channels.push_sides.Goals as goal

pub returns : goal.returns
unfolding sides_text
returns c =
    let old = c.args.text.now.items in
    let wide = thousandths (width c.args.edge) in
    let far = thousandths (long c.args.area c.args.edge) in
    let between = codes "*lambda} L={" in
    behind old (wide ++ between ++ far) (codes "*lambda}\n")
    (behind old (wide ++ between) far
    (behind old wide between c.in_ok-push_thousandths.ensures c.in_ok-extend_from_slice.ensures.items)
    (c.in_ok-push_thousandths-2.ensures
    ∙ ap (λ n. c.extend_from_slice.new.self.items ++ thousandths n) c.in_ok-long.ensures))
    c.in_ok-extend_from_slice-2.ensures.items
