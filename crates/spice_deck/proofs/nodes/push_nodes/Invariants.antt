use Rattle.std.proofs.Common.{◌≡◌, ◌++◌}
use Rattle.spice_deck.specs.Deck.{node_text}
use Rattle.spice_deck.specs.Numbered.{texts_below}
use Rattle.spice_deck.proofs.nodes.push_nodes.Given as goal

abbrev pub invariant-loop-number : goal.invariant-loop-number
invariant-loop-number l = l.text.items ≡ l.fn.text.items ++ texts_below (node_text l.sizes) l.number
