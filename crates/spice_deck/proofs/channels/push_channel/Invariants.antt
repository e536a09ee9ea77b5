use Rattle.std.proofs.Common.{◌≡◌, ◌++◌, take}
use Rattle.std.specs.List.{flat_map}
use Rattle.spice_deck.specs.Deck.{transistor}
use Rattle.spice_deck.proofs.channels.push_channel.Given as goal

abbrev pub invariant-loop-end : goal.invariant-loop-end
invariant-loop-end l = l.text.items
    ≡ l.fn.text.items ++ flat_map (transistor l.sizes l.number l.channel l.first) (take l.end-index l.end-items)
