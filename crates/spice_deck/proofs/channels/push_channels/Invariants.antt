use Rattle.std.proofs.Common.{◌≡◌, ◌++◌, take}
use Rattle.spice_deck.specs.Deck.{channel_text}
use Rattle.spice_deck.specs.Numbered.{numbered}
use Rattle.spice_deck.proofs.channels.push_channels.Given as goal

abbrev pub invariant-loop-k : goal.invariant-loop-k
invariant-loop-k l = l.text.items ≡ l.fn.text.items ++ numbered (channel_text l.sizes) 0 (take l.k l.channels)
