use Rattle.std.proofs.Common.{◌≡◌, ◌++◌, take}
use Rattle.spice_deck.specs.Deck.{pin_text}
use Rattle.spice_deck.specs.Numbered.{numbered}
use Rattle.spice_deck.proofs.pins.push_all_pins.Given as goal

abbrev pub invariant-loop-k : goal.invariant-loop-k
invariant-loop-k l = l.text.items ≡ l.fn.text.items ++ numbered pin_text 0 (take l.k l.tags)
