use Rattle.std.proofs.Common.{◌≡◌, ◌++◌, map, take}
use Rattle.spice_deck.specs.Deck.{plain}
use Rattle.spice_deck.proofs.text.push_plain.Given as goal

abbrev pub invariant-loop-byte : goal.invariant-loop-byte
invariant-loop-byte l = l.text.items ≡ l.fn.text.items ++ map plain (take l.byte-index l.name)
