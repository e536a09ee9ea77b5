use Rattle.std.proofs.Common.{◌≡◌, ◌++◌, take}
use Rattle.wave_text.specs.Numbered.{numbered}
use Rattle.wave_text.specs.Waves.{stored_text}
use Rattle.wave_text.proofs.head.push_all_stored.Given as goal

abbrev pub invariant-loop-k : goal.invariant-loop-k
invariant-loop-k l = l.text.items ≡ l.fn.text.items ++ numbered (stored_text l.width) 0 (take l.k l.defs)
