use Rattle.std.proofs.Common.{◌≡◌, ◌++◌, take}
use Rattle.wave_text.specs.Numbered.{numbered}
use Rattle.wave_text.specs.Waves.{value_text}
use Rattle.wave_text.proofs.values.push_all.Given as goal

abbrev pub invariant-loop-k : goal.invariant-loop-k
invariant-loop-k l = l.text.items ≡ l.fn.text.items ++ numbered (value_text l.letter) 0 (take l.k l.values)
