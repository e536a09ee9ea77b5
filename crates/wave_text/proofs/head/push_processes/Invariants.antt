use Rattle.std.proofs.Common.{◌≡◌, ◌++◌, take}
use Rattle.wave_text.specs.Numbered.{numbered}
use Rattle.wave_text.specs.Waves.{process_text}
use Rattle.wave_text.proofs.head.push_processes.Given as goal

abbrev pub invariant-loop-k : goal.invariant-loop-k
invariant-loop-k l = l.text.items ≡ l.fn.text.items ++ numbered process_text 0 (take l.k l.processes)
