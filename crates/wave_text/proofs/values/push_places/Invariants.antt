use Rattle.std.proofs.Common.{◌≡◌, ◌++◌, map, take}
use Rattle.wave_text.specs.Numbered.{numbered}
use Rattle.wave_text.specs.Waves.{place_value}
use Rattle.wave_text.proofs.values.push_places.Given as goal

abbrev pub invariant-loop-k : goal.invariant-loop-k
invariant-loop-k l = l.text.items ≡ l.fn.text.items ++ numbered (place_value (map (λ s. s.place) l.machine.state.seats)) 0 (take l.k l.processes)
