-- What an output in memory is.
use Rattle.std.specs.Prelude.{◌≡◌, ℕ, ◌==◌, List, Bool}
use Rattle.std.specs.List.{list_any}
use Rattle.outside_doubles.specs.Memory.{counted}
use Rattle.outside_doubles.specs.declared.memory.MemSink.{MemSink}

-- what it holds
abbrev pub sink_bytes : MemSink → List ℕ
sink_bytes s = s.bytes.items

-- the number of its next call
abbrev pub number : MemSink → ℕ
number s = s.calls

-- the numbers of the calls that fail
abbrev pub listed : MemSink → List ℕ
listed s = s.fail

-- whether its next call fails by its number
abbrev pub next_fails : MemSink → Bool
next_fails s = list_any (λ n. n == number s) (listed s)

-- one call was counted
pub record IsNextCall (old new : MemSink) : Type 0 where
  pub counts : number new ≡ counted (number old)
  pub lists : listed new ≡ listed old
