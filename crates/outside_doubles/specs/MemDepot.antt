-- What a depot in memory is.
use Rattle.std.specs.Prelude.{◌≡◌, ℕ, ◌==◌, List, Bool}
use Rattle.std.specs.List.{list_any}
use Rattle.outside.specs.Outside.{Files}
use Rattle.outside_doubles.specs.Memory.{files_of, counted}
use Rattle.outside_doubles.specs.declared.memory.MemDepot.{MemDepot}

-- what it holds
abbrev pub files : MemDepot → Files
files d = files_of d.files.entries

-- the number of its next call
abbrev pub number : MemDepot → ℕ
number d = d.calls

-- the numbers of the calls that fail
abbrev pub listed : MemDepot → List ℕ
listed d = d.fail

-- how many bytes an append takes at most
abbrev pub most : MemDepot → ℕ
most d = d.take

-- how many reads and writes have failed
abbrev pub faults : MemDepot → ℕ × ℕ
faults d = (d.read_faults, d.write_faults)

-- whether its next call fails by its number
abbrev pub next_fails : MemDepot → Bool
next_fails d = list_any (λ n. n == number d) (listed d)

-- one call was counted
pub record IsNextCall (old new : MemDepot) : Type 0 where
  pub counts : number new ≡ counted (number old)
  pub lists : listed new ≡ listed old
  pub takes : most new ≡ most old
