-- Even numbers.
use Rattle.std.specs.Prelude.{◌≡◌, ℤ, pos}
use Rattle.std.specs.Int.RustNames.{int_rem}

abbrev pub IsEven : ℤ → Type 0
IsEven z = int_rem z (pos 2) ≡ pos 0
