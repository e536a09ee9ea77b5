-- Words of bits that may be unknown.
use Rattle.std.specs.Prelude.{Bool, true, false}
use Rattle.mp_base.specs.declared.value.Trit.{Trit}
use Rattle.mp_base.specs.declared.value.Trit.TheVariants.{Zero, One, X}

-- whether the value is 0 or 1
abbrev pub is_known : Trit → Bool
is_known Zero = true
is_known One = true
is_known X = false

-- whether the value is 1
abbrev pub is_one : Trit → Bool
is_one One = true
is_one Zero = false
is_one X = false
