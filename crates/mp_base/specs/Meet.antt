-- The value that two nodes have together.
use Rattle.mp_base.specs.declared.value.Trit.{Trit}
use Rattle.mp_base.specs.declared.value.Trit.TheVariants.{Zero, One, X}

-- the value where both agree, else X
abbrev pub meet : Trit → Trit → Trit
meet Zero Zero = Zero
meet One One = One
meet _ _ = X
