-- Values and drivers by the numbers of the nodes.
use Rattle.std.specs.Prelude.{ℕ, List, Option, None, slice_index_or}
use Rattle.mp_base.specs.declared.value.Trit.{Trit}
use Rattle.mp_base.specs.declared.value.Trit.TheVariants.{X}

-- the value of a node: a number that is no node's has X
abbrev pub value_at : List Trit → ℕ → Trit
value_at values n = slice_index_or values n X

-- what drives a node, if anything does
abbrev pub driver_at : List (Option Trit) → ℕ → Option Trit
driver_at drive n = slice_index_or drive n None
