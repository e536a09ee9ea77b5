-- The gates of each word operator, by numbers of their own: 0 and 1 are the operands (the same one twice where there
-- is one), 2 is the chain's end, and the gates are numbered from 3.
use Rattle.std.specs.Prelude.{ℕ, ◌+◌, zero, suc, List, [], ◌∷◌, ◌++◌, Bool, true, false, map, nat_lt, ◌&&◌}
use Rattle.std.specs.List.{list_all}
use Rattle.mp_base.specs.declared.op.Op.{Op}
use Rattle.mp_base.specs.declared.op.Op.TheVariants as ops
use Rattle.nor_net.specs.declared.net.NetId.{NetId}
use Rattle.nor_net.specs.declared.net.Part.{Part}
use Rattle.nor_net.specs.declared.net.Part.TheVariants.{Input, Gate}
use Rattle.organelles.specs.declared.slices.Organelle.{Organelle}
use Rattle.organelles.specs.declared.slices.Organelle.TheVariants.{Add, Sub, Inc, Dec, And, Or, Xor, Not, Left, Right}
use Rattle.organelles.specs.declared.slices.Organelle.TheVariants.{Zero, Equal, Less}
use Rattle.organelles.specs.declared.table.Joint.{Joint}
use Rattle.organelles.specs.declared.table.Joint.TheVariants.{Alone, Upward, Downward}
use Rattle.organelles.specs.declared.slices.Chain.{Chain}
use Rattle.organelles.specs.declared.slices.Chain.TheVariants.{Up, Down}

-- the gates, the number of the result, and the chain with the number of the net that it comes from
pub record Table : Type 0 where
  pub gates : List (List ℕ)
  pub result : ℕ
  pub joint : Joint

-- a table of these parts
abbrev pub table : List (List ℕ) → ℕ → Joint → Table
table gates result joint = record { gates = gates; result = result; joint = joint }

-- a gate with one input, and with two
abbrev pub one : ℕ → List ℕ
one a = a ∷ []

abbrev pub two : ℕ → ℕ → List ℕ
two a b = a ∷ b ∷ []

-- the sum of both operands and the chain's end, without the carry: its gate is 10
abbrev pub sum_gates : List (List ℕ)
sum_gates = two 0 1 ∷ two 0 3 ∷ two 1 3 ∷ two 4 5 ∷ two 6 2 ∷ two 6 7 ∷ two 2 7 ∷ two 8 9 ∷ []

-- the table of each operator
abbrev pub table_of : Organelle → Table
table_of Add = table (sum_gates ++ two 3 7 ∷ []) 10 (Upward 11)
table_of Sub = table (sum_gates ++ one 2 ∷ two 11 5 ∷ two 4 12 ∷ one 13 ∷ []) 10 (Upward 14)
table_of Inc = table (two 0 2 ∷ two 0 3 ∷ two 2 3 ∷ two 4 5 ∷ one 5 ∷ []) 6 (Upward 7)
table_of Dec = table (two 0 2 ∷ two 0 3 ∷ two 2 3 ∷ two 4 5 ∷ one 3 ∷ []) 6 (Upward 7)
table_of And = table (one 0 ∷ one 1 ∷ two 3 4 ∷ []) 5 Alone
table_of Or = table (two 0 1 ∷ one 3 ∷ []) 4 Alone
table_of Xor = table (two 0 1 ∷ two 0 3 ∷ two 1 3 ∷ two 4 5 ∷ one 6 ∷ []) 7 Alone
table_of Not = table (one 0 ∷ []) 3 Alone
table_of Left = table [] 2 (Upward 0)
table_of Right = table [] 2 (Downward 0)
table_of Zero = table (two 2 0 ∷ one 3 ∷ []) 3 (Upward 4)
table_of Equal = table (two 0 1 ∷ two 0 3 ∷ two 1 3 ∷ two 4 5 ∷ one 6 ∷ two 2 7 ∷ one 8 ∷ []) 8 (Upward 9)
table_of Less = table (two 0 1 ∷ two 0 3 ∷ two 1 3 ∷ one 2 ∷ two 6 5 ∷ two 4 7 ∷ one 8 ∷ []) 9 (Upward 9)

-- no operator adds more nets, nor more inputs of gates
abbrev pub most_nets : ℕ
most_nets = 13

abbrev pub most_inputs : ℕ
most_inputs = 24

-- where a number of the table stands in the slice: operands a and b, the chain's end c, and gates from first on
abbrev pub place : NetId → NetId → ℕ → ℕ → ℕ → ℕ
place a b c first zero = a.0
place a b c first (suc zero) = b.0
place a b c first (suc (suc zero)) = c
place a b c first (suc (suc (suc i))) = first + i

-- the net with this number
abbrev pub net_at : ℕ → NetId
net_at n = record { 0 = n }

-- what is added for a table behind this many nets
abbrev pub gates_from : NetId → NetId → ℕ → ℕ → List (List ℕ) → List Part
gates_from a b c first gates = map (λ js. Gate (map (λ j. net_at (place a b c first j)) js)) gates

abbrev pub parts_from : Joint → List (List ℕ) → NetId → NetId → ℕ → List Part
parts_from Alone gates a b at = gates_from a b b.0 at gates
parts_from (Upward from) gates a b at = Input ∷ gates_from a b at (at + 1) gates
parts_from (Downward from) gates a b at = Input ∷ gates_from a b at (at + 1) gates

abbrev pub first_gate : Joint → ℕ → ℕ
first_gate Alone at = at
first_gate (Upward from) at = at + 1
first_gate (Downward from) at = at + 1

abbrev pub chains_from : Joint → NetId → NetId → ℕ → List Chain
chains_from Alone a b at = []
chains_from (Upward from) a b at = Up (net_at (place a b at (at + 1) from)) (net_at at) ∷ []
chains_from (Downward from) a b at = Down (net_at (place a b at (at + 1) from)) (net_at at) ∷ []

-- the operator's value is that of this one
abbrev pub op_of : Organelle → Op
op_of Add = ops.Add
op_of Sub = ops.Sub
op_of Inc = ops.Inc
op_of Dec = ops.Dec
op_of And = ops.WordAnd
op_of Or = ops.WordOr
op_of Xor = ops.WordXor
op_of Not = ops.WordNot
op_of Left = ops.Left
op_of Right = ops.Right
op_of Zero = ops.Zero
op_of Equal = ops.Equal
op_of Less = ops.Less

-- the answer is a bit, in the top slice
abbrev pub is_test : Organelle → Bool
is_test Zero = true
is_test Equal = true
is_test Less = true
is_test _ = false

-- each gate reads numbers before its own
abbrev pub is_ordered : ℕ → List (List ℕ) → Bool
is_ordered n [] = true
is_ordered n (js ∷ gates) = list_all (λ j. nat_lt j n) js && is_ordered (suc n) gates
