-- What it means that slices compute an operator.
use Rattle.std.specs.Prelude.{◌≡◌, ◌<◌, ◌≤◌, ◌-◌, ◌^◌, ℕ, suc, List, [], ◌∷◌, ◌++◌, MatchBool, ◌==◌, All, length}
use Rattle.std.specs.Prelude.{slice_index_or}
use Rattle.std.specs.Int.{bit_at}
use Rattle.mp_base.specs.declared.value.Trit.{Trit}
use Rattle.mp_base.specs.Apply.{apply}
use Rattle.nor_net.specs.declared.net.NetId.{NetId}
use Rattle.nor_net.specs.Elements.{Spot, spot}
use Rattle.nor_net.specs.Laws.{bit}
use Rattle.organelles.specs.declared.slices.Organelle.{Organelle}
use Rattle.organelles.specs.declared.slices.Chain.{Chain}
use Rattle.organelles.specs.declared.slices.Chain.TheVariants.{Up, Down}
use Rattle.organelles.specs.declared.slices.Ports.{Ports}
use Rattle.organelles.specs.declared.slices.SliceNet.{SliceNet}
use Rattle.organelles.specs.Slices.{ObeysFrom}
use Rattle.organelles.specs.Tables.{Table, table_of, place, net_at, parts_from, chains_from, first_gate, op_of, is_test}

-- the net has the bits of x in w slices
abbrev pub HasWord : (Spot → Trit) → ℕ → NetId → ℕ → Type 0
HasWord v w net x = (k : ℕ) → k < w → v (spot (suc k) net) ≡ bit (bit_at x k == 1)

-- the result is the operator's value: a word, or a bit in the top slice
abbrev pub HasResult : Organelle → (Spot → Trit) → ℕ → NetId → ℕ → Type 0
HasResult op v w net y = MatchBool (is_test op) (v (spot w net) ≡ bit (y == 1)) (HasWord v w net y)

-- In any number of slices up to 64, whatever the setting, the net has the operator's value where the operands have
-- definite words. Nets from `first` on are those that were added.
abbrev pub Computes : Organelle → NetId → NetId → SliceNet → ℕ → NetId → Type 0
Computes op a b s first result =
    (w : ℕ) (v : Spot → Trit) (x y : ℕ) → 0 < w → w ≤ 64 → ObeysFrom w s first v → x < 2 ^ w → y < 2 ^ w
    → HasWord v w a x → HasWord v w b y
    → HasResult op v w result (apply w (op_of op) 0 (x ∷ y ∷ []))

-- the slice net with what is added for a table
abbrev pub with_table : Table → NetId → NetId → SliceNet → SliceNet
with_table t a b s = record {
  net = s.net ++ parts_from t.joint t.gates a b (length s.net);
  chains = s.chains ++ chains_from t.joint a b (length s.net);
  programs = s.programs;
}

-- where the result stands
abbrev pub result_at : Table → NetId → NetId → SliceNet → NetId
result_at t a b s = net_at (place a b (length s.net) (first_gate t.joint (length s.net)) t.result)

-- what is added for an operator on these operands, and where its value stands
pub record IsBuilt (op : Organelle) (a b : NetId) (old new : SliceNet) (ports : Ports) : Type 0 where
  pub slices : new ≡ with_table (table_of op) a b old
  pub result : ports.result ≡ result_at (table_of op) a b old

-- the first and the last of one or two operands
abbrev pub first_of : List NetId → NetId
first_of operands = slice_index_or operands 0 (net_at 0)

abbrev pub last_of : List NetId → NetId
last_of operands = slice_index_or operands (length operands - 1) (net_at 0)

-- the ends of chains are nets of the slice
abbrev pub ChainIn : ℕ → Chain → Type 0
ChainIn n (Up from to) = (from.0 < n) × (to.0 < n)
ChainIn n (Down from to) = (from.0 < n) × (to.0 < n)

-- an operator computes wherever it is added
abbrev pub OperatorComputes : Organelle → Type 0
OperatorComputes op =
    (a b : NetId) (s : SliceNet) → a.0 < length s.net → b.0 < length s.net → All (ChainIn (length s.net)) s.chains
    → Computes op a b (with_table (table_of op) a b s) (length s.net) (result_at (table_of op) a b s)

-- all operators do
abbrev pub OperatorsCompute : Type 0
OperatorsCompute = (op : Organelle) → OperatorComputes op
