-- What the slices of a chain up give: in each slice the bits of the table, with the carry of the slice below.
use Rattle.std.proofs.Common.{◌≡◌, ℕ, ◌<◌, ◌+◌, zero, suc, List, [], ◌∷◌, Bool, true, false, length, get_or, ◌∙◌, arith}
use Rattle.std.specs.Prelude.{All, ◌==◌}
use Rattle.std.specs.Int.{bit_at}
use Rattle.mp_base.specs.declared.value.Trit.{Trit}
use Rattle.nor_net.specs.declared.net.NetId.{NetId}
use Rattle.nor_net.specs.Elements.{Spot}
use Rattle.nor_net.specs.Laws.{bit}
use Rattle.organelles.specs.declared.slices.SliceNet.{SliceNet}
use Rattle.organelles.specs.Slices.{ObeysFrom}
use Rattle.organelles.specs.declared.table.Joint.TheVariants.{Alone, Upward}
use Rattle.organelles.specs.Tables.{table, place}
use Rattle.organelles.specs.Computing.{ChainIn, HasWord, with_table}
use Rattle.organelles.specs.Tables.{is_ordered}
use Rattle.organelles.proofs.Netlist.{run, runs}
use Rattle.organelles.proofs.Standing.{end_low, end_joined, gate_up, gate_alone}

-- bit k of a number
abbrev pub digit : ℕ → ℕ → Bool
digit x k = bit_at x k == 1

-- what the table gives in a slice
abbrev pub slice_bits : List (List ℕ) → Bool → Bool → Bool → List Bool
slice_bits gates a b c = run gates (a ∷ b ∷ c ∷ [])

-- the carry into slice k
abbrev pub carry : List (List ℕ) → ℕ → ℕ → ℕ → ℕ → Bool
carry gates from x y zero = false
carry gates from x y (suc k) = get_or (slice_bits gates (digit x k) (digit y k) (carry gates from x y k)) from false

-- the bit of a number of the table in slice k
abbrev pub slice_bit : List (List ℕ) → ℕ → ℕ → ℕ → ℕ → ℕ → Bool
slice_bit gates from j x y k = get_or (slice_bits gates (digit x k) (digit y k) (carry gates from x y k)) j false

module _ (gates : List (List ℕ)) (result from : ℕ) (ordered : is_ordered 3 gates ≡ true)
    (long : (a b c : Bool) → length (slice_bits gates a b c) ≡ 3 + length gates)
    (from_in : from < 3 + length gates) where
  module _ (a b : NetId) (s : SliceNet) (chains_in : All (ChainIn (length s.net)) s.chains) (w : ℕ) (v : Spot → Trit)
      (h : ObeysFrom w (with_table (table gates result (Upward from)) a b s) (length s.net) v) (x y : ℕ)
      (has_x : HasWord v w a x) (has_y : HasWord v w b y) where
    abbrev value : ℕ → ℕ → Trit
    value k j = v (record { band = suc k; net = place a b (length s.net) (length s.net + 1) j })

    inputs : (k : ℕ) → k < w → value k 2 ≡ bit (carry gates from x y k)
        → (j : ℕ) → j < 3 → value k j ≡ bit (get_or (digit x k ∷ digit y k ∷ carry gates from x y k ∷ []) j false)
    inputs k l c zero m = has_x k l
    inputs k l c (suc zero) m = has_y k l
    inputs k l c (suc (suc zero)) m = c
    inputs k l c (suc (suc (suc j))) m = absurd (omega arith)

    slice : (k : ℕ) → k < w → value k 2 ≡ bit (carry gates from x y k)
        → (j : ℕ) → j < length (slice_bits gates (digit x k) (digit y k) (carry gates from x y k))
        → value k j ≡ bit (slice_bit gates from j x y k)
    slice k l c =
        runs (value k) gates (digit x k ∷ digit y k ∷ carry gates from x y k ∷ []) (inputs k l c)
        (λ i js e. gate_up a b s chains_in gates result from w v h k i js l e) ordered

    carried : (k : ℕ) → k < w → value k 2 ≡ bit (carry gates from x y k)
    carried zero l = end_low a b s chains_in gates result from w v h l
    carried (suc k) l =
        let len = long (digit x k) (digit y k) (carry gates from x y k) in
        end_joined a b s chains_in gates result from w v h k l
        ∙ slice k (omega arith) (carried k (omega arith)) from (omega (arith, len, from_in))

    -- each number of the table has its bit in each slice
    pub bits_up : (k : ℕ) → k < w → (j : ℕ) → j < 3 + length gates → value k j ≡ bit (slice_bit gates from j x y k)
    bits_up k l j m =
        let len = long (digit x k) (digit y k) (carry gates from x y k) in
        slice k l (carried k l) j (omega (arith, len))

-- without a chain: the table reads its two operands
module _ (gates : List (List ℕ)) (result : ℕ) (ordered : is_ordered 3 gates ≡ true) (long : (a b c : Bool)
    → length (slice_bits gates a b c) ≡ 3 + length gates) where
  module _ (a b : NetId) (s : SliceNet) (chains_in : All (ChainIn (length s.net)) s.chains) (w : ℕ) (v : Spot → Trit)
      (h : ObeysFrom w (with_table (table gates result Alone) a b s) (length s.net) v) (x y : ℕ)
      (has_x : HasWord v w a x) (has_y : HasWord v w b y) where
    operands : (k : ℕ) → k < w → (j : ℕ) → j < 3
        → v (record { band = suc k; net = place a b b.0 (length s.net) j }) ≡ bit
        (get_or (digit x k ∷ digit y k ∷ digit y k ∷ []) j false)
    operands k l zero m = has_x k l
    operands k l (suc zero) m = has_y k l
    operands k l (suc (suc zero)) m = has_y k l
    operands k l (suc (suc (suc j))) m = absurd (omega arith)

    pub bits_alone : (k : ℕ) → k < w → (j : ℕ) → j < 3 + length gates
        → v (record { band = suc k; net = place a b b.0 (length s.net) j }) ≡ bit
        (get_or (slice_bits gates (digit x k) (digit y k) (digit y k)) j false)
    bits_alone k l j m =
        let len = long (digit x k) (digit y k) (digit y k) in
        runs (λ j. v (record { band = suc k; net = place a b b.0 (length s.net) j })) gates
        (digit x k ∷ digit y k ∷ digit y k ∷ []) (operands k l)
        (λ i js e. gate_alone a b s chains_in gates result w v h k i js l e) ordered j (omega (arith, len))
