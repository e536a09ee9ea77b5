-- What holds of the loops of chips.
use Rattle.std.specs.Prelude.{◌≡◌, ℕ, List, All}
use Rattle.mp_base.specs.declared.value.Trit.{Trit}
use Rattle.mp_base.specs.declared.value.Trit.TheVariants.{X}
use Rattle.mp_program.specs.declared.program.Program.{Program}
use Rattle.mp_program.specs.Pads.{ArePadsOf}
use Rattle.mp_program.specs.State.{State, zero_state}
use Rattle.mp_program.specs.Trace.{stores}
use Rattle.mp_rules.specs.Breaking.{IsUnbroken}
use Rattle.switch_net.specs.declared.network.Network.{Network}
use Rattle.switch_net.specs.Values.{value_at}
use Rattle.mp_base.specs.PadBits.{Fit}
use Rattle.headline.specs.Headline.{Follows}
use Rattle.clock_run.specs.Circuit.{Running}
use Rattle.clock_run.specs.Device.{CircuitSteps}
use Rattle.sim_run.specs.Transcript.{NetworkSteps}
use Rattle.trace_run.specs.Transcript.{ProgramSteps}
use Rattle.board.specs.Face.{Face}
use Rattle.board.specs.Loop.{Wired, Exchange, IsLoop, IsSwappedLoop}
use Rattle.board.specs.Boarding.{AreWires}
use Rattle.board.specs.Laws.{AgreeWhereSettled}

-- the loop of a circuit with the board's pads is one of its network
abbrev pub CircuitsLoop : Type 0
CircuitsLoop =
    (w : Wired) (clock : ℕ) (before after : Running) (faces later : List Face) (shown : List (List (List Trit)))
    → before.pads ≡ w.pads → IsLoop CircuitSteps w clock before faces shown after later
    → IsLoop (NetworkSteps before.network w.pads) w clock (value_at before.values) faces shown
    (value_at after.values) later

-- the same with swaps
abbrev pub SwappedCircuitsLoop : Type 0
SwappedCircuitsLoop =
    (swaps : List Exchange) (w : Wired) (clock : ℕ) (before after : Running) (faces later : List Face)
    (shown : List (List (List Trit))) → before.pads ≡ w.pads
    → IsSwappedLoop swaps CircuitSteps w clock before faces shown after later
    → IsSwappedLoop swaps (NetworkSteps before.network w.pads) w clock (value_at before.values) faces shown
    (value_at after.values) later

-- the board has the pads of a program, and knows whether it stores anything
pub record IsBoardOf (p : Program) (w : Wired) : Type 0 where
  pub are_pads : ArePadsOf p w.pads
  pub wires : AreWires w.pads w.links
  pub stores : w.stores ≡ stores p

-- Of a network that follows a program along all inputs: its loop from all values X is, in each settled clock, that of
-- the program from the zero state, and both leave the parts alike.
abbrev pub ChipsLoop : Type 0
ChipsLoop =
    (p : Program) (net : Network) (w : Wired) (faces later : List Face) (shown : List (List (List Trit)))
    (after : ℕ → Trit) → IsUnbroken p → IsBoardOf p w
    → ((inputs : List (List ℕ)) → All (Fit (w.pads).inputs) inputs → Follows p w.pads net inputs)
    → IsLoop (NetworkSteps net w.pads) w 0 (λ node. X) faces shown after later
    → (told : List (List (List Trit))) × (end : State)
    × IsLoop (ProgramSteps p (w.pads).outputs) w 0 (zero_state p) faces told end later
    × AgreeWhereSettled w 0 shown told

-- The same with swaps, which both loops make.
abbrev pub SwappedChipsLoop : Type 0
SwappedChipsLoop =
    (swaps : List Exchange) (p : Program) (net : Network) (w : Wired) (faces later : List Face)
    (shown : List (List (List Trit))) (after : ℕ → Trit) → IsUnbroken p → IsBoardOf p w
    → ((inputs : List (List ℕ)) → All (Fit (w.pads).inputs) inputs → Follows p w.pads net inputs)
    → IsSwappedLoop swaps (NetworkSteps net w.pads) w 0 (λ node. X) faces shown after later
    → (told : List (List (List Trit))) × (end : State)
    × IsSwappedLoop swaps (ProgramSteps p (w.pads).outputs) w 0 (zero_state p) faces told end later
    × AgreeWhereSettled w 0 shown told
