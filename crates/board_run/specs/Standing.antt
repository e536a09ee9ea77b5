-- What callers see of a circuit on a board, and what it holds.
use Rattle.std.specs.Prelude.{◌≡◌, ℕ, List}
use Rattle.mp_base.specs.declared.value.Trit.TheVariants.{X}
use Rattle.switch_net.specs.Values.{value_at}
use Rattle.switch_net.specs.declared.network.Network.{Network}
use Rattle.switch_net.specs.Breaks.{HasPads}
use Rattle.mask_net.specs.SizeLine.{size_text}
use Rattle.clock_run.specs.Circuit.{Running}
use Rattle.board.specs.Loop.{Wired}
use Rattle.board.specs.Boarding.{Boarding}

-- the network, and how it is wired
pub record Standing : Type 0 where
  pub network : Network
  pub wired : Wired

-- the circuit has the board's pads and has run no clock, and its size was told
pub record IsReady (circuit : Running) (board : Boarding) (size : List ℕ) : Type 0 where
  pub unknown : value_at circuit.values ≡ (λ node. X)
  pub pads : circuit.pads ≡ (board.wired).pads
  pub has_pads : HasPads circuit.network circuit.pads
  pub unrun : board.done ≡ 0
  pub sized : size ≡ size_text circuit.network
