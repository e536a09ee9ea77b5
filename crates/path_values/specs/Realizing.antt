-- A path whose nets compute the transfers in every solution.
use Rattle.std.specs.Prelude.{◌≡◌, ◌<◌, ◌^◌, ℕ, List, None, Bool, true, false, if◌then◌else◌, ◌==◌, slice_index}
use Rattle.std.specs.Int.{bit_at}
use Rattle.mp_base.specs.declared.value.Trit.{Trit}
use Rattle.mp_base.specs.declared.value.Trit.TheVariants.{One}
use Rattle.nor_net.specs.Elements.{Spot}
use Rattle.nor_net.specs.Machine.{Stores, Ports, Port, AreStores, ArePorts, IsPort, HoldsState, HoldsInputs}
use Rattle.nor_net.specs.Machine.{GivesInputs, HasNext, Whenever}
use Rattle.rtl_form.specs.declared.rtl.Rtl.{Rtl}
use Rattle.rtl_form.specs.Environment.{IsEnvironment}
use Rattle.rtl_form.specs.Step.{next_state, resets, Shows}
use Rattle.rtl_form.specs.declared.rtl.Cell as cells
use Rattle.mp_base.specs.Entries.{IsAt}
use Rattle.rtl_form.specs.Trace.{stores}
use Rattle.rtl_form.specs.Trace as rtl
use Rattle.path_form.specs.declared.path.DataPath.{DataPath}
use Rattle.path_form.specs.Showing.{path_nets, HasPadValues, FitPads, ShowsTransfers}

-- bit k of entry c
abbrev pub bits_of : List ℕ → ℕ → ℕ → Bool
bits_of values c k = bit_at (slice_index values c) k == 1

-- the state fits the cells
abbrev pub StateFits : Rtl → List ℕ → Type 0
StateFits r state = (c : ℕ) (x : cells.Cell) → IsAt r.cells c x
    → slice_index state c < 2 ^ (if x.word then r.width else 1)

-- Where state and inputs are definite, every solution has the outputs of the transfers, and gives the masters the
-- next state.
abbrev pub Computes : Rtl → DataPath → Stores → Ports → Type 0
Computes r p stored ports =
    (state inputs env outputs : List ℕ) → StateFits r state → FitPads (r.pads).inputs inputs
    → IsEnvironment r state inputs env → Shows r env outputs
    → Whenever (path_nets p) (λ v. HoldsState stored (bits_of state) v × HoldsInputs ports (bits_of inputs) v)
    (λ v. HasPadValues (r.pads).outputs p.outputs outputs v
    × HasNext stored (bits_of (next_state r state inputs env)) v)

-- The pads are those of the transfers. Bit k of the stored cell c, and bit k of input pad c, have their nets; where a
-- latch of the reset pad is 1, every master is given 0.
pub record Realizes (r : Rtl) (p : DataPath) : Type 0 where
  pub pads : p.pads ≡ r.pads
  pub stored : Stores
  pub ports : Ports
  pub are_stores : AreStores (path_nets p) stored
  pub are_ports : ArePorts (path_nets p) ports
  pub given_ports : (inputs : List ℕ) (values : Spot → Trit) → HasPadValues (r.pads).inputs p.inputs inputs values
      → GivesInputs ports (bits_of inputs) values
  pub none : stores r ≡ false → (c k : ℕ) → stored c k ≡ None
  pub clears : (inputs : List ℕ) (values : Spot → Trit) → HasPadValues (r.pads).inputs p.inputs inputs values
      → resets r inputs ≡ true
      → (reset : Port) × IsPort (path_nets p) reset × (values reset.pad ≡ One)
      × Whenever (path_nets p) (λ v. v reset.latch ≡ One) (HasNext stored (λ c k. false))
  pub fits : (state inputs outputs after : List ℕ) → StateFits r state → FitPads (r.pads).inputs inputs
      → rtl.IsClock r state inputs outputs after → StateFits r after
  pub computes : Computes r p stored ports

abbrev pub RealizedShows : Type 0
RealizedShows = (r : Rtl) (p : DataPath) → Realizes r p → ShowsTransfers r p
