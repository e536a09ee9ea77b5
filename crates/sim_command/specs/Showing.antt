-- How the run of a circuit along a stimulus ends.
use Rattle.std.specs.Prelude.{◌≡◌, ℕ, List, Option, Result, IsErrAnd, IfErr}
use Rattle.mp_base.specs.declared.value.Trit.{Trit}
use Rattle.mp_base.specs.declared.value.Trit.TheVariants.{X}
use Rattle.mp_base.specs.declared.refusal.Refusal.{Refusal}
use Rattle.outside.specs.Outside.{Gains, HasCause}
use Rattle.outside.specs.Piece.{TakesAll}
use Rattle.switch_net.specs.declared.network.Network.{Network}
use Rattle.switch_net.specs.Breaks.{HasPads}
use Rattle.stimulus.specs.declared.given.Stimulus.{Stimulus}
use Rattle.clock_run.specs.Refused.{IsRefused}
use Rattle.outcome.specs.Halt.{halt_of}
use Rattle.outcome.specs.declared.halt.Halt.{Halt}
use Rattle.outcome.specs.declared.halt.Halt.TheVariants.{WriteFault}
use Rattle.sim_run.specs.Transcript.{IsTranscript}

-- the circuit was refused and nothing printed, or it ran from all values X, and its transcript was printed, where a
-- write failed in part
pub data IsShown {T : Type 0} (network : Network) (given : Stimulus) (before after : Option (List ℕ)) (faults now : ℕ)
    (result : Result T Halt) : Type 0 where
  refused : (why : Refusal) → IsRefused network given.pads why → IsErrAnd result (λ halt. halt ≡ halt_of why)
      → after ≡ before → now ≡ faults → IsShown network given before after faults now result
  ran : (end : ℕ → Trit) (text : List ℕ) → HasPads network given.pads
      → IsTranscript network given (λ node. X) end text → TakesAll Gains before after text result
      → HasCause faults now result → IfErr result (λ halt. halt ≡ WriteFault)
      → IsShown network given before after faults now result
