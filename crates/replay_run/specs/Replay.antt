-- What a replay prints.
use Rattle.std.specs.Prelude.{◌≡◌, ℕ, List, ◌++◌, Option, Result}
use Rattle.mp_base.specs.declared.value.Trit.{Trit}
use Rattle.mp_base.specs.declared.value.Trit.TheVariants.{X}
use Rattle.outside.specs.Outside.{Gains}
use Rattle.outside.specs.Piece.{TakesAll}
use Rattle.switch_net.specs.Values.{value_at}
use Rattle.switch_net.specs.declared.network.Network.{Network}
use Rattle.stimulus.specs.declared.given.Stimulus.{Stimulus}
use Rattle.mask_net.specs.SizeLine.{size_text, last_line}
use Rattle.sim_run.specs.Simulation.{Simulating}
use Rattle.sim_run.specs.Transcript.{IsTranscript}

-- the transcript from all values X along the stimulus, every clock in full, and the size line of the values at its end
pub record IsReplay (net : Network) (given : Stimulus) (text : List ℕ) : Type 0 where
  pub end : ℕ → Trit
  pub front : List ℕ
  pub transcript : IsTranscript net given (λ node. X) end front
  pub lines : text ≡ front ++ last_line net end

-- a replay was printed, all of it at `Ok`, and else a first part, but not all
pub record PrintsReplay {T E : Type 0} (net : Network) (given : Stimulus) (old new : Option (List ℕ))
    (result : Result T E) : Type 0 where
  pub text : List ℕ
  pub replay : IsReplay net given text
  pub taken : TakesAll Gains old new text result

-- all values are X, and the size was told
pub record IsReady (simulation : Simulating) (size : List ℕ) : Type 0 where
  pub unknown : value_at simulation.values ≡ (λ node. X)
  pub sized : size ≡ size_text simulation.network
