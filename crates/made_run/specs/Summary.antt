-- What is told of the run of a circuit.
use Rattle.std.specs.Prelude.{◌≡◌, ℕ, List, ◌++◌, codes}
use Rattle.std.specs.Fmt.{decimal}
use Rattle.mp_base.specs.declared.value.Trit.{Trit}
use Rattle.mp_base.specs.declared.value.Trit.TheVariants.{X}
use Rattle.switch_net.specs.declared.network.Network.{Network}
use Rattle.stimulus.specs.declared.given.Stimulus.{Stimulus}
use Rattle.mask_net.specs.SizeLine.{last_line}
use Rattle.sim_run.specs.Transcript.{IsTranscript}
use Rattle.settled_sum.specs.Sum.{sum_shown}

-- the circuit ran along the stimulus from all values X to these, and this is the sum of what its first output showed in
-- all clocks but the first
pub record IsSummedRun (net : Network) (given : Stimulus) (end : ℕ → Trit) (sum : ℕ) : Type 0 where
  pub front : List ℕ
  pub transcript : IsTranscript net given (λ node. X) end front
  pub sum_is : sum ≡ sum_shown transcript.shown

-- `weight N`, `clocks 65` and `sum N`, each with a line feed
abbrev pub summary_text : (weight sum : ℕ) → List ℕ
summary_text weight sum = codes "weight " ++ decimal weight ++ codes "\nclocks 65\nsum " ++ decimal sum ++ codes "\n"

-- the text tells of such a run, and ends with the size line of the values at its end
pub record IsSummary (weight : ℕ) (net : Network) (given : Stimulus) (text : List ℕ) : Type 0 where
  pub end : ℕ → Trit
  pub sum : ℕ
  pub run : IsSummedRun net given end sum
  pub lines : text ≡ summary_text weight sum ++ last_line net end
