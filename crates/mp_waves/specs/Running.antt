-- The waves of a program along a stimulus.
use Rattle.std.specs.Prelude.{◌≡◌, ℕ, ◌+◌, ◌*◌, List, [], ◌++◌, Some, codes, length, map, slice_index_or}
use Rattle.mp_base.specs.declared.pad.Pads.{Pads}
use Rattle.mp_program.specs.declared.program.Program.{Program}
use Rattle.mp_program.specs.State.{State, Seat, zero_state}
use Rattle.mp_program.specs.Trace.{IsClock}
use Rattle.mp_source.specs.Source.{IsSource}
use Rattle.stimulus.specs.declared.given.Stimulus.{Stimulus}
use Rattle.stimulus.specs.Inputs.{inputs_at}
use Rattle.stimulus.specs.Reading.{IsStimulus}
use Rattle.wave_text.specs.Waves.{head_text, state_text, tagged, values_text}

-- what the stimulus gives the inputs in a clock
abbrev pub given_at : Stimulus → ℕ → List ℕ
given_at given clock = inputs_at (length (given.pads).inputs) (slice_index_or given.clocks clock [])

-- the places of the processes
abbrev pub places : State → List ℕ
places st = map (λ (s : Seat). s.place) st.seats

-- after so many clocks along the stimulus the program is in this state, and this is the text so far
pub data IsRun (p : Program) (given : Stimulus) : ℕ → State → List ℕ → Type 0 where
  start : IsRun p given 0 (zero_state p) (head_text p given.pads)
  clock : {k : ℕ} {st next : State} {text shown : List ℕ} → IsRun p given k st text
      → IsClock p st (given_at given k) shown next
      → IsRun p given (k + 1) next
      ((text ++ state_text p k st.stored (places st)) ++ values_text k (given_at given k) shown)

-- all clocks were run, and the time of the end stands behind them
pub record AreWaves (p : Program) (given : Stimulus) (text : List ℕ) : Type 0 where
  pub after : State
  pub before_end : List ℕ
  pub run : IsRun p given (length given.clocks) after before_end
  pub end : text ≡ before_end ++ (tagged (codes "#") (2 * length given.clocks) ++ codes "\n")

-- the text is the waves of the source along the stimulus, and these break no rule
pub record AreWavesOf (source stimulus text : List ℕ) : Type 0 where
  pub program : Program
  pub pads : Pads
  pub given : Stimulus
  pub is_source : IsSource source program
  pub is_stimulus : IsStimulus stimulus (Some pads) given
  pub waves : AreWaves program given text
