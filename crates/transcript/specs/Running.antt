-- What a run prints.
use Rattle.std.specs.Prelude.{◌≡◌, ℕ, ◌-◌, ◌≤◌, List, [], length, take, Option, Result, OnOk, OnErr, slice_index_or}
use Rattle.mp_base.specs.declared.value.Trit.{Trit}
use Rattle.mp_base.specs.declared.pad.Pads.{Pads}
use Rattle.outside.specs.Outside.{Gains}
use Rattle.outside.specs.Piece.{TakesAll}
use Rattle.stimulus.specs.declared.given.Stimulus.{Stimulus}
use Rattle.stimulus.specs.Inputs.{inputs_at, inputs_of}
use Rattle.stimulus.specs.Transcript.{line_text, lines_text}
use Rattle.transcript.specs.declared.room.Room.{Room}
use Rattle.transcript.specs.Transcript.{RunsAlong, IsTranscript}

-- a value for each input, and a word for each output
pub record HasRoom (pads : Pads) (room : Room) : Type 0 where
  pub inputs : length room.inputs ≡ length pads.inputs
  pub outputs : length room.outputs ≡ length pads.outputs

-- one clock was run from this state to that, and its line was printed
pub record PrintsClock {S T E : Type 0} (Steps : S → List ℕ → List (List Trit) → S → Type 0) (given : Stimulus)
    (clock : ℕ) (before after : S) (old new : Option (List ℕ)) (result : Result T E) : Type 0 where
  pub shown : List (List Trit)
  pub steps : Steps before (inputs_at (length (given.pads).inputs) (slice_index_or given.clocks clock [])) shown after
  pub taken : TakesAll Gains old new (line_text clock (given.pads).outputs shown) result

-- The first clocks were run, from this state to that, and their lines printed: at `Ok` all clocks and all of their
-- text, and else all lines but the last, and a first part of the last, but not all of it.
pub record PrintsClocks {S T E : Type 0} (Steps : S → List ℕ → List (List Trit) → S → Type 0) (given : Stimulus)
    (before after : S) (old new : Option (List ℕ)) (result : Result T E) : Type 0 where
  pub shown : List (List (List Trit))
  pub runs : RunsAlong Steps before (take (length shown) (inputs_of given)) shown after
  pub all : OnOk result (length shown ≡ length given.clocks)
  pub taken : TakesAll Gains old new (lines_text 0 (given.pads).outputs shown) result
  pub lines : OnErr result (length (lines_text 0 (given.pads).outputs (take (length shown - 1) shown)) ≤ taken.count)

-- the transcript from this state was printed, all of it at `Ok`, with that state after, and else a first part, but not
-- all
pub record PrintsTranscript {S T E : Type 0} (Steps : S → List ℕ → List (List Trit) → S → Type 0) (given : Stimulus)
    (before after : S) (old new : Option (List ℕ)) (result : Result T E) : Type 0 where
  pub end : S
  pub text : List ℕ
  pub transcript : IsTranscript Steps given before end text
  pub ends : OnOk result (after ≡ end)
  pub taken : TakesAll Gains old new text result
