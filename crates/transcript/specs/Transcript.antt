-- The transcript of a device along a stimulus.
use Rattle.std.specs.Prelude.{◌≡◌, ℕ, List, [], ◌∷◌}
use Rattle.mp_base.specs.declared.value.Trit.{Trit}
use Rattle.stimulus.specs.declared.given.Stimulus.{Stimulus}
use Rattle.stimulus.specs.Inputs.{inputs_of}
use Rattle.stimulus.specs.Transcript.{lines_text}

-- along these inputs steps lead from a state to another, and show these bits
abbrev pub RunsAlong : {S : Type 0} → (S → List ℕ → List (List Trit) → S → Type 0)
    → S → List (List ℕ) → List (List (List Trit)) → S → Type 0
RunsAlong Steps before [] [] after = after ≡ before
RunsAlong Steps before (given ∷ later) (shown ∷ more) after =
    (next : _) × Steps before given shown next × RunsAlong Steps next later more after
RunsAlong Steps before _ _ after = ⊥

-- along the stimulus the device goes from this state before to that after, and this is the transcript
pub record IsTranscript {S : Type 0} (Steps : S → List ℕ → List (List Trit) → S → Type 0) (given : Stimulus)
    (before after : S) (text : List ℕ) : Type 0 where
  pub shown : List (List (List Trit))
  pub runs : RunsAlong Steps before (inputs_of given) shown after
  pub lines : text ≡ lines_text 0 (given.pads).outputs shown
