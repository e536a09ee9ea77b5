-- One clock of a net in six settings, and what it shows from clock to clock.
use Rattle.std.specs.Prelude.{◌≡◌, List, [], ◌∷◌, Option, Some, None}
use Rattle.mp_base.specs.declared.value.Trit.{Trit}
use Rattle.nor_net.specs.declared.net.Phase.{Phase}
use Rattle.nor_net.specs.declared.net.Phase.TheVariants.{A, B, C}
use Rattle.nor_net.specs.Elements.{Spot, Nets}
use Rattle.nor_net.specs.Settled.{Setting, IsSolution, IsSettled}

-- the settings up to the one at which outputs are read
abbrev pub settings_until_outputs : List (Option Phase)
settings_until_outputs = Some C ∷ None ∷ []

-- the settings after that
abbrev pub settings_after_outputs : List (Option Phase)
settings_after_outputs = Some A ∷ None ∷ Some B ∷ None ∷ []

-- what a setting may give: its least solution, or any solution
abbrev pub Way : Type 1
Way = Setting → (Spot → Trit) → Type 0

-- each of these settings in turn goes from the values before it to those that it may give, with what is given held
abbrev pub RunsBy : Way → Nets → (Spot → Trit) → List (Option Phase) → (Spot → Trit) → (Spot → Trit) → Type 0
RunsBy way nets given [] before after = (n : Spot) → after n ≡ before n
RunsBy way nets given (p ∷ ps) before after =
    (between : Spot → Trit) × way (record { nets = nets; phase = p; given = given; before = before }) between
    × RunsBy way nets given ps between after

-- one clock: the nets have the values shown after the second setting
pub record IsClockBy (way : Way) (nets : Nets) (given : Spot → Trit) (before shown after : Spot → Trit) : Type 0 where
  pub until : RunsBy way nets given settings_until_outputs before shown
  pub rest : RunsBy way nets given settings_after_outputs shown after

-- From these values before, under what is given in each clock, the nets have the values shown in each clock, and these
-- after the last.
abbrev pub IsTraceBy : Way → Nets → (Spot → Trit) → List (Spot → Trit) → List (Spot → Trit) → (Spot → Trit) → Type 0
IsTraceBy way nets before [] [] after = (n : Spot) → after n ≡ before n
IsTraceBy way nets before (given ∷ givens) (shown ∷ showns) after =
    (between : Spot → Trit) × IsClockBy way nets given before shown between
    × IsTraceBy way nets between givens showns after
IsTraceBy way nets before _ _ after = ⊥

-- the trace: each setting settles
abbrev pub IsTrace : Nets → (Spot → Trit) → List (Spot → Trit) → List (Spot → Trit) → (Spot → Trit) → Type 0
IsTrace nets before givens showns after = IsTraceBy IsSettled nets before givens showns after

-- any trace of solutions, of which the settled one is the least
abbrev pub IsLooseTrace : Nets → (Spot → Trit) → List (Spot → Trit) → List (Spot → Trit) → (Spot → Trit) → Type 0
IsLooseTrace nets before givens showns after = IsTraceBy IsSolution nets before givens showns after
