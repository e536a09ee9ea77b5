-- A trace of settled values is one of solutions.
use Rattle.std.proofs.Common.{List, [], ◌∷◌, Option}
use Rattle.mp_base.specs.declared.value.Trit.{Trit}
use Rattle.nor_net.specs.declared.net.Phase.{Phase}
use Rattle.nor_net.specs.Elements.{Spot, Nets}
use Rattle.nor_net.specs.Settled.{IsSolution, IsSettled}
use Rattle.nor_net.specs.Clock.{RunsBy, IsClockBy, settings_until_outputs, settings_after_outputs}
use Rattle.nor_net.specs.Laws.{TraceLoosens}

module _ (nets : Nets) where
  runs : (values : Spot → Trit) (ps : List (Option Phase)) (before after : Spot → Trit)
      → RunsBy IsSettled nets values ps before after → RunsBy IsSolution nets values ps before after
  runs values [] before after h = h
  runs values (p ∷ ps) before after h = (h.0, h.1.solution, runs values ps h.0 after h.2)

  clock : (values before shown after : Spot → Trit) → IsClockBy IsSettled nets values before shown after
      → IsClockBy IsSolution nets values before shown after
  clock values before shown after h =
      record {
        until = runs values settings_until_outputs before shown h.until;
        rest =
            runs values settings_after_outputs shown after h.rest;
      }

pub trace_loosens : TraceLoosens
trace_loosens nets before [] [] after h = h
trace_loosens nets before [] (s ∷ ss) after h = absurd h
trace_loosens nets before (g ∷ gs) [] after h = absurd h
trace_loosens nets before (g ∷ gs) (s ∷ ss) after h =
    (h.0, clock nets g before s h.0 h.1, trace_loosens nets h.0 gs ss after h.2)
