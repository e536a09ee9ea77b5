-- A trace of the flat net is one of the path.
use Rattle.std.proofs.Common.{◌≡◌, List, [], ◌∷◌, Option, Some, map, refl, ◌∙◌, ap}
use Rattle.std.specs.Prelude.{slice_get}
use Rattle.mp_base.specs.declared.value.Trit.{Trit}
use Rattle.mp_base.specs.declared.value.Trit.TheVariants.{One}
use Rattle.nor_net.specs.declared.net.Phase.{Phase}
use Rattle.nor_net.specs.declared.net.NetId.{NetId}
use Rattle.nor_net.specs.declared.net.Part.{Part}
use Rattle.nor_net.specs.declared.net.Part.TheVariants.{Input, Gate, Latch}
use Rattle.nor_net.specs.Elements.{Spot, Element, Given, Nor, Latched, Joined, Low, spot, nets_of, part_element}
use Rattle.nor_net.specs.Settled.{gives, nor_value, IsSolution}
use Rattle.nor_net.specs.Clock.{RunsBy, IsClockBy, IsTraceBy, settings_until_outputs, settings_after_outputs}
use Rattle.path_form.specs.declared.path.DataPath.{DataPath}
use Rattle.path_form.specs.Showing.{path_nets}
use Rattle.path_form.specs.Flat.{IsPartOf, IsNumbering, pulled, FlatFollows}

module _ (p : DataPath) (flat : List Part) (of : Spot → NetId) (numbering : IsNumbering p flat of) where
  inputs_pulled : (v : Spot → Trit) (inputs : List Spot) → map v (map (spot 0) (map of inputs))
      ≡ map (pulled of v) inputs
  inputs_pulled v [] = refl
  inputs_pulled v (m ∷ ms) = ap (λ vs. v (spot 0 (of m)) ∷ vs) (inputs_pulled v ms)

  module _ (phase : Option Phase) (given before v : Spot → Trit)
      (sol : IsSolution (record { nets = nets_of flat; phase = phase; given = given; before = before }) v) where
    here : (id : NetId) (part : Part) (e : Element) → slice_get flat id.0 ≡ Some part
        → part_element 0 (Some part) ≡ Some e
        → v (spot 0 id) ≡ gives (record { nets = nets_of flat; phase = phase; given = given; before = before }) v
        (spot 0 id) e
    here id part e at is = sol (spot 0 id) e (ap (part_element 0) at ∙ is)

    by_element : (n : Spot) (e : Element) → IsPartOf flat of n e
        → pulled of v n ≡ gives (record {
          nets = path_nets p;
          phase = phase;
          given = pulled of given;
          before = pulled of before;
        }) (pulled of v) n e
    by_element n Given h = here (of n) Input Given h refl
    by_element n (Nor inputs) h =
        here (of n) (Gate (map of inputs)) (Nor (map (spot 0) (map of inputs))) h refl
        ∙ ap nor_value (inputs_pulled v inputs)
    by_element n (Latched q m) h = here (of n) (Latch q (Some (of m))) (Latched q (spot 0 (of m))) h refl
    by_element n (Joined m) h = ap (λ id. v (spot 0 id)) h
    by_element n Low h =
        let one : v (spot 0 h.0) ≡ One = here h.0 (Gate []) (Nor []) h.2 refl in
        here (of n) (Gate (h.0 ∷ [])) (Nor (spot 0 h.0 ∷ [])) h.1 refl ∙ ap (λ t. nor_value (t ∷ [])) one

    solution : IsSolution (record {
      nets = path_nets p;
      phase = phase;
      given = pulled of given;
      before = pulled of before;
    }) (pulled of v)
    solution n e is = by_element n e (numbering.each n e is)

  runs : (given : Spot → Trit) (ps : List (Option Phase)) (before after : Spot → Trit)
      → RunsBy IsSolution (nets_of flat) given ps before after
      → RunsBy IsSolution (path_nets p) (pulled of given) ps (pulled of before) (pulled of after)
  runs given [] before after h = λ n. h (spot 0 (of n))
  runs given (q ∷ ps) before after h = (pulled of h.0, solution q given before h.0 h.1, runs given ps h.0 after h.2)

  clock : (given before shown after : Spot → Trit) → IsClockBy IsSolution (nets_of flat) given before shown after
      → IsClockBy IsSolution (path_nets p) (pulled of given) (pulled of before) (pulled of shown) (pulled of after)
  clock given before shown after h =
      record {
        until = runs given settings_until_outputs before shown h.until;
        rest = runs given settings_after_outputs shown after h.rest;
      }

  trace : (before : Spot → Trit) (givens showns : List (Spot → Trit)) (after : Spot → Trit)
      → IsTraceBy IsSolution (nets_of flat) before givens showns after
      → IsTraceBy IsSolution (path_nets p) (pulled of before) (map (pulled of) givens) (map (pulled of) showns)
      (pulled of after)
  trace before [] [] after h = λ n. h (spot 0 (of n))
  trace before [] (s ∷ ss) after h = absurd h
  trace before (g ∷ gs) [] after h = absurd h
  trace before (g ∷ gs) (s ∷ ss) after h = (pulled of h.0, clock g before s h.0 h.1, trace h.0 gs ss after h.2)

pub flat_follows : FlatFollows
flat_follows p flat of numbering before givens showns after h = trace p flat of numbering before givens showns after h
