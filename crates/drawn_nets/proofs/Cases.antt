-- The equations of nets in one setting, case by case.
use Rattle.std.specs.Prelude.{◌≡◌, ◌↔◌, List, Some, All, Any}
use Rattle.mp_base.specs.declared.value.Trit.{Trit}
use Rattle.mp_base.specs.declared.value.Trit.TheVariants.{Zero, One}
use Rattle.nor_net.specs.declared.net.Phase.{Phase}
use Rattle.nor_net.specs.Elements.{Spot, Given, Nor, Latched, Joined, Low}
use Rattle.drawn_nets.specs.Law.{IsKind, NetSetting}

pub record IsNetSolution (s : NetSetting) (u : Spot → Trit) : Type 0 where
  pub input : (k : Spot) → IsKind s.nets k Given → u k ≡ s.given k
  pub lows : (k : Spot) → IsKind s.nets k Low → u k ≡ Zero
  pub joins : (k m : Spot) → IsKind s.nets k (Joined m) → u k ≡ u m
  pub gate_one : (k : Spot) (ins : List Spot) → IsKind s.nets k (Nor ins) → (u k ≡ One) ↔ All (λ i. u i ≡ Zero) ins
  pub gate_zero : (k : Spot) (ins : List Spot) → IsKind s.nets k (Nor ins) → (u k ≡ Zero) ↔ Any (λ i. u i ≡ One) ins
  pub takes : (k : Spot) (p : Phase) (d : Spot) → IsKind s.nets k (Latched p d) → s.phase ≡ Some p → u k ≡ u d
  pub keeps : (k : Spot) (p : Phase) (d : Spot) → IsKind s.nets k (Latched p d) → (s.phase ≡ Some p → ⊥)
      → u k ≡ s.before k
