-- The law for solutions.
use Rattle.std.proofs.Common.{◌≡◌, ℕ, List, Some, refl, sym, ◌∙◌, ap, inl, inr, ◌⊎◌}
use Rattle.mp_base.specs.declared.value.Trit.{Trit}
use Rattle.mp_base.specs.declared.value.Trit.TheVariants.{Zero, One}
use Rattle.mp_base.proofs.Values.{same_trit}
use Rattle.switch_net.specs.Laws.{GivesAlongReach}
use Rattle.switch_net.specs.Settled.{Setting, IsSolution}
use Rattle.nor_net.specs.declared.net.Phase.{Phase}
use Rattle.nor_net.specs.Elements.{Spot, Given, Nor, Latched, Low}
use Rattle.drawn_nets.specs.Law.{IsKind, AreFed, NetSetting, IsDriven, HeldBefore, SolutionsAreDrawn}
use Rattle.drawn_nets.proofs.Cases.{IsNetSolution}
use Rattle.drawing.specs.Draws.{Point, OfNet, OfPhase, Draws}
use Rattle.drawn_nets.proofs.Solutions.{is_solution}
use Rattle.drawn_nets.proofs.Local.{
  PhasesIn,
  IsOnCluster,
  gate_node,
  latch_node,
  zero_from,
  zero_to,
  one_from,
  one_to,
  driven_from,
  driven_to,
  off_from,
  off_to,
}

module _ (law : GivesAlongReach) (t : NetSetting) (s : Setting) (node : Point → ℕ) (isnet : AreFed t.nets)
    (dr : Draws s.channels t.nets node) (drv : IsDriven t node s.driver) (hb : HeldBefore t node s.before) where
  phases_in : (v : ℕ → Trit) → ((n : ℕ) (x : Trit) → s.driver n ≡ Some x → v n ≡ x) → PhasesIn t node v
  phases_in v d = record {
    on = λ p e. d (node (OfPhase p)) One (drv.phase_on p e);
    off = λ p e. d (node (OfPhase p)) Zero (drv.phase_off p e);
  }

  low_driver : (k : Spot) → IsKind t.nets k Low → s.driver (node (OfNet k)) ≡ Some Zero
  low_driver k h = ap s.driver (dr.lows k h) ∙ drv.ground

  -- a solution of the network gives one of the net
  pub to_net : (v : ℕ → Trit) → IsSolution s v → IsNetSolution t (λ k. v (node (OfNet k)))
  to_net v f = record {
    input = λ k h. f.driven (node (OfNet k)) (t.given k) (drv.input k h);
    lows = λ k h. f.driven (node (OfNet k)) Zero (low_driver k h);
    joins = λ k m h. ap v (dr.joins k m h);
    gate_one = λ k ins h. (
      λ e. one_to law t s node isnet dr drv v ph k ins h (node (OfNet k)) (gate_node refl)
          ((f.one (node (OfNet k)) (drv.gate k ins h)).0 e),
      λ z. (f.one (node (OfNet k)) (drv.gate k ins h)).1
          (one_from law t s node isnet dr drv v ph k ins h (node (OfNet k)) (gate_node refl) z),
    );
    gate_zero = λ k ins h. (
      λ e. zero_to law t s node isnet dr drv v ph k ins h (node (OfNet k)) (gate_node refl)
          ((f.zero (node (OfNet k)) (drv.gate k ins h)).0 e),
      λ z. (f.zero (node (OfNet k)) (drv.gate k ins h)).1
          (zero_from law t s node isnet dr drv v ph k ins h (node (OfNet k)) (gate_node refl) z),
    );
    takes = λ k p d h on. takes_at k p d h on (isnet.fed k p d h);
    keeps = λ k p d h off.
        same_trit (v (node (OfNet k))) (t.before k)
        (λ e. hb k p d h ∙ off_to law t s node isnet dr drv v ph k p d h Zero off
        ((f.zero (node (OfNet k)) (drv.latch k p d h)).0 e))
        (λ e. (f.zero (node (OfNet k)) (drv.latch k p d h)).1
        (off_from law t s node isnet dr drv v ph k p d h Zero off (sym (hb k p d h) ∙ e)))
        (λ e. hb k p d h ∙ off_to law t s node isnet dr drv v ph k p d h One off
        ((f.one (node (OfNet k)) (drv.latch k p d h)).0 e))
        (λ e. (f.one (node (OfNet k)) (drv.latch k p d h)).1
        (off_from law t s node isnet dr drv v ph k p d h One off (sym (hb k p d h) ∙ e)));
  }
    where
      ph : PhasesIn t node v
      ph = phases_in v f.driven

      by_driver : (k : Spot) (p : Phase) (d : Spot) → IsKind t.nets k (Latched p d) → t.phase ≡ Some p → (x : Trit)
          → s.driver (node (OfNet d)) ≡ Some x → v (node (OfNet k)) ≡ v (node (OfNet d))
      by_driver k p d h on x hd =
          same_trit (v (node (OfNet k))) x
          (λ e. driven_to law t s node isnet dr drv v ph k p d h Zero on x hd
          ((f.zero (node (OfNet k)) (drv.latch k p d h)).0 e))
          (λ e. (f.zero (node (OfNet k)) (drv.latch k p d h)).1
          (driven_from law t s node isnet dr drv v ph k p d h Zero on x hd e))
          (λ e. driven_to law t s node isnet dr drv v ph k p d h One on x hd
          ((f.one (node (OfNet k)) (drv.latch k p d h)).0 e))
          (λ e. (f.one (node (OfNet k)) (drv.latch k p d h)).1
          (driven_from law t s node isnet dr drv v ph k p d h One on x hd e))
          ∙ sym (f.driven (node (OfNet d)) x hd)

      takes_at : (k : Spot) (p : Phase) (d : Spot) → IsKind t.nets k (Latched p d) → t.phase ≡ Some p
          → ((ins : List Spot) × IsKind t.nets d (Nor ins)) ⊎ IsKind t.nets d Given ⊎ IsKind t.nets d Low
          → v (node (OfNet k)) ≡ v (node (OfNet d))
      takes_at k p d h on (inr (inl i)) = by_driver k p d h on (t.given d) (drv.input d i)
      takes_at k p d h on (inr (inr w)) = by_driver k p d h on Zero (low_driver d w)
      takes_at k p d h on (inl g) =
          let near : IsOnCluster law t s node isnet dr drv v ph d (node (OfNet k)) = latch_node k p h on refl in
          same_trit (v (node (OfNet k))) (v (node (OfNet d)))
          (λ e. (f.zero (node (OfNet d)) (drv.gate d g.0 g.1)).1
          (zero_from law t s node isnet dr drv v ph d g.0 g.1 (node (OfNet d)) (gate_node refl)
          (zero_to law t s node isnet dr drv v ph d g.0 g.1 (node (OfNet k)) near
          ((f.zero (node (OfNet k)) (drv.latch k p d h)).0 e))))
          (λ e. (f.zero (node (OfNet k)) (drv.latch k p d h)).1
          (zero_from law t s node isnet dr drv v ph d g.0 g.1 (node (OfNet k)) near
          (zero_to law t s node isnet dr drv v ph d g.0 g.1 (node (OfNet d)) (gate_node refl)
          ((f.zero (node (OfNet d)) (drv.gate d g.0 g.1)).0 e))))
          (λ e. (f.one (node (OfNet d)) (drv.gate d g.0 g.1)).1
          (one_from law t s node isnet dr drv v ph d g.0 g.1 (node (OfNet d)) (gate_node refl)
          (one_to law t s node isnet dr drv v ph d g.0 g.1 (node (OfNet k)) near
          ((f.one (node (OfNet k)) (drv.latch k p d h)).0 e))))
          (λ e. (f.one (node (OfNet k)) (drv.latch k p d h)).1
          (one_from law t s node isnet dr drv v ph d g.0 g.1 (node (OfNet k)) near
          (one_to law t s node isnet dr drv v ph d g.0 g.1 (node (OfNet d)) (gate_node refl)
          ((f.one (node (OfNet d)) (drv.gate d g.0 g.1)).0 e))))

pub law_holds : GivesAlongReach → SolutionsAreDrawn
law_holds law t s node v isnet dr drv hb f = is_solution t (λ k. v (node (OfNet k)))
    (to_net law t s node isnet dr drv hb v f)
