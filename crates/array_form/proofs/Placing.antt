-- What the marks of one placed net tie: equal roots, and the switches of its parts.
use Rattle.std.proofs.Common.{◌≡◌, ℕ, List, Option, Some, None, Bool, refl, sym, ◌∙◌, ap, subst, map}
use Rattle.std.specs.Prelude.{slice_get}
use Rattle.mp_base.proofs.Members.{member_contains, contains_member, map_member}
use Rattle.fabric.specs.declared.thing.Side.{Side}
use Rattle.nor_net.specs.declared.net.Phase.{Phase}
use Rattle.nor_net.specs.declared.net.NetId.{NetId}
use Rattle.nor_net.specs.declared.net.Part.{Part}
use Rattle.nor_net.specs.declared.net.Part.TheVariants.{Gate, Latch}
use Rattle.nor_net.specs.Elements.{Spot, spot, Element, Given, Nor, Latched, Joined, Low, Nets}
use Rattle.drawing.specs.Draws.{OfNet, Ground, Power, OfPhase, IsOwn}
use Rattle.array_form.specs.Named.{Tie, tap, tran, pull}
use Rattle.array_form.specs.Roots.{Root, at, alone, AreRoots, IsSwitchOf, no_switch, down_of, pass_of, up_of}
use Rattle.array_form.specs.Wires.{Wire, left, place, NetTie}
use Rattle.array_form.specs.Wires.{left_root, right_root, root, AreElements}
use Rattle.array_form.specs.Wires.NetTie.{gate_own, gate_ground, gate_pull, gate_input, latch_own, latch_data}
use Rattle.array_form.specs.Wires.NetTie.{latch_phase, stub_own}

-- the net of a root
spot_of : Root → Spot
spot_of (at (OfNet n)) = n
spot_of (at Ground) = place 0 0
spot_of (at Power) = place 0 0
spot_of (at (OfPhase p)) = place 0 0
spot_of (alone n) = n

left_spot : (n : Spot) (e : Option Element) → spot_of (left_root n e) ≡ n
unfolding spot_of
left_spot n None = refl
left_spot n (Some Given) = refl
left_spot n (Some (Nor inputs)) = refl
left_spot n (Some (Latched p source)) = refl
left_spot n (Some (Joined other)) = refl
left_spot n (Some Low) = refl

-- left lines with one root are one
pub left_once : (nets : Nets) (n m : Spot) → left_root n (nets n) ≡ left_root m (nets m) → n ≡ m
left_once nets n m e = sym (left_spot n (nets n)) ∙ ap spot_of e ∙ left_spot m (nets m)

-- what has a pull-up is a left line
abbrev pub IsPulled : (X : Type 0) → Tie (Wire X) → Type 0
IsPulled X (tap side w v) = Unit {0}
IsPulled X (tran g a b) = Unit {0}
IsPulled X (pull a) = (n : Spot) × (a ≡ left n)

pub net_pulled : (X : Type 0) (b : ℕ) (parts : List Part) (stub : ℕ → Bool) (t : Tie (Wire X))
    → NetTie X b parts stub t → IsPulled X t
net_pulled X b parts stub t (gate_own n ins e) = tt
net_pulled X b parts stub t (gate_ground n ins e) = tt
net_pulled X b parts stub t (latch_own n p d e) = tt
net_pulled X b parts stub t (latch_data n p d e) = tt
net_pulled X b parts stub t (stub_own n e s) = tt
net_pulled X b parts stub t (gate_pull n ins e) = (place b n, refl)
net_pulled X b parts stub t (gate_input n ins i e c) = tt
net_pulled X b parts stub t (latch_phase n p d e) = tt

module _ (X : Type 0) (nets : Nets) (root_of : Spot → Root) (rank : Spot → ℕ) (roots : AreRoots nets root_of rank)
    (others : X → Root)
    (b : ℕ) (parts : List Part) (stub : ℕ → Bool) (elements : AreElements nets b parts stub) where
  gate_left : (n : ℕ) (ins : List NetId) → slice_get parts n ≡ Some (Gate ins)
      → left_root (place b n) (nets (place b n)) ≡ at (OfNet (place b n))
  gate_left n ins e = ap (left_root (place b n)) (elements.gates n ins e)

  latch_left : (n : ℕ) (p : Phase) (d : NetId) → slice_get parts n ≡ Some (Latch p (Some d))
      → left_root (place b n) (nets (place b n)) ≡ at (OfNet (place b n))
  latch_left n p d e = ap (left_root (place b n)) (elements.latches n p d e)

  gate_right : (n : ℕ) (ins : List NetId) → slice_get parts n ≡ Some (Gate ins)
      → right_root root_of (nets (place b n)) ≡ at Ground
  gate_right n ins e = ap (right_root root_of) (elements.gates n ins e)

  latch_right : (n : ℕ) (p : Phase) (d : NetId) → slice_get parts n ≡ Some (Latch p (Some d))
      → right_root root_of (nets (place b n)) ≡ root_of (spot b d)
  latch_right n p d e = ap (right_root root_of) (elements.latches n p d e)

  own_root : (s : Spot) (e : Element) → nets s ≡ Some e → IsOwn (Some e) → root_of s ≡ at (OfNet s)
  own_root s e h own = roots.own s (subst IsOwn (sym h) own)

  -- a tap joins equal roots
  pub net_tapped : (side : Side) (w v : Wire X) → NetTie X b parts stub (tap side w v)
      → root X nets root_of others w ≡ root X nets root_of others v
  net_tapped side w v (gate_own n ins e) = gate_left n ins e
      ∙ sym (own_root (place b n) (Nor (map (spot b) ins)) (elements.gates n ins e) tt)
  net_tapped side w v (gate_ground n ins e) = gate_right n ins e
  net_tapped side w v (latch_own n p d e) = latch_left n p d e
      ∙ sym (own_root (place b n) (Latched p (spot b d)) (elements.latches n p d e) tt)
  net_tapped side w v (latch_data n p d e) = latch_right n p d e
  net_tapped side w v (stub_own n e s) = ap (left_root (place b n)) (elements.stubs n e s)
      ∙ sym (own_root (place b n) Given (elements.stubs n e s) tt)

  -- a switch is one of its parts
  pub net_switch : (t : Tie (Wire X)) → NetTie X b parts stub t
      → IsSwitchOf nets (Wire X) (root X nets root_of others) root_of t
  net_switch t (gate_own n ins e) = no_switch
  net_switch t (gate_ground n ins e) = no_switch
  net_switch t (latch_own n p d e) = no_switch
  net_switch t (latch_data n p d e) = no_switch
  net_switch t (stub_own n e s) = no_switch
  net_switch t (gate_pull n ins e) = up_of (place b n) (map (spot b) ins) (elements.gates n ins e) (gate_left n ins e)
  net_switch t (gate_input n ins i e c) =
      down_of (place b n) (spot b i) (map (spot b) ins) (elements.gates n ins e)
      (member_contains (map (spot b) ins) (spot b i) (map_member (spot b) ins i (contains_member ins i c)))
      refl (gate_left n ins e) (gate_right n ins e)
  net_switch t (latch_phase n p d e) =
      pass_of (place b n) (spot b d) p (elements.latches n p d e) refl (latch_left n p d e) (latch_right n p d e)
