-- What the wires of placed nets stand for.
use Rattle.std.specs.Prelude.{◌≡◌, ℕ, ◌<◌, List, Some, Contains}
use Rattle.lam_geom.specs.Chains.{Chain}
use Rattle.nor_net.specs.declared.net.Phase.{Phase}
use Rattle.nor_net.specs.Elements.{Spot, Nor, Latched, Joined, Low, Nets}
use Rattle.drawing.specs.Draws.{Point, OfNet, Ground, OfPhase, IsOwn, HasOwnNode}
use Rattle.array_form.specs.Named.{Tie, tap, tran, pull, Joins, Speaks}

-- what a wire stands for in the end: a point with a node of its own, or the pull-up of no net
pub data Root : Type 0 where
  at : Point → Root
  alone : Spot → Root

-- the root of each net: its own, that of the net it is joined to, or ground. Joins end, since a rank falls along
-- them.
pub record AreRoots (nets : Nets) (root_of : Spot → Root) (rank : Spot → ℕ) : Type 0 where
  pub own : (n : Spot) → IsOwn (nets n) → root_of n ≡ at (OfNet n)
  pub lows : (n : Spot) → nets n ≡ Some Low → root_of n ≡ at Ground
  pub joins : (n m : Spot) → nets n ≡ Some (Joined m) → root_of n ≡ root_of m
  pub falls : (n m : Spot) → nets n ≡ Some (Joined m) → rank m < rank n

-- Wires with a root for each, and a wire for each root. Taps join equal roots, and lead from each wire to that of
-- its root.
pub record AreRooted (W : Type 0) (In : W → Type 0) (T : Tie W → Type 0) (root : W → Root) (hub : Root
    → W) : Type 0 where
  pub speaks : (t : Tie W) → T t → Speaks W In t
  pub tapped : (w v : W) → Joins W T w v → root w ≡ root v
  pub reach : (w : W) → In w → Chain (Joins W T) w (hub (root w)) × In (hub (root w)) × (root (hub (root w)) ≡ root w)

-- the switches are those of the nets, by their roots
pub data IsSwitchOf (nets : Nets) (W : Type 0) (root : W → Root) (root_of : Spot → Root) : Tie W → Type 0 where
  no_switch : {side : _} {w v : W} → IsSwitchOf nets W root root_of (tap side w v)
  down_of : {g a b : W} (n i : Spot) (inputs : List Spot) → nets n ≡ Some (Nor inputs) → Contains inputs i
      → root g ≡ root_of i → root a ≡ at (OfNet n) → root b ≡ at Ground
      → IsSwitchOf nets W root root_of (tran g a b)
  pass_of : {g a b : W} (n source : Spot) (p : Phase) → nets n ≡ Some (Latched p source) → root g ≡ at (OfPhase p)
      → root a ≡ at (OfNet n) → root b ≡ root_of source
      → IsSwitchOf nets W root root_of (tran g a b)
  up_of : {a : W} (n : Spot) (inputs : List Spot) → nets n ≡ Some (Nor inputs) → root a ≡ at (OfNet n)
      → IsSwitchOf nets W root root_of (pull a)
  lone_of : {a : W} (n : Spot) → root a ≡ alone n → IsSwitchOf nets W root root_of (pull a)

pub record AreSwitchesOf (nets : Nets) (W : Type 0) (T : Tie W → Type 0) (root : W → Root) (root_of : Spot
    → Root) : Type 0 where
  pub only : (t : Tie W) → T t → IsSwitchOf nets W root root_of t
  pub pull_downs : (n i : Spot) (inputs : List Spot) → nets n ≡ Some (Nor inputs) → Contains inputs i
      → (g : W) × (a : W) × (b : W) × T (tran g a b) × (root g ≡ root_of i) × (root a ≡ at (OfNet n))
      × (root b ≡ at Ground)
  pub pull_ups : (n : Spot) (inputs : List Spot) → nets n ≡ Some (Nor inputs)
      → (a : W) × T (pull a) × (root a ≡ at (OfNet n))
  pub passes : (n source : Spot) (p : Phase) → nets n ≡ Some (Latched p source)
      → (g : W) × (a : W) × (b : W) × T (tran g a b) × (root g ≡ at (OfPhase p)) × (root a ≡ at (OfNet n))
      × (root b ≡ root_of source)
  pub one_pull_up : (a b : W) → T (pull a) → T (pull b) → root a ≡ root b → a ≡ b

-- each point with a node of its own has a wire, and power's is power
pub record AreHubs (nets : Nets) (W : Type 0) (In : W → Type 0) (root : W → Root) (hub : Root → W) : Type 0 where
  pub each : (p : Point) → HasOwnNode nets p → In (hub (at p)) × (root (hub (at p)) ≡ at p)
