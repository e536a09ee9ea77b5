-- What nets show clock by clock, by their values in six settings, each with inputs of its own.
use Rattle.std.specs.Prelude.{◌≡◌, ℕ, List, [], ◌∷◌, Option, map}
use Rattle.mp_base.specs.declared.value.Trit.{Trit}
use Rattle.mp_base.specs.declared.pad.Pad.{Pad}
use Rattle.nor_net.specs.declared.net.Phase.{Phase}
use Rattle.nor_net.specs.Elements.{Spot, Nets}
use Rattle.nor_net.specs.Settled as nor
use Rattle.nor_net.specs.Clock.{settings_until_outputs, settings_after_outputs}
use Rattle.drawn_nets.specs.Circuits.{AreGiven}

-- with this phase on and these inputs the nets go from the values before to those after
pub record NetSettlesTo (net : Nets) (pads : List Pad) (ins : List (List Spot)) (words : List ℕ)
    (phase : Option Phase) (before after : Spot → Trit) : Type 0 where
  pub inputs : Spot → Trit
  pub given : AreGiven inputs pads words ins
  pub settled : nor.IsSolution (record { nets = net; phase = phase; given = inputs; before = before }) after

abbrev pub NetRunsTo : Nets → List Pad → List (List Spot) → List ℕ → List (Option Phase) → (Spot → Trit)
    → (Spot → Trit) → Type 0
NetRunsTo net pads ins words [] before after = (k : Spot) → after k ≡ before k
NetRunsTo net pads ins words (p ∷ ps) before after =
    (between : Spot → Trit) × NetSettlesTo net pads ins words p before between
    × NetRunsTo net pads ins words ps between after

-- one clock: `ins` and `outs` are the nets of the bits of each pad
pub record IsNetClock (net : Nets) (pads : List Pad) (ins outs : List (List Spot)) (words : List ℕ)
    (before : Spot → Trit) (shown : List (List Trit)) (after : Spot → Trit) : Type 0 where
  pub values : Spot → Trit
  pub until : NetRunsTo net pads ins words settings_until_outputs before values
  pub shows : shown ≡ map (λ nets. map values nets) outs
  pub rest : NetRunsTo net pads ins words settings_after_outputs values after

abbrev pub IsNetTrace : Nets → List Pad → List (List Spot) → List (List Spot) → (Spot → Trit) → List (List ℕ)
    → List (List (List Trit)) → (Spot → Trit) → Type 0
IsNetTrace net pads ins outs before [] [] after = (k : Spot) → after k ≡ before k
IsNetTrace net pads ins outs before (words ∷ inputs) (shown ∷ outputs) after =
    (between : Spot → Trit) × IsNetClock net pads ins outs words before shown between
    × IsNetTrace net pads ins outs between inputs outputs after
IsNetTrace net pads ins outs before _ _ after = ⊥
