-- What holds of a path in the making after each step.
use Rattle.std.specs.Prelude.{◌≡◌, ◌≢◌, ◌<◌, ℕ, List, [], ◌∷◌, Option, Some, None, false, if◌then◌else◌, All, Contains}
use Rattle.std.specs.Prelude.{length, map, slice_get}
use Rattle.nor_net.specs.declared.net.NetId.{NetId}
use Rattle.nor_net.specs.declared.net.Phase.{Phase}
use Rattle.nor_net.specs.declared.net.Part.{Part}
use Rattle.nor_net.specs.declared.net.Part.TheVariants.{Input, Latch}
use Rattle.organelles.specs.declared.slices.SliceNet.{SliceNet}
use Rattle.organelles.specs.Computing.{ChainIn}
use Rattle.control_nor.specs.declared.names.Names.{Names}
use Rattle.control_nor.specs.Lowering.{Stands}
use Rattle.path_form.specs.declared.path.Cast.{Cast}
use Rattle.path_form.specs.declared.path.Lift.{Lift}
use Rattle.path_form.specs.Shape.{AreApart, chain_from, chain_to, is_input, slice_ends, times}
use Rattle.path_values.specs.Allocated.{IsGate, IsGuard}
use Rattle.datapath_making.specs.declared.making.Guard.{Guard}
use Rattle.datapath_making.specs.declared.making.Making.{Making}
use Rattle.datapath_making.specs.Marking.{AreMarks}

-- those that are there
abbrev pub present : List (Option NetId) → List NetId
present [] = []
present (None ∷ entries) = present entries
present (Some id ∷ entries) = id ∷ present entries

-- a latch's data is a net, and one of the pads where it is an input
pub record IsLatched (net : List Part) (pads : List NetId) (source : NetId) : Type 0 where
  pub within : source.0 < length net
  pub pad : slice_get net source.0 ≡ Some Input → 0 < times source.0 pads

-- each input has its value from one pad, chain, cast or program, and only pads feed latches
pub record AreEntered (pads : List NetId) (s : SliceNet) (casts : List Cast) : Type 0 where
  pub once : (n : ℕ) → times n (slice_ends pads s casts) ≡ (if is_input (slice_get s.net n) then 1 else 0)
  pub latches : (n : ℕ) (phase : Phase) (source : NetId) → slice_get s.net n ≡ Some (Latch phase (Some source))
      → IsLatched s.net pads source

-- what joins nets joins those of a path of w slices, with a control of c nets
pub record AreJoined (w c : ℕ) (s : SliceNet) (casts : List Cast) (lifts : List Lift) : Type 0 where
  pub chains_in : All (ChainIn (length s.net)) s.chains
  pub ends_differ : All (λ k. (chain_from k).0 ≢ (chain_to k).0) s.chains
  pub casts_in : All (λ (k : Cast). k.control.0 < c) casts
  pub lifts_in : All (λ (l : Lift). (l.slice < w) × (l.from.0 < length s.net)) lifts
  pub lifts_apart : AreApart (map (λ (l : Lift). l.control) lifts)

-- words have nets, and cells each their own, which is no input
pub record AreNamed (net : List Part) (cells words : List (Option NetId)) : Type 0 where
  pub words_in : (e : ℕ) (id : NetId) → Stands words e id → id.0 < length net
  pub cells_in : (c : ℕ) (id : NetId) → Stands cells c id → id.0 < length net
  pub cells_made : (c : ℕ) (id : NetId) → Stands cells c id → is_input (slice_get net id.0) ≡ false
  pub cells_apart : (c d : ℕ) (id : NetId) → Stands cells c id → Stands cells d id → c ≡ d

-- the net of a guard's cast, and its negation
pub record IsGuardMade (net : List Part) (casts : List Cast) (names : Names) (expr : ℕ) (g : Guard) : Type 0 where
  pub is_cast : IsGuard casts names expr g.cast
  pub is_off : IsGate net g.off (g.cast ∷ [])

-- guards and reset are cast
pub record AreCast (m : Making) : Type 0 where
  pub count : length m.guards ≡ length m.names.exprs
  pub guards : (e : ℕ) (g : Guard) → slice_get m.guards e ≡ Some (Some g)
      → IsGuardMade m.slices.net m.casts m.names e g
  pub clear : (id : NetId) → m.clear ≡ Some id
      → (c : Cast) × Contains m.casts c × (m.reset ≡ Some c.control) × (c.slice ≡ id)

-- what is made so far fits together
pub record IsWellMade (m : Making) : Type 0 where
  pub entered : AreEntered (present m.pads) m.slices m.casts
  pub joined : AreJoined m.width (length m.control) m.slices m.casts m.lifts
  pub named : AreNamed m.slices.net m.cell_words m.words
  pub cast : AreCast m
  pub marks : AreMarks m
