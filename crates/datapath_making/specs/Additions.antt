-- What a step adds at the ends of the lists of a path in the making.
use Rattle.std.specs.Prelude.{◌≡◌, ◌≢◌, ◌<◌, ◌≤◌, ◌+◌, ℕ, suc, List, [], ◌∷◌, ◌++◌, All, length, map}
use Rattle.nor_net.specs.declared.net.NetId.{NetId}
use Rattle.nor_net.specs.declared.net.Part.{Part}
use Rattle.nor_net.specs.declared.net.Part.TheVariants.{Input, Gate, Latch}
use Rattle.nor_net.specs.Shape.{gate_inputs}
use Rattle.organelles.specs.declared.slices.Chain.{Chain}
use Rattle.organelles.specs.declared.slices.Chain.TheVariants.{Up, Down}
use Rattle.organelles.specs.declared.slices.Programmed.{Programmed}
use Rattle.organelles.specs.Computing.{ChainIn}
use Rattle.organelles.specs.Tables.{net_at}
use Rattle.path_form.specs.declared.path.Cast.{Cast}
use Rattle.path_form.specs.declared.path.Lift.{Lift}
use Rattle.path_form.specs.Shape.{AreApart, chain_from, chain_to, slice_ends, times}
use Rattle.datapath_making.specs.declared.making.Making.{Making}
use Rattle.datapath_making.specs.Marking.{last_mark}
use Rattle.datapath_making.specs.Sizes.{columns, crossings}

pub record Addition : Type 0 where
  pub parts : List Part
  pub chains : List Chain
  pub programs : List Programmed
  pub casts : List Cast
  pub lifts : List Lift

-- these were added, and what tells names may have changed
pub record Adds (a : Addition) (old new : Making) : Type 0 where
  pub width : new.width ≡ old.width
  pub control : new.control ≡ old.control
  pub names : new.names ≡ old.names
  pub reset : new.reset ≡ old.reset
  pub marks : new.marks ≡ old.marks
  pub net : new.slices.net ≡ old.slices.net ++ a.parts
  pub chains : new.slices.chains ≡ old.slices.chains ++ a.chains
  pub programs : new.slices.programs ≡ old.slices.programs ++ a.programs
  pub casts : new.casts ≡ old.casts ++ a.casts
  pub lifts : new.lifts ≡ old.lifts ++ a.lifts
  pub cell_count : length new.cell_words ≡ length old.cell_words
  pub word_count : length new.words ≡ length old.words
  pub pad_count : length new.pads ≡ length old.pads
  pub guard_count : length new.guards ≡ length old.guards

-- the inputs among parts that stand behind so many nets
abbrev pub new_inputs : ℕ → List Part → List NetId
new_inputs at [] = []
new_inputs at (Input ∷ parts) = net_at at ∷ new_inputs (suc at) parts
new_inputs at (Gate inputs ∷ parts) = new_inputs (suc at) parts
new_inputs at (Latch phase source ∷ parts) = new_inputs (suc at) parts

-- a chain down comes from what was made before the last mark
abbrev pub IsReachedDown : Making → Chain → Type 0
IsReachedDown m (Up from to) = Unit {0}
IsReachedDown m (Down from to) = from.0 < (last_mark m).slices

pub record ChainFits (m : Making) (end : ℕ) (c : Chain) : Type 0 where
  pub within : ChainIn end c
  pub differs : (chain_from c).0 ≢ (chain_to c).0
  pub behind : length m.slices.net ≤ (chain_to c).0
  pub reached : IsReachedDown m c

pub record CastFits (m : Making) (c : Cast) : Type 0 where
  pub reached : c.control.0 < (last_mark m).control
  pub behind : length m.slices.net ≤ c.slice.0

pub record LiftFits (m : Making) (end : ℕ) (l : Lift) : Type 0 where
  pub slice : l.slice < m.width
  pub from : l.from.0 < end
  pub ahead : (last_mark m).control ≤ l.control.0

-- what is added, with these pads, may be added to m
pub record Fits (a : Addition) (pads : List NetId) (m : Making) : Type 0 where
  pub chains : All (ChainFits m (length m.slices.net + length a.parts)) a.chains
  pub programs : All (λ (p : Programmed). length m.slices.net ≤ p.net.0) a.programs
  pub casts : All (CastFits m) a.casts
  pub lifts : All (LiftFits m (length m.slices.net + length a.parts)) a.lifts
  pub lifts_apart : AreApart (map (λ (l : Lift). l.control) (m.lifts ++ a.lifts))
  pub entered : (n : ℕ)
      → times n (slice_ends pads (record { net = a.parts; chains = a.chains; programs = a.programs }) a.casts)
      ≡ times n (new_inputs (length m.slices.net) a.parts)

-- at most n nets, i inputs of gates, c columns and x crossings were added
pub record IsBounded (n i c x : ℕ) (old new : Making) : Type 0 where
  pub nets : length new.slices.net ≤ length old.slices.net + n
  pub inputs : gate_inputs new.slices.net ≤ gate_inputs old.slices.net + i
  pub columns : columns new ≤ columns old + c
  pub crossings : crossings new ≤ crossings old + x
