-- What is added for transfers, piece by piece.
use Rattle.std.specs.Prelude.{◌≡◌, ◌<◌, ◌+◌, ◌*◌, ℕ, suc, List, [], ◌∷◌, ◌++◌, Some, All, Contains, length, slice_get}
use Rattle.std.specs.Prelude.{slice_set}
use Rattle.std.specs.List.{AllZip}
use Rattle.nor_net.specs.declared.net.NetId.{NetId}
use Rattle.nor_net.specs.declared.net.Phase.TheVariants as phases
use Rattle.nor_net.specs.declared.net.Part.TheVariants as parts
use Rattle.rtl_form.specs.declared.rtl.Transfer.{Transfer}
use Rattle.path_form.specs.declared.path.Cast.{Cast}
use Rattle.path_values.specs.Allocated.{IsGate, IsGuard, IsTerm}
use Rattle.datapath_making.specs.declared.making.Guard.{Guard}
use Rattle.datapath_making.specs.declared.making.Making.{Making}
use Rattle.datapath_steps.specs.declared.transfers.Term.{Term}
use Rattle.datapath_steps.specs.declared.transfers.Terms.{Terms}
use Rattle.datapath_making.specs.Additions.{IsBounded}
use Rattle.datapath_making.specs.Growing.{Appends, Grows}
use Rattle.datapath_making.specs.Sizes.{cast_cost}
use Rattle.datapath_making.specs.WellMade.{IsGuardMade, IsWellMade}

-- nets and casts were added, at most so many: n nets, i inputs of gates, c columns and x crossings
pub record Continues (n i c x : ℕ) (old new : Making) : Type 0 where
  pub made : IsWellMade new
  pub grows : Grows old new
  pub bounded : IsBounded n i c x old new
  pub appends : Appends old.slices.net new.slices.net
  pub marks : new.marks ≡ old.marks
  pub cells : new.cell_words ≡ old.cell_words
  pub words : new.words ≡ old.words
  pub pads : new.pads ≡ old.pads
  pub lifts : new.lifts ≡ old.lifts

-- a gate was added
pub record IsGateMade (inputs : List NetId) (old new : Making) (id : NetId) : Type 0 where
  pub continues : Continues 1 (length inputs) 1 0 old new
  pub clear : new.clear ≡ old.clear
  pub number : id.0 ≡ length old.slices.net
  pub count : length new.slices.net ≡ suc (length old.slices.net)
  pub is_gate : IsGate new.slices.net id inputs

-- the guard of an expression, which was cast now or before
pub record IsGuardFound (e : ℕ) (old new : Making) (g : Guard) : Type 0 where
  pub continues : Continues 2 1 2 1 old new
  pub clear : new.clear ≡ old.clear
  pub is_guard : IsGuardMade new.slices.net new.casts old.names e g

-- the term of a transfer, and its guard
pub record IsTermMade (t : Transfer) (old new : Making) (made : Term) : Type 0 where
  pub continues : Continues 4 4 4 1 old new
  pub clear : new.clear ≡ old.clear
  pub is_term : IsTerm new.slices new.casts old.names old.words t made.net
  pub is_guard : IsGuard new.casts old.names t.guard made.guard
  pub guard_in : made.guard.0 < length new.slices.net

-- the terms of transfers, and their guards
pub record AreTerms (ts : List Transfer) (old new : Making) (made : Terms) : Type 0 where
  pub continues : Continues (4 * length ts) (4 * length ts) (4 * length ts) (length ts) old new
  pub clear : new.clear ≡ old.clear
  pub are_terms : AllZip (IsTerm new.slices new.casts old.names old.words) ts made.nets
  pub are_guards : AllZip (λ (t : Transfer) g. IsGuard new.casts old.names t.guard g) ts made.guards
  pub guards_in : All (λ (id : NetId). id.0 < length new.slices.net) made.guards

-- a net of the control was cast
pub record IsCastMade (control : NetId) (old new : Making) (id : NetId) : Type 0 where
  pub continues : Continues 1 0 1 1 old new
  pub clear : new.clear ≡ old.clear
  pub guards : new.guards ≡ old.guards
  pub count : length new.slices.net ≡ suc (length old.slices.net)
  pub number : id.0 ≡ length old.slices.net
  pub cast : Cast
  pub is_cast : Contains new.casts cast
  pub from : cast.control ≡ control
  pub to : cast.slice ≡ id

-- the cast of reset, which was made now or before
pub record IsClearFound (old new : Making) (id : NetId) : Type 0 where
  pub continues : Continues (cast_cost old.clear) 0 (cast_cost old.clear) (cast_cost old.clear) old new
  pub clear : new.clear ≡ Some id
  pub cast : Cast
  pub is_cast : Contains new.casts cast
  pub from : new.reset ≡ Some cast.control
  pub to : cast.slice ≡ id

-- the next value of a stored word: the hold term, the NOR of all terms, and the NOR of that and reset
pub record IsSourceMade (terms : Terms) (slave clear : NetId) (old new : Making) (source : NetId) : Type 0 where
  pub hold : NetId
  pub off : NetId
  pub continues : Continues 3 (length terms.guards + length terms.nets + 4) 3 0 old new
  pub cleared : new.clear ≡ old.clear
  pub is_hold : IsGate new.slices.net hold (slave ∷ terms.guards)
  pub is_off : IsGate new.slices.net off (terms.nets ++ hold ∷ [])
  pub is_source : IsGate new.slices.net source (off ∷ clear ∷ [])

-- a latch of phase A was added, with its data
pub record IsLatchMade (source : NetId) (old new : Making) (id : NetId) : Type 0 where
  pub continues : Continues 1 0 1 0 old new
  pub clear : new.clear ≡ old.clear
  pub number : id.0 ≡ length old.slices.net
  pub count : length new.slices.net ≡ suc (length old.slices.net)
  pub is_latch : slice_get new.slices.net id.0 ≡ Some (parts.Latch phases.A (Some source))

-- all but a latch of phase B is as it was, and that has its data now
pub record IsSlaveFed (latch source : NetId) (old new : Making) : Type 0 where
  pub made : IsWellMade new
  pub grows : Grows old new
  pub bounded : IsBounded 0 0 0 0 old new
  pub net : new.slices.net ≡ slice_set old.slices.net latch.0 (parts.Latch phases.B (Some source))
  pub marks : new.marks ≡ old.marks
  pub cells : new.cell_words ≡ old.cell_words
  pub words : new.words ≡ old.words
  pub pads : new.pads ≡ old.pads
  pub lifts : new.lifts ≡ old.lifts
  pub clear : new.clear ≡ old.clear

-- a master on the next value, and its negation, which feeds the slave
pub record IsMasterMade (slave source : NetId) (old new : Making) : Type 0 where
  pub first : Making
  pub middle : Making
  pub master : NetId
  pub negation : NetId
  pub is_master : IsLatchMade source old first master
  pub is_negation : IsGateMade (master ∷ []) first middle negation
  pub is_fed : IsSlaveFed slave negation middle new
