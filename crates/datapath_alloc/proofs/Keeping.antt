-- What was made lasts while a path grows.
use Rattle.std.proofs.Common.{ℕ, List, sym, subst}
use Rattle.std.specs.Prelude.{Contains}
use Rattle.std.proofs.lemmas.List.Elements.{Contains-append_left}
use Rattle.mp_base.specs.declared.op.Op.{Op}
use Rattle.nor_net.specs.declared.net.NetId.{NetId}
use Rattle.rtl_form.specs.declared.rtl.Rtl.{Rtl}
use Rattle.control_nor.specs.declared.names.Names.{Names}
use Rattle.control_nor.specs.Lowering.{Stands}
use Rattle.organelles.specs.declared.slices.Programmed.{Programmed}
use Rattle.path_form.specs.declared.path.Lift.{Lift}
use Rattle.path_values.specs.Allocated.{DrivenWord, InputWord, Placed, StoredWord}
use Rattle.datapath_making.specs.declared.making.Making.{Making}
use Rattle.datapath_making.specs.Growing.{Grows}
use Rattle.datapath_making.proofs.Keeping.{driven_lasts, input_lasts, placed_lasts, stored_lasts}

-- a path grew, and what has nets keeps them
pub record Keeps (old new : Making) : Type 0 where
  pub grows : Grows old new
  pub cells : (c : ℕ) (id : NetId) → Stands old.cell_words c id → Stands new.cell_words c id
  pub words : (e : ℕ) (id : NetId) → Stands old.words e id → Stands new.words e id
  pub pads : (k : ℕ) (id : NetId) → Stands old.pads k id → Stands new.pads k id

module _ (old new : Making) (k : Keeps old new) where
  pub lift_kept : (l : Lift) → Contains old.lifts l → Contains new.lifts l
  lift_kept l h = subst (λ ls. Contains ls l) (sym k.grows.lifts.1)
      (Contains-append_left old.lifts k.grows.lifts.0 l h)

  pub program_kept : (g : Programmed) → Contains old.slices.programs g → Contains new.slices.programs g
  program_kept g h = subst (λ gs. Contains gs g) (sym k.grows.programs.1)
      (Contains-append_left old.slices.programs k.grows.programs.0 g h)

  pub placed_kept : (op : Op) (args : List ℕ) (id : NetId) → Placed old.slices old.words op args id
      → Placed new.slices new.words op args id
  placed_kept op args id h =
      placed_lasts old new k.grows old.names old.words new.words k.words op args id h

  pub driven_kept : (r : Rtl) (names : Names) (c : ℕ) (id : NetId)
      → DrivenWord r old.slices old.casts names old.words c id
      → DrivenWord r new.slices new.casts names new.words c id
  driven_kept r names c id h = driven_lasts old new k.grows names old.words new.words k.words r c id h

  pub stored_kept : (r : Rtl) (names : Names) (c reset : ℕ) (id : NetId)
      → StoredWord r old.slices old.casts names old.words c reset id
      → StoredWord r new.slices new.casts names new.words c reset id
  stored_kept r names c reset id h = stored_lasts old new k.grows names old.words new.words k.words r c reset id h

  pub port_kept : (id pad : NetId) → InputWord old.slices.net id pad → InputWord new.slices.net id pad
  port_kept id pad h = input_lasts old new k.grows id pad h
