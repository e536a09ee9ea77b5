-- What holds of a result where more is known.
use Rattle.std.proofs.Common.{Result, Ok, Err}
use Rattle.std.specs.Prelude.{IfOk, Option}
use Rattle.mp_base.specs.declared.refusal.NoMemory.{NoMemory}
use Rattle.lam_geom.specs.declared.place.Point.{Point}

pub if_ok_map : (P Q : Option Point → Type 0) (r : Result (Option Point) NoMemory) → ((o : Option Point) → P o → Q o)
    → IfOk r P → IfOk r Q
if_ok_map P Q (Ok o) f h = f o h
if_ok_map P Q (Err e) f h = tt
