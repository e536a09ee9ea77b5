use Rattle.std.proofs.Common.{◌∙◌, take, ℕ, List, inr, ap, subst}
use Rattle.std.proofs.Math.Seq.{take-length}
use Rattle.std.specs.Prelude.{Option, Result, Ok, Err, OnOk, OnErr}
use Rattle.outside.specs.Outside.{Files, WhereTold, Creates, Grows}
use Rattle.outside.specs.Piece.{TakesAll}
use Rattle.outside.specs.Transfer.{Holds, HoldsPart}
use Rattle.outside.proofs.Told.{told_map}
use Rattle.outside.proofs.FilesLemmas.{held_created, holds_created}
use Rattle.outside.proofs.transfer.store.Goals as goal

stored_all : {T E : Type 0} (name bytes : List ℕ) (x y z : Option Files) (r : Result T E)
    → WhereTold (Creates name) x y → TakesAll (Grows name) y z bytes r → OnOk r (WhereTold (Holds name bytes) x z)
stored_all name bytes x y z (Ok v) made t =
    holds_created name bytes x y z made
    (subst (λ b. WhereTold (Grows name b) y z) (ap (λ n. take n bytes) t.all ∙ take-length bytes) t.taken)
stored_all name bytes x y z (Err e) made t = tt

cut_short : {T E : Type 0} (name bytes : List ℕ) (x y z : Option Files) (r : Result T E) → WhereTold (Creates name) x y
    → TakesAll (Grows name) y z bytes r → OnErr r (WhereTold (HoldsPart name bytes) x z)
cut_short name bytes x y z (Ok v) made t = tt
cut_short name bytes x y z (Err e) made t =
    told_map _ _ x z (λ old new held. inr (t.count, t.cut, held))
    (holds_created name (take t.count bytes) x y z made t.taken)

pub append_all-requires : goal.append_all-requires
append_all-requires g c = held_created c.args.name.now _ _ c.in_ok-create.ensures.ok

pub returns-clause-stored : goal.returns-clause-stored
returns-clause-stored g c =
    stored_all c.args.name.now c.args.bytes.now _ _ _ _ c.in_ok-create.ensures.ok c.append_all.ensures.taken

pub returns-clause-cut : goal.returns-clause-cut
returns-clause-cut g c =
    cut_short c.args.name.now c.args.bytes.now _ _ _ _ c.in_ok-create.ensures.ok c.append_all.ensures.taken
