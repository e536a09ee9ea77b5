use Rattle.std.proofs.Common.{◌≡◌, [], inl, arith, length}
use Rattle.std.proofs.lemmas.List.{nil_from_length}
use Rattle.cif_flat.specs.Meeting.{was_met}
use Rattle.cif_flat.proofs.Found.{yes_of, no_of}
use Rattle.cif_flat.proofs.walker.Walker.is_repeated.Goals as goal

pub returns-then-len-gt0-clause-yes : goal.returns-then-len-gt0-clause-yes
returns-then-len-gt0-clause-yes c =
    yes_of c.is_met.result (was_met c.args.self.now.met c.args.name.now) (length c.args.self.now.levels.items)
    c.is_met.ensures (let n = c.len.ensures in omega (arith, n))

pub returns-then-len-gt0-clause-no : goal.returns-then-len-gt0-clause-no
returns-then-len-gt0-clause-no c =
    no_of c.is_met.result (was_met c.args.self.now.met c.args.name.now) (c.args.self.now.levels.items ≡ [])
    c.is_met.ensures

pub returns-clause-no : goal.returns-clause-no
returns-clause-no c =
    let n = c.len.ensures in inl (nil_from_length c.args.self.now.levels.items (omega (arith, n)))
