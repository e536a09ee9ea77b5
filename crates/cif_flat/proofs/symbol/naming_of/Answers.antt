use Rattle.std.proofs.Common.{◌≡◌, subst, arith}
use Rattle.std.specs.Prelude.{slice_range}
use Rattle.cif_flat.specs.Naming.{IsNamingAt}
use Rattle.cif_flat.proofs.Named.{NoneNamed, none_named, none_more, named_here}
use Rattle.cif_flat.proofs.symbol.naming_of.Goals as goal

pub returns-in-Some : goal.returns-in-Some
returns-in-Some c =
    named_here c.args.items.now c.args.first c.loop-index.index (omega arith) (omega arith) c.args.end
    (omega arith) c.loop-index.invariant c.in-Some.naming
    (subst (IsNamingAt c.args.items.now c.loop-index.index) c.in-Some.is c.naming_at.ensures)

pub loop-index-preserved : goal.loop-index-preserved
loop-index-preserved c =
    none_more c.args.items.now c.args.first c.loop-index.index (omega arith) (omega arith) c.loop-index.invariant
    (subst (IsNamingAt c.args.items.now c.loop-index.index) c.in_default.is c.naming_at.ensures)

pub returns : goal.returns
returns c =
    let last : c.loop-index.index ≡ c.args.end = omega arith in
    none_named (slice_range c.args.items.now c.args.first c.args.end)
    (subst (λ n. NoneNamed (slice_range c.args.items.now c.args.first n)) last c.loop-index.invariant)
