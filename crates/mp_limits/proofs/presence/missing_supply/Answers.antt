use Rattle.std.proofs.Common.{ap, sym, ◌∙◌, List}
use Rattle.std.specs.List.{list_all}
use Rattle.mp_program.specs.declared.program.Def.{Def}
use Rattle.mp_rules.specs.Naming.{supplies}
use Rattle.mp_limits.specs.Finding.{defines}
use Rattle.mp_limits.proofs.Present.{missing, supplied}
use Rattle.mp_limits.proofs.presence.missing_supply.Goals as goal

pub returns-then-are_supplied : goal.returns-then-are_supplied
returns-then-are_supplied c =
    supplied c.args.program.now
    (ap (λ (ds : List Def). list_all (defines ds) supplies) (sym c.as_slice.ensures) ∙ sym c.are_supplied.ensures
    ∙ c.if-are_supplied.true)

pub returns-else-are_supplied : goal.returns-else-are_supplied
returns-else-are_supplied c =
    missing c.args.program.now
    (ap (λ (ds : List Def). list_all (defines ds) supplies) (sym c.as_slice.ensures) ∙ sym c.are_supplied.ensures
    ∙ c.if-are_supplied.false)
