use Rattle.std.proofs.Common.{ap, sym, ◌∙◌}
use Rattle.std.specs.List.{list_any}
use Rattle.mp_program.specs.Names.{is_reset}
use Rattle.mp_limits.proofs.Present.{no_reset_needed, stored_earliest}
use Rattle.mp_limits.proofs.presence.without_reset.Goals as goal

pub returns-then-has_reset : goal.returns-then-has_reset
returns-then-has_reset c =
    no_reset_needed c.args.program.now
    (ap (list_any is_reset) (sym c.as_slice.ensures) ∙ sym c.has_reset.ensures ∙ c.if-has_reset.true)

pub returns-else-has_reset : goal.returns-else-has_reset
returns-else-has_reset c =
    stored_earliest c.args.program.now c.stored.result
    (ap (list_any is_reset) (sym c.as_slice.ensures) ∙ sym c.has_reset.ensures ∙ c.if-has_reset.false) c.stored.ensures
