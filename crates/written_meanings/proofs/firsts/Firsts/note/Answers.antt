use Rattle.std.proofs.Common.{◌∙◌, sym, ap}
use Rattle.std.specs.Prelude.{is_some, not}
use Rattle.written_meanings.proofs.FirstNumbers.{name_put, name_had}
use Rattle.written_meanings.proofs.firsts.Firsts.note.Goals as goal

pub returns-in_ok-insert : goal.returns-in_ok-insert
returns-in_ok-insert c names count holds =
    let absent = c.is_none.ensures ∙ ap not c.if-is_none.true in
    name_put names c.args.self.now (record { numbers = c.insert.new.self }) c.args.name c.args.number
    c.in_ok-insert.ensures.updates (ap is_some (sym c.number.ensures) ∙ absent) count holds

pub returns-else-is_none : goal.returns-else-is_none
returns-else-is_none c names count holds =
    name_had names c.args.self.now c.args.name.now
    (ap is_some (sym c.number.ensures) ∙ c.is_none.ensures ∙ ap not c.if-is_none.false) holds
