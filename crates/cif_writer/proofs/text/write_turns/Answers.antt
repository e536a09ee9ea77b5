use Rattle.std.proofs.Common.{◌∙◌, ap}
use Rattle.std.proofs.lemmas.Result.{err_from_is_err_and}
use Rattle.cif_form.specs.Writing.{turns_text}
use Rattle.cif_writer.proofs.Wrote.{going_on, going_cut}
use Rattle.cif_writer.proofs.text.write_turns.Goals as goal

pub returns-in_err-write_turn-clause-taken : goal.returns-in_err-write_turn-clause-taken
returns-in_err-write_turn-clause-taken g c =
    let p = err_from_is_err_and c.from_residual.result c.from_residual.ensures.1 in
    going_cut _ _ _ (turns_text c.args.turns.now) (turns_text c.loop-turn.turn-iterator) _ (turns_text c.next.new.self)
    c.in_err-write_turn.field-0.0 p.0 c.from_residual.result
    (ap turns_text c.in-Some.ensures.steps) p.1 c.loop-turn.invariant.going c.in_err-write_turn.ensures.taken

pub loop-turn-preserved : goal.loop-turn-preserved
loop-turn-preserved g c = record {
  going = going_on _ _ _ (turns_text c.args.turns.now) (turns_text c.loop-turn.turn-iterator) _
      (turns_text c.next.new.self)
      c.in_ok-write_turn.field-0
      (ap turns_text c.in-Some.ensures.steps) c.loop-turn.invariant.going c.in_ok-write_turn.ensures.taken;
  quiet = c.in_ok-write_turn.ensures.cause.ok ∙ c.loop-turn.invariant.quiet;
}
