use Rattle.std.proofs.Common.{List, ℕ, ◌≡◌, ◌+◌, ◌<◌, ◌++◌, ◌∙◌, sym, ap, refl, length, drop, get_or}
use Rattle.std.specs.Prelude.{map}
use Rattle.std.proofs.lemmas.Result.{err_from_is_err_and}
use Rattle.cif_form.specs.declared.command.Turn.{Turn}
use Rattle.cif_form.specs.Writing.{turn_text, turns_text}
use Rattle.cif_list.specs.declared.turn.ShortTurn.{ShortTurn}
use Rattle.cif_list.specs.Turning.{wide_turn}
use Rattle.cif_writer.proofs.Wrote.{going_on, going_cut, next_of}
use Rattle.cif_writer.proofs.view.write_short_turns.Goals as goal

-- the text of turns
abbrev all_text : List ShortTurn → List ℕ
all_text turns = turns_text (map wide_turn turns)

next_turn : (turns : List ShortTurn) (i : ℕ) (d : ShortTurn) (t : Turn) → t ≡ wide_turn (get_or turns i d)
    → i < length turns
    → all_text (drop i turns) ≡ turn_text t ++ all_text (drop (i + 1) turns)
next_turn turns i d t e lt =
    next_of all_text (λ x. turn_text (wide_turn x)) turns i d (λ x xs. refl) lt
    ∙ ap (λ x. turn_text x ++ all_text (drop (i + 1) turns)) (sym e)

pub returns-in_err-write_turn-clause-taken : goal.returns-in_err-write_turn-clause-taken
returns-in_err-write_turn-clause-taken g c =
    let turns : List ShortTurn = c.args.turns.now in
    let i : ℕ = c.loop-turn.turn-index in
    let next = next_turn turns i _ c.turn.result c.turn.ensures c.loop-turn-test.true in
    let p = err_from_is_err_and c.from_residual.result c.from_residual.ensures.1 in
    going_cut _ _ _ (all_text turns) (all_text (drop i turns)) _ (all_text (drop (i + 1) turns))
    c.in_err-write_turn.field-0.0 p.0 c.from_residual.result next p.1 c.loop-turn.invariant.going
    c.in_err-write_turn.ensures.taken

pub loop-turn-preserved : goal.loop-turn-preserved
loop-turn-preserved g c =
    let turns : List ShortTurn = c.args.turns.now in
    let i : ℕ = c.loop-turn.turn-index in
    let next = next_turn turns i _ c.turn.result c.turn.ensures c.loop-turn-test.true in
    record {
      going = going_on _ _ _ (all_text turns) (all_text (drop i turns)) _ (all_text (drop (i + 1) turns))
          c.in_ok-write_turn.field-0 next c.loop-turn.invariant.going c.in_ok-write_turn.ensures.taken;
      quiet = c.in_ok-write_turn.ensures.cause.ok ∙ c.loop-turn.invariant.quiet;
    }
