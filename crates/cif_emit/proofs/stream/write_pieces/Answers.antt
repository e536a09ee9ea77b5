use Rattle.std.proofs.Common.{◌∙◌, subst, Option}
use Rattle.std.proofs.lemmas.Result.{err_from_is_err_and}
use Rattle.cif_form.specs.declared.command.Command.{Command}
use Rattle.cif_writer.specs.Texts.{file_text}
use Rattle.cif_emit.specs.Commands.{chip_commands}
use Rattle.cif_emit.specs.Rest.{rest, Gives}
use Rattle.cif_emit.proofs.Pieces.{command_waits, piece_written, piece_cut, stopped}
use Rattle.cif_emit.proofs.stream.write_pieces.Goals as goal

pub returns-in_err-command-clause-put_off : goal.returns-in_err-command-clause-put_off
returns-in_err-command-clause-put_off g c =
    let symbols = c.args.symbols.now in
    let labels = c.args.labels.now in
    let text = file_text (chip_commands symbols labels) in
    let p = err_from_is_err_and c.from_residual.result c.from_residual.ensures.1 in
    stopped _ _ text c.loop-command.waiting.bytes.items p.0 _ (rest c.loop-command.cursor symbols labels)
    c.from_residual.result p.1 c.loop-command.invariant.ahead

pub returns-in_err-put_off-clause-put_off : goal.returns-in_err-put_off-clause-put_off
returns-in_err-put_off-clause-put_off g c =
    let symbols = c.args.symbols.now in
    let labels = c.args.labels.now in
    let text = file_text (chip_commands symbols labels) in
    let p = err_from_is_err_and c.from_residual-in_err-put_off.result c.from_residual-in_err-put_off.ensures.1 in
    stopped _ _ text c.loop-command.waiting.bytes.items p.0 _ (rest c.loop-command.cursor symbols labels)
    c.from_residual-in_err-put_off.result p.1 c.loop-command.invariant.ahead

pub returns-in_err-write_piece-clause-put_off : goal.returns-in_err-write_piece-clause-put_off
returns-in_err-write_piece-clause-put_off g c =
    let symbols = c.args.symbols.now in
    let labels = c.args.labels.now in
    let text = file_text (chip_commands symbols labels) in
    let left = rest c.loop-command.cursor symbols labels in
    let more = rest c.next.new.self symbols labels in
    let P : Option Command → Type 0 = λ o. Gives left o more in
    let given = subst P c.in-Some.is c.in_ok-command.ensures.gives in
    let waits = c.put_off.new.waiting.bytes.items in
    let ahead = command_waits _ _ text c.loop-command.waiting.bytes.items c.in-Some.command more left waits given.1
    c.in_ok-put_off.ensures c.loop-command.invariant.ahead in
    let p = err_from_is_err_and c.from_residual-in_err-write_piece.result
    c.from_residual-in_err-write_piece.ensures.1 in
    piece_cut _ _ text waits c.in_err-write_piece.field-0.0 p.0 _ _ _ (file_text more)
    c.from_residual-in_err-write_piece.result p.1 ahead c.in_err-write_piece.ensures.put_off

pub loop-command-preserved : goal.loop-command-preserved
loop-command-preserved g c =
    let symbols = c.args.symbols.now in
    let labels = c.args.labels.now in
    let text = file_text (chip_commands symbols labels) in
    let left = rest c.loop-command.cursor symbols labels in
    let more = rest c.next.new.self symbols labels in
    let P : Option Command → Type 0 = λ o. Gives left o more in
    let given = subst P c.in-Some.is c.in_ok-command.ensures.gives in
    let waits = c.put_off.new.waiting.bytes.items in
    let ahead = command_waits _ _ text c.loop-command.waiting.bytes.items c.in-Some.command more left waits given.1
    c.in_ok-put_off.ensures c.loop-command.invariant.ahead in
    record {
      ahead = piece_written _ _ text waits c.in_ok-write_piece.field-0 _ _ (file_text more) ahead
          c.in_ok-write_piece.ensures.put_off;
      quiet = c.in_ok-write_piece.ensures.cause.ok ∙ c.loop-command.invariant.quiet;
      inside = c.in_ok-command.ensures.inside;
    }
