use Rattle.std.proofs.Common.{refl, ap}
use Rattle.std.proofs.lemmas.Result.{err_from_is_err_and}
use Rattle.cif_writer.specs.Texts.{file_text}
use Rattle.cif_emit.specs.Emittable.{chip_rects}
use Rattle.cif_emit.specs.Commands.{chip_commands}
use Rattle.cif_emit.proofs.Pieces.{nothing_taken, written_part, written_short, written_whole}
use Rattle.cif_emit.proofs.Sliced.{all_near, are_bands, made_drawable, made_drawn, made_of_chip}
use Rattle.cif_emit.proofs.stream.emit_to.Goals as goal

pub symbols_for-requires-clause-bands : goal.symbols_for-requires-clause-bands
symbols_for-requires-clause-bands g c = are_bands c.args.chip.now.fabric.rows c.bands_of.result c.bands_of.ensures

pub write_pieces-requires-clause-drawable : goal.write_pieces-requires-clause-drawable
write_pieces-requires-clause-drawable g c =
    made_drawable c.args.chip.now c.requires c.bands_of.result c.bands_of.ensures c.in_ok-symbols.symbols
    c.as_slice.result.now c.as_slice.ensures c.in_ok-symbols.ensures c.as_slice-2.result.now c.as_slice-2.ensures

pub returns-in_err-symbols-clause-taken : goal.returns-in_err-symbols-clause-taken
returns-in_err-symbols-clause-taken g c =
    let chip = c.args.chip.now in
    let rects = chip_rects chip in
    let b = c.bands_of.result in
    let are = are_bands chip.fabric.rows b c.bands_of.ensures in
    let exist = c.symbols_exist.ensures rects b are.usable are.some (all_near rects c.requires.corners) in
    let symbols = exist.0 in
    let p = err_from_is_err_and c.from_residual.result c.from_residual.ensures.1 in
    record {
      commands = chip_commands symbols chip.labels;
      formed = record {
        symbols = symbols;
        of_chip = made_of_chip chip c.requires b c.bands_of.ensures symbols symbols refl exist.1;
        are = refl;
      };
      drawn = c.commands_draw_the_chip.ensures rects chip.labels symbols
          (made_drawn chip c.requires b c.bands_of.ensures symbols symbols refl exist.1);
      taken = nothing_taken p.0 _ (chip_commands symbols chip.labels) c.from_residual.result p.1;
    }

pub returns-in_err-write_pieces-clause-taken : goal.returns-in_err-write_pieces-clause-taken
returns-in_err-write_pieces-clause-taken g c =
    let chip = c.args.chip.now in
    let symbols = c.as_slice.result.now in
    let labels = c.as_slice-2.result.now in
    let b = c.bands_of.result in
    let made = c.in_ok-symbols.symbols in
    let same = ap (λ ls. file_text (chip_commands symbols ls)) c.as_slice-2.ensures in
    let p = err_from_is_err_and c.from_residual-in_err-write_pieces.result
    c.from_residual-in_err-write_pieces.ensures.1 in
    record {
      commands = chip_commands symbols chip.labels;
      formed = record {
        symbols = symbols;
        of_chip = made_of_chip chip c.requires b c.bands_of.ensures made symbols c.as_slice.ensures
            c.in_ok-symbols.ensures;
        are = refl;
      };
      drawn = c.commands_draw_the_chip.ensures (chip_rects chip) chip.labels symbols
          (made_drawn chip c.requires b c.bands_of.ensures made symbols c.as_slice.ensures c.in_ok-symbols.ensures);
      taken = written_part _ _ (file_text (chip_commands symbols labels))
          (file_text (chip_commands symbols chip.labels)) same
          c.in_err-write_pieces.field-0.0 p.0 _ c.from_residual-in_err-write_pieces.result p.1
          c.in_err-write_pieces.ensures.put_off;
    }

pub returns-in_err-write_all-clause-taken : goal.returns-in_err-write_all-clause-taken
returns-in_err-write_all-clause-taken g c =
    let chip = c.args.chip.now in
    let symbols = c.as_slice.result.now in
    let labels = c.as_slice-2.result.now in
    let b = c.bands_of.result in
    let made = c.in_ok-symbols.symbols in
    let same = ap (λ ls. file_text (chip_commands symbols ls)) c.as_slice-2.ensures in
    let p = err_from_is_err_and c.from_residual-in_err-write_all.result
    c.from_residual-in_err-write_all.ensures.1 in
    record {
      commands = chip_commands symbols chip.labels;
      formed = record {
        symbols = symbols;
        of_chip = made_of_chip chip c.requires b c.bands_of.ensures made symbols c.as_slice.ensures
            c.in_ok-symbols.ensures;
        are = refl;
      };
      drawn = c.commands_draw_the_chip.ensures (chip_rects chip) chip.labels symbols
          (made_drawn chip c.requires b c.bands_of.ensures made symbols c.as_slice.ensures c.in_ok-symbols.ensures);
      taken = written_short _ _ (file_text (chip_commands symbols labels))
          (file_text (chip_commands symbols chip.labels)) same
          c.in_ok-write_pieces.field-0 _ c.as_slice-3.result.now c.write_pieces.new.waiting.bytes.items
          c.as_slice-3.ensures.value c.in_ok-write_pieces.ensures.put_off
          c.in_err-write_all.field-0.0 p.0 c.from_residual-in_err-write_all.result p.1 c.in_err-write_all.ensures.taken;
    }

pub returns-clause-taken : goal.returns-clause-taken
returns-clause-taken g c =
    let chip = c.args.chip.now in
    let symbols = c.as_slice.result.now in
    let labels = c.as_slice-2.result.now in
    let b = c.bands_of.result in
    let made = c.in_ok-symbols.symbols in
    let same = ap (λ ls. file_text (chip_commands symbols ls)) c.as_slice-2.ensures in
    record {
      commands = chip_commands symbols chip.labels;
      formed = record {
        symbols = symbols;
        of_chip = made_of_chip chip c.requires b c.bands_of.ensures made symbols c.as_slice.ensures
            c.in_ok-symbols.ensures;
        are = refl;
      };
      drawn = c.commands_draw_the_chip.ensures (chip_rects chip) chip.labels symbols
          (made_drawn chip c.requires b c.bands_of.ensures made symbols c.as_slice.ensures c.in_ok-symbols.ensures);
      taken = written_whole _ _ (file_text (chip_commands symbols labels))
          (file_text (chip_commands symbols chip.labels)) same
          c.in_ok-write_pieces.field-0 _ c.as_slice-3.result.now c.write_pieces.new.waiting.bytes.items
          c.as_slice-3.ensures.value c.in_ok-write_pieces.ensures.put_off
          c.in_ok-write_all.field-0 _ c.in_ok-write_all.ensures.taken;
    }
