use Rattle.cif_emit.proofs.Chips.{chip_emitted}
use Rattle.cif_emit.proofs.laws.commands_draw_the_chip.Goals as goal

pub returns : goal.returns
returns c = chip_emitted (record {
  walk = c.walk_is_unique.ensures.squares;
  limit = c.walk_is_counted.ensures.limit;
})
