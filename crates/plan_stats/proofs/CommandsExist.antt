-- The chip of a plan has commands, and their text is a chip of the program.
use Rattle.std.proofs.Common.{refl}
use Rattle.slice_symbols.specs.Drawn.{SymbolsExist}
use Rattle.cif_emit.specs.Commands.{chip_commands}
use Rattle.cif_emit.specs.Emittable.{chip_rects}
use Rattle.cif_emit.proofs.Bands.{bands_exist}
use Rattle.cif_emit.proofs.Chips.{AreLaws, chip_emitted}
use Rattle.cif_emit.proofs.Sliced.{all_near, are_bands, made_drawn, made_of_chip}
use Rattle.plan_stats.specs.Stats.{PlansMakeChips}

pub plans_make : SymbolsExist → AreLaws → PlansMakeChips
plans_make exist laws p planned plan =
    let chip = planned.chip in
    let (bands, above) = bands_exist (chip.fabric).rows in
    let are = are_bands (chip.fabric).rows bands above in
    let (symbols, sharing) =
    exist (chip_rects chip) bands are.usable are.some (all_near (chip_rects chip) (plan.emittable).corners) in
    let commands = chip_commands symbols chip.labels in (
      commands,
      record {
        symbols = symbols;
        of_chip = made_of_chip chip plan.emittable bands above symbols symbols refl sharing;
        are = refl;
      },
      plan.makes commands (chip_emitted laws (chip_rects chip) chip.labels symbols
          (made_drawn chip plan.emittable bands above symbols symbols refl sharing)),
    )
