-- Results that hold a chip of a program.
use Rattle.std.proofs.Common.{ℕ, ◌+◌, ◌*◌, ◌≤◌, ◌∙◌, arith, List, length, ap, sym, subst, Result, Ok, Err, IfOk, Vec}
use Rattle.std.specs.Prelude.{All}
use Rattle.std.proofs.lemmas.List.{length-map}
use Rattle.std.proofs.lemmas.List.Elements.{All-same}
use Rattle.std.specs.declared.alloc.Global.{Global}
use Rattle.mp_base.specs.declared.refusal.NoMemory.{NoMemory}
use Rattle.cif_form.specs.declared.command.Command.{Command}
use Rattle.cif_form.specs.declared.command.Item.{Item}
use Rattle.cif_form.specs.Text.{Reads}
use Rattle.cif_writer.specs.Texts.{commands_of, file_text}
use Rattle.mp_program.specs.declared.program.Program.{Program}
use Rattle.mp_program.specs.Weight.{weight}
use Rattle.fabric.specs.declared.chip.Chip.{Chip}
use Rattle.rtl_form.specs.declared.rtl.Rtl.{Rtl}
use Rattle.rtl_form.specs.Cost.{cost}
use Rattle.process_plan.specs.Same.{IsSame}
use Rattle.cif_emit.specs.Commands.{chip_commands}
use Rattle.cif_emit.specs.Emittable.{chip_rects, IsPlainLabel}
use Rattle.cif_emit.specs.Emitted.{IsEmitted}
use Rattle.compile_laws.specs.Laws.{IsBounded, IsSmallPlan, IsSmallChipOf, MakesChips, most_rects}
use Rattle.compile_laws.proofs.Written.{ReadingIsUnique, WrittenIsRead, same_commands}
use Rattle.chip_text.specs.Texts.{IsPlain, IsPlainChipOf, IsTextOf, most_drawn}
use Rattle.chip_text.proofs.Plain.{plain_commands}
use Rattle.chip_text.proofs.Few.{few_commands}

few_of_weight : (rects labels cost heavy width : ℕ) → rects ≤ most_rects cost width → labels ≤ 64 * cost + 5
    → cost ≤ heavy → rects + labels ≤ most_drawn heavy width
few_of_weight rects labels cost heavy width a b c = grind (arith, a, b, c)

module _ (p : Program) where
  -- a plan of the program's transfers has no more than its weight says
  pub drawn_few : (r : Rtl) (chip : Chip) → IsSame p r → IsSmallPlan r (chip_rects chip) chip.labels
      → length (chip_rects chip) + length chip.labels ≤ most_drawn (weight p) p.width
  drawn_few r chip same plan =
      few_of_weight (length (chip_rects chip)) (length chip.labels) (cost r) (weight p) p.width
      (subst (λ n. length (chip_rects chip) ≤ most_rects (cost r) n) same.width plan.few) plan.few_labels same.cost

  -- a plan of the program's transfers, that commands may draw
  pub made : (r : Rtl) (chip : Chip) → MakesChips p → IsSame p r → IsSmallPlan r (chip_rects chip) chip.labels
      → IsBounded r (chip_rects chip) chip.labels → (commands : List Command)
      → IsEmitted (chip_rects chip) chip.labels commands
      → IsSmallChipOf p (file_text commands)
  made r chip make same plan bounded commands emitted =
      make r (chip_rects chip) chip.labels commands same plan bounded emitted

  module _ (reads : WrittenIsRead) (one : ReadingIsUnique) (chip : Chip) (names : All IsPlainLabel chip.labels)
      (few : length (chip_rects chip) + length chip.labels ≤ most_drawn (weight p) p.width) where
    -- what the text reads as are the chip's commands
    plain_chip : (text : List ℕ) → IsTextOf chip text → IsSmallChipOf p text → IsPlainChipOf p text
    plain_chip text told small =
        let draws = (small.chip).draws in
        let commands = told.commands in
        let symbols = (told.formed).symbols in
        let same = same_commands reads one commands draws.commands (told.drawn).fit
        (subst (λ t. Reads 0 t draws.commands) told.is draws.read) in
        record {
          small = small;
          few =
              let size = few_commands chip commands told.formed in
              let there = ap length same in
              let items = length-map draws.commands (λ (i : Item). i.command) in
              omega (arith, few, size, there, items);
          plain = All-same IsPlain (commands_of draws.commands) (chip_commands symbols chip.labels)
              (same ∙ (told.formed).are) (plain_commands symbols chip.labels names);
          short = told.short;
        }

    -- a text that is one of a chip
    pub in_text : (result : Result (Vec ℕ Global) NoMemory) → IfOk result (λ t. IsTextOf chip t.items)
        → ((commands : List Command) → IsEmitted (chip_rects chip) chip.labels commands
        → IsSmallChipOf p (file_text commands))
        → IfOk result (λ t. IsPlainChipOf p t.items)
    in_text (Ok t) told chips =
        plain_chip t.items told (subst (IsSmallChipOf p) (sym told.is) (chips told.commands told.drawn))
    in_text (Err e) told chips = told
