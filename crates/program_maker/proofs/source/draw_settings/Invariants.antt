use Rattle.program_maker.specs.Texts.{drawn_setting}
use Rattle.program_maker.proofs.Rows.{Kept}
use Rattle.program_maker.proofs.source.draw_settings.Given as goal

abbrev pub invariant-loop-i : goal.invariant-loop-i
invariant-loop-i l = Kept drawn_setting 3 l.i l.initial.draws.state l.draws.state l.initial.text.items l.text.items
