use Rattle.std.proofs.Common.{length, take, ◌+◌, ◌-◌, ◌*◌}
use Rattle.expansion.specs.Templates.{AreOperandWords, usable_count}
use Rattle.expansion.proofs.Operators.{HasGrown}
use Rattle.expansion.proofs.words.+words.Given as goal

abbrev pub decreases-word : goal.decreases-word
decreases-word l =
    usable_count l.program.now l.owner * (4 * length l.program.now.exprs + 4)
    + (4 * (length l.program.now.exprs - l.expr) + 3)

abbrev pub decreases-operator_word : goal.decreases-operator_word
decreases-operator_word l =
    usable_count l.program.now l.owner * (4 * length l.program.now.exprs + 4)
    + (4 * (length l.program.now.exprs - l.expr) + 2)

abbrev pub decreases-use_word : goal.decreases-use_word
decreases-use_word l =
    usable_count l.program.now l.owner * (4 * length l.program.now.exprs + 4)
    + (4 * (length l.program.now.exprs - l.expr) + 2)

abbrev pub decreases-filled_word : goal.decreases-filled_word
decreases-filled_word l =
    usable_count l.program.now l.owner * (4 * length l.program.now.exprs + 4)
    + (4 * (length l.program.now.exprs - l.expr) + 1)

abbrev pub decreases-operand_words : goal.decreases-operand_words
decreases-operand_words l =
    usable_count l.program.now l.owner * (4 * length l.program.now.exprs + 4)
    + (4 * (length l.program.now.exprs - l.expr) + 0)

abbrev pub invariant-operator_word-loop-arg : goal.invariant-operator_word-loop-arg
invariant-operator_word-loop-arg l = HasGrown l.program l.owner l.expr (take l.arg-index l.args) l.items

abbrev pub invariant-operand_words-loop-i : goal.invariant-operand_words-loop-i
invariant-operand_words-loop-i l = AreOperandWords l.program l.owner l.template (take l.i l.args) l.words
