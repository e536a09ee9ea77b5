use Rattle.std.proofs.Common.{[], ◌∷◌, codes}
use Rattle.std.proofs.lemmas.Result.{IfOk-weaker}
use Rattle.command_line.specs.App as spec
use Rattle.command_line.proofs.Settings.{with_word}
use Rattle.command_line.proofs.app.board.Goals as goal

pub returns : goal.returns
returns c =
    IfOk-weaker c.arg.result _ _
    (with_word (spec.form (codes "board") (codes "source" ∷ codes "cif" ∷ codes "clocks" ∷ []))
    (spec.words (codes "links")) c.in_ok-form.field-0 c.words.result c.in_ok-form.ensures c.words.ensures.rule
    c.words.ensures.local)
    c.arg.ensures
