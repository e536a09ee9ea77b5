use Rattle.std.proofs.Common.{◌∙◌, ap, map}
use Rattle.mp_program.specs.declared.program.Expr.{Expr}
use Rattle.mp_program.specs.declared.program.Form.{Form}
use Rattle.name_meanings.specs.Meant.{expr_meaning, target_meaning}
use Rattle.name_meanings.proofs.Definitions.{are_meanings}
use Rattle.name_meanings.proofs.meaning.meanings_of.Goals as goal

pub returns : goal.returns
returns c =
    are_meanings c.args.program.now c.args.names.now
    (record { exprs = c.from_vec.result; targets = c.from_vec-2.result }) c.requires
    (c.from_vec.ensures ∙ c.in_ok-exprs.ensures
    ∙ ap (map (λ (x : Expr). expr_meaning c.args.names.now x.kind)) c.as_slice.ensures)
    (c.from_vec-2.ensures ∙ c.in_ok-targets.ensures
    ∙ ap (map (λ (y : Form). target_meaning c.args.names.now y.kind)) c.as_slice-2.ensures)
