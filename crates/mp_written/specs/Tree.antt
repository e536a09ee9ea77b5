-- A program as it is written is a tree: nothing stands in two places, and nothing is nested deep.
use Rattle.std.specs.Prelude.{ℕ, suc, List, [], ◌∷◌, ◌++◌, Bool, ◌&&◌}
use Rattle.std.specs.List.{flat_map}
use Rattle.mp_base.specs.Table.{table}
use Rattle.mp_program.specs.Tree.{exprs_in, form_places, form_heights, is_distinct, tallest, are_low}
use Rattle.mp_program.specs.declared.program.Form.{Form}
use Rattle.mp_program.specs.declared.program.Process.{Process}
use Rattle.mp_written.specs.declared.program.ExprKind.{ExprKind}
use Rattle.mp_written.specs.declared.program.ExprKind.TheVariants.{Apply, Use}
use Rattle.mp_written.specs.declared.program.What.{What}
use Rattle.mp_written.specs.declared.program.What.TheVariants.{Function}
use Rattle.mp_written.specs.declared.program.Def.{Def}
use Rattle.mp_written.specs.declared.program.Expr.{Expr}

-- the expressions directly in an expression
abbrev pub operands : ExprKind → List ℕ
operands (Apply op index args) = args
operands (Use at name args) = args
operands _ = []

-- the body of a function
abbrev pub body_in : What → List ℕ
body_in (Function args body) = body ∷ []
body_in _ = []

-- what stands in each place where an expression may stand
abbrev pub expr_places : List Def → List Expr → List Form → List ℕ
expr_places defs exprs forms =
    flat_map (λ (d : Def). body_in d.what) defs
    ++ (flat_map (λ (x : Expr). operands x.kind) exprs ++ flat_map (λ (y : Form). exprs_in y.kind) forms)

-- the height of each expression: one more than that of what stands directly in it
abbrev pub expr_heights : List Expr → List ℕ
expr_heights exprs = table 0 (λ (x : Expr) height. suc (tallest height (operands x.kind))) 0 exprs

abbrev pub is_tree : List Def → List Expr → List Form → List ℕ → List Process → Bool
is_tree defs exprs forms always processes =
    is_distinct (expr_places defs exprs forms) && is_distinct (form_places forms always processes)
    && are_low (expr_heights exprs) && are_low (form_heights forms)
