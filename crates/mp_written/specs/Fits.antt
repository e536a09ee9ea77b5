-- What a program's type says as it is written, over its lists.
use Rattle.std.specs.Prelude.{ℕ, suc, List, [], ◌∷◌, Bool, true, not, ◌&&◌, ◌||◌, ◌==◌, nat_lt, nat_le, length}
use Rattle.std.specs.List.{list_all}
use Rattle.mp_base.specs.Apply.{takes}
use Rattle.mp_program.specs.Fits.{is_symbol, all_behind, forms_fit, process_fits}
use Rattle.mp_program.specs.declared.program.Form.{Form}
use Rattle.mp_program.specs.declared.program.Process.{Process}
use Rattle.mp_written.specs.declared.program.ExprKind.{ExprKind}
use Rattle.mp_written.specs.declared.program.ExprKind.TheVariants.{Named, Apply, Use}
use Rattle.mp_written.specs.declared.program.What.{What}
use Rattle.mp_written.specs.declared.program.What.TheVariants.{Function}
use Rattle.mp_written.specs.declared.program.Arg.{Arg}
use Rattle.mp_written.specs.declared.program.Def.{Def}
use Rattle.mp_written.specs.declared.program.Expr.{Expr}
use Rattle.mp_written.specs.Kinds.{is_supply}

-- the expression at i, of n: a use has an operand
abbrev pub expr_fits : ℕ → ℕ → ExprKind → Bool
expr_fits n i (Named x) = is_symbol x
expr_fits n i (Apply op index args) = takes op (length args) && all_behind i n args
expr_fits n i (Use at x args) = is_symbol x && nat_le 1 (length args) && all_behind i n args
expr_fits n i _ = true

-- expressions from the index i on, of n
abbrev pub exprs_fit : ℕ → ℕ → List Expr → Bool
exprs_fit n i [] = true
exprs_fit n i (x ∷ xs) = expr_fits n i x.kind && exprs_fit n (suc i) xs

-- a function has an argument, and its body is one of n expressions
abbrev pub what_fits : ℕ → What → Bool
what_fits n (Function args body) =
    nat_le 1 (length args) && list_all (λ (a : Arg). is_symbol a.name) args && nat_lt body n
what_fits n _ = true

-- a definition has a name, but for power, ground and phases
abbrev pub def_fits : ℕ → Def → Bool
def_fits n d = ((is_supply d.what && (length d.name == 0)) || (not (is_supply d.what) && is_symbol d.name))
    && what_fits n d.what

-- A program fits: its word length is 1 to 64, its names are symbols, its indices are in range, operators have as many
-- operands as they take, and the operands of an expression and the forms in a form stand behind it.
abbrev pub program_fits : ℕ → List ℕ → List Def → List Expr → List Form → List ℕ → List Process → Bool
program_fits width name defs exprs forms always processes =
    nat_le 1 width && nat_le width 64 && is_symbol name
    && list_all (def_fits (length exprs)) defs
    && exprs_fit (length exprs) 0 exprs
    && forms_fit (length exprs) (length forms) 0 forms
    && list_all (λ f. nat_lt f (length forms)) always
    && list_all (process_fits (length forms)) processes
