-- What a program's type says, over its lists.
use Rattle.std.specs.Prelude.{ℕ, suc, List, [], ◌∷◌, Bool, true, not, ◌&&◌, ◌||◌, ◌==◌, nat_lt, nat_le, length}
use Rattle.std.specs.List.{list_all}
use Rattle.mp_base.specs.Apply.{takes}
use Rattle.mp_base.specs.Token.{is_token, is_digit}
use Rattle.mp_program.specs.declared.program.ExprKind.{ExprKind}
use Rattle.mp_program.specs.declared.program.ExprKind.TheVariants.{Named, Apply}
use Rattle.mp_program.specs.declared.program.FormKind.{FormKind}
use Rattle.mp_program.specs.declared.program.FormKind.TheVariants.{Set, Cond, Par, Go, Call, Return}
use Rattle.mp_program.specs.declared.program.Branch.{Branch}
use Rattle.mp_program.specs.declared.program.Def.{Def}
use Rattle.mp_program.specs.declared.program.Expr.{Expr}
use Rattle.mp_program.specs.declared.program.Form.{Form}
use Rattle.mp_program.specs.declared.program.Label.{Label}
use Rattle.mp_program.specs.declared.program.Process.{Process}
use Rattle.mp_program.specs.Names.{is_supply}

-- a run of token characters that is no numeral
abbrev pub is_symbol : List ℕ → Bool
is_symbol x = list_all is_token x && not (list_all is_digit x)

-- all indices are greater than i and below n
abbrev pub all_behind : ℕ → ℕ → List ℕ → Bool
all_behind i n ks = list_all (λ k. nat_lt i k && nat_lt k n) ks

-- the expression at i, of n
abbrev pub expr_fits : ℕ → ℕ → ExprKind → Bool
expr_fits n i (Named x) = is_symbol x
expr_fits n i (Apply op index args) = takes op (length args) && all_behind i n args
expr_fits n i _ = true

-- the form at i, of n, where there are e expressions
abbrev pub form_fits : ℕ → ℕ → ℕ → FormKind → Bool
form_fits e n i (Set x at value) = is_symbol x && nat_lt value e
form_fits e n i (Cond branches) = list_all (λ (b : Branch). nat_lt b.guard e && all_behind i n b.body) branches
form_fits e n i (Par forms) = all_behind i n forms
form_fits e n i (Go label) = is_symbol label
form_fits e n i (Call label) = is_symbol label
form_fits e n i Return = true

-- expressions from the index i on, of n
abbrev pub exprs_fit : ℕ → ℕ → List Expr → Bool
exprs_fit n i [] = true
exprs_fit n i (x ∷ xs) = expr_fits n i x.kind && exprs_fit n (suc i) xs

-- forms from the index i on, of n
abbrev pub forms_fit : ℕ → ℕ → ℕ → List Form → Bool
forms_fit e n i [] = true
forms_fit e n i (x ∷ xs) = form_fits e n i x.kind && forms_fit e n (suc i) xs

-- a definition has a name, but for power, ground and phases
abbrev pub def_fits : Def → Bool
def_fits x = (is_supply x.what && (length x.name == 0)) || (not (is_supply x.what) && is_symbol x.name)

-- a process, where there are n forms: a label stands before one of its forms or at its end
abbrev pub process_fits : ℕ → Process → Bool
process_fits n q = is_symbol q.name
    && list_all (λ (l : Label). is_symbol l.name && nat_le l.before (length q.forms)) q.labels
    && list_all (λ f. nat_lt f n) q.forms

-- A program fits: its word length is 1 to 64, its names are symbols, its indices are in range, operators have as many
-- operands as they take, and the arguments of an expression and the forms in a form stand behind it.
abbrev pub program_fits : ℕ → List ℕ → List Def → List Expr → List Form → List ℕ → List Process → Bool
program_fits width name defs exprs forms always processes =
    nat_le 1 width && nat_le width 64 && is_symbol name
    && list_all def_fits defs
    && exprs_fit (length exprs) 0 exprs
    && forms_fit (length exprs) (length forms) 0 forms
    && list_all (λ f. nat_lt f (length forms)) always
    && list_all (process_fits (length forms)) processes
