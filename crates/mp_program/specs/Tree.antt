-- A program is a tree: nothing stands in two places, and nothing is nested deep.
use Rattle.std.specs.Prelude.{ℕ, suc, List, [], ◌∷◌, ◌++◌, Bool, true, not, ◌&&◌, ◌==◌, nat_le, map, max}
use Rattle.std.specs.List.{flat_map, list_all, list_any}
use Rattle.mp_base.specs.Table.{table}
use Rattle.mp_program.specs.declared.program.ExprKind.{ExprKind}
use Rattle.mp_program.specs.declared.program.ExprKind.TheVariants.{Apply}
use Rattle.mp_program.specs.declared.program.FormKind.{FormKind}
use Rattle.mp_program.specs.declared.program.FormKind.TheVariants.{Set, Cond, Par}
use Rattle.mp_program.specs.declared.program.Branch.{Branch}
use Rattle.mp_program.specs.declared.program.Expr.{Expr}
use Rattle.mp_program.specs.declared.program.Form.{Form}
use Rattle.mp_program.specs.declared.program.Process.{Process}

-- the expressions directly in an expression
abbrev pub operands : ExprKind → List ℕ
operands (Apply op index args) = args
operands _ = []

-- the expressions directly in a form: its value, or the guards of its branches
abbrev pub exprs_in : FormKind → List ℕ
exprs_in (Set x at value) = value ∷ []
exprs_in (Cond branches) = map (λ (b : Branch). b.guard) branches
exprs_in _ = []

-- the forms directly in a form
abbrev pub inner : FormKind → List ℕ
inner (Par forms) = forms
inner (Cond branches) = flat_map (λ (b : Branch). b.body) branches
inner _ = []

-- what stands in each place where an expression may stand
abbrev pub expr_places : List Expr → List Form → List ℕ
expr_places exprs forms =
    flat_map (λ (x : Expr). operands x.kind) exprs ++ flat_map (λ (x : Form). exprs_in x.kind) forms

-- what stands in each place where a form may stand
abbrev pub form_places : List Form → List ℕ → List Process → List ℕ
form_places forms always processes =
    always ++ (flat_map (λ (q : Process). q.forms) processes ++ flat_map (λ (x : Form). inner x.kind) forms)

-- no number stands twice in a list
abbrev pub is_distinct : List ℕ → Bool
is_distinct [] = true
is_distinct (x ∷ xs) = not (list_any (λ y. y == x) xs) && is_distinct xs

-- the greatest height of these
abbrev pub tallest : (ℕ → ℕ) → List ℕ → ℕ
tallest height [] = 0
tallest height (k ∷ ks) = max (height k) (tallest height ks)

-- the height of each expression, and of each form: one more than that of what stands directly in it
abbrev pub expr_heights : List Expr → List ℕ
expr_heights exprs = table 0 (λ (x : Expr) height. suc (tallest height (operands x.kind))) 0 exprs

abbrev pub form_heights : List Form → List ℕ
form_heights forms = table 0 (λ (x : Form) height. suc (tallest height (inner x.kind))) 0 forms

-- the most that a height may be
abbrev pub height_limit : ℕ
height_limit = 1024

abbrev pub are_low : List ℕ → Bool
are_low heights = list_all (λ h. nat_le h height_limit) heights

abbrev pub is_tree : List Expr → List Form → List ℕ → List Process → Bool
is_tree exprs forms always processes =
    is_distinct (expr_places exprs forms) && is_distinct (form_places forms always processes)
    && are_low (expr_heights exprs) && are_low (form_heights forms)
