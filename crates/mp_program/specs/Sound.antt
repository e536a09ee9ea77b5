-- What a program's type says, index by index.
use Rattle.std.specs.Prelude.{◌≡◌, ℕ, ◌<◌, ◌≤◌, List, length, slice_index, slice_get, Some, true, ◌≢◌}
use Rattle.std.specs.List.{AllByRecursion}
use Rattle.mp_program.specs.declared.program.ExprKind.{ExprKind}
use Rattle.mp_program.specs.declared.program.ExprKind.TheVariants.{Apply}
use Rattle.mp_program.specs.declared.program.FormKind.{FormKind}
use Rattle.mp_program.specs.declared.program.FormKind.TheVariants.{Set, Cond, Par}
use Rattle.mp_program.specs.declared.program.Branch.{Branch}
use Rattle.mp_program.specs.declared.program.Expr.{Expr}
use Rattle.mp_program.specs.declared.program.Form.{Form}
use Rattle.mp_program.specs.declared.program.Process.{Process}
use Rattle.mp_program.specs.declared.program.Program.{Program}
use Rattle.mp_base.specs.Apply.{takes}
use Rattle.mp_program.specs.Tree.{expr_places, form_places, height_limit}
use Rattle.mp_program.specs.Tree.{expr_heights, form_heights}

-- each index is greater than i and below n
abbrev pub AllBetween : ℕ → ℕ → List ℕ → Type 0
AllBetween i n xs = AllByRecursion (λ k. (i < k) × (k < n)) xs

-- the expression at i, of n
abbrev pub ArgsFit : ℕ → ℕ → ExprKind → Type 0
ArgsFit i n (Apply op index args) = (takes op (length args) ≡ true) × AllBetween i n args
ArgsFit i n _ = Unit {0}

-- guards among e expressions, and bodies of forms behind i, of n
abbrev pub BranchesFit : ℕ → ℕ → ℕ → List Branch → Type 0
BranchesFit e i n bs = AllByRecursion (λ (b : Branch). (b.guard < e) × AllBetween i n b.body) bs

-- the form at i, of n, where there are e expressions
abbrev pub InnerFit : ℕ → ℕ → ℕ → FormKind → Type 0
InnerFit e i n (Set x at value) = value < e
InnerFit e i n (Cond branches) = BranchesFit e i n branches
InnerFit e i n (Par forms) = AllBetween i n forms
InnerFit e i n _ = Unit {0}

-- the numbers in a list differ
abbrev pub AreApart : List ℕ → Type 0
AreApart xs = (j k : ℕ) → j < k → k < length xs → slice_index xs j ≢ slice_index xs k

-- each expression and each form stands in one place at most, and none is higher than the limit
pub record IsTree (p : Program) : Type 0 where
  pub exprs : AreApart (expr_places p.exprs p.forms)
  pub forms : AreApart (form_places p.forms p.always p.processes)
  pub expr_heights : (e : ℕ) → slice_index (expr_heights p.exprs) e ≤ height_limit
  pub form_heights : (f : ℕ) → slice_index (form_heights p.forms) f ≤ height_limit

-- the word length is 1 to 64, indices are in range, and those of arguments and inner forms are greater than that of
-- what they stand in
pub record IsSound (p : Program) : Type 0 where
  pub width : (1 ≤ p.width) × (p.width ≤ 64)
  pub exprs : (i : ℕ) (x : Expr) → slice_get p.exprs i ≡ Some x → ArgsFit i (length p.exprs) x.kind
  pub forms : (i : ℕ) (x : Form) → slice_get p.forms i ≡ Some x → InnerFit (length p.exprs) i (length p.forms) x.kind
  pub always : AllByRecursion (λ f. f < length p.forms) p.always
  pub processes : AllByRecursion (λ (q : Process). AllByRecursion (λ f. f < length p.forms) q.forms) p.processes
