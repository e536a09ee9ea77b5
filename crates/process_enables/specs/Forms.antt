-- Forms get their enables one after another, while the list of expressions grows.
use Rattle.std.specs.Prelude.{◌≡◌, ◌⊎◌, ℕ, ◌+◌, ◌<◌, ◌≤◌, List, [], ◌∷◌, false, Option, length, take, map, Contains}
use Rattle.mp_base.specs.declared.op.Op.TheVariants.{And, Not}
use Rattle.mp_program.specs.declared.program.FormKind.TheVariants.{Cond}
use Rattle.mp_program.specs.declared.program.Branch.{Branch}
use Rattle.mp_program.specs.declared.program.Form.{Form}
use Rattle.mp_program.specs.declared.program.Program.{Program}
use Rattle.mp_base.specs.Entries.{IsAt}
use Rattle.rtl_form.specs.declared.rtl.Cell.{Cell}
use Rattle.rtl_form.specs.declared.rtl.RtlExpr.{RtlExpr}
use Rattle.rtl_form.specs.declared.rtl.RtlExpr.TheVariants.{Apply}
use Rattle.process_plan.specs.declared.enable.Origin.{Origin}
use Rattle.process_plan.specs.declared.enable.Enable.{Enable}
use Rattle.process_plan.specs.Bill.{exprs_cost, branches_bill}
use Rattle.process_plan.specs.Enables.{HasEnable, copy_of, BranchEnables, InnerEnables, StandsInside}
use Rattle.process_plan.specs.Fits.{ExprsFit, HasSortIn}
use Rattle.process_layout.specs.Counts.{guards_of}
use Rattle.process_layout.specs.Steps.{Keeps}

-- ---- lists that grow

-- enables are only given
pub record KeepsEnables (old new : List (Option Enable)) : Type 0 where
  pub size : length new ≡ length old
  pub kept : (f : ℕ) (o : Origin) (a : ℕ) → HasEnable old f o a → HasEnable new f o a

-- these forms get the enable x, and no others do
pub record Assigns (forms : List ℕ) (x : Enable) (old new : List (Option Enable)) : Type 0 where
  pub kept : KeepsEnables old new
  pub given : (f : ℕ) → Contains forms f → HasEnable new f x.origin x.expr
  pub added : (f : ℕ) (u : Origin) (a : ℕ) → HasEnable new f u a
      → HasEnable old f u a ⊎ (Contains forms f × (u ≡ x.origin) × (a ≡ x.expr))

-- expressions fit, and those of enables are bits
pub record AreFit (w : ℕ) (xs : List Cell) (exprs : List RtlExpr) (enables : List (Option Enable)) : Type 0 where
  pub exprs_fit : ExprsFit w xs exprs
  pub bits : (f a : ℕ) (o : Origin) → HasEnable enables f o a → HasSortIn xs exprs a false

-- Expressions and enables are added: enables to forms of which this holds alone, from the origin o, expressions at this
-- cost. What fits still fits, where these are bits.
pub record Grows (Among : ℕ → Type 0) (o : Origin) (bill : ℕ) (bits : List ℕ) (exprs more : List RtlExpr)
    (old new : List (Option Enable)) : Type 0 where
  pub exprs_kept : Keeps exprs more
  pub kept : KeepsEnables old new
  pub added : (f : ℕ) (u : Origin) (a : ℕ) → HasEnable new f u a → HasEnable old f u a ⊎ (Among f × (u ≡ o))
  pub cost : exprs_cost more ≤ exprs_cost exprs + bill
  pub fits : (w : ℕ) (xs : List Cell) → ((a : ℕ) → Contains bits a → HasSortIn xs exprs a false)
      → AreFit w xs exprs old → AreFit w xs more new

-- ---- branches

-- the forms of a branch get their enable, where x tells that no guard before was 1
pub record EntersBranch (p : Program) (x : Enable) (b : Branch) (exprs more : List RtlExpr)
    (old new : List (Option Enable)) : Type 0 where
  pub grown : Grows (Contains b.body) x.origin 2 (x.expr ∷ copy_of p b.guard ∷ []) exprs more old new
  pub given : (a : ℕ) × IsAt more a (Apply And 0 (x.expr ∷ copy_of p b.guard ∷ []))
      × ((f : ℕ) → Contains b.body f → HasEnable new f x.origin a)

-- m is 1 where rest is and the guard is not
pub record Narrows (rest guard : ℕ) (exprs more : List RtlExpr) (m : ℕ) : Type 0 where
  pub exprs_kept : Keeps exprs more
  pub made : (n : ℕ) × IsAt more n (Apply Not 0 (guard ∷ [])) × IsAt more m (Apply And 0 (rest ∷ n ∷ []))
  pub cost : exprs_cost more ≤ exprs_cost exprs + 2
  pub fits : (w : ℕ) (xs : List Cell) → HasSortIn xs exprs rest false → HasSortIn xs exprs guard false
      → ExprsFit w xs exprs → ExprsFit w xs more

-- a form in one of these branches
abbrev pub InBranches : List Branch → ℕ → Type 0
InBranches bs f = (b : Branch) × Contains bs b × Contains b.body f

-- the copies of the guards of branches
abbrev pub guards : Program → List Branch → List ℕ
guards p bs = map (λ (b : Branch). copy_of p b.guard) bs

-- the forms of branches get their enables, where x tells that no guard before was 1
pub record EntersBranches (p : Program) (x : Enable) (bs : List Branch) (exprs more : List RtlExpr)
    (old new : List (Option Enable)) : Type 0 where
  pub grown : Grows (InBranches bs) x.origin (branches_bill (length bs)) (x.expr ∷ guards p bs) exprs more old new
  pub given : BranchEnables p more new x.origin x.expr bs

-- ---- forms

-- the copies of the guards in all forms are bits
abbrev pub GuardsAreBits : Program → List Cell → List RtlExpr → Type 0
GuardsAreBits p xs exprs = (f : ℕ) (y : Form) (bs : List Branch) (b : Branch) → IsAt p.forms f y → y.kind ≡ Cond bs
    → Contains bs b → HasSortIn xs exprs (copy_of p b.guard) false

-- the forms in form f get their enables, where it has one, and no others do
pub record EnablesInner (p : Program) (f : ℕ) (exprs more : List RtlExpr) (old new : List (Option Enable))
    : Type 0 where
  pub exprs_kept : Keeps exprs more
  pub kept : KeepsEnables old new
  pub inner : (y : Form) (o : Origin) (a : ℕ) → IsAt p.forms f y → HasEnable old f o a
      → InnerEnables p more new o a y.kind
  pub added : (g : ℕ) (u : Origin) (b : ℕ) → HasEnable new g u b
      → HasEnable old g u b ⊎ ((y : Form) × (a : ℕ) × IsAt p.forms f y × HasEnable old f u a × StandsInside y.kind g)
  pub cost : (y : Form) (e : Option Enable) → IsAt p.forms f y → IsAt old f e
      → exprs_cost more ≤ exprs_cost exprs + guards_of (y ∷ []) (e ∷ [])
  pub fits : (w : ℕ) (xs : List Cell) → GuardsAreBits p xs exprs → AreFit w xs exprs old → AreFit w xs more new

-- the same of the forms below i
pub record EnablesBelow (p : Program) (i : ℕ) (exprs more : List RtlExpr) (old new : List (Option Enable))
    : Type 0 where
  pub exprs_kept : Keeps exprs more
  pub kept : KeepsEnables old new
  pub inner : (g : ℕ) (y : Form) (o : Origin) (a : ℕ) → g < i → IsAt p.forms g y → HasEnable new g o a
      → InnerEnables p more new o a y.kind
  pub reasons : (f : ℕ) (o : Origin) (a : ℕ) → HasEnable new f o a
      → HasEnable old f o a
      ⊎ ((g : ℕ) × (y : Form) × (b : ℕ) × IsAt p.forms g y × (g < f) × HasEnable new g o b × StandsInside y.kind f)
  pub cost : exprs_cost more ≤ exprs_cost exprs + guards_of (take i p.forms) new
  pub fits : (w : ℕ) (xs : List Cell) → GuardsAreBits p xs exprs → AreFit w xs exprs old → AreFit w xs more new
