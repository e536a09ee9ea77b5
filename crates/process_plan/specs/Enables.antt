-- The expressions of a program, and those that tell which forms are active.
use Rattle.std.specs.Prelude.{◌≡◌, ◌⊎◌, ℕ, suc, ◌+◌, ◌-◌, ◌<◌, List, [], ◌∷◌, Option, Some, length, map, Contains}
use Prim.Native.Nat.{zero}
use Rattle.mp_base.specs.declared.op.Op.TheVariants.{And, Nor, Not}
use Rattle.mp_program.specs.declared.program.What.TheVariants.{Constant}
use Rattle.mp_program.specs.declared.program.ExprKind.{ExprKind}
use Rattle.mp_program.specs.declared.program.ExprKind.TheVariants as source
use Rattle.mp_program.specs.declared.program.FormKind.{FormKind}
use Rattle.mp_program.specs.declared.program.FormKind.TheVariants.{Cond, Par}
use Rattle.mp_program.specs.declared.program.Branch.{Branch}
use Rattle.mp_program.specs.declared.program.Form.{Form}
use Rattle.mp_program.specs.declared.program.Def.{Def}
use Rattle.mp_program.specs.declared.program.Process.{Process}
use Rattle.mp_program.specs.declared.program.Program.{Program}
use Rattle.mp_program.specs.Names.{index_of}
use Rattle.mp_base.specs.Entries.{IsAt}
use Rattle.rtl_form.specs.declared.rtl.RtlExpr.{RtlExpr}
use Rattle.rtl_form.specs.declared.rtl.RtlExpr.TheVariants.{Number, Cell, Apply}
pub use Rattle.process_plan.specs.declared.enable.Enable.{Enable}
use Rattle.process_plan.specs.Roles.{Role, Value, Placed}
use Rattle.process_plan.specs.Active.{Origin, Always, At, IsRoot}

-- ---- copies

-- Expression 0 is true, and expression 1 is its negation. Behind them stand the copies of the program's expressions,
-- the last one first, so that arguments stand before what they are arguments of.
abbrev pub copy_of : Program → ℕ → ℕ
copy_of p e = length p.exprs + 1 - e

-- a copy of an expression of this kind
abbrev pub IsCopy : Program → List Role → ExprKind → RtlExpr → Type 0
IsCopy p roles (source.Number n) y = y ≡ Number n
IsCopy p roles (source.Named x) y =
    (d : Def) × IsAt p.defs (index_of p.defs x) d
    × (((n : ℕ) × (d.what ≡ Constant n) × (y ≡ Number n))
    ⊎ ((c : ℕ) × IsAt roles c (Value (index_of p.defs x)) × (y ≡ Cell c)))
IsCopy p roles source.True y = y ≡ Apply Not 0 (1 ∷ [])
IsCopy p roles source.False y = y ≡ Apply Not 0 (0 ∷ [])
IsCopy p roles (source.Apply op index args) y = y ≡ Apply op index (map (copy_of p) args)

-- ---- where processes are

-- es are the cells of the places of process k, but place 0
pub record ArePlaceExprs (exprs : List RtlExpr) (roles : List Role) (k : ℕ) (es : List ℕ) : Type 0 where
  pub each : (e : ℕ) → Contains es e → (c j : ℕ) × IsAt roles c (Placed k j) × IsAt exprs e (Cell c)
  pub all : (j c : ℕ) → IsAt roles c (Placed k j) → (e : ℕ) × Contains es e × IsAt exprs e (Cell c)

-- the expression that is 1 where process k is at place i: at place 0 it is at none of the others
abbrev pub IsPlaceExpr : Program → List RtlExpr → List Role → ℕ → ℕ → ℕ → Type 0
IsPlaceExpr p exprs roles k zero a =
    (q : Process) × IsAt p.processes k q
    × (((length q.forms ≡ 1) × (a ≡ 0))
    ⊎ ((es : List ℕ) × IsAt exprs a (Apply Nor 0 es) × ArePlaceExprs exprs roles k es))
IsPlaceExpr p exprs roles k (suc i) a = (c : ℕ) × IsAt roles c (Placed k (suc i)) × IsAt exprs a (Cell c)

-- the expression of an origin
abbrev pub IsOriginExpr : Program → List RtlExpr → List Role → Origin → ℕ → Type 0
IsOriginExpr p exprs roles Always a = a ≡ 0
IsOriginExpr p exprs roles (At k i) a = IsPlaceExpr p exprs roles k i a

-- ---- enables

-- form f has the origin o, and the expression a is 1 where it is active
abbrev pub HasEnable : List (Option Enable) → ℕ → Origin → ℕ → Type 0
HasEnable enables f o a = IsAt enables f (Some (record { origin = o; expr = a }))

-- the enables of the forms in branches, where rest is 1 if no guard before them was
abbrev pub BranchEnables : Program → List RtlExpr → List (Option Enable) → Origin → ℕ → List Branch → Type 0
BranchEnables p exprs enables o rest [] = Unit {0}
BranchEnables p exprs enables o rest (b ∷ []) =
    (a : ℕ) × IsAt exprs a (Apply And 0 (rest ∷ copy_of p b.guard ∷ []))
    × ((f : ℕ) → Contains b.body f → HasEnable enables f o a)
BranchEnables p exprs enables o rest (b ∷ c ∷ bs) =
    (a n m : ℕ) × IsAt exprs a (Apply And 0 (rest ∷ copy_of p b.guard ∷ []))
    × ((f : ℕ) → Contains b.body f → HasEnable enables f o a)
    × IsAt exprs n (Apply Not 0 (copy_of p b.guard ∷ [])) × IsAt exprs m (Apply And 0 (rest ∷ n ∷ []))
    × BranchEnables p exprs enables o m (c ∷ bs)

-- the enables of the forms in a form of this kind, whose own is a
abbrev pub InnerEnables : Program → List RtlExpr → List (Option Enable) → Origin → ℕ → FormKind → Type 0
InnerEnables p exprs enables o a (Cond bs) = BranchEnables p exprs enables o a bs
InnerEnables p exprs enables o a (Par fs) = (f : ℕ) → Contains fs f → HasEnable enables f o a
InnerEnables p exprs enables o a _ = Unit {0}

-- form f stands directly in a form of this kind
abbrev pub StandsInside : FormKind → ℕ → Type 0
StandsInside (Cond bs) f = (b : Branch) × Contains bs b × Contains b.body f
StandsInside (Par fs) f = Contains fs f
StandsInside _ f = ⊥

-- each form that stands in an `always` or process, or in another of these, has its enable, and no other form has one
pub record AreEnables (p : Program) (exprs : List RtlExpr) (roles : List Role) (enables : List (Option Enable))
    : Type 0 where
  pub size : length enables ≡ length p.forms
  pub roots : (o : Origin) (f : ℕ) → IsRoot p o f
      → (a : ℕ) × IsOriginExpr p exprs roles o a × HasEnable enables f o a
  pub inner : (g : ℕ) (y : Form) (o : Origin) (a : ℕ) → IsAt p.forms g y → HasEnable enables g o a
      → InnerEnables p exprs enables o a y.kind
  pub reasons : (f : ℕ) (o : Origin) (a : ℕ) → HasEnable enables f o a
      → (IsRoot p o f × IsOriginExpr p exprs roles o a)
      ⊎ ((g : ℕ) × (y : Form) × (b : ℕ) × IsAt p.forms g y × (g < f) × HasEnable enables g o b × StandsInside y.kind f)
