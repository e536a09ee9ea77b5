-- What is said of expressions holds while there are more.
use Rattle.std.proofs.Common.{◌⊎◌, inl, inr, ℕ, zero, suc, ◌<◌, List, [], ◌∷◌, Option}
use Rattle.mp_program.specs.declared.program.FormKind.{FormKind}
use Rattle.mp_program.specs.declared.program.FormKind.TheVariants.{Set, Cond, Par, Go, Call, Return}
use Rattle.mp_program.specs.declared.program.Branch.{Branch}
use Rattle.mp_program.specs.declared.program.Form.{Form}
use Rattle.mp_program.specs.declared.program.Program.{Program}
use Rattle.mp_base.specs.Entries.{IsAt}
use Rattle.rtl_form.specs.declared.rtl.RtlExpr.{RtlExpr}
use Rattle.process_plan.specs.declared.role.Role.{Role}
use Rattle.process_plan.specs.declared.enable.Enable.{Enable}
use Rattle.process_plan.specs.declared.enable.Origin.{Origin}
use Rattle.process_plan.specs.declared.enable.Origin.TheVariants.{Always, At}
use Rattle.process_plan.specs.Active.{IsRoot}
use Rattle.process_plan.specs.Enables.{
  AreEnables,
  ArePlaceExprs,
  BranchEnables,
  HasEnable,
  InnerEnables,
  IsOriginExpr,
  IsPlaceExpr,
  StandsInside,
}
use Rattle.process_layout.specs.Steps.{Keeps}

module _ (p : Program) (roles : List Role) (enables : List (Option Enable)) (exprs more : List RtlExpr)
    (kept : Keeps exprs more) where
  cells_kept : (k : ℕ) (es : List ℕ) → ArePlaceExprs exprs roles k es → ArePlaceExprs more roles k es
  cells_kept k es are = record {
    each = λ e c. let (d, j, at, is) = are.each e c in (d, j, at, kept e _ is);
    all = λ j d at. let (e, c, is) = are.all j d at in (e, c, kept e _ is);
  }

  place_kept : (k i a : ℕ) → IsPlaceExpr p exprs roles k i a → IsPlaceExpr p more roles k i a
  place_kept k zero a (q, at, inl only) = (q, at, inl only)
  place_kept k zero a (q, at, inr (es, is, are)) = (q, at, inr (es, kept a _ is, cells_kept k es are))
  place_kept k (suc i) a (d, at, is) = (d, at, kept a _ is)

  origin_kept : (o : Origin) (a : ℕ) → IsOriginExpr p exprs roles o a → IsOriginExpr p more roles o a
  origin_kept Always a is = is
  origin_kept (At k i) a is = place_kept k i a is

  branches_kept : (o : Origin) (rest : ℕ) (bs : List Branch) → BranchEnables p exprs enables o rest bs
      → BranchEnables p more enables o rest bs
  branches_kept o rest [] are = tt
  branches_kept o rest (b ∷ []) (a, is, has) = (a, kept a _ is, has)
  branches_kept o rest (b ∷ c ∷ bs) (a, n, m, is, has, negation, next, are) =
      (a, n, m, kept a _ is, has, kept n _ negation, kept m _ next, branches_kept o m (c ∷ bs) are)

  inner_kept : (o : Origin) (a : ℕ) (k : FormKind) → InnerEnables p exprs enables o a k
      → InnerEnables p more enables o a k
  inner_kept o a (Set x at value) are = tt
  inner_kept o a (Cond bs) are = branches_kept o a bs are
  inner_kept o a (Par fs) are = are
  inner_kept o a (Go l) are = tt
  inner_kept o a (Call l) are = tt
  inner_kept o a Return are = tt

  pub enables_kept : AreEnables p exprs roles enables → AreEnables p more roles enables
  enables_kept are = record {
    size = are.size;
    roots = λ o f root. let (a, is, has) = are.roots o f root in (a, origin_kept o a is, has);
    inner = λ g y o a at has. inner_kept o a y.kind (are.inner g y o a at has);
    reasons = λ f o a has. elim (are.reasons f o a has) as (λ _. (IsRoot p o f × IsOriginExpr p more roles o a)
        ⊎ ((g : ℕ) × (y : Form) × (b : ℕ) × IsAt p.forms g y × (g < f) × HasEnable enables g o b
        × StandsInside y.kind f)) [
          | inl (root, is) ↦ inl (root, origin_kept o a is)
          | inr inside ↦ inr inside
        ];
  }
