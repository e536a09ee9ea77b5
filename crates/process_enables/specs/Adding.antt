-- A list of expressions that grows.
use Rattle.std.specs.Prelude.{◌≡◌, ℕ, ◌++◌, List, [], ◌∷◌, length}
use Rattle.rtl_form.specs.declared.rtl.RtlExpr.{RtlExpr}

-- the expression x was added, and stands at index i
pub record IsPut (old : List RtlExpr) (x : RtlExpr) (new : List RtlExpr) (i : ℕ) : Type 0 where
  pub added : new ≡ old ++ x ∷ []
  pub index : i ≡ length old
