-- Expressions that are added.
use Rattle.std.specs.Prelude.{
  ◌≡◌,
  ◌⊎◌,
  ◌≤◌,
  ◌<◌,
  ℕ,
  ◌+◌,
  List,
  [],
  ◌∷◌,
  ◌++◌,
  false,
  Option,
  length,
  Contains,
  MatchOption,
}
use Rattle.mp_base.specs.declared.op.Op.TheVariants.{And, Not}
use Rattle.rtl_form.specs.declared.rtl.Cell as cells
use Rattle.rtl_form.specs.declared.rtl.RtlExpr.{RtlExpr}
use Rattle.rtl_form.specs.declared.rtl.RtlExpr.TheVariants.{Apply}
use Rattle.mp_base.specs.Entries.{IsAt}
use Rattle.process_plan.specs.Fits.{ExprsFit, HasSortIn}
use Rattle.process_plan.specs.Bill.{exprs_cost}
use Rattle.process_plan.specs.Plan.{AreNegations, IsUnion}
use Rattle.process_layout.specs.Steps.{Keeps}

-- these expressions are bits
abbrev pub AreBits : List cells.Cell → List RtlExpr → List ℕ → Type 0
AreBits xs exprs es = (e : ℕ) → Contains es e → HasSortIn xs exprs e false

-- expressions are only added, at a price; all fit where those did that were there, and these of them are bits
pub record IsGrown (bits : List ℕ) (price : ℕ) (old new : List RtlExpr) : Type 0 where
  pub kept : Keeps old new
  pub cost : exprs_cost new ≤ exprs_cost old + price
  pub fits : (w : ℕ) (xs : List cells.Cell) → ExprsFit w xs old → AreBits xs old bits → ExprsFit w xs new

-- the expression x is added, at i
abbrev pub IsPut : List RtlExpr → List RtlExpr → RtlExpr → ℕ → Type 0
IsPut old new x i = (new ≡ old ++ x ∷ []) × (i ≡ length old)

-- n is the negation of e
pub record IsNegationMade (old new : List RtlExpr) (e n : ℕ) : Type 0 where
  pub made : IsAt new n (Apply Not 0 (e ∷ []))
  pub grown : IsGrown (e ∷ []) 0 old new

-- an expression, and then the negations of others
pub record AreNegationsMade (old new : List RtlExpr) (first : ℕ) (others args : List ℕ) : Type 0 where
  pub made : (ns : List ℕ) × (args ≡ first ∷ ns) × AreNegations new others ns
  pub grown : IsGrown others 0 old new

-- e is 1 where the enable a is and none of the moves ms; it costs something where there are moves, and a is none of
-- them
pub record IsFallMade (old new : List RtlExpr) (a : ℕ) (ms : List ℕ) (e : ℕ) : Type 0 where
  pub made : ((ms ≡ []) × (e ≡ a)) ⊎ (Contains ms a × (e ≡ 1))
      ⊎ ((ns : List ℕ) × AreNegations new ms ns × IsAt new e (Apply And 0 (a ∷ ns)))
  pub grown : IsGrown (a ∷ ms) 0 old new
      ⊎ ((¬ Contains ms a) × (0 < length ms) × IsGrown (a ∷ ms) (1 + length ms) old new)

-- u is 1 where one of these is, if there are any
pub record IsUnionMade (old new : List RtlExpr) (guards : List ℕ) (u : Option ℕ) : Type 0 where
  pub made : MatchOption u (guards ≡ []) (IsUnion new guards)
  pub grown : IsGrown guards (length guards) old new
