-- Expressions that fit, while their list grows.
use Rattle.std.specs.Prelude.{◌≡◌, ℕ, ◌<◌, ◌^◌, List, Bool, true, length, Contains}
use Rattle.rtl_form.specs.declared.rtl.Cell as cells
use Rattle.rtl_form.specs.declared.rtl.RtlExpr.{RtlExpr}
use Rattle.rtl_form.specs.declared.rtl.RtlExpr.TheVariants.{Number, Truth, Cell, Apply}
use Rattle.mp_base.specs.Entries.{IsAt}
use Rattle.rtl_form.specs.Operands.{takes_words}
use Rattle.mp_base.specs.Apply.{takes}
use Rattle.rtl_form.specs.Sound.{IsSort, IndexFits}

-- the expression at an index is a word, or else a bit
abbrev pub HasSortIn : List cells.Cell → List RtlExpr → ℕ → Bool → Type 0
HasSortIn xs exprs e word = (x : RtlExpr) × IsAt exprs e x × IsSort xs x word

-- x may stand at e, at the word length w: what it names stands before it
abbrev pub ExprFitsIn : ℕ → List cells.Cell → List RtlExpr → ℕ → RtlExpr → Type 0
ExprFitsIn w xs exprs e (Number n) = n < 2 ^ w
ExprFitsIn w xs exprs e (Truth b) = Unit {0}
ExprFitsIn w xs exprs e (Cell c) = c < length xs
ExprFitsIn w xs exprs e (Apply op index args) =
    (takes op (length args) ≡ true) × IndexFits w op index
    × ((a : ℕ) → Contains args a → (a < e) × HasSortIn xs exprs a (takes_words op))

-- all expressions fit
abbrev pub ExprsFit : ℕ → List cells.Cell → List RtlExpr → Type 0
ExprsFit w xs exprs = (e : ℕ) (x : RtlExpr) → IsAt exprs e x → ExprFitsIn w xs exprs e x
