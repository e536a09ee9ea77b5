-- What expressions read, argument by argument.
use Rattle.std.proofs.Common.{◌≡◌, ◌∙◌, ◌⊎◌, inl, inr, ℕ, ◌<◌, ◌≤◌, List, Bool, sym, subst, arith, length, get_or}
use Rattle.std.specs.Prelude.{Contains, IsTrue, ◌↔◌, slice_index}
use Rattle.std.proofs.lemmas.List.{get_or_default}
use Rattle.std.proofs.lemmas.List.Elements.{Contains-get_or}
use Rattle.rtl_form.specs.declared.rtl.Cell as cells
use Rattle.rtl_form.specs.declared.rtl.Rtl.{Rtl}
use Rattle.rtl_form.specs.declared.rtl.RtlExpr.{RtlExpr}
use Rattle.rtl_form.specs.declared.rtl.RtlExpr.TheVariants.{Number, Truth, Cell, Apply}
use Rattle.mp_base.specs.Entries.{IsAt}
use Rattle.mp_base.proofs.Entries.{one_entry, within}
use Rattle.rtl_form.specs.Sound.{ExprFits, ReadsCell, itself, inside}
use Rattle.rtl_check.specs.Reading.{IsDriven, IsKnown, ReadsOnly, operands_of}

-- an expression that reads a cell is the cell, or has an argument that reads it
reads_by : (exprs : List RtlExpr) (c e : ℕ) (x : RtlExpr) → IsAt exprs e x → ReadsCell exprs c e
    → (x ≡ Cell c) ⊎ ((a : ℕ) × Contains (operands_of x) a × ReadsCell exprs c a)
reads_by exprs c e x at (itself f here) = inl (one_entry exprs f x (Cell c) at here)
reads_by exprs c e x at (inside f a op index args here has reads) =
    let P : RtlExpr → Type 0 = λ y. Contains (operands_of y) a in
    inr (a, subst P (sym (one_entry exprs f x (Apply op index args) at here)) has, reads)

-- what an argument reads, the expression reads
reads_through : (exprs : List RtlExpr) (c e a : ℕ) (x : RtlExpr) → IsAt exprs e x → Contains (operands_of x) a
    → ReadsCell exprs c a → ReadsCell exprs c e
reads_through exprs c e a (Number n) at (k, lt, is) reads = absurd (omega (arith, lt))
reads_through exprs c e a (Truth b) at (k, lt, is) reads = absurd (omega (arith, lt))
reads_through exprs c e a (Cell d) at (k, lt, is) reads = absurd (omega (arith, lt))
reads_through exprs c e a (Apply op index args) at has reads = inside e a op index args at has reads

-- where there is no expression, nothing is read
pub past_reads_only : (r : Rtl) (known : List ℕ) (e : ℕ) → length r.exprs ≤ e → ReadsOnly r known e
past_reads_only r known e past = record { only = λ c driven reads. absurd (nothing c reads past) }
  where
    nothing : (c : ℕ) → ReadsCell r.exprs c e → length r.exprs ≤ e → ⊥
    nothing c (itself f at) le = let lt = within r.exprs e at in absurd (omega (arith, lt, le))
    nothing c (inside f a op index args at has reads) le =
        let lt = within r.exprs e at in absurd (omega (arith, lt, le))

-- arguments stand before what takes them
before_by : (r : Rtl) (e : ℕ) (x : RtlExpr) → ExprFits r e x → (j : ℕ) → j < length (operands_of x)
    → slice_index (operands_of x) j < e
before_by r e (Number n) fits j lt = absurd (omega (arith, lt))
before_by r e (Truth b) fits j lt = absurd (omega (arith, lt))
before_by r e (Cell d) fits j lt = absurd (omega (arith, lt))
before_by r e (Apply op index args) fits j lt = (fits.2 (slice_index args j) (Contains-get_or args j 0 lt)).0

pub operands_before : (r : Rtl) (e : ℕ) (x : RtlExpr) (args : List ℕ) → ExprFits r e x → args ≡ operands_of x
    → (j : ℕ) → j < length args → slice_index args j < e
operands_before r e x args fits same j lt =
    let P : List ℕ → Type 0 = λ xs. j < length xs → slice_index xs j < e in
    subst P (sym same) (before_by r e x fits j) lt

operand_at : (xs : List ℕ) (k a : ℕ) → k < length xs → get_or xs k a ≡ a → a ≡ slice_index xs k
operand_at xs k a lt is = sym is ∙ get_or_default xs k a 0 lt

module _ (r : Rtl) (known : List ℕ) (e : ℕ) (x : RtlExpr) (at : IsAt r.exprs e x) (args : List ℕ)
    (same : args ≡ operands_of x) where
  known_itself : (c : ℕ) → IsKnown r.cells known x → x ≡ Cell c → IsDriven r.cells c → Contains known c
  known_itself c is e driven = let P : RtlExpr → Type 0 = λ y. IsKnown r.cells known y in subst P e is driven

  by_arguments : (c : ℕ) → IsDriven r.cells c → ((j : ℕ) → j < length args → ReadsOnly r known (slice_index args j))
      → (a : ℕ) × Contains (operands_of x) a × ReadsCell r.exprs c a → Contains known c
  by_arguments c driven all (a, has, inner) =
      let P : List ℕ → Type 0 = λ xs. Contains xs a in
      let (k, lt, there) = subst P (sym same) has in
      let Q : ℕ → Type 0 = λ n. ReadsCell r.exprs c n in
      (all k lt).only c driven (subst Q (operand_at args k a lt there) inner)

  reads_only : ((j : ℕ) → j < length args → ReadsOnly r known (slice_index args j)) → IsKnown r.cells known x
      → ReadsOnly r known e
  reads_only all is = record {
    only = λ c driven reads.
        elim (reads_by r.exprs c e x at reads) [
          | inl e ↦ known_itself c is e driven
          | inr some ↦ by_arguments c driven all some
        ];
  }

  pub operand_reads_only : (j : ℕ) → j < length args → ReadsOnly r known e → ReadsOnly r known (slice_index args j)
  operand_reads_only j lt only = record {
    only = λ c driven reads.
        let P : List ℕ → Type 0 = λ xs. Contains xs (slice_index args j) in
        only.only c driven
        (reads_through r.exprs c e (slice_index args j) x at (subst P same (Contains-get_or args j 0 lt)) reads);
  }

  itself_known : (y : RtlExpr) → IsAt r.exprs e y → ReadsOnly r known e → IsKnown r.cells known y
  itself_known (Number n) here only = tt
  itself_known (Truth b) here only = tt
  itself_known (Cell c) here only = λ driven. only.only c driven (itself e here)
  itself_known (Apply op index args) here only = tt

  pub reads_only_by : (n : ℕ) → length args ≤ n → ((j : ℕ) → j < n → ReadsOnly r known (slice_index args j))
      → (b : Bool) (xs : List cells.Cell) → xs ≡ r.cells → (IsTrue b ↔ IsKnown xs known x)
      → IsTrue b ↔ ReadsOnly r known e
  reads_only_by n past all b xs is says =
      let P : List cells.Cell → Type 0 = λ ys. IsTrue b ↔ IsKnown ys known x in
      let here = subst P is says in (
        (λ h. reads_only (λ j lt. all j (omega (arith, lt, past))) (here.0 h)),
        (λ only. here.1 (itself_known x at only)),
      )
