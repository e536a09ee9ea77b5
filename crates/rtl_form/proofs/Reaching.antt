-- What passes along expressions and transfers reaches every cell: by the order of evaluation, and within it by the
-- indices of expressions.
use Rattle.std.proofs.Common.{◌≡◌, ℕ, ◌<◌, zero, suc, inl, inr, Bool, true, false, length, get_or, refl, subst, arith}
use Rattle.std.specs.Prelude.{Contains, slice_index}
use Rattle.std.proofs.lemmas.List.Elements.{Contains-get_or}
use Rattle.rtl_form.specs.declared.rtl.Cell as cells
use Rattle.rtl_form.specs.declared.rtl.RtlExpr.{RtlExpr}
use Rattle.rtl_form.specs.declared.rtl.RtlExpr.TheVariants.{Number, Truth, Cell, Apply}
use Rattle.rtl_form.specs.declared.rtl.Rtl.{Rtl}
use Rattle.mp_base.specs.Entries.{IsAt}
use Rattle.mp_base.proofs.Entries.{some_entry, within}
use Rattle.rtl_form.specs.Environment.{is_driven}
use Rattle.rtl_form.specs.Sound.{IsSound, ExprFits, ReadsCell, itself, inside}
use Rattle.rtl_form.specs.Known.{Passes, Reached}
use Rattle.rtl_form.proofs.Environment.{read_in}

module _ (r : Rtl) (sound : IsSound r) (E C : ℕ → Type 0) (passes : Passes r E C) where
  -- an expression holds where the cells that it reads do
  by_index : (n e : ℕ) → e < n → e < length r.exprs → ((c : ℕ) → ReadsCell r.exprs c e → C c) → E e
  by_index zero e l in' reads = absurd (omega arith)
  by_index (suc n) e l in' reads =
      let x = some_entry r.exprs e in' in
      by_expr x.0 x.1 reads (sound.exprs e x.0 x.1) (λ a below. by_index n a (omega (arith, below)))
    where
      by_expr : (x : RtlExpr) → IsAt r.exprs e x → ((c : ℕ) → ReadsCell r.exprs c e → C c)
          → ExprFits r e x
          → ((a : ℕ) → a < e → a < length r.exprs → ((c : ℕ) → ReadsCell r.exprs c a → C c) → E a) → E e
      by_expr (Number m) is reads fits again = passes.exprs e (Number m) is tt
      by_expr (Truth b) is reads fits again = passes.exprs e (Truth b) is tt
      by_expr (Cell c) is reads fits again = passes.exprs e (Cell c) is (reads c (itself e is))
      by_expr (Apply op index args) is reads fits again =
          passes.exprs e (Apply op index args) is (λ k d m.
          let a = get_or args k d in
          let has : Contains args a = Contains-get_or args k d m in
          let (before, sorted) = fits.2 a has in
          again a before (within r.exprs a sorted.1) (λ c q. reads c (inside e a op index args is has q)))

  -- a driven cell holds where those before it in the order do
  by_order : (n k : ℕ) → k < n → k < length r.order → C (slice_index r.order k)
  by_order zero k l in' = absurd (omega arith)
  by_order (suc n) k l in' =
      let d = sound.order.driven k in' in
      passes.driven (slice_index r.order k) d.0 d.1 d.2 (λ t has is.
      let (guard_fits, (_, _, value_fits, _)) = sound.transfers t has in (
        by_index (suc t.guard) t.guard (omega arith) (within r.exprs t.guard guard_fits.1)
            (λ c q. by_cell c (λ j m e. by_order n j (omega arith) e)
            (λ y at driven. sound.order.after k c in' (t, y, has, is, at, driven, inl q))
            (read_in r sound c t.guard q)),
        by_index (suc t.value) t.value (omega arith) (within r.exprs t.value value_fits.1)
            (λ c q. by_cell c (λ j m e. by_order n j (omega arith) e)
            (λ y at driven. sound.order.after k c in' (t, y, has, is, at, driven, inr q))
            (read_in r sound c t.value q)),
      ))
    where
      by_cell : (c : ℕ) → ((j : ℕ) → j < k → j < length r.order → C (slice_index r.order j))
          → ((y : cells.Cell) → IsAt r.cells c y → is_driven y.kind ≡ true
          → (j : ℕ) × (j < k) × (slice_index r.order j ≡ c)) → c < length r.cells → C c
      by_cell c again before m =
          by_kind (some_entry r.cells c m).0 (some_entry r.cells c m).1 (is_driven (some_entry r.cells c m).0.kind) refl
        where
          by_kind : (y : cells.Cell) → IsAt r.cells c y → (b : Bool) → is_driven y.kind ≡ b → C c
          by_kind y at false e = passes.base c y at e
          by_kind y at true e = let j = before y at e in subst C j.2 (again j.0 j.1 (let m = j.1 in omega (arith, m)))

  all_cells : (c : ℕ) → c < length r.cells → C c
  all_cells c l =
      by_kind (some_entry r.cells c l).0 (some_entry r.cells c l).1 (is_driven (some_entry r.cells c l).0.kind) refl
    where
      by_kind : (y : cells.Cell) → IsAt r.cells c y → (b : Bool) → is_driven y.kind ≡ b → C c
      by_kind y at false e = passes.base c y at e
      by_kind y at true e = let k = sound.order.all c y at e in subst C k.2 (by_order (suc k.0) k.0 (omega arith) k.1)

  pub reached : Reached r E C
  reached = record {
    cells = all_cells;
    exprs =
        λ e l. by_index (suc e) e (omega arith) l (λ c q. all_cells c (read_in r sound c e q));
  }
