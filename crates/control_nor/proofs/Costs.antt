-- The costs of the three rounds are parts of the cost of transfers.
use Rattle.std.proofs.Common.{◌≡◌, ℕ, ◌+◌, ◌<◌, ◌≤◌, ◌^◌, List, [], ◌∷◌}
use Rattle.std.proofs.Common.{Option, Some, None, Bool, true, false, length, replicate, refl, ◌∙◌, ap}
use Rattle.std.proofs.Common.{arith}
use Rattle.std.specs.Prelude.{not, ◌&&◌, if◌then◌else◌, slice_get}
use Rattle.std.specs.List.{sum_by}
use Rattle.std.specs.Option.{option_map_or}
use Rattle.std.proofs.lemmas.List.Sums.{sum_by-cons, sum_by-le-sum_by}
use Rattle.rtl_form.specs.declared.rtl.Cell as cells
use Rattle.rtl_form.specs.declared.rtl.CellKind.{CellKind}
use Rattle.rtl_form.specs.declared.rtl.CellKind.TheVariants as kinds
use Rattle.rtl_form.specs.declared.rtl.Transfer.{Transfer}
use Rattle.rtl_form.specs.declared.rtl.RtlExpr.{RtlExpr}
use Rattle.rtl_form.specs.declared.rtl.RtlExpr.TheVariants as exprs
use Rattle.rtl_form.specs.declared.rtl.Rtl.{Rtl}
use Rattle.rtl_form.specs.Cost.{cell_cost, cost, expr_cost, op_cost, target_cost, transfer_cost}
use Rattle.rtl_form.specs.Environment.{is_driven, is_stored}
use Rattle.rtl_form.specs.Operands.{gives_word}
use Rattle.bit_gates.specs.declared.rails.Rails.{Rails}
use Rattle.control_nor.specs.declared.names.Bits.{Bits}
use Rattle.bit_gates.specs.Cells.{first_cost, latch_cost}
use Rattle.control_nor.specs.NextValues.{next_cost, next_left, stored_count, stored_from}
use Rattle.control_nor.specs.Progress.{cost_left, driven_cost, left_by, wait_of, waits}
use Rattle.bit_gates.specs.Size.{bit_cell_cost, bit_cost, bit_expr_cost, bit_transfer_cost}

sum_three : {X : Type 0} (f g h k : X → ℕ) → ((x : X) → f x + g x + h x ≤ k x) → (xs : List X)
    → sum_by f xs + sum_by g xs + sum_by h xs ≤ sum_by k xs
sum_three f g h k each [] = omega arith
sum_three f g h k each (x ∷ xs) =
    let a = sum_by-cons f x xs in let b = sum_by-cons g x xs in let c = sum_by-cons h x xs in
    let d = sum_by-cons k x xs in
    let e = each x in let r = sum_three f g h k each xs in omega (arith, a, b, c, d, e, r)

sum_two : {X : Type 0} (f g k : X → ℕ) → ((x : X) → f x + g x ≤ k x) → (xs : List X)
    → sum_by f xs + sum_by g xs ≤ sum_by k xs
sum_two f g k each [] = omega arith
sum_two f g k each (x ∷ xs) =
    let a = sum_by-cons f x xs in let b = sum_by-cons g x xs in let d = sum_by-cons k x xs in
    let e = each x in let r = sum_two f g k each xs in omega (arith, a, b, d, e, r)

left_most : {X : Type 0} (f : X → ℕ) (os : List (Option Rails)) (xs : List X) → left_by f os xs ≤ sum_by f xs
left_most f [] xs = omega arith
left_most f (o ∷ os) [] = omega arith
left_most f (None ∷ os) (x ∷ xs) = let c = sum_by-cons f x xs in let r = left_most f os xs in omega (arith, c, r)
left_most f (Some q ∷ os) (x ∷ xs) = let c = sum_by-cons f x xs in let r = left_most f os xs in omega (arith, c, r)

pub left_all : {X : Type 0} (f : X → ℕ) (xs : List X) → left_by f (replicate (length xs) None) xs ≡ sum_by f xs
left_all f [] = refl
left_all f (x ∷ xs) = let c = sum_by-cons f x xs in let r = left_all f xs in omega (arith, c, r)

-- a cell
cell_parts : (x : cells.Cell) → first_cost x + driven_cost x + next_cost x ≤ bit_cell_cost x
cell_parts x = by_kind x.word x.kind
  where
    by_kind : (word : Bool) (kind : CellKind)
        → (if word then 0 else latch_cost kind)
        + ((if is_driven kind && not word then 1 else 0) + (if is_driven kind && not word then 1 else 0))
        + (if not word && is_stored kind then 5 else 0)
        ≤ (if word then 0 else cell_cost kind)
    by_kind true (kinds.Input k) = omega arith
    by_kind true (kinds.Output k) = omega arith
    by_kind true kinds.Inner = omega arith
    by_kind true kinds.Stored = omega arith
    by_kind false (kinds.Input k) = omega arith
    by_kind false (kinds.Output k) = omega arith
    by_kind false kinds.Inner = omega arith
    by_kind false kinds.Stored = omega arith

-- a transfer
wait_most : (o : Option (Option Rails)) (p : Option cells.Cell)
    → wait_of o p + stored_count p ≤ (if not (option_map_or (λ (x : cells.Cell). x.word) p false) then 1 else 0)
wait_most None None = omega arith
wait_most (Some None) None = omega arith
wait_most (Some (Some q)) None = omega arith
wait_most None (Some x) = by_kind x.word x.kind
  where
    by_kind : (word : Bool) (kind : CellKind) → 0 + (if not word && is_stored kind then 1 else 0) ≤
        (if not word then 1 else 0)
    by_kind true kind = omega arith
    by_kind false (kinds.Input k) = omega arith
    by_kind false (kinds.Output k) = omega arith
    by_kind false kinds.Inner = omega arith
    by_kind false kinds.Stored = omega arith
wait_most (Some (Some q)) (Some x) = by_kind x.word x.kind
  where
    by_kind : (word : Bool) (kind : CellKind) → 0 + (if not word && is_stored kind then 1 else 0) ≤
        (if not word then 1 else 0)
    by_kind true kind = omega arith
    by_kind false (kinds.Input k) = omega arith
    by_kind false (kinds.Output k) = omega arith
    by_kind false kinds.Inner = omega arith
    by_kind false kinds.Stored = omega arith
wait_most (Some None) (Some x) = by_kind x.word x.kind
  where
    by_kind : (word : Bool) (kind : CellKind)
        → (if is_driven kind && not word then 1 else 0) + (if not word && is_stored kind then 1 else 0) ≤
        (if not word then 1 else 0)
    by_kind true (kinds.Input k) = omega arith
    by_kind true (kinds.Output k) = omega arith
    by_kind true kinds.Inner = omega arith
    by_kind true kinds.Stored = omega arith
    by_kind false (kinds.Input k) = omega arith
    by_kind false (kinds.Output k) = omega arith
    by_kind false kinds.Inner = omega arith
    by_kind false kinds.Stored = omega arith

transfer_parts : (xs : List cells.Cell) (os : List (Option Rails)) (t : Transfer)
    → waits xs os t + stored_from xs 0 t ≤ bit_transfer_cost xs t
transfer_parts xs os t =
    let w = wait_most (slice_get os t.target) (slice_get xs t.target) in
    let z : stored_from xs 0 t ≡ stored_count (slice_get xs t.target) =
    ap (λ b. if b then stored_count (slice_get xs t.target) else 0)
    (Rattle.std.proofs.lemmas.Bool.le-leb 0 t.target (omega arith)) in
    omega (arith, w, z)

-- the three rounds together
pub rounds : (r : Rtl) (bits : Bits) → bits.exprs ≡ replicate (length r.exprs) None
    → sum_by first_cost r.cells + cost_left r bits + next_left r 0 ≤ bit_cost r
rounds r bits e =
    let c = sum_three first_cost driven_cost next_cost bit_cell_cost cell_parts r.cells in
    let l = left_most driven_cost bits.cells r.cells in
    let x = ap (λ os. left_by bit_expr_cost os r.exprs) e ∙ left_all bit_expr_cost r.exprs in
    let t = sum_two (waits r.cells bits.cells) (stored_from r.cells 0) (bit_transfer_cost r.cells)
    (transfer_parts r.cells bits.cells) r.transfers in
    let d : sum_by next_cost (Rattle.std.proofs.Common.drop 0 r.cells) ≡ sum_by next_cost r.cells = refl in
    omega (arith, c, l, x, t, d)

-- and those of bits are a part of all
expr_most : (x : RtlExpr) → bit_expr_cost x ≤ expr_cost x
expr_most (exprs.Number n) = omega arith
expr_most (exprs.Truth b) = omega arith
expr_most (exprs.Cell c) = omega arith
expr_most (exprs.Apply op index args) = by_word (gives_word op)
  where
    by_word : (b : Bool) → (if b then 0 else op_cost op (length args)) ≤ op_cost op (length args)
    by_word true = omega arith
    by_word false = omega arith

cell_most : (x : cells.Cell) → bit_cell_cost x ≤ cell_cost x.kind
cell_most x = by_word x.word
  where
    by_word : (b : Bool) → (if b then 0 else cell_cost x.kind) ≤ cell_cost x.kind
    by_word true = omega arith
    by_word false = omega arith

transfer_most : (xs : List cells.Cell) (t : Transfer) → bit_transfer_cost xs t ≤ transfer_cost xs t
transfer_most xs t = by_word (option_map_or (λ (x : cells.Cell). x.word) (slice_get xs t.target) false)
  where
    by_word : (b : Bool) → (if not b then 1 else 0) ≤ target_cost b
    by_word true = omega arith
    by_word false = omega arith

pub bit_cost_most : (r : Rtl) → bit_cost r ≤ cost r
bit_cost_most r =
    let a = sum_by-le-sum_by bit_cell_cost (λ (x : cells.Cell). cell_cost x.kind) r.cells cell_most in
    let b = sum_by-le-sum_by bit_expr_cost expr_cost r.exprs expr_most in
    let c = sum_by-le-sum_by (bit_transfer_cost r.cells) (transfer_cost r.cells) r.transfers (transfer_most r.cells) in
    omega (arith, a, b, c)

pub few_cells : (r : Rtl) → cost r ≤ 1024 → length r.cells < 2 ^ 32
few_cells r l = let a = each_two r.cells in omega (arith, a, l)
  where
    kind_two : (k : CellKind) → 2 ≤ cell_cost k
    kind_two (kinds.Input k) = omega arith
    kind_two (kinds.Output k) = omega arith
    kind_two kinds.Inner = omega arith
    kind_two kinds.Stored = omega arith

    each_two : (xs : List cells.Cell) → length xs ≤ sum_by (λ (x : cells.Cell). cell_cost x.kind) xs
    each_two [] = omega arith
    each_two (x ∷ xs) =
        let c = sum_by-cons (λ (x : cells.Cell). cell_cost x.kind) x xs in let r = each_two xs in
        let k = kind_two x.kind in
        omega (arith, c, r, k)
