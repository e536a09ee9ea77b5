-- An expansion that isn't too heavy is nested no deeper than a program may be.
use Rattle.std.proofs.Common.{◌≡◌, ℕ, ◌*◌, ◌≤◌, List, [], ◌∷◌, arith, length, true}
use Rattle.std.specs.List.{sum_by}
use Rattle.std.proofs.lemmas.List.Sums.{sum_by-cons}
use Rattle.mp_base.specs.declared.op.Op.{Op}
use Rattle.mp_base.specs.declared.op.Op.TheVariants as ops
use Rattle.mp_program.specs.Weight.{op_weight}
use Rattle.mp_program.specs.Tree.{are_low, expr_heights}
use Rattle.mp_written.specs.declared.program.ExprKind.{ExprKind}
use Rattle.mp_written.specs.declared.program.ExprKind.TheVariants.{Number, Named, True, False, Apply, Use}
use Rattle.mp_written.specs.declared.program.Expr.{Expr}
use Rattle.mp_written.specs.declared.program.Program.{Program}
use Rattle.mp_written.specs.Expansion.{all_pieces}
use Rattle.mp_written.specs.Laying.{laid}
use Rattle.mp_written.specs.Weight.{piece_weight, weight}
use Rattle.expansion_laws.proofs.Heights.{operators, is_operator, are_low_laid}

two : (op : Op) (n : ℕ) → 2 ≤ op_weight op n
two ops.Add n = omega arith
two ops.Sub n = omega arith
two ops.Inc n = omega arith
two ops.Dec n = omega arith
two ops.WordAnd n = omega arith
two ops.WordOr n = omega arith
two ops.WordXor n = omega arith
two ops.WordNot n = omega arith
two ops.Left n = omega arith
two ops.Right n = omega arith
two ops.And n = omega arith
two ops.Or n = omega arith
two ops.Nor n = omega arith
two ops.Nand n = omega arith
two ops.Xor n = omega arith
two ops.Not n = omega arith
two ops.Bit n = omega arith
two ops.Zero n = omega arith
two ops.Equal n = omega arith
two ops.Less n = omega arith

kind_pays : (w : Program) (k : ExprKind) → 2 * is_operator k ≤ piece_weight w k
kind_pays w (Number n) = omega arith
kind_pays w (Named x) = omega arith
kind_pays w True = omega arith
kind_pays w False = omega arith
kind_pays w (Apply op k os) = let t = two op (length os) in omega (arith, t)
kind_pays w (Use at x os) = omega arith

operators_pay : (w : Program) (xs : List Expr) → 2 * operators xs ≤ sum_by (λ (x : Expr). piece_weight w x.kind) xs
operators_pay w [] = omega arith
operators_pay w (x ∷ xs) =
    let rest = operators_pay w xs in
    let here = kind_pays w x.kind in
    omega (arith, rest, here, sum_by-cons (λ (y : Expr). piece_weight w y.kind) x xs)

pub expansion_low : (w : Program) → weight w ≤ 1024 → are_low (expr_heights (laid 0 (all_pieces w)).exprs) ≡ true
expansion_low w light =
    let pay = operators_pay w (all_pieces w) in
    are_low_laid (all_pieces w) (omega (arith, pay, light))
