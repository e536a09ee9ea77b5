use Rattle.std.proofs.Common.{◌≡◌, ◌∙◌, ◌<◌, ◌+◌, ◌-◌, ℕ, arith, ap, drop, length, map, reverse, sym, subst}
use Rattle.std.specs.Prelude.{slice_get, slice_index_or}
use Rattle.mp_base.proofs.Entries.{entry}
use Rattle.mp_written.specs.declared.program.Expr.{Expr}
use Rattle.mp_written.specs.declared.program.ExprKind.{ExprKind}
use Rattle.mp_written.specs.Laying.{arity, laid, laid_kind}
use Rattle.expansion.specs.declared.item.Piece.{Piece}
use Rattle.expansion.specs.Templates.{kind_at}
use Rattle.expansion.specs.Walking.{piece_of}
use Rattle.expansion.proofs.Layouts.{laid_more, piece_inside}
use Rattle.expansion.proofs.layout.lay.Goals as goal

pub loop-i-preserved : goal.loop-i-preserved
loop-i-preserved c =
    let exprs = c.args.exprs.now in
    let ps = c.args.pieces.now in
    let none : Piece = record { expr = 0; place = record { offset = 0; line = 0; column = 0 } } in
    let i : ℕ = c.loop-i.i - 1 in
    let positive = c.loop-i-test.true in
    let below = c.loop-i.auto.i in
    let lt : i < length ps = omega (arith, positive, below) in
    let next : c.loop-i.i ≡ i + 1 = omega (arith, positive) in
    let p = slice_index_or ps i none in
    let x = c.index-exprs-piece.result in
    let here = entry exprs p.expr (piece_inside (length exprs) ps i none c.requires.inside lt) c.index-exprs-piece.is in
    let kind : kind_at (slice_get exprs p.expr) ≡ (slice_index_or exprs p.expr x).kind =
    ap kind_at here ∙ ap (λ (y : Expr). y.kind) c.index-exprs-piece.is in
    let stack = reverse c.loop-i.stack.items in
    let both = laid_more exprs ps i none c.loop-i.backward.items c.push.new.self.items c.loop-i.stack.items
    c.laid_kind.new.stack.items c.push-in-loop-i.new.self.items c.in_ok-kind.kind lt
    (subst (λ j. reverse c.loop-i.backward.items ≡ (laid j (drop j (map (piece_of exprs) ps))).exprs) next
    c.loop-i.invariant.exprs)
    (subst (λ j. stack ≡ (laid j (drop j (map (piece_of exprs) ps))).tops) next c.loop-i.invariant.tops)
    (c.in_ok-kind.ensures.laid ∙ ap (λ (k : ExprKind). laid_kind k stack) (sym kind))
    (c.in_ok-kind.ensures.left ∙ ap (λ (k : ExprKind). drop (arity k) stack) (sym kind))
    c.in_ok-push.ensures.items c.in_ok-push-2.ensures.items in
    record { exprs = both.0; tops = both.1 }
