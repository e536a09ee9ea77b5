use Rattle.std.proofs.Common.{◌≡◌, ◌∙◌, ◌+◌, ◌*◌, ℕ, List, [], arith, sym, ap, subst, refl, take, take_all, get_or, map}
use Rattle.std.specs.Prelude.{slice_index, slice_index_or, min}
use Rattle.mp_base.proofs.Entries.{entry}
use Rattle.mp_written.specs.declared.program.ExprKind.TheVariants.{Apply, Use}
use Rattle.mp_written.specs.Functions.{functions, function_index}
use Rattle.written_meanings.specs.Meanings.{usable}
use Rattle.written_counts.specs.Counts.{count_through, sum_of, no_count, function_counts}
use Rattle.written_counts.specs.Tallies.{Adds, cost, count_at, usable_count}
use Rattle.written_counts.proofs.Adding.{adds_same, adds_capped, adds_no_copy, operator_more, use_more}
use Rattle.written_counts.proofs.Readiness.{number_in, leaf_kind, operand_behind, operand_ready, leaf_room, leaf_adds}
use Rattle.written_counts.proofs.Readiness.{operator_is, use_is, function_there, function_gone, nothing_through}
use Rattle.written_counts.proofs.Readiness.{use_first, function_tally}
use Rattle.written_counts.proofs.tally.+tallied.Goals.{add_use-then-more-gt0, add_use-else-more-gt0}
use Rattle.written_counts.proofs.tally.+tallied.Goals as goal

pub add_expr-add_operator-requires : goal.add_expr-add_operator-requires
add_expr-add_operator-requires t c =
    let w = c.args.counting.now.program.now in
    let lt = c.requires.ready.inside in (
      omega (arith, lt),
      (
        c.requires.ready,
        (
          c.requires.vacant,
          (
            c.in-Apply.op,
            c.in-Apply.index,
            (
              c.at.result.now,
              entry w.exprs c.args.expr lt c.at.ensures,
              c.in-Apply.is ∙ ap (Apply c.in-Apply.op c.in-Apply.index) (sym c.as_slice.ensures),
            ),
          ),
        ),
      ),
    )

pub add_expr-add_use-requires : goal.add_expr-add_use-requires
add_expr-add_use-requires t c =
    let w = c.args.counting.now.program.now in
    let lt = c.requires.ready.inside in (
      omega (arith, lt),
      (
        c.requires.ready,
        (
          c.requires.vacant,
          (
            c.in-Use.at,
            c.in-Use.name,
            (
              c.at.result.now,
              entry w.exprs c.args.expr lt c.at.ensures,
              c.in-Use.is ∙ ap (Use c.in-Use.at c.in-Use.name) (sym c.as_slice-in-Use.ensures),
            ),
          ),
        ),
      ),
    )

pub add_expr-add-requires : goal.add_expr-add-requires
add_expr-add-requires t c =
    let g = c.args.counting.now in
    let ready = c.requires.ready in
    let lt = ready.inside in
    let many = ready.as_many in record {
      capped = c.requires.vacant.capped;
      room = leaf_room g.measure g.program.now g.meanings.now g.cap g.costs.now c.args.tallies.now c.args.owner
          c.args.expr
          ready c.at.result.now c.at-in_default.result.now c.args.sum.now
          (entry g.program.now.exprs c.args.expr lt c.at.ensures)
          (entry g.meanings.now.exprs c.args.expr (omega (arith, lt, many)) c.at-in_default.ensures) c.requires.vacant;
    }

pub add_expr-returns-in_default : goal.add_expr-returns-in_default
add_expr-returns-in_default t c =
    let g = c.args.counting.now in
    let ready = c.requires.ready in
    let lt = ready.inside in
    let many = ready.as_many in
    leaf_adds g.measure g.program.now g.meanings.now g.cap g.costs.now c.args.tallies.now c.args.owner c.args.expr ready
    c.at.result.now c.at-in_default.result.now c.args.copies c.args.sum.now c.add.new.sum
    (entry g.program.now.exprs c.args.expr lt c.at.ensures)
    (entry g.meanings.now.exprs c.args.expr (omega (arith, lt, many)) c.at-in_default.ensures)
    (leaf_kind c.at.result.now.kind c.in_default.not-Apply c.in_default.not-Use) c.add.ensures

pub add_operator-loop-arg-init : goal.add_operator-loop-arg-init
add_operator-loop-arg-init t c =
    let cost_of : ℕ = slice_index c.args.counting.now.costs.now c.args.expr in
    adds_same c.args.counting.now.cap c.args.copies _ (sum_of cost_of []) c.args.sum.now c.add.new.sum c.add.ensures
    (let e : cost_of ≡ cost_of + 0 = omega arith in e) (λ i. refl)

pub add_operator-add_expr-requires : goal.add_operator-add_expr-requires
add_operator-add_expr-requires t c =
    let g = c.args.counting.now in
    let ready = c.requires.ready in
    let (op, j, kind) = c.requires.kind in
    let args = c.args.args.now in
    let i : ℕ = c.loop-arg.arg-index in
    let a : ℕ = get_or args i 0 in
    let here = number_in args i c.loop-arg-test.true in
    let (above, below) = operand_behind g.measure g.program.now g.meanings.now g.cap g.costs.now c.args.tallies.now
    c.args.owner c.args.expr ready (Apply op j args) a kind here in
    let room = c.requires.vacant.room in
    let size = c.loop-arg.invariant.size in (
      omega (arith, above, below),
      (
        operand_ready g.measure g.program.now g.meanings.now g.cap g.costs.now c.args.tallies.now c.args.owner
            c.args.expr
            ready (Apply op j args) a kind here,
        record {
          capped = adds_capped g.cap c.args.copies _ c.args.sum.now c.loop-arg.sum c.loop-arg.invariant;
          room = omega (arith, room, size);
        },
      ),
    )

pub add_operator-loop-arg-preserved : goal.add_operator-loop-arg-preserved
add_operator-loop-arg-preserved t c =
    let g = c.args.counting.now in
    operator_more g.cap c.args.copies (slice_index g.costs.now c.args.expr)
    (count_at g.measure g.program.now c.args.owner)
    c.args.args.now c.loop-arg.arg-index c.args.sum.now c.loop-arg.sum c.add_expr.new.sum c.loop-arg-test.true
    c.loop-arg.invariant c.add_expr.ensures

pub add_operator-returns : goal.add_operator-returns
add_operator-returns t c =
    let g = c.args.counting.now in
    let w = g.program.now in
    let (op, j, kind) = c.requires.kind in
    let args = c.args.args.now in
    let all = take_all c.loop-arg.arg-index args (omega (arith, c.loop-arg-test.false)) in
    let is = operator_is g.measure w g.meanings.now g.cap g.costs.now c.args.tallies.now c.args.owner c.args.expr
    c.requires.ready op j args kind in
    subst (λ d. Adds g.cap c.args.copies d c.args.sum.now c.loop-arg.sum)
    (ap (λ os. sum_of (slice_index g.costs.now c.args.expr) (map (count_at g.measure w c.args.owner) os)) all ∙ is)
    c.loop-arg.invariant

pub add_use-returns-in_default : goal.add_use-returns-in_default
add_use-returns-in_default t c =
    let g = c.args.counting.now in
    let w = g.program.now in
    let ready = c.requires.ready in
    let lt = ready.inside in
    let many = ready.as_many in
    let (place, name, kind) = c.requires.kind in
    let args = c.args.args.now in
    let gone = function_gone g.measure w g.meanings.now g.cap g.costs.now c.args.tallies.now c.args.owner
    c.args.expr ready
    place name args kind c.at.result.now (entry g.meanings.now.exprs c.args.expr (omega (arith, lt, many)) c.at.ensures)
    c.in_default.is in
    let is = use_is g.measure w g.meanings.now g.cap g.costs.now c.args.tallies.now c.args.owner c.args.expr ready
    place name
    args kind in
    subst (λ d. Adds g.cap c.args.copies d c.args.sum.now c.args.sum.now)
    (ap (λ f. count_through f (map (count_at g.measure w c.args.owner) args)) (sym gone) ∙ is)
    (nothing_through g.cap c.args.copies (map (count_at g.measure w c.args.owner) args) c.args.sum.now
    c.requires.vacant.capped)

pub add_use-at-of-requires : goal.add_use-at-of-requires
add_use-at-of-requires t c =
    let g = c.args.counting.now in
    let ready = c.requires.ready in
    let lt = ready.inside in
    let many = ready.as_many in
    let (place, name, kind) = c.requires.kind in
    (function_there g.measure g.program.now g.meanings.now g.cap g.costs.now c.args.tallies.now c.args.owner c.args.expr
    ready place name c.args.args.now kind c.at.result.now
    (entry g.meanings.now.exprs c.args.expr (omega (arith, lt, many)) c.at.ensures) c.in-Some.function c.in-Some.is).1

pub add_use-loop-i-init : goal.add_use-loop-i-init
add_use-loop-i-init t c = λ place name kind.
    let g = c.args.counting.now in
    let ready = c.requires.ready in
    let lt = ready.inside in
    let many = ready.as_many in
    use_first g.cap c.args.copies _ c.at-of.result.now c.args.sum.now c.times.result c.plus-sum.result
    c.requires.vacant.capped
    (function_tally g.measure g.program.now g.meanings.now g.cap g.costs.now c.args.tallies.now c.args.owner c.args.expr
    ready place name c.args.args.now kind c.at.result.now
    (entry g.meanings.now.exprs c.args.expr (omega (arith, lt, many)) c.at.ensures) c.in-Some.function c.in-Some.is
    c.at-of.result.now c.at-of.ensures)
    c.times.ensures c.plus-sum.ensures

pub add_use-add_expr-requires : goal.add_use-add_expr-requires
add_use-add_expr-requires t c =
    let g = c.args.counting.now in
    let ready = c.requires.ready in
    let (place, name, kind) = c.requires.kind in
    let args = c.args.args.now in
    let i : ℕ = c.loop-i.i in
    let a : ℕ = get_or args i 0 in
    let here = number_in args i c.loop-i-test.true in
    let (above, below) = operand_behind g.measure g.program.now g.meanings.now g.cap g.costs.now c.args.tallies.now
    c.args.owner c.args.expr ready (Use place name args) a kind here in
    let room = c.requires.vacant.room in
    let adds = c.loop-i.invariant place name kind in
    let size = adds.size in (
      omega (arith, above, below),
      (
        operand_ready g.measure g.program.now g.meanings.now g.cap g.costs.now c.args.tallies.now c.args.owner
            c.args.expr
            ready (Use place name args) a kind here,
        record {
          capped = adds_capped g.cap c.args.copies _ c.args.sum.now c.loop-i.sum adds;
          room = omega (arith, room, size);
        },
      ),
    )

pub add_use-loop-i-preserved : goal.add_use-loop-i-preserved
add_use-loop-i-preserved t c = λ place name kind.
    let g = c.args.counting.now in
    let w = g.program.now in
    let ready = c.requires.ready in
    let lt = ready.inside in
    let many = ready.as_many in
    let f = slice_index_or (function_counts (cost g.measure w) w.exprs (functions w) (usable_count w c.args.owner))
    (function_index (usable (functions w) c.args.owner) name) no_count in
    let i : ℕ = c.loop-i.i in
    let args = c.args.args.now in
    let counts = count_at g.measure w c.args.owner in
    let now = count_through f (map counts (take (i + 1) args)) in
    let adds = c.loop-i.invariant place name kind in
    let is = function_tally g.measure w g.meanings.now g.cap g.costs.now c.args.tallies.now c.args.owner
    c.args.expr ready
    place name c.args.args.now kind c.at.result.now
    (entry g.meanings.now.exprs c.args.expr (omega (arith, lt, many)) c.at.ensures) c.in-Some.function c.in-Some.is
    c.at-of.result.now c.at-of.ensures in
    let more = c.times-more.ensures
    ∙ ap (λ n. min g.cap (c.args.copies * n))
    (c.read.ensures ∙ ap (λ (xs : List ℕ). slice_index xs c.loop-i.i) c.as_slice.ensures ∙ is.times c.loop-i.i) in
    elim c.if-more-gt0.branch [
      | add_use-then-more-gt0 b ↦
          subst (λ s. Adds g.cap c.args.copies now c.args.sum.now s) (sym b.sum-is)
          (use_more g.cap c.args.copies c.times-more.result f counts args i
          c.args.sum.now c.loop-i.sum b.add_expr.new.sum c.loop-i-test.true more adds b.add_expr.ensures)
      | add_use-else-more-gt0 b ↦
          subst (λ s. Adds g.cap c.args.copies now c.args.sum.now s) (sym b.sum-is)
          (use_more g.cap c.args.copies c.times-more.result f counts args i
          c.args.sum.now c.loop-i.sum c.loop-i.sum c.loop-i-test.true more adds
          (let zero : c.times-more.result ≡ 0 = omega (arith, b.if-more-gt0.false) in
          subst (λ k. Adds g.cap k (counts (get_or args i 0)) c.loop-i.sum c.loop-i.sum) (sym zero)
          (adds_no_copy g.cap (counts (get_or args i 0)) c.loop-i.sum
          (adds_capped g.cap c.args.copies (count_through f (map counts
          (take i args))) c.args.sum.now c.loop-i.sum adds))))
    ]

pub add_use-returns : goal.add_use-returns
add_use-returns t c =
    let g = c.args.counting.now in
    let w = g.program.now in
    let (place, name, kind) = c.requires.kind in
    let args = c.args.args.now in
    let f = slice_index_or (function_counts (cost g.measure w) w.exprs (functions w) (usable_count w c.args.owner))
    (function_index (usable (functions w) c.args.owner) name) no_count in
    let all = take_all c.loop-i.i args (omega (arith, c.loop-i-test.false)) in
    let is = use_is g.measure w g.meanings.now g.cap g.costs.now c.args.tallies.now c.args.owner c.args.expr
    c.requires.ready place name args kind in
    subst (λ d. Adds g.cap c.args.copies d c.args.sum.now c.loop-i.sum)
    (ap (λ os. count_through f (map (count_at g.measure w c.args.owner) os)) all ∙ is)
    (c.loop-i.invariant place name kind)
