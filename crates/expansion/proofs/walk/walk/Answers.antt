use Rattle.std.proofs.Common.{◌≡◌, ◌∙◌, ◌<◌, ◌+◌, ◌-◌, ℕ, arith, ap, length, rules, sym, subst, ◌++◌, ◌∷◌, []}
use Rattle.std.specs.List.{flat_map}
use Rattle.mp_written.specs.Pieces.{pieces}
use Rattle.expansion.specs.Walking.{AddsPieces, HavePieces, tops_before}
use Rattle.expansion.proofs.Scopes.{ready_top}
use Rattle.expansion.proofs.Walking.{begin_short, have_more, have_same, have_size, starts_more, top_flag, top_in}
use Rattle.expansion.proofs.walk.walk.Goals.{then-at+in_ok-items+in_ok-add, else-at}
use Rattle.expansion.proofs.walk.walk.Goals as goal

pub overflow_cast-len : goal.overflow_cast-len
overflow_cast-len c =
    let w = c.args.program.now in
    let e : ℕ = c.loop-expr.expr in
    let below = c.loop-expr-test.true in
    let count : c.in-Ok.count ≡ length w.exprs = search rules in
    let size = have_size w e c.loop-expr.pieces c.loop-expr.invariant.pieces in
    let short = begin_short w e (length w.exprs - e) (omega (arith, below, count)) in
    let few = c.requires.few in
    let is : c.len-in-loop-expr.result ≡ length c.loop-expr.pieces = c.len-in-loop-expr.ensures in
    omega (arith, size, short, few, is)

pub top_word-requires-clause-ready : goal.top_word-requires-clause-ready
top_word-requires-clause-ready c =
    let w = c.args.program.now in
    let e : ℕ = c.loop-expr.expr in
    let below = c.loop-expr-test.true in
    let count : c.in-Ok.count ≡ length w.exprs = search rules in
    let lt : e < length w.exprs = omega (arith, below, count) in
    let here = sym (top_flag w c.in_ok-tops.tops c.in_ok-tops.ensures e lt c.at.result.now c.at.ensures)
    ∙ c.if-at.true in
    ready_top w c.args.meanings.now c.requires.meant c.requires.lawful c.args.slots.now c.requires.made.each e
    (top_in w e here lt) (let size = c.requires.made.as_many in omega (arith, size))

pub top_word-requires-clause-top : goal.top_word-requires-clause-top
top_word-requires-clause-top c =
    let w = c.args.program.now in
    let e : ℕ = c.loop-expr.expr in
    let below = c.loop-expr-test.true in
    let count : c.in-Ok.count ≡ length w.exprs = search rules in
    let lt : e < length w.exprs = omega (arith, below, count) in
    let here = sym (top_flag w c.in_ok-tops.tops c.in_ok-tops.ensures e lt c.at.result.now c.at.ensures)
    ∙ c.if-at.true in
    top_in w e here lt

pub loop-expr-preserved : goal.loop-expr-preserved
loop-expr-preserved c =
    let w = c.args.program.now in
    let e : ℕ = c.loop-expr.expr in
    let below = c.loop-expr-test.true in
    let count : c.in-Ok.count ≡ length w.exprs = search rules in
    let lt : e < length w.exprs = omega (arith, below, count) in
    let flag = top_flag w c.in_ok-tops.tops c.in_ok-tops.ensures e lt c.at.result.now c.at.ensures in
    let size = have_size w e c.loop-expr.pieces c.loop-expr.invariant.pieces in
    let more : HavePieces w.exprs (flat_map (pieces w) (tops_before w (e + 1))) c.if-at.pieces = elim c.if-at.branch [
      | then-at+in_ok-items+in_ok-add v ↦
          (let adds = subst (λ items. AddsPieces w.exprs e items c.loop-expr.pieces v.add.new.pieces) v.as_slice.ensures
          v.in_ok-add.ensures in
          subst (HavePieces w.exprs (flat_map (pieces w) (tops_before w (e + 1)))) (sym v.pieces-is)
          (have_more w e v.in_ok-items.items c.loop-expr.pieces v.add.new.pieces v.in_ok-items.ensures
          c.loop-expr.invariant.pieces adds (sym flag ∙ v.if-at.true)))
      | else-at v ↦
          subst (HavePieces w.exprs (flat_map (pieces w) (tops_before w (e + 1)))) (sym v.pieces-is)
          (have_same w e c.loop-expr.pieces c.loop-expr.invariant.pieces (sym flag ∙ v.if-at.false))
    ] in
    record {
      starts =
          c.in_ok-push.ensures.ok ∙ ap (λ n. c.loop-expr.starts ++ n ∷ []) (c.len-in-loop-expr.ensures ∙ size)
          ∙ starts_more w e c.loop-expr.starts c.loop-expr.invariant.starts;
      pieces = more;
    }
