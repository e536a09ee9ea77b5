use Rattle.std.proofs.Common.{◌≡◌, ◌+◌, ◌∷◌, ◌++◌, [], ℕ, arith, rules, sym, subst, suc}
use Rattle.std.specs.Prelude.{Some, slice_index_or}
use Rattle.mp_base.specs.Entries.{IsAt}
use Rattle.written_meanings.specs.declared.functions.Body.{Body}
use Rattle.written_counts.specs.Tallies.{AreTallies, IsOpen, IsReady, Adds, count_at}
use Rattle.written_counts.proofs.Tallied.{body_at, body_entry, open_body, ready_body, tallies_more, tally_of}
use Rattle.written_counts.proofs.tally.function_tallies.Goals as goal

pub add_expr-requires : goal.add_expr-requires
add_expr-requires c =
    let g = c.args.counting.now in
    let w = g.program.now in
    let ms = g.meanings.now in
    let ts = c.loop-body.tallies in
    let k : ℕ = c.loop-body.body-index in
    let none : Body = record { args = 0; expr = 0 } in
    let b = slice_index_or c.as_slice-body-items.result.now k none in
    let at : IsAt ms.bodies k b = subst (λ bs. IsAt bs k b) c.as_slice-body-items.ensures
    (body_at c.as_slice-body-items.result.now k none c.loop-body-test.true) in
    let (f, here, same, args) = body_entry w ms c.requires.meant k b at in
    let number = c.loop-body.invariant.number in record {
      ready = subst (λ e. IsReady g.measure w ms g.cap g.costs.now ts (Some c.loop-body.function) e) same
          (subst (λ j. IsReady g.measure w ms g.cap g.costs.now ts (Some j) f.body) (sym number)
          (ready_body g.measure w ms g.cap g.costs.now c.requires.meant c.requires.costs ts k f here
          c.loop-body.invariant.tallies));
      vacant = subst (λ j. IsOpen g.cap w (Some j) c.in_ok-sum.sum) (sym number)
          (open_body w g.cap k f b.args c.in_ok-sum.sum here args c.in_ok-sum.ensures);
    }

pub loop-body-preserved : goal.loop-body-preserved
loop-body-preserved c =
    let g = c.args.counting.now in
    let w = g.program.now in
    let ms = g.meanings.now in
    let ts = c.loop-body.tallies in
    let k : ℕ = c.loop-body.body-index in
    let none : Body = record { args = 0; expr = 0 } in
    let b = slice_index_or c.as_slice-body-items.result.now k none in
    let at : IsAt ms.bodies k b = subst (λ bs. IsAt bs k b) c.as_slice-body-items.ensures
    (body_at c.as_slice-body-items.result.now k none c.loop-body-test.true) in
    let (f, here, same, args) = body_entry w ms c.requires.meant k b at in
    let number = c.loop-body.invariant.number in
    let empty = c.in_ok-sum.sum in
    let sum = c.add_expr.new.sum in
    let added : Adds g.cap 1 (count_at g.measure w (Some k) f.body) empty sum =
    subst (λ e. Adds g.cap 1 (count_at g.measure w (Some k) e) empty sum) (sym same)
    (subst (λ j. Adds g.cap 1 (count_at g.measure w (Some j) b.expr) empty sum) number c.add_expr.ensures) in
    let more = tallies_more g.measure w g.cap k ts f sum here c.loop-body.invariant.tallies
    (tally_of g.cap b.args (count_at g.measure w (Some k) f.body) empty sum c.in_ok-sum.ensures added) in
    let next : suc k ≡ k + 1 = omega arith in
    record {
      number = (let up : c.in_ok-function.function ≡ c.loop-body.function + 1 = search rules in
          omega (arith, up, number));
      tallies = subst (AreTallies g.measure w g.cap (k + 1)) (sym c.in_ok-push.ensures.ok)
          (subst (λ n. AreTallies g.measure w g.cap n (ts ++ sum ∷ [])) next more);
    }
