use Rattle.std.proofs.Common.{◌≡◌, ◌∙◌, ◌<◌, ◌+◌, Bool, false, List, length, ap, sym, subst, arith, rules, get_or}
use Rattle.std.proofs.Common.{cond, None}
use Rattle.std.specs.Prelude.{min}
use Rattle.written_counts.specs.Counts.{counted}
use Rattle.written_counts.specs.Tallies.{IsReady, cost}
use Rattle.written_counts.proofs.Tallied.{ready_top}
use Rattle.written_counts.proofs.Totalled.{top_at, total_begun, total_next, total_all}
use Rattle.written_counts.proofs.counts.total.Goals as goal

pub loop-e-init : goal.loop-e-init
loop-e-init c =
    let k = c.args.counting.now in
    total_begun k.measure k.program.now k.cap c.in_ok-sum.sum c.in_ok-sum.ensures

pub add_top-requires-clause-ready : goal.add_top-requires-clause-ready
add_top-requires-clause-ready c top =
    let k = c.args.counting.now in
    let w = k.program.now in
    let e = c.loop-e.e in
    let index : c.in-Ok.expr ≡ e = search rules in
    let flags = c.in_ok-flags.flags in
    let lt = c.loop-e-test.true in
    let all = ap (λ (bs : List Bool). length bs) c.as_slice-is_top-items.ensures in
    let size = (c.in_ok-flags.ensures).size in
    let inside : e < length w.exprs = omega (arith, lt, all, size) in
    let is = sym (ap (λ (bs : List Bool). get_or bs e false) c.as_slice-is_top-items.ensures) ∙ top in
    subst (IsReady k.measure w k.meanings.now k.cap k.costs.now c.in_ok-tallies.tallies None) (sym index)
    (ready_top k.measure w k.meanings.now k.cap k.costs.now c.requires.meant c.requires.costs c.in_ok-tallies.tallies e
    (top_at w flags e c.in_ok-flags.ensures inside is) inside c.in_ok-tallies.ensures)

pub loop-e-preserved : goal.loop-e-preserved
loop-e-preserved c =
    let k = c.args.counting.now in
    let w = k.program.now in
    let e = c.loop-e.e in
    let index : c.in-Ok.expr ≡ e = search rules in
    let flags = c.in_ok-flags.flags in
    let lt = c.loop-e-test.true in
    let all = ap (λ (bs : List Bool). length bs) c.as_slice-is_top-items.ensures in
    let size = (c.in_ok-flags.ensures).size in
    let f = counted (cost k.measure w) w in
    total_next k.measure w k.cap e flags c.loop-e.sum c.add_top.new.sum c.in_ok-flags.ensures
    (let inside : e < length w.exprs = omega (arith, lt, all, size) in inside)
    (c.add_top.ensures.own
    ∙ ap (λ (bs : List Bool). min k.cap ((c.loop-e.sum).own + cond (get_or bs e false) (f c.in-Ok.expr) 0))
    c.as_slice-is_top-items.ensures
    ∙ ap (λ x. min k.cap ((c.loop-e.sum).own + cond (get_or flags e false) (f x) 0)) index)
    c.add_top.ensures.vacant c.loop-e.invariant

pub returns : goal.returns
returns c =
    let k = c.args.counting.now in
    let le = c.loop-e-test.false in
    let end = c.loop-e.auto.e-end in
    let all = ap (λ (bs : List Bool). length bs) c.as_slice-is_top-items.ensures in
    let size = (c.in_ok-flags.ensures).size in
    total_all k.measure k.program.now k.cap c.loop-e.e c.loop-e.sum (omega
    (arith, le, end, all, size)) c.loop-e.invariant
