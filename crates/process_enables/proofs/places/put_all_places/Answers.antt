use Rattle.std.proofs.Common.{◌≡◌, ◌+◌, ◌<◌, ℕ, List, length, rules, arith, sym, subst}
use Rattle.process_enables.specs.Places.{PutsAllPlaces}
use Rattle.process_enables.proofs.Placing.{all_more}
use Rattle.process_enables.proofs.places.put_all_places.Goals as goal

pub loop-process-preserved : goal.loop-process-preserved
loop-process-preserved c =
    let p = c.args.program.now in
    let roles = c.args.layout.now.roles in
    let xs = c.args.layout.now.cells in
    let k : ℕ = c.loop-process.process in
    let more = c.put_places.new.exprs in
    let count : c.in-Ok.count ≡ length p.processes = search rules in
    let below = c.loop-process-test.true in
    let lt : k < length p.processes = omega (arith, below, count) in
    let P : List (List ℕ) → Type 0 = λ ess. PutsAllPlaces p roles xs (k + 1) c.args.exprs.now more ess in
    subst P (sym c.in_ok-push.ensures.ok)
    (all_more p roles xs k c.args.exprs.now c.loop-process.exprs more c.loop-process.all c.in_ok-places.places lt
    c.loop-process.invariant c.in_ok-places.ensures)
