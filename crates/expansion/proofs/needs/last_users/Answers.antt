use Rattle.std.proofs.Common.{◌≡◌, ◌<◌, ◌-◌, ℕ, arith, length, rules}
use Rattle.mp_base.proofs.Entries.{entry}
use Rattle.expansion.proofs.Scopes.{body_inside}
use Rattle.expansion.proofs.needs.last_users.Goals as goal

pub visit-requires-then-read-gt0-clause-inside : goal.visit-requires-then-read-gt0-clause-inside
visit-requires-then-read-gt0-clause-inside c =
    let m = c.args.meanings.now in
    let count : c.in-Ok.functions ≡ length m.bodies = search rules in
    let positive = c.loop-function-test.true in
    let most = c.loop-function.auto.function in
    let k : ℕ = c.loop-function.function - 1 in
    let lt : k < length m.bodies = omega (arith, count, positive, most) in
    body_inside c.args.program.now m c.requires k c.at-then-read-gt0.result.now
    (entry m.bodies k lt c.at-then-read-gt0.ensures)
