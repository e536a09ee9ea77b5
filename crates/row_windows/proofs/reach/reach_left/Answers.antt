use Rattle.std.proofs.Common.{◌≡◌, ◌-◌, inl, refl, subst, arith}
use Rattle.kept_runs.specs.Kept.{colours_of}
use Rattle.row_windows.proofs.Reaching.{has_before}
use Rattle.row_windows.proofs.reach.reach_left.Goals as goal

-- src/reach.rt
pub returns-in-Some-clause-left : goal.returns-in-Some-clause-left
returns-in-Some-clause-left c =
    let s = c.in-Some.ensures.some in
    has_before (colours_of c.args.kept.now) c.args.cell c.in-Some.run' s.0 s.1 (omega arith) s.2

-- src/reach.rt
pub returns-in-None-clause-left : goal.returns-in-None-clause-left
returns-in-None-clause-left c =
    let z = c.in-None.ensures.none.0 refl in
    inl (refl, λ d e. let q : c.args.cell - 1 ≡ d = omega arith in subst (λ n. colours_of c.args.kept.now n ≡ 0) q z)
