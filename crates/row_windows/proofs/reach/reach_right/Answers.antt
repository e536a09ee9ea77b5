use Rattle.std.proofs.Common.{inl, refl}
use Rattle.kept_runs.specs.Kept.{colours_of}
use Rattle.row_windows.proofs.Reaching.{has_here, stops}
use Rattle.row_windows.proofs.reach.reach_right.Goals as goal

-- src/reach.rt
pub returns-in-Some-clause-right : goal.returns-in-Some-clause-right
returns-in-Some-clause-right c =
    let s = c.in-Some.ensures.some in
    has_here (colours_of c.args.kept.now) c.args.cell c.in-Some.run' s.0 s.1 s.2

-- src/reach.rt
pub returns-in-Some-clause-within : goal.returns-in-Some-clause-within
returns-in-Some-clause-within c =
    stops (colours_of c.args.kept.now) _ c.in-Some.run' c.in-Some.ensures.some.0 c.requires.guarded

-- src/reach.rt
pub returns-in-None-clause-right : goal.returns-in-None-clause-right
returns-in-None-clause-right c = inl (refl, c.in-None.ensures.none.0 refl)
