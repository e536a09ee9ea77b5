-- How much a fabric may hold.
use Rattle.std.specs.Prelude.{ℕ, ◌<◌, length, sum}
use Rattle.fabric.specs.declared.limits.TheConstants.{LIMIT}
use Rattle.fabric.specs.Plan.{Plan, IsFabric}

-- a fabric holds fewer than this of each
abbrev pub limit : ℕ
limit = LIMIT

pub record IsRoomy (f : Plan) : Type 0 where
  pub columns_fit : f.columns < limit
  pub bands_fit : length f.rows < limit
  pub rows_fit : sum f.rows < limit
  pub segments_fit : length f.segments < limit
  pub lines_fit : length f.lines < limit
  pub marks_fit : length f.marks < limit

-- what every fabric keeps
pub record IsKept (f : Plan) : Type 0 where
  pub met : IsFabric f
  pub roomy : IsRoomy f
