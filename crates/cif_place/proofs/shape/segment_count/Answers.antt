use Rattle.std.proofs.Common.{sym, arith}
use Rattle.cif_place.proofs.Shapes.{segments_one, segments_more}
use Rattle.cif_place.proofs.shape.segment_count.Goals as goal

pub returns-then-path-eq1 : goal.returns-then-path-eq1
returns-then-path-eq1 c = sym (segments_one c.args.path.now (omega arith))

pub returns-else-path-eq1 : goal.returns-else-path-eq1
returns-else-path-eq1 c = sym (segments_more c.args.path.now (omega arith))
