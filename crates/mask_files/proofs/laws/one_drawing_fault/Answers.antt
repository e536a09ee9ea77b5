use Rattle.std.specs.FinMap.{get}
use Rattle.outside.specs.Outside.{bytes_of}
use Rattle.mask_files.specs.declared.limits.TheConstants.{MASK_LIMIT}
use Rattle.mask_net.specs.Masks.{OfDrawing}
use Rattle.outcome.proofs.Determined.{one_of_file}
use Rattle.mask_files.proofs.laws.one_drawing_fault.Goals as goal

pub returns : goal.returns
returns c = λ cif files. one_of_file MASK_LIMIT OfDrawing cif (get files cif) (c.one_drawing_verdict.ensures (bytes_of files cif))
