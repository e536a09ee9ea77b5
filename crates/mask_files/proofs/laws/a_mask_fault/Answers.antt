use Rattle.std.specs.FinMap.{get}
use Rattle.outside.specs.Outside.{bytes_of}
use Rattle.mask_files.specs.declared.limits.TheConstants.{MASK_LIMIT}
use Rattle.mask_net.specs.Masks.{OfMask}
use Rattle.stages.proofs.Existence.{some_of_file}
use Rattle.mask_files.proofs.laws.a_mask_fault.Goals as goal

pub returns : goal.returns
returns c = λ cif files.
    some_of_file MASK_LIMIT OfMask cif (get files cif) (c.file_verdict.ensures (bytes_of files cif))
