use Rattle.std.proofs.Common.{ℕ, List, inl, inr, Option, Some, None}
use Rattle.mp_base.specs.declared.refusal.Broken.{Broken}
use Rattle.std.specs.FinMap.{get}
use Rattle.outside.specs.Outside.{bytes_of}
use Rattle.mask_files.specs.declared.limits.TheConstants.{MASK_LIMIT}
use Rattle.mask_net.specs.Masks.{OfDrawing, OfMask}
use Rattle.stages.proofs.Existence.{some_of_file}
use Rattle.mask_files.proofs.laws.a_drawing_fault.Goals as goal

-- what is judged of masks is judged of the drawing
of_mask : (bytes : List ℕ) (o : Option Broken) → OfMask bytes o → (v : Option Broken) × OfDrawing bytes v
of_mask bytes None m = (None, (m.1.shapes, m.1.labels, m.1.drawing))
of_mask bytes (Some b) (inl text) = (Some b, inl text)
of_mask bytes (Some b) (inr (inl drawing)) = (Some b, inr drawing)
of_mask bytes (Some b) (inr (inr mask)) = (None, (mask.0, mask.1, mask.2))

drawing_judged : (bytes : List ℕ) → ((o : Option Broken) × OfMask bytes o) → (v : Option Broken) × OfDrawing bytes v
drawing_judged bytes m = of_mask bytes m.0 m.1

pub returns : goal.returns
returns c = λ cif files.
    some_of_file MASK_LIMIT OfDrawing cif (get files cif) (drawing_judged (bytes_of files cif) (c.file_verdict.ensures (bytes_of files cif)))
