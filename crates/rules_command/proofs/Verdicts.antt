-- What is shown of a file of masks.
use Rattle.std.proofs.Common.{◌≡◌, ℕ, List, [], refl, Option, Some, None, IfSome}
use Rattle.outside.specs.Outside.{Files, bytes_of}
use Rattle.lam_geom.specs.declared.rect.Rect.{Rect}
use Rattle.lam_geom.specs.declared.label.FlatLabel.{FlatLabel}
use Rattle.lam_geom.specs.Squares.{covered}
use Rattle.mask_net.specs.Masks.{IsDrawing}
use Rattle.design_rules.specs.declared.judging.Verdict.{Verdict}
use Rattle.design_rules.specs.Verdicts.{IsVerdict}
use Rattle.rules_command.specs.Lines.{verdict_line}
use Rattle.rules_command.specs.Work.{work}

pub shows_verdict : (cif text : List ℕ) (shapes : List Rect) (labels : List FlatLabel) (verdict : Verdict)
    (held : Option Files) → IsVerdict (covered shapes) verdict → text ≡ verdict_line verdict
    → IfSome held (λ files. IsDrawing (bytes_of files cif) shapes labels)
    → IfSome held (λ files. (work cif).Shows files [] text)
shows_verdict cif text shapes labels verdict None judged line drawn = tt
shows_verdict cif text shapes labels verdict (Some files) judged line drawn = (
  refl,
  record { shapes = shapes; labels = labels; drawn = drawn; verdict = verdict; judged = judged; line = line },
)
