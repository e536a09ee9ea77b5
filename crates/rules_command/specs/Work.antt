-- What a verdict owes.
use Rattle.std.specs.Prelude.{◌≡◌, ℕ, List, [], None}
use Rattle.outside.specs.Outside.{bytes_of}
use Rattle.lam_geom.specs.declared.rect.Rect.{Rect}
use Rattle.lam_geom.specs.declared.label.FlatLabel.{FlatLabel}
use Rattle.lam_geom.specs.Squares.{covered}
use Rattle.mask_net.specs.Masks.{IsDrawing}
use Rattle.outcome.specs.Work.{Work}
use Rattle.mask_files.specs.Faults.{DrawingFault}
use Rattle.design_rules.specs.declared.judging.Verdict.{Verdict}
use Rattle.design_rules.specs.Verdicts.{IsVerdict}
use Rattle.rules_command.specs.Lines.{verdict_line}

-- the text is the line of the verdict on what the masks draw
pub record IsRulesOf (masks text : List ℕ) : Type 0 where
  pub shapes : List Rect
  pub labels : List FlatLabel
  pub drawn : IsDrawing masks shapes labels
  pub verdict : Verdict
  pub judged : IsVerdict (covered shapes) verdict
  pub line : text ≡ verdict_line verdict

-- the rules of texts and of drawing; then the line of the verdict, and no file
abbrev pub work : List ℕ → Work
work cif = record {
  First = DrawingFault cif;
  target = None;
  Shows = λ files chip text. (chip ≡ []) × IsRulesOf (bytes_of files cif) text;
}
