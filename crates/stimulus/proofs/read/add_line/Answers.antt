use Rattle.std.proofs.Common.{◌≡◌, List, [], ◌∷◌, sym, ◌∙◌, subst, inl}
use Rattle.std.specs.Option.{option_copied}
use Rattle.stimulus_lines.specs.declared.piece.Piece.{Piece}
use Rattle.stimulus_lines.specs.Words.{kept_before}
use Rattle.stimulus.specs.Reading.{FirstBroken}
use Rattle.stimulus.proofs.Adding.{fault_weaker}
use Rattle.std.proofs.lemmas.Bool.{cond-false}
use Rattle.stimulus.proofs.read.add_line.Goals as goal

pub returns-clause-err : goal.returns-clause-err
returns-clause-err c =
    let kept : kept_before c.args.words.now [] ≡ c.args.words.now ∷ [] =
    cond-false _ _ _ (sym c.is_skipped.ensures ∙ c.if-is_skipped.false) in
    fault_weaker _ _ _
    (λ k at h. let Q : List (List Piece)
    → Type 0 = λ ls. FirstBroken (option_copied c.args.known) c.args.reading.now ls k at in subst Q (sym kept) (inl h))
    c.add.ensures.err
