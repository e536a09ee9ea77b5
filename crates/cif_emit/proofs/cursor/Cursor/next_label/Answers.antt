use Rattle.std.proofs.Common.{◌+◌, ◌∷◌, sym, ◌∙◌, ap, subst, map, drop}
use Rattle.cif_form.specs.Fits.{Fits}
use Rattle.cif_emit.specs.Emittable.{IsPlainLabel}
use Rattle.cif_emit.specs.Commands.{label_of}
use Rattle.cif_emit.proofs.Words.{label_fits}
use Rattle.cif_emit.proofs.Cursors.{label_here}
use Rattle.cif_emit.proofs.cursor.Cursor.next_label.Goals as goal

pub returns-in_ok-label-clause-gives : goal.returns-in_ok-label-clause-gives
returns-in_ok-label-clause-gives c =
    let labels = c.args.labels.now in
    let at = c.args.at in
    let label = c.index-labels-at.result in
    let plain : IsPlainLabel label = subst IsPlainLabel (sym c.index-labels-at.is)
    (c.requires.names at label c.if-at-labels.true) in (
      subst Fits (sym c.in_ok-label.ensures) (label_fits label plain),
      label_here labels at label c.if-at-labels.true
          ∙ ap (λ b. b ∷ map label_of (drop (at + 1) labels))
          (ap label_of (sym c.index-labels-at.is) ∙ sym c.in_ok-label.ensures),
    )
