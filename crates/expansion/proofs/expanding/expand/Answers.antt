use Rattle.std.proofs.Common.{◌∙◌, ◌<◌, arith, ap, length, refl, sym, subst}
use Rattle.std.specs.List.{AllByRecursion}
use Rattle.expansion.specs.declared.item.Piece.{Piece}
use Rattle.expansion.proofs.Parts.{exprs_laid, few, forms_moved, lawful, parts_fit, pieces_few}
use Rattle.expansion.proofs.expanding.expand.Goals as goal

pub templates-requires-clause-lawful : goal.templates-requires-clause-lawful
templates-requires-clause-lawful c = lawful c.args.program c.requires.unbroken

pub walk-requires-clause-lawful : goal.walk-requires-clause-lawful
walk-requires-clause-lawful c = lawful c.args.program c.requires.unbroken

pub walk-requires-clause-few : goal.walk-requires-clause-few
walk-requires-clause-few c = few c.args.program c.requires.unbroken

pub lay-requires-clause-inside : goal.lay-requires-clause-inside
lay-requires-clause-inside c =
    let all = c.in_ok-walked.ensures.pieces.inside in
    let moved = subst (λ xs. AllByRecursion (λ (p : Piece). p.expr < length xs) c.in_ok-walked.walked.pieces)
    (sym c.as_slice.ensures) all in
    subst (λ ps. AllByRecursion (λ (p : Piece). p.expr < length c.as_slice.result.now) ps)
    (sym c.as_slice-2.ensures) moved

pub lay-requires-clause-few : goal.lay-requires-clause-few
lay-requires-clause-few c =
    let w = c.args.program in
    let size = ap length c.as_slice-2.ensures ∙ pieces_few w c.in_ok-walked.walked.pieces
    c.in_ok-walked.ensures.pieces in
    let most = few w c.requires.unbroken in
    omega (arith, size, most)

pub invariant_of-result : goal.invariant_of-result
invariant_of-result c =
    let w = c.args.program in
    let exprs = exprs_laid w c.as_slice.result.now c.as_slice-2.result.now c.in_ok-walked.walked.pieces
    c.in_ok-exprs.exprs
    c.in_ok-exprs.ensures c.as_slice.ensures c.as_slice-2.ensures c.in_ok-walked.ensures.pieces in
    let forms = c.in_ok-forms.ensures ∙ forms_moved w c.as_slice-3.result.now
    (c.as_slice-3.ensures ∙ c.in_ok-walked.ensures.starts) in
    let fit = parts_fit w c.requires.unbroken (
      w.place,
      w.name,
      w.width,
      c.in_ok-defs.defs,
      c.in_ok-exprs.exprs,
      c.in_ok-forms.forms,
      w.always,
      w.processes,
    ) refl refl refl c.in_ok-defs.ensures exprs forms refl refl in
    record { fits = fit.0; tree = fit.1 }

pub returns : goal.returns
returns c =
    let w = c.args.program in
    record {
      place = refl;
      name = refl;
      width = refl;
      defs = c.in_ok-defs.ensures;
      exprs = exprs_laid w c.as_slice.result.now c.as_slice-2.result.now c.in_ok-walked.walked.pieces
          c.in_ok-exprs.exprs
          c.in_ok-exprs.ensures c.as_slice.ensures c.as_slice-2.ensures c.in_ok-walked.ensures.pieces;
      forms = c.in_ok-forms.ensures ∙ forms_moved w c.as_slice-3.result.now
          (c.as_slice-3.ensures ∙ c.in_ok-walked.ensures.starts);
      always = refl;
      processes = refl;
    }
