use Rattle.std.proofs.Common.{sym, subst, arith, take, All}
use Rattle.std.proofs.lemmas.List.{take_more, take_all}
use Rattle.std.proofs.lemmas.List.Elements.{All-push, Contains-get_or}
use Rattle.cif_form.specs.Walk.{IsWholePoint}
use Rattle.cif_place.specs.Placing.{scale_of}
use Rattle.cif_place.proofs.point.are_whole.Goals as goal

pub returns-then-not-is_whole-clause-uneven : goal.returns-then-not-is_whole-clause-uneven
returns-then-not-is_whole-clause-uneven c = (
  _,
  Contains-get_or c.args.path.now c.loop-index.index _ c.loop-index-test.true,
  c.if-not-is_whole.ensures.uneven,
)

pub loop-index-preserved : goal.loop-index-preserved
loop-index-preserved c =
    let W = IsWholePoint (scale_of c.args.ratio) in
    subst (All W) (sym (take_more c.args.path.now c.loop-index.index _ c.loop-index-test.true))
    (All-push W (take c.loop-index.index c.args.path.now) _ c.loop-index.invariant c.if-not-is_whole.ensures.whole)

pub returns-clause-whole : goal.returns-clause-whole
returns-clause-whole c =
    subst (All (IsWholePoint (scale_of c.args.ratio)))
    (take_all c.loop-index.index c.args.path.now (omega (arith, c.loop-index-test.false))) c.loop-index.invariant
