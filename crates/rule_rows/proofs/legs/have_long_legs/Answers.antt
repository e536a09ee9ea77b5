-- Pair by pair.
use Rattle.std.proofs.Common.{refl, sym, subst, take, get_or}
use Rattle.std.specs.Prelude.{All}
use Rattle.std.proofs.lemmas.List.{take_all, take_more}
use Rattle.std.proofs.lemmas.List.Elements.{All-push}
use Rattle.rule_rows.specs.Closed.{PairFits}
use Rattle.rule_rows.proofs.Leading.{no_pair}
use Rattle.rule_rows.proofs.legs.have_long_legs.Goals as goal

pub loop-pair-preserved : goal.loop-pair-preserved
loop-pair-preserved c =
    let n = c.loop-pair.pair-index in
    let all = c.args.pairs.now in
    let fits = PairFits c.args.tiles.now in
    subst (All fits) (sym (take_more all n no_pair c.loop-pair-test.true))
    (All-push fits (take n all) (get_or all n no_pair) c.loop-pair.invariant
    (c.if-not-fits_leg.ensures refl, c.if-not-fits_leg-2.ensures refl))

pub returns : goal.returns
returns c = λ e.
    subst (All (PairFits c.args.tiles.now))
    (take_all c.loop-pair.pair-index c.args.pairs.now c.loop-pair-test.false) c.loop-pair.invariant
