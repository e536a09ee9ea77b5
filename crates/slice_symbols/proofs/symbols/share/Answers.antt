use Rattle.std.proofs.Common.{arith, get_or, ◌∷◌, ◌++◌, [], ◌∙◌, ap}
use Rattle.std.specs.Prelude.{pos}
use Rattle.std.proofs.lemmas.Option.{slice_get-get_or}
use Rattle.lam_geom.specs.declared.layer.Layer.TheVariants.{ND}
use Rattle.slice_symbols.specs.declared.standing.Standing.{Standing}
use Rattle.slice_symbols.proofs.Parted.{all_parted, none_parted, one_parted, rest_parted}
use Rattle.slice_symbols.proofs.symbols.share.Goals as goal

-- what a place behind the last has
no_standing : Standing
no_standing = record { first = record { layer = ND; x0 = pos 0; y0 = pos 0; x1 = pos 0; y1 = pos 0 }; band = 0 }

pub loop-at-init : goal.loop-at-init
loop-at-init c = none_parted c.args.bands c.args.standing.now c.args.rest.now c.new-common.result c.new-common.ensures

pub loop-at-preserved-then-are_alike : goal.loop-at-preserved-then-are_alike
unfolding no_standing
loop-at-preserved-then-are_alike c =
    let standing = c.args.standing.now in
    let at = c.loop-at.at in
    one_parted c.args.bands standing c.args.rest.now c.requires.some c.requires.ascending at c.loop-at.common
    c.loop-at.rest c.loop-at.invariant (get_or standing at no_standing).first c.push.new.self c.in_ok-push.ensures.ok
    c.if-are_alike.ensures

pub loop-at-preserved : goal.loop-at-preserved
unfolding no_standing
loop-at-preserved c =
    let standing = c.args.standing.now in
    let at = c.loop-at.at in
    let s : Standing = get_or standing at no_standing in
    rest_parted c.args.bands standing c.args.rest.now c.requires.some c.requires.ascending at c.loop-at.common
    c.loop-at.rest c.loop-at.invariant s c.push-else-are_alike.new.self
    (slice_get-get_or standing at no_standing c.loop-at-test.true)
    (c.requires.of_bands at no_standing c.loop-at-test.true).band c.if-are_alike.ensures
    (c.in_ok-push-2.ensures.ok ∙ ap (λ r. c.loop-at.rest ++ r ∷ []) c.own.ensures)

pub returns : goal.returns
returns c =
    all_parted c.args.bands c.args.standing.now c.args.rest.now c.loop-at.at c.loop-at.common c.loop-at.rest
    (let t = c.loop-at-test.false in omega (arith, t)) c.loop-at.invariant
