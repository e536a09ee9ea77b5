use Rattle.std.proofs.Common.{get_or, subst}
use Rattle.path_flat.specs.declared.places.Place.{Place}
use Rattle.path_flat.specs.Numbered.{IsNumberedTo, total}
use Rattle.path_flat.specs.Numbers.{number_of}
use Rattle.path_flat.proofs.Here.{all_here, is_here, own_within}
use Rattle.path_flat.proofs.Takes.{own_may, own_next}
use Rattle.path_flat.proofs.flattening.feed_all.Goals as goal

pub feed-requires-clause-there : goal.feed-requires-clause-there
feed-requires-clause-there c =
    let d : Place = record { band = 0; net = 0 } in
    let i = c.loop-place.place-index in
    own_within c.args.path.now i (get_or c.args.places.now i d)
    (is_here c.args.path.now c.args.places.now i d c.requires.places c.loop-place-test.true)
    c.net_of-own.result.now c.net_of-own.ensures

pub feed-requires-clause-may : goal.feed-requires-clause-may
feed-requires-clause-may c =
    let d : Place = record { band = 0; net = 0 } in
    let i = c.loop-place.place-index in
    own_may c.args.path.now c.requires.numbered.shapes i (get_or c.args.places.now i d)
    (is_here c.args.path.now c.args.places.now i d c.requires.places c.loop-place-test.true)
    c.loop-place.net (number_of c.args.numbers.now) c.loop-place.invariant.numbered
    c.net_of-own.result.now c.net_of-own.ensures

pub loop-place-preserved : goal.loop-place-preserved
loop-place-preserved c =
    let d : Place = record { band = 0; net = 0 } in
    let i = c.loop-place.place-index in
    let next = own_next c.args.path.now c.requires.numbered.shapes i (get_or c.args.places.now i d)
    (is_here c.args.path.now c.args.places.now i d c.requires.places c.loop-place-test.true)
    c.loop-place.net (number_of c.args.numbers.now) c.loop-place.invariant.numbered
    c.net_of-own.result.now c.feed.new.net c.net_of-own.ensures c.loop-place.invariant.few c.feed.ensures in
    record { numbered = next.numbered; few = next.few }

pub returns : goal.returns
returns c =
    let p = c.args.path.now in
    let v = c.loop-place.invariant in
    let all = all_here p c.args.places.now c.loop-place.place-index c.requires.places
    c.loop-place.auto.place-index-end c.loop-place-test.false in
    record {
      shapes = c.requires.numbered.shapes;
      numbered = subst (λ u. IsNumberedTo p (total p.order) u c.loop-place.net (number_of c.args.numbers.now)) all
          v.numbered;
      few = v.few;
    }
