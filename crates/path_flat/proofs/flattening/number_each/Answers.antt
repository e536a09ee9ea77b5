use Rattle.std.proofs.Common.{get_or, length, ◌∙◌, subst}
use Rattle.path_flat.specs.declared.places.Place.{Place}
use Rattle.path_flat.specs.Numbered.{IsNumberedTo}
use Rattle.path_flat.specs.Numbers.{number_of, spot_of}
use Rattle.path_flat.proofs.Here.{all_here, has_room, is_here, own_added, own_fed, own_ready, own_within, shape_kept}
use Rattle.path_flat.proofs.Room.{room_end, room_more, room_start}
use Rattle.path_flat.proofs.Stepping.{numbered_more, numbered_start}
use Rattle.path_flat.proofs.flattening.number_each.Goals as goal

pub loop-place-init : goal.loop-place-init
loop-place-init c =
    let p = c.args.path.now in
    record {
      shape = c.requires.shape;
      numbered = numbered_start p c.args.net.now (number_of c.args.numbers.now) c.requires.empty;
      room = room_start p c.args.net.now c.requires.empty;
    }

pub add-requires-clause-inside : goal.add-requires-clause-inside
add-requires-clause-inside c =
    let d : Place = record { band = 0; net = 0 } in
    (is_here c.args.path.now c.args.places.now c.loop-place.place-index d c.requires.places
    c.loop-place-test.true).part.band

pub add-requires-clause-there : goal.add-requires-clause-there
add-requires-clause-there c =
    let d : Place = record { band = 0; net = 0 } in
    let i = c.loop-place.place-index in
    own_within c.args.path.now i (get_or c.args.places.now i d)
    (is_here c.args.path.now c.args.places.now i d c.requires.places c.loop-place-test.true)
    c.net_of-own.result.now c.net_of-own.ensures

pub add-requires-clause-fed : goal.add-requires-clause-fed
add-requires-clause-fed c =
    let d : Place = record { band = 0; net = 0 } in
    let i = c.loop-place.place-index in
    own_fed c.args.path.now i (get_or c.args.places.now i d)
    (is_here c.args.path.now c.args.places.now i d c.requires.places c.loop-place-test.true)
    c.net_of-own.result.now c.net_of-own.ensures

pub add-requires-clause-ready : goal.add-requires-clause-ready
add-requires-clause-ready c =
    let d : Place = record { band = 0; net = 0 } in
    let i = c.loop-place.place-index in
    let place = get_or c.args.places.now i d in
    let v = c.loop-place.invariant in
    own_ready c.args.path.now i place
    (is_here c.args.path.now c.args.places.now i d c.requires.places c.loop-place-test.true)
    c.net_of-own.result.now c.net_of-own.ensures c.source-source.result
    (c.source-source.ensures ∙ c.requires.sources place.band place.net)
    c.loop-place.net (number_of c.loop-place.numbers) v.numbered v.room

pub set-requires : goal.set-requires
set-requires c =
    let d : Place = record { band = 0; net = 0 } in
    let i = c.loop-place.place-index in
    let h = is_here c.args.path.now c.args.places.now i d c.requires.places c.loop-place-test.true in
    record {
      inside = has_room c.args.path.now (spot_of (get_or c.args.places.now i d)) h.e c.loop-place.numbers h.part
          c.loop-place.invariant.shape;
    }

pub loop-place-preserved : goal.loop-place-preserved
loop-place-preserved c =
    let p = c.args.path.now in
    let d : Place = record { band = 0; net = 0 } in
    let i = c.loop-place.place-index in
    let place = get_or c.args.places.now i d in
    let h = is_here p c.args.places.now i d c.requires.places c.loop-place-test.true in
    let v = c.loop-place.invariant in
    let of = number_of c.loop-place.numbers in
    let added = own_added p i place h c.net_of-own.result.now c.net_of-own.ensures c.source-source.result
    (c.source-source.ensures ∙ c.requires.sources place.band place.net)
    c.loop-place.net c.add.new.net of c.in_ok-id.id c.in_ok-id.ensures in
    record {
      shape = shape_kept p.width (length p.control) (length p.slices.net) c.loop-place.numbers c.set.new.self v.shape
          c.set.ensures.shape;
      numbered = numbered_more p i c.loop-place.net of v.numbered (spot_of place) h.e h.is h.place_rank c.add.new.net
          c.in_ok-id.id added (number_of c.set.new.self) c.set.ensures.told c.set.ensures.others;
      room = room_more p i c.loop-place.net (spot_of place) h.e v.room h.is h.place_rank of c.add.new.net
          c.in_ok-id.id
          added;
    }

pub returns-clause-numbered : goal.returns-clause-numbered
returns-clause-numbered c =
    let p = c.args.path.now in
    let all = all_here p c.args.places.now c.loop-place.place-index c.requires.places
    c.loop-place.auto.place-index-end c.loop-place-test.false in
    subst (λ t. IsNumberedTo p t 0 c.loop-place.net (number_of c.loop-place.numbers)) all
    c.loop-place.invariant.numbered

pub returns-clause-few : goal.returns-clause-few
returns-clause-few c =
    room_end c.args.path.now c.loop-place.place-index c.loop-place.net c.loop-place.invariant.room
