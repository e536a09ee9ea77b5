use Rattle.std.proofs.Common.{sym, subst₂}
use Rattle.fabric.specs.Places.{HasUpTo, IsLastUpTo}
use Rattle.fabric.proofs.Lookups.{segment_up_to, segment_found}
use Rattle.fabric.proofs.fabric.Fabric.segment_number.Goals as goal

pub last_up_to-requires-clause-some : goal.last_up_to-requires-clause-some
last_up_to-requires-clause-some c =
    let m = c.args.m.now in
    subst₂ (λ entries key. HasUpTo entries key) (sym c.as_slice-2.ensures.value) (sym c.row_key-key.ensures)
    (segment_up_to c.args.self.now c.conditions.ensures.met c.conditions.ensures.room c.args.places.now.segments.items
    c.requires.places.segments m.band m.row m.column c.requires.there)

pub returns : goal.returns
returns c =
    let last = subst₂ (λ entries key. IsLastUpTo entries key c.last_up_to.result) c.as_slice-2.ensures.value
    c.row_key-key.ensures c.last_up_to.ensures in
    segment_found c.args.self.now c.conditions.ensures.met c.conditions.ensures.room
    c.args.places.now.segments.items c.requires.places.segments c.args.m.now c.requires.there c.last_up_to.result last
