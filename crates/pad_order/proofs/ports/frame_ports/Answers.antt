use Rattle.std.proofs.Common.{ℕ, List, ◌≡◌, ◌<◌, ◌≤◌, ◌^◌, length, map, get_or, All, ap, sym, subst, refl, ◌∙◌, arith}
use Rattle.pad_frame.specs.declared.frames.PadWish.{PadWish}
use Rattle.pad_frame.specs.declared.frames.PadSpot.{PadSpot}
use Rattle.pad_frame.specs.Frames.{AreFramed, AreWishes}
use Rattle.pad_order.specs.declared.order.Entry.{Entry}
use Rattle.pad_order.specs.declared.ports.Port.{Port}
use Rattle.pad_order.specs.Entries.{AreDistinct, AreTold, no_spot, wish_at}
use Rattle.pad_order.proofs.Entries.{as_many, distinct, each}
use Rattle.pad_order.proofs.Placing.{are_wishes, frame_is, places_in}
use Rattle.pad_order.proofs.ports.frame_ports.Goals as goal

pub wishes_of-requires : goal.wishes_of-requires
wishes_of-requires c =
    let ps : List Port = c.args.ports.now in
    subst (λ (es : List Entry). All (λ (e : Entry). e.number < length ps) es) (sym c.deref.ensures.value)
    (λ j d lt. (each ps c.in_ok-entries.entries.items c.in_ok-entries.ensures.permuted j d lt).there)

pub places-requires-clause-few : goal.places-requires-clause-few
places-requires-clause-few c =
    let ps : List Port = c.args.ports.now in
    let l = as_many ps c.in_ok-entries.entries.items c.in_ok-entries.ensures.permuted in
    let few = c.requires.few in
    subst (λ (es : List Entry). length es ≤ 2 ^ 20) (sym c.deref-2.ensures.value) (omega (arith, l, few))

pub places-requires-clause-inside : goal.places-requires-clause-inside
places-requires-clause-inside c =
    let ps : List Port = c.args.ports.now in
    let l = as_many ps c.in_ok-entries.entries.items c.in_ok-entries.ensures.permuted in
    subst (λ (es : List Entry). All (λ (e : Entry). e.number < length es) es) (sym c.deref-2.ensures.value)
    (λ j d lt. let h = (each ps c.in_ok-entries.entries.items c.in_ok-entries.ensures.permuted j d lt).there in
    omega (arith, h, l))

pub places-requires-clause-distinct : goal.places-requires-clause-distinct
places-requires-clause-distinct c =
    subst AreDistinct (sym c.deref-2.ensures.value)
    (distinct c.args.ports.now c.in_ok-entries.entries.items c.in_ok-entries.ensures.permuted)

pub frame-requires : goal.frame-requires
frame-requires c =
    let ps : List Port = c.args.ports.now in
    let wished = c.as_slice.ensures ∙ c.in_ok-wishes.ensures ∙ ap (map (wish_at ps)) c.deref.ensures.value in
    let e = c.in_ok-entries.ensures in
    subst AreWishes (sym wished) (are_wishes ps c.in_ok-entries.entries.items e.permuted c.requires e.ascending)

pub spots_of-requires : goal.spots_of-requires
spots_of-requires c =
    let ps : List Port = c.args.ports.now in
    let es : List Entry = c.in_ok-entries.entries.items in
    let e = c.in_ok-entries.ensures in
    let wished = c.as_slice.ensures ∙ c.in_ok-wishes.ensures ∙ ap (map (wish_at ps)) c.deref.ensures.value in
    let drawn = subst (λ (ws : List PadWish). AreFramed ws c.in_ok-shape.field-0) wished c.in_ok-shape.ensures in
    let long = c.in_ok-places.ensures.long ∙ ap (λ (l : List Entry). length l) c.deref-2.ensures.value in
    let told = subst (AreTold c.in_ok-places.places.items) c.deref-2.ensures.value c.in_ok-places.ensures.told in
    subst (λ (ks : List ℕ). All (λ k. k < length c.as_slice-2.result.now) ks) (sym c.deref-3.ensures.value)
    (subst (λ (ss : List PadSpot). All (λ k. k < length ss) c.in_ok-places.places.items) (sym c.as_slice-2.ensures)
    (places_in ps es e.permuted c.requires e.ascending c.in_ok-places.places.items long told
    c.in_ok-shape.field-0.spots drawn.spots))

pub returns : goal.returns
returns c =
    let ps : List Port = c.args.ports.now in
    let es : List Entry = c.in_ok-entries.entries.items in
    let e = c.in_ok-entries.ensures in
    let wished = c.as_slice.ensures ∙ c.in_ok-wishes.ensures ∙ ap (map (wish_at ps)) c.deref.ensures.value in
    let drawn = subst (λ (ws : List PadWish). AreFramed ws c.in_ok-shape.field-0) wished c.in_ok-shape.ensures in
    let long = c.in_ok-places.ensures.long ∙ ap (λ (l : List Entry). length l) c.deref-2.ensures.value in
    let told = subst (AreTold c.in_ok-places.places.items) c.deref-2.ensures.value c.in_ok-places.ensures.told in
    let spots = c.in_ok-told.ensures
    ∙ (λ i. map (λ k. get_or (c.as_slice-2.ensures i) k no_spot) (c.deref-3.ensures.value i)) in
    frame_is ps es e.permuted c.requires e.ascending c.in_ok-shape.field-0 _ drawn refl c.in_ok-places.places.items
    long told spots
