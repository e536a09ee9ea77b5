use Rattle.std.proofs.Common.{◌≡◌, ◌∙◌, List, length, refl, sym, ap, rules, arith}
use Rattle.std.specs.Prelude.{Some, None, Contains, slice_get}
use Rattle.std.specs.BTreeMap.{get}
use Rattle.std.specs.Ordering.{nat_cmp}
use Rattle.std.proofs.lemmas.Option.{slice_get_read}
use Rattle.mp_base.specs.PadNames.{is_supply, supplies}
use Rattle.switch_net.specs.declared.network.Tag.{Tag}
use Rattle.extractor.proofs.Driving.{first_here, supply_from_test, told}
use Rattle.extractor.proofs.drivers.meets.Goals as goal

pub returns : goal.returns
returns c =
    let tags : List Tag = c.args.tags.now in
    let tag : Tag = c.index-tags-place.result in
    let at : slice_get tags c.args.place ≡ Some tag =
    slice_get_read tags (length tags) c.args.place tag refl c.requires.inside c.index-tags-place.is in
    let none : get nat_cmp c.args.first_on.now tag.node ≡ None = search rules in
    let driver : Contains supplies tag.name =
    supply_from_test tag.name (sym (c.is_driver.ensures ∙ ap is_supply c.bytes.ensures) ∙ c.if-not-is_driver.false) in
    first_here tags (get nat_cmp c.args.first_on.now) c.args.place c.requires.firsts tag at
    (get nat_cmp c.note.new.first_on) none driver c.in_ok-note.ensures.here c.in_ok-note.ensures.others

pub returns-in-Some : goal.returns-in-Some
returns-in-Some c =
    let tags : List Tag = c.args.tags.now in
    let tag : Tag = c.index-tags-place.result in
    let other : Tag = c.index-tags-first.result in
    let at : slice_get tags c.args.place ≡ Some tag =
    slice_get_read tags (length tags) c.args.place tag refl c.requires.inside c.index-tags-place.is in
    let known : get nat_cmp c.args.first_on.now tag.node ≡ Some c.in-Some.first = search rules in
    let l = (c.requires.firsts.from tag.node c.in-Some.first known).1 in
    let there : slice_get tags c.in-Some.first ≡ Some other =
    slice_get_read tags (length tags) c.in-Some.first other refl (omega arith) c.index-tags-first.is in
    let driver : Contains supplies tag.name =
    supply_from_test tag.name (sym (c.is_driver.ensures ∙ ap is_supply c.bytes.ensures) ∙ c.if-not-is_driver.false) in
    told (get nat_cmp c.args.first_on.now) tags c.args.place c.requires.firsts tag at driver c.in-Some.first other
    known there _ _ c.ne.result c.ne.ensures
    (c.bytes-in-Some.ensures ∙ ap (λ (x : Tag). x.name) (sym c.index-tags-first.is)) c.bytes-in-Some-2.ensures
