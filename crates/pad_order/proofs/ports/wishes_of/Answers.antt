use Rattle.std.proofs.Common.{ℕ, List, ◌≡◌, ◌<◌, length, get_or, map, take, ap, ◌∙◌, arith}
use Rattle.std.specs.Prelude.{pos}
use Rattle.std.proofs.lemmas.List.{get_or_default}
use Rattle.mp_base.proofs.Lists.{take_whole}
use Rattle.pad_order.specs.declared.order.Entry.{Entry}
use Rattle.pad_order.specs.declared.ports.Port.{Port}
use Rattle.pad_order.specs.Entries.{no_port, wish_at}
use Rattle.pad_order.proofs.Told.{map_more}
use Rattle.pad_order.proofs.ports.wishes_of.Goals as goal

abbrev none : Entry
none = record { height = 0; number = 0 }

pub bounds-ports-number : goal.bounds-ports-number
bounds-ports-number c = c.requires c.loop-place.place none c.loop-place-test.true

pub loop-place-preserved : goal.loop-place-preserved
loop-place-preserved c =
    let ps : List Port = c.args.ports.now in
    let es : List Entry = c.args.entries.now in
    let i : ℕ = c.loop-place.place in
    let there : (get_or es i none).number < length ps = c.requires i none c.loop-place-test.true in
    let is : c.index-ports-number.result ≡ get_or ps (get_or es i none).number no_port =
    c.index-ports-number.is ∙ get_or_default ps (get_or es i none).number _ no_port there in
    let w = c.in_ok-wish.ensures in
    let name = w.0 ∙ ap (λ (p : Port). p.name) is in
    let row = w.1 ∙ ap (λ (p : Port). pos p.height) is in
    map_more (wish_at ps) es i none c.loop-place.wishes c.push.new.self c.in_ok-wish.wish c.loop-place-test.true
    c.loop-place.invariant c.in_ok-push.ensures.ok (λ k. record { name = name k; row = row k })

pub returns : goal.returns
returns c =
    let t = c.loop-place-test.false in
    let e = c.loop-place.auto.place-end in
    let es : List Entry = c.args.entries.now in
    let same : c.loop-place.place ≡ length es = omega (arith, t, e) in
    c.loop-place.invariant
    ∙ ap (λ n. map (wish_at c.args.ports.now) (take n es)) same ∙ ap (map (wish_at c.args.ports.now)) (take_whole es)
