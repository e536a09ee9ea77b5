use Rattle.std.proofs.Common.{◌++◌, ◌∙◌, get_or, ap, sym, arith}
use Rattle.std.specs.Prelude.{Some}
use Rattle.std.proofs.lemmas.Option.{slice_get-get_or}
use Rattle.nor_net.specs.declared.net.NetId.{NetId}
use Rattle.slice_layout.proofs.EachEntry.{entries_grown, entries_whole}
use Rattle.slice_layout.proofs.entries.push_entries.Goals as goal

abbrev none : NetId
none = record { 0 = 0 }

pub bounds-ids-index : goal.bounds-ids-index
bounds-ids-index c = let t = c.loop-index-test.true in let l = c.requires in omega (arith, t, l)

pub loop-index-preserved : goal.loop-index-preserved
loop-index-preserved c =
    let pads = c.args.pads.now in
    let ids = c.args.ids.now in
    let i = c.loop-index.index in
    let q = c.index-pads-index.result in
    let t = c.loop-index-test.true in
    let l = c.requires in
    entries_grown c.args.words pads ids i q (get_or ids i none) c.args.nets.now c.loop-index.nets _
    (slice_get-get_or pads i q t ∙ ap Some (sym c.index-pads-index.is))
    (slice_get-get_or ids i none (omega (arith, t, l))) c.loop-index.invariant c.in_ok-push_entry.ensures

pub returns : goal.returns
returns c =
    let t = c.loop-index-test.false in
    c.loop-index.invariant
    ∙ ap (λ l. c.args.nets.now ++ l)
    (entries_whole c.args.words c.args.pads.now c.args.ids.now c.loop-index.index (omega (arith, t)) c.requires)
