use Rattle.std.proofs.Common.{get_or, subst, arith}
use Rattle.mp_base.specs.declared.pad.Pad.{Pad}
use Rattle.switch_net.specs.Pads.{bit_labels}
use Rattle.nor_net.specs.declared.net.NetId.{NetId}
use Rattle.path_labels.specs.Labels.{Adds}
use Rattle.path_labels.proofs.Adding.{all_added, pad_added, pad_points}
use Rattle.path_labels.proofs.Entries.{entry_of}
use Rattle.path_labels.proofs.labels.add_pads.Goals as goal

abbrev none : NetId
none = record { 0 = 0 }

pub bounds-nets-index : goal.bounds-nets-index
bounds-nets-index c =
    let (_, (long, _, _)) = c.requires.entries in let t = c.loop-index-test.true in omega (arith, long, t)

pub add_pad-requires-clause-entry : goal.add_pad-requires-clause-entry
add_pad-requires-clause-entry c =
    entry_of c.args.path.now c.args.pads.now c.args.nets.now c.loop-index.index c.index-pads-index.result none
    c.requires.entries c.loop-index-test.true c.index-pads-index.is

pub loop-index-preserved : goal.loop-index-preserved
loop-index-preserved c =
    let p = c.args.path.now in
    let f = c.args.fabric.now in
    let pads = c.args.pads.now in
    let nets = c.args.nets.now in
    let i = c.loop-index.index in
    let q = c.index-pads-index.result in
    let now = c.loop-index.corners in
    let new = c.add_pad.new.corners in
    let (_, (long, _, _)) = c.requires.entries in
    let t = c.loop-index-test.true in
    let added : Adds p f (pad_points (get_or pads i q) (get_or nets i none)) (bit_labels (get_or pads i q)) now new =
    subst (λ (pad : Pad). Adds p f (pad_points pad (get_or nets i none)) (bit_labels pad) now new)
    c.index-pads-index.is c.in_ok-add_pad.ensures in
    pad_added p f pads nets c.args.corners.now i q none now new t (omega (arith, long, t)) c.loop-index.invariant added

pub returns : goal.returns
returns c =
    let (_, (long, _, _)) = c.requires.entries in
    let t = c.loop-index-test.false in
    all_added c.args.path.now c.args.fabric.now c.args.pads.now c.args.nets.now c.args.corners.now c.loop-index.index
    c.loop-index.corners (omega (arith, t)) (omega (arith, long, t)) c.loop-index.invariant
