use Rattle.std.proofs.Common.{◌≡◌, ◌∙◌, [], ℕ, List, length, refl, ap, arith}
use Rattle.std.proofs.lemmas.List.{get_or_default}
use Rattle.switch_net.specs.Values.{driver_at}
use Rattle.node_clusters.specs.Links.{listed}
use Rattle.settle.proofs.Waking.{beside_none, beside_all}
use Rattle.settle.proofs.wake.wake_beside.Goals as goal

pub loop-number-init : goal.loop-number-init
loop-number-init c =
    let b = c.args.board.now in
    beside_none (driver_at b.drive.now) b.network.now.channels (listed b.at.now c.args.node) c.args.waits.now

pub returns-clause-wakes : goal.returns-clause-wakes
returns-clause-wakes c =
    let b = c.args.board.now in
    let node = c.args.node in
    let list = listed b.at.now node in
    let is_list =
    c.as_slice-number-items.ensures
    ∙ get_or_default b.at.now node c.index-board-node.result [] (let l = c.requires.node in omega arith) in
    let same : length c.as_slice-number-items.result.now ≡ length list = ap (λ (xs : List ℕ). length xs) is_list in
    beside_all
    (driver_at b.drive.now) b.network.now.channels list b.at.now node c.loop-number.number-index c.args.waits.now
    c.loop-number.waits c.requires.linked refl (omega arith) c.loop-number.invariant
