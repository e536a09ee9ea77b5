use Rattle.std.proofs.Common.{ℕ, List, ◌<◌, get_or, length, subst, arith}
use Rattle.std.proofs.lemmas.List.{get_or_default}
use Rattle.clock_run.specs.Driving.{AreDriven, AreSet}
use Rattle.clock_run.proofs.Driven.{set_more_words}
use Rattle.clock_run.proofs.drive.drive_words.Goals as goal

pub loop-k-preserved : goal.loop-k-preserved
loop-k-preserved c = λ driver z.
    let nodes = c.args.nodes.now in
    let words = c.args.words.now in
    let k = c.loop-k.k in
    let ns = c.index-nodes-k.result in
    let lt : k < length nodes = c.loop-k-test.true in
    let word = get_or words k 0 in
    let step : AreDriven driver ns word → AreSet driver ns c.loop-k.drive c.drive_word.new.drive =
    subst (λ (xs : List ℕ). AreDriven driver xs word → AreSet driver xs c.loop-k.drive c.drive_word.new.drive)
    c.as_slice.ensures
    (c.drive_word.ensures driver) in
    set_more_words driver nodes words k ns word c.args.drive.now c.loop-k.drive c.drive_word.new.drive lt
    c.index-nodes-k.is
    (get_or_default words k 0 word (let l = c.requires.as_many in omega (arith, lt, l))) z step
    (c.loop-k.invariant driver z)
