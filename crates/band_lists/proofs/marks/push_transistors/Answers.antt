use Rattle.std.proofs.Common.{[], ◌∷◌, ◌++◌, ◌≡◌, ◌<◌, ◌+◌, ◌∙◌, ap, sym, subst, ℕ, List, length, map, take, get_or}
use Rattle.std.proofs.Common.{set, suc, slice_index, arith}
use Rattle.std.proofs.lemmas.List.{map_more, length-set}
use Rattle.tile_cells.specs.declared.tile.Tile.TheVariants.{Tran}
use Rattle.fabric.specs.declared.thing.Mark.{Mark}
use Rattle.nor_net.specs.declared.net.NetId.{NetId}
use Rattle.array_form.specs.Lists.{mark}
use Rattle.array_form.specs.Band.{distinct}
use Rattle.array_form.proofs.Distinct.{AreSeen, seen_again, seen_new, unseen, made_new, made_again}
use Rattle.band_lists.proofs.marks.push_transistors.Goals as goal
use Rattle.band_lists.proofs.marks.push_transistors.Goals.{then-seen-segment+in_ok-push, else-seen-segment}

pub loop-input-preserved : goal.loop-input-preserved
loop-input-preserved c =
    let inputs : List NetId = c.args.inputs.now in
    let i : ℕ = c.loop-input.input-index in
    let none : NetId = record { 0 = 0 } in
    let number : NetId → ℕ = λ j. j.0 in
    let x : ℕ = (get_or inputs i none).0 in
    let numbers : List ℕ = map number (take i inputs) in
    let f : ℕ → Mark =
    λ k. mark Tran c.args.column.band (suc (slice_index c.args.tracks.now.row k)) c.args.column.number in
    let e : map number (take (i + 1) inputs) ≡ numbers ++ x ∷ [] =
    map_more number inputs i none c.loop-input-test.true in
    let v = c.loop-input.invariant in
    let lt : x < length c.loop-input.seen =
    (let h = c.requires.inputs i none c.loop-input-test.true in omega (arith, h, v.long)) in
    let old : List Mark = c.args.marks.now.items in
    let seen : List ℕ = c.loop-input.seen in
    let stamp : ℕ = c.args.stamp in
    elim c.if-seen-segment.branch [
      | then-seen-segment+in_ok-push w ↦ record {
        marks = made_new f old c.loop-input.marks.items c.if-seen-segment.marks.items numbers x w.mark.result v.marks
            (unseen stamp seen numbers x lt w.if-seen-segment.true v.seen)
            (ap (λ z. z.items) w.marks-is ∙ w.in_ok-push.ensures.items) w.mark.ensures
            ∙ ap (λ l. old ++ map f (distinct l)) (sym e);
        long = ap length w.seen-is ∙ (length-set seen x stamp ∙ v.long);
        seen = subst (λ s. AreSeen stamp s (map number (take (i + 1) inputs))) (sym w.seen-is)
            (subst (λ l. AreSeen stamp (set seen x stamp) l) (sym e) (seen_new stamp seen numbers x lt v.seen));
      }
      | else-seen-segment w ↦ record {
        marks = ap (λ z. z.items) w.marks-is
            ∙ (made_again f old c.loop-input.marks.items numbers x v.marks
            (v.seen.stamped x lt w.if-seen-segment.false)
            ∙ ap (λ l. old ++ map f (distinct l)) (sym e));
        long = ap length w.seen-is ∙ v.long;
        seen = subst (λ s. AreSeen stamp s (map number (take (i + 1) inputs))) (sym w.seen-is)
            (subst (λ l. AreSeen stamp seen l) (sym e)
            (seen_again stamp seen numbers x lt w.if-seen-segment.false v.seen));
      }
    ]
