use Rattle.std.proofs.Common.{ℕ, List, ◌<◌, length, get_or, ◌∙◌, arith}
use Rattle.std.proofs.lemmas.List.{length-set}
use Rattle.track_assign.specs.declared.rows.Entry.{Entry}
use Rattle.track_assign.proofs.Told.{packed_more, few_more}
use Rattle.track_assign.proofs.rows.assign.Goals as goal

pub loop-entry-preserved : goal.loop-entry-preserved
loop-entry-preserved c =
    let xs : List Entry = c.args.entries.now in
    let i : ℕ = c.loop-entry.entry-index in
    let d : Entry = record { first = 0; end = 0; index = 0 } in
    let v = c.loop-entry.invariant in
    let row = c.loop-entry.row.items in
    let ends = c.loop-entry.ends.items in
    let column = c.loop-entry.column in
    let new = c.place.new.ends.items in
    let later = c.place.new.column in
    let at = c.in_ok-at.at in
    let inside : (get_or xs i d).index < length row =
    (let h = c.requires.inside i d c.loop-entry-test.true in omega (arith, h, v.sized)) in
    record {
      sized = length-set row (get_or xs i d).index at ∙ v.sized;
      few = few_more ends column (get_or xs i d) new later at i c.in_ok-at.ensures v.few;
      packed = packed_more xs i d row ends column new later at
          c.requires.ascending c.loop-entry-test.true c.requires.distinct inside c.in_ok-at.ensures v.packed;
    }
