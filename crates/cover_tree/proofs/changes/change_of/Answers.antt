use Rattle.std.proofs.Common.{◌<◌, sym, ◌∙◌, arith}
use Rattle.cover_tree.specs.Notes.{IsTold, note_at}
use Rattle.cover_tree.specs.Parts.Within.{here}
use Rattle.cover_tree.proofs.Alike.{same_set}
use Rattle.cover_tree.proofs.Changing.{alike_change, kept_change, turned_change}
use Rattle.cover_tree.proofs.changes.change_of.Goals as goal

-- src/changes.rt
pub returns-then-eq : goal.returns-then-eq
returns-then-eq c =
    let h : c.args.trees.now.since < c.note_at-note.result.until = omega arith in
    let l : c.args.trees.now.since < (note_at c.args.trees.now c.args.part.at).until =
    rw (← c.note_at-note.ensures) h in
    let s : IsTold c.args.trees.now c.args.part = c.requires.noted.told c.args.part here l in
    alike_change c.args.palette.now.mask c.args.trees.now c.args.part c.args.known s
    (same_set _ _ (sym c.eq.ensures ∙ c.if-eq.true))

-- src/changes.rt
pub returns-in-Nowhere : goal.returns-in-Nowhere
returns-in-Nowhere c =
    let h : c.args.trees.now.since < c.note_at-note.result.until = omega arith in
    let l : c.args.trees.now.since < (note_at c.args.trees.now c.args.part.at).until =
    rw (← c.note_at-note.ensures) h in
    let s : IsTold c.args.trees.now c.args.part = c.requires.noted.told c.args.part here l in
    kept_change c.args.palette.now.mask c.args.trees.now c.args.part c.args.known s c.requires.further
    c.note_at-note.result.kinds
    (λ n i. (rw (← c.note_at-note.ensures) at (c.requires.noted.each c.args.part here)).kinds n h i)
    c.in-Nowhere.ensures

-- src/changes.rt
pub returns-in-Some : goal.returns-in-Some
returns-in-Some c =
    let h : c.args.trees.now.since < c.note_at-note.result.until = omega arith in
    let l : c.args.trees.now.since < (note_at c.args.trees.now c.args.part.at).until =
    rw (← c.note_at-note.ensures) h in
    let s : IsTold c.args.trees.now c.args.part = c.requires.noted.told c.args.part here l in
    turned_change c.args.palette.now.mask c.args.trees.now c.args.part c.args.known s c.requires.further
    c.note_at-note.result.kinds
    (λ n i. (rw (← c.note_at-note.ensures) at (c.requires.noted.each c.args.part here)).kinds n h i)
    c.in-Some.colour c.in-Everywhere.ensures c.in-Some.ensures.some
