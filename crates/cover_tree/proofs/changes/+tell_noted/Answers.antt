use Rattle.std.proofs.Common.{◌≤◌, arith}
use Rattle.cover_tree.specs.Parts.{left_half}
use Rattle.cover_tree.specs.Changing.{was, is}
use Rattle.cover_tree.proofs.Tops.{small_left, small_right}
use Rattle.cover_tree.proofs.Noting.{noted_left, noted_right}
use Rattle.cover_tree.proofs.Raising.{only_none}
use Rattle.cover_tree.proofs.Telling.{stays}
use Rattle.cover_tree.proofs.Changing.{leaf_told, halves_told}
use Rattle.cover_tree.proofs.changes.+tell_noted.Goals as goal

-- src/changes.rt
pub returns-in-Nowhere : goal.returns-in-Nowhere
returns-in-Nowhere t c =
    stays (was c.args.palette.now.mask c.args.trees.now c.args.part c.args.known)
    (is c.args.palette.now.mask c.args.trees.now c.args.part c.args.known)
    c.args.pieces.now.items c.args.last.now c.args.part c.in-Nowhere.ensures

-- src/changes.rt
pub returns-in-Everywhere : goal.returns-in-Everywhere
returns-in-Everywhere t c =
    c.add.ensures (was c.args.palette.now.mask c.args.trees.now c.args.part c.args.known)
    (is c.args.palette.now.mask c.args.trees.now c.args.part c.args.known) c.in-Everywhere.ensures

-- src/changes.rt
pub returns-then-part-lt2 : goal.returns-then-part-lt2
returns-then-part-lt2 t c =
    leaf_told c.args.palette.now.mask c.args.trees.now c.args.part c.args.known c.handed_down-down.result
    c.handed_down-down.ensures.before c.handed_down-down.ensures.after c.args.pieces.now.items
    c.tell_cell.new.pieces.items c.args.last.now c.tell_cell.new.last c.requires.further c.if-part-lt2.true
    c.tell_cell.ensures

-- src/changes.rt
pub tell_noted-requires : goal.tell_noted-requires
tell_noted-requires t c =
    let h : 2 ≤ c.args.part.width = omega arith in
    rw c.left.ensures (
      omega arith,
      (
        small_left c.args.part h c.requires.small,
        (c.requires.further, noted_left c.args.trees.now c.args.part h c.requires.noted),
      ),
    )

-- src/changes.rt
pub tell_noted-requires-in-Somewhere : goal.tell_noted-requires-in-Somewhere
tell_noted-requires-in-Somewhere t c =
    let h : 2 ≤ c.args.part.width = omega arith in
    rw c.right.ensures (
      omega arith,
      (
        small_right c.args.part h c.requires.small,
        (c.requires.further, noted_right c.args.trees.now c.args.part h c.requires.noted),
      ),
    )

-- src/changes.rt
pub returns-else-part-lt2 : goal.returns-else-part-lt2
returns-else-part-lt2 t c =
    let h : 2 ≤ c.args.part.width = omega arith in
    halves_told c.args.palette.now.mask c.args.trees.now c.args.part c.args.known c.handed_down-down.result
    c.handed_down-down.ensures.before c.handed_down-down.ensures.after c.args.trees.now
    (only_none (left_half c.args.part) c.args.trees.now) h
    c.args.pieces.now.items c.tell_noted.new.pieces.items c.tell_noted-in-Somewhere.new.pieces.items
    c.args.last.now c.tell_noted.new.last c.tell_noted-in-Somewhere.new.last
    (rw c.left.ensures at c.tell_noted.ensures) (rw c.right.ensures at c.tell_noted-in-Somewhere.ensures)
