use Rattle.cover_tree.specs.Layered.{tree, told_tree}
use Rattle.cover_tree.proofs.Changing.{handed_on}
use Rattle.cover_tree.proofs.changes.handed_down.Goals as goal

-- src/changes.rt
pub returns : goal.returns
returns c =
    let t = c.args.trees.now in
    record {
      before = rw c.union.ensures
          (handed_on t.further (told_tree t) c.args.part 0 c.args.known.before _ c.told_at.ensures);
      after = rw c.union-2.ensures
          (handed_on t.further (tree t) c.args.part t.since c.args.known.after _ c.requires);
    }
