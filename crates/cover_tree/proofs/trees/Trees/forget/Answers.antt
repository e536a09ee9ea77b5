use Rattle.std.proofs.Common.{◌≡◌, ◌<◌, length, set, refl, arith}
use Rattle.cover_tree.specs.declared.node.Node.{Node}
use Rattle.cover_tree.specs.declared.trees.Trees.{Trees}
use Rattle.cover_tree.specs.Nodes.{stale}
use Rattle.cover_tree.specs.Layered.{node_at}
use Rattle.cover_tree.proofs.Nodes.{told_same}
use Rattle.cover_tree.proofs.Noting.{noted_anew, anew_note, anew_only, anew_tops, stale_note}
use Rattle.cover_tree.proofs.trees.Trees.forget.Goals as goal

-- src/trees.rt
pub returns : goal.returns
returns c =
    let t : Trees = c.args.self.now in
    let u : Trees = c.set_note.new.self in
    let h = c.requires.small.some in
    let i : c.args.part.at < length t.nodes.items = omega (arith, c.requires.room) in
    let n : Node = record (node_at t c.args.part.at) { note = stale } in
    let s = c.set_note.ensures in
    let e : u.nodes.items ≡ set t.nodes.items c.args.part.at n = rw c.stale.ensures at s.nodes in
    record {
      noted = noted_anew t u c.args.part n h i e refl s.further s.since
          (stale_note t c.args.part) (λ l. absurd (omega arith));
      stale = anew_note t u c.args.part n h i e refl s.further s.since;
      only = anew_only t u c.args.part n h i e refl s.further s.since;
      tops = anew_tops t u c.args.part n h i e refl s.further s.since;
      told = λ l. told_same t u c.args.part.at n e s.further l refl;
    }
