use Rattle.std.proofs.Common.{◌≡◌, ℕ, set, sym, ◌∙◌, ap, max}
use Rattle.lam_geom.specs.declared.layer.Layer.{Layer}
use Rattle.cover_tree.specs.declared.node.Node.{Node}
use Rattle.cover_tree.specs.declared.trees.Trees.{Trees}
use Rattle.cover_tree.specs.Nodes.{layer_top}
use Rattle.cover_tree.specs.Layered.{node_at, tree}
use Rattle.cover_tree.proofs.Nodes.{node_top, tree_set, tree_same, told_same, node_other, node_own, as_many}
use Rattle.cover_tree.proofs.trees.Trees.lift.Goals as goal

-- src/trees.rt
pub returns : goal.returns
returns c =
    let t : Trees = c.args.self.now in
    let u : Trees = c.set_node.new.self in
    let at : ℕ = c.args.at in
    let n : Node = record c.node_at-node.result { tops = c.lifted-tops.result } in
    let was : c.node_at-node.result ≡ node_at t at = c.node_at-node.ensures in
    let s = c.set_node.ensures in
    let up = c.lifted-tops.ensures in
    let top = λ (l : Layer). ap (λ m. layer_top l t.further m.tops) was in
    record {
      own = tree_set t u at n s.nodes s.further c.args.layer
          ∙ ap (set (tree t c.args.layer) at) (up.own t.further c.requires.kept
          ∙ ap (λ x. max x c.args.row) (top c.args.layer ∙ sym (node_top t c.args.layer at)));
      others = λ l d. tree_same t u at n s.nodes s.further l (up.others t.further l c.requires.kept d ∙ top l);
      told = λ l. told_same t u at n s.nodes s.further l (ap (λ m. m.told) was);
      beside = node_other t u at n s.nodes s.further;
      note = ap (λ m. m.note) (node_own t u at n s.nodes s.further c.requires.within) ∙ ap (λ m. m.note) was;
      as_many = as_many t u at n s.nodes s.further;
      further = s.further;
      since = s.since;
    }
