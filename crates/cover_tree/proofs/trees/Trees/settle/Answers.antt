use Rattle.std.proofs.Common.{◌≡◌, ◌<◌, length, ap, arith}
use Rattle.cover_tree.specs.declared.node.Node.{Node}
use Rattle.cover_tree.specs.declared.trees.Trees.{Trees}
use Rattle.cover_tree.specs.Layered.{node_at}
use Rattle.cover_tree.specs.Notes.{IsTold}
use Rattle.cover_tree.proofs.Noting.{noted_anew, anew_only, anew_tops, told_anew}
use Rattle.cover_tree.proofs.trees.Trees.settle.Goals as goal

-- src/trees.rt
pub returns : goal.returns
returns c =
    let t : Trees = c.args.self.now in
    let u : Trees = c.set_node.new.self in
    let h = c.requires.small.some in
    let i : c.args.part.at < length t.nodes.items = omega (arith, c.requires.room) in
    let n : Node = record { tops = c.node_at.result.tops; told = c.args.own; note = c.summed-note.result } in
    let same : n.tops ≡ (node_at t c.args.part.at).tops = ap (λ m. m.tops) c.node_at.ensures in
    let s = c.set_node.ensures in
    let told : IsTold u c.args.part =
    told_anew t u c.args.part n h i s.nodes same s.further s.since c.requires.own c.requires.told_halves in
    record {
      noted = noted_anew t u c.args.part n h i s.nodes same s.further s.since
          c.summed-note.ensures (λ _. told) c.requires.halves;
      told = told;
      only = anew_only t u c.args.part n h i s.nodes same s.further s.since;
      tops = anew_tops t u c.args.part n h i s.nodes same s.further s.since;
    }
