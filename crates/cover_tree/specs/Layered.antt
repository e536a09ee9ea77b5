-- The trees of the layers.
use Rattle.std.specs.Prelude.{ℕ, List, get_or, map, nat_lt, if◌then◌else◌}
use Rattle.lam_geom.specs.declared.layer.Layer.{Layer}
use Rattle.mask_runs.specs.declared.mask.Mask.{Mask}
use Rattle.cover_tree.specs.declared.node.Node.{Node}
use Rattle.cover_tree.specs.declared.node.Tops.{Tops}
use Rattle.cover_tree.specs.declared.trees.Trees.{Trees}
use Rattle.cover_tree.specs.Nodes.{blank, layer_top, set_tops}
use Rattle.cover_tree.specs.Parts.{root, top_of}
use Rattle.cover_tree.specs.Covers.{Cover}

-- the node at a place
abbrev pub node_at : Trees → ℕ → Node
node_at trees k = get_or trees.nodes.items k blank

-- the tops of a layer, as the nodes have them
abbrev pub tree_by : (Node → Tops) → Trees → Layer → List ℕ
tree_by tops trees l = map (λ n. layer_top l trees.further (tops n)) trees.nodes.items

abbrev pub tree : Trees → Layer → List ℕ
tree trees l = tree_by (λ n. n.tops) trees l

-- a layer as told last, with tops above row 0 where it was told
abbrev pub told_tree : Trees → Layer → List ℕ
told_tree trees l = tree_by (λ n. set_tops n.told) trees l

-- up to which row the trees cover the cells
abbrev pub cover : Mask → ℕ → Trees → Cover
cover own count trees = record {
  mask = own;
  cells = count;
  top = λ l c. if nat_lt c count then top_of (tree trees l) (root count) c else 0;
}
