-- The tops and notes of trees, by their nodes.
use Rattle.std.proofs.Common.{◌≡◌, ◌≢◌, ℕ, ◌<◌, get_or, set, length, map, Bool, true, false, refl, sym, ◌∙◌, ap, rules}
use Rattle.std.proofs.Common.{arith}
use Rattle.std.specs.Prelude.{◌&&◌, nat_lt, if◌then◌else◌}
use Rattle.std.proofs.lemmas.Bool.{le-ltb}
use Rattle.std.proofs.lemmas.List.{get_or-set_same, get_or-set_other, map-set, length-map}
use Rattle.std.proofs.Math.ListN.{get_or-map, length-set}
use Rattle.std.proofs.Math.Seq.{map-set_same}
use Rattle.lam_geom.specs.declared.layer.Layer.{Layer}
use Rattle.lam_geom.specs.declared.layer.Layer.TheVariants.{ND, NP, NC, NM, NI, NB, NG}
use Rattle.mask_runs.specs.declared.mask.Mask.{Mask}
use Rattle.mask_runs.specs.Colours.{uses}
use Rattle.cover_tree.specs.declared.node.Node.{Node}
use Rattle.cover_tree.specs.declared.node.Tops.{Tops}
use Rattle.cover_tree.specs.declared.trees.Trees.{Trees}
use Rattle.cover_tree.specs.Parts.{top_at}
use Rattle.cover_tree.specs.Nodes.{keeps, layer_top, above, no_tops, blank, set_tops, layers_of}
use Rattle.cover_tree.specs.Kinds.{further}
use Rattle.cover_tree.specs.Layered.{node_at, tree_by, tree, told_tree}
use Rattle.cover_tree.specs.Looking.{own_by, own_at, told_at}

if_zero : (b : Bool) → ◌≡◌ {A = ℕ} (if b then 0 else 0) 0
if_zero true = refl
if_zero false = refl

pub no_top : (l f : Layer) → layer_top l f no_tops ≡ 0
no_top ND f = refl
no_top NP f = refl
no_top NB f = refl
no_top NM f = refl
no_top NC f = if_zero (keeps NC f)
no_top NI f = if_zero (keeps NI f)
no_top NG f = if_zero (keeps NG f)

pub tree_length : (t : Trees) (l : Layer) → length (tree t l) ≡ length t.nodes.items
tree_length t l = length-map t.nodes.items (λ n. layer_top l t.further n.tops)

by_top : (tops : Node → Tops) → tops blank ≡ no_tops → (t : Trees) (l : Layer) (k : ℕ)
    → top_at (tree_by tops t l) k ≡ layer_top l t.further (tops (node_at t k))
by_top tops e t l k = ap (get_or (tree_by tops t l) k) (sym (ap (layer_top l t.further) e ∙ no_top l t.further))
    ∙ get_or-map (λ n. layer_top l t.further (tops n)) t.nodes.items k blank

pub node_top : (t : Trees) (l : Layer) (k : ℕ) → top_at (tree t l) k ≡ layer_top l t.further (node_at t k).tops
node_top t l k = by_top (λ n. n.tops) refl t l k

pub told_top : (t : Trees) (l : Layer) (k : ℕ)
    → top_at (told_tree t l) k ≡ layer_top l t.further (set_tops (node_at t k).told)
told_top t l k = by_top (λ n. set_tops n.told) refl t l k

if_above : (b : Bool) (row top : ℕ) → nat_lt row (if b then top else 0) ≡ (b && nat_lt row top)
if_above true row top = refl
if_above false row top = le-ltb row 0 (omega arith)

by_above : (tops : Node → Tops) → tops blank ≡ no_tops → (t : Trees) (row k : ℕ)
    → own_by (tree_by tops t) row k ≡ above t.further (tops (node_at t k)) row
by_above tops e t row k =
    let f : Layer = t.further in
    let n : ℕ = (tops (node_at t k)).further in
    λ i. record {
      nd = nat_lt row (by_top tops e t ND k i);
      np = nat_lt row (by_top tops e t NP k i);
      nc = (ap (nat_lt row) (by_top tops e t NC k) ∙ if_above (keeps NC f) row n) i;
      nm = nat_lt row (by_top tops e t NM k i);
      ni = (ap (nat_lt row) (by_top tops e t NI k) ∙ if_above (keeps NI f) row n) i;
      nb = nat_lt row (by_top tops e t NB k i);
      ng = (ap (nat_lt row) (by_top tops e t NG k) ∙ if_above (keeps NG f) row n) i;
    }

pub own_above : (t : Trees) (row k : ℕ) → own_at t row k ≡ above t.further (node_at t k).tops row
own_above t row k = by_above (λ n. n.tops) refl t row k

pub told_above : (t : Trees) (k : ℕ) → told_at t k ≡ layers_of t.further (node_at t k).told
told_above t k = by_above (λ n. set_tops n.told) refl t 0 k

-- trees of which one has another node at one place
module _ (t u : Trees) (at : ℕ) (n : Node) (nodes : u.nodes.items ≡ set t.nodes.items at n)
    (same : u.further ≡ t.further) where
  tree_over : (tops : Node → Tops) (l : Layer)
      → tree_by tops u l ≡ map (λ m. layer_top l t.further (tops m)) (set t.nodes.items at n)
  tree_over tops l = λ i. map (λ m. layer_top l (same i) (tops m)) (nodes i)

  pub tree_set : (l : Layer) → tree u l ≡ set (tree t l) at (layer_top l t.further n.tops)
  tree_set l = tree_over (λ n. n.tops) l ∙ map-set (λ m. layer_top l t.further m.tops) t.nodes.items at n

  pub tree_same : (l : Layer) → layer_top l t.further n.tops ≡ layer_top l t.further (node_at t at).tops
      → tree u l ≡ tree t l
  tree_same l e = tree_over (λ n. n.tops) l
      ∙ map-set_same (λ m. layer_top l t.further m.tops) t.nodes.items at n blank e

  pub told_same : (l : Layer) → n.told ≡ (node_at t at).told → told_tree u l ≡ told_tree t l
  told_same l e = tree_over (λ n. set_tops n.told) l
      ∙ map-set_same (λ m. layer_top l t.further (set_tops m.told)) t.nodes.items at n blank
      (ap (λ s. layer_top l t.further (set_tops s)) e)

  pub node_other : (k : ℕ) → k ≢ at → node_at u k ≡ node_at t k
  node_other k h = ap (λ s. get_or s k blank) nodes ∙ get_or-set_other t.nodes.items at k n blank h

  pub node_own : at < length t.nodes.items → node_at u at ≡ n
  node_own h = ap (λ s. get_or s at blank) nodes ∙ get_or-set_same t.nodes.items at n blank h

  pub as_many : length u.nodes.items ≡ length t.nodes.items
  as_many = ap length nodes ∙ length-set t.nodes.items at n

-- the trees keep the layers that their mask uses
pub uses_kept : (mask : Mask) (l : Layer) → uses mask l ≡ true → keeps l (further mask) ≡ true
uses_kept mask l u = search rules
