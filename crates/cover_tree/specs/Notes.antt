-- What the notes of trees say.
use Rattle.std.specs.Prelude.{◌≡◌, ℕ, ◌+◌, ◌*◌, ◌^◌, ◌<◌, ◌≤◌, ◌⊎◌, length, true}
use Rattle.lam_geom.specs.declared.layer.Layer.{Layer}
use Rattle.mask_runs.specs.declared.mask.Mask.{Mask}
use Rattle.mask_runs.specs.Colours.{bare}
use Rattle.cover_tree.specs.declared.note.Note.{Note}
use Rattle.cover_tree.specs.declared.part.Part.{Part}
use Rattle.cover_tree.specs.declared.trees.Trees.{Trees}
use Rattle.cover_tree.specs.Parts.{root, InPart, Within, left_half, right_half}
use Rattle.cover_tree.specs.Nodes.{keeps}
use Rattle.cover_tree.specs.Kinds.{IsOfKind, further}
use Rattle.cover_tree.specs.Layered.{node_at}
use Rattle.cover_tree.specs.Looking.{seen, told}

-- the note of the part whose node is at this place
abbrev pub note_at : Trees → ℕ → Note
note_at t k = (node_at t k).note

-- in the rows from that of the trees up to the note's end each cell of the part has the layers of the first of these
-- rows, and they are one of the kinds
pub record IsNoted (t : Trees) (q : Part) (n : Note) : Type 0 where
  pub steady : (row c : ℕ) → t.since ≤ row → row < n.until → InPart q c → seen t row q bare c ≡ seen t t.since q bare c
  pub kinds : (c : ℕ) → t.since < n.until → InPart q c
      → ∥ IsOfKind t.further n.kinds (seen t t.since q bare c) ∥₁

-- the row of the trees is the one in which the part was told last
pub record IsTold (t : Trees) (p : Part) : Type 0 where
  pub each : (c : ℕ) → InPart p c → told t p bare c ≡ seen t t.since p bare c

-- the notes are true of the part and all parts in it, of which those are told whose notes speak of the row
pub record AreNoted (t : Trees) (p : Part) : Type 0 where
  pub each : (q : Part) → Within q p → IsNoted t q (note_at t q.at)
  pub told : (q : Part) → Within q p → t.since < (note_at t q.at).until → IsTold t q

-- and of its halves, if it has any
pub record AreHalvesNoted (t : Trees) (p : Part) : Type 0 where
  pub left : 2 ≤ p.width → AreNoted t (left_half p)
  pub right : 2 ≤ p.width → AreNoted t (right_half p)

pub record AreHalvesTold (t : Trees) (p : Part) : Type 0 where
  pub left : 2 ≤ p.width → IsTold t (left_half p)
  pub right : 2 ≤ p.width → IsTold t (right_half p)

-- the trees have all nodes of the part, with tops of the layer
pub record HasPart (t : Trees) (layer : Layer) (p : Part) : Type 0 where
  pub kept : keeps layer t.further ≡ true
  pub room : p.at + 2 * p.width ≤ length t.nodes.items + 1

-- the place isn't one of the part's
abbrev pub Beside : Part → ℕ → Type 0
Beside p k = (k < p.at) ⊎ (p.at + 2 * p.width ≤ k + 1)

-- the trees are the same but at the part's places
pub record IsOnlyIn (p : Part) (old now : Trees) : Type 0 where
  pub nodes : (k : ℕ) → Beside p k → node_at now k ≡ node_at old k
  pub as_many : length now.nodes.items ≡ length old.nodes.items
  pub further : now.further ≡ old.further
  pub since : now.since ≡ old.since

-- the trees have all nodes of a root, with tops of the mask's layers, and the notes are true
pub record AreSound (mask : Mask) (cells : ℕ) (trees : Trees) : Type 0 where
  pub some : 0 < cells
  pub small : cells < 2 ^ 31
  pub noted : AreNoted trees (root cells)
  pub kept : trees.further ≡ further mask
  pub room : length trees.nodes.items ≡ 2 * cells
