-- The changes of a part's cells, by those of its halves, and what is told of all cells.
use Rattle.std.proofs.Common.{◌≡◌, ℕ, ◌+◌, ◌-◌, ◌/◌, ◌<◌, ◌≤◌, true, false, List, [], refl, sym, ◌∙◌, ap, subst}
use Rattle.std.proofs.Common.{arith}
use Rattle.std.proofs.Math.Logic.{∥∥₁_elim}
use native.Mathlib.Nat.{ℕ_set}
use mathlib.Core.HLevel.{⊥_prop}
use Rattle.std.specs.Prelude.{Result, Ok, IfOk, nat_lt, if◌then◌else◌}
use Rattle.std.proofs.lemmas.Bool.{lt-ltb}
use Rattle.lam_geom.specs.declared.layer.Layer.{Layer}
use Rattle.mp_base.specs.declared.refusal.NoMemory.{NoMemory}
use Rattle.mask_runs.specs.declared.mask.Layers.{Layers}
use Rattle.mask_runs.specs.declared.mask.Mask.{Mask}
use Rattle.mask_runs.specs.declared.run.Run.{Run}
use Rattle.mask_runs.specs.Colours.{bare, colour_of}
use Rattle.cover_tree.specs.declared.changes.Known.{Known}
use Rattle.cover_tree.specs.declared.kinds.Kinds.{Kinds}
use Rattle.cover_tree.specs.declared.layer_set.LayerSet.{LayerSet}
use Rattle.cover_tree.specs.declared.part.Part.{Part}
use Rattle.cover_tree.specs.declared.trees.Trees.{Trees}
use Rattle.cover_tree.specs.Changes.{AreChanges}
use Rattle.cover_tree.specs.Covers.{row_colour}
use Rattle.cover_tree.specs.Parts.{InPart, root, left_half, right_half}
use Rattle.cover_tree.specs.Layered.{tree, told_tree, cover}
use Rattle.cover_tree.specs.Looking.{own_by, seen_by, seen, told, IsHandedDown}
use Rattle.cover_tree.specs.Nodes.{layers_of, no_layers}
use Rattle.cover_tree.specs.Kinds.{both, further, set_colour, union, IsOfKind, AreOneColour, Keeps as KeepsKinds}
use Rattle.cover_tree.specs.Notes.{IsTold, IsOnlyIn}
use Rattle.cover_tree.specs.Changing.{was, is, Keeps, Turns, Tells, with_last}
use Rattle.cover_tree.proofs.Covering.{root_colour, no_layer}
use Rattle.cover_tree.proofs.Sets.{layers_union}
use Rattle.cover_tree.proofs.Looking.{handed_down}
use Rattle.cover_tree.proofs.Noting.{seen_same, told_same}
use Rattle.cover_tree.proofs.Raising.{right_was}
use Rattle.cover_tree.proofs.Telling.{alike, in_turn, blank, all_told}

-- a part that is told: all depends on the layers that cover it as a whole
module _ (mask : Mask) (t : Trees) (p : Part) (known : Known) (s : IsTold t p) where
  was_under : (c : ℕ) → InPart p c
      → was mask t p known c ≡ colour_of mask (both (layers_of t.further known.before) (seen t t.since p bare c))
  was_under c i = ap (λ l. colour_of mask (both (layers_of t.further known.before) l)) (s.each c i)

  pub alike_change : known.before ≡ known.after → Keeps (was mask t p known) (is mask t p known) p
  alike_change e = record {
    each = λ c i. was_under c i ∙ ap (λ k. colour_of mask (both (layers_of t.further k) (seen t t.since p bare c))) e;
  }

  -- with known layers over a cell it has the colour of a kind
  by_kind : t.further ≡ further mask → (kinds : Kinds) (over : LayerSet) (layers : Layers)
      → (q : IsOfKind t.further kinds layers)
      → colour_of mask (both (layers_of t.further over) layers) ≡ set_colour mask (union over q.kind)
  by_kind f kinds over layers q =
      ap (λ l. colour_of mask (both (layers_of t.further over) l)) q.same
      ∙ ap (colour_of mask) (sym (layers_union t.further over q.kind))
      ∙ ap (λ l. colour_of mask (layers_of l (union over q.kind))) f

  module _ (f : t.further ≡ further mask) (kinds : Kinds)
      (k : (c : ℕ) → InPart p c → ∥ IsOfKind t.further kinds (seen t t.since p bare c) ∥₁) where
    pub kept_change : KeepsKinds mask kinds known.before known.after true
        → Keeps (was mask t p known) (is mask t p known) p
    kept_change h = record {
      each = λ c i. ∥∥₁_elim (k c i) (ℕ_set _ _) (λ q.
          was_under c i ∙ by_kind f kinds known.before _ q ∙ h.each q.kind q.has
          ∙ sym (by_kind f kinds known.after _ q));
    }

    pub turned_change : (colour : ℕ) → KeepsKinds mask kinds known.before known.after false
        → AreOneColour mask kinds known.after colour → Turns (was mask t p known) (is mask t p known) p colour
    turned_change colour h o = record {
      now = λ c i. ∥∥₁_elim (k c i) (ℕ_set _ _) (λ q. by_kind f kinds known.after _ q ∙ o.each q.kind q.has);
      other = λ c i e. ∥∥₁_elim (k c i) ⊥_prop (λ q. h.each q.kind q.has
          (sym (was_under c i ∙ by_kind f kinds known.before _ q) ∙ e ∙ sym (o.each q.kind q.has)));
    }

-- the layers of a set over the halves of a part
pub handed_on : (other : Layer) (tree : Layer → List ℕ) (p : Part) (row : ℕ) (known own : LayerSet)
    → layers_of other own ≡ own_by tree row p.at
    → IsHandedDown tree row p (layers_of other known) (layers_of other (union known own))
handed_on other tree p row known own e =
    subst (IsHandedDown tree row p (layers_of other known))
    (ap (both (layers_of other known)) (sym e) ∙ sym (layers_union other known own))
    (handed_down tree p row (layers_of other known))

module _ (mask : Mask) (t : Trees) (p : Part) (known down : Known)
    (a : IsHandedDown (told_tree t) 0 p (layers_of t.further known.before) (layers_of t.further down.before))
    (b : IsHandedDown (tree t) t.since p (layers_of t.further known.after) (layers_of t.further down.after)) where
  -- a part of one cell
  pub leaf_told : (old now : List Run) (last next : Result Run NoMemory) → t.further ≡ further mask → p.width < 2
      → Tells (λ _. set_colour mask down.before) (λ _. set_colour mask down.after) old now last next p.base
      (p.base + p.width)
      → Tells (was mask t p known) (is mask t p known) old now last next p.base (p.base + p.width)
  leaf_told old now last next f w l =
      alike _ _ (was mask t p known) (is mask t p known) old now last next p.base (p.base + p.width)
      (λ c i j. ap (colour_of mask) (a.leaf c w (record { from = i; to = j }))
      ∙ ap (λ l. colour_of mask (layers_of l down.before)) f)
      (λ c i j. ap (colour_of mask) (b.leaf c w (record { from = i; to = j }))
      ∙ ap (λ l. colour_of mask (layers_of l down.after)) f) l

  -- a part with halves, of which the left one is told first
  module _ (u : Trees) (o : IsOnlyIn (left_half p) t u) (w : 2 ≤ p.width) where
    left_was : (c : ℕ) → p.base ≤ c → c < p.base + p.width / 2 → was mask t p known c ≡ was mask t (left_half p) down c
    left_was c i j = sym (ap (colour_of mask) (a.left c w (record { from = i; to = j })))

    left_is : (c : ℕ) → p.base ≤ c → c < p.base + p.width / 2 → is mask t p known c ≡ is mask t (left_half p) down c
    left_is c i j = sym (ap (colour_of mask) (b.left c w (record { from = i; to = j })))

    right_was_told : (c : ℕ) → p.base + p.width / 2 ≤ c → c < p.base + p.width
        → was mask t p known c ≡ was mask u (right_half p) down c
    right_was_told c i j = sym (ap (colour_of mask)
        (ap (λ l. told u (right_half p) (layers_of l down.before) c) o.further
        ∙ told_same (right_half p) t u (omega arith) (right_was t u p w o) (layers_of t.further down.before) c
        ∙ a.right c w (record { from = i; to = omega arith })))

    right_is : (c : ℕ) → p.base + p.width / 2 ≤ c → c < p.base + p.width
        → is mask t p known c ≡ is mask u (right_half p) down c
    right_is c i j = sym (ap (colour_of mask)
        (ap (λ r. seen u r (right_half p) (layers_of u.further down.after) c) o.since
        ∙ ap (λ l. seen u t.since (right_half p) (layers_of l down.after) c) o.further
        ∙ seen_same (right_half p) t u (omega arith) (right_was t u p w o) t.since (layers_of t.further down.after) c
        ∙ b.right c w (record { from = i; to = omega arith })))

    pub halves_told : (old mid now : List Run) (last middle next : Result Run NoMemory)
        → Tells (was mask t (left_half p) down) (is mask t (left_half p) down) old mid last middle p.base
        (p.base + p.width / 2)
        → Tells (was mask u (right_half p) down) (is mask u (right_half p) down) mid now middle next
        (p.base + p.width / 2) (p.base + p.width / 2 + (p.width - p.width / 2))
        → Tells (was mask t p known) (is mask t p known) old now last next p.base (p.base + p.width)
    halves_told old mid now last middle next l r =
        let half = p.base + p.width / 2 in
        let end = p.base + p.width in
        let e : p.base + p.width / 2 + (p.width - p.width / 2) ≡ p.base + p.width = omega arith in
        let r2 : Tells (was mask u (right_half p) down) (is mask u (right_half p) down) mid now middle next half end =
        rw e at r in
        in_turn (was mask t p known) (is mask t p known) old mid now last middle next p.base half end (omega arith)
        (omega arith)
        (alike _ _ (was mask t p known) (is mask t p known) old mid last middle p.base half left_was left_is l)
        (alike _ _ (was mask t p known) (is mask t p known) mid now middle next half end right_was_told right_is r2)

-- what is told of all cells
module _ (mask : Mask) (cells : ℕ) (t : Trees) (row c : ℕ) (h : c < cells) where
  pub told_below : (if nat_lt c cells then colour_of mask (told t (root cells) bare c) else 0)
      ≡ colour_of mask (told t (root cells) bare c)
  told_below = rw (lt-ltb c cells h) refl

  pub told_root : (u : Trees) → IsTold u (root cells) → u.since ≡ row → ((l : Layer) → tree u l ≡ tree t l)
      → colour_of mask (told u (root cells) bare c) ≡ row_colour (cover mask cells t) row c
  told_root u s e f =
      ap (colour_of mask) (s.each c (record { from = omega arith; to = omega arith })
      ∙ (λ x. seen_by (λ l. f l x) (e x) (root cells) bare c)) ∙ sym (root_colour mask cells t row c h)

pub told_pieces : (mask : Mask) (cells : ℕ) (t : Trees) (row : ℕ) (p : Part) (known : Known) (old now : List Run)
    (last : Result Run NoMemory) → p ≡ root cells → known ≡ record { before = no_layers; after = no_layers }
    → old ≡ []
    → Tells (was mask (record t { since = row }) p known) (is mask (record t { since = row }) p known) old now
    (Ok blank) last p.base (p.base + p.width)
    → IfOk last (λ l. AreChanges (λ c. if nat_lt c cells then colour_of mask (told t (root cells) bare c) else 0)
    (row_colour (cover mask cells t) row) cells (with_last now l))
told_pieces mask cells t row p known old now last e f g s =
    let u : Trees = record t { since = row } in
    let bared : Known = record { before = no_layers; after = no_layers } in
    let a : Tells (was mask u (root cells) bared) (is mask u (root cells) bared) [] now (Ok blank) last 0 (0 + cells) =
    rw (e, f, g) at s in
    all_told (was mask u (root cells) bared) (is mask u (root cells) bared)
    (λ c. if nat_lt c cells then colour_of mask (told t (root cells) bare c) else 0)
    (row_colour (cover mask cells t) row) now last cells a
    (λ c h. told_below mask cells t row c h
    ∙ ap (λ l. colour_of mask (told t (root cells) l c)) (sym (no_layer t.further)))
    (λ c h. root_colour mask cells t row c h
    ∙ ap (λ l. colour_of mask (seen t row (root cells) l c)) (sym (no_layer t.further)))
