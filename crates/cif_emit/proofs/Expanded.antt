-- What boxes in a symbol draw, and labels; and how many walked items they are.
use Rattle.std.proofs.Common.{ℕ, refl, subst, arith, List, [], ◌∷◌, map, length}
use Rattle.std.proofs.Common.{Option, None, All}
use Rattle.std.specs.Prelude.{ℤ}
use Rattle.std.proofs.lemmas.List.Elements.{All-nil, All-cons}
use Rattle.lam_geom.specs.declared.layer.Layer.{Layer}
use Rattle.lam_geom.specs.declared.rect.Rect.{Rect}
use Rattle.cif_form.specs.declared.command.Command.{Command}
use Rattle.cif_form.specs.declared.command.Command.TheVariants as commands
use Rattle.cif_form.specs.declared.command.Item.{Item}
use Rattle.cif_form.specs.Place.{layer_name}
use Rattle.cif_form.specs.Names.{IsSymbolName}
use Rattle.cif_form.specs.Expansion.{Definition, Draws, Expands, IsInside, item_at}
use Rattle.cif_form.specs.Counts.{Counts, CountsAtTop}
use Rattle.fabric.specs.declared.chip.ChipLabel.{ChipLabel}
use Rattle.fabric.specs.Labelled.{AreLabelsOf}
use Rattle.cif_emit.specs.Commands.{box_of, label_of, label_words}
use Rattle.cif_emit.proofs.Offsets.{next, laid}
use Rattle.cif_emit.proofs.Painted.{Paints}
use Rattle.cif_emit.proofs.Edges.{half_lambda, box_edges}
use Rattle.cif_emit.proofs.Words.{flat_labels}

-- the definition of that number whose body stands at these offsets; it has no name
abbrev pub definition : ℤ → List Command → (ℕ → ℕ) → Definition
definition number body at = record { number = number; scale = half_lambda; name = None; body = laid at body }

-- ---- in the symbol

pub draws_boxes : (ds : List Definition) {l : Option Layer} {cs : List Command} {rs : List Rect} → Paints l cs rs
    → (at : ℕ → ℕ)
    → Draws ds half_lambda l (laid at cs) rs
draws_boxes ds Paints.none at = Draws.done
draws_boxes ds (Paints.layer m p) at = Draws.layer m (layer_name m) refl (draws_boxes ds p (next at))
draws_boxes ds (Paints.box {l = l} r b p) at =
    Draws.shape (box_of r) (r ∷ []) (box_edges r b.grid l r b.layer refl refl refl refl) (draws_boxes ds p (next at))

pub boxes_inside : {l : Option Layer} {cs : List Command} {rs : List Rect} → Paints l cs rs → (at : ℕ → ℕ)
    → All (λ (i : Item). IsInside i.command) (laid at cs)
boxes_inside Paints.none at = All-nil (λ (i : Item). IsInside i.command)
boxes_inside (Paints.layer {cs = cs} m p) at =
    All-cons (λ (i : Item). IsInside i.command) (item_at (at 0) (commands.Layer (layer_name m)))
    (laid (next at) cs) tt (boxes_inside p (next at))
boxes_inside (Paints.box {cs = cs} r b p) at =
    All-cons (λ (i : Item). IsInside i.command) (item_at (at 0) (box_of r)) (laid (next at) cs) tt
    (boxes_inside p (next at))

pub boxes_unnamed : {l : Option Layer} {cs : List Command} {rs : List Rect} → Paints l cs rs → (at : ℕ → ℕ)
    → IsSymbolName (laid at cs) None
boxes_unnamed Paints.none at = IsSymbolName.none
boxes_unnamed (Paints.layer m p) at = IsSymbolName.later (λ name h. h) (boxes_unnamed p (next at))
boxes_unnamed (Paints.box r b p) at = IsSymbolName.later (λ name h. h) (boxes_unnamed p (next at))

pub counts_boxes : (ds : List Definition) {l : Option Layer} {cs : List Command} {rs : List Rect} → Paints l cs rs
    → (at : ℕ → ℕ)
    → Counts ds (laid at cs) (length cs)
counts_boxes ds Paints.none at = Counts.none
counts_boxes ds (Paints.layer {cs = cs} m p) at =
    subst (Counts ds (laid at (commands.Layer (layer_name m) ∷ cs))) (omega arith)
    (Counts.other tt (counts_boxes ds p (next at)))
counts_boxes ds (Paints.box {cs = cs} r b p) at =
    subst (Counts ds (laid at (box_of r ∷ cs))) (omega arith) (Counts.other tt (counts_boxes ds p (next at)))

-- ---- the labels

pub are_labels : (ls : List ChipLabel) (at : ℕ → ℕ) → AreLabelsOf ls (flat_labels at ls)
are_labels [] at = tt
are_labels (l ∷ ls) at = (record { name = refl; x = refl; y = refl; layer = refl }, are_labels ls (next at))

pub labels_expand : (ds : List Definition) (ls : List ChipLabel) (at : ℕ → ℕ)
    → Expands ds None (laid at (map label_of ls)) []
labels_expand ds [] at = Expands.done
labels_expand ds (l ∷ ls) at =
    Expands.draw (label_of l) [] tt (Draws.user 9 (label_words l) Draws.done) (labels_expand ds ls (next at))

pub labels_count : (ds : List Definition) (ls : List ChipLabel) (at : ℕ → ℕ)
    → CountsAtTop ds (laid at (map label_of ls)) (length ls)
labels_count ds [] at = CountsAtTop.none
labels_count ds (l ∷ ls) at =
    subst (CountsAtTop ds (laid at (map label_of (l ∷ ls)))) (omega arith)
    (CountsAtTop.item tt (Counts.other tt Counts.none) (labels_count ds ls (next at)))
