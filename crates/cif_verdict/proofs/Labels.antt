-- Whether a user command is a label, and what a symbol is called.
use Rattle.std.proofs.Common.{◌≡◌, inl, inr, ℕ, List, [], ◌∷◌, ◌++◌, Option, Some, None, refl, sym, ◌∙◌, subst}
use Rattle.std.specs.Prelude.{Contains, ℤ}
use Rattle.mp_base.proofs.Decisions.{Decided, same_claim, both_of, one_of, not_so, is_number, is_name}
use Rattle.lam_geom.specs.declared.label.FlatLabel.{FlatLabel}
use Rattle.lam_geom.specs.Moves.{IsNearRect}
use Rattle.cif_form.specs.declared.command.Command.{Command}
use Rattle.cif_form.specs.declared.command.Command.TheVariants.{User}
use Rattle.cif_form.specs.declared.command.Item.{Item}
use Rattle.cif_form.specs.Labels.{IsLabelText}
use Rattle.cif_form.specs.Names.{Names, IsSymbolName}
use Rattle.cif_form.specs.Place.{IsScaled, dot, cell}
use Rattle.cif_form.specs.Walk.{Frame, Visit, IsLabelAt, IsNew}
use Rattle.cif_form.proofs.OnePlace.{one_scaled}
use Rattle.cif_form.proofs.OneLabel.{one_label}
use Rattle.cif_form.proofs.OneWalk.{one_label_at}
use Rattle.cif_verdict.proofs.Deciding.{of_the_one, some_in}
use Rattle.cif_verdict.proofs.Scaling.{some_scaled}
use Rattle.cif_verdict.proofs.Edges.{is_near_rect}
use Rattle.cif_verdict.proofs.Grammar.{some_label, some_name}

-- ---- names of symbols

naming : (c : Command) → Decided ((name : List ℕ) × Names c name)
naming (User digit text) = same_claim (both_of (is_number digit 9) (some_name text))
    (λ (nine, (name, h)). (name, (nine, h))) (λ (name, (nine, h)). (nine, (name, h)))
naming c = inr (λ (name, h). h)

-- each list of commands has a name, or none
pub symbol_name : (items : List Item) → (found : Option (List ℕ)) × IsSymbolName items found
symbol_name [] = (None, IsSymbolName.none)
symbol_name (i ∷ is) = by (naming i.command) (symbol_name is)
  where
    by : Decided ((name : List ℕ) × Names i.command name) → (found : Option (List ℕ)) × IsSymbolName is found
        → (found : Option (List ℕ)) × IsSymbolName (i ∷ is) found
    by (inl (name, h)) rest = (Some name, IsSymbolName.first name h)
    by (inr none) (found, h) = (found, IsSymbolName.later (λ name k. none (name, k)) h)

-- ---- labels

module _ (v : Visit) where
  -- a point has a place at v, which is near
  abbrev IsNearAt : ℤ → ℤ → Type 0
  IsNearAt across up = (x : ℤ) × IsScaled v.frame.scale across x
      × ((y : ℤ) × IsScaled v.frame.scale up y × IsNearRect (v.frame.place (dot x y)))

  near_at : (across up : ℤ) → Decided (IsNearAt across up)
  near_at across up = of_the_one (IsScaled v.frame.scale across)
      (λ x. (y : ℤ) × IsScaled v.frame.scale up y × IsNearRect (v.frame.place (dot x y)))
      (one_scaled v.frame.scale across) (some_scaled v.frame.scale across)
      (λ x. of_the_one (IsScaled v.frame.scale up) (λ y. IsNearRect (v.frame.place (dot x y)))
      (one_scaled v.frame.scale up) (some_scaled v.frame.scale up) (λ y. is_near_rect (v.frame.place (dot x y))))

  -- the label of a text as it is written, wherever it is
  abbrev Writes : List ℕ → FlatLabel → Type 0
  Writes text label = (label.offset ≡ v.item.offset) × IsLabelText label text

  written_once : (text : List ℕ) (l m : FlatLabel) → Writes text l → Writes text m → l ≡ m
  written_once text l m h k = one_label l m text (h.0 ∙ sym k.0) h.1 k.1

  some_written : (text : List ℕ) → Decided ((label : FlatLabel) × Writes text label)
  some_written text = same_claim (some_label v.item.offset text) (λ (label, at, is). (label, (at, is)))
      (λ (label, (at, is)). (label, at, is))

  some_way : (o : Option (List ℕ)) → Decided ((way : List ℕ) × (o ≡ Some way))
  some_way None = inr (λ (way, e). absurd (cc))
  some_way (Some way) = inl (way, refl)

  abbrev Labels : ℕ → List ℕ → Type 0
  Labels digit text = (digit ≡ 9) × (((way : List ℕ) × (v.frame.way ≡ Some way))
      × ((label : FlatLabel) × Writes text label × IsNearAt label.x label.y))

  some_label_at : (digit : ℕ) (text : List ℕ) → Decided ((label : FlatLabel) × IsLabelAt v digit text label)
  some_label_at digit text = same_claim (both_of (is_number digit 9) (both_of (some_way v.frame.way)
      (of_the_one (Writes text) (λ label. IsNearAt label.x label.y) (written_once text) (some_written text)
      (λ label. near_at label.x label.y)))) fore back
    where
      fore : Labels digit text → (label : FlatLabel) × IsLabelAt v digit text label
      fore (nine, ((way, named), (label, (at, is), (x, across, (y, up, near))))) = (
        record {
          offset = v.item.offset;
          name = way ++ label.name;
          x = (v.frame.place (cell x y)).x0;
          y = (v.frame.place (cell x y)).y0;
          layer = label.layer;
        },
        record {
          nine = nine;
          written = label;
          is = is;
          way = way;
          named = named;
          x = x;
          y = y;
          across = across;
          up = up;
          near = near;
          offset = refl;
          name = refl;
          left = refl;
          bottom = refl;
          layer = refl;
        },
      )

      back : (label : FlatLabel) × IsLabelAt v digit text label → Labels digit text
      back (label, h) = (
        h.nine,
        (
          (h.way, h.named),
          (
            record h.written { offset = v.item.offset },
            (refl, h.is),
            (h.x, h.across, (h.y, h.up, h.near)),
          ),
        ),
      )

  is_top : (fs : List Frame) → Decided (fs ≡ [])
  is_top [] = inl refl
  is_top (f ∷ fs) = inr (λ e. absurd (let none : f ∷ fs ≡ [] = e in cc))

  is_among : (names : List (List ℕ)) (name : List ℕ) → Decided (Contains names name)
  is_among names name = same_claim (some_in (λ other. other ≡ name) (λ other. is_name other name) names)
      (λ (other, among, e). subst (Contains names) e among) (λ among. (name, among, refl))

  -- whether the user command at v is a label, and not a comment
  pub some_new_label : (digit : ℕ) (text : List ℕ)
      → Decided ((label : FlatLabel) × IsLabelAt v digit text label × IsNew v label)
  some_new_label digit text = of_the_one (IsLabelAt v digit text) (IsNew v) (one_label_at v digit text)
      (some_label_at digit text) (λ label. one_of (is_top v.outer) (not_so (is_among v.names label.name)))
