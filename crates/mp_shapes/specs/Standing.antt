-- What nodes stand for, the defects, and rule E10.
use Rattle.std.specs.Prelude.{◌≡◌, ◌⊎◌, ℕ, ◌<◌, ◌≤◌, List, [], ◌∷◌, length, Option, Some, None, slice_index_or}
use Rattle.mp_base.specs.declared.refusal.Place.{Place}
use Rattle.form_reader.specs.declared.forms.Forms.{Forms}
use Rattle.form_reader.specs.Sound.{IsItem, kind_at, node}
use Rattle.mp_shapes.specs.declared.table.Class.{Class}
use Rattle.mp_shapes.specs.declared.table.Class.TheVariants.{Whole}
use Rattle.mp_shapes.specs.declared.table.Layout.{Layout}
use Rattle.mp_shapes.specs.Layout.{layout, item_class}

-- the first form has to be a program, and the shape of a list says what its items have to be
pub data StandsFor (f : Forms) : ℕ → Class → Type 0 where
  root : (r : ℕ) (rs : List ℕ) → f.roots ≡ r ∷ rs → StandsFor f r Whole
  item : (n j m : ℕ) (c d : Class) (l : Layout) → StandsFor f n c → IsItem f n j m → layout f c (kind_at f n) ≡ Some l
      → item_class l j ≡ Some d → StandsFor f m d

-- a node that has no shape of the class it stands for
abbrev pub IsDefect : Forms → ℕ → Type 0
IsDefect f n = (c : Class) × StandsFor f n c × (layout f c (kind_at f n) ≡ None)

abbrev pub IsFirstDefect : Forms → ℕ → Type 0
IsFirstDefect f n = (n < length f.nodes) × IsDefect f n × ((m : ℕ) → IsDefect f m → n ≤ m)

-- rule E10, by the place: a defect, no form, or a second one
abbrev pub E10 : Forms → Place → Type 0
E10 f at = ((n : ℕ) × IsDefect f n × (at ≡ (node f n).place))
    ⊎ ((f.roots ≡ []) × (at ≡ f.end))
    ⊎ ((a b : ℕ) × (rs : List ℕ) × (f.roots ≡ a ∷ b ∷ rs) × (at ≡ (node f b).place))

-- the first place of rule E10, by offset
abbrev pub IsFirstE10 : Forms → Place → Type 0
IsFirstE10 f at = E10 f at × ((there : Place) → E10 f there → at.offset ≤ there.offset)

-- a class or none for each node: those that the nodes stand for, and none of them has a defect
pub record AreClasses (f : Forms) (classes : List (Option Class)) : Type 0 where
  pub size : length classes ≡ length f.nodes
  pub sound : (m : ℕ) (c : Class) → slice_index_or classes m None ≡ Some c → StandsFor f m c
  pub complete : (m : ℕ) (c : Class) → StandsFor f m c → slice_index_or classes m None ≡ Some c
  pub clean : (m : ℕ) → ¬ IsDefect f m
