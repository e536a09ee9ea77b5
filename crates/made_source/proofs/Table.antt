-- What each node of a made source stands for, and its shape.
use Rattle.std.proofs.Common.{◌≡◌, ℕ, List, [], ◌∷◌, ◌++◌, true, refl, ◌∙◌, ap, map}
use Rattle.std.specs.Prelude.{slice_index_or, Option, Some, None, replicate}
use Rattle.std.specs.List.{flat_map, range_with_len}
use Rattle.mp_base.specs.declared.op.Op.{Op}
use Rattle.mp_base.specs.declared.refusal.Place.{Place}
use Rattle.form_reader.specs.declared.forms.Kind.{Kind}
use Rattle.form_reader.specs.declared.forms.Forms.{Forms}
use Rattle.form_reader.specs.Sound.{kind_at}
use Rattle.mp_shapes.specs.declared.table.Class.{Class}
use Rattle.mp_shapes.specs.declared.table.Class.TheVariants.{Whole, Item, Action, Value, Word, Numeral}
use Rattle.mp_shapes.specs.declared.table.Definition.TheVariants.{Power, Ground, Phia, Phib, Phic, Register, PortInput}
use Rattle.mp_shapes.specs.declared.table.Definition.TheVariants.{PortOutput, SignalInput}
use Rattle.mp_shapes.specs.declared.table.Definition.{Definition}
use Rattle.mp_shapes.specs.declared.table.Layout.{Layout}
use Rattle.mp_shapes.specs.declared.table.Layout.TheVariants.{Leaf, Program, Def, Always, Setq, Apply}
use Rattle.mp_shapes.specs.Layout.{layout, value_layout}
use Rattle.made_program.specs.Made.{Row, AreRows, is_drawn}
use Rattle.made_program.proofs.Tests.{drawn_cases}
use Rattle.made_source.specs.Written.{op_word, made_items}
use Rattle.made_source.proofs.Numbered.{kinds_from, one_form}

-- ---- the tables

-- a definition: the list, and so many items
abbrev def_classes : ℕ → List (Option Class)
def_classes n = Some Item ∷ replicate n None

abbrev row_classes : List (Option Class)
row_classes = Some Item ∷ None ∷ Some Action ∷ None ∷ Some Word ∷ Some Value ∷ None ∷ Some Value ∷ Some Value ∷ []

-- what each node stands for
abbrev pub classes : List (Option Class)
classes = Some Whole ∷ None ∷ Some Word ∷ Some Numeral
    ∷ (flat_map def_classes (3 ∷ 3 ∷ 3 ∷ 3 ∷ 3 ∷ 5 ∷ 21 ∷ 21 ∷ 21 ∷ replicate 12 3) ++ flat_map (λ k. row_classes)
    (range_with_len 0 13))

abbrev def_layouts : Definition → ℕ → List (Option Layout)
def_layouts d n = Some (Def d) ∷ replicate n None

-- the shapes of rows, by those of their expressions
abbrev row_layouts : List (Option Layout) → List (Option Layout)
row_layouts [] = []
row_layouts (v ∷ vs) = Some Always ∷ None ∷ Some Setq ∷ None ∷ Some Leaf ∷ v ∷ None ∷ Some Leaf ∷ Some Leaf
    ∷ row_layouts vs

abbrev layouts_by : List (Option Layout) → List (Option Layout)
layouts_by vs = Some Program ∷ None ∷ Some Leaf ∷ Some Leaf
    ∷ (def_layouts Power 3
    ++ (def_layouts Ground 3
    ++ (def_layouts Phia 3 ++ (def_layouts Phib 3 ++ (def_layouts Phic 3 ++ (def_layouts SignalInput 5
    ++ (def_layouts PortInput 21 ++ (def_layouts PortInput 21 ++ (def_layouts PortOutput 21
    ++ (flat_map (λ k. def_layouts Register 3) (range_with_len 0 12) ++ row_layouts vs))))))))))

abbrev found : Row → Option Layout
found row = value_layout (op_word row.op) 3

abbrev meant : Row → Option Layout
meant row = Some (Apply row.op)

-- the shape of each node
abbrev pub layouts : List Row → List (Option Layout)
layouts rows = layouts_by (map meant rows)

pub op_layout : (op : Op) → is_drawn op ≡ true → value_layout (op_word op) 3 ≡ Some (Apply op)
op_layout op h = drawn_cases (λ o. value_layout (op_word o) 3 ≡ Some (Apply o)) refl refl refl refl refl op h

found_is_meant : (rows : List Row) → AreRows rows → map found rows ≡ map meant rows
found_is_meant [] are = refl
found_is_meant (row ∷ rows) are = ap (λ v. v ∷ map found rows) (op_layout row.op (are.0).op)
    ∙ ap (λ vs. meant row ∷ vs) (found_is_meant rows are.1)

-- ---- thirteen rows

-- the rows of a made source, one by one
abbrev pub thirteen : (ℕ → Row) → List Row
thirteen r = r 0 ∷ r 1 ∷ r 2 ∷ r 3 ∷ r 4 ∷ r 5 ∷ r 6 ∷ r 7 ∷ r 8 ∷ r 9 ∷ r 10 ∷ r 11 ∷ r 12 ∷ []

abbrev pub made_forms : (ℕ → Place) → Place → (ℕ → Row) → Forms
made_forms at end r = one_form at end (kinds_from 0 (made_items (thirteen r)))

abbrev pub layout_in : Forms → Kind → Option Class → Option Layout
layout_in f k None = None
layout_in f k (Some c) = layout f c k

abbrev pub layout_at : Forms → ℕ → Option Layout
layout_at f n = layout_in f (kind_at f n) (slice_index_or classes n None)

all_layouts : (at : ℕ → Place) (end : Place) (r : ℕ → Row)
    → map (layout_at (made_forms at end r)) (range_with_len 0 261) ≡ layouts_by (map found (thirteen r))
all_layouts at end r = refl

pub layouts_are : (at : ℕ → Place) (end : Place) (r : ℕ → Row) → AreRows (thirteen r)
    → map (layout_at (made_forms at end r)) (range_with_len 0 261) ≡ layouts (thirteen r)
layouts_are at end r are = all_layouts at end r ∙ ap layouts_by (found_is_meant (thirteen r) are)
