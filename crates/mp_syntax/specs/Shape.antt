-- The program that forms spell, as it is written: one entry for each node that stands for an expression or a form, and
-- one for each item.
use Rattle.std.specs.Prelude.{◌≡◌, ◌⊎◌, ℕ, ◌+◌, ◌<◌, List, [], ◌∷◌, cond, not, length, map}
use Rattle.std.specs.Prelude.{drop, Option, Some, None, slice_index}
use Rattle.std.specs.List.{filter, filter_map, flat_map}
use Rattle.mp_base.specs.declared.refusal.Place.{Place}
use Rattle.mp_base.specs.Refuses.{IsOfFamily}
use Rattle.mp_base.specs.declared.refusal.Broken.{Broken}
use Rattle.mp_base.specs.declared.refusal.Family.TheVariants.{E}
use Rattle.form_reader.specs.declared.forms.Kind.TheVariants as kinds
use Rattle.form_reader.specs.declared.forms.Forms.{Forms}
use Rattle.form_reader.specs.Sound.{node, kind_at, items_of}
use Rattle.mp_shapes.specs.declared.table.Class.{Class}
use Rattle.mp_shapes.specs.declared.table.Class.TheVariants as classes
use Rattle.mp_shapes.specs.declared.table.Definition.{Definition}
use Rattle.mp_shapes.specs.declared.table.Definition.TheVariants as definitions
use Rattle.mp_shapes.specs.declared.table.Layout.{Layout}
use Rattle.mp_shapes.specs.declared.table.Layout.TheVariants as layouts
use Rattle.mp_shapes.specs.Layout.{is_symbol, layout}
use Rattle.mp_shapes.specs.Standing.{AreClasses, E10, IsFirstE10}
use Rattle.mp_entries.specs.Entries.{name_at, number_at, is_expr, is_form, nodes_below, expr_at, form_at}
use Rattle.mp_entries.specs.Entries.{expr_index, form_index}
use Rattle.mp_program.specs.declared.program.Way.TheVariants.{Input, Output, Internal}
use Rattle.mp_program.specs.declared.program.Pin.{Pin}
use Rattle.mp_program.specs.declared.program.Label.{Label}
use Rattle.mp_program.specs.declared.program.Process.{Process}
use Rattle.mp_written.specs.declared.program.What.{What}
use Rattle.mp_written.specs.declared.program.What.TheVariants as whats
use Rattle.mp_written.specs.declared.program.Arg.{Arg}
use Rattle.mp_written.specs.declared.program.Def.{Def}
use Rattle.mp_written.specs.declared.program.Program.{Program}

-- DEF, by its items, where expr gives the index of the expression at a node
abbrev pub pin_at : Forms → ℕ → Pin
pin_at f n = record { place = (node f n).place; number = number_at f n }

abbrev pub arg_at : Forms → ℕ → Arg
arg_at f n = record { place = (node f n).place; name = name_at f n }

-- the arguments of a function are in a list of their own, and its body is the last item
abbrev pub what_of : Forms → (ℕ → ℕ) → List ℕ → Definition → What
what_of f expr items definitions.Power = whats.Power
what_of f expr items definitions.Ground = whats.Ground
what_of f expr items definitions.Phia = whats.Phia
what_of f expr items definitions.Phib = whats.Phib
what_of f expr items definitions.Phic = whats.Phic
what_of f expr items definitions.Constant = whats.Constant (number_at f (slice_index items 3))
what_of f expr items definitions.Register = whats.Register
what_of f expr items definitions.Flag = whats.Flag
what_of f expr items definitions.PortInput = whats.Port Input
what_of f expr items definitions.PortOutput = whats.Port Output
what_of f expr items definitions.PortInternal = whats.Port Internal
what_of f expr items definitions.SignalInput = whats.Signal Input
what_of f expr items definitions.SignalOutput = whats.Signal Output
what_of f expr items definitions.SignalInternal = whats.Signal Internal
what_of f expr items definitions.Function =
    whats.Function (map (arg_at f) (items_of (kind_at f (slice_index items 3)))) (expr (slice_index items 4))

-- the pins of a port are in a list of their own
abbrev pub pin_nodes : Forms → List ℕ → Definition → List ℕ
pin_nodes f items definitions.Power = slice_index items 1 ∷ []
pin_nodes f items definitions.Ground = slice_index items 1 ∷ []
pin_nodes f items definitions.Phia = slice_index items 1 ∷ []
pin_nodes f items definitions.Phib = slice_index items 1 ∷ []
pin_nodes f items definitions.Phic = slice_index items 1 ∷ []
pin_nodes f items definitions.PortInput = items_of (kind_at f (slice_index items 4))
pin_nodes f items definitions.PortOutput = items_of (kind_at f (slice_index items 4))
pin_nodes f items definitions.SignalInput = slice_index items 4 ∷ []
pin_nodes f items definitions.SignalOutput = slice_index items 4 ∷ []
pin_nodes f items _ = []

-- the symbol behind the head is the name; where a number stands there, the name is empty
abbrev pub def_of : Forms → (ℕ → ℕ) → ℕ → List ℕ → Definition → Def
def_of f expr n items d =
    record {
      place = (node f n).place;
      name = name_at f (slice_index items 1);
      what = what_of f expr items d;
      pins = map (pin_at f) (pin_nodes f items d);
    }

-- PROCESS: a label has the number of forms before it
abbrev pub labels_from : Forms → ℕ → List ℕ → List Label
labels_from f before [] = []
labels_from f before (i ∷ is) = cond (is_symbol (kind_at f i))
    (record { place = (node f i).place; name = name_at f i; before = before } ∷ labels_from f before is)
    (labels_from f (before + 1) is)

abbrev pub process_of : Forms → (ℕ → ℕ) → ℕ → List ℕ → Process
process_of f form n items = record {
  place = (node f n).place;
  name = name_at f (slice_index items 1);
  depth = number_at f (slice_index items 2);
  depth_at = (node f (slice_index items 2)).place;
  labels = labels_from f 0 (drop 3 items);
  forms = map form (filter (λ i. not (is_symbol (kind_at f i))) (drop 3 items));
}

-- ITEM, by its shape
abbrev pub def_in : Forms → (ℕ → ℕ) → ℕ → Option Layout → Option Def
def_in f expr n (Some (layouts.Def d)) = Some (def_of f expr n (items_of (kind_at f n)) d)
def_in f expr n _ = None

abbrev pub always_in : Forms → (ℕ → ℕ) → ℕ → Option Layout → List ℕ
always_in f form n (Some layouts.Always) = map form (drop 1 (items_of (kind_at f n)))
always_in f form n _ = []

abbrev pub process_in : Forms → (ℕ → ℕ) → ℕ → Option Layout → Option Process
process_in f form n (Some layouts.Process) = Some (process_of f form n (items_of (kind_at f n)))
process_in f form n _ = None

abbrev pub def_at : Forms → (ℕ → ℕ) → ℕ → Option Def
def_at f expr n = def_in f expr n (layout f classes.Item (kind_at f n))

abbrev pub always_at : Forms → (ℕ → ℕ) → ℕ → List ℕ
always_at f form n = always_in f form n (layout f classes.Item (kind_at f n))

abbrev pub process_at : Forms → (ℕ → ℕ) → ℕ → Option Process
process_at f form n = process_in f form n (layout f classes.Item (kind_at f n))

-- PROGRAM: one form, in which no node has a defect. Expressions and forms follow the nodes in text order, the rest
-- follows the items.
pub record IsShape (f : Forms) (p : Program) : Type 0 where
  pub root : ℕ
  pub classes : List (Option Class)
  pub one : f.roots ≡ root ∷ []
  pub known : AreClasses f classes
  pub place : p.place ≡ (node f root).place
  pub name : p.name ≡ name_at f (slice_index (items_of (kind_at f root)) 1)
  pub width : p.width ≡ number_at f (slice_index (items_of (kind_at f root)) 2)
  pub defs : p.defs ≡ filter_map (def_at f (expr_index f classes)) (drop 3 (items_of (kind_at f root)))
  pub exprs : p.exprs ≡ map (expr_at f (expr_index f classes)) (nodes_below (is_expr classes) (length f.nodes))
  pub forms : p.forms
      ≡ map (form_at f (expr_index f classes) (form_index f classes)) (nodes_below (is_form f classes) (length f.nodes))
  pub always : p.always ≡ flat_map (always_at f (form_index f classes)) (drop 3 (items_of (kind_at f root)))
  pub processes : p.processes ≡ filter_map (process_at f (form_index f classes)) (drop 3 (items_of (kind_at f root)))

-- rule E11, by the place: the word length is 0 or over 64
abbrev pub E11 : Forms → Place → Type 0
E11 f at = (r n v : ℕ) × (rs : List ℕ) × (f.roots ≡ r ∷ rs)
    × (layout f classes.Whole (kind_at f r) ≡ Some layouts.Program) × (n ≡ slice_index (items_of (kind_at f r)) 2)
    × (kind_at f n ≡ kinds.Number v) × ((v ≡ 0) ⊎ (64 < v)) × (at ≡ (node f n).place)

-- the first broken rule: E10, by offset, and then E11
abbrev pub IsFirst : Forms → ℕ → Place → Type 0
IsFirst f k at = ((k ≡ 10) × IsFirstE10 f at) ⊎ ((k ≡ 11) × E11 f at × ((there : Place) → ¬ E10 f there))

-- every form has its shape, and the word length is 1 to 64; or this is the first rule that is broken
abbrev pub OfForms : Forms → Option Broken → Type 0
OfForms f None = (at : Place) → ¬ (E10 f at ⊎ E11 f at)
OfForms f (Some b) = IsOfFamily E (IsFirst f) b
