-- Forms have the shape of a program, or break rule E10 or E11 first.
use Rattle.std.proofs.Common.{◌≡◌, ◌⊎◌, inl, inr, ℕ, ◌<◌, ◌≤◌, List, [], ◌∷◌, Option, refl, arith, drop, map, length}
use Rattle.std.proofs.Common.{slice_index}
use Rattle.std.specs.List.{filter_map, flat_map}
use Rattle.std.proofs.lemmas.Bool.{cases_lt}
use Rattle.mp_base.specs.declared.refusal.Place.{Place}
use Rattle.mp_base.specs.declared.refusal.Family.TheVariants.{E}
use Rattle.mp_base.specs.declared.refusal.Spot.TheVariants.{At}
use Rattle.mp_base.specs.declared.refusal.Refusal.{Refusal}
use Rattle.mp_base.specs.declared.refusal.Refusal.TheVariants.{Broken}
use Rattle.form_reader.specs.declared.forms.Forms.{Forms}
use Rattle.form_reader.specs.Sound.{IsSound, HasSymbols, node, kind_at, items_of}
use Rattle.mp_shapes.specs.declared.table.Class.{Class}
use Rattle.mp_shapes.specs.Standing.{AreClasses, E10, IsFirstE10}
use Rattle.mp_written.specs.declared.program.Program.{Program}
use Rattle.mp_entries.specs.Entries.{number_at, name_at, expr_at, form_at, expr_index, form_index, is_expr, is_form}
use Rattle.mp_entries.specs.Entries.{nodes_below}
use Rattle.mp_syntax.specs.Shape.{IsShape, IsFirst, def_at, always_at, process_at}
use Rattle.mp_syntax.proofs.Fitting.{Known, fits_at}
use Rattle.mp_syntax.proofs.Trees.{whole_tree}
use Rattle.mp_syntax.proofs.Widths.{one_form, width_refused}

-- what is known of all forms
abbrev pub ShapesLaw : Type 0
ShapesLaw = (f : Forms) → IsSound f → ((classes : List (Option Class)) × AreClasses f classes
    × ((at : Place) → E10 f at → ⊥)) ⊎ ((at : Place) × IsFirstE10 f at)

-- the program of one form without a defect, of a word length within the bounds
program_of : (f : Forms) (cs : List (Option Class)) → Known f cs → (r : ℕ) → f.roots ≡ r ∷ []
    → 1 ≤ number_at f (slice_index (items_of (kind_at f r)) 2)
    → number_at f (slice_index (items_of (kind_at f r)) 2) ≤ 64 → (p : Program) × IsShape f p
program_of f cs known r one low high = (
  record {
    place = (node f r).place;
    name = name_at f (slice_index (items_of (kind_at f r)) 1);
    width = number_at f (slice_index (items_of (kind_at f r)) 2);
    defs = filter_map (def_at f (expr_index f cs)) (drop 3 (items_of (kind_at f r)));
    exprs = map (expr_at f (expr_index f cs)) (nodes_below (is_expr cs) (length f.nodes));
    forms = map (form_at f (expr_index f cs) (form_index f cs)) (nodes_below (is_form f cs) (length f.nodes));
    always = flat_map (always_at f (form_index f cs)) (drop 3 (items_of (kind_at f r)));
    processes = filter_map (process_at f (form_index f cs)) (drop 3 (items_of (kind_at f r)));
    fits = fits_at f cs known r [] one low high _ _ _ _ _ _ _ refl refl refl refl refl refl refl;
    tree = whole_tree f cs known r [] one;
  },
  record {
    root = r;
    classes = cs;
    one = one;
    known = known.classes;
    place = refl;
    name = refl;
    width = refl;
    defs = refl;
    exprs = refl;
    forms = refl;
    always = refl;
    processes = refl;
  },
)

wrong_width : (f : Forms) (cs : List (Option Class)) → Known f cs → (r : ℕ) → f.roots ≡ r ∷ []
    → ((at : Place) → E10 f at → ⊥)
    → (number_at f (slice_index (items_of (kind_at f r)) 2) ≡ 0)
    ⊎ (64 < number_at f (slice_index (items_of (kind_at f r)) 2)) → (k : ℕ) × (at : Place) × IsFirst f k at
wrong_width f cs known r one whole bad =
    let n = slice_index (items_of (kind_at f r)) 2 in
    let at = (node f n).place in
    let refusal : Refusal = Broken (record { rule = record { family = E; number = 11 }; spot = At at }) in
    (11, at, (width_refused f cs known r n one whole refl bad refusal at refl refl).1)

pub verdict : ShapesLaw → (f : Forms) → IsSound f → HasSymbols f → ((p : Program) × IsShape f p)
    ⊎ ((k : ℕ) × (at : Place) × IsFirst f k at)
verdict law f sound symbols = elim (law f sound) [
  | inr (at, first) ↦ inr (10, at, inl (refl, first))
  | inl (cs, classes, whole) ↦
      let known : Known f cs = record { sound = sound; symbols = symbols; classes = classes } in
      let (r, one) = one_form f whole in
      let n = number_at f (slice_index (items_of (kind_at f r)) 2) in
      elim (cases_lt 0 n) [
        | inr none ↦ inr (wrong_width f cs known r one whole (inl (omega (arith, none))))
        | inl some ↦ elim (cases_lt 64 n) [
          | inl many ↦ inr (wrong_width f cs known r one whole (inr many))
          | inr high ↦ inl (program_of f cs known r one (omega (arith, some)) high)
        ]
      ]
]
