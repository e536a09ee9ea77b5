-- Forms are the shape of one program at most, and then keep the rules.
use Rattle.std.proofs.Common.{◌≡◌, ◌⊎◌, inl, inr, ℕ, ◌≤◌, Bool, true, List, refl, sym, ◌∙◌, ap}
use Rattle.std.proofs.Common.{subst, length, map, arith, drop, Option, Some, None, slice_index, slice_index_or, ◌&&◌}
use Rattle.std.proofs.Common.{nat_lt, nat_le}
use Rattle.std.specs.List.{list_all, filter_map, flat_map}
use Rattle.std.proofs.lemmas.Bool.{and_parts, leb-true}
use Rattle.std.proofs.Math.Bool.{Bool-set}
use Rattle.std.proofs.lemmas.List.{ext_get_or}
use Rattle.mp_base.specs.declared.refusal.Place.{Place}
use Rattle.form_reader.specs.declared.forms.Forms.{Forms}
use Rattle.form_reader.specs.Sound.{node, kind_at, items_of}
use Rattle.mp_shapes.specs.declared.table.Class.{Class}
use Rattle.mp_shapes.specs.Standing.{E10, AreClasses}
use Rattle.mp_program.specs.declared.program.Form.{Form}
use Rattle.mp_program.specs.declared.program.Process.{Process}
use Rattle.mp_program.specs.Fits as fits
use Rattle.mp_written.specs.declared.program.Def.{Def}
use Rattle.mp_written.specs.declared.program.Expr.{Expr}
use Rattle.mp_written.specs.declared.program.Program.{Program}
use Rattle.mp_written.specs.Fits as written
use Rattle.mp_written.specs.Tree.{is_tree}
use Rattle.mp_entries.specs.Entries.{expr_at, expr_index, form_at, form_index, is_expr, is_form, name_at, nodes_below}
use Rattle.mp_entries.specs.Entries.{number_at}
use Rattle.mp_syntax.specs.Shape.{always_at, def_at, process_at, E11, IsShape}
use Rattle.mp_syntax.proofs.Widths.{form_kept, width_kept}

same_classes : (f : Forms) (xs ys : List (Option Class)) → AreClasses f xs → AreClasses f ys → xs ≡ ys
same_classes f xs ys a b =
    ext_get_or None xs ys (a.size ∙ sym b.size)
    (λ i il. by_class i (slice_index_or xs i None) (slice_index_or ys i None) refl refl)
  where
    by_class : (i : ℕ) (x y : Option Class) → slice_index_or xs i None ≡ x → slice_index_or ys i None ≡ y
        → slice_index_or xs i None ≡ slice_index_or ys i None
    by_class i (Some c) y is too = is ∙ sym (b.complete i c (a.sound i c is))
    by_class i None (Some c) is too = a.complete i c (b.sound i c too) ∙ sym too
    by_class i None None is too = is ∙ sym too

-- a program, but for what its type says
abbrev Parts : Type 0
Parts = Place × List ℕ × ℕ × List Def × List Expr × List Form × List ℕ × List Process

abbrev Fit : Parts → Type 0
Fit t = (written.program_fits t.2 t.1 t.3 t.4 t.5 t.6 t.7 ≡ true) × (is_tree t.3 t.4 t.5 t.6 t.7 ≡ true)

abbrev made : (t : Parts) → Fit t → Program
made t h =
    record {
      place = t.0;
      name = t.1;
      width = t.2;
      defs = t.3;
      exprs = t.4;
      forms = t.5;
      always = t.6;
      processes = t.7;
      fits = h.0;
      tree = h.1;
    }

abbrev parts : Program → Parts
parts p = (p.place, p.name, p.width, p.defs, p.exprs, p.forms, p.always, p.processes)

one_proof : (b : Bool) → IsProp (b ≡ true)
one_proof b = hlevel (Bool-set)

same_made : (s t : Parts) → s ≡ t → (h : Fit s) (g : Fit t) → made s h ≡ made t g
same_made s t e =
    let P : Parts → Type 0 = λ x. (h : Fit s) (g : Fit x) → made s h ≡ made x g in
    subst P e one_made
  where
    one_made : (h g : Fit s) → made s h ≡ made s g
    one_made h g =
        let first : Fit s → (written.program_fits s.2 s.1 s.3 s.4 s.5 s.6 s.7 ≡ true) → Fit s = λ x y. (y, x.1) in
        let second : Fit s → (is_tree s.3 s.4 s.5 s.6 s.7 ≡ true) → Fit s = λ x y. (x.0, y) in
        ap (λ y. made s (first h y)) (one_proof (written.program_fits s.2 s.1 s.3 s.4 s.5 s.6 s.7) h.0 g.0)
        ∙ ap (λ y. made s (second g y)) (one_proof (is_tree s.3 s.4 s.5 s.6 s.7) h.1 g.1)

same_parts : (s t : Parts) → s.0 ≡ t.0 → s.1 ≡ t.1 → s.2 ≡ t.2 → s.3 ≡ t.3 → s.4 ≡ t.4 → s.5 ≡ t.5 → s.6 ≡ t.6
    → s.7 ≡ t.7 → s ≡ t
same_parts s t e0 e1 e2 e3 e4 e5 e6 e7 =
    let f0 : Place → Parts = λ x. (x, s.1, s.2, s.3, s.4, s.5, s.6, s.7) in
    let f1 : List ℕ → Parts = λ x. (t.0, x, s.2, s.3, s.4, s.5, s.6, s.7) in
    let f2 : ℕ → Parts = λ x. (t.0, t.1, x, s.3, s.4, s.5, s.6, s.7) in
    let f3 : List Def → Parts = λ x. (t.0, t.1, t.2, x, s.4, s.5, s.6, s.7) in
    let f4 : List Expr → Parts = λ x. (t.0, t.1, t.2, t.3, x, s.5, s.6, s.7) in
    let f5 : List Form → Parts = λ x. (t.0, t.1, t.2, t.3, t.4, x, s.6, s.7) in
    let f6 : List ℕ → Parts = λ x. (t.0, t.1, t.2, t.3, t.4, t.5, x, s.7) in
    let f7 : List Process → Parts = λ x. (t.0, t.1, t.2, t.3, t.4, t.5, t.6, x) in
    ap f0 e0 ∙ ap f1 e1 ∙ ap f2 e2 ∙ ap f3 e3 ∙ ap f4 e4 ∙ ap f5 e5 ∙ ap f6 e6 ∙ ap f7 e7

-- what a shape gives, from the root and the classes
abbrev spelled : Forms → ℕ → List (Option Class) → Parts
spelled f r cs = (
  (node f r).place,
  name_at f (slice_index (items_of (kind_at f r)) 1),
  number_at f (slice_index (items_of (kind_at f r)) 2),
  filter_map (def_at f (expr_index f cs)) (drop 3 (items_of (kind_at f r))),
  map (expr_at f (expr_index f cs)) (nodes_below (is_expr cs) (length f.nodes)),
  map (form_at f (expr_index f cs) (form_index f cs)) (nodes_below (is_form f cs) (length f.nodes)),
  flat_map (always_at f (form_index f cs)) (drop 3 (items_of (kind_at f r))),
  filter_map (process_at f (form_index f cs)) (drop 3 (items_of (kind_at f r))),
)

parts_are : (f : Forms) (p : Program) (s : IsShape f p) → parts p ≡ spelled f s.root s.classes
parts_are f p s =
    same_parts (parts p) (spelled f s.root s.classes) s.place s.name s.width s.defs s.exprs s.forms s.always s.processes

pub one_program : (f : Forms) (p q : Program) → IsShape f p → IsShape f q → p ≡ q
one_program f p q s t =
    let root : s.root ≡ t.root = ap (λ xs. slice_index xs 0) (sym s.one ∙ t.one) in
    let classes : s.classes ≡ t.classes = same_classes f s.classes t.classes s.known t.known in
    let e : parts p ≡ parts q =
    parts_are f p s ∙ ap (λ r. spelled f r s.classes) root ∙ ap (spelled f t.root) classes ∙ sym (parts_are f q t) in
    same_made (parts p) (parts q) e (p.fits, p.tree) (q.fits, q.tree)

-- the word length of a program
fronts : (a b c d e g h i : Bool) → (a && b && c && d && e && g && h && i) ≡ true → (a ≡ true) × (b ≡ true)
fronts a b c d e g h i is =
    and_parts a b
    (and_parts (a && b) c
    (and_parts (a && b && c) d
    (and_parts (a && b && c && d) e (and_parts (a && b && c && d && e) g (and_parts (a && b && c && d && e && g) h
    (and_parts (a && b && c && d && e && g && h) i is).0).0).0).0).0).0

width_bounds : (p : Program) → (1 ≤ p.width) × (p.width ≤ 64)
width_bounds p =
    let h = fronts (nat_le 1 p.width) (nat_le p.width 64) (fits.is_symbol p.name)
    (list_all (written.def_fits (length p.exprs)) p.defs)
    (written.exprs_fit (length p.exprs) 0 p.exprs)
    (fits.forms_fit (length p.exprs) (length p.forms) 0 p.forms) (list_all (λ f. nat_lt f (length p.forms)) p.always)
    (list_all (fits.process_fits (length p.forms)) p.processes) p.fits in
    (leb-true 1 p.width h.0, leb-true p.width 64 h.1)

pub shaped_is_unbroken : (f : Forms) (p : Program) (at : Place) → IsShape f p → E10 f at ⊎ E11 f at → ⊥
shaped_is_unbroken f p at s e =
    let bounds = width_bounds p in
    elim e [
      | inl ten ↦ form_kept f s.root s.one s.known.clean at ten
      | inr eleven ↦
          width_kept f s.root s.one (omega (arith, bounds.0, s.width)) (omega (arith, bounds.1, s.width)) at eleven
    ]
