-- The program that forms spell is a tree.
use Rattle.std.proofs.Common.{◌≡◌, ℕ, ◌<◌, true, List, ◌∷◌, sym, ◌∙◌, ap, subst, length, map}
use Rattle.std.proofs.Common.{drop, Option}
use Rattle.std.specs.List.{filter_map, flat_map}
use Rattle.std.proofs.lemmas.Bool.{and_from}
use Rattle.form_reader.specs.declared.forms.Forms.{Forms}
use Rattle.form_reader.specs.Sound.{kind_at, items_of}
use Rattle.mp_shapes.specs.declared.table.Class.{Class}
use Rattle.mp_shapes.specs.declared.table.Class.TheVariants as classes
use Rattle.mp_shapes.specs.declared.table.Layout.TheVariants as layouts
use Rattle.mp_shapes.specs.Standing.{StandsFor, root}
use Rattle.mp_program.specs.declared.program.Form.{Form}
use Rattle.mp_program.specs.declared.program.Process.{Process}
use Rattle.mp_program.specs.Tree.{are_low, form_heights, inner as inner_forms}
use Rattle.mp_written.specs.declared.program.Def.{Def}
use Rattle.mp_written.specs.declared.program.Expr.{Expr}
use Rattle.mp_written.specs.Tree.{expr_heights, is_tree, operands}
use Rattle.mp_entries.specs.Entries.{expr_at, expr_index, form_index, is_expr, is_form}
use Rattle.mp_syntax.specs.Shape.{always_at, def_at, process_at}
use Rattle.mp_syntax.proofs.Distinct.{Among, Distinct, among_drop, distinct_drop}
use Rattle.mp_syntax.proofs.Fitting.{Known, inner, is_program, not_number, root_inside}
use Rattle.mp_syntax.proofs.Heights.{Under, child, grandchild, all_low}
use Rattle.mp_syntax.proofs.Holding.{Stems, direct, guarded, nodes_distinct}
use Rattle.mp_syntax.proofs.OnePlace.{expr_nodes, form_nodes, formed, exprs_once, forms_once, forms_stem, operands_of}

module _ (f : Forms) (cs : List (Option Class)) (k : Known f cs) where
  form_under : (n z : ℕ) → n < length f.nodes → is_form f cs n ≡ true
      → Among z (inner_forms (formed f cs n).kind) → Under f (is_form f cs) n z
  form_under n z lt is a = by_stem ((forms_stem f cs k n lt is).held z a)
    where
      by_stem : Stems f (is_form f cs) layouts.Par n z → Under f (is_form f cs) n z
      by_stem (direct c h) = child h.place h.child h.item h.passes h.index
      by_stem (guarded b j at h) = grandchild j h.place b h.child at h.item h.passes h.index

  expr_under : (n z : ℕ) → n < length f.nodes → is_expr cs n ≡ true
      → Among z (operands (expr_at f (expr_index f cs) n).kind) → Under f (is_expr cs) n z
  expr_under n z lt is a =
      let (l, op, h) = (operands_of f cs k n lt is).held z a in child h.place h.child h.item h.passes h.index

  low_forms : are_low (form_heights (map (formed f cs) (form_nodes f cs))) ≡ true
  low_forms =
      all_low f k.sound (is_form f cs) (formed f cs) (λ (x : Form). inner_forms x.kind) form_under

  low_exprs : are_low (expr_heights (map (expr_at f (expr_index f cs)) (expr_nodes f cs))) ≡ true
  low_exprs = all_low f k.sound (is_expr cs) (expr_at f (expr_index f cs)) (λ (x : Expr). operands x.kind) expr_under

  items_stand : (r : ℕ) (rs : List ℕ) → f.roots ≡ r ∷ rs → (x : ℕ) → Among x (drop 3 (items_of (kind_at f r)))
      → (x < length f.nodes) × StandsFor f x classes.Item
  items_stand r rs is x a =
      let (j, le, lt, e) = among_drop 3 x (items_of (kind_at f r)) a in
      let it =
      inner f cs k r j classes.Whole classes.Item layouts.Program (root r rs is) (root_inside f k.sound r rs is)
      (is_program f cs k.classes r rs is) (not_number j classes.Item le) lt in
      let P : ℕ → Type 0 = λ m. (m < length f.nodes) × StandsFor f m classes.Item in
      subst P (sym e) (it.inside, it.stands)

  pub whole_tree : (r : ℕ) (rs : List ℕ) → f.roots ≡ r ∷ rs → is_tree
      (filter_map (def_at f (expr_index f cs)) (drop 3 (items_of (kind_at f r))))
      (map (expr_at f (expr_index f cs)) (expr_nodes f cs))
      (map (formed f cs) (form_nodes f cs))
      (flat_map (always_at f (form_index f cs)) (drop 3 (items_of (kind_at f r))))
      (filter_map (process_at f (form_index f cs)) (drop 3 (items_of (kind_at f r)))) ≡ true
  whole_tree r rs is =
      let items : List ℕ = drop 3 (items_of (kind_at f r)) in
      let distinct : Distinct items =
      distinct_drop 3 (items_of (kind_at f r))
      (nodes_distinct f cs k (is_form f cs) r (root_inside f k.sound r rs is)) in
      and_from _ _
      (and_from _ _
      (and_from _ _ (exprs_once f cs k items distinct (items_stand r rs is))
      (forms_once f cs k items distinct (items_stand r rs is))) low_exprs)
      low_forms

same_tree : (c d : List Def) (es xs : List Expr) (fs gs : List Form) (a b : List ℕ) (ps qs : List Process)
    → c ≡ d → es ≡ xs → fs ≡ gs → a ≡ b → ps ≡ qs → is_tree c es fs a ps ≡ is_tree d xs gs b qs
same_tree c d es xs fs gs a b ps qs e0 e1 e2 e3 e4 =
    ap (λ x. is_tree x es fs a ps) e0 ∙ ap (λ x. is_tree d x fs a ps) e1 ∙ ap (λ x. is_tree d xs x a ps) e2
    ∙ ap (λ x. is_tree d xs gs x ps) e3 ∙ ap (is_tree d xs gs b) e4

-- the same, of lists that are these
pub tree_at : (f : Forms) (cs : List (Option Class)) → Known f cs → (r : ℕ) (rs : List ℕ) → f.roots ≡ r ∷ rs
    → (defs : List Def) (es : List Expr) (fs : List Form) (always : List ℕ) (processes : List Process)
    → defs ≡ filter_map (def_at f (expr_index f cs)) (drop 3 (items_of (kind_at f r)))
    → es ≡ map (expr_at f (expr_index f cs)) (expr_nodes f cs)
    → fs ≡ map (formed f cs) (form_nodes f cs)
    → always ≡ flat_map (always_at f (form_index f cs)) (drop 3 (items_of (kind_at f r)))
    → processes ≡ filter_map (process_at f (form_index f cs)) (drop 3 (items_of (kind_at f r)))
    → is_tree defs es fs always processes ≡ true
tree_at f cs k r rs is defs es fs always processes e0 e1 e2 e3 e4 =
    same_tree defs _ es _ fs _ always _ processes _ e0 e1 e2 e3 e4 ∙ whole_tree f cs k r rs is
