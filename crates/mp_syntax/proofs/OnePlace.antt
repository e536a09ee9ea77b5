-- In the program that forms spell nothing stands in two places.
use Rattle.std.proofs.Common.{◌≡◌, inl, inr, ℕ, ◌<◌, ◌≤◌, Bool, true, false, not, cond, List, [], ◌∷◌, ◌++◌}
use Rattle.std.proofs.Common.{refl, sym, ◌∙◌, ap, subst, length, map, arith, drop, Option, Some, None, slice_index}
use Rattle.std.proofs.Common.{codes}
use Rattle.std.specs.List.{filter, filter_map, flat_map, cons_option, range_with_len}
use Rattle.std.specs.Str.{bytes_eq}
use Rattle.std.proofs.lemmas.Bool.{ne_eqb, not-true}
use Rattle.std.proofs.lemmas.List.Folds.{flat_map-map}
use Rattle.form_reader.specs.declared.forms.Kind.{Kind}
use Rattle.form_reader.specs.declared.forms.Kind.TheVariants as kinds
use Rattle.form_reader.specs.declared.forms.Forms.{Forms}
use Rattle.form_reader.specs.Sound.{IsItem, kind_at, items_of}
use Rattle.mp_shapes.specs.declared.table.Class.{Class}
use Rattle.mp_shapes.specs.declared.table.Class.TheVariants as classes
use Rattle.mp_shapes.specs.declared.table.Definition.TheVariants as definitions
use Rattle.mp_shapes.specs.declared.table.Layout.{Layout}
use Rattle.mp_shapes.specs.declared.table.Layout.TheVariants as layouts
use Rattle.mp_shapes.specs.Layout.{layout, item_class, is_symbol}
use Rattle.mp_shapes.specs.Standing.{StandsFor}
use Rattle.mp_program.specs.declared.program.Branch.{Branch}
use Rattle.mp_program.specs.declared.program.Form.{Form}
use Rattle.mp_program.specs.declared.program.Process.{Process}
use Rattle.mp_program.specs.Tree.{is_distinct, exprs_in, inner as inner_forms, form_places}
use Rattle.mp_written.specs.declared.program.ExprKind.TheVariants as exprs
use Rattle.mp_written.specs.declared.program.Def.{Def}
use Rattle.mp_written.specs.declared.program.Expr.{Expr}
use Rattle.mp_written.specs.Tree.{body_in, operands, expr_places}
use Rattle.mp_entries.specs.Entries.{branch_at, expr_at, expr_index, expr_kind, form_at, form_index, form_kind, is_expr}
use Rattle.mp_entries.specs.Entries.{is_form, list_expr, nodes_below}
use Rattle.mp_syntax.specs.Shape.{always_at, always_in, def_at, def_in, process_at, process_in}
use Rattle.mp_syntax.proofs.Fitting.{Known, inner, counts, guarded as guarded_shape, function_fits, not_head, not_first}
use Rattle.mp_syntax.proofs.Fitting.{not_number}
use Rattle.mp_syntax.proofs.Standing.{expr_stands, form_stands, passes_element, passes_expr, passes_form}
use Rattle.mp_syntax.proofs.Distinct.{Among, Distinct, among_append, among_drop, among_filter, among_flat, among_map}
use Rattle.mp_syntax.proofs.Distinct.{among_range, distinct_append, distinct_drop, distinct_filter, distinct_flat}
use Rattle.mp_syntax.proofs.Distinct.{distinct_map, distinct_range, passes_distinct}
use Rattle.mp_syntax.proofs.Holding.{items_at, AllHeld, AllStem, Group, Holds, Stemming, Stems, all_held, all_stem}
use Rattle.mp_syntax.proofs.Holding.{direct_stems, dropped, group, guarded, held_apart, no_group}
use Rattle.mp_syntax.proofs.Holding.{no_stems, nodes_distinct, one_holder, one_shape}

-- what stands in an entry, if there is one
abbrev pub held_by : {X : Type 0} → (X → List ℕ) → Option X → List ℕ
held_by h (Some q) = h q
held_by h None = []

held_mapped : {X : Type 0} (h : X → List ℕ) (g : ℕ → Option X) (xs : List ℕ)
    → flat_map h (filter_map g xs) ≡ flat_map (λ x. held_by h (g x)) xs
held_mapped h g [] = refl
held_mapped {X} h g (x ∷ xs) = by_option (g x) (held_mapped h g xs)
  where
    by_option : (o : Option X) → flat_map h (filter_map g xs) ≡ flat_map (λ y. held_by h (g y)) xs
        → flat_map h (cons_option o (filter_map g xs)) ≡ held_by h o ++ flat_map (λ y. held_by h (g y)) xs
    by_option None rest = rest
    by_option (Some q) rest = ap (λ ys. h q ++ ys) rest

-- the top-level forms of a process, and the body of a function, if it is one
abbrev pub roots_of : Option Process → List ℕ
roots_of = held_by (λ (q : Process). q.forms)

abbrev pub body_of_def : Option Def → List ℕ
body_of_def = held_by (λ (d : Def). body_in d.what)

-- the entries of the guard and the body of a branch
abbrev guard_of : Forms → List (Option Class) → ℕ → ℕ
guard_of f cs b = expr_index f cs (slice_index (items_at f b) 0)

abbrev body_of : Forms → List (Option Class) → ℕ → List ℕ
body_of f cs b = map (form_index f cs) (drop 1 (items_at f b))

-- the nodes that stand for forms and for expressions, and what they spell
abbrev pub form_nodes : Forms → List (Option Class) → List ℕ
form_nodes f cs = nodes_below (is_form f cs) (length f.nodes)

abbrev pub expr_nodes : Forms → List (Option Class) → List ℕ
expr_nodes f cs = nodes_below (is_expr cs) (length f.nodes)

abbrev pub formed : Forms → List (Option Class) → ℕ → Form
formed f cs = form_at f (expr_index f cs) (form_index f cs)

-- what stands directly in the entry of a node
abbrev forms_under : Forms → List (Option Class) → ℕ → List ℕ
forms_under f cs n = inner_forms (formed f cs n).kind

abbrev exprs_under : Forms → List (Option Class) → ℕ → List ℕ
exprs_under f cs n = exprs_in (formed f cs n).kind

abbrev args_under : Forms → List (Option Class) → ℕ → List ℕ
args_under f cs n = operands (expr_kind f (expr_index f cs) (kind_at f n))

abbrev roots_under : Forms → List (Option Class) → ℕ → List ℕ
roots_under f cs n = roots_of (process_at f (form_index f cs) n)

abbrev bodies_under : Forms → List (Option Class) → ℕ → List ℕ
bodies_under f cs n = body_of_def (def_at f (expr_index f cs) n)

-- ---- what a node holds

module _ (f : Forms) (cs : List (Option Class)) (k : Known f cs) where
  always_group : (n : ℕ) → n < length f.nodes → StandsFor f n classes.Item
      → Group f (is_form f cs) n classes.Item layouts.Always (always_at f (form_index f cs) n)
  always_group n lt st = by_layout (layout f classes.Item (kind_at f n)) refl
    where
      by_layout : (o : Option Layout) → layout f classes.Item (kind_at f n) ≡ o
          → Group f (is_form f cs) n classes.Item layouts.Always (always_in f (form_index f cs) n o)
      by_layout (Some layouts.Always) lay =
          dropped f cs k (is_form f cs) n 1 classes.Item classes.Action layouts.Always st lt lay
          (λ j h. not_head j classes.Action h)
          (passes_form f cs k.classes)
      by_layout _ lay = no_group f cs k (is_form f cs) n classes.Item layouts.Always

  process_group : (n : ℕ) → n < length f.nodes → StandsFor f n classes.Item
      → Group f (is_form f cs) n classes.Item layouts.Process (roots_under f cs n)
  process_group n lt st = by_layout (layout f classes.Item (kind_at f n)) refl
    where
      by_layout : (o : Option Layout) → layout f classes.Item (kind_at f n) ≡ o
          → Group f (is_form f cs) n classes.Item layouts.Process (roots_of (process_in f (form_index f cs) n o))
      by_layout (Some layouts.Process) lay =
          group f cs k (is_form f cs) n classes.Item layouts.Process st lay
          (filter (λ i. not (is_symbol (kind_at f i))) (drop 3 (items_at f n)))
          (distinct_filter (λ i. not (is_symbol (kind_at f i))) (drop 3 (items_at f n))
          (distinct_drop 3 (items_at f n) (nodes_distinct f cs k (is_form f cs) n lt))) (λ x a.
          let (there, other) = among_filter (λ i. not (is_symbol (kind_at f i))) x (drop 3 (items_at f n)) a in
          let (j, le, jl, e) = among_drop 3 x (items_at f n) there in
          let it =
          inner f cs k n j classes.Item classes.Element layouts.Process st lt lay
          (not_number j classes.Element le) jl in (
            j,
            (lt, jl, e),
            passes_element f cs k.classes x
                (subst (λ m. StandsFor f m classes.Element) (sym e) it.stands) (not-true _ other),
          ))
      by_layout _ lay = no_group f cs k (is_form f cs) n classes.Item layouts.Process

  function_group : (n : ℕ) → n < length f.nodes → StandsFor f n classes.Item
      → Group f (is_expr cs) n classes.Item (layouts.Def definitions.Function) (bodies_under f cs n)
  function_group n lt st = by_layout (layout f classes.Item (kind_at f n)) refl
    where
      by_layout : (o : Option Layout) → layout f classes.Item (kind_at f n) ≡ o
          → Group f (is_expr cs) n classes.Item (layouts.Def definitions.Function)
          (body_of_def (def_in f (expr_index f cs) n o))
      by_layout (Some (layouts.Def definitions.Function)) lay =
          let x = slice_index (items_at f n) 4 in
          group f cs k (is_expr cs) n classes.Item (layouts.Def definitions.Function) st lay (x ∷ [])
          (λ a. absurd a, tt) each
        where
          some : 4 < length (items_at f n)
          some = omega (arith, (function_fits f k.symbols n lay).0)

          each : (x : ℕ) → Among x (slice_index (items_at f n) 4 ∷ [])
              → (j : ℕ) × IsItem f n j x × (is_expr cs x ≡ true)
          each x (inl e) =
              let it =
              inner f cs k n 4 classes.Item classes.Value (layouts.Def definitions.Function) st lt lay refl some in (
                4,
                (lt, some, e),
                passes_expr f cs k.classes x (subst (λ m. StandsFor f m classes.Value) (sym e) it.stands),
              )
          each x (inr a) = absurd a
      by_layout _ lay = no_group f cs k (is_expr cs) n classes.Item (layouts.Def definitions.Function)

  -- a branch of a form
  is_branch : (n j : ℕ) (c : Class) → StandsFor f n c → n < length f.nodes
      → layout f c (kind_at f n) ≡ Some layouts.Cond → 1 ≤ j
      → j < length (items_at f n) → (b : ℕ) → b ≡ slice_index (items_at f n) j
      → StandsFor f b classes.Branch × (b < length f.nodes)
  is_branch n j c st lt lay le jl b e =
      let it = inner f cs k n j c classes.Branch layouts.Cond st lt lay (not_head j classes.Branch le) jl in
      let P : ℕ → Type 0 = λ m. StandsFor f m classes.Branch × (m < length f.nodes) in
      subst P (sym e) (it.stands, it.inside)

  has_guard : (b : ℕ) → StandsFor f b classes.Branch → layout f classes.Branch (kind_at f b) ≡ Some layouts.Guarded
  has_guard b st = guarded_shape f (kind_at f b) (λ none. k.classes.clean b (classes.Branch, st, none))

  guard_class : (j : ℕ) → 1 ≤ j → item_class layouts.Guarded j ≡ Some classes.Action
  guard_class j le =
      ap (λ b. cond b (Some classes.Value) (Some classes.Action)) (ne_eqb j 0 (λ e. omega (arith, le, e)))

  body_group : (b : ℕ) → b < length f.nodes → StandsFor f b classes.Branch
      → Group f (is_form f cs) b classes.Branch layouts.Guarded (body_of f cs b)
  body_group b lt st =
      dropped f cs k (is_form f cs) b 1 classes.Branch classes.Action layouts.Guarded st lt
      (has_guard b st) guard_class (passes_form f cs k.classes)

  guard_held : (b : ℕ) → b < length f.nodes → StandsFor f b classes.Branch
      → Holds f (is_expr cs) b classes.Branch layouts.Guarded (guard_of f cs b)
  guard_held b lt st =
      let lay = has_guard b st in
      let some : 1 ≤ length (items_at f b) = counts f b classes.Branch layouts.Guarded lay in
      let it = inner f cs k b 0 classes.Branch classes.Value layouts.Guarded st lt lay refl (omega (arith, some)) in
      record {
        child = slice_index (items_at f b) 0;
        place = 0;
        item = (lt, omega (arith, some), refl);
        stands = st;
        shape = lay;
        passes = passes_expr f cs k.classes (slice_index (items_at f b) 0) it.stands;
        index = refl;
      }

  -- the bodies, and the guards, of the branches of a form
  bodies_stem : (n : ℕ) (c : Class) → n < length f.nodes → StandsFor f n c
      → layout f c (kind_at f n) ≡ Some layouts.Cond
      → Stemming f (is_form f cs) layouts.Par n (flat_map (body_of f cs) (drop 1 (items_at f n)))
  bodies_stem n c lt st lay =
      record { distinct = distinct_flat (body_of f cs) (drop 1 (items_at f n)) each_distinct each one; held = held }
    where
      each_distinct : Distinct (drop 1 (items_at f n))
      each_distinct = distinct_drop 1 (items_at f n) (nodes_distinct f cs k (is_form f cs) n lt)

      found : (b : ℕ) → Among b (drop 1 (items_at f n))
          → (j : ℕ) × IsItem f n j b × StandsFor f b classes.Branch × (b < length f.nodes)
      found b a =
          let (j, le, jl, e) = among_drop 1 b (items_at f n) a in
          let (stands, inside) = is_branch n j c st lt lay le jl b e in (j, (lt, jl, e), stands, inside)

      each : (b : ℕ) → Among b (drop 1 (items_at f n)) → Distinct (body_of f cs b)
      each b a = let (j, at, stands, inside) = found b a in (body_group b inside stands).distinct

      one : (a b z : ℕ) → Among a (drop 1 (items_at f n)) → Among b (drop 1 (items_at f n))
          → Among z (body_of f cs a) → Among z (body_of f cs b) → a ≡ b
      one a b z h g in_a in_b =
          let (i, at, stands, inside) = found a h in
          let (j, there, too, under) = found b g in
          one_holder f cs k (is_form f cs) a b classes.Branch classes.Branch layouts.Guarded layouts.Guarded z
          ((body_group a inside stands).held z in_a) ((body_group b under too).held z in_b)

      held : (z : ℕ) → Among z (flat_map (body_of f cs) (drop 1 (items_at f n)))
          → Stems f (is_form f cs) layouts.Par n z
      held z a =
          let (b, h, in_b) = among_flat (body_of f cs) z (drop 1 (items_at f n)) a in
          let (j, at, stands, inside) = found b h in
          guarded b j at ((body_group b inside stands).held z in_b)

  guards_stem : (n : ℕ) (c : Class) → n < length f.nodes → StandsFor f n c
      → layout f c (kind_at f n) ≡ Some layouts.Cond
      → Stemming f (is_expr cs) layouts.Setq n (map (guard_of f cs) (drop 1 (items_at f n)))
  guards_stem n c lt st lay = record {
    distinct =
        distinct_map (guard_of f cs) (drop 1 (items_at f n))
        (distinct_drop 1 (items_at f n) (nodes_distinct f cs k (is_expr cs) n lt)) one;
    held = held;
  }
    where
      found : (b : ℕ) → Among b (drop 1 (items_at f n))
          → (j : ℕ) × IsItem f n j b × Holds f (is_expr cs) b classes.Branch layouts.Guarded (guard_of f cs b)
      found b a =
          let (j, le, jl, e) = among_drop 1 b (items_at f n) a in
          let (stands, inside) = is_branch n j c st lt lay le jl b e in (j, (lt, jl, e), guard_held b inside stands)

      one : (a b : ℕ) → Among a (drop 1 (items_at f n)) → Among b (drop 1 (items_at f n))
          → guard_of f cs a ≡ guard_of f cs b → a ≡ b
      one a b h g e =
          let (i, at, here) = found a h in
          let (j, there, too) = found b g in
          let z = guard_of f cs b in
          one_holder f cs k (is_expr cs) a b classes.Branch classes.Branch layouts.Guarded layouts.Guarded z
          (subst (λ y. Holds f (is_expr cs) a classes.Branch layouts.Guarded y) e here) too

      held : (z : ℕ) → Among z (map (guard_of f cs) (drop 1 (items_at f n))) → Stems f (is_expr cs) layouts.Setq n z
      held z a =
          let (b, h, e) = among_map (guard_of f cs) z (drop 1 (items_at f n)) a in
          let (j, at, here) = found b h in
          guarded b j at (subst (λ y. Holds f (is_expr cs) b classes.Branch layouts.Guarded y) (sym e) here)

  value_group : (n : ℕ) (c : Class) → n < length f.nodes → StandsFor f n c
      → layout f c (kind_at f n) ≡ Some layouts.Setq
      → Group f (is_expr cs) n c layouts.Setq (expr_index f cs (slice_index (items_at f n) 2) ∷ [])
  value_group n c lt st lay =
      let three : length (items_at f n) ≡ 3 = counts f n c layouts.Setq lay in
      let it = inner f cs k n 2 c classes.Value layouts.Setq st lt lay refl (omega (arith, three)) in
      let x = slice_index (items_at f n) 2 in
      group f cs k (is_expr cs) n c layouts.Setq st lay (x ∷ []) (λ a. absurd a, tt)
      (each (omega (arith, three)) it.stands)
    where
      each : 2 < length (items_at f n) → StandsFor f (slice_index (items_at f n) 2) classes.Value → (x : ℕ)
          → Among x (slice_index (items_at f n) 2 ∷ []) → (j : ℕ) × IsItem f n j x × (is_expr cs x ≡ true)
      each some stands x (inl e) =
          (2, (lt, some, e), passes_expr f cs k.classes x (subst (λ m. StandsFor f m classes.Value) (sym e) stands))
      each some stands x (inr a) = absurd a

  -- what stands directly in a form
  pub forms_stem : (n : ℕ) → n < length f.nodes → is_form f cs n ≡ true
      → Stemming f (is_form f cs) layouts.Par n (forms_under f cs n)
  forms_stem n lt is = by_class (form_stands f cs k.classes n is)
    where
      by_layout : (c : Class) → StandsFor f n c → (o : Option Layout) → layout f c (kind_at f n) ≡ o
          → Stemming f (is_form f cs) layouts.Par n
          (inner_forms (form_kind f (expr_index f cs) (form_index f cs) (items_at f n) o))
      by_layout c st (Some layouts.Cond) lay =
          let P : List ℕ → Type 0 = Stemming f (is_form f cs) layouts.Par n in
          subst P (sym
          (flat_map-map (λ (b : Branch). b.body) (branch_at f (expr_index f cs) (form_index f cs))
          (drop 1 (items_at f n))))
          (bodies_stem n c lt st lay)
      by_layout c st (Some layouts.Par) lay =
          direct_stems f cs k (is_form f cs) n c layouts.Par (map (form_index f cs) (drop 1 (items_at f n)))
          (dropped f cs k (is_form f cs) n 1 c classes.Action layouts.Par st lt lay
          (λ j h. not_head j classes.Action h) (passes_form f cs k.classes))
      by_layout c st _ lay = no_stems f cs k (is_form f cs) layouts.Par n

      by_class : (c : Class) × StandsFor f n c × (layout f c (kind_at f n) ≡ layout f classes.Action (kind_at f n))
          → Stemming f (is_form f cs) layouts.Par n (forms_under f cs n)
      by_class (c, st, same) = by_layout c st (layout f classes.Action (kind_at f n)) same

  exprs_stem : (n : ℕ) → n < length f.nodes → is_form f cs n ≡ true
      → Stemming f (is_expr cs) layouts.Setq n (exprs_under f cs n)
  exprs_stem n lt is = by_class (form_stands f cs k.classes n is)
    where
      map_twice : (g : ℕ → Branch) (xs : List ℕ) → map (λ (b : Branch). b.guard) (map g xs) ≡ map (λ x. (g x).guard) xs
      map_twice g [] = refl
      map_twice g (x ∷ xs) = ap (λ ys. (g x).guard ∷ ys) (map_twice g xs)

      by_layout : (c : Class) → StandsFor f n c → (o : Option Layout) → layout f c (kind_at f n) ≡ o
          → Stemming f (is_expr cs) layouts.Setq n
          (exprs_in (form_kind f (expr_index f cs) (form_index f cs) (items_at f n) o))
      by_layout c st (Some layouts.Cond) lay =
          let P : List ℕ → Type 0 = Stemming f (is_expr cs) layouts.Setq n in
          subst P (sym (map_twice (branch_at f (expr_index f cs) (form_index f cs)) (drop 1 (items_at f n))))
          (guards_stem n c lt st lay)
      by_layout c st (Some layouts.Setq) lay =
          direct_stems f cs k (is_expr cs) n c layouts.Setq (expr_index f cs (slice_index (items_at f n) 2) ∷ [])
          (value_group n c lt st lay)
      by_layout c st _ lay = no_stems f cs k (is_expr cs) layouts.Setq n

      by_class : (c : Class) × StandsFor f n c × (layout f c (kind_at f n) ≡ layout f classes.Action (kind_at f n))
          → Stemming f (is_expr cs) layouts.Setq n (exprs_under f cs n)
      by_class (c, st, same) = by_layout c st (layout f classes.Action (kind_at f n)) same

-- the shapes of operators and uses
abbrev pub IsOperator : Layout → Type 0
IsOperator (layouts.Apply op) = Unit {0}
IsOperator layouts.Bit = Unit {0}
IsOperator layouts.Use = Unit {0}
IsOperator _ = ⊥

pub record Operands (f : Forms) (cs : List (Option Class)) (n : ℕ) (zs : List ℕ) : Type 0 where
  pub distinct : Distinct zs
  pub held : (z : ℕ) → Among z zs → (l : Layout) × IsOperator l × Holds f (is_expr cs) n classes.Value l z

no_operands : (f : Forms) (cs : List (Option Class)) (n : ℕ) → Operands f cs n []
no_operands f cs n = record { distinct = tt; held = λ z a. absurd a }

module _ (f : Forms) (cs : List (Option Class)) (k : Known f cs) where
  pub operands_of : (n : ℕ) → n < length f.nodes → is_expr cs n ≡ true → Operands f cs n (args_under f cs n)
  operands_of n lt is = by_kind (kind_at f n) refl
    where
      st : StandsFor f n classes.Value
      st = expr_stands f cs k.classes n is

      grouped : (l : Layout) (zs : List ℕ) → IsOperator l → Group f (is_expr cs) n classes.Value l zs
          → Operands f cs n zs
      grouped l zs op g = record { distinct = g.distinct; held = λ z a. (l, op, g.held z a) }

      by_symbol : (a b : Bool) (x : List ℕ)
          → Operands f cs n (operands (cond a exprs.True (cond b exprs.False (exprs.Named x))))
      by_symbol true b x = no_operands f cs n
      by_symbol false true x = no_operands f cs n
      by_symbol false false x = no_operands f cs n

      by_layout : (items : List ℕ) → kind_at f n ≡ kinds.Group items → (o : Option Layout)
          → layout f classes.Value (kinds.Group items) ≡ o
          → Operands f cs n (operands (list_expr f (expr_index f cs) items o))
      by_layout items e (Some (layouts.Apply op)) lay =
          let here : layout f classes.Value (kind_at f n) ≡ Some (layouts.Apply op) =
          ap (λ x. layout f classes.Value x) e ∙ lay in
          let P : List ℕ → Type 0 = λ xs. Operands f cs n (map (expr_index f cs) (drop 1 xs)) in
          subst P (ap items_of e) (grouped (layouts.Apply op) _ tt
          (dropped f cs k (is_expr cs) n 1 classes.Value classes.Value (layouts.Apply op) st lt here
          (λ j h. not_head j classes.Value h) (passes_expr f cs k.classes)))
      by_layout items e (Some layouts.Bit) lay =
          let here : layout f classes.Value (kind_at f n) ≡ Some layouts.Bit =
          ap (λ x. layout f classes.Value x) e ∙ lay in
          let P : List ℕ → Type 0 = λ xs. Operands f cs n (map (expr_index f cs) (drop 2 xs)) in
          subst P (ap items_of e) (grouped layouts.Bit _ tt
          (dropped f cs k (is_expr cs) n 2 classes.Value classes.Value layouts.Bit st lt here
          (λ j h. not_first j classes.Numeral classes.Value h) (passes_expr f cs k.classes)))
      by_layout items e (Some layouts.Use) lay =
          let here : layout f classes.Value (kind_at f n) ≡ Some layouts.Use =
          ap (λ x. layout f classes.Value x) e ∙ lay in
          let P : List ℕ → Type 0 = λ xs. Operands f cs n (map (expr_index f cs) (drop 1 xs)) in
          subst P (ap items_of e) (grouped layouts.Use _ tt
          (dropped f cs k (is_expr cs) n 1 classes.Value classes.Value layouts.Use st lt here
          (λ j h. not_head j classes.Value h) (passes_expr f cs k.classes)))
      by_layout items e _ lay = no_operands f cs n

      by_kind : (x : Kind) → kind_at f n ≡ x → Operands f cs n (operands (expr_kind f (expr_index f cs) x))
      by_kind (kinds.Number v) e = no_operands f cs n
      by_kind (kinds.Symbol x) e = by_symbol (bytes_eq x (codes "t")) (bytes_eq x (codes "f")) x
      by_kind (kinds.Group items) e = by_layout items e (layout f classes.Value (kinds.Group items)) refl

  -- ---- all places

  below : (test : ℕ → Bool) (n : ℕ) → Among n (nodes_below test (length f.nodes))
      → (n < length f.nodes) × (test n ≡ true)
  below test n a =
      let (there, is) = among_filter test n (range_with_len 0 (length f.nodes)) a in
      let (low, high) = among_range 0 (length f.nodes) n there in (omega (arith, high), is)

  below_distinct : (test : ℕ → Bool) → Distinct (nodes_below test (length f.nodes))
  below_distinct test = distinct_filter test (range_with_len 0 (length f.nodes)) (distinct_range 0 (length f.nodes))

  -- the items of the program
  abbrev pub AreItems : List ℕ → Type 0
  AreItems xs = (x : ℕ) → Among x xs → (x < length f.nodes) × StandsFor f x classes.Item

  forms_apart : (xs : List ℕ) → Distinct xs → AreItems xs
      → Distinct (flat_map (always_at f (form_index f cs)) xs ++ (flat_map (roots_under f cs) xs
      ++ flat_map (forms_under f cs) (form_nodes f cs)))
  forms_apart xs d are =
      distinct_append _ _ always.distinct (distinct_append _ _ roots.distinct inside.distinct roots_inside) always_rest
    where
      always : AllHeld f (is_form f cs) classes.Item layouts.Always (flat_map (always_at f (form_index f cs)) xs)
      always =
          all_held f cs k (is_form f cs) classes.Item layouts.Always (always_at f (form_index f cs)) xs d (λ x a.
          let (lt, st) = are x a in always_group f cs k x lt st)

      roots : AllHeld f (is_form f cs) classes.Item layouts.Process (flat_map (roots_under f cs) xs)
      roots =
          all_held f cs k (is_form f cs) classes.Item layouts.Process (roots_under f cs) xs d (λ x a.
          let (lt, st) = are x a in process_group f cs k x lt st)

      inside : AllStem f (is_form f cs) layouts.Par (flat_map (forms_under f cs) (form_nodes f cs))
      inside =
          all_stem f cs k (is_form f cs) layouts.Par (λ e. cc) (forms_under f cs)
          (form_nodes f cs) (below_distinct (is_form f cs))
          (λ n a. let (lt, is) = below (is_form f cs) n a in forms_stem f cs k n lt is)

      roots_inside : (z : ℕ) → Among z (flat_map (roots_under f cs) xs)
          → Among z (flat_map (forms_under f cs) (form_nodes f cs)) → ⊥
      roots_inside z a b =
          let (n, h) = roots.held z a in
          let (o, g) = inside.held z b in
          held_apart f cs k (is_form f cs) n o classes.Item layouts.Process layouts.Par z (λ e. cc) (λ e. cc) h g

      always_rest : (z : ℕ) → Among z (flat_map (always_at f (form_index f cs)) xs)
          → Among z (flat_map (roots_under f cs) xs
          ++ flat_map (forms_under f cs) (form_nodes f cs)) → ⊥
      always_rest z a b =
          let (n, h) = always.held z a in
          elim (among_append z (flat_map (roots_under f cs) xs) _ b) [
            | inl root ↦
                let (o, g) = roots.held z root in
                let same : layouts.Always ≡ layouts.Process =
                one_shape f cs k (is_form f cs) n o classes.Item classes.Item layouts.Always layouts.Process z h g in
                cc
            | inr under ↦
                let (o, g) = inside.held z under in
                held_apart f cs k (is_form f cs) n o classes.Item layouts.Always layouts.Par z (λ e. cc) (λ e. cc) h g
          ]

  exprs_apart : (xs : List ℕ) → Distinct xs → AreItems xs
      → Distinct (flat_map (bodies_under f cs) xs ++ (flat_map (args_under f cs) (expr_nodes f cs)
      ++ flat_map (exprs_under f cs) (form_nodes f cs)))
  exprs_apart xs d are =
      distinct_append _ _ bodies.distinct
      (distinct_append _ _
      (distinct_flat (args_under f cs) (expr_nodes f cs) (below_distinct (is_expr cs))
      (λ n a. (found n a).distinct) one) asked.distinct apart) bodies_rest
    where
      bodies : AllHeld f (is_expr cs) classes.Item (layouts.Def definitions.Function)
          (flat_map (bodies_under f cs) xs)
      bodies =
          all_held f cs k (is_expr cs) classes.Item (layouts.Def definitions.Function) (bodies_under f cs) xs d (λ x a.
          let (lt, st) = are x a in function_group f cs k x lt st)

      found : (n : ℕ) → Among n (expr_nodes f cs) → Operands f cs n (args_under f cs n)
      found n a = let (lt, is) = below (is_expr cs) n a in operands_of n lt is

      one : (n o z : ℕ) → Among n (expr_nodes f cs) → Among o (expr_nodes f cs)
          → Among z (args_under f cs n) → Among z (args_under f cs o) → n ≡ o
      one n o z a b here there =
          let (l, is, h) = (found n a).held z here in
          let (m, too, g) = (found o b).held z there in
          one_holder f cs k (is_expr cs) n o classes.Value classes.Value l m z h g

      asked : AllStem f (is_expr cs) layouts.Setq (flat_map (exprs_under f cs) (form_nodes f cs))
      asked =
          all_stem f cs k (is_expr cs) layouts.Setq (λ e. cc) (exprs_under f cs)
          (form_nodes f cs) (below_distinct (is_form f cs))
          (λ n a. let (lt, is) = below (is_form f cs) n a in exprs_stem f cs k n lt is)

      apart : (z : ℕ) → Among z (flat_map (args_under f cs) (expr_nodes f cs))
          → Among z (flat_map (exprs_under f cs) (form_nodes f cs)) → ⊥
      apart z a b =
          let (n, in_n, here) = among_flat (args_under f cs) z (expr_nodes f cs) a in
          let (l, is, h) = (found n in_n).held z here in
          let (o, g) = asked.held z b in
          held_apart f cs k (is_expr cs) n o classes.Value l layouts.Setq z (λ e. subst IsOperator e is)
          (λ e. subst IsOperator e is) h g

      bodies_rest : (z : ℕ) → Among z (flat_map (bodies_under f cs) xs)
          → Among z (flat_map (args_under f cs) (expr_nodes f cs)
          ++ flat_map (exprs_under f cs) (form_nodes f cs)) → ⊥
      bodies_rest z a b =
          let function : Layout = layouts.Def definitions.Function in
          let (n, h) = bodies.held z a in
          elim (among_append z (flat_map (args_under f cs) (expr_nodes f cs)) _ b) [
            | inl operand ↦
                let (o, in_o, here) = among_flat (args_under f cs) z (expr_nodes f cs) operand in
                let (l, is, g) = (found o in_o).held z here in
                let same : function ≡ l =
                one_shape f cs k (is_expr cs) n o classes.Item classes.Value function l z h g in
                subst IsOperator (sym same) is
            | inr under ↦
                let (o, g) = asked.held z under in
                held_apart f cs k (is_expr cs) n o classes.Item function layouts.Setq z (λ e. cc) (λ e. cc) h g
          ]

  pub forms_once : (xs : List ℕ) → Distinct xs → AreItems xs
      → is_distinct (form_places (map (formed f cs) (form_nodes f cs))
      (flat_map (always_at f (form_index f cs)) xs) (filter_map (process_at f (form_index f cs)) xs)) ≡ true
  forms_once xs d are =
      let always = flat_map (always_at f (form_index f cs)) xs in
      let processes = filter_map (process_at f (form_index f cs)) xs in
      let roots = flat_map (roots_under f cs) xs in
      let forms = map (formed f cs) (form_nodes f cs) in
      let e : form_places forms always processes ≡ always ++ (roots ++ flat_map (forms_under f cs) (form_nodes f cs)) =
      ap (λ ys. always ++ (ys ++ flat_map (λ (x : Form). inner_forms x.kind) forms))
      (held_mapped (λ (q : Process). q.forms) (process_at f (form_index f cs)) xs)
      ∙ ap (λ ys. always ++ (roots ++ ys))
      (flat_map-map (λ (x : Form). inner_forms x.kind) (formed f cs) (form_nodes f cs)) in
      ap is_distinct e ∙ passes_distinct _ (forms_apart xs d are)

  pub exprs_once : (xs : List ℕ) → Distinct xs → AreItems xs
      → is_distinct (expr_places (filter_map (def_at f (expr_index f cs)) xs)
      (map (expr_at f (expr_index f cs)) (expr_nodes f cs)) (map (formed f cs) (form_nodes f cs))) ≡ true
  exprs_once xs d are =
      let defs = filter_map (def_at f (expr_index f cs)) xs in
      let bodies = flat_map (bodies_under f cs) xs in
      let exprs = map (expr_at f (expr_index f cs)) (expr_nodes f cs) in
      let forms = map (formed f cs) (form_nodes f cs) in
      let args = flat_map (args_under f cs) (expr_nodes f cs) in
      let e : expr_places defs exprs forms ≡ bodies ++ (args ++ flat_map (exprs_under f cs) (form_nodes f cs)) =
      ap (λ ys. ys ++ (flat_map (λ (x : Expr). operands x.kind) exprs
      ++ flat_map (λ (x : Form). exprs_in x.kind) forms))
      (held_mapped (λ (x : Def). body_in x.what) (def_at f (expr_index f cs)) xs)
      ∙ ap (λ ys. bodies ++ (ys ++ flat_map (λ (x : Form). exprs_in x.kind) forms))
      (flat_map-map (λ (x : Expr). operands x.kind) (expr_at f (expr_index f cs)) (expr_nodes f cs))
      ∙ ap (λ ys. bodies ++ (args ++ ys))
      (flat_map-map (λ (x : Form). exprs_in x.kind) (formed f cs) (form_nodes f cs)) in
      ap is_distinct e ∙ passes_distinct _ (exprs_apart xs d are)
