-- What the type of a program says, of the program that forms spell.
use Rattle.std.proofs.Common.{◌≡◌, ℕ, zero, suc, ◌+◌, ◌-◌, ◌<◌, ◌≤◌, Bool, true, false, not, cond, List}
use Rattle.std.proofs.Common.{[], ◌∷◌, ◌++◌, refl, sym, ◌∙◌, ap, subst, length, map, arith, drop, Option, Some, None}
use Rattle.std.proofs.Common.{slice_index, ◌&&◌, nat_lt, nat_le, ◌==◌, codes}
use Rattle.std.specs.List.{list_all, filter, filter_map, flat_map, cons_option}
use Rattle.std.specs.Str.{bytes_eq}
use Rattle.std.proofs.lemmas.Bool.{and_from, and_parts, lt-ltb, le-leb, ne_eqb}
use Rattle.std.proofs.lemmas.List.{get_or-drop, length-drop, length-map, map-append}
use Rattle.std.proofs.lemmas.List.Folds.{list_all-append}
use Rattle.form_reader.specs.declared.forms.Kind.{Kind}
use Rattle.form_reader.specs.declared.forms.Kind.TheVariants.{Number, Symbol, Group}
use Rattle.form_reader.specs.declared.forms.Forms.{Forms}
use Rattle.form_reader.specs.Sound.{IsSound, HasSymbols, node, kind_at, items_of}
use Rattle.mp_shapes.specs.declared.table.Class.{Class}
use Rattle.mp_shapes.specs.declared.table.Class.TheVariants as classes
use Rattle.mp_shapes.specs.declared.table.Definition.{Definition}
use Rattle.mp_shapes.specs.declared.table.Definition.TheVariants as definitions
use Rattle.mp_shapes.specs.declared.table.Layout.{Layout}
use Rattle.mp_shapes.specs.declared.table.Layout.TheVariants as layouts
use Rattle.mp_shapes.specs.Layout.{layout, item_class, word_of, is_symbol, behind_number}
use Rattle.mp_shapes.specs.Layout as shapes
use Rattle.mp_shapes.specs.Standing.{StandsFor, root, AreClasses}
use Rattle.mp_program.specs.declared.program.Form.{Form}
use Rattle.mp_program.specs.declared.program.Label.{Label}
use Rattle.mp_program.specs.declared.program.Process.{Process}
use Rattle.mp_base.specs.Apply.{takes}
use Rattle.mp_program.specs.Fits as fits
use Rattle.mp_written.specs.declared.program.ExprKind.TheVariants as exprs
use Rattle.mp_written.specs.declared.program.Arg.{Arg}
use Rattle.mp_written.specs.declared.program.Def.{Def}
use Rattle.mp_written.specs.declared.program.Expr.{Expr}
use Rattle.mp_written.specs.Fits as written
use Rattle.mp_entries.specs.Entries.{branch_at, expr_at, expr_index, expr_kind, form_at, form_index, form_kind, is_expr}
use Rattle.mp_entries.specs.Entries.{is_form, list_expr, name_at, nodes_below, number_at, number_of}
use Rattle.mp_syntax.specs.Shape.{always_at, always_in, arg_at, def_at, def_in, labels_from, process_at, process_in}
use Rattle.mp_syntax.specs.Shape.{process_of, what_of}
use Rattle.mp_syntax.proofs.Counts.{Counts, FunctionFits, definition_fits, layout_counts, shaped, use_is_named}
use Rattle.mp_entries.proofs.Numbering.{nodes_below_with, nodes_below_without}
use Rattle.mp_syntax.proofs.Standing.{child, passes_expr, passes_form, passes_element, expr_stands, form_stands}
use Rattle.mp_syntax.proofs.Standing.{word_fits, in_range, behind_it}

all_map : {X : Type 0} (p : X → Bool) (h : ℕ → X) (xs : List ℕ)
    → ((k : ℕ) → k < length xs → p (h (slice_index xs k)) ≡ true) → list_all p (map h xs) ≡ true
all_map p h [] each = refl
all_map p h (x ∷ xs) each =
    and_from (p (h x)) (list_all p (map h xs)) (each 0 (omega arith))
    (all_map p h xs (λ k kl. each (suc k) (omega (arith, kl))))

-- from what holds of the items from an index on
dropped : (P : ℕ → Type 0) (xs : List ℕ) (from : ℕ) → ((j : ℕ) → from ≤ j → j < length xs → P (slice_index xs j))
    → (k : ℕ) → k < length (drop from xs) → P (slice_index (drop from xs) k)
dropped P xs from each k kl =
    subst P (sym (get_or-drop from xs k 0)) (each (from + k) (omega arith) (omega (arith, kl, length-drop from xs)))

all_dropped : {X : Type 0} (p : X → Bool) (h : ℕ → X) (xs : List ℕ) (from : ℕ)
    → ((j : ℕ) → from ≤ j → j < length xs → p (h (slice_index xs j)) ≡ true) → list_all p (map h (drop from xs)) ≡ true
all_dropped p h xs from each = all_map p h (drop from xs) (dropped (λ m. p (h m) ≡ true) xs from each)

all_filter_map : {X : Type 0} (p : X → Bool) (h : ℕ → Option X) (xs : List ℕ)
    → ((k : ℕ) (x : X) → k < length xs → h (slice_index xs k) ≡ Some x → p x ≡ true)
    → list_all p (filter_map h xs) ≡ true
all_filter_map p h [] each = refl
all_filter_map {X} p h (x ∷ xs) each =
    joined (h x) (λ y e. each 0 y (omega arith) e)
    (all_filter_map p h xs (λ k y kl e. each (suc k) y (omega (arith, kl)) e))
  where
    joined : (o : Option X) → ((y : X) → o ≡ Some y → p y ≡ true) → list_all p (filter_map h xs) ≡ true
        → list_all p (cons_option o (filter_map h xs)) ≡ true
    joined None here later = later
    joined (Some y) here later = and_from (p y) (list_all p (filter_map h xs)) (here y refl) later

all_flat_map : (p : ℕ → Bool) (h : ℕ → List ℕ) (xs : List ℕ)
    → ((k : ℕ) → k < length xs → list_all p (h (slice_index xs k)) ≡ true) → list_all p (flat_map h xs) ≡ true
all_flat_map p h [] each = refl
all_flat_map p h (x ∷ xs) each =
    list_all-append p (h x) (flat_map h xs)
    ∙ and_from (list_all p (h x)) (list_all p (flat_map h xs)) (each 0 (omega arith))
    (all_flat_map p h xs (λ k kl. each (suc k) (omega (arith, kl))))

-- a test of each entry and its index, by recursion
fit_push : {X : Type 0} (p : ℕ → X → Bool) (all : ℕ → List X → Bool) → ((i : ℕ) → all i [] ≡ true)
    → ((i : ℕ) (x : X) (xs : List X) → all i (x ∷ xs) ≡ (p i x && all (suc i) xs))
    → (xs : List X) (y : X) (i : ℕ) → all i xs ≡ true → p (i + length xs) y ≡ true → all i (xs ++ y ∷ []) ≡ true
fit_push p all none more [] y i h last = more i y []
    ∙ and_from (p i y) (all (suc i) []) (ap (λ k. p k y) (let e : i ≡ i + 0 = omega arith in e) ∙ last) (none (suc i))
fit_push p all none more (x ∷ xs) y i h last =
    let parts = and_parts (p i x) (all (suc i) xs) (sym (more i x xs) ∙ h) in
    let e : suc i + length xs ≡ i + suc (length xs) = omega arith in
    more i x (xs ++ y ∷ [])
    ∙ and_from (p i x) (all (suc i) (xs ++ y ∷ [])) parts.0
    (fit_push p all none more xs y (suc i) parts.1 (ap (λ k. p k y) e ∙ last))

fit_entries : {X : Type 0} (p : ℕ → X → Bool) (all : ℕ → List X → Bool) → ((i : ℕ) → all i [] ≡ true)
    → ((i : ℕ) (x : X) (xs : List X) → all i (x ∷ xs) ≡ (p i x && all (suc i) xs))
    → (entry : ℕ → X) (test : ℕ → Bool) (count : ℕ)
    → ((m : ℕ) → m < count → test m ≡ true → p (length (nodes_below test m)) (entry m) ≡ true)
    → all 0 (map entry (nodes_below test count)) ≡ true
fit_entries p all none more entry test zero each = none 0
fit_entries {X} p all none more entry test (suc n) each =
    by_test (test n) refl (fit_entries p all none more entry test n (λ m ml is. each m (omega (arith, ml)) is))
  where
    next : suc n ≡ n + 1
    next = omega arith

    by_test : (b : Bool) → test n ≡ b → all 0 (map entry (nodes_below test n)) ≡ true
        → all 0 (map entry (nodes_below test (suc n))) ≡ true
    by_test false is rest = ap (λ i. all 0 (map entry (nodes_below test i))) next
        ∙ ap (λ xs. all 0 (map entry xs)) (nodes_below_without test n is) ∙ rest
    by_test true is rest =
        ap (λ i. all 0 (map entry (nodes_below test i))) next
        ∙ ap (λ xs. all 0 (map entry xs)) (nodes_below_with test n is)
        ∙ ap (all 0) (map-append entry (nodes_below test n) (n ∷ []))
        ∙ fit_push p all none more (map entry (nodes_below test n)) (entry n) 0 rest
        (ap (λ k. p k (entry n))
        (let e : 0 + length (map entry (nodes_below test n)) ≡ length (nodes_below test n) =
        omega (arith, length-map (nodes_below test n) entry) in e)
        ∙ each n (omega arith) is)

-- forms without a defect, and the class of each node
pub record Known (f : Forms) (cs : List (Option Class)) : Type 0 where
  pub sound : IsSound f
  pub symbols : HasSymbols f
  pub classes : AreClasses f cs

-- the items of a node whose shape gives them a class
pub record Inner (f : Forms) (n m : ℕ) (d : Class) : Type 0 where
  pub later : n < m
  pub inside : m < length f.nodes
  pub stands : StandsFor f m d

pub inner : (f : Forms) (cs : List (Option Class)) → Known f cs → (n j : ℕ) (c d : Class) (l : Layout)
    → StandsFor f n c → n < length f.nodes → layout f c (kind_at f n) ≡ Some l
    → item_class l j ≡ Some d → j < length (items_of (kind_at f n))
    → Inner f n (slice_index (items_of (kind_at f n)) j) d
inner f cs k n j c d l st lt lay is jl =
    let it = k.sound.behind n j (slice_index (items_of (kind_at f n)) j) (lt, jl, refl) in
    record { later = it.0; inside = it.1; stands = child f n j c d l st lt jl lay is }

pub not_head : (j : ℕ) (d : Class) → 1 ≤ j → cond (j == 0) None (Some d) ≡ Some d
not_head j d h = ap (λ b. cond b None (Some d)) (ne_eqb j 0 (λ e. omega (arith, h, e)))

pub not_first : (j : ℕ) (c d : Class) → 2 ≤ j → cond (j == 0) None (cond (j == 1) (Some c) (Some d)) ≡ Some d
not_first j c d h = ap (λ b. cond b None (cond (j == 1) (Some c) (Some d))) (ne_eqb j 0 (λ e. omega (arith, h, e)))
    ∙ ap (λ b. cond b (Some c) (Some d)) (ne_eqb j 1 (λ e. omega (arith, h, e)))

pub not_number : (j : ℕ) (d : Class) → 3 ≤ j → behind_number j d ≡ Some d
not_number j d h =
    ap (λ b. cond b None (cond (j == 1) (Some classes.Word) (cond (j == 2) (Some classes.Numeral) (Some d))))
    (ne_eqb j 0 (λ e. omega (arith, h, e)))
    ∙ ap (λ b. cond b (Some classes.Word) (cond (j == 2) (Some classes.Numeral) (Some d)))
    (ne_eqb j 1 (λ e. omega (arith, h, e)))
    ∙ ap (λ b. cond b (Some classes.Numeral) (Some d)) (ne_eqb j 2 (λ e. omega (arith, h, e)))

pub counts : (f : Forms) (n : ℕ) (c : Class) (l : Layout) → layout f c (kind_at f n) ≡ Some l
    → Counts (length (items_of (kind_at f n))) (Some l)
counts f n c l lay = let P : Option Layout → Type 0 = λ o. Counts (length (items_of (kind_at f n))) o in
    subst P lay (layout_counts f c (kind_at f n)).count

-- the operands of an expression stand behind it
operands_fit : (f : Forms) (cs : List (Option Class)) → Known f cs → (n from : ℕ) (l : Layout)
    → StandsFor f n classes.Value → n < length f.nodes → is_expr cs n ≡ true
    → layout f classes.Value (kind_at f n) ≡ Some l → ((j : ℕ) → from ≤ j → item_class l j ≡ Some classes.Value)
    → fits.all_behind (length (nodes_below (is_expr cs) n)) (length (nodes_below (is_expr cs) (length f.nodes)))
    (map (expr_index f cs) (drop from (items_of (kind_at f n)))) ≡ true
operands_fit f cs k n from l st lt is lay are =
    all_dropped _ (expr_index f cs) (items_of (kind_at f n)) from (λ j jf jl.
    let it = inner f cs k n j classes.Value classes.Value l st lt lay (are j jf) jl in
    behind_it (is_expr cs) (length f.nodes) n (slice_index (items_of (kind_at f n)) j) it.later it.inside is
    (passes_expr f cs k.classes (slice_index (items_of (kind_at f n)) j) it.stands))

-- a symbol is no empty name
symbol_fits : (f : Forms) → HasSymbols f → (i : ℕ) → is_symbol (kind_at f i) ≡ true
    → fits.is_symbol (name_at f i) ≡ true
symbol_fits f symbols i is = by_kind (kind_at f i) refl is
  where
    by_kind : (x : Kind) → kind_at f i ≡ x → is_symbol x ≡ true → fits.is_symbol (word_of x) ≡ true
    by_kind (Number v) e h = absurd (cc)
    by_kind (Symbol y) e h = symbols i y e
    by_kind (Group items) e h = absurd (cc)

head_fits : (f : Forms) → HasSymbols f → (items : List ℕ) → layout f classes.Value (Group items) ≡ Some layouts.Use
    → fits.is_symbol (name_at f (slice_index items 0)) ≡ true
head_fits f symbols items lay =
    by_kind (kind_at f (slice_index items 0)) refl (use_is_named f (Group items) lay)
  where
    by_kind : (x : Kind) → kind_at f (slice_index items 0) ≡ x → not (length (word_of x) == 0) ≡ true
        → fits.is_symbol (word_of x) ≡ true
    by_kind (Number v) e h = absurd (cc)
    by_kind (Symbol y) e h = symbols (slice_index items 0) y e
    by_kind (Group is) e h = absurd (cc)

pub expr_fits : (f : Forms) (cs : List (Option Class)) → Known f cs → (n : ℕ) → n < length f.nodes → is_expr cs n ≡ true
    → written.expr_fits (length (nodes_below (is_expr cs) (length f.nodes))) (length (nodes_below (is_expr cs) n))
    (expr_kind f (expr_index f cs) (kind_at f n)) ≡ true
expr_fits f cs k n lt is = by_kind (kind_at f n) refl
  where
    by_symbol : (a b : Bool) (x : List ℕ) → fits.is_symbol x ≡ true
        → written.expr_fits (length (nodes_below (is_expr cs) (length f.nodes))) (length (nodes_below (is_expr cs) n))
        (cond a exprs.True (cond b exprs.False (exprs.Named x))) ≡ true
    by_symbol true b x h = refl
    by_symbol false true x h = refl
    by_symbol false false x h = h

    st : StandsFor f n classes.Value
    st = expr_stands f cs k.classes n is

    by_layout : (items : List ℕ) → kind_at f n ≡ Group items → (o : Option Layout)
        → layout f classes.Value (Group items) ≡ o
        → written.expr_fits (length (nodes_below (is_expr cs) (length f.nodes))) (length (nodes_below (is_expr cs) n))
        (list_expr f (expr_index f cs) items o) ≡ true
    by_layout items e (Some (layouts.Apply op)) lay =
        let here : layout f classes.Value (kind_at f n) ≡ Some (layouts.Apply op) =
        ap (λ x. layout f classes.Value x) e ∙ lay in
        let same : items_of (kind_at f n) ≡ items = ap items_of e in
        let size : length (map (expr_index f cs) (drop 1 items)) ≡ length (items_of (kind_at f n)) - 1 =
        omega (arith, length-map (drop 1 items) (expr_index f cs), length-drop 1 items, ap length same) in
        and_from _ _ (ap (λ i. takes op i) size ∙ counts f n classes.Value (layouts.Apply op) here)
        (let P : List ℕ
        → Type 0 = λ xs. fits.all_behind (length (nodes_below (is_expr cs) n))
        (length (nodes_below (is_expr cs) (length f.nodes))) (map (expr_index f cs) (drop 1 xs)) ≡ true in
        subst P same (operands_fit f cs k n 1 (layouts.Apply op) st lt is here (λ j h. not_head j classes.Value h)))
    by_layout items e (Some layouts.Bit) lay =
        let here : layout f classes.Value (kind_at f n) ≡ Some layouts.Bit =
        ap (λ x. layout f classes.Value x) e ∙ lay in
        let same : items_of (kind_at f n) ≡ items = ap items_of e in
        let three : length (items_of (kind_at f n)) ≡ 3 = counts f n classes.Value layouts.Bit here in
        let size : length (map (expr_index f cs) (drop 2 items)) ≡ 1 =
        omega (arith, length-map (drop 2 items) (expr_index f cs), length-drop 2 items, ap length same, three) in
        and_from _ _ (ap (λ i. i == 1) size)
        (let P : List ℕ
        → Type 0 = λ xs. fits.all_behind (length (nodes_below (is_expr cs) n))
        (length (nodes_below (is_expr cs) (length f.nodes))) (map (expr_index f cs) (drop 2 xs)) ≡ true in
        subst P same
        (operands_fit f cs k n 2 layouts.Bit st lt is here (λ j h. not_first j classes.Numeral classes.Value h)))
    by_layout items e (Some layouts.Use) lay =
        let here : layout f classes.Value (kind_at f n) ≡ Some layouts.Use =
        ap (λ x. layout f classes.Value x) e ∙ lay in
        let same : items_of (kind_at f n) ≡ items = ap items_of e in
        let two : 2 ≤ length (items_of (kind_at f n)) = counts f n classes.Value layouts.Use here in
        let some : 1 ≤ length (map (expr_index f cs) (drop 1 items)) =
        omega (arith, length-map (drop 1 items) (expr_index f cs), length-drop 1 items, ap length same, two) in
        and_from _ _ (and_from _ _ (head_fits f k.symbols items lay) (le-leb 1 _ some))
        (let P : List ℕ
        → Type 0 = λ xs. fits.all_behind (length (nodes_below (is_expr cs) n))
        (length (nodes_below (is_expr cs) (length f.nodes))) (map (expr_index f cs) (drop 1 xs)) ≡ true in
        subst P same (operands_fit f cs k n 1 layouts.Use st lt is here (λ j h. not_head j classes.Value h)))
    by_layout items e _ lay = refl

    by_kind : (x : Kind) → kind_at f n ≡ x
        → written.expr_fits (length (nodes_below (is_expr cs) (length f.nodes))) (length (nodes_below (is_expr cs) n))
        (expr_kind f (expr_index f cs) x) ≡ true
    by_kind (Number v) e = refl
    by_kind (Symbol x) e = by_symbol (bytes_eq x (codes "t")) (bytes_eq x (codes "f")) x (k.symbols n x e)
    by_kind (Group items) e = by_layout items e (layout f classes.Value (Group items)) refl

-- inner forms stand behind the form n, and guards are expressions
bodies_fit : (f : Forms) (cs : List (Option Class)) → Known f cs → (n m from : ℕ) (c : Class) (l : Layout)
    → is_form f cs n ≡ true → n ≤ m → StandsFor f m c → m < length f.nodes
    → layout f c (kind_at f m) ≡ Some l → ((j : ℕ) → from ≤ j → item_class l j ≡ Some classes.Action)
    → fits.all_behind (length (nodes_below (is_form f cs) n)) (length (nodes_below (is_form f cs) (length f.nodes)))
    (map (form_index f cs) (drop from (items_of (kind_at f m)))) ≡ true
bodies_fit f cs k n m from c l is le st lt lay are =
    all_dropped _ (form_index f cs) (items_of (kind_at f m)) from (λ j jf jl.
    let it = inner f cs k m j c classes.Action l st lt lay (are j jf) jl in
    behind_it (is_form f cs) (length f.nodes) n (slice_index (items_of (kind_at f m)) j)
    (omega (arith, le, it.later)) it.inside is
    (passes_form f cs k.classes (slice_index (items_of (kind_at f m)) j) it.stands))

pub guarded : (f : Forms) (x : Kind) → (layout f classes.Branch x ≡ None → ⊥)
    → layout f classes.Branch x ≡ Some layouts.Guarded
guarded f (Number v) h = absurd (h refl)
guarded f (Symbol x) h = absurd (h refl)
guarded f (Group []) h = absurd (h refl)
guarded f (Group (i ∷ is)) h = shaped f classes.Branch i is

branch_fits : (f : Forms) (cs : List (Option Class)) → Known f cs → (n m : ℕ) → is_form f cs n ≡ true → n < m
    → m < length f.nodes → StandsFor f m classes.Branch
    → (nat_lt (branch_at f (expr_index f cs) (form_index f cs) m).guard
    (length (nodes_below (is_expr cs) (length f.nodes)))
    && fits.all_behind (length (nodes_below (is_form f cs) n)) (length (nodes_below (is_form f cs) (length f.nodes)))
    (branch_at f (expr_index f cs) (form_index f cs) m).body) ≡ true
branch_fits f cs k n m is later lt st =
    let lay : layout f classes.Branch (kind_at f m) ≡ Some layouts.Guarded =
    guarded f (kind_at f m) (λ none. k.classes.clean m (classes.Branch, st, none)) in
    let it =
    inner f cs k m 0 classes.Branch classes.Value layouts.Guarded st lt lay refl
    (counts f m classes.Branch layouts.Guarded lay) in
    and_from _ _
    (lt-ltb _ _
    (in_range (is_expr cs) (length f.nodes) (slice_index (items_of (kind_at f m)) 0) it.inside
    (passes_expr f cs k.classes (slice_index (items_of (kind_at f m)) 0) it.stands)))
    (bodies_fit f cs k n m 1 classes.Branch layouts.Guarded is (omega (arith, later)) st lt lay
    (λ j h. ap (λ b. cond b (Some classes.Value) (Some classes.Action)) (ne_eqb j 0 (λ e. omega (arith, h, e)))))

pub form_fits : (f : Forms) (cs : List (Option Class)) → Known f cs → (n : ℕ) → n < length f.nodes
    → is_form f cs n ≡ true
    → fits.form_fits (length (nodes_below (is_expr cs) (length f.nodes)))
    (length (nodes_below (is_form f cs) (length f.nodes))) (length (nodes_below (is_form f cs) n))
    (form_kind f (expr_index f cs) (form_index f cs) (items_of (kind_at f n)) (layout f classes.Action (kind_at f n)))
    ≡ true
form_fits f cs k n lt is = by_class (form_stands f cs k.classes n is)
  where
    by_layout : (c : Class) → StandsFor f n c → (o : Option Layout) → layout f c (kind_at f n) ≡ o
        → fits.form_fits (length (nodes_below (is_expr cs) (length f.nodes)))
        (length (nodes_below (is_form f cs) (length f.nodes))) (length (nodes_below (is_form f cs) n))
        (form_kind f (expr_index f cs) (form_index f cs) (items_of (kind_at f n)) o) ≡ true
    by_layout c st (Some layouts.Setq) lay =
        let three : length (items_of (kind_at f n)) ≡ 3 = counts f n c layouts.Setq lay in
        let target = inner f cs k n 1 c classes.Word layouts.Setq st lt lay refl (omega (arith, three)) in
        let value = inner f cs k n 2 c classes.Value layouts.Setq st lt lay refl (omega (arith, three)) in
        and_from _ _ (word_fits f cs k.classes k.symbols (slice_index (items_of (kind_at f n)) 1) target.stands)
        (lt-ltb _ _
        (in_range (is_expr cs) (length f.nodes) (slice_index (items_of (kind_at f n)) 2) value.inside
        (passes_expr f cs k.classes (slice_index (items_of (kind_at f n)) 2) value.stands)))
    by_layout c st (Some layouts.Cond) lay =
        all_dropped _ (branch_at f (expr_index f cs) (form_index f cs)) (items_of (kind_at f n)) 1 (λ j jf jl.
        let it = inner f cs k n j c classes.Branch layouts.Cond st lt lay (not_head j classes.Branch jf) jl in
        branch_fits f cs k n (slice_index (items_of (kind_at f n)) j) is it.later it.inside it.stands)
    by_layout c st (Some layouts.Par) lay =
        bodies_fit f cs k n n 1 c layouts.Par is (omega arith) st lt lay (λ j h. not_head j classes.Action h)
    by_layout c st (Some layouts.Go) lay =
        let two : length (items_of (kind_at f n)) ≡ 2 = counts f n c layouts.Go lay in
        word_fits f cs k.classes k.symbols (slice_index (items_of (kind_at f n)) 1)
        (inner f cs k n 1 c classes.Word layouts.Go st lt lay refl (omega (arith, two))).stands
    by_layout c st (Some layouts.Call) lay =
        let two : length (items_of (kind_at f n)) ≡ 2 = counts f n c layouts.Call lay in
        word_fits f cs k.classes k.symbols (slice_index (items_of (kind_at f n)) 1)
        (inner f cs k n 1 c classes.Word layouts.Call st lt lay refl (omega (arith, two))).stands
    by_layout c st _ lay = refl

    by_class : (c : Class) × StandsFor f n c × (layout f c (kind_at f n) ≡ layout f classes.Action (kind_at f n))
        → fits.form_fits (length (nodes_below (is_expr cs) (length f.nodes)))
        (length (nodes_below (is_form f cs) (length f.nodes))) (length (nodes_below (is_form f cs) n))
        (form_kind f (expr_index f cs) (form_index f cs) (items_of (kind_at f n))
        (layout f classes.Action (kind_at f n))) ≡ true
    by_class (c, st, same) = by_layout c st (layout f classes.Action (kind_at f n)) same

-- a definition's shape says what it defines
defines : (b c t u : Bool) (o : Option Definition) (d : Definition)
    → cond b (shapes.defines o) (cond c (shapes.when t layouts.Always) (shapes.when u layouts.Process))
    ≡ Some (layouts.Def d) → o ≡ Some d
defines true c t u None d h = absurd (cc)
defines true c t u (Some x) d h = let e : x ≡ d = cc in ap Some e
defines false true true u o d h = absurd (cc)
defines false true false u o d h = absurd (cc)
defines false false t true o d h = absurd (cc)
defines false false t false o d h = absurd (cc)

def_layout : (f : Forms) (x : Kind) (d : Definition) → layout f classes.Item x ≡ Some (layouts.Def d)
    → shapes.definition f (items_of x) ≡ Some d
def_layout f (Number v) d h = absurd (cc)
def_layout f (Symbol x) d h = absurd (cc)
def_layout f (Group []) d h = absurd (cc)
def_layout f (Group (i ∷ is)) d h =
    defines (bytes_eq (word_of (kind_at f i)) (codes "def")) (bytes_eq (word_of (kind_at f i)) (codes "always"))
    (nat_le 2 (length (i ∷ is)))
    (bytes_eq (word_of (kind_at f i)) (codes "process") && nat_le 3 (length (i ∷ is))) (shapes.definition f (i ∷ is)) d
    (sym (shaped f classes.Item i is) ∙ h)

pub function_fits : (f : Forms) → HasSymbols f → (m : ℕ)
    → layout f classes.Item (kind_at f m) ≡ Some (layouts.Def definitions.Function)
    → FunctionFits f (items_of (kind_at f m)) definitions.Function
function_fits f symbols m lay =
    ((definition_fits f (λ i. i) (items_of (kind_at f m)) (λ y named. symbols _ y named)).each definitions.Function
    (def_layout f (kind_at f m) definitions.Function lay)).1

-- the arguments of a function are symbols
args_fit : (f : Forms) → HasSymbols f → (x : Kind) → shapes.is_symbols f x ≡ true
    → (nat_le 1 (length (map (arg_at f) (items_of x)))
    && list_all (λ (a : Arg). fits.is_symbol a.name) (map (arg_at f) (items_of x))) ≡ true
args_fit f symbols (Number v) h = absurd (cc)
args_fit f symbols (Symbol y) h = absurd (cc)
args_fit f symbols (Group items) h =
    let parts = and_parts (nat_le 1 (length items)) (list_all (λ i. is_symbol (kind_at f i)) items) h in
    and_from _ _ (ap (nat_le 1) (length-map items (arg_at f)) ∙ parts.0) (each items parts.1)
  where
    each : (is : List ℕ) → list_all (λ i. is_symbol (kind_at f i)) is ≡ true
        → list_all (λ (a : Arg). fits.is_symbol a.name) (map (arg_at f) is) ≡ true
    each [] h = refl
    each (i ∷ is) h =
        let parts = and_parts (is_symbol (kind_at f i)) (list_all (λ i. is_symbol (kind_at f i)) is) h in
        and_from _ _ (symbol_fits f symbols i parts.0) (each is parts.1)

-- what a definition defines: the arguments of a function are symbols, and its body is an expression
what_fits : (f : Forms) (cs : List (Option Class)) → Known f cs → (m : ℕ) → m < length f.nodes
    → StandsFor f m classes.Item → (d : Definition) → layout f classes.Item (kind_at f m) ≡ Some (layouts.Def d)
    → written.what_fits (length (nodes_below (is_expr cs) (length f.nodes)))
    (what_of f (expr_index f cs) (items_of (kind_at f m)) d) ≡ true
what_fits f cs k m lt st definitions.Function lay =
    let items : List ℕ = items_of (kind_at f m) in
    let (five, symbols) = function_fits f k.symbols m lay in
    let body =
    inner f cs k m 4 classes.Item classes.Value (layouts.Def definitions.Function) st lt lay refl
    (omega (arith, five)) in
    and_from _ _ (args_fit f k.symbols (kind_at f (slice_index items 3)) symbols)
    (lt-ltb _ _
    (in_range (is_expr cs) (length f.nodes) (slice_index items 4) body.inside
    (passes_expr f cs k.classes (slice_index items 4) body.stands)))
what_fits f cs k m lt st _ lay = refl

def_fits : (f : Forms) (cs : List (Option Class)) → Known f cs → (m : ℕ) → m < length f.nodes
    → StandsFor f m classes.Item → (x : Def) → def_at f (expr_index f cs) m ≡ Some x
    → written.def_fits (length (nodes_below (is_expr cs) (length f.nodes))) x ≡ true
def_fits f cs k m lt st x is = by_layout (layout f classes.Item (kind_at f m)) refl is
  where
    Some_inj : (a b : Def) → Some a ≡ Some b → a ≡ b
    Some_inj a b h = cc

    by_layout : (o : Option Layout) → layout f classes.Item (kind_at f m) ≡ o
        → def_in f (expr_index f cs) m o ≡ Some x
        → written.def_fits (length (nodes_below (is_expr cs) (length f.nodes))) x ≡ true
    by_layout (Some (layouts.Def d)) lay e =
        let items : List ℕ = items_of (kind_at f m) in
        let same : _ ≡ x = Some_inj _ x e in
        let P : Def → Type 0 = λ y. written.def_fits (length (nodes_below (is_expr cs) (length f.nodes))) y ≡ true in
        let named =
        ((definition_fits f (expr_index f cs) items (λ y named. k.symbols _ y named)).each d
        (def_layout f (kind_at f m) d lay)).0 in
        subst P same (and_from _ _ named (what_fits f cs k m lt st d lay))
    by_layout None lay e = absurd (cc)
    by_layout (Some layouts.Leaf) lay e = absurd (cc)
    by_layout (Some layouts.Program) lay e = absurd (cc)
    by_layout (Some layouts.Always) lay e = absurd (cc)
    by_layout (Some layouts.Process) lay e = absurd (cc)
    by_layout (Some layouts.Setq) lay e = absurd (cc)
    by_layout (Some layouts.Cond) lay e = absurd (cc)
    by_layout (Some layouts.Par) lay e = absurd (cc)
    by_layout (Some layouts.Go) lay e = absurd (cc)
    by_layout (Some layouts.Call) lay e = absurd (cc)
    by_layout (Some layouts.Return) lay e = absurd (cc)
    by_layout (Some layouts.Guarded) lay e = absurd (cc)
    by_layout (Some (layouts.Apply op)) lay e = absurd (cc)
    by_layout (Some layouts.Bit) lay e = absurd (cc)
    by_layout (Some layouts.Use) lay e = absurd (cc)

always_fits : (f : Forms) (cs : List (Option Class)) → Known f cs → (m : ℕ) → m < length f.nodes
    → StandsFor f m classes.Item
    → list_all (λ x. nat_lt x (length (nodes_below (is_form f cs) (length f.nodes)))) (always_at f (form_index f cs) m)
    ≡ true
always_fits f cs k m lt st = by_layout (layout f classes.Item (kind_at f m)) refl
  where
    by_layout : (o : Option Layout) → layout f classes.Item (kind_at f m) ≡ o
        → list_all (λ x. nat_lt x (length (nodes_below (is_form f cs) (length f.nodes))))
        (always_in f (form_index f cs) m o) ≡ true
    by_layout (Some layouts.Always) lay =
        all_dropped _ (form_index f cs) (items_of (kind_at f m)) 1 (λ j jf jl.
        let it =
        inner f cs k m j classes.Item classes.Action layouts.Always st lt lay (not_head j classes.Action jf) jl in
        lt-ltb _ _
        (in_range (is_form f cs) (length f.nodes) (slice_index (items_of (kind_at f m)) j) it.inside
        (passes_form f cs k.classes (slice_index (items_of (kind_at f m)) j) it.stands)))
    by_layout _ lay = refl

labels_fit : (f : Forms) → HasSymbols f → (xs : List ℕ) (before bound : ℕ)
    → before + length (filter (λ i. not (is_symbol (kind_at f i))) xs) ≤ bound
    → list_all (λ (l : Label). fits.is_symbol l.name && nat_le l.before bound) (labels_from f before xs) ≡ true
labels_fit f symbols [] before bound h = refl
labels_fit f symbols (i ∷ is) before bound h =
    by_test (is_symbol (kind_at f i)) refl h (labels_fit f symbols is before bound)
    (labels_fit f symbols is (before + 1) bound)
  where
    by_test : (b : Bool) → is_symbol (kind_at f i) ≡ b
        → before
        + length
        (cond (not b) (i ∷ filter (λ j. not (is_symbol (kind_at f j))) is)
        (filter (λ j. not (is_symbol (kind_at f j))) is)) ≤ bound
        → (before + length (filter (λ j. not (is_symbol (kind_at f j))) is) ≤ bound
        → list_all (λ (l : Label). fits.is_symbol l.name && nat_le l.before bound) (labels_from f before is) ≡ true)
        → (before + 1 + length (filter (λ j. not (is_symbol (kind_at f j))) is) ≤ bound
        → list_all (λ (l : Label). fits.is_symbol l.name && nat_le l.before bound) (labels_from f (before + 1) is)
        ≡ true)
        → list_all (λ (l : Label). fits.is_symbol l.name && nat_le l.before bound)
        (cond b (record { place = (node f i).place; name = name_at f i; before = before } ∷ labels_from f before is)
        (labels_from f (before + 1) is)) ≡ true
    by_test true e g same more =
        and_from _ _ (and_from _ _ (symbol_fits f symbols i e) (le-leb before bound (omega (arith, g)))) (same g)
    by_test false e g same more = more (omega (arith, g))

kept_fit : (f : Forms) (p : ℕ → Bool) (h : ℕ → ℕ) (xs : List ℕ)
    → ((k : ℕ) → k < length xs → is_symbol (kind_at f (slice_index xs k)) ≡ false → p (h (slice_index xs k)) ≡ true)
    → list_all p (map h (filter (λ i. not (is_symbol (kind_at f i))) xs)) ≡ true
kept_fit f p h [] each = refl
kept_fit f p h (i ∷ is) each =
    by_test (is_symbol (kind_at f i)) refl (kept_fit f p h is (λ k kl other. each (suc k) (omega (arith, kl)) other))
  where
    by_test : (b : Bool) → is_symbol (kind_at f i) ≡ b
        → list_all p (map h (filter (λ j. not (is_symbol (kind_at f j))) is)) ≡ true
        → list_all p
        (map h (cond (not b) (i ∷ filter (λ j. not (is_symbol (kind_at f j))) is)
        (filter (λ j. not (is_symbol (kind_at f j))) is))) ≡ true
    by_test true e rest = rest
    by_test false e rest = and_from _ _ (each 0 (omega arith) e) rest

process_fits : (f : Forms) (cs : List (Option Class)) → Known f cs → (m : ℕ) → m < length f.nodes
    → StandsFor f m classes.Item → (q : Process) → process_at f (form_index f cs) m ≡ Some q
    → fits.process_fits (length (nodes_below (is_form f cs) (length f.nodes))) q ≡ true
process_fits f cs k m lt st q is = by_layout (layout f classes.Item (kind_at f m)) refl is
  where
    Some_inj : (a b : Process) → Some a ≡ Some b → a ≡ b
    Some_inj a b h = cc

    made : layout f classes.Item (kind_at f m) ≡ Some layouts.Process
        → fits.process_fits (length (nodes_below (is_form f cs) (length f.nodes)))
        (process_of f (form_index f cs) m (items_of (kind_at f m))) ≡ true
    made lay =
        let three : 3 ≤ length (items_of (kind_at f m)) = counts f m classes.Item layouts.Process lay in
        and_from _ _ (and_from _ _
        (word_fits f cs k.classes k.symbols (slice_index (items_of (kind_at f m)) 1)
        (inner f cs k m 1 classes.Item classes.Word layouts.Process st lt lay refl (omega (arith, three))).stands)
        (labels_fit f k.symbols (drop 3 (items_of (kind_at f m))) 0 _
        (omega (
          arith,
          length-map (filter (λ i. not (is_symbol (kind_at f i))) (drop 3 (items_of (kind_at f m))))
              (form_index f cs),
        ))))
        (kept_fit f _ (form_index f cs) (drop 3 (items_of (kind_at f m)))
        (dropped
        (λ i. is_symbol (kind_at f i) ≡ false
        → nat_lt (form_index f cs i) (length (nodes_below (is_form f cs) (length f.nodes))) ≡ true)
        (items_of (kind_at f m)) 3 (λ j jf jl other.
        let it =
        inner f cs k m j classes.Item classes.Element layouts.Process st lt lay (not_number j classes.Element jf) jl in
        lt-ltb _ _
        (in_range (is_form f cs) (length f.nodes) (slice_index (items_of (kind_at f m)) j) it.inside
        (passes_element f cs k.classes (slice_index (items_of (kind_at f m)) j) it.stands other)))))

    by_layout : (o : Option Layout) → layout f classes.Item (kind_at f m) ≡ o
        → process_in f (form_index f cs) m o ≡ Some q
        → fits.process_fits (length (nodes_below (is_form f cs) (length f.nodes))) q ≡ true
    by_layout (Some layouts.Process) lay e =
        let P : Process
        → Type 0 = λ y. fits.process_fits (length (nodes_below (is_form f cs) (length f.nodes))) y ≡ true in
        subst P (Some_inj (process_of f (form_index f cs) m (items_of (kind_at f m))) q e) (made lay)
    by_layout None lay e = absurd (cc)
    by_layout (Some (layouts.Def d)) lay e = absurd (cc)
    by_layout (Some layouts.Leaf) lay e = absurd (cc)
    by_layout (Some layouts.Program) lay e = absurd (cc)
    by_layout (Some layouts.Always) lay e = absurd (cc)
    by_layout (Some layouts.Setq) lay e = absurd (cc)
    by_layout (Some layouts.Cond) lay e = absurd (cc)
    by_layout (Some layouts.Par) lay e = absurd (cc)
    by_layout (Some layouts.Go) lay e = absurd (cc)
    by_layout (Some layouts.Call) lay e = absurd (cc)
    by_layout (Some layouts.Return) lay e = absurd (cc)
    by_layout (Some layouts.Guarded) lay e = absurd (cc)
    by_layout (Some (layouts.Apply op)) lay e = absurd (cc)
    by_layout (Some layouts.Bit) lay e = absurd (cc)
    by_layout (Some layouts.Use) lay e = absurd (cc)

-- the one form of a file without a defect is a program
pub is_program : (f : Forms) (cs : List (Option Class)) → AreClasses f cs → (r : ℕ) (rs : List ℕ) → f.roots ≡ r ∷ rs
    → layout f classes.Whole (kind_at f r) ≡ Some layouts.Program
is_program f cs a r rs is = by_kind (kind_at f r) (λ none. a.clean r (classes.Whole, root r rs is, none))
  where
    by_test : (b : Bool) → (shapes.when b layouts.Program ≡ None → ⊥)
        → shapes.when b layouts.Program ≡ Some layouts.Program
    by_test true h = refl
    by_test false h = absurd (h refl)

    by_kind : (x : Kind) → (layout f classes.Whole x ≡ None → ⊥) → layout f classes.Whole x ≡ Some layouts.Program
    by_kind (Number v) h = absurd (h refl)
    by_kind (Symbol x) h = absurd (h refl)
    by_kind (Group []) h = absurd (h refl)
    by_kind (Group (i ∷ is)) h =
        shaped f classes.Whole i is
        ∙ by_test (bytes_eq (word_of (kind_at f i)) (codes "program") && nat_le 3 (length (i ∷ is)))
        (λ none. h (shaped f classes.Whole i is ∙ none))

pub root_inside : (f : Forms) → IsSound f → (r : ℕ) (rs : List ℕ) → f.roots ≡ r ∷ rs → r < length f.nodes
root_inside f s r rs is = let P : List ℕ → Type 0 = λ xs. (i : ℕ) → i < length xs
    → slice_index xs i < length f.nodes in subst P is s.roots 0 (omega arith)

width_node : (f : Forms) (cs : List (Option Class)) → Known f cs → (r : ℕ) (rs : List ℕ) → f.roots ≡ r ∷ rs
    → Inner f r (slice_index (items_of (kind_at f r)) 2) classes.Numeral
width_node f cs k r rs is =
    let lay : layout f classes.Whole (kind_at f r) ≡ Some layouts.Program = is_program f cs k.classes r rs is in
    let three : 3 ≤ length (items_of (kind_at f r)) = counts f r classes.Whole layouts.Program lay in
    inner f cs k r 2 classes.Whole classes.Numeral layouts.Program (root r rs is)
    (root_inside f k.sound r rs is) lay refl (omega (arith, three))

-- the word length is a number
pub is_width : (f : Forms) (cs : List (Option Class)) → Known f cs → (r : ℕ) (rs : List ℕ) → f.roots ≡ r ∷ rs
    → kind_at f (slice_index (items_of (kind_at f r)) 2) ≡ Number (number_at f (slice_index (items_of (kind_at f r)) 2))
is_width f cs k r rs is =
    by_kind (kind_at f (slice_index (items_of (kind_at f r)) 2))
    (λ none. k.classes.clean (slice_index (items_of (kind_at f r)) 2)
    (classes.Numeral, (width_node f cs k r rs is).stands, none))
  where
    no_shape : (b : Bool) → cond {A = Option Layout} b None None ≡ None
    no_shape true = refl
    no_shape false = refl

    by_kind : (x : Kind) → (layout f classes.Numeral x ≡ None → ⊥) → x ≡ Number (number_of x)
    by_kind (Number v) h = refl
    by_kind (Symbol x) h = absurd (h refl)
    by_kind (Group items) h = absurd (h (no_shape (length items == 0)))

-- the parts of what the type of a program says
parts_fit : (w : ℕ) (name : List ℕ) (defs : List Def) (es : List Expr) (fs : List Form) (always : List ℕ)
    (processes : List Process) (e n : ℕ)
    → length es ≡ e → length fs ≡ n → 1 ≤ w → w ≤ 64 → fits.is_symbol name ≡ true
    → list_all (written.def_fits e) defs ≡ true
    → written.exprs_fit e 0 es ≡ true → fits.forms_fit e n 0 fs ≡ true
    → list_all (λ x. nat_lt x n) always ≡ true → list_all (fits.process_fits n) processes ≡ true
    → written.program_fits w name defs es fs always processes ≡ true
parts_fit w name defs es fs always processes e n he hn low high named defined exprs_are forms_are top processed =
    let one = and_from (nat_le 1 w) (nat_le w 64) (le-leb 1 w low) (le-leb w 64 high) in
    let two = and_from _ (fits.is_symbol name) one named in
    let three =
    and_from _ (list_all (written.def_fits (length es)) defs) two
    (ap (λ k. list_all (written.def_fits k) defs) he ∙ defined) in
    let four =
    and_from _ (written.exprs_fit (length es) 0 es) three (ap (λ x. written.exprs_fit x 0 es) he ∙ exprs_are) in
    let five =
    and_from _ (fits.forms_fit (length es) (length fs) 0 fs) four
    (ap (λ x. fits.forms_fit x (length fs) 0 fs) he ∙ ap (λ x. fits.forms_fit e x 0 fs) hn ∙ forms_are) in
    let six =
    and_from _ (list_all (λ x. nat_lt x (length fs)) always) five
    (ap (λ k. list_all (λ x. nat_lt x k) always) hn ∙ top) in
    and_from _ (list_all (fits.process_fits (length fs)) processes) six
    (ap (λ k. list_all (fits.process_fits k) processes) hn ∙ processed)

pub width_inside : (f : Forms) (cs : List (Option Class)) → Known f cs → (r : ℕ) (rs : List ℕ) → f.roots ≡ r ∷ rs
    → slice_index (items_of (kind_at f r)) 2 < length f.nodes
width_inside f cs k r rs is = (width_node f cs k r rs is).inside

-- all that the type of a program says
pub all_fits : (f : Forms) (cs : List (Option Class)) → Known f cs → (r : ℕ) (rs : List ℕ) → f.roots ≡ r ∷ rs
    → 1 ≤ number_at f (slice_index (items_of (kind_at f r)) 2)
    → number_at f (slice_index (items_of (kind_at f r)) 2) ≤ 64
    → written.program_fits (number_at f (slice_index (items_of (kind_at f r)) 2))
    (name_at f (slice_index (items_of (kind_at f r)) 1))
    (filter_map (def_at f (expr_index f cs)) (drop 3 (items_of (kind_at f r))))
    (map (expr_at f (expr_index f cs)) (nodes_below (is_expr cs) (length f.nodes)))
    (map (form_at f (expr_index f cs) (form_index f cs)) (nodes_below (is_form f cs) (length f.nodes)))
    (flat_map (always_at f (form_index f cs)) (drop 3 (items_of (kind_at f r))))
    (filter_map (process_at f (form_index f cs)) (drop 3 (items_of (kind_at f r)))) ≡ true
all_fits f cs k r rs is low high =
    let items : List ℕ = items_of (kind_at f r) in
    let nodes : List ℕ = nodes_below (is_expr cs) (length f.nodes) in
    let form_nodes : List ℕ = nodes_below (is_form f cs) (length f.nodes) in
    parts_fit (number_at f (slice_index items 2)) (name_at f (slice_index items 1))
    (filter_map (def_at f (expr_index f cs)) (drop 3 items)) (map (expr_at f (expr_index f cs)) nodes)
    (map (form_at f (expr_index f cs) (form_index f cs)) form_nodes)
    (flat_map (always_at f (form_index f cs)) (drop 3 items))
    (filter_map (process_at f (form_index f cs)) (drop 3 items)) (length nodes) (length form_nodes)
    (length-map nodes (expr_at f (expr_index f cs)))
    (length-map form_nodes (form_at f (expr_index f cs) (form_index f cs))) low high named
    (all_filter_map (written.def_fits (length nodes)) (def_at f (expr_index f cs)) (drop 3 items)
    (λ i x il e. let it = dropped (λ m. Inner f r m classes.Item) items 3 part i il in
    def_fits f cs k (slice_index (drop 3 items) i) it.inside it.stands x e))
    (fit_entries (λ i (x : Expr). written.expr_fits (length nodes) i x.kind) (written.exprs_fit (length nodes))
    (λ i. refl) (λ i x xs. refl) (expr_at f (expr_index f cs)) (is_expr cs) (length f.nodes)
    (λ m ml passes. expr_fits f cs k m ml passes))
    (fit_entries (λ i (x : Form). fits.form_fits (length nodes) (length form_nodes) i x.kind)
    (fits.forms_fit (length nodes) (length form_nodes)) (λ i. refl) (λ i x xs. refl)
    (form_at f (expr_index f cs) (form_index f cs)) (is_form f cs) (length f.nodes)
    (λ m ml passes. form_fits f cs k m ml passes))
    (all_flat_map (λ x. nat_lt x (length form_nodes)) (always_at f (form_index f cs)) (drop 3 items)
    (dropped (λ m. list_all (λ x. nat_lt x (length form_nodes)) (always_at f (form_index f cs) m) ≡ true) items 3
    (λ j jf jl. let it = part j jf jl in always_fits f cs k (slice_index items j) it.inside it.stands)))
    (all_filter_map (fits.process_fits (length form_nodes)) (process_at f (form_index f cs)) (drop 3 items)
    (λ i q il e. let it = dropped (λ m. Inner f r m classes.Item) items 3 part i il in
    process_fits f cs k (slice_index (drop 3 items) i) it.inside it.stands q e))
  where
    lay : layout f classes.Whole (kind_at f r) ≡ Some layouts.Program
    lay = is_program f cs k.classes r rs is

    three : 3 ≤ length (items_of (kind_at f r))
    three = counts f r classes.Whole layouts.Program lay

    named : fits.is_symbol (name_at f (slice_index (items_of (kind_at f r)) 1)) ≡ true
    named = word_fits f cs k.classes k.symbols (slice_index (items_of (kind_at f r)) 1)
        (inner f cs k r 1 classes.Whole classes.Word layouts.Program (root r rs is)
        (root_inside f k.sound r rs is) lay refl (omega (arith, three))).stands

    part : (j : ℕ) → 3 ≤ j → j < length (items_of (kind_at f r))
        → Inner f r (slice_index (items_of (kind_at f r)) j) classes.Item
    part j jf jl =
        inner f cs k r j classes.Whole classes.Item layouts.Program (root r rs is) (root_inside f k.sound r rs is) lay
        (not_number j classes.Item jf) jl

same_fits : (w v : ℕ) (m n : List ℕ) (c d : List Def) (es xs : List Expr) (fs gs : List Form) (a b : List ℕ)
    (ps qs : List Process)
    → w ≡ v → m ≡ n → c ≡ d → es ≡ xs → fs ≡ gs → a ≡ b → ps ≡ qs
    → written.program_fits w m c es fs a ps ≡ written.program_fits v n d xs gs b qs
same_fits w v m n c d es xs fs gs a b ps qs e1 e2 e3 e4 e5 e6 e7 =
    ap (λ x. written.program_fits x m c es fs a ps) e1 ∙ ap (λ x. written.program_fits v x c es fs a ps) e2
    ∙ ap (λ x. written.program_fits v n x es fs a ps) e3 ∙ ap (λ x. written.program_fits v n d x fs a ps) e4
    ∙ ap (λ x. written.program_fits v n d xs x a ps) e5 ∙ ap (λ x. written.program_fits v n d xs gs x ps) e6
    ∙ ap (λ x. written.program_fits v n d xs gs b x) e7

-- the same, of lists that are these
pub fits_at : (f : Forms) (cs : List (Option Class)) → Known f cs → (r : ℕ) (rs : List ℕ) → f.roots ≡ r ∷ rs
    → 1 ≤ number_at f (slice_index (items_of (kind_at f r)) 2)
    → number_at f (slice_index (items_of (kind_at f r)) 2) ≤ 64
    → (w : ℕ) (name : List ℕ) (defs : List Def) (es : List Expr) (fs : List Form) (always : List ℕ)
    (processes : List Process)
    → w ≡ number_at f (slice_index (items_of (kind_at f r)) 2)
    → name ≡ name_at f (slice_index (items_of (kind_at f r)) 1)
    → defs ≡ filter_map (def_at f (expr_index f cs)) (drop 3 (items_of (kind_at f r)))
    → es ≡ map (expr_at f (expr_index f cs)) (nodes_below (is_expr cs) (length f.nodes))
    → fs ≡ map (form_at f (expr_index f cs) (form_index f cs)) (nodes_below (is_form f cs) (length f.nodes))
    → always ≡ flat_map (always_at f (form_index f cs)) (drop 3 (items_of (kind_at f r)))
    → processes ≡ filter_map (process_at f (form_index f cs)) (drop 3 (items_of (kind_at f r)))
    → written.program_fits w name defs es fs always processes ≡ true
fits_at f cs k r rs is low high w name defs es fs always processes e1 e2 e3 e4 e5 e6 e7 =
    same_fits w _ name _ defs _ es _ fs _ always _ processes _ e1 e2 e3 e4 e5 e6 e7 ∙ all_fits f cs k r rs is low high
