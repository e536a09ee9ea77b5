-- The numbers of expressions and forms, and what stands at them.
use Rattle.std.proofs.Common.{◌≡◌, ℕ, zero, suc, ◌+◌, List, [], ◌∷◌, ◌++◌, Bool, true, false, cond, refl, sym, ◌∙◌, ap}
use Rattle.std.proofs.Common.{length, map, filter, arith, length-append, zero-add, codes, rules}
use Rattle.std.specs.Prelude.{not, ◌&&◌, slice_index_or, Option, Some, None}
use Rattle.std.specs.List.{list_all, list_any, range_with_len}
use Rattle.std.specs.Str.{bytes_eq}
use Rattle.std.proofs.lemmas.Bool.{and_parts, not-true}
use Rattle.std.proofs.Math.ListN.{get_or-eq_default}
use Rattle.std.proofs.lemmas.List.Elements.{filter-append}
use Rattle.mp_base.specs.declared.refusal.Place.{Place}
use Rattle.mp_base.proofs.Ranges.{range_suc}
use Rattle.form_reader.specs.declared.forms.Kind.{Kind}
use Rattle.form_reader.specs.declared.forms.Forms.{Forms}
use Rattle.mp_shapes.specs.declared.table.Class.{Class}
use Rattle.mp_shapes.specs.declared.table.Class.TheVariants.{Whole, Item, Element, Action, Branch, Value, Word, Numeral}
use Rattle.mp_shapes.specs.Layout.{value_layout}
use Rattle.mp_written.specs.declared.program.ExprKind.TheVariants.{Named, True, False, Apply}
use Rattle.mp_written.specs.declared.program.Expr.{Expr}
use Rattle.mp_entries.specs.Entries.{nodes_below, ranks, stands_for_expr, stands_for_form, list_expr, symbol_expr}
use Rattle.program_maker.specs.Texts.{operands}
use Rattle.mp_program.specs.Names.{is_same}
use Rattle.made_program.specs.Made.{Row, AreRows, exprs_from}
use Rattle.made_program.proofs.Lists.{name_passes}
use Rattle.made_source.specs.Written.{op_word}
use Rattle.made_source.proofs.AsWritten.{written_expr}
use Rattle.made_source.proofs.Table.{classes, op_layout}

-- ---- ranks, counted along the classes

-- how many of the first n entries pass a test
abbrev counted : (Option Class → Bool) → ℕ → List (Option Class) → ℕ
counted test zero cs = 0
counted test (suc n) [] = 0
counted test (suc n) (c ∷ cs) = cond (test c) 1 0 + counted test n cs

abbrev entry_passes : (Option Class → Bool) → List (Option Class) → ℕ → Bool
entry_passes test cs n = test (slice_index_or cs n None)

nothing_behind : (test : Option Class → Bool) (n : ℕ) → entry_passes test [] n ≡ test None
nothing_behind test n = ap test (get_or-eq_default [] None {n = n} (search rules))

counted_more : (test : Option Class → Bool) (n : ℕ) (cs : List (Option Class)) → test None ≡ false
    → counted test (suc n) cs ≡ counted test n cs + cond (entry_passes test cs n) 1 0
counted_more test zero [] none = sym (ap (λ b. 0 + cond b 1 0) (nothing_behind test zero ∙ none))
counted_more test (suc n) [] none = sym (ap (λ b. 0 + cond b 1 0) (nothing_behind test (suc n) ∙ none))
counted_more test zero (c ∷ cs) none = omega arith
counted_more test (suc n) (c ∷ cs) none =
    let rest = counted_more test n cs none in
    omega (arith, rest)

length-one : (test : ℕ → Bool) (n : ℕ) (b : Bool) → test n ≡ b → length (filter test (n ∷ [])) ≡ cond b 1 0
length-one test n true h = ap (λ b. length (cond b (n ∷ []) [])) h
length-one test n false h = ap (λ b. length (cond b (n ∷ []) [])) h

rank_is : (test : ℕ → Bool) (by : Option Class → Bool) (n : ℕ) → ((k : ℕ) → test k ≡ entry_passes by classes k)
    → by None ≡ false
    → length (nodes_below test n) ≡ counted by n classes
rank_is test by zero same none = refl
rank_is test by (suc n) same none =
    ap (λ ks. length (filter test ks)) (range_suc 0 n ∙ ap (λ k. range_with_len 0 n ++ k ∷ []) (zero-add n))
    ∙ ap length (filter-append test (range_with_len 0 n) (n ∷ []))
    ∙ length-append (nodes_below test n) (filter test (n ∷ []))
    ∙ ap (λ m. m + length (filter test (n ∷ []))) (rank_is test by n same none)
    ∙ ap (λ m. counted by n classes + m) (length-one test n (entry_passes by classes n) (same n))
    ∙ sym (counted_more by n classes none)

map_same : {X : Type 0} (f g : ℕ → X) (xs : List ℕ) → ((k : ℕ) → f k ≡ g k) → map f xs ≡ map g xs
map_same f g [] same = refl
map_same f g (x ∷ xs) same = ap (λ y. y ∷ map f xs) (same x) ∙ ap (λ ys. g x ∷ ys) (map_same f g xs same)

pub ranks_are : (test : ℕ → Bool) (by : Option Class → Bool) (n : ℕ) → ((k : ℕ) → test k ≡ entry_passes by classes k)
    → by None ≡ false
    → ranks test n ≡ map (λ m. counted by m classes) (range_with_len 0 n)
ranks_are test by n same none =
    map_same (λ m. length (nodes_below test m)) (λ m. counted by m classes) (range_with_len 0 n)
    (λ m. rank_is test by m same none)

pub nodes_same : (test other : ℕ → Bool) (xs : List ℕ) → ((k : ℕ) → test k ≡ other k) → filter test xs ≡ filter other xs
nodes_same test other [] same = refl
nodes_same test other (x ∷ xs) same = ap (λ b. cond b (x ∷ filter test xs) (filter test xs)) (same x)
    ∙ ap (λ ks. cond (other x) (x ∷ ks) ks) (nodes_same test other xs same)

abbrev pub is_action : Option Class → Bool
is_action (Some Action) = true
is_action _ = false

abbrev pub expr_ranks : List ℕ
expr_ranks = map (λ m. counted stands_for_expr m classes) (range_with_len 0 261)

abbrev pub form_ranks : List ℕ
form_ranks = map (λ m. counted is_action m classes) (range_with_len 0 261)

abbrev pub is_no_element : Option Class → Bool
is_no_element (Some Element) = false
is_no_element _ = true

pub form_test : (k : Kind) (o : Option Class) → is_no_element o ≡ true → stands_for_form k o ≡ is_action o
form_test k None h = refl
form_test k (Some Whole) h = refl
form_test k (Some Item) h = refl
form_test k (Some Element) h = absurd (cc)
form_test k (Some Action) h = refl
form_test k (Some Branch) h = refl
form_test k (Some Value) h = refl
form_test k (Some Word) h = refl
form_test k (Some Numeral) h = refl

pub passes_or : (test : Option Class → Bool) (cs : List (Option Class)) (n : ℕ) → test None ≡ true
    → list_all test cs ≡ true → test (slice_index_or cs n None) ≡ true
passes_or test [] n none all = ap test (get_or-eq_default [] None {n = n} (search rules)) ∙ none
passes_or test (c ∷ cs) zero none all = (and_parts (test c) (list_all test cs) all).0
passes_or test (c ∷ cs) (suc n) none all = passes_or test cs n none (and_parts (test c) (list_all test cs) all).1

-- ---- the expressions

-- the expressions of rows as they are found, by the shapes of their lists and the kinds of their names
abbrev pub exprs_found : Forms → (ℕ → ℕ) → (ℕ → Place) → ℕ → List Row → List Expr
exprs_found f idx at node [] = []
exprs_found f idx at node (row ∷ rows) =
    record {
      place = at (node + 5);
      kind = list_expr f idx ((node + 6) ∷ (node + 7) ∷ (node + 8) ∷ [])
          (value_layout (op_word row.op) 3);
    }
    ∷ record { place = at (node + 7); kind = symbol_expr row.x }
    ∷ record { place = at (node + 8); kind = symbol_expr row.y }
    ∷ exprs_found f idx at (node + 9) rows

-- the operands of each row are the expressions behind its own
abbrev pub Follow : (ℕ → ℕ) → (e node : ℕ) → ℕ → Type 0
Follow idx e node zero = Unit {0}
Follow idx e node (suc n) = (idx (node + 7) ≡ e + 1) × (idx (node + 8) ≡ e + 2) × Follow idx (e + 3) (node + 9) n

abbrev is_plain : List ℕ → Bool
is_plain x = not (bytes_eq x (codes "t")) && not (bytes_eq x (codes "f"))

named : (x : List ℕ) → list_any (is_same x) operands ≡ true → symbol_expr x ≡ Named x
named x known =
    let p = and_parts (not (bytes_eq x (codes "t"))) (not (bytes_eq x (codes "f")))
    (name_passes is_plain operands x refl known) in
    ap (λ b. cond b True (cond (bytes_eq x (codes "f")) False (Named x))) (not-true (bytes_eq x (codes "t")) p.0)
    ∙ ap (λ b. cond b False (Named x)) (not-true (bytes_eq x (codes "f")) p.1)

pub exprs_meant : (f : Forms) (idx : ℕ → ℕ) (at : ℕ → Place) (e node : ℕ) (rows : List Row) → AreRows rows
    → Follow idx e node (length rows)
    → exprs_found f idx at node rows ≡ map written_expr (exprs_from at e node rows)
exprs_meant f idx at e node [] are follow = refl
exprs_meant f idx at e node (row ∷ rows) are follow =
    let rest : List Expr = exprs_found f idx at (node + 9) rows in
    let x : Expr = record { place = at (node + 7); kind = symbol_expr row.x } in
    let y : Expr = record { place = at (node + 8); kind = symbol_expr row.y } in
    let x' : Expr = record { place = at (node + 7); kind = Named row.x } in
    let y' : Expr = record { place = at (node + 8); kind = Named row.y } in
    let a : Expr = record { place = at (node + 5); kind = Apply row.op 0 ((e + 1) ∷ (e + 2) ∷ []) } in
    let kind : list_expr f idx ((node + 6) ∷ (node + 7) ∷ (node + 8) ∷ []) (value_layout (op_word row.op) 3)
    ≡ Apply row.op 0 ((e + 1) ∷ (e + 2) ∷ []) =
    ap (list_expr f idx ((node + 6) ∷ (node + 7) ∷ (node + 8) ∷ [])) (op_layout row.op (are.0).op)
    ∙ ap (λ k. Apply row.op 0 (k ∷ idx (node + 8) ∷ [])) follow.0
    ∙ ap (λ k. Apply row.op 0 ((e + 1) ∷ k ∷ [])) follow.1 in
    ap (λ k. let z : Expr = record { place = at (node + 5); kind = k } in z ∷ x ∷ y ∷ rest) kind
    ∙ ap (λ k. let z : Expr = record { place = at (node + 7); kind = k } in a ∷ z ∷ y ∷ rest) (named row.x (are.0).x)
    ∙ ap (λ k. let z : Expr = record { place = at (node + 8); kind = k } in a ∷ x' ∷ z ∷ rest) (named row.y (are.0).y)
    ∙ ap (λ es. a ∷ x' ∷ y' ∷ es) (exprs_meant f idx at (e + 3) (node + 9) rows are.1 follow.2)
