-- What the expressions, forms and definitions of made programs pass.
use Rattle.std.proofs.Common.{◌≡◌, ℕ, ◌+◌, List, [], ◌∷◌, ◌++◌, Bool, true, false, refl, ◌∙◌, ap, map, filter, codes}
use Rattle.std.specs.Prelude.{not, ◌&&◌, Option, Some, None}
use Rattle.std.specs.List.{list_all, list_any}
use Rattle.mp_base.specs.declared.op.Op.{Op}
use Rattle.mp_base.specs.declared.op.Op.TheVariants.{Add, Sub, WordAnd, WordOr, WordXor, Bit}
use Rattle.mp_base.specs.declared.refusal.Place.{Place}
use Rattle.mp_program.specs.declared.program.ExprKind.{ExprKind}
use Rattle.mp_program.specs.declared.program.ExprKind.TheVariants.{Number, Named, Apply}
use Rattle.mp_program.specs.declared.program.FormKind.{FormKind}
use Rattle.mp_program.specs.declared.program.FormKind.TheVariants.{Set}
use Rattle.mp_program.specs.declared.program.Def.{Def}
use Rattle.mp_program.specs.declared.program.Expr.{Expr}
use Rattle.mp_program.specs.declared.program.Form.{Form}
use Rattle.mp_program.specs.declared.program.Program.{Program}
use Rattle.mp_program.specs.Names.{is_same, is_supply}
use Rattle.mp_rules.specs.Naming.{Naming, def_naming, process_naming, namings}
use Rattle.mp_rules.specs.Rules.{is_unset}
use Rattle.mp_rules.specs.Sorts.{Sort, IsWord, IsBit, name_sort, operand_sort, result_sort, expr_sort}
use Rattle.program_maker.specs.Texts.{operands}
use Rattle.made_program.specs.Made.{Row, AreRows, is_drawn, targets, defs_of, exprs_from, forms_from, IsMade}
use Rattle.made_program.proofs.Lists.{name_passes}
use Rattle.std.proofs.lemmas.List.{append-nil}
use Rattle.std.proofs.lemmas.Bool.{and_parts, and_from}

-- ---- operators

pub drawn_cases : (P : Op → Type 0) → P Add → P Sub → P WordAnd → P WordOr → P WordXor → (op : Op) → is_drawn op ≡ true
    → P op
drawn_cases P a b c d e Add h = a
drawn_cases P a b c d e Sub h = b
drawn_cases P a b c d e WordAnd h = c
drawn_cases P a b c d e WordOr h = d
drawn_cases P a b c d e WordXor h = e
drawn_cases P a b c d e _ h = absurd (cc)

-- ---- rows

-- what holds of operators that are drawn and of operands holds of each expression
pub exprs_pass : (test : ExprKind → Bool) (at : ℕ → Place)
    → ((op : Op) (args : List ℕ) → is_drawn op ≡ true → test (Apply op 0 args) ≡ true)
    → ((x : List ℕ) → list_any (is_same x) operands ≡ true → test (Named x) ≡ true)
    → (e node : ℕ) (rows : List Row) → AreRows rows → list_all (λ (x : Expr). test x.kind) (exprs_from at e node rows)
    ≡ true
exprs_pass test at applied named e node [] are = refl
exprs_pass test at applied named e node (row ∷ rows) are =
    let rest = list_all (λ (x : Expr). test x.kind) (exprs_from at (e + 3) (node + 9) rows) in
    let yes = exprs_pass test at applied named (e + 3) (node + 9) rows are.1 in
    and_from (test (Apply row.op 0 ((e + 1) ∷ (e + 2) ∷ []))) (test (Named row.x) && (test (Named row.y) && rest))
    (applied row.op ((e + 1) ∷ (e + 2) ∷ []) (are.0).op)
    (and_from (test (Named row.x)) (test (Named row.y) && rest) (named row.x (are.0).x)
    (and_from (test (Named row.y)) rest (named row.y (are.0).y) yes))

-- what holds of targets holds of each form
pub forms_pass : (test : FormKind → Bool) (at : ℕ → Place) → (good : List ℕ → Bool)
    → ((x : List ℕ) (place : Place) (v : ℕ) → good x ≡ true → test (Set x place v) ≡ true)
    → (e node : ℕ) (rows : List Row) → list_all good (map (λ (row : Row). row.target) rows) ≡ true
    → list_all (λ (y : Form). test y.kind) (forms_from at e node rows) ≡ true
forms_pass test at good set e node [] all = refl
forms_pass test at good set e node (row ∷ rows) all =
    let p = and_parts (good row.target) (list_all good (map (λ (row : Row). row.target) rows)) all in
    and_from (test (Set row.target (at (node + 4)) e))
    (list_all (λ (y : Form). test y.kind) (forms_from at (e + 3) (node + 9) rows))
    (set row.target (at (node + 4)) e p.0) (forms_pass test at good set (e + 3) (node + 9) rows p.1)

-- ---- names

-- what a made program names
abbrev pub named_of : (ℕ → Place) → List Naming
named_of at = map def_naming (filter (λ (d : Def). not (is_supply d.what)) (defs_of at))

pub namings_are : (p : Program) (m : IsMade p) → namings p ≡ named_of m.at
namings_are p m = ap (λ ds. map def_naming (filter (λ (d : Def). not (is_supply d.what)) ds)
    ++ map process_naming p.processes) m.defs
    ∙ ap (λ qs. named_of m.at ++ map process_naming qs) m.processes ∙ append-nil (named_of m.at)

-- what a made program passes in its expressions, and in its forms
pub all_exprs : (p : Program) (m : IsMade p) (test : ExprKind → Bool)
    → ((op : Op) (args : List ℕ) → is_drawn op ≡ true → test (Apply op 0 args) ≡ true)
    → ((x : List ℕ) → list_any (is_same x) operands ≡ true → test (Named x) ≡ true)
    → list_all (λ (x : Expr). test x.kind) p.exprs ≡ true
all_exprs p m test applied named = ap (list_all (λ (x : Expr). test x.kind)) m.exprs
    ∙ exprs_pass test m.at applied named 0 144 m.rows m.are_rows

pub all_forms : (p : Program) (m : IsMade p) (test : FormKind → Bool) (good : List ℕ → Bool)
    → ((x : List ℕ) (place : Place) (v : ℕ) → good x ≡ true → test (Set x place v) ≡ true)
    → list_all good targets ≡ true → list_all (λ (y : Form). test y.kind) p.forms ≡ true
all_forms p m test good set all = ap (list_all (λ (y : Form). test y.kind)) m.forms
    ∙ forms_pass test m.at good set 0 144 m.rows (ap (list_all good) m.targets_are ∙ all)

-- ---- the tests

abbrev pub is_word : Option Sort → Bool
is_word (Some IsWord) = true
is_word _ = false

pub word_only : (o : Option Sort) → is_word o ≡ true → o ≡ Some IsWord
word_only (Some IsWord) h = refl
word_only (Some IsBit) h = absurd (cc)
word_only None h = absurd (cc)

abbrev pub names_one : List Naming → ExprKind → Bool
names_one ns (Named x) = list_any (λ (n : Naming). is_same n.name x) ns
names_one ns _ = true

abbrev pub target_named : List Naming → FormKind → Bool
target_named ns (Set x at v) = list_any (λ (n : Naming). is_same n.name x) ns
target_named ns _ = true

abbrev pub operands_are_words : ExprKind → Bool
operands_are_words (Apply op k args) = is_word (Some (operand_sort op))
operands_are_words _ = true

abbrev pub is_no_number : ExprKind → Bool
is_no_number (Number n) = false
is_no_number _ = true

abbrev pub is_bit : Op → Bool
is_bit Bit = true
is_bit _ = false

abbrev pub is_no_bit : ExprKind → Bool
is_no_bit (Apply op k args) = not (is_bit op)
is_no_bit _ = true

abbrev pub is_no_name : List ℕ → ExprKind → Bool
is_no_name n (Named x) = not (is_same x n)
is_no_name n _ = true

abbrev pub is_set : FormKind → Bool
is_set (Set x at v) = true
is_set _ = false

abbrev pub target_is_word : List Def → FormKind → Bool
target_is_word defs (Set x at v) = is_word (name_sort defs x)
target_is_word defs _ = true

abbrev pub target_is_set : List Def → FormKind → Bool
target_is_set defs (Set x at v) = list_all (λ (z : Def). not (is_same z.name x && is_unset z.what)) defs
target_is_set defs _ = true

pub exprs_named : (p : Program) (m : IsMade p) → list_all (λ (x : Expr). names_one (named_of m.at) x.kind) p.exprs
    ≡ true
exprs_named p m = all_exprs p m (names_one (named_of m.at)) (λ op args h. refl)
    (λ x h. name_passes (λ n. names_one (named_of m.at) (Named n)) operands x refl h)

pub exprs_words : (p : Program) (m : IsMade p)
    → list_all (λ (x : Expr). is_word (expr_sort (defs_of m.at) x.kind)) p.exprs ≡ true
exprs_words p m = all_exprs p m (λ k. is_word (expr_sort (defs_of m.at) k))
    (λ op args h. drawn_cases (λ o. is_word (Some (result_sort o)) ≡ true) refl refl refl refl refl op h)
    (λ x h. name_passes (λ n. is_word (name_sort (defs_of m.at) n)) operands x refl h)

pub exprs_operands : (p : Program) (m : IsMade p) → list_all (λ (x : Expr). operands_are_words x.kind) p.exprs ≡ true
exprs_operands p m = all_exprs p m operands_are_words
    (λ op args h. drawn_cases (λ o. is_word (Some (operand_sort o)) ≡ true) refl refl refl refl refl op h) (λ x h. refl)

pub exprs_numbers : (p : Program) (m : IsMade p) → list_all (λ (x : Expr). is_no_number x.kind) p.exprs ≡ true
exprs_numbers p m = all_exprs p m is_no_number (λ op args h. refl) (λ x h. refl)

pub exprs_bits : (p : Program) (m : IsMade p) → list_all (λ (x : Expr). is_no_bit x.kind) p.exprs ≡ true
exprs_bits p m = all_exprs p m is_no_bit
    (λ op args h. drawn_cases (λ o. not (is_bit o) ≡ true) refl refl refl refl refl op h) (λ x h. refl)

pub exprs_no_q : (p : Program) (m : IsMade p) → list_all (λ (x : Expr). is_no_name (codes "q") x.kind) p.exprs ≡ true
exprs_no_q p m = all_exprs p m (is_no_name (codes "q")) (λ op args h. refl)
    (λ x h. name_passes (λ n. is_no_name (codes "q") (Named n)) operands x refl h)

pub forms_set : (p : Program) (m : IsMade p) → list_all (λ (y : Form). is_set y.kind) p.forms ≡ true
forms_set p m = all_forms p m is_set (λ x. true) (λ x place v h. refl) refl

pub forms_named : (p : Program) (m : IsMade p) → list_all (λ (y : Form). target_named (named_of m.at) y.kind) p.forms
    ≡ true
forms_named p m = all_forms p m (target_named (named_of m.at))
    (λ x. list_any (λ (n : Naming). is_same n.name x) (named_of m.at)) (λ x place v h. h) refl

pub forms_words : (p : Program) (m : IsMade p) → list_all (λ (y : Form). target_is_word (defs_of m.at) y.kind) p.forms
    ≡ true
forms_words p m = all_forms p m (target_is_word (defs_of m.at)) (λ x. is_word (name_sort (defs_of m.at) x))
    (λ x place v h. h) refl

pub forms_unset : (p : Program) (m : IsMade p) → list_all (λ (y : Form). target_is_set (defs_of m.at) y.kind) p.forms
    ≡ true
forms_unset p m = all_forms p m (target_is_set (defs_of m.at))
    (λ x. list_all (λ (z : Def). not (is_same z.name x && is_unset z.what)) (defs_of m.at)) (λ x place v h. h) refl
