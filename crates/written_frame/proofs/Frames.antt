-- The frame of a program as it is written is a program, and there is one.
use Rattle.std.proofs.Common.{◌≡◌, ◌∙◌, ℕ, suc, List, [], ◌∷◌, ◌++◌, Bool, true, refl, sym, ap, subst, length}
use Rattle.std.proofs.Common.{map}
use Rattle.std.specs.Prelude.{◌&&◌, ◌||◌, ◌==◌, not, nat_lt, nat_le}
use Rattle.std.specs.List.{list_all, list_any, flat_map}
use Rattle.std.proofs.lemmas.Bool.{and_from, and_parts}
use Rattle.std.proofs.lemmas.List.{length-map}
use Rattle.mp_program.specs.Fits as plain_fits
use Rattle.mp_program.specs.Fits.{is_symbol, all_behind, forms_fit, process_fits}
use Rattle.mp_program.specs.Names as plain_names
use Rattle.mp_program.specs.Tree as plain_tree
use Rattle.mp_program.specs.Tree.{exprs_in, form_places, form_heights, is_distinct, are_low, tallest}
use Rattle.mp_program.specs.declared.program.Expr as plain_expr
use Rattle.mp_program.specs.declared.program.Form.{Form}
use Rattle.mp_program.specs.declared.program.Program as plain
use Rattle.mp_written.specs.declared.program.ExprKind.{ExprKind}
use Rattle.mp_written.specs.declared.program.ExprKind.TheVariants.{Number, Named, True, False, Apply, Use}
use Rattle.mp_written.specs.declared.program.What.{What}
use Rattle.mp_written.specs.declared.program.What.TheVariants as whats
use Rattle.mp_written.specs.declared.program.Def.{Def}
use Rattle.mp_written.specs.declared.program.Expr.{Expr}
use Rattle.mp_written.specs.declared.program.Program.{Program}
use Rattle.mp_written.specs.Kinds.{is_supply}
use Rattle.mp_written.specs.Fits.{expr_fits, exprs_fit, what_fits, def_fits}
use Rattle.mp_written.specs.Tree.{operands, body_in, expr_heights}
use Rattle.mp_written.proofs.Soundness.{fit}
use Rattle.mp_written.proofs.Trees.{tree_fit}
use Rattle.mp_written.proofs.Tables.{table_same, table_mapped}
use Rattle.mp_written.proofs.SamePrograms.{Parts, Fit, same_parts, same_program, parts}
use Rattle.written_frame.specs.Frame.{frame_kind, frame_expr, frame_what, frame_def, IsFrame}

-- ---- it fits

pub supply_same : (k : What) → plain_names.is_supply (frame_what k) ≡ is_supply k
supply_same whats.Power = refl
supply_same whats.Ground = refl
supply_same whats.Phia = refl
supply_same whats.Phib = refl
supply_same whats.Phic = refl
supply_same (whats.Constant c) = refl
supply_same whats.Register = refl
supply_same whats.Flag = refl
supply_same (whats.Port way) = refl
supply_same (whats.Signal way) = refl
supply_same (whats.Function args body) = refl

def_fits_frame : (n : ℕ) (d : Def) → def_fits n d ≡ true → plain_fits.def_fits (frame_def d) ≡ true
def_fits_frame n d h =
    let named : Bool → Bool = λ b. (b && (length d.name == 0)) || (not b && is_symbol d.name) in
    ap named (supply_same d.what) ∙ (and_parts (named (is_supply d.what)) (what_fits n d.what) h).0

defs_fit : (n : ℕ) (ds : List Def) → list_all (def_fits n) ds ≡ true
    → list_all plain_fits.def_fits (map frame_def ds) ≡ true
defs_fit n [] h = refl
defs_fit n (d ∷ ds) h =
    let two = and_parts (def_fits n d) (list_all (def_fits n) ds) h in
    and_from (plain_fits.def_fits (frame_def d)) (list_all plain_fits.def_fits (map frame_def ds))
    (def_fits_frame n d two.0) (defs_fit n ds two.1)

kind_fits : (n i : ℕ) (k : ExprKind) → expr_fits n i k ≡ true → plain_fits.expr_fits n i (frame_kind k) ≡ true
kind_fits n i (Number v) h = refl
kind_fits n i (Named x) h = h
kind_fits n i True h = refl
kind_fits n i False h = refl
kind_fits n i (Apply op index args) h = h
kind_fits n i (Use at x args) h =
    let two = and_parts (is_symbol x && nat_le 1 (length args)) (all_behind i n args) h in
    let some = (and_parts (is_symbol x) (nat_le 1 (length args)) two.0).1 in
    and_from (nat_lt 0 (length args)) (all_behind i n args) some two.1

exprs_fit_frame : (n i : ℕ) (xs : List Expr) → exprs_fit n i xs ≡ true
    → plain_fits.exprs_fit n i (map frame_expr xs) ≡ true
exprs_fit_frame n i [] h = refl
exprs_fit_frame n i (x ∷ xs) h =
    let two = and_parts (expr_fits n i x.kind) (exprs_fit n (suc i) xs) h in
    and_from (plain_fits.expr_fits n i (frame_kind x.kind)) (plain_fits.exprs_fit n (suc i) (map frame_expr xs))
    (kind_fits n i x.kind two.0) (exprs_fit_frame n (suc i) xs two.1)

pub frame_fits : (w : Program)
    → plain_fits.program_fits w.width w.name (map frame_def w.defs) (map frame_expr w.exprs) w.forms w.always w.processes
    ≡ true
frame_fits w =
    let f = fit w in
    let n = length w.forms in
    let size : length (map frame_expr w.exprs) ≡ length w.exprs = length-map w.exprs frame_expr in
    let width = nat_le 1 w.width && nat_le w.width 64 in
    let defs = list_all plain_fits.def_fits (map frame_def w.defs) in
    let exprs : ℕ → Bool = λ e. plain_fits.exprs_fit e 0 (map frame_expr w.exprs) in
    let forms : ℕ → Bool = λ e. forms_fit e n 0 w.forms in
    let always = list_all (λ i. nat_lt i n) w.always in
    let processes = list_all (process_fits n) w.processes in
    let one = and_from width (is_symbol w.name) f.width f.name in
    let two = and_from (width && is_symbol w.name) defs one (defs_fit (length w.exprs) w.defs f.defs) in
    let three = and_from (width && is_symbol w.name && defs) (exprs (length (map frame_expr w.exprs))) two
    (ap exprs size ∙ exprs_fit_frame (length w.exprs) 0 w.exprs f.exprs) in
    let four = and_from (width && is_symbol w.name && defs && exprs (length (map frame_expr w.exprs)))
    (forms (length (map frame_expr w.exprs))) three (ap forms size ∙ f.forms) in
    let five = and_from (width && is_symbol w.name && defs && exprs (length (map frame_expr w.exprs))
    && forms (length (map frame_expr w.exprs))) always four f.always in
    and_from (width && is_symbol w.name && defs && exprs (length (map frame_expr w.exprs))
    && forms (length (map frame_expr w.exprs)) && always) processes five f.processes

-- ---- it is a tree

pub operands_same : (k : ExprKind) → plain_tree.operands (frame_kind k) ≡ operands k
operands_same (Number v) = refl
operands_same (Named x) = refl
operands_same True = refl
operands_same False = refl
operands_same (Apply op k os) = refl
operands_same (Use at x os) = refl

all_operands : (xs : List Expr) → flat_map (λ (x : plain_expr.Expr). plain_tree.operands x.kind) (map frame_expr xs)
    ≡ flat_map (λ (x : Expr). operands x.kind) xs
all_operands [] = refl
all_operands (x ∷ xs) =
    ap (λ ys. ys ++ flat_map (λ (y : plain_expr.Expr). plain_tree.operands y.kind) (map frame_expr xs))
    (operands_same x.kind)
    ∙ ap (λ ys. operands x.kind ++ ys) (all_operands xs)

-- the end of a list without repetition
distinct_end : (xs ys : List ℕ) → is_distinct (xs ++ ys) ≡ true → is_distinct ys ≡ true
distinct_end [] ys h = h
distinct_end (x ∷ xs) ys h =
    distinct_end xs ys (and_parts (not (list_any (λ y. y == x) (xs ++ ys))) (is_distinct (xs ++ ys)) h).1

heights_same : (xs : List Expr) → plain_tree.expr_heights (map frame_expr xs) ≡ expr_heights xs
heights_same xs =
    table_mapped 0 (λ (x : plain_expr.Expr) height. suc (tallest height (plain_tree.operands x.kind))) frame_expr 0 xs
    ∙ table_same 0 _ (λ (x : Expr) height. suc (tallest height (operands x.kind))) 0 xs
    (λ x height. ap (λ os. suc (tallest height os)) (operands_same x.kind))

pub frame_is_tree : (w : Program) → plain_tree.is_tree (map frame_expr w.exprs) w.forms w.always w.processes ≡ true
frame_is_tree w =
    let t = tree_fit w in
    let guards = flat_map (λ (y : Form). exprs_in y.kind) w.forms in
    let bodies = flat_map (λ (d : Def). body_in d.what) w.defs in
    let places = flat_map (λ (x : Expr). operands x.kind) w.exprs ++ guards in
    let exprs : is_distinct (plain_tree.expr_places (map frame_expr w.exprs) w.forms) ≡ true =
    ap (λ os. is_distinct (os ++ guards)) (all_operands w.exprs) ∙ distinct_end bodies places t.exprs in
    let low : are_low (plain_tree.expr_heights (map frame_expr w.exprs)) ≡ true =
    ap are_low (heights_same w.exprs) ∙ t.low_exprs in
    let apart = is_distinct (plain_tree.expr_places (map frame_expr w.exprs) w.forms) in
    let forms = is_distinct (form_places w.forms w.always w.processes) in
    let flat = are_low (plain_tree.expr_heights (map frame_expr w.exprs)) in
    and_from (apart && forms && flat) (are_low (form_heights w.forms))
    (and_from (apart && forms) flat (and_from apart forms exprs t.forms) low) t.low_forms

-- ---- the frame

abbrev pub frame : Program → plain.Program
frame w = record {
  place = w.place;
  name = w.name;
  width = w.width;
  defs = map frame_def w.defs;
  exprs = map frame_expr w.exprs;
  forms = w.forms;
  always = w.always;
  processes = w.processes;
  fits = frame_fits w;
  tree = frame_is_tree w;
}

pub frame_is : (w : Program) → IsFrame w (frame w)
frame_is w = record {
  place = refl;
  name = refl;
  width = refl;
  defs = refl;
  exprs = refl;
  forms = refl;
  always = refl;
  processes = refl;
}

pub one_frame : (w : Program) (s : plain.Program) → IsFrame w s → s ≡ frame w
one_frame w s f = same_program s (frame w)
    (same_parts (parts s) (parts (frame w)) f.place f.name f.width f.defs f.exprs f.forms f.always f.processes)

-- what the type says of parts that are those of the frame
pub parts_fit : (w : Program) (t : Parts) → t.0 ≡ w.place → t.1 ≡ w.name → t.2 ≡ w.width → t.3 ≡ map frame_def w.defs
    → t.4 ≡ map frame_expr w.exprs → t.5 ≡ w.forms → t.6 ≡ w.always → t.7 ≡ w.processes → Fit t
parts_fit w t e0 e1 e2 e3 e4 e5 e6 e7 =
    subst Fit (sym (same_parts t (parts (frame w)) e0 e1 e2 e3 e4 e5 e6 e7)) (frame_fits w, frame_is_tree w)
