-- Where all uses are lawful and the weight is within the limit, there is an expansion.
use Rattle.std.proofs.Common.{◌≡◌, ◌∙◌, ℕ, ◌+◌, ◌<◌, ◌≤◌, List, [], ◌∷◌, Bool, true, refl, ap, subst}
use Rattle.std.proofs.Common.{length, map, arith}
use Rattle.std.specs.Prelude.{◌&&◌, ◌||◌, ◌==◌, not, nat_le, nat_lt, Contains, Option, Some, None}
use Rattle.std.specs.List.{list_all, list_any, filter_map, cons_option, range_with_len}
use Rattle.std.proofs.lemmas.Bool.{and_from, and_parts}
use Rattle.std.proofs.lemmas.Bool.{eq-eqb}
use Rattle.std.proofs.lemmas.Option.{none-some, same_Some}
use Rattle.std.proofs.lemmas.List.{length-map}
use Rattle.mp_base.proofs.Contents.{contains_head, contains_behind, contains_filter, contains_map, holds_of_contained}
use Rattle.mp_base.proofs.Contents.{any_contained}
use Rattle.mp_base.proofs.Members.{member_contains, range_has}
use Rattle.mp_program.specs.Fits as plain_fits
use Rattle.mp_program.specs.Fits.{is_symbol, forms_fit, process_fits}
use Rattle.mp_program.specs.Tree as plain_tree
use Rattle.mp_program.specs.Tree.{form_places, form_heights, is_distinct, are_low}
use Rattle.mp_program.specs.declared.program.Def as plain_def
use Rattle.mp_program.specs.declared.program.Form.{Form}
use Rattle.mp_program.specs.declared.program.Program as plain
use Rattle.mp_written.specs.declared.program.What.{What}
use Rattle.mp_written.specs.declared.program.What.TheVariants as whats
use Rattle.mp_written.specs.declared.program.Def.{Def}
use Rattle.mp_written.specs.declared.program.Program.{Program}
use Rattle.mp_written.specs.Kinds.{is_supply}
use Rattle.mp_written.specs.Functions.{plain_what_of, plain_def as plain_def_of, plain_defs}
use Rattle.mp_written.specs.Fits.{def_fits, what_fits}
use Rattle.mp_written.specs.Laying.{laid}
use Rattle.mp_written.specs.Expansion.{IsExpansion, all_pieces, form_exprs, moved_form, start, tops}
use Rattle.mp_written.specs.Weight.{weight}
use Rattle.mp_written.proofs.Soundness.{fit}
use Rattle.mp_written.proofs.Trees.{tree_fit}
use Rattle.expansion_laws.specs.Lawful.{IsLawfulProgram}
use Rattle.expansion_laws.proofs.Types.{inside}
use Rattle.expansion_laws.proofs.Laid.{Within, tops_within, length-laid}
use Rattle.expansion_laws.proofs.Places.{expansion_fits, expansion_distinct, tops_are}
use Rattle.expansion_laws.proofs.Light.{expansion_low}
use Rattle.expansion_laws.proofs.MovedForms.{AreMoved, moved_fit, moved_places, moved_heights}

-- ---- definitions

-- a definition that has a name, but for power, ground and phases
abbrev IsNamed : Def → What → Type 0
IsNamed d k = ((is_supply k && (length d.name == 0)) || (not (is_supply k) && is_symbol d.name)) ≡ true

abbrev Fits : plain_def.Def → Type 0
Fits y = plain_fits.def_fits y ≡ true

plain_fits_def : (d : Def) (k : What) (y : plain_def.Def) → plain_def_of d (plain_what_of k) ≡ Some y → IsNamed d k → Fits y
plain_fits_def d whats.Power y e h = subst Fits (same_Some _ y e) h
plain_fits_def d whats.Ground y e h = subst Fits (same_Some _ y e) h
plain_fits_def d whats.Phia y e h = subst Fits (same_Some _ y e) h
plain_fits_def d whats.Phib y e h = subst Fits (same_Some _ y e) h
plain_fits_def d whats.Phic y e h = subst Fits (same_Some _ y e) h
plain_fits_def d (whats.Constant c) y e h = subst Fits (same_Some _ y e) h
plain_fits_def d whats.Register y e h = subst Fits (same_Some _ y e) h
plain_fits_def d whats.Flag y e h = subst Fits (same_Some _ y e) h
plain_fits_def d (whats.Port way) y e h = subst Fits (same_Some _ y e) h
plain_fits_def d (whats.Signal way) y e h = subst Fits (same_Some _ y e) h
plain_fits_def d (whats.Function args body) y e h = absurd (none-some y e)

kept_fits : (ds : List plain_def.Def) (o : Option plain_def.Def) → ((y : plain_def.Def) → o ≡ Some y → Fits y)
    → list_all plain_fits.def_fits ds ≡ true → list_all plain_fits.def_fits (cons_option o ds) ≡ true
kept_fits ds None here rest = rest
kept_fits ds (Some y) here rest = and_from (plain_fits.def_fits y) (list_all plain_fits.def_fits ds) (here y refl) rest

plain_defs_fit : (n : ℕ) (ds : List Def) → list_all (def_fits n) ds ≡ true
    → list_all plain_fits.def_fits (filter_map (λ (d : Def). plain_def_of d (plain_what_of d.what)) ds) ≡ true
plain_defs_fit n [] h = refl
plain_defs_fit n (d ∷ ds) h =
    let two = and_parts (def_fits n d) (list_all (def_fits n) ds) h in
    let named = (is_supply d.what && (length d.name == 0)) || (not (is_supply d.what) && is_symbol d.name) in
    kept_fits (filter_map (λ (y : Def). plain_def_of y (plain_what_of y.what)) ds) (plain_def_of d (plain_what_of d.what))
    (λ y e. plain_fits_def d d.what y e (and_parts named (what_fits n d.what) two.0).0) (plain_defs_fit n ds two.1)

-- ---- guards and values

-- a guard or value stands among them in ascending order
pub in_tops : (w : Program) (v : ℕ) → Contains (form_exprs w.forms) v → v < length w.exprs → Contains (tops w) v
in_tops w v c lt =
    let test : ℕ → Bool = λ e. list_any (λ u. u == e) (form_exprs w.forms) in
    contains_filter test (range_with_len 0 (length w.exprs)) v
    (member_contains (range_with_len 0 (length w.exprs)) v
    (range_has 0 (length w.exprs) v (omega arith) (omega (arith, lt))))
    (any_contained (λ u. u == v) (form_exprs w.forms) v c (eq-eqb v v refl))

all_moved : (go : ℕ → ℕ) (n : ℕ) (vs : List ℕ) → ((v : ℕ) → Contains vs v → go v < n) → AreMoved go n vs
all_moved go n [] h = tt
all_moved go n (v ∷ vs) h = (h v (contains_head v vs), all_moved go n vs (λ u c. h u (contains_behind u v vs c)))

module _ (w : Program) (law : IsLawfulProgram w) (light : weight w ≤ 1024) where
  start_below : (v : ℕ) → Contains (tops w) v → start w v < length (laid 0 (all_pieces w)).exprs
  start_below v c =
      let starts = map (start w) (tops w) in
      let inside_all : Within 0 (0 + length (all_pieces w)) starts =
      subst (Within 0 (0 + length (all_pieces w))) (tops_are w law) (tops_within 0 (all_pieces w)) in
      let here = holds_of_contained (λ t. (0 ≤ t) × (t < 0 + length (all_pieces w))) starts (start w v) inside_all
      (contains_map (start w) (tops w) v c) in
      omega (arith, here.1, length-laid 0 (all_pieces w))

  moves : AreMoved (start w) (length (laid 0 (all_pieces w)).exprs) (form_exprs w.forms)
  moves = all_moved (start w) (length (laid 0 (all_pieces w)).exprs) (form_exprs w.forms)
      (λ v c. start_below v
      (in_tops w v c (holds_of_contained (λ u. u < length w.exprs) (form_exprs w.forms) v (inside w) c)))

  abbrev forms : List Form
  forms = map (moved_form (start w)) w.forms

  program_fits : plain_fits.program_fits w.width w.name (plain_defs w) (laid 0 (all_pieces w)).exprs forms w.always w.processes
      ≡ true
  program_fits =
      let f = fit w in
      let xs = (laid 0 (all_pieces w)).exprs in
      let e = length xs in
      let n = length w.forms in
      let same : length forms ≡ n = length-map w.forms (moved_form (start w)) in
      let width = nat_le 1 w.width && nat_le w.width 64 in
      let defs = list_all plain_fits.def_fits (plain_defs w) in
      let exprs = plain_fits.exprs_fit e 0 xs in
      let fitted : ℕ → Bool = λ m. forms_fit e m 0 forms in
      let always : ℕ → Bool = λ m. list_all (λ i. nat_lt i m) w.always in
      let processes : ℕ → Bool = λ m. list_all (process_fits m) w.processes in
      let m = length forms in
      let one = and_from width (is_symbol w.name) f.width f.name in
      let two = and_from (width && is_symbol w.name) defs one (plain_defs_fit (length w.exprs) w.defs f.defs) in
      let three = and_from (width && is_symbol w.name && defs) exprs two (expansion_fits w law) in
      let four = and_from (width && is_symbol w.name && defs && exprs) (fitted m) three
      (ap fitted same ∙ moved_fit (start w) (length w.exprs) e n 0 w.forms f.forms moves) in
      let five = and_from (width && is_symbol w.name && defs && exprs && fitted m) (always m) four
      (ap always same ∙ f.always) in
      and_from (width && is_symbol w.name && defs && exprs && fitted m && always m) (processes m) five
      (ap processes same ∙ f.processes)

  is_tree : plain_tree.is_tree (laid 0 (all_pieces w)).exprs forms w.always w.processes ≡ true
  is_tree =
      let t = tree_fit w in
      let xs = (laid 0 (all_pieces w)).exprs in
      let exprs = is_distinct (plain_tree.expr_places xs forms) in
      let places = is_distinct (form_places forms w.always w.processes) in
      let low = are_low (plain_tree.expr_heights xs) in
      and_from (exprs && places && low) (are_low (form_heights forms))
      (and_from (exprs && places) low
      (and_from exprs places (expansion_distinct w law)
      (ap is_distinct (moved_places (start w) w.forms w.always w.processes) ∙ t.forms))
      (expansion_low w light))
      (ap are_low (moved_heights (start w) w.forms) ∙ t.low_forms)

  pub expansion : plain.Program
  expansion = record {
    place = w.place;
    name = w.name;
    width = w.width;
    defs = plain_defs w;
    exprs = (laid 0 (all_pieces w)).exprs;
    forms = forms;
    always = w.always;
    processes = w.processes;
    fits = program_fits;
    tree = is_tree;
  }

  pub expansion_exists : (p : plain.Program) × IsExpansion w p
  unfolding expansion
  expansion_exists = (
    expansion,
    record {
      place = refl;
      name = refl;
      width = refl;
      defs = refl;
      exprs = refl;
      forms = refl;
      always = refl;
      processes = refl;
    },
  )
