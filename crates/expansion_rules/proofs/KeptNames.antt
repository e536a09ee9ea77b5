-- Rules of names in an expansion: each name that is left means a value, as it does where it is written.
use Rattle.std.proofs.Common.{◌≡◌, ◌∙◌, ◌⊎◌, inl, inr, ℕ, zero, suc, ◌+◌, List, [], ◌∷◌, ◌++◌, Bool, true, false, refl, sym, ap, subst}
use Rattle.std.proofs.Common.{arith, length, map}
use Rattle.std.specs.Prelude.{not, filter, Contains, Option, Some, None, slice_get, if◌then◌else◌}
use Rattle.std.specs.Option.{option_map}
use Rattle.std.specs.List.{list_any}
use Rattle.std.proofs.lemmas.Bool.{cases_lt, not-true}
use Rattle.std.proofs.lemmas.Option.{none-some, same_Some}
use Rattle.std.proofs.lemmas.Slice.Eq.{bytes_eq-Decides}
use Rattle.mp_base.specs.declared.refusal.Place.{Place}
use Rattle.mp_base.specs.Entries.{IsAt}
use Rattle.mp_base.proofs.Contents.{any_contained, contains_filter, contains_from_filter}
use Rattle.mp_base.proofs.Entries.{any_found, contains_from_get, get_from_contains, get_behind, get_kept, get_map, map_get}
use Rattle.mp_base.proofs.Induction.{by_test}
use Rattle.mp_program.specs.Names as plain_names
use Rattle.mp_program.specs.Names.{is_same}
use Rattle.mp_program.specs.declared.program.ExprKind.TheVariants as plains
use Rattle.mp_program.specs.declared.program.Process.{Process}
use Rattle.mp_program.specs.declared.program.Way.TheVariants as ways
use Rattle.mp_program.specs.declared.program.What as plain_what
use Rattle.mp_program.specs.declared.program.What.TheVariants as plain_whats
use Rattle.mp_program.specs.declared.program.Def as plain_def
use Rattle.mp_program.specs.declared.program.Program as plain
use Rattle.mp_rules.specs.Naming as plain_naming
use Rattle.mp_rules.specs.Naming.{Naming, process_naming}
use Rattle.mp_rules.specs.Rules as plain_rules
use Rattle.mp_written.specs.declared.program.ExprKind.{ExprKind}
use Rattle.mp_written.specs.declared.program.ExprKind.TheVariants.{Number, Named, True, False, Apply, Use}
use Rattle.mp_written.specs.declared.program.What.{What}
use Rattle.mp_written.specs.declared.program.What.TheVariants as whats
use Rattle.mp_written.specs.declared.program.Arg.{Arg}
use Rattle.mp_written.specs.declared.program.Def.{Def}
use Rattle.mp_written.specs.declared.program.Expr.{Expr}
use Rattle.mp_written.specs.declared.program.Program.{Program}
use Rattle.mp_written.specs.Kinds.{is_supply, is_function, is_constant, is_driven}
use Rattle.mp_written.specs.Functions.{Function, functions, arg_index}
use Rattle.mp_written.specs.Sound.{InBody, Under}
use Rattle.mp_written.specs.Laying.{laid_kind}
use Rattle.mp_written.specs.Expansion.{IsExpansion, all_pieces, tops}
use Rattle.written_rules.specs.Naming.{namings, def_naming, IsDefined, NamesNoValue, IsArgument, IsNamedAt}
use Rattle.written_rules.specs.Naming.{IsTargetAt}
use Rattle.written_rules.specs.Rules as rules
use Rattle.expansion_laws.specs.Lawful.{IsLawfulProgram}
use Rattle.expansion_laws.proofs.ClosedClaims.{IsFree}
use Rattle.expansion_laws.proofs.LeftKinds.{Kinds, all_kinds, kind_of}
use Rattle.expansion_laws.proofs.Readers.{InNoBody}
use Rattle.mp_written.proofs.Roots.{one_body, in_no_body, is_guard}
use Rattle.expansion_rules.proofs.KeptForms.{target_at}
use Rattle.expansion_rules.proofs.KeptDefs.{written, supply_was, def_at, made_at}

-- ---- names

same_name : (x y : List ℕ) → is_same x y ≡ true → x ≡ y
same_name x y h = (bytes_eq-Decides x y).0 h

is_itself : (x y : List ℕ) → x ≡ y → is_same x y ≡ true
is_itself x y e = (bytes_eq-Decides x y).1 e

-- something has a name, or nothing has
pub defined_or_not : (w : Program) (x : List ℕ) → IsDefined w x ⊎ (IsDefined w x → ⊥)
defined_or_not w x = by_test (list_any (λ (n : Naming). is_same n.name x) (namings w))
    (λ yes. (let (k, n, at, same) = any_found (λ (n : Naming). is_same n.name x) (namings w) yes in
    inl (k, n, at, same_name n.name x same)))
    (λ no. inr (λ (k, n, at, same). (let yes = any_contained (λ (m : Naming). is_same m.name x) (namings w) n
    (contains_from_get (namings w) k n at) (is_itself n.name x same) in
    let bad : true ≡ false = sym yes ∙ no in cc)))

-- an argument that isn't found isn't there
no_argument : (args : List Arg) (x : List ℕ) → arg_index args x ≡ None → (i : ℕ) (a : Arg) → IsAt args i a → a.name ≡ x → ⊥
no_argument [] x none i a at same = none-some a at
no_argument (b ∷ rest) x none i a at same = by_test (is_same b.name x)
    (λ yes. (let bad : Some 0 ≡ None = sym (ap (λ c. if c then Some 0 else option_map suc (arg_index rest x)) yes) ∙ none in
    none-some 0 (sym bad)))
    (λ no. (let later : option_map suc (arg_index rest x) ≡ None =
    sym (ap (λ c. if c then Some 0 else option_map suc (arg_index rest x)) no) ∙ none in
    behind (no_argument rest x (without_suc (arg_index rest x) later)) no i at))
  where
    without_suc : (o : Option ℕ) → option_map suc o ≡ None → o ≡ None
    without_suc None e = refl
    without_suc (Some j) e = absurd (none-some (suc j) (sym e))

    behind : ((j : ℕ) (c : Arg) → IsAt rest j c → c.name ≡ x → ⊥) → is_same b.name x ≡ false → (j : ℕ)
        → IsAt (b ∷ rest) j a → ⊥
    behind further other zero there =
        let first = same_Some b a there in
        let yes = is_itself b.name x (ap (λ (c : Arg). c.name) first ∙ same) in
        let bad : true ≡ false = sym yes ∙ other in cc
    behind further other (suc j) there = further j a there same

-- ---- what is left where it is written

module _ (w : Program) where
  -- in a body what is left is no argument
  pub free_name : (k : ℕ) (f : Function) (e : ℕ) (x : List ℕ) → InBody w k f e → arg_index f.args x ≡ None → ¬ IsArgument w e x
  free_name k f e x here none (l, g, there, i, a, at, same) =
      let one = one_body w l k g f e there here in
      let same_function = same_Some g f (sym there.0 ∙ ap (λ j. slice_get (functions w) j) one ∙ here.0) in
      no_argument f.args x none i a (subst (λ (h : Function). IsAt h.args i a) same_function at) same

  -- outside of bodies nothing is an argument
  pub no_name : (t e : ℕ) (x : List ℕ) → Contains (tops w) t → Under w.exprs t e → ¬ IsArgument w e x
  no_name t e x c under argument = in_no_body w t (is_guard w t c) argument.0 argument.1 e under argument.2

-- ---- what has a name, and what is driven

driven_named : (k : What) → is_driven k ≡ true → is_supply k ≡ false
driven_named whats.Power h = absurd (cc)
driven_named whats.Ground h = absurd (cc)
driven_named whats.Phia h = absurd (cc)
driven_named whats.Phib h = absurd (cc)
driven_named whats.Phic h = absurd (cc)
driven_named (whats.Constant c) h = absurd (cc)
driven_named whats.Register h = absurd (cc)
driven_named whats.Flag h = absurd (cc)
driven_named (whats.Port way) h = refl
driven_named (whats.Signal way) h = refl
driven_named (whats.Function args body) h = absurd (cc)

constant_named : (k : What) → is_constant k ≡ true → is_supply k ≡ false
constant_named whats.Power h = absurd (cc)
constant_named whats.Ground h = absurd (cc)
constant_named whats.Phia h = absurd (cc)
constant_named whats.Phib h = absurd (cc)
constant_named whats.Phic h = absurd (cc)
constant_named (whats.Constant c) h = refl
constant_named whats.Register h = absurd (cc)
constant_named whats.Flag h = absurd (cc)
constant_named (whats.Port way) h = absurd (cc)
constant_named (whats.Signal way) h = absurd (cc)
constant_named (whats.Function args body) h = absurd (cc)

function_named : (k : What) → is_function k ≡ true → is_supply k ≡ false
function_named whats.Power h = absurd (cc)
function_named whats.Ground h = absurd (cc)
function_named whats.Phia h = absurd (cc)
function_named whats.Phib h = absurd (cc)
function_named whats.Phic h = absurd (cc)
function_named (whats.Constant c) h = absurd (cc)
function_named whats.Register h = absurd (cc)
function_named whats.Flag h = absurd (cc)
function_named (whats.Port way) h = absurd (cc)
function_named (whats.Signal way) h = absurd (cc)
function_named (whats.Function args body) h = refl

driven_or_constant : (k : What) → is_constant k ≡ true → is_driven k ≡ true → ⊥
driven_or_constant whats.Power h driven = cc
driven_or_constant whats.Ground h driven = cc
driven_or_constant whats.Phia h driven = cc
driven_or_constant whats.Phib h driven = cc
driven_or_constant whats.Phic h driven = cc
driven_or_constant (whats.Constant c) h driven = cc
driven_or_constant whats.Register h driven = cc
driven_or_constant whats.Flag h driven = cc
driven_or_constant (whats.Port way) h driven = cc
driven_or_constant (whats.Signal way) h driven = cc
driven_or_constant (whats.Function args body) h driven = cc

driven_or_function : (k : What) → is_function k ≡ true → is_driven k ≡ true → ⊥
driven_or_function whats.Power h driven = cc
driven_or_function whats.Ground h driven = cc
driven_or_function whats.Phia h driven = cc
driven_or_function whats.Phib h driven = cc
driven_or_function whats.Phic h driven = cc
driven_or_function (whats.Constant c) h driven = cc
driven_or_function whats.Register h driven = cc
driven_or_function whats.Flag h driven = cc
driven_or_function (whats.Port way) h driven = cc
driven_or_function (whats.Signal way) h driven = cc
driven_or_function (whats.Function args body) h driven = cc

driven_was : (k : plain_what.What) → is_driven (written k) ≡ plain_names.is_driven k
driven_was plain_whats.Power = refl
driven_was plain_whats.Ground = refl
driven_was plain_whats.Phia = refl
driven_was plain_whats.Phib = refl
driven_was plain_whats.Phic = refl
driven_was (plain_whats.Constant c) = refl
driven_was plain_whats.Register = refl
driven_was plain_whats.Flag = refl
driven_was (plain_whats.Port ways.Input) = refl
driven_was (plain_whats.Port ways.Output) = refl
driven_was (plain_whats.Port ways.Internal) = refl
driven_was (plain_whats.Signal ways.Input) = refl
driven_was (plain_whats.Signal ways.Output) = refl
driven_was (plain_whats.Signal ways.Internal) = refl

-- what isn't a function is written as in a program without functions
plain_kind : (k : What) → is_function k ≡ false → (l : plain_what.What) × (k ≡ written l)
plain_kind whats.Power h = (plain_whats.Power, refl)
plain_kind whats.Ground h = (plain_whats.Ground, refl)
plain_kind whats.Phia h = (plain_whats.Phia, refl)
plain_kind whats.Phib h = (plain_whats.Phib, refl)
plain_kind whats.Phic h = (plain_whats.Phic, refl)
plain_kind (whats.Constant c) h = (plain_whats.Constant c, refl)
plain_kind whats.Register h = (plain_whats.Register, refl)
plain_kind whats.Flag h = (plain_whats.Flag, refl)
plain_kind (whats.Port way) h = (plain_whats.Port way, refl)
plain_kind (whats.Signal way) h = (plain_whats.Signal way, refl)
plain_kind (whats.Function args body) h = absurd (cc)

named_back : (k : ExprKind) (ts x : List ℕ) → laid_kind k ts ≡ plains.Named x → k ≡ Named x
named_back (Number n) ts x e = absurd (cc)
named_back (Named y) ts x e = let same : y ≡ x = cc in ap Named same
named_back True ts x e = absurd (cc)
named_back False ts x e = absurd (cc)
named_back (Apply op j os) ts x e = absurd (cc)
named_back (Use at y os) ts x e = absurd (cc)

pub either_list : {X : Type 0} (xs ys : List X) (k : ℕ) (x : X) → IsAt (xs ++ ys) k x
    → ((j : ℕ) × IsAt xs j x) ⊎ ((j : ℕ) × IsAt ys j x)
either_list [] ys k x at = inr (k, at)
either_list (z ∷ zs) ys zero x at = inl (0, at)
either_list (z ∷ zs) ys (suc k) x at = elim (either_list zs ys k x at) [
  | inl (j, there) ↦ inl (suc j, there)
  | inr there ↦ inr there
]

-- a definition with a name has its naming
naming_at : (w : Program) (d : ℕ) (x : Def) → IsAt w.defs d x → is_supply x.what ≡ false
    → (k : ℕ) × IsAt (filter (λ (y : Def). not (is_supply y.what)) w.defs) k x × IsAt (namings w) k (def_naming x)
naming_at w d x at named =
    let kept = filter (λ (y : Def). not (is_supply y.what)) w.defs in
    let (k, there) = get_from_contains kept x
    (contains_filter (λ (y : Def). not (is_supply y.what)) w.defs x (contains_from_get w.defs d x at) (ap not named)) in (
      k,
      there,
      get_kept (map def_naming kept) (map process_naming w.processes) k (def_naming x)
          (map_get def_naming kept k x there),
    )

module _ (w : Program) (p : plain.Program) (law : IsLawfulProgram w) (expands : IsExpansion w p)
    (keeps20 : (at : Place) → ¬ rules.E20 w at) (keeps21 : (at : Place) → ¬ rules.E21 w at)
    (keeps22 : (at : Place) → ¬ rules.E22 w at) (keeps39 : (at : Place) → ¬ rules.E39 w at) where
  -- something in the expansion has the name
  abbrev pub HasNaming : List ℕ → Type 0
  HasNaming x = (k : ℕ) × (n : Naming) × IsAt (plain_naming.namings p) k n × (n.name ≡ x)

  def_has : (d : ℕ) (x : Def) → IsAt w.defs d x → is_supply x.what ≡ false → is_function x.what ≡ false → HasNaming x.name
  def_has d x at named plainly =
      let (l, is) = plain_kind x.what plainly in
      let (j, y, there, i, same) = made_at w p expands d x l at is in
      let test : plain_def.Def → Bool = λ z. not (plain_names.is_supply z.what) in
      let no_supply : plain_names.is_supply y.what ≡ false = sym (supply_was y.what) ∙ ap is_supply i.what ∙ named in
      let (k, is_it) = get_from_contains (filter test p.defs) y
      (contains_filter test p.defs y (contains_from_get p.defs j y there) (ap not no_supply)) in (
        k,
        plain_naming.def_naming y,
        get_kept (map plain_naming.def_naming (filter test p.defs)) (map process_naming p.processes) k
            (plain_naming.def_naming y) (map_get plain_naming.def_naming (filter test p.defs) k y is_it),
        i.name,
      )

  process_has : (k : ℕ) (n : Naming) → IsAt (map process_naming w.processes) k n → HasNaming n.name
  process_has k n at =
      let front = map plain_naming.def_naming (filter (λ (x : plain_def.Def). not (plain_names.is_supply x.what)) p.defs) in (
        length front + k,
        n,
        get_behind front (map process_naming p.processes) k
            ∙ subst (λ qs. slice_get (map process_naming qs) k ≡ Some n) (sym expands.processes) at,
        refl,
      )

  -- a name that is defined, and not that of a function or process
  has_naming : (x : List ℕ) → IsDefined w x → (NamesNoValue w x → ⊥) → HasNaming x
  has_naming x (k, n, at, same) value =
      let kept = filter (λ (y : Def). not (is_supply y.what)) w.defs in
      elim (either_list (map def_naming kept) (map process_naming w.processes) k n at) [
        | inl (j, there) ↦
            (let (d, dj, naming) = get_map def_naming kept j n there in
            let of_def = contains_from_filter (λ (y : Def). not (is_supply y.what)) w.defs d (contains_from_get kept j d dj) in
            let (i, di) = get_from_contains w.defs d of_def.0 in
            let name : d.name ≡ x = ap (λ (m : Naming). m.name) naming ∙ same in
            subst HasNaming name (by_test (is_function d.what)
            (λ yes. absurd (value (inl (i, d, di, name, yes))))
            (λ no. def_has i d di (not-true (is_supply d.what) of_def.1) no)))
        | inr (j, there) ↦ subst HasNaming same (process_has j n there)
      ]

  -- a name that is left means a value
  abbrev pub IsMeant : ExprKind → Type 0
  IsMeant k = (x : List ℕ) → k ≡ Named x → HasNaming x × (NamesNoValue w x → ⊥)

  meant : (e : ℕ) (y : Expr) (x : List ℕ) → IsAt w.exprs e y → y.kind ≡ Named x → ¬ IsArgument w e x
      → HasNaming x × (NamesNoValue w x → ⊥)
  meant e y x there is free =
      let named : IsNamedAt w e x y.place = (y, there, is, refl) in
      let value : NamesNoValue w x → ⊥ = λ no. keeps22 y.place (inr (inl (e, x, named, free, no))) in
      elim (defined_or_not w x) [
        | inl defined ↦ (has_naming x defined value, value)
        | inr nothing ↦ absurd (keeps21 y.place (inl (e, x, named, nothing, free)))
      ]

  pub all_meant : Kinds IsMeant (all_pieces w)
  all_meant = all_kinds IsMeant w law
      (λ k f at e y under there fit free x is.
      meant e y x there is (free_name w k f e x (at, under) (subst (IsFree f.args) is free)))
      (λ t c e y under there fit free x is. meant e y x there is (no_name w t e x c under))

  pub target_meant : (x : List ℕ) (at : Place) → IsTargetAt w x at → HasNaming x × (NamesNoValue w x → ⊥)
  target_meant x at target =
      let value : NamesNoValue w x → ⊥ = λ no. keeps22 at (inr (inr (x, target, no))) in
      elim (defined_or_not w x) [
        | inl defined ↦ (has_naming x defined value, value)
        | inr nothing ↦ absurd (keeps21 at (inr (inl (x, target, nothing))))
      ]

  -- each name that the expansion uses
  use_meant : (x : List ℕ) (at : Place) → plain_naming.Uses p x at → HasNaming x × (NamesNoValue w x → ⊥)
  use_meant x at (inl (e, y, is, kind, place)) =
      let (z, ts, meaning, laid) = kind_of IsMeant w p expands all_meant e y is in
      meaning x (named_back z.kind ts x (sym laid ∙ kind))
  use_meant x at (inr (f, y, v, is, set)) =
      let (z, u, there, was) = target_at w p expands f y x at v is set in target_meant x at (f, z, u, there, was)

  pub expansion_keeps21 : (at : Place) → ¬ plain_rules.E21 p at
  expansion_keeps21 at (x, uses, nothing) = let ((k, n, there, same), value) = use_meant x at uses in nothing k n there same

  -- the part of E22 that speaks of names
  pub expansion_uses_values : (at : Place) (k : ℕ) (q : Process) → IsAt p.processes k q → ¬ plain_naming.Uses p q.name at
  expansion_uses_values at k q is uses = (use_meant q.name at uses).1
      (inr (k, q, subst (λ qs. IsAt qs k q) expands.processes is, refl))

  -- two definitions of one name would break E20
  one_def : (c d : ℕ) (a b : Def) → IsAt w.defs c a → IsAt w.defs d b → is_supply a.what ≡ false → is_supply b.what ≡ false
      → a.name ≡ b.name → (a ≡ b → ⊥) → ⊥
  one_def c d a b ca db sa sb same apart =
      let kept = filter (λ (y : Def). not (is_supply y.what)) w.defs in
      let (j, aj, naming_a) = naming_at w c a ca sa in
      let (k, bk, naming_b) = naming_at w d b db sb in
      let differ : j ≡ k → ⊥ = λ e. apart (same_Some a b (sym aj ∙ ap (slice_get kept) e ∙ bk)) in
      elim (cases_lt (b.place).offset (a.place).offset) [
        | inl lt ↦ keeps20 a.place (inl (
          j,
          def_naming a,
          naming_a,
          refl,
          inr (k, def_naming b, naming_b, (λ e. differ (sym e)), sym same, omega (arith, lt)),
        ))
        | inr le ↦ keeps20 b.place (inl (
          k,
          def_naming b,
          naming_b,
          refl,
          inr (j, def_naming a, naming_a, differ, same, omega (arith, le)),
        ))
      ]

  -- no body leaves the name of what is driven
  pub driven_in_no_body : (d : ℕ) (x : plain_def.Def) → IsAt p.defs d x → plain_names.is_driven x.what ≡ true
      → InNoBody w x.name
  driven_in_no_body d x at driven k f e y here under there free is =
      let (c, there_c, i) = def_at w p expands d x at in
      let named : IsNamedAt w e x.name y.place = (y, there, is, refl) in
      let is_driven_c : is_driven c.what ≡ true = sym (ap is_driven i.what) ∙ driven_was x.what ∙ driven in
      let no_supply = driven_named c.what is_driven_c in
      let (n, in_kept, naming) = naming_at w _ c there_c no_supply in
      keeps39 y.place (
        k,
        f,
        e,
        x.name,
        (here, under),
        named,
        (n, def_naming c, naming, sym i.name),
        free_name w k f e x.name (here, under) (subst (IsFree f.args) is free),
        (λ (j, z, zj, name, constant). one_def _ j c z there_c zj no_supply (constant_named z.what constant)
            (sym i.name ∙ sym name) (λ same. driven_or_constant z.what constant
            (subst (λ (u : Def). is_driven u.what ≡ true) same is_driven_c))),
        (λ (j, z, zj, name, function). one_def _ j c z there_c zj no_supply (function_named z.what function)
            (sym i.name ∙ sym name) (λ same. driven_or_function z.what function
            (subst (λ (u : Def). is_driven u.what ≡ true) same is_driven_c))),
      )
