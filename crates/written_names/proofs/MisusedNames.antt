-- The earliest places where names are misused.
use Rattle.std.proofs.Common.{◌≡◌, ◌∙◌, inl, inr, ℕ, ◌<◌, List, Bool, true, false, cond, refl, sym, ap, subst}
use Rattle.std.proofs.Common.{Option, Some, None, length}
use Rattle.std.specs.Prelude.{is_some, not, ◌||◌, ◌&&◌}
use Rattle.std.specs.Option.{option_map_or}
use Rattle.std.proofs.lemmas.Bool.{and_parts, and_from, or_cases, or_left, or_right, not-true, or_parts}
use Rattle.mp_base.specs.declared.refusal.Place.{Place}
use Rattle.mp_base.specs.Entries.{IsAt}
use Rattle.mp_base.proofs.Entries.{within, one_entry}
use Rattle.mp_program.specs.Names.{is_same}
use Rattle.mp_program.proofs.Definitions.{is_same_of, same_is}
use Rattle.mp_program.specs.declared.program.Process.{Process}
use Rattle.mp_rules.specs.Breaking.{IsEarliest}
use Rattle.mp_rules.proofs.EarliestPlaces.{earliest_same}
use Rattle.mp_written.specs.declared.program.ExprKind.{ExprKind}
use Rattle.mp_written.specs.declared.program.ExprKind.TheVariants as kinds
use Rattle.mp_written.specs.declared.program.What.{What}
use Rattle.mp_written.specs.declared.program.What.TheVariants as whats
use Rattle.mp_written.specs.declared.program.Def.{Def}
use Rattle.mp_written.specs.declared.program.Expr.{Expr}
use Rattle.mp_written.specs.declared.program.Program.{Program}
use Rattle.mp_written.specs.Kinds.{is_constant, is_function, is_supply}
use Rattle.mp_written.specs.Functions.{Function}
use Rattle.written_rules.specs.Naming.{Defines, IsArgument, IsNamedAt, MayUse}
use Rattle.written_meanings.specs.declared.meanings.Meaning.{Meaning}
use Rattle.written_meanings.specs.Meanings.{IsMeaning}
use Rattle.name_meanings.specs.declared.table.NameTable.{NameTable}
use Rattle.name_meanings.specs.Table.{known}
use Rattle.written_names.proofs.FoundEntries.{any_found, found_any}
use Rattle.written_names.proofs.EarliestFound.{when}
use Rattle.written_names.specs.declared.uses.Misuse.{Misuse}
use Rattle.written_names.specs.declared.uses.Misuse.TheVariants.{Undefined, NoValue, Outside}
use Rattle.written_names.specs.Table.{NamesWritten, definition}
use Rattle.written_names.specs.Misuse.{is_misuse, is_reached, is_undefined, misuse_at, IsMisused, IsReached}
use Rattle.written_names.specs.Misuse.{NamesNoFunction}
use Rattle.written_names.specs.Misuse.{MisusesAt, NamesApart}
use Rattle.written_names.proofs.MeantNames.{has_argument, no_argument, owner_told, owner_is, has_function, no_function}
use Rattle.written_names.proofs.NameTables.{is_defined, not_defined, process_is, definition_found, own_definition}

pub no : {A : Type 0} {b : Bool} → b ≡ true → b ≡ false → A
no {A} {b} t f = absurd (let e : true ≡ false = sym t ∙ f in cc)

pub by_bool : {A : Type 0} (b : Bool) → (b ≡ true → A) → (b ≡ false → A) → A
by_bool true f g = f refl
by_bool false f g = g refl

not_supply : (k : What) → (is_constant k || is_function k) ≡ true → is_supply k ≡ false
not_supply whats.Power h = cc
not_supply whats.Ground h = cc
not_supply whats.Phia h = cc
not_supply whats.Phib h = cc
not_supply whats.Phic h = cc
not_supply _ h = refl

named_same : (n l : List ℕ) → kinds.Named n ≡ kinds.Named l → n ≡ l
named_same n l e = cc

use_same : (h p : Place) (n l os ps : List ℕ) → kinds.Use h n os ≡ kinds.Use p l ps → (h ≡ p) × (n ≡ l)
use_same h p n l os ps e = (cc, cc)

is_none : (o : Option ℕ) → is_some o ≡ false → o ≡ None
is_none None e = refl
is_none (Some k) e = cc

-- ---- names

module _ (w : Program) (t : NameTable) (table : NamesWritten w t) where
  -- a test of the definition that a table gives
  abbrev tested : (What → Bool) → List ℕ → Bool
  tested test x = option_map_or (λ (d : Def). test d.what) (definition w.defs t x) false

  defines : (test : What → Bool) (x : List ℕ) → tested test x ≡ true → Defines w x test
  defines test x is = turn (definition w.defs t x) refl is
    where
      turn : (o : Option Def) → definition w.defs t x ≡ o → option_map_or (λ (d : Def). test d.what) o false ≡ true
          → Defines w x test
      turn None e h = cc
      turn (Some d) e h = let (i, at, named) = definition_found w t table x d e in (i, d, at, named, h)

  defined : (test : What → Bool) (x : List ℕ) → ((k : What) → test k ≡ true → is_supply k ≡ false)
      → NamesApart NoValue w
      → Defines w x test → tested test x ≡ true
  defined test x plain apart (i, d, at, named, is) =
      ap (λ o. option_map_or (λ (c : Def). test c.what) o false)
      (own_definition w t table x i d apart at named (plain d.what is)) ∙ is

  pub misused : (u : Misuse) (x : List ℕ) → NamesApart u w → is_misuse u w.defs t x ≡ true → IsMisused u w x
  misused Undefined x apart h = not_defined w t table x (not-true _ h)
  misused NoValue x apart h = elim (or_cases (known t x).process (tested is_function x) h) [
    | inl process ↦
        (let (k, q, at, same) = any_found (λ (q : Process). is_same q.name x) w.processes (sym
        (process_is w t table x) ∙ process)
        in inr (k, q, at, same_is q.name x same))
    | inr function ↦ inl (defines is_function x function)
  ]
  misused Outside x apart h =
      let two = and_parts (is_some (known t x).least) (not (tested (λ k. is_constant k || is_function k) x)) h in
      let none = not-true _ two.1 in (
        is_defined w t table x two.0,
        (λ (i, d, at, named, is). no (defined (λ k. is_constant k || is_function k) x not_supply apart
            (i, d, at, named, or_left (is_constant d.what) (is_function d.what) is)) none),
        (λ (i, d, at, named, is). no (defined (λ k. is_constant k || is_function k) x not_supply apart
            (i, d, at, named, or_right (is_constant d.what) (is_function d.what) is)) none),
      )

  pub not_misused : (u : Misuse) (x : List ℕ) → NamesApart u w → is_misuse u w.defs t x ≡ false → ¬ IsMisused u w x
  not_misused Undefined x apart h = λ none.
      none (is_defined w t table x (by_bool (is_some (known t x).least) (λ e. e) (λ e. no (ap not e) h)))
  not_misused NoValue x apart h = λ either. (let two = or_parts (known t x).process (tested is_function x) h in
      elim either [
        | inl function ↦
            no (defined is_function x (λ k is. not_supply k (or_right (is_constant k)
            (is_function k) is)) apart function) two.1
        | inr (k, q, at, same) ↦
            no (process_is w t table x ∙ found_any (λ (q : Process). is_same q.name x) w.processes
            (k, q, at, is_same_of q.name x same)) two.0
      ])
  not_misused Outside x apart h = λ (some, constant, function).
      by_bool (tested (λ k. is_constant k || is_function k) x)
      (λ holds. let (i, d, at, named, is) = defines (λ k. is_constant k || is_function k) x holds in
      elim (or_cases (is_constant d.what) (is_function d.what) is) [
        | inl is ↦ constant (i, d, at, named, is)
        | inr is ↦ function (i, d, at, named, is)
      ])
      (λ none. by_bool (is_some (known t x).least)
      (λ some_least. no (and_from (is_some (known t x).least) (not (tested
      (λ k. is_constant k || is_function k) x)) some_least
      (ap not none)) h)
      (λ unknown. not_defined w t table x unknown some))

-- ---- expressions

module _ (w : Program) (t : NameTable) (table : NamesWritten w t) (u : Misuse) (apart : NamesApart u w) (e : ℕ)
    (x : Expr)
    (m : Meaning) (at : IsAt w.exprs e x) (means : IsMeaning w e x m) where
  reached : (v : Misuse) → is_reached v m ≡ true → IsReached v w e
  reached Outside h = turn m.owner refl h
    where
      turn : (o : Option ℕ) → m.owner ≡ o → is_some o ≡ true → IsReached Outside w e
      turn None is some = cc
      turn (Some k) is some = let (f, body) = owner_told w e x m means k is in (k, f, body)
  reached Undefined h = tt
  reached NoValue h = tt

  reaches : (v : Misuse) → IsReached v w e → is_reached v m ≡ true
  reaches Outside (k, f, body) = ap is_some (owner_is w e x m means k f body)
  reaches Undefined h = refl
  reaches NoValue h = refl

  same_expr : (y : Expr) → IsAt w.exprs e y → y ≡ x
  same_expr y there = one_entry w.exprs e y x there at

  head_told : (v : Misuse) (there : Place) → NamesNoFunction v w e there
      → (n os : List ℕ) × (x.kind ≡ kinds.Use there n os) × (is_undefined v ≡ true)
      × ((j : ℕ) (g : Function) → ¬ MayUse w e n j g)
  head_told Undefined there (y, n, os, here, is, none) =
      (n, os, ap (λ (z : Expr). z.kind) (sym (same_expr y here)) ∙ is, refl, none)
  head_told NoValue there h = absurd h
  head_told Outside there h = absurd h

  tell_head : (v : Misuse) (there : Place) (n os : List ℕ) → x.kind ≡ kinds.Use there n os → is_undefined v ≡ true
      → ((j : ℕ) (g : Function) → ¬ MayUse w e n j g) → NamesNoFunction v w e there
  tell_head Undefined there n os is h none = (x, n, os, at, is, none)
  tell_head NoValue there n os is h none = cc
  tell_head Outside there n os is h none = cc

  -- a name of another kind of expression
  named_told : (there : Place) (n : List ℕ) → IsNamedAt w e n there → (x.kind ≡ kinds.Named n) × (there ≡ x.place)
  named_told there n (y, here, is, place) =
      let same = same_expr y here in
      (ap (λ (z : Expr). z.kind) (sym same) ∙ is, place ∙ ap (λ (z : Expr). z.place) same)

  -- an expression of another kind is no misuse
  no_misuse : ((n : List ℕ) → x.kind ≡ kinds.Named n → ⊥)
      → ((h : Place) (n os : List ℕ) → x.kind ≡ kinds.Use h n os → ⊥) → IsEarliest (MisusesAt u w e) None
  no_misuse name head = λ there h. elim h [
    | inl (n, named, free, reach, bad) ↦ name n (named_told there n named).0
    | inr told ↦ (let (n, os, is, undefined, none) = head_told u there told in head there n os is)
  ]

  pub misuse_earliest : (k : ExprKind) → x.kind ≡ k → IsEarliest (MisusesAt u w e) (misuse_at u w.defs t x.place k m)
  misuse_earliest (kinds.Named n) is =
      let free = not (is_some m.argument) in
      let bad = is_misuse u w.defs t n in
      let b = (free && is_reached u m) && bad in
      earliest_same (λ there. (b ≡ true) × (there ≡ x.place)) (MisusesAt u w e) (cond b (Some x.place) None)
      (when b x.place)
      (λ there (holds, place).
      let two = and_parts (free && is_reached u m) bad holds in
      let one = and_parts free (is_reached u m) two.0 in
      inl (
        n,
        (x, at, is, place),
        no_argument w e x m means n is (not-true (is_some m.argument) one.0),
        reached u one.1,
        misused w t table u n apart two.1,
      ))
      (λ there h. elim h [
        | inl (l, named, none, reach, wrong) ↦
            (let (here, place) = named_told there l named in
            let same : n ≡ l = named_same n l (sym is ∙ here) in
            let unbound = subst (λ y. ¬ IsArgument w e y) (sym same) none in
            let first = by_bool (is_some m.argument) (λ some. absurd (unbound (has_argument w e x m means n is some)))
            (λ e. ap not e) in (
              and_from (free && is_reached u m) bad (and_from free (is_reached u m) first (reaches u reach))
                  (by_bool bad (λ e. e)
                  (λ e. absurd (not_misused w t table u n apart e (subst (IsMisused u w) (sym same) wrong)))),
              place,
            ))
        | inr head ↦ absurd (let (l, os, other, undefined, none) = head_told u there head in
            let bad : kinds.Named n ≡ kinds.Use there l os = sym is ∙ other in cc)
      ])
  misuse_earliest (kinds.Use head n os) is =
      let b = is_undefined u && not (is_some m.function) in
      earliest_same (λ there. (b ≡ true) × (there ≡ head)) (MisusesAt u w e) (cond b (Some head) None) (when b head)
      (λ there (holds, place).
      let two = and_parts (is_undefined u) (not (is_some m.function)) holds in
      inr (tell_head u there n os (is ∙ ap (λ p. kinds.Use p n os) (sym place)) two.0
      (no_function w e x m means head n os is (is_none m.function (not-true (is_some m.function) two.1)))))
      (λ there h. elim h [
        | inl (l, named, free, reach, wrong) ↦ absurd (let (here, place) = named_told there l named in
            let bad : kinds.Use head n os ≡ kinds.Named l = sym is ∙ here in cc)
        | inr told ↦
            (let (l, ps, other, undefined, none) = head_told u there told in
            let (place, name) = use_same head there n l os ps (sym is ∙ other) in (
              and_from (is_undefined u) (not (is_some m.function)) undefined
                  (unused m.function refl (subst (λ y. (j : ℕ) (g : Function) → ¬ MayUse w e y j g) (sym name) none)),
              sym place,
            ))
      ])
    where
      unused : (o : Option ℕ) → m.function ≡ o → ((j : ℕ) (g : Function) → ¬ MayUse w e n j g)
          → not (is_some o) ≡ true
      unused None eq none = refl
      unused (Some j) eq none = absurd (let (g, may) = has_function w e x m means head n os j is eq in none j g may)
  misuse_earliest (kinds.Number v) is = no_misuse (λ n e. let bad = sym is
      ∙ e in cc) (λ h n os e. let bad = sym is ∙ e in cc)
  misuse_earliest kinds.True is = no_misuse (λ n e. let bad = sym is ∙ e in cc) (λ h n os e. let bad = sym is ∙ e in cc)
  misuse_earliest kinds.False is = no_misuse (λ n e. let bad = sym is ∙ e in cc) (λ h n os e. let bad = sym is
      ∙ e in cc)
  misuse_earliest (kinds.Apply op i os) is =
      no_misuse (λ n e. let bad = sym is ∙ e in cc) (λ h n ps e. let bad = sym is ∙ e in cc)

-- where an expression misuses a name, it is one
pub misuse_within : (w : Program) (u : Misuse) (e : ℕ) (at : Place) → MisusesAt u w e at → e < length w.exprs
misuse_within w u e at (inl (n, (y, here, is, place), free, reach, bad)) = within w.exprs e here
misuse_within w Undefined e at (inr (y, n, os, here, is, none)) = within w.exprs e here
misuse_within w NoValue e at (inr h) = absurd h
misuse_within w Outside e at (inr h) = absurd h
