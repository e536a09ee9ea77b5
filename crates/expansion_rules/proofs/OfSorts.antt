-- Where E21 and E22 aren't broken, each expression is what is wanted where it stands.
use Rattle.std.proofs.Common.{◌≡◌, ◌∙◌, ◌⊎◌, inl, inr, ℕ, zero, suc, List, [], ◌∷◌, Bool, true, false, refl, sym, ap, subst, length}
use Rattle.std.proofs.Common.{map}
use Rattle.std.specs.Prelude.{◌≢◌, ◌&&◌, ◌||◌, ◌==◌, not, filter, Contains, Option, Some, None, slice_get, slice_index_or, nat_lt}
use Rattle.std.proofs.lemmas.Bool.{and_parts, eqb-true}
use Rattle.std.proofs.lemmas.Option.{none-some, same_Some}
use Rattle.mp_base.specs.declared.refusal.Place.{Place}
use Rattle.mp_base.specs.Entries.{IsAt}
use Rattle.mp_base.proofs.Contents.{contains_from_filter, nothing_in}
use Rattle.mp_base.proofs.Entries.{each_at, get_map, get_from_contains, contains_from_get}
use Rattle.mp_base.proofs.Induction.{by_test}
use Rattle.mp_base.proofs.Lists.{empty_of}
use Rattle.mp_program.specs.Fits.{is_symbol, form_fits, forms_fit}
use Rattle.mp_program.specs.declared.program.Form.{Form}
use Rattle.mp_program.specs.declared.program.FormKind.TheVariants.{Set}
use Rattle.mp_rules.specs.Naming.{process_naming}
use Rattle.mp_rules.specs.Naming as plain_naming
use Rattle.mp_rules.specs.Sorts.{Sort, IsWord, IsBit}
use Rattle.mp_written.specs.declared.program.ExprKind.{ExprKind}
use Rattle.mp_written.specs.declared.program.ExprKind.TheVariants.{Number, Named, True, False, Apply, Use}
use Rattle.mp_written.specs.declared.program.Arg.{Arg}
use Rattle.mp_written.specs.declared.program.Def.{Def}
use Rattle.mp_written.specs.declared.program.Expr.{Expr}
use Rattle.mp_written.specs.declared.program.Program.{Program}
use Rattle.mp_written.specs.Kinds.{is_supply, is_function}
use Rattle.mp_written.specs.Fits.{def_fits, what_fits}
use Rattle.mp_written.specs.Functions.{Function, arg_index}
use Rattle.mp_written.specs.Tree.{operands}
use Rattle.mp_written.proofs.Soundness.{fit, all_by}
use Rattle.written_rules.specs.Naming.{def_naming, IsDefined, NamesNoValue, IsArgument, IsNamedAt, IsTargetAt}
use Rattle.written_rules.specs.Sorts.{name_sort, expr_sort, IsWanted, sort_at, function_sorts}
use Rattle.written_rules.specs.Sorts as sorts
use Rattle.written_rules.specs.Rules as rules
use Rattle.expansion_laws.specs.Lawful.{IsLawfulKind, IsLawful, lawful}
use Rattle.expansion_rules.proofs.KeptNames.{defined_or_not, either_list}
use Rattle.expansion_rules.proofs.SomeSort.{HasSort, name_sorted, kind_sorted}
use Rattle.expansion_rules.proofs.SortedPieces.{IsOfSort, of_sort, wanted}

-- two sorts are one or not
same_or_not : (s t : Sort) → (s ≡ t) ⊎ (s ≢ t)
same_or_not IsWord IsWord = inl refl
same_or_not IsWord IsBit = inr (λ e. cc)
same_or_not IsBit IsWord = inr (λ e. cc)
same_or_not IsBit IsBit = inl refl

only_first : (b : Bool) → (b || false) ≡ true → b ≡ true
only_first true h = refl
only_first false h = h

form_fit_at : (e n at : ℕ) (ys : List Form) → forms_fit e n at ys ≡ true → (f : ℕ) (y : Form) → IsAt ys f y
    → (i : ℕ) × (form_fits e n i y.kind ≡ true)
form_fit_at e n at [] h f y is = absurd (none-some y is)
form_fit_at e n at (z ∷ zs) h zero y is =
    let here = (and_parts (form_fits e n at z.kind) (forms_fit e n (suc at) zs) h).0 in
    (at, subst (λ (u : Form). form_fits e n at u.kind ≡ true) (same_Some z y is) here)
form_fit_at e n at (z ∷ zs) h (suc f) y is =
    form_fit_at e n (suc at) zs ((and_parts (form_fits e n at z.kind) (forms_fit e n (suc at) zs) h).1) f y is

module _ (w : Program) (keeps21 : (at : Place) → ¬ rules.E21 w at) (keeps22 : (at : Place) → ¬ rules.E22 w at) where
  -- a symbol is the name of no supply
  no_supply : (i : ℕ) (d : Def) (x : List ℕ) → IsAt w.defs i d → d.name ≡ x → is_symbol x ≡ true → is_supply d.what ≡ false
  no_supply i d x at same symbol = by_test (is_supply d.what)
      (λ yes. (let fits = each_at (λ (c : Def). def_fits (length w.exprs) c ≡ true) w.defs i d
      (all_by (λ (c : Def). def_fits (length w.exprs) c ≡ true) (def_fits (length w.exprs)) (λ c t. t) w.defs
      (fit w).defs) at in
      let named : Bool → Bool = λ b. (b && (length d.name == 0)) || (not b && is_symbol d.name) in
      let name = (and_parts (named (is_supply d.what)) (what_fits (length w.exprs) d.what) fits).0 in
      let none : (length d.name == 0) ≡ true = only_first (length d.name == 0) (sym (ap named yes) ∙ name) in
      let empty : d.name ≡ [] = empty_of d.name (eqb-true (length d.name) 0 none) in
      let bad : false ≡ true = subst (λ n. is_symbol n ≡ true) (sym same ∙ empty) symbol in absurd (cc)))
      (λ other. other)

  -- a name that is defined and means a value has a sort
  name_has : (x : List ℕ) → is_symbol x ≡ true → IsDefined w x → (NamesNoValue w x → ⊥) → HasSort (name_sort w.defs x)
  name_has x symbol (k, n, at, same) value =
      elim (either_list (map def_naming kept) (map process_naming w.processes) k n at) [
        | inl (j, here) ↦
            (let (d, dj, naming) = get_map def_naming kept j n here in
            let in_all = (contains_from_filter (λ (c : Def). not (is_supply c.what)) w.defs d (contains_from_get kept j d dj)).0 in
            let (i, di) = get_from_contains w.defs d in_all in
            name_sorted w.defs x values i d di (ap (λ (m : plain_naming.Naming). m.name) naming ∙ same))
        | inr (j, here) ↦
            (let (q, qj, naming) = get_map process_naming w.processes j n here in
            absurd (value (inr (j, q, qj, ap (λ (m : plain_naming.Naming). m.name) naming ∙ same))))
      ]
    where
      kept : List Def
      kept = filter (λ (c : Def). not (is_supply c.what)) w.defs

      values : (i : ℕ) (d : Def) → IsAt w.defs i d → d.name ≡ x → (is_supply d.what ≡ false) × (is_function d.what ≡ false)
      values i d at name = (
        no_supply i d x at name symbol,
        by_test (is_function d.what) (λ yes. absurd (value (inl (i, d, at, name, yes)))) (λ other. other),
      )

  -- a name that is no argument has a sort
  pub named_has : (e : ℕ) (y : Expr) (x : List ℕ) → IsAt w.exprs e y → y.kind ≡ Named x → is_symbol x ≡ true → ¬ IsArgument w e x
      → HasSort (name_sort w.defs x)
  named_has e y x there is symbol free =
      let named : IsNamedAt w e x y.place = (y, there, is, refl) in
      elim (defined_or_not w x) [
        | inr nothing ↦ absurd (keeps21 y.place (inl (e, x, named, nothing, free)))
        | inl defined ↦
            name_has x symbol defined (λ no_value. keeps22 y.place (inr (inl (e, x, named, free, no_value))))
      ]

  -- the target of a `setq` has a sort
  pub target_has : (f : ℕ) (y : Form) (x : List ℕ) (at : Place) (v : ℕ) → IsAt w.forms f y → y.kind ≡ Set x at v
      → HasSort (name_sort w.defs x)
  target_has f y x at v there is =
      let target : IsTargetAt w x at = (f, y, v, there, is) in
      let (i, fits) = form_fit_at (length w.exprs) (length w.forms) 0 w.forms (fit w).forms f y there in
      let symbol = (and_parts (is_symbol x) (nat_lt v (length w.exprs))
      (subst (λ k. form_fits (length w.exprs) (length w.forms) i k ≡ true) is fits)).0 in
      elim (defined_or_not w x) [
        | inr nothing ↦ absurd (keeps21 at (inr (inl (x, target, nothing))))
        | inl defined ↦ name_has x symbol defined (λ no_value. keeps22 at (inr (inr (x, target, no_value))))
      ]

  -- in a scope, downward over the expressions
  module _ (fs : List Function) (known : List (Option Sort)) (args : List Arg) (R : ℕ → Type 0)
      (next : (e a : ℕ) (x : Expr) → R e → IsAt w.exprs e x → Contains (operands x.kind) a → R a)
      (has : (e : ℕ) (y : Expr) (s : Sort) → R e → expr_sort w.defs fs known args y.kind ≡ Some s → sorts.HasSort w e y s)
      (sorted : (j : ℕ) (f : Function) → IsAt fs j f → HasSort (slice_index_or known j None))
      (free : (e : ℕ) (x : List ℕ) → R e → arg_index args x ≡ None → ¬ IsArgument w e x) where
    some : (e : ℕ) (x : Expr) → R e → IsAt w.exprs e x → IsLawfulKind fs x.kind
        → HasSort (expr_sort w.defs fs known args x.kind)
    some e x reached at fits = kind_sorted w.defs fs known args x.kind fits
        (λ n named none. named_has e x n at named (subst (IsLawfulKind fs) named fits) (free e n reached none)) sorted

    operand_wanted : (e : ℕ) (x : Expr) (k : ExprKind) (a : ℕ) → IsAt w.exprs e x → x.kind ≡ k → Contains (operands k) a
        → IsWanted w a (Some (wanted k))
    operand_wanted e x (Number n) a at is c = absurd (nothing_in a c)
    operand_wanted e x (Named n) a at is c = absurd (nothing_in a c)
    operand_wanted e x True a at is c = absurd (nothing_in a c)
    operand_wanted e x False a at is c = absurd (nothing_in a c)
    operand_wanted e x (Apply op j os) a at is c = inl (e, x, op, j, os, at, is, c, refl)
    operand_wanted e x (Use head n os) a at is c = inr (inl (e, x, head, n, os, at, is, c, refl))

    pub of_wanted : (e : ℕ) → R e → IsLawful w.exprs fs e → (s : Sort) → IsWanted w e (Some s)
        → IsOfSort w.defs w.exprs fs known args e s
    of_wanted e reached (lawful e2 x at fits below) s want =
        let (t, is) = some e2 x reached at fits in
        let same : t ≡ s = elim (same_or_not s t) [
          | inl e3 ↦ sym e3
          | inr differ ↦ absurd (keeps22 x.place (inl (e2, x, s, t, at, want, has e2 x t reached is, differ, refl)))
        ] in
        of_sort e2 x s at (is ∙ ap Some same) fits (λ a c.
        of_wanted a (next e2 a x reached at c) (below a c) (wanted x.kind) (operand_wanted e2 x x.kind a at refl c))

    -- a root of which nothing is wanted
    pub of_root : (e : ℕ) → R e → IsLawful w.exprs fs e → (s : Sort)
        → sort_at w.defs fs known args (slice_get w.exprs e) ≡ Some s → IsOfSort w.defs w.exprs fs known args e s
    of_root e reached (lawful e2 x at fits below) s is =
        of_sort e2 x s at (sym (ap (sort_at w.defs fs known args) at) ∙ is) fits (λ a c.
        of_wanted a (next e2 a x reached at c) (below a c) (wanted x.kind) (operand_wanted e2 x x.kind a at refl c))
