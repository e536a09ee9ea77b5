-- Where E21 and E22 aren't broken, each expression is a word or a bit.
use Rattle.std.proofs.Common.{◌≡◌, ◌∙◌, inl, inr, ℕ, zero, suc, List, [], ◌∷◌, ◌++◌, true, false, refl, sym, ap, subst}
use Rattle.std.proofs.Common.{arith, length, take, length-append}
use Rattle.std.specs.Prelude.{Option, Some, None, slice_get, slice_index_or, if◌then◌else◌}
use Rattle.std.proofs.lemmas.Bool.{cases_lt}
use Rattle.std.proofs.lemmas.List.{get_or_append_left}
use Rattle.std.proofs.lemmas.Option.{none-some, same_Some}
use Rattle.std.proofs.lemmas.Slice.Eq.{bytes_eq-Decides}
use Rattle.mp_base.specs.Entries.{IsAt}
use Rattle.mp_base.proofs.Induction.{by_test}
use Rattle.mp_program.specs.Names.{is_same}
use Rattle.mp_rules.specs.Sorts.{Sort, IsWord, IsBit, result_sort}
use Rattle.mp_written.specs.declared.program.ExprKind.{ExprKind}
use Rattle.mp_written.specs.declared.program.ExprKind.TheVariants.{Number, Named, True, False, Apply, Use}
use Rattle.mp_written.specs.declared.program.What.{What}
use Rattle.mp_written.specs.declared.program.What.TheVariants as whats
use Rattle.mp_written.specs.declared.program.Arg.{Arg}
use Rattle.mp_written.specs.declared.program.Def.{Def}
use Rattle.mp_written.specs.declared.program.Expr.{Expr}
use Rattle.mp_written.specs.declared.program.Program.{Program}
use Rattle.mp_written.specs.Kinds.{is_supply, is_function}
use Rattle.mp_written.specs.Functions.{Function, functions, function_index, arg_index}
use Rattle.written_rules.specs.Sorts.{what_sort, name_sort, named_sort, expr_sort, sort_at, body_sort, function_sorts}
use Rattle.expansion_laws.specs.Lawful.{IsLawfulKind, IsLawful, lawful, AreLawfulBodies}
use Rattle.expansion_rules.proofs.LawfulUses.{get_take, take_get}

abbrev pub HasSort : Option Sort → Type 0
HasSort o = (t : Sort) × (o ≡ Some t)

what_sorted : (k : What) → is_supply k ≡ false → is_function k ≡ false → HasSort (what_sort k)
what_sorted whats.Power supply function = absurd (cc)
what_sorted whats.Ground supply function = absurd (cc)
what_sorted whats.Phia supply function = absurd (cc)
what_sorted whats.Phib supply function = absurd (cc)
what_sorted whats.Phic supply function = absurd (cc)
what_sorted (whats.Constant c) supply function = (IsWord, refl)
what_sorted whats.Register supply function = (IsWord, refl)
what_sorted whats.Flag supply function = (IsBit, refl)
what_sorted (whats.Port way) supply function = (IsWord, refl)
what_sorted (whats.Signal way) supply function = (IsBit, refl)
what_sorted (whats.Function args body) supply function = absurd (cc)

-- a name that means neither a supply nor a function
pub name_sorted : (ds : List Def) (x : List ℕ)
    → ((i : ℕ) (d : Def) → IsAt ds i d → d.name ≡ x → (is_supply d.what ≡ false) × (is_function d.what ≡ false))
    → (i : ℕ) (d : Def) → IsAt ds i d → d.name ≡ x → HasSort (name_sort ds x)
name_sorted [] x values i d at named = absurd (none-some d at)
name_sorted (c ∷ ds) x values i d at named = by_test (is_same c.name x)
    (λ yes. (let value = values 0 c refl ((bytes_eq-Decides c.name x).0 yes) in
    let (t, is) = what_sorted c.what value.0 value.1 in
    (t, ap (λ b. if b then what_sort c.what else name_sort ds x) yes ∙ is)))
    (λ other. (let (t, is) = further (λ j there. name_sorted ds x (λ k e ke same. values (suc k) e ke same) j d there named)
    i at other in
    (t, ap (λ b. if b then what_sort c.what else name_sort ds x) other ∙ is)))
  where
    further : ((j : ℕ) → IsAt ds j d → HasSort (name_sort ds x)) → (j : ℕ) → IsAt (c ∷ ds) j d → is_same c.name x ≡ false
        → HasSort (name_sort ds x)
    further rest zero there other =
        let first = same_Some c d there in
        let yes = (bytes_eq-Decides c.name x).1 (ap (λ (e : Def). e.name) first ∙ named) in
        let bad : true ≡ false = sym yes ∙ other in absurd (cc)
    further rest (suc j) there other = rest j there

named_sorted : (defs : List Def) (x : List ℕ) (o : Option ℕ) → (o ≡ None → HasSort (name_sort defs x))
    → HasSort (named_sort defs x o)
named_sorted defs x None free = free refl
named_sorted defs x (Some i) free = (IsWord, refl)

-- an expression of this kind, where names that are no arguments have a sort and so have the functions
pub kind_sorted : (defs : List Def) (fs : List Function) (sorts : List (Option Sort)) (args : List Arg) (k : ExprKind)
    → IsLawfulKind fs k → ((x : List ℕ) → k ≡ Named x → arg_index args x ≡ None → HasSort (name_sort defs x))
    → ((j : ℕ) (f : Function) → IsAt fs j f → HasSort (slice_index_or sorts j None))
    → HasSort (expr_sort defs fs sorts args k)
kind_sorted defs fs sorts args (Number n) fit names known = (IsWord, refl)
kind_sorted defs fs sorts args (Named x) fit names known =
    named_sorted defs x (arg_index args x) (λ none. names x refl none)
kind_sorted defs fs sorts args True fit names known = (IsBit, refl)
kind_sorted defs fs sorts args False fit names known = (IsBit, refl)
kind_sorted defs fs sorts args (Apply op k os) fit names known = (result_sort op, refl)
kind_sorted defs fs sorts args (Use at x os) (f, found, many) names known = known (function_index fs x) f found

last_sort : (xs : List (Option Sort)) (o : Option Sort) (i : ℕ) → i ≡ length xs → slice_index_or (xs ++ o ∷ []) i None ≡ o
last_sort [] o zero e = refl
last_sort [] o (suc i) e = absurd (omega (arith, e))
last_sort (x ∷ xs) o zero e = absurd (omega (arith, e))
last_sort (x ∷ xs) o (suc i) e = last_sort xs o i (omega (arith, e))

-- the functions, where the names in bodies have sorts
module _ (w : Program) (bodies : AreLawfulBodies w.exprs (functions w))
    (names : (k : ℕ) (f : Function) (y : Expr) (x : List ℕ) → IsAt (functions w) k f → IsAt w.exprs f.body y → y.kind ≡ Named x
    → arg_index f.args x ≡ None → HasSort (name_sort w.defs x)) where
  size : (k : ℕ) → length (function_sorts w k) ≡ k
  size zero = refl
  size (suc k) = let rest = size k in
      omega (
        arith,
        rest,
        length-append (function_sorts w k) (body_sort w (take k (functions w)) (function_sorts w k)
            (slice_get (functions w) k) ∷ []),
      )

  body_sorted : (k : ℕ) (f : Function) → IsAt (functions w) k f → IsLawful w.exprs (take k (functions w)) f.body
      → ((j : ℕ) (g : Function) → IsAt (take k (functions w)) j g → HasSort (slice_index_or (function_sorts w k) j None))
      → HasSort (sort_at w.defs (take k (functions w)) (function_sorts w k) f.args (slice_get w.exprs f.body))
  body_sorted k f here (lawful e y at fit below) known =
      let (t, is) = kind_sorted w.defs (take k (functions w)) (function_sorts w k) f.args y.kind fit
      (λ x named none. names k f y x here at named none) known in
      (t, ap (sort_at w.defs (take k (functions w)) (function_sorts w k) f.args) at ∙ is)

  pub functions_sorted : (k j : ℕ) (g : Function) → IsAt (take k (functions w)) j g
      → HasSort (slice_index_or (function_sorts w k) j None)
  functions_sorted zero j g at = absurd (none-some g at)
  functions_sorted (suc k) j g at =
      let (below, there) = get_take (functions w) (suc k) j g at in
      let long = size k in
      let more = body_sort w (take k (functions w)) (function_sorts w k) (slice_get (functions w) k) in
      elim (cases_lt j k) [
        | inl lt ↦
            (let (t, is) = functions_sorted k j g (take_get (functions w) k j g lt there) in
            (t, get_or_append_left (function_sorts w k) (more ∷ []) None j (omega (arith, lt, long)) ∙ is))
        | inr ge ↦
            (let e : j ≡ k = omega (arith, below, ge) in
            let here : IsAt (functions w) k g = subst (λ i. IsAt (functions w) i g) e there in
            let (t, is) = body_sorted k g here (bodies k g here) (functions_sorted k) in (
              t,
              last_sort (function_sorts w k) more j (omega (arith, e, long))
                  ∙ ap (body_sort w (take k (functions w)) (function_sorts w k)) here ∙ is,
            ))
      ]
