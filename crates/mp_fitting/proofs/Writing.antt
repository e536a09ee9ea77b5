-- The values of expressions, and what forms write.
use Rattle.std.proofs.Common.{◌≡◌, ◌≢◌, inl, inr, ◌∙◌, ℕ, zero, suc, ◌+◌, ◌<◌, ◌≤◌, ◌^◌, List, [], ◌∷◌, ◌++◌, Bool}
use Rattle.std.proofs.Common.{true, false, cond, Option, Some, None, refl, sym, ap, subst, arith, length, get_or, map}
use Rattle.std.specs.Prelude.{slice_index, slice_get, Some, unwrap_or, Contains, All, ◌==◌}
use Rattle.std.specs.List.{AllByRecursion, flat_map}
use Rattle.std.proofs.lemmas.Bool.{cases_lt}
use Rattle.std.proofs.lemmas.List.{get_or_past}
use Rattle.std.proofs.lemmas.List.Elements.{All-from_recursion, All-contains}
use Rattle.std.proofs.lemmas.Option.{slice_get_within}
use Rattle.std.proofs.lemmas.Slice.Eq.{bytes_eq-Decides}
use Rattle.mp_base.specs.Merge.{join, merged}
use Rattle.mp_base.specs.declared.refusal.Place.{Place}
use Rattle.mp_base.proofs.Lists.{length-table}
use Rattle.mp_program.specs.declared.program.ExprKind.{ExprKind}
use Rattle.mp_program.specs.declared.program.ExprKind.TheVariants.{Number, Named, True, False, Apply}
use Rattle.mp_program.specs.declared.program.FormKind.{FormKind}
use Rattle.mp_program.specs.declared.program.FormKind.TheVariants.{Set, Cond, Par, Go, Call, Return}
use Rattle.mp_program.specs.declared.program.Branch.{Branch}
use Rattle.mp_program.specs.declared.program.Def.{Def}
use Rattle.mp_program.specs.declared.program.Expr.{Expr}
use Rattle.mp_program.specs.declared.program.Form.{Form}
use Rattle.mp_program.specs.declared.program.Program.{Program}
use Rattle.mp_program.specs.Names.{is_same, is_supply}
use Rattle.mp_program.specs.Sound.{IsSound, AllBetween, ArgsFit, InnerFit, BranchesFit}
use Rattle.mp_program.specs.Values.{kind_value, value_of}
use Rattle.mp_program.specs.Effects.{Effect, Writes, Goes, Calls, Returns, branch_effects, kind_effects, form_effects}
use Rattle.mp_program.specs.Effects.{effects_of, written}
use Rattle.mp_program.specs.State.{State, active}
use Rattle.mp_program.specs.Environment.{clock_effects}
use Rattle.mp_base.specs.Entries.{IsAt}
use Rattle.mp_rules.specs.Naming.{OwnNames}
use Rattle.mp_rules.specs.Rules.{E22, E23}
use Rattle.mp_rules.specs.Sorts.{Sort, IsWord, IsBit, name_sort, operand_sort, expr_sort, IsWanted}
use Rattle.mp_base.proofs.Entries.{some_entry}
use Rattle.mp_fitting.specs.Fitting.{def_limit, ValuesFit}
use Rattle.mp_fitting.proofs.Sizes.{sort_limit, limit_positive, limit_is, sort_of, or_fits}
use Rattle.mp_fitting.proofs.Operators.{apply_fits}
use Rattle.mp_fitting.proofs.Naming.{meaning_sort, named_fits}

-- the values of arguments are below what each is below
below_each : (v : ℕ → ℕ) (n : ℕ) (args : List ℕ) → 0 < n → ((a : ℕ) → Contains args a → v a < n) → (i : ℕ)
    → slice_index (map v args) i < n
below_each v n [] pos h i = let e : get_or {A = ℕ} [] i 0 ≡ 0 = get_or_past [] i 0 (omega arith) in
    omega (arith, e, pos)
below_each v n (a ∷ args) pos h zero = h a (0, omega arith, refl)
below_each v n (a ∷ args) pos h (suc i) =
    below_each v n args pos (λ b (k, lt, is). h b (suc k, omega (arith, lt), is)) i

-- ---- writes

-- a value that is written is of the sort of its target
abbrev pub WriteFits : Program → Effect → Type 0
WriteFits p (Writes x v) = (s : Sort) → name_sort p.defs x ≡ Some s → v < sort_limit p.width (Some s)
WriteFits p (Goes l) = Unit {0}
WriteFits p (Calls l) = Unit {0}
WriteFits p Returns = Unit {0}

abbrev pub WritesFit : Program → List Effect → Type 0
WritesFit p es = AllByRecursion (WriteFits p) es

joined : (p : Program) (xs ys : List Effect) → WritesFit p xs → WritesFit p ys → WritesFit p (xs ++ ys)
joined p [] ys a b = b
joined p (x ∷ xs) ys a b = (a.0, joined p xs ys a.1 b)

flat_fits : (p : Program) (e : ℕ → List Effect) (fs : List ℕ) → AllByRecursion (λ f. WritesFit p (e f)) fs
    → WritesFit p (flat_map e fs)
flat_fits p e [] h = tt
flat_fits p e (f ∷ fs) h = joined p (e f) (flat_map e fs) h.0 (flat_fits p e fs h.1)

all_between : (P : ℕ → Type 0) (i n : ℕ) (fs : List ℕ) → ((j : ℕ) → i < j → j < n → P j) → AllBetween i n fs
    → AllByRecursion P fs
all_between P i n [] h b = tt
all_between P i n (f ∷ fs) h ((low, high), others) = (h f low high, all_between P i n fs h others)

branches_fit : (p : Program) (v : ℕ → ℕ) (e : ℕ → List Effect) (i : ℕ) (bs : List Branch)
    → ((j : ℕ) → i < j → j < length p.forms → WritesFit p (e j))
    → BranchesFit (length p.exprs) i (length p.forms) bs → WritesFit p (branch_effects v bs e)
branches_fit p v e i [] h b = tt
branches_fit p v e i (x ∷ xs) h ((_, body), others) =
    chosen (v x.guard == 1)
    (flat_fits p e x.body (all_between (λ f. WritesFit p (e f)) i (length p.forms) x.body h body))
    (branches_fit p v e i xs h others)
  where
    chosen : (t : Bool) → WritesFit p (flat_map e x.body) → WritesFit p (branch_effects v xs e)
        → WritesFit p (cond t (flat_map e x.body) (branch_effects v xs e))
    chosen true here rest = here
    chosen false here rest = rest

written_fits : (p : Program) (x : List ℕ) (s : Sort) → name_sort p.defs x ≡ Some s → (es : List Effect)
    → WritesFit p es → AllByRecursion (λ v. v < sort_limit p.width (Some s)) (written x es)
written_fits p x s sort [] h = tt
written_fits p x s sort (Writes y v ∷ es) h = chosen (is_same y x) refl (written x es) (written_fits p x s sort es h.1)
  where
    chosen : (t : Bool) → is_same y x ≡ t → (vs : List ℕ) → AllByRecursion (λ u. u < sort_limit p.width (Some s)) vs
        → AllByRecursion (λ u. u < sort_limit p.width (Some s)) (cond t (v ∷ vs) vs)
    chosen true same vs rest = (h.0 s (ap (name_sort p.defs) ((bytes_eq-Decides y x).0 same) ∙ sort), rest)
    chosen false same vs rest = rest
written_fits p x s sort (Goes l ∷ es) h = written_fits p x s sort es h.1
written_fits p x s sort (Calls l ∷ es) h = written_fits p x s sort es h.1
written_fits p x s sort (Returns ∷ es) h = written_fits p x s sort es h.1

merged_fits : (w : ℕ) (s : Sort) (vs : List ℕ) (z : ℕ) → AllByRecursion (λ v. v < sort_limit w (Some s)) vs
    → z < sort_limit w (Some s) → unwrap_or (merged vs) z < sort_limit w (Some s)
merged_fits w s [] z h low = low
merged_fits w s (v ∷ vs) z h low = both (merged vs) (merged_fits w s vs z h.1 low)
  where
    both : (o : Option ℕ) → unwrap_or o z < sort_limit w (Some s)
        → unwrap_or (join (Some v) o) z < sort_limit w (Some s)
    both None rest = h.0
    both (Some u) rest = or_fits w s v u h.0 rest

-- ---- a program in which words and bits stand where they are wanted

pub record Fitting (p : Program) : Type 0 where
  pub sound : IsSound p
  pub values : (env : List ℕ) (e : ℕ) (x : Expr) → slice_get p.exprs e ≡ Some x
      → value_of p env e ≡ kind_value p env x.kind (value_of p env)
  pub effects : (env : List ℕ) (f : ℕ) (x : Form) → slice_get p.forms f ≡ Some x
      → effects_of p env f ≡ kind_effects (value_of p env) x.kind (effects_of p env)
  pub names : OwnNames p
  pub sorts : (at : Place) → E22 p at → ⊥
  pub sizes : (at : Place) → E23 p at → ⊥

module _ (p : Program) (a : Fitting p) (env : List ℕ) (f : ValuesFit p env) where
  -- the value of an expression is of its sort
  abbrev IsFit : ℕ → Expr → Type 0
  IsFit e x = value_of p env e < sort_limit p.width (expr_sort p.defs x.kind)

  -- and of the sort that is wanted
  wanted : (e : ℕ) (x : Expr) (s : Sort) → IsAt p.exprs e x → IsWanted p e (Some s) → IsFit e x
      → value_of p env e < sort_limit p.width (Some s)
  wanted e x s is want fits = chosen (expr_sort p.defs x.kind) refl fits
    where
      clash : (t : Sort) → expr_sort p.defs x.kind ≡ Some t → s ≢ t → ⊥
      clash t has other = a.sorts x.place (inl (e, x, s, t, is, want, has, other, refl))

      sorted : (s t : Sort) → (s ≢ t → ⊥) → value_of p env e < sort_limit p.width (Some t)
          → value_of p env e < sort_limit p.width (Some s)
      sorted IsWord IsWord same h = h
      sorted IsBit IsBit same h = h
      sorted IsWord IsBit same h = absurd (same (λ q. absurd (cc)))
      sorted IsBit IsWord same h = absurd (same (λ q. absurd (cc)))

      chosen : (o : Option Sort) → expr_sort p.defs x.kind ≡ o → value_of p env e < sort_limit p.width o
          → value_of p env e < sort_limit p.width (Some s)
      chosen None has h = let l : 0 < sort_limit p.width (Some s) = limit_positive p.width (Some s) in
          omega (arith, h, l)
      chosen (Some t) has h = sorted s t (clash t has) h

  -- the value of an expression, where those behind it are fit
  kind_fit : (e : ℕ) (x : Expr) → IsAt p.exprs e x → ((b : ℕ) (y : Expr) → e < b → IsAt p.exprs b y → IsFit b y)
      → (k : ExprKind) → x.kind ≡ k
      → kind_value p env k (value_of p env) < sort_limit p.width (expr_sort p.defs k)
  kind_fit e x is rest (Number n) same = elim (cases_lt n (2 ^ p.width)) [
    | inl lt ↦ lt
    | inr ge ↦ absurd (a.sizes x.place (inr (e, x, n, is, same, ge, refl)))
  ]
  kind_fit e x is rest (Named name) same = named_fits p env f name
  kind_fit e x is rest True same = omega arith
  kind_fit e x is rest False same = omega arith
  kind_fit e x is rest (Apply op k args) same =
      apply_fits p.width op k (map (value_of p env) args)
      (below_each (value_of p env) (sort_limit p.width (Some (operand_sort op))) args
      (limit_positive p.width (Some (operand_sort op))) argument)
    where
      args_behind : All (λ b. (e < b) × (b < length p.exprs)) args
      args_behind =
          let P : ExprKind → Type 0 = ArgsFit e (length p.exprs) in
          let h : ArgsFit e (length p.exprs) (Apply op k args) =
          subst P same (a.sound.exprs e x is) in
          All-from_recursion (λ b. (e < b) × (b < length p.exprs)) args h.1

      argument : (b : ℕ) → Contains args b → value_of p env b < sort_limit p.width (Some (operand_sort op))
      argument b c =
          let (behind, inside) = All-contains (λ i. (e < i) × (i < length p.exprs)) args b args_behind c in
          let (y, at) = some_entry p.exprs b inside in
          wanted b y (operand_sort op) at (inl (e, x, op, k, args, is, same, c, refl)) (rest b y behind at)

  fit_from : (m e : ℕ) (x : Expr) → length p.exprs ≤ e + m → IsAt p.exprs e x → IsFit e x
  fit_from zero e x le is = absurd (let l = slice_get_within p.exprs e x is in omega (arith, le, l))
  fit_from (suc m) e x le is =
      let P : ℕ → Type 0 = λ v. v < sort_limit p.width (expr_sort p.defs x.kind) in
      subst P (sym (a.values env e x is))
      (kind_fit e x is (λ b y lt at. fit_from m b y (omega (arith, le, lt)) at) x.kind refl)

  guard_in : (g n : ℕ) (bs : List Branch) (b : Branch) → BranchesFit (length p.exprs) g n bs → Contains bs b
      → (b.guard < length p.exprs) × Contains (map (λ (x : Branch). x.guard) bs) b.guard
  guard_in g n [] b fit (k, lt, same) = absurd (omega (arith, lt))
  guard_in g n (x ∷ xs) b ((guard, _), _) (zero, lt, same) =
      let inside = subst (λ (y : Branch). y.guard < length p.exprs) same guard in
      (inside, (zero, omega arith, ap (λ (y : Branch). y.guard) same))
  guard_in g n (x ∷ xs) b fit (suc k, lt, same) =
      let (inside, (j, below, e)) = guard_in g n xs b fit.1 (k, omega (arith, lt), same) in
      (inside, (suc j, omega (arith, below), e))

  -- the guard of a branch is a bit
  pub guard_fit : (g : ℕ) (y : Form) (bs : List Branch) (b : Branch) → IsAt p.forms g y → y.kind ≡ Cond bs
      → Contains bs b → value_of p env b.guard < 2
  guard_fit g y bs b is same among =
      let P : FormKind → Type 0 = InnerFit (length p.exprs) g (length p.forms) in
      let fit : P (Cond bs) = subst P same (a.sound.forms g y is) in
      let (inside, guarded) = guard_in g (length p.forms) bs b fit among in
      let (x, at) = some_entry p.exprs b.guard inside in
      wanted b.guard x IsBit at (inr (inl (g, y, bs, is, same, guarded, refl)))
      (fit_from (length p.exprs) b.guard x (omega arith) at)

  -- what a form writes, where what those behind it write fits
  form_fit : (g : ℕ) (y : Form) → IsAt p.forms g y
      → ((j : ℕ) → g < j → j < length p.forms → WritesFit p (effects_of p env j)) → (k : FormKind) → y.kind ≡ k
      → WritesFit p (kind_effects (value_of p env) k (effects_of p env))
  form_fit g y is rest (Set name at e) same = (value, tt)
    where
      inside : e < length p.exprs
      inside = let P : FormKind → Type 0 = InnerFit (length p.exprs) g (length p.forms) in
          subst P same (a.sound.forms g y is)

      value : (s : Sort) → name_sort p.defs name ≡ Some s → value_of p env e < sort_limit p.width (Some s)
      value s sort =
          let (x, at_e) = some_entry p.exprs e inside in
          wanted e x s at_e (inr (inr (g, y, name, at, is, same, sym sort)))
          (fit_from (length p.exprs) e x (omega arith) at_e)
  form_fit g y is rest (Cond bs) same =
      let P : FormKind → Type 0 = InnerFit (length p.exprs) g (length p.forms) in
      branches_fit p (value_of p env) (effects_of p env) g bs rest
      (subst P same (a.sound.forms g y is))
  form_fit g y is rest (Par fs) same =
      let P : FormKind → Type 0 = InnerFit (length p.exprs) g (length p.forms) in
      flat_fits p (effects_of p env) fs
      (all_between (λ j. WritesFit p (effects_of p env j)) g (length p.forms) fs rest
      (subst P same (a.sound.forms g y is)))
  form_fit g y is rest (Go l) same = (tt, tt)
  form_fit g y is rest (Call l) same = (tt, tt)
  form_fit g y is rest Return same = (tt, tt)

  nothing_past : (g : ℕ) → length p.forms ≤ g → WritesFit p (effects_of p env g)
  nothing_past g ge =
      let P : List Effect → Type 0 = WritesFit p in
      subst P (sym
      (get_or_past (form_effects p env) g []
      (let l = length-table [] (λ (x : Form) e. kind_effects (value_of p env) x.kind e) 0 p.forms in
      omega (arith, l, ge)))) tt

  writes_from : (m g : ℕ) → length p.forms ≤ g + m → WritesFit p (effects_of p env g)
  writes_from zero g le = nothing_past g (omega (arith, le))
  writes_from (suc m) g le = elim (cases_lt g (length p.forms)) [
    | inl lt ↦ (
        let (y, is) = some_entry p.forms g lt in
        let P : List Effect → Type 0 = WritesFit p in
        subst P (sym (a.effects env g y is))
        (form_fit g y is (λ j gj jl. writes_from m j (omega (arith, le, gj))) y.kind refl))
    | inr ge ↦ nothing_past g ge
  ]

  -- all that is written in a clock
  clock_fits : (st : State) → WritesFit p (clock_effects p st env)
  clock_fits st = flat_fits p (effects_of p env) (active p st) (each (active p st))
    where
      each : (fs : List ℕ) → AllByRecursion (λ j. WritesFit p (effects_of p env j)) fs
      each [] = tt
      each (j ∷ fs) = (writes_from (length p.forms) j (omega arith), each fs)

  -- what is written to a definition, as one value, or another value that fits where nothing is written
  pub written_value : (st : State) (d : ℕ) (x : Def) (z : ℕ) → IsAt p.defs d x → is_supply x.what ≡ false
      → z < def_limit p.width x.what
      → unwrap_or (merged (written x.name (clock_effects p st env))) z < def_limit p.width x.what
  written_value st d x z is named low =
      let (s, sort) = sort_of x.what named in
      let e : def_limit p.width x.what ≡ sort_limit p.width (Some s) =
      limit_is p.width x.what ∙ ap (sort_limit p.width) sort in
      let P : ℕ → Type 0 = λ n. unwrap_or (merged (written x.name (clock_effects p st env))) z < n in
      subst P (sym e) (merged_fits p.width s (written x.name (clock_effects p st env)) z
      (written_fits p x.name s (meaning_sort p a.names d x is named ∙ sort) (clock_effects p st env) (clock_fits st))
      (let Q : ℕ → Type 0 = λ n. z < n in subst Q e low))
