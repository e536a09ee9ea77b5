-- The sorts of expressions, by those of functions and by what expressions mean.
use Rattle.std.proofs.Common.{◌≡◌, ◌∙◌, ◌⊎◌, inl, inr, ℕ, zero, suc, ◌<◌, ◌≤◌, ◌+◌, List, [], ◌∷◌, ◌++◌, Bool, true}
use Rattle.std.proofs.Common.{false, cond}
use Rattle.std.proofs.Common.{refl, sym, ap, subst, arith, Option, Some, None, length, map, take, get_or}
use Rattle.std.proofs.Common.{length-append, length-take}
use Rattle.std.specs.Prelude.{◌↔◌, is_some, slice_get, nat_lt}
use Rattle.std.specs.Option.{option_map, option_and_then}
use Rattle.std.proofs.lemmas.Bool.{ltb-true, ltb-false}
use Rattle.std.proofs.lemmas.List.{get_or_append_left, get_or-map, length-map, map-append, get_or_past}
use Rattle.std.proofs.Math.Seq.{get_or-append_seam}
use Rattle.std.proofs.lemmas.Option.{get_or_from_slice_get}
use Rattle.mp_base.specs.Entries.{IsAt}
use Rattle.mp_base.proofs.Entries.{within, one_entry, some_entry, map_get}
use Rattle.mp_program.specs.Names.{is_same}
use Rattle.mp_rules.specs.Sorts.{Sort, IsWord}
use Rattle.written_names.specs.declared.sorts.Sort as coded
use Rattle.written_names.specs.Sorting.{meant}
use Rattle.mp_written.specs.declared.program.ExprKind.{ExprKind}
use Rattle.mp_written.specs.declared.program.ExprKind.TheVariants.{Number, Named, True, False, Apply, Use}
use Rattle.mp_written.specs.declared.program.Def.{Def}
use Rattle.mp_written.specs.declared.program.Expr.{Expr}
use Rattle.mp_written.specs.declared.program.Program.{Program}
use Rattle.mp_written.specs.Functions.{Function, functions, function_index, arg_index}
use Rattle.mp_written.specs.Sound.{itself}
use Rattle.mp_written.proofs.Soundness.{sound}
use Rattle.written_frame.specs.Frame.{frame_def}
use Rattle.written_rules.specs.Sorts.{what_sort, name_sort, named_sort, expr_sort, sort_at, body_sort, function_sorts}
use Rattle.written_rules.specs.Sorts.{HasSort}
use Rattle.written_meanings.specs.declared.meanings.Meaning.{Meaning}
use Rattle.written_meanings.specs.declared.functions.Body.{Body}
use Rattle.written_meanings.specs.Meanings.{IsMeaning, usable, args_around, args_of, used, argument, function_named}
use Rattle.written_meanings.specs.Meanings.{body_of}
use Rattle.name_meanings.specs.declared.table.NameTable.{NameTable}
use Rattle.name_meanings.specs.Named.{first_of}
use Rattle.written_names.specs.Table.{NamesWritten}
use Rattle.written_names.specs.Sorting as sorting
use Rattle.written_names.specs.Sorting.{sort_in, kind_sort}
use Rattle.written_names.proofs.MeantNames.{owner_told, owner_not, owner_is}
use Rattle.written_names.proofs.NameTables.{first_is}

-- ---- names

first_sort : (ds : List Def) (x : List ℕ)
    → option_and_then (λ (d : Def). what_sort d.what) (option_and_then (slice_get ds) (first_of (map frame_def ds) x))
    ≡ name_sort ds x
first_sort [] x = refl
first_sort (d ∷ ds) x = turn (is_same d.name x) (first_of (map frame_def ds) x) (first_sort ds x)
  where
    turn : (b : Bool) (o : Option ℕ)
        → option_and_then (λ (c : Def). what_sort c.what) (option_and_then (slice_get ds) o) ≡ name_sort ds x
        → option_and_then (λ (c : Def). what_sort c.what)
        (option_and_then (slice_get (d ∷ ds)) (cond b (Some 0) (option_map suc o)))
        ≡ cond b (what_sort d.what) (name_sort ds x)
    turn true o h = refl
    turn false None h = h
    turn false (Some k) h = h

-- ---- functions

module _ (w : Program) where
  abbrev fs : List Function
  fs = functions w

  abbrev sorts : ℕ → List (Option Sort)
  sorts k = function_sorts w k

  pub size : (k : ℕ) → length (sorts k) ≡ k
  size zero = refl
  size (suc k) =
      length-append (sorts k) (body_sort w (take k fs) (sorts k) (slice_get fs k) ∷ [])
      ∙ (let e = size k in omega (arith, e))

  -- the sorts of fewer functions
  fewer : (n k i : ℕ) → i < k → k ≤ n → get_or (sorts n) i None ≡ get_or (sorts k) i None
  fewer zero k i lt le = absurd (omega (arith, lt, le))
  fewer (suc n) k i lt le = elim (either k n le) [
    | inl less ↦
        get_or_append_left (sorts n) (body_sort w (take n fs) (sorts n) (slice_get fs n) ∷ []) None i
        (let e = size n in omega (arith, e, lt, less)) ∙ fewer n k i lt less
    | inr same ↦ ap (λ l. get_or (sorts l) i None) (sym same)
  ]
    where
      either : (k n : ℕ) → k ≤ suc n → (k ≤ n) ⊎ (k ≡ suc n)
      either k n le = grind (arith, le)

  -- how many functions may be used
  abbrev limit : Option ℕ → ℕ
  limit (Some k) = k
  limit None = length fs

  -- the sort of an expression of a kind, in the body of a function or in none
  abbrev pub scoped : Option ℕ → ExprKind → Option Sort
  scoped o k = expr_sort w.defs (usable fs o) (sorts (limit o)) (args_around fs o) k

  usable_size : (o : Option ℕ) → limit o ≤ length fs → length (usable fs o) ≡ limit o
  usable_size None le = refl
  usable_size (Some k) le = let e = length-take k fs in omega (arith, e, le)

  module _ (t : NameTable) (table : NamesWritten w t) (functions_of : List (Option coded.Sort)) (n : ℕ)
      (are : map (option_map meant) functions_of ≡ sorts n) where
    at_index : (i : ℕ) → i < n → sorting.sort_at functions_of i ≡ get_or (sorts n) i None
    at_index i lt =
        let many = length-map functions_of (option_map meant) in
        let all = ap length are in
        let long = size n in
        sym (get_or-map (option_map meant) functions_of i None None (omega (arith, lt, many, all, long)))
        ∙ ap (λ xs. get_or xs i None) are

    use_sorted : (o p : Option ℕ) (x : List ℕ) → limit o ≤ n → limit o ≤ length fs → p ≡ function_named (usable fs o) x
        → option_and_then (sorting.sort_at functions_of) p
        ≡ get_or (sorts (limit o)) (function_index (usable fs o) x) None
    use_sorted o p x le few is = turn (nat_lt i m) refl
      where
        i : ℕ
        i = function_index (usable fs o) x

        m : ℕ
        m = length (usable fs o)

        turn : (b : Bool) → nat_lt i m ≡ b
            → option_and_then (sorting.sort_at functions_of) p ≡ get_or (sorts (limit o)) i None
        turn true e =
            let lt = ltb-true i m e in
            let many = usable_size o few in
            ap (option_and_then (sorting.sort_at functions_of)) (is ∙ ap (λ b. cond b (Some i) None) e)
            ∙ at_index i (omega (arith, lt, many, le)) ∙ fewer n (limit o) i (omega (arith, lt, many)) le
        turn false e =
            let ge = ltb-false i m e in
            let many = usable_size o few in
            let long = size (limit o) in
            ap (option_and_then (sorting.sort_at functions_of)) (is ∙ ap (λ b. cond b (Some i) None) e)
            ∙ sym (get_or_past (sorts (limit o)) i None (omega (arith, ge, many, long)))

    name_sorted : (o p : Option ℕ) (x : List ℕ) → p ≡ o
        → cond (is_some p) (Some IsWord) (sort_in w.defs t x) ≡ named_sort w.defs x o
    name_sorted None p x is = ap (λ q. cond (is_some q) (Some IsWord) (sort_in w.defs t x)) is
        ∙ ap (λ q. option_and_then (λ (d : Def). what_sort d.what) (option_and_then (slice_get w.defs) q))
        (first_is w t table x)
        ∙ first_sort w.defs x
    name_sorted (Some i) p x is = ap (λ q. cond (is_some q) (Some IsWord) (sort_in w.defs t x)) is

    pub kind_scoped : (o : Option ℕ) (k : ExprKind) (m : Meaning) → limit o ≤ n → limit o ≤ length fs
        → m.argument ≡ argument (args_around fs o) k → m.function ≡ used (usable fs o) k
        → kind_sort w.defs t functions_of k m ≡ scoped o k
    kind_scoped o (Number v) m le few arg use_is = refl
    kind_scoped o (Named x) m le few arg use_is = name_sorted (arg_index (args_around fs o) x) m.argument x arg
    kind_scoped o True m le few arg use_is = refl
    kind_scoped o False m le few arg use_is = refl
    kind_scoped o (Apply op i os) m le few arg use_is = refl
    kind_scoped o (Use at x os) m le few arg use_is = use_sorted o m.function x le few use_is

  -- ---- expressions

  module _ (e : ℕ) (x : Expr) (m : Meaning) (means : IsMeaning w e x m) where
    pub owner_few : limit m.owner ≤ length fs
    owner_few = turn m.owner refl
      where
        turn : (o : Option ℕ) → m.owner ≡ o → limit o ≤ length fs
        turn None is = omega arith
        turn (Some k) is = let (f, body) = owner_told w e x m means k is in let lt = within fs k body.0 in
            omega (arith, lt)

    pub scoped_has : (s : Sort) → scoped m.owner x.kind ≡ Some s → HasSort w e x s
    scoped_has s is = turn m.owner refl is
      where
        turn : (o : Option ℕ) → m.owner ≡ o → scoped o x.kind ≡ Some s → HasSort w e x s
        turn None owner is = inr (owner_not w e x m means owner, is)
        turn (Some k) owner is =
            let (f, body) = owner_told w e x m means k owner in
            inl (k, f, body, sym (ap (λ o. expr_sort w.defs (take k fs) (sorts k) (args_of o) x.kind) body.0) ∙ is)

    pub has_scoped : (s : Sort) → HasSort w e x s → scoped m.owner x.kind ≡ Some s
    has_scoped s (inl (k, f, body, is)) = ap (λ o. scoped o x.kind) (owner_is w e x m means k f body)
        ∙ ap (λ o. expr_sort w.defs (take k fs) (sorts k) (args_of o) x.kind) body.0 ∙ is
    has_scoped s (inr (none, is)) = turn m.owner refl
      where
        turn : (o : Option ℕ) → m.owner ≡ o → scoped m.owner x.kind ≡ Some s
        turn None owner = ap (λ o. scoped o x.kind) owner ∙ is
        turn (Some k) owner = absurd (let (f, body) = owner_told w e x m means k owner in none k f body)

    -- the sort that is found
    pub sort_found : (t : NameTable) (table : NamesWritten w t) (functions_of : List (Option coded.Sort))
        → map (option_map meant) functions_of ≡ sorts (length fs)
        → kind_sort w.defs t functions_of x.kind m ≡ scoped m.owner x.kind
    sort_found t table functions_of are =
        kind_scoped t table functions_of (length fs) are m.owner x.kind m owner_few owner_few means.argument
        means.function

  -- the sort of the next function's body
  pub body_found : (t : NameTable) (table : NamesWritten w t) (functions_of : List (Option coded.Sort)) (n : ℕ)
      (f : Function)
      (x : Expr) (m : Meaning) (s : Option coded.Sort) → map (option_map meant) functions_of ≡ sorts n → IsAt fs n f
      → IsAt w.exprs f.body x → IsMeaning w f.body x m → option_map meant s ≡ kind_sort w.defs t functions_of x.kind m
      → map (option_map meant) (functions_of ++ s ∷ []) ≡ sorts (n + 1)
  body_found t table functions_of n f x m s are at here means is =
      let owner = owner_is w f.body x m means n f (at, itself) in
      let lt = within fs n at in
      let found = kind_scoped t table functions_of n are (Some n) x.kind m (omega arith) (omega (arith, lt))
      (means.argument ∙ ap (λ o. argument (args_around fs o) x.kind) owner)
      (means.function ∙ ap (λ o. used (usable fs o) x.kind) owner) in
      let body = ap (λ o. expr_sort w.defs (take n fs) (sorts n) (args_of o) x.kind) at
      ∙ sym (ap (body_sort w (take n fs) (sorts n)) at
      ∙ ap (sort_at w.defs (take n fs) (sorts n) f.args) here) in
      map-append (option_map meant) functions_of (s ∷ [])
      ∙ ap (λ ys. ys ++ option_map meant s ∷ []) are
      ∙ ap (λ o. sorts n ++ o ∷ []) (is ∙ found ∙ body)
      ∙ (let e : suc n ≡ n + 1 = omega arith in ap sorts e)

-- the body at an index
pub record BodyAt (w : Program) (n : ℕ) (b : Body) : Type 0 where
  pub function : Function
  pub expr : Expr
  pub at : IsAt (functions w) n function
  pub is : b.expr ≡ function.body
  pub here : IsAt w.exprs function.body expr
  pub low : function.body < length w.exprs

pub body_at : (w : Program) (bodies : List Body) (n : ℕ) (d : Body) → bodies ≡ map body_of (functions w)
    → n < length bodies
    → BodyAt w n (get_or bodies n d)
body_at w bodies n d are lt =
    let many = ap length are ∙ length-map (functions w) body_of in
    let (f, at) = some_entry (functions w) n (omega (arith, lt, many)) in
    let is = get_or_from_slice_get bodies n (body_of f) d
    (ap (λ bs. slice_get bs n) are ∙ map_get body_of (functions w) n f at) in
    let low = ((sound w).defs n f at).body in
    let (x, here) = some_entry w.exprs f.body low in
    record { function = f; expr = x; at = at; is = ap (λ (b : Body). b.expr) is; here = here; low = low }

-- ---- the sorts of the first n expressions

pub record AreFirstSorts (w : Program) (n : ℕ) (found : List (Option coded.Sort)) : Type 0 where
  pub size : length found ≡ n
  pub each : (e : ℕ) (x : Expr) (s : Sort) → e < n → IsAt w.exprs e x
      → (sorting.sort_at found e ≡ Some s) ↔ HasSort w e x s

pub sort_more : (w : Program) (t : NameTable) (table : NamesWritten w t) (functions_of : List (Option coded.Sort))
    (n : ℕ)
    (x : Expr) (m : Meaning) (s : Option coded.Sort) (found : List (Option coded.Sort))
    → map (option_map meant) functions_of ≡ function_sorts w (length (functions w)) → IsAt w.exprs n x
    → IsMeaning w n x m
    → option_map meant s ≡ kind_sort w.defs t functions_of x.kind m → AreFirstSorts w n found
    → AreFirstSorts w (n + 1) (found ++ s ∷ [])
sort_more w t table functions_of n x m s found are at means is firsts = record {
  size = length-append found (s ∷ []) ∙ (let e = firsts.size in omega (arith, e));
  each = λ e y r lt here. elim (up_to e n lt) [
    | inl less ↦ subst (λ o. (o ≡ Some r) ↔ HasSort w e y r)
        (sym (ap (option_map meant) (get_or_append_left found (s ∷ []) None e (let l = firsts.size in
        omega (arith, l, less)))))
        (firsts.each e y r less here)
    | inr same ↦
        (let y_at = subst (λ i. IsAt w.exprs i y) same here in
        let one = one_entry w.exprs n x y at y_at in
        subst (λ i. (sorting.sort_at (found ++ s ∷ []) i ≡ Some r) ↔ HasSort w i y r) (sym same)
        (subst (λ (z : Expr). (sorting.sort_at (found ++ s ∷ []) n ≡ Some r) ↔ HasSort w n z r) one
        (subst (λ o. (o ≡ Some r) ↔ HasSort w n x r) (sym last)
        (scoped_has w n x m means r, has_scoped w n x m means r))))
  ];
}
  where
    up_to : (e n : ℕ) → e < n + 1 → (e < n) ⊎ (e ≡ n)
    up_to e n lt = grind (arith, lt)

    last : sorting.sort_at (found ++ s ∷ []) n ≡ scoped w m.owner x.kind
    last = ap (λ k. sorting.sort_at (found ++ s ∷ []) k) (sym firsts.size)
        ∙ ap (option_map meant) (get_or-append_seam found s [] None) ∙ is
        ∙ sort_found w n x m means t table functions_of are

pub all_sorts : (w : Program) (n : ℕ) (found : List (Option coded.Sort)) → n ≡ length w.exprs → AreFirstSorts w n found
    → sorting.AreSorts w found
all_sorts w n found all are = record {
  as_many = are.size ∙ all;
  each = λ e x s at. are.each e x s (let lt = within w.exprs e at in omega (arith, lt, all)) at;
}

-- the sort of a name, by a table
pub name_sorts : (w : Program) (t : NameTable) (table : NamesWritten w t) (x : List ℕ)
    → sort_in w.defs t x ≡ name_sort w.defs x
name_sorts w t table x =
    ap (λ q. option_and_then (λ (d : Def). what_sort d.what) (option_and_then (slice_get w.defs) q))
    (first_is w t table x)
    ∙ first_sort w.defs x
