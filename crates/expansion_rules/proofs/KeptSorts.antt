-- Rule E22 of an expansion: what is left has the sort that is wanted where it stands.
use Rattle.std.proofs.Common.{◌≡◌, ◌∙◌, inl, inr, ℕ, zero, suc, ◌+◌, List, [], ◌∷◌, ◌++◌, true, false, refl, sym, ap, subst}
use Rattle.std.proofs.Common.{arith, take, drop, append-nil, append_assoc, map, length, ◌<◌}
use Rattle.std.specs.Prelude.{Contains, Option, Some, None, if◌then◌else◌}
use Rattle.std.specs.List.{filter_map, cons_option, AllByRecursion}
use Rattle.std.proofs.lemmas.Option.{none-some, same_Some}
use Rattle.std.proofs.lemmas.Slice.Eq.{bytes_eq-Decides}
use Rattle.mp_base.specs.declared.refusal.Place.{Place}
use Rattle.mp_base.specs.declared.op.Op.{Op}
use Rattle.mp_base.specs.Entries.{IsAt}
use Rattle.mp_base.proofs.Contents.{contains_behind, contains_head, contains_map, contains_flat, contains_from_flat, contains_from_map}
use Rattle.mp_base.proofs.Contents.{contains_one, holds_of_contained, nothing_in, only_one}
use Rattle.mp_base.proofs.Entries.{contains_from_get, get_from_contains}
use Rattle.mp_base.proofs.Induction.{by_test}
use Rattle.mp_base.proofs.Lists.{head_of, tail_of}
use Rattle.mp_program.specs.Names.{is_same}
use Rattle.mp_program.specs.Tree.{exprs_in}
use Rattle.mp_program.specs.declared.program.Branch.{Branch}
use Rattle.mp_program.specs.declared.program.FormKind.{FormKind}
use Rattle.mp_program.specs.declared.program.FormKind.TheVariants.{Set, Cond, Par, Go, Call, Return}
use Rattle.mp_program.specs.declared.program.Form.{Form}
use Rattle.mp_program.specs.declared.program.Def as plain_def
use Rattle.mp_program.specs.declared.program.Expr as plain_expr
use Rattle.mp_program.specs.declared.program.ExprKind.TheVariants as plains
use Rattle.mp_program.specs.declared.program.Program as plain
use Rattle.mp_rules.specs.Sorts as plain_sorts
use Rattle.mp_rules.specs.Sorts.{Sort, IsWord, IsBit, operand_sort}
use Rattle.mp_rules.specs.Rules as plain_rules
use Rattle.mp_written.specs.declared.program.ExprKind.{ExprKind}
use Rattle.mp_written.specs.declared.program.ExprKind.TheVariants.{Number, Named, True, False, Apply, Use}
use Rattle.mp_written.specs.declared.program.What.{What}
use Rattle.mp_written.specs.declared.program.What.TheVariants as whats
use Rattle.mp_written.specs.declared.program.Def.{Def}
use Rattle.mp_written.specs.declared.program.Expr.{Expr}
use Rattle.mp_written.specs.declared.program.Program.{Program}
use Rattle.mp_written.specs.Kinds.{is_function}
use Rattle.mp_written.specs.Functions.{plain_what_of, plain_def as plain_def_of, plain_defs}
use Rattle.mp_written.specs.Pieces.{pieces}
use Rattle.mp_written.specs.Laying.{laid, laid_kind, arity}
use Rattle.mp_written.specs.Expansion.{IsExpansion, all_pieces, form_exprs, moved, moved_branch, start, tops}
use Rattle.written_rules.specs.Naming.{NamesNoValue}
use Rattle.written_rules.specs.Sorts.{what_sort, name_sort, IsWanted}
use Rattle.written_rules.specs.Rules as rules
use Rattle.expansion_laws.specs.Lawful.{IsLawfulProgram}
use Rattle.expansion_laws.proofs.ClosedClaims.{FitsKind}
use Rattle.expansion_laws.proofs.Existing.{in_tops}
use Rattle.expansion_laws.proofs.FormExprs.{guards_moved}
use Rattle.expansion_laws.proofs.Laid.{joined}
use Rattle.expansion_laws.proofs.LaidTables.{map_take, map_drop}
use Rattle.expansion_laws.proofs.Places.{all_joined, fitting, tops_are}
use Rattle.expansion_laws.proofs.Types.{inside}
use Rattle.mp_written.proofs.Roots.{is_guard}
use Rattle.expansion_rules.proofs.KeptForms.{form_at}
use Rattle.expansion_rules.proofs.KeptDefs.{plain_of}
use Rattle.expansion_rules.proofs.KeptNames.{all_meant, target_meant, expansion_uses_values, IsMeant}
use Rattle.expansion_rules.proofs.OfSorts.{target_has}
use Rattle.expansion_rules.proofs.SortedPieces.{IsSorted, Fine, Meets, left_sort, sorts_of}
use Rattle.expansion_rules.proofs.TopSorts.{top_sorted}

-- ---- names

name_step : (d : Def) (k : What) (ps : List plain_def.Def) (ds : List Def) (x : List ℕ)
    → (is_same d.name x ≡ true → is_function k ≡ false) → plain_sorts.name_sort ps x ≡ name_sort ds x
    → plain_sorts.name_sort (cons_option (plain_def_of d (plain_what_of k)) ps) x
    ≡ (if is_same d.name x then what_sort k else name_sort ds x)
name_step d whats.Power ps ds x plainly rest = ap (λ s. if is_same d.name x then None else s) rest
name_step d whats.Ground ps ds x plainly rest = ap (λ s. if is_same d.name x then None else s) rest
name_step d whats.Phia ps ds x plainly rest = ap (λ s. if is_same d.name x then None else s) rest
name_step d whats.Phib ps ds x plainly rest = ap (λ s. if is_same d.name x then None else s) rest
name_step d whats.Phic ps ds x plainly rest = ap (λ s. if is_same d.name x then None else s) rest
name_step d (whats.Constant c) ps ds x plainly rest = ap (λ s. if is_same d.name x then Some IsWord else s) rest
name_step d whats.Register ps ds x plainly rest = ap (λ s. if is_same d.name x then Some IsWord else s) rest
name_step d whats.Flag ps ds x plainly rest = ap (λ s. if is_same d.name x then Some IsBit else s) rest
name_step d (whats.Port way) ps ds x plainly rest = ap (λ s. if is_same d.name x then Some IsWord else s) rest
name_step d (whats.Signal way) ps ds x plainly rest = ap (λ s. if is_same d.name x then Some IsBit else s) rest
name_step d (whats.Function args body) ps ds x plainly rest = by_test (is_same d.name x)
    (λ yes. (let bad : true ≡ false = plainly yes in absurd (cc)))
    (λ other. rest ∙ sym (ap (λ b. if b then None else name_sort ds x) other))

-- a name of no function means without the functions what it means as it is written
name_kept : (ds : List Def) (x : List ℕ) → ((i : ℕ) (d : Def) → IsAt ds i d → d.name ≡ x → is_function d.what ≡ false)
    → plain_sorts.name_sort (filter_map plain_of ds) x ≡ name_sort ds x
name_kept [] x plainly = refl
name_kept (d ∷ ds) x plainly =
    name_step d d.what (filter_map plain_of ds) ds x
    (λ same. plainly 0 d refl ((bytes_eq-Decides d.name x).0 same)) (name_kept ds x (λ i c at same. plainly (suc i) c at same))

value_kept : (w : Program) (x : List ℕ) → (NamesNoValue w x → ⊥)
    → plain_sorts.name_sort (plain_defs w) x ≡ name_sort w.defs x
value_kept w x value = name_kept w.defs x (λ i d at same. by_test (is_function d.what)
    (λ yes. absurd (value (inl (i, d, at, same, yes)))) (λ other. other))

-- ---- sorts of what is laid out

-- an expression of this kind has in a program without functions the sort that is left
abbrev IsKept : List plain_def.Def → List Def → ExprKind → Type 0
IsKept ps ds k = (ts : List ℕ) → plain_sorts.expr_sort ps (laid_kind k ts) ≡ left_sort ds k

kind_kept : (w : Program) (k : ExprKind) → FitsKind k → ((x : List ℕ) → k ≡ Named x → NamesNoValue w x → ⊥)
    → IsKept (plain_defs w) w.defs k
kind_kept w (Number n) fit value ts = refl
kind_kept w (Named x) fit value ts = value_kept w x (value x refl)
kind_kept w True fit value ts = refl
kind_kept w False fit value ts = refl
kind_kept w (Apply op j os) fit value ts = refl
kind_kept w (Use at x os) fit value ts = absurd fit

module _ (ps : List plain_def.Def) (ds : List Def) (look : ℕ → Option Sort) where
  -- look tells the sorts of expressions from an index on
  abbrev Told : ℕ → List plain_expr.Expr → Type 0
  Told at ys = (j : ℕ) (y : plain_expr.Expr) → IsAt ys j y → look (at + j) ≡ plain_sorts.expr_sort ps y.kind

  told_behind : (at : ℕ) (y : plain_expr.Expr) (ys : List plain_expr.Expr) → Told at (y ∷ ys) → Told (at + 1) ys
  told_behind at y ys told j z is = let e : at + 1 + j ≡ at + suc j = omega arith in ap look e ∙ told (suc j) z is

  abbrev AreKept : List Expr → Type 0
  AreKept xs = AllByRecursion (λ (x : Expr). IsKept ps ds x.kind) xs

  tops_told : (at : ℕ) (xs : List Expr) → Told at (laid at xs).exprs → AreKept xs
      → map look (laid at xs).tops ≡ sorts_of ds xs
  tops_told at [] told kept = refl
  tops_told at (x ∷ xs) told kept =
      let below = laid (at + 1) xs in
      let first : plain_expr.Expr = record { place = x.place; kind = laid_kind x.kind below.tops } in
      let e : at ≡ at + 0 = omega arith in
      let here : look at ≡ left_sort ds x.kind = ap look e ∙ told 0 first refl ∙ kept.0 below.tops in
      let rest = tops_told (at + 1) xs (told_behind at first below.exprs told) kept.1 in
      ap (λ s. s ∷ map look (drop (arity x.kind) below.tops)) here
      ∙ ap (λ ss. left_sort ds x.kind ∷ ss)
      (map_drop look (arity x.kind) below.tops ∙ ap (drop (arity x.kind)) rest)

  operands_meet : (k : ExprKind) (ts : List ℕ) (op : Op) (j : ℕ) (args : List ℕ)
      → laid_kind k ts ≡ plains.Apply op j args → Meets k (take (arity k) (map look ts)) → (e : ℕ) → Contains args e
      → look e ≡ Some (operand_sort op)
  operands_meet (Number n) ts op j args same meets e c = absurd (cc)
  operands_meet (Named x) ts op j args same meets e c = absurd (cc)
  operands_meet True ts op j args same meets e c = absurd (cc)
  operands_meet False ts op j args same meets e c = absurd (cc)
  operands_meet (Apply op2 j2 os) ts op j args same meets e c =
      let one : op2 ≡ op = cc in
      let taken : take (length os) ts ≡ args = cc in
      let all = subst (AllByRecursion (λ s. s ≡ Some (operand_sort op2))) (sym (map_take look (length os) ts)) meets in
      holds_of_contained (λ s. s ≡ Some (operand_sort op2)) (map look (take (length os) ts)) (look e) all
      (contains_map look (take (length os) ts) e (subst (λ us. Contains us e) (sym taken) c))
      ∙ ap (λ o. Some (operand_sort o)) one
  operands_meet (Use at x os) ts op j args same meets e c = absurd (cc)

  -- an operand of what is laid out
  operand_told : (at : ℕ) (xs : List Expr) → Told at (laid at xs).exprs → AreKept xs → Fine ds xs
      → (i : ℕ) (y : plain_expr.Expr) → IsAt (laid at xs).exprs i y → (op : Op) (j : ℕ) (args : List ℕ)
      → y.kind ≡ plains.Apply op j args → (e : ℕ) → Contains args e → look e ≡ Some (operand_sort op)
  operand_told at [] told kept fine i y is op j args kind e c = absurd (none-some y is)
  operand_told at (x ∷ xs) told kept fine zero y is op j args kind e c =
      let below = laid (at + 1) xs in
      let first : plain_expr.Expr = record { place = x.place; kind = laid_kind x.kind below.tops } in
      let same = ap (λ (u : plain_expr.Expr). u.kind) (same_Some first y is) ∙ kind in
      let rest = tops_told (at + 1) xs (told_behind at first below.exprs told) kept.1 in
      operands_meet x.kind below.tops op j args same
      (subst (λ ss. Meets x.kind (take (arity x.kind) ss)) (sym rest) fine.0) e c
  operand_told at (x ∷ xs) told kept fine (suc i) y is op j args kind e c =
      let below = laid (at + 1) xs in
      let first : plain_expr.Expr = record { place = x.place; kind = laid_kind x.kind below.tops } in
      operand_told (at + 1) xs (told_behind at first below.exprs told) kept.1 fine.1 i y is op j args kind e c

-- the sort of the expression at an index
abbrev sort_in : List plain_def.Def → List plain_expr.Expr → ℕ → Option Sort
sort_in ps [] e = None
sort_in ps (y ∷ ys) zero = plain_sorts.expr_sort ps y.kind
sort_in ps (y ∷ ys) (suc e) = sort_in ps ys e

sort_is : (ps : List plain_def.Def) (ys : List plain_expr.Expr) (e : ℕ) (y : plain_expr.Expr) → IsAt ys e y
    → sort_in ps ys e ≡ plain_sorts.expr_sort ps y.kind
sort_is ps [] e y is = absurd (none-some y is)
sort_is ps (z ∷ ys) zero y is = ap (λ (u : plain_expr.Expr). plain_sorts.expr_sort ps u.kind) (same_Some z y is)
sort_is ps (z ∷ ys) (suc e) y is = sort_is ps ys e y is

-- ---- guards and values

-- words, each of some sort, one after another
fine_words : (ds : List Def) (vs : List (List Expr)) → AllByRecursion (λ v. (s : Sort) × IsSorted ds s v) vs
    → (rest : List Expr) → Fine ds rest → Fine ds (joined vs ++ rest)
fine_words ds [] h rest f = f
fine_words ds (v ∷ vs) ((s, sorted), h) rest f =
    subst (Fine ds) (sym (append_assoc v (joined vs) rest)) (sorted.fine (joined vs ++ rest) (fine_words ds vs h rest f))

set_moved : (go : ℕ → ℕ) (k : FormKind) (x : List ℕ) (at : Place) (e : ℕ) → moved go k ≡ Set x at e
    → (v : ℕ) × (k ≡ Set x at v) × (go v ≡ e)
set_moved go (Set y there v) x at e same =
    let name : y ≡ x = cc in
    let place : there ≡ at = cc in
    let value : go v ≡ e = cc in
    (v, ap (λ n. Set n there v) name ∙ ap (λ a. Set x a v) place, value)
set_moved go (Cond bs) x at e same = absurd (cc)
set_moved go (Par fs) x at e same = absurd (cc)
set_moved go (Go l) x at e same = absurd (cc)
set_moved go (Call l) x at e same = absurd (cc)
set_moved go Return x at e same = absurd (cc)

cond_moved : (go : ℕ → ℕ) (k : FormKind) (bs : List Branch) → moved go k ≡ Cond bs
    → (cs : List Branch) × (k ≡ Cond cs) × (map (moved_branch go) cs ≡ bs)
cond_moved go (Set y there v) bs same = absurd (cc)
cond_moved go (Cond cs) bs same = let one : map (moved_branch go) cs ≡ bs = cc in (cs, refl, one)
cond_moved go (Par fs) bs same = absurd (cc)
cond_moved go (Go l) bs same = absurd (cc)
cond_moved go (Call l) bs same = absurd (cc)
cond_moved go Return bs same = absurd (cc)

module _ (w : Program) (p : plain.Program) (law : IsLawfulProgram w) (expands : IsExpansion w p)
    (keeps20 : (at : Place) → ¬ rules.E20 w at) (keeps21 : (at : Place) → ¬ rules.E21 w at)
    (keeps22 : (at : Place) → ¬ rules.E22 w at) (keeps39 : (at : Place) → ¬ rules.E39 w at) where
  look : ℕ → Option Sort
  look = sort_in (plain_defs w) (laid 0 (all_pieces w)).exprs

  told : Told (plain_defs w) w.defs look 0 (laid 0 (all_pieces w)).exprs
  unfolding look
  told j y is = let e : 0 + j ≡ j = omega arith in
      ap (sort_in (plain_defs w) (laid 0 (all_pieces w)).exprs) e
      ∙ sort_is (plain_defs w) (laid 0 (all_pieces w)).exprs j y is

  all_kept : (xs : List Expr) → AllByRecursion (λ (x : Expr). FitsKind x.kind) xs
      → AllByRecursion (λ (x : Expr). IsMeant w p law expands keeps20 keeps21 keeps22 keeps39 x.kind) xs
      → AreKept (plain_defs w) w.defs look xs
  all_kept [] fits means = tt
  all_kept (x ∷ xs) fits means =
      (kind_kept w x.kind fits.0 (λ n is. (means.0 n is).1), all_kept xs fits.1 means.1)

  kept : AreKept (plain_defs w) w.defs look (all_pieces w)
  kept = all_kept (all_pieces w) (fitting w law) (all_meant w p law expands keeps20 keeps21 keeps22 keeps39)

  -- a guard or value has a sort that is wanted
  form_wants : (f : ℕ) (y : Form) → IsAt w.forms f y → (k : FormKind) → y.kind ≡ k → (t : ℕ) → Contains (exprs_in k) t
      → (s : Sort) × IsWanted w t (Some s)
  form_wants f y at (Set x there v) is t c =
      let (s, sort) = target_has w keeps21 keeps22 f y x there v at is in
      (s, inr (inr (inr (f, y, x, there, at, is ∙ ap (Set x there) (only_one v t c), sym sort))))
  form_wants f y at (Cond bs) is t c = (IsBit, inr (inr (inl (f, y, bs, at, is, c, refl))))
  form_wants f y at (Par fs) is t c = absurd (nothing_in t c)
  form_wants f y at (Go l) is t c = absurd (nothing_in t c)
  form_wants f y at (Call l) is t c = absurd (nothing_in t c)
  form_wants f y at Return is t c = absurd (nothing_in t c)

  some_sorted : (t : ℕ) → Contains (tops w) t → (s : Sort) × IsSorted w.defs s (pieces w t)
  some_sorted t c =
      let (y, in_forms, in_it) = contains_from_flat (λ (z : Form). exprs_in z.kind) w.forms t (is_guard w t c) in
      let (f, at) = get_from_contains w.forms y in_forms in
      let (s, want) = form_wants f y at y.kind refl t in_it in
      (s, top_sorted w law keeps21 keeps22 t c s want)

  words_sorted : (ts : List ℕ) → ((t : ℕ) → Contains ts t → (s : Sort) × IsSorted w.defs s (pieces w t))
      → AllByRecursion (λ v. (s : Sort) × IsSorted w.defs s v) (map (pieces w) ts)
  words_sorted [] all = tt
  words_sorted (t ∷ ts) all = (all t (contains_head t ts), words_sorted ts (λ u c. all u (contains_behind u t ts c)))

  fine : Fine w.defs (all_pieces w)
  fine = subst (Fine w.defs) (append-nil (joined (map (pieces w) (tops w))) ∙ sym (all_joined w law))
      (fine_words w.defs (map (pieces w) (tops w)) (words_sorted (tops w) some_sorted) [] tt)

  each_told : (ts : List ℕ) → ((t : ℕ) → Contains ts t → (s : Sort) × IsSorted w.defs s (pieces w t))
      → map look (map (start w) ts) ≡ sorts_of w.defs (joined (map (pieces w) ts))
      → (t : ℕ) → Contains ts t → (s : Sort) → IsSorted w.defs s (pieces w t) → look (start w t) ≡ Some s
  each_told [] all e t c s sorted = absurd (nothing_in t c)
  each_told (u ∷ us) all e t (zero, lt, is) s sorted =
      let here : IsSorted w.defs s (pieces w u) = subst (λ v. IsSorted w.defs s (pieces w v)) (sym is) sorted in
      ap (λ v. look (start w v)) (sym is) ∙ head_of (e ∙ here.told (joined (map (pieces w) us)))
  each_told (u ∷ us) all e t (suc k, lt, is) s sorted =
      let (r, here) = all u (contains_head u us) in
      each_told us (λ v c. all v (contains_behind v u us c)) (tail_of (e ∙ here.told (joined (map (pieces w) us)))) t
      (k, omega (arith, lt), is) s sorted

  top_told : (t : ℕ) → Contains (tops w) t → (s : Sort) → IsWanted w t (Some s) → look (start w t) ≡ Some s
  top_told t c s want =
      let laid_tops = tops_told (plain_defs w) w.defs look 0 (all_pieces w) told kept in
      let by_starts : map look (map (start w) (tops w)) ≡ sorts_of w.defs (joined (map (pieces w) (tops w))) =
      subst (λ ts. map look ts ≡ sorts_of w.defs (joined (map (pieces w) (tops w)))) (tops_are w law)
      (laid_tops ∙ ap (sorts_of w.defs) (all_joined w law)) in
      each_told (tops w) some_sorted by_starts t c s (top_sorted w law keeps21 keeps22 t c s want)

  form_top : (f : ℕ) (z : Form) → IsAt w.forms f z → (v : ℕ) → Contains (exprs_in z.kind) v → Contains (tops w) v
  form_top f z at v c =
      let guard : Contains (form_exprs w.forms) v =
      contains_flat (λ (y : Form). exprs_in y.kind) w.forms z v (contains_from_get w.forms f z at) c in
      in_tops w v guard (holds_of_contained (λ u. u < length w.exprs) (form_exprs w.forms) v (inside w) guard)

  guard_told : (f : ℕ) (y : Form) (bs : List Branch) (e : ℕ) → IsAt p.forms f y → y.kind ≡ Cond bs
      → Contains (map (λ (b : Branch). b.guard) bs) e → look e ≡ Some IsBit
  guard_told f y bs e at is c =
      let (z, there, same) = form_at w p expands f y at in
      let (cs, was, branches) = cond_moved (start w) z.kind bs (ap (λ (u : Form). u.kind) same ∙ is) in
      let guards : Contains (map (start w) (map (λ (b : Branch). b.guard) cs)) e =
      subst (λ gs. Contains gs e) (guards_moved (start w) cs)
      (subst (λ ds. Contains (map (λ (b : Branch). b.guard) ds) e) (sym branches) c) in
      let (v, cv, is_start) = contains_from_map (start w) (map (λ (b : Branch). b.guard) cs) e guards in
      let top = form_top f z there v (subst (λ k. Contains (exprs_in k) v) (sym was) cv) in
      ap look (sym is_start) ∙ top_told v top IsBit (inr (inr (inl (f, z, cs, there, was, cv, refl))))

  value_told : (f : ℕ) (y : Form) (x : List ℕ) (place : Place) (e : ℕ) (s : Sort) → IsAt p.forms f y
      → y.kind ≡ Set x place e → Some s ≡ plain_sorts.name_sort p.defs x → look e ≡ Some s
  value_told f y x place e s at is sort =
      let (z, there, same) = form_at w p expands f y at in
      let (v, was, is_start) = set_moved (start w) z.kind x place e (ap (λ (u : Form). u.kind) same ∙ is) in
      let top = form_top f z there v (subst (λ k. Contains (exprs_in k) v) (sym was) (contains_one v)) in
      let meant = (target_meant w p law expands keeps20 keeps21 keeps22 keeps39 x place (f, z, v, there, was)).1 in
      let as_written = sort ∙ ap (λ ds. plain_sorts.name_sort ds x) expands.defs ∙ value_kept w x meant in
      ap look (sym is_start) ∙ top_told v top s (inr (inr (inr (f, z, x, place, there, was, as_written))))

  wanted_told : (e : ℕ) (s : Sort) → plain_sorts.IsWanted p e (Some s) → look e ≡ Some s
  wanted_told e s (inl (i, y, op, k, args, at, is, c, sort)) =
      operand_told (plain_defs w) w.defs look 0 (all_pieces w) told kept fine i y
      (subst (λ es. IsAt es i y) expands.exprs at) op k args is e c
      ∙ sym sort
  wanted_told e s (inr (inl (f, y, bs, at, is, c, sort))) = guard_told f y bs e at is c ∙ sym sort
  wanted_told e s (inr (inr (f, y, x, place, at, is, sort))) = value_told f y x place e s at is sort

  pub expansion_keeps22 : (at : Place) → ¬ plain_rules.E22 p at
  expansion_keeps22 at (inr (k, q, is, uses)) =
      expansion_uses_values w p law expands keeps20 keeps21 keeps22 keeps39 at k q is uses
  expansion_keeps22 at (inl (e, y, s, t, is, want, sort, differ, place)) =
      let here = told e y (subst (λ es. IsAt es e y) expands.exprs is) in
      let from_start : e ≡ 0 + e = omega arith in
      let same_sort = ap (λ ds. plain_sorts.expr_sort ds y.kind) (sym expands.defs) in
      let one : Some s ≡ Some t = sym (wanted_told e s want) ∙ ap look from_start ∙ here ∙ same_sort ∙ sort in
      differ (same_Some s t one)
