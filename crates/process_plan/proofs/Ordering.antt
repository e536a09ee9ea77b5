-- What transfers read is what the program's forms read.
use Rattle.std.proofs.Common.{
  ◌≡◌,
  ◌⊎◌,
  inl,
  inr,
  ◌∙◌,
  ℕ,
  zero,
  suc,
  ◌<◌,
  List,
  [],
  ◌∷◌,
  Bool,
  true,
  false,
  Option,
  refl,
  sym,
  ap,
  subst,
  arith,
  length,
}
use Rattle.std.specs.Prelude.{Contains, ◌&&◌, ◌||◌}
use Rattle.std.specs.List.{list_any}
use Rattle.std.proofs.lemmas.List.Elements.{Contains-append_left, Contains-append_right}
use Rattle.std.proofs.lemmas.Slice.Eq.{bytes_eq-Decides}
use Rattle.mp_base.specs.declared.op.Op.TheVariants.{And, Nor, Not}
use Rattle.mp_program.specs.declared.program.ExprKind.{ExprKind}
use Rattle.mp_program.specs.declared.program.ExprKind.TheVariants as source
use Rattle.mp_program.specs.declared.program.FormKind.{FormKind}
use Rattle.mp_program.specs.declared.program.FormKind.TheVariants.{Set, Cond, Par, Go, Call, Return}
use Rattle.mp_program.specs.declared.program.Branch.{Branch}
use Rattle.mp_program.specs.declared.program.Form.{Form}
use Rattle.mp_program.specs.declared.program.Def.{Def}
use Rattle.mp_program.specs.declared.program.Process.{Process}
use Rattle.mp_program.specs.declared.program.Program.{Program}
use Rattle.mp_program.specs.Names.{is_same, is_driven, index_of}
use Rattle.mp_program.specs.Sound.{ArgsFit, BranchesFit, InnerFit}
use Rattle.mp_program.specs.Reads.{
  kind_mentions,
  mentions,
  kind_sets,
  sets,
  branches_set,
  kind_reads,
  form_reads,
  branches_read,
  process_roots,
  roots,
  Reads,
}
use Rattle.mp_base.specs.Entries.{IsAt}
use Rattle.rtl_form.specs.declared.rtl.Rtl.{Rtl}
use Rattle.rtl_form.specs.declared.rtl.RtlExpr.{RtlExpr}
use Rattle.rtl_form.specs.declared.rtl.RtlExpr.TheVariants.{Number, Truth, Cell, Apply}
use Rattle.rtl_form.specs.declared.rtl.Transfer.{Transfer}
use Rattle.rtl_form.specs.Sound.{ReadsCell, itself, inside}
use Rattle.process_plan.specs.Lawful.{Known, KnownNames}
use Rattle.process_plan.specs.Roles.{Role, Value, Placed, Stacked}
use Rattle.process_plan.specs.Active.{Origin, Always, At, IsRoot}
use Rattle.process_plan.specs.Enables.{
  Enable,
  HasEnable,
  copy_of,
  IsCopy,
  BranchEnables,
  InnerEnables,
  StandsInside,
  IsOriginExpr,
}
use Rattle.process_plan.specs.Plan.{FollowsPlan, IsPlanned}
use Rattle.process_plan.specs.Plan as plans
use Rattle.process_plan.proofs.Members.{
  cases_of,
  between_in,
}
use Rattle.process_plan.proofs.Enables.{one_enable}
use Rattle.mp_program.proofs.Definitions.{named}
use Rattle.process_plan.proofs.Defining.{value_role, placed_role, stacked_role}
use Rattle.std.proofs.lemmas.Bool.{or_cases, or_left, or_right}
use Rattle.std.proofs.lemmas.Option.{none-some, same_Some}
use Rattle.mp_base.proofs.Contents.{contains_head, contains_behind, nothing_in, contains_from_map, any_contained}
use Rattle.mp_base.proofs.Entries.{one_entry, some_entry, read_of, contains_from_get}
use Rattle.mp_base.proofs.Induction.{downward, upward}
use Rattle.mp_base.proofs.Tests.{and_right}

-- ---- expressions and the cells that they read

abbrev code : RtlExpr → ℕ
code (Number n) = 0
code (Truth b) = 1
code (Cell c) = 2
code (Apply op k args) = 3

abbrev args_of : RtlExpr → List ℕ
args_of (Apply op k args) = args
args_of _ = []

abbrev cell_of : RtlExpr → ℕ
cell_of (Cell c) = c
cell_of _ = 0

reads_by : (xs : List RtlExpr) (c e : ℕ) (x : RtlExpr) → ReadsCell xs c e → IsAt xs e x → (x ≡ Cell c)
    ⊎ ((a : ℕ) × Contains (args_of x) a × ReadsCell xs c a)
reads_by xs c e x (itself f at) at_x = inl (one_entry xs f x (Cell c) at_x at)
reads_by xs c e x (inside f a op k args at ca reads) at_x =
    inr (a, subst (λ (z : RtlExpr). Contains (args_of z) a) (one_entry xs f (Apply op k args) x at at_x) ca, reads)

reads_cell : (xs : List RtlExpr) (c d e : ℕ) → ReadsCell xs c e → IsAt xs e (Cell d) → d ≡ c
reads_cell xs c d e reads at = elim (reads_by xs c e (Cell d) reads at) [
  | inl is ↦ ap cell_of is
  | inr
      (a, ca, more) ↦ absurd (nothing_in a ca)
]

reads_args : (xs : List RtlExpr) (c e : ℕ) (x : RtlExpr) → ReadsCell xs c e → IsAt xs e x → code x ≡ 3 → (a : ℕ)
    × Contains (args_of x) a × ReadsCell xs c a
reads_args xs c e x reads at is_apply = elim (reads_by xs c e x reads at) [
  | inl is ↦ let h = sym (ap code is) ∙ is_apply in absurd (omega (arith, h))
  | inr found ↦ found
]

-- ---- tests

branch_in : (s : ℕ → Bool) (bs : List Branch) (b : Branch) (f : ℕ) → Contains bs b → Contains b.body f → s f ≡ true
    → branches_set bs s ≡ true
branch_in s [] b f cb cf h = absurd (nothing_in b cb)
branch_in s (d ∷ bs) b f (zero, lt, is) cf h = or_left (list_any s d.body) (branches_set bs s)
    (any_contained s d.body f (subst (λ (z : Branch). Contains z.body f) (sym is) cf) h)
branch_in s (d ∷ bs) b f (suc k, lt, is) cf h = or_right (list_any s d.body) (branches_set bs s)
    (branch_in s bs b f (k, omega (arith, lt), is) cf h)

-- what a form in a branch reads, the branches read
branch_reads : (m s : ℕ → Bool) (before : Bool) (bs : List Branch) (r : ℕ → Bool) (b : Branch) (f : ℕ)
    → Contains bs b → Contains b.body f → r f ≡ true → branches_read m s before bs r ≡ true
branch_reads m s before [] r b f cb cf h = absurd (nothing_in b cb)
branch_reads m s before (d ∷ bs) r b f (zero, lt, is) cf h =
    or_right ((before || m d.guard) && list_any s d.body)
    (list_any r d.body || branches_read m s (before || m d.guard) bs r)
    (or_left (list_any r d.body) (branches_read m s (before || m d.guard) bs r)
    (any_contained r d.body f (subst (λ (z : Branch). Contains z.body f) (sym is) cf) h))
branch_reads m s before (d ∷ bs) r b f (suc k, lt, is) cf h =
    or_right ((before || m d.guard) && list_any s d.body)
    (list_any r d.body || branches_read m s (before || m d.guard) bs r)
    (or_right (list_any r d.body) (branches_read m s (before || m d.guard) bs r)
    (branch_reads m s (before || m d.guard) bs r b f (k, omega (arith, lt), is) cf h))

-- where an earlier guard has the name, a `setq` in a branch reads it
guarded : (m s : ℕ → Bool) (bs : List Branch) (r : ℕ → Bool) (b : Branch) (f : ℕ) → Contains bs b → Contains b.body f
    → s f ≡ true → branches_read m s true bs r ≡ true
guarded m s [] r b f cb cf h = absurd (nothing_in b cb)
guarded m s (d ∷ bs) r b f (zero, lt, is) cf h = or_left (list_any s d.body)
    (list_any r d.body || branches_read m s true bs r)
    (any_contained s d.body f (subst (λ (z : Branch). Contains z.body f) (sym is) cf) h)
guarded m s (d ∷ bs) r b f (suc k, lt, is) cf h =
    or_right (list_any s d.body) (list_any r d.body || branches_read m s true bs r)
    (or_right (list_any r d.body) (branches_read m s true bs r) (guarded m s bs r b f (k, omega (arith, lt), is) cf h))

-- what is read without an earlier guard is read with one
more_before : (m s : ℕ → Bool) (before : Bool) (bs : List Branch) (r : ℕ → Bool)
    → branches_read m s before bs r ≡ true → branches_read m s true bs r ≡ true
more_before m s before [] r h = h
more_before m s before (b ∷ bs) r h =
    elim (or_cases ((before || m b.guard) && list_any s b.body)
    (list_any r b.body || branches_read m s (before || m b.guard) bs r) h) [
      | inl now ↦ or_left (list_any s b.body) (list_any r b.body || branches_read m s true bs r)
          (and_right (before || m b.guard) (list_any s b.body) now)
      | inr later ↦ or_right (list_any s b.body) (list_any r b.body || branches_read m s true bs r)
          (elim (or_cases (list_any r b.body) (branches_read m s (before || m b.guard) bs r) later) [
            | inl reads ↦ or_left (list_any r b.body) (branches_read m s true bs r) reads
            | inr rest ↦ or_right (list_any r b.body) (branches_read m s true bs r)
                (more_before m s (before || m b.guard) bs r rest)
          ])
    ]

before_too : (m s : ℕ → Bool) (t : Bool) (bs : List Branch) (r : ℕ → Bool) → branches_read m s false bs r ≡ true
    → branches_read m s t bs r ≡ true
before_too m s true bs r h = more_before m s false bs r h
before_too m s false bs r h = h

module _ (p : Program) (r : Rtl) (roles : List Role) (enables : List (Option Enable)) (known : Known p)
    (names : KnownNames p) (plan : FollowsPlan p r roles enables)
    (b c : ℕ) (y : Def) (at_b : IsAt p.defs b y) (role : IsAt roles c (Value b)) where
  -- the expression reads the cell of definition b
  abbrev Touches : ℕ → Type 0
  Touches e = ReadsCell r.exprs c e

  no_true : Touches 0 → ⊥
  no_true h = elim (reads_by r.exprs c 0 (Truth true) h (plan.truth).0) [
    | inl is ↦ (let k = ap code is in
        omega (arith, k))
    | inr (a, ca, more) ↦ nothing_in a ca
  ]

  no_false : Touches 1 → ⊥
  no_false h = let (a, ca, more) = reads_args r.exprs c 1 (Apply Not 0 (0 ∷ [])) h (plan.truth).1 refl in
      elim (cases_of a 0 [] ca) [ inl is ↦ no_true (subst Touches (sym is) more) | inr none ↦ nothing_in a none ]

  abbrev MentionedAt : ℕ → Type 0
  MentionedAt e = Touches (copy_of p e) → mentions p y.name e ≡ true

  kind_mentioned : (e : ℕ) (k : ExprKind) (z : RtlExpr) → ((j : ℕ) → e < j → j < length p.exprs → MentionedAt j)
      → ArgsFit e (length p.exprs) k → IsCopy p roles k z
      → IsAt r.exprs (copy_of p e) z → Touches (copy_of p e) → kind_mentions y.name k (mentions p y.name) ≡ true
  kind_mentioned e (source.Number n) z below fit is at h =
      elim (reads_by r.exprs c (copy_of p e) z h at) [
        | inl cell ↦ (let k = sym (ap code is) ∙ ap code cell in absurd (omega (arith, k)))
        | inr (a, ca, more) ↦ absurd (nothing_in a (subst (λ (t : RtlExpr). Contains (args_of t) a) is ca))
      ]
  kind_mentioned e (source.Named x) z below fit (d, at_d, inl (n, what, is)) at h =
      elim (reads_by r.exprs c (copy_of p e) z h at) [
        | inl cell ↦ (let k = sym (ap code is) ∙ ap code cell in absurd (omega (arith, k)))
        | inr (a, ca, more) ↦ absurd (nothing_in a (subst (λ (t : RtlExpr). Contains (args_of t) a) is ca))
      ]
  kind_mentioned e (source.Named x) z below fit (d, at_d, inr (c2, role2, is)) at h =
      let same : c2 ≡ c = reads_cell r.exprs c c2 (copy_of p e) h (subst (IsAt r.exprs (copy_of p e)) is at) in
      let index : index_of p.defs x ≡ b = value_role roles c (index_of p.defs x) b
      (subst (λ n. IsAt roles n (Value (index_of p.defs x))) same role2) role in
      let at_x : IsAt p.defs (index_of p.defs x) y = subst (λ n. IsAt p.defs n y) (sym index) at_b in
      let first = read_of p.defs (index_of p.defs x) y at_x in
      let name : y.name ≡ x = named p.defs x y first.0 first.1 in
      (bytes_eq-Decides x y.name).1 (sym name)
  kind_mentioned e source.True z below fit is at h =
      let (a, ca, more) = reads_args r.exprs c (copy_of p e) z h at (ap code is) in
      elim (cases_of a 1 [] (subst (λ (t : RtlExpr). Contains (args_of t) a) is ca)) [
        | inl one ↦ absurd
            (no_false (subst Touches (sym one) more))
        | inr none ↦ absurd (nothing_in a none)
      ]
  kind_mentioned e source.False z below fit is at h =
      let (a, ca, more) = reads_args r.exprs c (copy_of p e) z h at (ap code is) in
      elim (cases_of a 0 [] (subst (λ (t : RtlExpr). Contains (args_of t) a) is ca)) [
        | inl none ↦ absurd
            (no_true (subst Touches (sym none) more))
        | inr none ↦ absurd (nothing_in a none)
      ]
  kind_mentioned e (source.Apply op k args) z below fit is at h =
      let (a, ca, more) = reads_args r.exprs c (copy_of p e) z h at (ap code is) in
      let (x, cx, e2) = contains_from_map (copy_of p) args a (subst (λ (t : RtlExpr). Contains (args_of t) a) is ca) in
      let range = between_in e (length p.exprs) args x fit.1 cx in
      any_contained (mentions p y.name) args x cx (below x range.0 range.1 (subst Touches (sym e2) more))

  -- a copy reads the cells of the names that stand in its expression alone
  pub mentioned : (e : ℕ) → e < length p.exprs → MentionedAt e
  mentioned = downward MentionedAt (length p.exprs) (λ e lt below h.
      let (x, at_x) = some_entry p.exprs e lt in
      let (z, at_z, is) = plan.copies e x at_x in
      names.mentions_is y.name e x at_x ∙ kind_mentioned e x.kind z below ((known.sound).exprs e x at_x) is at_z h)

  -- ---- enables

  origin_quiet : (o : Origin) (a : ℕ) → IsOriginExpr p r.exprs roles o a → Touches a → ⊥
  origin_quiet Always a is h = no_true (subst Touches is h)
  origin_quiet (At k zero) a (q, at_q, inl (one, is)) h = no_true (subst Touches is h)
  origin_quiet (At k zero) a (q, at_q, inr (es, at, are)) h =
      let (e, ce, more) = reads_args r.exprs c a (Apply Nor 0 es) h at refl in
      let (d, j, role2, at_e) = are.each e ce in
      placed_role roles c b k j role (subst (λ n. IsAt roles n (Placed k j)) (reads_cell r.exprs c d e more at_e) role2)
  origin_quiet (At k (suc i)) a (d, role2, at) h =
      placed_role roles c b k (suc i) role (subst (λ n. IsAt roles n (Placed k (suc i)))
      (reads_cell r.exprs c d a h at) role2)

  two_args : (a x z : ℕ) → IsAt r.exprs a (Apply And 0 (x ∷ z ∷ [])) → Touches a → Touches x ⊎ Touches z
  two_args a x z at h =
      let (e, ce, more) = reads_args r.exprs c a (Apply And 0 (x ∷ z ∷ [])) h at refl in
      elim (cases_of e x (z ∷ []) ce) [
        | inl is ↦ inl (subst Touches (sym is) more)
        | inr later ↦ elim (cases_of e z [] later) [
          | inl is ↦ inr (subst Touches (sym is) more)
          | inr none ↦ absurd
              (nothing_in e none)
        ]
      ]

  abbrev GuardsIn : List Branch → Type 0
  GuardsIn bs = (d : Branch) → Contains bs d → d.guard < length p.exprs

  -- the enable of a form in a branch reads what the form of the branches is active by, or what a guard up to its own
  -- has
  branch_touches : (x : List ℕ) (o : Origin) (rest : ℕ) (bs : List Branch) (d : Branch) (f a : ℕ) (rd : ℕ → Bool)
      → GuardsIn bs → BranchEnables p r.exprs enables o rest bs
      → Contains bs d → Contains d.body f → HasEnable enables f o a → sets p x f ≡ true → Touches a
      → Touches rest ⊎ (branches_read (mentions p y.name) (sets p x) false bs rd ≡ true)
  branch_touches x o rest [] d f a rd low enabling cd cf has set h = absurd (nothing_in d cd)
  branch_touches x o rest (z ∷ []) d f a rd low (a2, at, body) cd cf has set h =
      let inside_z : Contains z.body f = elim (cases_of d z [] cd) [
        | inl e ↦ subst
            (λ (t : Branch). Contains t.body f) (sym e) cf
        | inr e ↦ absurd (nothing_in d e)
      ] in
      let same : a ≡ a2 = (one_enable enables f o o a a2 has (body f inside_z)).1 in
      elim (two_args a2 rest (copy_of p z.guard) at (subst Touches same h)) [
        | inl in_rest ↦ inl in_rest
        | inr in_guard ↦
            let m = mentioned z.guard (low z (contains_head z [])) in_guard in
            inr (or_left ((false || mentions p y.name z.guard) && list_any (sets p x) z.body)
            (list_any rd z.body || branches_read (mentions p y.name) (sets p x)
            (false || mentions p y.name z.guard) [] rd)
            (ap (λ t. t && list_any (sets p x) z.body) m ∙ any_contained (sets p x) z.body f inside_z set))
      ]
  branch_touches x o rest (z ∷ w ∷ bs) d f a rd low (a2, n, m2, at, body, at_n, at_m, more) cd cf has set h =
      elim (cases_of d z (w ∷ bs) cd) [
        | inl is ↦
            let inside_z : Contains z.body f = subst (λ (t : Branch). Contains t.body f) (sym is) cf in
            let same : a ≡ a2 = (one_enable enables f o o a a2 has (body f inside_z)).1 in
            elim (two_args a2 rest (copy_of p z.guard) at (subst Touches same h)) [
              | inl in_rest ↦ inl in_rest
              | inr in_guard ↦
                  let m = mentioned z.guard (low z (contains_head z (w ∷ bs))) in_guard in
                  inr (or_left ((false || mentions p y.name z.guard) && list_any (sets p x) z.body)
                  (list_any rd z.body || branches_read (mentions p y.name) (sets p x)
                  (false || mentions p y.name z.guard) (w ∷ bs) rd)
                  (ap (λ t. t && list_any (sets p x) z.body) m ∙ any_contained (sets p x) z.body f inside_z set))
            ]
        | inr later ↦
            elim (branch_touches x o m2 (w ∷ bs) d f a rd
            (λ t ct. low t (contains_behind t z (w ∷ bs) ct)) more later cf has set h) [
              | inl in_m ↦ elim (two_args m2 rest n at_m in_m) [
                | inl in_rest ↦ inl in_rest
                | inr in_n ↦
                    let (e, ce, touches) = reads_args r.exprs c n
                    (Apply Not 0 (copy_of p z.guard ∷ [])) in_n at_n refl in
                    let in_guard : Touches (copy_of p z.guard) =
                    elim (cases_of e (copy_of p z.guard) [] ce) [
                      | inl is ↦ subst Touches
                          (sym is) touches
                      | inr none ↦ absurd (nothing_in e none)
                    ] in
                    let m = mentioned z.guard (low z (contains_head z (w ∷ bs))) in_guard in
                    inr (or_right ((false || mentions p y.name z.guard) && list_any (sets p x) z.body)
                    (list_any rd z.body || branches_read (mentions p y.name) (sets p x)
                    (false || mentions p y.name z.guard) (w ∷ bs) rd)
                    (or_right (list_any rd z.body) (branches_read (mentions p y.name) (sets p x)
                    (false || mentions p y.name z.guard) (w ∷ bs) rd)
                    (ap (λ t. branches_read (mentions p y.name) (sets p x) t (w ∷ bs) rd) m
                    ∙ guarded (mentions p y.name) (sets p x) (w ∷ bs) rd d f later cf set)))
              ]
              | inr read ↦ inr (or_right ((false || mentions p y.name z.guard) && list_any (sets p x) z.body)
                  (list_any rd z.body || branches_read (mentions p y.name) (sets p x)
                  (false || mentions p y.name z.guard) (w ∷ bs) rd)
                  (or_right (list_any rd z.body) (branches_read (mentions p y.name) (sets p x)
                  (false || mentions p y.name z.guard) (w ∷ bs) rd)
                  (before_too (mentions p y.name) (sets p x) (mentions p y.name z.guard) (w ∷ bs) rd read)))
            ]
      ]

  branches_low : (i n : ℕ) (bs : List Branch) → BranchesFit (length p.exprs) i n bs → GuardsIn bs
  branches_low i n [] fit d cd = absurd (nothing_in d cd)
  branches_low i n (z ∷ bs) ((guard, _), _) d (zero, lt, is) =
      subst (λ (t : Branch). t.guard < length p.exprs) is guard
  branches_low i n (z ∷ bs) fit d (suc k, lt, is) = branches_low i n bs fit.1 d (k, omega (arith, lt), is)

  -- what a form inside g reads, g reads
  inner_reads : (x : List ℕ) (k : FormKind) (f : ℕ) → StandsInside k f → form_reads p x y.name f ≡ true
      → kind_reads (mentions p y.name) (sets p x) x k (form_reads p x y.name) ≡ true
  inner_reads x (Set z at e) f inside_k h = absurd inside_k
  inner_reads x (Cond bs) f (d, cd, cf) h = branch_reads (mentions p y.name) (sets p x) false bs
      (form_reads p x y.name) d f cd cf h
  inner_reads x (Par fs) f inside_k h = any_contained (form_reads p x y.name) fs f inside_k h
  inner_reads x (Go l) f inside_k h = absurd inside_k
  inner_reads x (Call l) f inside_k h = absurd inside_k
  inner_reads x Return f inside_k h = absurd inside_k

  inner_sets : (x : List ℕ) (k : FormKind) (f : ℕ) → StandsInside k f → sets p x f ≡ true
      → kind_sets x k (sets p x) ≡ true
  inner_sets x (Set z at e) f inside_k h = absurd inside_k
  inner_sets x (Cond bs) f (d, cd, cf) h = branch_in (sets p x) bs d f cd cf h
  inner_sets x (Par fs) f inside_k h = any_contained (sets p x) fs f inside_k h
  inner_sets x (Go l) f inside_k h = absurd inside_k
  inner_sets x (Call l) f inside_k h = absurd inside_k
  inner_sets x Return f inside_k h = absurd inside_k

  -- the enable of a form inside g reads what the enable of g reads, or what g reads
  inner_touches : (x : List ℕ) (g : ℕ) (z : Form) (k : FormKind) (o : Origin) (b2 f a : ℕ) → IsAt p.forms g z
      → z.kind ≡ k → InnerEnables p r.exprs enables o b2 k → StandsInside k f → HasEnable enables f o a
      → sets p x f ≡ true → Touches a → Touches b2 ⊎ (kind_reads (mentions p y.name) (sets p x) x k
      (form_reads p x y.name) ≡ true)
  inner_touches x g z (Set w at e) o b2 f a at_g is enabling inside_k has set h = absurd inside_k
  inner_touches x g z (Cond bs) o b2 f a at_g is enabling (d, cd, cf) has set h =
      branch_touches x o b2 bs d f a (form_reads p x y.name)
      (branches_low g (length p.forms) bs (subst (λ t. InnerFit (length p.exprs) g (length p.forms) t) is
      ((known.sound).forms g z (at_g))))
      enabling cd cf has set h
  inner_touches x g z (Par fs) o b2 f a at_g is enabling inside_k has set h =
      inl (subst Touches (one_enable enables f o o a b2 has (enabling f inside_k)).1 h)
  inner_touches x g z (Go l) o b2 f a at_g is enabling inside_k has set h = absurd inside_k
  inner_touches x g z (Call l) o b2 f a at_g is enabling inside_k has set h = absurd inside_k
  inner_touches x g z Return o b2 f a at_g is enabling inside_k has set h = absurd inside_k

  -- what a form reads, and what the guards around it read where it sets x, its top-level form reads
  abbrev UpAt : ℕ → Type 0
  UpAt f = (o : Origin) (a : ℕ) → HasEnable enables f o a → (root : ℕ) × IsRoot p o root
      × ((x : List ℕ) → (form_reads p x y.name f ≡ true → form_reads p x y.name root ≡ true)
      × (sets p x f ≡ true → Touches a → form_reads p x y.name root ≡ true))

  pub root_reads : (f : ℕ) → UpAt f
  root_reads = upward UpAt (λ f below o a has.
      elim ((plan.enabled).reasons f o a has) [
        | inl (is_root, is_expr) ↦ (f, is_root, λ x. (λ h. h, λ set h. absurd (origin_quiet o a is_expr h)))
        | inr (g, z, b2, at_g, lt, has_g, inside_g) ↦
            let (root, is_root, rest) = below g lt o b2 has_g in (
              root,
              is_root,
              λ x. (
                λ h. (rest x).0 (names.reads_is x y.name g z at_g ∙ inner_reads x z.kind f inside_g h),
                λ set h. elim (inner_touches x g z z.kind o b2 f a at_g refl
                    ((plan.enabled).inner g z o b2 at_g has_g) inside_g has set h) [
                      | inl up ↦ (rest x).1 (names.sets_is x g z at_g ∙ inner_sets x z.kind f inside_g set) up
                      | inr read ↦ (rest x).0 (names.reads_is x y.name g z at_g ∙ read)
                    ],
              ),
            )
      ])

  in_roots : (o : Origin) (root : ℕ) → IsRoot p o root → Contains (roots p) root
  in_roots Always root h = Contains-append_left p.always (process_roots p.processes) root h
  in_roots (At k i) root (q, at_q, at_i) = Contains-append_right p.always (process_roots p.processes) root
      (of_process p.processes k q root at_q (contains_from_get q.forms i root at_i))
    where
      of_process : (qs : List Process) (k : ℕ) (q : Process) (root : ℕ) → IsAt qs k q → Contains q.forms root
          → Contains (process_roots qs) root
      of_process [] k q root at c = absurd (none-some q at)
      of_process (z ∷ qs) zero q root at c = Contains-append_left z.forms (process_roots qs) root
          (subst (λ (t : Process). Contains t.forms root) (sym (same_Some z q at)) c)
      of_process (z ∷ qs) (suc k) q root at c = Contains-append_right z.forms (process_roots qs) root
          (of_process qs k q root at c)

  -- a transfer to the cell of definition d that reads the cell of definition b: d reads b
  pub transfer_reads : (d c2 : ℕ) (x : Def) → IsAt p.defs d x → is_driven x.what ≡ true → is_driven y.what ≡ true
      → IsAt roles c2 (Value d)
      → (t : Transfer) → IsPlanned p r.exprs roles enables t → t.target ≡ c2 → Touches t.guard ⊎ Touches t.value
      → Reads p d b
  transfer_reads d c2 x at_d dx dy role2 t (plans.sets f z n at e o a c3 at_f is has role3) target touches =
      let index : index_of p.defs n ≡ d = value_role roles c2 (index_of p.defs n) d
      (subst (λ i. IsAt roles i (Value (index_of p.defs n))) target role3) role2 in
      let at_n : IsAt p.defs (index_of p.defs n) x = subst (λ i. IsAt p.defs i x) (sym index) at_d in
      let first = read_of p.defs (index_of p.defs n) x at_n in
      let name : x.name ≡ n = named p.defs n x first.0 first.1 in
      let same : is_same n x.name ≡ true = (bytes_eq-Decides n x.name).1 (sym name) in
      let (root, is_root, up) = root_reads f o a has in
      let e_in : e < length p.exprs = subst (λ k. InnerFit (length p.exprs) f (length p.forms) k) is
      ((known.sound).forms f z at_f) in
      let set : sets p x.name f ≡ true = names.sets_is x.name f z at_f
      ∙ ap (λ k. kind_sets x.name k (sets p x.name)) is ∙ same in
      let root_read : form_reads p x.name y.name root ≡ true = elim touches [
        | inl guard ↦ (up x.name).1 set guard
        | inr value ↦ (up x.name).0 (names.reads_is x.name y.name f z at_f
            ∙ ap (λ k. kind_reads (mentions p y.name) (sets p x.name) x.name k (form_reads p x.name y.name)) is
            ∙ ap (λ t2. t2 && mentions p y.name e) same ∙ mentioned e e_in value)
      ] in (
        x,
        y,
        at_d,
        at_b,
        dx,
        dy,
        any_contained (form_reads p x.name y.name) (roots p) root
            (in_roots o root is_root) root_read,
      )
  transfer_reads d c2 x at_d dx dy role2 t (plans.falls k i a e c3 is_a is_e role3) target touches =
      absurd (placed_role roles c2 d k (suc i) role2 (subst (λ n. IsAt roles n (Placed k (suc i))) target role3))
  transfer_reads d c2 x at_d dx dy role2 t (plans.lands k i j f z q a c3 at_q at_f to has role3) target touches =
      absurd (placed_role roles c2 d k j role2 (subst (λ n. IsAt roles n (Placed k j)) target role3))
  transfer_reads d c2 x at_d dx dy role2 t (plans.returns k j u e d2 c3 union at_e from_role role3) target touches =
      absurd (placed_role roles c2 d k j role2 (subst (λ n. IsAt roles n (Placed k j)) target role3))
  transfer_reads d c2 x at_d dx dy role2 t (plans.pushes k i u a c3 union is_a role3) target touches =
      absurd (stacked_role roles c2 d k 0 (suc i) role2 (subst (λ n. IsAt roles n (Stacked k 0 (suc i))) target role3))
  transfer_reads d c2 x at_d dx dy role2 t (plans.sinks k l j u e d2 c3 union at_e from_role role3) target touches =
      absurd (stacked_role roles c2 d k (suc l) j role2 (subst (λ n. IsAt roles n (Stacked k (suc l) j)) target role3))
  transfer_reads d c2 x at_d dx dy role2 t (plans.rises k l j u e d2 c3 union at_e from_role role3) target touches =
      absurd (stacked_role roles c2 d k l j role2 (subst (λ n. IsAt roles n (Stacked k l j)) target role3))
  transfer_reads d c2 x at_d dx dy role2 t (plans.empties k l j u c3 q at_q depth union role3) target touches =
      absurd (stacked_role roles c2 d k l j role2 (subst (λ n. IsAt roles n (Stacked k l j)) target role3))
