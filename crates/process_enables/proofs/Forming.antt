-- The enables of forms in forms, one form after another.
use Rattle.std.proofs.Common.{
  ◌≡◌,
  ◌⊎◌,
  inl,
  inr,
  ◌∙◌,
  ℕ,
  zero,
  suc,
  ◌+◌,
  ◌<◌,
  ◌≤◌,
  List,
  [],
  ◌∷◌,
  false,
  Option,
  Some,
  None,
  refl,
  sym,
  ap,
  subst,
  arith,
  length,
  take,
}
use Rattle.std.specs.Prelude.{Contains, slice_index_or}
use Rattle.std.proofs.lemmas.Bool.{cases_lt}
use Rattle.mp_base.specs.declared.op.Op.TheVariants.{And, Not}
use Rattle.mp_base.proofs.Contents.{contains_from_map}
use Rattle.mp_program.specs.declared.program.FormKind.{FormKind}
use Rattle.mp_program.specs.declared.program.FormKind.TheVariants.{Set, Cond, Par, Go, Call, Return}
use Rattle.mp_program.specs.declared.program.Branch.{Branch}
use Rattle.mp_program.specs.declared.program.Form.{Form}
use Rattle.mp_program.specs.declared.program.Program.{Program}
use Rattle.mp_program.specs.Sound.{IsSound, InnerFit, BranchesFit}
use Rattle.mp_base.specs.Entries.{IsAt}
use Rattle.mp_base.proofs.Entries.{one_entry, some_entry, entry}
use Rattle.rtl_form.specs.declared.rtl.Cell.{Cell}
use Rattle.rtl_form.specs.declared.rtl.RtlExpr.{RtlExpr}
use Rattle.rtl_form.specs.declared.rtl.RtlExpr.TheVariants.{Apply}
use Rattle.process_plan.specs.declared.enable.Origin.{Origin}
use Rattle.process_plan.specs.declared.enable.Enable.{Enable}
use Rattle.process_plan.specs.Bill.{exprs_cost, branches_bill}
use Rattle.process_plan.specs.Enables.{HasEnable, copy_of, BranchEnables, InnerEnables, StandsInside}
use Rattle.process_plan.specs.Fits.{HasSortIn}
use Rattle.process_plan.proofs.Members.{between_in, cases_of}
use Rattle.process_plan.proofs.Enables.{one_enable}
use Rattle.process_layout.specs.Counts.{guards_of}
use Rattle.process_layout.specs.Steps.{Keeps}
use Rattle.process_layout.proofs.Keeping.{keeps_same, keeps_more}
use Rattle.process_enables.specs.Forms.{
  KeepsEnables,
  Assigns,
  guards,
  EntersBranches,
  GuardsAreBits,
  EnablesInner,
  EnablesBelow,
}
use Rattle.process_enables.proofs.Adding.{bit_kept}
use Rattle.process_enables.proofs.Assigning.{same_enables, more_enables}
use Rattle.process_enables.proofs.Guarding.{guards_kept, guards_more}

-- ---- what stands in a form stands behind it

branch_behind : (e i n : ℕ) (bs : List Branch) (b : Branch) → BranchesFit e i n bs → Contains bs b
    → (b.guard < e) × ((f : ℕ) → Contains b.body f → (i < f) × (f < n))
branch_behind e i n [] b fit (k, lt, is) = absurd (omega (arith, lt))
branch_behind e i n (d ∷ bs) b ((guard, body), _) (zero, lt, is) =
    subst (λ (z : Branch). (z.guard < e) × ((f : ℕ) → Contains z.body f → (i < f) × (f < n))) is
    (guard, λ f cf. between_in i n d.body f body cf)
branch_behind e i n (d ∷ bs) b fit (suc k, lt, is) = branch_behind e i n bs b fit.1 (k, omega (arith, lt), is)

pub inside_behind : (e i n : ℕ) (k : FormKind) (f : ℕ) → InnerFit e i n k → StandsInside k f → (i < f) × (f < n)
inside_behind e i n (Set x at w) f fit h = absurd h
inside_behind e i n (Cond bs) f fit (b, cb, cf) = (branch_behind e i n bs b fit cb).1 f cf
inside_behind e i n (Par fs) f fit h = between_in i n fs f fit h
inside_behind e i n (Go l) f fit h = absurd h
inside_behind e i n (Call l) f fit h = absurd h
inside_behind e i n Return f fit h = absurd h

module _ (p : Program) (sound : IsSound p) (f : ℕ) (y : Form) (at : IsAt p.forms f y) where
  fits_inside : InnerFit (length p.exprs) f (length p.forms) y.kind
  fits_inside = sound.forms f y at

  pub inside_later : (g : ℕ) → StandsInside y.kind g → f < g
  inside_later g inside = (inside_behind (length p.exprs) f (length p.forms) y.kind g fits_inside inside).0

  pub inside_between : (g : ℕ) → StandsInside y.kind g → (f < g) × (g < length p.forms)
  inside_between g inside = inside_behind (length p.exprs) f (length p.forms) y.kind g fits_inside inside

  pub guards_in : (bs : List Branch) → y.kind ≡ Cond bs → (b : Branch) → Contains bs b → b.guard < length p.exprs
  guards_in bs is b c = (branch_behind (length p.exprs) f (length p.forms) bs b
      (subst (InnerFit (length p.exprs) f (length p.forms)) is fits_inside) c).0

  pub bodies_in : (bs : List Branch) → y.kind ≡ Cond bs → (b : Branch) (g : ℕ) → Contains bs b → Contains b.body g
      → g < length p.forms
  bodies_in bs is b g cb cg = ((branch_behind (length p.exprs) f (length p.forms) bs b
      (subst (InnerFit (length p.exprs) f (length p.forms)) is fits_inside) cb).1 g cg).1

  pub members_in : (fs : List ℕ) → y.kind ≡ Par fs → (g : ℕ) → Contains fs g → g < length p.forms
  members_in fs is g c = (between_in f (length p.forms) fs g
      (subst (InnerFit (length p.exprs) f (length p.forms)) is fits_inside) c).1

-- ---- one form

-- an entry that is there
pub has_from : (enables : List (Option Enable)) (f : ℕ) (x : Enable) (y : Option Enable) → f < length enables
    → y ≡ slice_index_or enables f y → y ≡ Some x → HasEnable enables f x.origin x.expr
has_from enables f x y lt is e = subst (IsAt enables f) e (entry enables f lt is)

-- a form without an enable
pub inner_none : (p : Program) (f : ℕ) (exprs : List RtlExpr) (enables : List (Option Enable)) (y : Option Enable)
    → f < length enables → y ≡ slice_index_or enables f y → y ≡ None → EnablesInner p f exprs exprs enables enables
inner_none p f exprs enables y lt is none = record {
  exprs_kept = keeps_same exprs;
  kept = same_enables enables;
  inner = λ z o a at has. absurd (apart o a has);
  added = λ g u b has. inl has;
  cost = λ z e at at_e. omega arith;
  fits = λ w xs bits fit. fit;
}
  where
    apart : (o : Origin) (a : ℕ) → HasEnable enables f o a → ⊥
    apart o a has =
        let x : Enable = record { origin = o; expr = a } in
        let e : Some x ≡ None = one_entry enables f (Some x) y has (entry enables f lt is) ∙ none in
        absurd (cc)

-- a form with the enable x, in which these forms get theirs
module _ (p : Program) (f : ℕ) (y : Form) (k : FormKind) (x : Enable) (exprs more : List RtlExpr)
    (old new : List (Option Enable)) (at : IsAt p.forms f y) (is : y.kind ≡ k)
    (has : HasEnable old f x.origin x.expr) where
  inner_from : InnerEnables p more new x.origin x.expr k → (z : Form) (o : Origin) (a : ℕ) → IsAt p.forms f z
      → HasEnable old f o a → InnerEnables p more new o a z.kind
  inner_from given z o a at_z has_z =
      let (same_o, same_a) = one_enable old f x.origin o x.expr a has has_z in
      let same_y = one_entry p.forms f y z at at_z in
      subst (λ (t : Form). InnerEnables p more new o a t.kind) same_y
      (subst (λ t. InnerEnables p more new o a t) (sym is)
      (subst (λ n. InnerEnables p more new o n k) same_a (subst (λ t. InnerEnables p more new t x.expr k) same_o
      given)))

  added_from : ((g : ℕ) (u : Origin) (b : ℕ) → HasEnable new g u b
      → HasEnable old g u b ⊎ (StandsInside k g × (u ≡ x.origin)))
      → (g : ℕ) (u : Origin) (b : ℕ) → HasEnable new g u b
      → HasEnable old g u b ⊎ ((z : Form) × (a : ℕ) × IsAt p.forms f z × HasEnable old f u a × StandsInside z.kind g)
  added_from added g u b has_g = elim (added g u b has_g) [
    | inl before ↦ inl before
    | inr (inside, e) ↦ inr (
      y,
      x.expr,
      at,
      subst (λ t. HasEnable old f t x.expr) (sym e) has,
      subst (λ t. StandsInside t g) (sym is) inside,
    )
  ]

  cost_from : (bill : ℕ) → guards_of (record y { kind = k } ∷ []) (Some x ∷ []) ≡ bill
      → exprs_cost more ≤ exprs_cost exprs + bill
      → (z : Form) (e : Option Enable) → IsAt p.forms f z → IsAt old f e
      → exprs_cost more ≤ exprs_cost exprs + guards_of (z ∷ []) (e ∷ [])
  cost_from bill price le z e at_z at_e =
      let same_z : y ≡ z = one_entry p.forms f y z at at_z in
      let same_e : Some x ≡ e = one_entry old f (Some x) e has at_e in
      let kind : guards_of (y ∷ []) (Some x ∷ []) ≡ guards_of (record y { kind = k } ∷ []) (Some x ∷ []) =
      ap (λ t. guards_of (record y { kind = t } ∷ []) (Some x ∷ [])) is in
      subst (λ t. exprs_cost more ≤ exprs_cost exprs + guards_of (t ∷ []) (e ∷ [])) same_z
      (subst (λ t. exprs_cost more ≤ exprs_cost exprs + guards_of (y ∷ []) (t ∷ [])) same_e (omega (
        arith,
        kind,
        price,
        le,
      )))

-- the branches of a `cond`
pub inner_cond : (p : Program) (f : ℕ) (y : Form) (bs : List Branch) (x : Enable) (exprs more : List RtlExpr)
    (old new : List (Option Enable)) → IsAt p.forms f y → y.kind ≡ Cond bs → HasEnable old f x.origin x.expr
    → EntersBranches p x bs exprs more old new → EnablesInner p f exprs more old new
inner_cond p f y bs x exprs more old new at is has entered = record {
  exprs_kept = (entered.grown).exprs_kept;
  kept = (entered.grown).kept;
  inner = inner_from p f y (Cond bs) x exprs more old new at is has entered.given;
  added = added_from p f y (Cond bs) x exprs more old new at is has (entered.grown).added;
  cost = cost_from p f y (Cond bs) x exprs more old new at is has (branches_bill (length bs)) (omega arith)
      (entered.grown).cost;
  fits = λ w xs bits fit. (entered.grown).fits w xs (λ a c. elim (cases_of a x.expr (guards p bs) c) as
      (λ _. HasSortIn xs exprs a false) [
        | inl same ↦ subst (λ n. HasSortIn xs exprs n false) same (fit.bits f x.expr x.origin has)
        | inr among ↦
            let (b, cb, same) = contains_from_map (λ (b : Branch). copy_of p b.guard) bs a among in
            subst (λ n. HasSortIn xs exprs n false) same (bits f y bs b at is cb)
      ]) fit;
}

-- the forms of a `par`
pub inner_par : (p : Program) (f : ℕ) (y : Form) (fs : List ℕ) (x : Enable) (exprs : List RtlExpr)
    (old new : List (Option Enable)) → IsAt p.forms f y → y.kind ≡ Par fs → HasEnable old f x.origin x.expr
    → Assigns fs x old new → EnablesInner p f exprs exprs old new
inner_par p f y fs x exprs old new at is has assigned = record {
  exprs_kept = keeps_same exprs;
  kept = assigned.kept;
  inner = inner_from p f y (Par fs) x exprs exprs old new at is has assigned.given;
  added = added_from p f y (Par fs) x exprs exprs old new at is has (λ g u b has_g. elim (assigned.added g u b has_g) [
    | inl before ↦ inl before
    | inr (inside, from, same) ↦ inr (inside, from)
  ]);
  cost = cost_from p f y (Par fs) x exprs exprs old new at is has 0 refl (omega arith);
  fits = λ w xs bits fit. record {
    exprs_fit = fit.exprs_fit;
    bits = λ g a u has_g. elim (assigned.added g u a has_g) as (λ _. HasSortIn xs exprs a false) [
      | inl before ↦ fit.bits g a u before
      | inr (inside, from, same) ↦ subst (λ n. HasSortIn xs exprs n false) (sym same) (fit.bits f x.expr x.origin has)
    ];
  };
}

-- a form with nothing in it
pub inner_leaf : (p : Program) (f : ℕ) (y : Form) (exprs : List RtlExpr) (enables : List (Option Enable))
    → IsAt p.forms f y → ((bs : List Branch) → y.kind ≡ Cond bs → ⊥) → ((fs : List ℕ) → y.kind ≡ Par fs → ⊥)
    → EnablesInner p f exprs exprs enables enables
inner_leaf p f y exprs enables at no_cond no_par = record {
  exprs_kept = keeps_same exprs;
  kept = same_enables enables;
  inner = λ z o a at_z has. subst (λ (t : Form). InnerEnables p exprs enables o a t.kind)
      (one_entry p.forms f y z at at_z) (nothing y.kind o a refl);
  added = λ g u b has. inl has;
  cost = λ z e at_z at_e. omega arith;
  fits = λ w xs bits fit. fit;
}
  where
    nothing : (k : FormKind) (o : Origin) (a : ℕ) → y.kind ≡ k → InnerEnables p exprs enables o a k
    nothing (Set t at_t v) o a e = tt
    nothing (Cond bs) o a e = absurd (no_cond bs e)
    nothing (Par fs) o a e = absurd (no_par fs e)
    nothing (Go l) o a e = tt
    nothing (Call l) o a e = tt
    nothing Return o a e = tt

-- ---- all forms

module _ (p : Program) (exprs more : List RtlExpr) (old new : List (Option Enable)) (grown : Keeps exprs more)
    (kept : KeepsEnables old new) where
  branches_kept : (o : Origin) (rest : ℕ) (bs : List Branch) → BranchEnables p exprs old o rest bs
      → BranchEnables p more new o rest bs
  branches_kept o rest [] h = h
  branches_kept o rest (b ∷ []) (a, at, body) = (
    a,
    grown a (Apply And 0 (rest ∷ copy_of p b.guard ∷ [])) at,
    λ f c. kept.kept f o a (body f c),
  )
  branches_kept o rest (b ∷ d ∷ bs) (a, n, m, at, body, at_n, at_m, later) = (
    a,
    n,
    m,
    grown a (Apply And 0 (rest ∷ copy_of p b.guard ∷ [])) at,
    λ f c. kept.kept f o a (body f c),
    grown n (Apply Not 0 (copy_of p b.guard ∷ [])) at_n,
    grown m (Apply And 0 (rest ∷ n ∷ [])) at_m,
    branches_kept o m (d ∷ bs) later,
  )

  -- enables of forms in a form stay
  pub inner_kept : (o : Origin) (a : ℕ) (k : FormKind) → InnerEnables p exprs old o a k → InnerEnables p more new o a k
  inner_kept o a (Set x at e) h = h
  inner_kept o a (Cond bs) h = branches_kept o a bs h
  inner_kept o a (Par fs) h = λ f c. kept.kept f o a (h f c)
  inner_kept o a (Go l) h = h
  inner_kept o a (Call l) h = h
  inner_kept o a Return h = h

pub below_none : (p : Program) (exprs : List RtlExpr) (enables : List (Option Enable))
    → EnablesBelow p 0 exprs exprs enables enables
below_none p exprs enables = record {
  exprs_kept = keeps_same exprs;
  kept = same_enables enables;
  inner = λ g y o a lt. absurd (omega (arith, lt));
  reasons = λ f o a has. inl has;
  cost = omega arith;
  fits = λ w xs bits fit. fit;
}

guards_stay : (p : Program) (xs : List Cell) (exprs more : List RtlExpr) → Keeps exprs more → GuardsAreBits p xs exprs
    → GuardsAreBits p xs more
guards_stay p xs exprs more kept bits = λ f y bs b at is c.
    bit_kept xs exprs more (copy_of p b.guard) kept (bits f y bs b at is c)

pub below_more : (p : Program) → IsSound p
    → (exprs now more : List RtlExpr) (old mid new : List (Option Enable)) (i : ℕ)
    → i < length p.forms → length old ≡ length p.forms → EnablesBelow p i exprs now old mid
    → EnablesInner p i now more mid new → EnablesBelow p (i + 1) exprs more old new
below_more p sound exprs now more old mid new i lt_i size below step = record {
  exprs_kept = keeps_more exprs now more below.exprs_kept step.exprs_kept;
  kept = more_enables old mid new below.kept step.kept;
  inner = λ g y o a lt at has. elim (step.added g o a has) as (λ _. InnerEnables p more new o a y.kind) [
    | inl before ↦ elim (cases_lt g i) as (λ _. InnerEnables p more new o a y.kind) [
      | inl lower ↦ inner_kept p now more mid new step.exprs_kept step.kept o a y.kind (below.inner g y o a lower at
          before)
      | inr from ↦
          let e : g ≡ i = omega (arith, lt, from) in
          step.inner y o a (subst (λ n. IsAt p.forms n y) e at) (subst (λ n. HasEnable mid n o a) e before)
    ]
    | inr (z, b, at_z, has_z, inside) ↦
        let later = inside_later p sound i z at_z g inside in absurd (omega (arith, lt, later))
  ];
  reasons = λ f o a has. elim (step.added f o a has) [
    | inl before ↦ elim (below.reasons f o a before) [
      | inl first ↦ inl first
      | inr (g, y, b, at, lt, has_g, inside) ↦ inr (g, y, b, at, lt, (step.kept).kept g o b has_g, inside)
    ]
    | inr (z, b, at_z, has_z, inside) ↦
        inr (i, z, b, at_z, inside_later p sound i z at_z f inside, (step.kept).kept i o b has_z, inside)
  ];
  cost =
      let (y, at) = some_entry p.forms i lt_i in
      let size_mid = (below.kept).size in
      let (e, at_e) = some_entry mid i (omega (arith, lt_i, size, size_mid)) in
      let price = step.cost y e at at_e in
      let before = below.cost in
      let now_more = guards_more p.forms mid i y e at at_e in
      let kept = guards_kept (take (i + 1) p.forms) mid new step.kept in
      omega (arith, price, before, now_more, kept);
  fits = λ w xs bits fit. step.fits w xs (guards_stay p xs exprs now below.exprs_kept bits) (below.fits w xs bits fit);
}

pub below_all : (p : Program) (exprs more : List RtlExpr) (old new : List (Option Enable)) (i : ℕ) → i ≡ length p.forms
    → EnablesBelow p i exprs more old new → EnablesBelow p (length p.forms) exprs more old new
below_all p exprs more old new i e below = subst (λ n. EnablesBelow p n exprs more old new) e below
