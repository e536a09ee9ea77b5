-- Transfers that are added for forms and cells.
use Rattle.std.proofs.Common.{
  ◌≡◌,
  ◌⊎◌,
  inl,
  inr,
  ◌∙◌,
  ℕ,
  zero,
  suc,
  ◌+◌,
  ◌-◌,
  ◌<◌,
  ◌≤◌,
  List,
  [],
  ◌∷◌,
  ◌++◌,
  Bool,
  true,
  false,
  cond,
  Option,
  Some,
  None,
  refl,
  sym,
  ap,
  subst,
  arith,
  length,
  get_or,
  take,
  drop,
  count_by,
  append-nil,
}
use Rattle.std.specs.Prelude.{Contains, option_to_list, ◌&&◌}
use Rattle.std.specs.Option.{option_map_or}
use Rattle.std.proofs.lemmas.Bool.{eq-eqb}
use Rattle.std.proofs.lemmas.List.{at_drop_more}
use Rattle.std.proofs.lemmas.List.Elements.{Contains-append_left, Contains-append_right, Contains-append_cases}
use Rattle.std.proofs.lemmas.List.Sums.{sum_by-cons, sum_by_push, sum_by_more}
use Rattle.std.proofs.lemmas.Option.{same_Some, none-some, get_or_from_slice_get}
use Rattle.mp_base.specs.declared.refusal.Place.{Place}
use Rattle.mp_base.proofs.Contents.{only_one}
use Rattle.mp_base.proofs.Numbers.{below_suc}
use Rattle.mp_program.specs.declared.program.Def.{Def}
use Rattle.mp_program.specs.declared.program.FormKind.{FormKind}
use Rattle.mp_program.specs.declared.program.FormKind.TheVariants as forms
use Rattle.mp_program.specs.declared.program.Form.{Form}
use Rattle.mp_program.specs.declared.program.Process.{Process}
use Rattle.mp_program.specs.declared.program.Program.{Program}
use Rattle.mp_program.specs.declared.program.What.{What}
use Rattle.mp_program.specs.declared.program.What.TheVariants.{
  Power,
  Ground,
  Phia,
  Phib,
  Phic,
  Constant,
  Register,
  Flag,
  Port,
  Signal,
}
use Rattle.mp_program.specs.declared.program.Way.TheVariants.{Input, Output, Internal}
use Rattle.mp_program.specs.Names.{index_of, is_same}
use Rattle.mp_program.specs.Step.{place_of_label}
use Rattle.mp_program.proofs.Definitions.{named}
use Rattle.mp_base.specs.Entries.{IsAt}
use Rattle.mp_rules.specs.Rules.{E27, is_unset}
use Rattle.mp_base.proofs.Entries.{one_entry, read_of, within}
use Rattle.rtl_form.specs.declared.rtl.Cell.{Cell}
use Rattle.rtl_form.specs.declared.rtl.Transfer.{Transfer}
use Rattle.rtl_form.specs.Cost.{transfer_cost, target_cost}
use Rattle.process_plan.specs.declared.role.Role.{Role}
use Rattle.process_plan.specs.declared.role.Role.TheVariants.{Value, Placed, Stacked}
use Rattle.process_plan.specs.declared.enable.Enable.{Enable}
use Rattle.process_plan.specs.declared.enable.Origin.{Origin}
use Rattle.process_plan.specs.declared.enable.Origin.TheVariants.{At}
use Rattle.process_plan.specs.Roles.{AreCells, def_cell}
use Rattle.process_plan.specs.Enables.{copy_of}
use Rattle.process_plan.specs.Bill.{transfers_cost, forms_bill, form_bill, named_bill, set_bill}
use Rattle.process_plan.specs.Plan.{is_call}
use Rattle.process_layout.specs.Counts.{is_go, is_of}
use Rattle.process_transfers.specs.declared.roles.Control.{Control}
use Rattle.process_transfers.specs.declared.roles.Motion.{Motion}
use Rattle.process_transfers.specs.declared.roles.Motion.TheVariants.{Fall, Push, Pop, Back}
use Rattle.process_transfers.specs.Wants.{
  IsFound,
  Serves,
  SetWants,
  LandWants,
  FormWants,
  WantsAt,
  IsRead,
  IsPushed,
  IsPopped,
  PushWants,
  PopWants,
  BackWants,
  RoleWants,
  CellWants,
  is_moved,
  lands_in,
}

-- ---- what one thing wants

pub serves_more : (W : ℕ → Transfer → Type 0) (n : ℕ) (old now next : List Transfer) (found : Option Transfer)
    → Serves W n old now → IsFound (W n) found → next ≡ now ++ option_to_list found → Serves W (n + 1) old next
serves_more W n old now next None before none is =
    let same : next ≡ now = is ∙ append-nil now in
    subst (Serves W (n + 1) old) (sym same) (record {
      kept = before.kept;
      only = λ t c. elim (before.only t c) as (λ _. Contains old t ⊎ ((i : ℕ) × (i < n + 1) × W i t)) [
        | inl there ↦ inl there
        | inr (i, lt, wants) ↦ inr (i, omega (arith, lt), wants)
      ];
      each = λ i t lt wants. elim (below_suc i n lt) as (λ _. (u : Transfer) × W i u × Contains now u) [
        | inl below ↦ before.each i t below wants
        | inr last ↦ absurd (none t (subst (λ k. W k t) last wants))
      ];
    })
serves_more W n old now next (Some u) before wanted is = subst (Serves W (n + 1) old) (sym is) (record {
  kept = λ t c. Contains-append_left now (u ∷ []) t (before.kept t c);
  only = λ t c. elim (Contains-append_cases now (u ∷ []) t c) as
      (λ _. Contains old t ⊎ ((i : ℕ) × (i < n + 1) × W i t)) [
        | inl there ↦ elim (before.only t there) as (λ _. Contains old t ⊎ ((i : ℕ) × (i < n + 1) × W i t)) [
          | inl earlier ↦ inl earlier
          | inr (i, lt, wants) ↦ inr (i, omega (arith, lt), wants)
        ]
        | inr last ↦ inr (n, omega arith, subst (W n) (only_one u t last) wanted)
      ];
  each = λ i t lt wants. elim (below_suc i n lt) as (λ _. (v : Transfer) × W i v × Contains (now ++ u ∷ []) v) [
    | inl below ↦
        let (v, wants_v, there) = before.each i t below wants in
        (v, wants_v, Contains-append_left now (u ∷ []) v there)
    | inr last ↦ (
      u,
      subst (λ k. W k u) (sym last) wanted,
      Contains-append_right now (u ∷ []) u (0, omega arith, refl),
    )
  ];
})

-- what is found costs no more than this
abbrev CostsAtMost : List Cell → Option Transfer → ℕ → Type 0
CostsAtMost xs None price = Unit {0}
CostsAtMost xs (Some t) price = transfer_cost xs t ≤ price

cost_more : (xs : List Cell) (now next : List Transfer) (found : Option Transfer) (price : ℕ)
    → next ≡ now ++ option_to_list found → CostsAtMost xs found price
    → transfers_cost xs next ≤ transfers_cost xs now + price
cost_more xs now next None price is cheap =
    let same : transfers_cost xs next ≡ transfers_cost xs now = ap (transfers_cost xs) (is ∙ append-nil now) in
    omega (arith, same)
cost_more xs now next (Some t) price is cheap =
    let more : transfers_cost xs next ≡ transfers_cost xs now + transfer_cost xs t =
    ap (transfers_cost xs) is ∙ sum_by_push (transfer_cost xs) now t in
    omega (arith, more, cheap)

-- ---- cells of processes

-- what a transfer to a cell costs
pub to_cell : (xs : List Cell) (c : ℕ) (x : Cell) (g v : ℕ) → IsAt xs c x
    → transfer_cost xs (record { guard = g; target = c; value = v }) ≡ target_cost x.word
to_cell xs c x g v at = ap (λ o. target_cost (option_map_or (λ (z : Cell). z.word) o false)) at

module _ (p : Program) (roles : List Role) (xs : List Cell) (are : AreCells p roles xs) where
  to_place : (c k j g v : ℕ) → IsAt roles c (Placed k j)
      → transfer_cost xs (record { guard = g; target = c; value = v }) ≡ 1
  to_place c k j g v at =
      let (x, at_x, (q, at_q, pos, lt, is)) = are.each c (Placed k j) at in
      to_cell xs c x g v at_x ∙ ap (λ (z : Cell). target_cost z.word) is

  to_entry : (c k l j g v : ℕ) → IsAt roles c (Stacked k l j)
      → transfer_cost xs (record { guard = g; target = c; value = v }) ≡ 1
  to_entry c k l j g v at =
      let (x, at_x, (q, at_q, lt, place, is)) = are.each c (Stacked k l j) at in
      to_cell xs c x g v at_x ∙ ap (λ (z : Cell). target_cost z.word) is

  moved_cost : (x : Control) (m : Motion) (c : ℕ) (s : Role) (t : Transfer) → IsAt roles c s
      → RoleWants p roles x m c s t → transfer_cost xs t ≤ cond {A = ℕ} (is_moved m s) 1 0
  moved_cost x Fall c (Value d) t at wants = absurd wants
  moved_cost x Push c (Value d) t at wants = absurd wants
  moved_cost x Pop c (Value d) t at wants = absurd wants
  moved_cost x Back c (Value d) t at wants = absurd wants
  moved_cost x Fall c (Placed k j) t at (m, i, e, same, at_m, at_e, is) =
      let cost : transfer_cost xs t ≡ 1 = ap (transfer_cost xs) is ∙ to_place c k j 0 e at in omega (arith, cost)
  moved_cost x Push c (Placed k j) t at wants = absurd wants
  moved_cost x Pop c (Placed k j) t at wants = absurd wants
  moved_cost x Back c (Placed k j) t at wants = absurd wants
  moved_cost x Fall c (Stacked k l j) t at wants = absurd wants
  moved_cost x Push c (Stacked k l j) t at (m, u, v, at_m, some, pushed, is) =
      let cost : transfer_cost xs t ≡ 1 = ap (transfer_cost xs) is ∙ to_entry c k l j u v at in omega (arith, cost)
  moved_cost x Pop c (Stacked k l j) t at (m, u, v, at_m, some, popped, is) =
      let cost : transfer_cost xs t ≡ 1 = ap (transfer_cost xs) is ∙ to_entry c k l j u v at in omega (arith, cost)
  moved_cost x Back c (Stacked k zero j) t at (m, u, v, d, at_m, some, at_d, at_v, is) =
      let cost : transfer_cost xs t ≡ 1 = ap (transfer_cost xs) is ∙ to_place d k j u v at_d in omega (arith, cost)
  moved_cost x Back c (Stacked k (suc l) j) t at wants = absurd wants

-- the motions of the first n cells
pub record MotionsSoFar (p : Program) (roles : List Role) (xs : List Cell) (x : Control) (m : Motion) (n : ℕ)
    (old now : List Transfer) : Type 0 where
  pub served : Serves (CellWants p roles x m) n old now
  pub cost : transfers_cost xs now ≤ transfers_cost xs old + count_by (is_moved m) (take n roles)

pub motions_more : (p : Program) (roles : List Role) (xs : List Cell) (x : Control) (m : Motion) (n : ℕ) (s : Role)
    (old now next : List Transfer) (found : Option Transfer) → AreCells p roles xs
    → MotionsSoFar p roles xs x m n old now → IsAt roles n s → IsFound (RoleWants p roles x m n s) found
    → next ≡ now ++ option_to_list found → MotionsSoFar p roles xs x m (n + 1) old next
motions_more p roles xs x m n s old now next found are before at is added = record {
  served = serves_more (CellWants p roles x m) n old now next found before.served (of_cell found is) added;
  cost =
      let more = cost_more xs now next found (cond {A = ℕ} (is_moved m s) 1 0) added (cheap found is) in
      let earlier = before.cost in
      let price : cond {A = ℕ} (is_moved m (get_or roles n s)) 1 0 ≡ cond {A = ℕ} (is_moved m s) 1 0 =
      ap (λ r. cond {A = ℕ} (is_moved m r) 1 0) (get_or_from_slice_get roles n s s at) in
      let total = sum_by_more (λ r. cond {A = ℕ} (is_moved m r) 1 0) roles n s (within roles n at) in
      omega (arith, more, earlier, price, total);
}
  where
    of_cell : (o : Option Transfer) → IsFound (RoleWants p roles x m n s) o → IsFound (CellWants p roles x m n) o
    of_cell None none =
        λ t wants. none t (subst (λ r. RoleWants p roles x m n r t) (one_entry roles n wants.0 s wants.1 at) wants.2)
    of_cell (Some t) wanted = (s, at, wanted)

    cheap : (o : Option Transfer) → IsFound (RoleWants p roles x m n s) o → CostsAtMost xs o (cond {A =
        ℕ} (is_moved m s) 1 0)
    cheap None none = tt
    cheap (Some t) wanted = moved_cost p roles xs are x m n s t at wanted

-- ---- forms

bill_named : (ds : List Def) (n : List ℕ) (d : Def) → IsAt ds (index_of ds n) d → named_bill ds n ≡ set_bill d.what
bill_named [] n d at = absurd (none-some d at)
bill_named (y ∷ ys) n d at = pick (is_same y.name n) at (bill_named ys n d)
  where
    pick : (t : Bool) → IsAt (y ∷ ys) (cond t 0 (suc (index_of ys n))) d
        → (IsAt ys (index_of ys n) d → named_bill ys n ≡ set_bill d.what)
        → cond t (set_bill y.what) (named_bill ys n) ≡ set_bill d.what
    pick true at rest = ap (λ (z : Def). set_bill z.what) (same_Some y d at)
    pick false at rest = rest at

-- a transfer to what may be set costs its bill
target_bill : (ds : List Def) (d : ℕ) (w : What) (x : Cell) → (is_unset w ≡ true → ⊥) → def_cell ds d w ≡ Some x
    → target_cost x.word ≡ set_bill w
target_bill ds d Power x set h = absurd (cc)
target_bill ds d Ground x set h = absurd (cc)
target_bill ds d Phia x set h = absurd (cc)
target_bill ds d Phib x set h = absurd (cc)
target_bill ds d Phic x set h = absurd (cc)
target_bill ds d (Constant n) x set h = absurd (cc)
target_bill ds d Register x set h = ap (λ (z : Cell). target_cost z.word) (sym (same_Some _ x h))
target_bill ds d Flag x set h = ap (λ (z : Cell). target_cost z.word) (sym (same_Some _ x h))
target_bill ds d (Port Input) x set h = absurd (set refl)
target_bill ds d (Signal Input) x set h = absurd (set refl)
target_bill ds d (Port Output) x set h = ap (λ (z : Cell). target_cost z.word) (sym (same_Some _ x h))
target_bill ds d (Port Internal) x set h = ap (λ (z : Cell). target_cost z.word) (sym (same_Some _ x h))
target_bill ds d (Signal Output) x set h = ap (λ (z : Cell). target_cost z.word) (sym (same_Some _ x h))
target_bill ds d (Signal Internal) x set h = ap (λ (z : Cell). target_cost z.word) (sym (same_Some _ x h))

-- a form with an enable in one of the first n processes lands
lands_less : (n : ℕ) (y : Form) (ys : List Form) (x : Option Enable) (es : List (Option Enable))
    → lands_in n ys es ≤ lands_in n (y ∷ ys) (x ∷ es)
lands_less zero y ys x es = omega arith
lands_less (suc n) y ys None es = let rest = lands_less n y ys None es in omega (arith, rest)
lands_less (suc n) y ys (Some e) es = let rest = lands_less n y ys (Some e) es in omega (arith, rest)

lands_step : (n k : ℕ) (y : Form) (ys : List Form) (x : Enable) (es : List (Option Enable)) → k < n
    → is_of k x.origin ≡ true → (is_go y.kind ≡ true) ⊎ (is_call y.kind ≡ true)
    → 1 + lands_in n ys es ≤ lands_in n (y ∷ ys) (Some x ∷ es)
lands_step zero k y ys x es lt here moves = absurd (omega (arith, lt))
lands_step (suc n) k y ys x es lt here moves = elim (last k n lt) as
    (λ _. 1 + lands_in (suc n) ys es ≤ lands_in (suc n) (y ∷ ys) (Some x ∷ es)) [
      | inl same ↦
          let of_n : is_of n x.origin ≡ true = subst (λ i. is_of i x.origin ≡ true) same here in
          let less = lands_less n y ys (Some x) es in
          elim moves as (λ _. 1 + lands_in (suc n) ys es ≤ lands_in (suc n) (y ∷ ys) (Some x ∷ es)) [
            | inl goes ↦
                let one : cond {A = ℕ} (is_of n x.origin && is_go y.kind) 1 0 ≡ 1 =
                ap (λ b. cond {A = ℕ} (b && is_go y.kind) 1 0) of_n ∙ ap (λ b. cond {A = ℕ} b 1 0) goes in
                omega (arith, one, less)
            | inr calls ↦
                let one : cond {A = ℕ} (is_of n x.origin && is_call y.kind) 1 0 ≡ 1 =
                ap (λ b. cond {A = ℕ} (b && is_call y.kind) 1 0) of_n ∙ ap (λ b. cond {A = ℕ} b 1 0) calls in
                omega (arith, one, less)
          ]
      | inr below ↦
          let rest = lands_step n k y ys x es below here moves in omega (arith, rest)
    ]
  where
    last : (i n : ℕ) → i < suc n → (i ≡ n) ⊎ (i < n)
    last i n lt = elim (below_suc i n (omega (arith, lt))) as (λ _. (i ≡ n) ⊎ (i < n)) [
      | inl below ↦ inr below
      | inr same ↦ inl same
    ]

-- the forms at the first n indices
pub record FormsSoFar (p : Program) (roles : List Role) (xs : List Cell) (enables : List (Option Enable)) (n : ℕ)
    (old now : List Transfer) : Type 0 where
  pub served : Serves (WantsAt p roles enables) n old now
  pub cost : transfers_cost xs now
      + (forms_bill p.defs (drop n p.forms) + lands_in (length p.processes) (drop n p.forms) (drop n enables))
      ≤ transfers_cost xs old + (forms_bill p.defs p.forms + lands_in (length p.processes) p.forms enables)

at_place : (k i : ℕ) (o : Origin) → o ≡ At k i → is_of k o ≡ true
at_place k i o is = ap (is_of k) is ∙ eq-eqb k k refl

module _ (p : Program) (roles : List Role) (xs : List Cell) (enables : List (Option Enable)) (are : AreCells p roles xs)
    (no_input : (at : Place) → E27 p at → ⊥) where
  set_cost : (f : ℕ) (y : Form) (x : List ℕ) (at : Place) (e a : ℕ) (t : Transfer) → IsAt p.forms f y
      → y.kind ≡ forms.Set x at e → SetWants p roles x e a t → transfer_cost xs t ≤ named_bill p.defs x
  set_cost f y x at e a t at_f kind (c, at_c, is) =
      let (z, at_z, (d, at_d, made)) = are.each c (Value (index_of p.defs x)) at_c in
      let first = read_of p.defs (index_of p.defs x) d at_d in
      let set = λ (unset : is_unset d.what ≡ true). no_input at
      (f, y, x, e, index_of p.defs x, d, at_f, kind, at_d, named p.defs x d first.0 first.1, unset) in
      let cost : transfer_cost xs t ≡ target_cost z.word =
      ap (transfer_cost xs) is ∙ to_cell xs c z a (copy_of p e) at_z in
      let target = target_bill p.defs (index_of p.defs x) d.what z set made in
      let bill = bill_named p.defs x d at_d in omega (arith, cost, target, bill)

  land_cost : (l : List ℕ) (x : Enable) (t : Transfer) → LandWants p roles l x t
      → (transfer_cost xs t ≡ 1) × ((k : ℕ) × (k < length p.processes) × (is_of k x.origin ≡ true))
  land_cost l x t (k, i, c, q, origin, at_q, at_c, is) = (
    ap (transfer_cost xs) is ∙ to_place p roles xs are c k (place_of_label q q.labels l) 0 x.expr at_c,
    (k, within p.processes k at_q, at_place k i x.origin origin),
  )

  -- what a form wants costs its bill, and 1 more where it lands
  form_cost : (f : ℕ) (y : Form) (ys : List Form) (x : Option Enable) (es : List (Option Enable)) (found : Option
      Transfer)
      → IsAt p.forms f y → IsFound (FormWants p roles y.kind x) found
      → (price : ℕ) × CostsAtMost xs found price
      × (price + (forms_bill p.defs ys + lands_in (length p.processes) ys es)
      ≤ forms_bill p.defs (y ∷ ys) + lands_in (length p.processes) (y ∷ ys) (x ∷ es))
  form_cost f y ys x es None at none =
      let less = lands_less (length p.processes) y ys x es in
      let more = sum_by-cons (λ (z : Form). form_bill p.defs z.kind) y ys in
      (0, tt, omega (arith, less, more))
  form_cost f y ys None es (Some t) at wanted = absurd wanted
  form_cost f y ys (Some x) es (Some t) at wanted = of_kind y.kind refl wanted
    where
      of_kind : (k : FormKind) → y.kind ≡ k → FormWants p roles k (Some x) t
          → (price : ℕ) × (transfer_cost xs t ≤ price)
          × (price + (forms_bill p.defs ys + lands_in (length p.processes) ys es)
          ≤ forms_bill p.defs (y ∷ ys) + lands_in (length p.processes) (y ∷ ys) (Some x ∷ es))
      of_kind (forms.Set n place e) kind wants =
          let less = lands_less (length p.processes) y ys (Some x) es in
          let more = sum_by-cons (λ (z : Form). form_bill p.defs z.kind) y ys in
          let bill : form_bill p.defs y.kind ≡ named_bill p.defs n = ap (form_bill p.defs) kind in
          (named_bill p.defs n, set_cost f y n place e x.expr t at kind wants, omega (arith, less, more, bill))
      of_kind (forms.Go l) kind wants =
          let (cost, (k, lt, of_k)) = land_cost l x t wants in
          let step = lands_step (length p.processes) k y ys x es lt of_k (inl (ap is_go kind)) in
          let more = sum_by-cons (λ (z : Form). form_bill p.defs z.kind) y ys in
          (1, omega (arith, cost), omega (arith, step, more))
      of_kind (forms.Call l) kind wants =
          let (cost, (k, lt, of_k)) = land_cost l x t wants in
          let step = lands_step (length p.processes) k y ys x es lt of_k (inr (ap is_call kind)) in
          let more = sum_by-cons (λ (z : Form). form_bill p.defs z.kind) y ys in
          (1, omega (arith, cost), omega (arith, step, more))
      of_kind forms.Return kind wants = absurd wants
      of_kind (forms.Cond bs) kind wants = absurd wants
      of_kind (forms.Par fs) kind wants = absurd wants

  pub forms_more : (n : ℕ) (y : Form) (x : Option Enable) (old now next : List Transfer) (found : Option Transfer)
      → FormsSoFar p roles xs enables n old now → IsAt p.forms n y → IsAt enables n x
      → IsFound (FormWants p roles y.kind x) found → next ≡ now ++ option_to_list found
      → FormsSoFar p roles xs enables (n + 1) old next
  forms_more n y x old now next found before at_y at_x is added = record {
    served = serves_more (WantsAt p roles enables) n old now next found before.served (of_form found is) added;
    cost =
        let (price, cheap, pays) =
        form_cost n y (drop (n + 1) p.forms) x (drop (n + 1) enables) found at_y is in
        let more = cost_more xs now next found price added cheap in
        let earlier = before.cost in
        let forms_are : drop n p.forms ≡ y ∷ drop (n + 1) p.forms = dropped p.forms n y at_y in
        let enables_are : drop n enables ≡ x ∷ drop (n + 1) enables = dropped enables n x at_x in
        let bill : forms_bill p.defs (drop n p.forms) ≡ forms_bill p.defs (y ∷ drop (n + 1) p.forms) =
        ap (forms_bill p.defs) forms_are in
        let lands : lands_in (length p.processes) (drop n p.forms) (drop n enables)
        ≡ lands_in (length p.processes) (y ∷ drop (n + 1) p.forms) (x ∷ drop (n + 1) enables) =
        ap (λ ys. lands_in (length p.processes) ys (drop n enables)) forms_are
        ∙ ap (lands_in (length p.processes) (y ∷ drop (n + 1) p.forms)) enables_are in
        omega (arith, pays, more, earlier, bill, lands);
  }
    where
      dropped : {X : Type 0} (zs : List X) (i : ℕ) (z : X) → IsAt zs i z → drop i zs ≡ z ∷ drop (i + 1) zs
      dropped zs i z at = at_drop_more (λ ws. ws) zs i z (within zs i at)
          ∙ ap (λ w. w ∷ drop (i + 1) zs) (get_or_from_slice_get zs i z z at)

      of_form : (o : Option Transfer) → IsFound (FormWants p roles y.kind x) o → IsFound (WantsAt p roles enables n) o
      of_form (Some t) wanted = (y, x, at_y, at_x, wanted)
      of_form None none = λ t (y2, x2, at_y2, at_x2, wants).
          none t (subst (λ e. FormWants p roles y.kind e t) (one_entry enables n x2 x at_x2 at_x)
          (subst (λ (z : Form). FormWants p roles z.kind x2 t) (one_entry p.forms n y2 y at_y2 at_y) wants))

-- ---- what functions find

pub found_same : {X : Type 0} (W V : X → Type 0) (o : Option X) → ((t : X) → W t → V t) → ((t : X) → V t → W t)
    → IsFound W o → IsFound V o
found_same W V None f g none = λ t v. none t (g t v)
found_same W V (Some t) f g w = f t w

pub none_found : {X : Type 0} (W : X → Type 0) (o : Option X) → o ≡ None → ((t : X) → W t → ⊥) → IsFound W o
none_found W o is none = subst (IsFound W) (sym is) none

pub pushed_above : (roles : List Role) (x : Control) (k l j : ℕ) (o : Option ℕ) → (l ≡ 0 → ⊥)
    → IsFound (IsRead roles x (Stacked k (l - 1) j)) o
    → IsFound (IsPushed roles x k l j) o
pushed_above roles x k zero j o some found = absurd (some refl)
pushed_above roles x k (suc l) j o some found =
    let back : suc l - 1 ≡ l = omega arith in
    found_same (IsRead roles x (Stacked k l j)) (IsPushed roles x k (suc l) j) o (λ t h. h) (λ t h. h)
    (subst (λ n. IsFound (IsRead roles x (Stacked k n j)) o) back found)

module _ (p : Program) (roles : List Role) where
  pub set_found : (kind : FormKind) (e : Option Enable) (x : Enable) (n bytes : List ℕ) (at : Place) (v : ℕ)
      (o : Option Transfer) → kind ≡ forms.Set n at v → e ≡ Some x → bytes ≡ n
      → IsFound (SetWants p roles bytes v x.expr) o → IsFound (FormWants p roles kind e) o
  set_found kind e x n bytes at v o is some same found =
      subst (λ k. IsFound (FormWants p roles k e) o) (sym is)
      (subst (λ z. IsFound (FormWants p roles (forms.Set n at v) z) o) (sym some)
      (found_same (SetWants p roles n v x.expr) (FormWants p roles (forms.Set n at v) (Some x)) o (λ t h. h) (λ t h. h)
      (subst (λ b. IsFound (SetWants p roles b v x.expr) o) same found)))

  pub go_found : (kind : FormKind) (e : Option Enable) (x : Enable) (l bytes : List ℕ) (o : Option Transfer)
      → kind ≡ forms.Go l → e ≡ Some x → bytes ≡ l → IsFound (LandWants p roles bytes x) o
      → IsFound (FormWants p roles kind e) o
  go_found kind e x l bytes o is some same found =
      subst (λ k. IsFound (FormWants p roles k e) o) (sym is)
      (subst (λ z. IsFound (FormWants p roles (forms.Go l) z) o) (sym some)
      (found_same (LandWants p roles l x) (FormWants p roles (forms.Go l) (Some x)) o (λ t h. h) (λ t h. h)
      (subst (λ b. IsFound (LandWants p roles b x) o) same found)))

  pub call_found : (kind : FormKind) (e : Option Enable) (x : Enable) (l bytes : List ℕ) (o : Option Transfer)
      → kind ≡ forms.Call l → e ≡ Some x → bytes ≡ l → IsFound (LandWants p roles bytes x) o
      → IsFound (FormWants p roles kind e) o
  call_found kind e x l bytes o is some same found =
      subst (λ k. IsFound (FormWants p roles k e) o) (sym is)
      (subst (λ z. IsFound (FormWants p roles (forms.Call l) z) o) (sym some)
      (found_same (LandWants p roles l x) (FormWants p roles (forms.Call l) (Some x)) o (λ t h. h) (λ t h. h)
      (subst (λ b. IsFound (LandWants p roles b x) o) same found)))

  module _ (x : Control) where
    pub popped_below : (k l j : ℕ) (q : Process) (o : Option ℕ) → IsAt p.processes k q → (q.depth ≡ suc l → ⊥)
        → IsFound (IsRead roles x (Stacked k (suc l) j)) o → IsFound (IsPopped p roles x k l j) o
    popped_below k l j q (Some v) at other read = (q, at, inr (other, read))
    popped_below k l j q None at other none = λ v (q2, at2, popped). elim popped as (λ _. ⊥) [
      | inl (depth, one) ↦
          other (ap (λ (z : Process). z.depth) (one_entry p.processes k q q2 at at2) ∙ depth)
      | inr (ne, read) ↦ none v read
    ]

    -- what is found for the role of a cell
    role_found : (w v : Motion) (c : ℕ) (r s : Role) (o : Option Transfer) → w ≡ v → IsAt roles c r → IsAt roles c s
        → IsFound (RoleWants p roles x v c r) o → IsFound (RoleWants p roles x w c s) o
    role_found w v c r s o is at_r at_s found =
        subst (λ z. IsFound (RoleWants p roles x z c s) o) (sym is)
        (subst (λ z. IsFound (RoleWants p roles x v c z) o) (one_entry roles c r s at_r at_s) found)

    pub push_found : (w : Motion) (c k l j : ℕ) (s : Role) (o : Option Transfer) → w ≡ Push
        → IsAt roles c (Stacked k l j) → IsAt roles c s → IsFound (PushWants roles x c k l j) o
        → IsFound (RoleWants p roles x w c s) o
    push_found w c k l j s o is at_r at_s found = role_found w Push c (Stacked k l j) s o is at_r at_s
        (found_same (PushWants roles x c k l j) (RoleWants p roles x Push c (Stacked k l j)) o (λ t h. h) (λ t h. h)
        found)

    pub pop_found : (w : Motion) (c k l j : ℕ) (s : Role) (o : Option Transfer) → w ≡ Pop
        → IsAt roles c (Stacked k l j) → IsAt roles c s → IsFound (PopWants p roles x c k l j) o
        → IsFound (RoleWants p roles x w c s) o
    pop_found w c k l j s o is at_r at_s found = role_found w Pop c (Stacked k l j) s o is at_r at_s
        (found_same (PopWants p roles x c k l j) (RoleWants p roles x Pop c (Stacked k l j)) o (λ t h. h) (λ t h. h)
        found)

    pub back_found : (w : Motion) (c k l j : ℕ) (s : Role) (o : Option Transfer) → w ≡ Back → l ≡ 0
        → IsAt roles c (Stacked k l j) → IsAt roles c s → IsFound (BackWants roles x c k j) o
        → IsFound (RoleWants p roles x w c s) o
    back_found w c k l j s o is top at_r at_s found = role_found w Back c (Stacked k 0 j) s o is
        (subst (λ n. IsAt roles c (Stacked k n j)) top at_r) at_s
        (found_same (BackWants roles x c k j) (RoleWants p roles x Back c (Stacked k 0 j)) o (λ t h. h) (λ t h. h)
        found)
