-- What is built of a program that breaks no rule shows what the program shows.
use Rattle.std.proofs.Common.{
  ◌≡◌,
  ◌↔◌,
  inl,
  inr,
  ◌∙◌,
  ℕ,
  ◌<◌,
  List,
  [],
  ◌∷◌,
  false,
  refl,
  sym,
  ap,
  subst,
  arith,
  length,
}
use Rattle.std.specs.Prelude.{Bool, Contains, ◌||◌}
use Rattle.std.specs.List.{AllByRecursion, list_any}
use Rattle.std.proofs.lemmas.List.Elements.{recursion_from_All}
use Rattle.std.proofs.lemmas.Option.{none-some}
use Rattle.mp_base.proofs.Contents.{nothing_in}
use Rattle.mp_base.proofs.Induction.{downward}
use Rattle.mp_program.specs.declared.program.FormKind.{FormKind}
use Rattle.mp_program.specs.declared.program.FormKind.TheVariants.{Set, Cond, Par, Go, Call, Return}
use Rattle.mp_program.specs.declared.program.Branch.{Branch}
use Rattle.mp_program.specs.declared.program.Program.{Program}
use Rattle.mp_program.specs.Pads.{ArePadsOf, input_pads, FitsPads}
use Rattle.mp_program.specs.Reads.{sets, kind_sets, branches_set}
use Rattle.mp_program.specs.Sound.{AllBetween, BranchesFit, InnerFit}
use Rattle.mp_program.specs.State.{zero_state}
use Rattle.mp_program.specs.Trace as source
use Rattle.mp_base.specs.Entries.{IsAt}
use Rattle.mp_base.proofs.Entries.{some_entry}
use Rattle.rtl_form.specs.declared.rtl.Rtl.{Rtl}
use Rattle.rtl_form.specs.declared.rtl.RtlExpr.{RtlExpr}
use Rattle.rtl_form.specs.declared.rtl.Transfer.{Transfer}
use Rattle.rtl_form.specs.Sound.{IsSound, ExprFits, TransferFits}
use Rattle.rtl_form.specs.Trace as rtl
use Rattle.process_plan.specs.Lawful.{Lawful}
use Rattle.process_plan.specs.Roles.{Role, AreCells}
use Rattle.process_plan.specs.Plan.{FollowsOrder, IsResetCell}
use Rattle.process_plan.specs.Same.{IsSame, InputsFit}
use Rattle.process_plan.specs.Built.{IsBuilt, IsIdle, is_set}
use Rattle.process_plan.proofs.Keeping.{keeps_22, keeps_23, keeps_24, keeps_27, keeps_34}
use Rattle.process_plan.proofs.Copying.{Valued}
use Rattle.process_plan.proofs.Sorts.{IsSorted}
use Rattle.process_plan.proofs.Fitting.{expr_fits, planned_fits}
use Rattle.process_plan.proofs.Sounding.{ReadAlike, order_kept, planned_alike, idle_alike}
use Rattle.process_plan.proofs.Facing.{input_cells, output_cells, cells_fit, input_widths, output_widths, stored}
use Rattle.process_plan.proofs.Resetting.{reset_is, reset_there}
use Rattle.process_plan.proofs.Tracing.{Premises, IsSilent, reset_same, planned_traces, silent_traces}
use Rattle.process_plan.proofs.Totals.{total_pays, cells_pay}

-- transfers have at most one trace
abbrev pub HasOneTrace : Rtl → Type 0
HasOneTrace r = (inputs a b : List (List ℕ)) → rtl.IsTrace r inputs a → rtl.IsTrace r inputs b → a ≡ b

module _ {p : Program} {order : List ℕ} (lawful : Lawful p order) where
  sorted : IsSorted p
  sorted = record {
    sound = (lawful.known).sound;
    sorts = keeps_22 p lawful.unbroken;
    sizes = keeps_23 p lawful.unbroken;
    bits = keeps_24 p lawful.unbroken;
  }

  -- ---- what is built is sound

  sound_of : (r : Rtl) (roles : List Role) → r.width ≡ p.width → ArePadsOf p r.pads → IsResetCell p r.cells r.reset
      → AreCells p roles r.cells → FollowsOrder r roles order → ReadAlike p r roles
      → ((e : ℕ) (x : RtlExpr) → IsAt r.exprs e x → ExprFits r e x)
      → ((t : Transfer) → Contains r.transfers t → TransferFits r t) → IsSound r
  sound_of r roles width padded reset cells follows alike exprs transfers = record {
    width =
        let low = (((lawful.known).sound).width).0 in
        let high = (((lawful.known).sound).width).1 in
        (omega (arith, low, width), omega (arith, high, width));
    inputs = λ k pad at. elim (input_widths p r roles cells padded k pad at) [
      | inl e ↦ inl
          (e ∙ sym width)
      | inr e ↦ inr e
    ];
    outputs = λ k pad at. elim (output_widths p r roles cells padded k pad at) [
      | inl e ↦ inl
          (e ∙ sym width)
      | inr e ↦ inr e
    ];
    input_cells = input_cells p r roles cells padded;
    output_cells = output_cells p r roles cells padded;
    cells = cells_fit p r roles cells padded (((lawful.known).sound).width).0;
    exprs = exprs;
    transfers = transfers;
    order = order_kept cells lawful.ordered follows alike;
    reset = reset_is p r roles cells padded reset;
    resets = reset_there p r roles cells padded reset (keeps_34 p lawful.unbroken);
  }

  pub built_sound : (r : Rtl) → IsBuilt p order r → IsSound r
  built_sound r built =
      let plan = built.plan in
      sound_of r built.roles plan.width plan.padded plan.reset plan.cells built.ordered
      (planned_alike lawful.known lawful.named plan)
      (λ e x at. expr_fits r p.width e x (sym plan.width) (built.fits e x at))
      (λ t c. planned_fits plan sorted (keeps_27 p lawful.unbroken) t ((plan.transfers).only t c))

  -- ---- and shows the same

  premises : (r : Rtl) (built : IsBuilt p order r) → Valued r → Premises p r built.roles built.enables
  premises r built valued = record {
    known = lawful.known;
    valued = valued;
    plan = built.plan;
    names = lawful.own;
    single = lawful.single;
    start = lawful.start;
    start_fits = lawful.start_fits;
    states = lawful.states;
    bits = λ st inputs env fits small good clock f y bs at kind b c.
        let low = lawful.guards env f y bs b (lawful.fits st inputs env fits small good clock) at kind c in
        omega (arith, low);
    states_fit = λ st inputs env fits small good clock.
        lawful.states_fit st inputs env small (lawful.fits st inputs env fits small good clock);
  }

  -- what the program shows the transfers show: so both show the same, since each shows one thing
  both_ways : (r : Rtl) → HasOneTrace r
      → ((inputs outputs : List (List ℕ)) → AllByRecursion (FitsPads (input_pads p)) inputs
      → source.IsTrace p inputs outputs → rtl.IsTrace r inputs outputs)
      → (inputs outputs : List (List ℕ)) → InputsFit p inputs → source.IsTrace p inputs outputs
      ↔ rtl.IsTrace r inputs outputs
  both_ways r one forth inputs outputs fit =
      let good = recursion_from_All (FitsPads (input_pads p)) inputs fit in (
        λ trace. forth inputs outputs good trace,
        λ shown.
            let (found, trace) = lawful.exist (zero_state p) inputs lawful.start in
            subst (source.IsTrace p inputs) (sym (one inputs outputs found shown
            (forth inputs found good trace))) trace,
      )

  pub built_same : (r : Rtl) → IsBuilt p order r → Valued r → HasOneTrace r → IsSame p r
  built_same r built valued one = record {
    sound = built_sound r built;
    width = (built.plan).width;
    pads = (built.plan).padded;
    traces = both_ways r one (planned_traces p r built.roles built.enables (premises r built valued));
    resets = λ inputs h. reset_same p r (built.plan).reset inputs;
    stores = stored p r built.roles (built.plan).cells (built.plan).padded;
    cost = total_pays p r built.tallies built.guards built.billed;
  }

  -- ---- programs without a `setq` and without a process

  none_in : (i n : ℕ) (fs : List ℕ) (s : ℕ → Bool) → AllBetween i n fs
      → ((j : ℕ) → i < j → j < n → s j ≡ false) → list_any s fs ≡ false
  none_in i n [] s fit none = refl
  none_in i n (f ∷ fs) s ((low, high), others) none =
      ap (λ b. b || list_any s fs) (none f low high) ∙ none_in i n fs s others none

  none_in_branches : (e i n : ℕ) (bs : List Branch) (s : ℕ → Bool) → BranchesFit e i n bs
      → ((j : ℕ) → i < j → j < n → s j ≡ false) → branches_set bs s ≡ false
  none_in_branches e i n [] s fit none = refl
  none_in_branches e i n (b ∷ bs) s ((_, body), others) none =
      ap (λ t. t || branches_set bs s) (none_in i n b.body s body none) ∙ none_in_branches e i n bs s others none

  none_of_kind : (name : List ℕ) (e i n : ℕ) (k : FormKind) (s : ℕ → Bool) → is_set k ≡ false → InnerFit e i n k
      → ((j : ℕ) → i < j → j < n → s j ≡ false) → kind_sets name k s ≡ false
  none_of_kind name e i n (Set x at v) s unset fit none = absurd (cc)
  none_of_kind name e i n (Cond bs) s unset fit none = none_in_branches e i n bs s fit none
  none_of_kind name e i n (Par fs) s unset fit none = none_in i n fs s fit none
  none_of_kind name e i n (Go l) s unset fit none = refl
  none_of_kind name e i n (Call l) s unset fit none = refl
  none_of_kind name e i n Return s unset fit none = refl

  none_set : (r : Rtl) → IsIdle p order r → (name : List ℕ) (f : ℕ) → f < length p.forms → sets p name f ≡ false
  none_set r idle name = downward (λ f. sets p name f ≡ false) (length p.forms) (λ f lt below.
      let (y, at) = some_entry p.forms f lt in
      (lawful.named).sets_is name f y at
      ∙ none_of_kind name (length p.exprs) f (length p.forms) y.kind (sets p name) (idle.unset f y at)
      (((lawful.known).sound).forms f y at) below)

  pub idle_sound : (r : Rtl) → IsIdle p order r → IsSound r
  idle_sound r idle =
      sound_of r idle.roles idle.width idle.padded idle.reset idle.cells idle.ordered
      (idle_alike p r idle.roles idle.transfers)
      (λ e x at. absurd (none-some x (subst (λ xs. IsAt xs e x) idle.exprs at)))
      (λ t c. absurd (nothing_in t (subst (λ ts. Contains ts t) idle.transfers c)))

  silent : (r : Rtl) (idle : IsIdle p order r) → IsSilent p r idle.roles
  silent r idle = record {
    faced = record { padded = idle.padded; reset = idle.reset };
    cells = idle.cells;
    none = idle.transfers;
    alone = idle.alone;
    quiet = λ env x f lt. lawful.silence env x f lt (none_set r idle x f lt);
  }

  pub idle_same : (r : Rtl) → IsIdle p order r → HasOneTrace r → IsSame p r
  idle_same r idle one = record {
    sound = idle_sound r idle;
    width = idle.width;
    pads = idle.padded;
    traces = both_ways r one (silent_traces p r idle.roles lawful.known (silent r idle) lawful.states lawful.start);
    resets = λ inputs h. reset_same p r idle.reset inputs;
    stores = stored p r idle.roles idle.cells idle.padded;
    cost = cells_pay p r idle.exprs idle.transfers idle.billed;
  }
