-- The traces of a program are those of its transfers.
use Rattle.std.proofs.Common.{
  ◌≡◌,
  ◌∙◌,
  ℕ,
  zero,
  suc,
  ◌+◌,
  ◌<◌,
  List,
  [],
  ◌∷◌,
  ◌++◌,
  Bool,
  true,
  false,
  cond,
  Option,
  Some,
  None,
  refl,
  sym,
  ap,
  subst,
  arith,
  length,
  take,
  filter,
  MatchOption,
  position,
}
use Rattle.std.specs.Prelude.{Contains, ◌==◌, slice_index, slice_get, option_and_then, if◌then◌else◌}
use Rattle.std.specs.List.{AllByRecursion, flat_map}
use Rattle.std.specs.Option.{option_map_or}
use Rattle.std.proofs.lemmas.List.{length-map}
use Rattle.std.proofs.lemmas.List.Sums.{sum_by-cons}
use Rattle.std.proofs.lemmas.Option.{none-some, same_Some}
use Rattle.mp_program.specs.declared.program.Def.{Def}
use Rattle.mp_program.specs.declared.program.Program.{Program}
use Rattle.mp_program.specs.Names.{is_same, is_output, is_reset, pad_number}
use Rattle.mp_program.specs.Pads.{Face, ArePadsOf, input_pads, pad_width, face, FitsPads}
use Rattle.mp_program.specs.State.{State, IsState, zero_state, active}
use Rattle.mp_program.specs.Environment.{IsEnvironment, clock_effects}
use Rattle.mp_program.specs.Step.{next_state, next_stored, next_seats, outputs_of, resets}
use Rattle.mp_program.specs.Trace as source
use Rattle.mp_program.specs.Effects as source_effects
use Rattle.mp_program.specs.Effects.{Effect, Writes, Goes, Calls, Returns, effects_of}
use Rattle.mp_program.specs.declared.program.Process.{Process}
use Rattle.mp_base.specs.Merge.{merged}
use Rattle.mp_base.proofs.Contents.{contains_head, contains_behind}
use Rattle.mp_program.proofs.Lengths.{length-outputs_of}
use Rattle.rtl_form.specs.Values.{value_of}
use Rattle.rtl_form.specs.Written.{written}
use Rattle.mp_base.specs.Entries.{IsAt}
use Rattle.mp_rules.specs.Naming.{OwnNames}
use Rattle.mp_fitting.specs.Fitting.{StateFits}
use Rattle.rtl_form.specs.declared.rtl.CellKind.{CellKind}
use Rattle.rtl_form.specs.declared.rtl.CellKind.TheVariants as kinds
use Rattle.rtl_form.specs.declared.rtl.Cell.{Cell}
use Rattle.rtl_form.specs.declared.rtl.Rtl.{Rtl}
use Rattle.rtl_form.specs.Step as rtl_step
use Rattle.rtl_form.specs.Trace as rtl
use Rattle.process_plan.specs.Lawful.{Known, MovesOnce}
use Rattle.process_plan.specs.Roles.{Role, Value, Placed, Stacked, AreCells, cell_values, output_number, IsCellOf}
use Rattle.process_plan.specs.Enables.{Enable}
use Rattle.process_plan.specs.Plan.{FollowsPlan, IsResetCell}
use Rattle.process_plan.proofs.Copying.{Valued, cell_at}
use Rattle.process_plan.proofs.Enabling.{GuardsAreBits}
use Rattle.process_plan.proofs.Scene.{Scene, StacksFit}
use Rattle.process_plan.proofs.Defining.{active_root, root_in}
use Rattle.process_plan.proofs.Simulating.{
  Agreement,
  agreement,
  environment,
  onward,
  next_kept,
  zero_kept,
  cell_role,
  stacks_on,
  stacks_zero,
}
use Rattle.process_plan.proofs.Facing.{output_of}

-- ---- outputs

output_at : (ds : List Def) (vs : List ℕ) (d : ℕ) (x : Def) → IsAt ds d x → is_output x.what ≡ true
    → length vs ≡ length ds
    → slice_index (outputs_of ds vs) (output_number ds d) ≡ slice_index vs d
output_at [] vs d x at out size = absurd (none-some x at)
output_at (y ∷ ys) [] d x at out size = absurd (omega (arith, size))
output_at (y ∷ ys) (v ∷ vs) zero x at out size =
    ap (λ b. slice_index (cond b (v ∷ outputs_of ys vs) (outputs_of ys vs)) 0)
    (ap (λ (z : Def). is_output z.what) (same_Some y x at) ∙ out)
output_at (y ∷ ys) (v ∷ vs) (suc d) x at out size =
    let rest = output_at ys vs d x at out (omega (arith, size)) in
    let count : output_number (y ∷ ys) (suc d) ≡ cond (is_output y.what) 1 0 + output_number ys d =
    sum_by-cons (λ (z : Def). cond (is_output z.what) 1 0) y (take d ys) in
    ap (slice_index (cond (is_output y.what) (v ∷ outputs_of ys vs) (outputs_of ys vs))) count
    ∙ pick (is_output y.what) ∙ rest
  where
    pick : (b : Bool) → slice_index (cond b (v ∷ outputs_of ys vs) (outputs_of ys vs))
        (cond b 1 0 + output_number ys d) ≡ slice_index (outputs_of ys vs) (output_number ys d)
    pick true = let e : 1 + output_number ys d ≡ suc (output_number ys d) = omega arith in
        ap (slice_index (v ∷ outputs_of ys vs)) e
    pick false = let e : 0 + output_number ys d ≡ output_number ys d = omega arith in
        ap (slice_index (outputs_of ys vs)) e

abbrev output_code : CellKind → ℕ
output_code (kinds.Output k) = suc k
output_code _ = 0

-- the pads and `reset` are those of the program
pub record IsFaced (p : Program) (r : Rtl) : Type 0 where
  pub padded : ArePadsOf p r.pads
  pub reset : IsResetCell p r.cells r.reset

-- a clock resets both or neither
module _ (p : Program) (r : Rtl) (reset : IsResetCell p r.cells r.reset) (inputs : List ℕ) where
  reset_as : (o : Option ℕ) → MatchOption o (r.reset ≡ None)
      (λ d. (c : ℕ) × (x : Cell) × (r.reset ≡ Some c) × IsAt r.cells c x × (x.kind ≡ kinds.Input (pad_number p.defs d)))
      → rtl_step.resets r inputs ≡ option_map_or (λ d. slice_index inputs (pad_number p.defs d) == 1) o false
  reset_as None none = ap (λ (o : Option ℕ). option_map_or
      (λ (x : Cell). slice_index inputs (rtl_step.input_number x.kind) == 1)
      (option_and_then (slice_get r.cells) o) false) none
  reset_as (Some d) (c, x, is, at, kind) =
      ap (λ (o : Option ℕ). option_map_or (λ (x : Cell). slice_index inputs (rtl_step.input_number x.kind) == 1)
      (option_and_then (slice_get r.cells) o) false) is
      ∙ ap (λ o. option_map_or (λ (x : Cell). slice_index inputs (rtl_step.input_number x.kind) == 1) o false) at
      ∙ ap (λ z. slice_index inputs (rtl_step.input_number z) == 1) kind

  pub reset_same : rtl_step.resets r inputs ≡ resets p.defs inputs
  reset_same = reset_as (position is_reset p.defs) reset

module _ {p : Program} {r : Rtl} {roles : List Role} (faced : IsFaced p r) {st : State} {inputs env : List ℕ}
    (s : Agreement p r roles st inputs env) where
  shown_role : (c : ℕ) (x : Cell) (k : ℕ) (t : Role) → IsAt roles c t → IsCellOf p t x → x.kind ≡ kinds.Output k
      → slice_index (outputs_of p.defs env) k ≡ slice_index (cell_values roles env st.seats) c
  shown_role c x k (Value d) at_t (y, at_y, is) kind =
      let (out, number) = output_of p.defs d y.what x k is kind in
      ap (slice_index (outputs_of p.defs env)) (sym number) ∙ output_at p.defs env d y at_y out (s.clock).size
      ∙ sym (cell_at roles env st.seats c (Value d) at_t)
  shown_role c x k (Placed n j) at_t (q, at_q, pos, lt, is) kind = let e =
      ap (λ (z : Cell). output_code z.kind) (sym is) ∙ ap output_code kind in absurd (omega (arith, e))
  shown_role c x k (Stacked n l j) at_t (q, at_q, lt, is_place, is) kind = let e =
      ap (λ (z : Cell). output_code z.kind) (sym is) ∙ ap output_code kind in absurd (omega (arith, e))

  pub shown : rtl_step.Shows r (cell_values roles env st.seats) (outputs_of p.defs env)
  shown = record {
    size =
        let long = length-outputs_of p.defs env (s.clock).size in
        let pads = ap length (faced.padded).outputs in
        let a = length-map (r.pads).outputs face in
        let b = length-map {B = Face} (filter (λ (x : Def). is_output x.what) p.defs)
        (λ (x : Def). (x.name, pad_width p.width x.what)) in
        omega (arith, long, pads, a, b);
    each = λ c x k at kind. let (t, at_t, is) = cell_role s c x at in shown_role c x k t at_t is kind;
  }

  -- the next state of the cells is that of what they stand for
  pub state_on : rtl_step.next_state r (cell_values roles st.stored st.seats) inputs (cell_values roles env st.seats)
      ≡ cell_values roles (next_state p st inputs env).stored (next_state p st inputs env).seats
  state_on = pick (resets p.defs inputs) (rtl_step.resets r inputs) (reset_same p r faced.reset inputs)
    where
      pick : (a b : Bool) → b ≡ a
          → cond b (rtl_step.zero_state r) (rtl_step.next_cells r (cell_values roles st.stored st.seats)
          (cell_values roles env st.seats) 0 r.cells)
          ≡ cell_values roles (cond a (zero_state p) (onward s)).stored (cond a (zero_state p) (onward s)).seats
      pick true true e = zero_kept p r roles (s.cells).size (s.cells).each
      pick true false e = absurd (cc)
      pick false true e = absurd (cc)
      pick false false e = next_kept s

  -- the clock of the program is one of the transfers
  pub clock_on : rtl.IsClock r (cell_values roles st.stored st.seats) inputs (outputs_of p.defs env)
      (cell_values roles (next_state p st inputs env).stored (next_state p st inputs env).seats)
  clock_on = record {
    env = cell_values roles env st.seats;
    environment = environment s;
    shown = shown;
    next = sym state_on;
  }

-- ---- traces

module _ (p : Program) (r : Rtl) (roles : List Role) (faced : IsFaced p r) (cells : AreCells p roles r.cells)
    -- what holds of each state, which the zero state has and a clock keeps, and which makes the transfers agree
    (Holds : State → Type 0) (start : Holds (zero_state p))
    (agrees : (st : State) (inputs env : List ℕ) → Holds st → FitsPads (input_pads p) inputs
    → IsEnvironment p st inputs env → Agreement p r roles st inputs env)
    (holds : (st : State) (inputs env : List ℕ) → Holds st → FitsPads (input_pads p) inputs
    → IsEnvironment p st inputs env → Holds (next_state p st inputs env)) where
  traces_from : (inputs outputs : List (List ℕ)) (st : State) → Holds st
      → AllByRecursion (FitsPads (input_pads p)) inputs
      → source.IsTraceFrom p st inputs outputs → rtl.IsTraceFrom r (cell_values roles st.stored st.seats) inputs outputs
  traces_from [] [] st held good trace = tt
  traces_from [] (o ∷ os) st held good trace = absurd trace
  traces_from (i ∷ is) [] st held good trace = absurd trace
  traces_from (i ∷ is) (o ∷ os) st held good (after, clock, rest) =
      let s : Agreement p r roles st i clock.env = agrees st i clock.env held good.0 clock.environment in
      let next = next_state p st i clock.env in
      let rest2 : source.IsTraceFrom p next is os = subst (λ z. source.IsTraceFrom p z is os) clock.next rest in (
        cell_values roles next.stored next.seats,
        subst (λ z. rtl.IsClock r (cell_values roles st.stored st.seats) i z
            (cell_values roles next.stored next.seats)) (sym clock.shown) (clock_on faced s),
        traces_from is os next (holds st i clock.env held good.0 clock.environment) good.1 rest2,
      )

  -- what the program shows, the transfers show, from the zero state, for every list of inputs
  pub traces : (inputs outputs : List (List ℕ)) → AllByRecursion (FitsPads (input_pads p)) inputs
      → source.IsTrace p inputs outputs → rtl.IsTrace r inputs outputs
  traces inputs outputs good trace =
      subst (λ z. rtl.IsTraceFrom r z inputs outputs) (sym (zero_kept p r roles cells.size cells.each))
      (traces_from inputs outputs (zero_state p) start good trace)

-- ---- transfers that follow a plan

-- what is known of a program that breaks no rule, and of transfers that follow a plan of it
pub record Premises (p : Program) (r : Rtl) (roles : List Role) (enables : List (Option Enable)) : Type 0 where
  pub known : Known p
  pub valued : Valued r
  pub plan : FollowsPlan p r roles enables
  pub names : OwnNames p
  pub single : MovesOnce p
  pub start : IsState p (zero_state p)
  pub start_fits : StateFits p (zero_state p)
  pub states : (st : State) (inputs env : List ℕ) → IsState p st → IsState p (next_state p st inputs env)
  pub bits : (st : State) (inputs env : List ℕ) → IsState p st → StateFits p st → FitsPads (input_pads p) inputs
      → IsEnvironment p st inputs env → GuardsAreBits p env
  pub states_fit : (st : State) (inputs env : List ℕ) → IsState p st → StateFits p st
      → FitsPads (input_pads p) inputs → IsEnvironment p st inputs env
      → StateFits p (next_state p st inputs env)

module _ (p : Program) (r : Rtl) (roles : List Role) (enables : List (Option Enable))
    (given : Premises p r roles enables) where
  record Holding (st : State) : Type 0 where
    fits : IsState p st
    small : StateFits p st
    stacks : StacksFit p st.seats

  scene : (st : State) (inputs env : List ℕ) → Holding st → FitsPads (input_pads p) inputs
      → IsEnvironment p st inputs env → Scene p r roles enables st inputs env
  scene st inputs env h good clock = record {
    known = given.known;
    valued = given.valued;
    plan = given.plan;
    clock = clock;
    fits = h.fits;
    bits = given.bits st inputs env h.fits h.small good clock;
    names = given.names;
    single = given.single;
    stacks = h.stacks;
  }

  stacks_next : (st : State) (inputs env : List ℕ) → Scene p r roles enables st inputs env
      → StacksFit p (next_state p st inputs env).seats
  stacks_next st inputs env s = pick (resets p.defs inputs)
    where
      pick : (a : Bool) → StacksFit p (if a then zero_state p
          else record {
            stored = next_stored (clock_effects p st env) 0 p.defs st.stored;
            seats =
                next_seats p env p.processes st.seats;
          }).seats
      pick true = stacks_zero p
      pick false = stacks_on s

  pub planned_traces : (inputs outputs : List (List ℕ)) → AllByRecursion (FitsPads (input_pads p)) inputs
      → source.IsTrace p inputs outputs → rtl.IsTrace r inputs outputs
  planned_traces = traces p r roles (record { padded = (given.plan).padded; reset = (given.plan).reset })
      (given.plan).cells Holding
      (record { fits = given.start; small = given.start_fits; stacks = stacks_zero p })
      (λ st inputs env h good clock. agreement (scene st inputs env h good clock))
      (λ st inputs env h good clock. record {
        fits = given.states st inputs env h.fits;
        small = given.states_fit st inputs env h.fits h.small good clock;
        stacks = stacks_next st inputs env (scene st inputs env h good clock);
      })

-- ---- programs that write nothing and have no process

append_written : (x : List ℕ) (es gs : List Effect) → source_effects.written x es ≡ []
    → source_effects.written x gs ≡ [] → source_effects.written x (es ++ gs) ≡ []
append_written x [] gs a b = b
append_written x (Writes y v ∷ es) gs a b = pick (is_same y x) a (λ h. append_written x es gs h b)
  where
    pick : (t : Bool) → cond t (v ∷ source_effects.written x es) (source_effects.written x es) ≡ []
        → (source_effects.written x es ≡ [] → source_effects.written x (es ++ gs) ≡ [])
        → cond t (v ∷ source_effects.written x (es ++ gs)) (source_effects.written x (es ++ gs)) ≡ []
    pick true a rest = let e = ap length a in absurd (omega (arith, e))
    pick false a rest = rest a
append_written x (Goes l ∷ es) gs a b = append_written x es gs a b
append_written x (Calls l ∷ es) gs a b = append_written x es gs a b
append_written x (Returns ∷ es) gs a b = append_written x es gs a b

-- no form of the program is a `setq`, it has no process, and nothing is transferred
pub record IsSilent (p : Program) (r : Rtl) (roles : List Role) : Type 0 where
  pub faced : IsFaced p r
  pub cells : AreCells p roles r.cells
  pub none : r.transfers ≡ []
  pub alone : p.processes ≡ []
  pub quiet : (env x : List ℕ) (f : ℕ) → f < length p.forms → source_effects.written x (effects_of p env f) ≡ []

module _ (p : Program) (r : Rtl) (roles : List Role) (known : Known p) (silent : IsSilent p r roles)
    (states : (st : State) (inputs env : List ℕ) → IsState p st → IsState p (next_state p st inputs env))
    (start : IsState p (zero_state p)) where
  no_process : (k : ℕ) (q : Process) → IsAt p.processes k q → ⊥
  no_process k q at = none-some q (subst (λ (qs : List Process). IsAt qs k q) silent.alone at)

  nothing_of : (env x : List ℕ) (fs : List ℕ) → AllByRecursion (λ f. f < length p.forms) fs
      → source_effects.written x (flat_map (effects_of p env) fs) ≡ []
  nothing_of env x [] fit = refl
  nothing_of env x (f ∷ fs) fit =
      append_written x (effects_of p env f) (flat_map (effects_of p env) fs) (silent.quiet env x f fit.0)
      (nothing_of env x fs fit.1)

  nothing_written : (st : State) (env x : List ℕ) → IsState p st
      → source_effects.written x (clock_effects p st env) ≡ []
  nothing_written st env x fits = nothing_of env x (active p st) (all_active (active p st) (λ f c.
      let (o, is_root, on) = active_root p st f fits c in root_in p known o f is_root))
    where
      all_active : (fs : List ℕ) → ((f : ℕ) → Contains fs f → f < length p.forms)
          → AllByRecursion (λ f. f < length p.forms) fs
      all_active [] h = tt
      all_active (f ∷ fs) h = (h f (contains_head f fs), all_active fs (λ g c. h g (contains_behind g f fs c)))

  silent_agreement : (st : State) (inputs env : List ℕ) → IsState p st → IsEnvironment p st inputs env
      → Agreement p r roles st inputs env
  silent_agreement st inputs env fits clock = record {
    cells = silent.cells;
    clock = clock;
    fits = fits;
    values = λ c d x at_d named role.
        ap (λ ts. merged (written (value_of r (cell_values roles env st.seats)) c ts)) silent.none
        ∙ sym (ap merged (nothing_written st env x.name fits));
    places = λ k q at_q c j old role. absurd (no_process k q at_q);
    entries = λ k q at_q c l j old role is_old. absurd (no_process k q at_q);
  }

  pub silent_traces : (inputs outputs : List (List ℕ)) → AllByRecursion (FitsPads (input_pads p)) inputs
      → source.IsTrace p inputs outputs → rtl.IsTrace r inputs outputs
  silent_traces = traces p r roles silent.faced silent.cells (IsState p) start
      (λ st inputs env fits good clock. silent_agreement st inputs env fits clock)
      (λ st inputs env fits good clock. states st inputs env fits)
