-- A clock of a program is one of its transfers.
use Rattle.std.proofs.Common.{
  ◌≡◌,
  inl,
  inr,
  ◌∙◌,
  ℕ,
  zero,
  suc,
  ◌+◌,
  ◌-◌,
  ◌<◌,
  ◌≤◌,
  List,
  [],
  ◌∷◌,
  ◌++◌,
  false,
  cond,
  Option,
  Some,
  refl,
  sym,
  ap,
  subst,
  arith,
  length,
  map,
  take,
  drop,
  replicate,
}
use Rattle.std.specs.Prelude.{Contains, ◌==◌, nat_lt, slice_index, unwrap_or}
use Rattle.std.proofs.lemmas.Bool.{ne_eqb, ltb-true, cases_lt}
use Rattle.std.proofs.lemmas.List.{
  ext_get_or,
  get_or_past,
  get_or-take,
  get_or-drop,
  get_or_append_left,
  get_or-append_right,
  length-map,
  length-replicate,
  length-take,
}
use Rattle.std.proofs.lemmas.Option.{same_Some, none-some, get_or_from_slice_get, slice_get-get_or}
use Rattle.mp_base.specs.Apply.{truth}
use Rattle.mp_base.specs.Merge.{merged}
use Rattle.mp_base.proofs.Induction.{by_test}
use Rattle.mp_base.proofs.Entries.{zeros_at, one_entry, some_entry, map_get, within}
use Rattle.mp_program.specs.declared.program.What.{What}
use Rattle.mp_program.specs.declared.program.What.TheVariants.{
  Power,
  Ground,
  Phia,
  Phib,
  Phic,
  Constant,
  Register,
  Flag,
  Port,
  Signal,
}
use Rattle.mp_program.specs.declared.program.Way.TheVariants.{Input, Output, Internal}
use Rattle.mp_program.specs.declared.program.Def.{Def}
use Rattle.mp_program.specs.declared.program.Process.{Process}
use Rattle.mp_program.specs.declared.program.Program.{Program}
use Rattle.mp_program.specs.Names.{is_supply, is_stored, pad_number}
use Rattle.mp_program.specs.Effects.{Effect, Writes, Goes, Calls, Returns, effects_of}
use Rattle.mp_program.specs.Effects as source
use Rattle.mp_program.specs.State.{State, Seat, SeatsFit, IsState, zero_seat, zero_state}
use Rattle.mp_program.specs.Environment.{IsEnvironment, what_value, driven_value, clock_effects}
use Rattle.mp_program.specs.Step.{wrapped, next_stored, next_seat, next_seats}
use Rattle.mp_program.specs.Weight.{calls_in}
use Rattle.mp_base.specs.Entries.{IsAt}
use Rattle.rtl_form.specs.declared.rtl.Cell.{Cell}
use Rattle.rtl_form.specs.declared.rtl.Rtl.{Rtl}
use Rattle.rtl_form.specs.Written.{written}
use Rattle.rtl_form.specs.Values.{value_of}
use Rattle.rtl_form.specs.Environment as rtl
use Rattle.rtl_form.specs.Step as rtl_step
use Rattle.process_plan.specs.Roles.{
  Role,
  Value,
  Placed,
  Stacked,
  seat_at,
  role_value,
  cell_values,
  def_cell,
  AreCells,
  IsCellOf,
  IsReturnPlace,
}
use Rattle.process_plan.specs.Enables.{Enable}
use Rattle.process_plan.proofs.Members.{zero_or_more}
use Rattle.process_plan.proofs.Moving.{IsMove, moves, some_move}
use Rattle.process_plan.proofs.Copying.{cell_at}
use Rattle.process_plan.proofs.Enabling.{seat_fits}
use Rattle.process_plan.proofs.Scene.{Scene, StacksFit}
use Rattle.process_plan.proofs.Defining.{same_written, root_in}
use Rattle.process_plan.proofs.Jumping.{seat, done, one_done, next_by, next_on}
use Rattle.process_plan.proofs.Placing.{place_next}
use Rattle.process_plan.proofs.Stacking.{entry_next}
use Rattle.process_plan.proofs.Counting.{calls_counted}
use Rattle.process_plan.specs.Active.{At}

-- ---- lists

-- ---- the next state, index by index

next_stored_from : (es : List Effect) (d : ℕ) (xs : List Def) (old : List ℕ) (k : ℕ) (x : Def) → IsAt xs k x
    → slice_index (next_stored es d xs old) k ≡ cond (is_stored x.what)
    (unwrap_or (merged (source.written x.name es)) (slice_index old (d + k))) 0
next_stored_from es d [] old k x at = absurd (none-some x at)
next_stored_from es d (y ∷ ys) old zero x at =
    let e : d ≡ d + 0 = omega arith in
    ap (λ (z : Def). cond (is_stored z.what) (unwrap_or (merged (source.written z.name es)) (slice_index old d)) 0)
    (same_Some y x at)
    ∙ ap (λ j. cond (is_stored x.what) (unwrap_or (merged (source.written x.name es)) (slice_index old j)) 0) e
next_stored_from es d (y ∷ ys) old (suc k) x at =
    let e : suc d + k ≡ d + suc k = omega arith in
    next_stored_from es (suc d) ys old k x at
    ∙ ap (λ j. cond (is_stored x.what) (unwrap_or (merged (source.written x.name es)) (slice_index old j)) 0) e

next_stored_at : (es : List Effect) (xs : List Def) (old : List ℕ) (k : ℕ) (x : Def) → IsAt xs k x
    → slice_index (next_stored es 0 xs old) k ≡ cond (is_stored x.what)
    (unwrap_or (merged (source.written x.name es)) (slice_index old k)) 0
next_stored_at es xs old k x at =
    let e : 0 + k ≡ k = omega arith in
    next_stored_from es 0 xs old k x at ∙ ap (λ j. cond (is_stored x.what)
    (unwrap_or (merged (source.written x.name es)) (slice_index old j)) 0) e

next_cells_from : (r : Rtl) (state env : List ℕ) (c : ℕ) (xs : List Cell) (k : ℕ) (x : Cell) → IsAt xs k x
    → slice_index (rtl_step.next_cells r state env c xs) k
    ≡ cond (rtl.is_stored x.kind) (rtl_step.next_stored r state env (c + k)) 0
next_cells_from r state env c [] k x at = absurd (none-some x at)
next_cells_from r state env c (y ∷ ys) zero x at =
    let e : c ≡ c + 0 = omega arith in
    ap (λ (z : Cell). cond (rtl.is_stored z.kind) (rtl_step.next_stored r state env c) 0) (same_Some y x at)
    ∙ ap (λ j. cond (rtl.is_stored x.kind) (rtl_step.next_stored r state env j) 0) e
next_cells_from r state env c (y ∷ ys) (suc k) x at =
    let e : suc c + k ≡ c + suc k = omega arith in
    next_cells_from r state env (suc c) ys k x at
    ∙ ap (λ j. cond (rtl.is_stored x.kind) (rtl_step.next_stored r state env j) 0) e

length_next_cells : (r : Rtl) (state env : List ℕ) (c : ℕ) (xs : List Cell)
    → length (rtl_step.next_cells r state env c xs) ≡ length xs
length_next_cells r state env c [] = refl
length_next_cells r state env c (x ∷ xs) = ap suc (length_next_cells r state env (suc c) xs)

next_at : (p : Program) (env : List ℕ) (qs : List Process) (ss : List Seat) (k : ℕ) (q : Process) → SeatsFit qs ss
    → IsAt qs k q
    → seat_at (next_seats p env qs ss) k ≡ next_seat q (seat_at ss k)
    (effects_of p env (slice_index q.forms (seat_at ss k).place))
next_at p env [] ss k q fit at = absurd (none-some q at)
next_at p env (x ∷ qs) [] k q fit at = absurd fit
next_at p env (x ∷ qs) (s ∷ ss) zero q fit at = ap
    (λ (z : Process). next_seat z s (effects_of p env (slice_index z.forms s.place))) (same_Some x q at)
next_at p env (x ∷ qs) (s ∷ ss) (suc k) q fit at = next_at p env qs ss k q fit.3 at

zero_seat_at : (qs : List Process) (k : ℕ) (q : Process) → IsAt qs k q → seat_at (map zero_seat qs) k ≡ zero_seat q
zero_seat_at qs k q at = get_or_from_slice_get (map zero_seat qs) k (zero_seat q) _ (map_get zero_seat qs k q at)

-- ---- the cells of definitions

pub cell_named : (ds : List Def) (d : ℕ) (w : What) (x : Cell) → def_cell ds d w ≡ Some x → is_supply w ≡ false
cell_named ds d Power x h = absurd (cc)
cell_named ds d Ground x h = absurd (cc)
cell_named ds d Phia x h = absurd (cc)
cell_named ds d Phib x h = absurd (cc)
cell_named ds d Phic x h = absurd (cc)
cell_named ds d (Constant c) x h = refl
cell_named ds d Register x h = refl
cell_named ds d Flag x h = refl
cell_named ds d (Port w) x h = refl
cell_named ds d (Signal w) x h = refl

cell_value : (ds : List Def) (d : ℕ) (w : What) (x : Cell) (inputs : List ℕ) (stored driven : ℕ)
    → def_cell ds d w ≡ Some x
    → rtl.kind_value x.kind inputs stored driven ≡ what_value w stored (slice_index inputs (pad_number ds d)) driven
cell_value ds d Power x inputs stored driven h = absurd (cc)
cell_value ds d Ground x inputs stored driven h = absurd (cc)
cell_value ds d Phia x inputs stored driven h = absurd (cc)
cell_value ds d Phib x inputs stored driven h = absurd (cc)
cell_value ds d Phic x inputs stored driven h = absurd (cc)
cell_value ds d (Constant c) x inputs stored driven h = absurd (cc)
cell_value ds d Register x inputs stored driven h = ap (λ (z : Cell). rtl.kind_value z.kind inputs stored driven)
    (sym (same_Some _ x h))
cell_value ds d Flag x inputs stored driven h = ap (λ (z : Cell). rtl.kind_value z.kind inputs stored driven)
    (sym (same_Some _ x h))
cell_value ds d (Port Input) x inputs stored driven h =
    ap (λ (z : Cell). rtl.kind_value z.kind inputs stored driven) (sym (same_Some _ x h))
cell_value ds d (Port Output) x inputs stored driven h =
    ap (λ (z : Cell). rtl.kind_value z.kind inputs stored driven) (sym (same_Some _ x h))
cell_value ds d (Port Internal) x inputs stored driven h =
    ap (λ (z : Cell). rtl.kind_value z.kind inputs stored driven) (sym (same_Some _ x h))
cell_value ds d (Signal Input) x inputs stored driven h =
    ap (λ (z : Cell). rtl.kind_value z.kind inputs stored driven) (sym (same_Some _ x h))
cell_value ds d (Signal Output) x inputs stored driven h =
    ap (λ (z : Cell). rtl.kind_value z.kind inputs stored driven) (sym (same_Some _ x h))
cell_value ds d (Signal Internal) x inputs stored driven h =
    ap (λ (z : Cell). rtl.kind_value z.kind inputs stored driven) (sym (same_Some _ x h))

pub cell_stored : (ds : List Def) (d : ℕ) (w : What) (x : Cell) → def_cell ds d w ≡ Some x
    → rtl.is_stored x.kind ≡ is_stored w
cell_stored ds d Power x h = absurd (cc)
cell_stored ds d Ground x h = absurd (cc)
cell_stored ds d Phia x h = absurd (cc)
cell_stored ds d Phib x h = absurd (cc)
cell_stored ds d Phic x h = absurd (cc)
cell_stored ds d (Constant c) x h = absurd (cc)
cell_stored ds d Register x h = ap (λ (z : Cell). rtl.is_stored z.kind) (sym (same_Some _ x h))
cell_stored ds d Flag x h = ap (λ (z : Cell). rtl.is_stored z.kind) (sym (same_Some _ x h))
cell_stored ds d (Port Input) x h = ap (λ (z : Cell). rtl.is_stored z.kind) (sym (same_Some _ x h))
cell_stored ds d (Port Output) x h = ap (λ (z : Cell). rtl.is_stored z.kind) (sym (same_Some _ x h))
cell_stored ds d (Port Internal) x h = ap (λ (z : Cell). rtl.is_stored z.kind) (sym (same_Some _ x h))
cell_stored ds d (Signal Input) x h = ap (λ (z : Cell). rtl.is_stored z.kind) (sym (same_Some _ x h))
cell_stored ds d (Signal Output) x h = ap (λ (z : Cell). rtl.is_stored z.kind) (sym (same_Some _ x h))
cell_stored ds d (Signal Internal) x h = ap (λ (z : Cell). rtl.is_stored z.kind) (sym (same_Some _ x h))

-- In a clock of a program and of transfers, the same is written to what a cell stands for and to the cell.
pub record Agreement (p : Program) (r : Rtl) (roles : List Role) (st : State) (inputs env : List ℕ) : Type 0 where
  pub cells : AreCells p roles r.cells
  pub clock : IsEnvironment p st inputs env
  pub fits : IsState p st
  pub values : (c d : ℕ) (x : Def) → IsAt p.defs d x → is_supply x.what ≡ false → IsAt roles c (Value d)
      → merged (written (value_of r (cell_values roles env st.seats)) c r.transfers)
      ≡ merged (source.written x.name (clock_effects p st env))
  pub places : (k : ℕ) (q : Process) → IsAt p.processes k q → (c j old : ℕ) → IsAt roles c (Placed k j)
      → unwrap_or (merged (written (value_of r (cell_values roles env st.seats)) c r.transfers)) old
      ≡ truth ((next_seat q (seat_at st.seats k) (effects_of p env
      (slice_index q.forms (seat_at st.seats k).place))).place == j)
  pub entries : (k : ℕ) (q : Process) → IsAt p.processes k q → (c l j old : ℕ) → IsAt roles c (Stacked k l j)
      → old ≡ truth (slice_index (seat_at st.seats k).stack l == j)
      → unwrap_or (merged (written (value_of r (cell_values roles env st.seats)) c r.transfers)) old
      ≡ truth (slice_index (next_seat q (seat_at st.seats k)
      (effects_of p env (slice_index q.forms (seat_at st.seats k).place))).stack l == j)

-- transfers that follow a plan agree with the program
pub agreement : {p : Program} {r : Rtl} {roles : List Role} {enables : List
    (Option Enable)} {st : State} {inputs env : List ℕ}
    → Scene p r roles enables st inputs env → Agreement p r roles st inputs env
agreement s = record {
  cells = (s.plan).cells;
  clock = s.clock;
  fits = s.fits;
  values = λ c d x at_d named role. same_written s c d x at_d named role;
  places = λ k q at_q c j old role. place_next s k q at_q c j old role;
  entries = λ k q at_q c l j old role is_old. entry_next s k q at_q c l j old role is_old;
}

module _ {p : Program} {r : Rtl} {roles : List Role} {st : State} {inputs env : List ℕ}
    (s : Agreement p r roles st inputs env) where
  abbrev pub state : List ℕ
  state = cell_values roles st.stored st.seats

  abbrev pub envr : List ℕ
  envr = cell_values roles env st.seats

  -- each cell stands for something
  pub cell_role : (c : ℕ) (x : Cell) → IsAt r.cells c x → (t : Role) × IsAt roles c t × IsCellOf p t x
  cell_role c x at =
      let size = (s.cells).size in
      let lt = within r.cells c at in
      let (t, at_t) = some_entry roles c (omega (arith, lt, size)) in
      let (y, at_y, is_cell) = (s.cells).each c t at_t in
      (t, at_t, subst (IsCellOf p t) (one_entry r.cells c y x at_y at) is_cell)

  -- ---- the environment

  role_environment : (c : ℕ) (x : Cell) (t : Role) → IsAt roles c t → IsCellOf p t x
      → slice_index envr c ≡ rtl.kind_value x.kind inputs (slice_index state c) (rtl.driven_value r envr c)
  role_environment c x (Value d) at_t (y, at_y, is) =
      let driven : rtl.driven_value r envr c ≡ driven_value p st env y =
      ap (λ m. unwrap_or m 0) (s.values c d y at_y (cell_named p.defs d y.what x is) at_t) in
      cell_at roles env st.seats c (Value d) at_t
      ∙ (s.clock).values d y at_y
      ∙ sym (ap (rtl.kind_value x.kind inputs (slice_index state c)) driven
      ∙ ap (λ n. rtl.kind_value x.kind inputs n (driven_value p st env y))
      (cell_at roles st.stored st.seats c (Value d) at_t)
      ∙ cell_value p.defs d y.what x inputs (slice_index st.stored d) (driven_value p st env y) is)
  role_environment c x (Placed k j) at_t (q, at_q, pos, lt, is) =
      cell_at roles env st.seats c (Placed k j) at_t ∙ sym (cell_at roles st.stored st.seats c (Placed k j) at_t)
      ∙ ap (λ (z : Cell). rtl.kind_value z.kind inputs (slice_index state c) (rtl.driven_value r envr c)) (sym is)
  role_environment c x (Stacked k l j) at_t (q, at_q, lt, is_place, is) =
      cell_at roles env st.seats c (Stacked k l j) at_t ∙ sym (cell_at roles st.stored st.seats c (Stacked k l j) at_t)
      ∙ ap (λ (z : Cell). rtl.kind_value z.kind inputs (slice_index state c) (rtl.driven_value r envr c)) (sym is)

  -- the cells have the values of what they stand for
  pub environment : rtl.IsEnvironment r state inputs envr
  environment = record {
    size = length-map roles (role_value env st.seats) ∙ sym (s.cells).size;
    values = λ c x at. let (t, at_t, is) = cell_role c x at in role_environment c x t at_t is;
  }

  -- ---- the next state

  abbrev pub onward : State
  onward = record {
    stored = next_stored (clock_effects p st env) 0 p.defs st.stored;
    seats =
        next_seats p env p.processes st.seats;
  }

  role_next : (c : ℕ) (x : Cell) (t : Role) → IsAt roles c t → IsCellOf p t x
      → cond (rtl.is_stored x.kind) (rtl_step.next_stored r state envr c) 0 ≡ role_value onward.stored onward.seats t
  role_next c x (Value d) at_t (y, at_y, is) =
      ap (λ b. cond b (rtl_step.next_stored r state envr c) 0) (cell_stored p.defs d y.what x is)
      ∙ ap (λ m. cond (is_stored y.what) (unwrap_or m (slice_index state c)) 0)
      (s.values c d y at_y (cell_named p.defs d y.what x is) at_t)
      ∙ ap (λ n. cond (is_stored y.what) (unwrap_or (merged (source.written y.name (clock_effects p st env))) n) 0)
      (cell_at roles st.stored st.seats c (Value d) at_t)
      ∙ sym (next_stored_at (clock_effects p st env) p.defs st.stored d y at_y)
  role_next c x (Placed k j) at_t (q, at_q, pos, lt, is) =
      ap (λ (z : Cell). cond (rtl.is_stored z.kind) (rtl_step.next_stored r state envr c) 0) is
      ∙ s.places k q at_q c j (slice_index state c) at_t
      ∙ sym (ap (λ (z : Seat). truth (z.place == j)) (next_at p env p.processes st.seats k q (s.fits).seats at_q))
  role_next c x (Stacked k l j) at_t (q, at_q, lt, is_place, is) =
      ap (λ (z : Cell). cond (rtl.is_stored z.kind) (rtl_step.next_stored r state envr c) 0) is
      ∙ s.entries k q at_q c l j (slice_index state c) at_t (cell_at roles st.stored st.seats c (Stacked k l j) at_t)
      ∙ sym (ap (λ (z : Seat). truth (slice_index z.stack l == j))
      (next_at p env p.processes st.seats k q (s.fits).seats at_q))

  pub next_kept : rtl_step.next_cells r state envr 0 r.cells ≡ cell_values roles onward.stored onward.seats
  next_kept =
      let long = length_next_cells r state envr 0 r.cells in
      let size = (s.cells).size in
      let mapped = length-map roles (role_value onward.stored onward.seats) in
      ext_get_or 0 (rtl_step.next_cells r state envr 0 r.cells) (cell_values roles onward.stored onward.seats)
      (omega (arith, long, size, mapped)) (λ c lt.
      let (x, at) = some_entry r.cells c (omega (arith, lt, long)) in
      let (t, at_t, is) = cell_role c x at in
      let e : 0 + c ≡ c = omega arith in
      next_cells_from r state envr 0 r.cells c x at ∙ ap
      (λ n. cond (rtl.is_stored x.kind) (rtl_step.next_stored r state envr n) 0) e
      ∙ role_next c x t at_t is ∙ sym (cell_at roles onward.stored onward.seats c t at_t))

-- ---- the state of zeros

module _ (p : Program) (r : Rtl) (roles : List Role) (size : length r.cells ≡ length roles)
    (each : (c : ℕ) (t : Role) → IsAt roles c t → (x : Cell) × IsAt r.cells c x × IsCellOf p t x) where
  zero_role : (t : Role) (x : Cell) → IsCellOf p t x → role_value (zero_state p).stored (zero_state p).seats t ≡ 0
  zero_role (Value d) x (y, at_y, is) = zeros_at (length p.defs) d
  zero_role (Placed k j) x (q, at_q, pos, lt, is) =
      ap (λ (z : Seat). truth (z.place == j)) (zero_seat_at p.processes k q at_q)
      ∙ ap truth (ne_eqb 0 j (λ e. omega (arith, e, pos)))
  zero_role (Stacked k l j) x (q, at_q, lt, (pos, in_j, calls_there), is) =
      ap (λ (z : Seat). truth (slice_index z.stack l == j)) (zero_seat_at p.processes k q at_q)
      ∙ ap (λ n. truth (n == j)) (zeros_at q.depth l) ∙ ap truth (ne_eqb 0 j (λ e. omega (arith, e, pos)))

  -- all cells are 0 in it
  pub zero_kept : rtl_step.zero_state r ≡ cell_values roles (zero_state p).stored (zero_state p).seats
  zero_kept =
      let long = length-replicate {A = ℕ} (length r.cells) 0 in
      let mapped = length-map roles (role_value (zero_state p).stored (zero_state p).seats) in
      ext_get_or 0 (rtl_step.zero_state r) (cell_values roles (zero_state p).stored (zero_state p).seats)
      (omega (arith, long, size, mapped)) (λ c lt.
      let (t, at_t) = some_entry roles c (omega (arith, lt, long, size)) in
      let (x, at_x, is) = each c t at_t in
      zeros_at (length r.cells) c ∙ sym (cell_at roles (zero_state p).stored (zero_state p).seats c t at_t
      ∙ zero_role t x is))

-- ---- stacks

wrapped_in : (q : Process) (n : ℕ) → 0 < wrapped q n → (n < length q.forms) × (wrapped q n ≡ n)
wrapped_in q n pos = by_test (nat_lt n (length q.forms))
    (λ h. (ltb-true n (length q.forms) h, ap (λ b. cond b n 0) h))
    (λ h. let e : wrapped q n ≡ 0 = ap (λ b. cond b n 0) h in absurd (omega (arith, e, pos)))

-- an entry of a stack that is cut to its depth
taken_entry : (n : ℕ) (xs : List ℕ) (l : ℕ) → 0 < slice_index (take n xs) l → (l < n)
    × (slice_index (take n xs) l ≡ slice_index xs l)
taken_entry n xs l pos = elim (cases_lt l n) [
  | inl lt ↦ (lt, get_or-take n xs l 0 lt)
  | inr le ↦
      let size = length-take n xs in
      let e = get_or_past (take n xs) l 0 (omega (arith, size, le)) in
      absurd (omega (arith, e, pos))
]

after_all : (xs : List ℕ) (l : ℕ) → 0 < slice_index (xs ++ 0 ∷ []) l → slice_index (xs ++ 0 ∷ []) l ≡ slice_index xs l
after_all xs l pos = elim (cases_lt l (length xs)) [
  | inl lt ↦ get_or_append_left xs (0 ∷ []) 0 l lt
  | inr le ↦
      let e = get_or-append_right xs (0 ∷ []) (length xs) l 0 refl le in
      let z = zeros_at 1 (l - length xs) in
      absurd (omega (arith, e, z, pos))
]

module _ {p : Program} {r : Rtl} {roles : List Role} {enables : List (Option Enable)} {st : State} {inputs env : List ℕ}
    (s : Scene p r roles enables st inputs env)
    (k : ℕ) (q : Process) (at_q : IsAt p.processes k q) where
  abbrev from_here : Seat
  from_here = seat s k q at_q

  abbrev does : List Effect
  does = done s k q at_q

  one : moves does ≤ 1
  one = one_done s k q at_q

  range : from_here.place < length q.forms
  range = (seat_fits p st k q s.fits at_q).0

  same_stack : (l : ℕ) (next : Seat) → next.stack ≡ from_here.stack → 0 < slice_index next.stack l
      → IsReturnPlace p q (slice_index next.stack l)
  same_stack l next e pos = subst (λ xs. IsReturnPlace p q (slice_index xs l)) (sym e)
      (s.stacks k l q at_q (subst (λ xs. 0 < slice_index xs l) e pos))

  -- what a call pushes is 0 or a place to which a call returns
  pushed_place : (m : List ℕ) → Contains does (Calls m) → (l : ℕ)
      → 0 < slice_index (wrapped q (from_here.place + 1) ∷ from_here.stack) l
      → IsReturnPlace p q (slice_index (wrapped q (from_here.place + 1) ∷ from_here.stack) l)
  pushed_place m cm zero pos =
      let (lt, e) = wrapped_in q (from_here.place + 1) pos in
      let before : wrapped q (from_here.place + 1) - 1 ≡ from_here.place = omega (arith, e) in
      let root_f = slice_index q.forms from_here.place in
      let counted : 0 < calls_in p root_f = calls_counted p env s.known root_f
      (root_in p s.known (At k from_here.place) root_f
      (q, at_q, slice_get-get_or q.forms from_here.place 0 range)) m cm in
      (pos, omega (arith, lt, e), subst (λ n. 0 < calls_in p (slice_index q.forms n)) (sym before) counted)
  pushed_place m cm (suc l) pos = s.stacks k l q at_q pos

  by_move : (l : ℕ) (next : Seat) → next ≡ next_seat q from_here does → 0 < slice_index next.stack l → (m : Effect)
      → Contains does m → IsMove m
      → IsReturnPlace p q (slice_index next.stack l)
  by_move l next is_next pos (Writes x v) cm is = absurd is
  by_move l next is_next pos (Goes x) cm is = same_stack l next
      (ap (λ (z : Seat). z.stack) (is_next ∙ next_by q from_here does (Goes x) cm tt one)) pos
  by_move l next is_next pos (Calls x) cm is =
      let e : next.stack ≡ take q.depth (wrapped q (from_here.place + 1) ∷ from_here.stack) =
      ap (λ (z : Seat). z.stack) (is_next ∙ next_by q from_here does (Calls x) cm tt one) in
      let pos2 : 0 < slice_index (take q.depth (wrapped q (from_here.place + 1) ∷ from_here.stack)) l =
      subst (λ xs. 0 < slice_index xs l) e pos in
      let (lt, same) = taken_entry q.depth (wrapped q (from_here.place + 1) ∷ from_here.stack) l pos2 in
      subst (IsReturnPlace p q) (sym (ap (λ xs. slice_index xs l) e ∙ same))
      (pushed_place x cm l (subst (λ n. 0 < n) same pos2))
  by_move l next is_next pos Returns cm is =
      let e : next.stack ≡ take q.depth (drop 1 from_here.stack ++ 0 ∷ []) =
      ap (λ (z : Seat). z.stack) (is_next ∙ next_by q from_here does Returns cm tt one) in
      let pos2 : 0 < slice_index (take q.depth (drop 1 from_here.stack ++ 0 ∷ [])) l =
      subst (λ xs. 0 < slice_index xs l) e pos in
      let (lt, same) = taken_entry q.depth (drop 1 from_here.stack ++ 0 ∷ []) l pos2 in
      let pos3 : 0 < slice_index (drop 1 from_here.stack ++ 0 ∷ []) l = subst (λ n. 0 < n) same pos2 in
      let back : slice_index (drop 1 from_here.stack ++ 0 ∷ []) l ≡ slice_index from_here.stack (1 + l) =
      after_all (drop 1 from_here.stack) l pos3 ∙ get_or-drop 1 from_here.stack l 0 in
      subst (IsReturnPlace p q) (sym (ap (λ xs. slice_index xs l) e ∙ same ∙ back))
      (s.stacks k (1 + l) q at_q (subst (λ n. 0 < n) back pos3))

  pub seat_kept : (l : ℕ) (next : Seat) → next ≡ next_seat q from_here does → 0 < slice_index next.stack l
      → IsReturnPlace p q (slice_index next.stack l)
  seat_kept l next is_next pos = elim (zero_or_more (moves does)) [
    | inl none ↦ same_stack l next (ap (λ (z : Seat). z.stack) (is_next ∙ next_on q from_here does none)) pos
    | inr more ↦ let (m, cm, is) = some_move does more in by_move l next is_next pos m cm is
  ]

-- the entries of stacks stay 0 or places to which calls return
pub stacks_on : {p : Program} {r : Rtl} {roles : List Role} {enables : List
    (Option Enable)} {st : State} {inputs env : List ℕ}
    → Scene p r roles enables st inputs env → StacksFit p (next_seats p env p.processes st.seats)
stacks_on {p} {st} {env} s = λ k l q at_q pos.
    seat_kept s k q at_q l (seat_at (next_seats p env p.processes st.seats) k)
    (next_at p env p.processes st.seats k q (s.fits).seats at_q) pos

pub stacks_zero : (p : Program) → StacksFit p (zero_state p).seats
stacks_zero p = λ k l q at_q pos.
    let e = zero_seat_at p.processes k q at_q in
    let z = zeros_at q.depth l in
    let pos2 : 0 < slice_index (replicate q.depth 0) l = subst (λ (t : Seat). 0 < slice_index t.stack l) e pos in
    absurd (omega (arith, z, pos2))
