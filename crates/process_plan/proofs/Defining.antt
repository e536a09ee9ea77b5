-- What is written to a definition is written to its cell.
use Rattle.std.proofs.Common.{
  ◌≡◌,
  inl,
  inr,
  ◌∙◌,
  ℕ,
  zero,
  suc,
  ◌<◌,
  List,
  [],
  ◌∷◌,
  Bool,
  true,
  false,
  cond,
  Option,
  Some,
  refl,
  sym,
  ap,
  subst,
  arith,
  length,
}
use Rattle.std.specs.Prelude.{Contains, slice_index}
use Rattle.std.specs.List.{AllByRecursion}
use Rattle.std.proofs.lemmas.List.Elements.{Contains-append_left, Contains-append_right, Contains-append_cases}
use Rattle.std.proofs.lemmas.Slice.Eq.{bytes_eq-Decides}
use Rattle.std.proofs.lemmas.Option.{same_Some, none-some, get_or_from_slice_get, slice_get-get_or}
use Rattle.mp_base.specs.Merge.{merged}
use Rattle.mp_base.specs.declared.refusal.Place.{Place}
use Rattle.mp_base.proofs.Contents.{contains_behind, nothing_in, contains_from_flat, contains_flat}
use Rattle.mp_base.proofs.Induction.{by_test}
use Rattle.mp_program.specs.declared.program.FormKind.{FormKind}
use Rattle.mp_program.specs.declared.program.FormKind.TheVariants.{Set, Cond, Par, Go, Call, Return}
use Rattle.mp_program.specs.declared.program.Def.{Def}
use Rattle.mp_program.specs.declared.program.Form.{Form}
use Rattle.mp_program.specs.declared.program.Process.{Process}
use Rattle.mp_program.specs.declared.program.Program.{Program}
use Rattle.mp_program.specs.Names.{is_same, is_supply, index_of}
use Rattle.mp_program.specs.Effects.{Effect, Writes, Goes, Calls, Returns, effects_of}
use Rattle.mp_program.specs.Sound.{InnerFit}
use Rattle.mp_program.specs.Effects as source
use Rattle.mp_program.specs.State.{State, Seat, SeatsFit, IsState, places_taken, active}
use Rattle.mp_program.specs.Environment.{clock_effects}
use Rattle.mp_program.specs.Values as from
use Rattle.mp_base.specs.Entries.{IsAt}
use Rattle.rtl_form.specs.declared.rtl.Rtl.{Rtl}
use Rattle.rtl_form.specs.declared.rtl.Transfer.{Transfer}
use Rattle.rtl_form.specs.Written.{written}
use Rattle.process_plan.specs.Lawful.{Known}
use Rattle.process_plan.specs.Roles.{Role, Value, Placed, Stacked, seat_at}
use Rattle.process_plan.specs.Active.{own_effects, Origin, Always, At, IsRoot, IsOn}
use Rattle.process_plan.specs.Enables.{Enable, copy_of}
use Rattle.process_plan.specs.Plan.{IsPlanned, sets, falls, lands, returns, pushes, sinks, rises, empties}
use Rattle.process_plan.proofs.Merging.{same_merge}
use Rattle.mp_program.proofs.Definitions.{named}
use Rattle.mp_base.proofs.Entries.{one_entry, each_at, read_of}
use Rattle.process_plan.proofs.Members.{cases_of}
use Rattle.process_plan.proofs.Doing.{effect_source, source_effect}
use Rattle.process_plan.proofs.Copying.{copied}
use Rattle.process_plan.proofs.Scene.{Scene, in_written, written_in, W, w_forth, w_back}

-- ---- what is active

all_in : (n : ℕ) (fs : List ℕ) (f : ℕ) → AllByRecursion (λ x. x < n) fs → Contains fs f → f < n
all_in n [] f fit c = absurd (nothing_in f c)
all_in n (g ∷ fs) f fit (zero, lt, is) = subst (λ x. x < n) is fit.0
all_in n (g ∷ fs) f fit (suc k, lt, is) = all_in n fs f fit.1 (k, omega (arith, lt), is)

pub root_in : (p : Program) → Known p → (o : Origin) (root : ℕ) → IsRoot p o root → root < length p.forms
root_in p known Always root c = all_in (length p.forms) p.always root (known.sound).always c
root_in p known (At k i) root (q, at, at_i) =
    each_at (λ f. f < length p.forms) q.forms i root
    (each_at (λ (t : Process). AllByRecursion (λ f. f < length p.forms) t.forms) p.processes k q
    (known.sound).processes at) at_i

in_taken : (qs : List Process) (ss : List Seat) (root : ℕ) → SeatsFit qs ss → Contains (places_taken qs ss) root
    → (k : ℕ) × (q : Process) × IsAt qs k q × IsAt q.forms (seat_at ss k).place root
in_taken [] ss root fit c = absurd (nothing_in root c)
in_taken (q ∷ qs) [] root fit c = absurd fit
in_taken (q ∷ qs) (s ∷ ss) root fit (zero, lt, is) =
    (zero, q, refl, slice_get-get_or q.forms s.place 0 fit.0 ∙ ap Some is)
in_taken (q ∷ qs) (s ∷ ss) root fit (suc j, lt, is) =
    let (k, x, at, at_i) = in_taken qs ss root fit.3 (j, omega (arith, lt), is) in
    (suc k, x, at, at_i)

taken_in : (qs : List Process) (ss : List Seat) (k : ℕ) (q : Process) (root : ℕ) → SeatsFit qs ss → IsAt qs k q
    → IsAt q.forms (seat_at ss k).place root
    → Contains (places_taken qs ss) root
taken_in [] ss k q root fit at at_i = absurd (none-some q at)
taken_in (x ∷ qs) [] k q root fit at at_i = absurd fit
taken_in (x ∷ qs) (s ∷ ss) zero q root fit at at_i = (
  zero,
  omega arith,
  ap (λ (t : Process). slice_index t.forms s.place) (same_Some x q at)
      ∙ get_or_from_slice_get q.forms s.place root 0 at_i,
)
taken_in (x ∷ qs) (s ∷ ss) (suc k) q root fit at at_i =
    contains_behind root (slice_index x.forms s.place) (places_taken qs ss)
    (taken_in qs ss k q root fit.3 at at_i)

pub active_root : (p : Program) (st : State) (root : ℕ) → IsState p st → Contains (active p st) root → (o : Origin)
    × IsRoot p o root × IsOn st.seats o
active_root p st root fits c = elim (Contains-append_cases p.always (places_taken p.processes st.seats) root c) [
  | inl always ↦ (Always, always, tt)
  | inr taken ↦ let (k, q, at, at_i) = in_taken p.processes st.seats root fits.seats taken in
      (At k (seat_at st.seats k).place, (q, at, at_i), refl)
]

pub root_active : (p : Program) (st : State) (root : ℕ) (o : Origin) → IsState p st → IsRoot p o root
    → IsOn st.seats o → Contains (active p st) root
root_active p st root Always fits c on = Contains-append_left p.always (places_taken p.processes st.seats) root c
root_active p st root (At k i) fits (q, at, at_i) on =
    Contains-append_right p.always (places_taken p.processes st.seats) root
    (taken_in p.processes st.seats k q root fits.seats at (subst (λ n. IsAt q.forms n root) (sym on) at_i))

-- ---- what is written to a name

in_source : (x : List ℕ) (es : List Effect) (w : ℕ) → Contains (source.written x es) w → (y : List ℕ)
    × Contains es (Writes y w) × (y ≡ x)
in_source x [] w c = absurd (nothing_in w c)
in_source x (Writes y v ∷ es) w c = by_test (is_same y x)
    (λ e. elim (cases_of w v (source.written x es) (subst
    (λ b. Contains (cond b (v ∷ source.written x es) (source.written x es)) w) e c))
    as (λ _. (z : List ℕ) × Contains (Writes y v ∷ es) (Writes z w) × (z ≡ x)) [
      | inl is ↦ (y, (zero, omega arith, ap (Writes y) is), (bytes_eq-Decides y x).0 e)
      | inr more ↦ let (z, cz, h) = in_source x es w more in (z, contains_behind (Writes z w) (Writes y v) es cz, h)
    ])
    (λ e. let (z, cz, h) = in_source x es w (subst (λ b. Contains
    (cond b (v ∷ source.written x es) (source.written x es)) w) e c) in
    (z, contains_behind (Writes z w) (Writes y v) es cz, h))
in_source x (Goes l ∷ es) w c = let (z, cz, h) = in_source x es w c in
    (z, contains_behind (Writes z w) (Goes l) es cz, h)
in_source x (Calls l ∷ es) w c = let (z, cz, h) = in_source x es w c in
    (z, contains_behind (Writes z w) (Calls l) es cz, h)
in_source x (Returns ∷ es) w c = let (z, cz, h) = in_source x es w c in
    (z, contains_behind (Writes z w) Returns es cz, h)

abbrev effect_target : Effect → List ℕ
effect_target (Writes x v) = x
effect_target _ = []

abbrev is_write : Effect → Bool
is_write (Writes x v) = true
is_write _ = false

abbrev value_written : Effect → ℕ
value_written (Writes x v) = v
value_written _ = 0

source_in : (x : List ℕ) (es : List Effect) (w : ℕ) → Contains es (Writes x w) → Contains (source.written x es) w
source_in x [] w c = absurd (nothing_in (Writes x w) c)
source_in x (Writes y v ∷ es) w (zero, lt, is) =
    let e : is_same y x ≡ true = (bytes_eq-Decides y x).1 (ap effect_target is) in
    subst (λ b. Contains (cond b (v ∷ source.written x es) (source.written x es)) w) (sym e)
    (zero, omega arith, ap value_written is)
source_in x (Writes y v ∷ es) w (suc k, lt, is) = pick (is_same y x) (source_in x es w (k, omega (arith, lt), is))
  where
    pick : (b : Bool) → Contains (source.written x es) w
        → Contains (cond b (v ∷ source.written x es) (source.written x es)) w
    pick true c = contains_behind w v (source.written x es) c
    pick false c = c
source_in x (Goes l ∷ es) w (zero, lt, is) = let clash = ap is_write is in absurd (cc)
source_in x (Goes l ∷ es) w (suc k, lt, is) = source_in x es w (k, omega (arith, lt), is)
source_in x (Calls l ∷ es) w (zero, lt, is) = let clash = ap is_write is in absurd (cc)
source_in x (Calls l ∷ es) w (suc k, lt, is) = source_in x es w (k, omega (arith, lt), is)
source_in x (Returns ∷ es) w (zero, lt, is) = let clash = ap is_write is in absurd (cc)
source_in x (Returns ∷ es) w (suc k, lt, is) = source_in x es w (k, omega (arith, lt), is)

-- a form that writes is a `setq`
own_write : (v : ℕ → ℕ) (k : FormKind) (x : List ℕ) (w : ℕ) → Contains (own_effects v k) (Writes x w) → (at : Place)
    × (e : ℕ) × (k ≡ Set x at e) × (v e ≡ w)
own_write v (Set y at e) x w (zero, lt, is) = (at, e, ap (λ n. Set n at e) (ap effect_target is), ap value_written is)
own_write v (Set y at e) x w (suc k, lt, is) = absurd (omega (arith, lt))
own_write v (Cond bs) x w c = absurd (nothing_in (Writes x w) c)
own_write v (Par fs) x w c = absurd (nothing_in (Writes x w) c)
own_write v (Go l) x w (zero, lt, is) = let clash = ap is_write is in absurd (cc)
own_write v (Go l) x w (suc k, lt, is) = absurd (omega (arith, lt))
own_write v (Call l) x w (zero, lt, is) = let clash = ap is_write is in absurd (cc)
own_write v (Call l) x w (suc k, lt, is) = absurd (omega (arith, lt))
own_write v Return x w (zero, lt, is) = let clash = ap is_write is in absurd (cc)
own_write v Return x w (suc k, lt, is) = absurd (omega (arith, lt))

abbrev role_value_index : Role → ℕ
role_value_index (Value d) = suc d
role_value_index _ = 0

-- a cell stands for one thing
pub value_role : (roles : List Role) (c d e : ℕ) → IsAt roles c (Value d) → IsAt roles c (Value e) → d ≡ e
value_role roles c d e x y = let h = ap role_value_index (one_entry roles c (Value d) (Value e) x y) in omega (arith, h)

pub placed_role : (roles : List Role) (c d k j : ℕ) → IsAt roles c (Value d) → IsAt roles c (Placed k j) → ⊥
placed_role roles c d k j x y = let h = ap role_value_index (one_entry roles c (Value d) (Placed k j) x y) in
    omega (arith, h)

pub stacked_role : (roles : List Role) (c d k l j : ℕ) → IsAt roles c (Value d) → IsAt roles c (Stacked k l j) → ⊥
stacked_role roles c d k l j x y = let h = ap role_value_index (one_entry roles c (Value d) (Stacked k l j) x y) in
    omega (arith, h)

module _ {p : Program} {r : Rtl} {roles : List Role} {enables : List (Option Enable)} {st : State} {inputs env : List ℕ}
    (s : Scene p r roles enables st inputs env) where
  abbrev U : ℕ → ℕ
  U e = W s e

  copy_value : (e : ℕ) → e < length p.exprs → U (copy_of p e) ≡ from.value_of p env e
  copy_value e lt = copied s.known s.valued s.plan s.clock e lt

  set_value : (f : ℕ) (y : Form) (x : List ℕ) (at : Place) (e : ℕ) → IsAt p.forms f y → y.kind ≡ Set x at e
      → e < length p.exprs
  set_value f y x at e here_y is = subst (λ k. InnerFit (length p.exprs) f (length p.forms) k) is
      (((s.known).sound).forms f y here_y)

  -- a transfer to the cell of a definition is that of an active `setq`
  planned_write : (c d : ℕ) (x : Def) (w : ℕ) → IsAt p.defs d x → IsAt roles c (Value d) → (t : Transfer)
      → IsPlanned p r.exprs roles enables t → t.target ≡ c → U t.guard ≡ 1 → U t.value ≡ w
      → Contains (clock_effects p st env) (Writes x.name w)
  planned_write c d x w at_d role t (sets f y n at e o a c2 here_y is has role2) target guard value =
      let same : index_of p.defs n ≡ d = value_role roles c (index_of p.defs n) d
      (subst (λ i. IsAt roles i (Value (index_of p.defs n))) target role2) role in
      let at_n : IsAt p.defs (index_of p.defs n) x = subst (λ i. IsAt p.defs i x) (sym same) at_d in
      let first = read_of p.defs (index_of p.defs n) x at_n in
      let name : x.name ≡ n = named p.defs n x first.0 first.1 in
      let (on, (root, is_root, runs)) = w_back s f o a has guard in
      let exact : from.value_of p env e ≡ w = sym (copy_value e (set_value f y n at e here_y is)) ∙ value in
      let own : Contains (own_effects (from.value_of p env) y.kind) (Writes x.name w) =
      subst (λ k. Contains (own_effects (from.value_of p env) k) (Writes x.name w)) (sym is)
      (zero, omega arith, ap (λ m. Writes m (from.value_of p env e)) (sym name) ∙ ap (Writes x.name) exact) in
      contains_flat (effects_of p env) (active p st) root (Writes x.name w) (root_active p st root o s.fits is_root on)
      (source_effect p env s.known root f y (Writes x.name w) runs here_y own)
  planned_write c d x w at_d role t (falls k i a e c2 is_a is_e role2) target guard value =
      absurd (placed_role roles c d k (suc i) role (subst (λ n. IsAt roles n (Placed k (suc i))) target role2))
  planned_write c d x w at_d role t (lands k i j f y q a c2 at_q here_y to has role2) target guard value =
      absurd (placed_role roles c d k j role (subst (λ n. IsAt roles n (Placed k j)) target role2))
  planned_write c d x w at_d role t (returns k j u e d2 c2 union at_e from_role role2) target guard value =
      absurd (placed_role roles c d k j role (subst (λ n. IsAt roles n (Placed k j)) target role2))
  planned_write c d x w at_d role t (pushes k i u a c2 union is_a role2) target guard value =
      absurd (stacked_role roles c d k 0 (suc i) role (subst (λ n. IsAt roles n (Stacked k 0 (suc i))) target role2))
  planned_write c d x w at_d role t (sinks k l j u e d2 c2 union at_e from_role role2) target guard value =
      absurd (stacked_role roles c d k (suc l) j role (subst (λ n. IsAt roles n (Stacked k (suc l) j)) target role2))
  planned_write c d x w at_d role t (rises k l j u e d2 c2 union at_e from_role role2) target guard value =
      absurd (stacked_role roles c d k l j role (subst (λ n. IsAt roles n (Stacked k l j)) target role2))
  planned_write c d x w at_d role t (empties k l j u c2 q at_q depth union role2) target guard value =
      absurd (stacked_role roles c d k l j role (subst (λ n. IsAt roles n (Stacked k l j)) target role2))

  write_forth : (c d : ℕ) (x : Def) → IsAt p.defs d x → IsAt roles c (Value d) → (w : ℕ)
      → Contains (written U c r.transfers) w
      → Contains (source.written x.name (clock_effects p st env)) w
  write_forth c d x at_d role w h =
      let (t, ct, target, guard, value) = in_written U c r.transfers w h in
      source_in x.name (clock_effects p st env) w (planned_write c d x w at_d role t
      (((s.plan).transfers).only t ct) target guard value)

  write_back : (c d : ℕ) (x : Def) → IsAt p.defs d x → is_supply x.what ≡ false → IsAt roles c (Value d) → (w : ℕ)
      → Contains (source.written x.name (clock_effects p st env)) w → Contains (written U c r.transfers) w
  write_back c d x at_d named role w h =
      let (n, cn, same) = in_source x.name (clock_effects p st env) w h in
      let (root, c_root, c_effect) = contains_from_flat (effects_of p env) (active p st) (Writes n w) cn in
      let (o, is_root, on) = active_root p st root s.fits c_root in
      let (f, y, here_y, runs, own) = effect_source p env s.known root (root_in p s.known o root is_root)
      (Writes n w) c_effect in
      let (at, e, is, value) = own_write (from.value_of p env) y.kind n w own in
      let (a, has, one) = w_forth s o f (on, (root, is_root, runs)) in
      let index : index_of p.defs n ≡ d = ap (index_of p.defs) same ∙ s.names d x at_d named in
      let transferred = ((s.plan).transfers).sets f y n at e o a c here_y is has
      (subst (λ i. IsAt roles c (Value i)) (sym index) role) in
      subst (Contains (written U c r.transfers)) (copy_value e (set_value f y n at e here_y is) ∙ value)
      (written_in U c r.transfers (record { guard = a; target = c; value = copy_of p e }) transferred refl one)

  -- the same is written to a definition and to its cell
  pub same_written : (c d : ℕ) (x : Def) → IsAt p.defs d x → is_supply x.what ≡ false → IsAt roles c (Value d)
      → merged (written U c r.transfers) ≡ merged (source.written x.name (clock_effects p st env))
  same_written c d x at_d named role = same_merge (written U c r.transfers)
      (source.written x.name (clock_effects p st env))
      (write_forth c d x at_d role) (write_back c d x at_d named role)
