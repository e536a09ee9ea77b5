-- What is laid is the cells of a program.
use Rattle.std.proofs.Common.{
  ◌≡◌,
  ◌⊎◌,
  inl,
  inr,
  ◌∙◌,
  ℕ,
  zero,
  suc,
  ◌-◌,
  ◌<◌,
  List,
  [],
  ◌++◌,
  Bool,
  true,
  false,
  Option,
  Some,
  None,
  refl,
  sym,
  ap,
  subst,
  arith,
  length,
  map,
}
use Rattle.std.specs.Prelude.{Contains, nat_lt, slice_get, slice_index}
use Rattle.std.specs.List.{AllByRecursion}
use Rattle.std.specs.Option.{option_map_or}
use Rattle.std.proofs.lemmas.Bool.{lt-ltb, ltb-true}
use Rattle.std.proofs.lemmas.List.Elements.{Contains-append_left, Contains-append_right, Contains-append_cases}
use Rattle.std.proofs.lemmas.Option.{slice_get-get_or}
use Rattle.mp_base.proofs.Contents.{nothing_in}
use Rattle.mp_base.proofs.Numbers.{below_or_last}
use Rattle.mp_base.proofs.Lists.{length_map}
use Rattle.mp_program.specs.declared.program.Process.{Process}
use Rattle.mp_program.specs.declared.program.Program.{Program}
use Rattle.mp_program.specs.Sound.{IsSound}
use Rattle.mp_program.specs.Weight.{calls_in}
use Rattle.mp_base.specs.Entries.{IsAt}
use Rattle.mp_base.proofs.Entries.{contains_from_get, some_entry, each_at, get_from_contains, map_get, within}
use Rattle.rtl_form.specs.declared.rtl.Cell.{Cell}
use Rattle.process_plan.specs.declared.role.Role.{Role}
use Rattle.process_plan.specs.declared.role.Role.TheVariants.{Value, Placed, Stacked}
use Rattle.process_plan.specs.Roles.{AreCells, IsCellOf, IsReturnPlace}
use Rattle.process_plan.proofs.Census.{AreOnce}
use Rattle.process_plan.proofs.Enables.{process_of}
use Rattle.process_layout.specs.Laying.{
  all_roles,
  cell_at,
  cell_for,
  cell_or_bit,
  entry_roles,
  place_roles,
  process_roles,
  processes_roles,
  returns_to,
  value_roles,
}
use Rattle.process_layout.proofs.Once.{once_none, once_both}
use Rattle.process_layout.proofs.Roles.{
  IsOfPlaces,
  IsReturn,
  cell_got,
  entry_in_stack,
  in_entries,
  in_places,
  in_returns,
  in_values,
  once_entries,
  once_places,
  once_returns,
  once_values,
  place_in,
  return_in,
  value_in,
}

-- ---- processes

-- what is among the roles of a process
abbrev IsOfProcess : (ℕ → Bool) → ℕ → Process → Role → Type 0
IsOfProcess calling k q s = IsOfPlaces k (length q.forms - 1) s
    ⊎ ((l j : ℕ) × (l < q.depth) × IsReturn calling q.forms (length q.forms - 1) j × (s ≡ Stacked k l j))

in_process : (calling : ℕ → Bool) (k : ℕ) (q : Process) (s : Role) → Contains (process_roles calling k q) s
    → IsOfProcess calling k q s
in_process calling k q s c =
    elim (Contains-append_cases (place_roles k (length q.forms - 1))
    (entry_roles k (returns_to calling q.forms (length q.forms - 1)) q.depth) s c) as
    (λ _. IsOfProcess calling k q s) [
      | inl left ↦ inl (in_places k (length q.forms - 1) s left)
      | inr right ↦
          let (l, j, lt, at, is) =
          in_entries k (returns_to calling q.forms (length q.forms - 1)) q.depth s right in
          inr (l, j, lt, in_returns calling q.forms (length q.forms - 1) j at, is)
    ]

of_process : (calling : ℕ → Bool) (k : ℕ) (q : Process) (s : Role) → IsOfProcess calling k q s → process_of s ≡ k
of_process calling k q s (inl (j, pos, le, is)) = ap process_of is
of_process calling k q s (inr (l, j, lt, place, is)) = ap process_of is

once_process : (calling : ℕ → Bool) (k : ℕ) (q : Process) → AreOnce (process_roles calling k q)
once_process calling k q =
    once_both (place_roles k (length q.forms - 1))
    (entry_roles k (returns_to calling q.forms (length q.forms - 1)) q.depth)
    (once_places k (length q.forms - 1))
    (once_entries k (returns_to calling q.forms (length q.forms - 1)) q.depth
    (once_returns calling q.forms (length q.forms - 1))) (λ s left right.
    let (j, pos, le, is) = in_places k (length q.forms - 1) s left in
    let (l, i, lt, at, is_too) = in_entries k (returns_to calling q.forms (length q.forms - 1)) q.depth s right in
    let clash = sym is ∙ is_too in absurd (cc))

abbrev maybe_roles : (ℕ → Bool) → ℕ → Option Process → List Role
maybe_roles calling k o = option_map_or (process_roles calling k) o []

in_maybe : (calling : ℕ → Bool) (k : ℕ) (o : Option Process) (s : Role) → Contains (maybe_roles calling k o) s
    → (q : Process) × (o ≡ Some q) × Contains (process_roles calling k q) s
in_maybe calling k (Some q) s c = (q, refl, c)
in_maybe calling k None s c = absurd (nothing_in s c)

once_maybe : (calling : ℕ → Bool) (k : ℕ) (o : Option Process) → AreOnce (maybe_roles calling k o)
once_maybe calling k (Some q) = once_process calling k q
once_maybe calling k None = once_none

-- what is among the roles of the first processes
abbrev IsOfProcesses : (ℕ → Bool) → List Process → ℕ → Role → Type 0
IsOfProcesses calling qs n s = (k : ℕ) × (q : Process) × (k < n) × IsAt qs k q × IsOfProcess calling k q s

in_processes : (calling : ℕ → Bool) (qs : List Process) (n : ℕ) (s : Role)
    → Contains (processes_roles calling qs n) s → IsOfProcesses calling qs n s
in_processes calling qs zero s c = absurd (nothing_in s c)
in_processes calling qs (suc n) s c =
    elim (Contains-append_cases (processes_roles calling qs n) (maybe_roles calling n (slice_get qs n)) s c) [
      | inl left ↦
          let (k, q, lt, at, is) = in_processes calling qs n s left in (k, q, omega (arith, lt), at, is)
      | inr right ↦
          let (q, there, is) = in_maybe calling n (slice_get qs n) s right in
          (n, q, omega arith, there, in_process calling n q s is)
    ]

process_in : (calling : ℕ → Bool) (qs : List Process) (n k : ℕ) (q : Process) (s : Role) → k < n → IsAt qs k q
    → Contains (process_roles calling k q) s → Contains (processes_roles calling qs n) s
process_in calling qs zero k q s lt at c = absurd (omega (arith, lt))
process_in calling qs (suc n) k q s lt at c =
    pick (below_or_last k n lt) (λ below. process_in calling qs n k q s below at c)
  where
    pick : (k ≡ n) ⊎ (k < n) → (k < n → Contains (processes_roles calling qs n) s)
        → Contains (processes_roles calling qs n ++ maybe_roles calling n (slice_get qs n)) s
    pick (inl same) rest =
        Contains-append_right (processes_roles calling qs n) (maybe_roles calling n (slice_get qs n)) s
        (subst (λ m. Contains (maybe_roles calling m (slice_get qs m)) s) same
        (subst (λ o. Contains (maybe_roles calling k o) s) (sym at) c))
    pick (inr below) rest =
        Contains-append_left (processes_roles calling qs n) (maybe_roles calling n (slice_get qs n)) s (rest below)

once_processes : (calling : ℕ → Bool) (qs : List Process) (n : ℕ) → AreOnce (processes_roles calling qs n)
once_processes calling qs zero = once_none
once_processes calling qs (suc n) =
    once_both (processes_roles calling qs n) (maybe_roles calling n (slice_get qs n)) (once_processes calling qs n)
    (once_maybe calling n (slice_get qs n)) (λ s left right.
    let (k, q, lt, at, is) = in_processes calling qs n s left in
    let (x, there, too) = in_maybe calling n (slice_get qs n) s right in
    let one = of_process calling k q s is in
    let two = of_process calling n x s (in_process calling n x s too) in
    omega (arith, lt, one, two))

-- ---- the whole

abbrev is_value : Role → Bool
is_value (Value d) = true
is_value _ = false

not_value : (calling : ℕ → Bool) (k : ℕ) (q : Process) (s : Role) → IsOfProcess calling k q s → is_value s ≡ false
not_value calling k q s (inl (j, pos, le, is)) = ap is_value is
not_value calling k q s (inr (l, j, lt, place, is)) = ap is_value is

module _ (p : Program) (sound : IsSound p) (calling : ℕ → Bool)
    (calls : (f : ℕ) → f < length p.forms → calling f ≡ nat_lt 0 (calls_in p f)) where
  is_inside : (k : ℕ) (q : Process) → IsAt p.processes k q → (i : ℕ) → i < length q.forms
      → slice_index q.forms i < length p.forms
  is_inside k q at i lt =
      let forms = each_at (λ (x : Process). AllByRecursion (λ f. f < length p.forms) x.forms) p.processes k q
      sound.processes at in
      each_at (λ f. f < length p.forms) q.forms i (slice_index q.forms i) forms (slice_get-get_or q.forms i 0 lt)

  -- each role is that of something which has this cell
  value_cell : (d : ℕ) (x : Cell) → d < length p.defs → cell_at p.defs d ≡ Some x
      → IsCellOf p (Value d) (cell_for p.defs (Value d))
  value_cell d x lt made =
      let (y, at) = some_entry p.defs d lt in
      (y, at, sym (cell_got p.defs d y at) ∙ made ∙ ap Some (sym (ap cell_or_bit made)))

  process_cell : (k : ℕ) (q : Process) (s : Role) → IsAt p.processes k q → IsOfProcess calling k q s
      → IsCellOf p s (cell_for p.defs s)
  process_cell k q s at (inl (j, pos, le, is)) =
      subst (λ r. IsCellOf p r (cell_for p.defs r)) (sym is) (q, at, pos, omega (arith, pos, le), refl)
  process_cell k q s at (inr (l, j, lt, (i, below, next, calls_there), is)) =
      let inside = is_inside k q at i (omega (arith, below)) in
      let some_call : nat_lt 0 (calls_in p (slice_index q.forms i)) ≡ true =
      sym (calls (slice_index q.forms i) inside) ∙ calls_there in
      let back : i ≡ j - 1 = omega (arith, next) in
      let place : IsReturnPlace p q j = (
        omega (arith, next),
        omega (arith, next, below),
        subst (λ n. 0 < calls_in p (slice_index q.forms n)) back
            (ltb-true 0 (calls_in p (slice_index q.forms i)) some_call),
      ) in
      subst (λ r. IsCellOf p r (cell_for p.defs r)) (sym is) (q, at, lt, place, refl)

  each_cell : (s : Role) → Contains (all_roles calling p) s → IsCellOf p s (cell_for p.defs s)
  each_cell s c =
      elim (Contains-append_cases (value_roles p.defs (length p.defs))
      (processes_roles calling p.processes (length p.processes)) s c) as
      (λ _. IsCellOf p s (cell_for p.defs s)) [
        | inl left ↦
            let (d, lt, is, (x, made)) = in_values p.defs (length p.defs) s left in
            subst (λ r. IsCellOf p r (cell_for p.defs r)) (sym is) (value_cell d x lt made)
        | inr right ↦
            let (k, q, lt, at, is) = in_processes calling p.processes (length p.processes) s right in
            process_cell k q s at is
      ]

  -- and each of these has a role
  in_process_roles : (k : ℕ) (q : Process) (s : Role) → IsAt p.processes k q
      → Contains (process_roles calling k q) s → Contains (all_roles calling p) s
  in_process_roles k q s at c =
      Contains-append_right (value_roles p.defs (length p.defs))
      (processes_roles calling p.processes (length p.processes)) s
      (process_in calling p.processes (length p.processes) k q s (within p.processes k at) at c)

  all_cells : (s : Role) (x : Cell) → IsCellOf p s x → Contains (all_roles calling p) s
  all_cells (Value d) x (y, at, made) =
      Contains-append_left (value_roles p.defs (length p.defs))
      (processes_roles calling p.processes (length p.processes)) (Value d)
      (value_in p.defs (length p.defs) d x (within p.defs d at) (cell_got p.defs d y at ∙ made))
  all_cells (Placed k j) x (q, at, pos, lt, is) =
      in_process_roles k q (Placed k j) at
      (Contains-append_left (place_roles k (length q.forms - 1))
      (entry_roles k (returns_to calling q.forms (length q.forms - 1)) q.depth) (Placed k j)
      (place_in k (length q.forms - 1) j pos (omega (arith, lt))))
  all_cells (Stacked k l j) x (q, at, lt, (pos, inside, some_call), is) =
      let back : suc (j - 1) ≡ j = omega (arith, pos) in
      let calls_there : calling (slice_index q.forms (j - 1)) ≡ true =
      calls (slice_index q.forms (j - 1)) (is_inside k q at (j - 1) (omega (arith, inside)))
      ∙ lt-ltb 0 (calls_in p (slice_index q.forms (j - 1))) some_call in
      let among = subst (Contains (returns_to calling q.forms (length q.forms - 1))) back
      (return_in calling q.forms (length q.forms - 1) (j - 1) (omega (arith, pos, inside)) calls_there) in
      in_process_roles k q (Stacked k l j) at
      (Contains-append_right (place_roles k (length q.forms - 1))
      (entry_roles k (returns_to calling q.forms (length q.forms - 1)) q.depth) (Stacked k l j)
      (entry_in_stack k (returns_to calling q.forms (length q.forms - 1)) q.depth l j lt among))

  once_all : AreOnce (all_roles calling p)
  once_all =
      once_both (value_roles p.defs (length p.defs)) (processes_roles calling p.processes (length p.processes))
      (once_values p.defs (length p.defs)) (once_processes calling p.processes (length p.processes))
      (λ s left right.
      let (d, lt, is, made) = in_values p.defs (length p.defs) s left in
      let (k, q, below, at, of) = in_processes calling p.processes (length p.processes) s right in
      let clash = sym (ap is_value is) ∙ not_value calling k q s of in absurd (cc))

  pub are_cells : (roles : List Role) (cells : List Cell) → roles ≡ all_roles calling p
      → cells ≡ map (cell_for p.defs) roles → AreCells p roles cells
  are_cells roles cells all made = subst (λ xs. AreCells p roles xs) (sym made)
      (subst (λ rs. AreCells p rs (map (cell_for p.defs) rs)) (sym all) (record {
        size = length_map (cell_for p.defs) (all_roles calling p);
        each = λ c s at. (
          cell_for p.defs s,
          map_get (cell_for p.defs) (all_roles calling p) c s at,
          each_cell s (contains_from_get (all_roles calling p) c s at),
        );
        all = λ s x is. get_from_contains (all_roles calling p) s (all_cells s x is);
        once = λ c d s at_c at_d. once_all c d s at_c at_d;
      }))
