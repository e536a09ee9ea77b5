-- What all transfers cost together.
use Rattle.std.proofs.Common.{
  ◌≡◌,
  ℕ,
  zero,
  suc,
  ◌+◌,
  ◌-◌,
  ◌*◌,
  ◌≤◌,
  List,
  [],
  ◌∷◌,
  true,
  false,
  cond,
  Option,
  refl,
  ap,
  arith,
  length,
  map,
  take,
  count_by,
}
use Rattle.std.specs.List.{sum_by}
use Rattle.std.proofs.lemmas.List.Sums.{sum_by-cons, sum_by-append}
use Rattle.mp_program.specs.declared.program.Process.{Process}
use Rattle.mp_program.specs.declared.program.Program.{Program}
use Rattle.rtl_form.specs.declared.rtl.Cell.{Cell}
use Rattle.process_plan.specs.declared.role.Role.{Role}
use Rattle.process_plan.specs.declared.role.Role.TheVariants.{Value, Placed, Stacked}
use Rattle.process_plan.specs.declared.enable.Enable.{Enable}
use Rattle.process_plan.specs.Roles.{AreCells}
use Rattle.process_plan.specs.Bill.{Tally, transfers_bill}
use Rattle.process_plan.proofs.Census.{
  return_places,
  returns_to,
  placed_to,
  stacked_below,
  values_below,
  process_roles,
  processes_roles,
  roles_within,
  roles_counted,
}
use Rattle.process_layout.specs.Counts.{returns_of, tally_of, tallies_of}
use Rattle.process_layout.proofs.Returning.{returns_same}
use Rattle.process_transfers.specs.declared.roles.Motion.{Motion}
use Rattle.process_transfers.specs.declared.roles.Motion.TheVariants.{Fall, Push, Pop, Back}
use Rattle.process_transfers.specs.Wants.{is_moved, lands_in}

-- ---- the transfers to the places that were popped

abbrev back_price : Role → ℕ
back_price s = cond {A = ℕ} (is_moved Back s) 1 0

no_values : (n : ℕ) → sum_by back_price (values_below n) ≡ 0
no_values zero = refl
no_values (suc n) = let a = sum_by-cons back_price (Value n) (values_below n) in
    let b = no_values n in omega (arith, a, b)

no_places : (k m : ℕ) → sum_by back_price (placed_to k m) ≡ 0
no_places k zero = refl
no_places k (suc m) = let a = sum_by-cons back_price (Placed k (suc m)) (placed_to k m) in
    let b = no_places k m in omega (arith, a, b)

top_level : (k : ℕ) (js : List ℕ) → sum_by back_price (map (Stacked k 0) js) ≡ length js
top_level k [] = refl
top_level k (j ∷ js) = let a = sum_by-cons back_price (Stacked k 0 j) (map (Stacked k 0) js) in
    let b = top_level k js in omega (arith, a, b)

lower_level : (k l : ℕ) (js : List ℕ) → sum_by back_price (map (Stacked k (suc l)) js) ≡ 0
lower_level k l [] = refl
lower_level k l (j ∷ js) = let a = sum_by-cons back_price (Stacked k (suc l) j) (map (Stacked k (suc l)) js) in
    let b = lower_level k l js in omega (arith, a, b)

entries_low : (k d : ℕ) (js : List ℕ) → sum_by back_price (stacked_below k js d) ≤ length js
entries_low k zero js = omega arith
entries_low k (suc zero) js =
    let a = sum_by-append back_price (map (Stacked k 0) js) (stacked_below k js 0) in
    let b = top_level k js in omega (arith, a, b)
entries_low k (suc (suc l)) js =
    let a = sum_by-append back_price (map (Stacked k (suc l)) js) (stacked_below k js (suc l)) in
    let b = lower_level k l js in
    let c = entries_low k (suc l) js in omega (arith, a, b, c)

backs_low : (p : Program) (j : ℕ) (qs : List Process)
    → sum_by back_price (processes_roles p j qs) ≤ sum_by (returns_to p) qs
backs_low p j [] = omega arith
backs_low p j (q ∷ qs) =
    let a = sum_by-append back_price (process_roles p j q) (processes_roles p (suc j) qs) in
    let b = sum_by-append back_price (placed_to j (length q.forms - 1))
    (stacked_below j (return_places p q (length q.forms - 1)) q.depth) in
    let c = no_places j (length q.forms - 1) in
    let d = entries_low j q.depth (return_places p q (length q.forms - 1)) in
    let e = sum_by-cons (returns_to p) q qs in
    let rest = backs_low p (suc j) qs in omega (arith, a, b, c, d, e, rest)

pub backs_counted : (p : Program) (roles : List Role) (xs : List Cell) → AreCells p roles xs
    → count_by (is_moved Back) roles ≤ sum_by (returns_to p) p.processes
backs_counted p roles xs are =
    let a = roles_within p roles xs back_price are in
    let b = sum_by-append back_price (values_below (length p.defs)) (processes_roles p 0 p.processes) in
    let c = no_values (length p.defs) in
    let d = backs_low p 0 p.processes in omega (arith, a, b, c, d)

pub falls_counted : (p : Program) (roles : List Role) (xs : List Cell) → AreCells p roles xs
    → count_by (is_moved Fall) roles ≤ sum_by
    (λ (q : Process). 1 * (length q.forms - 1) + 0 * (q.depth * returns_to p q)) p.processes
falls_counted p roles xs are = roles_counted p roles xs (λ s. cond {A = ℕ} (is_moved Fall s) 1 0) 1 0 are
    (λ d. refl) (λ k j. refl) (λ k l j. refl)

pub entries_counted : (p : Program) (roles : List Role) (xs : List Cell) (m : Motion) → AreCells p roles xs
    → ((d : ℕ) → is_moved m (Value d) ≡ false) → ((k j : ℕ) → is_moved m (Placed k j) ≡ false)
    → ((k l j : ℕ) → is_moved m (Stacked k l j) ≡ true)
    → count_by (is_moved m) roles ≤ sum_by
    (λ (q : Process). 0 * (length q.forms - 1) + 1 * (q.depth * returns_to p q)) p.processes
entries_counted p roles xs m are value place entry = roles_counted p roles xs (λ s. cond {A =
    ℕ} (is_moved m s) 1 0) 0 1 are
    (λ d. ap (λ b. cond {A = ℕ} b 1 0) (value d)) (λ k j. ap (λ b. cond {A = ℕ} b 1 0) (place k j))
    (λ k l j. ap (λ b. cond {A = ℕ} b 1 0) (entry k l j))

-- ---- the whole

abbrev landing : Tally → ℕ
landing t = t.goes + t.calls

lands_tallied : (p : Program) (enables : List (Option Enable)) (j : ℕ) (qs : List Process)
    → lands_in (j + length qs) p.forms enables
    ≡ lands_in j p.forms enables + sum_by landing (tallies_of p enables j qs)
lands_tallied p enables j [] =
    let start : j + 0 ≡ j = omega arith in
    let same : lands_in (j + 0) p.forms enables ≡ lands_in j p.forms enables =
    ap (λ n. lands_in n p.forms enables) start in
    omega (arith, same)
lands_tallied p enables j (q ∷ qs) =
    let shift : j + suc (length qs) ≡ suc j + length qs = omega arith in
    let same : lands_in (j + suc (length qs)) p.forms enables ≡ lands_in (suc j + length qs) p.forms enables =
    ap (λ n. lands_in n p.forms enables) shift in
    let rest = lands_tallied p enables (suc j) qs in
    let total = sum_by-cons landing (tally_of p enables j q) (tallies_of p enables (suc j) qs) in
    omega (arith, same, rest, total)

bills : (p : Program) (enables : List (Option Enable)) (j : ℕ) (qs : List Process)
    → sum_by (λ (q : Process). 1 * (length q.forms - 1) + 0 * (q.depth * returns_to p q)) qs
    + 2 * sum_by (λ (q : Process). 0 * (length q.forms - 1) + 1 * (q.depth * returns_to p q)) qs
    + sum_by (returns_to p) qs + sum_by landing (tallies_of p enables j qs)
    ≡ sum_by transfers_bill (tallies_of p enables j qs)
bills p enables j [] = refl
bills p enables j (q ∷ qs) =
    let t = tally_of p enables j q in
    let a = sum_by-cons (λ (z : Process). 1 * (length z.forms - 1) + 0 * (z.depth * returns_to p z)) q qs in
    let b = sum_by-cons (λ (z : Process). 0 * (length z.forms - 1) + 1 * (z.depth * returns_to p z)) q qs in
    let c = sum_by-cons (returns_to p) q qs in
    let d = sum_by-cons landing t (tallies_of p enables (suc j) qs) in
    let e = sum_by-cons transfers_bill t (tallies_of p enables (suc j) qs) in
    let same = returns_same p q in
    let more : q.depth * returns_to p q ≡ q.depth * returns_of p q.forms = ap (λ n. q.depth * n) same in
    let rest = bills p enables (suc j) qs in omega (arith, a, b, c, d, e, same, more, rest)

-- all that is added costs the bills of the processes
pub all_billed : (p : Program) (roles : List Role) (xs : List Cell) (enables : List (Option Enable))
    → AreCells p roles xs
    → lands_in (length p.processes) p.forms enables
    + (count_by (is_moved Fall) roles + count_by (is_moved Push) roles + count_by (is_moved Pop) roles
    + count_by (is_moved Back) roles)
    ≤ sum_by transfers_bill (tallies_of p enables 0 p.processes)
all_billed p roles xs enables are =
    let fall = falls_counted p roles xs are in
    let push = entries_counted p roles xs Push are (λ d. refl) (λ k j. refl) (λ k l j. refl) in
    let pop = entries_counted p roles xs Pop are (λ d. refl) (λ k j. refl) (λ k l j. refl) in
    let back = backs_counted p roles xs are in
    let lands = lands_tallied p enables 0 p.processes in
    let zero_n : 0 + length p.processes ≡ length p.processes = omega arith in
    let same : lands_in (0 + length p.processes) p.forms enables ≡ lands_in (length p.processes) p.forms enables =
    ap (λ n. lands_in n p.forms enables) zero_n in
    let total = bills p enables 0 p.processes in omega (arith, fall, push, pop, back, lands, same, total)

pub all_tallies : (p : Program) (enables : List (Option Enable)) (j : ℕ) (qs : List Process)
    → take (length qs) (tallies_of p enables j qs) ≡ tallies_of p enables j qs
all_tallies p enables j [] = refl
all_tallies p enables j (q ∷ qs) = ap (λ ts. tally_of p enables j q ∷ ts) (all_tallies p enables (suc j) qs)
