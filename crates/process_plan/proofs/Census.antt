-- How many cells of each role there are, and what they cost.
use Rattle.std.proofs.Common.{
  ◌≡◌,
  ◌⊎◌,
  inl,
  inr,
  ◌∙◌,
  ℕ,
  zero,
  suc,
  ◌+◌,
  ◌-◌,
  ◌*◌,
  ◌<◌,
  ◌≤◌,
  List,
  [],
  ◌∷◌,
  ◌++◌,
  Bool,
  true,
  false,
  cond,
  Some,
  refl,
  sym,
  ap,
  subst,
  arith,
  length,
  map,
  take,
  drop,
  suc-mul,
  mul_comm,
}
use Rattle.std.specs.Prelude.{Contains, nat_lt, slice_get, slice_index, slice_index_or}
use Rattle.std.specs.List.{sum_by}
use Rattle.std.specs.Option.{option_map_or}
use Rattle.std.proofs.Math.Nat.{mul-add}
use Rattle.std.proofs.lemmas.Bool.{lt-ltb, ltb-true}
use Rattle.std.proofs.lemmas.List.{take-append-drop}
use Rattle.std.proofs.lemmas.List.Elements.{Contains-append_left, Contains-append_right}
use Rattle.std.proofs.lemmas.List.Sums.{sum_by-cons, sum_by-append, sum_by_push}
use Rattle.mp_base.proofs.Numbers.{below_or_last}
use Rattle.mp_base.proofs.Contents.{contains_map, contains_head, contains_behind, nothing_in}
use Rattle.mp_base.proofs.Induction.{by_test}
use Rattle.std.proofs.lemmas.Option.{same_Some, none-some, get_or_from_slice_get}
use Rattle.mp_program.specs.declared.program.What.{What}
use Rattle.mp_program.specs.declared.program.What.TheVariants.{
  Power,
  Ground,
  Phia,
  Phib,
  Phic,
  Constant,
  Register,
  Flag,
  Port,
  Signal,
}
use Rattle.mp_program.specs.declared.program.Way.TheVariants.{Input, Output, Internal}
use Rattle.mp_program.specs.declared.program.Def.{Def}
use Rattle.mp_program.specs.declared.program.Process.{Process}
use Rattle.mp_program.specs.declared.program.Program.{Program}
use Rattle.mp_program.specs.Weight.{calls_in}
use Rattle.mp_base.specs.Entries.{IsAt}
use Rattle.mp_base.proofs.Entries.{one_entry, some_entry, get_from_contains, within}
use Rattle.mp_base.proofs.Lists.{take_whole}
use Rattle.rtl_form.specs.declared.rtl.Cell.{Cell}
use Rattle.rtl_form.specs.Cost.{cell_cost}
use Rattle.process_plan.specs.Roles.{Role, Value, Placed, Stacked, AreCells, IsCellOf, def_cell}
use Rattle.process_plan.specs.Bill.{cells_cost, def_bill, defs_bill}

-- ---- what is in a list, each once, sums to no more than the list

-- no element stands twice
abbrev pub AreOnce : {X : Type 0} → List X → Type 0
AreOnce {X} xs = (j k : ℕ) (x : X) → IsAt xs j x → IsAt xs k x → j ≡ k

-- the list without the element at an index
abbrev removed : {X : Type 0} → ℕ → List X → List X
removed k [] = []
removed zero (y ∷ ys) = ys
removed (suc k) (y ∷ ys) = y ∷ removed k ys

sum_removed : {X : Type 0} (f : X → ℕ) (x : X) (k : ℕ) (ys : List X) → k < length ys → slice_index_or ys k x ≡ x
    → sum_by f ys ≡ f x + sum_by f (removed k ys)
sum_removed f x k [] lt is = absurd (omega (arith, lt))
sum_removed f x zero (y ∷ ys) lt is = let a = sum_by-cons f y ys in let e : f y ≡ f x = ap f is in omega (arith, a, e)
sum_removed f x (suc k) (y ∷ ys) lt is =
    let a = sum_by-cons f y ys in
    let b = sum_by-cons f y (removed k ys) in
    let rest = sum_removed f x k ys (omega (arith, lt)) is in
    omega (arith, a, b, rest)

still_in : {X : Type 0} (x z : X) (k : ℕ) (ys : List X) → k < length ys → slice_index_or ys k x ≡ x → Contains ys z
    → (z ≡ x → ⊥) → Contains (removed k ys) z
still_in x z k [] lt is d other = absurd (nothing_in z d)
still_in x z zero (y ∷ ys) lt is (zero, lt2, is2) other = absurd (other (sym is2 ∙ is))
still_in x z zero (y ∷ ys) lt is (suc j, lt2, is2) other = (j, omega (arith, lt2), is2)
still_in x z (suc k) (y ∷ ys) lt is (zero, lt2, is2) other = (zero, omega arith, is2)
still_in x z (suc k) (y ∷ ys) lt is (suc j, lt2, is2) other =
    contains_behind z y (removed k ys) (still_in x z k ys (omega (arith, lt)) is (j, omega (arith, lt2), is2) other)

pub sum_within : {X : Type 0} (f : X → ℕ) (xs ys : List X) → AreOnce xs → ((x : X) → Contains xs x → Contains ys x)
    → sum_by f xs ≤ sum_by f ys
sum_within f [] ys once within = omega arith
sum_within {X} f (x ∷ xs) ys once within =
    let (k, k_in, k_is) = within x (contains_head x xs) in
    let total = sum_removed f x k ys k_in k_is in
    let now = sum_by-cons f x xs in
    let rest = sum_within f xs (removed k ys)
    (λ j i y at at'. let e = once (suc j) (suc i) y at at' in omega (arith, e))
    (λ y cy. still_in x y k ys k_in k_is (within y (contains_behind y x xs cy)) (λ same. apart y cy same)) in
    omega (arith, total, now, rest)
  where
    apart : (y : X) → Contains xs y → y ≡ x → ⊥
    apart y c same =
        let (k, at) = get_from_contains xs y c in
        let e = once 0 (suc k) x refl (at ∙ ap Some same) in omega (arith, e)

up_to : (j m : ℕ) → j ≤ suc m → (j ≡ suc m) ⊎ (j ≤ m)
up_to zero m le = inr (omega arith)
up_to (suc j) zero le = inl (omega (arith, le))
up_to (suc j) (suc m) le = elim (up_to j m (omega (arith, le))) [
  | inl e ↦ inl (ap suc e)
  | inr l ↦ inr
      (omega (arith, l))
]

-- ---- all roles of a program

-- the places 1 to m
abbrev pub placed_to : ℕ → ℕ → List Role
placed_to k zero = []
placed_to k (suc m) = Placed k (suc m) ∷ placed_to k m

-- the places 1 to m to which calls return
abbrev pub return_places : Program → Process → ℕ → List ℕ
return_places p q zero = []
return_places p q (suc m) = cond (nat_lt 0 (calls_in p (slice_index q.forms m))) (suc m ∷ return_places p q m)
    (return_places p q m)

-- the entries of the levels below d
abbrev pub stacked_below : ℕ → List ℕ → ℕ → List Role
stacked_below k js zero = []
stacked_below k js (suc l) = map (Stacked k l) js ++ stacked_below k js l

abbrev pub values_below : ℕ → List Role
values_below zero = []
values_below (suc d) = Value d ∷ values_below d

abbrev pub process_roles : Program → ℕ → Process → List Role
process_roles p k q = placed_to k (length q.forms - 1)
    ++ stacked_below k (return_places p q (length q.forms - 1)) q.depth

abbrev pub processes_roles : Program → ℕ → List Process → List Role
processes_roles p k [] = []
processes_roles p k (q ∷ qs) = process_roles p k q ++ processes_roles p (suc k) qs

abbrev pub all_roles : Program → List Role
all_roles p = values_below (length p.defs) ++ processes_roles p 0 p.processes

in_placed : (k j m : ℕ) → 0 < j → j ≤ m → Contains (placed_to k m) (Placed k j)
in_placed k j zero pos le = absurd (omega (arith, pos, le))
in_placed k j (suc m) pos le = elim (up_to j m le) [
  | inl same ↦ (zero, omega arith, ap (Placed k) (sym same))
  | inr below ↦ contains_behind (Placed k j) (Placed k (suc m)) (placed_to k m) (in_placed k j m pos below)
]

in_return : (p : Program) (q : Process) (j m : ℕ) → 0 < j → j ≤ m → 0 < calls_in p (slice_index q.forms (j - 1))
    → Contains (return_places p q m) j
in_return p q j zero pos le calls = absurd (omega (arith, pos, le))
in_return p q j (suc m) pos le calls =
    pick (nat_lt 0 (calls_in p (slice_index q.forms m))) refl (up_to j m le)
    (λ below. in_return p q j m pos below calls)
  where
    pick : (b : Bool) → nat_lt 0 (calls_in p (slice_index q.forms m)) ≡ b → (j ≡ suc m) ⊎ (j ≤ m)
        → (j ≤ m → Contains (return_places p q m) j) → Contains
        (cond b (suc m ∷ return_places p q m) (return_places p q m)) j
    pick true e (inl same) rest = (zero, omega arith, sym same)
    pick true e (inr below) rest = contains_behind j (suc m) (return_places p q m) (rest below)
    pick false e (inr below) rest = rest below
    pick false e (inl same) rest =
        let last : j - 1 ≡ m = omega (arith, same) in
        let calls_m : 0 < calls_in p (slice_index q.forms m) =
        subst (λ n. 0 < calls_in p (slice_index q.forms n)) last calls in
        let clash : true ≡ false = sym (lt-ltb 0 (calls_in p (slice_index q.forms m)) calls_m) ∙ e in absurd (cc)

in_stacked : (k l j : ℕ) (js : List ℕ) (d : ℕ) → l < d → Contains js j → Contains (stacked_below k js d) (Stacked k l j)
in_stacked k l j js zero lt c = absurd (omega (arith, lt))
in_stacked k l j js (suc d) lt c = pick (below_or_last l d lt) (λ below. in_stacked k l j js d below c)
  where
    pick : (l ≡ d) ⊎ (l < d) → (l < d → Contains (stacked_below k js d) (Stacked k l j))
        → Contains (map (Stacked k d) js ++ stacked_below k js d) (Stacked k l j)
    pick (inl same) rest = Contains-append_left (map (Stacked k d) js) (stacked_below k js d) (Stacked k l j)
        (subst (λ n. Contains (map (Stacked k d) js) (Stacked k n j)) (sym same) (contains_map (Stacked k d) js j c))
    pick (inr below) rest = Contains-append_right (map (Stacked k d) js) (stacked_below k js d) (Stacked k l j)
        (rest below)

in_values : (d n : ℕ) → d < n → Contains (values_below n) (Value d)
in_values d zero lt = absurd (omega (arith, lt))
in_values d (suc n) lt = pick (below_or_last d n lt) (in_values d n)
  where
    pick : (d ≡ n) ⊎ (d < n) → (d < n → Contains (values_below n) (Value d))
        → Contains (Value n ∷ values_below n) (Value d)
    pick (inl same) rest = (zero, omega arith, ap Value (sym same))
    pick (inr below) rest = contains_behind (Value d) (Value n) (values_below n) (rest below)

in_processes : (p : Program) (at k : ℕ) (q : Process) (qs : List Process) (s : Role) → IsAt qs k q
    → Contains (process_roles p (at + k) q) s → Contains (processes_roles p at qs) s
in_processes p at k q [] s at_q c = absurd (none-some q at_q)
in_processes p at zero q (x ∷ qs) s at_q c =
    let e : at + 0 ≡ at = omega arith in
    Contains-append_left (process_roles p at x) (processes_roles p (suc at) qs) s
    (subst (λ n. Contains (process_roles p n x) s) e (subst
    (λ (z : Process). Contains (process_roles p (at + 0) z) s) (sym (same_Some x q at_q)) c))
in_processes p at (suc k) q (x ∷ qs) s at_q c =
    let e : at + suc k ≡ suc at + k = omega arith in
    Contains-append_right (process_roles p at x) (processes_roles p (suc at) qs) s
    (in_processes p (suc at) k q qs s at_q (subst (λ n. Contains (process_roles p n q) s) e c))

-- what has a cell is among them
pub in_all : (p : Program) (s : Role) (x : Cell) → IsCellOf p s x → Contains (all_roles p) s
in_all p (Value d) x (y, at, made) =
    Contains-append_left (values_below (length p.defs)) (processes_roles p 0 p.processes) (Value d)
    (in_values d (length p.defs) (within p.defs d at))
in_all p (Placed k j) x (q, at, pos, lt, is) =
    let e : 0 + k ≡ k = omega arith in
    Contains-append_right (values_below (length p.defs)) (processes_roles p 0 p.processes) (Placed k j)
    (in_processes p 0 k q p.processes (Placed k j) at (subst (λ n. Contains (process_roles p n q) (Placed k j)) (sym e)
    (Contains-append_left (placed_to k (length q.forms - 1))
    (stacked_below k (return_places p q (length q.forms - 1)) q.depth) (Placed k j)
    (in_placed k j (length q.forms - 1) pos (omega (arith, lt))))))
in_all p (Stacked k l j) x (q, at, lt, place, is) =
    let e : 0 + k ≡ k = omega arith in
    let inside = place.1 in
    Contains-append_right (values_below (length p.defs)) (processes_roles p 0 p.processes) (Stacked k l j)
    (in_processes p 0 k q p.processes (Stacked k l j) at
    (subst (λ n. Contains (process_roles p n q) (Stacked k l j)) (sym e)
    (Contains-append_right (placed_to k (length q.forms - 1))
    (stacked_below k (return_places p q (length q.forms - 1)) q.depth) (Stacked k l j)
    (in_stacked k l j (return_places p q (length q.forms - 1)) q.depth lt
    (in_return p q j (length q.forms - 1) place.0 (omega (arith, inside)) place.2)))))

-- a price for each role sums over the cells' roles to no more than over all roles
pub roles_within : (p : Program) (roles : List Role) (xs : List Cell) (f : Role → ℕ) → AreCells p roles xs
    → sum_by f roles ≤ sum_by f (all_roles p)
roles_within p roles xs f are = sum_within f roles (all_roles p) (λ j k s a b. are.once j k s a b) (λ s c.
    let (k, at) = get_from_contains roles s c in
    let (x, at_x, is) = are.each k s at in in_all p s x is)

-- ---- prices

-- what a process counts in cells
abbrev pub returns_to : Program → Process → ℕ
returns_to p q = length (return_places p q (length q.forms - 1))

-- a price of places and one of entries
sum_placed : (f : Role → ℕ) (n k m : ℕ) → ((j : ℕ) → f (Placed k j) ≡ n) → sum_by f (placed_to k m) ≡ n * m
sum_placed f n k zero h = omega arith
sum_placed f n k (suc m) h =
    let a = sum_by-cons f (Placed k (suc m)) (placed_to k m) in
    let b = sum_placed f n k m h in
    let c = h (suc m) in
    let d : n * suc m ≡ n + n * m = omega (arith, mul_comm n (suc m), mul_comm n m, suc-mul m n) in
    omega (arith, a, b, c, d)

sum_level : (f : Role → ℕ) (n k l : ℕ) (js : List ℕ) → ((j : ℕ) → f (Stacked k l j) ≡ n)
    → sum_by f (map (Stacked k l) js) ≡ n * length js
sum_level f n k l [] h = omega arith
sum_level f n k l (j ∷ js) h =
    let a = sum_by-cons f (Stacked k l j) (map (Stacked k l) js) in
    let b = sum_level f n k l js h in
    let c = h j in
    let d : n * suc (length js) ≡ n + n * length js = omega
    (arith, mul_comm n (suc (length js)), mul_comm n (length js), suc-mul (length js) n) in
    omega (arith, a, b, c, d)

sum_stacked : (f : Role → ℕ) (n k : ℕ) (js : List ℕ) (d : ℕ) → ((l j : ℕ) → f (Stacked k l j) ≡ n)
    → sum_by f (stacked_below k js d) ≡ n * (d * length js)
sum_stacked f n k js zero h = omega arith
sum_stacked f n k js (suc d) h =
    let a = sum_by-append f (map (Stacked k d) js) (stacked_below k js d) in
    let b = sum_level f n k d js (h d) in
    let c = sum_stacked f n k js d h in
    let e : suc d * length js ≡ length js + d * length js = omega (arith, suc-mul d (length js)) in
    let g : n * (length js + d * length js) ≡ n * length js + n * (d * length js) =
    mul-add n (length js) (d * length js) in
    let i : n * (suc d * length js) ≡ n * (length js + d * length js) = ap (λ m. n * m) e in
    omega (arith, a, b, c, g, i)

-- the sum over the roles of processes, where a place costs a and an entry b
processes_sum : (p : Program) (f : Role → ℕ) (a b at : ℕ) (qs : List Process) → ((k j : ℕ) → f (Placed k j) ≡ a)
    → ((k l j : ℕ) → f (Stacked k l j) ≡ b)
    → sum_by f (processes_roles p at qs) ≡ sum_by (λ (q : Process). a * (length q.forms - 1) + b *
    (q.depth * returns_to p q)) qs
processes_sum p f a b at [] h g = refl
processes_sum p f a b at (q ∷ qs) h g =
    let all = sum_by-append f (process_roles p at q) (processes_roles p (suc at) qs) in
    let two = sum_by-append f (placed_to at (length q.forms - 1))
    (stacked_below at (return_places p q (length q.forms - 1)) q.depth) in
    let one = sum_placed f a at (length q.forms - 1) (h at) in
    let more = sum_stacked f b at (return_places p q (length q.forms - 1)) q.depth (g at) in
    let rest = processes_sum p f a b (suc at) qs h g in
    let total = sum_by-cons (λ (x : Process). a * (length x.forms - 1) + b * (x.depth * returns_to p x)) q qs in
    omega (arith, all, two, one, more, rest, total)

-- what a role's cell costs
abbrev pub role_bill : List Def → Role → ℕ
role_bill ds (Value d) = option_map_or (λ (x : Def). def_bill x.what) (slice_get ds d) 0
role_bill ds (Placed k j) = 7
role_bill ds (Stacked k l j) = 7

none_taken : (xs : List Def) → take 0 xs ≡ []
none_taken [] = refl
none_taken (x ∷ xs) = refl

more_taken : {X : Type 0} (xs : List X) (k : ℕ) (x : X) → IsAt xs k x → take (suc k) xs ≡ take k xs ++ x ∷ []
more_taken [] k x at = absurd (none-some x at)
more_taken (y ∷ ys) zero x at = ap (λ z. z ∷ []) (same_Some y x at)
more_taken (y ∷ ys) (suc k) x at = ap (λ zs. y ∷ zs) (more_taken ys k x at)

take_bill : (ds : List Def) (n : ℕ) → n ≤ length ds → sum_by (role_bill ds) (values_below n) ≡ defs_bill (take n ds)
take_bill ds zero le = omega (arith, ap defs_bill (none_taken ds))
take_bill ds (suc n) le =
    let a = sum_by-cons (role_bill ds) (Value n) (values_below n) in
    let b = take_bill ds n (omega (arith, le)) in
    let (x, at) = some_entry ds n (omega (arith, le)) in
    let c : role_bill ds (Value n) ≡ def_bill x.what =
    ap (λ o. option_map_or (λ (y : Def). def_bill y.what) o 0) at in
    let e : take (suc n) ds ≡ take n ds ++ x ∷ [] = more_taken ds n x at in
    let d : defs_bill (take (suc n) ds) ≡ defs_bill (take n ds) + def_bill x.what =
    ap defs_bill e ∙ sum_by_push (λ (y : Def). def_bill y.what) (take n ds) x in
    omega (arith, a, b, c, d)

-- ---- the cost of cells

def_costs : (ds : List Def) (d : ℕ) (w : What) (x : Cell) → def_cell ds d w ≡ Some x → cell_cost x.kind ≡ def_bill w
def_costs ds d Power x h = absurd (cc)
def_costs ds d Ground x h = absurd (cc)
def_costs ds d Phia x h = absurd (cc)
def_costs ds d Phib x h = absurd (cc)
def_costs ds d Phic x h = absurd (cc)
def_costs ds d (Constant c) x h = absurd (cc)
def_costs ds d Register x h = ap (λ (z : Cell). cell_cost z.kind) (sym (same_Some _ x h))
def_costs ds d Flag x h = ap (λ (z : Cell). cell_cost z.kind) (sym (same_Some _ x h))
def_costs ds d (Port Input) x h = ap (λ (z : Cell). cell_cost z.kind) (sym (same_Some _ x h))
def_costs ds d (Port Output) x h = ap (λ (z : Cell). cell_cost z.kind) (sym (same_Some _ x h))
def_costs ds d (Port Internal) x h = ap (λ (z : Cell). cell_cost z.kind) (sym (same_Some _ x h))
def_costs ds d (Signal Input) x h = ap (λ (z : Cell). cell_cost z.kind) (sym (same_Some _ x h))
def_costs ds d (Signal Output) x h = ap (λ (z : Cell). cell_cost z.kind) (sym (same_Some _ x h))
def_costs ds d (Signal Internal) x h = ap (λ (z : Cell). cell_cost z.kind) (sym (same_Some _ x h))

-- a cell costs what its role's bill says
role_costs : (p : Program) (s : Role) (x : Cell) → IsCellOf p s x → cell_cost x.kind ≡ role_bill p.defs s
role_costs p (Value d) x (y, at, made) =
    def_costs p.defs d y.what x made ∙ sym (ap (λ o. option_map_or (λ (z : Def). def_bill z.what) o 0) at)
role_costs p (Placed k j) x (q, at, pos, lt, is) = ap (λ (z : Cell). cell_cost z.kind) is
role_costs p (Stacked k l j) x (q, at, lt, place, is) = ap (λ (z : Cell). cell_cost z.kind) is

-- lists that cost the same, entry by entry, cost the same
same_costs : (xs : List Cell) (roles : List Role) (f : Role → ℕ) → length xs ≡ length roles
    → ((c : ℕ) (x : Cell) (s : Role) → IsAt xs c x → IsAt roles c s → cell_cost x.kind ≡ f s)
    → cells_cost xs ≡ sum_by f roles
same_costs [] [] f size same = refl
same_costs [] (s ∷ roles) f size same = absurd (omega (arith, size))
same_costs (x ∷ xs) [] f size same = absurd (omega (arith, size))
same_costs (x ∷ xs) (s ∷ roles) f size same =
    let a = sum_by-cons (λ (z : Cell). cell_cost z.kind) x xs in
    let b = sum_by-cons f s roles in
    let c = same 0 x s refl refl in
    let rest = same_costs xs roles f (omega (arith, size)) (λ k y t at at'. same (suc k) y t at at') in
    omega (arith, a, b, c, rest)

-- the cells of a program cost no more than those of its definitions, places and entries
pub cells_counted : (p : Program) (roles : List Role) (xs : List Cell) → AreCells p roles xs
    → cells_cost xs ≤ defs_bill p.defs + sum_by (λ (q : Process). 7 * (length q.forms - 1) + 7 *
    (q.depth * returns_to p q)) p.processes
cells_counted p roles xs are =
    let same = same_costs xs roles (role_bill p.defs) are.size (λ c x s at_x at_s.
    let (z, at_z, is) = are.each c s at_s in
    role_costs p s x (subst (IsCellOf p s) (one_entry xs c z x at_z at_x) is)) in
    let within = roles_within p roles xs (role_bill p.defs) are in
    let parts = sum_by-append (role_bill p.defs) (values_below (length p.defs)) (processes_roles p 0 p.processes) in
    let values = take_bill p.defs (length p.defs) (omega arith) in
    let all : defs_bill (take (length p.defs) p.defs) ≡ defs_bill p.defs = ap defs_bill (take_whole p.defs) in
    let rest = processes_sum p (role_bill p.defs) 7 7 0 p.processes (λ k j. refl) (λ k l j. refl) in
    omega (arith, same, within, parts, values, all, rest)

-- a count of roles, where a place counts a and an entry b, and values nothing
pub roles_counted : (p : Program) (roles : List Role) (xs : List Cell) (f : Role → ℕ) (a b : ℕ) → AreCells p roles xs
    → ((d : ℕ) → f (Value d) ≡ 0) → ((k j : ℕ) → f (Placed k j) ≡ a) → ((k l j : ℕ) → f (Stacked k l j) ≡ b)
    → sum_by f roles ≤ sum_by (λ (q : Process). a * (length q.forms - 1) + b * (q.depth * returns_to p q)) p.processes
roles_counted p roles xs f a b are none place entry =
    let within = roles_within p roles xs f are in
    let parts = sum_by-append f (values_below (length p.defs)) (processes_roles p 0 p.processes) in
    let values = no_values f (length p.defs) none in
    let rest = processes_sum p f a b 0 p.processes place entry in
    omega (arith, within, parts, values, rest)
  where
    no_values : (f : Role → ℕ) (n : ℕ) → ((d : ℕ) → f (Value d) ≡ 0) → sum_by f (values_below n) ≡ 0
    no_values f zero h = refl
    no_values f (suc n) h =
        let x = sum_by-cons f (Value n) (values_below n) in
        let y = h n in
        let z = no_values f n h in
        omega (arith, x, y, z)

-- the places to which calls return are fewer than the forms, and no more than the calls
pub returns_few : (p : Program) (q : Process) (m : ℕ) → length (return_places p q m) ≤ m
returns_few p q zero = omega arith
returns_few p q (suc m) = pick (nat_lt 0 (calls_in p (slice_index q.forms m))) (returns_few p q m)
  where
    pick : (b : Bool) → length (return_places p q m) ≤ m
        → length (cond b (suc m ∷ return_places p q m) (return_places p q m)) ≤ suc m
    pick true le = omega (arith, le)
    pick false le = omega (arith, le)

taken_calls : (p : Program) (q : Process) (m : ℕ) → m ≤ length q.forms
    → length (return_places p q m) ≤ sum_by (calls_in p) (take m q.forms)
taken_calls p q zero le = omega arith
taken_calls p q (suc m) le =
    let (f, at) = some_entry q.forms m (omega (arith, le)) in
    let earlier = taken_calls p q m (omega (arith, le)) in
    let more : sum_by (calls_in p) (take (suc m) q.forms) ≡ sum_by (calls_in p) (take m q.forms) + calls_in p f =
    ap (sum_by (calls_in p)) (more_taken q.forms m f at) ∙ sum_by_push (calls_in p) (take m q.forms) f in
    let here_f : slice_index q.forms m ≡ f = get_or_from_slice_get q.forms m f 0 at in
    let calls : calls_in p (slice_index q.forms m) ≡ calls_in p f = ap (calls_in p) here_f in
    by_test (nat_lt 0 (calls_in p (slice_index q.forms m)))
    (λ some_call.
    let lt = ltb-true 0 (calls_in p (slice_index q.forms m)) some_call in
    let long : length (return_places p q (suc m)) ≡ suc (length (return_places p q m)) =
    ap (λ b. length (cond b (suc m ∷ return_places p q m) (return_places p q m))) some_call in
    omega (arith, earlier, more, calls, lt, long))
    (λ none_there.
    let long : length (return_places p q (suc m)) ≡ length (return_places p q m) =
    ap (λ b. length (cond b (suc m ∷ return_places p q m) (return_places p q m))) none_there in
    omega (arith, earlier, more, calls, long))

-- the calls in the forms of a process pay for the places to which they return
pub returns_weighed : (p : Program) (q : Process) → returns_to p q ≤ sum_by (calls_in p) q.forms
returns_weighed p q =
    let one = taken_calls p q (length q.forms - 1) (omega arith) in
    let two = sum_by-append (calls_in p) (take (length q.forms - 1) q.forms) (drop (length q.forms - 1) q.forms) in
    let all : sum_by (calls_in p) (take (length q.forms - 1) q.forms ++ drop (length q.forms - 1) q.forms)
    ≡ sum_by (calls_in p) q.forms =
    ap (sum_by (calls_in p)) (take-append-drop (length q.forms - 1) q.forms) in
    omega (arith, one, two, all)
