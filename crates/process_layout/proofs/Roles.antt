-- The roles of a program's cells, as they are laid.
use Rattle.std.proofs.Common.{
  ◌≡◌,
  ◌⊎◌,
  inl,
  inr,
  ◌∙◌,
  ℕ,
  zero,
  suc,
  ◌<◌,
  ◌≤◌,
  List,
  [],
  ◌∷◌,
  ◌++◌,
  Bool,
  true,
  false,
  Option,
  Some,
  None,
  refl,
  sym,
  ap,
  subst,
  arith,
  map,
}
use Rattle.std.specs.Prelude.{Contains, if◌then◌else◌, slice_index}
use Rattle.std.specs.Option.{option_map_or}
use Rattle.std.proofs.lemmas.List.Elements.{Contains-append_left, Contains-append_right, Contains-append_cases}
use Rattle.mp_base.proofs.Contents.{contains_head, nothing_in, only_one, contains_from_map, contains_map}
use Rattle.mp_base.proofs.Numbers.{below_or_last}
use Rattle.mp_program.specs.declared.program.Def.{Def}
use Rattle.mp_base.specs.Entries.{IsAt}
use Rattle.rtl_form.specs.declared.rtl.Cell.{Cell}
use Rattle.process_plan.specs.declared.role.Role.{Role}
use Rattle.process_plan.specs.declared.role.Role.TheVariants.{Value, Placed, Stacked}
use Rattle.process_plan.specs.Roles.{def_cell}
use Rattle.process_plan.proofs.Census.{AreOnce}
use Rattle.process_plan.proofs.Enables.{place_of}
use Rattle.process_layout.specs.Laying.{cell_at, entry_roles, own_role, place_roles, returns_to, value_roles}
use Rattle.process_layout.proofs.Once.{once_none, once_one, once_both, once_mapped}

-- ---- numbers below a number

-- ---- definitions

pub cell_got : (ds : List Def) (d : ℕ) (y : Def) → IsAt ds d y → cell_at ds d ≡ def_cell ds d y.what
cell_got ds d y at = ap (λ o. option_map_or (λ (x : Def). def_cell ds d x.what) o None) at

in_own : (d : ℕ) (o : Option Cell) (s : Role) → Contains (own_role d o) s → (s ≡ Value d) × ((x : Cell) × (o ≡ Some x))
in_own d (Some x) s c = (sym (only_one (Value d) s c), (x, refl))
in_own d None s c = absurd (nothing_in s c)

-- what is among the roles of the first n definitions
abbrev pub IsOfValues : List Def → ℕ → Role → Type 0
IsOfValues ds n s = (d : ℕ) × (d < n) × (s ≡ Value d) × ((x : Cell) × (cell_at ds d ≡ Some x))

pub in_values : (ds : List Def) (n : ℕ) (s : Role) → Contains (value_roles ds n) s → IsOfValues ds n s
in_values ds zero s c = absurd (nothing_in s c)
in_values ds (suc n) s c = elim (Contains-append_cases (value_roles ds n) (own_role n (cell_at ds n)) s c) [
  | inl left ↦ let (d, lt, is, made) = in_values ds n s left in (d, omega (arith, lt), is, made)
  | inr right ↦ let (is, made) = in_own n (cell_at ds n) s right in (n, omega arith, is, made)
]

pub value_in : (ds : List Def) (n d : ℕ) (x : Cell) → d < n → cell_at ds d ≡ Some x
    → Contains (value_roles ds n) (Value d)
value_in ds zero d x lt made = absurd (omega (arith, lt))
value_in ds (suc n) d x lt made = pick (below_or_last d n lt) (λ below. value_in ds n d x below made)
  where
    pick : (d ≡ n) ⊎ (d < n) → (d < n → Contains (value_roles ds n) (Value d))
        → Contains (value_roles ds n ++ own_role n (cell_at ds n)) (Value d)
    pick (inl same) rest = Contains-append_right (value_roles ds n) (own_role n (cell_at ds n)) (Value d)
        (subst (λ k. Contains (own_role k (cell_at ds k)) (Value d)) same
        (subst (λ o. Contains (own_role d o) (Value d)) (sym made) (contains_head (Value d) [])))
    pick (inr below) rest = Contains-append_left (value_roles ds n) (own_role n (cell_at ds n)) (Value d) (rest below)

once_own : (d : ℕ) (o : Option Cell) → AreOnce (own_role d o)
once_own d (Some x) = once_one (Value d)
once_own d None = once_none

pub once_values : (ds : List Def) (n : ℕ) → AreOnce (value_roles ds n)
once_values ds zero = once_none
once_values ds (suc n) =
    once_both (value_roles ds n) (own_role n (cell_at ds n)) (once_values ds n) (once_own n (cell_at ds n))
    (λ s left right.
    let (d, lt, is, made) = in_values ds n s left in
    let (too, made_too) = in_own n (cell_at ds n) s right in
    let same : d ≡ n = ap value_index (sym is ∙ too) in
    omega (arith, lt, same))
  where
    value_index : Role → ℕ
    value_index (Value d) = d
    value_index _ = 0

-- ---- places

-- what is among the places of a process
abbrev pub IsOfPlaces : ℕ → ℕ → Role → Type 0
IsOfPlaces k n s = (j : ℕ) × (0 < j) × (j ≤ n) × (s ≡ Placed k j)

pub in_places : (k n : ℕ) (s : Role) → Contains (place_roles k n) s → IsOfPlaces k n s
in_places k zero s c = absurd (nothing_in s c)
in_places k (suc n) s c = elim (Contains-append_cases (place_roles k n) (Placed k (suc n) ∷ []) s c) [
  | inl left ↦ let (j, pos, le, is) = in_places k n s left in (j, pos, omega (arith, le), is)
  | inr right ↦ (suc n, omega arith, omega arith, sym (only_one (Placed k (suc n)) s right))
]

pub place_in : (k n j : ℕ) → 0 < j → j ≤ n → Contains (place_roles k n) (Placed k j)
place_in k zero j pos le = absurd (omega (arith, pos, le))
place_in k (suc n) j pos le = pick (below_or_last j (suc n) (omega (arith, le)))
    (λ below. place_in k n j pos (omega (arith, below)))
  where
    pick : (j ≡ suc n) ⊎ (j < suc n) → (j < suc n → Contains (place_roles k n) (Placed k j))
        → Contains (place_roles k n ++ Placed k (suc n) ∷ []) (Placed k j)
    pick (inl same) rest = Contains-append_right (place_roles k n) (Placed k (suc n) ∷ []) (Placed k j)
        (subst (λ m. Contains (Placed k m ∷ []) (Placed k j)) same (contains_head (Placed k j) []))
    pick (inr below) rest = Contains-append_left (place_roles k n) (Placed k (suc n) ∷ []) (Placed k j) (rest below)

abbrev level_of : Role → ℕ
level_of (Value d) = 0
level_of (Placed k j) = 0
level_of (Stacked k l j) = l

pub once_places : (k n : ℕ) → AreOnce (place_roles k n)
once_places k zero = once_none
once_places k (suc n) = once_both (place_roles k n) (Placed k (suc n) ∷ []) (once_places k n)
    (once_one (Placed k (suc n))) (λ s left right.
    let (j, pos, le, is) = in_places k n s left in
    let same : j ≡ suc n = ap place_of (sym is ∙ sym (only_one (Placed k (suc n)) s right)) in
    omega (arith, le, same))

-- ---- places to which calls return

-- what is among them
abbrev pub IsReturn : (ℕ → Bool) → List ℕ → ℕ → ℕ → Type 0
IsReturn calling forms n j = (i : ℕ) × (i < n) × (j ≡ suc i) × (calling (slice_index forms i) ≡ true)

in_if : (b : Bool) (i j : ℕ) → Contains (if b then i ∷ [] else []) j → (j ≡ i) × (b ≡ true)
in_if true i j c = (sym (only_one i j c), refl)
in_if false i j c = absurd (nothing_in j c)

once_if : (b : Bool) (i : ℕ) → AreOnce (if b then i ∷ [] else [])
once_if true i = once_one i
once_if false i = once_none

pub in_returns : (calling : ℕ → Bool) (forms : List ℕ) (n j : ℕ) → Contains (returns_to calling forms n) j
    → IsReturn calling forms n j
in_returns calling forms zero j c = absurd (nothing_in j c)
in_returns calling forms (suc n) j c =
    elim (Contains-append_cases (returns_to calling forms n)
    (if calling (slice_index forms n) then suc n ∷ [] else []) j c) [
      | inl left ↦ let (i, lt, is, calls) = in_returns calling forms n j left in (i, omega (arith, lt), is, calls)
      | inr right ↦
          let (is, calls) = in_if (calling (slice_index forms n)) (suc n) j right in (n, omega arith, is, calls)
    ]

pub return_in : (calling : ℕ → Bool) (forms : List ℕ) (n i : ℕ) → i < n → calling (slice_index forms i) ≡ true
    → Contains (returns_to calling forms n) (suc i)
return_in calling forms zero i lt calls = absurd (omega (arith, lt))
return_in calling forms (suc n) i lt calls =
    pick (below_or_last i n lt) (λ below. return_in calling forms n i below calls)
  where
    pick : (i ≡ n) ⊎ (i < n) → (i < n → Contains (returns_to calling forms n) (suc i))
        → Contains (returns_to calling forms n ++ (if calling (slice_index forms n) then suc n ∷ [] else [])) (suc i)
    pick (inl same) rest =
        Contains-append_right (returns_to calling forms n)
        (if calling (slice_index forms n) then suc n ∷ [] else []) (suc i)
        (subst (λ m. Contains (if calling (slice_index forms m) then suc m ∷ [] else []) (suc i)) same
        (subst (λ b. Contains (if b then suc i ∷ [] else []) (suc i)) (sym calls) (contains_head (suc i) [])))
    pick (inr below) rest =
        Contains-append_left (returns_to calling forms n)
        (if calling (slice_index forms n) then suc n ∷ [] else []) (suc i) (rest below)

pub once_returns : (calling : ℕ → Bool) (forms : List ℕ) (n : ℕ) → AreOnce (returns_to calling forms n)
once_returns calling forms zero = once_none
once_returns calling forms (suc n) =
    once_both (returns_to calling forms n) (if calling (slice_index forms n) then suc n ∷ [] else [])
    (once_returns calling forms n) (once_if (calling (slice_index forms n)) (suc n)) (λ j left right.
    let (i, lt, is, calls) = in_returns calling forms n j left in
    let (too, calls_too) = in_if (calling (slice_index forms n)) (suc n) j right in
    omega (arith, lt, is, too))

-- ---- entries of stacks

-- what is among the first levels
abbrev pub IsOfEntries : ℕ → List ℕ → ℕ → Role → Type 0
IsOfEntries k js n s = (l j : ℕ) × (l < n) × Contains js j × (s ≡ Stacked k l j)

pub in_entries : (k : ℕ) (js : List ℕ) (n : ℕ) (s : Role) → Contains (entry_roles k js n) s → IsOfEntries k js n s
in_entries k js zero s c = absurd (nothing_in s c)
in_entries k js (suc n) s c = elim (Contains-append_cases (entry_roles k js n) (map (Stacked k n) js) s c) [
  | inl left ↦ let (l, j, lt, at, is) = in_entries k js n s left in (l, j, omega (arith, lt), at, is)
  | inr right ↦ let (j, at, is) = contains_from_map (Stacked k n) js s right in (n, j, omega arith, at, sym is)
]

pub entry_in_stack : (k : ℕ) (js : List ℕ) (n l j : ℕ) → l < n → Contains js j
    → Contains (entry_roles k js n) (Stacked k l j)
entry_in_stack k js zero l j lt c = absurd (omega (arith, lt))
entry_in_stack k js (suc n) l j lt c =
    pick (below_or_last l n lt) (λ below. entry_in_stack k js n l j below c)
  where
    pick : (l ≡ n) ⊎ (l < n) → (l < n → Contains (entry_roles k js n) (Stacked k l j))
        → Contains (entry_roles k js n ++ map (Stacked k n) js) (Stacked k l j)
    pick (inl same) rest = Contains-append_right (entry_roles k js n) (map (Stacked k n) js) (Stacked k l j)
        (subst (λ m. Contains (map (Stacked k m) js) (Stacked k l j)) same (contains_map (Stacked k l) js j c))
    pick (inr below) rest = Contains-append_left (entry_roles k js n) (map (Stacked k n) js) (Stacked k l j)
        (rest below)

pub once_entries : (k : ℕ) (js : List ℕ) (n : ℕ) → AreOnce js → AreOnce (entry_roles k js n)
once_entries k js zero one = once_none
once_entries k js (suc n) one =
    once_both (entry_roles k js n) (map (Stacked k n) js) (once_entries k js n one)
    (once_mapped (Stacked k n) js (λ i j e. ap place_of e) one) (λ s left right.
    let (l, j, lt, at, is) = in_entries k js n s left in
    let (i, at_i, is_i) = contains_from_map (Stacked k n) js s right in
    let same : l ≡ n = ap level_of (sym is ∙ sym is_i) in
    omega (arith, lt, same))

-- no entry of a stack is an entry of an empty list of places
pub no_entries : (k n : ℕ) → entry_roles k [] n ≡ []
no_entries k zero = refl
no_entries k (suc n) = ap (λ xs. xs ++ []) (no_entries k n)
