-- Lists that grow at the end, entries that are set, and how often nets are among nets.
use Rattle.std.proofs.Common.{◌≡◌, ℕ, zero, suc, ◌+◌, ◌<◌, ◌≤◌, ◌⊎◌, inl, inr, List, [], ◌∷◌, ◌++◌, Option, Some, None}
use Rattle.std.proofs.Common.{cond, length, refl, sym, ◌∙◌, ap, arith}
use Rattle.std.specs.Prelude.{All, slice_get, slice_set, if◌then◌else◌, ◌==◌}
use Rattle.std.proofs.lemmas.Bool.{eq-eqb, ne_eqb, cases_eq}
use Rattle.std.proofs.lemmas.Option.{none-some, same_Some, slice_get_within}
use Rattle.mp_base.proofs.Entries.{get_behind, get_set_same, get_set_other}
use Rattle.std.proofs.lemmas.List.{length-set}
use Rattle.nor_net.specs.declared.net.NetId.{NetId}
use Rattle.path_form.specs.Shape.{times}
use Rattle.control_nor.specs.Lowering.{Stands}
use Rattle.path_form.proofs.Joining.{times_append}
use Rattle.datapath_making.specs.Steps.{IsFree}
use Rattle.datapath_making.specs.WellMade.{present}

-- an entry of a longer list is one of the list, or one of what was added
pub get_cases : {Y : Type 0} (xs ys : List Y) (n : ℕ) (y : Y) → slice_get (xs ++ ys) n ≡ Some y
    → ((n < length xs) × (slice_get xs n ≡ Some y)) ⊎ ((i : ℕ) × (n ≡ length xs + i) × (slice_get ys i ≡ Some y))
get_cases [] ys n y e = inr (n, (let q : n ≡ 0 + n = omega arith in q), e)
get_cases (x ∷ xs) ys zero y e = inl (omega arith, e)
get_cases {Y} (x ∷ xs) ys (suc n) y e = by_case (get_cases xs ys n y e)
  where
    by_case : ((n < length xs) × (slice_get xs n ≡ Some y))
        ⊎ ((i : ℕ) × (n ≡ length xs + i) × (slice_get ys i ≡ Some y))
        → ((suc n < length (x ∷ xs)) × (slice_get (x ∷ xs) (suc n) ≡ Some y))
        ⊎ ((i : ℕ) × (suc n ≡ length (x ∷ xs) + i) × (slice_get ys i ≡ Some y))
    by_case (inl h) = inl ((let l = h.0 in omega (arith, l)), h.1)
    by_case (inr h) = inr (h.0, (let q = h.1 in omega (arith, q)), h.2)

-- the entry at a place, by its distance from what was added
pub get_by : {Y : Type 0} (xs ys : List Y) (n i : ℕ) → n ≡ length xs + i → slice_get (xs ++ ys) n ≡ slice_get ys i
get_by xs ys n i e = ap (slice_get (xs ++ ys)) e ∙ get_behind xs ys i

-- ---- names

-- what stands after an entry was set: the new one, or another that stood
pub set_cases : (entries : List (Option NetId)) (k : ℕ) (id : NetId) (n : ℕ) (other : NetId)
    → Stands (slice_set entries k (Some id)) n other
    → ((n ≡ k) × (id ≡ other)) ⊎ ((n ≡ k → ⊥) × Stands entries n other)
set_cases entries k id n other h = by_place (cases_eq n k)
  where
    within : k < length entries → n ≡ k → id ≡ other
    within l e = same_Some id other (same_Some (Some id) (Some other)
        (sym (get_set_same entries k (Some id) l) ∙ (ap (slice_get (slice_set entries k (Some id))) (sym e) ∙ h)))

    inside : n < length entries
    inside = let l = slice_get_within (slice_set entries k (Some id)) n (Some other) h in
        let e = length-set entries k (Some id) in omega (arith, l, e)

    by_place : (n ≡ k) ⊎ (n ≡ k → ⊥) → ((n ≡ k) × (id ≡ other)) ⊎ ((n ≡ k → ⊥) × Stands entries n other)
    by_place (inl e) = inl (e, within (omega (arith, inside, e)) e)
    by_place (inr ne) = inr (ne, sym (get_set_other entries k (Some id) n ne) ∙ h)

-- a free entry has no net
pub free_stands : (entries : List (Option NetId)) (k : ℕ) (id : NetId) → IsFree entries k → Stands entries k id → ⊥
free_stands entries k id f h = none-some id (same_Some None (Some id) (sym f ∙ h))

-- what stood still stands after a free entry was set
pub set_keeps : (entries : List (Option NetId)) (k : ℕ) (id : NetId) (n : ℕ) (other : NetId) → IsFree entries k
    → Stands entries n other → Stands (slice_set entries k (Some id)) n other
set_keeps entries k id n other f h =
    get_set_other entries k (Some id) n
    (λ e. free_stands entries k other f (ap (slice_get entries) (sym e) ∙ h)) ∙ h

pub set_stands : (entries : List (Option NetId)) (k : ℕ) (id : NetId) → IsFree entries k
    → Stands (slice_set entries k (Some id)) k id
set_stands entries k id f = get_set_same entries k (Some id) (slice_get_within entries k None f)

-- ---- how often

-- 1 for a net with this number
abbrev pub one_at : ℕ → NetId → ℕ
one_at n id = if id.0 == n then 1 else 0

pub one_here : (n : ℕ) (id : NetId) → id.0 ≡ n → one_at n id ≡ 1
one_here n id e = ap (λ b. cond b 1 0) (eq-eqb id.0 n e)

pub one_else : (n : ℕ) (id : NetId) → (id.0 ≡ n → ⊥) → one_at n id ≡ 0
one_else n id ne = ap (λ b. cond b 1 0) (ne_eqb id.0 n ne)

pub times_push : (n : ℕ) (xs : List NetId) (id : NetId) → times n (xs ++ id ∷ []) ≡ times n xs + one_at n id
times_push n xs id = let e = times_append n xs (id ∷ []) in omega (arith, e)

pub times_set : (n : ℕ) (entries : List (Option NetId)) (k : ℕ) (id : NetId) → IsFree entries k
    → times n (present (slice_set entries k (Some id))) ≡ one_at n id + times n (present entries)
times_set n [] k id f = absurd (none-some None f)
times_set n (None ∷ entries) zero id f = refl
times_set n (Some x ∷ entries) zero id f = absurd (none-some x (sym (same_Some (Some x) None f)))
times_set n (None ∷ entries) (suc k) id f = times_set n entries k id f
times_set n (Some x ∷ entries) (suc k) id f = let e = times_set n entries k id f in omega (arith, e)

-- a net that is among them is there at least once
pub times_some : (xs : List NetId) (k : ℕ) (id : NetId) → slice_get xs k ≡ Some id → 1 ≤ times id.0 xs
times_some [] k id e = absurd (none-some id e)
times_some (x ∷ xs) zero id e =
    let o = one_here id.0 x (ap (λ (i : NetId). i.0) (same_Some x id e)) in omega (arith, o)
times_some (x ∷ xs) (suc k) id e = let l = times_some xs k id e in omega (arith, l)

-- one that is among them has an entry
pub times_entry : (n : ℕ) (xs : List NetId) → 1 ≤ times n xs
    → (k : ℕ) × (id : NetId) × (slice_get xs k ≡ Some id) × (id.0 ≡ n)
times_entry n [] l = absurd (omega arith)
times_entry n (x ∷ xs) l = by_head (cases_eq x.0 n) (times_entry n xs)
  where
    by_head : (x.0 ≡ n) ⊎ (x.0 ≡ n → ⊥)
        → (1 ≤ times n xs → (k : ℕ) × (id : NetId) × (slice_get xs k ≡ Some id) × (id.0 ≡ n))
        → (k : ℕ) × (id : NetId) × (slice_get (x ∷ xs) k ≡ Some id) × (id.0 ≡ n)
    by_head (inl e) again = (0, x, refl, e)
    by_head (inr ne) again =
        let o = one_else n x ne in
        let r = again (omega (arith, l, o)) in
        (suc r.0, r.1, r.2, r.3)

-- what lies below n is not n
pub times_below : (n : ℕ) (xs : List NetId) → All (λ (id : NetId). id.0 < n) xs → times n xs ≡ 0
times_below n [] h = refl
times_below n (x ∷ xs) h =
    let o = one_else n x (λ e. let l = h 0 x (omega arith) in omega (arith, l, e)) in
    let r = times_below n xs (λ k d l. h (suc k) d (omega arith)) in
    omega (arith, o, r)

-- the net of an entry is one net
pub one_stands : (entries : List (Option NetId)) (k : ℕ) (x y : NetId) → Stands entries k x → Stands entries k y → x ≡ y
one_stands entries k x y p q = same_Some x y (same_Some (Some x) (Some y) (sym p ∙ q))
