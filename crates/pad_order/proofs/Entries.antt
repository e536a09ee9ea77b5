-- Ports with their numbers, in whatever order.
use Rattle.std.proofs.Common.{ℕ, zero, suc, ◌≡◌, ◌≢◌, ◌<◌, ◌≤◌, ◌+◌, inl, inr, refl, sym, ap, ◌∙◌, arith, subst}
use Rattle.std.proofs.Common.{List, [], ◌∷◌, ◌++◌, length, get_or, take, drop, drop-cons, append_assoc, All, Contains}
use Rattle.std.proofs.Common.{IsPermutation, cond, eqb}
use Rattle.std.specs.Prelude.{sum_by}
use Rattle.std.proofs.lemmas.Bool.{cases_eq, eq-eqb}
use Rattle.std.proofs.lemmas.List.{length-drop, length-take, get_or-take, get_or-drop}
use Rattle.std.proofs.lemmas.List.Sums.{sum_by-cons, sum_by-take-drop, get_or-le-sum_by}
use Rattle.std.proofs.lemmas.List.Sorted.{All-permutation, Contains-permutation, length_permutation}
use Rattle.std.proofs.lemmas.List.Sorted.{sum_by-IsPermutation}
use Rattle.pad_order.specs.declared.order.Entry.{Entry}
use Rattle.pad_order.specs.declared.ports.Port.{Port}
use Rattle.pad_order.specs.Entries.{no_port, entry, entries_from}

pub many : (k : ℕ) (ps : List Port) → length (entries_from k ps) ≡ length ps
many k [] = refl
many k (p ∷ ps) = let e = many (suc k) ps in omega (arith, e)

pub entry_at : (k : ℕ) (ps : List Port) (i : ℕ) (d : Port) (e : Entry) → i < length ps
    → get_or (entries_from k ps) i e ≡ entry (get_or ps i d) (k + i)
entry_at k [] i d e lt = absurd (omega (arith, lt))
entry_at k (p ∷ ps) zero d e lt = let z : k ≡ k + 0 = omega arith in ap (entry p) z
entry_at k (p ∷ ps) (suc i) d e lt =
    let z : suc k + i ≡ k + suc i = omega arith in
    entry_at (suc k) ps i d e (omega (arith, lt)) ∙ ap (entry (get_or ps i d)) z

-- one that is added
pub one_more : (front new : List Entry) (i : ℕ) (ps : List Port) (d : Port) → i < length ps
    → front ++ entries_from i (drop i ps) ≡ entries_from 0 ps → new ≡ front ++ entry (get_or ps i d) i ∷ []
    → new ++ entries_from (i + 1) (drop (i + 1) ps) ≡ entries_from 0 ps
one_more front new i ps d lt e f =
    let q : suc i ≡ i + 1 = omega arith in
    ap (λ l. l ++ entries_from (i + 1) (drop (i + 1) ps)) f
    ∙ append_assoc front (entry (get_or ps i d) i ∷ []) (entries_from (i + 1) (drop (i + 1) ps))
    ∙ ap (λ k. front ++ (entry (get_or ps i d) i ∷ entries_from k (drop k ps))) (sym q)
    ∙ ap (λ l. front ++ entries_from i l) (sym (drop-cons ps i d lt)) ∙ e

-- ---- numbers differ

abbrev has : ℕ → Entry → ℕ
has k e = cond (eqb e.number k) 1 0

has_one : (k : ℕ) (e : Entry) → e.number ≡ k → has k e ≡ 1
has_one k e h = ap (λ b. cond b 1 0) (eq-eqb e.number k h)

has_none : (k : ℕ) (e : Entry) → (e.number ≡ k → ⊥) → has k e ≡ 0
has_none k e h = grind (arith, h)

later_none : (k n : ℕ) (ps : List Port) → k < n → sum_by (has k) (entries_from n ps) ≡ 0
later_none k n [] lt = refl
later_none k n (p ∷ ps) lt =
    let a = sum_by-cons (has k) (entry p n) (entries_from (suc n) ps) in
    let b = has_none k (entry p n) (λ e. omega (arith, e, lt)) in
    let c = later_none k (suc n) ps (omega (arith, lt)) in
    omega (arith, a, b, c)

at_most_one : (k n : ℕ) (ps : List Port) → sum_by (has k) (entries_from n ps) ≤ 1
at_most_one k n [] = omega arith
at_most_one k n (p ∷ ps) =
    let a = sum_by-cons (has k) (entry p n) (entries_from (suc n) ps) in
    elim (cases_eq n k) [
      | inl e ↦ (let b = has_one k (entry p n) e in let c = later_none k (suc n) ps (omega (arith, e)) in
          omega (arith, a, b, c))
      | inr ne ↦ (let b = has_none k (entry p n) ne in let c = at_most_one k (suc n) ps in omega (arith, a, b, c))
    ]

two_of : (f : Entry → ℕ) (xs : List Entry) (i j : ℕ) (d : Entry) → i < j → j < length xs
    → f (get_or xs i d) + f (get_or xs j d) ≤ sum_by f xs
two_of f xs i j d lt inside =
    let s = sum_by-take-drop f xs j in
    let lk = length-take j xs in
    let a = get_or-le-sum_by f (take j xs) i d (omega (arith, lk, lt, inside)) in
    let p = ap f (get_or-take j xs i d lt) in
    let ld = length-drop j xs in
    let b = get_or-le-sum_by f (drop j xs) 0 d (omega (arith, ld, inside)) in
    let q = ap f (get_or-drop j xs 0 d) in
    let z : j + 0 ≡ j = omega arith in
    let r = ap (λ n. f (get_or xs n d)) z in
    omega (arith, s, a, p, b, q, r)

-- ---- the entries of ports in another order

module _ (ps : List Port) (es : List Entry) (moved : IsPermutation (entries_from 0 ps) es) where
  abbrev all : List Entry
  all = entries_from 0 ps

  pub distinct : (i j : ℕ) (d : Entry) → i < j → j < length es → (get_or es i d).number ≢ (get_or es j d).number
  distinct i j d lt inside same =
      let k : ℕ = (get_or es j d).number in
      let s = sum_by-IsPermutation (has k) all es moved in
      let m = at_most_one k 0 ps in
      let t = two_of (has k) es i j d lt inside in
      let a = has_one k (get_or es i d) same in
      let b = has_one k (get_or es j d) refl in
      omega (arith, s, m, t, a, b)

  pub as_many : length es ≡ length ps
  as_many = length_permutation all es moved ∙ many 0 ps

  -- an entry is that of the port with its number
  pub record IsEntry (e : Entry) : Type 0 where
    pub there : e.number < length ps
    pub height : e.height ≡ (get_or ps e.number no_port).height

  each_is : All IsEntry all
  each_is k d lt =
      let l = many 0 ps in
      let z : 0 + k ≡ k = omega arith in
      let q = entry_at 0 ps k no_port d (omega (arith, lt, l)) ∙ ap (entry (get_or ps k no_port)) z in
      subst IsEntry (sym q) (record { there = omega (arith, lt, l); height = refl })

  pub each : All IsEntry es
  each = All-permutation IsEntry all es moved each_is

  -- and each port has one
  pub place : (i : ℕ) (d : Port) → i < length ps → Contains es (entry (get_or ps i d) i)
  place i d lt =
      let l = many 0 ps in
      let e : Entry = entry (get_or ps i d) i in
      let z : 0 + i ≡ i = omega arith in
      Contains-permutation all es e moved
      (i, omega (arith, lt, l), entry_at 0 ps i d e lt ∙ ap (entry (get_or ps i d)) z)
