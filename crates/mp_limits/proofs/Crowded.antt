-- Rule E40 by the offsets of all that has a name, in order.
use Rattle.std.proofs.Common.{◌≡◌, ◌⊎◌, inl, inr, ℕ, zero, suc, ◌+◌, ◌<◌, ◌≤◌, List, [], ◌∷◌, ◌++◌, refl, sym, ◌∙◌, ap}
use Rattle.std.proofs.Common.{subst, arith, length, get_or, zero-add, Bool, cond, Option}
use Rattle.std.specs.Prelude.{map, filter, nat_le}
use Rattle.std.specs.List.{count_by}
use Rattle.std.specs.List.Sorted.{IsNonDecreasing, IsPermutation}
use Rattle.std.proofs.lemmas.Bool.{leb-true, le-leb, lt-leb, cases_lt, and_parts, and_from}
use Rattle.std.proofs.lemmas.List.{map-append}
use Rattle.std.proofs.lemmas.List.Sorted.{sum_by-IsPermutation}
use Rattle.std.proofs.lemmas.List.Sums.{count_by-le-length, sum_by-cons}
use Rattle.std.proofs.lemmas.Simd.{map-map}
use Rattle.mp_base.specs.declared.refusal.Place.{Place}
use Rattle.mp_base.proofs.Entries.{get_from_contains, contains_from_get}
use Rattle.mp_program.specs.declared.program.Def.{Def}
use Rattle.mp_program.specs.declared.program.Process.{Process}
use Rattle.mp_program.specs.declared.program.Program.{Program}
use Rattle.mp_rules.specs.Naming.{Naming, namings, def_naming, process_naming}
use Rattle.mp_rules.specs.Breaking.{IsEarliest}
use Rattle.mp_rules.specs.Rules.{E40, namings_up_to}
use Rattle.mp_rules.specs.declared.limits.TheConstants.{NAMING_LIMIT}
use Rattle.mp_limits.specs.Finding.{place_that, is_from, named_from}
use Rattle.mp_limits.proofs.Scans.{IsFoundIn, earliest_two, passes, passed}
use Rattle.mp_rules.proofs.EarliestPlaces.{earliest_same}
use Rattle.mp_limits.proofs.Namings.{has_name, def_named, process_named, named}
use Rattle.mp_limits.proofs.Wide.{def_place}
use Rattle.mp_limits.proofs.Present.{process_place}

abbrev def_offset : Def → ℕ
def_offset d = (d.place).offset

abbrev process_offset : Process → ℕ
process_offset q = (q.place).offset

abbrev naming_offset : Naming → ℕ
naming_offset n = (n.place).offset

-- the offsets of all that has a name
abbrev pub offsets_of : Program → List ℕ
offsets_of p = map def_offset (filter has_name p.defs) ++ map process_offset p.processes

-- numbers up to o
abbrev up_to : ℕ → ℕ → Bool
up_to o x = nat_le x o

count_map : {X : Type 0} (f : X → ℕ) (o : ℕ) (xs : List X)
    → count_by (up_to o) (map f xs) ≡ count_by (λ x. nat_le (f x) o) xs
count_map f o [] = refl
count_map f o (x ∷ xs) = sum_by-cons (λ y. cond (up_to o y) 1 0) (f x) (map f xs)
    ∙ ap (λ n. cond (nat_le (f x) o) 1 0 + n) (count_map f o xs)
    ∙ sym (sum_by-cons (λ y. cond (nat_le (f y) o) 1 0) x xs)

offsets_are : (p : Program) → map naming_offset (namings p) ≡ offsets_of p
offsets_are p = map-append naming_offset (map def_naming (filter has_name p.defs)) (map process_naming p.processes)
    ∙ ap (λ xs. xs ++ map naming_offset (map process_naming p.processes))
    (map-map naming_offset def_naming (filter has_name p.defs))
    ∙ ap (λ ys. map def_offset (filter has_name p.defs) ++ ys) (map-map naming_offset process_naming p.processes)

before_is : (p : Program) (at : Place) → namings_up_to p at ≡ count_by (up_to at.offset) (offsets_of p)
before_is p at = sym (count_map naming_offset at.offset (namings p)) ∙ ap (count_by (up_to at.offset)) (offsets_are p)

-- ---- numbers in order

none_up_to : (o : ℕ) (xs : List ℕ) → ((k : ℕ) → k < length xs → o < get_or xs k 0) → count_by (up_to o) xs ≡ 0
none_up_to o [] h = refl
none_up_to o (x ∷ xs) h = sum_by-cons (λ y. cond (up_to o y) 1 0) x xs
    ∙ ap (λ b. cond b 1 0 + count_by (up_to o) xs) (lt-leb x o (h 0 (omega arith))) ∙ zero-add (count_by (up_to o) xs)
    ∙ none_up_to o xs (λ k lt. h (suc k) (omega (arith, lt)))

up_behind : (x : ℕ) (xs : List ℕ) → IsNonDecreasing (x ∷ xs) → IsNonDecreasing xs
up_behind x xs up i j d le lt = up (suc i) (suc j) d (omega (arith, le)) (omega (arith, lt))

-- of numbers in order, the one at k is up to o exactly where more than k of them are
sorted_count : (o : ℕ) (xs : List ℕ) (k : ℕ) → IsNonDecreasing xs → k < length xs
    → (k < count_by (up_to o) xs → get_or xs k 0 ≤ o) × (get_or xs k 0 ≤ o → k < count_by (up_to o) xs)
sorted_count o [] k up lt = absurd (omega (arith, lt))
sorted_count o (x ∷ xs) k up lt = elim (cases_lt o x) [
  | inl g ↦ over g
  | inr l ↦ under (λ j jl. sorted_count o xs j (up_behind x xs up) jl) k lt l
]
  where
    over : o < x
        → (k < count_by (up_to o) (x ∷ xs) → get_or (x ∷ xs) k 0 ≤ o)
        × (get_or (x ∷ xs) k 0 ≤ o → k < count_by (up_to o) (x ∷ xs))
    over g = let none = none_up_to o (x ∷ xs) (λ j jl. omega (arith, g, up 0 j 0 (omega arith) jl)) in
        (λ c. absurd (omega (arith, none, c)), λ s. absurd (omega (arith, s, g, up 0 k 0 (omega arith) lt)))

    under : ((j : ℕ) → j < length xs
        → (j < count_by (up_to o) xs → get_or xs j 0 ≤ o) × (get_or xs j 0 ≤ o → j < count_by (up_to o) xs))
        → (j : ℕ) → j < length (x ∷ xs) → x ≤ o
        → (j < count_by (up_to o) (x ∷ xs) → get_or (x ∷ xs) j 0 ≤ o)
        × (get_or (x ∷ xs) j 0 ≤ o → j < count_by (up_to o) (x ∷ xs))
    under each zero jl l =
        let one =
        sum_by-cons (λ y. cond (up_to o y) 1 0) x xs ∙ ap (λ b. cond b 1 0 + count_by (up_to o) xs) (le-leb x o l) in
        (λ c. l, λ s. omega (arith, one))
    under each (suc j) jl l =
        let one =
        sum_by-cons (λ y. cond (up_to o y) 1 0) x xs ∙ ap (λ b. cond b 1 0 + count_by (up_to o) xs) (le-leb x o l) in
        let rest = each j (omega (arith, jl)) in
        (λ c. rest.0 (omega (arith, one, c)), λ s. let more = rest.1 s in omega (arith, one, more))

-- no more names than there may be
pub few_names : (p : Program) → length (offsets_of p) ≤ NAMING_LIMIT → (at : Place) → E40 p at → ⊥
few_names p few at (k, n, is, many, e) =
    omega (arith, before_is p n.place, count_by-le-length (up_to (n.place).offset) (offsets_of p), many, few)

pub from_earliest : (p : Program) (s : List ℕ) (found : Option Place) → IsNonDecreasing s
    → IsPermutation (offsets_of p) s → NAMING_LIMIT < length s
    → found ≡ named_from p (get_or s NAMING_LIMIT 0) → IsEarliest (E40 p) found
from_earliest p s found up same long e =
    rw e (earliest_same (λ at. IsFoundIn in_defs p.defs at ⊎ IsFoundIn in_processes p.processes at) (E40 p)
    (named_from p (get_or s NAMING_LIMIT 0)) (earliest_two in_defs in_processes p.defs p.processes) to
    from)
  where
    in_defs : Def → Option Place
    in_defs = place_that def_place (is_from (get_or s NAMING_LIMIT 0))

    in_processes : Process → Option Place
    in_processes = place_that process_place (λ (q : Process). nat_le (get_or s NAMING_LIMIT 0) (q.place).offset)

    counted : (o : ℕ) → count_by (up_to o) s ≡ count_by (up_to o) (offsets_of p)
    counted o = sum_by-IsPermutation (λ x. cond (up_to o x) 1 0) (offsets_of p) s same

    many : (n : Naming) → get_or s NAMING_LIMIT 0 ≤ (n.place).offset → NAMING_LIMIT < namings_up_to p n.place
    many n lt = let more = (sorted_count (n.place).offset s NAMING_LIMIT up (omega (arith, long))).1 lt in
        omega (arith, more, counted (n.place).offset, before_is p n.place)

    past : (n : Naming) → NAMING_LIMIT < namings_up_to p n.place → get_or s NAMING_LIMIT 0 ≤ (n.place).offset
    past n le =
        (sorted_count (n.place).offset s NAMING_LIMIT up (omega (arith, long))).0
        (omega (arith, le, counted (n.place).offset, before_is p n.place))

    to : (at : Place) → IsFoundIn in_defs p.defs at ⊎ IsFoundIn in_processes p.processes at → E40 p at
    to at (inl (k, x, is, f)) =
        let h = passes def_place (is_from (get_or s NAMING_LIMIT 0)) x at f in
        let parts = and_parts (has_name x) (nat_le (get_or s NAMING_LIMIT 0) (x.place).offset) h.0 in
        let c = def_named p x (contains_from_get p.defs k x is) parts.0 in
        let (m, there) = get_from_contains (namings p) (def_naming x) c in
        (m, def_naming x, there, many (def_naming x) (leb-true _ _ parts.1), h.1)
    to at (inr (k, q, is, f)) =
        let h = passes process_place (λ (q : Process). nat_le (get_or s NAMING_LIMIT 0) (q.place).offset) q at f in
        let c = process_named p q (contains_from_get p.processes k q is) in
        let (m, there) = get_from_contains (namings p) (process_naming q) c in
        (m, process_naming q, there, many (process_naming q) (leb-true _ _ h.0), h.1)

    from : (at : Place) → E40 p at → IsFoundIn in_defs p.defs at ⊎ IsFoundIn in_processes p.processes at
    from at (k, n, is, le, e) = elim (named p n (contains_from_get (namings p) k n is)) [
      | inl (x, c, h, same_n) ↦ let (j, there) = get_from_contains p.defs x c in inl (
        j,
        x,
        there,
        passed def_place (is_from (get_or s NAMING_LIMIT 0)) x at
            (and_from _ _ h (le-leb _ _ (low (def_naming x) same_n)))
            (e ∙ ap (λ (m : Naming). m.place) (sym same_n)),
      )
      | inr (q, c, same_n) ↦ let (j, there) = get_from_contains p.processes q c in inr (
        j,
        q,
        there,
        passed process_place (λ (q : Process). nat_le (get_or s NAMING_LIMIT 0) (q.place).offset) q at
            (le-leb _ _ (low (process_naming q) same_n))
            (e ∙ ap (λ (m : Naming). m.place) (sym same_n)),
      )
    ]
      where
        low : (m : Naming) → m ≡ n → get_or s NAMING_LIMIT 0 ≤ (m.place).offset
        low m same_n = past m (subst (λ (o : Naming). NAMING_LIMIT < namings_up_to p o.place) (sym same_n) le)
