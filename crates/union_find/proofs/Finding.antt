-- What the search for a root keeps.
use Rattle.std.proofs.Common.{◌≡◌, ℕ, ◌<◌, List, length, get_or}
use Rattle.std.proofs.Common.{◌≤◌, ◌+◌, inl, inr, sym, ◌∙◌, ap, set, arith, take, drop, ◌++◌}
use Rattle.std.proofs.lemmas.Bool.{cases_eq}
use Rattle.std.proofs.lemmas.List.{get_or-set_same, get_or-set_other}
use Rattle.std.proofs.lemmas.Grind.{common_steps}
use Rattle.union_find.proofs.Roots.{root_halved, root_along, root_at, set_below}
use Rattle.union_find.specs.Roots.{IsBelow, root}

pub record IsFound (old : List ℕ) (i : ℕ) (now : List ℕ) (x : ℕ) : Type 0 where
  pub still : IsBelow now
  pub inside : x < length now
  pub same : (k : ℕ) → root now k ≡ root old k
  pub here : root now x ≡ root old i

pub record IsCounted (p : List ℕ) (n : ℕ) : Type 0 where
  pub many : length p ≡ n
  pub each : (k : ℕ) → k < n → get_or p k 0 ≡ k

pub record IsFlat (old now : List ℕ) (i : ℕ) : Type 0 where
  pub still : IsBelow now
  pub same : (k : ℕ) → root now k ≡ root old k
  pub done : (k : ℕ) → k < i → get_or now k 0 ≡ root old k

pub flat_more : (old now : List ℕ) (i : ℕ) → IsFlat old now i → i < length now
    → IsFlat old (set now i (get_or now (get_or now i 0) 0)) (i + 1)
flat_more old now i f l =
    let u : ℕ = get_or now i 0 in
    let v : ℕ = get_or now u 0 in
    let a : u ≤ i = f.still i in
    let b : v ≤ u = f.still u in
    let value : v ≡ root old i = elim (cases_eq u i) [
      | inl e ↦ ap (λ n. get_or now n 0) e ∙ (e ∙ (sym (root_at now i e) ∙ f.same i))
      | inr n ↦ f.done u (omega arith) ∙ (sym (f.same u) ∙ (root_along now f.still i ∙ f.same i))
    ] in
    record {
      still = set_below now f.still i v l (omega arith);
      same = λ k. root_halved now f.still i l k ∙ f.same k;
      done = λ k h. elim (cases_eq k i) [
        | inl e ↦ rw e (get_or-set_same now i v 0 l ∙ value)
        | inr n ↦ get_or-set_other now i k v 0 n ∙ f.done k (omega arith)
      ];
    }

pub put_back : (n : ℕ) (xs ys : List ℕ) → length xs ≡ length ys → n ≡ length ys
    → take n (xs ++ drop (length xs) ys) ≡ xs
put_back n xs ys e f = grind (arith, common_steps)
