-- The numbering of nodes, one node on.
use Rattle.std.proofs.Common.{◌≡◌, ℕ, ◌+◌, ◌≤◌, Bool, true, false, cond, List, [], ◌∷◌, ◌++◌, refl, sym, ◌∙◌, ap}
use Rattle.std.proofs.Common.{length, map, arith}
use Rattle.std.specs.List.{filter, range_with_len}
use Rattle.std.proofs.lemmas.List.{map-id, map-append, append-nil, length_push}
use Rattle.std.proofs.lemmas.List.FromFn.{filter_of_map_range_with_len_more, map-range_with_len_more}
use Rattle.mp_entries.specs.Entries.{nodes_below, ranks}

pub nodes_below_more : (test : ℕ → Bool) (n : ℕ)
    → nodes_below test (n + 1) ≡ nodes_below test n ++ cond (test n) (n ∷ []) []
nodes_below_more test n =
    let whole = λ (k : ℕ). ap (filter test) (map-id (range_with_len 0 k)) in
    sym (whole (n + 1)) ∙ filter_of_map_range_with_len_more test (λ x. x) 0 n n (omega arith)
    ∙ ap (λ xs. xs ++ cond (test n) (n ∷ []) []) (whole n)

pub nodes_below_with : (test : ℕ → Bool) (n : ℕ) → test n ≡ true
    → nodes_below test (n + 1) ≡ nodes_below test n ++ n ∷ []
nodes_below_with test n is = nodes_below_more test n ∙ ap (λ b. nodes_below test n ++ cond b (n ∷ []) []) is

pub nodes_below_without : (test : ℕ → Bool) (n : ℕ) → test n ≡ false → nodes_below test (n + 1) ≡ nodes_below test n
nodes_below_without test n is =
    nodes_below_more test n ∙ ap (λ b. nodes_below test n ++ cond b (n ∷ []) []) is ∙ append-nil (nodes_below test n)

-- the entries of one node more
pub entries_with : {X : Type 0} (entry : ℕ → X) (test : ℕ → Bool) (n : ℕ) → test n ≡ true
    → map entry (nodes_below test (n + 1)) ≡ map entry (nodes_below test n) ++ entry n ∷ []
entries_with entry test n is =
    ap (map entry) (nodes_below_with test n is) ∙ map-append entry (nodes_below test n) (n ∷ [])

pub entries_without : {X : Type 0} (entry : ℕ → X) (test : ℕ → Bool) (n : ℕ) → test n ≡ false
    → map entry (nodes_below test (n + 1)) ≡ map entry (nodes_below test n)
entries_without entry test n is = ap (map entry) (nodes_below_without test n is)

-- how many nodes pass, and how many did before each
pub record Numbered (test : ℕ → Bool) (n count : ℕ) (list : List ℕ) : Type 0 where
  pub counted : count ≡ length (nodes_below test n)
  pub listed : list ≡ ranks test n
  pub few : count ≤ n

pub numbered_none : (test : ℕ → Bool) → Numbered test 0 0 []
numbered_none test = record { counted = refl; listed = refl; few = omega arith }

listed_more : (test : ℕ → Bool) (n count : ℕ) (list : List ℕ) → Numbered test n count list
    → list ++ count ∷ [] ≡ ranks test (n + 1)
listed_more test n count list h =
    ap (λ xs. xs ++ count ∷ []) h.listed ∙ ap (λ k. ranks test n ++ k ∷ []) h.counted
    ∙ sym (map-range_with_len_more (λ m. length (nodes_below test m)) 0 n n (omega arith))

pub numbered_with : (test : ℕ → Bool) (n count : ℕ) (list : List ℕ) → Numbered test n count list → test n ≡ true
    → Numbered test (n + 1) (count + 1) (list ++ count ∷ [])
numbered_with test n count list h is = record {
  counted =
      ap (λ k. k + 1) h.counted ∙ sym (ap length (nodes_below_with test n is) ∙ length_push (nodes_below test n) n);
  listed = listed_more test n count list h;
  few = omega (arith, h.few);
}

pub numbered_without : (test : ℕ → Bool) (n count : ℕ) (list : List ℕ) → Numbered test n count list → test n ≡ false
    → Numbered test (n + 1) count (list ++ count ∷ [])
numbered_without test n count list h is = record {
  counted = h.counted ∙ sym (ap length (nodes_below_without test n is));
  listed = listed_more test n count list h;
  few = omega (arith, h.few);
}
