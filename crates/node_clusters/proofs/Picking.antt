-- Nodes of a list that are picked one by one.
use Rattle.std.proofs.Common.{◌≡◌, ◌<◌, ◌≤◌, ◌+◌, ◌++◌, ◌∷◌, [], ℕ, List, length, get_or, take, sym, subst, inl, inr}
use Rattle.std.proofs.Common.{◌⊎◌, arith}
use Rattle.std.specs.Prelude.{Contains}
use Rattle.std.proofs.lemmas.List.{take_all}
use Rattle.mp_base.proofs.Numbers.{below_suc}
use Rattle.mp_base.proofs.Contents.{nothing_in}
use Rattle.node_clusters.specs.Spread.{Picks}
use Rattle.node_clusters.proofs.Listing.{contains_push, contains_more, index_of}

module _ (P : ℕ → Type 0) (nodes : List ℕ) where
  pub picks_none : (picked : List ℕ) → picked ≡ [] → Picks P (take 0 nodes) picked
  picks_none picked e n =
      (λ h. absurd (nothing_in n (subst (λ (xs : List ℕ). Contains xs n) e h)), λ h. absurd (nothing_in n h.0))

  module _ (i e : ℕ) (picked : List ℕ) (lt : i < length nodes) (is : e ≡ get_or nodes i e)
      (h : Picks P (take i nodes) picked) where
    pub picks_more : P e → Picks P (take (i + 1) nodes) (picked ++ e ∷ [])
    picks_more b n = (
      λ q. forth ((contains_push picked e n).0 q),
      λ q. (contains_push picked e n).1
          (back q.1 ((contains_more nodes i e n lt is).0 q.0)),
    )
      where
        forth : Contains picked n ⊎ (e ≡ n) → Contains (take (i + 1) nodes) n × P n
        forth (inl q) = ((contains_more nodes i e n lt is).1 (inl ((h n).0 q).0), ((h n).0 q).1)
        forth (inr q) = ((contains_more nodes i e n lt is).1 (inr q), subst P q b)

        back : P n → Contains (take i nodes) n ⊎ (e ≡ n) → Contains picked n ⊎ (e ≡ n)
        back r (inl q) = inl ((h n).1 (q, r))
        back r (inr q) = inr q

    pub picks_skip : (P e → Contains picked e) → Picks P (take (i + 1) nodes) picked
    picks_skip there n = (
      λ q. ((contains_more nodes i e n lt is).1 (inl ((h n).0 q).0), ((h n).0 q).1),
      λ q. back q.1
          ((contains_more nodes i e n lt is).0 q.0),
    )
      where
        back : P n → Contains (take i nodes) n ⊎ (e ≡ n) → Contains picked n
        back r (inl q) = (h n).1 (q, r)
        back r (inr q) = subst (λ (m : ℕ). Contains picked m) q (there (subst P (sym q) r))

  pub picks_all : (i : ℕ) (picked : List ℕ) → length nodes ≤ i → Picks P (take i nodes) picked → Picks P nodes picked
  picks_all i picked le h = subst (λ (xs : List ℕ). Picks P xs picked) (take_all i nodes le) h

-- a fact that holds at each place so far
pub each_more : (P : ℕ → Type 0) (nodes : List ℕ) (i : ℕ) → P (get_or nodes i 0)
    → ((k : ℕ) → k < i → P (get_or nodes k 0)) → (k : ℕ) → k < i + 1 → P (get_or nodes k 0)
each_more P nodes i here h k lt = by_place (below_suc k i lt)
  where
    by_place : (k < i) ⊎ (k ≡ i) → P (get_or nodes k 0)
    by_place (inl below) = h k below
    by_place (inr e) = subst (λ m. P (get_or nodes m 0)) (sym e) here

pub each_all : (P : ℕ → Type 0) (nodes : List ℕ) (i : ℕ) → length nodes ≤ i → ((k : ℕ) → k < i → P (get_or nodes k 0))
    → (n : ℕ) → Contains nodes n → P n
each_all P nodes i le h n q =
    let k = index_of nodes n q in
    subst P k.2 (h k.0 (let l = k.1 in omega arith))
