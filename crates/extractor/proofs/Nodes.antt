-- Squares of nodes.
use Rattle.std.proofs.Common.{◌≡◌, ℕ, ◌<◌, inl, inr, List, length, get_or, subst, arith}
use Rattle.std.specs.Prelude.{◌≢◌, ℤ, Contains}
use Rattle.std.proofs.lemmas.Bool.{cases_lt}
use Rattle.std.proofs.lemmas.List.{get_or_default}
use Rattle.lam_geom.specs.declared.layer.Layer.{Layer}
use Rattle.lam_geom.specs.Chains.{Chain}
use Rattle.lam_geom.specs.Chains.Chain.{here, link}
use Rattle.lam_geom.specs.Squares.{Square}
use Rattle.lam_geom.proofs.Chains.{join_chains, turn_chain}
use Rattle.switch_net.specs.Conductors.{Conducts, Joined}
use Rattle.switch_net.specs.Conductors.Joined.{beside, contact}
use Rattle.switch_net.specs.Drawn.{AreNodes, IsOfNode}
use Rattle.switch_net.proofs.Joins.{join_flip}

module _ (covers : Layer → ℤ → ℤ → Type 0) where
  joined_to : (s t : Square) → Joined covers s t → Conducts covers t
  joined_to s t (beside j) = j.to
  joined_to s t (contact j) = j.to

  chain_end : {s t : Square} → Conducts covers s → Chain (Joined covers) s t → Conducts covers t
  chain_end h here = h
  chain_end h (link {s = s} {t = t} j c) = chain_end (joined_to s t j) c

  module _ (nodes : List Square) (are : AreNodes covers nodes) where
    has : (k : ℕ) (d : Square) → k < length nodes → Contains nodes (get_or nodes k d)
    has k d l = (k, l, get_or_default nodes k (get_or nodes k d) d l)

    -- what is of a node conducts
    pub conducts_there : (k : ℕ) (s : Square) → IsOfNode covers nodes k s → Conducts covers s
    conducts_there k s h = chain_end (are.each k s h.0) h.1

    root_chain : (j k : ℕ) (s : Square) → IsOfNode covers nodes j s → IsOfNode covers nodes k s
        → Chain (Joined covers) (get_or nodes j s) (get_or nodes k s)
    root_chain j k s h i = join_chains h.1 (turn_chain (join_flip covers) i.1)

    not_below : (j k : ℕ) (s : Square) → IsOfNode covers nodes j s → IsOfNode covers nodes k s → j < k → ⊥
    not_below j k s h i l =
        are.first (get_or nodes k s) (get_or nodes j s) (has k s i.0) (are.each j s h.0) (root_chain k j s i h)
        (are.ascending j k s l i.0)

    -- a square is of one node
    pub one_node : (j k : ℕ) (s : Square) → IsOfNode covers nodes j s → IsOfNode covers nodes k s → j ≡ k
    one_node j k s h i = elim (cases_lt j k) [
      | inl l ↦ absurd (not_below j k s h i l)
      | inr l ↦ (elim (cases_lt k j) [ inl m ↦ absurd (not_below k j s i h m) | inr m ↦ omega arith ])
    ]

    moved : (k : ℕ) (s t : Square) → IsOfNode covers nodes k s → Chain (Joined covers) (get_or nodes k t) s
    moved k s t h = subst (λ r. Chain (Joined covers) r s) (get_or_default nodes k s t h.0) h.1

    -- squares of different nodes are not joined
    pub apart_nodes : (j k : ℕ) (s t : Square) → IsOfNode covers nodes j s → IsOfNode covers nodes k t → j ≢ k
        → ¬ Chain (Joined covers) s t
    apart_nodes j k s t h i ne c = ne (one_node j k t (h.0, join_chains (moved j s t h) c) i)

    -- squares of one node are joined
    pub joined_there : (k : ℕ) (s t : Square) → IsOfNode covers nodes k s → IsOfNode covers nodes k t
        → Chain (Joined covers) s t
    joined_there k s t h i = join_chains (turn_chain (join_flip covers) (moved k s t h)) i.1
