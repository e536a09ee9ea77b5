-- What a look at a cluster tells.
use Rattle.std.proofs.Common.{◌≡◌, ◌<◌, ℕ, List, [], ◌∷◌, Bool, zero, suc, length, get_or}
use Rattle.std.proofs.Common.{◌∙◌, subst, inl, inr, ◌⊎◌, arith}
use Rattle.std.specs.Prelude.{Contains, All, ◌≢◌}
use Rattle.std.proofs.lemmas.Bool.{cases_eq}
use Rattle.mp_base.specs.declared.value.Trit.{Trit}
use Rattle.mp_base.specs.declared.value.Trit.TheVariants.{Zero, One}
use Rattle.mp_base.proofs.Contents.{nothing_in}
use Rattle.switch_net.specs.declared.network.Channel.{Channel}
use Rattle.switch_net.specs.Settled.{Setting, Gives}
use Rattle.switch_net.specs.Laws.{GivesOnce}
use Rattle.settle_laws.specs.Told.{IsGiven, IsLook}
use Rattle.settle_laws.specs.Laws.{LooksTell}
use Rattle.node_clusters.specs.Values.{IsMarked}
use Rattle.switch_net.specs.Values.{value_at}
use Rattle.node_clusters.specs.Links.{AreGated}
use Rattle.node_clusters.specs.Spread.{Picks}
use Rattle.node_clusters.specs.Give.{IsCluster}
use Rattle.settle.specs.Wake.{Renews}
use Rattle.settle.specs.Start.{IsReady}
use Rattle.settle.proofs.Waking.{mark_at}

-- a list has a number or not
pub contains_cases : (xs : List ℕ) (n : ℕ) → Contains xs n ⊎ (Contains xs n → ⊥)
contains_cases [] n = inr (nothing_in n)
contains_cases (x ∷ xs) n = by_head (cases_eq x n) (contains_cases xs n)
  where
    tail : x ≢ n → Contains (x ∷ xs) n → Contains xs n
    tail ne (zero, lt, e) = absurd (ne e)
    tail ne (suc k, lt, e) = (k, omega arith, e)

    by_head : (x ≡ n) ⊎ (x ≢ n) → Contains xs n ⊎ (Contains xs n → ⊥) → Contains (x ∷ xs) n ⊎ (Contains (x ∷ xs) n → ⊥)
    by_head (inl e) _ = inl (zero, omega arith, e)
    by_head (inr ne) (inl q) = inl (suc q.0, omega arith, q.2)
    by_head (inr ne) (inr out) = inr (λ q. out (tail ne q))

-- the ends of channels are nodes
pub end_inside : (nodes : ℕ) (channels : List Channel) → All (λ (c : Channel). All (λ e. e < nodes) c.ends) channels
    → (c : Channel) (e : ℕ) → Contains channels c → Contains c.ends e → e < nodes
end_inside nodes channels ends c e in' at =
    let inside : All (λ k. k < nodes) c.ends =
    subst (λ (x : Channel). All (λ k. k < nodes) x.ends) in'.2 (ends in'.0 c in'.1) in
    let below : get_or c.ends at.0 e < nodes = inside at.0 e at.1 in
    let same : get_or c.ends at.0 e ≡ e = at.2 in
    omega arith

module _ (s : Setting) (nodes : ℕ) (ends : All (λ (c : Channel). All (λ e. e < nodes) c.ends) s.channels)
    (gated : List (List ℕ)) (are : AreGated s.channels gated)
    (old new : List Trit) (before mid after : List Bool) (sized : length after ≡ nodes)
    (cluster zeros ones : List ℕ) (is : IsCluster s (value_at old) cluster)
    (Z : Picks (λ n. Gives s (value_at old) n Zero) cluster zeros)
    (O : Picks (λ n. Gives s (value_at old) n One) cluster ones)
    (fewer : (n : ℕ) → IsMarked mid n → IsMarked before n)
    (rest : (n : ℕ) → IsMarked before n → IsMarked mid n ⊎ Contains cluster n)
    (renews : Renews s.driver gated zeros ones cluster old new mid after) (ready : IsReady s old before) where
  given : (n : ℕ) → Contains cluster n → IsGiven s (value_at old) n (value_at new n)
  given n in' =
      let v = renews.given n in' in (
        (λ z. ((Z n).0 (v.zero.0 z)).1, λ g. v.zero.1 ((Z n).1 (in', g))),
        (λ z. ((O n).0 (v.one.0 z)).1, λ g. v.one.1 ((O n).1 (in', g))),
      )

  looks : IsLook s (value_at old) (value_at new) (Contains cluster) (IsMarked before) (IsMarked after)
  looks = record {
    undriven = ready.undriven;
    waiting = λ n m. elim (rest n m) [ inl q ↦ inl (renews.widens.kept n q) | inr q ↦ inr q ];
    closed = λ c a n in_a in' at_a at_n free may. is.closed a n in_a (c, in', may, at_a, at_n, free);
    known = contains_cases cluster;
    given = given;
    kept = renews.kept;
    gated = λ c e in' kind at free. elim (renews.told c.gate) [
      | inl same ↦ inl same
      | inr w ↦
          inr (w e (are c e in' kind at) (let l = end_inside nodes s.channels ends c e in' at in omega arith) free)
    ];
  }

  pub look_ready : LooksTell → IsReady s new after
  look_ready law = record {
    driven = λ n t d. renews.kept n (λ in'. let free = is.undriven n in' in absurd (cc)) ∙ ready.driven n t d;
    undriven = λ n m. elim (renews.widens.undriven n m) [ inl q ↦ ready.undriven n (fewer n q) | inr free ↦ free ];
    told = law s (value_at old) (value_at new) cluster (mark_at before) (mark_at after) ready.told looks;
  }

-- no node is given both
pub apart_from : (s : Setting) (v : ℕ → Trit) (once : GivesOnce) (cluster zeros ones : List ℕ)
    → Picks (λ n. Gives s v n Zero) cluster zeros → Picks (λ n. Gives s v n One) cluster ones
    → (n : ℕ) → Contains zeros n → Contains ones n → ⊥
apart_from s v once cluster zeros ones Z O n z o =
    let e : Zero ≡ One = once s v n Zero One ((Z n).0 z).1 ((O n).0 o).1 in absurd (cc)
