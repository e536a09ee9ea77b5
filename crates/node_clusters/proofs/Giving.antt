-- What a cluster is given, by the sources that it meets.
use Rattle.std.proofs.Common.{◌≡◌, ◌++◌, ◌∷◌, [], ℕ, List, Option, Some, None, refl, sym, ◌∙◌, ap, subst, inl, inr, ◌⊎◌}
use Rattle.std.specs.Prelude.{Contains, ◌↔◌, ◌≢◌, IsSome}
use Rattle.mp_base.specs.declared.value.Trit.{Trit}
use Rattle.mp_base.proofs.Values.{is_some_trit, same_trit_or_not}
use Rattle.mp_base.proofs.Contents.{nothing_in}
use Rattle.switch_net.specs.declared.network.Channel.{Channel}
use Rattle.switch_net.specs.Settled.{Setting, IsOn, MayBeOn}
use Rattle.switch_net.specs.Reaching.{Reach, here, over, IsStrongOn, IsFor, IsForeign, GivesByReach}
use Rattle.switch_net.specs.Laws.{GivesAlongReach}
use Rattle.switch_net.proofs.SwitchKinds.{on_may_be_on}
use Rattle.node_clusters.specs.declared.route.Route.TheVariants.{StrongOn, StrongMaybe, On}
use Rattle.node_clusters.specs.declared.route.Source.{Source}
use Rattle.node_clusters.specs.declared.route.Source.TheVariants.{For, Against, Any}
use Rattle.node_clusters.specs.Spread.{Uses, IsSource, Borders, Spreads, HoldsReached}
use Rattle.node_clusters.specs.Give.{IsCluster, TellGiven}
use Rattle.node_clusters.proofs.Listing.{contains_push}
use Rattle.node_clusters.proofs.Spreading.{reach_then, driven_at}

-- paths among undriven nodes go both ways
module _ (s : Setting) (P : Channel → Type 0) (a : ℕ) (free_a : s.driver a ≡ None) where
  pub undriven_along : (n : ℕ) → Reach s P (λ k. k ≡ a) n → s.driver n ≡ None
  undriven_along n (here e) = ap s.driver e ∙ free_a
  undriven_along n (over c r at at_m at_n free ok) = free

  pub reach_back : (n : ℕ) → Reach s P (λ k. k ≡ a) n → Reach s P (λ k. k ≡ n) a
  reach_back n (here e) = here (sym e)
  reach_back n (over {a = m} c r at at_m at_n free ok) =
      reach_then s P P (λ k. k ≡ m) (λ k. k ≡ n) a (λ d q. q)
      (λ k e. subst (λ x. Reach s P (λ j. j ≡ n) x) (sym e) (over c (here refl) at at_n at_m (undriven_along m r) ok))
      (reach_back m r)

pub cluster_from : (s : Setting) (v : ℕ → Trit) (node : ℕ) (start nodes : List ℕ) → s.driver node ≡ None
    → start ≡ [] ++ node ∷ [] → Spreads s (MayBeOn v) start nodes → IsCluster s v nodes
cluster_from s v node start nodes free is h = record {
  undriven = λ n q. undriven_along s (MayBeOn v) node free n (from n q);
  closed = h.closed;
  joined = λ a n at_a at_n.
      reach_then s (MayBeOn v) (MayBeOn v) (λ k. k ≡ node) (λ k. k ≡ a) n (λ c ok. ok)
      (λ k e. subst (λ x. Reach s (MayBeOn v) (λ j. j ≡ a) x) (sym e)
      (reach_back s (MayBeOn v) node free a (from a at_a)))
      (from n at_n);
}
  where
    only : (k : ℕ) → Contains start k → k ≡ node
    only k q = one ((contains_push [] node k).0 (subst (λ (xs : List ℕ). Contains xs k) is q))
      where
        one : Contains [] k ⊎ (node ≡ k) → k ≡ node
        one (inl r) = absurd (nothing_in k r)
        one (inr e) = sym e

    from : (n : ℕ) → Contains nodes n → Reach s (MayBeOn v) (λ k. k ≡ node) n
    from n q =
        reach_then s (MayBeOn v) (MayBeOn v) (Contains start) (λ k. k ≡ node) n (λ c ok. ok) (λ k r. here (only k r))
        (h.reached n q)

module _ (s : Setting) (v : ℕ → Trit) (b : Trit) (nodes : List ℕ) (cluster : IsCluster s v nodes) where
  abbrev pub Meets : Source → Type 0
  Meets source = (n : ℕ) × Contains nodes n × Borders s (MayBeOn v) (IsSource source s) n

  -- where a path from a source comes into the cluster, it meets the source
  pub enters : (source : Source) (n : ℕ) → Contains nodes n → Reach s (MayBeOn v) (IsSource source s) n → Meets source
  enters source n in' (here f) = absurd (driven_at source (s.driver n) f (cluster.undriven n in'))
  enters source n in' (over {a} c r at at_a at_n free ok) =
      by_driver (s.driver a) refl (λ inside. enters source a inside r)
    where
      start : (t : Trit) → s.driver a ≡ Some t → Reach s (MayBeOn v) (IsSource source s) a → IsSource source s a
      start t d (here f) = f
      start t d (over e q at' at_b at_a' free' ok') = absurd (cc)

      by_driver : (d : Option Trit) → s.driver a ≡ d → (Contains nodes a → Meets source) → Meets source
      by_driver (Some t) d again = (n, in', (c, at, ok, at_n, a, at_a, start t d r))
      by_driver None d again = again (cluster.closed n a in' (c, at, ok, at_n, at_a, d))

  -- a source that the cluster meets reaches each of its nodes
  pub met_reaches : (source : Source) → Meets source → (n : ℕ) → Contains nodes n
      → Reach s (MayBeOn v) (IsSource source s) n
  met_reaches source (m, inside, (c, at, ok, at_m, a, at_a, from)) n in' =
      reach_then s (MayBeOn v) (MayBeOn v) (λ k. k ≡ m) (IsSource source s) n (λ d q. q)
      (λ k e. subst (λ x. Reach s (MayBeOn v) (IsSource source s) x) (sym e)
      (over c (here from) at at_a at_m (cluster.undriven m inside) ok))
      (cluster.joined m n inside in')

  foreign_from : (source : Source) (a : ℕ) → IsSource source s a → IsForeign s b a
  foreign_from source a f = inl (driven (s.driver a) refl)
    where
      driven : (d : Option Trit) → s.driver a ≡ d → IsSome (s.driver a)
      driven (Some t) e = is_some_trit (s.driver a) t e
      driven None e = absurd (driven_at source (s.driver a) f e)

  foreign_met : (source : Source) → Meets source → (n : ℕ) → Contains nodes n → Reach s (MayBeOn v) (IsForeign s b) n
  foreign_met source m n in' =
      reach_then s (MayBeOn v) (MayBeOn v) (IsSource source s) (IsForeign s b) n (λ c ok. ok)
      (λ a f. here (foreign_from source a f)) (met_reaches source m n in')

  strong_held : (n : ℕ) → Reach s (IsStrongOn v) (IsFor s b) n → Reach s (IsOn v) (IsFor s b) n
  strong_held n r = reach_then s (IsStrongOn v) (IsOn v) (IsFor s b) (IsFor s b) n (λ c ok. ok.1) (λ a f. here f) r

  held_any : (n : ℕ) → Reach s (IsOn v) (IsFor s b) n → Reach s (MayBeOn v) (IsSource Any s) n
  held_any n r =
      reach_then s (IsOn v) (MayBeOn v) (IsFor s b) (IsSource Any s) n (λ c ok. on_may_be_on c.kind (v c.gate) ok)
      (λ a f. here (is_some_trit (s.driver a) b f)) r

  module _ (law : GivesAlongReach) (held against : List ℕ) where
    pub given_opposed : Meets (Against b) → HoldsReached s (Uses StrongOn v) (IsSource (For b) s) nodes held
        → HoldsReached s (Uses StrongMaybe v) (IsSource (Against b) s) nodes against
        → TellGiven s v b nodes held against
    given_opposed met H A n in' =
        (λ q. (law s v n b).1 (inl ((H n in').0 q.0, λ r. q.1 ((A n in').1 r))), λ g. back ((law s v n b).0 g))
      where
        back : GivesByReach s v n b → Contains held n × (Contains against n → ⊥)
        back (inl g) = ((H n in').1 g.0, λ q. g.1 ((A n in').0 q))
        back (inr (inl g)) = absurd (g.1 (met_reaches (Against b) met n in'))
        back (inr (inr g)) = absurd (g (foreign_met (Against b) met n in'))

    pub given_held : (Meets (Against b) → ⊥) → Meets Any → HoldsReached s (Uses On v) (IsSource (For b) s) nodes held
        → against ≡ [] → TellGiven s v b nodes held against
    given_held free met H e n in' = (
      λ q. (law s v n b).1
          (inr (inl ((H n in').0 q.0, λ r. free (enters (Against b) n in' r)))),
      λ g. (back ((law s v n b).0 g), none),
    )
      where
        none : Contains against n → ⊥
        none q = nothing_in n (subst (λ (xs : List ℕ). Contains xs n) e q)

        back : GivesByReach s v n b → Contains held n
        back (inl g) = (H n in').1 (strong_held n g.0)
        back (inr (inl g)) = (H n in').1 g.0
        back (inr (inr g)) = absurd (g (foreign_met Any met n in'))

    abbrev AllHad : Type 0
    AllHad = (n : ℕ) → Contains nodes n → s.before n ≡ b

    kept_from : (Meets Any → ⊥) → AllHad → (n : ℕ) → Contains nodes n → Reach s (MayBeOn v) (IsForeign s b) n → ⊥
    kept_from alone had n in' (here f) = by_case f
      where
        by_case : (IsSome (s.driver n)) ⊎ (s.before n ≢ b) → ⊥
        by_case (inl d) = driven_at Any (s.driver n) d (cluster.undriven n in')
        by_case (inr ne) = ne (had n in')
    kept_from alone had n in' (over {a} c r at at_a at_n free ok) =
        by_driver (s.driver a) refl (λ inside. kept_from alone had a inside r)
      where
        by_driver : (d : Option Trit) → s.driver a ≡ d → (Contains nodes a → ⊥) → ⊥
        by_driver (Some t) d again = alone (n, in', (c, at, ok, at_n, a, at_a, is_some_trit (s.driver a) t d))
        by_driver None d again = again (cluster.closed n a in' (c, at, ok, at_n, at_a, d))

    had_from : (n : ℕ) → Contains nodes n → (Reach s (MayBeOn v) (IsForeign s b) n → ⊥)
        → (same : (t : Trit) → (t ≡ b) ⊎ (t ≢ b)) → AllHad
    had_from n in' none same m at = by_case (same (s.before m))
      where
        by_case : (s.before m ≡ b) ⊎ (s.before m ≢ b) → s.before m ≡ b
        by_case (inl e) = e
        by_case (inr ne) =
            absurd (none (reach_then s (MayBeOn v) (MayBeOn v) (λ k. k ≡ m) (IsForeign s b) n (λ c ok. ok)
            (λ k e. here (inr (subst (λ x. s.before x ≢ b) (sym e) ne))) (cluster.joined m n at in')))

    given_alone : (Meets Any → ⊥) → (n : ℕ) → Contains nodes n → GivesByReach s v n b
        → Reach s (MayBeOn v) (IsForeign s b) n → ⊥
    given_alone alone n in' (inl g) = absurd (alone (enters Any n in' (held_any n (strong_held n g.0))))
    given_alone alone n in' (inr (inl g)) = absurd (alone (enters Any n in' (held_any n g.0)))
    given_alone alone n in' (inr (inr g)) = g

    pub given_kept : (Meets Any → ⊥) → ((n : ℕ) → Contains nodes n → s.before n ≡ b)
        → ((n : ℕ) → Contains held n ↔ Contains nodes n) → against ≡ [] → TellGiven s v b nodes held against
    given_kept alone had copied e n in' = (
      λ _. (law s v n b).1 (inr (inr (kept_from alone had n in'))),
      λ _. ((copied n).1 in', λ q. nothing_in n (subst (λ (xs : List ℕ). Contains xs n) e q)),
    )

    pub given_mixed : (Meets Any → ⊥) → (((n : ℕ) → Contains nodes n → s.before n ≡ b) → ⊥) → held ≡ []
        → TellGiven s v b nodes held against
    given_mixed alone mixed e n in' = (
      λ q. absurd (nothing_in n (subst (λ (xs : List ℕ). Contains xs n) e q.0)),
      λ g. absurd (mixed (had_from n in' (given_alone alone n in' ((law s v n b).0 g)) (λ t. same_trit_or_not t b))),
    )
