-- What a cluster of nodes is given.
use Rattle.std.specs.Prelude.{◌≡◌, ◌↔◌, ℕ, List, None, Contains}
use Rattle.mp_base.specs.declared.value.Trit.{Trit}
use Rattle.switch_net.specs.Settled.{Setting, MayBeOn, Gives}
use Rattle.switch_net.specs.Reaching.{Reach}
use Rattle.node_clusters.specs.Spread.{Adjoins}

-- undriven nodes, each possibly joined to each, and to no other undriven node
pub record IsCluster (s : Setting) (v : ℕ → Trit) (nodes : List ℕ) : Type 0 where
  pub undriven : (n : ℕ) → Contains nodes n → s.driver n ≡ None
  pub closed : (a n : ℕ) → Contains nodes a → Adjoins s (MayBeOn v) a n → Contains nodes n
  pub joined : (a n : ℕ) → Contains nodes a → Contains nodes n → Reach s (MayBeOn v) (λ k. k ≡ a) n

-- of these nodes, those in the one set and not in the other are given b
abbrev pub TellGiven : Setting → (ℕ → Trit) → Trit → List ℕ → List ℕ → List ℕ → Type 0
TellGiven s v b nodes held against = (n : ℕ) → Contains nodes n
    → (Contains held n × ¬ Contains against n) ↔ Gives s v n b
