-- What spreads inside a cluster is what the whole network reaches.
use Rattle.std.proofs.Common.{◌≡◌, ℕ, List, Option, Some, None, refl}
use Rattle.std.specs.Prelude.{Contains}
use Rattle.mp_base.specs.declared.value.Trit.{Trit}
use Rattle.switch_net.specs.declared.network.ChannelKind.{ChannelKind}
use Rattle.switch_net.specs.declared.network.Channel.{Channel}
use Rattle.switch_net.specs.Settled.{Setting, KindMayBeOn}
use Rattle.switch_net.specs.Reaching.{Reach, here, over}
use Rattle.switch_net.proofs.SwitchKinds.{on_may_be_on}
use Rattle.node_clusters.specs.declared.route.Route.{Route}
use Rattle.node_clusters.specs.declared.route.Route.TheVariants.{StrongOn, StrongMaybe, On, Maybe}
use Rattle.node_clusters.specs.declared.route.Source.{Source}
use Rattle.node_clusters.specs.declared.route.Source.TheVariants.{For, Against, Any}
use Rattle.node_clusters.specs.Spread.{Uses, KindUses, IsSource, IsSourceOf, Borders, Spreads, Picks, HoldsReached}
use Rattle.node_clusters.specs.Give.{IsCluster}

pub reach_then : (s : Setting) (P Q : Channel → Type 0) (F G : ℕ → Type 0) (n : ℕ) → ((c : Channel) → P c → Q c)
    → ((a : ℕ) → F a → Reach s Q G a) → Reach s P F n → Reach s Q G n
reach_then s P Q F G n f g (here h) = g n h
reach_then s P Q F G n f g (over {a} c r in' at_a at_b free ok) =
    over c (reach_then s P Q F G a f g r) in' at_a at_b free (f c ok)

-- a driver drives
pub driven_at : (source : Source) (d : Option Trit) → IsSourceOf source d → d ≡ None → ⊥
driven_at (For b) d e free = cc
driven_at (Against b) d h free = let e = h.1 in cc
driven_at Any (Some t) h free = cc
driven_at Any None h free = cc

route_may : (route : Route) (k : ChannelKind) (t : Trit) → KindUses route k t → KindMayBeOn k t
route_may StrongOn k t h = on_may_be_on k t h.1
route_may StrongMaybe k t h = h.1
route_may On k t h = on_may_be_on k t h
route_may Maybe k t h = h

module _ (s : Setting) (v : ℕ → Trit) (nodes : List ℕ) (cluster : IsCluster s v nodes) (route : Route)
    (source : Source) (seeds held : List ℕ)
    (are : Picks (Borders s (Uses route v) (IsSource source s)) nodes seeds)
    (spreads : Spreads s (Uses route v) seeds held) where
  from_seed : (n : ℕ) → Contains seeds n → Reach s (Uses route v) (IsSource source s) n
  from_seed n q =
      let p = (are n).0 q in
      let b = p.1 in
      over b.0 (here b.6) b.1 b.5 b.3 (cluster.undriven n p.0) b.2

  start : (a : ℕ) (t : Trit) → s.driver a ≡ Some t → Reach s (Uses route v) (IsSource source s) a → IsSource source s a
  start a t d (here f) = f
  start a t d (over e q at' at_b at_a' free' ok') = absurd (cc)

  to_held : (n : ℕ) → Contains nodes n → Reach s (Uses route v) (IsSource source s) n → Contains held n
  to_held n in' (here f) = absurd (driven_at source (s.driver n) f (cluster.undriven n in'))
  to_held n in' (over {a} c r at at_a at_n free ok) = by_driver (s.driver a) refl (λ inside. to_held a inside r)
    where
      by_driver : (d : Option Trit) → s.driver a ≡ d → (Contains nodes a → Contains held a) → Contains held n
      by_driver (Some t) d again = spreads.kept n ((are n).1 (in', (c, at, ok, at_n, a, at_a, start a t d r)))
      by_driver None d again =
          let may = route_may route c.kind (v c.gate) ok in
          let inside : Contains nodes a = cluster.closed n a in' (c, at, may, at_n, at_a, d) in
          spreads.closed a n (again inside) (c, at, ok, at_a, at_n, free)

  pub holds_reached : HoldsReached s (Uses route v) (IsSource source s) nodes held
  holds_reached n in' = (
    λ q. reach_then s (Uses route v) (Uses route v) (Contains seeds) (IsSource source s) n (λ c ok. ok) from_seed
        (spreads.reached n q),
    to_held n in',
  )
