-- How a settling starts.
use Rattle.std.specs.Prelude.{◌≡◌, ◌≢◌, ◌<◌, ◌≤◌, ◌⊎◌, ℕ, List, Bool, Option, Some, None}
use Rattle.mp_base.specs.declared.value.Trit.{Trit}
use Rattle.switch_net.specs.declared.network.Channel.{Channel}
use Rattle.switch_net.specs.Settled.{Setting}
use Rattle.settle_laws.specs.Told.{IsTold}
use Rattle.node_clusters.specs.Values.{IsMarked}
use Rattle.switch_net.specs.Values.{value_at, driver_at}
use Rattle.node_clusters.specs.Links.{listed}
use Rattle.settle.specs.Wake.{Widens, Wakes, WakesBeside}

-- driven nodes have what drives them, undriven nodes alone wait, and it is told where values may not be what is given
pub record IsReady (s : Setting) (values : List Trit) (waits : List Bool) : Type 0 where
  pub driven : (n : ℕ) (t : Trit) → s.driver n ≡ Some t → value_at values n ≡ t
  pub undriven : (n : ℕ) → IsMarked waits n → s.driver n ≡ None
  pub told : IsTold s (value_at values) (IsMarked waits)

-- a node has another driver
pub record Redrives (channels : List Channel) (gated : List (List ℕ)) (drive : List (Option Trit)) (node : ℕ)
    (old new : List Trit) (before after : List Bool) : Type 0 where
  pub driven : (t : Trit) → driver_at drive node ≡ Some t → value_at new node ≡ t
  pub kept : (n : ℕ) → (n ≢ node) ⊎ (driver_at drive node ≡ None) → value_at new n ≡ value_at old n
  pub waiting : driver_at drive node ≡ None → IsMarked after node
  pub told : (value_at new node ≡ value_at old node) ⊎ Wakes (driver_at drive) (listed gated node) after
  pub beside : WakesBeside (driver_at drive) channels node after
  pub widens : Widens (driver_at drive) before after

-- the first nodes have other drivers
pub record RedrivesFirst (channels : List Channel) (gated : List (List ℕ)) (last drive : List (Option Trit))
    (first : ℕ) (old new : List Trit) (waits : List Bool) : Type 0 where
  pub driven : (n : ℕ) (t : Trit) → n < first → driver_at drive n ≡ Some t → value_at new n ≡ t
  pub kept : (n : ℕ) → (driver_at drive n ≡ None) ⊎ (first ≤ n) → value_at new n ≡ value_at old n
  pub lost : (n : ℕ) → n < first → driver_at drive n ≡ None → (driver_at last n ≡ None) ⊎ IsMarked waits n
  pub told : (g : ℕ) → (value_at new g ≡ value_at old g) ⊎ Wakes (driver_at drive) (listed gated g) waits
  pub beside : (n : ℕ) → n < first
      → (driver_at drive n ≡ driver_at last n) ⊎ WakesBeside (driver_at drive) channels n waits
  pub undriven : (n : ℕ) → IsMarked waits n → driver_at drive n ≡ None
