-- What waits.
use Rattle.std.specs.Prelude.{◌≡◌, ◌<◌, ◌⊎◌, ◌↔◌, ℕ, List, Bool, Option, None, length, Contains}
use Rattle.mp_base.specs.declared.value.Trit.{Trit}
use Rattle.mp_base.specs.declared.value.Trit.TheVariants.{Zero, One}
use Rattle.switch_net.specs.declared.network.Channel.{Channel}
use Rattle.node_clusters.specs.Values.{IsMarked}
use Rattle.switch_net.specs.Values.{value_at}
use Rattle.node_clusters.specs.Links.{listed}

-- what waited waits, and of the other nodes undriven ones at most
pub record Widens (driver : ℕ → Option Trit) (old new : List Bool) : Type 0 where
  pub kept : (n : ℕ) → IsMarked old n → IsMarked new n
  pub undriven : (n : ℕ) → IsMarked new n → IsMarked old n ⊎ (driver n ≡ None)

-- the undriven ones of these nodes wait
abbrev pub Wakes : (ℕ → Option Trit) → List ℕ → List Bool → Type 0
Wakes driver nodes waits = (n : ℕ) → Contains nodes n → n < length waits → driver n ≡ None → IsMarked waits n

-- the undriven ends of the channels at a node wait
abbrev pub WakesBeside : (ℕ → Option Trit) → List Channel → ℕ → List Bool → Type 0
WakesBeside driver channels node waits = (c : Channel) → Contains channels c → Contains c.ends node
    → Wakes driver c.ends waits

-- 0 where the one list has the node, 1 where the other has it, and else X
pub record IsVerdict (zeros ones : List ℕ) (n : ℕ) (t : Trit) : Type 0 where
  pub zero : (t ≡ Zero) ↔ Contains zeros n
  pub one : (t ≡ One) ↔ Contains ones n

-- these nodes have their verdicts, the others what they had, and what a node gates that changed waits
pub record Renews (driver : ℕ → Option Trit) (gated : List (List ℕ)) (zeros ones nodes : List ℕ) (old new : List Trit)
    (before after : List Bool) : Type 0 where
  pub given : (n : ℕ) → Contains nodes n → IsVerdict zeros ones n (value_at new n)
  pub kept : (n : ℕ) → ¬ Contains nodes n → value_at new n ≡ value_at old n
  pub told : (g : ℕ) → (value_at new g ≡ value_at old g) ⊎ Wakes driver (listed gated g) after
  pub widens : Widens driver before after
