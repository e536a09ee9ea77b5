-- What holds of ordered settings, and of values that are told.
use Rattle.std.specs.Prelude.{◌≡◌, ℕ, Option, Some, Bool, true, List, Contains}
use Rattle.mp_base.specs.declared.value.Trit.{Trit}
use Rattle.switch_net.specs.Settled.{Setting, IsSolution, IsSettled}
use Rattle.settle_laws.specs.Ordered.{IsOrdered}
use Rattle.settle_laws.specs.Told.{IsTold, IsRedriven, IsLook}

-- whatever solves an ordered setting is the least solution
abbrev pub SolutionsSettle : Type 0
SolutionsSettle = (s : Setting) (rank : ℕ → ℕ) (v : ℕ → Trit) → IsOrdered s rank → IsSolution s v → IsSettled s v

-- the nodes that are marked
abbrev pub Marked : (ℕ → Bool) → ℕ → Type 0
Marked marks n = marks n ≡ true

-- where nothing waits the values are a solution
abbrev pub ToldSolves : Type 0
ToldSolves =
    (s : Setting) (v : ℕ → Trit) (waits : ℕ → Bool) → IsTold s v (Marked waits) → ((n : ℕ) → ¬ Marked waits n)
    → ((n : ℕ) (t : Trit) → s.driver n ≡ Some t → v n ≡ t) → IsSolution s v

-- a solution with other drivers
abbrev pub RedrivenTells : Type 0
RedrivenTells =
    (s : Setting) (driver : ℕ → Option Trit) (v w : ℕ → Trit) (waits : ℕ → Bool)
    → IsSolution s v → IsRedriven s driver v w (Marked waits)
    → IsTold (record { channels = s.channels; driver = driver; before = s.before }) w (Marked waits)

-- a look at a cluster
abbrev pub LooksTell : Type 0
LooksTell =
    (s : Setting) (v w : ℕ → Trit) (cluster : List ℕ) (before after : ℕ → Bool)
    → IsTold s v (Marked before) → IsLook s v w (Contains cluster) (Marked before) (Marked after)
    → IsTold s w (Marked after)
