-- Where each role's cell is.
use Rattle.std.specs.Prelude.{ℕ, List, Option, MatchOption}
use Rattle.std.specs.BTreeMap.{get}
use Rattle.std.specs.declared.cmp.Ordering.{Ordering}
use Rattle.std.specs.Ordering.{nat_cmp, ordering_then}
use Rattle.std.proofs.Props.{props}
use Rattle.mp_base.specs.Entries.{IsAt}
use Rattle.process_plan.specs.declared.role.Role.{Role}
use Rattle.process_plan.specs.declared.role.Role.TheVariants.{Value, Placed, Stacked}
use Rattle.process_layout.specs.declared.index.RoleIndex.{RoleIndex}

-- the cell with this role, or that there is none
abbrev pub IsCellFor : List Role → Role → Option ℕ → Type 0
IsCellFor roles s found = MatchOption found ((c : ℕ) → ¬ IsAt roles c s) (λ c. IsAt roles c s)

-- the order of keys
abbrev pub pair_cmp : ℕ × ℕ → ℕ × ℕ → Ordering
pair_cmp x y = ordering_then (nat_cmp x.0 y.0) (nat_cmp x.1 y.1)

abbrev pub triple_cmp : ℕ × ℕ × ℕ → ℕ × ℕ × ℕ → Ordering
triple_cmp x y = ordering_then (ordering_then (nat_cmp x.0 y.0) (nat_cmp x.1 y.1)) (nat_cmp x.2 y.2)

-- an index of these roles
pub record IsIndexOf (roles : List Role) (index : RoleIndex) : Type 0 where
  pub values : (d : ℕ) → IsCellFor roles (Value d) (get nat_cmp index.values d)
  pub places : (k j : ℕ) → IsCellFor roles (Placed k j) (get pair_cmp index.places (k, j))
  pub entries : (k l j : ℕ) → IsCellFor roles (Stacked k l j) (get triple_cmp index.entries (k, l, j))

IsAt-prop : (roles : List Role) (c : ℕ) (s : Role) → IsProp (IsAt roles c s)
IsAt-prop roles c s = hlevel props

-- it is one in one way at most
pub IsIndexOf-prop : (roles : List Role) (index : RoleIndex) → IsProp (IsIndexOf roles index)
IsIndexOf-prop roles index = hlevel (props, IsAt-prop)
