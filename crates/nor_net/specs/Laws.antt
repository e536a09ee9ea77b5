-- What holds of every net.
use Rattle.std.specs.Prelude.{◌≡◌, ◌<◌, ℕ, List, Option, Some, None, Bool, true, false, All, Contains, MatchBool}
use Rattle.std.specs.Prelude.{if◌then◌else◌}
use Rattle.std.specs.List.{list_all}
use Rattle.mp_base.specs.declared.value.Trit.{Trit}
use Rattle.mp_base.specs.declared.value.Trit.TheVariants.{Zero, One}
use Rattle.nor_net.specs.Elements.{Spot, Element, Given, Nor, Latched, Joined, Low, Nets}
use Rattle.nor_net.specs.Settled.{Setting, is_open, IsSolution, IsSettled}
use Rattle.nor_net.specs.Clock.{IsTrace, IsLooseTrace}

-- all nets stand at these places
abbrev pub Covers : List Spot → Nets → Type 0
Covers cover nets = (n : Spot) (e : Element) → nets n ≡ Some e → Contains cover n

-- settled values are determined
abbrev pub SettledOnce : Type 0
SettledOnce = (s : Setting) (v w : Spot → Trit) → IsSettled s v → IsSettled s w → v ≡ w

-- finitely many nets have settled values
abbrev pub SettledExists : Type 0
SettledExists = (s : Setting) (cover : List Spot) → Covers cover s.nets → (v : Spot → Trit) × IsSettled s v

-- finitely many nets have a trace from any values
abbrev pub TraceExists : Type 0
TraceExists =
    (nets : Nets) (cover : List Spot) → Covers cover nets → (before : Spot → Trit) (givens : List (Spot → Trit))
    → (showns : List (Spot → Trit)) × (after : Spot → Trit) × IsTrace nets before givens showns after

-- and exactly one
abbrev pub TraceOnce : Type 0
TraceOnce =
    (nets : Nets) (before : Spot → Trit) (givens showns others : List (Spot → Trit)) (v w : Spot → Trit)
    → IsTrace nets before givens showns v → IsTrace nets before givens others w → (showns ≡ others) × (v ≡ w)

-- a gate with an input at 1 is 0, whatever its other inputs are
abbrev pub OneInputDecides : Type 0
OneInputDecides =
    (s : Setting) (v : Spot → Trit) → IsSolution s v → (n m : Spot) (inputs : List Spot)
    → s.nets n ≡ Some (Nor inputs) → Contains inputs m
    → v m ≡ One → v n ≡ Zero

-- a bit as a value
abbrev pub bit : Bool → Trit
bit b = if b then One else Zero

-- a part of a circuit, with a rank that grows along gates and open latches, and a bit for each net
pub record Told : Type 0 where
  pub inside : Spot → Bool
  pub rank : Spot → ℕ
  pub bits : Spot → Bool

-- m is inside and stands before n
abbrev pub Precedes : Told → Spot → Spot → Type 0
Precedes t n m = (t.inside m ≡ true) × (t.rank m < t.rank n)

-- the bit of n is what its element makes of the bits of the nets before it; what is given or held is that bit
abbrev pub IsTold : Setting → Told → Spot → Option Element → Type 0
IsTold s t n None = ⊥
IsTold s t n (Some Given) = s.given n ≡ bit (t.bits n)
IsTold s t n (Some (Nor inputs)) = All (Precedes t n) inputs
    × (t.bits n ≡ list_all (λ m. if t.bits m then false else true) inputs)
IsTold s t n (Some (Latched phase source)) =
    MatchBool (is_open s.phase phase) (Precedes t n source × (t.bits n ≡ t.bits source)) (s.before n ≡ bit (t.bits n))
IsTold s t n (Some (Joined other)) = Precedes t n other × (t.bits n ≡ t.bits other)
IsTold s t n (Some Low) = t.bits n ≡ false

-- In a part that is closed under inputs and open data, with a rank that grows along them and definite leaves, every
-- solution has at each
-- net the bit that its NOR expression has.
abbrev pub BitsAreTold : Type 0
BitsAreTold =
    (s : Setting) (t : Told) → ((n : Spot) → t.inside n ≡ true → IsTold s t n (s.nets n)) → (v : Spot → Trit)
    → IsSolution s v
    → (n : Spot) → t.inside n ≡ true → v n ≡ bit (t.bits n)

-- settled values are a solution, in each setting of a trace too
abbrev pub TraceLoosens : Type 0
TraceLoosens =
    (nets : Nets) (before : Spot → Trit) (givens showns : List (Spot → Trit)) (after : Spot → Trit)
    → IsTrace nets before givens showns after → IsLooseTrace nets before givens showns after
