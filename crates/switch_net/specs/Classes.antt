-- Classes of things that chains of joins lead between, by their least elements.
use Rattle.std.specs.Prelude.{ℕ, ◌<◌, List, length, slice_index_or, All, AllPairs, Contains}
use Rattle.lam_geom.specs.Chains.{Chain}

-- `least` lists the least thing of each class of joined things, in ascending order
pub record AreClasses {S : Type 0} (Is : S → Type 0) (Joined Before : S → S → Type 0) (least : List S) : Type 0 where
  pub ascending : AllPairs Before least
  pub each : All Is least
  pub first : (r s : S) → Contains least r → Is s → Chain Joined r s → ¬ Before s r
  pub all : (s : S) → Is s → (r : S) × Contains least r × Chain Joined r s

-- s is in the class with the number k
abbrev pub IsInClass : {S : Type 0} → (S → S → Type 0) → List S → ℕ → S → Type 0
IsInClass Joined least k s = (k < length least) × Chain Joined (slice_index_or least k s) s
