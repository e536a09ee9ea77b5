-- Stages have a first fault, or none.
use Rattle.std.proofs.Common.{ℕ, List, [], refl, inl, inr, Option, Some, None, length, unwrap_or}
use Rattle.std.proofs.lemmas.Bool.{cases_lt}
use Rattle.mp_base.specs.declared.refusal.Broken.{Broken}
use Rattle.outcome.specs.Order.{Fault, Stray, Breaks, Then, OfRule, OfLength, OfFile, too_long}

-- something is so
abbrev pub Exists : {X : Type 0} → (X → Type 0) → Type 0
Exists {X} P = (x : X) × P x

-- the second stage may build on the first
pub some_of_two : (P Q : Option Fault → Type 0) → Exists P → (P None → Exists Q) → Exists (Then P Q)
some_of_two P Q (Some fault, p) later = (Some fault, inl p)
some_of_two P Q (None, p) later = by (later p)
  where
    by : Exists Q → Exists (Then P Q)
    by (None, q) = (None, (p, q))
    by (Some fault, q) = (Some fault, inr (p, q))

pub some_of_rule : (R : Option Broken → Type 0) → Exists R → Exists (OfRule R)
some_of_rule R (None, r) = (None, r)
some_of_rule R (Some broken, r) = (Some (Breaks broken), r)

pub some_of_length : (limit : ℕ) (name : List ℕ) (content : Option (List ℕ)) → Exists (OfLength limit name content)
some_of_length limit name None = (Some Stray, refl)
some_of_length limit name (Some bytes) = elim (cases_lt limit (length bytes)) [
  | inl long ↦ (Some (Breaks (too_long name)), (long, refl))
  | inr short ↦ (None, short)
]

pub some_of_file : (limit : ℕ) (Rules : List ℕ → Option Broken → Type 0) (name : List ℕ) (content : Option (List ℕ))
    → Exists (Rules (unwrap_or content [])) → Exists (OfFile limit Rules name content)
some_of_file limit Rules name content rules =
    some_of_two (OfLength limit name content) (OfRule (Rules (unwrap_or content [])))
    (some_of_length limit name content)
    (λ short. some_of_rule (Rules (unwrap_or content [])) rules)
