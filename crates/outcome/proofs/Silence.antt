-- What is not printed.
use Rattle.std.proofs.Common.{◌≡◌, ◌∙◌, ℕ, List, refl, sym, subst, inl, inr, Option, Result, Ok, Err}
use Rattle.std.specs.Prelude.{IsErrAnd}
use Rattle.outcome.specs.Halt.{IsQuiet}
use Rattle.outcome.specs.World.{whole, cut, IsTold, IsSilent}
use Rattle.outcome.specs.declared.halt.Halt.{Halt}
use Rattle.outcome.specs.declared.halt.Halt.TheVariants.{Refused, ReadFault, WriteFault, NoMemory}
use Rattle.outcome.specs.declared.status.Status.{Status}

-- nothing was printed at all
pub quiet_same : {T : Type 0} (result : Result T Halt) (x : Option (List ℕ)) → IsQuiet result x x
quiet_same (Ok v) x = tt
quiet_same (Err (Refused broken)) x = refl
quiet_same (Err ReadFault) x = refl
quiet_same (Err WriteFault) x = tt
quiet_same (Err NoMemory) x = refl

-- a write failed
pub quiet_cut : {T : Type 0} (result : Result T Halt) (x y : Option (List ℕ)) → IsErrAnd result (λ e. e ≡ WriteFault)
    → IsQuiet result x y
quiet_cut (Ok v) x y is = absurd is
quiet_cut {T} (Err e) x y is = subst (λ h. IsQuiet {T = T} (Err h) x y) (sym is) tt

-- a refusal was told, or memory for its line was missing
pub silent_told : (line : List ℕ) (x m y : Option (List ℕ)) (s s' : ℕ) (result : Status) → m ≡ x
    → IsTold line m y s s' result → IsSilent result x y
silent_told line x m y s s' result same (inl (whole is equal said)) = subst (λ r. IsSilent r x y) (sym is) tt
silent_told line x m y s s' result same (inl (cut is le rose part first said)) =
    subst (λ r. IsSilent r x y) (sym is) tt
silent_told line x m y s s' result same (inr none) = subst (λ r. IsSilent r x y) (sym none.0) (none.1 ∙ same)
