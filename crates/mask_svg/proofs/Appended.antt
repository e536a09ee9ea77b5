-- Text behind text.
use Rattle.std.proofs.Common.{◌≡◌, ◌++◌, ◌∙◌, ap, if◌then◌else◌, is_ok, Err, List, Ok, OnOk, Result, ℕ}
use Rattle.std.proofs.lemmas.List.{append_assoc}
use Rattle.std.proofs.lemmas.Result.{on_ok_weaker}

pub more : (old a b : List ℕ) {mid new : List ℕ} → mid ≡ old ++ a → new ≡ mid ++ b → new ≡ old ++ (a ++ b)
more old a b p q = q ∙ ap (λ t. t ++ b) p ∙ append_assoc old a b

-- of what a last call adds
pub called : {T E : Type 0} (r : Result T E) (old a b new : List ℕ) {mid : List ℕ}
    → mid ≡ old ++ a → OnOk r (new ≡ mid ++ b) → OnOk r (new ≡ old ++ (a ++ b))
called r old a b new p e = on_ok_weaker r (more old a b {new = new} p) e

-- of bytes that are added last
pub ended : {T E : Type 0} (r : Result T E) (old a b : List ℕ) {mid new : List ℕ}
    → mid ≡ old ++ a → new ≡ (if is_ok r then mid ++ b else mid) → OnOk r (new ≡ old ++ (a ++ b))
ended (Ok v) old a b p e = more old a b p e
ended (Err v) old a b p e = tt
