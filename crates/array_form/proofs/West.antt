-- The column of a segment that begins at the west edge, for all crates above.
use Rattle.std.proofs.Common.{◌≡◌, inl, inr, ℕ, Bool, true, false, refl, sym, subst}
use Rattle.mp_base.proofs.Members.{Member}
use Rattle.array_form.specs.Place.{west_column}

pub west_of : (b : Bool) (c : ℕ) → Member (west_column b) c → (b ≡ true) × (1 ≡ c)
west_of true c (inl e) = (refl, e)
west_of true c (inr m) = absurd m
west_of false c m = absurd m

pub has_west : (b : Bool) → b ≡ true → Member (west_column b) 1
has_west b e = subst (λ b. Member (west_column b) 1) (sym e) (inl refl)
