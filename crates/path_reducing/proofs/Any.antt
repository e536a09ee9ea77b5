-- One of a list that passes.
use Rattle.std.proofs.Common.{◌≡◌, ◌<◌, ℕ, List, Bool, true, length, get_or, sym, ◌∙◌, subst}
use Rattle.std.specs.Prelude.{IfSome, slice_get}
use Rattle.std.specs.List.{list_any}
use Rattle.std.proofs.lemmas.Option.{get_or_from_slice_get, slice_get-get_or, slice_get_within}
use Rattle.mp_base.proofs.Members.{any_of, contains_member}

-- what is told of an element by its index
pub any_at : {A : Type 0} (test : A → Bool) (xs : List A) (i : ℕ) (d : A) (b : Bool) → i < length xs
    → IfSome (slice_get xs i) (λ x. b ≡ test x) → b ≡ true → list_any test xs ≡ true
any_at test xs i d b l h e =
    let x = get_or xs i d in
    let at = slice_get-get_or xs i d l in
    let is : b ≡ test x = subst (λ o. IfSome o (λ x. b ≡ test x)) at h in
    any_of test xs x (contains_member xs x (i, slice_get_within xs i x at, get_or_from_slice_get xs i x x at))
    (sym is ∙ e)
