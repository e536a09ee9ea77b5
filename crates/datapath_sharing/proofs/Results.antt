-- What a call ensures when it is done.
use Rattle.std.proofs.Common.{◌≡◌, ◌∙◌, ℕ, ◌<◌, List, Some, Result, Ok, Err, length, get_or, sym, ap}
use Rattle.std.specs.Prelude.{OnOk, slice_get}
use Rattle.std.proofs.lemmas.Option.{slice_get-get_or}

pub done_two : {T E : Type 0} (P Q R : Type 0) (o : Result T E) → (P → Q → R) → OnOk o P → OnOk o Q → OnOk o R
done_two P Q R (Ok t) f h k = f h k
done_two P Q R (Err e) f h k = h

-- the element at an index of a list that was lent as a slice
pub element_at : {X : Type 0} (xs ys : List X) (i : ℕ) (d x : X) → ys ≡ xs → i < length xs → get_or ys i d ≡ x
    → slice_get xs i ≡ Some x
element_at xs ys i d x e l is = slice_get-get_or xs i d l ∙ ap Some (ap (λ zs. get_or zs i d) (sym e) ∙ is)
