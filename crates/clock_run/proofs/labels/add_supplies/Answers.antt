use Rattle.std.proofs.Common.{◌≡◌, ◌∙◌, ◌++◌, ◌∷◌, [], ℕ, List, take, ap}
use Rattle.std.proofs.lemmas.List.{append_assoc}
use Rattle.mp_base.specs.PadNames.{supplies}
use Rattle.clock_run.proofs.labels.add_supplies.Goals as goal

-- one more behind what was added
one_more : {A : Type 0} (l xs : List A) (x : A) (old new : List A) → old ≡ l ++ xs → new ≡ old ++ (x ∷ [])
    → new ≡ l ++ (xs ++ (x ∷ []))
one_more l xs x old new o n = n ∙ ap (λ ys. ys ++ (x ∷ [])) o ∙ append_assoc l xs (x ∷ [])

pub returns : goal.returns
returns c =
    let had : List (List ℕ) = c.args.labels.now in
    let two = one_more had (take 1 supplies) _ _ _ c.in_ok-add_label.ensures c.in_ok-add_label-2.ensures in
    let three = one_more had (take 2 supplies) _ _ _ two c.in_ok-add_label-3.ensures in
    let four = one_more had (take 3 supplies) _ _ _ three c.in_ok-add_label-4.ensures in
    one_more had (take 4 supplies) _ _ _ four c.in_ok-add_label-5.ensures
