-- Numbers of the inputs of a gate.
use Rattle.std.proofs.Common.{◌≡◌, ℕ, ◌<◌, ◌≤◌, List, [], ◌∷◌, length, map, take, sym, ◌∙◌, ap, subst}
use Rattle.std.specs.Prelude.{All}
use Rattle.std.proofs.lemmas.List.{take_all}
use Rattle.std.proofs.lemmas.List.Elements.{All-cons, All-head, All-nil, All-tail}
use Rattle.nor_net.specs.declared.net.NetId.{NetId}
use Rattle.nor_net.specs.Elements.{Spot, spot}

mapped : (of : Spot → NetId) (count : ℕ) (ms : List Spot) → All (λ m. (of m).0 < count) ms
    → All (λ (j : NetId). j.0 < count) (map of ms)
mapped of count [] h = All-nil (λ (j : NetId). j.0 < count)
mapped of count (m ∷ ms) h =
    All-cons (λ (j : NetId). j.0 < count) (of m) (map of ms) (All-head (λ m. (of m).0 < count) m ms h)
    (mapped of count ms (All-tail (λ m. (of m).0 < count) m ms h))

pub inputs_below : (of : Spot → NetId) (band : ℕ) (inputs : List NetId) (i : ℕ) (numbered : List NetId) (count : ℕ)
    → length inputs ≤ i → numbered ≡ map of (map (spot band) (take i inputs))
    → All (λ m. (of m).0 < count) (map (spot band) inputs) → All (λ (j : NetId). j.0 < count) numbered
inputs_below of band inputs i numbered count l e h =
    subst (All (λ (j : NetId). j.0 < count)) (sym (e ∙ ap (λ xs. map of (map (spot band) xs)) (take_all i inputs l)))
    (mapped of count (map (spot band) inputs) h)
