-- A list that grows by what comes next.
use Rattle.std.proofs.Common.{◌≡◌, ℕ, ◌+◌, List, [], ◌∷◌, ◌++◌, sym, ◌∙◌, ap, arith}
use Rattle.std.proofs.Common.{append_assoc, ◌<◌, length, take, get_or}
use Rattle.std.specs.Prelude.{flat_map, min}
use Rattle.std.specs.List.{range_with_len}
use Rattle.std.proofs.lemmas.List.{append-nil, map_more}
use Rattle.mp_base.proofs.Ranges.{range_more}
use Rattle.std.proofs.lemmas.Grind.{flat_map-append}
use Rattle.nor_net.specs.declared.net.NetId.{NetId}
use Rattle.band_lists.specs.declared.pins.Pin.{Pin}
use Rattle.band_lists.specs.Pins.{pin, gate_pins}
use Rattle.band_lists.specs.Spans.{lowest}

-- the same from another number on
pub flat_from : {B : Type 0} (base : List B) (g : ℕ → List B) (a n : ℕ) (items more : List B)
    → items ≡ base ++ flat_map g (range_with_len a n) → more ≡ items ++ g (a + n)
    → more ≡ base ++ flat_map g (range_with_len a (n + 1))
flat_from base g a n items more e h =
    h ∙ (ap (λ l. l ++ g (a + n)) e ∙ (append_assoc base (flat_map g (range_with_len a n)) (g (a + n))
    ∙ ap (λ l. base ++ l)
    (sym (ap (flat_map g) (range_more a n) ∙ (flat_map-append g (range_with_len a n) ((a + n) ∷ [])
    ∙ ap (λ l. flat_map g (range_with_len a n) ++ l) (append-nil (g (a + n))))))))

-- the pins of a gate with one input more
pub gate_more : (n : ℕ) (inputs : List NetId) (i : ℕ) (none : NetId) → i < length inputs
    → (base items more : List Pin) → items ≡ base ++ gate_pins n (take i inputs)
    → more ≡ items ++ pin (get_or inputs i none).0 n ∷ [] → more ≡ base ++ gate_pins n (take (i + 1) inputs)
gate_more n inputs i none lt base items more a b =
    let next : Pin = pin (get_or inputs i none).0 n in
    b ∙ (ap (λ l. l ++ next ∷ []) a ∙ (append_assoc base (gate_pins n (take i inputs)) (next ∷ [])
    ∙ ap (λ l. base ++ pin n n ∷ l) (sym (map_more (λ (j : NetId). pin j.0 n) inputs i none lt))))

pub lowest_push : (xs : List ℕ) (x : ℕ) → lowest (xs ++ x ∷ []) ≡ min (lowest xs) x
lowest_push [] x = omega arith
lowest_push (y ∷ ys) x = let i = lowest_push ys x in omega arith
