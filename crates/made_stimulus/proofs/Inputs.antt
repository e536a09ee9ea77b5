-- The inputs of a made source.
use Rattle.std.proofs.Common.{◌≡◌, ℕ, List, [], ◌∷◌, ◌∙◌, ap, codes, lit≤}
use Rattle.mp_base.specs.declared.pad.Pad.{Pad}
use Rattle.mp_base.proofs.SamePad.{same_pad}
use Rattle.made_stimulus.specs.Clocks.{AreMadeInputs}

abbrev reset : Pad
reset = record { name = codes "reset"; width = 0; narrow = lit≤ tt }

abbrev first : Pad
first = record { name = codes "a"; width = 16; narrow = lit≤ tt }

abbrev second : Pad
second = record { name = codes "b"; width = 16; narrow = lit≤ tt }

abbrev pub made_inputs : List Pad
made_inputs = reset ∷ first ∷ second ∷ []

same_names : (a b c x y z : List ℕ) → a ∷ b ∷ c ∷ [] ≡ x ∷ y ∷ z ∷ [] → (a ≡ x) × (b ≡ y) × (c ≡ z)
same_names a b c x y z h = (cc, cc, cc)

same_widths : (a b c x y z : ℕ) → a ∷ b ∷ c ∷ [] ≡ x ∷ y ∷ z ∷ [] → (a ≡ x) × (b ≡ y) × (c ≡ z)
same_widths a b c x y z h = (cc, cc, cc)

pub inputs_are : (inputs : List Pad) → AreMadeInputs inputs → inputs ≡ made_inputs
inputs_are [] are = absurd (let h = are.widths in cc)
inputs_are (p ∷ []) are = absurd (let h = are.widths in cc)
inputs_are (p ∷ q ∷ []) are = absurd (let h = are.widths in cc)
inputs_are (p ∷ q ∷ r ∷ []) are =
    let names = same_names p.name q.name r.name (codes "reset") (codes "a") (codes "b") are.names in
    let widths = same_widths p.width q.width r.width 0 16 16 are.widths in
    ap (λ x. x ∷ q ∷ r ∷ []) (same_pad p reset names.0 widths.0)
    ∙ ap (λ x. reset ∷ x ∷ r ∷ []) (same_pad q first names.1 widths.1)
    ∙ ap (λ x. reset ∷ first ∷ x ∷ []) (same_pad r second names.2 widths.2)
inputs_are (p ∷ q ∷ r ∷ s ∷ more) are = absurd (let h = are.widths in cc)
