-- The outputs, definition by definition.
use Rattle.std.proofs.Common.{◌≡◌, ℕ, suc, ◌<◌, List, [], ◌∷◌, Bool, true, false, cond, refl, sym, ◌∙◌, ap, subst}
use Rattle.std.proofs.Common.{length, map, arith, get_or}
use Rattle.std.specs.Prelude.{filter}
use Rattle.std.proofs.lemmas.List.{get_or-map, length-map}
use Rattle.mp_program.specs.declared.program.Def.{Def}
use Rattle.mp_program.specs.Names.{is_output}
use Rattle.mp_program.specs.Step.{outputs_of}
use Rattle.mp_program.proofs.Lengths.{length-outputs_of}
use Rattle.form_effects.specs.Linked.{indices_where}
use Rattle.program_clock.proofs.Placing.{place_of}

-- the values at indices behind the first
behind : (v : ℕ) (vs is : List ℕ) → map (λ d. get_or (v ∷ vs) d 0) (map suc is) ≡ map (λ d. get_or vs d 0) is
behind v vs [] = refl
behind v vs (i ∷ is) = ap (λ zs. get_or vs i 0 ∷ zs) (behind v vs is)

-- the outputs are the values at their indices
outputs_at : (defs : List Def) (env : List ℕ) → length env ≡ length defs
    → outputs_of defs env ≡ map (λ d. get_or env d 0) (indices_where is_output defs)
outputs_at [] env size = refl
outputs_at (x ∷ xs) [] size = absurd (omega arith)
outputs_at (x ∷ xs) (v ∷ vs) size =
    either (is_output x.what) (outputs_at xs vs (omega (arith, size)) ∙ sym (behind v vs (indices_where is_output xs)))
  where
    either : (b : Bool) → outputs_of xs vs ≡ map (λ d. get_or (v ∷ vs) d 0) (map suc (indices_where is_output xs))
        → cond b (v ∷ outputs_of xs vs) (outputs_of xs vs)
        ≡ map (λ d. get_or (v ∷ vs) d 0)
        (cond b (0 ∷ map suc (indices_where is_output xs)) (map suc (indices_where is_output xs)))
    either true h = ap (λ zs. v ∷ zs) h
    either false h = h

-- the value at an index of the outputs is the output
pub shown_at : (defs : List Def) (env list : List ℕ) (k place v : ℕ) → length env ≡ length defs
    → list ≡ indices_where is_output defs → k < length list → place ≡ get_or list k place → v ≡ get_or env place 0
    → v ≡ get_or (outputs_of defs env) k 0
shown_at defs env list k place v size are lt at is =
    let all : List ℕ = indices_where is_output defs in
    let within : k < length all = subst (λ zs. k < length zs) are lt in
    is ∙ ap (λ i. get_or env i 0) (place_of is_output defs list k place are lt at)
    ∙ sym (ap (λ zs. get_or zs k 0) (outputs_at defs env size) ∙ get_or-map (λ d. get_or env d 0) all k 0 0 within)

-- as many indices as output pads
pub length_indices : (defs : List Def) (env list : List ℕ) → length env ≡ length defs
    → list ≡ indices_where is_output defs → length list ≡ length (filter (λ (x : Def). is_output x.what) defs)
length_indices defs env list size are =
    ap length are ∙ sym (length-map (indices_where is_output defs) (λ d. get_or env d 0))
    ∙ sym (ap length (outputs_at defs env size)) ∙ length-outputs_of defs env size
