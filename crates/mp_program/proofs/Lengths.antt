-- How many outputs and how long traces are, for all crates above.
use Rattle.std.proofs.Common.{[], List, ℕ, length, ◌≡◌, refl, ◌∷◌, arith, Bool, cond, true, ap, suc}
use Rattle.std.proofs.Common.{false, replicate, ◌∙◌, sym}
use Rattle.std.specs.Prelude.{filter}
use Rattle.std.proofs.lemmas.List.{length-replicate, length-map}
use Rattle.mp_base.specs.declared.pad.Pads.{Pads}
use Rattle.mp_program.specs.declared.program.Def.{Def}
use Rattle.mp_program.specs.Step.{outputs_of}
use Rattle.mp_program.specs.Names.{is_output}
use Rattle.mp_program.specs.declared.program.Program.{Program}
use Rattle.mp_program.specs.Pads.{ArePadsOf, output_pads, face}
use Rattle.mp_program.specs.State.{State}
use Rattle.mp_program.specs.Trace.{IsTraceFrom}

-- as many outputs as output pads
pub length-outputs_of : (defs : List Def) (env : List ℕ) → length env ≡ length defs
    → length (outputs_of defs env) ≡ length (filter (λ (x : Def). is_output x.what) defs)
length-outputs_of [] env size = refl
length-outputs_of (x ∷ xs) [] size = absurd (omega arith)
length-outputs_of (x ∷ xs) (v ∷ vs) size = either (is_output x.what) (length-outputs_of xs vs (omega (arith, size)))
  where
    either : (b : Bool) → length (outputs_of xs vs) ≡ length (filter (λ (y : Def). is_output y.what) xs)
        → length (cond b (v ∷ outputs_of xs vs) (outputs_of xs vs))
        ≡ length (cond b (x ∷ filter (λ (y : Def). is_output y.what) xs) (filter (λ (y : Def). is_output y.what) xs))
    either true h = ap suc h
    either false h = h

pub length_zero_outputs : (p : Program) (pads : Pads) (xs : List ℕ) → ArePadsOf p pads
    → xs ≡ replicate (length pads.outputs) 0
    → length xs ≡ length (output_pads p)
length_zero_outputs p pads xs padded e =
    ap length e ∙ length-replicate {A = ℕ} (length pads.outputs) 0
    ∙ sym (length-map pads.outputs face) ∙ ap length padded.outputs

pub length_trace : (p : Program) (st : State) (inputs outputs : List (List ℕ)) → IsTraceFrom p st inputs outputs
    → length outputs ≡ length inputs
length_trace p st [] [] t = refl
length_trace p st [] (o ∷ os) t = absurd t
length_trace p st (i ∷ is) [] t = absurd t
length_trace p st (i ∷ is) (o ∷ os) t = let e = length_trace p t.0 is os t.2 in omega (arith, e)
