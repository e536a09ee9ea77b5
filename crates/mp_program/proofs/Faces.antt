-- Pads that look alike are the same, for all crates above.
use Rattle.std.proofs.Common.{[], ◌≡◌, ap, List, map, refl, ◌∷◌, ◌∙◌}
use Rattle.mp_base.specs.declared.pad.Pad.{Pad}
use Rattle.mp_base.specs.declared.pad.Pads.{Pads}
use Rattle.mp_base.proofs.SamePad.{same_pad}
use Rattle.mp_program.specs.declared.program.Program.{Program}
use Rattle.mp_program.specs.Pads.{ArePadsOf, face, Face}

pub same_face : (p q : Pad) → face p ≡ face q → p ≡ q
same_face p q e = same_pad p q (ap (λ (f : Face). f.0) e) (ap (λ (f : Face). f.1) e)

pub same_list : (ps qs : List Pad) → map face ps ≡ map face qs → ps ≡ qs
same_list [] [] e = refl
same_list [] (q ∷ qs) e = cc
same_list (p ∷ ps) [] e = cc
same_list (p ∷ ps) (q ∷ qs) e =
    let head : face p ≡ face q = cc in
    let tail : map face ps ≡ map face qs = cc in
    ap (λ x. x ∷ ps) (same_face p q head) ∙ ap (λ xs. q ∷ xs) (same_list ps qs tail)

-- pads with the inputs and outputs of those of a program are this program's
pub kept_pads : (p : Program) (known given : Pads) → ArePadsOf p known → given.inputs ≡ known.inputs
    → given.outputs ≡ known.outputs → ArePadsOf p given
kept_pads p known given are inputs outputs =
    record { inputs = ap (map face) inputs ∙ are.inputs; outputs = ap (map face) outputs ∙ are.outputs }
