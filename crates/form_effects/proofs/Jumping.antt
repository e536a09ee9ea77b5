-- The jump of a list of forms.
use Rattle.std.proofs.Common.{◌≡◌, ℕ, zero, suc, ◌+◌, ◌<◌, List, [], ◌∷◌, ◌++◌, refl, ◌∙◌, ap, length, drop, map, sym}
use Rattle.std.proofs.Common.{arith, get_or}
use Rattle.std.specs.Prelude.{Option, Some, None}
use Rattle.std.specs.List.{flat_map}
use Rattle.std.proofs.lemmas.List.{get_or-map}
use Rattle.mp_program.specs.declared.program.Form.{Form}
use Rattle.mp_program.specs.declared.program.Process.{Process}
use Rattle.mp_program.specs.declared.program.Program.{Program}
use Rattle.mp_program.specs.Effects.{Effect, Writes, Goes, Calls, Returns, effects_of}
use Rattle.form_effects.specs.declared.jump.Jump.{Jump}
use Rattle.form_effects.specs.declared.link.Links.{Links}
use Rattle.form_effects.specs.Linked.{no_process, process_at, landing_place, landings_in}
use Rattle.form_effects.specs.Jumps.{jump_from}

first : Option Jump → Option Jump → Option Jump
first None b = b
first (Some a) b = Some a

jump_from-append : (q : Process) (es fs : List Effect)
    → jump_from q (es ++ fs) ≡ first (jump_from q es) (jump_from q fs)
unfolding first
jump_from-append q [] fs = refl
jump_from-append q (Writes x v ∷ es) fs = jump_from-append q es fs
jump_from-append q (Goes l ∷ es) fs = refl
jump_from-append q (Calls l ∷ es) fs = refl
jump_from-append q (Returns ∷ es) fs = refl

front : (p : Program) (env : List ℕ) (q : Process) (fs : List ℕ) (i : ℕ) → i < length fs
    → jump_from q (flat_map (effects_of p env) (drop i fs))
    ≡ first (jump_from q (effects_of p env (get_or fs i 0)))
    (jump_from q (flat_map (effects_of p env) (drop (i + 1) fs)))
front p env q fs i lt = at fs i lt
    ∙ ap (λ k. first (jump_from q (effects_of p env (get_or fs i 0)))
    (jump_from q (flat_map (effects_of p env) (drop k fs)))) e
  where
    e : suc i ≡ i + 1
    e = omega arith

    at : (gs : List ℕ) (j : ℕ) → j < length gs
        → jump_from q (flat_map (effects_of p env) (drop j gs))
        ≡ first (jump_from q (effects_of p env (get_or gs j 0)))
        (jump_from q (flat_map (effects_of p env) (drop (suc j) gs)))
    at [] j l = absurd (omega (arith, l))
    at (g ∷ gs) zero l = jump_from-append q (effects_of p env g) (flat_map (effects_of p env) gs)
    at (g ∷ gs) (suc j) l = at gs j (omega (arith, l))

-- a form without a jump leaves it to the forms behind it
pub jump_behind : (p : Program) (env : List ℕ) (q : Process) (fs : List ℕ) (i : ℕ) → i < length fs
    → jump_from q (effects_of p env (get_or fs i 0)) ≡ None
    → jump_from q (flat_map (effects_of p env) (drop i fs))
    ≡ jump_from q (flat_map (effects_of p env) (drop (i + 1) fs))
unfolding first
jump_behind p env q fs i lt none =
    front p env q fs i lt ∙ ap (λ j. first j (jump_from q (flat_map (effects_of p env) (drop (i + 1) fs)))) none

-- a form with a jump has it
pub jump_here : (p : Program) (env : List ℕ) (q : Process) (fs : List ℕ) (i : ℕ) (jump : Jump) → i < length fs
    → jump_from q (effects_of p env (get_or fs i 0)) ≡ Some jump
    → jump_from q (flat_map (effects_of p env) (drop i fs)) ≡ Some jump
unfolding first
jump_here p env q fs i jump lt some =
    front p env q fs i lt ∙ ap (λ j. first j (jump_from q (flat_map (effects_of p env) (drop (i + 1) fs)))) some

-- the place to which a form jumps in a process, by index
pub landed : (p : Program) (links : Links) (k f : ℕ) (x : Form) → links.landings ≡ map (landings_in p) p.processes
    → k < length p.processes → f < length p.forms → x ≡ get_or p.forms f x
    → get_or (get_or links.landings k []) f 0 ≡ landing_place (process_at p k) x.kind
landed p links k f x are there inside is =
    ap (λ rows. get_or (get_or rows k []) f 0) are
    ∙ ap (λ row. get_or row f 0) (get_or-map (landings_in p) p.processes k no_process [] there)
    ∙ get_or-map (λ (y : Form). landing_place (process_at p k) y.kind) p.forms f x 0 inside
    ∙ ap (λ (y : Form). landing_place (process_at p k) y.kind) (sym is)
