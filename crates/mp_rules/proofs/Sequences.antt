-- Sequences of forms, and what stands under a form, for all crates above.
use Rattle.std.proofs.Common.{[], List, ℕ, map, arith, ◌∷◌, zero, subst, sym, suc}
use Rattle.std.specs.Prelude.{Contains}
use Rattle.std.specs.List.{flat_map}
use Rattle.std.proofs.lemmas.List.Elements.{Contains-append_left, Contains-append_right}
use Rattle.mp_program.specs.declared.program.FormKind.{FormKind}
use Rattle.mp_program.specs.declared.program.Branch.{Branch}
use Rattle.mp_program.specs.Weight.{inner}
use Rattle.mp_program.specs.declared.program.FormKind.TheVariants.{Set, Cond, Par, Go, Call, Return}
use Rattle.mp_program.specs.declared.program.Program.{Program}
use Rattle.mp_program.specs.declared.program.Form.{Form}
use Rattle.mp_rules.specs.Standing.{sequences, Under, itself, deeper}
use Rattle.mp_base.specs.Entries.{IsAt}

-- the body of a branch stands in the `cond`
pub in_bodies : (bs : List Branch) (fs : List ℕ) (g : ℕ) → Contains (map (λ (b : Branch). b.body) bs) fs → Contains fs g
    → Contains (flat_map (λ (b : Branch). b.body) bs) g
in_bodies [] fs g (k, lt, is) c = absurd (omega (arith, lt))
in_bodies (b ∷ bs) fs g (zero, lt, is) c = Contains-append_left b.body (flat_map (λ (x : Branch). x.body) bs) g
    (subst (λ xs. Contains xs g) (sym is) c)
in_bodies (b ∷ bs) fs g (suc k, lt, is) c = Contains-append_right b.body (flat_map (λ (x : Branch). x.body) bs) g
    (in_bodies bs fs g (k, omega (arith, lt), is) c)

pub in_sequence : (kind : FormKind) (fs : List ℕ) (g : ℕ) → Contains (sequences kind) fs → Contains fs g
    → Contains (inner kind) g
in_sequence (Set x at v) fs g (k, lt, is) c = absurd (omega (arith, lt))
in_sequence (Cond bs) fs g s c = in_bodies bs fs g s c
in_sequence (Par forms) fs g (zero, lt, is) c = subst (λ xs. Contains xs g) (sym is) c
in_sequence (Par forms) fs g (suc k, lt, is) c = absurd (omega (arith, lt))
in_sequence (Go l) fs g (k, lt, is) c = absurd (omega (arith, lt))
in_sequence (Call l) fs g (k, lt, is) c = absurd (omega (arith, lt))
in_sequence Return fs g (k, lt, is) c = absurd (omega (arith, lt))

-- what stands directly in a form that stands in another
pub under_more : (p : Program) (r f g : ℕ) (y : Form) → Under p r f → IsAt p.forms f y → Contains (inner y.kind) g
    → Under p r g
under_more p r f g y itself is c = deeper y is c itself
under_more p r f g y (deeper {g = h} x is_x c' u) is c = deeper x is_x c' (under_more p h f g y u is c)
