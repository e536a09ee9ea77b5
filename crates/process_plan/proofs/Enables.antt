-- One enable for each form, and the places of a process, for all crates above.
use Rattle.std.proofs.Common.{List, Option, ℕ, ◌≡◌, Some, ap}
use Rattle.std.proofs.lemmas.Option.{same_Some}
use Rattle.std.specs.Prelude.{Contains}
use Rattle.mp_program.specs.declared.program.FormKind.{FormKind}
use Rattle.mp_program.specs.declared.program.Branch.{Branch}
use Rattle.mp_program.specs.Weight.{inner}
use Rattle.mp_program.specs.declared.program.FormKind.TheVariants.{Set, Cond, Par, Go, Call, Return}
use Rattle.mp_base.proofs.Entries.{one_entry}
use Rattle.process_plan.specs.Active.{Origin}
use Rattle.process_plan.specs.Enables.{Enable, HasEnable, StandsInside}
use Rattle.process_plan.specs.Roles.{Role, Value, Placed, Stacked}
use Rattle.mp_base.proofs.Contents.{contains_flat}

pub one_enable : (enables : List (Option Enable)) (f : ℕ) (o u : Origin) (a b : ℕ) → HasEnable enables f o a
    → HasEnable enables f u b → (o ≡ u) × (a ≡ b)
one_enable enables f o u a b x y =
    let x1 : Enable = record { origin = o; expr = a } in
    let y1 : Enable = record { origin = u; expr = b } in
    let e = same_Some x1 y1 (one_entry enables f (Some x1) (Some y1) x y) in
    (ap (λ (z : Enable). z.origin) e, ap (λ (z : Enable). z.expr) e)

abbrev pub process_of : Role → ℕ
process_of (Value d) = 0
process_of (Placed k j) = k
process_of (Stacked k l j) = k

abbrev pub place_of : Role → ℕ
place_of (Value d) = 0
place_of (Placed k j) = j
place_of (Stacked k l j) = j

pub inside_inner : (k : FormKind) (f : ℕ) → StandsInside k f → Contains (inner k) f
inside_inner (Set x at e) f h = absurd h
inside_inner (Cond bs) f (b, cb, cf) = contains_flat (λ (t : Branch). t.body) bs b f cb cf
inside_inner (Par fs) f h = h
inside_inner (Go l) f h = absurd h
inside_inner (Call l) f h = absurd h
inside_inner Return f h = absurd h
