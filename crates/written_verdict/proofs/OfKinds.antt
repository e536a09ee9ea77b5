-- The earliest place where an expression or a form of a kind is so.
use Rattle.std.proofs.Common.{◌≡◌, ℕ, List, refl, sym, subst}
use Rattle.mp_base.specs.declared.refusal.Place.{Place}
use Rattle.mp_program.specs.declared.program.FormKind.{FormKind}
use Rattle.mp_program.specs.declared.program.FormKind.TheVariants.{Set, Cond, Par, Go, Call, Return}
use Rattle.mp_written.specs.declared.program.ExprKind.{ExprKind}
use Rattle.mp_written.specs.declared.program.ExprKind.TheVariants.{Number, Named, True, False, Apply, Use}
use Rattle.mp_verdict.proofs.Deciding.{First, nowhere, same_places}

-- of a name
pub first_named : (kind : ExprKind) (P : List ℕ → Place → Type 0) → ((x : List ℕ) → First (P x))
    → First (λ at. (x : List ℕ) × (kind ≡ Named x) × P x at)
first_named (Named y) P known = same_places (known y) (λ at h. (y, refl, h))
    (λ at (x, is, h). let e : y ≡ x = cc in subst (λ n. P n at) (sym e) h)
first_named (Number n) P known = nowhere (λ at (x, is, h). absurd (cc))
first_named True P known = nowhere (λ at (x, is, h). absurd (cc))
first_named False P known = nowhere (λ at (x, is, h). absurd (cc))
first_named (Apply op k os) P known = nowhere (λ at (x, is, h). absurd (cc))
first_named (Use head y os) P known = nowhere (λ at (x, is, h). absurd (cc))

-- of a use
pub first_used : (kind : ExprKind) (P : Place → List ℕ → List ℕ → Place → Type 0)
    → ((head : Place) (x os : List ℕ) → First (P head x os))
    → First (λ at. (head : Place) × (x os : List ℕ) × (kind ≡ Use head x os) × P head x os at)
first_used (Use head y ps) P known = same_places (known head y ps) (λ at h. (head, y, ps, refl, h))
    (λ at (there, x, os, is, h).
    let e : head ≡ there = cc in let n : y ≡ x = cc in let l : ps ≡ os = cc in
    subst (λ a. P a y ps at) (sym e) (subst (λ b. P there b ps at) (sym n) (subst (λ c. P there x c at) (sym l) h)))
first_used (Named y) P known = nowhere (λ at (there, x, os, is, h). absurd (cc))
first_used (Number n) P known = nowhere (λ at (there, x, os, is, h). absurd (cc))
first_used True P known = nowhere (λ at (there, x, os, is, h). absurd (cc))
first_used False P known = nowhere (λ at (there, x, os, is, h). absurd (cc))
first_used (Apply op k ps) P known = nowhere (λ at (there, x, os, is, h). absurd (cc))

-- of a `setq`
pub first_set : (kind : FormKind) (P : List ℕ → Place → Place → Type 0)
    → ((x : List ℕ) (there : Place) → First (P x there))
    → First (λ at. (x : List ℕ) × (there : Place) × (v : ℕ) × (kind ≡ Set x there v) × P x there at)
first_set (Set y place v) P known = same_places (known y place) (λ at h. (y, place, v, refl, h))
    (λ at (x, there, u, is, h).
    let n : y ≡ x = cc in let e : place ≡ there = cc in
    subst (λ a. P a place at) (sym n) (subst (λ b. P x b at) (sym e) h))
first_set (Cond bs) P known = nowhere (λ at (x, there, u, is, h). absurd (cc))
first_set (Par fs) P known = nowhere (λ at (x, there, u, is, h). absurd (cc))
first_set (Go l) P known = nowhere (λ at (x, there, u, is, h). absurd (cc))
first_set (Call l) P known = nowhere (λ at (x, there, u, is, h). absurd (cc))
first_set Return P known = nowhere (λ at (x, there, u, is, h). absurd (cc))
