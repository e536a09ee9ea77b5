-- Few namings, where none has more that don't stand after it than there may be.
use Rattle.std.proofs.Common.{◌≡◌, ℕ, zero, suc, ◌≤◌, List, [], ◌∷◌, cond, refl, sym, ap, subst, inl, inr, length}
use Rattle.std.proofs.Common.{arith, ◌<◌}
use Rattle.std.specs.Prelude.{count_by, nat_le}
use Rattle.std.proofs.lemmas.Bool.{cases_lt, le-leb}
use Rattle.std.proofs.lemmas.List.Sums.{sum_by-cons}
use Rattle.std.proofs.lemmas.Option.{none-some, same_Some}
use Rattle.mp_base.specs.declared.refusal.Place.{Place}
use Rattle.mp_program.specs.declared.program.Program.{Program}
use Rattle.mp_base.specs.Entries.{IsAt}
use Rattle.mp_rules.specs.Naming.{Naming, namings}
use Rattle.mp_rules.specs.Rules.{E40}
use Rattle.mp_rules.specs.declared.limits.TheConstants.{NAMING_LIMIT}

-- none of them stands after this offset
abbrev IsLast : List Naming → ℕ → Type 0
IsLast ns v = (j : ℕ) (o : Naming) → IsAt ns j o → (o.place).offset ≤ v

both_last : (n : Naming) (ns : List Naming) (v : ℕ) → (n.place).offset ≤ v → IsLast ns v → IsLast (n ∷ ns) v
both_last n ns v here rest zero o at = subst (λ (m : Naming). (m.place).offset ≤ v) (same_Some n o at) here
both_last n ns v here rest (suc j) o at = rest j o at

-- a last one of some namings
last : (n : Naming) (ns : List Naming) → (k : ℕ) × (m : Naming) × IsAt (n ∷ ns) k m × IsLast (n ∷ ns) (m.place).offset
last n [] = (0, n, refl, both_last n [] (n.place).offset (omega arith) (λ j o at. absurd (none-some o at)))
last n (m ∷ ms) =
    let found = last m ms in
    elim (cases_lt (found.1.place).offset (n.place).offset) [
      | inl less ↦ (
        0,
        n,
        refl,
        both_last n (m ∷ ms) (n.place).offset (omega arith)
            (λ j o at. let below = found.3 j o at in omega (arith, below, less)),
      )
      | inr more ↦ (
        suc found.0,
        found.1,
        found.2,
        both_last n (m ∷ ms)
            (found.1.place).offset more found.3,
      )
    ]

all_counted : (ns : List Naming) (v : ℕ) → IsLast ns v
    → count_by (λ (n : Naming). nat_le (n.place).offset v) ns ≡ length ns
all_counted [] v below = refl
all_counted (n ∷ ns) v below =
    let whole_one : ℕ = 1 in
    let one : cond {A = ℕ} (nat_le (n.place).offset v) 1 0 ≡ whole_one =
    ap (λ b. cond {A = ℕ} b 1 0) (le-leb (n.place).offset v (below 0 n refl)) in
    let rest = all_counted ns v (λ j o at. below (suc j) o at) in
    let whole = sum_by-cons (λ (m : Naming). cond (nat_le (m.place).offset v) 1 0) n ns in
    omega (arith, one, rest, whole)

pub few : (p : Program) → ((at : Place) → E40 p at → ⊥) → length (namings p) ≤ NAMING_LIMIT
few p unbroken = by_list (namings p) refl
  where
    by_list : (ns : List Naming) → namings p ≡ ns → length ns ≤ NAMING_LIMIT
    by_list [] is = omega arith
    by_list (n ∷ ns) is = elim (cases_lt NAMING_LIMIT (length (n ∷ ns))) [
      | inl many ↦
          let found = last n ns in
          let counted = all_counted (n ∷ ns) (found.1.place).offset found.3 in
          absurd (unbroken found.1.place (
            found.0,
            found.1,
            subst (λ ms. IsAt ms found.0 found.1) (sym is) found.2,
            subst (λ ms. NAMING_LIMIT < count_by (λ (m : Naming). nat_le (m.place).offset (found.1.place).offset) ms)
                (sym is)
                (omega (arith, many, counted)),
            refl,
          ))
      | inr less ↦ less
    ]
