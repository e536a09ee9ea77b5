-- Each rule is broken at the place of something in the program.
use Rattle.std.proofs.Common.{◌≡◌, ◌⊎◌, ℕ, zero, suc, List, [], ◌∷◌, ◌++◌, not, refl, sym, subst, inl, inr}
use Rattle.std.specs.Prelude.{map, filter}
use Rattle.std.specs.List.{flat_map}
use Rattle.std.proofs.lemmas.Option.{none-some}
use Rattle.mp_base.specs.declared.refusal.Place.{Place}
use Rattle.mp_program.specs.declared.program.Pin.{Pin}
use Rattle.mp_program.specs.declared.program.Def.{Def}
use Rattle.mp_program.specs.declared.program.Program.{Program}
use Rattle.mp_program.specs.Names.{is_supply}
use Rattle.mp_base.specs.Entries.{IsAt}
use Rattle.mp_rules.specs.Naming.{Naming, namings, def_naming, process_naming, Uses}
use Rattle.mp_rules.specs.Rules.{pins}
use Rattle.mp_rules.specs.Breaking.{Breaks}
use Rattle.mp_rules.specs.Places.{HasPlace}
use Rattle.mp_rules.specs.declared.limits.TheConstants.{PROCESS_LIMIT}
use Rattle.mp_base.proofs.Entries.{get_map, get_filter}

-- an entry of two lists is one of either
at_append : {X : Type 0} (xs ys : List X) (k : ℕ) (x : X) → IsAt (xs ++ ys) k x
    → ((j : ℕ) × IsAt xs j x) ⊎ ((j : ℕ) × IsAt ys j x)
at_append [] ys k x at = inr (k, at)
at_append (z ∷ zs) ys zero x at = inl (0, at)
at_append (z ∷ zs) ys (suc k) x at = elim (at_append zs ys k x at) [
  | inl (j, found) ↦ inl (suc j, found)
  | inr there ↦ inr there
]

at_flat_map : {X Y : Type 0} (f : X → List Y) (xs : List X) (k : ℕ) (y : Y) → IsAt (flat_map f xs) k y
    → (j i : ℕ) × (x : X) × IsAt xs j x × IsAt (f x) i y
at_flat_map f [] k y at = absurd (none-some y at)
at_flat_map f (x ∷ xs) k y at = elim (at_append (f x) (flat_map f xs) k y at) [
  | inl (i, there) ↦ (0, i, x, refl, there)
  | inr (i, there) ↦ let found = at_flat_map f xs i y there in (suc found.0, found.1, found.2, found.3, found.4)
]

naming_place : (p : Program) (k : ℕ) (n : Naming) → IsAt (namings p) k n → HasPlace p n.place
naming_place p k n at =
    elim (at_append (map def_naming (filter (λ (d : Def). not (is_supply d.what)) p.defs))
    (map process_naming p.processes) k n at) [
      | inl (j, there) ↦ let found =
          get_map def_naming (filter (λ (d : Def). not (is_supply d.what)) p.defs) j n there in
          let kept = get_filter (λ (d : Def). not (is_supply d.what)) p.defs j found.0 found.1 in
          subst (λ (m : Naming). HasPlace p m.place) found.2 (HasPlace.definition kept.0 found.0 kept.1)
      | inr (j, there) ↦ let found = get_map process_naming p.processes j n there in
          subst (λ (m : Naming). HasPlace p m.place) found.2 (HasPlace.process j found.0 found.1)
    ]

pin_place : (p : Program) (k : ℕ) (x : Pin) → IsAt (pins p) k x → HasPlace p x.place
pin_place p k x at = let found = at_flat_map (λ (d : Def). d.pins) p.defs k x at in
    HasPlace.pin found.0 found.1 found.2 x found.3 found.4

use_place : (p : Program) (x : List ℕ) (at : Place) → Uses p x at → HasPlace p at
use_place p x at (inl (e, y, there, is, place)) = subst (HasPlace p) (sym place) (HasPlace.expression e y there)
use_place p x at (inr (f, y, v, there, is)) = HasPlace.target f y x at v there is

at_place : (p : Program) (at there : Place) → at ≡ there → HasPlace p there → HasPlace p at
at_place p at there same h = subst (HasPlace p) (sym same) h

pub broken_place : (p : Program) (k : ℕ) (at : Place) → Breaks p k at → HasPlace p at
broken_place p number at (inl (rule, inl (k, n, there, is, why))) = at_place p at n.place is (naming_place p k n there)
broken_place p number at (inl (rule, inr (j, k, a, b, first, second, lt, supply, same, is))) =
    at_place p at b.place is (HasPlace.definition k b second)
broken_place p number at (inr (inl (rule, (x, uses, none)))) = use_place p x at uses
broken_place p number at (inr (inr (inl (rule, inl (e, x, s, t, there, wanted, sort, other, is))))) =
    at_place p at x.place is (HasPlace.expression e x there)
broken_place p number at (inr (inr (inl (rule, inr (k, q, there, uses))))) = use_place p q.name at uses
broken_place p number at (inr (inr (inr (inl (rule, inl (d, x, c, there, what, big, is)))))) =
    at_place p at x.place is (HasPlace.definition d x there)
broken_place p number at (inr (inr (inr (inl (rule, inr (e, x, n, there, kind, big, is)))))) =
    at_place p at x.place is (HasPlace.expression e x there)
broken_place p number at (inr (inr (inr (inr (inl (rule, (e, x, k, args, there, kind, past, is))))))) =
    at_place p at x.place is (HasPlace.expression e x there)
broken_place p number at (inr (inr (inr (inr (inr (inl (rule, (j, k, a, b, first, second, lt, same, is)))))))) =
    at_place p at b.place is (pin_place p k b second)
broken_place p number at
    (inr (inr (inr (inr (inr (inr (inl (rule, (d, x, first, there, port, other, found, is))))))))) =
    at_place p at first.place is (HasPlace.pin d 0 x first there found)
broken_place p number at
    (inr (inr (inr (inr (inr (inr (inr (inl (rule, (f, y, x, v, d, z, there, kind, named, same, unset)))))))))) =
    HasPlace.target f y x at v there kind
broken_place p number at
    (inr (inr (inr (inr (inr (inr (inr (inr (inl (rule, (k, q, f, y, l, process, stands, label, none, is))))))))))) =
    at_place p at y.place is (HasPlace.form f y stands.3)
broken_place p number at
    (inr (inr (inr (inr (inr (inr (inr (inr (inr
    (inl (rule, (k, q, i, j, a, b, process, first, second, lt, same, is)))))))))))) =
    at_place p at b.place is (HasPlace.label k j q b process second)
broken_place p number at
    (inr (inr (inr (inr (inr (inr (inr (inr (inr (inr (inl (rule, (f, y, stands, transfer, is))))))))))))) =
    at_place p at y.place is (HasPlace.form f y stands.3)
broken_place p number at
    (inr (inr (inr (inr (inr (inr (inr (inr (inr (inr (inr
    (inl (rule, (k, q, f, y, process, depth, stands, stack, is)))))))))))))) =
    at_place p at y.place is (HasPlace.form f y stands.3)
broken_place p number at
    (inr (inr (inr (inr (inr (inr (inr (inr (inr (inr (inr (inr
    (inl (rule, (k, q, r, f, y, process, top, later, is))))))))))))))) =
    at_place p at y.place is (HasPlace.form f y later.18)
broken_place p number at
    (inr (inr (inr (inr (inr (inr (inr (inr (inr (inr (inr (inr (inr
    (inl (rule, (f, y, x, set_at, v, d, z, there, kind, named, same, closed, is)))))))))))))))) =
    at_place p at y.place is (HasPlace.form f y there)
broken_place p number at
    (inr (inr (inr (inr (inr (inr (inr (inr (inr (inr (inr (inr (inr (inr
    (inl (rule, (none, inl (d, x, there, stored, is)))))))))))))))))) =
    at_place p at x.place is (HasPlace.definition d x there)
broken_place p number at
    (inr (inr (inr (inr (inr (inr (inr (inr (inr (inr (inr (inr (inr (inr
    (inl (rule, (none, inr (k, q, there, is)))))))))))))))))) =
    at_place p at q.place is (HasPlace.process k q there)
broken_place p number at
    (inr (inr (inr (inr (inr (inr (inr (inr (inr (inr (inr (inr (inr (inr (inr
    (inl (rule, (w, supply, none, is)))))))))))))))))) =
    at_place p at p.place is HasPlace.program
broken_place p number at
    (inr (inr (inr (inr (inr (inr (inr (inr (inr (inr (inr (inr (inr (inr (inr (inr
    (inl (rule, (k, q, there, none, is))))))))))))))))))) =
    at_place p at q.place is (HasPlace.process k q there)
broken_place p number at
    (inr (inr (inr (inr (inr (inr (inr (inr (inr (inr (inr (inr (inr (inr (inr (inr (inr
    (inl (rule, (k, n, there, many, is)))))))))))))))))))) =
    at_place p at n.place is (naming_place p k n there)
broken_place p number at
    (inr (inr (inr (inr (inr (inr (inr (inr (inr (inr (inr (inr (inr (inr (inr (inr (inr (inr
    (inl (rule, (q, there, is))))))))))))))))))))) =
    at_place p at q.place is (HasPlace.process PROCESS_LIMIT q there)
broken_place p number at
    (inr (inr (inr (inr (inr (inr (inr (inr (inr (inr (inr (inr (inr (inr (inr (inr (inr (inr (inr
    (inl (rule, (k, q, f, y, process, top, there, is)))))))))))))))))))))) =
    at_place p at y.place is (HasPlace.form f y there)
broken_place p number at
    (inr (inr (inr (inr (inr (inr (inr (inr (inr (inr (inr (inr (inr (inr (inr (inr (inr (inr (inr (inr
    (inl (rule, (k, q, there, deep, is))))))))))))))))))))))) =
    at_place p at q.depth_at is (HasPlace.depth k q there)
broken_place p number at
    (inr (inr (inr (inr (inr (inr (inr (inr (inr (inr (inr (inr (inr (inr (inr (inr (inr (inr (inr (inr (inr
    (inl (rule, (heavy, is)))))))))))))))))))))))) =
    at_place p at p.place is HasPlace.program
broken_place p number at
    (inr (inr (inr (inr (inr (inr (inr (inr (inr (inr (inr (inr (inr (inr (inr (inr (inr (inr (inr (inr (inr (inr
    (rule, (many, is)))))))))))))))))))))))) =
    at_place p at p.place is HasPlace.program
