-- Names that forms and expressions use.
use Rattle.std.proofs.Common.{
  ◌≡◌,
  ◌≢◌,
  ◌⊎◌,
  inl,
  inr,
  ◌∙◌,
  ℕ,
  zero,
  suc,
  List,
  [],
  ◌∷◌,
  true,
  false,
  not,
  Some,
  refl,
  sym,
  ap,
  subst,
  arith,
  map,
  filter,
}
use Rattle.std.specs.Prelude.{Contains}
use Rattle.std.proofs.lemmas.List.Elements.{Contains-append_cases}
use Rattle.std.proofs.lemmas.Bool.{not-true}
use Rattle.mp_base.specs.declared.refusal.Place.{Place}
use Rattle.mp_base.proofs.Contents.{contains_head, contains_behind, nothing_in, contains_from_map, contains_from_filter}
use Rattle.mp_base.proofs.Induction.{by_test}
use Rattle.mp_program.specs.declared.program.What.{What}
use Rattle.mp_program.specs.declared.program.What.TheVariants.{
  Power,
  Ground,
  Phia,
  Phib,
  Phic,
  Constant,
  Register,
  Flag,
  Port,
  Signal,
}
use Rattle.mp_program.specs.declared.program.Way.TheVariants.{Input, Output, Internal}
use Rattle.mp_program.specs.declared.program.Def.{Def}
use Rattle.mp_program.specs.declared.program.Program.{Program}
use Rattle.mp_program.specs.Names.{index_of, is_same, is_supply}
use Rattle.mp_program.proofs.Definitions.{same_is, is_same_of}
use Rattle.mp_base.specs.Entries.{IsAt}
use Rattle.mp_rules.specs.Naming.{Naming, namings, def_naming, process_naming, Uses, OwnNames}
use Rattle.mp_rules.specs.Rules.{E21, E22}
use Rattle.mp_base.proofs.Entries.{contains_from_get, get_from_contains}
use Rattle.rtl_form.specs.declared.rtl.Cell.{Cell}
use Rattle.process_plan.specs.Roles.{Role, Value, AreCells, def_cell}

-- a naming of the name x, or none has it
find : (x : List ℕ) (ns : List Naming)
    → ((n : Naming) × Contains ns n × (n.name ≡ x)) ⊎ ((n : Naming) → Contains ns n → n.name ≢ x)
find x [] = inr (λ n c e. nothing_in n c)
find x (n ∷ ns) = by_test (is_same n.name x)
    (λ same. inl (n, contains_head n ns, same_is n.name x same))
    (λ other. elim (find x ns) [
      | inl (m, c, e) ↦ inl (m, contains_behind m n ns c, e)
      | inr none ↦ inr (λ m c. not_first m c none other)
    ])
  where
    not_first : (m : Naming) → Contains (n ∷ ns) m → ((m : Naming) → Contains ns m → m.name ≢ x)
        → is_same n.name x ≡ false → m.name ≢ x
    not_first m (zero, lt, is) none other e =
        let yes : is_same n.name x ≡ true = is_same_of n.name x (ap (λ (z : Naming). z.name) is ∙ e) in
        let clash : true ≡ false = sym yes ∙ other in absurd (cc)
    not_first m (suc k, lt, is) none other e = none m (k, omega (arith, lt), is) e

-- what is no supply is a constant or has a cell
valued : (ds : List Def) (d : ℕ) (w : What) → is_supply w ≡ false
    → ((n : ℕ) × (w ≡ Constant n)) ⊎ ((x : Cell) × (def_cell ds d w ≡ Some x))
valued ds d Power h = absurd (cc)
valued ds d Ground h = absurd (cc)
valued ds d Phia h = absurd (cc)
valued ds d Phib h = absurd (cc)
valued ds d Phic h = absurd (cc)
valued ds d (Constant n) h = inl (n, refl)
valued ds d Register h = inr (_, refl)
valued ds d Flag h = inr (_, refl)
valued ds d (Port Input) h = inr (_, refl)
valued ds d (Port Output) h = inr (_, refl)
valued ds d (Port Internal) h = inr (_, refl)
valued ds d (Signal Input) h = inr (_, refl)
valued ds d (Signal Output) h = inr (_, refl)
valued ds d (Signal Internal) h = inr (_, refl)

module _ (p : Program) (own : OwnNames p) (defined : (at : Place) → E21 p at → ⊥)
    (sorted : (at : Place) → E22 p at → ⊥) where
  of_naming : (x : List ℕ) (at : Place) → Uses p x at → (n : Naming) → Contains (namings p) n → n.name ≡ x
      → (d : Def) × IsAt p.defs (index_of p.defs x) d × (is_supply d.what ≡ false)
  of_naming x at uses n c e =
      elim (Contains-append_cases (map def_naming (filter (λ (d : Def). not (is_supply d.what)) p.defs))
      (map process_naming p.processes) n c) [
        | inl of_def ↦
            let (y, cy, is) =
            contains_from_map def_naming (filter (λ (d : Def). not (is_supply d.what)) p.defs) n of_def in
            let (c2, t) = contains_from_filter (λ (d : Def). not (is_supply d.what)) p.defs y cy in
            let (k, at_k) = get_from_contains p.defs y c2 in
            let plain = not-true (is_supply y.what) t in
            let name : y.name ≡ x = ap (λ (z : Naming). z.name) is ∙ e in
            let index : index_of p.defs x ≡ k = ap (index_of p.defs) (sym name) ∙ own k y at_k plain in
            (y, subst (λ i. IsAt p.defs i y) (sym index) at_k, plain)
        | inr of_process ↦
            let (q, cq, is) = contains_from_map process_naming p.processes n of_process in
            let (k, at_k) = get_from_contains p.processes q cq in
            let name : q.name ≡ x = ap (λ (z : Naming). z.name) is ∙ e in
            absurd (sorted at (inr (k, q, at_k, subst (λ y. Uses p y at) (sym name) uses)))
      ]

  -- a name that is used is that of a definition, which is no supply
  pub used_def : (x : List ℕ) (at : Place) → Uses p x at
      → (d : Def) × IsAt p.defs (index_of p.defs x) d × (is_supply d.what ≡ false)
  used_def x at uses = elim (find x (namings p)) [
    | inl (n, c, e) ↦ of_naming x at uses n c e
    | inr none ↦ absurd (defined at (x, uses, λ k n at_k. none n (contains_from_get (namings p) k n at_k)))
  ]

  -- it is a constant, or has a cell
  pub used_value : (roles : List Role) (xs : List Cell) → AreCells p roles xs → (x : List ℕ) (at : Place) → Uses p x at
      → (d : Def) × IsAt p.defs (index_of p.defs x) d
      × (((n : ℕ) × (d.what ≡ Constant n)) ⊎ ((c : ℕ) × IsAt roles c (Value (index_of p.defs x))))
  used_value roles xs are x at uses =
      let (d, at_d, plain) = used_def x at uses in (
        d,
        at_d,
        elim (valued p.defs (index_of p.defs x) d.what plain) as
            (λ _. ((n : ℕ) × (d.what ≡ Constant n)) ⊎ ((c : ℕ) × IsAt roles c (Value (index_of p.defs x)))) [
              | inl is ↦ inl is
              | inr (z, made) ↦ inr (are.all (Value (index_of p.defs x)) z (d, at_d, made))
            ],
      )
