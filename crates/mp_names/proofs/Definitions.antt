-- Where each name that is used is that of a definition.
use Rattle.std.proofs.Common.{◌≡◌, ◌⊎◌, ℕ, suc, ◌<◌, List, [], ◌∷◌, Bool, true, false, cond, refl, sym}
use Rattle.std.proofs.Common.{subst, inl, inr, arith, is_some, length}
use Rattle.mp_base.specs.declared.refusal.Place.{Place}
use Rattle.mp_program.specs.declared.program.Def.{Def}
use Rattle.mp_program.specs.declared.program.Program.{Program}
use Rattle.mp_program.specs.Names.{is_same, index_of}
use Rattle.mp_program.proofs.Definitions.{is_same_of}
use Rattle.mp_rules.specs.Naming.{Naming, namings, Uses}
use Rattle.mp_rules.specs.Rules.{E21, E22}
use Rattle.name_meanings.specs.declared.meaning.Meanings.{Meanings}
use Rattle.name_meanings.specs.Named.{least_offset}
use Rattle.name_meanings.specs.Meaning.{AreMeanings}
use Rattle.mp_names.specs.Defined.{NamesDefinitions}
use Rattle.mp_names.proofs.Entries.{Found, nothing_in, first_or_behind}
use Rattle.mp_names.proofs.Naming.{an_offset, offset_found, of_namings}

-- a name that a definition has means a definition
index_below : (ds : List Def) (x : List ℕ) → Found ds (λ (d : Def). d.name ≡ x) → index_of ds x < length ds
index_below [] x found = absurd (nothing_in (λ (d : Def). d.name ≡ x) found)
index_below (d ∷ ds) x found =
    turn (index_below ds x) (is_same d.name x) refl (first_or_behind (λ (e : Def). e.name ≡ x) d ds found)
  where
    turn : (Found ds (λ (e : Def). e.name ≡ x) → index_of ds x < length ds) → (b : Bool) → is_same d.name x ≡ b
        → (d.name ≡ x) ⊎ Found ds (λ (e : Def). e.name ≡ x) → cond b 0 (suc (index_of ds x)) < suc (length ds)
    turn rest true e h = omega arith
    turn rest false e (inl now) = absurd (let same = is_same_of d.name x now in cc)
    turn rest false e (inr later) = let below = rest later in omega (arith, below)

-- where a name that nothing has, or a process, isn't used
used_below : (p : Program) (x : List ℕ) (at : Place) → ((there : Place) → E21 p there → ⊥)
    → ((there : Place) → E22 p there → ⊥) → Uses p x at
    → index_of p.defs x < length p.defs
used_below p x at defined sorts uses = known (is_some (least_offset (namings p) x)) refl
  where
    known : (b : Bool) → is_some (least_offset (namings p) x) ≡ b → index_of p.defs x < length p.defs
    known false e =
        absurd (defined at (x, uses, λ k n there same. let some = an_offset (namings p) x (k, n, there, same) in cc))
    known true e = elim (of_namings p (λ (n : Naming). n.name ≡ x) (offset_found (namings p) x e)) [
      | inl (k, d, there, (named, same)) ↦ index_below p.defs x (k, d, there, same)
      | inr (k, q, there, same) ↦ absurd (sorts at (inr (k, q, there, subst (λ y. Uses p y at) (sym same) uses)))
    ]

pub names_definitions : (p : Program) (m : Meanings) → AreMeanings p m → ((at : Place) → E21 p at → ⊥)
    → ((at : Place) → E22 p at → ⊥) → NamesDefinitions p m
names_definitions p m means defined sorts = record {
  exprs = λ e x name there is. rw (means.exprs e x name there is)
      (used_below p name x.place defined sorts (inl (e, x, there, is, refl)));
  targets =
      λ f y name at v there is. rw (means.targets f y name at v there is)
      (used_below p name at defined sorts (inr (f, y, v, there, is)));
}
