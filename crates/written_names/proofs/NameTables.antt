-- What the table of names says of a program as it is written.
use Rattle.std.proofs.Common.{◌≡◌, ◌∙◌, ℕ, suc, ◌<◌, List, [], ◌∷◌, Bool, true, false, cond, refl, sym, ap, subst}
use Rattle.std.proofs.Common.{arith, Option, Some, None, map}
use Rattle.std.specs.Prelude.{is_some, slice_get, length}
use Rattle.std.specs.List.{list_any}
use Rattle.std.specs.Option.{option_map, option_and_then}
use Rattle.std.proofs.lemmas.Option.{none-some, same_Some}
use Rattle.mp_base.specs.declared.refusal.Place.{Place}
use Rattle.mp_base.specs.Entries.{IsAt}
use Rattle.mp_base.proofs.Entries.{map_get, within}
use Rattle.mp_program.specs.Names.{is_same, index_of}
use Rattle.mp_program.proofs.Definitions.{same_is}
use Rattle.mp_program.specs.declared.program.Def as plain_def
use Rattle.mp_program.specs.declared.program.Process.{Process}
use Rattle.mp_rules.proofs.Own.{own}
use Rattle.mp_written.specs.declared.program.Def.{Def}
use Rattle.mp_written.specs.declared.program.Program.{Program}
use Rattle.mp_written.specs.Kinds.{is_supply}
use Rattle.written_frame.specs.Frame.{frame_def}
use Rattle.written_frame.proofs.Frames.{frame, frame_is, one_frame, supply_same}
use Rattle.written_frame.proofs.SameRules.{namings_same, same_rules}
use Rattle.written_rules.specs.Naming.{namings, IsDefined}
use Rattle.written_rules.specs.Rules.{E20}
use Rattle.name_meanings.specs.declared.named.Named.{Named}
use Rattle.name_meanings.specs.declared.table.NameTable.{NameTable}
use Rattle.name_meanings.specs.Named.{first_of, least_offset, named_of}
use Rattle.name_meanings.specs.Table.{known}
use Rattle.written_names.proofs.LeastOffsets.{an_offset, offset_found}
use Rattle.written_names.specs.Table.{NamesWritten, definition}

-- the first definition of a name
first_at : (ds : List plain_def.Def) (x : List ℕ) (k : ℕ) → first_of ds x ≡ Some k
    → (d : plain_def.Def) × IsAt ds k d × (d.name ≡ x)
first_at [] x k e = cc
first_at (d ∷ ds) x k e = turn (first_at ds x) (is_same d.name x) refl (first_of ds x) refl e
  where
    turn : ((i : ℕ) → first_of ds x ≡ Some i → (c : plain_def.Def) × IsAt ds i c × (c.name ≡ x)) → (b : Bool)
        → is_same d.name x ≡ b → (o : Option ℕ) → first_of ds x ≡ o → cond b (Some 0) (option_map suc o) ≡ Some k
        → (c : plain_def.Def) × IsAt (d ∷ ds) k c × (c.name ≡ x)
    turn rest true same o is e =
        (d, subst (λ i. IsAt (d ∷ ds) i d) (same_Some 0 k e) refl, same_is d.name x same)
    turn rest false same None is e = cc
    turn rest false same (Some i) is e =
        let (c, at, named) = rest i is in (c, subst (λ i. IsAt (d ∷ ds) i c) (same_Some (suc i) k e) at, named)

first_or_none : (ds : List plain_def.Def) (x : List ℕ) (k : ℕ) → index_of ds x ≡ k → k < length ds
    → first_of ds x ≡ Some k
first_or_none [] x k e lt = absurd (omega (arith, lt))
first_or_none (d ∷ ds) x k e lt = turn (first_or_none ds x (index_of ds x) refl) (is_same d.name x) e
  where
    turn : (index_of ds x < length ds → first_of ds x ≡ Some (index_of ds x)) → (b : Bool)
        → cond b 0 (suc (index_of ds x)) ≡ k → cond b (Some 0) (option_map suc (first_of ds x)) ≡ Some k
    turn rest true e = ap Some e
    turn rest false e = ap (option_map suc) (rest (omega (arith, e, lt))) ∙ ap Some e

module _ (w : Program) (t : NameTable) (table : NamesWritten w t) where
  known_is : (x : List ℕ) → known t x ≡ named_of (frame w) x
  known_is x = let (s, is, names) = table in names.names x ∙ ap (λ p. named_of p x) (one_frame w s is)

  offset_is : (x : List ℕ) → is_some (known t x).least ≡ is_some (least_offset (namings w) x)
  offset_is x = ap (λ (n : Named). is_some n.least) (known_is x)
      ∙ ap (λ ns. is_some (least_offset ns x)) (namings_same w)

  pub is_defined : (x : List ℕ) → is_some (known t x).least ≡ true → IsDefined w x
  is_defined x some = offset_found (namings w) x (sym (offset_is x) ∙ some)

  pub not_defined : (x : List ℕ) → is_some (known t x).least ≡ false → ¬ IsDefined w x
  not_defined x none found =
      let e : true ≡ false = sym (an_offset (namings w) x found) ∙ sym (offset_is x) ∙ none in cc

  pub process_is : (x : List ℕ) → (known t x).process ≡ list_any (λ (q : Process). is_same q.name x) w.processes
  process_is x = ap (λ (n : Named). n.process) (known_is x)

  pub first_is : (x : List ℕ) → (known t x).first ≡ first_of (map frame_def w.defs) x
  first_is x = ap (λ (n : Named). n.first) (known_is x)

  -- the definition that a table gives has the name
  pub definition_found : (x : List ℕ) (d : Def) → definition w.defs t x ≡ Some d
      → (i : ℕ) × IsAt w.defs i d × (d.name ≡ x)
  definition_found x d is = turn (known t x).first refl
    where
      turn : (o : Option ℕ) → (known t x).first ≡ o → (i : ℕ) × IsAt w.defs i d × (d.name ≡ x)
      turn None first = absurd (none-some d (sym (ap (option_and_then (slice_get w.defs)) first) ∙ is))
      turn (Some i) first =
          let at = sym (ap (option_and_then (slice_get w.defs)) first) ∙ is in
          let (c, there, named) = first_at (map frame_def w.defs) x i (sym (first_is x) ∙ first) in
          let same = same_Some c (frame_def d) (sym there ∙ map_get frame_def w.defs i d at) in
          (i, at, ap (λ (b : plain_def.Def). b.name) (sym same) ∙ named)

  -- where no name is repeated, it is the only one that has it
  pub own_definition : (x : List ℕ) (i : ℕ) (d : Def) → ((at : Place) → ¬ E20 w at) → IsAt w.defs i d → d.name ≡ x
      → is_supply d.what ≡ false → definition w.defs t x ≡ Some d
  own_definition x i d apart at named plain =
      let owns = own (frame w) (λ there bad. apart there (((same_rules w (frame w) (frame_is w)).e20 there).0 bad)) in
      let there = map_get frame_def w.defs i d at in
      let index = ap (index_of (map frame_def w.defs)) (sym named)
      ∙ owns i (frame_def d) there (supply_same d.what ∙ plain) in
      ap (option_and_then (slice_get w.defs))
      (first_is x ∙ first_or_none (map frame_def w.defs) x i index (within (map frame_def w.defs) i there)) ∙ at
