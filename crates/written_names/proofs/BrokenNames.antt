-- Where the rules of names are broken: by expressions and by targets.
use Rattle.std.proofs.Common.{◌≡◌, ◌⊎◌, inl, inr, ℕ, List, true, cond, sym, ap, subst, Option, Some, None}
use Rattle.mp_base.specs.declared.refusal.Place.{Place}
use Rattle.mp_program.specs.declared.program.FormKind.{FormKind}
use Rattle.mp_program.specs.declared.program.FormKind.TheVariants.{Set, Cond, Par, Go, Call, Return}
use Rattle.mp_program.specs.declared.program.Form.{Form}
use Rattle.mp_rules.specs.Breaking.{IsEarliest, earlier_of}
use Rattle.mp_rules.proofs.EarliestPlaces.{earliest_same, earliest_either}
use Rattle.mp_written.specs.declared.program.Program.{Program}
use Rattle.written_rules.specs.Naming.{IsTargetAt}
use Rattle.written_rules.specs.Rules.{E20, E21, E22, E39}
use Rattle.written_names.specs.declared.sorts.Sort as coded
use Rattle.name_meanings.specs.declared.table.NameTable.{NameTable}
use Rattle.mp_names.specs.Finding.{earliest}
use Rattle.written_names.proofs.FoundEntries.{Found}
use Rattle.written_names.proofs.EarliestFound.{when, in_list}
use Rattle.written_names.specs.declared.uses.Misuse.{Misuse}
use Rattle.written_names.specs.declared.uses.Misuse.TheVariants.{Undefined, NoValue, Outside}
use Rattle.written_names.specs.Table.{NamesWritten}
use Rattle.written_names.specs.Misuse.{is_misuse, target_misuse, IsMisused, MisusesAt, NamesApart}
use Rattle.written_names.specs.Sorting.{AreSorts, earliest_misfit}
use Rattle.written_names.proofs.MisusedNames.{misused, not_misused, by_bool}
use Rattle.written_names.proofs.Misfits.{WrongSort, earliest_wrong_sort}

module _ (w : Program) (t : NameTable) (table : NamesWritten w t) (u : Misuse) (apart : NamesApart u w) where
  -- the target of a form of this kind is misused
  abbrev pub TargetMisused : FormKind → Place → Type 0
  TargetMisused k there = (x : List ℕ) × (v : ℕ) × (k ≡ Set x there v) × IsMisused u w x

  target_earliest : (k : FormKind) → IsEarliest (TargetMisused k) (target_misuse u w.defs t k)
  target_earliest (Set x at v) =
      earliest_same (λ there. (is_misuse u w.defs t x ≡ true) × (there ≡ at)) (TargetMisused (Set x at v))
      (cond (is_misuse u w.defs t x) (Some at) None) (when (is_misuse u w.defs t x) at)
      (λ there (bad, same). (x, v, ap (λ (p : Place). Set x p v) (sym same), misused w t table u x apart bad))
      (λ there (y, z, is, bad). let (name, place) = set_same x y at there v z is in (
        by_bool (is_misuse u w.defs t x) (λ e. e)
            (λ e. absurd (not_misused w t table u x apart e (subst (IsMisused u w) (sym name) bad))),
        sym place,
      ))
    where
      set_same : (x y : List ℕ) (p q : Place) (v z : ℕ) → Set x p v ≡ Set y q z → (x ≡ y) × (p ≡ q)
      set_same x y p q v z e = (cc, cc)
  target_earliest (Cond branches) = λ there (y, z, is, bad). cc
  target_earliest (Par forms) = λ there (y, z, is, bad). cc
  target_earliest (Go l) = λ there (y, z, is, bad). cc
  target_earliest (Call l) = λ there (y, z, is, bad). cc
  target_earliest Return = λ there (y, z, is, bad). cc

  -- a target is misused at a place
  abbrev pub TargetMisusedAt : Place → Type 0
  TargetMisusedAt at = (x : List ℕ) × IsTargetAt w x at × IsMisused u w x

  pub targets_earliest : IsEarliest TargetMisusedAt (earliest (λ (y : Form). target_misuse u w.defs t y.kind) w.forms)
  targets_earliest = earliest_same (λ at. Found w.forms (λ (y : Form). TargetMisused y.kind at)) TargetMisusedAt
      (earliest (λ (y : Form). target_misuse u w.defs t y.kind) w.forms)
      (in_list (λ (y : Form). TargetMisused y.kind) (λ (y : Form). target_misuse u w.defs t y.kind)
      (λ (y : Form). target_earliest y.kind) w.forms)
      (λ at (f, y, there, (x, v, is, bad)). (x, (f, y, v, there, is), bad))
      (λ at (x, (f, y, v, there, is), bad). (f, y, there, (x, v, is, bad)))

pub earliest_undefined : (w : Program) (t : NameTable) (table : NamesWritten w t) (found : Option Place)
    → IsEarliest (λ at. (e : ℕ) × MisusesAt Undefined w e at) found
    → IsEarliest (E21 w) (earlier_of found (earliest (λ (y : Form). target_misuse Undefined w.defs t y.kind) w.forms))
earliest_undefined w t table found are =
    let targets = earliest (λ (y : Form). target_misuse Undefined w.defs t y.kind) w.forms in
    earliest_same (λ at. ((e : ℕ) × MisusesAt Undefined w e at) ⊎ TargetMisusedAt w t table Undefined tt at) (E21 w)
    (earlier_of found targets)
    (earliest_either (λ at. (e : ℕ) × MisusesAt Undefined w e at)
    (TargetMisusedAt w t table Undefined tt) found targets are
    (targets_earliest w t table Undefined tt))
    (λ at h. elim h [
      | inl (e, bad) ↦ elim bad [
        | inl (x, named, free, reach, none) ↦ inl (e, x, named, none, free)
        | inr (y, x, os, here, is, none) ↦ inr (inr (e, y, x, os, here, is, none))
      ]
      | inr (x, target, none) ↦ inr (inl (x, target, none))
    ])
    (λ at h. elim h [
      | inl (e, x, named, none, free) ↦ inl (e, inl (x, named, free, tt, none))
      | inr rest ↦ elim rest [
        | inl (x, target, none) ↦ inr (x, target, none)
        | inr (e, y, x, os, here, is, none) ↦ inl (e, inr (y, x, os, here, is, none))
      ]
    ])

pub earliest_outside : (w : Program) (found : Option Place) → IsEarliest (λ at. (e : ℕ)
    × MisusesAt Outside w e at) found
    → IsEarliest (E39 w) found
earliest_outside w found are = earliest_same (λ at. (e : ℕ) × MisusesAt Outside w e at) (E39 w) found are
    (λ at (e, bad). elim bad [
      | inl (x, named, free, (k, f, body), (some, constant, function)) ↦
          (k, f, e, x, body, named, some, free, constant, function)
      | inr none ↦ absurd none
    ])
    (λ at (k, f, e, x, body, named, some, free, constant, function).
    (e, inl (x, named, free, (k, f, body), (some, constant, function))))

pub earliest_wrong : (w : Program) (t : NameTable) (table : NamesWritten w t) (apart : (at : Place) → ¬ E20 w at)
    (sorts : List (Option coded.Sort)) (are : AreSorts w sorts) (found : Option Place)
    → IsEarliest (λ at. (e : ℕ) × MisusesAt NoValue w e at) found
    → IsEarliest (E22 w) (earlier_of (earliest_misfit w t sorts)
    (earlier_of found (earliest (λ (y : Form). target_misuse NoValue w.defs t y.kind) w.forms)))
earliest_wrong w t table apart sorts are found no_value =
    let targets = earliest (λ (y : Form). target_misuse NoValue w.defs t y.kind) w.forms in
    earliest_same (λ at. WrongSort w sorts are at
    ⊎ (((e : ℕ) × MisusesAt NoValue w e at) ⊎ TargetMisusedAt w t table NoValue apart at)) (E22 w)
    (earlier_of (earliest_misfit w t sorts) (earlier_of found targets))
    (earliest_either (WrongSort w sorts are)
    (λ at. ((e : ℕ) × MisusesAt NoValue w e at) ⊎ TargetMisusedAt w t table NoValue apart at)
    (earliest_misfit w t sorts) (earlier_of found targets) (earliest_wrong_sort w sorts are t table)
    (earliest_either (λ at. (e : ℕ) × MisusesAt NoValue w e at) (TargetMisusedAt w t table NoValue apart) found targets
    no_value (targets_earliest w t table NoValue apart)))
    (λ at h. elim h [
      | inl (e, x, s, other, there, wanted, sort, differs, is) ↦ inl (e, x, s, other, there, wanted, sort, differs, is)
      | inr rest ↦ elim rest [
        | inl (e, bad) ↦ elim bad [
          | inl (x, named, free, reach, none) ↦ inr (inl (e, x, named, free, none))
          | inr none ↦ absurd none
        ]
        | inr (x, target, none) ↦ inr (inr (x, target, none))
      ]
    ])
    (λ at h. elim h [
      | inl (e, x, s, other, there, wanted, sort, differs, is) ↦ inl (e, x, s, other, there, wanted, sort, differs, is)
      | inr rest ↦ elim rest [
        | inl (e, x, named, free, none) ↦ inr (inl (e, inl (x, named, free, tt, none)))
        | inr (x, target, none) ↦ inr (inr (x, target, none))
      ]
    ])
