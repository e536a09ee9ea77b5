-- The earliest expression of a sort that isn't wanted where it stands.
use Rattle.std.proofs.Common.{◌≡◌, ◌≢◌, ◌⊎◌, ℕ, List, refl, sym, ap, ◌∙◌, subst}
use Rattle.std.proofs.Common.{inl, inr, arith, Option, Some, None, map}
use Rattle.std.specs.Prelude.{slice_get, Contains}
use Rattle.std.specs.Option.{option_and_then}
use Rattle.std.proofs.lemmas.Option.{same_Some}
use Rattle.mp_base.specs.declared.refusal.Place.{Place}
use Rattle.mp_base.specs.declared.op.Op.{Op}
use Rattle.mp_base.specs.Entries.{IsAt}
use Rattle.mp_base.proofs.Entries.{contains_from_get, get_from_contains}
use Rattle.mp_program.specs.declared.program.FormKind.{FormKind}
use Rattle.mp_program.specs.declared.program.FormKind.TheVariants.{Set, Cond, Par, Go, Call, Return}
use Rattle.mp_program.specs.declared.program.Branch.{Branch}
use Rattle.mp_program.specs.declared.program.Form.{Form}
use Rattle.mp_rules.specs.Sorts.{Sort, IsWord, IsBit, operand_sort}
use Rattle.mp_rules.specs.Breaking.{IsEarliest}
use Rattle.mp_rules.proofs.EarliestPlaces.{earliest_same, earliest_either}
use Rattle.written_names.specs.declared.sorts.Sort as coded
use Rattle.mp_names.specs.Finding.{earliest}
use Rattle.mp_names.specs.Sorting.{unless_same}
use Rattle.written_names.proofs.FoundEntries.{Found, of_map, in_map}
use Rattle.written_names.proofs.EarliestFound.{in_list}
use Rattle.mp_written.specs.declared.program.ExprKind.{ExprKind}
use Rattle.mp_written.specs.declared.program.ExprKind.TheVariants.{Number, Named, True, False, Apply, Use}
use Rattle.mp_written.specs.declared.program.Expr.{Expr}
use Rattle.mp_written.specs.declared.program.Program.{Program}
use Rattle.written_rules.specs.Sorts.{name_sort, HasSort, IsWanted}
use Rattle.name_meanings.specs.declared.table.NameTable.{NameTable}
use Rattle.written_names.specs.Table.{NamesWritten}
use Rattle.written_names.specs.Sorting.{sort_at, AreSorts, misfit, operand_misfit, value_misfit, form_misfit}
use Rattle.written_names.specs.Sorting.{earliest_misfit}
use Rattle.written_names.proofs.ScopeSorts.{name_sorts}

-- another sort than the one that is wanted
abbrev Other : Sort → Place → Option Sort → Place → Type 0
Other s at o there = (other : Sort) × (o ≡ Some other) × (s ≢ other) × (there ≡ at)

others : (s : Sort) (at : Place) (o : Option Sort) → IsEarliest (Other s at o) (unless_same s at o)
others s at None = λ there (other, is, differs, same). cc
others IsWord at (Some IsWord) = λ there (other, is, differs, same). differs (let e : IsWord ≡ other = cc in e)
others IsBit at (Some IsBit) = λ there (other, is, differs, same). differs (let e : IsBit ≡ other = cc in e)
others IsWord at (Some IsBit) = (
  (IsBit, refl, (λ e. cc), refl),
  λ there (other, is, differs, same). omega (
    arith,
    ap (λ
        (p : Place). p.offset) same,
  ),
)
others IsBit at (Some IsWord) = (
  (IsWord, refl, (λ e. cc), refl),
  λ there (other, is, differs, same). omega (
    arith,
    ap (λ
        (p : Place). p.offset) same,
  ),
)

apply_same : (op p : Op) (i j : ℕ) (os ps : List ℕ) → Apply op i os ≡ Apply p j ps → (op ≡ p) × (os ≡ ps)
apply_same op p i j os ps e = (cc, cc)

use_same : (a b : Place) (x y os ps : List ℕ) → Use a x os ≡ Use b y ps → os ≡ ps
use_same a b x y os ps e = cc

module _ (w : Program) (sorts : List (Option coded.Sort)) (are : AreSorts w sorts) where
  -- the expression at an index isn't of this sort, at a place
  abbrev pub Misfits : Sort → ℕ → Place → Type 0
  Misfits s e at = (x : Expr) × (other : Sort) × IsAt w.exprs e x × HasSort w e x other × (s ≢ other) × (at ≡ x.place)

  misfits : (s : Sort) (e : ℕ) → IsEarliest (Misfits s e) (misfit w.exprs sorts s e)
  misfits s e = found (slice_get w.exprs e) refl
    where
      found : (o : Option Expr) → slice_get w.exprs e ≡ o
          → IsEarliest (Misfits s e) (option_and_then (λ (x : Expr). unless_same s x.place (sort_at sorts e)) o)
      found None none = λ at (x, other, there, is, differs, same). let some = there in cc
      found (Some x) some = earliest_same (Other s x.place (sort_at sorts e)) (Misfits s e)
          (unless_same s x.place (sort_at sorts e)) (others s x.place (sort_at sorts e))
          (λ at (other, is, differs, same). (x, other, some, (are.each e x other some).0 is, differs, same))
          (λ at (y, other, there, is, differs, same). let one : y ≡ x = same_Some y x (sym there ∙ some) in
          (other, (are.each e y other there).1 is, differs, same ∙ ap (λ (z : Expr). z.place) one))

  -- an operand of an expression of this kind doesn't fit
  abbrev OperandMisfits : ExprKind → Place → Type 0
  OperandMisfits k at =
      ((op : Op) × (index : ℕ) × (os : List ℕ) × (k ≡ Apply op index os)
      × Found os (λ e. Misfits (operand_sort op) e at))
      ⊎ ((p : Place) × (x os : List ℕ) × (k ≡ Use p x os) × Found os (λ e. Misfits IsWord e at))

  none_misfit : (k : ExprKind) → ((op : Op) (i : ℕ) (os : List ℕ) → k ≡ Apply op i os → ⊥)
      → ((p : Place) (x os : List ℕ) → k ≡ Use p x os → ⊥) → IsEarliest (OperandMisfits k) None
  none_misfit k apply use_it = λ at h. elim h [
    | inl (op, index, os, is, found) ↦ apply op index os is
    | inr (p, x, os, is, found) ↦ use_it p x os is
  ]

  operand_misfits : (k : ExprKind) → IsEarliest (OperandMisfits k) (operand_misfit w.exprs sorts k)
  operand_misfits (Number n) = none_misfit (Number n) (λ op i os e. cc) (λ p x os e. cc)
  operand_misfits (Named x) = none_misfit (Named x) (λ op i os e. cc) (λ p y os e. cc)
  operand_misfits True = none_misfit True (λ op i os e. cc) (λ p x os e. cc)
  operand_misfits False = none_misfit False (λ op i os e. cc) (λ p x os e. cc)
  operand_misfits (Apply op k os) =
      earliest_same (λ at. Found os (λ e. Misfits (operand_sort op) e at)) (OperandMisfits (Apply op k os))
      (earliest (misfit w.exprs sorts (operand_sort op)) os)
      (in_list (λ e at. Misfits (operand_sort op) e at) (misfit w.exprs sorts (operand_sort op))
      (λ e. misfits (operand_sort op) e) os)
      (λ at found. inl (op, k, os, refl, found))
      (λ at h. elim h [
        | inl (p, j, ps, is, found) ↦
            (let (one, same) = apply_same op p k j os ps is in
            subst (λ (o : Op). Found os (λ e. Misfits (operand_sort o) e at)) (sym one)
            (subst (λ (l : List ℕ). Found l (λ e. Misfits (operand_sort p) e at)) (sym same) found))
        | inr (p, x, ps, is, found) ↦ absurd (cc)
      ])
  operand_misfits (Use p x os) =
      earliest_same (λ at. Found os (λ e. Misfits IsWord e at)) (OperandMisfits (Use p x os))
      (earliest (misfit w.exprs sorts IsWord) os)
      (in_list (λ e at. Misfits IsWord e at) (misfit w.exprs sorts IsWord) (λ e. misfits IsWord e) os)
      (λ at found. inr (p, x, os, refl, found))
      (λ at h. elim h [
        | inl (op, j, ps, is, found) ↦ absurd (cc)
        | inr (q, y, ps, is, found) ↦
            subst (λ (l : List ℕ). Found l (λ e. Misfits IsWord e at)) (sym (use_same p q x y os ps is)) found
      ])

  -- a guard or the value of a form of this kind doesn't fit
  abbrev GuardMisfits : FormKind → Place → Type 0
  GuardMisfits k at = (bs : List Branch) × (k ≡ Cond bs) × Found bs (λ (b : Branch). Misfits IsBit b.guard at)

  abbrev ValueMisfits : FormKind → Place → Type 0
  ValueMisfits k at = (x : List ℕ) × (there : Place) × (v : ℕ) × (s : Sort) × (k ≡ Set x there v)
      × (name_sort w.defs x ≡ Some s) × Misfits s v at

  abbrev FormMisfits : FormKind → Place → Type 0
  FormMisfits k at = GuardMisfits k at ⊎ ValueMisfits k at

  value_misfits : (x : List ℕ) (there : Place) (v : ℕ) (o : Option Sort) → name_sort w.defs x ≡ o
      → IsEarliest (FormMisfits (Set x there v)) (value_misfit w.exprs sorts v o)
  value_misfits x there v None sort = λ at h. elim h [
    | inl (bs, is, found) ↦ cc
    | inr (y, place, z, s, is, other, fault) ↦ let same : x ≡ y = cc in
        let e : name_sort w.defs x ≡ Some s = ap (name_sort w.defs) same ∙ other in cc
  ]
  value_misfits x there v (Some s) sort = earliest_same (Misfits s v) (FormMisfits (Set x there v))
      (misfit w.exprs sorts s v) (misfits s v)
      (λ at fault. inr (x, there, v, s, refl, sort, fault)) (λ at h. elim h [
        | inl (bs, is, found) ↦ cc
        | inr (y, place, z, r, is, other, fault) ↦ let same : x ≡ y = cc in let value : z ≡ v = cc in
            let e : Some r ≡ Some s = sym other ∙ ap (name_sort w.defs) (sym same) ∙ sort in
            let one : r ≡ s = cc in subst (λ r. Misfits r v at) one (subst (λ z. Misfits r z at) value fault)
      ])

  no_form : (k : FormKind) → ((bs : List Branch) → k ≡ Cond bs → ⊥)
      → ((x : List ℕ) (p : Place) (v : ℕ) → k ≡ Set x p v → ⊥) → IsEarliest (FormMisfits k) None
  no_form k branches set = λ at h. elim h [
    | inl (bs, is, found) ↦ branches bs is
    | inr (x, p, v, s, is, sort, fault) ↦ set x p v is
  ]

  form_misfits : (t : NameTable) (table : NamesWritten w t) (k : FormKind)
      → IsEarliest (FormMisfits k) (form_misfit w t sorts k)
  form_misfits t table (Set x there v) =
      subst (λ o. IsEarliest (FormMisfits (Set x there v)) (value_misfit w.exprs sorts v o)) (sym
      (name_sorts w t table x))
      (value_misfits x there v (name_sort w.defs x) refl)
  form_misfits t table (Cond branches) =
      earliest_same (λ at. Found branches (λ (b : Branch). Misfits IsBit b.guard at)) (FormMisfits (Cond branches))
      (earliest (λ (b : Branch). misfit w.exprs sorts IsBit b.guard) branches)
      (in_list (λ (b : Branch) at. Misfits IsBit b.guard at) (λ (b : Branch). misfit w.exprs sorts IsBit b.guard)
      (λ (b : Branch). misfits IsBit b.guard) branches)
      (λ at found. inl (branches, refl, found))
      (λ at h. elim h [
        | inl (bs, is, found) ↦ let same : branches ≡ bs = cc in
            subst (λ (l : List Branch). Found l (λ (b : Branch). Misfits IsBit b.guard at)) (sym same) found
        | inr (y, place, z, r, is, other, fault) ↦ cc
      ])
  form_misfits t table (Par forms) = no_form (Par forms) (λ bs e. cc) (λ x p v e. cc)
  form_misfits t table (Go l) = no_form (Go l) (λ bs e. cc) (λ x p v e. cc)
  form_misfits t table (Call l) = no_form (Call l) (λ bs e. cc) (λ x p v e. cc)
  form_misfits t table Return = no_form Return (λ bs e. cc) (λ x p v e. cc)

  -- an expression isn't of the sort that is wanted where it stands
  abbrev pub WrongSort : Place → Type 0
  WrongSort at = (e : ℕ) × (x : Expr) × (s other : Sort) × IsAt w.exprs e x × IsWanted w e (Some s)
      × HasSort w e x other × (s ≢ other) × (at ≡ x.place)

  -- the same, by what the expression stands in
  abbrev Standing : Place → Type 0
  Standing at =
      Found w.exprs (λ (x : Expr). OperandMisfits x.kind at) ⊎ Found w.forms (λ (y : Form). FormMisfits y.kind at)

  contains_at : {X : Type 0} (xs : List X) (x : X) → Contains xs x → Found xs (λ y. y ≡ x)
  contains_at xs x has = let (k, at) = get_from_contains xs x has in (k, x, at, refl)

  wanted_told : (at : Place) (s : Sort) (e : ℕ) → IsWanted w e (Some s) → Misfits s e at → WrongSort at
  wanted_told at s e wanted (x, other, there, sort, differs, is) = (e, x, s, other, there, wanted, sort, differs, is)

  told : (at : Place) → Standing at → WrongSort at
  told at (inl (i, x, there, inl (op, k, os, is, (j, e, found, fault)))) =
      wanted_told at (operand_sort op) e
      (inl (i, x, op, k, os, there, is, contains_from_get os j e found, refl)) fault
  told at (inl (i, x, there, inr (p, y, os, is, (j, e, found, fault)))) =
      wanted_told at IsWord e
      (inr (inl (i, x, p, y, os, there, is, contains_from_get os j e found, refl))) fault
  told at (inr (f, y, there, inl (bs, is, (j, b, found, fault)))) =
      wanted_told at IsBit b.guard (inr (inr (inl (f, y, bs, there, is, guard bs b j found, refl)))) fault
    where
      guard : (bs : List Branch) (b : Branch) (j : ℕ) → IsAt bs j b
          → Contains (map (λ (c : Branch). c.guard) bs) b.guard
      guard bs b j found =
          let (i, e, stands, same) = in_map (λ (c : Branch). c.guard) (λ e. e ≡ b.guard) bs (j, b, found, refl) in
          subst (Contains (map (λ (c : Branch). c.guard) bs)) same
          (contains_from_get (map (λ (c : Branch). c.guard) bs) i e stands)
  told at (inr (f, y, there, inr (x, place, v, s, is, sort, fault))) =
      wanted_told at s v (inr (inr (inr (f, y, x, place, there, is, sym sort)))) fault

  guards : (at : Place) (e : ℕ) (bs : List Branch) → Misfits IsBit e at → Contains (map (λ (c : Branch). c.guard) bs) e
      → Found bs (λ (b : Branch). Misfits IsBit b.guard at)
  guards at e bs fault has = of_map (λ (c : Branch). c.guard) (λ g. Misfits IsBit g at) bs
      (let (k, g, found, same) = contains_at (map (λ (c : Branch). c.guard) bs) e has in
      (k, g, found, subst (λ g. Misfits IsBit g at) (sym same) fault))

  stands : (at : Place) (s : Sort) (e : ℕ) → Misfits s e at → IsWanted w e (Some s) → Standing at
  stands at s e fault (inl (i, y, op, k, os, there, kind, has, want)) =
      let (j, found) = get_from_contains os e has in
      inl (
        i,
        y,
        there,
        inl (op, k, os, kind, (j, e, found, subst (λ r. Misfits r e at) (same_Some s (operand_sort op) want) fault)),
      )
  stands at s e fault (inr (inl (i, y, p, x, os, there, kind, has, want))) =
      let (j, found) = get_from_contains os e has in
      inl (
        i,
        y,
        there,
        inr (p, x, os, kind, (j, e, found, subst (λ r. Misfits r e at) (same_Some s IsWord want) fault)),
      )
  stands at s e fault (inr (inr (inl (f, y, bs, there, kind, has, want)))) =
      inr (
        f,
        y,
        there,
        inl (bs, kind, guards at e bs (subst (λ r. Misfits r e at) (same_Some s IsBit want) fault) has),
      )
  stands at s e fault (inr (inr (inr (f, y, name, place, there, kind, want)))) =
      inr (f, y, there, inr (name, place, e, s, kind, sym want, fault))

  back : (at : Place) → WrongSort at → Standing at
  back at (e, x, s, other, there, wanted, sort, differs, is) = stands at s e (x, other, there, sort, differs, is) wanted

  pub earliest_wrong_sort : (t : NameTable) (table : NamesWritten w t)
      → IsEarliest WrongSort (earliest_misfit w t sorts)
  earliest_wrong_sort t table = earliest_same Standing WrongSort (earliest_misfit w t sorts)
      (earliest_either (λ at. Found w.exprs (λ (x : Expr). OperandMisfits x.kind at))
      (λ at. Found w.forms (λ (y : Form). FormMisfits y.kind at))
      (earliest (λ (x : Expr). operand_misfit w.exprs sorts x.kind) w.exprs)
      (earliest (λ (y : Form). form_misfit w t sorts y.kind) w.forms)
      (in_list (λ (x : Expr) at. OperandMisfits x.kind at) (λ (x : Expr). operand_misfit w.exprs sorts x.kind)
      (λ (x : Expr). operand_misfits x.kind) w.exprs)
      (in_list (λ (y : Form) at. FormMisfits y.kind at) (λ (y : Form). form_misfit w t sorts y.kind)
      (λ (y : Form). form_misfits t table y.kind) w.forms)) told back
