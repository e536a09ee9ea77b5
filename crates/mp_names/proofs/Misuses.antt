-- Names that are misused.
use Rattle.std.proofs.Common.{◌≡◌, ◌⊎◌, ℕ, List, true, cond, refl, sym, ap, inl, inr, Some, None}
use Rattle.mp_base.specs.declared.refusal.Place.{Place}
use Rattle.mp_program.specs.declared.program.ExprKind.{ExprKind}
use Rattle.mp_program.specs.declared.program.ExprKind.TheVariants as kinds
use Rattle.mp_program.specs.declared.program.FormKind.{FormKind}
use Rattle.mp_program.specs.declared.program.FormKind.TheVariants.{Set, Cond, Par, Go, Call, Return}
use Rattle.mp_program.specs.declared.program.Expr.{Expr}
use Rattle.mp_program.specs.declared.program.Form.{Form}
use Rattle.mp_program.specs.declared.program.Program.{Program}
use Rattle.mp_rules.specs.Naming.{Uses}
use Rattle.mp_rules.specs.Breaking.{IsEarliest}
use Rattle.name_meanings.specs.declared.table.NameTable.{NameTable}
use Rattle.mp_names.specs.declared.uses.Misuse.{Misuse}
use Rattle.name_meanings.specs.Table.{known}
use Rattle.mp_names.specs.Finding.{earliest}
use Rattle.mp_names.specs.Misuse.{is_misuse, misuse_at, target_misuse, earliest_misuse}
use Rattle.mp_names.proofs.Entries.{Found}
use Rattle.mp_names.proofs.Earliest.{when, in_list}
use Rattle.mp_rules.proofs.EarliestPlaces.{earliest_same, earliest_either}

-- an expression of this kind, at a place, misuses a name there
abbrev KindMisuses : NameTable → Misuse → Place → ExprKind → Place → Type 0
KindMisuses t w at k there = (x : List ℕ) × (k ≡ kinds.Named x) × (there ≡ at) × (is_misuse w (known t x) ≡ true)

-- the target of a form of this kind misuses a name at a place
abbrev pub TargetMisuses : NameTable → Misuse → FormKind → Place → Type 0
TargetMisuses t w k there = (x : List ℕ) × (v : ℕ) × (k ≡ Set x there v) × (is_misuse w (known t x) ≡ true)

expr_misuse : (t : NameTable) (w : Misuse) (at : Place) (k : ExprKind)
    → IsEarliest (KindMisuses t w at k) (misuse_at t w at k)
expr_misuse t w at (kinds.Named x) =
    earliest_same (λ there. (is_misuse w (known t x) ≡ true) × (there ≡ at)) (KindMisuses t w at (kinds.Named x))
    (cond (is_misuse w (known t x)) (Some at) None) (when (is_misuse w (known t x)) at)
    (λ there (bad, same). (x, refl, same, bad)) (λ there (y, is, same, bad). (let e : x ≡ y = cc in rw e bad, same))
expr_misuse t w at (kinds.Number n) = λ there (y, is, same, bad). cc
expr_misuse t w at kinds.True = λ there (y, is, same, bad). cc
expr_misuse t w at kinds.False = λ there (y, is, same, bad). cc
expr_misuse t w at (kinds.Apply op k args) = λ there (y, is, same, bad). cc

pub target_misuses : (t : NameTable) (w : Misuse) (k : FormKind)
    → IsEarliest (TargetMisuses t w k) (target_misuse t w k)
target_misuses t w (Set x at v) =
    earliest_same (λ there. (is_misuse w (known t x) ≡ true) × (there ≡ at)) (TargetMisuses t w (Set x at v))
    (cond (is_misuse w (known t x)) (Some at) None)
    (when (is_misuse w (known t x)) at)
    (λ there (bad, same). (x, v, ap (λ (p : Place). Set x p v) (sym same), bad))
    (λ there (y, u, is, bad). (let e : x ≡ y = cc in rw e bad, cc))
target_misuses t w (Cond branches) = λ there (y, u, is, bad). cc
target_misuses t w (Par forms) = λ there (y, u, is, bad). cc
target_misuses t w (Go l) = λ there (y, u, is, bad). cc
target_misuses t w (Call l) = λ there (y, u, is, bad). cc
target_misuses t w Return = λ there (y, u, is, bad). cc

-- the name of a use is misused
abbrev pub Misuses : Program → NameTable → Misuse → Place → Type 0
Misuses p t w at = (x : List ℕ) × Uses p x at × (is_misuse w (known t x) ≡ true)

pub misuses : (p : Program) (t : NameTable) (w : Misuse) → IsEarliest (Misuses p t w) (earliest_misuse t w p)
misuses p t w =
    earliest_same (λ at. Found p.exprs (λ (x : Expr). KindMisuses t w x.place x.kind at)
    ⊎ Found p.forms (λ (y : Form). TargetMisuses t w y.kind at)) (Misuses p t w)
    (earliest_misuse t w p)
    (earliest_either (λ at. Found p.exprs (λ (x : Expr). KindMisuses t w x.place x.kind at))
    (λ at. Found p.forms (λ (y : Form). TargetMisuses t w y.kind at))
    (earliest (λ (x : Expr). misuse_at t w x.place x.kind) p.exprs)
    (earliest (λ (y : Form). target_misuse t w y.kind) p.forms)
    (in_list (λ (x : Expr). KindMisuses t w x.place x.kind) (λ (x : Expr). misuse_at t w x.place x.kind)
    (λ (x : Expr). expr_misuse t w x.place x.kind) p.exprs)
    (in_list (λ (y : Form). TargetMisuses t w y.kind) (λ (y : Form). target_misuse t w y.kind)
    (λ (y : Form). target_misuses t w y.kind) p.forms))
    (λ at h. elim h [
      | inl (e, y, there, (x, is, same, bad)) ↦ (x, inl (e, y, there, is, same), bad)
      | inr (f, y, there, (x, v, is, bad)) ↦ (x, inr (f, y, v, there, is), bad)
    ])
    (λ at (x, uses, bad). elim uses [
      | inl (e, y, there, is, same) ↦ inl (e, y, there, (x, is, same, bad))
      | inr (f, y, v, there, is) ↦ inr (f, y, there, (x, v, is, bad))
    ])
