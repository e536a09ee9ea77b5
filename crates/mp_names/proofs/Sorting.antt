-- Expressions of a sort that isn't wanted.
use Rattle.std.proofs.Common.{◌≡◌, ◌≢◌, ◌⊎◌, ℕ, suc, List, [], ◌∷◌, Bool, true, false, cond, refl, sym, ap, ◌∙◌, subst}
use Rattle.std.proofs.Common.{inl, inr, arith, Option, Some, None, map}
use Rattle.std.specs.Prelude.{slice_get, Contains}
use Rattle.std.specs.Option.{option_map, option_and_then}
use Rattle.std.proofs.lemmas.Option.{same_Some}
use Rattle.mp_base.specs.declared.refusal.Place.{Place}
use Rattle.mp_base.specs.declared.op.Op.{Op}
use Rattle.mp_program.specs.declared.program.ExprKind.{ExprKind}
use Rattle.mp_program.specs.declared.program.ExprKind.TheVariants.{Number, Named, True, False, Apply}
use Rattle.mp_program.specs.declared.program.FormKind.{FormKind}
use Rattle.mp_program.specs.declared.program.FormKind.TheVariants.{Set, Cond, Par, Go, Call, Return}
use Rattle.mp_program.specs.declared.program.Branch.{Branch}
use Rattle.mp_program.specs.declared.program.Def.{Def}
use Rattle.mp_program.specs.declared.program.Expr.{Expr}
use Rattle.mp_program.specs.declared.program.Form.{Form}
use Rattle.mp_program.specs.declared.program.Program.{Program}
use Rattle.mp_program.specs.Names.{is_same}
use Rattle.mp_base.specs.Entries.{IsAt}
use Rattle.mp_rules.specs.Sorts.{Sort, IsWord, IsBit, what_sort, name_sort, operand_sort, expr_sort, IsWanted}
use Rattle.mp_rules.specs.Breaking.{IsEarliest}
use Rattle.mp_base.proofs.Entries.{contains_from_get, get_from_contains}
use Rattle.name_meanings.specs.declared.named.Named as known_names
use Rattle.name_meanings.specs.declared.table.NameTable.{NameTable}
use Rattle.name_meanings.specs.Named.{first_of}
use Rattle.name_meanings.specs.Table.{IsNameTable}
use Rattle.mp_names.specs.Finding.{earliest}
use Rattle.mp_names.specs.Sorting.{sort_in, kind_sort, unless_same, misfit, operand_misfit, value_misfit, form_misfit}
use Rattle.mp_names.specs.Sorting.{earliest_misfit}
use Rattle.mp_names.proofs.Entries.{Found, of_map, in_map}
use Rattle.mp_names.proofs.Earliest.{in_list}
use Rattle.mp_rules.proofs.EarliestPlaces.{earliest_same, earliest_either}

-- the sort of a name, by the index of its first definition
abbrev sort_at : List Def → Option ℕ → Option Sort
sort_at defs o = option_and_then (λ k. option_and_then (λ (d : Def). what_sort d.what) (slice_get defs k)) o

pub first_sort : (ds : List Def) (x : List ℕ) → sort_at ds (first_of ds x) ≡ name_sort ds x
first_sort [] x = refl
first_sort (d ∷ ds) x = turn (is_same d.name x) (first_of ds x) (first_sort ds x)
  where
    turn : (b : Bool) (o : Option ℕ) → sort_at ds o ≡ name_sort ds x
        → sort_at (d ∷ ds) (cond b (Some 0) (option_map suc o)) ≡ cond b (what_sort d.what) (name_sort ds x)
    turn true o h = refl
    turn false None h = h
    turn false (Some k) h = h

-- a table gives the sorts of names and expressions
name_sorts : (p : Program) (t : NameTable) (x : List ℕ) → IsNameTable p t → sort_in p.defs t x ≡ name_sort p.defs x
name_sorts p t x holds = ap (λ (n : known_names.Named). sort_at p.defs n.first) (holds.names x) ∙ first_sort p.defs x

expr_sorts : (p : Program) (t : NameTable) (k : ExprKind) → IsNameTable p t → kind_sort p.defs t k ≡ expr_sort p.defs k
expr_sorts p t (Number n) holds = refl
expr_sorts p t (Named x) holds = name_sorts p t x holds
expr_sorts p t True holds = refl
expr_sorts p t False holds = refl
expr_sorts p t (Apply op k args) holds = refl

-- the expression at an index isn't of this sort, at a place
abbrev pub Misfits : Program → Sort → ℕ → Place → Type 0
Misfits p s e at = (x : Expr) × (other : Sort) × IsAt p.exprs e x × (expr_sort p.defs x.kind ≡ Some other)
    × (s ≢ other) × (at ≡ x.place)

-- another sort than the one that is wanted
abbrev Other : Sort → Place → Option Sort → Place → Type 0
Other s at o there = (other : Sort) × (o ≡ Some other) × (s ≢ other) × (there ≡ at)

others : (s : Sort) (at : Place) (o : Option Sort) → IsEarliest (Other s at o) (unless_same s at o)
others s at None = λ there (other, is, differs, same). cc
others IsWord at (Some IsWord) = λ there (other, is, differs, same). differs (let e : IsWord ≡ other = cc in e)
others IsBit at (Some IsBit) = λ there (other, is, differs, same). differs (let e : IsBit ≡ other = cc in e)
others IsWord at (Some IsBit) = (
  (IsBit, refl, (λ e. cc), refl),
  λ there (other, is, differs, same). omega
      (arith, ap (λ (p : Place). p.offset) same),
)
others IsBit at (Some IsWord) = (
  (IsWord, refl, (λ e. cc), refl),
  λ there (other, is, differs, same). omega
      (arith, ap (λ (p : Place). p.offset) same),
)

misfits : (p : Program) (t : NameTable) (s : Sort) (e : ℕ) → IsNameTable p t
    → IsEarliest (Misfits p s e) (misfit p t s e)
misfits p t s e holds = found (slice_get p.exprs e) refl
  where
    found : (o : Option Expr) → slice_get p.exprs e ≡ o
        → IsEarliest (Misfits p s e)
        (option_and_then (λ (x : Expr). unless_same s x.place (kind_sort p.defs t x.kind)) o)
    found None none = λ at (x, other, there, is, differs, same). let some = there in cc
    found (Some x) some = earliest_same (Other s x.place (kind_sort p.defs t x.kind)) (Misfits p s e)
        (unless_same s x.place (kind_sort p.defs t x.kind))
        (others s x.place (kind_sort p.defs t x.kind))
        (λ at (other, is, differs, same). (
          x,
          other,
          some,
          sym (expr_sorts p t x.kind holds)
              ∙ is,
          differs,
          same,
        )) (λ at (y, other, there, is, differs, same). let one : y ≡ x =
        same_Some y x (sym there ∙ some) in (
          other,
          ap (λ (z : Expr). kind_sort p.defs t z.kind) (sym one) ∙ expr_sorts p t y.kind holds
              ∙ is,
          differs,
          same ∙ ap (λ (z : Expr). z.place) one,
        ))

-- an operand of an expression of this kind doesn't fit
abbrev OperandMisfits : Program → ExprKind → Place → Type 0
OperandMisfits p k at = (op : Op) × (index : ℕ) × (args : List ℕ) × (k ≡ Apply op index args)
    × Found args (λ e. Misfits p (operand_sort op) e at)

operand_misfits : (p : Program) (t : NameTable) (k : ExprKind) → IsNameTable p t
    → IsEarliest (OperandMisfits p k) (operand_misfit p t k)
operand_misfits p t (Number n) holds = λ at (op, index, args, is, found). cc
operand_misfits p t (Named x) holds = λ at (op, index, args, is, found). cc
operand_misfits p t True holds = λ at (op, index, args, is, found). cc
operand_misfits p t False holds = λ at (op, index, args, is, found). cc
operand_misfits p t (Apply op k args) holds =
    earliest_same (λ at. Found args (λ e. Misfits p (operand_sort op) e at)) (OperandMisfits p (Apply op k args))
    (earliest (misfit p t (operand_sort op)) args)
    (in_list (λ e at. Misfits p (operand_sort op) e at) (misfit p t (operand_sort op))
    (λ e. misfits p t (operand_sort op) e holds) args)
    (λ at found. (op, k, args, refl, found))
    (λ at (other, index, list, is, found). let same : args ≡ list = cc in let one : op ≡ other = cc in
    subst (λ (o : Op). Found args (λ e. Misfits p (operand_sort o) e at)) (sym one)
    (subst (λ (l : List ℕ). Found l (λ e. Misfits p (operand_sort other) e at)) (sym same) found))

-- a guard or the value of a form of this kind doesn't fit
abbrev GuardMisfits : Program → FormKind → Place → Type 0
GuardMisfits p k at = (bs : List Branch) × (k ≡ Cond bs) × Found bs (λ (b : Branch). Misfits p IsBit b.guard at)

abbrev ValueMisfits : Program → FormKind → Place → Type 0
ValueMisfits p k at = (x : List ℕ) × (there : Place) × (v : ℕ) × (s : Sort) × (k ≡ Set x there v)
    × (name_sort p.defs x ≡ Some s) × Misfits p s v at

abbrev FormMisfits : Program → FormKind → Place → Type 0
FormMisfits p k at = GuardMisfits p k at ⊎ ValueMisfits p k at

value_misfits : (p : Program) (t : NameTable) (x : List ℕ) (there : Place) (v : ℕ) → IsNameTable p t
    → (o : Option Sort) → name_sort p.defs x ≡ o
    → IsEarliest (FormMisfits p (Set x there v)) (value_misfit p t v o)
value_misfits p t x there v holds None sort = λ at h. elim h [
  | inl (bs, is, found) ↦ cc
  | inr (y, place, w, s, is, other, fault) ↦ let same : x ≡ y = cc in
      let e : name_sort p.defs x ≡ Some s = ap (name_sort p.defs) same ∙ other in cc
]
value_misfits p t x there v holds (Some s) sort = earliest_same (Misfits p s v) (FormMisfits p (Set x there v))
    (misfit p t s v)
    (misfits p t s v holds)
    (λ at fault. inr (x, there, v, s, refl, sort, fault)) (λ at h. elim h [
      | inl (bs, is, found) ↦ cc
      | inr (y, place, w, r, is, other, fault) ↦ let same : x ≡ y = cc in let value : w ≡ v = cc in
          let e : Some r ≡ Some s = sym other ∙ ap (name_sort p.defs) (sym same) ∙ sort in
          let one : r ≡ s = cc in subst (λ r. Misfits p r v at) one (subst (λ w. Misfits p r w at) value fault)
    ])

form_misfits : (p : Program) (t : NameTable) (k : FormKind) → IsNameTable p t
    → IsEarliest (FormMisfits p k) (form_misfit p t k)
form_misfits p t (Set x there v) holds =
    rw (name_sorts p t x holds) (value_misfits p t x there v holds (name_sort p.defs x) refl)
form_misfits p t (Cond branches) holds =
    earliest_same (λ at. Found branches (λ (b : Branch). Misfits p IsBit b.guard at)) (FormMisfits p (Cond branches))
    (earliest (λ (b : Branch). misfit p t IsBit b.guard) branches)
    (in_list (λ (b : Branch) at. Misfits p IsBit b.guard at) (λ (b : Branch). misfit p t IsBit b.guard)
    (λ (b : Branch). misfits p t IsBit b.guard holds) branches)
    (λ at found. inl (branches, refl, found))
    (λ at h. elim h [
      | inl (bs, is, found) ↦ let same : branches ≡ bs = cc in
          subst (λ (l : List Branch). Found l (λ (b : Branch). Misfits p IsBit b.guard at)) (sym same) found
      | inr (y, place, w, r, is, other, fault) ↦ cc
    ])
form_misfits p t (Par forms) holds =
    λ at h. elim h [ inl (bs, is, found) ↦ cc | inr (y, place, w, r, is, other, fault) ↦ cc ]
form_misfits p t (Go l) holds =
    λ at h. elim h [ inl (bs, is, found) ↦ cc | inr (y, place, w, r, is, other, fault) ↦ cc ]
form_misfits p t (Call l) holds =
    λ at h. elim h [ inl (bs, is, found) ↦ cc | inr (y, place, w, r, is, other, fault) ↦ cc ]
form_misfits p t Return holds =
    λ at h. elim h [ inl (bs, is, found) ↦ cc | inr (y, place, w, r, is, other, fault) ↦ cc ]

-- an expression isn't of the sort that is wanted where it stands
abbrev pub WrongSort : Program → Place → Type 0
WrongSort p at = (e : ℕ) × (x : Expr) × (s other : Sort) × IsAt p.exprs e x × IsWanted p e (Some s)
    × (expr_sort p.defs x.kind ≡ Some other) × (s ≢ other) × (at ≡ x.place)

-- the same, by what the expression stands in
abbrev Standing : Program → Place → Type 0
Standing p at =
    Found p.exprs (λ (x : Expr). OperandMisfits p x.kind at) ⊎ Found p.forms (λ (y : Form). FormMisfits p y.kind at)

contains_at : {X : Type 0} (xs : List X) (x : X) → Contains xs x → Found xs (λ y. y ≡ x)
contains_at xs x has = let (k, at) = get_from_contains xs x has in (k, x, at, refl)

wanted_told : (p : Program) (at : Place) (s : Sort) (e : ℕ) → IsWanted p e (Some s) → Misfits p s e at → WrongSort p at
wanted_told p at s e wanted (x, other, there, sort, differs, is) = (e, x, s, other, there, wanted, sort, differs, is)

told : (p : Program) (at : Place) → Standing p at → WrongSort p at
told p at (inl (i, x, there, (op, k, args, is, (j, e, found, fault)))) =
    wanted_told p at (operand_sort op) e
    (inl (i, x, op, k, args, there, is, contains_from_get args j e found, refl)) fault
told p at (inr (f, y, there, inl (bs, is, (j, b, found, fault)))) =
    wanted_told p at IsBit b.guard (inr (inl (f, y, bs, there, is, guard bs b j found, refl))) fault
  where
    guard : (bs : List Branch) (b : Branch) (j : ℕ) → IsAt bs j b → Contains (map (λ (c : Branch). c.guard) bs) b.guard
    guard bs b j found =
        let (i, e, stands, same) = in_map (λ (c : Branch). c.guard) (λ e. e ≡ b.guard) bs (j, b, found, refl) in
        subst (Contains (map (λ (c : Branch). c.guard) bs)) same
        (contains_from_get (map (λ (c : Branch). c.guard) bs) i e stands)
told p at (inr (f, y, there, inr (x, place, v, s, is, sort, fault))) =
    wanted_told p at s v (inr (inr (f, y, x, place, there, is, sym sort))) fault

back : (p : Program) (at : Place) → WrongSort p at → Standing p at
back p at (e, x, s, other, there, wanted, sort, differs, is) =
    stands p at s e (x, other, there, sort, differs, is) wanted
  where
    guards : (p : Program) (at : Place) (e : ℕ) (bs : List Branch) → Misfits p IsBit e at
        → Contains (map (λ (c : Branch). c.guard) bs) e
        → Found bs (λ (b : Branch). Misfits p IsBit b.guard at)
    guards p at e bs fault has = of_map (λ (c : Branch). c.guard) (λ g. Misfits p IsBit g at) bs
        (let (k, g, found, same) = contains_at (map (λ (c : Branch). c.guard) bs) e has in
        (k, g, found, subst (λ g. Misfits p IsBit g at) (sym same) fault))

    stands : (p : Program) (at : Place) (s : Sort) (e : ℕ) → Misfits p s e at → IsWanted p e (Some s) → Standing p at
    stands p at s e fault (inl (i, y, op, k, args, there, kind, has, want)) = let (j, found) =
        get_from_contains args e has in
        inl (
          i,
          y,
          there,
          (
            op,
            k,
            args,
            kind,
            (j, e, found, subst (λ r. Misfits p r e at) (same_Some s (operand_sort op) want) fault),
          ),
        )
    stands p at s e fault (inr (inl (f, y, bs, there, kind, has, want))) =
        inr (
          f,
          y,
          there,
          inl
              (bs, kind, guards p at e bs (subst (λ r. Misfits p r e at) (same_Some s IsBit want) fault) has),
        )
    stands p at s e fault (inr (inr (f, y, name, place, there, kind, want))) =
        inr (f, y, there, inr (name, place, e, s, kind, sym want, fault))

pub earliest_wrong_sort : (p : Program) (t : NameTable) → IsNameTable p t
    → IsEarliest (WrongSort p) (earliest_misfit p t)
earliest_wrong_sort p t holds = earliest_same (Standing p) (WrongSort p) (earliest_misfit p t)
    (earliest_either (λ at. Found p.exprs (λ (x : Expr). OperandMisfits p x.kind at))
    (λ at. Found p.forms (λ (y : Form). FormMisfits p y.kind at))
    (earliest (λ (x : Expr). operand_misfit p t x.kind) p.exprs)
    (earliest (λ (y : Form). form_misfit p t y.kind) p.forms)
    (in_list (λ (x : Expr) at. OperandMisfits p x.kind at) (λ (x : Expr). operand_misfit p t x.kind)
    (λ (x : Expr). operand_misfits p t x.kind holds) p.exprs)
    (in_list (λ (y : Form) at. FormMisfits p y.kind at) (λ (y : Form). form_misfit p t y.kind)
    (λ (y : Form). form_misfits p t y.kind holds) p.forms)) (told p)
    (back p)
