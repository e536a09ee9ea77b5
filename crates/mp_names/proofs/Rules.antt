-- The earliest places where the rules of names are broken.
use Rattle.std.proofs.Common.{◌≡◌, ◌≢◌, ◌⊎◌, ℕ, ◌≤◌, List, Bool, true, not, ◌&&◌, refl, sym, ap, ◌∙◌, subst, inl, inr}
use Rattle.std.proofs.Common.{arith, Option, is_some}
use Rattle.std.proofs.lemmas.Bool.{cases_eq, cases_lt, and_parts, and_from, or_cases, or_left, or_right}
use Rattle.mp_base.specs.declared.refusal.Place.{Place}
use Rattle.mp_program.specs.declared.program.Def.{Def}
use Rattle.mp_program.specs.declared.program.Process.{Process}
use Rattle.mp_program.specs.declared.program.Form.{Form}
use Rattle.mp_program.specs.declared.program.Program.{Program}
use Rattle.mp_program.specs.Names.{is_same}
use Rattle.mp_program.proofs.Definitions.{is_same_of, same_is}
use Rattle.mp_base.specs.Entries.{IsAt}
use Rattle.mp_rules.specs.Rules.{E20, E21, E22, E27, is_unset}
use Rattle.mp_rules.specs.Naming.{Naming, namings, def_naming, process_naming, is_reserved, Uses}
use Rattle.mp_rules.specs.Breaking.{IsEarliest, earlier_of}
use Rattle.name_meanings.specs.declared.named.Named.{Named}
use Rattle.name_meanings.specs.declared.table.NameTable.{NameTable}
use Rattle.mp_names.specs.declared.uses.Misuse.{Misuse}
use Rattle.mp_names.specs.declared.uses.Misuse.TheVariants.{Undefined, OfProcess, OfUnset}
use Rattle.name_meanings.specs.Named.{named_of, least_offset, second_offset}
use Rattle.name_meanings.specs.Table.{IsNameTable, known}
use Rattle.mp_names.specs.Finding.{earliest}
use Rattle.mp_names.specs.Misuse.{is_misuse, target_misuse, earliest_misuse}
use Rattle.mp_names.specs.Repeats.{is_up_to, is_repeated, repeated_def, repeated_process, RepeatsSupply}
use Rattle.mp_names.specs.Sorting.{earliest_misfit}
use Rattle.mp_names.proofs.Entries.{Found, any_found, found_any, Passing}
use Rattle.mp_names.proofs.Earliest.{when, in_list}
use Rattle.mp_rules.proofs.EarliestPlaces.{earliest_same, earliest_either}
use Rattle.mp_names.proofs.Misuses.{Misuses, misuses, TargetMisuses, target_misuses}
use Rattle.mp_names.proofs.Sorting.{WrongSort, earliest_wrong_sort}
use Rattle.mp_names.proofs.Naming.{no_offset, an_offset, TwoUpTo, two_found, found_two, has_name, of_namings}
use Rattle.mp_names.proofs.Naming.{in_namings}

-- whether a name is misused, in a program's words
misused : (p : Program) (t : NameTable) (w : Misuse) (x : List ℕ) → IsNameTable p t
    → is_misuse w (known t x) ≡ is_misuse w (named_of p x)
misused p t w x holds = ap (is_misuse w) (holds.names x)

clash : (b : Bool) → b ≡ true → not b ≡ true → ⊥
clash b e f = cc

pub earliest_undefined : (p : Program) (t : NameTable) → IsNameTable p t
    → IsEarliest (E21 p) (earliest_misuse t Undefined p)
earliest_undefined p t holds = earliest_same (Misuses p t Undefined) (E21 p)
    (earliest_misuse t Undefined p)
    (misuses p t Undefined)
    (λ at (x, uses, bad). (
      x,
      uses,
      λ k n there same.
          clash (is_some (least_offset (namings p) x)) (an_offset (namings p) x (k, n, there, same))
          (sym (misused p t Undefined x holds) ∙ bad),
    )) (λ at (x, uses, none). (x, uses, misused p t Undefined x holds ∙ ap not (no_offset (namings p) x none)))

pub earliest_unset : (p : Program) (t : NameTable) → IsNameTable p t
    → IsEarliest (E27 p) (earliest (λ (y : Form). target_misuse t OfUnset y.kind) p.forms)
earliest_unset p t holds = earliest_same (λ at. Found p.forms (λ (y : Form). TargetMisuses t OfUnset y.kind at)) (E27 p)
    (earliest (λ (y : Form). target_misuse t OfUnset y.kind) p.forms)
    (in_list (λ (y : Form). TargetMisuses t OfUnset y.kind) (λ (y : Form). target_misuse t OfUnset y.kind)
    (λ (y : Form). target_misuses t OfUnset y.kind) p.forms)
    (λ at (f, y, there, (x, v, is, bad)).
    let (d, z, found, passes) =
    any_found (λ (d : Def). is_same d.name x && is_unset d.what) p.defs (sym (misused p t OfUnset x holds) ∙ bad) in
    let parts = and_parts (is_same z.name x) (is_unset z.what) passes in
    (f, y, x, v, d, z, there, is, found, same_is z.name x parts.0, parts.1))
    (λ at (f, y, x, v, d, z, there, is, found, same, unset). (
      f,
      y,
      there,
      (
        x,
        v,
        is,
        misused p t OfUnset x holds
            ∙ found_any (λ (d : Def). is_same d.name x && is_unset d.what) p.defs
            (d, z, found, and_from (is_same z.name x) (is_unset z.what) (is_same_of z.name x same) unset),
      ),
    ))

-- a name is reserved, or another that has it does not stand after it
abbrev Repeated : NameTable → Naming → Place → Type 0
Repeated t n at = (is_repeated t n.name n.place ≡ true) × (at ≡ n.place)

def_repeated : (t : NameTable) (d : Def)
    → IsEarliest (λ at. Passing has_name (λ (b : Def). Repeated t (def_naming b) at) d) (repeated_def t d)
def_repeated t d =
    earliest_same (λ at. ((has_name d && is_repeated t d.name d.place) ≡ true) × (at ≡ d.place))
    (λ at. Passing has_name (λ (b : Def). Repeated t (def_naming b) at) d)
    (repeated_def t d)
    (when (has_name d && is_repeated t d.name d.place) d.place)
    (λ at (passes, is). let parts = and_parts (has_name d) (is_repeated t d.name d.place) passes in
    (parts.0, (parts.1, is))) (λ at (named, (repeated, is)).
    (and_from (has_name d) (is_repeated t d.name d.place) named repeated, is))

-- a name in the namings of a program is repeated
abbrev RepeatsName : Program → Place → Type 0
RepeatsName p at = (k : ℕ) × (n : Naming) × IsAt (namings p) k n × (at ≡ n.place)
    × ((is_reserved n.name ≡ true)
    ⊎ ((j : ℕ) × (m : Naming) × IsAt (namings p) j m × (j ≢ k) × (m.name ≡ n.name)
    × ((m.place).offset ≤ (n.place).offset)))

second_of : (p : Program) (t : NameTable) (x : List ℕ) → IsNameTable p t
    → (known t x).second ≡ second_offset (namings p) x
second_of p t x holds = ap (λ (n : Named). n.second) (holds.names x)

-- another naming of a name
abbrev Another : List Naming → ℕ → List ℕ → ℕ → Type 0
Another ns k x at = (j : ℕ) × (m : Naming) × IsAt ns j m × (j ≢ k) × (m.name ≡ x) × ((m.place).offset ≤ at)

another : (ns : List Naming) (k : ℕ) (x : List ℕ) (at : ℕ) → TwoUpTo ns x at → Another ns k x at
another ns k x at (i, j, a, b, first, second, lt, here, there) = elim (cases_eq i k) [
  | inl same ↦ (j, b, second, (λ e. omega (arith, e, same, lt)), there.0, there.1)
  | inr apart ↦ (i, a, first, apart, here.0, here.1)
]

two : (ns : List Naming) (k : ℕ) (n : Naming) (at : ℕ) → IsAt ns k n → (n.place).offset ≤ at → Another ns k n.name at
    → TwoUpTo ns n.name at
two ns k n at there le (j, m, found, apart, same, low) = elim (cases_lt j k) [
  | inl lt ↦ (j, k, m, n, found, there, lt, (same, low), (refl, le))
  | inr ge ↦ (k, j, n, m, there, found, omega (arith, ge, apart), (refl, le), (same, low))
]

abbrev DefsRepeat : NameTable → Place → Def → Type 0
DefsRepeat t at = Passing has_name (λ (d : Def). Repeated t (def_naming d) at)

abbrev ProcessesRepeat : NameTable → Place → Process → Type 0
ProcessesRepeat t at q = Repeated t (process_naming q) at

earliest_name : (p : Program) (t : NameTable) → IsNameTable p t
    → IsEarliest (RepeatsName p)
    (earlier_of (earliest (repeated_def t) p.defs) (earliest (repeated_process t) p.processes))
earliest_name p t holds =
    earliest_same (λ at. Found p.defs (DefsRepeat t at) ⊎ Found p.processes (ProcessesRepeat t at)) (RepeatsName p)
    (earlier_of (earliest (repeated_def t) p.defs) (earliest (repeated_process t) p.processes))
    (earliest_either (λ at. Found p.defs (DefsRepeat t at)) (λ at. Found p.processes (ProcessesRepeat t at))
    (earliest (repeated_def t) p.defs) (earliest (repeated_process t) p.processes)
    (in_list (λ (d : Def) at. DefsRepeat t at d) (repeated_def t) (def_repeated t) p.defs)
    (in_list (λ (q : Process) at. ProcessesRepeat t at q) (repeated_process t)
    (λ (q : Process). when (is_repeated t q.name q.place) q.place) p.processes))
    told
    back
  where
    told : (at : Place) → Found p.defs (DefsRepeat t at) ⊎ Found p.processes (ProcessesRepeat t at) → RepeatsName p at
    told at h = let (k, n, found, (repeated, is)) = in_namings p (λ (n : Naming). Repeated t n at) h in (
      k,
      n,
      found,
      is,
      elim (or_cases (is_reserved n.name) (is_up_to (known t n.name).second (n.place).offset) repeated) [
        | inl taken ↦ inl taken
        | inr below ↦
            inr (another (namings p) k n.name (n.place).offset
            (two_found (namings p) n.name (n.place).offset (rw (← second_of p t n.name holds) below)))
      ],
    )

    back : (at : Place) → RepeatsName p at → Found p.defs (DefsRepeat t at) ⊎ Found p.processes (ProcessesRepeat t at)
    back at (k, n, found, is, why) = of_namings p (λ (n : Naming). Repeated t n at) (
      k,
      n,
      found,
      (
        elim why [
          | inl taken ↦ or_left (is_reserved n.name) (is_up_to (known t n.name).second (n.place).offset) taken
          | inr other ↦ or_right (is_reserved n.name) (is_up_to (known t n.name).second (n.place).offset)
              (rw (second_of p t n.name holds)
              (found_two (namings p) n.name (n.place).offset
              (two (namings p) k n (n.place).offset found (omega arith) other)))
        ],
        is,
      ),
    )

-- the name of a process is used
abbrev UsesProcess : Program → Place → Type 0
UsesProcess p at = (k : ℕ) × (q : Process) × IsAt p.processes k q × Uses p q.name at

earliest_process : (p : Program) (t : NameTable) → IsNameTable p t
    → IsEarliest (UsesProcess p) (earliest_misuse t OfProcess p)
earliest_process p t holds = earliest_same (Misuses p t OfProcess) (UsesProcess p)
    (earliest_misuse t OfProcess p)
    (misuses p t OfProcess)
    (λ at (x, uses, bad). let (k, q, there, same) =
    any_found (λ (q : Process). is_same q.name x) p.processes (sym (misused p t OfProcess x holds) ∙ bad) in
    (k, q, there, subst (λ y. Uses p y at) (sym (same_is q.name x same)) uses)) (λ at (k, q, there, uses). (
      q.name,
      uses,
      misused p t OfProcess q.name holds
          ∙ found_any (λ (r : Process). is_same r.name q.name) p.processes (k, q, there, is_same_of q.name q.name refl),
    ))

pub earliest_wrong : (p : Program) (t : NameTable) → IsNameTable p t
    → IsEarliest (E22 p) (earlier_of (earliest_misfit p t) (earliest_misuse t OfProcess p))
earliest_wrong p t holds = earliest_either (WrongSort p) (UsesProcess p) (earliest_misfit p t)
    (earliest_misuse t OfProcess p)
    (earliest_wrong_sort p t holds) (earliest_process p t holds)

-- the earliest name that is repeated, or second definition of a supply
pub earliest_repeated : (p : Program) (t : NameTable) (s : Option Place) → IsNameTable p t
    → IsEarliest (RepeatsSupply p.defs) s
    → IsEarliest (E20 p)
    (earlier_of (earlier_of (earliest (repeated_def t) p.defs) (earliest (repeated_process t) p.processes)) s)
earliest_repeated p t s holds supply =
    earliest_either (RepeatsName p) (RepeatsSupply p.defs)
    (earlier_of (earliest (repeated_def t) p.defs) (earliest (repeated_process t) p.processes)) s
    (earliest_name p t holds) supply
