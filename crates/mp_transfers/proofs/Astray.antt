-- Forms that go to labels that aren't there.
use Rattle.std.proofs.Common.{◌≡◌, ◌⊎◌, inl, inr, ℕ, ◌<◌, ◌≤◌, List, arith, Option}
use Rattle.std.specs.Prelude.{slice_index}
use Rattle.mp_base.specs.declared.refusal.Place.{Place}
use Rattle.mp_program.specs.declared.program.Form.{Form}
use Rattle.mp_program.specs.declared.program.Label.{Label}
use Rattle.mp_program.specs.declared.program.Process.{Process}
use Rattle.mp_program.specs.declared.program.Program.{Program}
use Rattle.mp_base.specs.Entries.{IsAt}
use Rattle.mp_rules.specs.Standing.{StandsIn}
use Rattle.mp_rules.specs.Breaking.{IsEarliest}
use Rattle.mp_rules.specs.Rules.{E28}
use Rattle.mp_transfers.specs.declared.marks.Span.{Span}
use Rattle.mp_transfers.specs.Labels.{IsAstray}
use Rattle.mp_transfers.specs.Marks.{AreMarked}
use Rattle.mp_transfers.proofs.Earliest.{Upto, InAny}
use Rattle.mp_rules.proofs.EarliestPlaces.{earliest_same}

-- at is the place of the form f, which is y, is marked and in a span, and goes to a label that isn't among these
abbrev pub StraysAt : Span → List ℕ → ℕ → List Label → ℕ → Form → Place → Type 0
StraysAt span marks number labels f y at =
    (span.from ≤ f) × (f < span.end) × (slice_index marks f ≡ number) × IsAstray labels y.kind × (at ≡ y.place)

-- a form in the process has this place, and goes to a label that it hasn't
abbrev pub IsUnknown : Program → Process → Place → Type 0
IsUnknown p q at = (f : ℕ) × (y : Form) × StandsIn p q.forms f y × IsAstray q.labels y.kind × (at ≡ y.place)

-- the forms in a span
pub astray_all : (p : Program) (P : Place → Type 0) (span : Span) (marks : List ℕ) (number : ℕ) (labels : List Label)
    (i : ℕ) (found : Option Place)
    → Upto P p.forms (StraysAt span marks number labels) i found → span.end ≤ i
    → IsEarliest
    (λ at. P at
    ⊎ ((f : ℕ) × (y : Form) × (span.from ≤ f) × (f < span.end) × (slice_index marks f ≡ number) × IsAt p.forms f y
    × IsAstray labels y.kind × (at ≡ y.place))) found
astray_all p P span marks number labels i found u le = earliest_same _ _ found u.earliest
    (λ at there. elim there [
      | inl h ↦ inl h
      | inr (f, y, lt, is, (from, end, mark, astray, e)) ↦ inr (f, y, from, end, mark, is, astray, e)
    ])
    (λ at there. elim there [
      | inl h ↦ inl h
      | inr (f, y, from, end, mark, is, astray, e) ↦
          inr (f, y, omega (arith, end, le), is, (from, end, mark, astray, e))
    ])

-- the marked forms are those of the process
pub unknown_in : (p : Program) (q : Process) (span : Span) (marks : List ℕ) (number : ℕ) (P : Place → Type 0)
    (found : Option Place) → AreMarked p q.forms number marks span
    → IsEarliest
    (λ at. P at
    ⊎ ((f : ℕ) × (y : Form) × (span.from ≤ f) × (f < span.end) × (slice_index marks f ≡ number) × IsAt p.forms f y
    × IsAstray q.labels y.kind × (at ≡ y.place))) found
    → IsEarliest (λ at. P at ⊎ IsUnknown p q at) found
unknown_in p q span marks number P found m h = earliest_same _ (λ at. P at ⊎ IsUnknown p q at) found h
    (λ at there. elim there [
      | inl x ↦ inl x
      | inr (f, y, from, end, mark, is, astray, e) ↦
          (let (r, c, u) = m.sound f mark in inr (f, y, (r, c, u, is), astray, e))
    ])
    (λ at there. elim there [
      | inl x ↦ inl x
      | inr (f, y, (r, c, u, is), astray, e) ↦
          (let mark = m.complete r f c u in let (from, end) = m.spanned f mark in
          inr (f, y, from, end, mark, is, astray, e))
    ])

-- rule E28, from its processes
pub unknown_broken : (p : Program) (found : Option Place)
    → IsEarliest (λ at. ⊥ ⊎ InAny p.processes (λ k (q : Process) at. IsUnknown p q at) at) found
    → IsEarliest (E28 p) found
unknown_broken p found h =
    earliest_same (λ at. ⊥ ⊎ InAny p.processes (λ k (q : Process) at. IsUnknown p q at) at) (E28 p) found h
    (λ at there. elim there [
      | inl n ↦ absurd n
      | inr (k, q, is, (f, y, stands, (l, named, none), e)) ↦ (k, q, f, y, l, is, stands, named, none, e)
    ])
    (λ at (k, q, f, y, l, is, stands, named, none, e). inr (k, q, is, (f, y, stands, (l, named, none), e)))
