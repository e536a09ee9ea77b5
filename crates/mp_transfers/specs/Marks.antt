-- Marks of the forms of a process.
use Rattle.std.specs.Prelude.{◌≡◌, ◌⊎◌, ℕ, ◌<◌, ◌≤◌, List, length, Contains, slice_index}
use Rattle.mp_program.specs.declared.program.Program.{Program}
use Rattle.mp_rules.specs.Standing.{Under}
use Rattle.mp_transfers.specs.declared.marks.Span.{Span}

-- the forms have got this number, and nothing else has changed; the new end is behind them, and not before the old one
pub record IsMarking (forms : List ℕ) (number end : ℕ) (old new : List ℕ) (next : ℕ) : Type 0 where
  pub size : length new ≡ length old
  pub set : (f : ℕ) → Contains forms f → slice_index new f ≡ number
  pub kept : (f : ℕ) → (slice_index new f ≡ slice_index old f) ⊎ (Contains forms f × (slice_index new f ≡ number))
  pub behind : (f : ℕ) → Contains forms f → f < next
  pub grows : end ≤ next
  pub within : end ≤ length old → next ≤ length old

-- no form is below n
abbrev pub IsBelowAll : List ℕ → ℕ → Type 0
IsBelowAll forms n = (f : ℕ) → Contains forms f → n ≤ f

-- the forms that have this number, which no mark passes, are these and those in them, and all are in the span
pub record AreMarked (p : Program) (forms : List ℕ) (number : ℕ) (marks : List ℕ) (span : Span) : Type 0 where
  pub size : length marks ≡ length p.forms
  pub greatest : (f : ℕ) → slice_index marks f ≤ number
  pub sound : (f : ℕ) → slice_index marks f ≡ number → (r : ℕ) × Contains forms r × Under p r f
  pub complete : (r f : ℕ) → Contains forms r → Under p r f → slice_index marks f ≡ number
  pub spanned : (f : ℕ) → slice_index marks f ≡ number → (span.from ≤ f) × (f < span.end)
  pub inside : span.end ≤ length p.forms
