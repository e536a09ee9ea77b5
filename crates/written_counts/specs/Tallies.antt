-- Counts up to a cap, and how they are added up.
use Rattle.std.specs.Prelude.{◌≡◌, ◌≤◌, ◌<◌, ◌+◌, ◌*◌, ℕ, List, Option, Some, None, length, min, slice_index}
use Rattle.std.specs.Prelude.{slice_index_or}
use Rattle.mp_base.specs.Entries.{IsAt}
use Rattle.mp_written.specs.declared.program.ExprKind.{ExprKind}
use Rattle.mp_written.specs.declared.program.Expr.{Expr}
use Rattle.mp_written.specs.declared.program.Program.{Program}
use Rattle.mp_written.specs.Functions.{functions}
use Rattle.mp_written.specs.Sound.{Under}
use Rattle.mp_written.specs.Weight.{piece_weight}
use Rattle.written_meanings.specs.declared.meanings.Meaning.{Meaning}
use Rattle.written_meanings.specs.declared.meanings.Meanings.{Meanings}
use Rattle.written_meanings.specs.Meanings.{args_around, argument, usable, used}
use Rattle.written_counts.specs.declared.tally.Tally.{Tally}
use Rattle.written_counts.specs.declared.tally.Measure.{Measure}
use Rattle.written_counts.specs.declared.tally.Measure.TheVariants as measures
use Rattle.written_counts.specs.Counts.{Count, count_in, function_counts, no_count}

-- what an expression of a kind counts, beside its operands
abbrev pub cost : Measure → Program → ExprKind → ℕ
cost measures.Weight w kind = piece_weight w kind
cost measures.Number w kind = 1

-- how many functions may be used: in a body those before its own
abbrev pub usable_count : Program → Option ℕ → ℕ
usable_count w (Some k) = k
usable_count w None = length (functions w)

-- what expression e counts where it stands, in the body of a function or outside of bodies
abbrev pub count_at : Measure → Program → Option ℕ → ℕ → Count
count_at m w owner e =
    count_in (cost m w) (usable (functions w) owner)
    (function_counts (cost m w) w.exprs (functions w) (usable_count w owner))
    (args_around (functions w) owner) w.exprs e

-- a count, up to a cap
pub record IsTally (cap : ℕ) (c : Count) (t : Tally) : Type 0 where
  pub own : t.own ≡ min cap c.own
  pub times : (i : ℕ) → slice_index t.times i ≡ min cap (c.times i)

pub record IsCapped (cap : ℕ) (t : Tally) : Type 0 where
  pub own : t.own ≤ cap
  pub times : (i : ℕ) → slice_index t.times i ≤ cap

-- so many copies of a count were added, up to a cap
pub record Adds (cap copies : ℕ) (c : Count) (old new : Tally) : Type 0 where
  pub own : new.own ≡ min cap (old.own + copies * c.own)
  pub times : (i : ℕ) → slice_index new.times i ≡ min cap (slice_index old.times i + copies * c.times i)
  pub size : length new.times ≡ length old.times

-- the tallies of the first n functions
pub record AreTallies (m : Measure) (w : Program) (cap n : ℕ) (ts : List Tally) : Type 0 where
  pub size : length ts ≡ n
  pub each : (j : ℕ) (t : Tally) → IsAt ts j t
      → IsTally cap (slice_index_or (function_counts (cost m w) w.exprs (functions w) n) j no_count) t

-- what is meant at an expression that stands there
pub record IsScoped (w : Program) (owner : Option ℕ) (x : Expr) (n : Meaning) : Type 0 where
  pub argument : n.argument ≡ argument (args_around (functions w) owner) x.kind
  pub function : n.function ≡ used (usable (functions w) owner) x.kind

-- what each expression counts, beside its operands
pub record AreCosts (m : Measure) (w : Program) (costs : List ℕ) : Type 0 where
  pub size : length costs ≡ length w.exprs
  pub each : (d : ℕ) (x : Expr) → IsAt w.exprs d x → slice_index costs d ≡ cost m w x.kind

-- nothing is counted yet, in a body with so many arguments
pub record IsNothing (args : ℕ) (t : Tally) : Type 0 where
  pub own : t.own ≡ 0
  pub times : (i : ℕ) → slice_index t.times i ≡ 0
  pub size : length t.times ≡ args

-- all that is known where expression e is counted
pub record IsReady (m : Measure) (w : Program) (ms : Meanings) (cap : ℕ) (costs : List ℕ) (ts : List Tally)
    (owner : Option ℕ) (e : ℕ) : Type 0 where
  pub inside : e < length w.exprs
  pub as_many : length ms.exprs ≡ length w.exprs
  pub scoped : (d : ℕ) (x : Expr) (n : Meaning) → Under w.exprs e d → IsAt w.exprs d x → IsAt ms.exprs d n
      → IsScoped w owner x n
  pub costs_are : AreCosts m w costs
  pub within : usable_count w owner ≤ length (functions w)
  pub tallies : AreTallies m w cap (usable_count w owner) ts

-- a tally that may be added to: it has room for the arguments around
pub record IsOpen (cap : ℕ) (w : Program) (owner : Option ℕ) (t : Tally) : Type 0 where
  pub capped : IsCapped cap t
  pub room : length (args_around (functions w) owner) ≤ length t.times

-- expression e is of this kind
abbrev pub IsKind : Program → ℕ → ExprKind → Type 0
IsKind w e k = (x : Expr) × IsAt w.exprs e x × (x.kind ≡ k)
