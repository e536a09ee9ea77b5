-- Work in two stages: files are read and judged, and then a file is stored and a text is printed.
use Rattle.std.specs.Prelude.{ℕ, List, ⊤, Option, Some, None}
use Rattle.outside.specs.Outside.{Files}
use Rattle.outcome.specs.Order.{Fault}
use Rattle.outcome.specs.Work.{Work}

abbrev pub IsNoFault : Option Fault → Type 0
IsNoFault None = ⊤
IsNoFault (Some fault) = ⊥

-- the second stage: no fault is left, and bytes and a text of which this is true may be shown
abbrev pub second : Option (List ℕ) → (List ℕ → List ℕ → Type 0) → Work
second target Gives = record {
  First = λ files fault. IsNoFault fault;
  target = target;
  Shows = λ files chip text. Gives chip text;
}

-- the first stage found no fault, and what the second may show is what the work may show of these files
abbrev pub LeadsTo : Work → (List ℕ → List ℕ → Type 0) → Files → Type 0
LeadsTo work Gives files = work.First files None
    × ((chip text : List ℕ) → Gives chip text → work.Shows files chip text)
