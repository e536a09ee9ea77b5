-- A test of runs, one by one.
use Rattle.std.proofs.Common.{◌≡◌, ℕ, ◌<◌, ◌≤◌, ◌+◌, inl, inr, List, length, arith}
use Rattle.std.proofs.lemmas.Bool.{cases_eq}
use Rattle.std.proofs.lemmas.List.{get_or_default}
use Rattle.std.proofs.lemmas.List.Elements.{All-from_get_or}
use Rattle.mask_runs.specs.declared.run.Run.{Run}
use Rattle.strip_rows.specs.Changes.{LieInRow}
use Rattle.strip_rows.specs.Missing.{run, no_run}

-- the first n runs lie in the row, and end by that cell
pub record LieUpto (cells : ℕ) (runs : List Run) (n last : ℕ) : Type 0 where
  pub wide : (k : ℕ) → k < n → (run runs k).left < (run runs k).right
  pub within : (k : ℕ) → k < n → (run runs k).right ≤ cells
  pub by : (k : ℕ) → k < n → (run runs k).right ≤ last
  pub ascending : (j k : ℕ) → j < k → k < n → (run runs j).right ≤ (run runs k).left

pub lie_more : (cells : ℕ) (runs : List Run) (n last : ℕ) → LieUpto cells runs n last → last ≤ (run runs n).left
    → (run runs n).left < (run runs n).right
    → (run runs n).right ≤ cells → LieUpto cells runs (n + 1) (run runs n).right
lie_more cells runs n last w a b c = record {
  wide = λ k h. elim (cases_eq k n) [ inl e ↦ rw e b | inr f ↦ w.wide k (omega arith) ];
  within = λ k h. elim (cases_eq k n) [ inl e ↦ rw e c | inr f ↦ w.within k (omega arith) ];
  by = λ k h. elim (cases_eq k n) [ inl e ↦ rw e (omega arith) | inr f ↦ let g = w.by k (omega arith) in omega arith ];
  ascending = λ j k l h. elim (cases_eq k n) [
    | inl e ↦ let g = w.by j (omega arith) in rw e (omega arith)
    | inr f ↦ w.ascending j k l (omega arith)
  ];
}

pub lie_all : (cells : ℕ) (runs : List Run) (n last : ℕ) → n ≡ length runs → LieUpto cells runs n last
    → LieInRow cells runs
lie_all cells runs n last e w = record {
  wide = All-from_get_or (λ r. r.left < r.right) runs no_run (λ k h. w.wide k (omega arith));
  within = All-from_get_or (λ r. r.right ≤ cells) runs no_run (λ k h. w.within k (omega arith));
  ascending =
      λ j k d l h. rw (get_or_default runs j d no_run (omega arith), get_or_default runs k d no_run h)
      (w.ascending j k l (omega arith));
}
