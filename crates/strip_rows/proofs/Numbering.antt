-- Strips begin, one by one.
use Rattle.std.proofs.Common.{◌≡◌, ℕ, ◌<◌, ◌+◌, inl, inr, List, [], ◌∷◌, ◌++◌, length, set, arith, ap, sym, ◌∙◌}
use Rattle.std.proofs.Common.{length-set, get_or-set_same, get_or-set_other}
use Rattle.std.proofs.lemmas.Bool.{cases_eq}
use Rattle.std.proofs.lemmas.List.{get_or_append_left, get_or_push, length_push}
use Rattle.mask_runs.specs.declared.run.Run.{Run}
use Rattle.strip_rows.specs.declared.strip.Strip.{Strip}
use Rattle.strip_rows.specs.Strips.{no_strip}
use Rattle.strip_rows.specs.Missing.{run, AreApart}
use Rattle.strip_rows.specs.Steps.{begun_at, HaveBegun}
use Rattle.strip_rows.proofs.Merging.{further}

pub begun_more : (fresh : List Run) (n row : ℕ) (old mid now : List Strip) (old_numbers numbers next : List ℕ) (v : ℕ)
    → AreApart fresh
    → n < length fresh → HaveBegun fresh n row old mid old_numbers numbers
    → now ≡ mid ++ begun_at row (run fresh n) ∷ []
    → v ≡ length mid → (run fresh n).left < length numbers → next ≡ set numbers (run fresh n).left v
    → HaveBegun fresh (n + 1) row old now old_numbers next
begun_more fresh n row old mid now old_numbers numbers next v up inside w e f l g = let many = w.as_many in record {
  as_many = let p = ap length e ∙ length_push mid (begun_at row (run fresh n)) in omega arith;
  kept = λ k h. rw e (get_or_append_left mid (begun_at row (run fresh n) ∷ []) no_strip k (omega arith) ∙ w.kept k h);
  begun = λ k h. elim (cases_eq k n) [
    | inl s ↦ rw (e, s) (get_or_push mid (begun_at row (run fresh n)) no_strip (length old + n) (omega arith))
    | inr ne ↦
        rw e (get_or_append_left mid (begun_at row (run fresh n) ∷ []) no_strip (length old + k) (omega arith)
        ∙ w.begun k (omega arith))
  ];
  cells = ap length g ∙ length-set numbers (run fresh n).left v ∙ w.cells;
  given = λ k h. elim (cases_eq k n) [
    | inl s ↦ rw (g, s) (get_or-set_same numbers (run fresh n).left v 0 l ∙ f ∙ many)
    | inr ne ↦ let u = further fresh k n up (omega arith) inside in
        rw g (get_or-set_other numbers (run fresh n).left (run fresh k).left v 0 (λ z. let y = z in omega arith)
        ∙ w.given k (omega arith))
  ];
  others =
      λ c h. rw g
      (get_or-set_other numbers (run fresh n).left c v 0 (λ z. h n (omega arith) (sym z))
      ∙ w.others c (λ k b. h k (omega arith)));
}
