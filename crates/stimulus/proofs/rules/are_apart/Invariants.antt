use Rattle.std.proofs.Common.{◌≡◌, ℕ, take, List}
use Rattle.std.specs.Borrow.{Bor}
use Rattle.std.specs.BTreeSet.{contains}
use Rattle.std.specs.Cmp.Lexicographic.{slice_cmp}
use Rattle.std.specs.Ordering.{nat_cmp}
use Rattle.stimulus.proofs.Apart.{AreApart, has_name}
use Rattle.stimulus.proofs.rules.are_apart.Given as goal

abbrev pub invariant-loop-word : goal.invariant-loop-word
invariant-loop-word l = record {
  apart : AreApart (take l.word-index l.words);
  seen : (q : Bor (List ℕ))
      → contains (λ x y. slice_cmp nat_cmp x.now y.now) l.names q ≡ has_name q.now (take l.word-index l.words);
}
