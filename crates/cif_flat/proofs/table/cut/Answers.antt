use Rattle.std.proofs.Common.{ℕ, ◌≡◌, ◌<◌, ◌≤◌, ◌∙◌, ap, arith, true, false}
use Rattle.std.specs.Ordering.{nat_cmp, is_gt}
use Rattle.std.specs.BTreeMap.{is_at}
use Rattle.std.specs.Map.{lookup}
use Rattle.std.proofs.lemmas.Bool.Decides.{nat_tests}
use Rattle.std.proofs.lemmas.Map.Entries.{lookup-filter-keys}
use Rattle.cif_flat.proofs.table.cut.Goals as goal

kept : (n k : ℕ) → k < n → (x : ℕ) → is_at (nat_cmp k) x ≡ true → is_gt (nat_cmp n x) ≡ true
kept n k h x e = grind (arith, nat_tests)

gone : (n k : ℕ) → n ≤ k → (x : ℕ) → is_at (nat_cmp k) x ≡ true → is_gt (nat_cmp n x) ≡ false
gone n k h x e = grind (arith, nat_tests)

pub returns-clause-below : goal.returns-clause-below
returns-clause-below g c = λ k h.
    ap (lookup (is_at (nat_cmp k))) c.in_ok-split_off.ensures.below
    ∙ lookup-filter-keys (is_at (nat_cmp k)) (λ x. is_gt (nat_cmp c.args.number x)) true
    (kept c.args.number k h) c.args.table.now.entries

pub returns-clause-above : goal.returns-clause-above
returns-clause-above g c = λ k h.
    ap (lookup (is_at (nat_cmp k))) c.in_ok-split_off.ensures.below
    ∙ lookup-filter-keys (is_at (nat_cmp k)) (λ x. is_gt (nat_cmp c.args.number x)) false
    (gone c.args.number k h) c.args.table.now.entries
