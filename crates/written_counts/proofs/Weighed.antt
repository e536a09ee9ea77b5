-- The expansion weighs, and has as many expressions, as is counted without making it.
use Rattle.std.proofs.Common.{◌≡◌, ◌∙◌, ℕ, ◌+◌, ◌<◌, List, [], ◌∷◌, refl, sym, arith, length}
use Rattle.std.specs.Prelude.{Contains, ◌==◌}
use Rattle.std.specs.List.{list_any, sum_by, range_with_len}
use Rattle.std.proofs.lemmas.List.Sums.{sum_by-cons}
use Rattle.mp_base.proofs.Contents.{contains_head, contains_behind, contains_from_filter}
use Rattle.mp_base.proofs.Members.{contains_member, range_members}
use Rattle.mp_base.proofs.Ranges.{ones}
use Rattle.mp_written.specs.declared.program.ExprKind.{ExprKind}
use Rattle.mp_written.specs.declared.program.Expr.{Expr}
use Rattle.mp_written.specs.declared.program.Program.{Program}
use Rattle.mp_written.specs.Pieces.{pieces}
use Rattle.mp_written.specs.Expansion.{form_exprs, tops, all_pieces}
use Rattle.mp_written.specs.Weight.{piece_weight, frame_weight, weight}
use Rattle.mp_written.proofs.Soundness.{sound}
use Rattle.written_counts.specs.Counts.{counted}
use Rattle.written_counts.specs.Totals.{total}
use Rattle.written_counts.proofs.Sums.{sum_flat}
use Rattle.written_counts.proofs.Counted.{counted_is}

sum_on : (f g : ℕ → ℕ) (xs : List ℕ) → ((x : ℕ) → Contains xs x → f x ≡ g x) → sum_by f xs ≡ sum_by g xs
sum_on f g [] same = refl
sum_on f g (x ∷ xs) same =
    let rest = sum_on f g xs (λ y c. same y (contains_behind y x xs c)) in
    let here = same x (contains_head x xs) in
    omega (arith, rest, here, sum_by-cons f x xs, sum_by-cons g x xs)

-- guards and values are expressions
tops_within : (w : Program) (v : ℕ) → Contains (tops w) v → v < length w.exprs
tops_within w v c =
    let test : ℕ → _ = λ e. list_any (λ u. u == e) (form_exprs w.forms) in
    let in_range = (contains_from_filter test (range_with_len 0 (length w.exprs)) v c).0 in
    let bounds = range_members 0 (length w.exprs) v (contains_member (range_with_len 0 (length w.exprs)) v in_range) in
    omega (arith, bounds.1)

pub pieces_counted : (m : ExprKind → ℕ) (w : Program) (e : ℕ) → e < length w.exprs
    → total m (pieces w e) ≡ counted m w e
pieces_counted m w e lt = counted_is m w (sound w).behind (λ k f at. ((sound w).defs k f at).body) e lt

pub all_counted : (m : ExprKind → ℕ) (w : Program) → total m (all_pieces w) ≡ sum_by (λ v. counted m w v) (tops w)
all_counted m w =
    let flat = sum_flat (λ (x : Expr). m x.kind) (pieces w) (tops w) in
    let each = sum_on (λ v. total m (pieces w v)) (λ v. counted m w v) (tops w)
    (λ v c. pieces_counted m w v (tops_within w v c)) in
    flat ∙ each

pub weight_counted : (w : Program) → weight w ≡ frame_weight w + sum_by (λ v. counted (piece_weight w) w v) (tops w)
weight_counted w = let all = all_counted (piece_weight w) w in omega (arith, all)

pub length_counted : (w : Program) → length (all_pieces w) ≡ sum_by (λ v. counted (λ k. 1) w v) (tops w)
length_counted w = sym (ones (all_pieces w)) ∙ all_counted (λ k. 1) w
