-- What an expression counts, by what its operands count.
use Rattle.std.proofs.Common.{◌≡◌, ℕ, ◌<◌, List, refl, ap, length}
use Rattle.std.specs.Prelude.{slice_get, slice_index_or, Some}
use Rattle.mp_base.proofs.Entries.{read_of}
use Rattle.mp_program.specs.Sound.{AllBetween}
use Rattle.mp_program.proofs.Tables.{table_at}
use Rattle.mp_written.specs.declared.program.ExprKind.{ExprKind}
use Rattle.mp_written.specs.declared.program.ExprKind.TheVariants.{Number, Named, True, False, Apply, Use}
use Rattle.mp_written.specs.declared.program.Arg.{Arg}
use Rattle.mp_written.specs.declared.program.Expr.{Expr}
use Rattle.mp_written.specs.Functions.{Function, function_index}
use Rattle.mp_written.specs.Tree.{operands}
use Rattle.mp_written.specs.Sound.{AreBehind}
use Rattle.mp_written.proofs.Pieces.{map_behind}
use Rattle.written_counts.specs.Counts.{Count, kind_count, count_in, no_count, sum_of, count_through}

count_behind : (m : ExprKind → ℕ) (fs : List Function) (counts : List Count) (args : List Arg) (i n : ℕ) (k : ExprKind)
    (g h : ℕ → Count) → ((j : ℕ) → i < j → g j ≡ h j) → AllBetween i n (operands k)
    → kind_count m fs counts args k g ≡ kind_count m fs counts args k h
count_behind m fs counts args i n (Number v) g h same fit = refl
count_behind m fs counts args i n (Named x) g h same fit = refl
count_behind m fs counts args i n True g h same fit = refl
count_behind m fs counts args i n False g h same fit = refl
count_behind m fs counts args i n (Apply op k os) g h same fit =
    ap (sum_of (m (Apply op k os))) (map_behind i n os g h (λ j lo hi. same j lo) fit)
count_behind m fs counts args i n (Use at x os) g h same fit =
    ap (count_through (slice_index_or counts (function_index fs x) no_count))
    (map_behind i n os g h (λ j lo hi. same j lo) fit)

-- what an expression counts, by what its operands count
pub count_is : (m : ExprKind → ℕ) (fs : List Function) (counts : List Count) (args : List Arg) (exprs : List Expr)
    → AreBehind exprs → (e : ℕ) (x : Expr) → slice_get exprs e ≡ Some x
    → count_in m fs counts args exprs e ≡ kind_count m fs counts args x.kind (count_in m fs counts args exprs)
count_is m fs counts args exprs sound e x at = let (lt, is) = read_of exprs e x at in
    table_at no_count (λ (y : Expr) c. kind_count m fs counts args y.kind c) exprs e x lt is
    (λ g h same. count_behind m fs counts args e (length exprs) x.kind g h same (sound e x at))
