-- What an expression becomes, by what its operands become.
use Rattle.std.proofs.Common.{◌≡◌, ◌∙◌, ℕ, ◌<◌, List, [], ◌∷◌, ◌++◌, refl, ap, length}
use Rattle.std.specs.Prelude.{map, slice_get, slice_index_or, Some, unwrap_or}
use Rattle.std.specs.List.{flat_map}
use Rattle.mp_base.proofs.Entries.{read_of}
use Rattle.mp_program.specs.Sound.{AllBetween}
use Rattle.mp_program.proofs.Tables.{table_at}
use Rattle.mp_written.specs.declared.program.ExprKind.{ExprKind}
use Rattle.mp_written.specs.declared.program.ExprKind.TheVariants.{Number, Named, True, False, Apply, Use}
use Rattle.mp_written.specs.declared.program.Expr.{Expr}
use Rattle.mp_written.specs.Functions.{function_index}
use Rattle.mp_written.specs.Sound.{AreBehind}
use Rattle.mp_written.specs.Tree.{operands}
use Rattle.mp_written.specs.Pieces.{Scope, kind_pieces, copied, pieces_in, nothing}

pub map_behind : {Y : Type 0} (i n : ℕ) (fs : List ℕ) (g h : ℕ → Y) → ((k : ℕ) → i < k → k < n → g k ≡ h k)
    → AllBetween i n fs → map g fs ≡ map h fs
map_behind i n [] g h same fit = refl
map_behind i n (f ∷ fs) g h same ((low, high), others) =
    ap (λ y. y ∷ map g fs) (same f low high) ∙ ap (λ ys. h f ∷ ys) (map_behind i n fs g h same others)

flat_behind : {Y : Type 0} (i n : ℕ) (fs : List ℕ) (g h : ℕ → List Y) → ((k : ℕ) → i < k → k < n → g k ≡ h k)
    → AllBetween i n fs → flat_map g fs ≡ flat_map h fs
flat_behind i n [] g h same fit = refl
flat_behind i n (f ∷ fs) g h same ((low, high), others) =
    ap (λ y. y ++ flat_map g fs) (same f low high) ∙ ap (λ ys. h f ++ ys) (flat_behind i n fs g h same others)

pieces_behind : (s : Scope) (y : Expr) (i n : ℕ) (k : ExprKind) (g h : ℕ → List Expr) → ((j : ℕ) → i < j → g j ≡ h j)
    → AllBetween i n (operands k) → kind_pieces s y k g ≡ kind_pieces s y k h
pieces_behind s y i n (Number v) g h same fit = refl
pieces_behind s y i n (Named x) g h same fit = refl
pieces_behind s y i n True g h same fit = refl
pieces_behind s y i n False g h same fit = refl
pieces_behind s y i n (Apply op k args) g h same fit =
    ap (λ ys. copied s y ++ ys) (flat_behind i n args g h (λ j lo hi. same j lo) fit)
pieces_behind s y i n (Use at x args) g h same fit =
    ap (λ ys. slice_index_or s.bodies (function_index s.functions x) nothing (unwrap_or s.outermost y.place) ys)
    (map_behind i n args g h (λ j lo hi. same j lo) fit)

-- what an expression becomes, by what its operands become
pub pieces_is : (s : Scope) (exprs : List Expr) → AreBehind exprs → (e : ℕ) (x : Expr) → slice_get exprs e ≡ Some x
    → pieces_in s exprs e ≡ kind_pieces s x x.kind (pieces_in s exprs)
pieces_is s exprs sound e x at = let (lt, is) = read_of exprs e x at in
    table_at [] (λ (y : Expr) v. kind_pieces s y y.kind v) exprs e x lt is
    (λ g h same. pieces_behind s x e (length exprs) x.kind g h same (sound e x at))
