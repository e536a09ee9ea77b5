-- How much the expressions count that an expression becomes, without making them: once for each function, with how
-- often each of its arguments occurs.
use Rattle.std.specs.Prelude.{ℕ, zero, suc, ◌+◌, ◌*◌, ◌==◌, List, [], ◌∷◌, ◌++◌, Option, Some, None, map, take}
use Rattle.std.specs.Prelude.{slice_get}
use Rattle.std.specs.Prelude.{slice_index_or, length, if◌then◌else◌}
use Rattle.std.specs.List.{sum_by}
use Rattle.mp_base.specs.Table.{table}
use Rattle.mp_written.specs.declared.program.ExprKind.{ExprKind}
use Rattle.mp_written.specs.declared.program.ExprKind.TheVariants.{Number, Named, True, False, Apply, Use}
use Rattle.mp_written.specs.declared.program.Arg.{Arg}
use Rattle.mp_written.specs.declared.program.Expr.{Expr}
use Rattle.mp_written.specs.declared.program.Program.{Program}
use Rattle.mp_written.specs.Functions.{Function, functions, function_index, arg_index}

-- what an expression counts beside its arguments, and how often each of these occurs
pub record Count : Type 0 where
  pub own : ℕ
  pub times : ℕ → ℕ

-- what isn't there
abbrev pub no_count : Count
no_count = record { own = 0; times = λ i. 0 }

-- a sum of products, from the factor at i on
abbrev pub weighed : (ℕ → ℕ) → ℕ → List ℕ → ℕ
weighed t i [] = 0
weighed t i (n ∷ ns) = t i * n + weighed t (suc i) ns

-- a name: an argument occurs once, any other counts n
abbrev pub one_of : Option ℕ → ℕ → Count
one_of (Some i) n = record { own = 0; times = λ j. if j == i then 1 else 0 }
one_of None n = record { own = n; times = λ j. 0 }

-- an operator that counts n, with operands of these counts
abbrev pub sum_of : ℕ → List Count → Count
sum_of n cs = record {
  own = n + sum_by (λ (c : Count). c.own) cs;
  times = λ i. sum_by (λ (c : Count). c.times i) cs;
}

-- a use of a function of this count, with operands of these
abbrev pub count_through : Count → List Count → Count
count_through f cs = record {
  own = f.own + weighed f.times 0 (map (λ (c : Count). c.own) cs);
  times = λ i. weighed f.times 0 (map (λ (c : Count). c.times i) cs);
}

-- the count of an expression of this kind, where c gives those of its operands; m says what each kind counts, and
-- counts those of the functions that may be used
abbrev pub kind_count : (ExprKind → ℕ) → List Function → List Count → List Arg → ExprKind → (ℕ → Count) → Count
kind_count m fs counts args (Number n) c = record { own = m (Number n); times = λ i. 0 }
kind_count m fs counts args (Named name) c = one_of (arg_index args name) (m (Named name))
kind_count m fs counts args True c = record { own = m True; times = λ i. 0 }
kind_count m fs counts args False c = record { own = m False; times = λ i. 0 }
kind_count m fs counts args (Apply op index os) c = sum_of (m (Apply op index os)) (map c os)
kind_count m fs counts args (Use at name os) c =
    count_through (slice_index_or counts (function_index fs name) no_count) (map c os)

-- the count of each expression
abbrev pub all_counts : (ExprKind → ℕ) → List Function → List Count → List Arg → List Expr → List Count
all_counts m fs counts args exprs = table no_count (λ (x : Expr) c. kind_count m fs counts args x.kind c) 0 exprs

-- the same of the expression at an index
abbrev pub count_in : (ExprKind → ℕ) → List Function → List Count → List Arg → List Expr → ℕ → Count
count_in m fs counts args exprs e = slice_index_or (all_counts m fs counts args exprs) e no_count

-- the count of a function's body, where these functions may be used
abbrev pub body_count : (ExprKind → ℕ) → List Expr → List Function → List Count → Option Function → Count
body_count m exprs fs counts (Some f) = count_in m fs counts f.args exprs f.body
body_count m exprs fs counts None = no_count

-- the counts of the first k functions: a body uses earlier functions alone
abbrev pub function_counts : (ExprKind → ℕ) → List Expr → List Function → ℕ → List Count
function_counts m exprs fs zero = []
function_counts m exprs fs (suc k) = function_counts m exprs fs k
    ++ body_count m exprs (take k fs) (function_counts m exprs fs k) (slice_get fs k) ∷ []

-- what the expression at an index counts, outside of bodies
abbrev pub counted : (ExprKind → ℕ) → Program → ℕ → ℕ
counted m w e =
    (count_in m (functions w) (function_counts m w.exprs (functions w) (length (functions w))) [] w.exprs e).own
