-- What an expansion weighs is the weight that is stated of the program as it is written.
use Rattle.std.proofs.Common.{◌≡◌, ◌∙◌, ℕ, ◌+◌, ◌*◌, ◌≤◌, List, [], ◌∷◌, ◌++◌, refl, ap, arith, length}
use Rattle.std.proofs.Common.{length-take-le}
use Rattle.std.specs.Prelude.{map, slice_index_or, if◌then◌else◌}
use Rattle.std.specs.List.{flat_map, AllByRecursion, sum_by, count_by}
use Rattle.std.proofs.Math.Path.{fun_ext}
use Rattle.std.proofs.lemmas.List.Sums.{sum_by-cons}
use Rattle.mp_base.specs.Table.{table}
use Rattle.mp_program.specs.Weight as plain_weight
use Rattle.mp_program.specs.Weight.{form_weight, is_set_of, is_call, inner, op_weight, names_constant, def_weight, expr_weight}
use Rattle.mp_program.specs.declared.program.Branch.{Branch}
use Rattle.mp_program.specs.declared.program.FormKind.{FormKind}
use Rattle.mp_program.specs.declared.program.FormKind.TheVariants.{Set, Cond, Par, Go, Call, Return}
use Rattle.mp_program.specs.declared.program.Form.{Form}
use Rattle.mp_program.specs.declared.program.Def as plain_def
use Rattle.mp_program.specs.declared.program.Expr as plain_expr
use Rattle.mp_program.specs.declared.program.Program as plain_program
use Rattle.mp_written.specs.declared.program.ExprKind.{ExprKind}
use Rattle.mp_written.specs.declared.program.ExprKind.TheVariants.{Number, Named, True, False, Apply, Use}
use Rattle.mp_written.specs.declared.program.Expr.{Expr}
use Rattle.mp_written.specs.declared.program.Program.{Program}
use Rattle.mp_written.specs.Functions.{plain_defs}
use Rattle.mp_written.specs.Laying.{laid, laid_kind, arity}
use Rattle.mp_written.specs.Expansion.{start, all_pieces, IsExpansion, moved, moved_branch, moved_form}
use Rattle.mp_written.specs.Weight.{piece_weight, sets_of, calls_in, process_weight, weight}
use Rattle.expansion_laws.proofs.Laid.{Enough, length-tops, length-laid}
use Rattle.expansion_laws.proofs.ClosedClaims.{FitsKind, length-map}
use Rattle.mp_written.proofs.Tables.{table_same, table_mapped}
use Rattle.expansion_laws.proofs.Places.{enough, fitting}
use Rattle.expansion_laws.specs.Lawful.{IsLawfulProgram}

sum_map : {X Y : Type 0} (v : Y → ℕ) (f : X → Y) (xs : List X) → sum_by v (map f xs) ≡ sum_by (λ x. v (f x)) xs
sum_map v f [] = refl
sum_map v f (x ∷ xs) = let rest = sum_map v f xs in
    omega (arith, rest, sum_by-cons v (f x) (map f xs), sum_by-cons (λ y. v (f y)) x xs)

same_sum : {X : Type 0} (f g : X → ℕ) (xs : List X) → ((x : X) → f x ≡ g x) → sum_by f xs ≡ sum_by g xs
same_sum f g [] same = refl
same_sum f g (x ∷ xs) same =
    let rest = same_sum f g xs same in let here = same x in
    omega (arith, rest, here, sum_by-cons f x xs, sum_by-cons g x xs)

-- ---- expressions

kind_weighs : (w : Program) (p : plain_program.Program) → p.defs ≡ plain_defs w → (k : ExprKind) (ts : List ℕ) → FitsKind k
    → arity k ≤ length ts → expr_weight p (laid_kind k ts) ≡ piece_weight w k
kind_weighs w p defs (Number n) ts fit le = refl
kind_weighs w p defs (Named x) ts fit le = ap (λ ds. if names_constant ds x then 1 else 0) defs
kind_weighs w p defs True ts fit le = refl
kind_weighs w p defs False ts fit le = refl
kind_weighs w p defs (Apply op k os) ts fit le = ap (op_weight op) (length-take-le (length os) ts le)
kind_weighs w p defs (Use at x os) ts fit le = absurd fit

laid_weighs : (w : Program) (p : plain_program.Program) → p.defs ≡ plain_defs w → (at : ℕ) (xs : List Expr) → Enough xs
    → AllByRecursion (λ (x : Expr). FitsKind x.kind) xs
    → sum_by (λ (e : plain_expr.Expr). expr_weight p e.kind) (laid at xs).exprs
    ≡ sum_by (λ (x : Expr). piece_weight w x.kind) xs
laid_weighs w p defs at [] many fit = refl
laid_weighs w p defs at (x ∷ xs) many fit =
    let below = laid (at + 1) xs in
    let rest = laid_weighs w p defs (at + 1) xs many.1 fit.1 in
    let le = many.0 in
    let same = length-tops 0 (at + 1) xs in
    let here = kind_weighs w p defs x.kind below.tops fit.0 (omega (arith, le, same)) in
    let e : plain_expr.Expr = record { place = x.place; kind = laid_kind x.kind below.tops } in
    omega (
      arith,
      rest,
      here,
      sum_by-cons (λ (y : plain_expr.Expr). expr_weight p y.kind) e below.exprs,
      sum_by-cons (λ (y : Expr). piece_weight w y.kind) x xs,
    )

-- ---- forms

form_weighs : (go : ℕ → ℕ) (k : FormKind) → form_weight (moved go k) ≡ form_weight k
form_weighs go (Set x at v) = refl
form_weighs go (Cond bs) = ap (λ n. 1 + 4 * n) (length-map (moved_branch go) bs)
form_weighs go (Par fs) = refl
form_weighs go (Go l) = refl
form_weighs go (Call l) = refl
form_weighs go Return = refl

set_same : (go : ℕ → ℕ) (x : List ℕ) (k : FormKind) → is_set_of x (moved go k) ≡ is_set_of x k
set_same go x (Set y at v) = refl
set_same go x (Cond bs) = refl
set_same go x (Par fs) = refl
set_same go x (Go l) = refl
set_same go x (Call l) = refl
set_same go x Return = refl

bodies_same : (go : ℕ → ℕ) (bs : List Branch)
    → flat_map (λ (b : Branch). b.body) (map (moved_branch go) bs) ≡ flat_map (λ (b : Branch). b.body) bs
bodies_same go [] = refl
bodies_same go (b ∷ bs) = ap (λ ys. b.body ++ ys) (bodies_same go bs)

calls_same : (go : ℕ → ℕ) (k : FormKind) (v : ℕ → ℕ)
    → is_call (moved go k) + sum_by v (inner (moved go k)) ≡ is_call k + sum_by v (inner k)
calls_same go (Set y at u) v = refl
calls_same go (Cond bs) v = ap (λ fs. 0 + sum_by v fs) (bodies_same go bs)
calls_same go (Par fs) v = refl
calls_same go (Go l) v = refl
calls_same go (Call l) v = refl
calls_same go Return v = refl

module _ (w : Program) (p : plain_program.Program) (law : IsLawfulProgram w) (expands : IsExpansion w p) where
  forms_weigh : sum_by (λ (f : Form). form_weight f.kind) p.forms ≡ sum_by (λ (f : Form). form_weight f.kind) w.forms
  forms_weigh = ap (sum_by (λ (f : Form). form_weight f.kind)) expands.forms
      ∙ sum_map (λ (f : Form). form_weight f.kind) (moved_form (start w)) w.forms
      ∙ same_sum _ (λ (f : Form). form_weight f.kind) w.forms (λ f. form_weighs (start w) f.kind)

  sets_same : (x : List ℕ) → plain_weight.sets_of p x ≡ sets_of w x
  sets_same x = ap (count_by (λ (f : Form). is_set_of x f.kind)) expands.forms
      ∙ sum_map (λ (f : Form). if is_set_of x f.kind then 1 else 0) (moved_form (start w)) w.forms
      ∙ same_sum _ (λ (f : Form). if is_set_of x f.kind then 1 else 0) w.forms
      (λ f. ap (λ b. if b then 1 else 0) (set_same (start w) x f.kind))

  calls_are : (f : ℕ) → plain_weight.calls_in p f ≡ calls_in w f
  calls_are f = ap (λ t. slice_index_or t f 0)
      (ap (λ fs. table 0 (λ (x : Form) v. is_call x.kind + sum_by v (inner x.kind)) 0 fs) expands.forms
      ∙ table_mapped 0 (λ (x : Form) v. is_call x.kind + sum_by v (inner x.kind)) (moved_form (start w)) 0 w.forms
      ∙ table_same 0 _ (λ (x : Form) v. is_call x.kind + sum_by v (inner x.kind)) 0 w.forms
      (λ x v. calls_same (start w) x.kind v))

  processes_weigh : sum_by (plain_weight.process_weight p) p.processes ≡ sum_by (process_weight w) w.processes
  processes_weigh = ap (sum_by (plain_weight.process_weight p)) expands.processes
      ∙ same_sum (plain_weight.process_weight p) (process_weight w) w.processes
      (λ q. ap (λ c. 10 + 10 * length q.forms + 10 * q.depth * sum_by c q.forms) (fun_ext calls_are))

  defs_weigh : sum_by (λ (d : plain_def.Def). def_weight d.what (plain_weight.sets_of p d.name)) p.defs
      ≡ sum_by (λ (d : plain_def.Def). def_weight d.what (sets_of w d.name)) (plain_defs w)
  defs_weigh = ap (sum_by (λ (d : plain_def.Def). def_weight d.what (plain_weight.sets_of p d.name))) expands.defs
      ∙ same_sum _ (λ (d : plain_def.Def). def_weight d.what (sets_of w d.name)) (plain_defs w)
      (λ d. ap (def_weight d.what) (sets_same d.name))

  -- the weight of the expansion, as it is stated for rule E44
  pub expansion_weighs : plain_weight.weight p ≡ weight w
  expansion_weighs =
      let exprs = ap (sum_by (λ (e : plain_expr.Expr). expr_weight p e.kind)) expands.exprs
      ∙ laid_weighs w p expands.defs 0 (all_pieces w) (enough w law) (fitting w law) in
      omega (arith, exprs, forms_weigh, processes_weigh, defs_weigh)

  -- and its number of expressions, for rule E45
  pub expansion_counts : length p.exprs ≡ length (all_pieces w)
  expansion_counts = ap length expands.exprs ∙ length-laid 0 (all_pieces w)
