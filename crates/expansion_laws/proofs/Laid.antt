-- Expressions that are laid out in the order of a walk: each index stands in one place, and behind what it stands in.
use Rattle.std.proofs.Common.{◌≡◌, ◌∙◌, ℕ, zero, suc, ◌+◌, ◌<◌, ◌≤◌, List, [], ◌∷◌, ◌++◌, refl, sym, ap, subst, arith, length}
use Rattle.std.proofs.Common.{take, drop, take-append-drop, length-append, length-drop, append_assoc}
use Rattle.std.specs.Prelude.{◌==◌, if◌then◌else◌, ⊤}
use Rattle.std.specs.List.{flat_map, range_with_len, AllByRecursion}
use Rattle.std.proofs.lemmas.Bool.{eqb-true}
use Rattle.mp_base.proofs.Induction.{by_test}
use Rattle.mp_program.specs.Tree.{operands}
use Rattle.mp_program.specs.declared.program.Expr as plain
use Rattle.mp_written.specs.declared.program.ExprKind.{ExprKind}
use Rattle.mp_written.specs.declared.program.ExprKind.TheVariants.{Number, Named, True, False, Apply, Use}
use Rattle.mp_written.specs.declared.program.Expr.{Expr}
use Rattle.mp_written.specs.Laying.{laid, laid_kind, arity}

-- ---- how often a number stands in a list

abbrev pub occurs : ℕ → List ℕ → ℕ
occurs n [] = 0
occurs n (x ∷ xs) = (if x == n then 1 else 0) + occurs n xs

pub occurs-append : (n : ℕ) (xs ys : List ℕ) → occurs n (xs ++ ys) ≡ occurs n xs + occurs n ys
occurs-append n [] ys = omega arith
occurs-append n (x ∷ xs) ys = let rest = occurs-append n xs ys in omega (arith, rest)

pub occurs-split : (n k : ℕ) (xs : List ℕ) → occurs n (take k xs) + occurs n (drop k xs) ≡ occurs n xs
occurs-split n k xs = sym (occurs-append n (take k xs) (drop k xs)) ∙ ap (occurs n) (take-append-drop k xs)

not_below : (n a k : ℕ) → n < a → occurs n (range_with_len a k) ≡ 0
not_below n a zero lt = refl
not_below n a (suc k) lt =
    let rest = not_below n (a + 1) k (omega (arith, lt)) in
    by_test (a == n) (λ yes. (let e = eqb-true a n yes in absurd (omega (arith, e, lt))))
    (λ no. ap (λ b. (if b then 1 else 0) + occurs n (range_with_len (a + 1) k)) no ∙ omega (arith, rest))

pub range_once : (n a k : ℕ) → occurs n (range_with_len a k) ≤ 1
range_once n a zero = omega arith
range_once n a (suc k) =
    by_test (a == n)
    (λ yes. (let e = eqb-true a n yes in
    let none = not_below n (a + 1) k (omega (arith, e)) in
    let split = ap (λ b. (if b then 1 else 0) + occurs n (range_with_len (a + 1) k)) yes in
    omega (arith, none, split)))
    (λ no. (let rest = range_once n (a + 1) k in
    let split = ap (λ b. (if b then 1 else 0) + occurs n (range_with_len (a + 1) k)) no in
    omega (arith, rest, split)))

-- ---- laid out

pub length-laid : (at : ℕ) (xs : List Expr) → length (laid at xs).exprs ≡ length xs
length-laid at [] = refl
length-laid at (x ∷ xs) = let rest = length-laid (at + 1) xs in omega (arith, rest)

abbrev pub args_of : List plain.Expr → List ℕ
args_of es = flat_map (λ (e : plain.Expr). operands e.kind) es

pub operands_taken : (k : ExprKind) (ts : List ℕ) → operands (laid_kind k ts) ≡ take (arity k) ts
operands_taken (Number n) ts = refl
operands_taken (Named x) ts = refl
operands_taken True ts = refl
operands_taken False ts = refl
operands_taken (Apply op k os) ts = refl
operands_taken (Use at x os) ts = refl

-- each index stands once: as an operand, or among those that stand in no other
pub laid_once : (n at : ℕ) (xs : List Expr)
    → occurs n (args_of (laid at xs).exprs) + occurs n (laid at xs).tops ≡ occurs n (range_with_len at (length xs))
laid_once n at [] = refl
laid_once n at (x ∷ xs) =
    let rest = laid_once n (at + 1) xs in
    let below = laid (at + 1) xs in
    let split = occurs-split n (arity x.kind) below.tops in
    let both = occurs-append n (operands (laid_kind x.kind below.tops)) (args_of below.exprs) in
    let taken = ap (occurs n) (operands_taken x.kind below.tops) in
    omega (arith, rest, split, both, taken)

-- those in no other are in range
abbrev pub Within : ℕ → ℕ → List ℕ → Type 0
Within a b ts = AllByRecursion (λ t. (a ≤ t) × (t < b)) ts

pub within_drop : (a b k : ℕ) (ts : List ℕ) → Within a b ts → Within a b (drop k ts)
within_drop a b zero ts h = h
within_drop a b (suc k) [] h = h
within_drop a b (suc k) (t ∷ ts) h = within_drop a b k ts h.1

pub within_take : (a b k : ℕ) (ts : List ℕ) → Within a b ts → Within a b (take k ts)
within_take a b zero ts h = tt
within_take a b (suc k) [] h = tt
within_take a b (suc k) (t ∷ ts) h = (h.0, within_take a b k ts h.1)

within_wider : (a b c d : ℕ) (ts : List ℕ) → c ≤ a → b ≤ d → Within a b ts → Within c d ts
within_wider a b c d [] low high h = tt
within_wider a b c d (t ∷ ts) low high h =
    let (l, r) = h.0 in ((omega (arith, low, l), omega (arith, high, r)), within_wider a b c d ts low high h.1)

pub tops_within : (at : ℕ) (xs : List Expr) → Within at (at + length xs) (laid at xs).tops
tops_within at [] = tt
tops_within at (x ∷ xs) =
    let rest = tops_within (at + 1) xs in
    let below = laid (at + 1) xs in (
      (omega arith, omega arith),
      within_wider (at + 1) (at + 1 + length xs) at (at + length (x ∷ xs)) (drop (arity x.kind) below.tops) (omega arith)
          (omega arith) (within_drop (at + 1) (at + 1 + length xs) (arity x.kind) below.tops rest),
    )

-- ---- whole: one that stands in no other, with as many operands behind each as it takes

pub length-tops : (a b : ℕ) (xs : List Expr) → length (laid a xs).tops ≡ length (laid b xs).tops
length-tops a b [] = refl
length-tops a b (x ∷ xs) =
    let rest = length-tops (a + 1) (b + 1) xs in
    let da = length-drop (arity x.kind) (laid (a + 1) xs).tops in
    let db = length-drop (arity x.kind) (laid (b + 1) xs).tops in
    omega (arith, rest, da, db)

abbrev pub Enough : List Expr → Type 0
Enough [] = ⊤
Enough (x ∷ xs) = (arity x.kind ≤ length (laid 0 xs).tops) × Enough xs

pub record IsWhole (xs : List Expr) : Type 0 where
  pub tops : (at : ℕ) (rest : List Expr) → (laid at (xs ++ rest)).tops ≡ at ∷ (laid (at + length xs) rest).tops
  pub enough : (rest : List Expr) → Enough rest → Enough (xs ++ rest)

pub leaf_whole : (x : Expr) → arity x.kind ≡ 0 → IsWhole (x ∷ [])
leaf_whole x none = record {
  tops = λ at rest. ap (λ k. at ∷ drop k (laid (at + 1) rest).tops) none;
  enough = λ rest h. (omega (arith, none), h);
}

-- words one after another, each of which is whole
abbrev pub begins : ℕ → List (List Expr) → List ℕ
begins at [] = []
begins at (v ∷ vs) = at ∷ begins (at + length v) vs

abbrev pub joined : List (List Expr) → List Expr
joined vs = flat_map (λ (v : List Expr). v) vs

pub tops_joined : (vs : List (List Expr)) → AllByRecursion IsWhole vs → (at : ℕ) (rest : List Expr)
    → (laid at (joined vs ++ rest)).tops ≡ begins at vs ++ (laid (at + length (joined vs)) rest).tops
tops_joined [] h at rest = ap (λ k. (laid k rest).tops) (let e : at ≡ at + 0 = omega arith in e)
tops_joined (v ∷ vs) h at rest =
    let apart : (v ++ joined vs) ++ rest ≡ v ++ (joined vs ++ rest) = append_assoc v (joined vs) rest in
    let long : at + length v + length (joined vs) ≡ at + length (v ++ joined vs) =
    omega (arith, length-append v (joined vs)) in
    ap (λ ys. (laid at ys).tops) apart ∙ (h.0).tops at (joined vs ++ rest)
    ∙ ap (λ ts. at ∷ ts) (tops_joined vs h.1 (at + length v) rest
    ∙ ap (λ k. begins (at + length v) vs ++ (laid k rest).tops) long)

pub enough_joined : (vs : List (List Expr)) → AllByRecursion IsWhole vs → (rest : List Expr) → Enough rest
    → Enough (joined vs ++ rest)
enough_joined [] h rest e = e
enough_joined (v ∷ vs) h rest e =
    subst Enough (sym (append_assoc v (joined vs) rest)) ((h.0).enough (joined vs ++ rest) (enough_joined vs h.1 rest e))

length-begins : (at : ℕ) (vs : List (List Expr)) → length (begins at vs) ≡ length vs
length-begins at [] = refl
length-begins at (v ∷ vs) = let rest = length-begins (at + length v) vs in omega (arith, rest)

drop_front : (xs ys : List ℕ) (k : ℕ) → k ≡ length xs → drop k (xs ++ ys) ≡ ys
drop_front [] ys zero e = refl
drop_front [] ys (suc k) e = absurd (omega (arith, e))
drop_front (x ∷ xs) ys zero e = absurd (omega (arith, e))
drop_front (x ∷ xs) ys (suc k) e = drop_front xs ys k (omega (arith, e))

-- an operator with as many whole operands as it takes
pub node_whole : (x : Expr) (vs : List (List Expr)) → arity x.kind ≡ length vs → AllByRecursion IsWhole vs
    → IsWhole (x ∷ joined vs)
node_whole x vs as_many h = record { tops = tops_are; enough = enough_are }
  where
    tops_are : (at : ℕ) (rest : List Expr)
        → (laid at ((x ∷ joined vs) ++ rest)).tops ≡ at ∷ (laid (at + length (x ∷ joined vs)) rest).tops
    tops_are at rest =
        let behind = tops_joined vs h (at + 1) rest in
        let k : arity x.kind ≡ length (begins (at + 1) vs) = as_many ∙ sym (length-begins (at + 1) vs) in
        let far : at + 1 + length (joined vs) ≡ at + length (x ∷ joined vs) = omega arith in
        ap (λ ts. at ∷ drop (arity x.kind) ts) behind
        ∙ ap (λ ts. at ∷ ts) (drop_front (begins (at + 1) vs) (laid (at + 1 + length (joined vs)) rest).tops _ k)
        ∙ ap (λ j. at ∷ (laid j rest).tops) far

    enough_are : (rest : List Expr) → Enough rest → Enough ((x ∷ joined vs) ++ rest)
    enough_are rest e =
        let behind = ap length (tops_joined vs h 0 rest) in
        let many = length-append (begins 0 vs) (laid (0 + length (joined vs)) rest).tops in
        let long = length-begins 0 vs in
        (omega (arith, behind, many, long, as_many), enough_joined vs h rest e)
