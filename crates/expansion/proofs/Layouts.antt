-- Stacks from the right, and what is laid out with them.
use Rattle.std.proofs.Common.{◌≡◌, ◌∙◌, ℕ, zero, suc, ◌+◌, ◌<◌, ◌≤◌, List, [], ◌∷◌, ◌++◌, refl, sym, ap}
use Rattle.std.proofs.Common.{arith, length, map, take, drop, reverse}
use Rattle.std.specs.Prelude.{slice_get, slice_index_or}
use Rattle.std.specs.List.{AllByRecursion}
use Rattle.std.proofs.lemmas.List.{reverse-append}
use Rattle.mp_base.proofs.Lists.{head_of, tail_of}
use Rattle.mp_program.specs.declared.program.Expr as plain_expr
use Rattle.mp_program.specs.declared.program.ExprKind as plain_kind
use Rattle.mp_written.specs.declared.program.Expr.{Expr}
use Rattle.mp_written.specs.Laying.{arity, laid, laid_kind}
use Rattle.expansion.specs.declared.item.Piece.{Piece}
use Rattle.expansion.specs.Templates.{kind_at}
use Rattle.expansion.specs.Walking.{piece_of}

-- one more of a list
pub take_one : {X : Type 0} (xs : List X) (k : ℕ) (x : X) (rest : List X) → x ∷ rest ≡ drop k xs
    → (take (suc k) xs ≡ take k xs ++ x ∷ []) × (rest ≡ drop (suc k) xs)
take_one [] zero x rest e = absurd (cc)
take_one [] (suc k) x rest e = absurd (cc)
take_one (y ∷ ys) zero x rest e =
    let first : x ≡ y = head_of e in
    (ap (λ z. z ∷ take zero ys) (sym first), tail_of e)
take_one (y ∷ ys) (suc k) x rest e =
    let (front, behind) = take_one ys k x rest e in (ap (λ zs. y ∷ zs) front, behind)

-- nothing more
pub take_no : {X : Type 0} (xs : List X) (k : ℕ) → [] ≡ drop k xs
    → (take (suc k) xs ≡ take k xs) × ([] ≡ drop (suc k) xs)
take_no [] zero e = (refl, refl)
take_no [] (suc k) e = (refl, refl)
take_no (y ∷ ys) zero e = absurd (cc)
take_no (y ∷ ys) (suc k) e = let (front, behind) = take_no ys k e in (ap (λ zs. y ∷ zs) front, behind)

pub reverse_last : {X : Type 0} (xs : List X) (x : X) → reverse (xs ++ x ∷ []) ≡ x ∷ reverse xs
reverse_last xs x = reverse-append xs (x ∷ [])

-- what is left of a list that is mapped
pub drop_map : {X Y : Type 0} (f : X → Y) (xs : List X) (k : ℕ) (d : X) → k < length xs
    → drop k (map f xs) ≡ f (slice_index_or xs k d) ∷ drop (suc k) (map f xs)
drop_map f [] k d lt = absurd (omega (arith, lt))
drop_map f (x ∷ xs) zero d lt = refl
drop_map f (x ∷ xs) (suc k) d lt = drop_map f xs k d (omega (arith, lt))

pub drop_past : {X : Type 0} (xs : List X) (k : ℕ) → length xs ≤ k → drop k xs ≡ []
drop_past [] zero le = refl
drop_past [] (suc k) le = refl
drop_past (x ∷ xs) zero le = absurd (omega (arith, le))
drop_past (x ∷ xs) (suc k) le = drop_past xs k (omega (arith, le))

-- ---- operands from a stack, whose top is the last

pub popped_some : (all old new operands more : List ℕ) (j x : ℕ) → old ≡ new ++ x ∷ [] → operands ≡ take j all
    → reverse old ≡ drop j all → more ≡ operands ++ x ∷ []
    → (more ≡ take (j + 1) all) × (reverse new ≡ drop (j + 1) all)
popped_some all old new operands more j x popped taken left pushed =
    let next : j + 1 ≡ suc j = omega arith in
    let (front, behind) = take_one all j x (reverse new) (sym (reverse_last new x) ∙ ap reverse (sym popped)
    ∙ left) in (
      pushed ∙ ap (λ ys. ys ++ x ∷ []) taken ∙ sym front ∙ ap (λ k. take k all) (sym next),
      behind ∙ ap (λ k. drop k all) (sym next),
    )

pub popped_none : (all old new operands : List ℕ) (j : ℕ) → old ≡ [] → new ≡ [] → operands ≡ take j all
    → reverse old ≡ drop j all → (operands ≡ take (j + 1) all) × (reverse new ≡ drop (j + 1) all)
popped_none all old new operands j empty still taken left =
    let next : j + 1 ≡ suc j = omega arith in
    let (front, behind) = take_no all j (ap reverse (sym empty) ∙ left) in (
      taken ∙ sym front ∙ ap (λ k. take k all) (sym next),
      ap reverse still ∙ behind ∙ ap (λ k. drop k all) (sym next),
    )

-- ---- one expression more

-- an expression before those that are laid out, where the tops are on a stack
pub laid_more : (exprs : List Expr) (ps : List Piece) (i : ℕ) (none : Piece) (backward more : List plain_expr.Expr)
    (stack left longer : List ℕ) (kind : plain_kind.ExprKind) → i < length ps
    → reverse backward ≡ (laid (i + 1) (drop (i + 1) (map (piece_of exprs) ps))).exprs
    → reverse stack ≡ (laid (i + 1) (drop (i + 1) (map (piece_of exprs) ps))).tops
    → kind ≡ laid_kind (kind_at (slice_get exprs (slice_index_or ps i none).expr)) (reverse stack)
    → reverse left ≡ drop (arity (kind_at (slice_get exprs (slice_index_or ps i none).expr))) (reverse stack)
    → more ≡ backward ++ record { place = (slice_index_or ps i none).place; kind = kind } ∷ []
    → longer ≡ left ++ i ∷ []
    → (reverse more ≡ (laid i (drop i (map (piece_of exprs) ps))).exprs)
    × (reverse longer ≡ (laid i (drop i (map (piece_of exprs) ps))).tops)
laid_more exprs ps i none backward more stack left longer kind lt are tops is kept pushed put =
    let p = slice_index_or ps i none in
    let next : i + 1 ≡ suc i = omega arith in
    let rest = drop (i + 1) (map (piece_of exprs) ps) in
    let here : drop i (map (piece_of exprs) ps) ≡ piece_of exprs p ∷ rest =
    drop_map (piece_of exprs) ps i none lt ∙ ap (λ k. piece_of exprs p ∷ drop k (map (piece_of exprs) ps)) (sym next) in
    let k = kind_at (slice_get exprs p.expr) in (
      ap reverse pushed
          ∙ reverse_last backward (record { place = p.place; kind = kind })
          ∙ ap (λ q. record { place = p.place; kind = q } ∷ reverse backward) (is ∙ ap (laid_kind k) tops)
          ∙ ap (λ ys. record { place = p.place; kind = laid_kind k (laid (i + 1) rest).tops } ∷ ys) are
          ∙ ap (λ xs. (laid i xs).exprs) (sym here),
      ap reverse put
          ∙ reverse_last left i
          ∙ ap (λ ys. i ∷ ys) (kept ∙ ap (drop (arity k)) tops)
          ∙ ap (λ xs. (laid i xs).tops) (sym here),
    )

pub piece_inside : (n : ℕ) (ps : List Piece) (i : ℕ) (none : Piece) → AllByRecursion (λ (p : Piece). p.expr < n) ps
    → i < length ps → (slice_index_or ps i none).expr < n
piece_inside n [] i none all lt = absurd (omega (arith, lt))
piece_inside n (p ∷ ps) zero none all lt = all.0
piece_inside n (p ∷ ps) (suc i) none all lt = piece_inside n ps i none all.1 (omega (arith, lt))
