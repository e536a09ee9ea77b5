-- Turns of cells and expressions.
use Rattle.std.proofs.Common.{◌≡◌, ℕ, zero, suc, ◌+◌, ◌<◌, ◌≤◌, ◌⊎◌, inl, inr, List, [], ◌∷◌, ◌++◌, Some, length, take}
use Rattle.std.proofs.Common.{get_or, max, refl, sym, ◌∙◌, ap, subst, arith, length-append, replicate}
use Rattle.std.specs.Prelude.{All, Contains, slice_set, slice_index, slice_index_or}
use Rattle.std.proofs.lemmas.Bool.{cases_lt, cases_eq}
use Rattle.std.proofs.lemmas.List.{get_or_append_left, get_or_push, length-replicate, length-set, take_more}
use Rattle.std.proofs.lemmas.List.Elements.{Contains-get_or, Contains-append_left, Contains-push, Contains-push_cases}
use Rattle.std.proofs.lemmas.Option.{get_or_from_slice_get, slice_get-get_or}
use Rattle.mp_base.proofs.Induction.{upward}
use Rattle.mp_base.proofs.Entries.{get_set_same, one_entry, some_entry, within, zeros_at}
use Rattle.rtl_form.specs.declared.rtl.RtlExpr.{RtlExpr}
use Rattle.rtl_form.specs.declared.rtl.RtlExpr.TheVariants as exprs
use Rattle.rtl_form.specs.declared.rtl.Rtl.{Rtl}
use Rattle.mp_base.specs.Entries.{IsAt}
use Rattle.rtl_form.specs.Sound.{ExprFits, IsSound, ReadsCell, itself, inside}
use Rattle.task_schedule.specs.Turns.{AreCellTurns, AreExprTurns, IsExprTurn, IsLatest}

-- an element's index, whatever is read past the end
pub index_at : (xs : List ℕ) (k x : ℕ) → k < length xs → x ≡ slice_index_or xs k x → x ≡ slice_index xs k
index_at xs k x l e =
    sym (get_or_from_slice_get xs k x 0 (slice_get-get_or xs k x l ∙ ap Some (sym e)))

none_latest : (turns : List ℕ) → IsLatest turns [] 0
none_latest turns = record { bound = λ a h. absurd (let l = h.1 in omega (arith, l)); reached = inl refl }

-- one more argument
pub latest_more : (turns args : List ℕ) (i d last : ℕ) → i < length args → IsLatest turns (take i args) last
    → IsLatest turns (take (i + 1) args) (max last (slice_index turns (get_or args i d)))
latest_more turns args i d last l h =
    subst (λ xs. IsLatest turns xs (max last (slice_index turns (get_or args i d)))) (sym (take_more args i d l))
    (record {
      bound = λ a c. elim (Contains-push_cases (take i args) (get_or args i d) a c) [
        | inl q ↦ let b = h.bound a q in omega (arith, b)
        | inr q ↦ let b = ap (slice_index turns) q in omega (arith, b)
      ];
      reached = elim (cases_lt last (slice_index turns (get_or args i d))) [
        | inl m ↦ inr (get_or args i d, Contains-push (take i args) (get_or args i d), omega (arith, m))
        | inr m ↦ elim h.reached [
          | inl z ↦ inl (omega (arith, m, z))
          | inr q ↦ let e = q.2 in
              inr (q.0, Contains-append_left (take i args) (get_or args i d ∷ []) q.0 q.1, omega (arith, e, m))
        ]
      ];
    })

-- ---- turns of cells

pub no_turns : (r : Rtl) (turns : List ℕ) → turns ≡ replicate (length r.cells) 0 → AreCellTurns r 0 turns
no_turns r turns e = record {
  count = ap length e ∙ length-replicate (length r.cells) 0;
  placed = λ p l. absurd (omega arith);
  only = λ c. inl (ap (λ xs. slice_index xs c) e ∙ zeros_at (length r.cells) c);
}

read_same : (xs : List ℕ) (k x : ℕ) → k < length xs → slice_index (slice_set xs k x) k ≡ x
read_same xs k x l = get_or_from_slice_get (slice_set xs k x) k x 0 (get_set_same xs k x l)

read_other : (xs : List ℕ) (k x n : ℕ) → (n ≡ k → ⊥) → slice_index (slice_set xs k x) n ≡ slice_index xs n
read_other [] k x n ne = refl
read_other (y ∷ xs) zero x zero ne = absurd (ne refl)
read_other (y ∷ xs) zero x (suc n) ne = refl
read_other (y ∷ xs) (suc k) x zero ne = refl
read_other (y ∷ xs) (suc k) x (suc n) ne = read_other xs k x n (λ q. ne (omega arith))

pub cell_in : (r : Rtl) → IsSound r → (p : ℕ) → p < length r.order → slice_index r.order p < length r.cells
cell_in r sound p l = within r.cells (slice_index r.order p) (sound.order.driven p l).1

pub cell_turns_more : (r : Rtl) → IsSound r → (p : ℕ) (turns : List ℕ) → p < length r.order → AreCellTurns r p turns
    → AreCellTurns r (p + 1) (slice_set turns (slice_index r.order p) (p + 1))
cell_turns_more r sound p turns l h = record {
  count = length-set turns (slice_index r.order p) (p + 1) ∙ h.count;
  placed = λ q m. elim (cases_eq q p) [
    | inl e ↦ ap (λ n. slice_index (slice_set turns (slice_index r.order p) (p + 1)) (slice_index r.order n)) e
        ∙ (read_same turns (slice_index r.order p) (p + 1) inside_turns ∙ omega (arith, e))
    | inr ne ↦ read_other turns (slice_index r.order p) (p + 1) (slice_index r.order q)
        (λ e. sound.order.once q p (omega arith) l e) ∙ h.placed q (omega arith)
  ];
  only = λ c. elim (cases_eq c (slice_index r.order p)) [
    | inl e ↦ inr (
      p,
      omega arith,
      sym e,
      ap (slice_index (slice_set turns (slice_index r.order p) (p + 1))) e
          ∙ (read_same turns (slice_index r.order p) (p + 1) inside_turns ∙ omega arith),
    )
    | inr ne ↦ elim (h.only c) [
      | inl z ↦ inl (read_other turns (slice_index r.order p) (p + 1) c ne ∙ z)
      | inr q ↦ let m = q.1 in
          inr (q.0, omega (arith, m), q.2, read_other turns (slice_index r.order p) (p + 1) c ne ∙ q.3)
    ]
  ];
}
  where
    inside_turns : slice_index r.order p < length turns
    inside_turns = let c = cell_in r sound p l in let n = h.count in omega (arith, c, n)

-- ---- turns of expressions

pub args_below : (r : Rtl) → IsSound r → (e : ℕ) (x : RtlExpr) → IsAt r.exprs e x
    → (op : Rattle.mp_base.specs.declared.op.Op.Op) (k : ℕ) (args : List ℕ) → x ≡ exprs.Apply op k args
    → All (λ a. a < e) args
args_below r sound e x at op k args is i d l =
    let f : ExprFits r e (exprs.Apply op k args) = subst (ExprFits r e) is (sound.exprs e x at) in
    (f.2 (get_or args i d) (Contains-get_or args i d l)).0

kept_latest : (turns args : List ℕ) (y t : ℕ) → ((a : ℕ) → Contains args a → a < length turns) → IsLatest turns args t
    → IsLatest (turns ++ y ∷ []) args t
kept_latest turns args y t below h = record {
  bound = λ a c. let k = get_or_append_left turns (y ∷ []) 0 a (below a c) in
      let b = h.bound a c in omega (arith, k, b);
  reached = elim h.reached [
    | inl z ↦ inl z
    | inr q ↦ inr (q.0, q.1, get_or_append_left turns (y ∷ []) 0 q.0 (below q.0 q.1) ∙ q.2)
  ];
}

pub no_expr_turns : (r : Rtl) (cells : List ℕ) → AreExprTurns r cells 0 []
no_expr_turns r cells = record { count = refl; each = λ e x l at. absurd (omega arith) }

pub expr_turns_more : (r : Rtl) → IsSound r → (cells : List ℕ) (n t : ℕ) (x : RtlExpr) (turns : List ℕ)
    → IsAt r.exprs n x
    → AreExprTurns r cells n turns → IsExprTurn cells turns x t → AreExprTurns r cells (n + 1) (turns ++ t ∷ [])
expr_turns_more r sound cells n t x turns at h is = record {
  count = let a = length-append turns (t ∷ []) in let c = h.count in omega (arith, a, c);
  each = λ e y l there. elim (cases_eq e n) [
    | inl same ↦ subst (IsExprTurn cells (turns ++ t ∷ []) y)
        (sym (ap (slice_index (turns ++ t ∷ [])) (same ∙ sym h.count) ∙ get_or_push turns t 0 (length turns) refl))
        (kept e y t there (omega arith) (subst (λ z. IsExprTurn cells turns z t)
        (one_entry r.exprs e x y (subst (λ m. IsAt r.exprs m x) (sym same) at) there) is))
    | inr ne ↦ subst (IsExprTurn cells (turns ++ t ∷ []) y)
        (sym (get_or_append_left turns (t ∷ []) 0 e (let c = h.count in omega (arith, c, l))))
        (kept e y (slice_index turns e) there (omega arith) (h.each e y (omega arith) there))
  ];
}
  where
    kept : (e : ℕ) (y : RtlExpr) (u : ℕ) → IsAt r.exprs e y → e < n + 1 → IsExprTurn cells turns y u
        → IsExprTurn cells (turns ++ t ∷ []) y u
    kept e (exprs.Number m) u there l q = q
    kept e (exprs.Truth b) u there l q = q
    kept e (exprs.Cell c) u there l q = q
    kept e (exprs.Apply op k args) u there l q =
        kept_latest turns args t u (λ a c. let f = (sound.exprs e (exprs.Apply op k args) there).2 a c in
        let b = f.0 in let m = h.count in omega (arith, b, m, l)) q

-- ---- what a turn says

module _ (r : Rtl) (sound : IsSound r) (cells turns : List ℕ) (cell_turns : AreCellTurns r (length r.order) cells)
    (expr_turns : AreExprTurns r cells (length r.exprs) turns) where
  -- an expression of a later turn reads the cell before it
  abbrev pub Tight : ℕ → Type 0
  Tight e = e < length r.exprs → (slice_index turns e ≡ 0)
      ⊎ ((p : ℕ) × (p < length r.order) × (slice_index turns e ≡ suc p) × ReadsCell r.exprs (slice_index r.order p) e)

  by_expr : (e : ℕ) (x : RtlExpr) → IsAt r.exprs e x → ((j : ℕ) → j < e → Tight j)
      → IsExprTurn cells turns x (slice_index turns e)
      → (slice_index turns e ≡ 0)
      ⊎ ((p : ℕ) × (p < length r.order) × (slice_index turns e ≡ suc p) × ReadsCell r.exprs (slice_index r.order p) e)
  by_expr e (exprs.Number n) at earlier h = inl h
  by_expr e (exprs.Truth b) at earlier h = inl h
  by_expr e (exprs.Cell c) at earlier h = elim (cell_turns.only c) [
    | inl z ↦ inl (h ∙ z)
    | inr q ↦ inr (q.0, q.1, h ∙ q.3, itself e (subst (λ n. IsAt r.exprs e (exprs.Cell n)) (sym q.2) at))
  ]
  by_expr e (exprs.Apply op k args) at earlier h = elim h.reached [
    | inl z ↦ inl z
    | inr q ↦
        let f = (sound.exprs e (exprs.Apply op k args) at).2 q.0 q.1 in
        let l = within r.exprs e at in let b = f.0 in
        elim (earlier q.0 f.0 (omega (arith, l, b))) [
          | inl z ↦ inl (sym q.2 ∙ z)
          | inr w ↦ inr (w.0, w.1, sym q.2 ∙ w.2, inside e q.0 op k args at q.1 w.3)
        ]
  ]

  pub tight : (e : ℕ) → Tight e
  tight = upward Tight (λ e earlier l. let x = some_entry r.exprs e l in
      by_expr e x.0 x.1 earlier (expr_turns.each e x.0 l x.1))

  pub turn_small : (e : ℕ) → e < length r.exprs → slice_index turns e ≤ length r.order
  turn_small e l = elim (tight e l) [
    | inl z ↦ omega (arith, z)
    | inr q ↦
        (let a = q.1 in let b = q.2 in omega (arith, a, b))
  ]

  pub turns_small : All (λ t. t ≤ length r.order) turns
  turns_small k d l =
      let n = expr_turns.count in
      let a = turn_small k (omega (arith, n, l)) in
      let e = get_or_from_slice_get turns k (get_or turns k d) 0 (slice_get-get_or turns k d l) in
      omega (arith, a, e)
