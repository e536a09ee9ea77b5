-- Pieces one behind another, and the nets that they have.
use Rattle.std.proofs.Common.{◌≡◌, ℕ, ◌<◌, ◌≤◌, ◌+◌, ◌-◌, suc, ◌⊎◌, inl, inr, List, [], ◌∷◌, ◌++◌, Some, Bool, true}
use Rattle.std.proofs.Common.{false, cond, refl, sym, ◌∙◌, ap, subst, arith}
use Rattle.std.specs.Prelude.{Contains, nat_lt}
use Rattle.std.specs.List.{count_by}
use Rattle.std.proofs.lemmas.Bool.{and_parts, and_from, leb-true, le-leb, eqb-true, eq-eqb, ltb-true, ltb-false}
use Rattle.std.proofs.lemmas.Bool.{cases_lt, cases_eq, false_from_ne_true}
use Rattle.std.proofs.lemmas.List.Recursion.{is_count_by}
use Rattle.nor_net.specs.Elements.{Spot, Element, Given, Nor, Latched, Joined, Low, Nets}
use Rattle.path_form.specs.declared.path.Piece.{Piece}
use Rattle.path_form.specs.Shape.{is_in, rank}
use Rattle.path_order.specs.Order.{piece}

-- how many pieces have a net, as a recursion
abbrev pub times_in : Spot → List Piece → ℕ
times_in n [] = 0
times_in n (p ∷ ps) = cond (is_in n p) 1 0 + times_in n ps

-- how many nets stand in pieces
abbrev pub total : List Piece → ℕ
total [] = 0
total (p ∷ ps) = (suc p.last - p.first) + total ps

pub times_counted : (n : Spot) (ps : List Piece) → times_in n ps ≡ count_by (is_in n) ps
times_counted n ps = is_count_by (times_in n) (is_in n) refl (λ p ps. by_test (is_in n p) (times_in n ps)) ps
  where
    by_test : (b : Bool) (t : ℕ) → cond b 1 0 + t ≡ cond b (1 + t) t
    by_test true t = refl
    by_test false t = omega arith

times_append : (n : Spot) (ps qs : List Piece) → times_in n (ps ++ qs) ≡ times_in n ps + times_in n qs
times_append n [] qs = omega arith
times_append n (p ∷ ps) qs =
    let r = times_append n ps qs in
    ap (λ t. cond (is_in n p) 1 0 + t) r ∙ by_sum (cond (is_in n p) 1 0) (times_in n ps) (times_in n qs)
  where
    by_sum : (a b c : ℕ) → a + (b + c) ≡ (a + b) + c
    by_sum a b c = omega arith

-- a piece has these nets
pub inside : (n : Spot) (p : Piece) → is_in n p ≡ true → (p.band ≡ n.band) × (p.first ≤ n.net) × (n.net ≤ p.last)
inside n p e =
    let h = and_parts _ _ e in
    let l = and_parts _ _ h.1 in
    (eqb-true _ _ h.0, leb-true _ _ l.0, leb-true _ _ l.1)

pub is_inside : (n : Spot) (p : Piece) → p.band ≡ n.band → p.first ≤ n.net → n.net ≤ p.last → is_in n p ≡ true
is_inside n p b l h = and_from _ _ (eq-eqb _ _ b) (and_from _ _ (le-leb _ _ l) (le-leb _ _ h))

-- a net that is in keeps its rank when more stands behind
rank_in : (n : Spot) (ps qs : List Piece) → 0 < times_in n ps → rank (ps ++ qs) n ≡ rank ps n
rank_in n [] qs l = absurd (omega arith)
rank_in n (p ∷ ps) qs l = by_test (is_in n p) l (rank_in n ps qs)
  where
    by_test : (b : Bool) → 0 < cond b 1 0 + times_in n ps → (0 < times_in n ps → rank (ps ++ qs) n ≡ rank ps n)
        → cond b (n.net - p.first) ((suc p.last - p.first) + rank (ps ++ qs) n)
        ≡ cond b (n.net - p.first) ((suc p.last - p.first) + rank ps n)
    by_test true l again = refl
    by_test false l again = ap (λ r. (suc p.last - p.first) + r) (again (omega arith))

-- one that isn't has its rank behind them
rank_out : (n : Spot) (ps qs : List Piece) → times_in n ps ≡ 0 → rank (ps ++ qs) n ≡ total ps + rank qs n
rank_out n [] qs l = omega arith
rank_out n (p ∷ ps) qs l = by_test (is_in n p) l (rank_out n ps qs)
  where
    by_test : (b : Bool) → cond b 1 0 + times_in n ps ≡ 0
        → (times_in n ps ≡ 0 → rank (ps ++ qs) n ≡ total ps + rank qs n)
        → cond b (n.net - p.first) ((suc p.last - p.first) + rank (ps ++ qs) n)
        ≡ ((suc p.last - p.first) + total ps) + rank qs n
    by_test true l again = absurd (omega arith)
    by_test false l again = let r = again (omega arith) in by_sum (suc p.last - p.first) r
      where
        by_sum : (a : ℕ) → rank (ps ++ qs) n ≡ total ps + rank qs n
            → a + rank (ps ++ qs) n ≡ (a + total ps) + rank qs n
        by_sum a r = omega arith

-- ranks lie below the number of nets
rank_low : (n : Spot) (ps : List Piece) → 0 < times_in n ps → rank ps n < total ps
rank_low n [] l = absurd (omega arith)
rank_low n (p ∷ ps) l = by_test (is_in n p) refl l (rank_low n ps)
  where
    by_test : (b : Bool) → is_in n p ≡ b → 0 < cond b 1 0 + times_in n ps → (0 < times_in n ps → rank ps n < total ps)
        → cond b (n.net - p.first) ((suc p.last - p.first) + rank ps n) < (suc p.last - p.first) + total ps
    by_test true e l again = let h = inside n p e in let a = h.1 in let b = h.2 in omega (arith, a, b)
    by_test false e l again = let r = again (omega arith) in by_sum (suc p.last - p.first) r
      where
        by_sum : (a : ℕ) → rank ps n < total ps → a + rank ps n < a + total ps
        by_sum a r = omega arith

-- an element reads a net that it depends on
abbrev pub Reads : Element → Spot → Type 0
Reads Given m = ⊥
Reads (Nor inputs) m = Contains inputs m
Reads (Latched phase source) m = ⊥
Reads (Joined other) m = m ≡ other
Reads Low m = ⊥

-- The order has so many nets of each band, each once, and each behind those that it reads.
pub record IsOrderTo (nets : Nets) (order : List Piece) (ends : ℕ → ℕ) : Type 0 where
  pub once : (n : Spot) → n.net < ends n.band → times_in n order ≡ 1
  pub others : (n : Spot) → ends n.band ≤ n.net → times_in n order ≡ 0
  pub behind : (n m : Spot) (x : Element) → n.net < ends n.band → nets n ≡ Some x → Reads x m
      → (m.net < ends m.band) × (rank order m < rank order n)

-- what is read by a net of a new piece stands in the order, or before it in the piece
abbrev pub MayRead : (ℕ → ℕ) → Spot → Spot → Type 0
MayRead ends n m = (m.net < ends m.band) ⊎ ((m.band ≡ n.band) × (m.net < n.net))

-- the numbers alone matter
pub same_ends : (nets : Nets) (order : List Piece) (ends others : ℕ → ℕ) → ((x : ℕ) → others x ≡ ends x)
    → IsOrderTo nets order ends → IsOrderTo nets order others
same_ends nets order ends others same h = record {
  once = λ n l. h.once n (let e = same n.band in omega (arith, e, l));
  others = λ n l. h.others n (let e = same n.band in omega (arith, e, l));
  behind = λ n m x l is r.
      (let b = h.behind n m x (let e = same n.band in omega (arith, e, l)) is r in
      ((let e = same m.band in let f = b.0 in omega (arith, e, f)), b.1));
}

module _ (nets : Nets) (order : List Piece) (ends after : ℕ → ℕ) (h : IsOrderTo nets order ends) (q : Piece)
    (first : ends q.band ≡ q.first) (full : q.first ≤ q.last) (end : after q.band ≡ suc q.last)
    (rest : (x : ℕ) → (x ≡ q.band → ⊥) → after x ≡ ends x)
    (may : (n m : Spot) (x : Element) → n.band ≡ q.band → q.first ≤ n.net → n.net ≤ q.last → nets n ≡ Some x
    → Reads x m → MayRead ends n m) where
  abbrev whole : List Piece
  whole = order ++ q ∷ []

  -- numbers don't fall
  more : (x : ℕ) → ends x ≤ after x
  more x = elim (cases_eq x q.band) [
    | inl e ↦ (let a = ap ends e ∙ first in let b = ap after e ∙ end in omega (arith, a, b, full))
    | inr ne ↦ (let a = rest x ne in omega (arith, a))
  ]

  -- a net is one that was there, one of the piece, or none
  data Where (n : Spot) : Type 0 where
    old : n.net < ends n.band → times_in n order ≡ 1 → is_in n q ≡ false → Where n
    new : times_in n order ≡ 0 → is_in n q ≡ true → n.band ≡ q.band → q.first ≤ n.net → n.net ≤ q.last → Where n
    none : after n.band ≤ n.net → times_in n order ≡ 0 → is_in n q ≡ false → Where n

  find : (n : Spot) → Where n
  find n = by_band (cases_eq n.band q.band)
    where
      by_band : (n.band ≡ q.band) ⊎ (n.band ≡ q.band → ⊥) → Where n
      by_band (inl e) = by_old (cases_lt n.net (ends n.band))
        where
          a : ends n.band ≡ q.first
          a = ap ends e ∙ first

          b : after n.band ≡ suc q.last
          b = ap after e ∙ end

          by_old : (n.net < ends n.band) ⊎ (ends n.band ≤ n.net) → Where n
          by_old (inl l) =
              old l (h.once n l) (false_from_ne_true (is_in n q)
              (λ t. (let i = (inside n q t).1 in omega (arith, i, a, l))))
          by_old (inr g) = by_new (cases_lt n.net (suc q.last))
            where
              by_new : (n.net < suc q.last) ⊎ (suc q.last ≤ n.net) → Where n
              by_new (inl l) =
                  let f : q.first ≤ n.net = omega (arith, a, g) in
                  let k : n.net ≤ q.last = omega (arith, l) in
                  new (h.others n g) (is_inside n q (sym e) f k) e f k
              by_new (inr k) =
                  none (omega (arith, b, k)) (h.others n g)
                  (false_from_ne_true (is_in n q) (λ t. (let i = (inside n q t).2 in omega (arith, i, k))))
      by_band (inr ne) = by_old (cases_lt n.net (ends n.band))
        where
          out : is_in n q ≡ false
          out = false_from_ne_true (is_in n q) (λ t. ne (sym (inside n q t).0))

          by_old : (n.net < ends n.band) ⊎ (ends n.band ≤ n.net) → Where n
          by_old (inl l) = old l (h.once n l) out
          by_old (inr g) = none (let r = rest n.band ne in omega (arith, r, g)) (h.others n g) out

  counted : (n : Spot) (a : ℕ) (b : Bool) → times_in n order ≡ a → is_in n q ≡ b
      → times_in n whole ≡ a + (cond b 1 0 + 0)
  counted n a b e f = times_append n order (q ∷ []) ∙ ap (λ t. t + (cond (is_in n q) 1 0 + 0)) e
      ∙ ap (λ t. a + (cond t 1 0 + 0)) f

  old_rank : (n : Spot) → n.net < ends n.band → rank whole n ≡ rank order n
  old_rank n l = rank_in n order (q ∷ []) (let o = h.once n l in omega (arith, o))

  new_rank : (n : Spot) → times_in n order ≡ 0 → is_in n q ≡ true → rank whole n ≡ total order + (n.net - q.first)
  new_rank n z t = rank_out n order (q ∷ []) z ∙ ap (λ b. total order + cond b (n.net - q.first)
      ((suc q.last - q.first) + 0)) t

  old_low : (m : Spot) → m.net < ends m.band → rank whole m < total order
  old_low m l =
      let r = old_rank m l in
      let low = rank_low m order (let o = h.once m l in omega (arith, o)) in
      omega (arith, r, low)

  in_new : (n m : Spot) → times_in n order ≡ 0 → is_in n q ≡ true → n.band ≡ q.band → n.net ≤ q.last
      → MayRead ends n m
      → (m.net < after m.band) × (rank whole m < rank whole n)
  in_new n m z t e k (inl l) = (
    (let o = more m.band in omega (arith, o, l)),
    (let a = old_low m l in let b = new_rank n z t in
        omega (arith, a, b)),
  )
  in_new n m z t e k (inr p) = by_old (find m)
    where
      band : m.band ≡ q.band
      band = p.0 ∙ e

      low : m.net < after m.band
      low = let a = ap after band ∙ end in let s = p.1 in omega (arith, a, s, k)

      by_old : Where m → (m.net < after m.band) × (rank whole m < rank whole n)
      by_old (old l o f) = (low, (let a = old_low m l in let b = new_rank n z t in omega (arith, a, b)))
      by_old (new y i b f l) =
          (low, (let a = new_rank m y i in let b = new_rank n z t in let s = p.1 in omega (arith, a, b, s, f)))
      by_old (none g y i) = absurd (omega (arith, g, low))

  -- with one piece more
  pub longer : IsOrderTo nets whole after
  longer = record {
    once = λ n l. is_once n l (find n);
    others = λ n g. is_other n g (find n);
    behind = λ n m x l is r. is_behind n m x l is r (find n);
  }
    where
      is_once : (n : Spot) → n.net < after n.band → Where n → times_in n whole ≡ 1
      is_once n l (old a o f) = counted n 1 false o f
      is_once n l (new z t e f k) = counted n 0 true z t
      is_once n l (none g z f) = absurd (omega (arith, g, l))

      is_other : (n : Spot) → after n.band ≤ n.net → Where n → times_in n whole ≡ 0
      is_other n g (old a o f) = absurd (let m = more n.band in omega (arith, m, a, g))
      is_other n g (new z t e f k) = absurd (let a = ap after e ∙ end in omega (arith, a, g, k))
      is_other n g (none a z f) = counted n 0 false z f

      is_behind : (n m : Spot) (x : Element) → n.net < after n.band → nets n ≡ Some x → Reads x m → Where n
          → (m.net < after m.band) × (rank whole m < rank whole n)
      is_behind n m x l is r (old a o f) =
          let b = h.behind n m x a is r in
          let b0 = b.0 in
          let b1 = b.1 in
          let rm = old_rank m b.0 in
          let rn = old_rank n a in
          ((let o = more m.band in omega (arith, o, b0)), omega (arith, b1, rm, rn))
      is_behind n m x l is r (new z t e f k) = in_new n m z t e k (may n m x e f k is r)
      is_behind n m x l is r (none g z f) = absurd (omega (arith, g, l))

-- with the nets from first to before the end of a band
pub with_piece : (nets : Nets) (order : List Piece) (ends after : ℕ → ℕ) → IsOrderTo nets order ends
    → (band first end : ℕ) → ends band ≡ first → first ≤ end → after band ≡ end
    → ((x : ℕ) → (x ≡ band → ⊥) → after x ≡ ends x)
    → ((n m : Spot) (x : Element) → n.band ≡ band → first ≤ n.net → n.net < end → nets n ≡ Some x → Reads x m
    → MayRead ends n m)
    → IsOrderTo nets (order ++ piece band first end) after
with_piece nets order ends after h band first end is_first le is_end rest may = by_test (nat_lt first end) refl
  where
    by_test : (b : Bool) → nat_lt first end ≡ b
        → IsOrderTo nets (order ++ cond b (record { band = band; first = first; last = end - 1 } ∷ []) []) after
    by_test true t =
        let l = ltb-true first end t in
        let s : end ≡ suc (end - 1) = omega (arith, l) in
        longer nets order ends after h (record { band = band; first = first; last = end - 1 }) is_first
        (omega (arith, l))
        (is_end ∙ s) rest (λ n m x e f k is r. may n m x e f (omega (arith, k, l)) is r)
    by_test false t =
        let g = ltb-false first end t in
        subst (λ o. IsOrderTo nets o after) (sym (append_nil order))
        (same_ends nets order ends after (λ x. same x (cases_eq x band)) h)
      where
        append_nil : (xs : List Piece) → xs ++ [] ≡ xs
        append_nil [] = refl
        append_nil (y ∷ ys) = ap (λ zs. y ∷ zs) (append_nil ys)

        same : (x : ℕ) → (x ≡ band) ⊎ (x ≡ band → ⊥) → after x ≡ ends x
        same x (inl e) =
            let g = ltb-false first end t in
            let a = ap after e ∙ is_end in
            let b = ap ends e ∙ is_first in
            omega (arith, a, b, g, le)
        same x (inr ne) = rest x ne
