-- Lists that grow, place by place.
use Rattle.std.proofs.Common.{◌≡◌, ◌≢◌, ℕ, ◌+◌, ◌<◌, ◌≤◌, ◌⊎◌, inl, inr, List, [], ◌∷◌, ◌++◌, length, get_or, set, refl}
use Rattle.std.proofs.Common.{sym, ◌∙◌, ap, subst, subst₂, arith}
use Rattle.std.specs.Prelude.{AllPairs, Contains, Some, slice_get, Bool, true, false, IsTrue, ◌↔◌, MatchBool}
use Rattle.std.proofs.lemmas.Bool.{cases_eq, cases_lt}
use Rattle.std.proofs.lemmas.Int.{ints, by_lt_z}
use Rattle.std.proofs.lemmas.List.{get_or-set_same, get_or-set_other, length-set, length-append}
use Rattle.std.proofs.lemmas.List.Quantifiers.{all_pairs_push}
use Rattle.std.proofs.lemmas.List.Elements.{Contains-append_left, Contains-append_cases, Contains-push}
use Rattle.std.proofs.lemmas.Option.{none-some, same_Some, slice_get_within, slice_get-get_or}
use Rattle.mp_base.proofs.Entries.{get_from_contains, contains_from_get, get_front, get_middle, push_cases}
use Rattle.mp_base.proofs.Contents.{only_one}
use Rattle.lam_geom.specs.declared.layer.Layer.{Layer}
use Rattle.lam_geom.specs.Squares.{Before, rank, Square}
use Rattle.lam_geom.proofs.SquareOrder.{before_then, of_ranks}
use Rattle.mask_tiles.specs.declared.tile.Tile.{Tile}
use Rattle.mask_pieces.specs.declared.piece.Piece.{Piece}
use Rattle.mask_pieces.specs.Pieces.{piece_of, corner_on, IsBefore, AreApart, AreTilePieces, AreTileNumbers}
use Rattle.mask_pieces.specs.Merging.{ComesFirst}
use Rattle.mask_pieces.proofs.CutUp.{pairs_at}

pub push_at : {X : Type 0} (xs : List X) (y : X) (n : ℕ) → n ≡ length xs → slice_get (xs ++ y ∷ []) n ≡ Some y
push_at xs y n e = ap (slice_get (xs ++ y ∷ [])) e ∙ get_middle xs y []

-- ---- the pieces of tiles

pub record AreListed (layer : Layer) (tiles : List Tile) (place : ℕ) (pieces : List Piece) : Type 0 where
  pub as_many : length pieces ≡ place
  pub each : (n : ℕ) (t : Tile) → n < place → slice_get tiles n ≡ Some t
      → slice_get pieces n ≡ Some (piece_of layer n t)

pub listed_more : (layer : Layer) (tiles : List Tile) (place n : ℕ) (t : Tile) (p : Piece) (pieces : List Piece)
    → AreListed layer tiles place pieces → slice_get tiles place ≡ Some t → n ≡ place → p ≡ piece_of layer n t
    → AreListed layer tiles (place + 1) (pieces ++ p ∷ [])
listed_more layer tiles place n t p pieces h e en ep =
    let many = h.as_many in
    record {
      as_many = omega (arith, length-append pieces (p ∷ []));
      each = λ m u l f. elim (cases_eq m place) [
        | inl g ↦
            let same : t ≡ u = same_Some t u (sym e ∙ ap (slice_get tiles) (sym g) ∙ f) in
            push_at pieces p m (g ∙ sym h.as_many)
            ∙ ap (λ q. Some q) (ep ∙ ap (λ k. piece_of layer k t) (en ∙ sym g) ∙ ap (piece_of layer m) same)
        | inr g ↦ get_front pieces (p ∷ []) m (omega arith) ∙ h.each m u (omega arith) f
      ];
    }

pub listed_all : (layer : Layer) (tiles : List Tile) (pieces : List Piece)
    → AreListed layer tiles (length tiles) pieces → AreTilePieces layer tiles pieces
listed_all layer tiles pieces h =
    record { as_many = h.as_many; each = λ n t e. h.each n t (slice_get_within tiles n t e) e }

-- ---- a merge

before_or_same : (s t : Square) → Before s t ⊎ (s.layer ≡ t.layer) ⊎ Before t s
before_or_same s t = by_lt_z s.y t.y (λ l. inl (inl l)) (λ l. by_lt_z t.y s.y (λ g. inr (inr (inl g))) (λ g.
    by_lt_z s.x t.x (λ a. inl (inr (inl (omega (arith, ints), a))))
    (λ a. by_lt_z t.x s.x (λ b. inr (inr (inr (inl (omega (arith, ints), b))))) (λ b.
    elim (cases_lt (rank s.layer) (rank t.layer)) [
      | inl k ↦ inl (inr (inr (omega (arith, ints), omega (arith, ints), k)))
      | inr k ↦ elim (cases_eq (rank s.layer) (rank t.layer)) [
        | inl e ↦ inr (inl (of_ranks s.layer t.layer e))
        | inr n ↦ inr (inr (inr (inr (omega (arith, ints), omega (arith, ints), omega arith))))
      ]
    ]))))

pub first_or_second : (a b : List Piece) (i j : ℕ) (p q : Piece) (r : Bool) → AreApart a b → slice_get a i ≡ Some p
    → slice_get b j ≡ Some q → IsTrue r ↔ IsBefore p q
    → MatchBool r (ComesFirst a i b j) (ComesFirst b j a i)
first_or_second a b i j p q true apart ep eq tells = record {
  there = slice_get_within a i p ep;
  before = λ x y ex ey. subst₂ IsBefore (same_Some p x (sym ep ∙ ex)) (same_Some q y (sym eq ∙ ey)) (tells.0 refl);
}
first_or_second a b i j p q false apart ep eq tells = record {
  there = slice_get_within b j q eq;
  before = λ y x ey ex. subst₂ IsBefore (same_Some q y (sym eq ∙ ey)) (same_Some p x (sym ep ∙ ex))
      (elim (before_or_same (corner_on p.rect.layer p.rect) (corner_on q.rect.layer q.rect)) [
        | inl u ↦ absurd (let t : IsTrue false = tells.1 u in cc)
        | inr (inl u) ↦ absurd (apart p q (contains_from_get a i p ep) (contains_from_get b j q eq) u)
        | inr (inr u) ↦ u
      ]);
}

pub record IsMerged (a b : List Piece) (i j : ℕ) (m : List Piece) : Type 0 where
  pub i_in : i ≤ length a
  pub j_in : j ≤ length b
  pub ascending : AllPairs IsBefore m
  pub first : (k n : ℕ) (p q : Piece) → i ≤ n → slice_get m k ≡ Some p → slice_get a n ≡ Some q → IsBefore p q
  pub second : (k n : ℕ) (p q : Piece) → j ≤ n → slice_get m k ≡ Some p → slice_get b n ≡ Some q → IsBefore p q
  pub from : (p : Piece) → Contains m p → Contains a p ⊎ Contains b p
  pub has_first : (k : ℕ) (p : Piece) → k < i → slice_get a k ≡ Some p → Contains m p
  pub has_second : (k : ℕ) (p : Piece) → k < j → slice_get b k ≡ Some p → Contains m p

pub merged_turned : (a b : List Piece) (i j : ℕ) (m : List Piece) → IsMerged a b i j m → IsMerged b a j i m
merged_turned a b i j m h = record {
  i_in = h.j_in;
  j_in = h.i_in;
  ascending = h.ascending;
  first = h.second;
  second = h.first;
  from = λ p c. elim (h.from p c) [ inl x ↦ inr x | inr x ↦ inl x ];
  has_first = h.has_second;
  has_second = h.has_first;
}

pub merged_none : (a b : List Piece) → IsMerged a b 0 0 []
merged_none a b = record {
  i_in = omega arith;
  j_in = omega arith;
  ascending = λ i j d l h. absurd (omega arith);
  first = λ k n p q l e f. absurd (none-some p e);
  second = λ k n p q l e f. absurd (none-some p e);
  from = λ p c. absurd (omega (arith, c.1));
  has_first = λ k p l e. absurd (omega arith);
  has_second = λ k p l e. absurd (omega arith);
}

pub merged_more : (a b : List Piece) (i j : ℕ) (m : List Piece) (p : Piece) → AllPairs IsBefore a → AllPairs IsBefore b
    → IsMerged a b i j m → ComesFirst a i b j → slice_get a i ≡ Some p
    → IsMerged a b (i + 1) j (m ++ p ∷ [])
merged_more a b i j m p upa upb h c e = record {
  i_in = let l = c.there in omega arith;
  j_in = h.j_in;
  ascending =
      all_pairs_push IsBefore m p h.ascending
      (λ k d l. h.first k i (get_or m k d) p (omega arith) (slice_get-get_or m k d l) e);
  first = λ k n x q l ex eq. elim (push_cases m p k x ex) [
    | inl w ↦ h.first k n x q (omega arith) w.1 eq
    | inr w ↦ subst (λ z. IsBefore z q) w.1 (pairs_at IsBefore a upa i n p q (omega arith) e eq)
  ];
  second = λ k n x q l ex eq. elim (push_cases m p k x ex) [
    | inl w ↦ h.second k n x q l w.1 eq
    | inr w ↦ subst (λ z. IsBefore z q) w.1 (elim (cases_eq n j) [
      | inl g ↦ c.before p q e (ap (slice_get b) (sym g) ∙ eq)
      | inr g ↦
          let u = slice_get_within b n q eq in
          let y : Piece = get_or b j p in
          let ey : slice_get b j ≡ Some y = slice_get-get_or b j p (omega arith) in
          before_then (corner_on p.rect.layer p.rect) (corner_on y.rect.layer y.rect) (corner_on q.rect.layer q.rect)
          (c.before p y e ey) (pairs_at IsBefore b upb j n y q (omega arith) ey eq)
    ])
  ];
  from = λ x w. elim (Contains-append_cases m (p ∷ []) x w) [
    | inl u ↦ h.from x u
    | inr u ↦ inl (subst (Contains a) (only_one p x u) (contains_from_get a i p e))
  ];
  has_first = λ k x l ex. elim (cases_eq k i) [
    | inl g ↦ subst (Contains (m ++ p ∷ [])) (same_Some p x (sym e ∙ ap (slice_get a) (sym g) ∙ ex)) (Contains-push m p)
    | inr g ↦ Contains-append_left m (p ∷ []) x (h.has_first k x (omega arith) ex)
  ];
  has_second = λ k x l ex. Contains-append_left m (p ∷ []) x (h.has_second k x l ex);
}

pub merged_all : (a b : List Piece) (i j : ℕ) (m : List Piece) → IsMerged a b i j m → length a ≤ i → length b ≤ j
    → (p : Piece) → Contains m p ↔ (Contains a p ⊎ Contains b p)
merged_all a b i j m h la lb p = (
  h.from p,
  λ c. elim c [
    | inl u ↦ let w = get_from_contains a p u in let l = slice_get_within a w.0 p w.1 in
        h.has_first w.0 p (omega arith) w.1
    | inr u ↦ let w = get_from_contains b p u in let l = slice_get_within b w.0 p w.1 in
        h.has_second w.0 p (omega arith) w.1
  ],
)

-- ---- the numbers of tiles

pub numbers_more : (layer : Layer) (count : ℕ) (pieces : List Piece) (place n : ℕ) (p : Piece) (numbers : List ℕ)
    → AreTileNumbers layer count pieces place numbers
    → slice_get pieces place ≡ Some p → p.rect.layer ≡ layer → n ≡ place → p.tile < length numbers
    → AreTileNumbers layer count pieces (place + 1) (set numbers p.tile n)
numbers_more layer count pieces place n p numbers h e l en inside = record {
  as_many = length-set numbers p.tile n ∙ h.as_many;
  each = λ k q lt eq lq. elim (cases_eq q.tile p.tile) [
    | inl g ↦ (
      p,
      ap (slice_get pieces)
          (ap (λ m. get_or (set numbers p.tile n) m 0) g ∙ get_or-set_same numbers p.tile n 0 inside ∙ en) ∙ e,
      l,
      sym g,
    )
    | inr g ↦ elim (cases_eq k place) [
      | inl f ↦ absurd (g (ap (λ (x : Piece). x.tile) (same_Some q p (sym eq ∙ ap (slice_get pieces) f ∙ e))))
      | inr f ↦
          let w = h.each k q (omega arith) eq lq in
          (w.0, ap (slice_get pieces) (get_or-set_other numbers p.tile q.tile n 0 g) ∙ w.1, w.2, w.3)
    ]
  ];
}

pub numbers_kept : (layer : Layer) (count : ℕ) (pieces : List Piece) (place : ℕ) (p : Piece) (numbers : List ℕ)
    → AreTileNumbers layer count pieces place numbers
    → slice_get pieces place ≡ Some p → p.rect.layer ≢ layer → AreTileNumbers layer count pieces (place + 1) numbers
numbers_kept layer count pieces place p numbers h e l = record {
  as_many = h.as_many;
  each = λ k q lt eq lq. elim (cases_eq k place) [
    | inl f ↦
        absurd (l
        (subst (λ (x : Piece). x.rect.layer ≡ layer) (same_Some q p (sym eq ∙ ap (slice_get pieces) f ∙ e)) lq))
    | inr f ↦ h.each k q (omega arith) eq lq
  ];
}
