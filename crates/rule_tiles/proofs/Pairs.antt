-- The tiles that pairs mark.
use Rattle.std.proofs.Common.{ℕ, ◌≡◌, ◌+◌, ◌<◌, ◌≤◌, ◌⊎◌, List, [], ◌∷◌, ◌++◌, inl, inr, refl, sym, subst, arith, ◌∙◌}
use Rattle.std.proofs.Common.{length, get_or, take, set, zero, suc, ap, Bool, true, false, true≢false, Option, None}
use Rattle.std.specs.Prelude.{◌↔◌, not, IsSome, Contains}
use Rattle.std.proofs.lemmas.Bool.{cases_eq}
use Rattle.std.proofs.lemmas.Option.{slice_get_within, slice_get-get_or, get_or_from_slice_get}
use Rattle.std.proofs.lemmas.List.{take_more, take_all}
use Rattle.std.proofs.lemmas.List.Elements.{All-contains, Contains-append_left, Contains-append_right}
use Rattle.std.proofs.lemmas.List.Elements.{Contains-append_cases}
use Rattle.mp_base.proofs.Contents.{contains_one, is_only_one, nothing_in}
use Rattle.mask_tiles.specs.declared.tile.Tile.{Tile}
use Rattle.mask_tiles.specs.Touching.{TouchAt, AreTouching}
use Rattle.union_find.specs.declared.pair.Pair.{Pair}
use Rattle.rule_tiles.specs.Cuts.{AreFlags, IsCutSize, IsUnsizedAt, IsOddAt, IsFirstAt, IsJoined, low_square}
use Rattle.rule_tiles.proofs.Listing.{flags_set, flags_same}

-- the tile is of another size, or a pair has its number
abbrev pub IsMarked : List Tile → List Pair → ℕ → Type 0
IsMarked tiles pairs i = IsUnsizedAt tiles i ⊎ ((p : Pair) × Contains pairs p × (p.a ≡ i ⊎ p.b ≡ i))

pub marked_none : (tiles : List Tile) (flags : List Bool) → AreFlags (IsUnsizedAt tiles) (length tiles) flags
    → AreFlags (IsMarked tiles []) (length tiles) flags
marked_none tiles flags h = flags_same (IsUnsizedAt tiles) (IsMarked tiles []) (length tiles) flags
    (λ i l. (λ u. inl u, λ m. elim m [ inl u ↦ u | inr p ↦ absurd (nothing_in p.0 p.1) ])) h

pub marked_more : (tiles : List Tile) (pairs : List Pair) (n : ℕ) (d : Pair) (old mid new : List Bool)
    → n < length pairs → (get_or pairs n d).a < length tiles → (get_or pairs n d).b < length tiles
    → AreFlags (IsMarked tiles (take n pairs)) (length tiles) old → mid ≡ set old (get_or pairs n d).a true
    → new ≡ set mid (get_or pairs n d).b true → AreFlags (IsMarked tiles (take (n + 1) pairs)) (length tiles) new
marked_more tiles pairs n d old mid new l la lb h e f =
    let p = get_or pairs n d in
    let a = flags_set (IsMarked tiles (take n pairs)) (length tiles) p.a old mid h la e in
    let b = flags_set (λ i. IsMarked tiles (take n pairs) i ⊎ (p.a ≡ i)) (length tiles) p.b mid new a lb f in
    subst (λ ps. AreFlags (IsMarked tiles ps) (length tiles) new) (sym (take_more pairs n d l))
    (flags_same (λ i. (IsMarked tiles (take n pairs) i ⊎ (p.a ≡ i)) ⊎ (p.b ≡ i))
    (IsMarked tiles (take n pairs ++ p ∷ [])) (length tiles) new
    (λ i m. (
      λ g. elim g [
        | inl g ↦ elim g [
          | inl g ↦ elim g [
            | inl u ↦ inl u
            | inr q ↦ inr (q.0, Contains-append_left (take n pairs) (p ∷ []) q.0 q.1, q.2)
          ]
          | inr g ↦ inr (p, Contains-append_right (take n pairs) (p ∷ []) p (contains_one p), inl g)
        ]
        | inr g ↦ inr (p, Contains-append_right (take n pairs) (p ∷ []) p (contains_one p), inr g)
      ],
      λ g. elim g [
        | inl u ↦ inl (inl (inl u))
        | inr q ↦ elim (Contains-append_cases (take n pairs) (p ∷ []) q.0 q.1) [
          | inl c ↦ inl (inl (inr (q.0, c, q.2)))
          | inr c ↦ (let same : q.0 ≡ p = is_only_one p q.0 c in
              elim q.2 [
                | inl s ↦ inl (inr (subst (λ (z : Pair). z.a ≡ i) same s))
                | inr s ↦ inr (subst (λ (z : Pair). z.b ≡ i) same s)
              ])
        ]
      ],
    )) b)

pub all_marked : (tiles : List Tile) (pairs : List Pair) (n : ℕ) (flags : List Bool) → length pairs ≤ n
    → AreTouching tiles pairs
    → AreFlags (IsMarked tiles (take n pairs)) (length tiles) flags
    → AreFlags (IsOddAt tiles) (length tiles) flags
all_marked tiles pairs n flags e t h =
    flags_same (IsMarked tiles pairs) (IsOddAt tiles) (length tiles) flags
    (λ i m. (
      λ g. elim g [
        | inl u ↦ inl u
        | inr q ↦ (let touch = All-contains (λ (p : Pair). TouchAt tiles p.a p.b) pairs q.0 t.each q.1 in
            elim q.2 [
              | inl s ↦ inr ((q.0).b, inl (subst (λ k. TouchAt tiles k (q.0).b) s touch))
              | inr s ↦ inr ((q.0).a, inr (subst (λ k. TouchAt tiles (q.0).a k) s touch))
            ])
      ],
      λ g. elim g [
        | inl u ↦ inl u
        | inr q ↦ elim q.1 [
          | inl s ↦ inr (record { a = i; b = q.0 }, t.all (record { a = i; b = q.0 }) s, inl refl)
          | inr s ↦ inr (record { a = q.0; b = i }, t.all (record { a = q.0; b = i }) s, inr refl)
        ]
      ],
    )) (subst (λ ps. AreFlags (IsMarked tiles ps) (length tiles) flags) (take_all n pairs e) h)

-- the numbers of a pair are those of tiles
pub pair_within : (tiles : List Tile) (pairs : List Pair) (n : ℕ) (d : Pair) → AreTouching tiles pairs
    → n < length pairs → ((get_or pairs n d).a < length tiles) × ((get_or pairs n d).b < length tiles)
pair_within tiles pairs n d t l =
    let w = t.each n d l in (
      slice_get_within tiles (get_or pairs n d).a w.first w.at_first,
      slice_get_within tiles (get_or pairs n d).b w.second w.at_second,
    )

-- the flag of a tile's size
pub unsized_at : (tiles : List Tile) (i : ℕ) (d : Tile) (r : Bool) → i < length tiles
    → (r ≡ true) ↔ IsCutSize (get_or tiles i d) → (not r ≡ true) ↔ IsUnsizedAt tiles i
unsized_at tiles i d true l h = (
  λ e. absurd (true≢false (sym e)),
  λ u. absurd (u.2 (subst IsCutSize (get_or_from_slice_get tiles i u.0 d u.1) (h.0 refl))),
)
unsized_at tiles i d false l h = (
  λ e. (get_or tiles i d, slice_get-get_or tiles i d l, λ s. true≢false (sym (h.1 s))),
  λ u. refl,
)

same_at : {X : Type 0} (xs : List X) (i : ℕ) (d e : X) → i < length xs → get_or xs i d ≡ get_or xs i e
same_at [] i d e l = absurd (omega arith)
same_at (x ∷ xs) zero d e l = refl
same_at (x ∷ xs) (suc i) d e l = same_at xs i d e (omega (arith, l))

-- the first flag that is set
pub found_flag : (tiles : List Tile) (flags : List Bool) (i : ℕ) (d : Tile) (e : Bool) → i < length tiles
    → i < length flags → get_or flags i e ≡ true → ((j : ℕ) → j < i → get_or flags j false ≡ false)
    → IsFirstAt tiles flags (low_square (get_or tiles i d))
found_flag tiles flags i d e l m set others = record {
  number = i;
  tile = get_or tiles i d;
  at = slice_get-get_or tiles i d l;
  set = same_at flags i false e m ∙ set;
  x = refl;
  y = refl;
  others = others;
}

pub no_flag_more : (flags : List Bool) (i : ℕ) (e : Bool) → i < length flags → get_or flags i e ≡ false
    → ((j : ℕ) → j < i → get_or flags j false ≡ false) → (j : ℕ) → j < i + 1 → get_or flags j false ≡ false
no_flag_more flags i e m off before j l = elim (cases_eq j i) [
  | inl s ↦ ap (λ k. get_or flags k false) s ∙ same_at flags i false e m ∙ off
  | inr o ↦ before j (omega arith)
]

-- whether a block lacks what it needs
pub joined_at : (odd : List Bool) (metal polysilicon diffusion : List (Option ℕ)) (i : ℕ) (b : Bool) (d : Bool)
    (e f g : Option ℕ) → i < length odd → i < length metal → i < length polysilicon → i < length diffusion
    → (b ≡ true) ↔ ((get_or odd i d ≡ false)
    × (IsSome (get_or metal i e) ⊎ IsSome (get_or polysilicon i f) × IsSome (get_or diffusion i g)))
    → (b ≡ true) ↔ IsJoined odd metal polysilicon diffusion i
joined_at odd metal polysilicon diffusion i b d e f g lo lm lp ld h =
    subst (λ m. (b ≡ true) ↔ ((get_or odd i true ≡ false)
    × (IsSome m ⊎ IsSome (get_or polysilicon i None) × IsSome (get_or diffusion i None)))) (same_at metal i e None lm)
    (subst (λ p. (b ≡ true) ↔ ((get_or odd i true ≡ false)
    × (IsSome (get_or metal i e) ⊎ IsSome p × IsSome (get_or diffusion i None)))) (same_at polysilicon i f None lp)
    (subst (λ p. (b ≡ true) ↔ ((get_or odd i true ≡ false)
    × (IsSome (get_or metal i e) ⊎ IsSome (get_or polysilicon i f) × IsSome p))) (same_at diffusion i g None ld)
    (subst (λ o. (b ≡ true) ↔ ((o ≡ false)
    × (IsSome (get_or metal i e) ⊎ IsSome (get_or polysilicon i f) × IsSome (get_or diffusion i g))))
    (same_at odd i d true lo) h)))
