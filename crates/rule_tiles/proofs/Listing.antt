-- Lists that loops make.
use Rattle.std.proofs.Common.{ℕ, ◌≡◌, ◌≢◌, ◌+◌, ◌<◌, ◌⊎◌, List, [], ◌∷◌, ◌++◌, map, inl, inr, refl}
use Rattle.std.proofs.Common.{sym, ap, subst, arith}
use Rattle.std.proofs.Common.{◌∙◌, length, get_or, take, set, Bool, true, false, filter}
use Rattle.std.specs.Prelude.{◌↔◌, cond, nat_eq, All, ℤ}
use Rattle.std.proofs.lemmas.Bool.{eqb-true, cases_eq}
use Rattle.std.proofs.lemmas.Int.{ints}
use Rattle.std.proofs.lemmas.List.{append-nil, append_assoc, map-append, take_more, length-append, length-set}
use Rattle.std.proofs.lemmas.List.{get_or_append_left, get_or_push, get_or-set_same, get_or-set_other}
use Rattle.std.proofs.lemmas.List.Elements.{filter_more, All-push}
use Rattle.lam_geom.specs.declared.layer.Layer.{Layer}
use Rattle.lam_geom.specs.declared.rect.Rect.{Rect}
use Rattle.lam_geom.specs.Moves.{IsNearRect}
use Rattle.lam_geom.specs.Squares.{covered}
use Rattle.mask_tiles.specs.declared.tile.Tile.{Tile}
use Rattle.rule_tiles.specs.Areas.{held, rect_of, bare_of, Keeps, KeepsBare}
use Rattle.rule_tiles.specs.Cuts.{AreFlags}
use Rattle.rule_tiles.proofs.Areas.{covered_first, covered_second, covered_either}

-- one more of a map
pub map_more : {A B : Type 0} (f : A → B) (start : List B) (xs : List A) (i : ℕ) (d : A) (old new : List B)
    → i < length xs → old ≡ start ++ map f (take i xs) → new ≡ old ++ f (get_or xs i d) ∷ []
    → new ≡ start ++ map f (take (i + 1) xs)
map_more f start xs i d old new m h e =
    let x = get_or xs i d in
    e ∙ ap (λ s. s ++ f x ∷ []) h ∙ append_assoc start (map f (take i xs)) (f x ∷ [])
    ∙ ap (λ s. start ++ s) (sym (map-append f (take i xs) (x ∷ [])))
    ∙ ap (λ s. start ++ map f s) (sym (take_more xs i d m))

pub map_one : {A B : Type 0} (f : A → B) (xs : List A) (i : ℕ) (d : A) (old new : List B)
    → i < length xs → old ≡ map f (take i xs) → new ≡ old ++ f (get_or xs i d) ∷ [] → new ≡ map f (take (i + 1) xs)
map_one f xs i d old new m h e = map_more f [] xs i d old new m h e

-- one more tile of colour 1
pub bare_more : (ts : List Tile) (i : ℕ) (d : Tile) (old new : List Rect) → i < length ts → old ≡ bare_of (take i ts)
    → KeepsBare (get_or ts i d) old new → new ≡ bare_of (take (i + 1) ts)
bare_more ts i d old new m h k =
    let p : Tile → Bool = λ t. nat_eq t.colour 1 in
    let t = get_or ts i d in
    let more : bare_of (take (i + 1) ts) ≡ bare_of (take i ts) ++ map rect_of (cond (p t) (t ∷ []) []) =
    ap (map rect_of) (filter_more p ts i d m) ∙ map-append rect_of (filter p (take i ts)) (cond (p t) (t ∷ []) []) in
    elim k [
      | inl a ↦ (let one : p t ≡ true = ap (λ c. nat_eq c 1) a.0 in
          a.1 ∙ ap (λ s. s ++ rect_of t ∷ []) h
          ∙ sym (more ∙ ap (λ b. bare_of (take i ts) ++ map rect_of (cond b (t ∷ []) [])) one))
      | inr a ↦ (let none : p t ≡ false = off (p t) refl a.0 in
          a.1 ∙ h ∙ sym (more ∙ ap (λ b. bare_of (take i ts) ++ map rect_of (cond b (t ∷ []) [])) none
          ∙ append-nil (bare_of (take i ts))))
    ]
  where
    off : (b : Bool) → nat_eq (get_or ts i d).colour 1 ≡ b → (get_or ts i d).colour ≢ 1
        → nat_eq (get_or ts i d).colour 1 ≡ false
    off true e n = absurd (n (eqb-true (get_or ts i d).colour 1 e))
    off false e n = e

-- the rectangles of a layer so far
pub record AreOfLayer (l : Layer) (shapes own : List Rect) : Type 0 where
  pub same : (x y : ℤ) → held own x y ↔ covered shapes l x y
  pub near : All IsNearRect own

held_first : (rs qs : List Rect) (x y : ℤ) → held rs x y → held (rs ++ qs) x y
held_first [] qs x y h = absurd h
held_first (r ∷ rs) qs x y (inl h) = inl h
held_first (r ∷ rs) qs x y (inr h) = inr (held_first rs qs x y h)

held_second : (rs qs : List Rect) (x y : ℤ) → held qs x y → held (rs ++ qs) x y
held_second [] qs x y h = h
held_second (r ∷ rs) qs x y h = inr (held_second rs qs x y h)

held_either : (rs qs : List Rect) (x y : ℤ) → held (rs ++ qs) x y → held rs x y ⊎ held qs x y
held_either [] qs x y h = inr h
held_either (r ∷ rs) qs x y (inl h) = inl (inl h)
held_either (r ∷ rs) qs x y (inr h) = elim (held_either rs qs x y h) [ inl c ↦ inl (inr c) | inr c ↦ inr c ]

to_cover : (l : Layer) (r : Rect) (x y : ℤ) → r.layer ≡ l → held (r ∷ []) x y → covered (r ∷ []) l x y
to_cover l r x y e (inl c) =
    let a = c.left in
    let b = c.right in
    let f = c.bottom in
    let g = c.top in
    inl (record {
      same = e;
      left = omega (arith, ints);
      right = omega (arith, ints);
      bottom = omega (arith, ints);
      top = omega (arith, ints);
    })
to_cover l r x y e (inr c) = absurd c

of_cover : (l : Layer) (r : Rect) (x y : ℤ) → covered (r ∷ []) l x y → (r.layer ≡ l) × held (r ∷ []) x y
of_cover l r x y (inl c) =
    let a = c.left in
    let b = c.right in
    let f = c.bottom in
    let g = c.top in (
      c.same,
      inl (record {
        left = omega (arith, ints);
        right = omega (arith, ints);
        bottom = omega (arith, ints);
        top = omega (arith, ints);
      }),
    )
of_cover l r x y (inr c) = absurd c

layer_pushed : (l : Layer) (shapes old new : List Rect) (r : Rect) → IsNearRect r → AreOfLayer l shapes old
    → Keeps l r old new → AreOfLayer l (shapes ++ r ∷ []) new
layer_pushed l shapes old new r near h (inl a) = subst (AreOfLayer l (shapes ++ r ∷ [])) (sym a.1) (record {
  same = λ x y. (
    λ g. elim (held_either old (r ∷ []) x y g) [
      | inl c ↦ covered_first shapes (r ∷ []) l x y ((h.same x y).0 c)
      | inr c ↦ covered_second shapes (r ∷ []) l x y (to_cover l r x y a.0 c)
    ],
    λ g. elim (covered_either shapes (r ∷ []) l x y g) [
      | inl c ↦ held_first old (r ∷ []) x y ((h.same x y).1 c)
      | inr c ↦ held_second old (r ∷ []) x y (of_cover l r x y c).1
    ],
  );
  near = All-push IsNearRect old r h.near near;
})
layer_pushed l shapes old new r near h (inr a) = subst (AreOfLayer l (shapes ++ r ∷ [])) (sym a.1) (record {
  same = λ x y. (
    λ g. covered_first shapes (r ∷ []) l x y ((h.same x y).0 g),
    λ g. elim (covered_either shapes (r ∷ []) l x y g) [
      | inl c ↦ (h.same x y).1 c
      | inr c ↦ absurd (a.0 (of_cover l r x y c).0)
    ],
  );
  near = h.near;
})

pub layer_more : (l : Layer) (shapes : List Rect) (i : ℕ) (d : Rect) (old new : List Rect) → i < length shapes
    → All IsNearRect shapes → AreOfLayer l (take i shapes) old → Keeps l (get_or shapes i d) old new
    → AreOfLayer l (take (i + 1) shapes) new
layer_more l shapes i d old new m near h k =
    subst (λ s. AreOfLayer l s new) (sym (take_more shapes i d m))
    (layer_pushed l (take i shapes) old new (get_or shapes i d) (near i d m) h k)

pub layer_none : (l : Layer) → AreOfLayer l [] []
layer_none l = record { same = λ x y. (λ h. h, λ h. h); near = λ i d m. absurd (omega arith) }

-- ---- flags

pub flags_none : (Is : ℕ → Type 0) → AreFlags Is 0 []
flags_none Is = record { long = refl; each = λ i d l. absurd (omega arith) }

pub flags_more : (Is : ℕ → Type 0) (n : ℕ) (b : Bool) (old new : List Bool) → AreFlags Is n old → (b ≡ true) ↔ Is n
    → new ≡ old ++ b ∷ [] → AreFlags Is (n + 1) new
flags_more Is n b old new h is e =
    subst (AreFlags Is (n + 1)) (sym e) (record {
      long = (let a = h.long in let c = length-append old (b ∷ []) in omega arith);
      each = λ i d l. elim (cases_eq i n) [
        | inl same ↦ (let long = h.long in
            let at : get_or (old ++ b ∷ []) i d ≡ b = get_or_push old b d i (long ∙ sym same) in
            (λ t. subst Is (sym same) (is.0 (sym at ∙ t)), λ t. at ∙ is.1 (subst Is same t)))
        | inr other ↦ (let long = h.long in
            let less : i < length old = omega arith in
            let at : get_or (old ++ b ∷ []) i d ≡ get_or old i d = get_or_append_left old (b ∷ []) d i less in
            let was = h.each i d (omega arith) in
            (λ t. was.0 (sym at ∙ t), λ t. at ∙ was.1 t))
      ];
    })

-- one more flag is set
pub flags_set : (Is : ℕ → Type 0) (n k : ℕ) (old new : List Bool) → AreFlags Is n old → k < n
    → new ≡ set old k true → AreFlags (λ i. Is i ⊎ (k ≡ i)) n new
flags_set Is n k old new h less e =
    subst (AreFlags (λ i. Is i ⊎ (k ≡ i)) n) (sym e) (record {
      long = length-set old k true ∙ h.long;
      each = λ i d l. elim (cases_eq i k) [
        | inl same ↦ (let long = h.long in
            let inside : k < length old = omega arith in
            let at : get_or (set old k true) i d ≡ true =
            ap (λ z. get_or (set old k true) z d) same ∙ get_or-set_same old k true d inside in
            (λ t. inr (sym same), λ t. at))
        | inr other ↦ (let at : get_or (set old k true) i d ≡ get_or old i d = get_or-set_other old k i true d other in
            let was = h.each i d l in
            (λ t. inl (was.0 (sym at ∙ t)), λ t. at ∙ was.1 (elim t [ inl g ↦ g | inr g ↦ absurd (other (sym g)) ])))
      ];
    })

pub flags_same : (P Q : ℕ → Type 0) (n : ℕ) (flags : List Bool) → ((i : ℕ) → i < n → P i ↔ Q i) → AreFlags P n flags
    → AreFlags Q n flags
flags_same P Q n flags f h = record {
  long = h.long;
  each = λ i d l. (λ t. (f i l).0 ((h.each i d l).0 t), λ t. (h.each i d l).1 ((f i l).1 t));
}
