-- What a list of rectangles covers, and tests on all members of a list.
use Rattle.std.proofs.Common.{◌≡◌, ◌⊎◌, inl, inr, refl, sym, subst, Bool, true}
use Rattle.std.proofs.Common.{false, ◌&&◌, ◌||◌, List, [], ◌∷◌, ◌++◌, map}
use Rattle.std.specs.Prelude.{ℤ, flat_map}
use Rattle.std.proofs.lemmas.Bool.{and_parts, or_cases}
use Rattle.mp_base.proofs.Members.{Member}
use Rattle.lam_geom.specs.declared.layer.Layer.{Layer}
use Rattle.lam_geom.specs.declared.rect.Rect.{Rect}
use Rattle.lam_geom.specs.Squares.{Covers, covered}

pub covered_append : (rs qs : List Rect) (l : Layer) (x y : ℤ) → covered (rs ++ qs) l x y
    → covered rs l x y ⊎ covered qs l x y
covered_append [] qs l x y h = inr h
covered_append (r ∷ rs) qs l x y (inl c) = inl (inl c)
covered_append (r ∷ rs) qs l x y (inr h) = elim (covered_append rs qs l x y h) [ inl a ↦ inl (inr a) | inr a ↦ inr a ]

pub append_covered : (rs qs : List Rect) (l : Layer) (x y : ℤ) → covered rs l x y ⊎ covered qs l x y
    → covered (rs ++ qs) l x y
append_covered [] qs l x y (inl h) = absurd h
append_covered [] qs l x y (inr h) = h
append_covered (r ∷ rs) qs l x y (inl (inl c)) = inl c
append_covered (r ∷ rs) qs l x y (inl (inr c)) = inr (append_covered rs qs l x y (inl c))
append_covered (r ∷ rs) qs l x y (inr h) = inr (append_covered rs qs l x y (inr h))

pub covered_map : {A : Type 0} (g : A → Rect) (many : List A) (l : Layer) (x y : ℤ) → covered (map g many) l x y
    → (a : A) × Member many a × Covers (g a) l x y
covered_map g [] l x y h = absurd h
covered_map g (a ∷ many) l x y (inl c) = (a, inl refl, c)
covered_map g (a ∷ many) l x y (inr h) = let w = covered_map g many l x y h in (w.0, inr w.1, w.2)

pub map_covered : {A : Type 0} (g : A → Rect) (many : List A) (l : Layer) (x y : ℤ) (a : A) → Member many a
    → Covers (g a) l x y → covered (map g many) l x y
map_covered g [] l x y a m c = absurd m
map_covered g (b ∷ many) l x y a (inl e) c = inl (subst (λ z. Covers (g z) l x y) (sym e) c)
map_covered g (b ∷ many) l x y a (inr m) c = inr (map_covered g many l x y a m c)

pub covered_flat : {A : Type 0} (g : A → List Rect) (many : List A) (l : Layer) (x y : ℤ)
    → covered (flat_map g many) l x y → (a : A) × Member many a × covered (g a) l x y
covered_flat g [] l x y h = absurd h
covered_flat g (a ∷ many) l x y h = elim (covered_append (g a) (flat_map g many) l x y h)
    [ inl c ↦ (a, inl refl, c) | inr k ↦ (let w = covered_flat g many l x y k in (w.0, inr w.1, w.2)) ]

pub flat_covered : {A : Type 0} (g : A → List Rect) (many : List A) (l : Layer) (x y : ℤ) (a : A) → Member many a
    → covered (g a) l x y → covered (flat_map g many) l x y
flat_covered g [] l x y a m c = absurd m
flat_covered g (b ∷ many) l x y a (inl e) c = append_covered (g b) (flat_map g many) l x y
    (inl (subst (λ z. covered (g z) l x y) (sym e) c))
flat_covered g (b ∷ many) l x y a (inr m) c = append_covered (g b) (flat_map g many) l x y
    (inr (flat_covered g many l x y a m c))

-- ---- tests on all members
abbrev pub every : {A : Type 0} → (A → Bool) → List A → Bool
every f [] = true
every f (x ∷ xs) = f x && every f xs

pub every_at : {A : Type 0} (f : A → Bool) (xs : List A) (a : A) → every f xs ≡ true → Member xs a → f a ≡ true
every_at f [] a h m = absurd m
every_at f (x ∷ xs) a h (inl e) = subst (λ z. f z ≡ true) e (and_parts (f x) (every f xs) h).0
every_at f (x ∷ xs) a h (inr m) = every_at f xs a (and_parts (f x) (every f xs) h).1 m

abbrev pub some : {A : Type 0} → (A → Bool) → List A → Bool
some f [] = false
some f (x ∷ xs) = f x || some f xs

pub some_at : {A : Type 0} (f : A → Bool) (xs : List A) → some f xs ≡ true → (a : A) × Member xs a × (f a ≡ true)
some_at f [] h = absurd (cc)
some_at f (x ∷ xs) h = elim (or_cases (f x) (some f xs) h)
    [ inl e ↦ (x, inl refl, e) | inr e ↦ (let r = some_at f xs e in (r.0, inr r.1, r.2)) ]
