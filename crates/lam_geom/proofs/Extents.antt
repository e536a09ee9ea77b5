-- What is covered has at most one extent, and one where a square is covered.
use Rattle.std.proofs.Common.{◌≡◌, ◌⊎◌, inl, inr, refl, List, [], ◌∷◌, arith}
use Rattle.std.specs.Prelude.{ℤ, pos, ◌-ℤ◌, ◌≤ℤ◌, ◌<ℤ◌}
use Rattle.std.proofs.lemmas.Int.{ints, by_lt_z}
use Rattle.lam_geom.specs.declared.layer.Layer.{Layer}
use Rattle.lam_geom.specs.declared.rect.Rect.{Rect}
use Rattle.lam_geom.specs.Squares.{Covers, covered}
use Rattle.lam_geom.specs.Extent.{Edges, IsBetween, AreWithin, IsExtent, ExtentExists, OneExtent, ExtentOfSquares}

both_ways : (a b : ℤ) → a ≤ℤ b → b ≤ℤ a → a ≡ b
both_ways a b h k = omega (arith, ints)

edges_same : (e f : Edges) → AreWithin e f → AreWithin f e → e ≡ f
edges_same e f h k =
    let left = both_ways e.left f.left k.left h.left in
    let bottom = both_ways e.bottom f.bottom k.bottom h.bottom in
    let right = both_ways e.right f.right h.right k.right in
    let top = both_ways e.top f.top h.top k.top in
    λ i. record { left = left i; bottom = bottom i; right = right i; top = top i }

pub one_extent : OneExtent
one_extent shapes e f h k = edges_same e f (h.least f k.holds) (k.least e h.holds)

pub extent_of_squares : ExtentOfSquares
extent_of_squares rects shapes same e h = record {
  holds = λ l x y c. h.holds l x y ((same l x y).1 c);
  least = λ f k. h.least f (λ l x y c. k l x y ((same l x y).0 c));
}

-- the lesser of two
record IsLesser (a b m : ℤ) : Type 0 where
  first : m ≤ℤ a
  second : m ≤ℤ b
  greatest : (c : ℤ) → c ≤ℤ a → c ≤ℤ b → c ≤ℤ m

lesser : (a b : ℤ) → (m : ℤ) × IsLesser a b m
lesser a b = by_lt_z a b
    (λ l. (a, record { first = omega (arith, ints); second = omega (arith, ints); greatest = λ c h k. h }))
    (λ l. (b, record { first = l; second = omega (arith, ints); greatest = λ c h k. k }))

-- the greater of two
record IsGreater (a b m : ℤ) : Type 0 where
  first : a ≤ℤ m
  second : b ≤ℤ m
  least : (c : ℤ) → a ≤ℤ c → b ≤ℤ c → m ≤ℤ c

greater : (a b : ℤ) → (m : ℤ) × IsGreater a b m
greater a b = by_lt_z a b
    (λ l. (b, record { first = omega (arith, ints); second = omega (arith, ints); least = λ c h k. k }))
    (λ l. (a, record { first = omega (arith, ints); second = l; least = λ c h k. h }))

-- edges hold what edges within them hold
between : (e f : Edges) → AreWithin e f → (x y : ℤ) → IsBetween e x y → IsBetween f x y
between e f w x y b =
    let left = w.left in
    let bottom = w.bottom in
    let right = w.right in
    let top = w.top in
    let above = b.left in
    let over = b.bottom in
    let before = b.right in
    let below = b.top in
    record {
      left = omega (arith, ints);
      bottom = omega (arith, ints);
      right = omega (arith, ints);
      top = omega (arith, ints);
    }

module _ (c d : Layer → ℤ → ℤ → Type 0) (e f : Edges) (h : IsExtent c e) (k : IsExtent d f) where
  abbrev Either : Layer → ℤ → ℤ → Type 0
  Either l x y = c l x y ⊎ d l x y

  -- the extent of what two cover
  extent_of_both : (g : Edges) × IsExtent Either g
  extent_of_both =
      let left = lesser e.left f.left in
      let bottom = lesser e.bottom f.bottom in
      let right = greater e.right f.right in
      let top = greater e.top f.top in
      let g : Edges = record { left = left.0; bottom = bottom.0; right = right.0; top = top.0 } in
      let first : AreWithin e g = record {
        left = left.1.first;
        bottom = bottom.1.first;
        right = right.1.first;
        top = top.1.first;
      } in
      let second : AreWithin f g = record {
        left = left.1.second;
        bottom = bottom.1.second;
        right = right.1.second;
        top = top.1.second;
      } in
      let in_first = between e g first in
      let in_second = between f g second in (
        g,
        record {
          holds =
              λ l x y o. elim o [ inl a ↦ in_first x y (h.holds l x y a) | inr b ↦ in_second x y (k.holds l x y b) ];
          least = λ o all. (let a = h.least o (λ l x y m. all l x y (inl m)) in
              let b = k.least o (λ l x y m. all l x y (inr m)) in
              record {
                left = left.1.greatest o.left a.left b.left;
                bottom = bottom.1.greatest o.bottom a.bottom b.bottom;
                right = right.1.least o.right a.right b.right;
                top = top.1.least o.top a.top b.top;
              });
        },
      )

-- a rectangle that covers a square is its own extent
extent_of_one : (r : Rect) → r.x0 <ℤ r.x1 → r.y0 <ℤ r.y1 → (e : Edges) × IsExtent (Covers r) e
extent_of_one r h k = (
  record { left = r.x0; bottom = r.y0; right = r.x1; top = r.y1 },
  record {
    holds = λ l x y c. record { left = c.left; bottom = c.bottom; right = c.right; top = c.top };
    least =
        λ f all. (let low = all r.layer r.x0 r.y0 (record {
          same = refl;
          left = omega (arith, ints);
          right = h;
          bottom = omega (arith, ints);
          top = k;
        }) in
        let high = all r.layer (r.x1 -ℤ pos 1) (r.y1 -ℤ pos 1) (record {
          same = refl;
          left = omega (arith, ints);
          right = omega (arith, ints);
          bottom = omega (arith, ints);
          top = omega (arith, ints);
        }) in
        let right = high.right in
        let top = high.top in
        record { left = low.left; bottom = low.bottom; right = omega (arith, ints); top = omega (arith, ints) });
  },
)

-- nothing is covered
abbrev CoversNothing : (Layer → ℤ → ℤ → Type 0) → Type 0
CoversNothing c = (l : Layer) (x y : ℤ) → ¬ c l x y

-- the extent, where there is one
abbrev HasExtent : (Layer → ℤ → ℤ → Type 0) → Type 0
HasExtent c = (e : Edges) × IsExtent c e

no_column : (r : Rect) → r.x1 ≤ℤ r.x0 → CoversNothing (Covers r)
no_column r h l x y c =
    let left = c.left in
    let right = c.right in
    absurd (omega (arith, ints))

no_row : (r : Rect) → r.y1 ≤ℤ r.y0 → CoversNothing (Covers r)
no_row r h l x y c =
    let bottom = c.bottom in
    let top = c.top in
    absurd (omega (arith, ints))

extent_of_rect : (r : Rect) → HasExtent (Covers r) ⊎ CoversNothing (Covers r)
extent_of_rect r = by_lt_z r.x0 r.x1
    (λ h. by_lt_z r.y0 r.y1 (λ k. inl (extent_of_one r h k)) (λ k. inr (λ l x y c. no_row r k l x y c)))
    (λ h. inr (λ l x y c. no_column r h l x y c))

some_extent : (shapes : List Rect) → HasExtent (covered shapes) ⊎ CoversNothing (covered shapes)
some_extent [] = inr (λ l x y h. h)
some_extent (r ∷ rs) = more (extent_of_rect r) (some_extent rs)
  where
    more : HasExtent (Covers r) ⊎ CoversNothing (Covers r) → HasExtent (covered rs) ⊎ CoversNothing (covered rs)
        → HasExtent (covered (r ∷ rs)) ⊎ CoversNothing (covered (r ∷ rs))
    more (inl (e, h)) (inl (f, k)) = inl (extent_of_both (Covers r) (covered rs) e f h k)
    more (inl (e, h)) (inr n) = inl (
      e,
      record {
        holds = λ l x y o. elim o [ inl a ↦ h.holds l x y a | inr b ↦ absurd (n l x y b) ];
        least = λ g all. h.least g (λ l x y c. all l x y (inl c));
      },
    )
    more (inr n) (inl (f, k)) = inl (
      f,
      record {
        holds = λ l x y o. elim o [ inl a ↦ absurd (n l x y a) | inr b ↦ k.holds l x y b ];
        least = λ g all. k.least g (λ l x y c. all l x y (inr c));
      },
    )
    more (inr n) (inr m) = inr (λ l x y o. elim o [ inl a ↦ n l x y a | inr b ↦ m l x y b ])

pub extent_exists : ExtentExists
extent_exists shapes l x y c = elim (some_extent shapes) [ inl e ↦ e | inr n ↦ absurd (n l x y c) ]
