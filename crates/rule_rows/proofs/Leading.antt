-- Pairs of tiles that lead.
use Rattle.std.proofs.Common.{ℕ, ◌≡◌, ◌+◌, ◌<◌, ◌⊎◌, inl, inr, refl, sym, ◌∙◌, ap, subst}
use Rattle.std.proofs.Common.{arith, List, [], get_or, length}
use Rattle.std.specs.Prelude.{◌↔◌, ℤ, neg_ℤ, ◌≤ℤ◌, ◌<ℤ◌, Some, slice_get}
use Rattle.std.proofs.lemmas.Bool.{cases_lt, cases_order}
use Rattle.std.proofs.lemmas.Int.{ints}
use Rattle.std.proofs.lemmas.Option.{get_or_from_slice_get, slice_get_within}
use Rattle.mp_base.proofs.Entries.{get_from_contains}
use Rattle.lam_geom.specs.declared.layer.Layer.{Layer}
use Rattle.lam_geom.specs.declared.layer.Layer.TheVariants.{ND}
use Rattle.lam_geom.specs.declared.rect.Rect.{Rect}
use Rattle.lam_geom.specs.Squares.{covered}
use Rattle.mask_runs.specs.declared.mask.Mask.TheVariants.{Diffusion}
use Rattle.mask_tiles.specs.declared.tile.Tile.{Tile}
use Rattle.mask_tiles.specs.Tiles.{AreTiles, AreWhole}
use Rattle.mask_tiles.specs.Touching.{Beside, TouchAt, AreTouching}
use Rattle.union_find.specs.declared.pair.Pair.{Pair}
use Rattle.rule_rows.specs.Nears.{bound, IsPlan, IsNearInRow, Leads, AddsLeads, IsLeading}
use Rattle.rule_rows.proofs.Nearing.{near_of_lead, led_of_near, IsLed}
use Rattle.rule_rows.proofs.Stretching.{no_tile}

abbrev pub no_pair : Pair
no_pair = record { a = 0; b = 0 }

abbrev pub tile_at : List Tile → ℕ → Tile
tile_at tiles n = get_or tiles n no_tile

-- one of two tiles leads to the other
abbrev Either : Tile → Tile → ℤ → ℤ → Type 0
Either a b x y = Leads a b x y ⊎ Leads b a x y

-- one of the first n pairs leads
pub record LedBy (tiles : List Tile) (pairs : List Pair) (n : ℕ) (x y : ℤ) : Type 0 where
  pub k : ℕ
  pub below : k < n
  pub leads : Either (tile_at tiles (get_or pairs k no_pair).a) (tile_at tiles (get_or pairs k no_pair).b) x y

abbrev OnField : ℤ → Type 0
OnField x = (neg_ℤ bound ≤ℤ x) × (x <ℤ bound)

pub record AreLed (tiles : List Tile) (pairs : List Pair) (n : ℕ) (rects : List Rect) : Type 0 where
  pub each : (l : Layer) (x y : ℤ) → covered rects l x y ↔ (l ≡ ND) × OnField x × LedBy tiles pairs n x y

pub led_none : (tiles : List Tile) (pairs : List Pair) → AreLed tiles pairs 0 []
led_none tiles pairs = record {
  each = λ l x y. (λ h. absurd h, λ h. let b = h.2.below in absurd (omega arith));
}

module _ (tiles : List Tile) (pairs : List Pair) (n : ℕ) (rects mid next : List Rect) where
  abbrev first : Tile
  first = tile_at tiles (get_or pairs n no_pair).a

  abbrev second : Tile
  second = tile_at tiles (get_or pairs n no_pair).b

  pub led_more : AreLed tiles pairs n rects → AddsLeads first second rects mid → AddsLeads second first mid next
      → AreLed tiles pairs (n + 1) next
  led_more a f g = record { each = λ l x y. (to l x y, from l x y) }
    where
      to : (l : Layer) (x y : ℤ) → covered next l x y → (l ≡ ND) × OnField x × LedBy tiles pairs (n + 1) x y
      to l x y h = elim ((g l x y).0 h) [
        | inl m ↦ elim ((f l x y).0 m) [
          | inl o ↦ (let w = (a.each l x y).0 o in let i = w.2 in let b = i.below in
              (w.0, w.1, record { k = i.k; below = omega arith; leads = i.leads }))
          | inr w ↦ (w.0, (w.1, w.2), record { k = n; below = omega arith; leads = inl w.3 })
        ]
        | inr w ↦ (w.0, (w.1, w.2), record { k = n; below = omega arith; leads = inr w.3 })
      ]

      from : (l : Layer) (x y : ℤ) → (l ≡ ND) × OnField x × LedBy tiles pairs (n + 1) x y → covered next l x y
      from l x y (e, o, i) = let b = i.below in elim (cases_lt i.k n) [
        | inl m ↦ (g l x y).1 (inl ((f l x y).1 (inl ((a.each l x y).1
            (e, o, record { k = i.k; below = m; leads = i.leads })))))
        | inr m ↦ (
            let same : i.k ≡ n = omega arith in
            let w = subst (λ k. Either (tile_at tiles (get_or pairs k no_pair).a)
            (tile_at tiles (get_or pairs k no_pair).b) x y) same i.leads in
            elim w [
              | inl p ↦ (g l x y).1 (inl ((f l x y).1 (inr (e, o.0, o.1, p))))
              | inr p ↦ (g l x y).1 (inr (e, o.0, o.1, p))
            ])
      ]

pub turned_round : (x y u v : ℤ) → Beside x y u v → Beside u v x y
turned_round x y u v (inl h) = inl (sym h.0, elim h.1 [ inl e ↦ inr e | inr e ↦ inl e ])
turned_round x y u v (inr h) = inr (sym h.0, elim h.1 [ inl e ↦ inr e | inr e ↦ inl e ])

module _ (plan : List Rect) (is : IsPlan plan) (tiles : List Tile) (are : AreTiles plan Diffusion tiles)
    (whole : AreWhole plan Diffusion tiles) (pairs : List Pair) (touching : AreTouching tiles pairs)
    (rects : List Rect) where
  near_of : (n : ℕ) (x y : ℤ) → n ≡ length pairs → LedBy tiles pairs n x y → IsNearInRow plan x y
  near_of n x y e i =
      let b = i.below in
      let at = touching.each i.k no_pair (omega arith) in
      let p = get_or pairs i.k no_pair in
      let l = slice_get_within tiles p.a at.first at.at_first in
      let m = slice_get_within tiles p.b at.second at.at_second in
      elim i.leads [
        | inl h ↦ near_of_lead plan is (tile_at tiles p.a) (tile_at tiles p.b) (are.each p.a no_tile l)
            (are.each p.b no_tile m) x y h
        | inr h ↦ near_of_lead plan is (tile_at tiles p.b) (tile_at tiles p.a) (are.each p.b no_tile m)
            (are.each p.a no_tile l) x y h
      ]

  paired : (n i j : ℕ) (a b : Tile) (x y : ℤ) → n ≡ length pairs → slice_get tiles i ≡ Some a
      → slice_get tiles j ≡ Some b → TouchAt tiles i j → Either a b x y → LedBy tiles pairs n x y
  paired n i j a b x y e f g t h =
      let c = touching.all (record { a = i; b = j }) t in
      let k = get_from_contains pairs (record { a = i; b = j }) c in
      let l = slice_get_within pairs k.0 (record { a = i; b = j }) k.1 in
      let p : get_or pairs k.0 no_pair ≡ record { a = i; b = j } =
      get_or_from_slice_get pairs k.0 (record { a = i; b = j }) no_pair k.1 in
      let q = get_or_from_slice_get tiles i a no_tile f in
      let r = get_or_from_slice_get tiles j b no_tile g in
      record {
        k = k.0;
        below = omega arith;
        leads = subst (λ p. Either (tile_at tiles p.a) (tile_at tiles p.b) x y) (sym p)
            (subst (λ s. Either s (tile_at tiles j) x y) (sym q) (subst (λ s. Either a s x y) (sym r) h));
      }

  led_by : (n : ℕ) (x y : ℤ) → n ≡ length pairs → IsLed plan is tiles are whole x y → LedBy tiles pairs n x y
  led_by n x y e i =
      let f = get_from_contains tiles i.from i.from_in in
      let g = get_from_contains tiles i.to i.to_in in
      let t = i.touch in
      elim (cases_order f.0 g.0) [
        | inl same ↦ absurd (apart (i.from) (i.to) x y (one f.0 g.0 i.from i.to same f.1 g.1) i.leads)
        | inr (inl l) ↦ paired n f.0 g.0 i.from i.to x y e f.1 g.1 (record {
          order = l;
          first = i.from;
          second = i.to;
          at_first = f.1;
          at_second = g.1;
          touch = t;
        }) (inl i.leads)
        | inr (inr l) ↦ paired n g.0 f.0 i.to i.from x y e g.1 f.1 (record {
          order = l;
          first = i.to;
          second = i.from;
          at_first = g.1;
          at_second = f.1;
          touch = record {
            x = t.u;
            y = t.v;
            u = t.x;
            v = t.y;
            in_first = t.in_second;
            in_second = t.in_first;
            beside = turned_round t.x t.y t.u t.v t.beside;
          };
        }) (inr i.leads)
      ]
    where
      one : (i j : ℕ) (a b : Tile) → i ≡ j → slice_get tiles i ≡ Some a → slice_get tiles j ≡ Some b → a ≡ b
      one i j a b e f g =
          sym (get_or_from_slice_get tiles i a no_tile f) ∙ ap (λ k. get_or tiles k no_tile) e
          ∙ get_or_from_slice_get tiles j b no_tile g

      apart : (a b : Tile) (x y : ℤ) → a ≡ b → ¬ Leads a b x y
      apart a b x y e h =
          let d = h.diffusion in
          let c : a.colour ≡ b.colour = ap (λ t. t.colour) e in
          elim h.way [
            | inl r ↦ elim r.start [ inl s ↦ (let f = s.0 in omega arith) | inr s ↦ (let f = s.0 in omega arith) ]
            | inr r ↦ elim r.start [ inl s ↦ (let f = s.0 in omega arith) | inr s ↦ (let f = s.0 in omega arith) ]
          ]

  pub all_led : (n : ℕ) → n ≡ length pairs → AreLed tiles pairs n rects → IsLeading plan rects
  all_led n e a = record {
    only = λ l x y h. ((a.each l x y).0 h).0;
    near = λ x y c. (
      λ h. near_of n x y e ((a.each ND x y).0 h).2,
      λ h. let m = (is.near x y c).0 in let p = m.0 in let q = m.1 in
          (a.each ND x y).1 (
            refl,
            (omega (arith, ints), omega (arith, ints)),
            led_by n x y e (led_of_near plan is tiles are whole x y c h),
          ),
    );
  }
