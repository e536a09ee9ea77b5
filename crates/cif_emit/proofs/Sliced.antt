-- The symbols of a chip can be drawn, and are determined by it.
use Rattle.std.proofs.Common.{ℕ, ◌≡◌, ◌+◌, ◌*◌, ◌<◌, ◌≤◌, inl, inr, refl, sym, ◌∙◌, ap, subst, arith, lit<, lit≤}
use Rattle.std.proofs.Common.{List, ◌∷◌, length, get_or, drop}
use Rattle.std.specs.Prelude.{ℤ, pos, All, Contains}
use Rattle.std.proofs.lemmas.Int.{ints}
use Rattle.std.proofs.lemmas.List.Elements.{All-contains, All-weaker}
use Rattle.std.proofs.Math.Nat.{mul-le-mul_left}
use Rattle.lam_geom.specs.declared.rect.Rect.{Rect}
use Rattle.lam_geom.specs.Moves.{IsNear, IsNearRect, far}
use Rattle.cif_form.specs.Fits.{IsSmall}
use Rattle.fabric.specs.declared.chip.Chip.{Chip}
use Rattle.fabric.specs.declared.chip.ChipLabel.{ChipLabel}
use Rattle.slice_symbols.specs.declared.bands.Bands.{Bands}
use Rattle.slice_symbols.specs.declared.symbols.Symbol.{Symbol}
use Rattle.slice_symbols.specs.Heights.{raised}
use Rattle.slice_symbols.specs.Drawn.{AreSymbolsOf, IsHeight, IsSymbolOf, SymbolsAreUnique}
use Rattle.cif_emit.specs.Emittable.{AreBands, AreBandsAbove, AreDrawable, CanShare, IsDrawable}
use Rattle.cif_emit.specs.Emittable.{IsEmittable, IsOnGrid, IsOnLambda, bands_above, chip_rects, far_band}
use Rattle.cif_emit.specs.Emitted.{AreSymbolsFor, AreSymbolsOfChip, CommandsAreUnique}
use Rattle.cif_emit.specs.Commands.{chip_commands}

near : (z : ℤ) → IsSmall z → IsNear z
near z h = (omega (arith, ints), omega (arith, ints))

near_rect : (r : Rect) → IsOnGrid r → IsNearRect r
near_rect r g = record {
  x0 = near r.x0 g.x0.small;
  y0 = near r.y0 g.y0.small;
  x1 = near r.x1 g.x1.small;
  y1 = near r.y1 g.y1.small;
}

pub all_near : (rects : List Rect) → All IsOnGrid rects → All IsNearRect rects
all_near rects h = All-weaker IsOnGrid IsNearRect near_rect rects h

swapped : (k m : ℕ) → k * (500 * m) ≡ 500 * (k * m)
swapped k m = grind arith

on_lambda : (h : ℤ) (n m : ℕ) → h ≡ pos n → n ≡ 500 * m → n < 2_147_483_648 → IsOnLambda h
on_lambda h n m e f less = record { whole = (pos m, omega (arith, ints)); small = omega (arith, ints) }

height_on : (b : Bands) → AreBands b → (h : ℤ) → IsHeight b h → IsOnLambda h
height_on b are h (k, less, e) =
    let m = are.whole in
    let low = are.low in
    let most : k * b.height ≤ k * 33_554_432 = mul-le-mul_left k (omega (arith, low)) in
    on_lambda h (k * b.height) (k * m.0) e (ap (λ n. k * n) m.1 ∙ swapped k m.0) (omega (arith, most, less))

module _ (rects : List Rect) (labels : List ChipLabel) (emittable : IsEmittable rects labels) (b : Bands)
    (are : AreBands b)
  where
    drawable : (s : Symbol) → IsSymbolOf rects b s → IsDrawable s
    drawable s is = record {
      corners = All-weaker (Contains rects) IsOnGrid (λ r has. All-contains IsOnGrid rects r emittable.corners has)
          s.shapes is.shapes;
      heights = All-weaker (IsHeight b) IsOnLambda (height_on b are) s.heights is.heights;
      near = All-weaker (λ h. All (λ r. Contains rects (raised h r)) s.shapes)
          (λ h. All (λ r. IsNearRect (raised h r)) s.shapes)
          (λ h has. All-weaker (λ r. Contains rects (raised h r)) (λ r. IsNearRect (raised h r))
          (λ r in_rects. near_rect (raised h r) (All-contains IsOnGrid rects (raised h r) emittable.corners in_rects))
          s.shapes has) s.heights is.among;
      few = is.few;
    }

    -- the symbols can be drawn, and draw the rectangles
    pub can_be_drawn : (symbols : List Symbol) → AreSymbolsOf rects b symbols → AreSymbolsFor rects labels symbols
    can_be_drawn symbols of = record {
      drawable = record {
        each = All-weaker (IsSymbolOf rects b) IsDrawable drawable symbols of.each;
        two = of.two;
        names = emittable.names;
      };
      same = of.same;
      few = of.few;
    }

-- ---- the bands

lowest_near : (lowest : ℕ) → lowest < 100_000 → IsNear (pos (500 * (12 * lowest + 36)))
lowest_near lowest l = (omega (arith, ints), omega (arith, ints))

far_near : IsNear (pos far)
far_near = (omega (arith, ints), omega (arith, ints))

above_are_bands : (rows : List ℕ) (lowest each : ℕ) (upper : List ℕ) → CanShare rows lowest each upper
    → AreBands (bands_above lowest each (length upper))
above_are_bands rows lowest each upper can =
    let several = can.several in
    let few = can.few in
    let lower = can.lower in
    record {
      usable = record {
        low = lowest_near lowest can.low;
        height = omega arith;
        few = few;
      };
      some = omega (arith, several);
      whole = (12 * each + 36, refl);
      low = omega (arith, lower);
    }

far_is_band : AreBands far_band
far_is_band = record {
  usable = record { low = far_near; height = lit< tt; few = lit≤ tt };
  some = lit≤ tt;
  whole = (1, refl);
  low = lit< tt;
}

pub are_bands : (rows : List ℕ) (b : Bands) → AreBandsAbove rows b → AreBands b
are_bands rows b (inl (lowest, each, upper, can, e)) =
    subst AreBands (sym e) (above_are_bands rows lowest each upper can)
are_bands rows b (inr (none, e)) = subst AreBands (sym e) far_is_band

-- lists with the same head and rest, of which each element of the rest is as the first
one_share : (rows : List ℕ) (lowest each : ℕ) (upper : List ℕ) (low all : ℕ) (others : List ℕ)
    → CanShare rows lowest each upper → CanShare rows low all others
    → bands_above lowest each (length upper) ≡ bands_above low all (length others)
one_share rows lowest each upper low all others a b =
    let same : lowest ∷ upper ≡ low ∷ others = sym a.are ∙ b.are in
    let first : lowest ≡ low = ap (λ xs. get_or xs 0 0) same in
    let rest : upper ≡ others = ap (drop 1) same in
    let one : get_or upper 0 0 ≡ each = a.alike 0 0 (let n = a.several in omega (arith, n)) in
    let two : get_or others 0 0 ≡ all = b.alike 0 0 (let n = b.several in omega (arith, n)) in
    let height : each ≡ all = sym one ∙ ap (λ xs. get_or xs 0 0) rest ∙ two in
    λ i. bands_above (first i) (height i) (length (rest i))

pub one_above : (rows : List ℕ) (b d : Bands) → AreBandsAbove rows b → AreBandsAbove rows d → b ≡ d
one_above rows b d (inl (lowest, each, upper, can, e)) (inl (low, all, others, too, f)) =
    e ∙ one_share rows lowest each upper low all others can too ∙ sym f
one_above rows b d (inl (lowest, each, upper, can, e)) (inr (none, f)) = absurd (none lowest each upper can)
one_above rows b d (inr (none, e)) (inl (low, all, others, too, f)) = absurd (none low all others too)
one_above rows b d (inr (none, e)) (inr (never, f)) = e ∙ sym f

-- ---- the commands

pub commands_unique : SymbolsAreUnique → CommandsAreUnique
commands_unique symbols_unique chip commands others p q =
    let a = p.of_chip in
    let b = q.of_chip in
    let bands : a.bands ≡ b.bands = one_above (chip.fabric).rows a.bands b.bands a.above b.above in
    let same : p.symbols ≡ q.symbols = symbols_unique (chip_rects chip) b.bands p.symbols q.symbols
    (subst (λ d. AreSymbolsOf (chip_rects chip) d p.symbols) bands a.sharing) b.sharing in
    p.are ∙ ap (λ ss. chip_commands ss chip.labels) same ∙ sym q.are

module _ (chip : Chip) (emittable : IsEmittable (chip_rects chip) chip.labels) (b : Bands)
    (above : AreBandsAbove (chip.fabric).rows b) (made symbols : List Symbol) (is : symbols ≡ made)
    (sharing : AreSymbolsOf (chip_rects chip) b made)
  where
    -- the symbols that were made are those of the chip
    pub made_of_chip : AreSymbolsOfChip chip symbols
    made_of_chip = record {
      bands = b;
      above = above;
      sharing = subst (AreSymbolsOf (chip_rects chip) b) (sym is) sharing;
    }

    -- they draw it
    pub made_drawn : AreSymbolsFor (chip_rects chip) chip.labels symbols
    made_drawn =
        can_be_drawn (chip_rects chip) chip.labels emittable b (are_bands (chip.fabric).rows b above) symbols
        (subst (AreSymbolsOf (chip_rects chip) b) (sym is) sharing)

    -- also with the labels that are read
    pub made_drawable : (labels : List ChipLabel) → labels ≡ chip.labels → AreDrawable symbols labels
    made_drawable labels e = subst (AreDrawable symbols) (sym e) made_drawn.drawable
