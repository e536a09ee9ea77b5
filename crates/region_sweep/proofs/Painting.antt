-- The colours that blocks make.
use Rattle.std.proofs.Common.{ℕ, ◌≡◌, ◌+◌, ◌<◌, ◌≤◌, List, true, false, true≢false, inl, inr, refl, sym, ◌∙◌, subst}
use Rattle.std.proofs.Common.{arith, length}
use Rattle.std.specs.Prelude.{nat_lt}
use Rattle.std.specs.Bool.{Decides}
use Rattle.std.proofs.lemmas.Bool.Decides.{Decides-and, Decides-like, Decides-ltb, Decides-by_or, same_from_decides}
use Rattle.std.proofs.lemmas.Bool.{cases_lt, false_from_ne_true}
use Rattle.std.proofs.lemmas.List.{get_or_default}
use Rattle.mp_base.proofs.Tests.{decides_at_most}
use Rattle.lam_geom.specs.declared.layer.Layer.{Layer}
use Rattle.lam_geom.specs.declared.layer.Layer.TheVariants.{ND, NP, NC, NM, NI, NB, NG}
use Rattle.mask_runs.specs.declared.mask.Layers.{Layers}
use Rattle.mask_runs.specs.declared.mask.Mask.{Mask}
use Rattle.mask_runs.specs.declared.mask.Mask.TheVariants.{Only}
use Rattle.mask_runs.specs.Colours.{bare, has, uses, colour_of}
use Rattle.mask_runs.specs.Laws.{ColoursByLayers}
use Rattle.cover_tree.specs.Covers.{Cover, layers_at, row_colour}
use Rattle.cover_tree.proofs.Covering.{bare_colour}
use Rattle.region_sweep.specs.declared.block.Block.{Block}
use Rattle.region_sweep.specs.Blocks.{covers, is_covered, layers_over, painted, IsInside, AreStacked}
use Rattle.region_sweep.specs.Rows.{block, no_block, AreRaised}

pub layer_itself : (a : Layer) → uses (Only a) a ≡ true
layer_itself ND = refl
layer_itself NP = refl
layer_itself NC = refl
layer_itself NM = refl
layer_itself NI = refl
layer_itself NB = refl
layer_itself NG = refl

layer_only : (a b : Layer) → uses (Only a) b ≡ true → a ≡ b
layer_only ND ND h = refl
layer_only NP NP h = refl
layer_only NC NC h = refl
layer_only NM NM h = refl
layer_only NI NI h = refl
layer_only NB NB h = refl
layer_only NG NG h = refl
layer_only ND _ h = absurd (true≢false (sym h))
layer_only NP _ h = absurd (true≢false (sym h))
layer_only NC _ h = absurd (true≢false (sym h))
layer_only NM _ h = absurd (true≢false (sym h))
layer_only NI _ h = absurd (true≢false (sym h))
layer_only NB _ h = absurd (true≢false (sym h))
layer_only NG _ h = absurd (true≢false (sym h))

pub same_layer : (a b : Layer) → Decides (uses (Only a) b) (a ≡ b)
same_layer a b = (layer_only a b, λ e. subst (λ l. uses (Only a) l ≡ true) e (layer_itself a))

-- the block covers that cell of the layer
pub record CoversCell (b : Block) (l : Layer) (y c : ℕ) : Type 0 where
  pub same : b.layer ≡ l
  pub left : b.left ≤ c
  pub right : c < b.right
  pub low : b.low ≤ y
  pub high : y < b.high

covers_decides : (b : Block) (l : Layer) (y c : ℕ) → Decides (covers b l y c) (CoversCell b l y c)
covers_decides b l y c = Decides-like (covers b l y c)
    (λ ((((same, left), right), low), high). record { same = same; left = left; right = right; low = low; high = high })
    (λ h. ((((h.same, h.left), h.right), h.low), h.high))
    (Decides-and _ _
    (Decides-and _ _
    (Decides-and _ _ (Decides-and _ _ (same_layer b.layer l) (decides_at_most b.left c)) (Decides-ltb c b.right))
    (decides_at_most b.low y)) (Decides-ltb y b.high))

-- some block does
abbrev pub Covered : List Block → Layer → ℕ → ℕ → Type 0
Covered blocks l y c = (k : ℕ) × (k < length blocks) × CoversCell (block blocks k) l y c

pub covered_decides : (blocks : List Block) (l : Layer) (y c : ℕ)
    → Decides (is_covered blocks l y c) (Covered blocks l y c)
unfolding is_covered
covered_decides blocks l y c = Decides-like (is_covered blocks l y c)
    (λ h. (h.0, h.1, h.2 no_block))
    (λ h. (h.0, h.1, λ d. subst (λ b. CoversCell b l y c) (get_or_default blocks h.0 no_block d h.1) h.2))
    (Decides-by_or (λ b. covers b l y c) (λ b. CoversCell b l y c) (λ bs. is_covered bs l y c)
    (λ b. covers_decides b l y c) refl (λ _ _. refl) blocks)

pub has_over : (blocks : List Block) (y c : ℕ) (l : Layer) → has (layers_over blocks y c) l ≡ is_covered blocks l y c
has_over blocks y c ND = refl
has_over blocks y c NP = refl
has_over blocks y c NC = refl
has_over blocks y c NM = refl
has_over blocks y c NI = refl
has_over blocks y c NB = refl
has_over blocks y c NG = refl

pub has_at : (cover : Cover) (y c : ℕ) (l : Layer) → has (layers_at cover y c) l ≡ nat_lt y (cover.top l c)
has_at cover y c ND = refl
has_at cover y c NP = refl
has_at cover y c NC = refl
has_at cover y c NM = refl
has_at cover y c NI = refl
has_at cover y c NB = refl
has_at cover y c NG = refl

has_none : (l : Layer) → has bare l ≡ false
has_none ND = refl
has_none NP = refl
has_none NC = refl
has_none NM = refl
has_none NI = refl
has_none NB = refl
has_none NG = refl

-- layers that the mask uses tell the colour
pub painted_is : ColoursByLayers → (mask : Mask) (blocks : List Block) (y c : ℕ) (s : Layers)
    → ((l : Layer) → uses mask l ≡ true → has s l ≡ is_covered blocks l y c)
    → colour_of mask s ≡ painted mask blocks y c
unfolding painted
painted_is law mask blocks y c s h = law mask s (layers_over blocks y c) (λ l u. h l u ∙ sym (has_over blocks y c l))

-- where no block is there is no colour
pub blank_where : ColoursByLayers → (mask : Mask) (blocks : List Block) (y c : ℕ)
    → ((l : Layer) → Covered blocks l y c → ⊥)
    → painted mask blocks y c ≡ 0
blank_where law mask blocks y c h = sym (painted_is law mask blocks y c bare
    (λ l u. has_none l
    ∙ sym (false_from_ne_true (is_covered blocks l y c) (λ e. h l ((covered_decides blocks l y c).0 e)))))
    ∙ bare_colour mask

inside_at : (mask : Mask) (cells rows : ℕ) (blocks : List Block) (k : ℕ) → AreStacked mask cells rows blocks
    → k < length blocks
    → IsInside mask cells rows (block blocks k)
inside_at mask cells rows blocks k h l = h.each k no_block l

-- the guard cells and rows have no colour
pub blank_left : ColoursByLayers → (mask : Mask) (cells rows : ℕ) (blocks : List Block) (y : ℕ)
    → AreStacked mask cells rows blocks
    → painted mask blocks y 0 ≡ 0
blank_left law mask cells rows blocks y h = blank_where law mask blocks y 0
    (λ l g. let i = (inside_at mask cells rows blocks g.0 h g.1).left in let j = g.2.left in omega arith)

pub blank_right : ColoursByLayers → (mask : Mask) (cells rows : ℕ) (blocks : List Block) (y c : ℕ)
    → AreStacked mask cells rows blocks
    → cells ≤ c + 1 → painted mask blocks y c ≡ 0
blank_right law mask cells rows blocks y c h m = blank_where law mask blocks y c
    (λ l g. let i = (inside_at mask cells rows blocks g.0 h g.1).right in let j = g.2.right in omega arith)

pub blank_below : ColoursByLayers → (mask : Mask) (cells rows : ℕ) (blocks : List Block) (c : ℕ)
    → AreStacked mask cells rows blocks
    → painted mask blocks 0 c ≡ 0
blank_below law mask cells rows blocks c h = blank_where law mask blocks 0 c
    (λ l g. let i = (inside_at mask cells rows blocks g.0 h g.1).low in let j = g.2.low in omega arith)

pub blank_above : ColoursByLayers → (mask : Mask) (cells rows : ℕ) (blocks : List Block) (y c : ℕ)
    → AreStacked mask cells rows blocks
    → rows ≤ y + 1 → painted mask blocks y c ≡ 0
blank_above law mask cells rows blocks y c h m = blank_where law mask blocks y c
    (λ l g. let i = (inside_at mask cells rows blocks g.0 h g.1).high in let j = g.2.high in omega arith)

-- the tree has the colours of the row up to which blocks are raised
tops_tell : (blocks : List Block) (row raised : ℕ) (cover : Cover) (l : Layer) (c : ℕ)
    → AreRaised blocks row raised cover
    → ((k : ℕ) → raised ≤ k → k < length blocks → row < (block blocks k).low)
    → Decides (nat_lt row (cover.top l c)) (Covered blocks l row c)
tops_tell blocks row raised cover l c h rest = Decides-like (nat_lt row (cover.top l c))
    (λ t. let g = (h.tops l c row).0 t in let w = h.within in (
      g.0,
      omega
          arith,
      record { same = g.2.same; left = g.2.left; right = g.2.right; low = h.begun g.0 g.1; high = g.2.high },
    ))
    (λ g. elim (cases_lt g.0 raised) [
      | inl k ↦
          (h.tops l c row).1 (g.0, k, record { same = g.2.same; left = g.2.left; right = g.2.right; high = g.2.high })
      | inr k ↦ let a = rest g.0 k g.1 in let b = g.2.low in absurd (omega arith)
    ])
    (Decides-ltb row (cover.top l c))

pub row_painted : ColoursByLayers → (blocks : List Block) (row raised : ℕ) (cover : Cover) (c : ℕ)
    → AreRaised blocks row raised cover
    → ((k : ℕ) → raised ≤ k → k < length blocks → row < (block blocks k).low)
    → row_colour cover row c ≡ painted cover.mask blocks row c
row_painted law blocks row raised cover c h rest = painted_is law cover.mask blocks row c (layers_at cover row c)
    (λ l u. has_at cover row c l
    ∙ same_from_decides _ _ (tops_tell blocks row raised cover l c h rest) (covered_decides blocks l row c))
