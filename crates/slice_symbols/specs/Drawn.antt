-- What symbols draw.
use Rattle.std.specs.Prelude.{ℕ, ◌≡◌, ◌<◌, ◌≤◌, List, [], ◌∷◌, length, map, All, Contains, ℤ}
use Rattle.std.specs.List.{flat_map}
use Rattle.lam_geom.specs.declared.rect.Rect.{Rect}
use Rattle.lam_geom.specs.Moves.{IsNearRect}
use Rattle.lam_geom.specs.Squares.{covered, SameSquares}
use Rattle.slice_symbols.specs.declared.bands.Bands.{Bands}
use Rattle.slice_symbols.specs.declared.symbols.Symbol.{Symbol}
use Rattle.slice_symbols.specs.Heights.{AreUsable, height_of, heights, raised}
use Rattle.slice_symbols.specs.Shared.{AreSharedOut}

-- the rectangles of a symbol, at each of its heights
abbrev pub symbol_rects : Symbol → List Rect
symbol_rects s = flat_map (λ h. map (raised h) s.shapes) s.heights

abbrev pub drawn_rects : List Symbol → List Rect
drawn_rects symbols = flat_map symbol_rects symbols

-- how far one of at most 64 bands lies above the first
abbrev pub IsHeight : Bands → ℤ → Type 0
IsHeight b h = (k : ℕ) × (k < 64) × (h ≡ height_of b k)

-- a symbol of rectangles that are among these as they stand and as they are drawn, at heights of bands
pub record IsSymbolOf (rects : List Rect) (b : Bands) (s : Symbol) : Type 0 where
  pub shapes : All (Contains rects) s.shapes
  pub heights : All (IsHeight b) s.heights
  pub among : All (λ h. All (λ r. Contains rects (raised h r)) s.shapes) s.heights
  pub few : length s.heights ≤ 64

-- the rectangles, drawn in so many bands
abbrev pub symbol_of : Bands → ℕ → List Rect → Symbol
symbol_of b many rects = record { shapes = rects; heights = heights b many }

-- a symbol of what is common, drawn in each band, if anything is, and one of the rest
abbrev pub symbols_of_both : Bands → List Rect → List Rect → List Symbol
symbols_of_both b [] rest = symbol_of b 1 rest ∷ []
symbols_of_both b (c ∷ cs) rest = symbol_of b b.count (c ∷ cs) ∷ symbol_of b 1 rest ∷ []

-- The symbols of what stands alike in each band and of the rest: at most two, which draw the squares of the rectangles
-- in no more shapes.
pub record AreSymbolsOf (rects : List Rect) (b : Bands) (symbols : List Symbol) : Type 0 where
  pub common : List Rect
  pub rest : List Rect
  pub out : AreSharedOut rects b common rest
  pub are : symbols ≡ symbols_of_both b common rest
  pub each : All (IsSymbolOf rects b) symbols
  pub two : length symbols ≤ 2
  pub same : SameSquares (covered rects) (covered (drawn_rects symbols))
  pub few : length (drawn_rects symbols) ≤ length rects

-- there are no two lists of symbols of the same rectangles
abbrev pub SymbolsAreUnique : Type 0
SymbolsAreUnique = (rects : List Rect) (b : Bands) (symbols others : List Symbol) → AreSymbolsOf rects b symbols
    → AreSymbolsOf rects b others → symbols ≡ others

-- usable bands and rectangles that are near have symbols
abbrev pub SymbolsExist : Type 0
SymbolsExist = (rects : List Rect) (b : Bands) → AreUsable b → 1 ≤ b.count → All IsNearRect rects
    → (symbols : List Symbol) × AreSymbolsOf rects b symbols
