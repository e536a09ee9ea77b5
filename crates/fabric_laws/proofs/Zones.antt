-- In which columns and rows things stand.
use Rattle.std.proofs.Common.{ℕ, ◌≡◌, ◌<◌, ◌≤◌, inl, inr, refl, ◌∙◌, ap, subst, arith, true, not, eqb}
use Rattle.std.proofs.lemmas.Bool.{cases_eq, and_from}
use Rattle.std.proofs.lemmas.List.Elements.{All-contains}
use Rattle.tile_cells.specs.declared.tile.Tile.{Tile}
use Rattle.tile_cells.specs.declared.tile.Tile.TheVariants.{TapL, TapR, Tran, PullUp, Under}
use Rattle.fabric.specs.declared.thing.Side.TheVariants.{L, R}
use Rattle.fabric.specs.Plan.{Plan, bands, rows_of, LineAt, IsFabric, IsMark, Stands}
use Rattle.fabric.specs.Shape.{last_column}
use Rattle.fabric_laws.proofs.Tile.{Thing, Here, MarkAt, Slot}
use Rattle.fabric_laws.proofs.Tile.Thing.{trunk, power, ground_start, ground_on, rail, rail_end, seg, lin, mark}
use Rattle.fabric_laws.proofs.Tile.Thing.{under_rail}
use Rattle.fabric.proofs.Lying.{some_rows, lies, segment_lies, crossing, passing, MarkLies}
use Rattle.fabric.proofs.Apart.{one_line}
use Rattle.fabric_laws.proofs.Tables.{Col, Row, column_of, stands_in, col_number, bars, together}
use Rattle.fabric_laws.proofs.Tables.Col.{west, middle, east}
use Rattle.fabric_laws.proofs.Tables.Row.{lowest, signal, top}

abbrev pub IsCol : Plan → ℕ → Col → Type 0
IsCol f c west = c ≡ 0
IsCol f c middle = (1 ≤ c) × (c < last_column f)
IsCol f c east = c ≡ last_column f

abbrev pub IsRow : Plan → ℕ → ℕ → Row → Type 0
IsRow f b r lowest = r ≡ 0
IsRow f b r signal = (1 ≤ r) × (r < rows_of f b)
IsRow f b r top = r ≡ rows_of f b

module _ (f : Plan) (w : IsFabric f) where
  pub row_at : (b r v : ℕ) → Slot f b r v → (q : Row) × IsRow f b r q
  row_at b r v (inl s) = elim (cases_eq r 0) [ inl e ↦ (lowest, e) | inr e ↦ (signal, (omega arith, s.0)) ]
  row_at b r v (inr s) = (top, s.0)

  -- the facts on a mark, at its tile
  pub mark_stands : (t : Tile) (b r c : ℕ) → MarkAt f t b r c → Stands f t b r c
  mark_stands t b r c m =
      let s = All-contains (IsMark f) f.marks m.mark_ w.marks m.among in
      subst (λ z. Stands f z b r c) m.tile
      (subst (λ z. Stands f m.mark_.tile z r c) m.band
      (subst (λ z. Stands f m.mark_.tile m.mark_.band z c) m.row
      (subst (λ z. Stands f m.mark_.tile m.mark_.band m.mark_.row z) m.column s)))

  -- the line on the left side that ends at a pull-up
  pub pull_up_line : (b r c : ℕ) → MarkAt f PullUp b r c → LineAt f L b c
  pull_up_line b r c m = let (row, (line, among, passes, last)) = mark_stands PullUp b r c m in
      record { line = line; among = among; passes = passes }

  pub mark_at_lies : (t : Tile) (b r c : ℕ) → MarkAt f t b r c → MarkLies f t b r c
  mark_at_lies t b r c m = lies f w t b r c (mark_stands t b r c m)

  pub here_col : (t : Thing) (b r c : ℕ) → Here f b r c t → IsCol f c (column_of t)
  here_col trunk b r c h = h
  here_col power b r c h = h
  here_col ground_start b r c h = h.0
  here_col ground_on b r c h = (h.0, h.1)
  here_col rail b r c h = (h.0, h.1)
  here_col rail_end b r c h = h.0
  here_col seg b r c h = let i = crossing f w b r c h in (i.left, i.right)
  here_col (lin s) b r c h = let i = passing f w h.0 s b c h.1 h.2 in (i.left, i.right)
  here_col (mark TapL) b r c h = let l = (mark_stands TapL b r c h.0).0 in
      let i = passing f w l.line L b c l.among l.passes in (i.left, i.right)
  here_col (mark TapR) b r c h = let l = (mark_stands TapR b r c h.0).0 in
      let i = passing f w l.line R b c l.among l.passes in (i.left, i.right)
  here_col (mark Tran) b r c h = let l = (mark_stands Tran b r c h.0).0 in
      let i = passing f w l.line L b c l.among l.passes in (i.left, i.right)
  here_col (mark PullUp) b r c h = let l = pull_up_line b r c h.0 in
      let i = passing f w l.line L b c l.among l.passes in (i.left, i.right)
  here_col (mark Under) b r c h = (mark_stands Under b r c h.0).0
  here_col under_rail b r c h = (mark_stands Under b r c h.0).0

  pub one_col : (c : ℕ) (y z : Col) → IsCol f c y → IsCol f c z → eqb (col_number y) (col_number z) ≡ true
  one_col c west west h k = refl
  one_col c west middle h k = let k0 = k.0 in absurd (omega arith)
  one_col c west east h k = let i = w.columns in absurd (omega arith)
  one_col c middle west h k = let h0 = h.0 in absurd (omega arith)
  one_col c middle middle h k = refl
  one_col c middle east h k = let h1 = h.1 in absurd (omega arith)
  one_col c east west h k = let i = w.columns in absurd (omega arith)
  one_col c east middle h k = let k1 = k.1 in absurd (omega arith)
  one_col c east east h k = refl

  in_low : (b r : ℕ) (q : Row) → b < bands f → r ≡ 0 → IsRow f b r q → stands_in ground_on q ≡ true
  in_low b r lowest hb e h = refl
  in_low b r signal hb e h = let h0 = h.0 in absurd (omega arith)
  in_low b r top hb e h = let i = some_rows f w b hb in absurd (omega arith)

  in_top : (b r : ℕ) (q : Row) → b < bands f → r ≡ rows_of f b → IsRow f b r q → stands_in rail q ≡ true
  in_top b r lowest hb e h = let i = some_rows f w b hb in absurd (omega arith)
  in_top b r signal hb e h = let h0 = h.1 in absurd (omega arith)
  in_top b r top hb e h = refl

  in_signal : (b r : ℕ) (q : Row) → 1 ≤ r → r < rows_of f b → IsRow f b r q → stands_in seg q ≡ true
  in_signal b r lowest h k i = absurd (omega arith)
  in_signal b r signal h k i = refl
  in_signal b r top h k i = absurd (omega arith)

  under_top : (b r : ℕ) (q : Row) → r < rows_of f b → IsRow f b r q → stands_in (mark TapL) q ≡ true
  under_top b r lowest h k = refl
  under_top b r signal h k = refl
  under_top b r top h k = absurd (omega arith)

  under_row : (b r c : ℕ) → MarkAt f Under b r c → r < rows_of f b → 1 ≤ r
  under_row b r c m h = go (mark_stands Under b r c m)
    where
      go : Stands f Under b r c → 1 ≤ r
      go (e, g, inl k) = absurd (omega arith)
      go (e, g, inr (s, ms, p, q, n)) = let i = segment_lies f w s ms in let i0 = i.row in omega arith

  pub here_row : (t : Thing) (b r c : ℕ) (q : Row) → b < bands f → Here f b r c t → IsRow f b r q → stands_in t q ≡ true
  here_row trunk b r c q hb h i = refl
  here_row power b r c q hb h i = refl
  here_row ground_start b r c q hb h i = in_low b r q hb h.1 i
  here_row ground_on b r c q hb h i = in_low b r q hb h.2 i
  here_row rail b r c q hb h i = in_top b r q hb h.2 i
  here_row rail_end b r c q hb h i = in_top b r q hb h.1 i
  here_row seg b r c q hb h i = let s = crossing f w b r c h in in_signal b r q s.low s.row i
  here_row (lin s) b r c q hb h i = refl
  here_row (mark TapL) b r c q hb h i = under_top b r q (mark_at_lies TapL b r c h.0).row i
  here_row (mark TapR) b r c q hb h i = under_top b r q (mark_at_lies TapR b r c h.0).row i
  here_row (mark Tran) b r c q hb h i = let s = crossing f w b r c (mark_stands Tran b r c h.0).2 in
      in_signal b r q s.low s.row i
  here_row (mark PullUp) b r c q hb h i = in_top b r q hb (mark_stands PullUp b r c h.0).0 i
  here_row (mark Under) b r c q hb h i = in_signal b r q (under_row b r c h.0 (h.1 refl)) (h.1 refl) i
  here_row under_rail b r c q hb h i = in_top b r q hb h.1 i

  -- a line through a pull-up row has no pull-up there
  no_bar : (b r c : ℕ) → Here f b r c (lin L) → Here f b r c (mark PullUp) → ⊥
  no_bar b r c (l, ml, p, g) h =
      let s = mark_stands PullUp b r c h.0 in
      let m = s.1 in
      let e : l ≡ m.0 = one_line f w L b c l m.0 ml m.1 p m.2 in
      let e0 : l.last_band ≡ b = ap (λ z. z.last_band) e ∙ m.3 in
      let s0 = s.0 in
      absurd (omega arith)

  no_bars : (t s : Thing) (b r c : ℕ) → Here f b r c t → Here f b r c s → not (bars t s) ≡ true
  no_bars (lin L) (mark PullUp) b r c h k = absurd (no_bar b r c h k)
  no_bars (mark PullUp) (lin L) b r c h k = absurd (no_bar b r c k h)
  no_bars t s b r c h k = refl

  -- Two things at one tile pass the test.
  pub are_together : (t s : Thing) (b r c : ℕ) (q : Row) → b < bands f → IsRow f b r q → Here f b r c t → Here f b r c s
      → together q t s ≡ true
  are_together t s b r c q hb i h k =
      let e0 = one_col c (column_of t) (column_of s) (here_col t b r c h) (here_col s b r c k) in
      let e1 = here_row t b r c q hb h i in
      let e2 = here_row s b r c q hb k i in
      let e3 = no_bars t s b r c h k in
      and_from _ _ (and_from _ _ (and_from _ _ e0 e1) e2) e3
