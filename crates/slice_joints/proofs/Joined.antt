-- What one joint adds, from what its columns and numbers are.
use Rattle.std.proofs.Common.{◌≡◌, ℕ, suc, ◌+◌, ◌==◌, Some, Bool, true, false, not, List, [], ◌∷◌, ◌++◌, map}
use Rattle.std.proofs.Common.{refl}
use Rattle.std.proofs.Common.{sym, ◌∙◌, ap, arith, append_assoc}
use Rattle.std.specs.Prelude.{flat_map, slice_get, max, min, if◌then◌else◌}
use Rattle.std.specs.List.{range_with_len}
use Rattle.tile_cells.specs.declared.tile.Tile.TheVariants.{TapL, TapR}
use Rattle.fabric.specs.declared.thing.Line.{Line}
use Rattle.fabric.specs.declared.thing.Mark.{Mark}
use Rattle.fabric.specs.declared.thing.Side.{Side}
use Rattle.fabric.specs.declared.thing.Side.TheVariants.{L, R}
use Rattle.array_form.specs.Homes.{home}
use Rattle.array_form.specs.Lists.{upright, mark}
use Rattle.slice_form.specs.Joints.{lift_lines, bit_lines}
use Rattle.slice_form.specs.Path.{Path, Carry, Cast, Lift, Programmed}
use Rattle.slice_form.specs.PathLists.{slices_of, others_of}
use Rattle.slice_form.specs.PathWires.{chain_line, side_of}
use Rattle.slice_form.specs.Slices.{across_of, cast_column, chain_column, lift_column, lift_top, plain_slice}
use Rattle.slice_laying.specs.Added.{cast_taps, lift_taps, bit_tap, bit_marks, chain_taps}
use Rattle.slice_joints.specs.Joining.{stub_joint}
use Rattle.slice_joints.specs.Tapping.{stub_tap, bit_marks_at, link_marks, open_mark}
use Rattle.slice_layout.proofs.Growth.{passing}

module _ (p : Path) (i : ℕ) where
  -- ---- lines
  pub lift_joined : (l : Lift) → slice_get p.lifts i ≡ Some l → (column : ℕ) → column ≡ lift_column p i
      → (old one all : List Line) (first : Line) → one ≡ old ++ first ∷ [] → first ≡ upright column L 0 (l.slice + 1)
      → all ≡ one ++ flat_map (stub_joint column l.slice) (slices_of p)
      → all ≡ old ++ lift_lines p i (slice_get p.lifts i)
  lift_joined l h column ce old one all first e f g =
      let stubs = flat_map (stub_joint column l.slice) (slices_of p) in
      let s : l.slice + 1 ≡ suc l.slice = omega arith in
      g ∙ (ap (λ x. x ++ stubs) e ∙ (append_assoc old (first ∷ []) stubs ∙ ap (λ x. old ++ x)
      ((λ j. f j ∷ passing (λ b. not (b == suc l.slice)) (λ b. upright column R b b) (slices_of p) j)
      ∙ (ap (λ z. upright z L 0 (l.slice + 1) ∷ map (λ b. upright z R b b) (others_of p l)) ce
      ∙ (ap (λ t. upright (lift_column p i) L 0 t ∷ map (λ b. upright (lift_column p i) R b b) (others_of p l))
      (s ∙ sym (ap lift_top h))
      ∙ sym (ap (lift_lines p i) h))))))

  pub bit_joined : (g : Programmed) → slice_get p.programs i ≡ Some g → (column : ℕ)
      → column ≡ home (plain_slice p) g.net → (old all : List Line)
      → all ≡ old ++ flat_map (λ b. upright column L b b ∷ upright column R b b ∷ []) (slices_of p)
      → all ≡ old ++ bit_lines p (slice_get p.programs i)
  bit_joined g h column ce old all e =
      e ∙ (ap (λ z. old ++ flat_map (λ b. upright z L b b ∷ upright z R b b ∷ []) (slices_of p)) ce
      ∙ ap (λ q. old ++ bit_lines p q) (sym h))

  pub chain_joined : (c : Carry) → slice_get p.chains i ≡ Some c → (column : ℕ)
      → column ≡ home (plain_slice p) c.to → (g : ℕ) (side : Side) → side ≡ side_of g
      → upright column side (max g 1) (min (g + 1) p.width) ≡ across_of p (chain_line i g)
  chain_joined c h column ce g side se =
      let at = ce ∙ sym (ap (chain_column p) h) in
      let lo : max g 1 ≡ max 1 g = omega arith in
      let hi : min (g + 1) p.width ≡ min (suc g) p.width = omega arith in
      λ j. upright (at j) (se j) (lo j) (hi j)

  -- ---- marks
  pub cast_tapped : (c : Cast) → slice_get p.casts i ≡ Some c → (row : ℕ → ℕ) (column : ℕ) → column ≡ cast_column i
      → (old all : List Mark) → all ≡ old ++ map (λ b. mark TapL b (suc (row c.slice)) column) (slices_of p)
      → all ≡ old ++ cast_taps p row i (slice_get p.casts i)
  cast_tapped c h row column ce old all e =
      e ∙ (ap (λ z. old ++ map (λ b. mark TapL b (suc (row c.slice)) z) (slices_of p)) ce
      ∙ ap (λ q. old ++ cast_taps p row i q) (sym h))

  pub lift_tapped : (l : Lift) → slice_get p.lifts i ≡ Some l → (row : ℕ → ℕ) (column : ℕ) → column ≡ lift_column p i
      → (old one all : List Mark) (first : Mark) → one ≡ old ++ first ∷ []
      → first ≡ mark TapL (suc l.slice) (suc (row l.start)) column
      → all ≡ one ++ flat_map (stub_tap row l.start l.slice column) (slices_of p)
      → all ≡ old ++ lift_taps p row i (slice_get p.lifts i)
  lift_tapped l h row column ce old one all first e f g =
      let stubs = flat_map (stub_tap row l.start l.slice column) (slices_of p) in
      g ∙ (ap (λ x. x ++ stubs) e ∙ (append_assoc old (first ∷ []) stubs ∙ ap (λ x. old ++ x)
      ((λ j. f j ∷ passing (λ b. not (b == suc l.slice)) (λ b. mark TapR b (suc (row l.start)) column)
      (slices_of p) j)
      ∙ (ap (λ z. mark TapL (suc l.slice) (suc (row l.start)) z ∷ map (λ b. mark TapR b (suc (row l.start)) z)
      (others_of p l)) ce
      ∙ sym (ap (lift_taps p row i) h)))))

  pub program_tapped : (g : Programmed) → slice_get p.programs i ≡ Some g → (top : ℕ) (row : ℕ → ℕ) (column : ℕ)
      → column ≡ home (plain_slice p) g.net → (old all : List Mark)
      → all ≡ old ++ flat_map (λ k. bit_marks_at top row g.net column (suc k) (slice_get g.bits k))
      (range_with_len 0 p.width)
      → all ≡ old ++ bit_marks p top row (slice_get p.programs i)
  program_tapped g h top row column ce old all e =
      e ∙ (ap (λ z. old ++ flat_map (λ k. bit_marks_at top row g.net z (suc k) (slice_get g.bits k))
      (range_with_len 0 p.width)) ce
      ∙ ap (λ q. old ++ bit_marks p top row q) (sym h))

  pub chain_tapped : (c : Carry) → slice_get p.chains i ≡ Some c → (row : ℕ → ℕ) (column : ℕ)
      → column ≡ home (plain_slice p) c.to → (old one all : List Mark)
      → one ≡ old ++ open_mark p c column ∷ []
      → all ≡ one ++ flat_map (link_marks row c column) (range_with_len 0 p.width)
      → all ≡ old ++ chain_taps p row (slice_get p.chains i)
  chain_tapped c h row column ce old one all e g =
      let links = flat_map (link_marks row c column) (range_with_len 0 p.width) in
      g ∙ (ap (λ x. x ++ links) e ∙ (append_assoc old (open_mark p c column ∷ []) links
      ∙ (ap (λ z. old ++ open_mark p c z ∷ flat_map (link_marks row c z) (range_with_len 0 p.width)) ce
      ∙ ap (λ q. old ++ chain_taps p row q) (sym h))))

-- the tile of a bit
pub bit_tapped : (bit : Bool) (row : ℕ → ℕ) (b n column : ℕ)
    → mark (if bit then TapL else TapR) b (suc (row n)) column ∷ [] ≡ bit_tap row b n column (Some bit)
bit_tapped true row b n column = refl
bit_tapped false row b n column = refl
