-- What the steps promise makes the text a chip of the program.
use Rattle.std.proofs.Common.{ℕ, ◌≡◌, ◌∙◌, ◌+◌, ◌*◌, ◌≤◌, refl, ap, sym, subst, List, [], ◌∷◌, length, map, arith}
use Rattle.std.specs.Prelude.{All, codes, false, ℤ, pos, ◌+ℤ◌, ◌≤ℤ◌}
use Rattle.std.proofs.lemmas.Int.{ints}
use Rattle.std.proofs.Math.Nat.{mul-le-mul_left, le-max_left, le-max_right, max-le, le_trans}
use Rattle.lam_geom.specs.declared.label.FlatLabel.{FlatLabel}
use Rattle.lam_geom.specs.declared.rect.Rect.{Rect}
use Rattle.lam_geom.specs.Extent.{ExtentOfSquares, IsAtMost}
use Rattle.lam_geom.specs.Squares.{covered, SameSquares}
use Rattle.cif_form.specs.declared.command.Command.{Command}
use Rattle.cif_form.specs.declared.command.Item.{Item}
use Rattle.cif_form.specs.Text.{◌▹◌, Byte, Blanks}
use Rattle.cif_form.specs.Fits.{Fits}
use Rattle.cif_form.specs.Scans.{FileScans, Nests}
use Rattle.cif_form.specs.Scans.TextEnd.{Whole}
use Rattle.cif_form.specs.Walk.{walk_limit}
use Rattle.cif_form.specs.Writing.{written, placed_items}
use Rattle.cif_writer.specs.Texts.{file_text}
use Rattle.switch_net.specs.Laws.{TraceExists}
use Rattle.switch_net.specs.Breaks.{IsSoundMask}
use Rattle.mask_laws.specs.Laws.{NetworkExists, SoundBySquares}
use Rattle.mp_program.specs.declared.program.Program.{Program}
use Rattle.mp_program.specs.Exactly.{ExactlyOne}
use Rattle.mp_program.specs.Trace.{IsTrace}
use Rattle.mp_program.specs.Weight.{weight}
use Rattle.headline.specs.Headline.{IsChipOf}
use Rattle.fabric.specs.declared.chip.ChipLabel.{ChipLabel}
use Rattle.fabric.specs.Labelled.{AreLabelsOf}
use Rattle.rtl_form.specs.declared.rtl.Rtl.{Rtl}
use Rattle.rtl_form.specs.Cost.{cost}
use Rattle.process_plan.specs.Same.{IsSame}
use Rattle.chip_laws.specs.Planned.{IsPlanned}
use Rattle.cif_emit.specs.Emitted.{IsEmitted}
use Rattle.lam_geom.proofs.RuleLaws.{same_clean}
use Rattle.mask_laws.proofs.SameSquares.{turn}
use Rattle.compile_laws.proofs.Sizes.{same_sizes}
use Rattle.compile_laws.proofs.Written.{WrittenIsRead, feed, placed, semicolon}
use Rattle.compile_laws.specs.Laws.{most_high, most_rects, most_wide, pad_count, IsBounded, IsSmallChipOf, MakesChips}
use Rattle.compile_laws.proofs.Sequenced.{shows, settles}

-- what is written of commands that may stand where they do breaks no rule of texts
abbrev WrittenIsWhole : Type 0
WrittenIsWhole =
    (semi last : List ℕ) → (Byte 59 ▹ Blanks) semi → Blanks last → (cs : List Command) → All Fits cs → Nests false cs
    → FileScans (written semi last cs) (placed_items semi 0 cs) Whole

-- labels of a file have the names of the chip's
same_names : (labels : List ChipLabel) (flat : List FlatLabel) → AreLabelsOf labels flat
    → map (λ (l : FlatLabel). l.name) flat ≡ map (λ (l : ChipLabel). l.name) labels
same_names [] [] are = refl
same_names [] (f ∷ fs) are = absurd are
same_names (l ∷ ls) [] are = absurd are
same_names (l ∷ ls) (f ∷ fs) are =
    let name = (are.0).name in
    let names = same_names ls fs are.1 in
    λ i. name i ∷ names i

-- the walk of a chip stays within its limit
short_walk : (rects labels cost width : ℕ) → rects ≤ most_rects cost width → labels ≤ 64 * cost + 5
    → cost ≤ 1024 → width ≤ 64 → rects + labels + 65_536 ≤ walk_limit
short_walk rects labels cost width a b c d = grind (arith, a, b, c, d)

few_shapes : (shapes rects cost heavy width : ℕ) → shapes ≤ rects → rects ≤ most_rects cost width → cost ≤ heavy
    → shapes ≤ most_rects heavy width
few_shapes shapes rects cost heavy width a b c = grind (arith, a, b, c)

-- a drawing of the same squares is no larger, nor is it too large for a heavier program
module _ (squares : ExtentOfSquares) (rects shapes : List Rect)
    (same : SameSquares (covered rects) (covered shapes)) where
  back : SameSquares (covered shapes) (covered rects)
  back l x y = ((same l x y).1, (same l x y).0)

  farther : (low high : ℤ) (a b : ℕ) → a ≤ b → high ≤ℤ (low +ℤ pos (500 * a)) → high ≤ℤ (low +ℤ pos (500 * b))
  farther low high a b h k = omega (arith, ints)

  wider : (cost heavy pads : ℕ) → cost ≤ heavy → most_wide cost pads ≤ most_wide heavy pads
  wider cost heavy pads h = omega (arith, h)

  higher : (cost heavy width pads : ℕ) → cost ≤ heavy → most_high cost width pads ≤ most_high heavy width pads
  higher cost heavy width pads h =
      let bands : ℕ → ℕ = λ c. width * (12 * (c + 8) + 36) + 24 * (c + 8) + 96 in
      let m : width * (12 * (cost + 8) + 36) ≤ width * (12 * (heavy + 8) + 36) =
      mul-le-mul_left width (omega (arith, h)) in
      let low : bands cost ≤ bands heavy = omega (arith, h, m) in
      max-le (le_trans low (le-max_left (bands heavy) (60 * pads))) (le-max_right (bands heavy) (60 * pads))

  small_extent : (cost heavy width pads : ℕ) → cost ≤ heavy
      → IsAtMost (covered rects) (most_wide cost pads) (most_high cost width pads)
      → IsAtMost (covered shapes) (most_wide heavy pads) (most_high heavy width pads)
  small_extent cost heavy width pads h most e is =
      let m = most e (squares shapes rects back e is) in (
        farther e.left e.right (most_wide cost pads) (most_wide heavy pads) (wider cost heavy pads h) m.0,
        farther e.bottom e.top (most_high cost width pads) (most_high heavy width pads)
            (higher cost heavy width pads h) m.1,
      )

module _
    (reads : WrittenIsRead) (whole : WrittenIsWhole) (by_squares : SoundBySquares) (exist : TraceExists)
    (networks : NetworkExists) (squares : ExtentOfSquares) (p : Program)
    (traces : (inputs : List (List ℕ)) → ExactlyOne (IsTrace p inputs))
  where
    module _
        (r : Rtl) (rects : List Rect) (labels : List ChipLabel) (commands : List Command) (same : IsSame p r)
        (planned : IsPlanned r rects labels) (bounded : IsBounded r rects labels)
        (emitted : IsEmitted rects labels commands)
      where
        composed : length rects + length labels + 65_536 ≤ walk_limit → length rects ≤ most_rects (cost r) p.width
            → IsSmallChipOf p (file_text commands)
        composed walkable few =
            let items : List Item = placed_items (codes ";\n") 0 commands in
            let drawn = emitted.drawn items (placed (codes ";\n") 0 commands) in
            let plan = planned.draws drawn.flat drawn.labelled in
            let found = networks rects drawn.flat plan.labels_fit in
            let told = plan.each found.0 found.1 in
            let here : IsSoundMask (covered rects) drawn.flat found.0 r.pads =
            record { network = found.1; labels_fit = plan.labels_fit; few = plan.few; has_pads = told.0 } in
            let sound = by_squares rects drawn.shapes drawn.same drawn.flat found.0 r.pads here in
            let walked = drawn.few_walked in
            let chip : IsChipOf p (file_text commands) = record {
              pads = r.pads;
              are_pads = same.pads;
              network = found.0;
              draws = record {
                commands = items;
                shapes = drawn.shapes;
                labels = drawn.flat;
                read = reads (codes ";\n") (codes "\n") semicolon feed commands emitted.fit 0;
                well_formed = whole (codes ";\n") (codes "\n") semicolon feed commands emitted.fit emitted.nest;
                drawn = drawn.expands;
                drawable = drawn.walks (omega (arith, walked, walkable));
                mask = sound;
              };
              follows = λ inputs fit.
                  let t = traces inputs in
                  record {
                    outputs = t.0;
                    program = t.1;
                    runs = λ charge. exist found.0 r.pads charge inputs sound.has_pads fit;
                    agrees = λ charge after shown trace k lt settled.
                        told.1 inputs t.0 fit (shows p r same inputs t.0 fit t.1) charge after shown trace k lt
                        (settles p r same inputs k settled);
                  };
            } in
            record {
              chip = chip;
              few = few_shapes (length drawn.shapes) (length rects) (cost r) (weight p) p.width drawn.few few same.cost;
              extent =
                  let pads = pad_count r.pads in
                  small_extent squares rects drawn.shapes drawn.same (cost r) (weight p) p.width pads same.cost
                  (subst (λ w. IsAtMost (covered rects) (most_wide (cost r) pads) (most_high (cost r) w pads))
                  same.width bounded.extent);
              sized = same_sizes (covered rects) (covered drawn.shapes) drawn.same bounded.sized;
              clean = same_clean (covered drawn.shapes) (covered rects)
                  (turn (covered rects) (covered drawn.shapes) drawn.same) bounded.clean;
              ratioed = bounded.ratioed drawn.flat drawn.labelled found.0 found.1;
              named = same_names labels drawn.flat drawn.labelled ∙ planned.named;
              written = ap file_text (sym (placed (codes ";\n") 0 commands));
            }

    pub made : weight p ≤ 1024 → p.width ≤ 64 → MakesChips p
    made light narrow r rects labels commands same plan bounded emitted =
        let few : length rects ≤ most_rects (cost r) p.width =
        subst (λ n. length rects ≤ most_rects (cost r) n) same.width plan.few in
        let less = same.cost in
        let walk = short_walk (length rects) (length labels) (cost r) p.width few plan.few_labels
        (omega (arith, light, less)) narrow in
        composed r rects labels commands same plan.planned bounded emitted walk few
