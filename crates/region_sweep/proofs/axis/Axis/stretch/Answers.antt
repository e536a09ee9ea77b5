-- Where the marks beside the stretch serve, they surround the place; all marks always do.
use Rattle.std.proofs.Common.{rules, arith, sym, inl, inr, length, get_or, ◌≡◌, ◌∙◌, ◌⊎◌, ◌-◌, ◌<◌}
use Rattle.std.specs.Int.{w64}
use Rattle.std.specs.Int.RustNames.{FitsSigned}
use Rattle.std.specs.Prelude.{pos, ◌≤ℤ◌, ◌<ℤ◌}
use Rattle.std.proofs.lemmas.Int.{ints, to_z-of_z}
use Rattle.std.proofs.lemmas.List.{get_or_default}
use Rattle.region_sweep.proofs.Axes.{surrounds}
use Rattle.region_sweep.proofs.axis.Axis.stretch.Goals.{then-from-eq0, else-from-eq0, then-to-count-2, else-to-count-2}
use Rattle.region_sweep.proofs.axis.Axis.stretch.Goals as goal

pub returns-then-place-index : goal.returns-then-place-index
returns-then-place-index c =
    let marks = c.args.self.now.marks.items in
    let place = c.args.place in
    let from = c.window-from.result.0 in
    let to = c.window-from.result.1 in
    let there = to_z-of_z w64 place c.ranges.place in
    let before : (from ≡ 0) ⊎ (get_or marks (from - 1) (pos 0) ≤ℤ place) =
    elim c.if-from-eq0.branch [
      | then-from-eq0 w ↦ inl (search rules)
      | else-from-eq0 w ↦
          let x = w.index.result.now in
          let fits : FitsSigned w64 x = search rules in
          let here = to_z-of_z w64 x fits in
          let inside : from - 1 < length marks = omega arith in
          let same : get_or marks (from - 1) (pos 0) ≡ x =
          get_or_default marks (from - 1) (pos 0) x inside ∙ sym w.index.ensures in
          let t = rw (here, there) at (sym w.value-is ∙ c.if-index-place.true) in
          inr (rw same (grind (arith, ints, t)))
    ] in
    let after : (to ≡ length marks) ⊎ (place <ℤ get_or marks to (pos 0)) =
    elim c.if-to-count-2.branch [
      | then-to-count-2 w ↦ inl (search rules)
      | else-to-count-2 w ↦
          let x = w.index-else-to-count-2.result.now in
          let fits : FitsSigned w64 x = search rules in
          let here = to_z-of_z w64 x fits in
          let inside : to < length marks = search rules in
          let same : get_or marks to (pos 0) ≡ x =
          get_or_default marks to (pos 0) x inside ∙ sym w.index-else-to-count-2.ensures in
          let t = rw (here, there) at (sym w.value-is ∙ c.if-place-index.true) in
          inr (rw same (grind (arith, ints, t)))
    ] in
    surrounds marks place from to c.args.self.now.ascending c.if-from-to.true (search rules) before after
