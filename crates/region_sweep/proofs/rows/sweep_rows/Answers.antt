-- The rows above the last one have no colours.
use Rattle.std.proofs.Common.{ℕ, ◌≤◌, ◌-◌, sym, subst, arith, length}
use Rattle.strip_rows.specs.Swept.{IsSwept, strips_of}
use Rattle.region_sweep.specs.Blocks.{painted, AreStacked}
use Rattle.region_sweep.specs.Rows.{AreAnswered, IsBlank}
use Rattle.region_sweep.proofs.Painting.{blank_above}
use Rattle.region_sweep.proofs.rows.sweep_rows.Goals as goal

pub climb-requires-clause-blank : goal.climb-requires-clause-blank
climb-requires-clause-blank c =
    let front = c.in_ok-front.front in
    subst (λ m. IsBlank m c.args.size.cells front.tree front.kept front.strips) (sym c.in_ok-front.ensures.bare.of_mask)
    c.in_ok-front.ensures

pub climb-requires-clause-stacked : goal.climb-requires-clause-stacked
climb-requires-clause-stacked c =
    subst (λ m. AreStacked m c.args.size.cells c.args.size.rows c.args.blocks.now)
    (sym c.in_ok-front.ensures.bare.of_mask) c.requires.stacked

pub returns : goal.returns
returns c =
    let mask = c.args.mask in
    let rows = c.args.size.rows in
    let blocks = c.args.blocks.now in
    let spots = c.args.spots.now in
    let of_mask = c.in_ok-front.ensures.bare.of_mask in
    let strips = c.climb.new.self.strips in
    let found = c.climb.new.found in
    let swept : IsSwept (painted mask blocks) (rows - 1) strips =
    subst (λ m. IsSwept (painted m blocks) (rows - 1) strips) of_mask c.in_ok-climb.ensures.swept in
    let answers : AreAnswered (painted mask blocks) (strips_of strips) spots (length spots) found =
    subst (λ m. AreAnswered (painted m blocks) (strips_of strips) spots (length spots) found) of_mask
    c.in_ok-climb.ensures.answers in
    let above = λ (z x : ℕ) (l : rows - 1 ≤ z).
    blank_above c.colours_by_layers.ensures mask c.args.size.cells rows blocks z x c.requires.stacked
    (let r = c.requires.rows in omega arith) in
    record {
      strips = c.finish.ensures.strips (painted mask blocks) (rows - 1) swept above;
      touching = c.finish.ensures.touching (painted mask blocks) (rows - 1) swept above;
      answers = subst (λ s. AreAnswered (painted mask blocks) s spots (length spots) found)
          (sym c.finish.ensures.numbers) answers;
    }
