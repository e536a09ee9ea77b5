-- Long legs, and neighbours all round.
use Rattle.std.proofs.Common.{◌≡◌, refl, subst, true}
use Rattle.std.specs.Prelude.{ℤ}
use Rattle.std.proofs.lemmas.Result.{IfOk-weaker}
use Rattle.lam_geom.specs.Rules.{IsOpenGate}
use Rattle.lam_geom.specs.Squares.{covered}
use Rattle.mask_runs.specs.declared.mask.Mask.TheVariants.{Diffusion}
use Rattle.mask_tiles.specs.Tiles.{AreTiles, AreWhole}
use Rattle.rule_rows.specs.Closed.{AreBordered, HaveLongLegs}
use Rattle.rule_rows.proofs.Closing.{none_open}
use Rattle.rule_rows.proofs.closed.are_closed.Goals as goal

pub returns : goal.returns
returns c =
    let shapes = c.args.shapes.now in
    let drawing = c.in_ok-gates.gates in
    let tiles = c.in_ok-swept.swept.tiles in
    let pairs = c.in_ok-swept.swept.pairs in
    let e = c.as_slice-tiles.ensures in
    let long = subst (λ p. HaveLongLegs tiles p) c.as_slice-2.ensures
    (subst (λ t. HaveLongLegs t c.as_slice-2.result.now) e (c.if-not-have_long_legs.ensures refl)) in
    IfOk-weaker c.are_bordered.result
    (λ b. b ≡ true → AreBordered (covered shapes) c.as_slice-tiles.result.now)
    (λ b. b ≡ true → (x y : ℤ) → ¬ IsOpenGate (covered shapes) x y)
    (λ b h is. none_open shapes drawing c.in_ok-gates.ensures tiles
    (subst (λ d. AreTiles d Diffusion tiles) c.as_slice.ensures c.in_ok-swept.ensures.tiles)
    (subst (λ d. AreWhole d Diffusion tiles) c.as_slice.ensures c.in_ok-swept.ensures.whole) pairs
    c.in_ok-swept.ensures.pairs long (subst (AreBordered (covered shapes)) e (h is))) c.are_bordered.ensures
