use Rattle.std.proofs.Common.{[], ◌∷◌, ◌∙◌, sym, subst}
use Rattle.std.specs.Prelude.{codes}
use Rattle.nor_net.specs.declared.net.Phase.TheVariants.{A, B, C}
use Rattle.drawing.specs.Draws.{Ground, Power, OfPhase}
use Rattle.path_labels.specs.Corners.{no_corners}
use Rattle.path_labels.specs.Labels.{Adds}
use Rattle.path_labels.proofs.Adding.{next_added, none_added}
use Rattle.path_labels.proofs.labels.supply_corners.Goals as goal

pub returns : goal.returns
returns c =
    let p = c.args.path.now in
    let f = c.args.fabric.now in
    let none : Adds p f [] [] no_corners c.none-corners.result =
    subst (λ l. Adds p f [] [] no_corners l) (sym c.none-corners.ensures) (none_added p f no_corners) in
    let one = next_added p f Power (codes "vdd") [] [] no_corners c.none-corners.result c.push.new.self
    c.power_corner.result none c.in_ok-push.ensures
    (record {
      named = c.power_corner.ensures.named ∙ c.in_ok-from_slice.ensures;
      there = c.power_corner.ensures.there;
      high = c.power_corner.ensures.high;
    }) in
    let two = next_added p f Ground (codes "gnd") (Power ∷ []) (codes "vdd" ∷ []) no_corners c.push.new.self
    c.push-2.new.self c.ground_corner.result one c.in_ok-push-2.ensures
    (record {
      named = c.ground_corner.ensures.named ∙ c.in_ok-from_slice-2.ensures;
      there = c.ground_corner.ensures.there f;
      high = c.ground_corner.ensures.high f;
    }) in
    let three = next_added p f (OfPhase A) (codes "phia") (Power ∷ Ground ∷ []) (codes "vdd" ∷ codes "gnd" ∷ [])
    no_corners c.push-2.new.self c.push-3.new.self c.in_ok-clock_corner.field-0 two c.in_ok-push-3.ensures
    (record {
      named = c.in_ok-clock_corner.ensures.named;
      there = c.in_ok-clock_corner.ensures.there;
      high = c.in_ok-clock_corner.ensures.high;
    }) in
    let four = next_added p f (OfPhase B) (codes "phib") (Power ∷ Ground ∷ OfPhase A ∷ [])
    (codes "vdd" ∷ codes "gnd" ∷ codes "phia" ∷ []) no_corners c.push-3.new.self c.push-4.new.self
    c.in_ok-clock_corner-2.field-0 three c.in_ok-push-4.ensures
    (record {
      named = c.in_ok-clock_corner-2.ensures.named;
      there = c.in_ok-clock_corner-2.ensures.there;
      high = c.in_ok-clock_corner-2.ensures.high;
    }) in
    next_added p f (OfPhase C) (codes "phic") (Power ∷ Ground ∷ OfPhase A ∷ OfPhase B ∷ [])
    (codes "vdd" ∷ codes "gnd" ∷ codes "phia" ∷ codes "phib" ∷ []) no_corners c.push-4.new.self c.push-5.new.self
    c.in_ok-clock_corner-3.field-0 four c.in_ok-push-5.ensures
    (record {
      named = c.in_ok-clock_corner-3.ensures.named;
      there = c.in_ok-clock_corner-3.ensures.there;
      high = c.in_ok-clock_corner-3.ensures.high;
    })
