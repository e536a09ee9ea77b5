use Rattle.std.proofs.Common.{arith, subst}
use Rattle.std.proofs.lemmas.Int.{ints}
use Rattle.std.specs.Prelude.{IfOk, IfErr}
use Rattle.cif_place.specs.Shaping.{IsAroundCenter, IsUneven}
use Rattle.cif_place.proofs.Shapes.{box_along, box_across}
use Rattle.cif_place.proofs.shape.box_edges.Goals as goal

pub returns-then-direction-eq0 : goal.returns-then-direction-eq0
returns-then-direction-eq0 c =
    let r = box_along c.args.ratio c.args.center c.args.direction c.args.extent c.edges_around.result
    (omega (arith, ints)) (λ e. omega (arith, ints)) c.edges_around.ensures.ok c.edges_around.ensures.err in
    record { ok = r.0; err = r.1 }

pub returns-then-direction-eq0-3 : goal.returns-then-direction-eq0-3
returns-then-direction-eq0-3 c =
    let s = c.edges_around-then-direction-eq0-3 in
    let r = box_across c.args.ratio c.args.center c.args.direction c.args.extent s.result (omega (arith, ints))
    (λ e. omega (arith, ints))
    (subst (λ e. IfOk s.result (IsAroundCenter c.args.ratio e c.args.center)) c.turned.ensures s.ensures.ok)
    (subst (λ e. IfErr s.result (IsUneven c.args.ratio e c.args.center)) c.turned.ensures s.ensures.err) in
    record { ok = r.0; err = r.1 }
