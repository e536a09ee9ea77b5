use Rattle.std.proofs.Common.{length, subst, ◌∙◌}
use Rattle.std.proofs.lemmas.Bool.{true≢false}
use Rattle.nor_net.specs.Shape.{given_at, values_at}
use Rattle.nor_net.specs.Passing.{Passed}
use Rattle.nor_net.proofs.Starting.{started_climbs, settled_when_same}
use Rattle.nor_net.proofs.setting.settle_net.Goals as goal

pub loop-more-init : goal.loop-more-init
loop-more-init c = (
  c.start.ensures.size,
  started_climbs c.args.net.now c.args.phase c.args.inputs.now c.args.values.now c.start.new.values c.requires.values
      c.start.ensures c.requires.fed,
  λ t. absurd (true≢false t),
)

pub loop-more-preserved : goal.loop-more-preserved
loop-more-preserved c =
    let i = c.loop-more.invariant in
    let h = c.pass-more.ensures in (
      h.size ∙ i.0,
      h.climbs (given_at c.args.net.now c.args.inputs.now) (values_at c.args.values.now) i.1,
      λ t.
          settled_when_same c.args.net.now c.args.phase (given_at c.args.net.now c.args.inputs.now)
          (values_at c.args.values.now) c.loop-more.values c.pass-more.new.values
          (subst (Passed c.args.net.now c.args.phase
          (length c.args.net.now) c.loop-more.values c.pass-more.new.values) t h) i.1,
    )
