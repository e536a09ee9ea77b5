use Rattle.std.proofs.Common.{◌∙◌}
use Rattle.path_form.specs.declared.path.Lift.{Lift}
use Rattle.path_sources.specs.Sources.{lift_source, source_at}
use Rattle.path_sources.proofs.Telling.{told_all, told_more}
use Rattle.path_sources.proofs.sources.tell_lifts.Goals as goal

pub loop-lift-preserved : goal.loop-lift-preserved
loop-lift-preserved c =
    let d : Lift = record { slice = 0; from = record { 0 = 0 }; control = record { 0 = 0 } } in
    record {
      size = c.tell.ensures.size ∙ c.loop-lift.invariant.size;
      told = λ n. told_more (λ (l : Lift). l.control) lift_source n c.args.lifts.now c.loop-lift.lift-index d
          (source_at c.args.sources.now n) (source_at c.loop-lift.sources n) (source_at c.tell.new.sources n)
          c.loop-lift-test.true (c.loop-lift.invariant.told n) (c.tell.ensures.told n);
    }

pub returns-clause-told : goal.returns-clause-told
returns-clause-told c = λ n. c.loop-lift.invariant.told n
    ∙ told_all (λ (l : Lift). l.control) lift_source n c.args.lifts.now c.loop-lift.lift-index
    (source_at c.args.sources.now n)
    c.loop-lift-test.false
