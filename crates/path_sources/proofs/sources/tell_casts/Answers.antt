use Rattle.std.proofs.Common.{◌∙◌}
use Rattle.path_form.specs.declared.path.Cast.{Cast}
use Rattle.path_sources.specs.Sources.{cast_source, source_at}
use Rattle.path_sources.proofs.Telling.{told_all, told_more}
use Rattle.path_sources.proofs.sources.tell_casts.Goals as goal

pub loop-cast-preserved : goal.loop-cast-preserved
loop-cast-preserved c =
    let d : Cast = record { control = record { 0 = 0 }; slice = record { 0 = 0 } } in
    record {
      size = c.tell.ensures.size ∙ c.loop-cast.invariant.size;
      told = λ n. told_more (λ (c : Cast). c.slice) cast_source n c.args.casts.now c.loop-cast.cast-index d
          (source_at c.args.sources.now n) (source_at c.loop-cast.sources n) (source_at c.tell.new.sources n)
          c.loop-cast-test.true (c.loop-cast.invariant.told n) (c.tell.ensures.told n);
    }

pub returns-clause-told : goal.returns-clause-told
returns-clause-told c = λ n. c.loop-cast.invariant.told n
    ∙ told_all (λ (c : Cast). c.slice) cast_source n c.args.casts.now c.loop-cast.cast-index
    (source_at c.args.sources.now n)
    c.loop-cast-test.false
