use Rattle.std.proofs.Common.{◌∙◌}
use Rattle.organelles.specs.declared.slices.Programmed.{Programmed}
use Rattle.path_sources.specs.Sources.{program_source, source_at}
use Rattle.path_sources.proofs.Telling.{told_all, told_more}
use Rattle.path_sources.proofs.sources.tell_programs.Goals as goal

pub loop-program-preserved : goal.loop-program-preserved
loop-program-preserved c =
    let d : Programmed = record { net = record { 0 = 0 }; bits = 0 } in
    record {
      size = c.tell.ensures.size ∙ c.loop-program.invariant.size;
      told = λ n. told_more (λ (p : Programmed). p.net) program_source n c.args.programs.now
          c.loop-program.program-index d
          (source_at c.args.sources.now n) (source_at c.loop-program.sources n) (source_at c.tell.new.sources n)
          c.loop-program-test.true (c.loop-program.invariant.told n) (c.tell.ensures.told n);
    }

pub returns-clause-told : goal.returns-clause-told
returns-clause-told c = λ n. c.loop-program.invariant.told n
    ∙ told_all (λ (p : Programmed). p.net) program_source n c.args.programs.now c.loop-program.program-index
    (source_at c.args.sources.now n)
    c.loop-program-test.false
