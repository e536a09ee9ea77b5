use Rattle.made_source.proofs.Sources.{made_is_source}
use Rattle.made_source.proofs.laws.made_sources_are_sources.Goals as goal

pub returns : goal.returns
returns c = made_is_source (record {
  sound = c.spelled_is_sound.ensures.sound;
  symbols = c.spelled_is_sound.ensures.symbols;
  written = c.written_forms_are_spelled.ensures;
  verdict = c.forms_verdict.ensures;
  frame = c.one_frame.ensures;
  same = c.same_rules.ensures;
  expansions = record {
    lawful = c.uses_are_lawful.ensures;
    weighs = c.weighs.ensures;
    counts = c.counts.ensures;
  };
  unbroken = c.made_programs_are_unbroken.ensures;
})
