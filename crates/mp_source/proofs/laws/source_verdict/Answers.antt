use Rattle.mp_source.proofs.Existing.{a_verdict}
use Rattle.mp_source.proofs.laws.source_verdict.Goals as goal

pub returns : goal.returns
returns c = a_verdict (record {
  texts = c.text_verdict.ensures;
  sound = c.spelled_is_sound.ensures.sound;
  symbols = c.spelled_is_sound.ensures.symbols;
  forms = c.forms_verdict.ensures;
  programs = c.written_verdict.ensures;
  expanded = c.has_expansion.ensures;
  placed = c.broken_at_a_place.ensures;
})
