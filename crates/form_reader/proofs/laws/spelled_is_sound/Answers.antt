use Rattle.form_reader.proofs.Soundness.{sound}
use Rattle.form_reader.proofs.Symbols.{has_symbols}
use Rattle.form_reader.proofs.laws.spelled_is_sound.Goals as goal

pub returns-clause-sound : goal.returns-clause-sound
returns-clause-sound c = sound

pub returns-clause-symbols : goal.returns-clause-symbols
returns-clause-symbols c = has_symbols
