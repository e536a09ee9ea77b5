use Rattle.std.proofs.Common.{◌∙◌, ap, sym, Some}
use Rattle.std.specs.Option.{option_map}
use Rattle.outside_doubles.proofs.MemoryLemmas.{get_text, items_of}
use Rattle.outside_doubles.proofs.memory.text_of.Goals as goal

pub returns-in-Some : goal.returns-in-Some
returns-in-Some c =
    ap Some c.as_slice.ensures.value ∙ ap (option_map items_of) c.in-Some.ensures.value
    ∙ sym (get_text c.args.files.now c.args.name.now)

pub returns-in-None : goal.returns-in-None
returns-in-None c = ap (option_map items_of) c.in-None.ensures.value ∙ sym (get_text c.args.files.now c.args.name.now)
