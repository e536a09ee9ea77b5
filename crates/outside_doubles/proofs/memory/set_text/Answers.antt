use Rattle.std.proofs.Common.{◌≡◌, ◌∙◌, ap, string_bytes}
use Rattle.std.specs.FinMap.{insert}
use Rattle.std.proofs.lemmas.Result.{IfOk-at_ok}
use Rattle.outside_doubles.specs.Memory.{files_of}
use Rattle.outside_doubles.proofs.MemoryLemmas.{set_of_updates}
use Rattle.outside_doubles.proofs.memory.set_text.Goals as goal

pub returns-clause-ok : goal.returns-clause-ok
returns-clause-ok c =
    let key_is_name = IfOk-at_ok (λ s. string_bytes s ≡ c.args.name.now) c.in_ok-key.was c.from_str.ensures.ok in
    set_of_updates c.args.files.now c.insert.new.self
    (string_bytes c.in_ok-key.key) c.args.text c.in_ok-insert.ensures.updates
    ∙ ap (λ name. insert (files_of c.args.files.now.entries) name c.args.text.items) key_is_name
