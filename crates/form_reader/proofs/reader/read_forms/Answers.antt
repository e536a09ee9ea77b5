use Rattle.std.proofs.Common.{refl, rules}
use Rattle.form_reader.proofs.Soundness.{sound}
use Rattle.form_reader.proofs.Reached.{spells_all}
use Rattle.form_reader.proofs.Symbols.{has_symbols}
use Rattle.form_reader.proofs.Unique.{one_value, refused_for_memory}
use Rattle.form_reader.proofs.reader.read_forms.Goals as goal

pub returns-clause-judged : goal.returns-clause-judged
returns-clause-judged c = (c.in_ok-items.ensures.found.ended refl).whole

pub returns-clause-sound : goal.returns-clause-sound
returns-clause-sound c =
    sound c.args.bytes.now _
    (spells_all c.args.bytes.now 0 c.new-nodes.result c.list.new.nodes c.in_ok-items.field-0.items
    c.in_ok-items.field-0.end c.new-nodes.ensures c.in_ok-items.ensures.found)

pub returns-clause-symbols : goal.returns-clause-symbols
returns-clause-symbols c =
    has_symbols c.args.bytes.now _
    (spells_all c.args.bytes.now 0 c.new-nodes.result c.list.new.nodes c.in_ok-items.field-0.items
    c.in_ok-items.field-0.end c.new-nodes.ensures c.in_ok-items.ensures.found)

pub returns-clause-read : goal.returns-clause-read
returns-clause-read c = λ f spells.
    one_value c.args.bytes.now _ f
    (spells_all c.args.bytes.now 0 c.new-nodes.result c.list.new.nodes c.in_ok-items.field-0.items
    c.in_ok-items.field-0.end c.new-nodes.ensures c.in_ok-items.ensures.found) spells

pub returns-in_err-items-clause-read : goal.returns-in_err-items-clause-read
returns-in_err-items-clause-read c = λ f spells.
    let is = refused_for_memory c.args.bytes.now f c.in_err-items.field-0.0 spells c.in_err-items.ensures.first in
    search rules
