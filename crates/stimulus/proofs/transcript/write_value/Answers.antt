use Rattle.std.proofs.Common.{List, ℕ, ◌∙◌, subst}
use Rattle.outside.specs.Outside.{Gains}
use Rattle.outside.specs.Piece.{TakesAll}
use Rattle.stimulus.proofs.Bits.{text_where_known, text_where_unknown}
use Rattle.stimulus.proofs.transcript.write_value.Goals as goal

pub returns-then-value-all-clause-taken : goal.returns-then-value-all-clause-taken
returns-then-value-all-clause-taken g c =
    let P : List ℕ → Type 0 =
    λ text. TakesAll Gains (g.O.Sink.held c.args.out.now) (g.O.Sink.held c.write_all.new.out) text c.write_all.result in
    subst P (c.as_bytes.ensures.value ∙ c.format.ensures.text
    ∙ text_where_known c.args.pad.now c.args.value c.all_bits-all.result c.all_bits-all.ensures c.if-value-all.true)
    c.write_all.ensures.taken

pub returns-else-value-all-clause-taken : goal.returns-else-value-all-clause-taken
returns-else-value-all-clause-taken g c =
    let out = c.write_all-else-value-all.new.out in
    let P : List ℕ → Type 0 =
    λ text. TakesAll Gains (g.O.Sink.held c.args.out.now) (g.O.Sink.held out) text c.write_all-else-value-all.result in
    subst P (text_where_unknown c.args.pad.now c.args.value c.all_bits-all.result c.all_bits-all.ensures
    c.if-value-all.false)
    c.write_all-else-value-all.ensures.taken
