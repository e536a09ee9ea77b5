use Rattle.std.proofs.Common.{◌≡◌, ◌+◌, length, sym, ◌∙◌, ap, subst, subst₂, arith}
use Rattle.fabric.specs.Switches.{Net, LineOf}
use Rattle.fabric.specs.Numbers.{IsNumbered}
use Rattle.fabric.specs.Places.{HasUpTo, IsLastUpTo}
use Rattle.fabric.proofs.Lookups.{line_up_to, line_found}
use Rattle.fabric.proofs.fabric.Fabric.line_number.Goals as goal

pub last_up_to-line-requires-clause-some : goal.last_up_to-line-requires-clause-some
last_up_to-line-requires-clause-some c =
    let m = c.args.m.now in
    subst₂ (λ entries key. HasUpTo entries key) (sym c.as_slice.ensures.value) (sym c.column_key-key.ensures)
    (line_up_to c.args.self.now c.conditions.ensures.met c.conditions.ensures.room c.args.places.now.lines.items
    c.requires.places.lines c.args.side m.band m.column c.requires.there)

pub overflow_add-result : goal.overflow_add-result
overflow_add-result c =
    let f = c.args.self.now in
    let last = subst₂ (λ entries key. IsLastUpTo entries key c.last_up_to-line.result) c.as_slice.ensures.value
    c.column_key-key.ensures c.last_up_to-line.ensures in
    let found = line_found f c.conditions.ensures.met c.conditions.ensures.room c.args.places.now.lines.items
    c.requires.places.lines c.args.side c.args.m.now c.requires.there c.last_up_to-line.result last in
    let below = found.0 in
    let segments = c.conditions.ensures.room.segments_fit in
    let lines = c.conditions.ensures.room.lines_fit in
    let count : c.len.result ≡ length f.segments = c.len.ensures ∙ ap (λ z. length z.segments) c.self.view_is in
    omega arith

pub returns : goal.returns
returns c =
    let f = c.args.self.now in
    let last = subst₂ (λ entries key. IsLastUpTo entries key c.last_up_to-line.result) c.as_slice.ensures.value
    c.column_key-key.ensures c.last_up_to-line.ensures in
    let found = line_found f c.conditions.ensures.met c.conditions.ensures.room c.args.places.now.lines.items
    c.requires.places.lines c.args.side c.args.m.now c.requires.there c.last_up_to-line.result last in
    let count : c.len.result ≡ length f.segments = c.len.ensures ∙ ap (λ z. length z.segments) c.self.view_is in
    subst (λ z. (n : Net) × LineOf f c.args.m.now c.args.side n × IsNumbered f (z + c.last_up_to-line.result) n)
    (sym count) found.1
