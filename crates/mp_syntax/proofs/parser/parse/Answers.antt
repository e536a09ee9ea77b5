use Rattle.std.proofs.Common.{◌≡◌, ◌≢◌, inl, inr, ◌<◌, ◌≤◌, [], ◌∷◌, sym, ◌∙◌, ap}
use Rattle.std.proofs.Common.{arith, slice_index}
use Rattle.form_reader.specs.declared.forms.Node.{Node}
use Rattle.form_reader.specs.Sound.{kind_at, items_of}
use Rattle.mp_entries.specs.Entries.{number_at}
use Rattle.mp_syntax.proofs.Fitting.{Known, root_inside, width_inside}
use Rattle.mp_syntax.proofs.Widths.{some_form, root_read, width_kept, width_refused, shape_refused}
use Rattle.mp_syntax.proofs.parser.parse.Goals as goal

pub at-root-requires : goal.at-root-requires
at-root-requires c = some_form c.args.forms.now c.in-Ok.ensures.whole

pub returns-in-Err-clause-judged : goal.returns-in-Err-clause-judged
returns-in-Err-clause-judged c = shape_refused c.args.forms.now c.in-Err.refusal c.in-Err.ensures.err

pub items_at-requires-clause-inside : goal.items_at-requires-clause-inside
items_at-requires-clause-inside c =
    root_inside c.args.forms.now c.requires.sound c.at-root.result.now []
    (root_read c.args.forms.now c.in-Ok.ensures.whole c.at-root.result.now c.at-root.ensures)

pub number_at-width-requires : goal.number_at-width-requires
number_at-width-requires c =
    let f = c.args.forms.now in
    let known : Known f c.in-Ok.classes =
    record { sound = c.requires.sound; symbols = c.requires.symbols; classes = c.in-Ok.ensures.ok } in
    let is : c.item-width_at.result ≡ slice_index (items_of (kind_at f c.at-root.result.now)) 2 = cc in
    omega (
      arith,
      is,
      width_inside f c.in-Ok.classes known c.at-root.result.now []
          (root_read f c.in-Ok.ensures.whole c.at-root.result.now c.at-root.ensures),
    )

pub node_at-requires : goal.node_at-requires
node_at-requires c =
    let f = c.args.forms.now in
    let known : Known f c.in-Ok.classes =
    record { sound = c.requires.sound; symbols = c.requires.symbols; classes = c.in-Ok.ensures.ok } in
    let is : c.item-width_at.result ≡ slice_index (items_of (kind_at f c.at-root.result.now)) 2 = cc in
    omega (
      arith,
      is,
      width_inside f c.in-Ok.classes known c.at-root.result.now []
          (root_read f c.in-Ok.ensures.whole c.at-root.result.now c.at-root.ensures),
    )

pub returns-then-width-eq0-clause-judged : goal.returns-then-width-eq0-clause-judged
returns-then-width-eq0-clause-judged c =
    let f = c.args.forms.now in
    let known : Known f c.in-Ok.classes =
    record { sound = c.requires.sound; symbols = c.requires.symbols; classes = c.in-Ok.ensures.ok } in
    let is : c.item-width_at.result ≡ slice_index (items_of (kind_at f c.at-root.result.now)) 2 = cc in
    width_refused f c.in-Ok.classes known c.at-root.result.now c.item-width_at.result
    (root_read f c.in-Ok.ensures.whole c.at-root.result.now c.at-root.ensures) c.in-Ok.ensures.whole is
    (inl (sym c.number_at-width.ensures ∙ c.if-width-eq0.true)) c.wrong_width.result c.node_at.result.now.place
    (ap (λ (n : Node). n.place) c.node_at.ensures) c.wrong_width.ensures

pub returns-then-width-gt64-clause-judged : goal.returns-then-width-gt64-clause-judged
returns-then-width-gt64-clause-judged c =
    let f = c.args.forms.now in
    let known : Known f c.in-Ok.classes =
    record { sound = c.requires.sound; symbols = c.requires.symbols; classes = c.in-Ok.ensures.ok } in
    let is : c.item-width_at.result ≡ slice_index (items_of (kind_at f c.at-root.result.now)) 2 = cc in
    let many : 64 < number_at f c.item-width_at.result =
    omega (arith, c.number_at-width.ensures, c.if-width-gt64.true) in
    width_refused f c.in-Ok.classes known c.at-root.result.now c.item-width_at.result
    (root_read f c.in-Ok.ensures.whole c.at-root.result.now c.at-root.ensures) c.in-Ok.ensures.whole is
    (inr many) c.wrong_width-then-width-gt64.result c.node_at-then-width-gt64.result.now.place
    (ap (λ (n : Node). n.place) c.node_at-then-width-gt64.ensures) c.wrong_width-then-width-gt64.ensures

pub program_of-requires-clause-one : goal.program_of-requires-clause-one
program_of-requires-clause-one c =
    root_read c.args.forms.now c.in-Ok.ensures.whole c.at-root.result.now c.at-root.ensures

pub returns-clause-judged : goal.returns-clause-judged
returns-clause-judged c = λ at e.
    let f = c.args.forms.now in
    let one : f.roots ≡ c.at-root.result.now ∷ [] =
    root_read f c.in-Ok.ensures.whole c.at-root.result.now c.at-root.ensures in
    let is : c.item-width_at.result ≡ slice_index (items_of (kind_at f c.at-root.result.now)) 2 = cc in
    let width : c.number_at-width.result ≡ number_at f (slice_index (items_of (kind_at f c.at-root.result.now)) 2) =
    c.number_at-width.ensures ∙ ap (number_at f) is in
    let some : c.number_at-width.result ≢ 0 = c.if-width-eq0.false in
    let low : 1 ≤ number_at f (slice_index (items_of (kind_at f c.at-root.result.now)) 2) =
    omega (arith, width, some) in
    let high : number_at f (slice_index (items_of (kind_at f c.at-root.result.now)) 2) ≤ 64 =
    omega (arith, width, c.if-width-gt64.false) in
    elim e [
      | inl ten ↦ c.in-Ok.ensures.whole at ten
      | inr eleven ↦ width_kept f c.at-root.result.now one low high at eleven
    ]
