use Rattle.std.proofs.Common.{◌≡◌, [], drop, map, ◌∙◌, ap, slice_index, length}
use Rattle.std.specs.List.{filter_map, flat_map}
use Rattle.form_reader.specs.Sound.{kind_at, items_of}
use Rattle.mp_entries.specs.Entries.{number_at, name_at, expr_at, form_at, expr_index, form_index, is_expr, is_form}
use Rattle.mp_entries.specs.Entries.{nodes_below}
use Rattle.mp_syntax.specs.Shape.{def_at, always_at, process_at}
use Rattle.mp_syntax.proofs.Fitting.{Known, fits_at}
use Rattle.mp_syntax.proofs.Trees.{tree_at}
use Rattle.mp_syntax.proofs.parser.program_of.Goals as goal

pub invariant_of-result : goal.invariant_of-result
invariant_of-result c =
    let f = c.args.forms.now in
    let cs = c.args.classes.now in
    let known : Known f cs =
    record { sound = c.requires.sound; symbols = c.requires.symbols; classes = c.requires.known } in
    let items = items_of (kind_at f c.args.root) in
    let width : c.number_at.result ≡ number_at f (slice_index items 2) = cc in
    let name : c.in_ok-head.head.name ≡ name_at f (slice_index items 1) =
    c.in_ok-head.ensures.name
    ∙ ap (name_at f) (c.item.ensures ∙ ap (λ xs. slice_index xs 1) c.items_at-items.ensures.value) in
    let defs : c.in_ok-head.head.defs ≡ filter_map (def_at f (expr_index f cs)) (drop 3 items) =
    c.in_ok-head.ensures.defs
    ∙ ap (filter_map (def_at f (slice_index c.in_ok-ranks.ranks.exprs))) c.elements_at-rest.ensures.value
    ∙ ap (λ ranks. filter_map (def_at f (slice_index ranks)) (drop 3 items)) c.in_ok-ranks.ensures.exprs in
    let exprs : c.in_ok-entries.entries.exprs
    ≡ map (expr_at f (expr_index f cs)) (nodes_below (is_expr cs) (length f.nodes)) =
    c.in_ok-entries.ensures.exprs
    ∙ ap (λ ranks. map (expr_at f (slice_index ranks)) (nodes_below (is_expr cs) (length f.nodes)))
    c.in_ok-ranks.ensures.exprs in
    let forms : c.in_ok-entries.entries.forms
    ≡ map (form_at f (expr_index f cs) (form_index f cs)) (nodes_below (is_form f cs) (length f.nodes)) =
    c.in_ok-entries.ensures.forms
    ∙ ap (λ ranks. map (form_at f (slice_index ranks) (slice_index c.in_ok-ranks.ranks.forms))
    (nodes_below (is_form f cs) (length f.nodes))) c.in_ok-ranks.ensures.exprs
    ∙ ap (λ ranks. map (form_at f (expr_index f cs) (slice_index ranks)) (nodes_below (is_form f cs) (length f.nodes)))
    c.in_ok-ranks.ensures.forms in
    let always : c.in_ok-active.active.always ≡ flat_map (always_at f (form_index f cs)) (drop 3 items) =
    c.in_ok-active.ensures.always
    ∙ ap (flat_map (always_at f (slice_index c.in_ok-ranks.ranks.forms))) c.elements_at-rest.ensures.value
    ∙ ap (λ ranks. flat_map (always_at f (slice_index ranks)) (drop 3 items)) c.in_ok-ranks.ensures.forms in
    let processes : c.in_ok-active.active.processes ≡ filter_map (process_at f (form_index f cs)) (drop 3 items) =
    c.in_ok-active.ensures.processes
    ∙ ap (filter_map (process_at f (slice_index c.in_ok-ranks.ranks.forms))) c.elements_at-rest.ensures.value
    ∙ ap (λ ranks. filter_map (process_at f (slice_index ranks)) (drop 3 items)) c.in_ok-ranks.ensures.forms in
    let head = c.in_ok-head.head in
    let entries = c.in_ok-entries.entries in
    let active = c.in_ok-active.active in
    record {
      fits = fits_at f cs known c.args.root [] c.requires.one c.requires.low c.requires.high c.number_at.result
          head.name head.defs entries.exprs entries.forms active.always active.processes
          width name defs exprs forms always processes;
      tree = tree_at f cs known c.args.root [] c.requires.one head.defs entries.exprs entries.forms
          active.always active.processes defs exprs forms always processes;
    }
