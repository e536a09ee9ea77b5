use Rattle.std.proofs.Common.{◌∙◌, ◌<◌, length, arith, map, get_or, Bor, List, [], ℕ, sym}
use Rattle.mp_base.proofs.Names.{seen_more, seen_twice, gained_of, at_map, within_map, unfit, not_true, not_false}
use Rattle.mp_base.proofs.pad_names.are_pad_names.Goals as goal

-- what the loop takes for a name past the end
abbrev none : Bor (List ℕ)
none = record { ref_ptr = (0, 0); now = [] }

pub returns-then-not-is_pad_name : goal.returns-then-not-is_pad_name
returns-then-not-is_pad_name c =
    let within : c.loop-name.name-index < length c.args.names.now = omega arith in
    unfit (map (λ name. name.now) c.args.names.now) c.loop-name.name-index
    (get_or c.args.names.now c.loop-name.name-index none).now
    (within_map c.args.names.now c.loop-name.name-index within)
    (at_map c.args.names.now c.loop-name.name-index none within) c.if-not-is_pad_name.ensures

pub returns-then-not-branch : goal.returns-then-not-branch
returns-then-not-branch c =
    let within : c.loop-name.name-index < length c.args.names.now = omega arith in
    seen_twice c.loop-name.seen (map (λ name. name.now) c.args.names.now) c.loop-name.name-index
    (get_or c.args.names.now c.loop-name.name-index none).now
    (within_map c.args.names.now c.loop-name.name-index within)
    (at_map c.args.names.now c.loop-name.name-index none within)
    (not_false _ (sym c.if-not-branch.true ∙ c.in_ok-insert.ensures.added)) c.loop-name.invariant

pub loop-name-preserved : goal.loop-name-preserved
loop-name-preserved c =
    let within : c.loop-name.name-index < length c.args.names.now = omega arith in
    seen_more c.loop-name.seen c.insert.new.self (map (λ name. name.now) c.args.names.now) c.loop-name.name-index
    (get_or c.args.names.now c.loop-name.name-index none).now
    (at_map c.args.names.now c.loop-name.name-index none within) (sym c.if-not-is_pad_name.ensures)
    (not_true _ (sym c.if-not-branch.false ∙ c.in_ok-insert.ensures.added))
    (gained_of _ _ _ c.in_ok-insert.ensures.updates) c.loop-name.invariant
