use Rattle.std.proofs.Common.{◌<◌, [], ◌∷◌, ◌++◌, arith, length, ap, sym, subst, ◌∙◌, rules}
use Rattle.std.proofs.lemmas.List.{length_push}
use Rattle.form_reader.specs.Text.{IsGapBetween, EndsInGap}
use Rattle.form_reader.specs.Reading.{HasRead}
use Rattle.form_reader.proofs.Scan.{offset_of}
use Rattle.form_reader.proofs.Blocks.{nothing_read, add_item, token_item, group_item}
use Rattle.form_reader.proofs.Reached.{reached_gap, reached_open, reached_close, reached_run, ended_list, closed_list}
use Rattle.form_reader.proofs.Reached.{refuses_e1, refuses_e2, refuses_e3, refuses_e4, refuses_e5}
use Rattle.form_reader.proofs.reader.+list.Goals as goal

pub group-list-requires : goal.group-list-requires
group-list-requires t c =
    let reached =
    reached_open c.args.bytes.now c.args.nesting.depth c.inside.result.depth c.args.nesting.outer c.args.start
    c.inside.result.outer c.behind-from.result c.requires.reached c.requires.byte
    c.requires.shallow c.inside.ensures.depth c.inside.ensures.first c.inside.ensures.later c.behind-from.ensures in
    let offset = offset_of c.args.bytes.now c.behind-from.result _ c.behind-from.ensures in
    let size = ap length c.in_ok-push.ensures.ok ∙ length_push c.args.nodes.now _ in (
      omega (arith, c.inside.ensures.depth),
      (c.requires.short, (reached, (omega (arith, c.inside.ensures.depth), omega (arith, offset, size)))),
    )

pub group-returns-clause-found : goal.group-returns-clause-found
group-returns-clause-found t c =
    group_item c.args.bytes.now c.args.nesting.depth c.inside.result.outer.offset c.args.start.offset
    c.inside.result.depth c.behind-from.result.offset c.args.nodes.now c.push.new.self
    c.list.new.nodes c.set.new.self _ c.args.start c.in_ok-items.field-0.items c.in_ok-items.field-0.end
    c.len-index.result c.requires.byte c.requires.shallow c.requires.reached.place
    c.inside.ensures.depth
    (offset_of c.args.bytes.now c.behind-from.result _ c.behind-from.ensures) c.in_ok-push.ensures.ok
    c.in_ok-items.ensures.found c.len-index.ensures c.set.ensures

pub group-returns-clause-reached : goal.group-returns-clause-reached
group-returns-clause-reached t c =
    let listed = c.in_ok-items.ensures.found in
    reached_close c.args.bytes.now c.args.nesting.depth c.inside.result.depth listed.at c.args.nesting.outer
    c.inside.result.outer c.args.start c.in_ok-items.field-0.end c.requires.reached
    c.inside.ensures.depth c.inside.ensures.later (listed.closed (omega (arith, c.inside.ensures.depth)))

pub item-returns-then-nesting-eq-NESTING_LIMIT-clause-first :
    goal.item-returns-then-nesting-eq-NESTING_LIMIT-clause-first
item-returns-then-nesting-eq-NESTING_LIMIT-clause-first t c =
    refuses_e5 c.args.bytes.now c.args.nesting.depth c.args.nesting.outer c.args.start c.broken.result
    c.requires.reached c.if-nesting-eq-NESTING_LIMIT.true
    (c.requires.within, c.if-byte-eq40.true) c.broken.ensures

pub item-returns-in_err-kind-clause-first : goal.item-returns-in_err-kind-clause-first
item-returns-in_err-kind-clause-first t c =
    let run = c.run_end-end.ensures.run in
    let first =
    refuses_e4 c.args.bytes.now c.args.nesting.depth c.args.nesting.outer c.args.start c.run_end-end.result.offset
    c.in_err-kind.field-0.0 c.requires.reached run c.in_err-kind.ensures.err in
    search rules

pub item-returns-in_ok-push-clause-found : goal.item-returns-in_ok-push-clause-found
item-returns-in_ok-push-clause-found t c =
    token_item c.args.bytes.now c.args.nesting.depth c.args.start.offset c.run_end-end.result.offset c.args.nodes.now
    c.push.new.self c.in_ok-kind.kind c.args.start c.run_end-end.ensures.run
    c.in_ok-kind.ensures.ok c.requires.reached.place c.in_ok-push.ensures.ok

pub item-returns-in_ok-push-clause-reached : goal.item-returns-in_ok-push-clause-reached
item-returns-in_ok-push-clause-reached t c =
    reached_run c.args.bytes.now c.args.nesting.depth c.args.nesting.outer c.args.start c.run_end-end.result
    c.in_ok-kind.kind c.requires.reached c.run_end-end.ensures.run c.in_ok-kind.ensures.ok
    c.run_end-end.ensures.place

pub item-returns-else-is_token-clause-first : goal.item-returns-else-is_token-clause-first
item-returns-else-is_token-clause-first t c =
    refuses_e1 c.args.bytes.now c.args.nesting.depth c.args.nesting.outer c.args.start c.broken-else-is_token.result
    c.requires.reached c.requires.within c.requires.stop c.if-byte-eq40.false
    c.requires.no_close (sym c.is_token.ensures ∙ c.if-is_token.false) c.broken-else-is_token.ensures

pub list-items-init : goal.list-items-init
list-items-init t c = record {
  after = omega arith;
  few = c.requires.few;
  reached = c.requires.reached;
  read = subst
      (λ z. HasRead c.args.bytes.now c.args.nesting.depth c.args.from.offset c.args.nodes.now c.args.nodes.now z
      c.args.from.offset) (sym c.new-items.ensures)
      (nothing_read c.args.bytes.now c.args.nesting.depth c.args.from.offset c.args.nodes.now);
}

pub list-returns-then-nesting-eq0-clause-found : goal.list-returns-then-nesting-eq0-clause-found
list-returns-then-nesting-eq0-clause-found t c =
    let inv = c.items.invariant in
    let rest : EndsInGap c.args.bytes.now c.items.at.offset =
    (inv.reached.clean.within, c.skip-start.ensures.rest c.if-offset-bytes.true) in
    ended_list c.args.bytes.now c.args.nesting.depth c.args.nesting.outer c.args.from.offset c.args.nodes.now
    c.items.nodes c.items.items c.items.at c.skip-start.result c.if-nesting-eq0.true
    inv.reached inv.read rest c.skip-start.ensures.place c.if-offset-bytes.true

pub list-returns-then-offset-bytes-clause-first : goal.list-returns-then-offset-bytes-clause-first
list-returns-then-offset-bytes-clause-first t c =
    let inv = c.items.invariant in
    let rest : EndsInGap c.args.bytes.now c.items.at.offset =
    (inv.reached.clean.within, c.skip-start.ensures.rest c.if-offset-bytes.true) in
    refuses_e2 c.args.bytes.now c.args.nesting.depth c.args.nesting.outer c.items.at c.broken.result inv.reached
    c.if-nesting-eq0.false rest c.broken.ensures

pub list-returns-then-nesting-eq0-2-clause-first : goal.list-returns-then-nesting-eq0-2-clause-first
list-returns-then-nesting-eq0-2-clause-first t c =
    let inside : c.skip-start.result.offset < length c.args.bytes.now =
    omega (arith, c.skip-start.ensures.within, c.if-offset-bytes.false) in
    let gap : IsGapBetween c.args.bytes.now c.items.at.offset c.skip-start.result.offset =
    (c.skip-start.ensures.after, c.skip-start.ensures.gap inside) in
    let reached =
    reached_gap c.args.bytes.now c.args.nesting.depth c.args.nesting.outer c.items.at c.skip-start.result
    c.items.invariant.reached c.skip-start.ensures.within gap c.skip-start.ensures.place in
    refuses_e3 c.args.bytes.now c.args.nesting.depth c.args.nesting.outer c.skip-start.result
    c.broken-then-nesting-eq0-2.result reached c.if-nesting-eq0-2.true
    (inside, c.if-bytes-offset-eq41.true) c.broken-then-nesting-eq0-2.ensures

pub list-returns-then-bytes-offset-eq41-clause-found : goal.list-returns-then-bytes-offset-eq41-clause-found
list-returns-then-bytes-offset-eq41-clause-found t c =
    let inside : c.skip-start.result.offset < length c.args.bytes.now =
    omega (arith, c.skip-start.ensures.within, c.if-offset-bytes.false) in
    let gap : IsGapBetween c.args.bytes.now c.items.at.offset c.skip-start.result.offset =
    (c.skip-start.ensures.after, c.skip-start.ensures.gap inside) in
    let reached =
    reached_gap c.args.bytes.now c.args.nesting.depth c.args.nesting.outer c.items.at c.skip-start.result
    c.items.invariant.reached c.skip-start.ensures.within gap c.skip-start.ensures.place in
    closed_list c.args.bytes.now c.args.nesting.depth c.args.nesting.outer c.args.from.offset c.args.nodes.now
    c.items.nodes c.items.items c.items.at c.skip-start.result c.behind-end.result
    c.if-nesting-eq0-2.false reached c.items.invariant.read gap
    (inside, c.if-bytes-offset-eq41.true) c.behind-end.ensures

pub list-item-requires : goal.list-item-requires
list-item-requires t c =
    let inside : c.skip-start.result.offset < length c.args.bytes.now =
    omega (arith, c.skip-start.ensures.within, c.if-offset-bytes.false) in
    let gap : IsGapBetween c.args.bytes.now c.items.at.offset c.skip-start.result.offset =
    (c.skip-start.ensures.after, c.skip-start.ensures.gap inside) in
    let reached =
    reached_gap c.args.bytes.now c.args.nesting.depth c.args.nesting.outer c.items.at c.skip-start.result
    c.items.invariant.reached c.skip-start.ensures.within gap c.skip-start.ensures.place in (
      omega arith,
      (
        c.requires.short,
        (
          reached,
          (
            c.requires.shallow,
            (
              omega (arith, c.skip-start.ensures.after, c.items.invariant.few),
              (inside, (c.skip-start.ensures.stop inside, c.if-bytes-offset-eq41.false)),
            ),
          ),
        ),
      ),
    )

pub list-items-preserved : goal.list-items-preserved
list-items-preserved t c =
    let inside : c.skip-start.result.offset < length c.args.bytes.now =
    omega (arith, c.skip-start.ensures.within, c.if-offset-bytes.false) in
    let gap : IsGapBetween c.args.bytes.now c.items.at.offset c.skip-start.result.offset =
    (c.skip-start.ensures.after, c.skip-start.ensures.gap inside) in
    let bounds = c.in_ok-at.ensures.bounds in
    record {
      after = omega (arith, bounds, c.skip-start.ensures.after, c.items.invariant.after);
      few = bounds.1;
      reached = c.in_ok-at.ensures.reached;
      read = subst
          (λ z. HasRead c.args.bytes.now c.args.nesting.depth c.args.from.offset c.args.nodes.now c.item.new.nodes z
          c.in_ok-at.at.offset)
          (sym (c.in_ok-push.ensures.ok ∙ ap (λ k. c.items.items ++ k ∷ []) c.len-index.ensures))
          (add_item c.args.bytes.now c.args.nesting.depth c.args.from.offset c.args.nodes.now c.items.nodes
          c.item.new.nodes c.items.items c.items.at.offset c.skip-start.result.offset c.in_ok-at.at.offset
          c.items.invariant.read gap c.in_ok-at.ensures.found);
    }
