use Rattle.std.proofs.Common.{◌≡◌, ℕ, List, sym, subst, arith}
use Rattle.std.specs.Prelude.{Option, Some, None}
use Rattle.lam_geom.specs.Squares.{covered}
use Rattle.switch_net.specs.declared.network.Network.{Network}
use Rattle.switch_net.specs.declared.network.Tag.{Tag}
use Rattle.switch_net.specs.Breaks.{IsFirstOfMask}
use Rattle.extractor.specs.Driving.{FindsMeeting, IsFirstMeeting}
use Rattle.extractor.proofs.Finishing.{extracted, meets_driver, too_many}
use Rattle.extractor.proofs.extraction.extract.Goals as goal

-- what was found, of the network's tags
found : (tags : List Tag) (p : Option ℕ) {now : List Tag} {o : Option ℕ} → now ≡ tags → o ≡ p → FindsMeeting now o
    → FindsMeeting tags p
found tags p {o = o} a b h = subst (FindsMeeting tags) b (subst (λ ts. FindsMeeting ts o) a h)

pub returns-in-Some-clause-judged : goal.returns-in-Some-clause-judged
returns-in-Some-clause-judged c =
    let net : Network = c.in_ok-net.net in
    let offset : ℕ = c.in-Some.offset in
    let h : IsFirstMeeting net.tags offset =
    found net.tags (Some offset) c.as_slice.ensures c.in-Some.is c.in_ok-offset.ensures in
    subst (IsFirstOfMask (covered c.args.shapes.now) c.args.labels.now) (sym c.refused.ensures)
    (meets_driver c.args.shapes.now c.args.labels.now net c.in_ok-net.ensures.ok offset h)

pub returns-then-count-gt-MOST_NODES_AND_CHANNELS-clause-judged :
    goal.returns-then-count-gt-MOST_NODES_AND_CHANNELS-clause-judged
returns-then-count-gt-MOST_NODES_AND_CHANNELS-clause-judged c =
    let net : Network = c.in_ok-net.net in
    let apart = found net.tags None c.as_slice.ensures c.in_default.is c.in_ok-offset.ensures in
    subst (IsFirstOfMask (covered c.args.shapes.now) c.args.labels.now) (sym c.too_many.ensures)
    (too_many c.args.shapes.now c.args.labels.now net c.in_ok-net.ensures.ok apart
    (omega (arith, c.if-count-gt-MOST_NODES_AND_CHANNELS.true, c.saturating_add-count.ensures, c.len.ensures)))

pub returns-clause-ok : goal.returns-clause-ok
returns-clause-ok c =
    let net : Network = c.in_ok-net.net in
    let apart = found net.tags None c.as_slice.ensures c.in_default.is c.in_ok-offset.ensures in
    extracted c.args.shapes.now c.args.labels.now net c.in_ok-net.ensures.ok apart
    c.network_is_determined.ensures.numbering
    (omega (arith, c.if-count-gt-MOST_NODES_AND_CHANNELS.false, c.saturating_add-count.ensures, c.len.ensures))

pub returns-clause-judged : goal.returns-clause-judged
returns-clause-judged c = (c.in_ok-net.net, returns-clause-ok c)
