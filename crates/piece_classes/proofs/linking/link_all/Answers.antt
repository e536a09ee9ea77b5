use Rattle.std.proofs.Common.{◌∙◌}
use Rattle.piece_classes.proofs.Gaining.{touch_same, contact_same, all_links}
use Rattle.piece_classes.proofs.linking.link_all.Goals as goal

pub returns : goal.returns
returns c =
    all_links c.args.masks.now c.args.cut.now c.from_vec-links.result c.link_touching.new.links
    c.link_touching-2.new.links c.link_touching-3.new.links c.link_contacts.new.links
    (c.from_vec-links.ensures ∙ c.in_ok-with_capacity.ensures.items)
    (touch_same _ _ _ _ _ _ _ _ c.as_slice.ensures c.as_slice-2.ensures c.as_slice-pieces.ensures
    c.in_ok-link_touching.ensures)
    (touch_same _ _ _ _ _ _ _ _ c.as_slice-3.ensures c.as_slice-4.ensures c.as_slice-pieces.ensures
    c.in_ok-link_touching-2.ensures)
    (touch_same _ _ _ _ _ _ _ _ c.as_slice-5.ensures c.as_slice-6.ensures c.as_slice-pieces.ensures
    c.in_ok-link_touching-3.ensures)
    (contact_same _ _ _ _ _ _ _ _ _ _ c.as_slice-7.ensures c.as_slice-8.ensures c.as_slice-9.ensures
    c.as_slice-10.ensures c.in_ok-link_contacts.ensures)
