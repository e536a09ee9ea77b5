use Rattle.std.proofs.Common.{ℕ, List, get_or, arith, subst₂, None, Option}
use Rattle.std.proofs.lemmas.Option.{slice_get-get_or}
use Rattle.mask_tiles.specs.declared.tile.Tile.{Tile}
use Rattle.piece_classes.specs.Linking.{Gains, AreBoth}
use Rattle.piece_classes.proofs.Gaining.{no_tile, contacts_more}
use Rattle.piece_classes.proofs.contacts.link_contacts.Goals as goal

pub loop-i-preserved : goal.loop-i-preserved
loop-i-preserved c =
    let contacts : List Tile = c.args.contacts.now in
    let i : ℕ = c.loop-i.i in
    let h = c.loop-i-test.true in
    let r = c.requires in
    let none : Option ℕ = None in
    let m : Option ℕ = get_or c.args.metal.now i none in
    let p : Option ℕ = get_or c.args.polysilicon.now i none in
    let d : Option ℕ = get_or c.args.diffusion.now i none in
    let a = c.link_both.new.links in
    let b = c.link_both-in-loop-i.new.links in
    let e = c.link_both-in-loop-i-2.new.links in
    contacts_more contacts c.args.metal.now c.args.polysilicon.now c.args.diffusion.now i (get_or contacts i no_tile)
    (slice_get-get_or contacts i no_tile h) m p d
    (slice_get-get_or c.args.metal.now i none (omega arith))
    (slice_get-get_or c.args.polysilicon.now i none (omega arith))
    (slice_get-get_or c.args.diffusion.now i none (omega arith))
    c.args.links.now c.loop-i.links a b e c.loop-i.invariant
    (subst₂ (λ x y. Gains c.loop-i.links a (AreBoth x y)) c.if_joined-upper.ensures c.if_joined-middle.ensures
    c.in_ok-link_both.ensures)
    (subst₂ (λ x y. Gains a b (AreBoth x y)) c.if_joined-upper.ensures c.if_joined-lower.ensures
    c.in_ok-link_both-2.ensures)
    (subst₂ (λ x y. Gains b e (AreBoth x y)) c.if_joined-middle.ensures c.if_joined-lower.ensures
    c.in_ok-link_both-3.ensures)
