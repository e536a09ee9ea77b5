use Rattle.std.proofs.Common.{◌<◌, ℕ, length, string_bytes, get_or, arith, ap, ◌∙◌}
use Rattle.std.proofs.lemmas.List.{length-set}
use Rattle.board.specs.declared.link.Link.{Link}
use Rattle.stimulus.specs.Bits.{trits_of}
use Rattle.board.proofs.Widths.{shown_at}
use Rattle.board.proofs.Faces.{moved_face, same_set, show_more, all_shown}
use Rattle.board.proofs.moving.show.Goals as goal

-- The names of the box's parts are Rattle's own, and may change.
pub loop-link-preserved : goal.loop-link-preserved
loop-link-preserved g c =
    let links = c.args.links.now in
    let k : ℕ = c.loop-link.link-index in
    let d : Link = record { part = 0; seen = 0; driven = 0 } in
    let xs = c.loop-link.parts.items in
    let here : k < length links = c.loop-link-test.true in
    let inside : (get_or links k d).part < length xs =
    let p = c.requires.parts k d here in omega (arith, p, c.loop-link.invariant.long) in
    let old = c.index_mut.result.now in
    let seen : (get_or links k d).seen < length c.args.pads.now = c.requires.outputs k d here in
    let word = rw c.as_slice.ensures at c.index-as_slice-seen.is in
    let shown = c.number-shown.ensures
    ∙ shown_at c.args.pads.now c.args.outputs.now (get_or links k d).seen c.index-pads-seen.result
    c.index-as_slice-seen.result seen c.requires.as_many c.index-pads-seen.is word in
    let face = moved_face (λ v. (g.dyn-1.0.entry v).1.driven_in) (λ v. (g.dyn-1.0.entry v).1.after_seeing) _ _ _ _ _
    c.see.ensures.kind c.see.ensures.state in
    record {
      long = length-set xs _ _ ∙ c.loop-link.invariant.long;
      names = same_set _ xs _ old c.see.new.part inside c.index_mut.ensures.value (ap string_bytes c.see.ensures.name)
          ∙ c.loop-link.invariant.names;
      faces = show_more (trits_of c.args.pads.now c.args.outputs.now) _ links k d xs c.args.parts.now.items old
          c.see.new.part
          c.number-shown.result here inside c.index_mut.ensures.value face shown
          c.loop-link.invariant.faces;
    }

pub returns-clause-faces : goal.returns-clause-faces
returns-clause-faces g c =
    all_shown (trits_of c.args.pads.now c.args.outputs.now) c.args.links.now c.loop-link.link-index _ _
    c.loop-link-test.false
    c.loop-link.invariant.faces
