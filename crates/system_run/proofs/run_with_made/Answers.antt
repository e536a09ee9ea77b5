use Rattle.std.proofs.Common.{◌≡◌, ◌∙◌, ap, map, refl, rules}
use denote.Param.Object.{Made, read_made}
use Rattle.board.specs.Face.{Face}
use Rattle.system_run.proofs.Promised.{face_of, four_parts, of_lent, pushed, same_lent}
use Rattle.system_run.proofs.run_with_made.OwnLists.{own-1, at-1-1, at-1-2, at-1-3, at-1-4}
use Rattle.system_run.proofs.run_with_made.Goals as goal

-- a box that was made of a part has that part's face
boxed : (at i : own-1.I) (value : (own-1.entry i).0.Denot) (part : (own-1.entry at).0.Denot)
    → Made (λ j. (own-1.entry j).0.coded.code) (own-1.entry at).0.coded.code at i value part
    → face_of ((own-1.entry i).1.state value) ((own-1.entry i).1.driven_in) ((own-1.entry i).1.after_seeing)
    ≡ face_of ((own-1.entry at).1.state part) ((own-1.entry at).1.driven_in) ((own-1.entry at).1.after_seeing)
boxed at i value part made =
    read_made own-1 (own-1.entry at) at refl Face (λ j w. face_of (j.1.state w) j.1.driven_in j.1.after_seeing) i value
    part made

pub returns : goal.returns
returns g c =
    of_lent _ _ _ _ _ _ c.run.ensures.words c.run.ensures.causes c.run.ensures.content c.run.ensures.silent
    c.run.ensures.spares c.run.ensures.usage c.run.ensures.made
    (same_lent _ _ _ _
    (pushed _ _ _ _ _ _ _ _ _ c.in_ok-push_part-4.ensures.names c.in_ok-push_part-3.ensures.names
    c.in_ok-push_part-2.ensures.names c.in_ok-push_part.ensures.names (ap (map _) c.new-parts.ensures.items))
    (four_parts _ _ _ _ _
    (pushed _ _ _ _ _ _ _ _ _ c.in_ok-push_part-4.ensures.faces c.in_ok-push_part-3.ensures.faces
    c.in_ok-push_part-2.ensures.faces c.in_ok-push_part.ensures.faces (ap (map _) c.new-parts.ensures.items))
    (boxed at-1-1 _ _ _ c.into_dyn_box.ensures.1 ∙ search rules)
    (boxed at-1-2 _ _ _ c.into_dyn_box-in_ok-new-2.ensures.1 ∙ search rules)
    (boxed at-1-3 _ _ _ c.into_dyn_box-in_ok-new-3.ensures.1 ∙ search rules)
    (boxed at-1-4 _ _ _ c.into_dyn_box-in_ok-new-4.ensures.1 ∙ search rules)))
