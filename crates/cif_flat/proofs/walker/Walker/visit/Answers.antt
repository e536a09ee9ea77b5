use Rattle.std.proofs.Common.{◌∙◌, sym, ap, subst, map}
use Rattle.cif_form.specs.declared.command.Command.TheVariants.{Polygon, Box, Round, Wire, Layer, Start, Finish, Delete}
use Rattle.cif_form.specs.declared.command.Command.TheVariants.{Call, User, Comment}
use Rattle.cif_form.specs.Expansion.{item_at}
use Rattle.cif_list.specs.Showing.{command_shown, item_shown}
use Rattle.cif_list.specs.Turning.{wide_turn}
use Rattle.cif_flat.specs.Refusing.{RefusesWalk}
use Rattle.cif_flat.specs.Walking.{IsVisit}
use Rattle.cif_flat.proofs.Arms.{visiting, visit_within, no_finish, round}
use Rattle.cif_flat.proofs.walker.Walker.visit.Goals as goal

pub at-item-requires : goal.at-item-requires
at-item-requires c = visit_within c.args.items.now c.args.self.now c.args.level c.requires.walking c.requires.more

pub set_layer-requires : goal.set_layer-requires
set_layer-requires c =
    visiting c.args.items.now c.args.self.now c.args.level (item_shown c.at-item.result)
    (Layer c.in-Layer.name.now) c.requires.fit c.requires.walking c.requires.more c.at-item.ensures
    (ap command_shown c.in-Layer.is)

pub comment-requires : goal.comment-requires
comment-requires c =
    visiting c.args.items.now c.args.self.now c.args.level (item_shown c.at-item.result)
    (Comment c.in-Comment.text.now) c.requires.fit c.requires.walking c.requires.more c.at-item.ensures
    (ap command_shown c.in-Comment.is)

pub user-requires : goal.user-requires
user-requires c =
    visiting c.args.items.now c.args.self.now c.args.level (item_shown c.at-item.result)
    (User c.in-User.digit c.in-User.text.now) c.requires.fit c.requires.walking c.requires.more c.at-item.ensures
    (ap command_shown c.in-User.is)

pub define-requires : goal.define-requires
define-requires c =
    visiting c.args.items.now c.args.self.now c.args.level (item_shown c.at-item.result)
    (Start c.in-Start.number c.in-Start.a c.in-Start.b) c.requires.fit c.requires.walking c.requires.more
    c.at-item.ensures (ap command_shown c.in-Start.is)

pub delete-requires : goal.delete-requires
delete-requires c =
    visiting c.args.items.now c.args.self.now c.args.level (item_shown c.at-item.result)
    (Delete c.in-Delete.number) c.requires.fit c.requires.walking c.requires.more c.at-item.ensures
    (ap command_shown c.in-Delete.is)

pub call-requires : goal.call-requires
call-requires c =
    visiting c.args.items.now c.args.self.now c.args.level (item_shown c.at-item.result)
    (Call c.in-Call.number (map wide_turn c.in-Call.turns.now)) c.requires.fit c.requires.walking c.requires.more
    c.at-item.ensures (ap command_shown c.in-Call.is)

pub draw_box-requires : goal.draw_box-requires
draw_box-requires c =
    subst (λ e. IsVisit c.args.items.now c.args.self.now c.args.level
    (item_at c.at-item.result.offset (Box e.across e.up c.in-Box.center c.in-Box.direction))) (sym c.of.ensures)
    (visiting c.args.items.now c.args.self.now c.args.level (item_shown c.at-item.result)
    (Box c.in-Box.length c.in-Box.width c.in-Box.center c.in-Box.direction) c.requires.fit c.requires.walking
    c.requires.more c.at-item.ensures (ap command_shown c.in-Box.is))

pub draw_wire-requires-clause-visit : goal.draw_wire-requires-clause-visit
draw_wire-requires-clause-visit c =
    subst (λ e. IsVisit c.args.items.now c.args.self.now c.args.level
    (item_at c.at-item.result.offset (Wire e.across c.in-Wire.path.now))) (sym c.of-in-Wire.ensures)
    (visiting c.args.items.now c.args.self.now c.args.level (item_shown c.at-item.result)
    (Wire c.in-Wire.width c.in-Wire.path.now) c.requires.fit c.requires.walking c.requires.more c.at-item.ensures
    (ap command_shown c.in-Wire.is))

pub draw_wire-requires-clause-square : goal.draw_wire-requires-clause-square
draw_wire-requires-clause-square c = ap (λ e. e.up) c.of-in-Wire.ensures ∙ sym (ap (λ e. e.across) c.of-in-Wire.ensures)

pub draw_polygon-requires : goal.draw_polygon-requires
draw_polygon-requires c =
    visiting c.args.items.now c.args.self.now c.args.level (item_shown c.at-item.result)
    (Polygon c.in-Polygon.path.now) c.requires.fit c.requires.walking c.requires.more c.at-item.ensures
    (ap command_shown c.in-Polygon.is)

pub returns-in-Round-clause-err : goal.returns-in-Round-clause-err
returns-in-Round-clause-err c = subst (RefusesWalk c.args.items.now) (sym c.broken.ensures)
    (round c.args.items.now c.args.self.now c.args.level c.at-item.result.offset c.in-Round.diameter c.in-Round.center
    (visiting c.args.items.now c.args.self.now c.args.level (item_shown c.at-item.result)
    (Round c.in-Round.diameter c.in-Round.center) c.requires.fit c.requires.walking c.requires.more c.at-item.ensures
    (ap command_shown c.in-Round.is)))

pub unreachable-requires : goal.unreachable-requires
unreachable-requires c = no_finish c.args.items.now c.args.self.now c.args.level c.at-item.result.offset
    (visiting c.args.items.now c.args.self.now c.args.level
    (item_shown c.at-item.result) Finish c.requires.fit c.requires.walking c.requires.more c.at-item.ensures
    (ap command_shown c.in-Finish.is))
