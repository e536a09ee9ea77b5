use Rattle.std.proofs.Common.{◌+◌, ◌<◌, ◌∙◌, ◌++◌, ◌∷◌, [], length, ap, sym, subst, arith, rules}
use Rattle.std.specs.Prelude.{slice_range}
use Rattle.cif_form.specs.Names.{IsSymbolName}
use Rattle.cif_flat.proofs.Walks.{level_of}
use Rattle.cif_flat.proofs.Defines.{start_closed, start_number, body_room, defined}
use Rattle.cif_flat.proofs.walker.Walker.define.Goals as goal

pub body_size-requires-clause-closed : goal.body_size-requires-clause-closed
body_size-requires-clause-closed c =
    start_closed c.args.items.now c.args.self.now c.args.level c.args.offset c.args.number.now c.args.a.now
    c.args.b.now c.requires

pub body_size-requires-clause-within : goal.body_size-requires-clause-within
body_size-requires-clause-within c = (level_of c.args.items.now c.args.self.now c.args.level _ c.requires).within

pub key_of-requires : goal.key_of-requires
key_of-requires c =
    start_number c.args.items.now c.args.self.now c.args.level c.args.offset c.args.number.now c.args.a.now
    c.args.b.now c.requires

pub overflow_add-end : goal.overflow_add-end
overflow_add-end c =
    let r = body_room c.args.items.now c.args.self.now c.args.level c.args.offset c.args.number.now c.args.a.now
    c.args.b.now c.requires c.body_size.result c.body_size.ensures in
    let l = level_of c.args.items.now c.args.self.now c.args.level _ c.requires in
    let k : c.args.level.next + 1 + c.body_size.result < length c.args.items.now = omega (arith, r, l.within) in
    search rules

pub overflow_add-end-2 : goal.overflow_add-end-2
overflow_add-end-2 c =
    let r = body_room c.args.items.now c.args.self.now c.args.level c.args.offset c.args.number.now c.args.a.now
    c.args.b.now c.requires c.body_size.result c.body_size.ensures in
    let l = level_of c.args.items.now c.args.self.now c.args.level _ c.requires in
    let k : c.args.level.next + 1 + c.body_size.result < length c.args.items.now = omega (arith, r, l.within) in
    search rules

pub returns-clause-ok : goal.returns-clause-ok
returns-clause-ok c =
    let first = c.args.level.next + 1 in
    defined c.args.items.now c.args.self.now c.args.level c.args.offset c.args.number.now c.args.a.now c.args.b.now
    c.requires c.body_size.result c.body_size.ensures c.key_of.result c.key_of.ensures c.of.result
    c.of.ensures c.in_ok-named.named
    (subst (IsSymbolName (slice_range c.args.items.now first (first + c.body_size.result)))
    (sym c.in_ok-named.ensures.same) c.naming_of-named.ensures)
    c.set.new.table c.in_ok-set.ensures.here c.in_ok-set.ensures.others
    c.first_named.new.self c.in_ok-named.ensures.kept
    c.go_on.new.self c.in_ok-go_on.ensures.kept
    (c.in_ok-go_on.ensures.pushed ∙ ap (λ u. c.args.self.now.levels.items ++ u ∷ []) c.resumed.ensures)

pub naming_of-named-requires-clause-within : goal.naming_of-named-requires-clause-within
naming_of-named-requires-clause-within c =
    let r = body_room c.args.items.now c.args.self.now c.args.level c.args.offset c.args.number.now c.args.a.now
    c.args.b.now c.requires c.body_size.result c.body_size.ensures in
    let l = level_of c.args.items.now c.args.self.now c.args.level _ c.requires in
    omega (arith, r, l.within)
