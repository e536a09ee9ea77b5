use Rattle.std.proofs.Common.{◌∙◌, ap, ◌++◌, ◌∷◌, [], map, subst, sym}
use Rattle.cif_list.specs.Entries.{item_of}
use Rattle.cif_list.proofs.Kept.{on_err, AreHeld, entries_kept, one_held}
use Rattle.cif_list.proofs.cif.Cif.push.Goals as goal

pub invariant_of-self : goal.invariant_of-self
invariant_of-self c =
    (entries_kept c.self.inside.store c.put.new.self c.self.inside.entries.items c.put.ensures.grows c.self.invariant).0

pub returns-in_err-head-clause-err : goal.returns-in_err-head-clause-err
returns-in_err-head-clause-err c =
    on_err _
    ((entries_kept c.self.inside.store c.put.new.self c.self.inside.entries.items c.put.ensures.grows
    c.self.invariant).1 ∙ c.self.view_is)

pub invariant_of-self-in_err-push : goal.invariant_of-self-in_err-push
invariant_of-self-in_err-push c =
    subst (AreHeld c.put.new.self) (sym c.in_err-push.ensures.err)
    (entries_kept c.self.inside.store c.put.new.self c.self.inside.entries.items c.put.ensures.grows c.self.invariant).0

pub returns-in_err-push-clause-err : goal.returns-in_err-push-clause-err
returns-in_err-push-clause-err c =
    on_err _
    (ap (λ es. map (item_of c.put.new.self) es) c.in_err-push.ensures.err
    ∙ (entries_kept c.self.inside.store c.put.new.self c.self.inside.entries.items c.put.ensures.grows
    c.self.invariant).1 ∙ c.self.view_is)

pub invariant_of-self-2 : goal.invariant_of-self-2
invariant_of-self-2 c =
    (one_held c.self.inside.store c.put.new.self c.self.inside.entries.items c.push.new.arena.items
    (record { offset = c.args.offset; head = c.in_ok-head.head }) c.args.command.now c.put.ensures.grows
    c.self.invariant
    c.in_ok-head.ensures.ok c.in_ok-push.ensures.ok).0

pub returns-clause-ok : goal.returns-clause-ok
returns-clause-ok c =
    (one_held c.self.inside.store c.put.new.self c.self.inside.entries.items c.push.new.arena.items
    (record { offset = c.args.offset; head = c.in_ok-head.head }) c.args.command.now c.put.ensures.grows
    c.self.invariant
    c.in_ok-head.ensures.ok c.in_ok-push.ensures.ok).1
    ∙ ap (λ is. is ++ record { offset = c.args.offset; command = c.args.command.now } ∷ []) c.self.view_is
