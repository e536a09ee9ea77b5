use Rattle.std.proofs.Common.{◌≡◌, ◌∷◌, ◌++◌, [], length, subst}
use Rattle.path_order.specs.declared.order.Mark.{Mark}
use Rattle.datapath_making.proofs.Beginning.{mark_well}
use Rattle.datapath_making.proofs.making.Making.mark.Goals as goal

pub returns-clause-made : goal.returns-clause-made
returns-clause-made c =
    let e : c.push.new.self ≡ c.args.self.now.marks
    ++ (let k : Mark = record { slices = length c.args.self.now.slices.net; control = c.args.control } in k) ∷ [] =
    subst (λ n. c.push.new.self ≡ c.args.self.now.marks
    ++ (let k : Mark = record { slices = n; control = c.args.control } in k) ∷ []) c.len-slices.ensures.len
    c.in_ok-push.ensures.ok in
    mark_well c.args.self.now c.args.control c.push.new.self c.requires.made c.requires.rises c.requires.within e
