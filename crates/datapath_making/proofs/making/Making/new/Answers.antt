use Rattle.std.proofs.Common.{◌∙◌, ap, subst, sym}
use Rattle.datapath_making.specs.WellMade.{IsWellMade}
use Rattle.datapath_making.proofs.Beginning.{begun_is, begun_well, count_none, no_guards}
use Rattle.datapath_making.proofs.making.Making.new.Goals as goal

pub returns-clause-begun : goal.returns-clause-begun
returns-clause-begun c =
    begun_is c.args.rtl.now c.args.control c.args.names c.args.reset c.new.result c.new-2.result c.new-3.result
    c.new-4.result c.new-5.result c.in_ok-no_nets.field-0 c.in_ok-no_nets-2.field-0 c.in_ok-no_nets-3.field-0
    c.in_ok-no_guards.field-0 c.new-6.result c.new.ensures c.new-2.ensures c.new-3.ensures c.new-4.ensures
    c.new-5.ensures (c.in_ok-no_nets.ensures ∙ ap count_none c.len.ensures)
    (c.in_ok-no_nets-2.ensures ∙ ap count_none c.len-2.ensures)
    (c.in_ok-no_nets-3.ensures ∙ ap count_none c.len-3.ensures)
    (c.in_ok-no_guards.ensures ∙ ap no_guards c.len-4.ensures) c.new-6.ensures

pub returns-clause-made : goal.returns-clause-made
returns-clause-made c =
    subst IsWellMade (sym (returns-clause-begun c))
    (begun_well c.args.rtl.now c.args.control c.args.names c.args.reset c.requires.exprs)
