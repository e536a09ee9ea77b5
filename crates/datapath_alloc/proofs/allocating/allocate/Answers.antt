use Rattle.std.proofs.Common.{List, subst, sym}
use Rattle.std.proofs.lemmas.Result.{IfOk-weaker}
use Rattle.nor_net.specs.declared.net.Part.{Part}
use Rattle.rtl_form.specs.Cost.{cost}
use Rattle.control_nor.specs.Lowering.{IsLowered}
use Rattle.control_nor.proofs.Costs.{few_cells}
use Rattle.path_form.specs.Sizes.{IsNarrow, IsWithin}
use Rattle.path_values.specs.Allocated.{IsAllocated}
use Rattle.datapath_finish.specs.Finishing.{IsFinished}
use Rattle.datapath_making.specs.WellMade.{IsWellMade}
use Rattle.datapath_alloc.specs.Progress.{IsMadeTo}
use Rattle.datapath_alloc.specs.Shared.{IsAllocatedOnce, SharesNets}
use Rattle.datapath_alloc.proofs.Ending.{complete}
use Rattle.datapath_alloc.proofs.Finished.{allocated, allocated_once, narrow, within}
use Rattle.datapath_alloc.proofs.Marks.{nothing_made}
use Rattle.datapath_alloc.proofs.Reaching.{reset_named}
use Rattle.datapath_alloc.proofs.allocating.allocate.Goals as goal

pub reset_of-reset-requires : goal.reset_of-reset-requires
reset_of-reset-requires c =
    reset_named c.args.rtl.now c.lower_bits.new.net c.in_ok-names.names c.requires.sound
    (subst (λ (b : List Part). IsLowered c.args.rtl.now b c.lower_bits.new.net c.in_ok-names.names)
    c.new-control.ensures c.in_ok-names.ensures)

pub add_latches-requires-clause-few : goal.add_latches-requires-clause-few
add_latches-requires-clause-few c = few_cells c.args.rtl.now c.requires.light

pub add_next_values-requires-clause-few : goal.add_next_values-requires-clause-few
add_next_values-requires-clause-few c = few_cells c.args.rtl.now c.requires.light

pub add_latches-requires-clause-begun : goal.add_latches-requires-clause-begun
add_latches-requires-clause-begun c =
    let net = c.lower_bits.new.net in
    let names = c.in_ok-names.names in
    let low = subst (λ (b : List Part). IsLowered c.args.rtl.now b net names) c.new-control.ensures
    c.in_ok-names.ensures in
    subst (IsMadeTo c.args.rtl.now 0 0 0) (sym c.in_ok-making.ensures.begun)
    (nothing_made c.args.rtl.now net names c.reset_of-reset.result
    (record { sound = c.requires.sound; light = c.requires.light; lowered = low }) c.reset_of-reset.ensures
    (subst IsWellMade c.in_ok-making.ensures.begun c.in_ok-making.ensures.made))

pub finish-requires-clause-complete : goal.finish-requires-clause-complete
finish-requires-clause-complete c =
    let m = c.add_next_values.new.making in
    complete c.args.rtl.now m.control m.names m c.in_ok-add_next_values.ensures.made

pub returns-clause-allocated : goal.returns-clause-allocated
returns-clause-allocated c =
    let m = c.add_next_values.new.making in
    IfOk-weaker c.finish.result (IsFinished c.args.rtl.now m) (IsAllocated c.args.rtl.now)
    (λ p fin. allocated c.args.rtl.now m.control m.names m p c.in_ok-add_next_values.ensures.made fin) c.finish.ensures

pub returns-clause-within : goal.returns-clause-within
returns-clause-within c =
    let m = c.add_next_values.new.making in
    IfOk-weaker c.finish.result (IsFinished c.args.rtl.now m) (IsWithin (cost c.args.rtl.now))
    (λ p fin. within c.args.rtl.now m.control m.names m p c.in_ok-add_next_values.ensures.made fin) c.finish.ensures

pub returns-clause-narrow : goal.returns-clause-narrow
returns-clause-narrow c =
    let m = c.add_next_values.new.making in
    IfOk-weaker c.finish.result (IsFinished c.args.rtl.now m) (IsNarrow (cost c.args.rtl.now))
    (λ p fin. narrow c.args.rtl.now m.control m.names m p c.in_ok-add_next_values.ensures.made fin) c.finish.ensures

pub returns-clause-once : goal.returns-clause-once
returns-clause-once c =
    let m = c.add_next_values.new.making in
    let was = c.add_tasks.new.making in
    let same = c.in_ok-add_next_values.ensures.words in
    let shared = subst (λ n. SharesNets c.args.rtl.now n m.words m.lifts) (sym same.names)
    (subst (λ ws. SharesNets c.args.rtl.now was.names ws m.lifts) (sym same.words)
    (subst (SharesNets c.args.rtl.now was.names was.words) (sym same.lifts) c.in_ok-add_tasks.ensures.shared)) in
    IfOk-weaker c.finish.result (IsFinished c.args.rtl.now m) (IsAllocatedOnce c.args.rtl.now)
    (λ p fin. allocated_once c.args.rtl.now m.control m.names m p c.in_ok-add_next_values.ensures.made fin shared)
    c.finish.ensures
