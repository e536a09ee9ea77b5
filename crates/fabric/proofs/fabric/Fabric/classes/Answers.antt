use Rattle.std.proofs.Common.{◌+◌, sym, subst}
use Rattle.std.specs.Prelude.{filter}
use Rattle.std.specs.List.{AllZip}
use Rattle.fabric.specs.Numbers.{IsTapPair, is_tap}
use Rattle.fabric.proofs.Switching.{pairs_low, power_last, numbers_are, numbers_many}
use Rattle.fabric.proofs.fabric.Fabric.classes.Goals as goal

pub leasts-requires : goal.leasts-requires
leasts-requires c = pairs_low c.args.self.now (c.power_number-count.result + 1)
    (filter is_tap c.args.self.now.marks) c.as_slice.result.now
    (power_last c.args.self.now c.power_number-count.result c.power_number-count.ensures)
    (subst (AllZip (IsTapPair c.args.self.now) (filter is_tap c.args.self.now.marks))
    (sym c.as_slice.ensures) c.in_ok-pairs.ensures)

pub returns : goal.returns
returns c = record {
  as_many = numbers_many c.args.self.now c.power_number-count.result c.as_slice.result.now c.in_ok-least.least.items
      c.as_slice-2.result.now c.in_ok-classes.classes.numbers c.in_ok-classes.classes.count
      c.power_number-count.ensures c.in_ok-least.ensures c.as_slice-2.ensures.value c.in_ok-classes.ensures;
  numbers = numbers_are c.args.self.now c.conditions.ensures.met c.power_number-count.result c.in_ok-pairs.pairs
      c.as_slice.result.now c.in_ok-least.least.items c.as_slice-2.result.now c.in_ok-classes.classes.numbers
      c.in_ok-classes.classes.count c.power_number-count.ensures c.in_ok-pairs.ensures c.as_slice.ensures
      c.in_ok-least.ensures c.as_slice-2.ensures.value c.in_ok-classes.ensures;
}
