use Rattle.std.proofs.Common.{◌≡◌, ◌<◌, ◌+◌, length, take, get_or, refl, subst, ◌∙◌, ap, arith}
use Rattle.std.specs.Prelude.{IfSome, slice_get}
use Rattle.mp_base.specs.declared.value.Trit.TheVariants.{X}
use Rattle.mp_base.proofs.Entries.{some_entry}
use Rattle.nor_net.specs.Shape.{count_inputs, input_count}
use Rattle.nor_net.specs.Passing.{first_value}
use Rattle.nor_net.proofs.Counting.{count_more, count_small, one_input}
use Rattle.nor_net.proofs.Starting.{one_started}
use Rattle.nor_net.proofs.setting.start.Goals as goal

pub overflow_add-next : goal.overflow_add-next
overflow_add-next c =
    let inside : c.loop-number.number < length c.args.net.now =
    omega (arith, c.loop-number-test.true, c.len-number-end.ensures.len) in
    let p = some_entry c.args.net.now c.loop-number.number inside in
    let i : c.inputs_in-next.result ≡ input_count p.0 =
    subst (λ o. IfSome o (λ p. c.inputs_in-next.result ≡ input_count p)) p.1 c.inputs_in-next.ensures in
    let one = one_input p.0 in
    let few = count_small c.args.net.now c.loop-number.number in
    let next = c.loop-number.invariant.0 in
    let nets = c.len-number-end.ensures.shape.few_nets in
    omega (arith, inside, i, one, few, next, nets)

pub loop-number-preserved : goal.loop-number-preserved
loop-number-preserved c =
    let inside : c.loop-number.number < length c.args.net.now =
    omega (arith, c.loop-number-test.true, c.len-number-end.ensures.len) in
    let p = some_entry c.args.net.now c.loop-number.number inside in
    let i : c.inputs_in-next.result ≡ input_count p.0 =
    subst (λ o. IfSome o (λ p. c.inputs_in-next.result ≡ input_count p)) p.1 c.inputs_in-next.ensures in
    let more = count_more c.args.net.now c.loop-number.number p.0 p.1 in
    let next = c.loop-number.invariant.0 in
    let s = c.loop-number.invariant.1 in
    let size = s.size in
    let within : c.loop-number.number < length c.loop-number.values = omega (arith, inside, size, c.requires.size) in
    let input : c.input_at-input.result
    ≡ get_or c.args.inputs.now (count_inputs (take c.loop-number.number c.args.net.now)) X =
    c.input_at-input.ensures ∙ ap (λ xs. get_or xs c.loop-number.next X) c.as_slice.ensures
    ∙ ap (λ n. get_or c.args.inputs.now n X) next in
    let value = subst (λ xs. IfSome (slice_get c.args.net.now c.loop-number.number)
    (λ p. c.begin-value.result ≡ first_value c.args.phase c.input_at-input.result xs c.loop-number.number p))
    c.as_slice-in-loop-number.ensures c.begin-value.ensures in
    let value2 = subst (λ t. IfSome (slice_get c.args.net.now c.loop-number.number)
    (λ p. c.begin-value.result ≡ first_value c.args.phase t c.loop-number.values c.loop-number.number p)) input
    value in (
      omega (arith, next, more, i),
      one_started c.args.net.now c.args.phase c.args.inputs.now c.loop-number.number
          (c.loop-number.number + 1) c.args.values.now c.loop-number.values c.set.new.self c.begin-value.result s
          within refl
          c.set.ensures value2,
    )
