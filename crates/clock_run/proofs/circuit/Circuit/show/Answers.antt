use Rattle.std.proofs.Common.{◌≡◌, ◌∙◌, ◌+◌, ◌<◌, ◌≤◌, ℕ, List, length, get_or, map, take, sym, ap, subst, arith}
use Rattle.std.specs.List.{AllZip}
use Rattle.std.proofs.lemmas.List.{get_or_default, length-set}
use Rattle.mp_base.specs.declared.value.Trit.{Trit}
use Rattle.mp_base.specs.declared.value.TritWord.{TritWord}
use Rattle.mp_base.proofs.Zips.{zip_length}
use Rattle.switch_net.specs.Values.{value_at}
use Rattle.clock_run.specs.Circuit.{Running}
use Rattle.stimulus.specs.Bits.{low_trits}
use Rattle.clock_run.specs.Plan.{AreNodesOf}
use Rattle.clock_run.proofs.Planned.{nodes_few}
use Rattle.clock_run.proofs.Showing.{IsShown, shown_more, all_shown, all_show, all_narrow}
use Rattle.clock_run.proofs.circuit.Circuit.show.Goals as goal

pub word_of-requires : goal.word_of-requires
word_of-requires c =
    let own : List (List ℕ) = c.self.inside.plan.outputs in
    let k = c.loop-k.k in
    let is = c.as_slice.ensures ∙ c.index-pads-k.is ∙ ap (λ (xs : List (List ℕ)). get_or xs k c.index-pads-k.result)
    c.as_slice-pads.ensures in
    let lt : k < length own =
    subst (λ (xs : List (List ℕ)). k < length xs) c.as_slice-pads.ensures c.loop-k-test.true in
    subst (λ (ns : List ℕ). length ns ≤ 64) (sym is)
    (nodes_few c.self.inside.settler.network c.self.inside.pads.now.outputs own c.self.invariant.planned.output k
    c.index-pads-k.result lt)

pub put-requires : goal.put-requires
put-requires c =
    let own : List (List ℕ) = c.self.inside.plan.outputs in
    let lt : c.loop-k.k < length own =
    subst (λ (xs : List (List ℕ)). c.loop-k.k < length xs) c.as_slice-pads.ensures c.loop-k-test.true in
    let l = zip_length
    (AreNodesOf c.self.inside.settler.network) c.self.inside.pads.now.outputs own c.self.invariant.planned.output in
    let r = subst (λ (r : Running). length c.args.outputs.now ≡ length r.pads.outputs)
    (sym c.self.view_is) c.requires in
    omega (arith, lt, l, r, c.loop-k.invariant.room)

pub loop-k-preserved : goal.loop-k-preserved
loop-k-preserved c =
    let net = c.self.inside.settler.network in
    let pads = c.self.inside.pads.now.outputs in
    let own : List (List ℕ) = c.self.inside.plan.outputs in
    let values = value_at c.self.inside.settler.values in
    let k = c.loop-k.k in
    let nodes : List ℕ = c.as_slice.result.now in
    let word = c.word_of.result in
    let outputs : List TritWord = c.loop-k.outputs in
    let lt : k < length own =
    subst (λ (xs : List (List ℕ)). k < length xs) c.as_slice-pads.ensures c.loop-k-test.true in
    let l = zip_length (AreNodesOf net) pads own c.self.invariant.planned.output in
    let r = subst (λ (r : Running). length c.args.outputs.now ≡ length r.pads.outputs)
    (sym c.self.view_is) c.requires in
    let room : k < length outputs = omega (arith, lt, l, r, c.loop-k.invariant.room) in
    let is = c.as_slice.ensures ∙ c.index-pads-k.is ∙ ap (λ (xs : List (List ℕ)). get_or xs k c.index-pads-k.result)
    c.as_slice-pads.ensures in
    let at : nodes ≡ get_or own k nodes = is ∙ get_or_default own k c.index-pads-k.result nodes lt in
    let bits : low_trits (length nodes) word ≡ map values nodes =
    c.word_of.ensures.bits ∙ ap (λ (vs : List Trit). map (value_at vs) nodes) c.values-values.ensures.same in
    let shown : AllZip (IsShown net values) (take k pads) (take k outputs) =
    subst (λ (r : Running). AllZip (IsShown r.network (value_at r.values)) (take k r.pads.outputs) (take k outputs))
    (sym c.self.view_is)
    c.loop-k.invariant.shown in
    record {
      room = ap (λ (ws : List TritWord). length ws) c.put.ensures ∙ length-set outputs k word ∙ c.loop-k.invariant.room;
      shown = subst (λ (r : Running). AllZip (IsShown r.network (value_at r.values)) (take (k + 1) r.pads.outputs)
          (take (k + 1) c.put.new.self))
          c.self.view_is
          (subst (λ (ws : List TritWord). AllZip (IsShown net values) (take (k + 1) pads) (take (k + 1) ws))
          (sym c.put.ensures)
          (shown_more net values pads own outputs k nodes word lt room at c.self.invariant.planned.output
          c.word_of.ensures.narrow bits
          shown));
    }

pub returns : goal.returns
returns c =
    let now = c.args.self.now in
    let own : List (List ℕ) = c.self.inside.plan.outputs in
    let values = value_at now.values in
    let past : length own ≤ c.loop-k.k =
    subst (λ (xs : List (List ℕ)). length xs ≤ c.loop-k.k) c.as_slice-pads.ensures c.loop-k-test.false in
    let l = subst (λ (r : Running). length r.pads.outputs ≡ length own) c.self.view_is
    (zip_length
    (AreNodesOf c.self.inside.settler.network) c.self.inside.pads.now.outputs own c.self.invariant.planned.output) in
    let all : AllZip (IsShown now.network values) now.pads.outputs c.loop-k.outputs =
    all_shown now.network values now.pads.outputs c.loop-k.outputs c.loop-k.k (omega (arith, past, l))
    (omega (arith, past, l, c.loop-k.invariant.room, c.requires)) c.loop-k.invariant.shown in
    record {
      shown = all_show now.network values now.pads.outputs c.loop-k.outputs all;
      narrow = all_narrow now.network values now.pads.outputs c.loop-k.outputs all;
    }
