-- Room for the three rounds, and what was done in terms of the first nets.
use Rattle.std.proofs.Common.{◌≡◌, ℕ, ◌+◌, ◌*◌, ◌<◌, List, [], Option, None, length, take, replicate, refl, sym}
use Rattle.mp_base.proofs.Lists.{take_whole}
use Rattle.std.proofs.Common.{ap, subst, arith}
use Rattle.std.specs.List.{sum_by}
use Rattle.nor_net.specs.declared.net.NetId.{NetId}
use Rattle.nor_net.specs.declared.net.Part.{Part}
use Rattle.nor_net.specs.Shape.{gate_inputs, net_limit}
use Rattle.rtl_form.specs.declared.rtl.Cell as cells
use Rattle.rtl_form.specs.declared.rtl.Rtl.{Rtl}
use Rattle.rtl_form.specs.Cost.{cost}
use Rattle.task_schedule.specs.declared.task.Task.{Task}
use Rattle.bit_gates.specs.declared.rails.Rails.{Rails}
use Rattle.control_nor.specs.declared.names.Bits.{Bits}
use Rattle.bit_gates.specs.Adding.{HasRoom}
use Rattle.bit_gates.specs.Cells.{first_cost}
use Rattle.control_nor.specs.Done.{AreDone}
use Rattle.control_nor.specs.First.{AreFirstDone}
use Rattle.control_nor.specs.Lowering.{IsLowered}
use Rattle.control_nor.specs.NextValues.{next_left}
use Rattle.control_nor.specs.Progress.{IsBegun, cost_left}
use Rattle.control_nor.proofs.Costs.{bit_cost_most, rounds}

pub as_begun : (r : Rtl) (mid : List Part) (named es : List (Option Rails)) → es ≡ replicate (length r.exprs) None
    → IsBegun r mid (record { cells = named; exprs = replicate (length r.exprs) None })
    → IsBegun r mid (record { cells = named; exprs = es })
as_begun r mid named es e h = subst (λ es. IsBegun r mid (record { cells = named; exprs = es })) (sym e) h

pub as_done : (r : Rtl) (tasks same : List Task) (mid mid2 : List Part) (named es : List (Option Rails))
    (bits : Bits) (ends : List ℕ)
    → same ≡ tasks → es ≡ replicate (length r.exprs) None
    → AreDone r same (length same) mid mid2 (record { cells = named; exprs = es }) bits ends
    → AreDone r tasks (length tasks) mid mid2 (record { cells = named; exprs = replicate (length r.exprs) None })
    bits ends
as_done r tasks same mid mid2 named es bits ends e f h =
    subst (λ ts. AreDone r ts (length ts) mid mid2 (record {
      cells = named;
      exprs = replicate (length r.exprs) None;
    }) bits ends) e
    (subst (λ es. AreDone r same (length same) mid mid2 (record { cells = named; exprs = es }) bits ends) f h)

module _ (r : Rtl) (old : List Part) (room : length old + 2 * cost r < net_limit)
    (inputs_room : gate_inputs old + 4 * cost r < net_limit) where
  pub room_first : HasRoom (sum_by first_cost r.cells) old
  room_first =
      let k = rounds r (record { cells = []; exprs = replicate (length r.exprs) None }) refl in
      let m = bit_cost_most r in
      record { room = omega (arith, k, m, room); inputs_room = omega (arith, k, m, inputs_room) }

  module _ (mid : List Part) (named : List (Option Rails)) (pads : List (Option NetId))
      (first : AreFirstDone r (length r.cells) old mid named pads) where
    pub room_tasks : (es : List (Option Rails)) → es ≡ replicate (length r.exprs) None
        → HasRoom (cost_left r (record { cells = named; exprs = es })) mid
    room_tasks es e =
        let k = rounds r (record { cells = named; exprs = es }) e in let m = bit_cost_most r in
        let t : sum_by first_cost (take (length r.cells) r.cells)
        ≡ sum_by first_cost r.cells = ap (sum_by first_cost) (take_whole r.cells) in
        let a = first.within.nets in let b = first.within.inputs in
        record { room = omega (arith, k, m, t, a, room); inputs_room = omega (arith, k, m, t, b, inputs_room) }

    pub room_next : (tasks : List Task) (mid2 : List Part) (bits : Bits) (ends : List ℕ)
        → AreDone r tasks (length tasks) mid mid2 (record { cells = named; exprs = replicate (length r.exprs) None })
        bits ends
        → HasRoom (next_left r 0) mid2
    room_next tasks mid2 bits ends done =
        let k = rounds r (record { cells = named; exprs = replicate (length r.exprs) None }) refl in
        let m = bit_cost_most r in
        let t : sum_by first_cost (take (length r.cells) r.cells)
        ≡ sum_by first_cost r.cells = ap (sum_by first_cost) (take_whole r.cells) in
        let a = first.within.nets in let b = first.within.inputs in
        let s = done.progress.spent in let c = s.within.nets in let d = s.within.inputs in let x = s.cost_is in
        record {
          room = omega (arith, k, m, t, a, c, x, room);
          inputs_room = omega (arith, k, m, t, b, d, x, inputs_room);
        }

-- names that are told by equations
pub as_lowered : (r : Rtl) (old after : List Part) (cells exprs cells2 exprs2 inputs : List (Option NetId))
    (tasks : List Task)
    (start start2 : ℕ) (ends : List ℕ) → cells ≡ cells2 → exprs ≡ exprs2 → start ≡ start2
    → IsLowered r old after (record {
      cells = cells2;
      exprs = exprs2;
      inputs = inputs;
      tasks = tasks;
      start = start2;
      ends = ends;
    })
    → IsLowered r old after (record {
      cells = cells;
      exprs = exprs;
      inputs = inputs;
      tasks = tasks;
      start = start;
      ends = ends;
    })
as_lowered r old after cells exprs cells2 exprs2 inputs tasks start start2 ends e f g h =
    subst (λ x. IsLowered r old after (record {
      cells = x;
      exprs = exprs;
      inputs = inputs;
      tasks = tasks;
      start = start;
      ends = ends;
    })) (sym e)
    (subst (λ x. IsLowered r old after (record {
      cells = cells2;
      exprs = x;
      inputs = inputs;
      tasks = tasks;
      start = start;
      ends = ends;
    })) (sym f)
    (subst (λ x. IsLowered r old after (record {
      cells = cells2;
      exprs = exprs2;
      inputs = inputs;
      tasks = tasks;
      start = x;
      ends = ends;
    })) (sym g) h))
