-- Plans that were read, and the list that is left by their swaps.
use Rattle.std.proofs.Common.{◌≡◌, ℕ, suc, ◌<◌, List, [], ◌∷◌, false, length, map, get_or, sym, subst, arith}
use Rattle.std.specs.Prelude.{◌≢◌, ◌≤◌, All, AllPairs}
use Rattle.std.proofs.lemmas.List.{length-map}
use Rattle.std.proofs.lemmas.List.Elements.{All-map}
use Rattle.std.proofs.lemmas.List.Kept.{AllPairs-cons}
use Rattle.mp_base.specs.declared.pad.Pads.{Pads}
use Rattle.board.specs.declared.link.Link.{Link}
use Rattle.board.specs.declared.plan.Plan.{Plan}
use Rattle.board.specs.declared.plan.Swap.{Swap}
use Rattle.board.specs.Boarding.{AreApart, AreWires, IsWire}
use Rattle.board.specs.Face.{Face}
use Rattle.board.specs.Loop.{Exchange}
use Rattle.board.specs.Plans.{IsWhole, Setting}
use Rattle.board_run.specs.Laws.{CanRun, PlansRun}
use Rattle.board_run.specs.Left.{exchange_of, exchanges_of, is_put_in, left_of, link_left, links_left}
use Rattle.board_run.specs.Swaps.{AreTimely}
use Rattle.board_run.proofs.Left.{free_of, place_inside, places_apart}

pairs_map : {X Y : Type 0} (R : Y → Y → Type 0) (f : X → Y) (xs : List X) → AllPairs (λ x y. R (f x) (f y)) xs
    → AllPairs R (map f xs)
pairs_map R f [] all = λ i j d lt less. absurd (omega (arith, less))
pairs_map R f (x ∷ xs) all =
    AllPairs-cons R (f x) (map f xs)
    (All-map (R (f x)) f xs (λ k d less. all 0 (suc k) d (omega arith) (omega (arith, less))))
    (pairs_map R f xs (λ i j d lt less. all (suc i) (suc j) d (omega (arith, lt)) (omega (arith, less))))

module _ (setting : Setting) (plan : Plan) (faces : List Face) (whole : IsWhole setting plan) where
  -- no swap puts in the part of a link
  unswapped : (k : ℕ) (d : Link) → k < length plan.links → is_put_in plan.swaps (get_or plan.links k d).part ≡ false
  unswapped k d lt = free_of (get_or plan.links k d).part plan.swaps (λ j e less. whole.free j e less k d lt)

  left_wire : (l : Link) → IsWire setting.pads l → IsWire setting.pads (link_left plan.swaps l)
  left_wire l h = record { seen = h.seen; input = h.input; driven = h.driven; no_reset = h.no_reset }

  left_wires : AreWires setting.pads (links_left plan)
  left_wires = record {
    each = All-map (IsWire setting.pads) (link_left plan.swaps) plan.links
        (λ k d lt. left_wire (get_or plan.links k d) ((whole.wires).each k d lt));
    apart = pairs_map AreApart (link_left plan.swaps) plan.links (λ i j d lt less.
        let h = (whole.wires).apart i j d lt less in
        record {
          part =
              places_apart plan.swaps (get_or plan.links i d).part (get_or plan.links j d).part whole.apart
              (unswapped i d (omega (arith, lt, less))) (unswapped j d less) h.part;
          driven = h.driven;
        });
  }

  can_run : CanRun setting plan faces
  can_run = record {
    wires = left_wires;
    within =
        All-map (λ (l : Link). l.part < length (left_of plan.swaps setting.parts)) (link_left plan.swaps) plan.links
        (λ k d lt. place_inside plan.swaps (get_or plan.links k d).part setting.parts whole.apart (unswapped k d lt)
        (whole.within k d lt));
    timely = record {
      in_order =
          pairs_map (λ (s t : Exchange). s.clock ≤ t.clock) (exchange_of faces) plan.swaps whole.in_order;
      within =
          All-map (λ (s : Exchange). s.clock < setting.clocks) (exchange_of faces) plan.swaps whole.timely;
      linked =
          All-map (λ (s : Exchange). s.link < length (links_left plan)) (exchange_of faces) plan.swaps (λ k d lt.
          let h = whole.linked k d lt in
          let same = length-map plan.links (link_left plan.swaps) in omega (arith, h, same));
    };
  }

pub plans_run : PlansRun
plans_run = can_run
