use Rattle.std.proofs.Common.{◌≡◌, ℕ, zero, suc, ◌+◌, ◌<◌, ◌++◌, [], ◌∷◌, ◌∙◌, List, length, replicate, refl, sym}
use Rattle.std.proofs.Common.{ap, subst, arith}
use Rattle.std.specs.Prelude.{slice_index, slice_index_or}
use Rattle.std.proofs.lemmas.List.{length-replicate}
use Rattle.fabric.specs.Plan.{with_added}
use Rattle.track_assign.specs.declared.packing.Tracks.{Tracks}
use Rattle.band_lists.specs.Listed.{AreRows}
use Rattle.slice_form.specs.Whole.{path_of}
use Rattle.slice_chip.specs.Unders.{unders}
use Rattle.path_laying.specs.Steps.{HasControl}
use Rattle.path_laying.proofs.Raised.{sliced_from}
use Rattle.path_laying.proofs.laying.lay.Goals as goal

-- the first of some that are all one
first_of : {X : Type 0} (n : ℕ) (x d : X) → 0 < n → slice_index_or (replicate n x) 0 d ≡ x
first_of zero x d lt = absurd (omega (arith, lt))
first_of (suc n) x d lt = refl

pub at-rows-requires : goal.at-rows-requires
at-rows-requires c =
    let e = ap (λ (l : List Tracks). length l) c.in_ok-placed.ensures.told in omega (arith, e)

pub add_slices-requires-clause-control : goal.add_slices-requires-clause-control
add_slices-requires-clause-control c =
    let placed = c.in_ok-placed.ensures in
    let same = c.at-rows.ensures ∙ ap (λ l. slice_index_or l 0 c.at-rows.result.now) placed.told in
    subst (HasControl (path_of c.args.path.now) c.place_control.new.fabric) (sym same) placed.laid

pub add_taps-requires-clause-rows : goal.add_taps-requires-clause-rows
add_taps-requires-clause-rows c =
    let placed = c.in_ok-placed.ensures in
    let same = c.at-rows.ensures ∙ ap (λ l. slice_index_or l 0 c.at-rows.result.now) placed.told in
    (subst (HasControl (path_of c.args.path.now) c.place_control.new.fabric) (sym same) placed.laid).rows

pub add_taps-requires-clause-tracks : goal.add_taps-requires-clause-tracks
add_taps-requires-clause-tracks c =
    let placed = c.in_ok-placed.ensures in
    let same = c.at-rows.ensures ∙ ap (λ l. slice_index_or l 0 c.at-rows.result.now) placed.told in
    (subst (HasControl (path_of c.args.path.now) c.place_control.new.fabric) (sym same) placed.laid).tracks

pub add_taps-requires-clause-slices : goal.add_taps-requires-clause-slices
add_taps-requires-clause-slices c = c.in_ok-slices.ensures.laid

pub at-above-requires : goal.at-above-requires
at-above-requires c =
    let p = c.args.path.now in
    let slices = c.in_ok-slices.ensures in
    let e = ap (λ (l : List Tracks). length l) slices.told in
    let l = length-replicate p.width slices.laid.slices in
    let w = p.whole.width.0 in omega (arith, e, l, w)

pub add_unders-requires-clause-control : goal.add_unders-requires-clause-control
add_unders-requires-clause-control c =
    let placed = c.in_ok-placed.ensures in
    let same = c.at-rows.ensures ∙ ap (λ l. slice_index_or l 0 c.at-rows.result.now) placed.told in
    (subst (HasControl (path_of c.args.path.now) c.place_control.new.fabric) (sym same) placed.laid).rows

pub add_unders-requires-clause-slices : goal.add_unders-requires-clause-slices
add_unders-requires-clause-slices c =
    let p = c.args.path.now in
    let slices = c.in_ok-slices.ensures in
    let same = c.at-above.ensures ∙ (ap (λ l. slice_index_or l 0 c.at-above.result.now) slices.told
    ∙ first_of p.width slices.laid.slices c.at-above.result.now p.whole.width.0) in
    subst (λ t. AreRows t (length p.slices.net + 3)) (sym same) slices.rows

pub add_unders-requires-clause-tapped : goal.add_unders-requires-clause-tapped
add_unders-requires-clause-tapped c =
    let p = c.args.path.now in
    let placed = c.in_ok-placed.ensures in
    let slices = c.in_ok-slices.ensures in
    let below = c.at-rows.ensures ∙ ap (λ l. slice_index_or l 0 c.at-rows.result.now) placed.told in
    let above = c.at-above.ensures ∙ (ap (λ l. slice_index_or l 0 c.at-above.result.now) slices.told
    ∙ first_of p.width slices.laid.slices c.at-above.result.now p.whole.width.0) in
    let control = subst (HasControl (path_of p) c.place_control.new.fabric) (sym below) placed.laid in
    record {
      sliced = sliced_from p c.place_control.new.fabric c.add_slices.new.fabric c.add_taps.new.fabric
          c.at-rows.result.now control slices.laid c.in_ok-add_taps.ensures;
      control_is = refl;
      slices_is = sym above;
    }

pub returns : goal.returns
returns c =
    let p = c.args.path.now in
    let q = path_of p in
    let placed = c.in_ok-placed.ensures in
    let slices = c.in_ok-slices.ensures in
    let below = c.at-rows.ensures ∙ ap (λ l. slice_index_or l 0 c.at-rows.result.now) placed.told in
    let above = c.at-above.ensures ∙ (ap (λ l. slice_index_or l 0 c.at-above.result.now) slices.told
    ∙ first_of p.width slices.laid.slices c.at-above.result.now p.whole.width.0) in
    let control = subst (HasControl q c.place_control.new.fabric) (sym below) placed.laid in
    record {
      led = record {
        bare = c.add_taps.new.fabric;
        sliced = sliced_from p c.place_control.new.fabric c.add_slices.new.fabric c.add_taps.new.fabric
            c.at-rows.result.now control slices.laid c.in_ok-add_taps.ensures;
        is = c.in_ok-add_unders.ensures
            ∙ ap (λ s. with_added c.add_taps.new.fabric [] [] (unders q c.at-rows.result.now s)) above;
      };
      groups = c.in_ok-groups.ensures
          ∙ ((λ j. placed.told j ++ slices.told j) ∙ ap (λ t. t ∷ replicate q.width slices.laid.slices) (sym below));
    }
