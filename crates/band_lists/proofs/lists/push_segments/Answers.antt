use Rattle.std.proofs.Common.{ℕ, [], ◌∷◌, ◌++◌, ◌≡◌, ◌<◌, ◌+◌, ◌∙◌, ap, length, slice_index, suc, arith}
use Rattle.std.specs.Prelude.{slice_index_or}
use Rattle.mp_base.proofs.Ranges.{map_grown}
use Rattle.array_form.specs.Lists.{stretch}
use Rattle.band_lists.specs.Listed.{segment_of, nowhere}
use Rattle.band_lists.proofs.lists.push_segments.Goals as goal

pub overflow_add-rows : goal.overflow_add-rows
overflow_add-rows c =
    let k = c.loop-k.k in
    let t : k < length c.args.rows.now = omega arith in
    omega (arith, c.requires.rows k 0 t)

pub loop-k-preserved : goal.loop-k-preserved
loop-k-preserved c =
    map_grown c.args.segments.now.items
    (segment_of c.args.band c.args.spans.now c.args.rows.now) c.loop-k.k _ _ c.loop-k.invariant
    (let k : ℕ = c.loop-k.k in
    let e : slice_index c.args.rows.now k + 1 ≡ suc (slice_index c.args.rows.now k) = omega arith in
    c.in_ok-push.ensures.items
    ∙ ap (λ r. c.loop-k.segments.items ++ stretch c.args.band r (slice_index_or c.args.spans.now k nowhere).first
    (slice_index_or c.args.spans.now k nowhere).last ∷ []) e)
