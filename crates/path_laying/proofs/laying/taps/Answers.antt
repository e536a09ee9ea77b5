use Rattle.std.proofs.Common.{ℕ, ◌<◌, ◌+◌, ◌++◌, ◌∙◌, length, map, sym, ap, subst, arith}
use Rattle.std.specs.Prelude.{All, slice_index}
use Rattle.array_form.specs.declared.band.Tap.{Tap}
use Rattle.band_lists.specs.Listed.{AreRows}
use Rattle.slice_form.specs.Whole.{path_of}
use Rattle.path_laying.specs.Tapped.{phase_taps}
use Rattle.path_laying.proofs.BandTaps.{mark_of, taps_in, taps_marked}
use Rattle.path_laying.proofs.laying.taps.Goals as goal

pub push_phases-requires-clause-few : goal.push_phases-requires-clause-few
push_phases-requires-clause-few c =
    let n = c.len-nets.ensures.len in
    let f = c.len-nets.ensures.shape.few_nets in omega (arith, n, f)

pub push_phases-requires-clause-rows : goal.push_phases-requires-clause-rows
push_phases-requires-clause-rows c =
    subst (λ n. AreRows c.args.tracks.now (n + 3)) (sym c.len-nets.ensures.len) c.requires.rows

pub push_taps-requires-clause-rows : goal.push_taps-requires-clause-rows
push_taps-requires-clause-rows c =
    subst (AreRows c.args.tracks.now) (sym c.requires.rows.long) c.requires.rows

pub push_taps-requires-clause-nets : goal.push_taps-requires-clause-nets
push_taps-requires-clause-nets c =
    let p = c.args.path.now in
    let a = taps_in (path_of p)
    (c.paths_are_placeable.ensures p c.len-nets.ensures.shape c.len-slices.ensures.shape).path
    c.args.band.now c.requires.band in
    let l = c.requires.rows.long in
    subst (All (λ (t : Tap). t.net.0 < length c.args.tracks.now.row)) (sym c.as_slice.ensures)
    (λ k d lt. let b = a k d lt in omega (arith, b, l))

pub returns : goal.returns
returns c =
    let q = path_of c.args.path.now in
    let row : ℕ → ℕ = slice_index c.args.tracks.now.row in
    c.in_ok-push_taps.ensures
    ∙ (ap (λ l. l ++ map (mark_of row) c.as_slice.result.now)
    (c.in_ok-push_phases.ensures
    ∙ (ap (λ l. l ++ phase_taps c.len-nets.result row) c.new-marks.ensures.items
    ∙ ap (λ n. phase_taps n row) c.len-nets.ensures.len))
    ∙ ap (λ l. phase_taps (length q.control) row ++ l)
    (ap (map (mark_of row)) (c.as_slice.ensures ∙ c.requires.band.taps) ∙ taps_marked q row))
