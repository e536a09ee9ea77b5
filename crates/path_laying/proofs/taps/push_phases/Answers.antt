use Rattle.std.proofs.Common.{ℕ, ◌≡◌, ◌+◌, [], ◌∷◌, ◌++◌, ◌∙◌, ap, sym, subst, arith}
use Rattle.std.specs.Prelude.{slice_index}
use Rattle.band_lists.specs.Listed.{AreRows}
use Rattle.slice_layout.proofs.Growth.{three_more}
use Rattle.path_laying.specs.Tapped.{tap_mark}
use Rattle.path_laying.proofs.taps.push_phases.Goals as goal

pub tapped-requires-clause-rows : goal.tapped-requires-clause-rows
tapped-requires-clause-rows c = subst (AreRows c.args.tracks.now) (sym c.requires.rows.long) c.requires.rows

pub tapped-requires-2-clause-rows : goal.tapped-requires-2-clause-rows
tapped-requires-2-clause-rows c = subst (AreRows c.args.tracks.now) (sym c.requires.rows.long) c.requires.rows

pub tapped-requires-3-clause-rows : goal.tapped-requires-3-clause-rows
tapped-requires-3-clause-rows c = subst (AreRows c.args.tracks.now) (sym c.requires.rows.long) c.requires.rows

pub returns : goal.returns
returns c =
    let row : ℕ → ℕ = slice_index c.args.tracks.now.row in
    let nets : ℕ = c.args.nets in
    let zero_more : nets ≡ nets + 0 = omega arith in
    let x = c.tapped.ensures ∙ ap (λ z. tap_mark row z 1) zero_more in
    three_more c.args.marks.now.items _ _ _ c.tapped.result c.tapped-2.result c.tapped-3.result
    c.in_ok-push.ensures.items c.in_ok-push-2.ensures.items c.in_ok-push-3.ensures.items
    ∙ (λ j. c.args.marks.now.items ++ x j ∷ c.tapped-2.ensures j ∷ c.tapped-3.ensures j ∷ [])
