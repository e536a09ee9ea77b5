use Rattle.std.proofs.Common.{ℕ, ◌≡◌, ◌+◌, [], ◌∷◌, ◌++◌, ◌∙◌, ap, sym, subst, arith}
use Rattle.std.specs.Prelude.{slice_index}
use Rattle.band_lists.specs.Listed.{AreRows}
use Rattle.slice_layout.proofs.Growth.{three_more}
use Rattle.path_laying.specs.Crossed.{crossing}
use Rattle.path_laying.proofs.unders.push_phases.Goals as goal

pub under-requires-clause-rows : goal.under-requires-clause-rows
under-requires-clause-rows c = subst (AreRows c.args.tracks.now) (sym c.requires.rows.long) c.requires.rows

pub under-requires-2-clause-rows : goal.under-requires-2-clause-rows
under-requires-2-clause-rows c = subst (AreRows c.args.tracks.now) (sym c.requires.rows.long) c.requires.rows

pub under-requires-3-clause-rows : goal.under-requires-3-clause-rows
under-requires-3-clause-rows c = subst (AreRows c.args.tracks.now) (sym c.requires.rows.long) c.requires.rows

pub returns : goal.returns
returns c =
    let row : ℕ → ℕ = slice_index c.args.tracks.now.row in
    let nets : ℕ = c.args.nets in
    let zero_more : nets ≡ nets + 0 = omega arith in
    let x = c.under.ensures ∙ ap (λ z. crossing row 0 z) zero_more in
    three_more c.args.marks.now.items _ _ _ c.under.result c.under-2.result c.under-3.result
    c.in_ok-push.ensures.items c.in_ok-push-2.ensures.items c.in_ok-push-3.ensures.items
    ∙ (λ j. c.args.marks.now.items ++ x j ∷ c.under-2.ensures j ∷ c.under-3.ensures j ∷ [])
