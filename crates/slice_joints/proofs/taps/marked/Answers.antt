use Rattle.std.proofs.Common.{ℕ, suc, ◌≡◌, ◌+◌, ◌∙◌, ap, sym, subst, arith}
use Rattle.std.specs.Prelude.{slice_index}
use Rattle.array_form.specs.Lists.{mark}
use Rattle.band_lists.specs.Listed.{AreRows}
use Rattle.slice_joints.proofs.taps.marked.Goals as goal

pub mark-requires-clause-there : goal.mark-requires-clause-there
mark-requires-clause-there c = let l = c.requires.tracks.rows.long in omega (arith, l)

pub mark-requires-clause-rows : goal.mark-requires-clause-rows
mark-requires-clause-rows c =
    subst (AreRows c.args.tracks.now) (sym c.requires.tracks.rows.long) c.requires.tracks.rows

pub returns : goal.returns
returns c =
    let k : ℕ = c.args.k in
    let next : k + 1 ≡ suc k = omega arith in
    c.mark.ensures
    ∙ ap (λ b. mark c.args.tile b (suc (slice_index c.args.tracks.now.row c.args.segment)) c.args.column) next
