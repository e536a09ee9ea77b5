use Rattle.std.proofs.Common.{ℕ, suc, ◌≡◌, ◌+◌, [], ◌∷◌, ◌++◌, ◌∙◌, ap, sym, arith}
use Rattle.std.specs.Prelude.{slice_index}
use Rattle.tile_cells.specs.declared.tile.Tile.TheVariants.{TapR, PullUp}
use Rattle.array_form.specs.Lists.{mark}
use Rattle.slice_joints.specs.Tapping.{bit_marks_at}
use Rattle.slice_layout.proofs.Growth.{three_more}
use Rattle.slice_joints.proofs.Joined.{bit_tapped}
use Rattle.slice_joints.proofs.taps.push_bit.Goals as goal

pub returns : goal.returns
returns c =
    let row : ℕ → ℕ = slice_index c.args.tracks.now.row in
    let top : ℕ = c.args.tracks.now.rows in
    let old = c.args.marks.now.items in
    let k : ℕ = c.args.k in
    let column : ℕ = c.args.column in
    let net : ℕ = c.args.program.net.0 in
    let next : k + 1 ≡ suc k = omega arith in
    let above : top + 1 ≡ suc top = omega arith in
    let last = c.marked.ensures ∙ ap (λ t. mark t (suc k) (suc (row net)) column) c.bit_tile-tile.ensures in
    three_more old _ _ _ (mark TapR (k + 1) 0 column) (mark PullUp (k + 1) (top + 1) column) c.marked.result
    c.in_ok-push.ensures.items c.in_ok-push-2.ensures.items c.in_ok-push-3.ensures.items
    ∙ ((λ j. old ++ mark TapR (next j) 0 column ∷ mark PullUp (next j) (above j) column ∷ last j ∷ [])
    ∙ (ap (λ l. old ++ mark TapR (suc k) 0 column ∷ mark PullUp (suc k) (suc top) column ∷ l)
    (bit_tapped c.bit_of.result row (suc k) net column)
    ∙ ap (λ q. old ++ bit_marks_at (suc top) row net column (suc k) q) (sym c.bit_of.ensures)))
