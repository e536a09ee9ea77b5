use Rattle.std.proofs.Common.{ℕ, ◌≡◌, ◌<◌, ◌+◌, suc, false, [], ◌∷◌, ◌++◌, ◌∙◌, length, ap, append_assoc, sym, subst, arith}
use Rattle.std.specs.Prelude.{All, slice_index}
use Rattle.tile_cells.specs.declared.tile.Tile.TheVariants.{Under}
use Rattle.nor_net.specs.declared.net.NetId.{NetId}
use Rattle.array_form.specs.Homes.{phase_number}
use Rattle.array_form.specs.Lists.{mark}
use Rattle.band_lists.specs.Listed.{AreRows}
use Rattle.slice_form.specs.Whole.{pad_entries}
use Rattle.slice_laying.specs.Added.{of_phases}
use Rattle.path_laying.specs.Crossed.{crossing, crossings}
use Rattle.path_laying.proofs.Crossed.{control_crossed, signals_in}
use Rattle.path_laying.proofs.unders.push_control.Goals as goal

pub push_nets-requires-clause-rows : goal.push_nets-requires-clause-rows
push_nets-requires-clause-rows c = subst (AreRows c.args.tracks.now) (sym c.requires.rows.long) c.requires.rows

pub push_nets-requires-clause-nets : goal.push_nets-requires-clause-nets
push_nets-requires-clause-nets c =
    let a = signals_in c.args.path.now in
    let l = c.requires.rows.long in
    subst (All (λ (i : NetId). i.0 < length c.args.tracks.now.row)) (sym (c.as_slice.ensures ∙ c.in_ok-signals.ensures))
    (λ k d lt. let b = a k d lt in omega (arith, b, l))

pub push_phases-requires-clause-few : goal.push_phases-requires-clause-few
push_phases-requires-clause-few c =
    let n = c.len.ensures.len in let f = c.len.ensures.shape.few_nets in omega (arith, n, f)

pub push_phases-requires-clause-rows : goal.push_phases-requires-clause-rows
push_phases-requires-clause-rows c =
    subst (λ n. AreRows c.args.tracks.now (n + 3)) (sym c.len.ensures.len) c.requires.rows

pub returns : goal.returns
returns c =
    let p = c.args.path.now in
    let row : ℕ → ℕ = slice_index c.args.tracks.now.row in
    let old = c.args.marks.now.items in
    let rows : ℕ = c.args.tracks.now.rows in
    let more : rows + 1 ≡ suc rows = omega arith in
    let power = ap (λ r. mark Under 0 r 0) more in
    c.in_ok-push_phases.ensures
    ∙ (ap (λ n. c.push_nets.new.marks.items ++ of_phases (λ ph. crossing row 0 (n + phase_number ph))) c.len.ensures.len
    ∙ (ap (λ l. l ++ of_phases (λ ph. crossing row 0 (length p.control + phase_number ph))) (c.in_ok-push_nets.ensures
    ∙ ((λ i. c.in_ok-push.ensures.items i ++ crossings row 0 ((c.as_slice.ensures ∙ c.in_ok-signals.ensures) i))
    ∙ append_assoc old (mark Under 0 (rows + 1) 0 ∷ []) (crossings row 0 (pad_entries false p))))
    ∙ (append_assoc old (mark Under 0 (rows + 1) 0 ∷ crossings row 0 (pad_entries false p))
    (of_phases (λ ph. crossing row 0 (length p.control + phase_number ph)))
    ∙ (λ i. old ++ power i ∷ control_crossed row p i))))
