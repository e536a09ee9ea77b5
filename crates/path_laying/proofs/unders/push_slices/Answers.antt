use Rattle.std.proofs.Common.{ℕ, ◌≡◌, ◌<◌, ◌+◌, ◌++◌, ◌∙◌, length, map, true, ap, sym, subst, arith}
use Rattle.std.specs.Prelude.{All, flat_map, slice_index}
use Rattle.std.specs.List.{range_with_len}
use Rattle.nor_net.specs.declared.net.NetId.{NetId}
use Rattle.band_lists.specs.Listed.{AreRows}
use Rattle.slice_form.specs.Whole.{pad_entries, path_of}
use Rattle.slice_layout.proofs.Growth.{bands_grown}
use Rattle.path_laying.specs.Crossed.{crossing, crossings}
use Rattle.path_laying.proofs.Crossed.{crossings_are, words_in}
use Rattle.path_laying.proofs.unders.push_slices.Goals as goal

pub push_nets-requires-clause-rows : goal.push_nets-requires-clause-rows
push_nets-requires-clause-rows c = subst (AreRows c.args.tracks.now) (sym c.requires.rows.long) c.requires.rows

pub push_nets-requires-clause-nets : goal.push_nets-requires-clause-nets
push_nets-requires-clause-nets c =
    let a = words_in c.args.path.now in
    let l = c.requires.rows.long in
    subst (All (λ (i : NetId). i.0 < length c.args.tracks.now.row)) (sym (c.as_slice.ensures ∙ c.in_ok-words.ensures))
    (λ k d lt. let b = a k d lt in omega (arith, b, l))

pub loop-k-preserved : goal.loop-k-preserved
loop-k-preserved c =
    let p = c.args.path.now in
    let row : ℕ → ℕ = slice_index c.args.tracks.now.row in
    let same : c.from.result ≡ c.loop-k.k = omega arith in
    bands_grown c.args.marks.now.items (λ b. map (crossing row b) (path_of p).west_words) c.loop-k.k _ _
    c.loop-k.invariant
    (c.in_ok-push_nets.ensures
    ∙ ap (λ n. c.loop-k.marks.items ++ crossings row (n + 1) c.as_slice.result.now) same
    ∙ ap (λ l. c.loop-k.marks.items ++ l)
    (ap (crossings row (c.loop-k.k + 1)) (c.as_slice.ensures ∙ c.in_ok-words.ensures)
    ∙ crossings_are row (c.loop-k.k + 1) (pad_entries true p)))
