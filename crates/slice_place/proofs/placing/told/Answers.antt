use Rattle.std.proofs.Common.{ℕ, ◌≡◌, ◌+◌, suc, [], ◌∷◌, ◌++◌, ◌∙◌, ap, map, replicate, arith}
use Rattle.std.specs.Prelude.{slice_index}
use Rattle.std.specs.List.{range_with_len}
use Rattle.std.proofs.lemmas.List.{replicate-append-replicate}
use Rattle.slice_form.specs.Whole.{path_of}
use Rattle.slice_layout.proofs.Growth.{each_grown}
use Rattle.slice_place.specs.Placed.{told_segments}
use Rattle.slice_place.proofs.placing.told.Goals as goal

pub loop-k-preserved : goal.loop-k-preserved
loop-k-preserved c =
    let p = path_of c.args.path.now in
    let tracks = c.args.layout.now.tracks in
    let row = slice_index tracks.row in
    let k : ℕ = c.loop-k.k in
    let next : k + 1 ≡ suc k = omega arith in
    record {
      segments = each_grown [] (told_segments p row) k _ _ _ c.loop-k.invariant.segments c.in_ok-push.ensures.ok
          (c.in_ok-segments_in.ensures ∙ ap (told_segments p row) next);
      groups = c.in_ok-push-2.ensures.ok
          ∙ ((λ j. c.loop-k.invariant.groups j ++ c.in_ok-copy_of.ensures j ∷ [])
          ∙ replicate-append-replicate k 1 tracks);
    }

pub returns : goal.returns
returns c =
    let p = path_of c.args.path.now in
    let tracks = c.args.layout.now.tracks in
    let end : c.loop-k.k ≡ p.width = omega arith in
    record {
      segments = c.loop-k.invariant.segments
          ∙ ap (λ n. map (told_segments p (slice_index tracks.row)) (range_with_len 1 n)) end;
      groups = c.loop-k.invariant.groups ∙ ap (λ n. replicate n tracks) end;
    }
