-- What the look-ups in a path give.
use Rattle.std.proofs.Common.{◌≡◌, ℕ, ◌<◌, ◌==◌, Bool, Some, false, List, length, map, get_or, sym, ◌∙◌}
use Rattle.std.proofs.Common.{ap, subst, arith}
use Rattle.std.specs.Prelude.{slice_get}
use Rattle.std.specs.Int.{bit_at}
use Rattle.std.specs.List.{range_with_len}
use Rattle.std.proofs.lemmas.List.FromFn.{get_or-map-range_with_len, length-map-range_with_len}
use Rattle.std.proofs.lemmas.Option.{slice_get_within, slice_get-get_or}
use Rattle.mp_base.proofs.Lists.{length_map}
use Rattle.mp_base.proofs.Entries.{map_get}
use Rattle.nor_net.specs.declared.net.Part.TheVariants.{Input}
use Rattle.organelles.specs.declared.slices.Programmed as programmed
use Rattle.path_form.specs.declared.path.Cast as cast
use Rattle.path_form.specs.declared.path.DataPath.{DataPath}
use Rattle.slice_form.specs.Whole.{path_of, cast_of, programmed_of}
use Rattle.slice_layout.proofs.Ends.{has_ends}

-- a cast and a programmed net are on nets that there are
pub cast_within : (p : DataPath) (i : ℕ) (d : cast.Cast) (l : List cast.Cast) → l ≡ p.casts
    → i < length (path_of p).casts → (get_or l i d).slice.0 < length p.slices.net
cast_within p i d l same h =
    let long = length_map cast_of p.casts in
    let c = get_or p.casts i d in
    let e = map_get cast_of p.casts i c (slice_get-get_or p.casts i d (omega (arith, h, long))) in
    subst (λ z. (get_or z i d).slice.0 < length p.slices.net) (sym same)
    (slice_get_within p.slices.net c.slice.0 Input ((has_ends p).casts i (cast_of c) e))

pub program_within : (p : DataPath) (i : ℕ) (d : programmed.Programmed) (l : List programmed.Programmed)
    → l ≡ p.slices.programs → i < length (path_of p).programs → (get_or l i d).net.0 < length p.slices.net
program_within p i d l same h =
    let long = length_map (programmed_of p.width) p.slices.programs in
    let g = get_or p.slices.programs i d in
    let e = map_get (programmed_of p.width) p.slices.programs i g
    (slice_get-get_or p.slices.programs i d (omega (arith, h, long))) in
    subst (λ z. (get_or z i d).net.0 < length p.slices.net) (sym same)
    (slice_get_within p.slices.net g.net.0 Input ((has_ends p).programs i (programmed_of p.width g) e))

-- a bit for each of so many slices
pub bit_is : (bits w k : ℕ) → k < w
    → slice_get (map (λ j. bit_at bits j == 1) (range_with_len 0 w)) k ≡ Some (bit_at bits k == 1)
bit_is bits w k h =
    let test : ℕ → Bool = λ j. bit_at bits j == 1 in
    let l = length-map-range_with_len test 0 w in
    slice_get-get_or (map test (range_with_len 0 w)) k false (omega (arith, h, l))
    ∙ ap Some (get_or-map-range_with_len test 0 w k k false h (omega arith))
