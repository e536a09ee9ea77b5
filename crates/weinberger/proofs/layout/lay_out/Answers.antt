use Rattle.std.proofs.Common.{ℕ, List, length, map, refl, ap, arith}
use Rattle.std.specs.List.{range_with_len}
use Rattle.nor_net.specs.declared.net.Part.{Part}
use Rattle.array_form.specs.Homes.{home}
use Rattle.array_form.specs.Place.{columns_in}
use Rattle.band_lists.proofs.Banded.{stubs_long}
use Rattle.weinberger.proofs.AllPins.{end_small}
use Rattle.weinberger.proofs.layout.lay_out.Goals as goal

pub push_stubs-requires : goal.push_stubs-requires
push_stubs-requires c =
    let parts : List Part = c.args.net.now in
    let y = columns_in c.args.band.now parts in
    let columns : List ℕ = map (home y) (range_with_len 0 (length parts)) in
    let l = stubs_long y parts columns c.in_ok-stubs.stubs.items refl c.in_ok-stubs.ensures in
    let f = c.len-nets.ensures.shape.few_nets in
    let e = ap length c.deref-2.ensures.value in
    omega arith

pub returns : goal.returns
returns c =
    let h = c.in_ok-homes.ensures in
    record {
      stubs = c.in_ok-stubs.ensures;
      homes = record { columns = h.columns; end = h.end };
      narrow = (let s = end_small c.args.band.now c.args.net.now c.requires c.len-nets.ensures.shape in
          omega (arith, s, h.end));
      spans = c.in_ok-spans.ensures;
      tracks = c.in_ok-tracks.ensures;
    }
