use Rattle.std.proofs.Common.{◌∙◌, arith}
use Rattle.std.proofs.lemmas.List.{get_or_read}
use Rattle.slice_layout.proofs.SliceLayout.{columns_at, columns_long}
use Rattle.slice_layout.proofs.looking.home_of.Goals as goal

pub index-requires : goal.index-requires
index-requires c =
    let homes = c.args.homes.now in
    let l = columns_long c.args.path.now homes.columns.items c.requires.homes.columns in
    omega (arith, l, homes.columns.ok.0)

pub returns : goal.returns
returns c =
    let homes = c.args.homes.now in
    let l = columns_long c.args.path.now homes.columns.items c.requires.homes.columns in
    get_or_read homes.columns.items _ _ (omega (arith, l, c.requires.there)) c.index.ensures 0
    ∙ columns_at c.args.path.now homes.columns.items c.requires.homes.columns c.args.net c.requires.there
