use Rattle.std.proofs.Common.{eqb}
use Rattle.path_sources.specs.Sources.{parts_of, path_source, source_of}
use Rattle.path_reduce.specs.Tables.{table_of}
use Rattle.path_test.proofs.Reductions.{band_from}
use Rattle.path_test.proofs.bands.band_becomes.Goals as goal

pub returns : goal.returns
returns c = λ e.
    let p = c.args.path.now in
    let q = c.args.reduced.now in
    let b = c.args.band in
    band_from p.width (eqb b 0) c.args.images.now (table_of c.args.images.now b) c.net_of-own.result.now (parts_of p b)
    c.net_of-net.result.now (parts_of q b) (source_of c.args.own_sources.now b) (path_source p b)
    (source_of c.args.sources.now b) (path_source q b) (c.parts_become.ensures e) c.net_of-own.ensures
    c.net_of-net.ensures c.requires.own c.requires.other
