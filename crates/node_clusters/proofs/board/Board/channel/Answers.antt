use Rattle.std.proofs.Common.{◌≡◌, ◌<◌, ◌∙◌, List, ap, sym, get_or, subst, Some}
use Rattle.std.specs.Prelude.{All}
use Rattle.std.proofs.lemmas.Option.{slice_get-get_or}
use Rattle.switch_net.specs.declared.network.Channel.{Channel}
use Rattle.node_clusters.proofs.board.Board.channel.Goals as goal

pub returns : goal.returns
returns c =
    let net = c.args.self.now.network.now in
    let n = c.args.number in
    let ch = c.index-as_slice-number.result in
    let at : get_or net.channels n ch ≡ ch =
    ap (λ (xs : List Channel). get_or xs n ch) (sym c.as_slice.ensures) ∙ sym c.index-as_slice-number.is in record {
      is = slice_get-get_or net.channels n ch c.requires ∙ ap (λ (x : Channel). Some x) at;
      gate = subst (λ (x : Channel). x.gate < net.nodes) at (net.gates_in n ch c.requires);
      ends = subst (λ (x : Channel). All (λ e. e < net.nodes) x.ends) at (net.ends_in n ch c.requires);
    }
