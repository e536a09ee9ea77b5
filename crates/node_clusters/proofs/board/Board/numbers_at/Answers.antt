use Rattle.std.proofs.Common.{◌≡◌, ◌∙◌, ℕ, List, [], get_or, subst}
use Rattle.std.specs.Prelude.{Contains}
use Rattle.std.proofs.lemmas.List.{get_or_default}
use Rattle.node_clusters.specs.Links.{listed}
use Rattle.node_clusters.proofs.board.Board.numbers_at.Goals as goal

pub returns : goal.returns
returns c =
    let b = c.args.self.now in
    let is : c.as_slice.result.now ≡ listed b.at.now c.args.node =
    c.as_slice.ensures ∙ get_or_default b.at.now c.args.node c.index-self-node.result [] c.requires.node in record {
      listed = is;
      inside = λ k d lt. c.requires.linked.inside c.args.node (get_or c.as_slice.result.now k d)
          (subst (λ (xs : List ℕ). Contains xs (get_or c.as_slice.result.now k d)) is
          (k, lt, get_or_default c.as_slice.result.now k (get_or c.as_slice.result.now k d) d lt));
    }
