use Rattle.std.proofs.Common.{◌≡◌, ◌∙◌, ◌++◌, [], ℕ, List, ap}
use Rattle.std.proofs.lemmas.List.{get_or_default}
use Rattle.node_clusters.specs.Links.{listed}
use Rattle.node_clusters.proofs.Linking.{adds_gated}
use Rattle.node_clusters.proofs.links.add_gated.Goals as goal

pub returns-then-matches : goal.returns-then-matches
returns-then-matches c =
    let ch = c.args.channel.now in
    let lists = c.args.lists.now in
    let inside = c.requires in
    let new = c.add_ends.new.list in
    let was = get_or_default lists ch.gate c.index-lists-channel.result [] inside in
    let is : new ≡ listed lists ch.gate ++ ch.ends =
    c.in_ok-add_ends.ensures ∙ ap (λ (xs : List ℕ). xs ++ c.as_slice.result.now) was
    ∙ ap (λ (ys : List ℕ). listed lists ch.gate ++ ys) c.as_slice.ensures in
    adds_gated ch lists new inside is
