use Rattle.std.proofs.Common.{◌≡◌, ◌<◌, List, ℕ, length, take, subst, sym, ap, arith}
use Rattle.std.specs.Prelude.{Contains}
use Rattle.std.proofs.lemmas.List.{get_or_read}
use Rattle.std.proofs.lemmas.Bool.Decides.{Decides-ltb}
use Rattle.node_set.specs.Nodes.{Nodes}
use Rattle.node_set.proofs.Placing.{contains_from, place_from}
use Rattle.node_set.proofs.set.NodeSet.contains.Goals as goal

pub returns : goal.returns
returns c =
    let s = c.self.inside in
    let h = c.self.invariant in
    let n = c.args.node in
    let room : length s.order.items ≡ c.args.self.now.room = ap (λ (x : Nodes). x.room) c.self.view_is in
    let members : take s.count s.order.items ≡ c.args.self.now.members = ap (λ (x : Nodes). x.members) c.self.view_is in
    let at = get_or_read s.place.items n c.index.result.now (omega arith) c.index.ensures 0 in (
      λ t. subst (λ (xs : List ℕ). Contains xs n) members
          (contains_from s.count s.order.items s.place.items h n (omega arith)
          (let lt : c.index.result.now < s.count = (Decides-ltb c.index.result.now s.count).0 t in omega arith)),
      λ m. (Decides-ltb c.index.result.now s.count).1
          (let lt =
          place_from s.count s.order.items s.place.items h n
          (subst (λ (xs : List ℕ). Contains xs n) (sym members) m) in omega arith),
    )
