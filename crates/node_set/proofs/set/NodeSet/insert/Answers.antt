use Rattle.std.proofs.Common.{◌≡◌, ◌<◌, ◌≤◌, ◌++◌, ◌∷◌, [], List, ℕ, length, take, get_or, subst, ap, ◌∙◌, arith}
use Rattle.std.specs.Prelude.{Contains}
use Rattle.std.proofs.lemmas.List.{get_or_read}
use Rattle.node_set.specs.Nodes.{Nodes}
use Rattle.node_set.proofs.Placing.{absent_past, placed_more, members_more}
use Rattle.node_set.proofs.set.NodeSet.insert.Goals as goal
use Rattle.node_set.proofs.set.NodeSet.insert.Goals.{After-index-from, After-index-other}

-- a node that is not in the set stands at a place behind those that are
record StandsBehind (count : ℕ) (order place : List ℕ) (node from : ℕ) : Type 0 where
  pub known : node < length order
  pub is : from ≡ get_or place node 0
  pub behind : count ≤ from
  pub room : count < length order

absent : (c : After-index-from)
    → StandsBehind c.self.inside.count c.self.inside.order.items c.self.inside.place.items c.args.node
    c.index-from.result.now
absent c =
    let s = c.self.inside in
    let h = c.self.invariant in
    let n = c.args.node in
    let size : length s.order.items ≡ c.args.self.now.room = ap (λ (x : Nodes). x.room) c.self.view_is in
    let members : take s.count s.order.items ≡ c.args.self.now.members = ap (λ (x : Nodes). x.members) c.self.view_is in
    let known : n < length s.order.items = omega arith in
    let is = get_or_read s.place.items n c.index-from.result.now (omega arith) c.index-from.ensures 0 in
    let past : s.count ≤ get_or s.place.items n 0 =
    absent_past s.count s.order.items s.place.items h n known
    (λ m. c.requires.absent (subst (λ (xs : List ℕ). Contains xs n) members m)) in
    let within = h.places n known in
    record { known = known; is = is; behind = omega arith; room = omega arith }

-- the first node behind those of the set
other_is : (c : After-index-other) → c.self.inside.count < length c.self.inside.order.items
    → c.index-other.result.now ≡ get_or c.self.inside.order.items c.self.inside.count 0
other_is c room =
    get_or_read c.self.inside.order.items c.self.inside.count c.index-other.result.now room c.index-other.ensures 0

pub index-other-requires : goal.index-other-requires
index-other-requires c =
    let room = (absent (goal.at.index-other-requires c).After-index-from).room in
    omega arith

pub index_mut-requires-2 : goal.index_mut-requires-2
index_mut-requires-2 c =
    let room = (absent (goal.at.index_mut-requires-2 c).After-index-from).room in
    omega arith

pub index_mut-requires-3 : goal.index_mut-requires-3
index_mut-requires-3 c =
    let a = absent (goal.at.index_mut-requires-3 c).After-index-from in
    let is = other_is (goal.at.index_mut-requires-3 c).After-index-other a.room in
    let inside = c.self.invariant.nodes c.self.inside.count a.room in
    omega arith

pub overflow_add-self : goal.overflow_add-self
overflow_add-self c =
    let room = (absent (goal.at.overflow_add-self c).After-index-from).room in
    omega arith

pub invariant_of-self : goal.invariant_of-self
invariant_of-self c =
    let s = c.self.inside in
    let a = absent (goal.at.invariant_of-self c).After-index-from in
    placed_more s.count s.order.items s.place.items c.self.invariant c.args.node c.index-from.result.now
    c.index-other.result.now a.known a.is (other_is (goal.at.invariant_of-self c).After-index-other a.room) a.behind

pub returns-clause-members : goal.returns-clause-members
returns-clause-members c =
    let s = c.self.inside in
    let a = absent (goal.at.returns-clause-members c).After-index-from in
    members_more s.count s.order.items s.place.items c.self.invariant c.args.node c.index-from.result.now
    c.index-other.result.now a.known a.is (other_is (goal.at.returns-clause-members c).After-index-other a.room)
    a.behind
    ∙ ap (λ (x : Nodes). x.members ++ c.args.node ∷ []) c.self.view_is
