-- The classes of joined things are determined, and so is the network that a mask draws.
use Rattle.std.proofs.Common.{ℕ, ◌≡◌, ◌<◌, ◌⊎◌, inl, inr, refl, sym, ◌∙◌, ap, subst, subst₂, arith, List, [], ◌∷◌}
use Rattle.std.proofs.Common.{length, get_or, Contains}
use Rattle.std.specs.Prelude.{All, AllPairs, ℤ}
use Rattle.std.proofs.Props.{props}
use mathlib.Core.HLevel.{is_prop→PathP}
use Rattle.std.specs.List.{AllZip}
use Rattle.std.proofs.lemmas.Bool.{cases_lt}
use Rattle.std.proofs.lemmas.List.{get_or_default}
use Rattle.std.proofs.lemmas.List.Elements.{All-contains}
use Rattle.mp_base.proofs.Members.{Member, member_contains, contains_member, pairs_head, pairs_tail}
use Rattle.lam_geom.specs.declared.layer.Layer.{Layer}
use Rattle.switch_net.specs.declared.network.ChannelKind.{ChannelKind}
use Rattle.switch_net.specs.declared.network.ChannelKind.TheVariants.{Enhancement, Depletion, Partial}
use Rattle.lam_geom.specs.declared.label.FlatLabel.{FlatLabel}
use Rattle.lam_geom.specs.Chains.Chain.{here}
use Rattle.lam_geom.specs.Squares.{Square, Before, covered}
use Rattle.switch_net.specs.declared.network.Channel.{Channel}
use Rattle.switch_net.specs.declared.network.Tag.{Tag}
use Rattle.switch_net.specs.declared.network.Network.{Network}
use Rattle.switch_net.specs.OneNode.{OneNodeEach}
use Rattle.switch_net.specs.Classes.{AreClasses, IsInClass}
use Rattle.switch_net.specs.Conductors.{Joined, IsChannelSquare}
use Rattle.switch_net.specs.Drawn.{AreNodes, IsNetwork, IsChannelAt, IsTag, IsKind, IsOfChannel}
use Rattle.switch_net.specs.Laws.{OneNetwork, OneNumbering}
use Rattle.lam_geom.proofs.Chains.{join_chains, turn_chain}
use Rattle.lam_geom.proofs.Adjoins.{adjoin_flip}
use Rattle.lam_geom.proofs.SquareOrder.{before_asymmetric, before_total}
use Rattle.switch_net.proofs.Joins.{join_flip}
use Rattle.switch_net.proofs.Naming.{one_square}

-- a strict order in which any two things are comparable
record IsStrictTotal {S : Type 0} (Before : S → S → Type 0) : Type 0 where
  pub asymmetric : (s t : S) → Before s t → Before t s → ⊥
  pub total : (s t : S) → Before s t ⊎ (s ≡ t) ⊎ Before t s

drop_head : {S : Type 0} {z : S} (zs : List S) {s : S} → Member (z ∷ zs) s → (z ≡ s → ⊥) → Member zs s
drop_head zs (inl k) n = absurd (n k)
drop_head zs (inr m) n = m

-- two lists in strict order with the same elements are one
same_lists : {S : Type 0} (B : S → S → Type 0) → ((s t : S) → B s t → B t s → ⊥) → (xs ys : List S) → AllPairs B xs
    → AllPairs B ys
    → ((s : S) → Member xs s → Member ys s) → ((s : S) → Member ys s → Member xs s) → xs ≡ ys
same_lists B asym [] [] a b f g = refl
same_lists B asym [] (y ∷ ys) a b f g = absurd (g y (inl refl))
same_lists B asym (x ∷ xs) [] a b f g = absurd (f x (inl refl))
same_lists B asym (x ∷ xs) (y ∷ ys) a b f g =
    let e : x ≡ y = heads (f x (inl refl)) (g y (inl refl)) in
    let r : xs ≡ ys = same_lists B asym xs ys (pairs_tail B x xs a) (pairs_tail B y ys b)
    (λ s m. drop_head ys (f s (inr m))
    (λ k. let w = subst (B x) (sym k ∙ sym e) (pairs_head B x xs a s m) in asym x x w w))
    (λ s m. drop_head xs (g s (inr m))
    (λ k. let w = subst (B y) (sym k ∙ e) (pairs_head B y ys b s m) in asym y y w w)) in
    cc
  where
    heads : Member (y ∷ ys) x → Member (x ∷ xs) y → x ≡ y
    heads (inl k) n = sym k
    heads (inr m) (inl k) = k
    heads (inr m) (inr n) = absurd (asym x y (pairs_head B x xs a y n) (pairs_head B y ys b x m))

classes_part : {S : Type 0} {Is : S → Type 0} {J B : S → S → Type 0} → IsStrictTotal B → ((s t : S) → J s t → J t s)
    → (xs ys : List S)
    → AreClasses Is J B xs → AreClasses Is J B ys → (s : S) → Member xs s → Member ys s
classes_part {S = S} {Is = Is} {J = J} {B = B} o flip xs ys a b s m =
    let c = member_contains xs s m in
    let i : Is s = All-contains Is xs s a.each c in
    let r = b.all s i in
    let j : Is r.0 = All-contains Is ys r.0 b.each r.1 in
    go r.0 r.1 (o.total r.0 s) (a.first s r.0 c j (turn_chain flip r.2)) (b.first r.0 s r.1 i r.2)
  where
    go : (r : S) → Contains ys r → B r s ⊎ (r ≡ s) ⊎ B s r → (B r s → ⊥) → (B s r → ⊥) → Member ys s
    go r k (inl h) f g = absurd (f h)
    go r k (inr (inl e)) f g = subst (Member ys) e (contains_member ys r k)
    go r k (inr (inr h)) f g = absurd (g h)

-- The least elements of the classes are determined.
one_classes : {S : Type 0} {Is : S → Type 0} {J B : S → S → Type 0} → IsStrictTotal B → ((s t : S) → J s t → J t s)
    → (xs ys : List S)
    → AreClasses Is J B xs → AreClasses Is J B ys → xs ≡ ys
one_classes {B = B} o flip xs ys a b =
    same_lists B o.asymmetric xs ys a.ascending b.ascending (classes_part o flip xs ys a b)
    (classes_part o flip ys xs b a)

-- A thing is in one class.
one_class : {S : Type 0} {Is : S → Type 0} {J B : S → S → Type 0} → IsStrictTotal B → ((s t : S) → J s t → J t s)
    → (xs : List S) → AreClasses Is J B xs
    → (j k : ℕ) (s : S) → IsInClass J xs j s → IsInClass J xs k s → j ≡ k
one_class {S = S} {Is = Is} {J = J} {B = B} o flip xs a j k s h i = elim (cases_lt j k) [
  | inl l ↦ absurd (apart j k h i l)
  | inr l ↦ elim (cases_lt k j) [ inl m ↦ absurd (apart k j i h m) | inr m ↦ omega arith ]
]
  where
    apart : (j k : ℕ) → IsInClass J xs j s → IsInClass J xs k s → j < k → ⊥
    apart j k h i l =
        let e = get_or_default xs k s (get_or xs j s) i.0 in
        a.first (get_or xs k s) (get_or xs j s) (k, i.0, get_or_default xs k (get_or xs k s) s i.0) (a.each j s h.0)
        (join_chains i.1 (turn_chain flip h.1)) (a.ascending j k s l i.0)

square_order : IsStrictTotal Before
square_order = record { asymmetric = before_asymmetric; total = before_total }

-- ---- the parts of a network

zip_same : {A B : Type 0} (P : A → Type 0) (R : A → B → Type 0) → ((a : A) (b c : B) → P a → R a b → R a c → b ≡ c)
    → (xs : List A) (ys zs : List B) → ((a : A) → Member xs a → P a)
    → AllZip R xs ys → AllZip R xs zs → ys ≡ zs
zip_same P R f [] [] [] p a b = refl
zip_same P R f [] [] (z ∷ zs) p a b = absurd b
zip_same P R f [] (y ∷ ys) zs p a b = absurd a
zip_same P R f (x ∷ xs) [] zs p a b = absurd a
zip_same P R f (x ∷ xs) (y ∷ ys) [] p a b = absurd b
zip_same P R f (x ∷ xs) (y ∷ ys) (z ∷ zs) p a b =
    let e = f x y z (p x (inl refl)) a.0 b.0 in let r = zip_same P R f xs ys zs (λ s m. p s (inr m)) a.1 b.1 in cc

module _ (covers : Layer → ℤ → ℤ → Type 0) (nodes : List Square) (are : AreNodes covers nodes) where
  one_node : (j k : ℕ) (s : Square) → IsInClass (Joined covers) nodes j s → IsInClass (Joined covers) nodes k s → j ≡ k
  one_node j k s h i = one_class square_order (join_flip covers) nodes are j k s h i

  one_kind : (r : Square) (j k : ChannelKind) → IsOfChannel covers r r → IsKind covers r j → IsKind covers r k → j ≡ k
  one_kind r Enhancement Enhancement i a b = refl
  one_kind r Depletion Depletion i a b = refl
  one_kind r Partial Partial i a b = refl
  one_kind r Enhancement Depletion i a b = absurd (a r i (b r i))
  one_kind r Enhancement Partial i a b = let (s, of, implant) = b.0 in absurd (a s of implant)
  one_kind r Depletion Enhancement i a b = absurd (b r i (a r i))
  one_kind r Depletion Partial i a b = let (s, of, bare) = b.1 in absurd (bare (a s of))
  one_kind r Partial Enhancement i a b = let (s, of, implant) = a.0 in absurd (b s of implant)
  one_kind r Partial Depletion i a b = let (s, of, bare) = a.1 in absurd (bare (b s of))

  one_channel : (r : Square) (c d : Channel) → IsChannelSquare covers r → IsChannelAt covers nodes r c
      → IsChannelAt covers nodes r d → c ≡ d
  one_channel r c d i a b =
      let e : c.gate ≡ d.gate = one_node c.gate d.gate r a.gate b.gate in
      let f : c.ends ≡ d.ends = same_lists (λ j k. j < k) (λ j k h l. omega arith) c.ends d.ends a.ascending b.ascending
      (λ k m. contains_member d.ends k ((b.ends k).1 ((a.ends k).0 (member_contains c.ends k m))))
      (λ k m. contains_member c.ends k ((a.ends k).1 ((b.ends k).0 (member_contains d.ends k m)))) in
      let g : c.kind ≡ d.kind = one_kind r c.kind d.kind (record { is = i; chain = here }) a.kind b.kind in
      λ z. record { gate = e z; ends = f z; kind = g z }

  one_tag : (label : FlatLabel) (t u : Tag) → IsTag covers nodes label t → IsTag covers nodes label u → t ≡ u
  one_tag label t u a b =
      let s : a.square ≡ b.square = one_square covers label a.square b.square a.names b.names in
      let n : t.node ≡ u.node =
      one_node t.node u.node b.square (subst (IsInClass (Joined covers) nodes t.node) s a.node) b.node in
      let o : t.offset ≡ u.offset = sym a.offset ∙ b.offset in
      let e : t.name ≡ u.name = sym a.name ∙ b.name in
      λ z. record { offset = o z; name = e z; node = n z }

same_network : (n m : Network) → n.nodes ≡ m.nodes → n.channels ≡ m.channels → n.tags ≡ m.tags → n ≡ m
same_network n m p q r =
    let gates = is_prop→PathP (λ i. All (λ c. c.gate < p i) (q i)) (λ i. hlevel props) n.gates_in m.gates_in in
    let ends =
    is_prop→PathP (λ i. All (λ c. All (λ e. e < p i) c.ends) (q i)) (λ i. hlevel props) n.ends_in m.ends_in in
    let nodes = is_prop→PathP (λ i. All (λ t. t.node < p i) (r i)) (λ i. hlevel props) n.tags_in m.tags_in in
    let one = is_prop→PathP (λ i. OneNodeEach (r i)) (λ i. hlevel props) n.one_node_each m.one_node_each in
    λ i. record {
      nodes = p i;
      channels = q i;
      tags = r i;
      gates_in = gates i;
      ends_in = ends i;
      tags_in = nodes i;
      one_node_each = one i;
    }

-- The network of what is covered is determined.
one_network : (covers : Layer → ℤ → ℤ → Type 0) (labels : List FlatLabel) (n m : Network) → IsNetwork covers labels n
    → IsNetwork covers labels m → n ≡ m
one_network covers labels n m a b =
    let e : a.nodes ≡ b.nodes = one_classes square_order (join_flip covers) a.nodes b.nodes a.are_nodes b.are_nodes in
    let f : a.regions ≡ b.regions =
    one_classes square_order (adjoin_flip (IsChannelSquare covers)) a.regions b.regions a.are_regions b.are_regions in
    let c : AllZip (IsChannelAt covers b.nodes) b.regions n.channels =
    subst₂ (λ x y. AllZip (IsChannelAt covers x) y n.channels) e f a.channels in
    let t : AllZip (IsTag covers b.nodes) labels n.tags = subst (λ x. AllZip (IsTag covers x) labels n.tags) e a.tags in
    let p : n.nodes ≡ m.nodes = a.count ∙ ap length e ∙ sym b.count in
    let q : n.channels ≡ m.channels =
    zip_same (IsChannelSquare covers) (IsChannelAt covers b.nodes)
    (λ x y z i h k. one_channel covers b.nodes b.are_nodes x y z i h k) b.regions n.channels m.channels
    (λ s h. All-contains (IsChannelSquare covers) b.regions s b.are_regions.each (member_contains b.regions s h)) c
    b.channels in
    let r : n.tags ≡ m.tags =
    zip_same (λ l. Unit {0}) (IsTag covers b.nodes)
    (λ x y z i h k. one_tag covers b.nodes b.are_nodes x y z h k) labels n.tags m.tags (λ l h. tt) t b.tags in
    same_network n m p q r

pub drawn_once : OneNetwork
drawn_once shapes labels n m a b = one_network (covered shapes) labels n m a b

pub numbered_once : OneNumbering
numbered_once shapes = (
  one_classes square_order (join_flip (covered shapes)),
  one_classes square_order
      (adjoin_flip (IsChannelSquare (covered shapes))),
)
