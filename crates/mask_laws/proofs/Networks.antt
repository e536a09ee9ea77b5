-- The network that a mask draws.
use Rattle.std.proofs.Common.{ℕ, zero, suc, ◌≡◌, ◌<◌, ◌≤◌, ◌+◌, inl, inr, refl, sym, subst, ap, ◌∙◌, arith, List, []}
use Rattle.std.proofs.Common.{◌∷◌, length, get_or, Option, Some, None}
use Rattle.std.specs.Prelude.{All, AllPairs, Contains, ℤ, slice_get}
use Rattle.std.specs.List.{AllZip}
use Rattle.std.proofs.lemmas.Bool.{cases_lt, cases_eq}
use Rattle.std.proofs.lemmas.List.{get_or_default}
use Rattle.std.proofs.lemmas.Option.{slice_get-get_or}
use Rattle.mp_base.proofs.Decisions.{Decided, both_of, not_so, same_claim}
use Rattle.mp_base.proofs.Members.{Member, member_contains, contains_member}
use Rattle.mp_base.proofs.Zips.{zip_all_right}
use Rattle.lam_geom.specs.declared.layer.Layer.{Layer}
use Rattle.lam_geom.specs.declared.layer.Layer.TheVariants.{ND, NP, NC, NM, NI, NB, NG}
use Rattle.lam_geom.specs.declared.rect.Rect.{Rect}
use Rattle.lam_geom.specs.declared.label.FlatLabel.{FlatLabel}
use Rattle.lam_geom.specs.Chains.{Chain}
use Rattle.lam_geom.specs.Squares.{Square, covered, ShareEdge, Adjoin, Before, rank}
use Rattle.switch_net.specs.declared.network.ChannelKind.{ChannelKind}
use Rattle.switch_net.specs.declared.network.ChannelKind.TheVariants.{Enhancement, Depletion, Partial}
use Rattle.switch_net.specs.declared.network.Channel.{Channel}
use Rattle.switch_net.specs.declared.network.Tag.{Tag}
use Rattle.switch_net.specs.declared.network.Network.{Network}
use Rattle.switch_net.specs.OneNode.{OneNodeEach}
use Rattle.switch_net.specs.Conductors.{ConductsOn, Conducts, Joined, IsChannelSquare}
use Rattle.switch_net.specs.Labels.{IsFirst, IsNamed}
use Rattle.switch_net.specs.Drawn.{AreNodes, IsOfNode, AreRegions, IsOfChannel, IsEnd, IsKind, IsChannelAt, IsTag}
use Rattle.switch_net.specs.Drawn.{IsNetwork}
use Rattle.switch_net.specs.Breaks.{BreaksAt}
use Rattle.switch_net.specs.Breaks.BreaksAt.{one, two}
use Rattle.mask_laws.specs.Laws.{NetworkExists}
use Rattle.lam_geom.proofs.Chains.{join_chains, turn_chain}
use Rattle.lam_geom.proofs.Adjoins.{adjoin_flip}
use Rattle.switch_net.proofs.Joins.{join_flip, join_ends}
use Rattle.switch_net.proofs.Naming.{named_on}
use Rattle.mask_laws.proofs.Decided.{some_member}
use Rattle.mask_laws.proofs.Ordered.{Rises, rising_pairs, keep, keep_in, keep_has, keep_rises}
use Rattle.mask_laws.proofs.Classes.{chain_told}
use Rattle.mask_laws.proofs.Squares.{layer_same, square_same, share_told, covered_told, on_told, conducts_told}
use Rattle.mask_laws.proofs.Squares.{joined_told, adjoin_told, channel_square_told, conducting, channels}
use Rattle.mask_laws.proofs.Squares.{every_conductor, every_channel, nodes_exist, regions_exist}

-- ---- lists

zip_of : {A B : Type 0} (R : A → B → Type 0) (xs : List A) → ((x : A) → Member xs x → (y : B) × R x y)
    → (ys : List B) × AllZip R xs ys
zip_of R [] f = ([], tt)
zip_of R (x ∷ xs) f =
    let y = f x (inl refl) in
    let r = zip_of R xs (λ z m. f z (inr m)) in
    (y.0 ∷ r.0, (y.1, r.1))

-- the partner of an element
partner : {A B : Type 0} (R : A → B → Type 0) (xs : List A) (ys : List B) → AllZip R xs ys → (i : ℕ) (e : B)
    → i < length ys → (x : A) × (slice_get xs i ≡ Some x) × R x (get_or ys i e)
partner R [] [] z i e lt = absurd (omega (arith, lt))
partner R [] (y ∷ ys) z i e lt = absurd z
partner R (x ∷ xs) [] z i e lt = absurd z
partner R (x ∷ xs) (y ∷ ys) z zero e lt = (x, refl, z.0)
partner R (x ∷ xs) (y ∷ ys) z (suc i) e lt = partner R xs ys z.1 i e (omega (arith, lt))

count : ℕ → ℕ → List ℕ
count a zero = []
count a (suc n) = a ∷ count (suc a) n

count_low : (a n k : ℕ) → Member (count a n) k → a ≤ k
unfolding count
count_low a zero k m = absurd m
count_low a (suc n) k (inl e) = omega (arith, e)
count_low a (suc n) k (inr m) = let h = count_low (suc a) n k m in omega (arith, h)

count_has : (a n k : ℕ) → a ≤ k → k < a + n → Member (count a n) k
unfolding count
count_has a zero k le lt = absurd (omega (arith, le, lt))
count_has a (suc n) k le lt = elim (cases_eq a k) [
  | inl e ↦ inl e
  | inr ne ↦ inr (count_has (suc a) n k (omega (arith, le, ne)) (omega (arith, lt)))
]

abbrev Less : ℕ → ℕ → Type 0
Less j k = j < k

count_rises : (a n : ℕ) → Rises Less (count a n)
unfolding count
count_rises a zero = tt
count_rises a (suc n) = ((λ y m. let h = count_low (suc a) n y m in omega (arith, h)), count_rises (suc a) n)

-- ---- the first layer that conducts

module _ (rs : List Rect) (x y : ℤ) where
  abbrev On : Layer → Type 0
  On l = ConductsOn (covered rs) l x y

  below_np : (On NM → ⊥) → (m : Layer) → rank m < 1 → On m → ⊥
  below_np n NM lt = n
  below_np n NP lt = absurd (omega (arith, lt))
  below_np n ND lt = absurd (omega (arith, lt))
  below_np n NC lt = absurd (omega (arith, lt))
  below_np n NI lt = absurd (omega (arith, lt))
  below_np n NB lt = absurd (omega (arith, lt))
  below_np n NG lt = absurd (omega (arith, lt))

  below_nd : (On NM → ⊥) → (On NP → ⊥) → (m : Layer) → rank m < 2 → On m → ⊥
  below_nd n p NM lt = n
  below_nd n p NP lt = p
  below_nd n p ND lt = absurd (omega (arith, lt))
  below_nd n p NC lt = absurd (omega (arith, lt))
  below_nd n p NI lt = absurd (omega (arith, lt))
  below_nd n p NB lt = absurd (omega (arith, lt))
  below_nd n p NG lt = absurd (omega (arith, lt))

  none_on : (On NM → ⊥) → (On NP → ⊥) → (On ND → ⊥) → (l : Layer) → On l → ⊥
  none_on n p d NM h = n h
  none_on n p d NP h = p h
  none_on n p d ND h = d h
  none_on n p d NC h = h
  none_on n p d NI h = h
  none_on n p d NB h = h
  none_on n p d NG h = h

  pub first_told : Decided ((l : Layer) × IsFirst (covered rs) x y l)
  first_told = elim (on_told rs NM x y) [
    | inl h ↦ inl (NM, (h, λ m lt. absurd (omega (arith, lt))))
    | inr n ↦ elim (on_told rs NP x y) [
      | inl h ↦ inl (NP, (h, below_np n))
      | inr p ↦ elim (on_told rs ND x y) [
        | inl h ↦ inl (ND, (h, below_nd n p))
        | inr d ↦ inr (λ (l, (on, before)). none_on n p d l on)
      ]
    ]
  ]

  pub named_told : (o : Option Layer) → Decided ((l : Layer) × IsNamed (covered rs) x y o l)
  named_told None = first_told
  named_told (Some m) = elim (on_told rs m x y) [
    | inl h ↦ inl (m, inl (refl, h))
    | inr n ↦ elim first_told [
      | inl f ↦ inl (f.0, inr (n, f.1))
      | inr none ↦ inr (λ h. elim h.1 [ inl a ↦ n a.1 | inr b ↦ none (h.0, b.1) ])
    ]
  ]

module _ (rs : List Rect) where
  abbrev c : Layer → ℤ → ℤ → Type 0
  c = covered rs

  abbrev nodes : List Square
  nodes = (nodes_exist rs).0

  are_nodes : AreNodes c nodes
  are_nodes = (nodes_exist rs).1

  abbrev regions : List Square
  regions = (regions_exist rs).0

  are_regions : AreRegions c regions
  are_regions = (regions_exist rs).1

  -- whether two squares are of one node
  pub joins_told : (s t : Square) → Decided (Chain (Joined c) s t)
  joins_told =
      chain_told (Joined c) (join_flip c) (conducting rs) (λ a b j. let h = join_ends c a b j in
      (every_conductor rs a h.0, every_conductor rs b h.1)) square_same (joined_told rs)

  abbrev Side : Square → Square → Type 0
  Side = Adjoin (IsChannelSquare c)

  sides_told : (s t : Square) → Decided (Chain Side s t)
  sides_told =
      chain_told Side (adjoin_flip (IsChannelSquare c)) (channels rs)
      (λ a b j. (every_channel rs a j.from, every_channel rs b j.to)) square_same
      (adjoin_told (IsChannelSquare c) (channel_square_told rs))

  -- ---- the number of a node

  number : (s : Square) → Conducts c s → (k : ℕ) × IsOfNode c nodes k s
  number s h =
      let (r, (k, lt, is), chain) = are_nodes.all s h in
      (k, (lt, subst (λ q. Chain (Joined c) q s) (sym is ∙ get_or_default nodes k r s lt) chain))

  node_in : (k : ℕ) (s : Square) → k < length nodes → Contains nodes (get_or nodes k s)
  node_in k s lt = (k, lt, get_or_default nodes k (get_or nodes k s) s lt)

  not_less : (j k : ℕ) (s t : Square) → IsOfNode c nodes j s → IsOfNode c nodes k t → Chain (Joined c) s t → j < k → ⊥
  not_less j k s t a b chain lt =
      let r : Square = get_or nodes j s in
      let q : Square = get_or nodes k t in
      let joined : Chain (Joined c) q r =
      join_chains b.1 (join_chains (turn_chain (join_flip c) chain) (turn_chain (join_flip c) a.1)) in
      are_nodes.first q r (node_in k t b.0) (are_nodes.each j s a.0) joined
      (subst (λ x. Before r x) (get_or_default nodes k s t b.0) (are_nodes.ascending j k s lt b.0))

  one_number : (j k : ℕ) (s t : Square) → IsOfNode c nodes j s → IsOfNode c nodes k t → Chain (Joined c) s t → j ≡ k
  one_number j k s t a b chain = elim (cases_lt j k) [
    | inl lt ↦ absurd (not_less j k s t a b chain lt)
    | inr ge ↦ elim (cases_lt k j) [
      | inl gt ↦ absurd (not_less k j t s b a (turn_chain (join_flip c) chain) gt)
      | inr le ↦ omega (arith, ge, le)
    ]
  ]

  of_node_told : (k : ℕ) (s : Square) → Decided (IsOfNode c nodes k s)
  of_node_told k s = elim (cases_lt k (length nodes)) [
    | inl lt ↦ same_claim (joins_told (get_or nodes k s) s) (λ h. (lt, h)) (λ h. h.1)
    | inr ge ↦ inr (λ h. (let l = h.0 in omega (arith, l, ge)))
  ]

  -- ---- a channel

  of_channel_told : (r s : Square) → Decided (IsOfChannel c r s)
  of_channel_told r s =
      same_claim (both_of (channel_square_told rs s) (sides_told r s)) (λ h. record { is = h.0; chain = h.1 })
      (λ h. (h.is, h.chain))

  abbrev Beside : Square → Square → Square → Type 0
  Beside r t s = IsOfChannel c r s × ShareEdge s t

  end_told : (r t : Square) → Decided (IsEnd c r t)
  end_told r t =
      same_claim (both_of (layer_same t.layer ND)
      (both_of (conducts_told rs t)
      (some_member (Beside r t) (λ s. both_of (of_channel_told r s) (share_told s t)) (channels rs))))
      (λ (diffusion, (conducts, (square, m, (of, beside)))).
      record { square = square; of = of; diffusion = diffusion; conducts = conducts; beside = beside })
      (λ e. (e.diffusion, (e.conducts, (e.square, every_channel rs e.square e.of.is, (e.of, e.beside)))))

  abbrev EndsAt : Square → ℕ → Type 0
  EndsAt r k = (t : Square) × IsEnd c r t × IsOfNode c nodes k t

  ends_told : (r : Square) (k : ℕ) → Decided (EndsAt r k)
  ends_told r k =
      same_claim (some_member (λ t. IsEnd c r t × IsOfNode c nodes k t) (λ t. both_of (end_told r t) (of_node_told k t))
      (conducting rs)) (λ (t, m, (end, node)). (t, end, node))
      (λ (t, end, node). (t, every_conductor rs t end.conducts, (end, node)))

  ends : Square → List ℕ
  ends r = keep Less (EndsAt r) (ends_told r) (count 0 (length nodes))

  ends_are : (r : Square) (k : ℕ) → Contains (ends r) k → EndsAt r k
  unfolding ends
  ends_are r k h = (keep_in Less (EndsAt r) (ends_told r) (count 0 (length nodes)) k (contains_member (ends r) k h)).1

  are_ends : (r : Square) (k : ℕ) → EndsAt r k → Contains (ends r) k
  unfolding ends
  are_ends r k h =
      let (_, _, (lt, _)) = h in
      member_contains (ends r) k
      (keep_has Less (EndsAt r) (ends_told r) (count 0 (length nodes)) k
      (count_has 0 (length nodes) k (omega arith) (omega (arith, lt))) h)

  ends_rise : (r : Square) → AllPairs Less (ends r)
  unfolding ends
  ends_rise r =
      rising_pairs Less (ends r)
      (keep_rises Less (EndsAt r) (ends_told r) (count 0 (length nodes)) (count_rises 0 (length nodes)))

  kind_of : (r : Square) → (k : ChannelKind) × IsKind c r k
  kind_of r =
      elim (some_member (λ s. IsOfChannel c r s × c NI s.x s.y)
      (λ s. both_of (of_channel_told r s) (covered_told rs NI s.x s.y)) (channels rs)) [
        | inr none ↦ (Enhancement, λ s o i. none (s, every_channel rs s o.is, (o, i)))
        | inl (s, m, (in_s, has)) ↦ elim (some_member (λ s. IsOfChannel c r s × (c NI s.x s.y → ⊥))
            (λ s. both_of (of_channel_told r s) (not_so (covered_told rs NI s.x s.y))) (channels rs)) [
              | inr none ↦ (
                Depletion,
                λ s o. elim (covered_told rs NI s.x s.y) [
                  | inl h ↦ h
                  | inr n ↦ absurd (none (s, every_channel rs s o.is, (o, n)))
                ],
              )
              | inl (t, n, (in_t, lacks)) ↦ (Partial, ((s, in_s, has), (t, in_t, lacks)))
            ]
      ]

  channel_at : (r : Square) → IsChannelSquare c r → (x : Channel) × IsChannelAt c nodes r x
  channel_at r is =
      let g = number r (subst (λ l. ConductsOn c l r.x r.y) (sym is.0) is.1.gate) in
      let k = kind_of r in (
        record { gate = g.0; ends = ends r; kind = k.0 },
        record {
          gate = g.1;
          ascending = ends_rise r;
          ends = λ n. (ends_are r n, are_ends r n);
          kind = k.1;
        },
      )

  region_is : (r : Square) → Member regions r → IsChannelSquare c r
  region_is r m = let h = member_contains regions r m in subst (IsChannelSquare c) h.2 (are_regions.each h.0 r h.1)

  all_channels : (xs : List Channel) × AllZip (IsChannelAt c nodes) regions xs
  all_channels = zip_of (IsChannelAt c nodes) regions (λ r m. channel_at r (region_is r m))

  module _ (labels : List FlatLabel) (fits : (i : ℕ) → ¬ BreaksAt c labels i) where
    tag_of : (label : FlatLabel) → Member labels label → (t : Tag) × IsTag c nodes label t
    tag_of label m = elim (named_told rs label.x label.y label.layer) [
      | inl h ↦ (let s : Square = record { layer = h.0; x = label.x; y = label.y } in
          let n = number s (named_on c label.x label.y label.layer h.0 h.1) in (
            record { offset = label.offset; name = label.name; node = n.0 },
            record {
              offset = refl;
              name = refl;
              square = s;
              names = record { x = refl; y = refl; layer = h.1 };
              node = n.1;
            },
          ))
      | inr none ↦ (let w = member_contains labels label m in
          let at : slice_get labels w.0 ≡ Some label = slice_get-get_or labels w.0 label w.1 ∙ ap (λ l. Some l) w.2 in
          absurd (fits w.0 (two label (record { at = at; none = λ s h. none (s.layer, h.layer) }))))
    ]

    all_tags : (ts : List Tag) × AllZip (IsTag c nodes) labels ts
    all_tags = zip_of (IsTag c nodes) labels tag_of

    -- a label on another node than an earlier one of its name
    later : (i j : ℕ) (l m : FlatLabel) (t u : Tag) → slice_get labels i ≡ Some l → slice_get labels j ≡ Some m
        → IsTag c nodes l t → IsTag c nodes m u → j < i → t.name ≡ u.name → t.node ≡ u.node
    later i j l m t u at there a b lt e = elim (joins_told b.square a.square) [
      | inl chain ↦ sym (one_number u.node t.node b.square a.square b.node a.node chain)
      | inr apart ↦ absurd (fits i (one l (record {
        at = at;
        j = j;
        before = lt;
        earlier = m;
        there = there;
        name = b.name ∙ sym e ∙ sym a.name;
        s = a.square;
        t = b.square;
        names = a.names;
        named = b.names;
        apart = apart;
      })))
    ]

    one_node_each : OneNodeEach all_tags.0
    one_node_each a b h k e =
        let p = partner (IsTag c nodes) labels all_tags.0 all_tags.1 h.0 a h.1 in
        let q = partner (IsTag c nodes) labels all_tags.0 all_tags.1 k.0 b k.1 in
        let pa : IsTag c nodes p.0 a = subst (IsTag c nodes p.0) h.2 p.2 in
        let qb : IsTag c nodes q.0 b = subst (IsTag c nodes q.0) k.2 q.2 in
        elim (cases_lt h.0 k.0) [
          | inl lt ↦ sym (later k.0 h.0 q.0 p.0 b a q.1 p.1 qb pa lt (sym e))
          | inr ge ↦ elim (cases_lt k.0 h.0) [
            | inl gt ↦ later h.0 k.0 p.0 q.0 a b p.1 q.1 pa qb gt e
            | inr le ↦ (let same : h.0 ≡ k.0 = omega (arith, ge, le) in
                let same_tag : a ≡ b = sym h.2 ∙ ap (λ i. get_or all_tags.0 i a) same
                ∙ get_or_default all_tags.0 k.0 a b k.1 ∙ k.2 in
                ap (λ (t : Tag). t.node) same_tag)
          ]
        ]

    net : Network
    net = record {
      nodes = length nodes;
      channels = all_channels.0;
      tags = all_tags.0;
      gates_in =
          zip_all_right (IsChannelAt c nodes) (λ (x : Channel). x.gate < length nodes)
          (λ r x h. h.gate.0) regions all_channels.0 all_channels.1;
      ends_in = zip_all_right (IsChannelAt c nodes) (λ (x : Channel). All (λ e. e < length nodes) x.ends)
          (λ r x h k d lt. (let (_, _, (below, _)) = (h.ends (get_or x.ends k d)).0
          (k, lt, get_or_default x.ends k (get_or x.ends k d) d lt) in below)) regions all_channels.0 all_channels.1;
      tags_in =
          zip_all_right (IsTag c nodes) (λ (t : Tag). t.node < length nodes)
          (λ l t h. h.node.0) labels all_tags.0 all_tags.1;
      one_node_each = one_node_each;
    }

    network : (n : Network) × IsNetwork c labels n
    unfolding net
    network = (
      net,
      record {
        nodes = nodes;
        regions = regions;
        are_nodes = are_nodes;
        are_regions = are_regions;
        count = refl;
        channels = all_channels.1;
        tags = all_tags.1;
      },
    )

pub network_exists : NetworkExists
network_exists shapes labels fits = network shapes labels fits
