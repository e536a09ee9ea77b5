-- From tags of labels to the network that is drawn, or the first label that breaks a rule.
use Rattle.std.proofs.Common.{◌≡◌, ℕ, zero, suc, ◌<◌, inl, inr, List, [], ◌∷◌, length, get_or, map, refl, sym, ◌∙◌, ap}
use Rattle.std.proofs.Common.{subst, arith}
use Rattle.std.specs.Prelude.{All, Option, Some, None, Contains, slice_get}
use Rattle.std.specs.List.{AllZip}
use Rattle.std.proofs.lemmas.Option.{slice_get-get_or, slice_get_within}
use Rattle.mp_base.specs.declared.refusal.Broken.{Broken}
use Rattle.mp_base.specs.declared.refusal.Refusal.{Refusal}
use Rattle.mp_base.specs.declared.refusal.Refusal.TheVariants as refusals
use Rattle.lam_geom.specs.declared.layer.Layer.TheVariants.{NM, NP, ND}
use Rattle.lam_geom.specs.declared.label.FlatLabel.{FlatLabel}
use Rattle.lam_geom.specs.declared.rect.Rect.{Rect}
use Rattle.lam_geom.specs.Chains.{Chain}
use Rattle.lam_geom.specs.Squares.{Square, covered}
use Rattle.switch_net.specs.declared.network.Channel.{Channel}
use Rattle.switch_net.specs.declared.network.Tag.{Tag}
use Rattle.switch_net.specs.declared.network.Network.{Network}
use Rattle.switch_net.specs.Conductors.{Joined}
use Rattle.switch_net.specs.Drawn.{IsChannelAt, IsOfNode, IsTag}
use Rattle.switch_net.specs.Breaks.{BreaksAt, IsFirstOfMask, IsOnTwoNodes}
use Rattle.switch_net.specs.Breaks.BreaksAt.{one, two}
use Rattle.switch_net.specs.Breaks.IsFirstOfMask.{n1, n2}
use Rattle.switch_net.specs.Labels.{Names}
use Rattle.switch_net.specs.OneNode.{AreAmong}
use Rattle.switch_net.proofs.Naming.{one_square}
use Rattle.std.proofs.lemmas.List.{get_or_default}
use Rattle.mp_base.proofs.Zips.{zip_from_places}
use Rattle.mp_base.proofs.Entries.{contains_from_get}
use Rattle.mask_nodes.specs.declared.drawing.Drawing.{Drawing}
use Rattle.mask_nodes.specs.Drawn.{IsDrawn}
use Rattle.extractor.specs.Naming.{AreNamed, over_at, point_of}
use Rattle.extractor.specs.Tagging.{AreTagged, IsTwice, IsUnnamed, RefusesFirst}
use Rattle.extractor.specs.Extracted.{IsLabelled, RefusesMask}
use Rattle.extractor.proofs.Naming.{no_label}
use Rattle.extractor.proofs.Nodes.{apart_nodes, joined_there}
use Rattle.extractor.proofs.Overs.{IsNodeNamed, IsOnNode, entry, node_named}

no_tag : Tag
no_tag = record { offset = 0; name = []; node = 0 }

place_of : {A : Type 0} (xs : List A) (x : A) → Contains xs x → (n : ℕ) × (n < length xs) × (slice_get xs n ≡ Some x)
place_of xs x c = (c.0, c.1, slice_get-get_or xs c.0 x c.1 ∙ ap (λ y. Some y) c.2)

module _ (shapes : List Rect) (labels : List FlatLabel) (d : Drawing) (drawn : IsDrawn shapes (map point_of labels) d)
    (named : List (Option ℕ)) (are : AreNamed labels d.metal d.polysilicon d.diffusion (length labels) named) where
  -- the node that a label names
  named_is : (n : ℕ) (label : FlatLabel) → slice_get labels n ≡ Some label
      → IsNodeNamed shapes drawn.nodes label (get_or named n None)
  named_is n label at =
      let l = slice_get_within labels n label at in
      subst (IsNodeNamed shapes drawn.nodes label) (sym (are.each n label l at))
      (node_named shapes drawn.nodes drawn.are_nodes label (over_at d.metal d.polysilicon d.diffusion n)
      (entry shapes drawn.nodes labels NM d.metal drawn.on_metal n label at)
      (entry shapes drawn.nodes labels NP d.polysilicon drawn.on_polysilicon n label at)
      (entry shapes drawn.nodes labels ND d.diffusion drawn.on_diffusion n label at))

  on_node : (n : ℕ) (label : FlatLabel) (k : ℕ) → slice_get labels n ≡ Some label → get_or named n None ≡ Some k
      → IsOnNode shapes drawn.nodes label k
  on_node n label k at e = let P : Option ℕ → Type 0 = IsNodeNamed shapes drawn.nodes label in
      subst P e (named_is n label at)

  module _ (count : ℕ) (tags : List Tag) (tagged : AreTagged labels named count tags) where
    tag_is : (n : ℕ) (label : FlatLabel) (tag : Tag) → slice_get labels n ≡ Some label → slice_get tags n ≡ Some tag
        → IsTag (covered shapes) drawn.nodes label tag
    tag_is n label tag at there =
        let l = slice_get_within tags n tag there in
        let t = tagged.each n label tag (omega (arith, tagged.long)) at there in
        let o = on_node n label tag.node at t.2 in
        record { offset = t.0; name = t.1; square = o.square; names = o.names; node = o.node }

    tag_there : (n : ℕ) (label : FlatLabel) → n < count → slice_get labels n ≡ Some label
        → (tag : Tag) × (slice_get tags n ≡ Some tag) × IsTag (covered shapes) drawn.nodes label tag
    tag_there n label l at =
        let tag : Tag = get_or tags n no_tag in
        let there : slice_get tags n ≡ Some tag = slice_get-get_or tags n no_tag (omega (arith, tagged.long)) in
        (tag, there, tag_is n label tag at there)

    -- the labels that have tags break no rule
    fit : (n : ℕ) → n < count → ¬ BreaksAt (covered shapes) labels n
    fit n l (two label h) = let t = tag_there n label l h.at in h.none t.2.square t.2.names
    fit n l (one label h) =
        let t = tag_there n label l h.at in
        let u = tag_there h.j h.earlier (omega (arith, h.before)) h.there in
        let k : u.0.node ≡ t.0.node =
        tagged.one_node_each u.0 t.0 (contains_from_get tags h.j u.0 u.1) (contains_from_get tags n t.0 t.1)
        (sym u.2.name ∙ h.name ∙ t.2.name) in
        let s : t.2.square ≡ h.s = one_square (covered shapes) label t.2.square h.s t.2.names h.names in
        let r : u.2.square ≡ h.t = one_square (covered shapes) h.earlier u.2.square h.t u.2.names h.named in
        let c = joined_there (covered shapes) drawn.nodes drawn.are_nodes t.0.node u.2.square t.2.square
        (subst (λ m. IsOfNode (covered shapes) drawn.nodes m u.2.square) k u.2.node) t.2.node in
        h.apart (subst (λ x. Chain (Joined (covered shapes)) x h.s) r
        (subst (Chain (Joined (covered shapes)) u.2.square) s c))

    two_nodes : (n : ℕ) (label : FlatLabel) (b : Broken) → n ≡ count → slice_get labels n ≡ Some label
        → IsTwice tags label (get_or named n None) b
        → IsOnTwoNodes (covered shapes) labels n label
    two_nodes n label b e at h =
        let p = place_of tags h.tag h.earlier in
        let before : p.0 < n = omega (arith, p.1, tagged.long) in
        let m = slice_get_within labels n label at in
        let earlier : FlatLabel = get_or labels p.0 no_label in
        let there : slice_get labels p.0 ≡ Some earlier = slice_get-get_or labels p.0 no_label (omega arith) in
        let t = tag_is p.0 earlier h.tag there p.2 in
        let o = on_node n label h.second at h.names in
        record {
          at = at;
          j = p.0;
          before = before;
          earlier = earlier;
          there = there;
          name = t.name ∙ h.name;
          s = o.square;
          t = t.square;
          names = o.names;
          named = t.names;
          apart = apart_nodes
              (covered shapes) drawn.nodes drawn.are_nodes h.tag.node h.second t.square o.square t.node o.node h.apart;
        }

  -- the first label that is refused breaks the first rule
  pub refuses : (e : Refusal) → RefusesFirst labels named e → RefusesMask shapes labels e
  refuses refusals.NoMemory h = tt
  refuses (refusals.Broken b) h = elim h.breaks [
    | inl u ↦
        subst (IsFirstOfMask (covered shapes) labels) (sym u.rule)
        (n2 h.place h.label (record { at = h.at; none = unnamed u }) before)
    | inr w ↦
        subst (IsFirstOfMask (covered shapes) labels) (sym w.rule)
        (n1 h.place h.label (two_nodes h.place h.tags h.before h.place h.label b refl h.at w) before)
  ]
    where
      before : (j : ℕ) → j < h.place → ¬ BreaksAt (covered shapes) labels j
      before j l = fit h.place h.tags h.before j l

      unnamed : IsUnnamed h.label (get_or named h.place None) b → (s : Square) → ¬ Names (covered shapes) h.label s
      unnamed u = let P : Option ℕ → Type 0 = IsNodeNamed shapes drawn.nodes h.label in
          subst P u.none (named_is h.place h.label h.at)

  module _ (tags : List Tag) (tagged : AreTagged labels named (length labels) tags) where
    pub labelled : (net : Network) → net.nodes ≡ d.nodes → net.channels ≡ d.channels → net.tags ≡ tags
        → IsLabelled shapes labels net
    labelled net n c t = record {
      network = record {
        nodes = drawn.nodes;
        regions = drawn.regions;
        are_nodes = drawn.are_nodes;
        are_regions = drawn.are_regions;
        count = n ∙ drawn.count;
        channels = subst (AllZip (IsChannelAt (covered shapes) drawn.nodes) drawn.regions) (sym c) drawn.channels;
        tags = subst (AllZip (IsTag (covered shapes) drawn.nodes) labels) (sym t)
            (zip_from_places (IsTag (covered shapes) drawn.nodes) labels tags tagged.long
            (tag_is (length labels) tags tagged));
      };
      labels_fit = all_fit;
    }
      where
        all_fit : (i : ℕ) → ¬ BreaksAt (covered shapes) labels i
        all_fit i (two label h) = fit (length labels) tags tagged i (slice_get_within labels i label h.at) (two label h)
        all_fit i (one label h) = fit (length labels) tags tagged i (slice_get_within labels i label h.at) (one label h)

    in_channel : (r : Square) (c : Channel) → IsChannelAt (covered shapes) drawn.nodes r c
        → (c.gate < length drawn.nodes) × All (λ e. e < length drawn.nodes) c.ends
    in_channel r c h = (
      h.gate.0,
      λ k e l. let w =
          (h.ends (get_or c.ends k e)).0 (k, l, get_or_default c.ends k (get_or c.ends k e) e l) in w.2.0,
    )

    each_channel : (rs : List Square) (cs : List Channel) → AllZip (IsChannelAt (covered shapes) drawn.nodes) rs cs
        → All (λ (c : Channel). (c.gate < length drawn.nodes) × All (λ e. e < length drawn.nodes) c.ends) cs
    each_channel [] [] h k e l = absurd (omega arith)
    each_channel [] (c ∷ cs) h k e l = absurd h
    each_channel (r ∷ rs) [] h k e l = absurd h
    each_channel (r ∷ rs) (c ∷ cs) h zero e l = in_channel r c h.0
    each_channel (r ∷ rs) (c ∷ cs) h (suc k) e l = each_channel rs cs h.1 k e (omega arith)

    each_tag : (k : ℕ) (e : Tag) → k < length tags → (get_or tags k e).node < length drawn.nodes
    each_tag k e l =
        let t = tag_is (length labels) tags tagged k (get_or labels k no_label) (get_or tags k e)
        (slice_get-get_or labels k no_label (omega (arith, tagged.long))) (slice_get-get_or tags k e l) in
        t.node.0

    -- gates, ends and labelled nodes are among the nodes
    pub among : (n : ℕ) → n ≡ d.nodes → AreAmong n d.channels tags
    among n is = subst (λ m. AreAmong m d.channels tags) (sym (is ∙ drawn.count)) (record {
      gates = λ k e l. (each_channel drawn.regions d.channels drawn.channels k e l).0;
      ends = λ k e l. (each_channel drawn.regions d.channels drawn.channels k e l).1;
      labels = each_tag;
    })
