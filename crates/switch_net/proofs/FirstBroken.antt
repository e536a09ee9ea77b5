-- The first broken rule is determined.
use Rattle.std.proofs.Common.{◌≡◌, ℕ, zero, suc, ◌<◌, inl, inr, List, [], ◌∷◌, Some, get_or, refl, sym, ◌∙◌, ap, subst}
use Rattle.std.proofs.Common.{arith}
use Rattle.std.specs.Prelude.{Contains, slice_get}
use Rattle.std.specs.List.{AllZip}
use Rattle.std.proofs.lemmas.Bool.{cases_lt}
use Rattle.std.proofs.lemmas.List.{get_or_default}
use Rattle.mp_base.specs.declared.refusal.Spot.TheVariants.{Offset, Named}
use Rattle.mp_base.specs.PadNames.{supplies}
use Rattle.mp_base.proofs.Contents.{contains_head, contains_behind}
use Rattle.mp_base.proofs.Entries.{same_at}
use Rattle.lam_geom.specs.declared.label.FlatLabel.{FlatLabel}
use Rattle.lam_geom.specs.declared.rect.Rect.{Rect}
use Rattle.lam_geom.specs.Chains.{Chain}
use Rattle.lam_geom.specs.Squares.{Square, covered}
use Rattle.switch_net.specs.declared.network.Tag.{Tag}
use Rattle.switch_net.specs.declared.network.Network.{Network}
use Rattle.switch_net.specs.Pads.{driver_labels, chip_labels}
use Rattle.switch_net.specs.Conductors.{Joined}
use Rattle.switch_net.specs.Labels.{Names}
use Rattle.switch_net.specs.Drawn.{IsNetwork, IsTag, IsOfNode}
use Rattle.switch_net.specs.Breaks.{BreaksAt, MeetsDriver, IsDrivenTwice, IsMissing, IsFirstOfMask, IsFirstOfCircuit}
use Rattle.switch_net.specs.Breaks.{broken}
use Rattle.switch_net.specs.Breaks.BreaksAt.{one, two}
use Rattle.switch_net.specs.Laws.{OneFirstOfMask, OneFirstOfCircuit}
use Rattle.lam_geom.proofs.Chains.{join_chains, turn_chain}
use Rattle.switch_net.proofs.Joins.{join_flip}
use Rattle.switch_net.proofs.Naming.{one_square}
use Rattle.switch_net.proofs.Unique.{drawn_once}

-- two that are first are one
one_first : (P : ℕ → Type 0) (i j : ℕ) → P i → P j → ((k : ℕ) → k < i → ¬ P k) → ((k : ℕ) → k < j → ¬ P k) → i ≡ j
one_first P i j p q f g = elim (cases_lt i j) [
  | inl l ↦ absurd (g i l p)
  | inr l ↦ elim (cases_lt j i) [ inl m ↦ absurd (f j m q) | inr m ↦ omega arith ]
]

-- what a list has at a place, its partner has
partner : {A B : Type 0} (R : A → B → Type 0) (xs : List A) (ys : List B) → AllZip R xs ys → (i : ℕ) (x : A)
    → slice_get xs i ≡ Some x → (y : B) × Contains ys y × R x y
partner R [] [] h i x e = absurd (cc)
partner R [] (y ∷ ys) h i x e = absurd h
partner R (x ∷ xs) [] h i z e = absurd h
partner R (x ∷ xs) (y ∷ ys) h zero z e =
    (y, contains_head y ys, subst (λ w. R w y) (same_at (x ∷ xs) 0 0 x z refl refl e) h.0)
partner R (x ∷ xs) (y ∷ ys) h (suc i) z e =
    let (w, c, r) = partner R xs ys h.1 i z e in (w, contains_behind w y ys c, r)

module _ (shapes : List Rect) (labels : List FlatLabel) (net : Network)
    (drawn : IsNetwork (covered shapes) labels net) where
  tag_of : (i : ℕ) (label : FlatLabel) → slice_get labels i ≡ Some label
      → (t : Tag) × Contains net.tags t × IsTag (covered shapes) drawn.nodes label t
  tag_of i label e = partner (IsTag (covered shapes) drawn.nodes) labels net.tags drawn.tags i label e

  -- squares of one node are joined
  joined : (k : ℕ) (s t : Square) → IsOfNode (covered shapes) drawn.nodes k s
      → IsOfNode (covered shapes) drawn.nodes k t → Chain (Joined (covered shapes)) s t
  joined k s t h g =
      let from : Chain (Joined (covered shapes)) (get_or drawn.nodes k t) s =
      subst (λ r. Chain (Joined (covered shapes)) r s) (get_or_default drawn.nodes k s t h.0) h.1 in
      join_chains (turn_chain (join_flip (covered shapes)) from) g.1

  -- where there is a network, no label breaks N1 or N2
  labels_fit : (i : ℕ) → ¬ BreaksAt (covered shapes) labels i
  labels_fit i (two label h) = let t = tag_of i label h.at in h.none t.2.square t.2.names
  labels_fit i (one label h) =
      let t = tag_of i label h.at in
      let u = tag_of h.j h.earlier h.there in
      let k : u.0.node ≡ t.0.node = net.one_node_each u.0 t.0 u.1 t.1 (sym u.2.name ∙ h.name ∙ t.2.name) in
      let s : t.2.square ≡ h.s = one_square (covered shapes) label t.2.square h.s t.2.names h.names in
      let r : u.2.square ≡ h.t = one_square (covered shapes) h.earlier u.2.square h.t u.2.names h.named in
      let c = joined t.0.node u.2.square t.2.square
      (subst (λ n. IsOfNode (covered shapes) drawn.nodes n u.2.square) k u.2.node) t.2.node in
      h.apart (subst (λ x. Chain (Joined (covered shapes)) x h.s) r
      (subst (Chain (Joined (covered shapes)) u.2.square) s c))

-- the same network
carried : (shapes : List Rect) (labels : List FlatLabel) (n m : Network) (P : Network → Type 0)
    → IsNetwork (covered shapes) labels n → IsNetwork (covered shapes) labels m → P n → P m
carried shapes labels n m P h k p = subst P (drawn_once shapes labels n m h k) p

pub first_of_mask : OneFirstOfMask
first_of_mask shapes labels a b (IsFirstOfMask.n1 i l h f) (IsFirstOfMask.n1 j m k g) =
    let e = one_first (BreaksAt (covered shapes) labels) i j (one l h) (one m k) f g in
    ap (λ (x : FlatLabel). broken 1 (Offset x.offset)) (same_at labels i j l m e h.at k.at)
first_of_mask shapes labels a b (IsFirstOfMask.n1 i l h f) (IsFirstOfMask.n2 j m k g) =
    let e = one_first (BreaksAt (covered shapes) labels) i j (one l h) (two m k) f g in
    absurd (k.none h.s (subst (λ x. Names (covered shapes) x h.s) (same_at labels i j l m e h.at k.at) h.names))
first_of_mask shapes labels a b (IsFirstOfMask.n1 i l h f) (IsFirstOfMask.n3 n d j t k g) =
    absurd (labels_fit shapes labels n d i (one l h))
first_of_mask shapes labels a b (IsFirstOfMask.n1 i l h f) (IsFirstOfMask.n5 n d g o) =
    absurd (labels_fit shapes labels n d i (one l h))
first_of_mask shapes labels a b (IsFirstOfMask.n2 i l h f) (IsFirstOfMask.n1 j m k g) =
    let e = one_first (BreaksAt (covered shapes) labels) i j (two l h) (one m k) f g in
    absurd (h.none k.s (subst (λ x. Names (covered shapes) x k.s) (sym (same_at labels i j l m e h.at k.at)) k.names))
first_of_mask shapes labels a b (IsFirstOfMask.n2 i l h f) (IsFirstOfMask.n2 j m k g) =
    let e = one_first (BreaksAt (covered shapes) labels) i j (two l h) (two m k) f g in
    ap (λ (x : FlatLabel). broken 2 (Offset x.offset)) (same_at labels i j l m e h.at k.at)
first_of_mask shapes labels a b (IsFirstOfMask.n2 i l h f) (IsFirstOfMask.n3 n d j t k g) =
    absurd (labels_fit shapes labels n d i (two l h))
first_of_mask shapes labels a b (IsFirstOfMask.n2 i l h f) (IsFirstOfMask.n5 n d g o) =
    absurd (labels_fit shapes labels n d i (two l h))
first_of_mask shapes labels a b (IsFirstOfMask.n3 n d i t h f) (IsFirstOfMask.n1 j m k g) =
    absurd (labels_fit shapes labels n d j (one m k))
first_of_mask shapes labels a b (IsFirstOfMask.n3 n d i t h f) (IsFirstOfMask.n2 j m k g) =
    absurd (labels_fit shapes labels n d j (two m k))
first_of_mask shapes labels a b (IsFirstOfMask.n3 n d i t h f) (IsFirstOfMask.n3 m c j u k g) =
    let h2 : IsDrivenTwice supplies m.tags i t =
    carried shapes labels n m (λ x. IsDrivenTwice supplies x.tags i t) d c h in
    let f2 : (o : ℕ) → o < i
    → ¬ MeetsDriver supplies m.tags o = carried shapes labels n m
    (λ x. (o : ℕ) → o < i → ¬ MeetsDriver supplies x.tags o) d c f in
    let e = one_first (MeetsDriver supplies m.tags) i j (t, h2) (u, k) f2 g in
    ap (λ (x : Tag). broken 3 (Offset x.offset)) (same_at m.tags i j t u e h2.at k.at)
first_of_mask shapes labels a b (IsFirstOfMask.n3 n d i t h f) (IsFirstOfMask.n5 m c g o) =
    absurd (g i (t, carried shapes labels n m (λ x. IsDrivenTwice supplies x.tags i t) d c h))
first_of_mask shapes labels a b (IsFirstOfMask.n5 n d f o) (IsFirstOfMask.n1 j m k g) =
    absurd (labels_fit shapes labels n d j (one m k))
first_of_mask shapes labels a b (IsFirstOfMask.n5 n d f o) (IsFirstOfMask.n2 j m k g) =
    absurd (labels_fit shapes labels n d j (two m k))
first_of_mask shapes labels a b (IsFirstOfMask.n5 n d f o) (IsFirstOfMask.n3 m c j u k g) =
    absurd (f j (u, carried shapes labels m n (λ x. IsDrivenTwice supplies x.tags j u) c d k))
first_of_mask shapes labels a b (IsFirstOfMask.n5 n d f o) (IsFirstOfMask.n5 m c g p) = refl

pub first_of_circuit : OneFirstOfCircuit
first_of_circuit net pads a b (IsFirstOfCircuit.n3 i t h f) (IsFirstOfCircuit.n3 j u k g) =
    let e = one_first (MeetsDriver (driver_labels pads.inputs) net.tags) i j (t, h) (u, k) f g in
    ap (λ (x : Tag). broken 3 (Offset x.offset)) (same_at net.tags i j t u e h.at k.at)
first_of_circuit net pads a b (IsFirstOfCircuit.n3 i t h f) (IsFirstOfCircuit.n4 g j name k l) = absurd (g i (t, h))
first_of_circuit net pads a b (IsFirstOfCircuit.n4 f i name h l) (IsFirstOfCircuit.n3 j u k g) = absurd (f j (u, k))
first_of_circuit net pads a b (IsFirstOfCircuit.n4 f i name h l) (IsFirstOfCircuit.n4 g j other k m) =
    let e = one_first (λ n. (x : List ℕ) × IsMissing net (chip_labels pads) n x) i j (name, h) (other, k)
    (λ n lt w. l n w.0 lt w.1) (λ n lt w. m n w.0 lt w.1) in
    ap (λ x. broken 4 (Named x)) (same_at (chip_labels pads) i j name other e h.at k.at)
