-- The drivers of a network whose drivers are on different nodes.
use Rattle.std.proofs.Common.{◌≡◌, ℕ, ◌<◌, ◌≤◌, ◌⊎◌, inl, inr, List, [], ◌∷◌, ◌++◌, Option, Some, None, length, map}
use Rattle.std.proofs.Common.{get_or, refl, sym, ◌∙◌, ap, subst, arith}
use Rattle.std.specs.Prelude.{◌≢◌, All, AllPairs, Contains, flat_map, slice_get, codes}
use Rattle.std.proofs.lemmas.Bool.{cases_lt, cases_eq}
use Rattle.std.proofs.lemmas.Option.{slice_get-get_or}
use Rattle.std.proofs.lemmas.List.{get_or_default, get_or-map, length-map, map-append}
use Rattle.mp_base.specs.declared.value.Trit.{Trit}
use Rattle.mp_base.specs.declared.pad.Pad.{Pad}
use Rattle.switch_net.specs.declared.network.Tag.{Tag}
use Rattle.switch_net.specs.declared.network.Network.{Network}
use Rattle.switch_net.specs.Pads.{bit_labels, driver_labels}
use Rattle.mp_base.specs.PadBits.{pad_bits, Fit}
use Rattle.switch_net.specs.Clock.{Phases, Drive, bit_drives, input_drives, drives, IsLabelled, AreDrivers}
use Rattle.switch_net.specs.Breaks.{MeetsDriver}
use Rattle.switch_net.proofs.Exists.{all_or_one}
use Rattle.switch_net.proofs.Labels.{labels_of_bits}

-- names are compared byte by byte
pub same_name : (xs ys : List ℕ) → (xs ≡ ys) ⊎ (xs ≡ ys → ⊥)
same_name [] [] = inl refl
same_name [] (y ∷ ys) = inr (λ e. cc)
same_name (x ∷ xs) [] = inr (λ e. cc)
same_name (x ∷ xs) (y ∷ ys) = both (cases_eq x y) (same_name xs ys)
  where
    both : (x ≡ y) ⊎ (x ≡ y → ⊥) → (xs ≡ ys) ⊎ (xs ≡ ys → ⊥) → (x ∷ xs ≡ y ∷ ys) ⊎ (x ∷ xs ≡ y ∷ ys → ⊥)
    both (inl e) (inl f) = inl (λ i. e i ∷ f i)
    both (inl e) (inr n) = inr (λ q. n (cc))
    both (inr n) _ = inr (λ q. n (cc))

-- whether a tag says that the node has the label
tag_cases : (name : List ℕ) (n : ℕ) (t : Tag) → ((t.name ≡ name) × (t.node ≡ n) → ⊥) ⊎ (t.name ≡ name) × (t.node ≡ n)
tag_cases name n t = both (same_name t.name name) (cases_eq t.node n)
  where
    both : (t.name ≡ name) ⊎ (t.name ≡ name → ⊥) → (t.node ≡ n) ⊎ (t.node ≡ n → ⊥)
        → ((t.name ≡ name) × (t.node ≡ n) → ⊥) ⊎ (t.name ≡ name) × (t.node ≡ n)
    both (inl e) (inl f) = inr (e, f)
    both (inl e) (inr m) = inl (λ h. m h.1)
    both (inr m) _ = inl (λ h. m h.0)

none_of : {A : Type 0} (P : A → Type 0) (xs : List A) (x : A) → All (λ y. P y → ⊥) xs → Contains xs x → P x → ⊥
none_of P xs x h c p = subst (λ y. P y → ⊥) c.2 (h c.0 x c.1) p

label_cases : (net : Network) (name : List ℕ) (n : ℕ) → (IsLabelled net name n → ⊥) ⊎ IsLabelled net name n
label_cases net name n =
    found (all_or_one (λ t. (t.name ≡ name) × (t.node ≡ n) → ⊥) (λ t. (t.name ≡ name) × (t.node ≡ n))
    (tag_cases name n) net.tags)
  where
    found : All (λ t. (t.name ≡ name) × (t.node ≡ n) → ⊥) net.tags
        ⊎ ((t : Tag) × Contains net.tags t × ((t.name ≡ name) × (t.node ≡ n)))
        → (IsLabelled net name n → ⊥) ⊎ IsLabelled net name n
    found (inl h) = inl (λ l. none_of (λ t. (t.name ≡ name) × (t.node ≡ n)) net.tags l.0 h l.1 (l.2, l.3))
    found (inr (t, c, (e, f))) = inr (t, c, e, f)

-- the first of these that is for a label of the node
drive_cases : (net : Network) (ds : List Drive) (n : ℕ)
    → All (λ (d : Drive). IsLabelled net d.name n → ⊥) ds ⊎ ((d : Drive) × Contains ds d × IsLabelled net d.name n)
drive_cases net ds n =
    all_or_one (λ (d : Drive). IsLabelled net d.name n → ⊥) (λ (d : Drive). IsLabelled net d.name n)
    (λ d. label_cases net d.name n) ds

-- ---- the names of drives

abbrev name_of : Drive → List ℕ
name_of d = d.name

names_of_bits : (labels : List (List ℕ)) (bits : List Trit) → length labels ≡ length bits
    → map name_of (bit_drives labels bits) ≡ labels
names_of_bits [] bits e = refl
names_of_bits (l ∷ ls) [] e = absurd (omega arith)
names_of_bits (l ∷ ls) (b ∷ bs) e = ap (λ xs. l ∷ xs) (names_of_bits ls bs (omega arith))

names_of_inputs : (pads : List Pad) (words : List ℕ) → Fit pads words
    → map name_of (input_drives pads words) ≡ flat_map bit_labels pads
names_of_inputs [] words f = refl
names_of_inputs (p ∷ ps) [] f = absurd f
names_of_inputs (p ∷ ps) (w ∷ ws) f =
    map-append name_of (bit_drives (bit_labels p) (pad_bits p w)) (input_drives ps ws)
    ∙ ap (λ xs. xs ++ map name_of (input_drives ps ws))
    (names_of_bits (bit_labels p) (pad_bits p w) (labels_of_bits p.name p.width w))
    ∙ ap (λ xs. bit_labels p ++ xs) (names_of_inputs ps ws f.1)

pub names_of_drives : (phases : Phases) (pads : List Pad) (words : List ℕ) → Fit pads words
    → map name_of (drives phases pads words) ≡ driver_labels pads
names_of_drives phases pads words f =
    ap (λ xs. codes "vdd" ∷ codes "gnd" ∷ codes "phia" ∷ codes "phib" ∷ codes "phic" ∷ xs)
    (names_of_inputs pads words f)

-- ---- a list of drives whose names differ, on nodes that differ

-- the name of the drive at a place
name_at : (ds : List Drive) (d : Drive) (e : List ℕ) (c : Contains ds d) → get_or (map name_of ds) c.0 e ≡ d.name
name_at ds d e c = get_or-map name_of ds c.0 d e c.1 ∙ ap name_of c.2

named : (ds : List Drive) (d : Drive) → Contains ds d → Contains (map name_of ds) d.name
named ds d c = (c.0, subst (λ n. c.0 < n) (sym (length-map ds name_of)) c.1, name_at ds d d.name c)

same_drive : (ds : List Drive) → AllPairs ◌≢◌ (map name_of ds) → (d e : Drive) → Contains ds d → Contains ds e
    → d.name ≡ e.name → d ≡ e
unfolding named
same_drive ds differ d e c k same = by_place (cases_lt c.0 k.0) (cases_lt k.0 c.0)
  where
    by_place : (c.0 < k.0) ⊎ (k.0 ≤ c.0) → (k.0 < c.0) ⊎ (c.0 ≤ k.0) → d ≡ e
    by_place (inl l) _ =
        absurd (differ c.0 k.0 [] l (named ds e k).1 (name_at ds d [] c ∙ same ∙ sym (name_at ds e [] k)))
    by_place (inr m) (inl l) =
        absurd (differ k.0 c.0 [] l (named ds d c).1 (name_at ds e [] k ∙ sym same ∙ sym (name_at ds d [] c)))
    by_place (inr m) (inr l) =
        let i : c.0 ≡ k.0 = omega arith in
        sym c.2 ∙ get_or_default ds c.0 d e c.1 ∙ ap (λ x. get_or ds x e) i ∙ k.2

tag_at : (tags : List Tag) (t : Tag) (c : Contains tags t) → slice_get tags c.0 ≡ Some t
tag_at tags t c = slice_get-get_or tags c.0 t c.1 ∙ ap (λ x. Some x) c.2

module _ (net : Network) (drivers : List (List ℕ)) (apart : (i : ℕ) → ¬ MeetsDriver drivers net.tags i) where
  -- of two tags of drivers, one is after the other
  later : (t u : Tag) (c : Contains net.tags t) (k : Contains net.tags u) → c.0 < k.0 → Contains drivers t.name
      → Contains drivers u.name
      → t.node ≡ u.node → (t.name ≡ u.name → ⊥) → ⊥
  later t u c k l at au same differ =
      apart k.0 (
        u,
        record {
          at = tag_at net.tags u k;
          driver = au;
          j = c.0;
          before = l;
          earlier = t;
          there = tag_at net.tags t c;
          another = at;
          names = differ;
          node = same;
        },
      )

  one_name : (t u : Tag) → Contains net.tags t → Contains net.tags u → Contains drivers t.name
      → Contains drivers u.name → t.node ≡ u.node → t.name ≡ u.name
  one_name t u c k at au same = by_names (same_name t.name u.name)
    where
      by_place : (t.name ≡ u.name → ⊥) → (c.0 < k.0) ⊎ (k.0 ≤ c.0) → (k.0 < c.0) ⊎ (c.0 ≤ k.0) → ⊥
      by_place n (inl l) _ = later t u c k l at au same n
      by_place n (inr m) (inl l) = later u t k c l au at (sym same) (λ e. n (sym e))
      by_place n (inr m) (inr l) =
          let i : c.0 ≡ k.0 = omega arith in
          n (ap (λ (x : Tag). x.name)
          (sym c.2 ∙ get_or_default net.tags c.0 t u c.1 ∙ ap (λ x. get_or net.tags x u) i ∙ k.2))

      by_names : (t.name ≡ u.name) ⊎ (t.name ≡ u.name → ⊥) → t.name ≡ u.name
      by_names (inl e) = e
      by_names (inr n) = absurd (by_place n (cases_lt c.0 k.0) (cases_lt k.0 c.0))

  module _ (ds : List Drive) (names : map name_of ds ≡ drivers) (differ : AllPairs ◌≢◌ drivers) where
    is_driver : (d : Drive) (t : Tag) → Contains ds d → t.name ≡ d.name → Contains drivers t.name
    is_driver d t c e = subst (λ n. Contains drivers n) (sym e) (subst (λ ns. Contains ns d.name) names (named ds d c))

    -- labels of one node are driven to one value
    one_value : (d e : Drive) (n : ℕ) → Contains ds d → Contains ds e → IsLabelled net d.name n
        → IsLabelled net e.name n → d.value ≡ e.value
    one_value d e n c k l m =
        let same = one_name l.0 m.0 l.1 m.1 (is_driver d l.0 c l.2) (is_driver e m.0 k m.2) (l.3 ∙ sym m.3) in
        ap (λ (x : Drive). x.value)
        (same_drive ds (subst (AllPairs ◌≢◌) (sym names) differ) d e c k (sym l.2 ∙ same ∙ m.2))

    abbrev Found : ℕ → Type 0
    Found n =
        All (λ (d : Drive). IsLabelled net d.name n → ⊥) ds ⊎ ((d : Drive) × Contains ds d × IsLabelled net d.name n)

    abbrev value_of : (n : ℕ) → Found n → Option Trit
    value_of n (inl h) = None
    value_of n (inr w) = Some w.0.value

    each : (d : Drive) (n : ℕ) (f : Found n) → Contains ds d → IsLabelled net d.name n → value_of n f ≡ Some d.value
    each d n (inl h) c l = absurd (none_of (λ (x : Drive). IsLabelled net x.name n) ds d h c l)
    each d n (inr w) c l = ap (λ b. Some b) (one_value w.0 d n w.1 c w.2 l)

    only : (n : ℕ) (f : Found n) (b : Trit) → value_of n f ≡ Some b
        → (d : Drive) × Contains ds d × IsLabelled net d.name n × (d.value ≡ b)
    only n (inl h) b e = absurd (cc)
    only n (inr w) b e = (w.0, w.1, w.2, cc)

    -- the drivers
    pub drivers_exist : (driver : ℕ → Option Trit) × AreDrivers net ds driver
    drivers_exist = (
      λ n. value_of n
          (drive_cases net ds n),
      record {
        each = λ d n c l. each d n (drive_cases net ds n) c l;
        only = λ n b e. only n (drive_cases net ds n) b e;
      },
    )
