-- A mask with labels draws a network and breaks no rule, or one is the first that it breaks; a network with pads
-- likewise.
use Rattle.std.proofs.Common.{ℕ, zero, suc, ◌≡◌, ◌<◌, ◌+◌, ◌⊎◌, inl, inr, refl, subst, arith, List, [], ◌∷◌, length}
use Rattle.std.specs.Prelude.{◌≢◌, Contains, Some, slice_get}
use Rattle.std.proofs.lemmas.Bool.{cases_lt, cases_eq}
use Rattle.std.proofs.lemmas.Option.{slice_get_within}
use Rattle.mp_base.specs.declared.refusal.Broken.{Broken}
use Rattle.mp_base.specs.declared.refusal.Spot.TheVariants.{Offset, Named, Nowhere}
use Rattle.mp_base.specs.PadNames.{supplies}
use Rattle.mp_base.proofs.Decisions.{Decided, both_of, one_of, not_so, same_claim, some_below, is_name}
use Rattle.mp_base.proofs.Members.{member_contains, contains_member}
use Rattle.lam_geom.specs.declared.rect.Rect.{Rect}
use Rattle.lam_geom.specs.declared.label.FlatLabel.{FlatLabel}
use Rattle.lam_geom.specs.Chains.{Chain}
use Rattle.lam_geom.specs.Squares.{Square, covered}
use Rattle.switch_net.specs.declared.limits.TheConstants.{MOST_NODES_AND_CHANNELS}
use Rattle.switch_net.specs.declared.network.Tag.{Tag}
use Rattle.switch_net.specs.declared.network.Network.{Network}
use Rattle.switch_net.specs.Pads.{driver_labels, chip_labels}
use Rattle.switch_net.specs.Conductors.{Joined}
use Rattle.switch_net.specs.Labels.{Names}
use Rattle.switch_net.specs.Drawn.{IsNetwork}
use Rattle.switch_net.specs.Breaks.{IsMissing, AreTooMany, BreaksAt, MeetsDriver, IsFirstOfMask}
use Rattle.switch_net.specs.Breaks.{IsFirstOfCircuit, broken}
use Rattle.switch_net.specs.Breaks.BreaksAt.{one, two}
use Rattle.switch_net.specs.Laws.{OneNumbering}
use Rattle.switch_net.proofs.Naming.{one_square}
use Rattle.mask_laws.specs.Laws.{BreaksNone, MaskIsJudged, CircuitIsJudged}
use Rattle.mask_laws.proofs.Decided.{some_member}
use Rattle.mask_laws.proofs.Squares.{nodes_exist, regions_exist}
use Rattle.mask_laws.proofs.Networks.{named_told, joins_told, network_exists}

-- ---- numbers and lists

-- the first number that is so
record First (P : ℕ → Type 0) : Type 0 where
  number : ℕ
  is : P number
  before : (j : ℕ) → j < number → ¬ P j

-- the first number below n that is so, or none is
first_below : (P : ℕ → Type 0) → ((i : ℕ) → Decided (P i)) → (n : ℕ) → First P ⊎ ((i : ℕ) → i < n → ¬ P i)
first_below P t zero = inr (λ i lt. absurd (omega arith))
first_below P t (suc n) = more (first_below P t n) (t n)
  where
    more : First P ⊎ ((i : ℕ) → i < n → ¬ P i) → Decided (P n) → First P ⊎ ((i : ℕ) → i < suc n → ¬ P i)
    more (inl f) d = inl f
    more (inr none) (inl p) = inl (record { number = n; is = p; before = none })
    more (inr none) (inr never) = inr (λ i lt. elim (cases_lt i n) [
      | inl l ↦ none i l
      | inr ge ↦ (let e : n ≡ i = omega arith in subst (λ k. ¬ P k) e never)
    ])

-- what stands at a place of a list is so
abbrev At : {A : Type 0} → List A → ℕ → (A → Type 0) → Type 0
At {A = A} xs i P = (x : A) × (slice_get xs i ≡ Some x) × P x

same_element : {A : Type 0} (y x : A) → Some x ≡ Some y → y ≡ x
same_element y x e = cc

at_decided : {A : Type 0} (P : A → Type 0) → ((x : A) → Decided (P x)) → (xs : List A) (i : ℕ) → Decided (At xs i P)
at_decided P t [] i = inr (λ h. (let e = h.1 in cc))
at_decided P t (x ∷ xs) zero = same_claim (t x) (λ p. (x, refl, p)) from
  where
    from : At (x ∷ xs) 0 P → P x
    from (y, e, p) = subst P (same_element y x e) p
at_decided P t (x ∷ xs) (suc i) = at_decided P t xs i

-- whether the name is one of these
is_among : (wanted : List (List ℕ)) (name : List ℕ) → Decided (Contains wanted name)
is_among wanted name = same_claim
    (some_member (λ a. a ≡ name) (λ a. is_name a name) wanted)
    (λ h. subst (Contains wanted) h.2 (member_contains wanted h.0 h.1))
    (λ c. (name, contains_member wanted name c, refl))

-- ---- rules of a network

module _ (drivers : List (List ℕ)) (tags : List Tag) where
  -- an earlier label of another driver on the node
  abbrev IsAnother : Tag → Tag → Type 0
  IsAnother tag earlier = Contains drivers earlier.name × ((earlier.name ≢ tag.name) × (earlier.node ≡ tag.node))

  abbrev MeetsOne : ℕ → Tag → Type 0
  MeetsOne i tag = Contains drivers tag.name × ((j : ℕ) × (j < i) × At tags j (IsAnother tag))

  meets_one : (i : ℕ) (tag : Tag) → Decided (MeetsOne i tag)
  meets_one i tag =
      both_of (is_among drivers tag.name)
      (some_below (λ j. At tags j (IsAnother tag)) (λ j. at_decided (IsAnother tag) another tags j) i)
    where
      another : (earlier : Tag) → Decided (IsAnother tag earlier)
      another earlier = both_of (is_among drivers earlier.name)
          (both_of (not_so (is_name earlier.name tag.name)) (cases_eq earlier.node tag.node))

  meets_decided : (i : ℕ) → Decided (MeetsDriver drivers tags i)
  meets_decided i = same_claim (at_decided (MeetsOne i) (meets_one i) tags i) to from
    where
      to : At tags i (MeetsOne i) → MeetsDriver drivers tags i
      to (tag, at, (driver, (j, before, (earlier, there, (another, (names, node)))))) = (
        tag,
        record {
          at = at;
          driver = driver;
          j = j;
          before = before;
          earlier = earlier;
          there = there;
          another = another;
          names = names;
          node = node;
        },
      )

      from : MeetsDriver drivers tags i → At tags i (MeetsOne i)
      from (tag, h) = (tag, h.at, (h.driver, (h.j, h.before, (h.earlier, h.there, (h.another, (h.names, h.node))))))

  -- a first label that meets another driver, or none does
  first_meeting : First (MeetsDriver drivers tags) ⊎ ((i : ℕ) → ¬ MeetsDriver drivers tags i)
  first_meeting = elim (first_below (MeetsDriver drivers tags) meets_decided (length tags)) [
    | inl f ↦ inl f
    | inr none ↦ inr (λ i m. none i (slice_get_within tags i m.0 m.1.at) m)
  ]

module _ (net : Network) (wanted : List (List ℕ)) where
  abbrev NoneNamed : List ℕ → Type 0
  NoneNamed name = (t : Tag) → Contains net.tags t → t.name ≢ name

  none_named : (name : List ℕ) → Decided (NoneNamed name)
  none_named name = elim (some_member (λ (t : Tag). t.name ≡ name) (λ t. is_name t.name name) net.tags) [
    | inl h ↦ inr (λ none. none h.0 (member_contains net.tags h.0 h.1) h.2)
    | inr never ↦ inl (λ t c e. never (t, contains_member net.tags t c, e))
  ]

  abbrev Misses : ℕ → Type 0
  Misses i = (name : List ℕ) × IsMissing net wanted i name

  misses_decided : (i : ℕ) → Decided (Misses i)
  misses_decided i = same_claim (at_decided NoneNamed none_named wanted i) (λ h. (h.0, record { at = h.1; none = h.2 }))
      (λ h. (h.0, h.1.at, h.1.none))

  -- the first label that is missing, or none is
  first_missing : First Misses ⊎ ((i : ℕ) → ¬ Misses i)
  first_missing = elim (first_below Misses misses_decided (length wanted)) [
    | inl f ↦ inl f
    | inr none ↦ inr (λ i m. none i (slice_get_within wanted i m.0 m.1.at) m)
  ]

pub circuit_judged : CircuitIsJudged
circuit_judged net pads = elim (first_meeting (driver_labels pads.inputs) net.tags) [
  | inl f ↦ (let (tag, met) = f.is in
      inr (broken 3 (Offset tag.offset), IsFirstOfCircuit.n3 f.number tag met f.before))
  | inr apart ↦ elim (first_missing net (chip_labels pads)) [
    | inl f ↦ (let (name, missing) = f.is in inr (
      broken 4 (Named name),
      IsFirstOfCircuit.n4 apart f.number name missing (λ j other lt h. f.before j lt (other, h)),
    ))
    | inr all ↦ inl (record { apart = apart; labelled = λ i name h. all i (name, h) })
  ]
]

-- ---- rules of a mask

module _ (shapes : List Rect) (labels : List FlatLabel) where
  abbrev NamesSome : FlatLabel → Type 0
  NamesSome label = (s : Square) × Names (covered shapes) label s

  names_some : (label : FlatLabel) → Decided (NamesSome label)
  names_some label = same_claim
      (named_told shapes label.x label.y label.layer)
      (λ h. (record { layer = h.0; x = label.x; y = label.y }, record { x = refl; y = refl; layer = h.1 }))
      (λ h. ((h.0).layer, h.1.layer))

  -- two labels name conductors of two nodes
  record AreApart (label earlier : FlatLabel) : Type 0 where
    s : Square
    t : Square
    names : Names (covered shapes) label s
    named : Names (covered shapes) earlier t
    apart : ¬ Chain (Joined (covered shapes)) t s

  are_apart : (label earlier : FlatLabel) → Decided (AreApart label earlier)
  are_apart label earlier = by (names_some label) (names_some earlier)
    where
      by : Decided (NamesSome label) → Decided (NamesSome earlier) → Decided (AreApart label earlier)
      by (inr never) _ = inr (λ h. never (h.s, h.names))
      by (inl n) (inr never) = inr (λ h. never (h.t, h.named))
      by (inl (s, n)) (inl (t, m)) = elim (joins_told shapes t s) [
        | inr apart ↦ inl (record { s = s; t = t; names = n; named = m; apart = apart })
        | inl chain ↦ inr (λ h. (let e = one_square (covered shapes) label s h.s n h.names in
            let f = one_square (covered shapes) earlier t h.t m h.named in
            h.apart (subst (λ x. Chain (Joined (covered shapes)) x h.s) f
            (subst (Chain (Joined (covered shapes)) t) e chain))))
      ]

  abbrev Clashes : FlatLabel → FlatLabel → Type 0
  Clashes label earlier = (earlier.name ≡ label.name) × AreApart label earlier

  abbrev BreaksOne : ℕ → FlatLabel → Type 0
  BreaksOne i label = ¬ NamesSome label ⊎ ((j : ℕ) × (j < i) × At labels j (Clashes label))

  breaks_one : (i : ℕ) (label : FlatLabel) → Decided (BreaksOne i label)
  breaks_one i label = one_of (not_so (names_some label))
      (some_below (λ j. At labels j (Clashes label)) (λ j. at_decided (Clashes label) clashes labels j) i)
    where
      clashes : (earlier : FlatLabel) → Decided (Clashes label earlier)
      clashes earlier = both_of (is_name earlier.name label.name) (are_apart label earlier)

  breaks_decided : (i : ℕ) → Decided (BreaksAt (covered shapes) labels i)
  breaks_decided i = same_claim (at_decided (BreaksOne i) (breaks_one i) labels i) to from
    where
      to : At labels i (BreaksOne i) → BreaksAt (covered shapes) labels i
      to (label, at, inl none) = two label (record { at = at; none = λ s h. none (s, h) })
      to (label, at, inr (j, before, (earlier, there, (name, h)))) =
          one label (record {
            at = at;
            j = j;
            before = before;
            earlier = earlier;
            there = there;
            name = name;
            s = h.s;
            t = h.t;
            names = h.names;
            named = h.named;
            apart = h.apart;
          })

      from : BreaksAt (covered shapes) labels i → At labels i (BreaksOne i)
      from (one label h) = (
        label,
        h.at,
        inr (
          h.j,
          h.before,
          (
            h.earlier,
            h.there,
            (h.name, record { s = h.s; t = h.t; names = h.names; named = h.named; apart = h.apart }),
          ),
        ),
      )
      from (two label h) = (label, h.at, inl (λ n. h.none n.0 n.1))

  label_there : (i : ℕ) → BreaksAt (covered shapes) labels i → i < length labels
  label_there i (one label h) = slice_get_within labels i label h.at
  label_there i (two label h) = slice_get_within labels i label h.at

  abbrev IsJudged : Type 0
  IsJudged =
      ((net : Network) × BreaksNone (covered shapes) labels net)
      ⊎ ((b : Broken) × IsFirstOfMask (covered shapes) labels b)

  -- the first label that breaks a rule
  by_label : (i : ℕ) → BreaksAt (covered shapes) labels i → ((j : ℕ) → j < i → ¬ BreaksAt (covered shapes) labels j)
      → IsJudged
  by_label i (one label h) before = inr (broken 1 (Offset label.offset), IsFirstOfMask.n1 i label h before)
  by_label i (two label h) before = inr (broken 2 (Offset label.offset), IsFirstOfMask.n2 i label h before)

  module _ (numbering : OneNumbering) (fits : (i : ℕ) → ¬ BreaksAt (covered shapes) labels i) where
    few : ¬ (MOST_NODES_AND_CHANNELS < length (nodes_exist shapes).0 + length (regions_exist shapes).0)
        → ¬ AreTooMany (covered shapes)
    few never h =
        let nodes : h.nodes ≡ (nodes_exist shapes).0 =
        (numbering shapes).0 h.nodes (nodes_exist shapes).0 h.are_nodes (nodes_exist shapes).1 in
        let regions : h.regions ≡ (regions_exist shapes).0 =
        (numbering shapes).1 h.regions (regions_exist shapes).0 h.are_regions (regions_exist shapes).1 in
        never (subst (λ ns. MOST_NODES_AND_CHANNELS < length ns + length (regions_exist shapes).0) nodes
        (subst (λ rs. MOST_NODES_AND_CHANNELS < length h.nodes + length rs) regions h.over))

    many : MOST_NODES_AND_CHANNELS < length (nodes_exist shapes).0 + length (regions_exist shapes).0
        → AreTooMany (covered shapes)
    many over = record {
      nodes = (nodes_exist shapes).0;
      regions = (regions_exist shapes).0;
      are_nodes = (nodes_exist shapes).1;
      are_regions = (regions_exist shapes).1;
      over = over;
    }

    by_network : (net : Network) → IsNetwork (covered shapes) labels net → IsJudged
    by_network net drawn = elim (first_meeting supplies net.tags) [
      | inl f ↦ (let (tag, met) = f.is in
          inr (broken 3 (Offset tag.offset), IsFirstOfMask.n3 net drawn f.number tag met f.before))
      | inr apart ↦ elim (cases_lt MOST_NODES_AND_CHANNELS
          (length (nodes_exist shapes).0 + length (regions_exist shapes).0)) [
            | inl over ↦ inr (broken 5 Nowhere, IsFirstOfMask.n5 net drawn apart (many over))
            | inr le ↦ inl (
              net,
              record { network = drawn; labels_fit = fits; apart = apart; few = few (λ lt. omega (arith, lt, le)) },
            )
          ]
    ]

pub mask_judged : OneNumbering → MaskIsJudged
mask_judged numbering shapes labels =
    elim (first_below (BreaksAt (covered shapes) labels) (breaks_decided shapes labels) (length labels)) [
      | inl f ↦ by_label shapes labels f.number f.is f.before
      | inr none ↦ (let fits : (i : ℕ)
          → ¬ BreaksAt (covered shapes) labels i = λ i b. none i (label_there shapes labels i b) b in
          let net = network_exists shapes labels fits in
          by_network shapes labels numbering fits net.0 net.1)
    ]
