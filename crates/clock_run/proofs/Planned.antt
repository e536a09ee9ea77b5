-- A plan's nodes are the ones that are driven.
use Rattle.std.proofs.Common.{◌≡◌, ◌⊎◌, inl, inr, ◌∙◌, ℕ, zero, suc, ◌<◌, ◌≤◌, List, [], ◌∷◌, ◌++◌, length, replicate}
use Rattle.std.proofs.Common.{refl, sym, ap, subst, arith, Option, Some, None}
use Rattle.std.specs.Prelude.{Contains, flat_map, All}
use Rattle.std.specs.List.{AllZip}
use Rattle.std.proofs.lemmas.Bool.{cases_lt}
use Rattle.std.proofs.lemmas.List.{get_or-replicate, get_or_past, length-replicate}
use Rattle.std.proofs.lemmas.List.Elements.{Contains-append_left, Contains-append_right, Contains-append_cases}
use Rattle.mp_base.specs.declared.value.Trit.{Trit}
use Rattle.mp_base.specs.declared.pad.Pad.{Pad}
use Rattle.mp_base.specs.declared.pad.Pads.{Pads}
use Rattle.mp_base.specs.PadNames.{supplies}
use Rattle.mp_base.proofs.Contents.{contains_behind}
use Rattle.mp_base.proofs.Zips.{zip_length}
use Rattle.switch_net.specs.Values.{driver_at}
use Rattle.switch_net.specs.declared.network.Tag.{Tag}
use Rattle.switch_net.specs.declared.network.Network.{Network}
use Rattle.switch_net.specs.Pads.{bit_labels}
use Rattle.mp_base.specs.PadBits.{Fit, bit_count, low_bits, pad_bits}
use Rattle.switch_net.specs.Clock.{Phases, Drive, drive, bit_drives, input_drives, drives, IsLabelled, AreDrivers}
use Rattle.switch_net.proofs.Labels.{one_node}
use Rattle.mp_base.proofs.PadBits.{length_bits}
use Rattle.clock_run.specs.Driving.{IsDriven, AreDriven, AreSet}
use Rattle.clock_run.specs.Settings.{levels}
use Rattle.clock_run.specs.Plan.{AreNodesOf, IsPlan}
use Rattle.clock_run.proofs.Splitting.{length_labels}

-- a node among some that has the label
abbrev Among : Network → List ℕ → List ℕ → Type 0
Among net nodes name = (m : ℕ) × Contains nodes m × IsLabelled net name m

-- each of these drives is followed
abbrev Followed : Network → (ℕ → Option Trit) → List Drive → Type 0
Followed net driver ds = (d : Drive) (n : ℕ) → Contains ds d → IsLabelled net d.name n → driver n ≡ Some d.value

among_bits : (net : Network) (names : List (List ℕ)) (bits : List Trit) (nodes : List ℕ) → length names ≡ length bits
    → AllZip (IsLabelled net) names nodes
    → (d : Drive) → Contains (bit_drives names bits) d → Among net nodes d.name
among_bits net [] bits nodes l z d c = absurd (omega (arith, c.1))
among_bits net (x ∷ xs) [] nodes l z d c = absurd (omega (arith, l))
among_bits net (x ∷ xs) (b ∷ bs) [] l z d c = absurd z
among_bits net (x ∷ xs) (b ∷ bs) (n ∷ ns) l z d (zero, lt, e) =
    (n, (0, omega arith, refl), subst (λ (y : Drive). IsLabelled net y.name n) e z.0)
among_bits net (x ∷ xs) (b ∷ bs) (n ∷ ns) l z d (suc k, lt, e) =
    let w = among_bits net xs bs ns (omega (arith, l)) z.1 d (k, omega (arith, lt), e) in
    (w.0, contains_behind w.0 n ns w.1, w.2)

follow_bits : (net : Network) (driver : ℕ → Option Trit) (names : List (List ℕ)) (bits : List Trit) (nodes : List ℕ)
    → length names ≡ length bits
    → AllZip (IsLabelled net) names nodes → Followed net driver (bit_drives names bits)
    → AllZip (IsDriven driver) nodes bits
follow_bits net driver [] [] [] l z f = tt
follow_bits net driver [] [] (n ∷ ns) l z f = absurd z
follow_bits net driver [] (b ∷ bs) nodes l z f = absurd (omega (arith, l))
follow_bits net driver (x ∷ xs) [] nodes l z f = absurd (omega (arith, l))
follow_bits net driver (x ∷ xs) (b ∷ bs) [] l z f = absurd z
follow_bits net driver (x ∷ xs) (b ∷ bs) (n ∷ ns) l z f = (
  f (drive x b) n (0, omega arith, refl) z.0,
  follow_bits net driver xs bs ns (omega (arith, l)) z.1
      (λ d m c k. f d m (contains_behind d (drive x b) (bit_drives xs bs) c) k),
)

-- a pad has as many labels as bits
as_many : (pad : Pad) (word : ℕ) → length (bit_labels pad) ≡ length (pad_bits pad word)
as_many pad word = length_labels pad ∙ sym (length_bits (bit_count pad.width) word)

among_inputs : (net : Network) (pads : List Pad) (words : List ℕ) (own : List (List ℕ))
    → AllZip (AreNodesOf net) pads own
    → (d : Drive) → Contains (input_drives pads words) d → Among net (flat_map (λ ns. ns) own) d.name
among_inputs net [] words own z d c = absurd (omega (arith, c.1))
among_inputs net (p ∷ ps) [] own z d c = absurd (omega (arith, c.1))
among_inputs net (p ∷ ps) (w ∷ ws) [] z d c = absurd z
among_inputs net (p ∷ ps) (w ∷ ws) (ns ∷ own) z d c =
    by_part (λ k. among_inputs net ps ws own z.1 d k)
    (Contains-append_cases (bit_drives (bit_labels p) (pad_bits p w)) (input_drives ps ws) d c)
  where
    by_part : (Contains (input_drives ps ws) d → Among net (flat_map (λ xs. xs) own) d.name)
        → Contains (bit_drives (bit_labels p) (pad_bits p w)) d ⊎ Contains (input_drives ps ws) d
        → Among net (ns ++ flat_map (λ xs. xs) own) d.name
    by_part later (inl k) =
        let m = among_bits net (bit_labels p) (pad_bits p w) ns (as_many p w) z.0 d k in
        (m.0, Contains-append_left ns (flat_map (λ xs. xs) own) m.0 m.1, m.2)
    by_part later (inr k) =
        let m = later k in
        (m.0, Contains-append_right ns (flat_map (λ xs. xs) own) m.0 m.1, m.2)

follow_inputs : (net : Network) (driver : ℕ → Option Trit) (pads : List Pad) (words : List ℕ) (own : List (List ℕ))
    → Fit pads words
    → AllZip (AreNodesOf net) pads own → Followed net driver (input_drives pads words)
    → AllZip (AreDriven driver) own words
follow_inputs net driver [] [] [] fit z f = tt
follow_inputs net driver [] [] (ns ∷ own) fit z f = absurd z
follow_inputs net driver [] (w ∷ ws) own fit z f = absurd fit
follow_inputs net driver (p ∷ ps) [] own fit z f = absurd fit
follow_inputs net driver (p ∷ ps) (w ∷ ws) [] fit z f = absurd z
follow_inputs net driver (p ∷ ps) (w ∷ ws) (ns ∷ own) fit z f =
    let l : bit_count p.width ≡ length ns =
    sym (length_labels p) ∙ zip_length (IsLabelled net) (bit_labels p) ns z.0 in (
      subst (λ n. AllZip (IsDriven driver) ns (low_bits n w)) l
          (follow_bits net driver (bit_labels p) (pad_bits p w) ns (as_many p w) z.0
          (λ d m c k. f d m
          (Contains-append_left (bit_drives (bit_labels p) (pad_bits p w)) (input_drives ps ws) d c) k)),
      follow_inputs net driver ps ws own fit.1 z.1
          (λ d m c k. f d m
          (Contains-append_right (bit_drives (bit_labels p) (pad_bits p w)) (input_drives ps ws) d c) k),
    )

undriven : (size n : ℕ) → driver_at (replicate size None) n ≡ None
undriven size n = by_place (cases_lt n size)
  where
    by_place : (n < size) ⊎ (size ≤ n) → driver_at (replicate size None) n ≡ None
    by_place (inl lt) = get_or-replicate size n None None lt
    by_place (inr le) =
        let l : length (replicate {A = Option Trit} size None) ≡ size = length-replicate size None in
        get_or_past (replicate size None) n None (omega (arith, l, le))

module _ (net : Network) (pads : Pads) (supply : List ℕ) (inputs outputs : List (List ℕ))
    (plan : IsPlan net pads supply inputs outputs)
    (words : List ℕ)
    (fit : Fit pads.inputs words) (phases : Phases) (driver : ℕ → Option Trit)
    (drivers : AreDrivers net (drives phases pads.inputs words) driver) where
  abbrev first : List Drive
  first = bit_drives supplies (levels phases)

  abbrev rest : List Drive
  rest = input_drives pads.inputs words

  pub supplies_driven : AllZip (IsDriven driver) supply (levels phases)
  supplies_driven = follow_bits net driver supplies (levels phases) supply refl plan.supply
      (λ d m c k. drivers.each d m (Contains-append_left first rest d c) k)

  pub inputs_driven : AllZip (AreDriven driver) inputs words
  inputs_driven = follow_inputs net driver pads.inputs words inputs fit plan.input
      (λ d m c k. drivers.each d m (Contains-append_right first rest d c) k)

  abbrev nodes : List ℕ
  nodes = supply ++ flat_map (λ ns. ns) inputs

  among : (d : Drive) → Contains (drives phases pads.inputs words) d → Among net nodes d.name
  among d c = by_part (Contains-append_cases first rest d c)
    where
      by_part : Contains first d ⊎ Contains rest d → Among net nodes d.name
      by_part (inl k) =
          let m = among_bits net supplies (levels phases) supply refl plan.supply d k in
          (m.0, Contains-append_left supply (flat_map (λ ns. ns) inputs) m.0 m.1, m.2)
      by_part (inr k) =
          let m = among_inputs net pads.inputs words inputs plan.input d k in
          (m.0, Contains-append_right supply (flat_map (λ ns. ns) inputs) m.0 m.1, m.2)

  -- nothing else is driven
  pub plan_drives : (size : ℕ) (new : List (Option Trit)) → AreSet driver nodes (replicate size None) new
      → driver_at new ≡ driver
  plan_drives size new set = λ i n. by_driver n (driver n) refl i
    where
      by_other : (n : ℕ) → driver n ≡ None
          → (driver_at new n ≡ driver_at (replicate size None) n) ⊎ (driver_at new n ≡ driver n)
          → driver_at new n ≡ driver n
      by_other n e (inl q) = q ∙ undriven size n ∙ sym e
      by_other n e (inr q) = q

      by_driver : (n : ℕ) (o : Option Trit) → driver n ≡ o → driver_at new n ≡ driver n
      by_driver n None e = by_other n e (set.others n)
      by_driver n (Some b) e =
          let w = drivers.only n b e in
          let m = among w.0 w.1 in
          set.these n (subst (λ x. Contains nodes x) (one_node net w.0.name m.0 n m.2 w.2) m.1)

few_bits : (width : ℕ) → width ≤ 64 → bit_count width ≤ 64
few_bits zero h = omega arith
few_bits (suc w) h = h

-- a pad has at most 64 nodes
pub nodes_few : (net : Network) (pads : List Pad) (own : List (List ℕ)) → AllZip (AreNodesOf net) pads own
    → All (λ ns. length ns ≤ 64) own
nodes_few net [] [] z k d lt = absurd (omega (arith, lt))
nodes_few net [] (ns ∷ own) z k d lt = absurd z
nodes_few net (p ∷ ps) [] z k d lt = absurd z
nodes_few net (p ∷ ps) (ns ∷ own) z zero d lt =
    let l = zip_length (IsLabelled net) (bit_labels p) ns z.0 in
    let w = length_labels p in
    let f = few_bits p.width p.narrow in
    omega (arith, l, w, f)
nodes_few net (p ∷ ps) (ns ∷ own) z (suc k) d lt = nodes_few net ps own z.1 k d (omega (arith, lt))

-- nodes that have labels are among the network's
pub labelled_inside : (net : Network) (names : List (List ℕ)) (nodes : List ℕ) → AllZip (IsLabelled net) names nodes
    → All (λ n. n < net.nodes) nodes
labelled_inside net [] [] z k d lt = absurd (omega (arith, lt))
labelled_inside net [] (n ∷ ns) z k d lt = absurd z
labelled_inside net (x ∷ xs) [] z k d lt = absurd z
labelled_inside net (x ∷ xs) (n ∷ ns) z zero d lt =
    let (tag, (place, inside, is), named, at) = z.0 in
    subst (λ m. m < net.nodes) (ap (λ (u : Tag). u.node) is ∙ at) (net.tags_in place tag inside)
labelled_inside net (x ∷ xs) (n ∷ ns) z (suc k) d lt = labelled_inside net xs ns z.1 k d (omega (arith, lt))

pub nodes_inside : (net : Network) (pads : List Pad) (own : List (List ℕ)) → AllZip (AreNodesOf net) pads own
    → All (λ ns. All (λ n. n < net.nodes) ns) own
nodes_inside net [] [] z k d lt = absurd (omega (arith, lt))
nodes_inside net [] (ns ∷ own) z k d lt = absurd z
nodes_inside net (p ∷ ps) [] z k d lt = absurd z
nodes_inside net (p ∷ ps) (ns ∷ own) z zero d lt = labelled_inside net (bit_labels p) ns z.0
nodes_inside net (p ∷ ps) (ns ∷ own) z (suc k) d lt = nodes_inside net ps own z.1 k d (omega (arith, lt))
