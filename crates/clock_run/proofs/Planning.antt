-- The nodes of a plan, and why there is none.
use Rattle.std.proofs.Common.{◌≡◌, ◌∙◌, ℕ, ◌-◌, ◌≤◌, List, [], ◌++◌, length, take, drop, refl, sym, ap, subst, arith}
use Rattle.std.proofs.Common.{Option, Some, None}
use Rattle.std.specs.Prelude.{flat_map, slice_get, MatchOption}
use Rattle.std.specs.List.{AllZip}
use Rattle.std.proofs.lemmas.List.{append-nil, length-append, length-drop, take_all}
use Rattle.std.proofs.lemmas.Option.{slice_get_within}
use Rattle.mp_base.specs.declared.refusal.Refusal.{Refusal}
use Rattle.mp_base.specs.declared.refusal.Refusal.TheVariants.{NoMemory, Broken}
use Rattle.mp_base.specs.declared.refusal.Spot.TheVariants.{Offset}
use Rattle.mp_base.specs.declared.refusal.Broken.{Broken as BrokenRule}
use Rattle.mp_base.specs.declared.pad.Pad.{Pad}
use Rattle.mp_base.specs.declared.pad.Pads.{Pads}
use Rattle.mp_base.specs.PadNames.{supplies}
use Rattle.mp_base.proofs.Zips.{zip_length}
use Rattle.switch_net.specs.declared.network.Network.{Network}
use Rattle.switch_net.specs.Pads.{bit_labels, driver_labels, chip_labels}
use Rattle.switch_net.specs.Clock.{IsLabelled}
use Rattle.switch_net.specs.Breaks.{MeetsDriver, IsMissing, IsFirstOfCircuit, broken}
use Rattle.switch_net.specs.Breaks.IsFirstOfCircuit.{n3, n4}
use Rattle.clock_run.specs.Owners.{IsFirstMeeting}
use Rattle.clock_run.specs.Plan.{AreNodesOf, IsPlan}
use Rattle.clock_run.specs.Refused.{IsMissingFirst, IsRefused}
use Rattle.clock_run.proofs.Missing.{partner}
use Rattle.clock_run.proofs.Zips.{zip_parts}

-- no label is missing where each has a node
none_missing : (net : Network) (labels : List (List ℕ)) (nodes : List ℕ) → AllZip (IsLabelled net) labels nodes
    → (i : ℕ) (name : List ℕ) → ¬ IsMissing net labels i name
none_missing net labels nodes z i name m =
    let (node, (tag, among, named, at)) = partner (IsLabelled net) labels [] nodes z i name
    (slice_get_within labels i name m.at) (subst (λ xs. slice_get xs i ≡ Some name) (sym (append-nil labels)) m.at) in
    m.none tag among named

pub refused_n3 : (net : Network) (pads : Pads) (offset : ℕ) → IsFirstMeeting (driver_labels pads.inputs) net.tags offset
    → IsFirstOfCircuit net pads (broken 3 (Offset offset))
refused_n3 net pads offset m =
    subst (λ o. IsFirstOfCircuit net pads (broken 3 (Offset o))) (sym m.offset_is) (n3 m.i m.tag m.twice m.first)

pub refused_n4 : (net : Network) (pads : Pads) (r : Refusal)
    → ((i : ℕ) → ¬ MeetsDriver (driver_labels pads.inputs) net.tags i)
    → IsMissingFirst net (chip_labels pads) r → IsRefused net pads r
refused_n4 net pads NoMemory apart m = tt
refused_n4 net pads (Broken b) apart m =
    subst (λ (x : BrokenRule). IsFirstOfCircuit net pads x) (sym m.2) (n4 apart m.1.i m.0 m.1.missing m.1.first)

-- which labels a plan's list of names has
pub drivers_are : (pads : Pads) (ins : List Pad) (drivers shown : List (List ℕ)) → ins ≡ pads.inputs
    → drivers ≡ driver_labels ins
    → shown ≡ drivers → shown ≡ driver_labels pads.inputs
drivers_are pads ins drivers shown i d s = s ∙ d ∙ ap (λ ps. driver_labels ps) i

pub chip_is : (pads : Pads) (ins outs : List Pad) (drivers labels shown : List (List ℕ)) → ins ≡ pads.inputs
    → outs ≡ pads.outputs
    → drivers ≡ driver_labels ins → labels ≡ drivers ++ flat_map bit_labels outs → shown ≡ labels
    → shown ≡ chip_labels pads
chip_is pads ins outs drivers labels shown i o d l s =
    s ∙ l ∙ ap (λ xs. xs ++ flat_map bit_labels outs) (drivers_are pads ins drivers drivers i d refl)
    ∙ ap (λ ps. driver_labels pads.inputs ++ flat_map bit_labels ps) o

pub none_met : {A : Type 0} (o : Option ℕ) (P : ℕ → Type 0) → MatchOption o A P → ((x : ℕ) → o ≡ Some x → ⊥) → A
none_met None P h n = h
none_met (Some x) P h n = absurd (n x refl)

pub one_met : (A : Type 0) (o : Option ℕ) (P : ℕ → Type 0) (x : ℕ) → MatchOption o A P → o ≡ Some x → P x
one_met A o P x h e = subst (λ p. MatchOption p A P) e h

-- each label has its node, and these are so many drivers
pub record Resolved (net : Network) (pads : Pads) (nodes : List ℕ) (count : ℕ) : Type 0 where
  pub labelled : AllZip (IsLabelled net) (chip_labels pads) nodes
  pub counted : count ≡ length (driver_labels pads.inputs)

pub resolved : (net : Network) (pads : Pads) (labels : List (List ℕ)) (all nodes : List ℕ) (count : ℕ)
    → labels ≡ chip_labels pads → AllZip (IsLabelled net) labels all → nodes ≡ all
    → count ≡ length (driver_labels pads.inputs) → Resolved net pads nodes count
resolved net pads labels all nodes count l z e n = record {
  labelled = subst (λ xs. AllZip (IsLabelled net) xs nodes) l
      (subst (λ ns. AllZip (IsLabelled net) labels ns) (sym e) z);
  counted = n;
}

module _ (net : Network) (pads : Pads) (nodes : List ℕ) (count : ℕ) (r : Resolved net pads nodes count) where
  abbrev inner : List (List ℕ)
  inner = flat_map bit_labels pads.inputs

  abbrev outer : List (List ℕ)
  outer = flat_map bit_labels pads.outputs

  supply_nodes : AllZip (IsLabelled net) supplies (take 5 nodes)
  supply_nodes = (zip_parts (IsLabelled net) supplies (inner ++ outer) nodes 5 refl r.labelled).0

  input_nodes : AllZip (IsLabelled net) inner (take (count - 5) (drop 5 nodes))
  input_nodes =
      let n : length inner ≡ count - 5 = omega (arith, r.counted) in
      (zip_parts (IsLabelled net) inner outer (drop 5 nodes) (count - 5) n
      (zip_parts (IsLabelled net) supplies (inner ++ outer) nodes 5 refl r.labelled).1).0

  pub count_inside : count ≤ length nodes
  count_inside =
      let l = zip_length (IsLabelled net) (chip_labels pads) nodes r.labelled in
      let m = length-append (driver_labels pads.inputs) outer in
      omega (arith, l, m, r.counted)

  -- what is left behind the nodes of drivers
  output_nodes : AllZip (IsLabelled net) outer (take (length nodes - count) (drop count nodes))
  output_nodes =
      let all : take (length nodes - count) (drop count nodes) ≡ drop count nodes =
      take_all (length nodes - count) (drop count nodes) (let l = length-drop count nodes in omega arith) in
      subst (λ ns. AllZip (IsLabelled net) outer ns) (sym all)
      (zip_parts (IsLabelled net) (driver_labels pads.inputs) outer nodes count (sym r.counted) r.labelled).1

  pub output_count : (outs : List Pad) → outs ≡ pads.outputs
      → length (take (length nodes - count) (drop count nodes)) ≡ length (flat_map bit_labels outs)
  output_count outs o =
      sym (zip_length (IsLabelled net) outer (take (length nodes - count) (drop count nodes)) output_nodes) ∙ ap
      (λ ps. length (flat_map bit_labels ps)) (sym o)

  pub plan_is : (supply : List ℕ) (ins outs : List Pad) (inputs outputs : List (List ℕ)) → ins ≡ pads.inputs
      → outs ≡ pads.outputs
      → ((i : ℕ) → ¬ MeetsDriver (driver_labels pads.inputs) net.tags i) → supply ≡ take 5 nodes
      → (AllZip (IsLabelled net) (flat_map bit_labels ins) (take (count - 5) (drop 5 nodes))
      → AllZip (AreNodesOf net) ins inputs)
      → (AllZip (IsLabelled net) (flat_map bit_labels outs) (take (length nodes - count) (drop count nodes))
      → AllZip (AreNodesOf net) outs outputs)
      → IsPlan net pads supply inputs outputs
  plan_is supply ins outs inputs outputs i o apart s f g = record {
    has_pads = record { apart = apart; labelled = none_missing net (chip_labels pads) nodes r.labelled };
    supply = subst (λ ns. AllZip (IsLabelled net) supplies ns) (sym s) supply_nodes;
    input = subst (λ ps. AllZip (AreNodesOf net) ps inputs) i
        (f (subst (λ ps. AllZip (IsLabelled net) (flat_map bit_labels ps) (take (count - 5) (drop 5 nodes)))
        (sym i) input_nodes));
    output = subst (λ ps. AllZip (AreNodesOf net) ps outputs) o
        (g (subst
        (λ ps. AllZip (IsLabelled net) (flat_map bit_labels ps) (take (length nodes - count) (drop count nodes)))
        (sym o)
        output_nodes));
  }
