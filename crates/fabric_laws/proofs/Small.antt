-- A fabric has few nodes and channels.
use Rattle.std.proofs.Common.{◌≡◌, ℕ, zero, suc, ◌<◌, ◌≤◌, ◌+◌, List, [], ◌∷◌, ◌++◌, Bool, true, false, length, map}
use Rattle.std.proofs.Common.{eqb, refl, sym, ap, subst, arith, inl, inr}
use Rattle.std.specs.Prelude.{Contains, ◌||◌, filter}
use Rattle.std.specs.List.{list_any}
use Rattle.std.proofs.lemmas.Bool.{eq-eqb, cases_lt}
use Rattle.std.proofs.Math.ListN.{length-map, length-append}
use Rattle.std.proofs.lemmas.List.Sums.{length-filter, count_by-le-length}
use Rattle.std.proofs.lemmas.List.Elements.{Contains-append_left, Contains-append_right}
use Rattle.std.proofs.lemmas.Map.Steps.{le-length_from_below}
use Rattle.std.proofs.lemmas.Slice.Zip.{AllZip-long}
use Rattle.mp_base.proofs.Contents.{contains_map, contains_behind}
use Rattle.switch_net.specs.declared.network.Channel.{Channel}
use Rattle.renumbering.specs.Same.{AreOneToOne}
use Rattle.fabric.specs.Plan.{Plan}
use Rattle.fabric.specs.Switches.{Net, IsNet, is_switch, IsSwitch, AreNumbers, AreChannels}
use Rattle.fabric.specs.Switches.Net.{segment, line, ground, power}
use Rattle.fabric_laws.specs.Theorem.{FabricDrawsSwitches, FabricsAreSmall}

-- what is mapped is found among the values
found : {A : Type 0} (f : A → ℕ) (xs : List A) (x : A) → Contains xs x → list_any (eqb (f x)) (map f xs) ≡ true
found f [] x c = absurd (omega (arith, c.1))
found f (y ∷ ys) x (zero, l, e) = ap (λ b. b || list_any (eqb (f x)) (map f ys)) (eq-eqb (f x) (f y) (ap f (sym e)))
found f (y ∷ ys) x (suc k, l, e) = by_head (eqb (f x) (f y)) (found f ys x (k, omega arith, e))
  where
    by_head : (b : Bool) → list_any (eqb (f x)) (map f ys) ≡ true → (b || list_any (eqb (f x)) (map f ys)) ≡ true
    by_head true h = refl
    by_head false h = h

-- numbers below a count that all stand for things of a list: they are as few
few_by : {A : Type 0} (f : A → ℕ) (xs : List A) (count : ℕ)
    → ((k : ℕ) → k < count → (x : A) × Contains xs x × (f x ≡ k)) → count ≤ length xs
few_by f xs count onto =
    subst (λ n. count ≤ n) (length-map xs f)
    (le-length_from_below (map f xs) count
    (λ k h. let x = onto k h in subst (λ q. list_any (eqb q) (map f xs) ≡ true) x.2 (found f xs x.0 x.1)))

-- what stands one to one for numbers below another count is no more
no_more : (from to : ℕ) (there back : ℕ → ℕ) → AreOneToOne from to there back → from ≤ to
no_more from to there back one =
    subst (λ n. from ≤ n) (below_size to)
    (few_by back (below to) from (λ k h. (there k, in_below to (there k) (one.within k h), one.there_back k h)))
  where
    below : ℕ → List ℕ
    below zero = []
    below (suc n) = n ∷ below n

    below_size : (n : ℕ) → length (below n) ≡ n
    below_size zero = refl
    below_size (suc n) = ap suc (below_size n)

    in_below : (n k : ℕ) → k < n → Contains (below n) k
    in_below zero k h = absurd (omega arith)
    in_below (suc n) k h = elim (cases_lt k n) [
      | inl l ↦ let c = in_below n k l in (suc c.0, (let w = c.1 in omega (arith, w)), c.2)
      | inr l ↦ (zero, omega arith, (let e : n ≡ k = omega (arith, h, l) in e))
    ]

-- the nets of a fabric
abbrev nets : Plan → List Net
nets f = ground ∷ power ∷ (map segment f.segments ++ map line f.lines)

module _ (f : Plan) where
  abbrev others : List Net
  others = map segment f.segments ++ map line f.lines

  among : (n : Net) → IsNet f n → Contains (nets f) n
  among ground i = (zero, omega arith, refl)
  among power i = contains_behind power ground (power ∷ others) (zero, omega arith, refl)
  among (segment s) i =
      contains_behind (segment s) ground (power ∷ others) (contains_behind (segment s) power others
      (Contains-append_left (map segment f.segments) (map line f.lines) (segment s)
      (contains_map segment f.segments s i)))
  among (line l) i =
      contains_behind (line l) ground (power ∷ others) (contains_behind (line l) power others
      (Contains-append_right (map segment f.segments) (map line f.lines) (line l) (contains_map line f.lines l i)))

  net_count : length (nets f) ≡ 2 + (length f.segments + length f.lines)
  net_count =
      let a = length-append (map segment f.segments) (map line f.lines) in
      let b = length-map f.segments (λ s. segment s) in
      let c = length-map f.lines (λ l. line l) in
      omega (arith, a, b, c)

  few_nodes : (count : ℕ) (number : Net → ℕ) → AreNumbers f count number
      → count ≤ 2 + (length f.segments + length f.lines)
  few_nodes count number a =
      subst (λ n. count ≤ n) net_count
      (few_by number (nets f) count (λ k h. let x = a.onto k h in (x.0, among x.0 x.1, x.2)))

  few_channels : (number : Net → ℕ) (channels : List Channel) → AreChannels f number channels
      → length channels ≤ length f.marks
  few_channels number channels a =
      let s = AllZip-long (IsSwitch f number) (filter is_switch f.marks) channels a in
      let c = length-filter is_switch f.marks in
      let l = count_by-le-length is_switch f.marks in
      omega (arith, s, c, l)

pub fabrics_are_small : FabricDrawsSwitches → FabricsAreSmall
fabrics_are_small theorem f w labels net switches number d t =
    let r = (theorem f w labels net switches number d t).numbers in
    let a = no_more net.nodes switches.nodes r.node r.node_back r.nodes in
    let b = no_more (length net.channels) (length switches.channels) r.channel r.channel_back r.channels in
    let c = few_nodes f switches.nodes number t.nodes in
    let e = few_channels f number switches.channels t.channels in
    omega (arith, a, b, c, e)
