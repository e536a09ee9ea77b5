-- A flat net in which each net of a path has its number, and each latch its data, is the path's.
use Rattle.std.proofs.Common.{◌≡◌, ℕ, ◌<◌, ◌≤◌, ◌+◌, ◌-◌, ◌*◌, zero, suc, ◌⊎◌, inl, inr, List, [], ◌∷◌, Option, Some}
use Rattle.std.proofs.Common.{None, true, cond, length, map, get_or, refl, sym, ◌∙◌, ap, subst, arith}
use Rattle.std.specs.Prelude.{All, nat_lt, slice_get}
use Rattle.std.proofs.lemmas.Bool.{cases_lt, false≢true, le-ltb, lt-ltb}
use Rattle.std.proofs.lemmas.Option.{same_Some, slice_get-get_or}
use Rattle.nor_net.specs.declared.net.NetId.{NetId}
use Rattle.nor_net.specs.declared.net.Part.{Part}
use Rattle.nor_net.specs.declared.net.Part.TheVariants.{Input, Gate, Latch}
use Rattle.nor_net.specs.declared.net.Phase.{Phase}
use Rattle.nor_net.specs.Elements.{Spot, Element, Given, Nor, Latched, Joined, Low}
use Rattle.nor_net.specs.Shape.{Fed, IsFed, IsNet}
use Rattle.path_form.specs.declared.path.DataPath.{DataPath}
use Rattle.path_form.specs.Flat.{IsNumbering, IsPartOf, Root, is_own, itself, through}
use Rattle.path_form.specs.Shape.{rank}
use Rattle.path_form.specs.Showing.{path_nets}
use Rattle.path_flat.specs.Numbered.{IsNumberedTo, StandsFor, total}
use Rattle.path_flat.proofs.Data.{data_within}
use Rattle.path_flat.proofs.Ranks.{rank_once}
use Rattle.path_flat.proofs.Stepping.{inputs_before, joined_before, net_within, within_net}

-- ---- numbers of their own for places that have no net

square_less : (a b : ℕ) → a < b → a * a + a < b * b
square_less a b l =
    let d : ℕ = b - (a + 1) in
    let e : b ≡ a + 1 + d = omega (arith, l) in
    subst (λ x. a * a + a < x * x) (sym e) (grown a d)
  where
    grown : (a d : ℕ) → a * a + a < (a + 1 + d) * (a + 1 + d)
    grown a d = grind arith

code : Spot → ℕ
code n = (n.band + n.net) * (n.band + n.net) + n.band

one_code : (m n : Spot) → code m ≡ code n → m ≡ n
unfolding code
one_code m n e = by_sums (cases_lt (m.band + m.net) (n.band + n.net)) (cases_lt (n.band + n.net) (m.band + m.net))
  where
    by_sums : (m.band + m.net < n.band + n.net) ⊎ (n.band + n.net ≤ m.band + m.net)
        → (n.band + n.net < m.band + m.net) ⊎ (m.band + m.net ≤ n.band + n.net) → m ≡ n
    by_sums (inl l) b = let s = square_less (m.band + m.net) (n.band + n.net) l in absurd (omega (arith, s, e))
    by_sums (inr g) (inl l) = let s = square_less (n.band + n.net) (m.band + m.net) l in absurd (omega (arith, s, e))
    by_sums (inr g) (inr h) =
        let sums : m.band + m.net ≡ n.band + n.net = omega (arith, g, h) in
        let squares = ap (λ k. k * k) sums in
        let bands : m.band ≡ n.band = omega (arith, squares, e) in
        let nets : m.net ≡ n.net = omega (arith, sums, bands) in
        λ i. record { band = bands i; net = nets i }

module _ (p : DataPath) (shapes : IsNet p.control × IsNet p.slices.net) (flat : List Part) (number : Spot → NetId)
    (so : IsNumberedTo p (total p.order) (total p.order) flat number) where
  -- the number of each net, and numbers behind all nets for places without one
  pub of : Spot → NetId
  of n = cond (nat_lt (rank p.order n) (total p.order)) (number n) (record { 0 = length flat + code n })

  pub of_net : (n : Spot) → rank p.order n < total p.order → of n ≡ number n
  unfolding of
  of_net n l =
      ap (λ b. cond b (number n) (record { 0 = length flat + code n })) (lt-ltb (rank p.order n) (total p.order) l)

  of_none : (n : Spot) → total p.order ≤ rank p.order n → of n ≡ record { 0 = length flat + code n }
  unfolding of
  of_none n g =
      ap (λ b. cond b (number n) (record { 0 = length flat + code n })) (le-ltb (rank p.order n) (total p.order) g)

  pub of_is : (n : Spot) (e : Element) → path_nets p n ≡ Some e → of n ≡ number n
  of_is n e is = of_net n (net_within p n e is)

  own_within : (n : Spot) → is_own (path_nets p n) ≡ true → rank p.order n < total p.order
  own_within n own = by_element (path_nets p n) refl own
    where
      by_element : (o : Option Element) → path_nets p n ≡ o → is_own o ≡ true → rank p.order n < total p.order
      by_element None is own = absurd (false≢true own)
      by_element (Some e) is own = net_within p n e is

  ordered : (m n : Spot) → is_own (path_nets p m) ≡ true → is_own (path_nets p n) ≡ true
      → rank p.order m < rank p.order n → (of m).0 < (of n).0
  ordered m n om on l =
      let o = so.ordered m n om on l (own_within n on) in
      let a = ap (λ (x : NetId). x.0) (of_net m (own_within m om)) in
      let b = ap (λ (x : NetId). x.0) (of_net n (own_within n on)) in
      omega (arith, o, a, b)

  inputs_of : (t : ℕ) (ms : List Spot) → t ≤ total p.order → All (λ (m : Spot). rank p.order m < t) ms
      → map number ms ≡ map of ms
  inputs_of t [] l h = refl
  inputs_of t (m ∷ ms) l h =
      let a = of_net m (let b = h 0 m (omega arith) in omega (arith, b, l)) in
      let b = inputs_of t ms l (λ i d k. h (suc i) d (omega (arith, k))) in
      ap (λ x. x ∷ map number ms) (sym a) ∙ ap (λ xs. of m ∷ xs) b

  fed_test : (n : Spot) → rank p.order n < total p.order → nat_lt (rank p.order n) (total p.order) ≡ true
  fed_test n l = lt-ltb (rank p.order n) (total p.order) l

  each : (n : Spot) (e : Element) → path_nets p n ≡ Some e → IsPartOf flat of n e
  each n e is = by_element e is (net_within p n e is) (so.each n e is (net_within p n e is))
    where
      by_element : (e : Element) → path_nets p n ≡ Some e → rank p.order n < total p.order
          → StandsFor flat number (nat_lt (rank p.order n) (total p.order)) n e → IsPartOf flat of n e
      by_element Given is l h = ap (λ (x : NetId). slice_get flat x.0) (of_net n l) ∙ h
      by_element (Nor inputs) is l h =
          ap (λ (x : NetId). slice_get flat x.0) (of_net n l) ∙ h
          ∙ ap (λ xs. Some (Gate xs)) (inputs_of (rank p.order n) inputs (omega (arith, l))
          (inputs_before p n inputs is))
      by_element (Latched phase m) is l h =
          ap (λ (x : NetId). slice_get flat x.0) (of_net n l) ∙ h
          ∙ ap (λ b. Some (Latch phase (cond b (Some (number m)) None))) (fed_test n l)
          ∙ ap (λ x. Some (Latch phase (Some x))) (sym (of_net m (data_within p shapes n phase m is)))
      by_element (Joined m) is l h =
          of_net n l ∙ h ∙ sym (of_net m (let b = joined_before p n m is in omega (arith, b, l)))
      by_element Low is l h = (h.0, ap (λ (x : NetId). slice_get flat x.0) (of_net n l) ∙ h.1, h.2)

  -- ---- roots

  pub record HasRoot (n : Spot) : Type 0 where
    pub root : Spot
    pub leads : Root (path_nets p) n root
    pub own : is_own (path_nets p root) ≡ true
    pub same : number n ≡ number root

  rooted : (fuel : ℕ) (n : Spot) → rank p.order n < fuel → rank p.order n < total p.order → HasRoot n
  rooted zero n f l = absurd (omega arith)
  rooted (suc fuel) n f l = by_element net.0 net.1 (so.each n net.0 net.1 l)
      (λ m b. rooted fuel m (omega (arith, b, f)) (omega (arith, b, l)))
    where
      net : (e : Element) × (path_nets p n ≡ Some e)
      net = within_net p n l

      alone : (e : Element) → path_nets p n ≡ Some e → is_own (Some e) ≡ true → HasRoot n
      alone e is o = record { root = n; leads = itself n; own = ap is_own is ∙ o; same = refl }

      by_element : (e : Element) → path_nets p n ≡ Some e
          → StandsFor flat number (nat_lt (rank p.order n) (total p.order)) n e
          → ((m : Spot) → rank p.order m < rank p.order n → HasRoot m) → HasRoot n
      by_element Given is h again = alone Given is refl
      by_element (Nor inputs) is h again = alone (Nor inputs) is refl
      by_element (Latched phase m) is h again = alone (Latched phase m) is refl
      by_element (Joined m) is h again =
          let r = again m (joined_before p n m is) in
          record { root = r.root; leads = through n m r.root is r.leads; own = r.own; same = h ∙ r.same }
      by_element Low is h again = alone Low is refl

  abbrev Meet : Spot → Spot → Type 0
  Meet n m = (root : Spot) × Root (path_nets p) n root × Root (path_nets p) m root

  both : (n m : Spot) → rank p.order n < total p.order → rank p.order m < total p.order → number n ≡ number m
      → Meet n m
  both n m ln lm e =
      let a = rooted (suc (rank p.order n)) n (omega arith) ln in
      let b = rooted (suc (rank p.order m)) m (omega arith) lm in
      let numbers = ap (λ (x : NetId). x.0) (sym a.same ∙ e ∙ b.same) in
      let la = own_within a.root a.own in
      let lb = own_within b.root b.own in
      let one : a.root ≡ b.root =
      rank_once p.order a.root b.root (by_order a.root b.root a.own b.own la lb numbers
      (cases_lt (rank p.order a.root) (rank p.order b.root)) (cases_lt (rank p.order b.root) (rank p.order a.root)))
      lb in
      (b.root, subst (Root (path_nets p) n) one a.leads, b.leads)
    where
      by_order : (x y : Spot) → is_own (path_nets p x) ≡ true → is_own (path_nets p y) ≡ true
          → rank p.order x < total p.order → rank p.order y < total p.order → (number x).0 ≡ (number y).0
          → (rank p.order x < rank p.order y) ⊎ (rank p.order y ≤ rank p.order x)
          → (rank p.order y < rank p.order x) ⊎ (rank p.order x ≤ rank p.order y) → rank p.order x ≡ rank p.order y
      by_order x y ox oy lx ly q (inl l) c = let o = so.ordered x y ox oy l ly in absurd (omega (arith, o, q))
      by_order x y ox oy lx ly q (inr g) (inl l) = let o = so.ordered y x oy ox l lx in absurd (omega (arith, o, q))
      by_order x y ox oy lx ly q (inr g) (inr h) = omega (arith, g, h)

  apart : (n m : Spot) → of n ≡ of m → Meet n m
  apart n m e = by_places (cases_lt (rank p.order n) (total p.order)) (cases_lt (rank p.order m) (total p.order))
    where
      by_places : (rank p.order n < total p.order) ⊎ (total p.order ≤ rank p.order n)
          → (rank p.order m < total p.order) ⊎ (total p.order ≤ rank p.order m) → Meet n m
      by_places (inl ln) (inl lm) = both n m ln lm (sym (of_net n ln) ∙ e ∙ of_net m lm)
      by_places (inl ln) (inr gm) =
          let q = ap (λ (x : NetId). x.0) (sym (of_net n ln) ∙ e ∙ of_none m gm) in
          let i = so.inside n ln in absurd (omega (arith, q, i))
      by_places (inr gn) (inl lm) =
          let q = ap (λ (x : NetId). x.0) (sym (of_none n gn) ∙ e ∙ of_net m lm) in
          let i = so.inside m lm in absurd (omega (arith, q, i))
      by_places (inr gn) (inr gm) =
          let q = ap (λ (x : NetId). x.0) (sym (of_none n gn) ∙ e ∙ of_none m gm) in
          let same : n ≡ m = one_code n m (omega (arith, q)) in
          (m, subst (λ x. Root (path_nets p) x m) (sym same) (itself m), itself m)

  pub numbering : IsNumbering p flat of
  numbering = record { ordered = ordered; each = each; apart = apart }

  -- ---- all latches are fed

  pub all_fed : IsFed flat
  all_fed k d l = by_part (get_or flat k d) (slice_get-get_or flat k d l)
    where
      by_part : (part : Part) → slice_get flat k ≡ Some part → Fed part
      by_part Input at = tt
      by_part (Gate inputs) at = tt
      by_part (Latch phase (Some m)) at = refl
      by_part (Latch phase None) at =
          let m = so.meant k (Latch phase None) at in
          let h = so.each m.0 (Latched phase m.1) m.3 m.2 in
          let fed = h ∙ ap (λ b. Some (Latch phase (cond b (Some (number m.1)) None))) (fed_test m.0 m.2) in
          let same = same_Some _ _ (sym at ∙ ap (slice_get flat) (sym m.4) ∙ fed) in
          absurd (no_fed phase (number m.1) same)
        where
          no_fed : (q : Phase) (x : NetId) → Latch q None ≡ Latch q (Some x) → ⊥
          no_fed q x e = cc
