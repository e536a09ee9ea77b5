-- The data of a path's latches is a gate or a pad's bit.
use Rattle.std.proofs.Common.{◌≡◌, ◌⊎◌, inl, inr, ◌∙◌, ℕ, zero, suc, ◌+◌, ◌<◌, List, [], ◌∷◌, map, refl, sym, ap, subst}
use Rattle.std.proofs.Common.{arith, Option, Some, None, Bool, true, false, cond, eqb}
use Rattle.std.specs.Prelude.{◌==◌, All, Contains, nat_lt, slice_get, if◌then◌else◌}
use Rattle.std.specs.Int.{bit_at}
use Rattle.std.proofs.lemmas.Bool.{ltb-true, lt-ltb, eqb-true}
use Rattle.std.proofs.lemmas.Option.{slice_get_within, get_or_from_slice_get}
use Rattle.nor_net.specs.declared.net.Phase.{Phase}
use Rattle.nor_net.specs.declared.net.NetId.{NetId}
use Rattle.nor_net.specs.declared.net.Part.{Part}
use Rattle.nor_net.specs.declared.net.Part.TheVariants as parts
use Rattle.nor_net.specs.Elements.{Spot, Element, Given, Nor, Latched, Joined, Low, spot}
use Rattle.nor_net.specs.Shape as Shape
use Rattle.nor_net.specs.Shape.{MayFeed}
use Rattle.organelles.specs.declared.slices.Chain.{Chain}
use Rattle.organelles.specs.declared.slices.Chain.TheVariants.{Up, Down}
use Rattle.organelles.specs.declared.slices.Programmed.{Programmed}
use Rattle.std.specs.Option.{option_or}
use Rattle.nor_net.proofs.Parts.{same_net}
use Rattle.organelles.specs.Slices.{first_some, chain_element, program_element, slice_input}
use Rattle.path_form.specs.declared.path.DataPath.{DataPath}
use Rattle.path_form.specs.Nets.{lift_element, cast_element, control_part, slice_part, band_nets}
use Rattle.path_form.specs.Shape.{is_input, times, takes_pad, entries_of}
use Rattle.path_form.specs.Showing.{path_nets}
use Rattle.path_values.proofs.Realized.{control_pad, slice_pad}
use Rattle.drawn_nets.specs.Law.{IsKind, AreFed}
use Rattle.chip_laws.specs.Rows.{PathsAreFed}

-- no joint is a latch
abbrev NoLatch : Option Element → Type 0
NoLatch None = Unit {0}
NoLatch (Some Given) = Unit {0}
NoLatch (Some (Nor ins)) = Unit {0}
NoLatch (Some (Latched ph d)) = ⊥
NoLatch (Some (Joined m)) = Unit {0}
NoLatch (Some Low) = Unit {0}

or_no : (a b : Option Element) → NoLatch a → NoLatch b → NoLatch (option_or a b)
or_no None b x y = y
or_no (Some e) b x y = x

first_no : {A : Type 0} (f : A → Option Element) → ((a : A) → NoLatch (f a)) → (xs : List A) → NoLatch (first_some f xs)
first_no f h [] = tt
first_no f h (x ∷ xs) = or_no (f x) (first_some f xs) (h x) (first_no f h xs)

cond_no : (b : Bool) (e : Element) → NoLatch (Some e) → NoLatch (cond b (Some e) None)
cond_no true e x = x
cond_no false e x = tt

two_no : (b : Bool) (e f : Element) → NoLatch (Some e) → NoLatch (Some f) → NoLatch (Some (cond b e f))
two_no true e f x y = x
two_no false e f x y = y

chain_no : (w k n : ℕ) (c : Chain) → NoLatch (chain_element w k n c)
chain_no w k n (Up from to) = cond_no (to.0 == n) (cond (k == 0) Low (Joined (spot k from)))
    (two_no (k == 0) Low (Joined (spot k from)) tt tt)
chain_no w k n (Down from to) = cond_no (to.0 == n) (cond (suc k == w) Low (Joined (spot (suc (suc k)) from)))
    (two_no (suc k == w) Low (Joined (spot (suc (suc k)) from)) tt tt)

program_no : (k n : ℕ) (g : Programmed) → NoLatch (program_element k n g)
program_no k n g = cond_no (g.net.0 == n) (cond (bit_at g.bits k == 1) (Nor []) Low)
    (two_no (bit_at g.bits k == 1) (Nor []) Low tt tt)

-- what is counted is there
has_one : (n : ℕ) (ids : List NetId) → 0 < times n ids → (id : NetId) × Contains ids id × (id.0 ≡ n)
has_one n [] h = absurd (omega (arith, h))
has_one n (x ∷ xs) h = by_test (eqb x.0 n) refl h (λ g. has_one n xs g)
  where
    by_test : (b : Bool) → eqb x.0 n ≡ b → 0 < cond b 1 0 + times n xs
        → (0 < times n xs → (id : NetId) × Contains xs id × (id.0 ≡ n)) → (id : NetId) × Contains (x ∷ xs) id
        × (id.0 ≡ n)
    by_test true e g again = (x, (0, omega arith, refl), eqb-true x.0 n e)
    by_test false e g again = let r = again (omega (arith, g)) in let c = r.1 in
        (r.0, (suc c.0, (let l = c.1 in omega (arith, l)), c.2), r.2)

all_at : (P : Part → Type 0) (xs : List Part) (k : ℕ) (x : Part) → All P xs → slice_get xs k ≡ Some x → P x
all_at P xs k x h e = subst P (get_or_from_slice_get xs k x x e) (h k x (slice_get_within xs k x e))

-- an input that feeds a latch is a pad's
from_pad : (net : List Part) (pads : List NetId) (q : Phase) (m : NetId) → slice_get net m.0 ≡ Some parts.Input
    → takes_pad net pads (parts.Latch q (Some m)) ≡ true → Contains pads m
from_pad net pads q m e t =
    let some = ltb-true 0 (times m.0 pads) (sym (ap (λ o. if is_input o then nat_lt 0 (times m.0 pads) else true) e)
    ∙ t) in
    let r = has_one m.0 pads some in
    subst (Contains pads) (same_net r.0 m r.2) r.1

module _ (p : DataPath) (is_control : Shape.IsNet p.control) (is_slice : Shape.IsNet p.slices.net) where
  abbrev Feeds : Spot → Type 0
  Feeds d = ((ins : List Spot) × IsKind (path_nets p) d (Nor ins)) ⊎ IsKind (path_nets p) d Given
      ⊎ IsKind (path_nets p) d Low

  feed_control : (q : Phase) (m : NetId) (o : Option Part) → slice_get p.control m.0 ≡ o → MayFeed q o
      → takes_pad p.control (entries_of false (p.pads).inputs p.inputs) (parts.Latch q (Some m)) ≡ true
      → Feeds (spot 0 m)
  feed_control q m None e f t = absurd f
  feed_control q m (Some (parts.Gate xs)) e f t = inl (map (spot 0) xs, ap (control_part p.lifts m.0) e)
  feed_control q m (Some (parts.Latch ph s)) e f t = absurd f
  feed_control q m (Some parts.Input) e f t = inr (inl
      (control_pad p m e (from_pad p.control (entries_of false (p.pads).inputs p.inputs) q m e t)))

  control : (n : ℕ) (ph : Phase) (d : Spot) (o : Option Part) → slice_get p.control n ≡ o
      → control_part p.lifts n o ≡ Some (Latched ph d) → Feeds d
  control n ph d None e k = absurd (cc)
  control n ph d (Some parts.Input) e k =
      absurd (subst NoLatch k (or_no (first_some (lift_element n) p.lifts) (Some Given)
      (first_no (lift_element n) (λ l. cond_no (l.control.0 == n)
      (Joined (spot (suc l.slice) l.from)) tt) p.lifts) tt))
  control n ph d (Some (parts.Gate xs)) e k = absurd (cc)
  control n ph d (Some (parts.Latch q None)) e k = absurd (cc)
  control n ph d (Some (parts.Latch q (Some m))) e k =
      subst Feeds (let g : spot 0 m ≡ d = cc in g)
      (feed_control q m (slice_get p.control m.0) refl (is_control.stand n (parts.Latch q (Some m)) e)
      (all_at (λ part. takes_pad p.control (entries_of false (p.pads).inputs p.inputs) part ≡ true) p.control n
      (parts.Latch q (Some m)) p.whole.latches.0 e))

  feed_slice : (b : ℕ) → b < p.width → (q : Phase) (m : NetId) (o : Option Part) → slice_get p.slices.net m.0 ≡ o
      → MayFeed q o
      → takes_pad p.slices.net (entries_of true (p.pads).inputs p.inputs) (parts.Latch q (Some m)) ≡ true
      → Feeds (spot (suc b) m)
  feed_slice b l q m None e f t = absurd f
  feed_slice b l q m (Some (parts.Gate xs)) e f t =
      inl (
        map (spot (suc b)) xs,
        ap (λ z. cond z (slice_part p.width p.slices p.casts b m.0
            (slice_get p.slices.net m.0)) None) (lt-ltb b p.width l) ∙ ap (slice_part p.width p.slices p.casts b m.0) e,
      )
  feed_slice b l q m (Some (parts.Latch ph s)) e f t = absurd f
  feed_slice b l q m (Some parts.Input) e f t = inr (inl
      (slice_pad p b m l e (from_pad p.slices.net (entries_of true (p.pads).inputs p.inputs) q m e t)))

  slice : (b n : ℕ) → b < p.width → (ph : Phase) (d : Spot) (o : Option Part) → slice_get p.slices.net n ≡ o
      → slice_part p.width p.slices p.casts b n o ≡ Some (Latched ph d) → Feeds d
  slice b n l ph d None e k = absurd (cc)
  slice b n l ph d (Some parts.Input) e k =
      absurd (subst NoLatch k
      (or_no (slice_input p.width p.slices b n) (option_or (first_some (cast_element n) p.casts) (Some Given))
      (or_no (first_some (chain_element p.width b n) p.slices.chains)
      (first_some (program_element b n) p.slices.programs)
      (first_no (chain_element p.width b n) (chain_no p.width b n) p.slices.chains)
      (first_no (program_element b n) (program_no b n) p.slices.programs))
      (or_no (first_some (cast_element n) p.casts) (Some Given)
      (first_no (cast_element n) (λ c. cond_no (c.slice.0 == n)
      (Joined (spot zero c.control)) tt) p.casts) tt)))
  slice b n l ph d (Some (parts.Gate xs)) e k = absurd (cc)
  slice b n l ph d (Some (parts.Latch q None)) e k = absurd (cc)
  slice b n l ph d (Some (parts.Latch q (Some m))) e k =
      subst Feeds (let g : spot (suc b) m ≡ d = cc in g)
      (feed_slice b l q m (slice_get p.slices.net m.0) refl (is_slice.stand n (parts.Latch q (Some m)) e)
      (all_at (λ part. takes_pad p.slices.net (entries_of true (p.pads).inputs p.inputs) part
      ≡ true) p.slices.net n (parts.Latch q (Some m)) p.whole.latches.1 e))

  in_band : (b n : ℕ) (ph : Phase) (d : Spot) → band_nets p.width p.control p.slices p.casts p.lifts b n
      ≡ Some (Latched ph d) → Feeds d
  in_band zero n ph d h = control n ph d (slice_get p.control n) refl h
  in_band (suc b) n ph d h = by_test (nat_lt b p.width) refl h
    where
      by_test : (t : Bool) → nat_lt b p.width ≡ t → cond t
          (slice_part p.width p.slices p.casts b n (slice_get p.slices.net n)) None ≡ Some (Latched ph d) → Feeds d
      by_test true q k = slice b n (ltb-true b p.width q) ph d (slice_get p.slices.net n) refl k
      by_test false q k = absurd (cc)

  fed : AreFed (path_nets p)
  fed = record { fed = λ l ph d h. in_band l.band l.net ph d h }

pub paths_are_fed : PathsAreFed
paths_are_fed p a b = fed p a b
