-- The stubs of a data path are bits of pads, and where the path is narrow it has none.
use Rattle.std.proofs.Common.{◌≡◌, inl, inr, ℕ, ◌+◌, Option, Some, None, Bool, true, false}
use Rattle.std.proofs.Common.{cond, List, [], ◌∷◌, length, map, refl, sym, ◌∙◌, ap, subst, arith, not}
use Rattle.std.specs.Prelude.{Contains, slice_get, ◌==◌, ◌||◌, ◌&&◌}
use Rattle.std.specs.List.{list_any, sum_by}
use Rattle.std.proofs.lemmas.Bool.{cases_Bool, true≢false, or_cases, and_parts, not-true}
use Rattle.std.proofs.lemmas.List.{length-map}
use Rattle.std.proofs.lemmas.Option.{slice_get_within}
use Rattle.mp_base.proofs.Members.{member_contains, contains_member, member_map}
use Rattle.mp_base.proofs.Lists.{any_map}
use Rattle.nor_net.specs.declared.net.NetId.{NetId}
use Rattle.nor_net.specs.declared.net.Part.{Part}
use Rattle.nor_net.specs.declared.net.Part.TheVariants.{Input, Gate, Latch}
use Rattle.organelles.specs.declared.slices.Chain as chain
use Rattle.path_form.specs.declared.path.Cast as casting
use Rattle.path_form.specs.declared.path.Lift as lifting
use Rattle.path_form.specs.declared.path.DataPath.{DataPath}
use Rattle.path_form.specs.Shape.{times, chain_from}
use Rattle.path_form.specs.Shape as shape
use Rattle.path_form.specs.Sizes as sizes
use Rattle.array_form.specs.Band.{has}
use Rattle.array_form.specs.Homes.{reads}
use Rattle.array_form.proofs.Room.{any_member}
use Rattle.slice_form.specs.Narrow.{active, IsNarrow}
use Rattle.slice_form.specs.Path.{Path, Carry, Cast, Lift}
use Rattle.slice_form.specs.Slices.{control_stub, is_unread, slice_stub}
use Rattle.array_form.specs.Place.{is_input, part_is}
use Rattle.slice_form.specs.Whole.{carry_of, cast_of, lift_of, programmed_of, numbers_of, path_of, StubsArePads}
use Rattle.slice_form.specs.Whole.{WholesAreNarrow}
use Rattle.slice_form.proofs.Below.{below_any}
use Rattle.slice_laying.proofs.Finding.{counted_there}
use Rattle.slice_laying.proofs.SliceColumns.{words_of_stub}
use Rattle.slice_laying.proofs.WholeNets.{control_counts, signals, start_same, words}

or_false : (a b : Bool) → a ≡ false → (a || b) ≡ true → b ≡ true
or_false true b e h = absurd (true≢false e)
or_false false b e h = h

-- the tests on a path as it is placed are those on the data path
uncounted : {A : Type 0} (key : A → NetId) (n : ℕ) (xs : List A) → list_any (λ x. (key x).0 == n) xs ≡ false
    → times n (map key xs) ≡ 0
uncounted key n [] e = refl
uncounted key n (x ∷ xs) e =
    step ((key x).0 == n) (list_any (λ x. (key x).0 == n) xs) (times n (map key xs)) e (uncounted key n xs)
  where
    step : (t u : Bool) (m : ℕ) → (t || u) ≡ false → (u ≡ false → m ≡ 0) → cond t 1 0 + m ≡ 0
    step true u m e f = absurd (true≢false e)
    step false u m e f = let z = f e in omega (arith, z)

-- a part that reads a net does so by either word
has_any : (n : ℕ) (ins : List NetId) → list_any (λ (i : NetId). i.0 == n) ins ≡ true
    → has n (map (λ (i : NetId). i.0) ins) ≡ true
has_any n [] e = absurd (true≢false (sym e))
has_any n (x ∷ xs) e = step (x.0 == n) e (has_any n xs)
  where
    step : (t : Bool) → (t || list_any (λ (i : NetId). i.0 == n) xs) ≡ true
        → (list_any (λ (i : NetId). i.0 == n) xs ≡ true → has n (map (λ (i : NetId). i.0) xs) ≡ true)
        → cond t true (has n (map (λ (i : NetId). i.0) xs)) ≡ true
    step true e f = refl
    step false e f = f e

reads_so : (n : ℕ) (q : Part) → sizes.reads n q ≡ true → reads n (Some q) ≡ true
reads_so n Input e = absurd (true≢false (sym e))
reads_so n (Gate ins) e = has_any n ins e
reads_so n (Latch ph None) e = absurd (true≢false (sym e))
reads_so n (Latch ph (Some d)) e = e

read_not_unread : (net : List Part) (n : ℕ) → sizes.is_read net n ≡ true → is_unread net n ≡ true → ⊥
read_not_unread net n r u =
    let w = any_member (sizes.reads n) net r in
    let b = below_any (λ j. reads n (slice_get net j)) (length net) w.0 (slice_get_within net w.0 w.1 w.2)
    (ap (reads n) w.2 ∙ reads_so n w.1 w.3) in
    true≢false (sym u ∙ ap not b)

module _ (p : DataPath) where
  abbrev whole : Path
  whole = path_of p

  -- what a stub of the control says
  record IsIdle (n : ℕ) : Type 0 where
    there : part_is is_input (slice_get p.control n) ≡ true
    unread : is_unread p.control n ≡ true
    lifts : list_any (λ (l : lifting.Lift). l.control.0 == n) p.lifts ≡ false
    casts : list_any (λ (c : casting.Cast). c.control.0 == n) p.casts ≡ false

  idle : (n : ℕ) → control_stub whole n ≡ true → IsIdle n
  idle n e =
      let a = and_parts (part_is is_input (slice_get p.control n))
      (is_unread p.control n && (not (list_any (λ (l : Lift). l.control == n) whole.lifts) && not
      (list_any (λ (c : Cast). c.control == n) whole.casts))) e in
      let b = and_parts (is_unread p.control n) (not (list_any (λ (l : Lift). l.control == n) whole.lifts) && not
      (list_any (λ (c : Cast). c.control == n) whole.casts)) a.1 in
      let c = and_parts (not (list_any (λ (l : Lift). l.control == n) whole.lifts)) (not
      (list_any (λ (c : Cast). c.control == n) whole.casts)) b.1 in
      record {
        there = a.0;
        unread = b.0;
        lifts = sym (any_map lift_of (λ (l : Lift). l.control == n) p.lifts)
            ∙ not-true (list_any (λ (l : Lift). l.control == n) whole.lifts) c.0;
        casts = sym (any_map cast_of (λ (c : Cast). c.control == n) p.casts)
            ∙ not-true (list_any (λ (c : Cast). c.control == n) whole.casts) c.1;
      }

  input_of : (o : Option Part) → part_is is_input o ≡ true → o ≡ Some Input
  input_of None e = absurd (true≢false (sym e))
  input_of (Some Input) e = refl
  input_of (Some (Gate ins)) e = absurd (true≢false (sym e))
  input_of (Some (Latch ph d)) e = absurd (true≢false (sym e))

  control_pad : (n : ℕ) → control_stub whole n ≡ true → Contains whole.signals n
  control_pad n e =
      let i = idle n e in
      let h = input_of (slice_get p.control n) i.there in
      let z = uncounted (λ (l : lifting.Lift). l.control) n p.lifts i.lifts in
      let all = control_counts p n (ap shape.is_input h) in
      counted_there (signals p) n (omega (arith, z, all))

  slice_pad : (n : ℕ) → slice_stub whole n ≡ true → Contains whole.words n
  slice_pad n e = words_of_stub whole n e

  id_of : (ids : List NetId) (n : ℕ) → Contains (numbers_of ids) n → (id : NetId) × Contains ids id × (id.0 ≡ n)
  id_of ids n c =
      let w = member_map (λ (id : NetId). id.0) ids n (contains_member (numbers_of ids) n c) in
      (w.0, member_contains ids w.0 w.1, w.2)

  module _ (cost : ℕ) (narrow : sizes.IsNarrow cost p) where
    no_control_stub : (n : ℕ) → control_stub whole n ≡ false
    no_control_stub n = elim (cases_Bool (control_stub whole n)) [
      | inr e ↦ e
      | inl e ↦ (let i = idle n e in
          let id = id_of (signals p) n (control_pad n e) in
          let used = subst (λ m. (sizes.is_read p.control m || (list_any (λ
          (l : lifting.Lift). l.control.0 == m) p.lifts
          || list_any (λ (c : casting.Cast). c.control.0 == m) p.casts)) ≡ true) id.2 (narrow.control_used id.0 id.1)
          in absurd
          (elim (or_cases (sizes.is_read p.control n)
          (list_any (λ (l : lifting.Lift). l.control.0 == n) p.lifts
          || list_any (λ (c : casting.Cast). c.control.0 == n) p.casts) used) [
            | inl r ↦ read_not_unread p.control n r i.unread
            | inr q ↦ true≢false
                (sym (or_false (list_any (λ (l : lifting.Lift). l.control.0 == n) p.lifts)
                (list_any (λ (c : casting.Cast). c.control.0 == n) p.casts) i.lifts q) ∙ i.casts)
          ]))
    ]

    start_any : (n : ℕ) (cs : List chain.Chain)
        → list_any (λ (c : Carry). c.start == n) (map carry_of cs) ≡ list_any (λ c. (chain_from c).0 == n) cs
    start_any n [] = refl
    start_any n (c ∷ cs) = λ i. (start_same c i == n) || start_any n cs i

    no_slice_stub : (n : ℕ) → slice_stub whole n ≡ false
    no_slice_stub n = elim (cases_Bool (slice_stub whole n)) [
      | inr e ↦ e
      | inl e ↦ (let id = id_of (words p) n (slice_pad n e) in
          let a = and_parts (list_any (λ w. w == n) whole.words)
          (is_unread p.slices.net n && (not (list_any (λ (l : Lift). l.start == n) whole.lifts) && not
          (list_any (λ (c : Carry). c.start == n) whole.chains))) e in
          let b = and_parts (is_unread p.slices.net n) (not (list_any (λ (l : Lift). l.start == n) whole.lifts) && not
          (list_any (λ (c : Carry). c.start == n) whole.chains)) a.1 in
          let c = and_parts (not (list_any (λ (l : Lift). l.start == n) whole.lifts)) (not
          (list_any (λ (c : Carry). c.start == n) whole.chains)) b.1 in
          let lifts = sym (any_map lift_of (λ (l : Lift). l.start == n) p.lifts)
          ∙ not-true (list_any (λ (l : Lift). l.start == n) whole.lifts) c.0 in
          let chains = sym (start_any n p.slices.chains)
          ∙ not-true (list_any (λ (c : Carry). c.start == n) whole.chains) c.1 in
          let used = subst (λ m. (sizes.is_read p.slices.net m || (list_any (λ
          (l : lifting.Lift). l.from.0 == m) p.lifts
          || list_any (λ (c : chain.Chain). (chain_from c).0 == m) p.slices.chains)) ≡ true) id.2
          (narrow.slice_used id.0 id.1) in absurd
          (elim (or_cases (sizes.is_read p.slices.net n)
          (list_any (λ (l : lifting.Lift). l.from.0 == n) p.lifts
          || list_any (λ (c : chain.Chain). (chain_from c).0 == n) p.slices.chains) used) [
            | inl r ↦ read_not_unread p.slices.net n r b.0
            | inr q ↦ true≢false
                (sym (or_false (list_any (λ (l : lifting.Lift). l.from.0 == n) p.lifts)
                (list_any (λ (c : chain.Chain). (chain_from c).0 == n) p.slices.chains) lifts q) ∙ chains)
          ]))
    ]

    active_same : (q : Part) → sizes.active q ≡ active q
    active_same Input = refl
    active_same (Gate ins) = refl
    active_same (Latch ph d) = refl

    sum_same : (ps : List Part) → sum_by sizes.active ps ≡ sum_by active ps
    sum_same ps = ap (λ f. sum_by f ps) (λ i q. active_same q i)

    is_narrow : IsNarrow cost whole
    is_narrow =
        let casts = length-map p.casts cast_of in
        let lifts = length-map p.lifts lift_of in
        let chains = length-map p.slices.chains carry_of in
        let programs = length-map p.slices.programs (programmed_of p.width) in
        let control = sum_same p.control in
        let slice = sum_same p.slices.net in
        let a = narrow.control in let b = narrow.slice in
        record {
          control = omega (arith, casts, lifts, control, a);
          slice = omega (arith, casts, lifts, chains, programs, slice, b);
          control_used = no_control_stub;
          slice_used = no_slice_stub;
        }

pub stubs_are_pads : StubsArePads
stubs_are_pads p = (λ n h e. control_pad p n e, λ b n h e. slice_pad p n e)

pub wholes_are_narrow : WholesAreNarrow
wholes_are_narrow cost p narrow = is_narrow p cost narrow
