-- A data path of nets is one that can be placed; its stubs are pads, and it has few columns where it is narrow.
use Rattle.std.proofs.Common.{◌≡◌, inl, inr, ℕ, zero, suc, ◌<◌, ◌≤◌, Option, Some, None, Bool, true, false}
use Rattle.std.proofs.Common.{cond, List, length, refl, sym, ◌∙◌, ap, subst, arith}
use Rattle.std.specs.Prelude.{Contains, slice_get, All, ◌==◌, ◌≢◌}
use Rattle.std.specs.Int.{bit_at}
use Rattle.std.specs.Option.{option_or}
use Rattle.std.proofs.lemmas.Bool.{lt-ltb, true≢false}
use Rattle.std.proofs.lemmas.List.Elements.{All-contains}
use Rattle.std.proofs.lemmas.List.FromFn.{length-map-range_with_len}
use Rattle.std.proofs.lemmas.Option.{slice_get_within, slice_get_cases}
use Rattle.mp_base.proofs.Members.{Member, member_append, member_contains, contains_member, member_map}
use Rattle.mp_base.proofs.Entries.{get_map, contains_from_get}
use Rattle.nor_net.specs.declared.net.NetId.{NetId}
use Rattle.nor_net.specs.declared.net.Phase.{Phase}
use Rattle.nor_net.specs.declared.net.Part.{Part}
use Rattle.nor_net.specs.declared.net.Part.TheVariants.{Input, Gate, Latch}
use Rattle.nor_net.specs.Elements.{Element, Given}
use Rattle.nor_net.specs.Shape.{IsNet, MayFeed}
use Rattle.organelles.specs.declared.slices.Programmed as programmed
use Rattle.organelles.specs.Slices.{first_some, slice_input}
use Rattle.path_form.specs.declared.path.Cast as casting
use Rattle.path_form.specs.declared.path.Lift as lifting
use Rattle.path_form.specs.declared.path.DataPath.{DataPath}
use Rattle.path_form.specs.Nets.{lift_element, cast_element, control_part, slice_part}
use Rattle.path_form.specs.Shape.{entries_of, is_fed, is_input, times, chain_to, chain_from}
use Rattle.slice_form.specs.Joints.{AreJoinedOnce}
use Rattle.slice_form.specs.Path.{Path, Carry, Cast, Lift, Programmed, parts, west, IsElement, IsPath}
use Rattle.slice_form.specs.Whole.{carry_of, cast_of, lift_of, pad_entries, programmed_of, numbers_of, path_of}
use Rattle.array_form.specs.Wires.{place}
use Rattle.path_form.proofs.Joining.{there}
use Rattle.slice_laying.specs.Paths.{IsPlaceable, PathsArePlaceable}
use Rattle.slice_laying.proofs.Finding.{counted, once}
use Rattle.slice_laying.proofs.WholeNets.{chain_input, cast_input, program_input, lift_input, from_nets, slice_counts}
use Rattle.slice_laying.proofs.WholeNets.{to_same, start_same, words}

some_given : (o : Option Element) → (e : Element) × (option_or o (Some Given) ≡ Some e)
some_given None = (Given, refl)
some_given (Some e) = (e, refl)

some_more : (o q : Option Element) → (e : Element) × (option_or o (option_or q (Some Given)) ≡ Some e)
some_more None q = some_given q
some_more (Some e) q = (e, refl)

module _ (p : DataPath) (control : IsNet p.control) (slices : IsNet p.slices.net) where
  abbrev whole : Path
  whole = path_of p

  net_at : (b : ℕ) → IsNet (parts whole b)
  net_at zero = control
  net_at (suc k) = slices

  all_below : (ins : List NetId) (n m : ℕ) → n ≤ m → All (λ (j : NetId). j.0 < n) ins → All (λ (j : NetId). j.0 < m) ins
  all_below ins n m h a = λ i d lt. (let x = a i d lt in omega (arith, x, h))

  gates : (b n : ℕ) (ins : List NetId) → slice_get (parts whole b) n ≡ Some (Gate ins)
      → All (λ (i : NetId). i.0 < length (parts whole b)) ins
  gates b n ins h =
      all_below ins n (length (parts whole b))
      (let w = slice_get_within (parts whole b) n (Gate ins) h in omega (arith, w)) ((net_at b).stand n (Gate ins) h)

  fed_within : (ps : List Part) (ph : Phase) (m : ℕ) → MayFeed ph (slice_get ps m) → m < length ps
  fed_within ps ph m f = elim (slice_get_cases ps m).1 [
    | inl w ↦ w.1
    | inr w ↦ absurd (subst (MayFeed ph) w.1 f)
  ]

  latches : (b n : ℕ) (ph : Phase) (d : NetId) → slice_get (parts whole b) n ≡ Some (Latch ph (Some d))
      → d.0 < length (parts whole b)
  latches b n ph d h = fed_within (parts whole b) ph d.0 ((net_at b).stand n (Latch ph (Some d)) h)

  unfed : (ps : List Part) (n : ℕ) (ph : Phase) → All (λ part. is_fed part ≡ true) ps
      → slice_get ps n ≡ Some (Latch ph None) → ⊥
  unfed ps n ph all h =
      true≢false
      (sym (All-contains (λ part. is_fed part ≡ true) ps (Latch ph None) all
      (contains_from_get ps n (Latch ph None) h)))

  fed : (b n : ℕ) (ph : Phase) → slice_get (parts whole b) n ≡ Some (Latch ph None) → ⊥
  fed zero n ph h = unfed p.control n ph p.whole.fed.0 h
  fed (suc k) n ph h = unfed p.slices.net n ph p.whole.fed.1 h

  inputs : (b n : ℕ) → b ≤ p.width → slice_get (parts whole b) n ≡ Some Input → (e : Element)
      × IsElement whole (place b n) e
  inputs zero n le h =
      let s = some_given (first_some (lift_element n) p.lifts) in
      (s.0, from_nets p 0 n s.0 (ap (control_part p.lifts n) h ∙ s.1))
  inputs (suc k) n le h =
      let s = some_more (slice_input p.width p.slices k n) (first_some (cast_element n) p.casts) in (
        s.0,
        from_nets p (suc k) n s.0
            (ap (λ b. cond b (slice_part p.width p.slices p.casts k n (slice_get p.slices.net n)) None)
            (lt-ltb k p.width (omega (arith, le)))
            ∙ ap (slice_part p.width p.slices p.casts k n) h ∙ s.1),
      )

  casts : (i : ℕ) (c : Cast) → slice_get whole.casts i ≡ Some c → (c.control < length p.control)
      × (slice_get p.slices.net c.slice ≡ Some Input)
  casts i c h =
      let w = get_map cast_of p.casts i c h in
      subst (λ (c : Cast). (c.control < length p.control) × (slice_get p.slices.net c.slice ≡ Some Input)) w.2 (
        All-contains (λ (c : casting.Cast). c.control.0 < length p.control) p.casts w.0 p.whole.casts_in
            (contains_from_get p.casts i w.0 w.1),
        cast_input p i w.0 w.1,
      )

  lifts : (i : ℕ) (l : Lift) → slice_get whole.lifts i ≡ Some l → (l.slice < p.width) × (l.start < length p.slices.net)
      × (slice_get p.control l.control ≡ Some Input)
  lifts i l h =
      let w = get_map lift_of p.lifts i l h in
      let r = All-contains (λ (l : lifting.Lift). (l.slice < p.width) × (l.from.0 < length p.slices.net)) p.lifts w.0
      p.whole.lifts_in (contains_from_get p.lifts i w.0 w.1) in
      subst (λ (l : Lift). (l.slice < p.width) × (l.start < length p.slices.net)
      × (slice_get p.control l.control ≡ Some Input)) w.2 (r.0, r.1, lift_input p i w.0 w.1)

  chains : (i : ℕ) (c : Carry) → slice_get whole.chains i ≡ Some c → (c.start < length p.slices.net)
      × (slice_get p.slices.net c.to ≡ Some Input) × (1 ≤ p.width)
  chains i c h =
      let w = get_map carry_of p.slices.chains i c h in
      let r = All-contains (λ c. ((chain_from c).0 < length p.slices.net) × ((chain_to c).0 < length p.slices.net))
      p.slices.chains w.0 p.whole.chains_in (contains_from_get p.slices.chains i w.0 w.1) in
      subst (λ (c : Carry). (c.start < length p.slices.net) × (slice_get p.slices.net c.to ≡ Some Input)
      × (1 ≤ p.width)) w.2 (
        subst (λ n. n < length p.slices.net) (sym (start_same w.0)) r.0,
        ap (slice_get p.slices.net) (to_same w.0) ∙ chain_input p i w.0 w.1,
        p.whole.width.0,
      )

  programs : (i : ℕ) (g : Programmed) → slice_get whole.programs i ≡ Some g
      → (slice_get p.slices.net g.net ≡ Some Input) × (length g.bits ≡ p.width)
  programs i g h =
      let w = get_map (programmed_of p.width) p.slices.programs i g h in
      subst (λ (g : Programmed). (slice_get p.slices.net g.net ≡ Some Input) × (length g.bits ≡ p.width)) w.2
      (program_input p i w.0 w.1, length-map-range_with_len (λ k. bit_at (w.0).bits k == 1) 0 p.width)

  pad_net : (word : Bool) (net : List Part) → All (λ (id : NetId). id.0 < length net) (entries_of word (p.pads).inputs
      p.inputs) → All (λ (id : NetId). id.0 < length net) (entries_of word (p.pads).outputs p.outputs)
      → (n : ℕ) → Contains (numbers_of (pad_entries word p)) n → n < length net
  pad_net word net ins outs n c =
      let w = member_map (λ (id : NetId). id.0) (pad_entries word p) n
      (contains_member (numbers_of (pad_entries word p)) n c) in
      let low : (ids : List NetId) → All (λ (id : NetId). id.0 < length net) ids → Member ids w.0 → w.0.0 < length net =
      λ ids all k. All-contains (λ (id : NetId). id.0 < length net) ids w.0 all (member_contains ids w.0 k) in
      subst (λ z. z < length net) w.2
      (elim (member_append (entries_of word (p.pads).inputs p.inputs) (entries_of word (p.pads).outputs p.outputs) w.0
      w.1) [
        | inl k ↦ low (entries_of word (p.pads).inputs p.inputs) ins k
        | inr k ↦ low (entries_of word (p.pads).outputs p.outputs) outs k
      ])

  joined : (b n : ℕ) → Contains (west whole b) n → n < length (parts whole b)
  joined zero n c = pad_net false p.control p.whole.entries_fit.0.1 p.whole.entries_fit.1.1 n c
  joined (suc b) n c = pad_net true p.slices.net p.whole.entries_fit.0.2 p.whole.entries_fit.1.2 n c

  is_path : IsPath whole
  is_path = record {
    gates = gates;
    latches = latches;
    fed = fed;
    inputs = inputs;
    casts = casts;
    lifts = lifts;
    chains = chains;
    programs = programs;
    joined = joined;
  }

  -- ---- each input is joined once

  chains_once : (i j : ℕ) (c e : Carry) → slice_get whole.chains i ≡ Some c → slice_get whole.chains j ≡ Some e
      → c.to ≡ e.to → i ≡ j
  chains_once i j c e h k q =
      let w = get_map carry_of p.slices.chains i c h in
      let u = get_map carry_of p.slices.chains j e k in
      let same : (chain_to u.0).0 ≡ (chain_to w.0).0 =
      sym (to_same u.0) ∙ ap (λ (c : Carry). c.to) u.2 ∙ sym q ∙ sym (ap (λ (c : Carry). c.to) w.2) ∙ to_same w.0 in
      let all = slice_counts p (chain_to w.0).0 (ap is_input (chain_input p i w.0 w.1)) in
      once chain_to p.slices.chains i j w.0 u.0 (chain_to w.0).0 (omega (arith, all)) w.1 u.1 refl same

  programs_once : (i j : ℕ) (g k : Programmed) → slice_get whole.programs i ≡ Some g
      → slice_get whole.programs j ≡ Some k → g.net ≡ k.net → i ≡ j
  programs_once i j g k h m q =
      let w = get_map (programmed_of p.width) p.slices.programs i g h in
      let u = get_map (programmed_of p.width) p.slices.programs j k m in
      let same : (u.0).net.0 ≡ (w.0).net.0 =
      ap (λ (g : Programmed). g.net) u.2 ∙ sym q ∙ sym (ap (λ (g : Programmed). g.net) w.2) in
      let all = slice_counts p (w.0).net.0 (ap is_input (program_input p i w.0 w.1)) in
      once (λ (g : programmed.Programmed). g.net) p.slices.programs i j w.0 u.0 (w.0).net.0 (omega (arith, all)) w.1
      u.1 refl same

  ends_apart : (i j : ℕ) (c : Carry) (g : Programmed) → slice_get whole.chains i ≡ Some c
      → slice_get whole.programs j ≡ Some g → c.to ≢ g.net
  ends_apart i j c g h m q =
      let w = get_map carry_of p.slices.chains i c h in
      let u = get_map (programmed_of p.width) p.slices.programs j g m in
      let same : (u.0).net.0 ≡ (chain_to w.0).0 =
      ap (λ (g : Programmed). g.net) u.2 ∙ sym q ∙ sym (ap (λ (c : Carry). c.to) w.2) ∙ to_same w.0 in
      let n = (chain_to w.0).0 in
      let all = slice_counts p n (ap is_input (chain_input p i w.0 w.1)) in
      let a = counted chain_to p.slices.chains i w.0 n w.1 refl in
      let b = counted (λ (g : programmed.Programmed). g.net) p.slices.programs j u.0 n u.1 same in
      absurd (omega (arith, all, a, b))

  joined_once : AreJoinedOnce whole
  joined_once = record { chains = chains_once; programs = programs_once; apart = ends_apart }

  -- ---- pads are joined to nothing

  word_counted : (n : ℕ) → Contains whole.words n → 0 < times n (words p)
  word_counted n c = by_words (words p) c
    where
      by_words : (ids : List NetId) → Contains (numbers_of ids) n → 0 < times n ids
      by_words ids c =
          let w = member_map (λ (id : NetId). id.0) ids n
          (contains_member (numbers_of ids) n c) in
          there n ids w.0
          (member_contains ids w.0 w.1) w.2

  chain_no_word : (i : ℕ) (c : Carry) → slice_get whole.chains i ≡ Some c → Contains whole.words c.to → ⊥
  chain_no_word i c h k =
      let w = get_map carry_of p.slices.chains i c h in
      let n = (chain_to w.0).0 in
      let same : c.to ≡ n = sym (ap (λ (c : Carry). c.to) w.2) ∙ to_same w.0 in
      let all = slice_counts p n (ap is_input (chain_input p i w.0 w.1)) in
      let a = counted chain_to p.slices.chains i w.0 n w.1 refl in
      let b = word_counted n (subst (Contains whole.words) same k) in
      omega (arith, all, a, b)

  program_no_word : (i : ℕ) (g : Programmed) → slice_get whole.programs i ≡ Some g → Contains whole.words g.net → ⊥
  program_no_word i g h k =
      let w = get_map (programmed_of p.width) p.slices.programs i g h in
      let n = (w.0).net.0 in
      let same : g.net ≡ n = sym (ap (λ (g : Programmed). g.net) w.2) in
      let all = slice_counts p n (ap is_input (program_input p i w.0 w.1)) in
      let a = counted (λ (g : programmed.Programmed). g.net) p.slices.programs i w.0 n w.1 refl in
      let b = word_counted n (subst (Contains whole.words) same k) in
      omega (arith, all, a, b)

  ends_differ : (i : ℕ) (c : Carry) → slice_get whole.chains i ≡ Some c → c.to ≢ c.start
  ends_differ i c h q =
      let w = get_map carry_of p.slices.chains i c h in
      let d = All-contains (λ c. (chain_from c).0 ≢ (chain_to c).0) p.slices.chains w.0 p.whole.ends_differ
      (contains_from_get p.slices.chains i w.0 w.1) in
      d (sym (start_same w.0) ∙ ap (λ (c : Carry). c.start) w.2 ∙ sym q ∙ sym (ap (λ (c : Carry). c.to) w.2)
      ∙ to_same w.0)

  pub placeable : IsPlaceable whole
  placeable = record {
    path = is_path;
    once = joined_once;
    apart = record { chains = chain_no_word; programs = program_no_word; ends = ends_differ };
  }

pub paths_are_placeable : PathsArePlaceable
paths_are_placeable p control slices = placeable p control slices
