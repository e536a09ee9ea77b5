-- Latches that are added or get their data.
use Rattle.std.proofs.Common.{◌≡◌, ℕ, zero, suc, ◌<◌, ◌≤◌, ◌+◌, ◌⊎◌, inl, inr, List, [], ◌∷◌, Some, None, true, cond}
use Rattle.std.proofs.Common.{get_or, length, refl, sym, ◌∙◌, ap, subst, arith}
use Rattle.std.specs.Prelude.{All, slice_get, slice_set}
use Rattle.std.specs.List.{sum_by}
use Rattle.std.proofs.lemmas.Bool.{false≢true, cases_eq}
use Rattle.std.proofs.lemmas.Option.{get_or_from_slice_get, none-some, same_Some, slice_get_within}
use Rattle.std.proofs.lemmas.List.Elements.{All-cons, All-nil}
use Rattle.std.proofs.lemmas.List.Sums.{sum_by-set}
use Rattle.mp_base.proofs.Entries.{get_set_same, get_set_other, get_front}
use Rattle.std.proofs.lemmas.List.{append-nil, length-set}
use Rattle.nor_net.specs.declared.net.NetId.{NetId}
use Rattle.nor_net.specs.declared.net.Phase.{Phase}
use Rattle.nor_net.specs.declared.net.Phase.TheVariants.{A, B}
use Rattle.nor_net.specs.declared.net.Part.{Part}
use Rattle.nor_net.specs.declared.net.Part.TheVariants.{Input, Gate, Latch}
use Rattle.nor_net.specs.Shape as net_shape
use Rattle.nor_net.specs.Shape.{fan_in, gate_inputs}
use Rattle.organelles.specs.declared.slices.Chain.{Chain}
use Rattle.organelles.specs.declared.slices.Programmed.{Programmed}
use Rattle.organelles.specs.Computing.{ChainIn}
use Rattle.path_form.specs.declared.path.Lift.{Lift}
use Rattle.path_form.specs.Shape.{chain_to, is_fed, is_input}
use Rattle.path_form.specs.Sizes.{active}
use Rattle.datapath_making.specs.declared.making.Guard.{Guard}
use Rattle.datapath_making.specs.declared.making.Making.{Making}
use Rattle.datapath_making.specs.Additions.{Adds, Fits}
use Rattle.datapath_steps.specs.Continuing.{IsLatchMade, IsSlaveFed}
use Rattle.datapath_making.specs.WellMade.{AreJoined, IsGuardMade, IsLatched, IsWellMade, present}
use Rattle.datapath_making.proofs.Added.{appends_by, bounded_by, bounded_within, grows_by, named_on}
use Rattle.datapath_making.proofs.Entering.{length_added}
use Rattle.datapath_making.proofs.Keeping.{nothing_more, nothing_on}
use Rattle.datapath_making.proofs.Lists.{get_by}
use Rattle.datapath_making.proofs.Stepping.{fits_parts, parts_only, well_latched}

-- ---- a latch on a gate is added

module _ (source : NetId) (inputs : List NetId) (old : Making) (net : List Part) (id : NetId)
    (h : net_shape.IsAdded old.slices.net (Latch A (Some source)) net id)
    (gate : slice_get old.slices.net source.0 ≡ Some (Gate inputs)) (well : IsWellMade old) where
  abbrev latch_after : Making
  latch_after = record old { slices = record old.slices { net = net } }

  abbrev latch_parts : List Part
  latch_parts = Latch A (Some source) ∷ []

  latch_adds : Adds (parts_only latch_parts) old latch_after
  latch_adds = record {
    width = refl;
    control = refl;
    names = refl;
    reset = refl;
    marks = refl;
    net = h.parts;
    chains = sym (append-nil old.slices.chains);
    programs = sym (append-nil old.slices.programs);
    casts = sym (append-nil old.casts);
    lifts = sym (append-nil old.lifts);
    cell_count = refl;
    word_count = refl;
    pad_count = refl;
    guard_count = refl;
  }

  latch_fits : Fits (parts_only latch_parts) [] old
  latch_fits = fits_parts latch_parts old well refl

  still_gate : slice_get net source.0 ≡ Some (Gate inputs)
  still_gate = ap (λ ps. slice_get ps source.0) h.parts
      ∙ (get_front old.slices.net latch_parts source.0 (slice_get_within old.slices.net source.0 (Gate inputs) gate)
      ∙ gate)

  latch_latched : (i : ℕ) (phase : Phase) (other : NetId)
      → slice_get latch_parts i ≡ Some (Latch phase (Some other)) → IsLatched net (present old.pads) other
  latch_latched zero phase other e =
      let same : source ≡ other = cc in
      subst (IsLatched net (present old.pads)) same (record {
        within = slice_get_within net source.0 (Gate inputs) still_gate;
        pad = λ q. absurd (let x : Some (Gate inputs) ≡ Some Input = sym still_gate ∙ q in cc);
      })
  latch_latched (suc i) phase other e = absurd (none-some (Latch phase (Some other)) e)

  pub latch_made : IsLatchMade source old latch_after id
  latch_made = record {
    continues = record {
      made = well_latched (parts_only latch_parts) old latch_after latch_adds latch_fits well refl latch_latched refl
          refl (named_on (parts_only latch_parts) old latch_after latch_adds old.cell_words old.words well.named);
      grows = grows_by (parts_only latch_parts) old latch_after latch_adds [] latch_fits;
      bounded = bounded_within 1 (gate_inputs latch_parts) (sum_by active latch_parts + (0 + 0) + (0 + 0)) (0 + 0)
          1 0 1 0 old latch_after (bounded_by (parts_only latch_parts) old latch_after latch_adds)
          (omega arith) (omega arith) (omega arith) (omega arith);
      appends = appends_by (parts_only latch_parts) old latch_after latch_adds
          (All-cons (λ q. is_fed q ≡ true) (Latch A (Some source)) [] refl (All-nil (λ q. is_fed q ≡ true)));
      marks = refl;
      cells = refl;
      words = refl;
      pads = refl;
      lifts = refl;
    };
    clear = refl;
    number = h.number;
    count = let e = length_added (parts_only latch_parts) old latch_after latch_adds in omega (arith, e);
    is_latch = ap (λ ps. slice_get ps id.0) h.parts
        ∙ get_by old.slices.net latch_parts id.0 0 (let n = h.number in omega (arith, n));
  }

-- ---- a slave gets its data

module _ (latch source : NetId) (inputs : List NetId) (old : Making) (net : List Part)
    (is_net : net ≡ slice_set old.slices.net latch.0 (Latch B (Some source)))
    (waits : slice_get old.slices.net latch.0 ≡ Some (Latch B None))
    (gate : slice_get old.slices.net source.0 ≡ Some (Gate inputs)) (well : IsWellMade old) where
  abbrev fed_after : Making
  fed_after = record old { slices = record old.slices { net = net } }

  count : length net ≡ length old.slices.net
  count = ap length is_net ∙ length-set old.slices.net latch.0 (Latch B (Some source))

  pub fed_other : (n : ℕ) → (n ≡ latch.0 → ⊥) → slice_get net n ≡ slice_get old.slices.net n
  fed_other n ne = ap (λ ps. slice_get ps n) is_net
      ∙ get_set_other old.slices.net latch.0 (Latch B (Some source)) n ne

  pub fed_here : slice_get net latch.0 ≡ Some (Latch B (Some source))
  fed_here = ap (λ ps. slice_get ps latch.0) is_net
      ∙ get_set_same old.slices.net latch.0 (Latch B (Some source))
      (slice_get_within old.slices.net latch.0 (Latch B None) waits)

  same_input : (n : ℕ) → is_input (slice_get net n) ≡ is_input (slice_get old.slices.net n)
  same_input n = by_place (cases_eq n latch.0)
    where
      by_place : (n ≡ latch.0) ⊎ (n ≡ latch.0 → ⊥)
          → is_input (slice_get net n) ≡ is_input (slice_get old.slices.net n)
      by_place (inl e) =
          ap (λ m. is_input (slice_get net m)) e ∙ (ap is_input fed_here
          ∙ (sym (ap is_input waits) ∙ ap (λ m. is_input (slice_get old.slices.net m)) (sym e)))
      by_place (inr ne) = ap is_input (fed_other n ne)

  -- what is no latch without data stays
  stays : (n : ℕ) (q : Part) → slice_get old.slices.net n ≡ Some q → is_fed q ≡ true → slice_get net n ≡ Some q
  stays n q e f = by_place (cases_eq n latch.0)
    where
      by_place : (n ≡ latch.0) ⊎ (n ≡ latch.0 → ⊥) → slice_get net n ≡ Some q
      by_place (inl x) =
          let same = same_Some (Latch B None) q (sym waits ∙ (ap (slice_get old.slices.net) (sym x) ∙ e)) in
          absurd (false≢true (ap is_fed same ∙ f))
      by_place (inr ne) = fed_other n ne ∙ e

  fed_latched : (n : ℕ) (phase : Phase) (other : NetId) → slice_get net n ≡ Some (Latch phase (Some other))
      → (n ≡ latch.0) ⊎ (n ≡ latch.0 → ⊥) → IsLatched net (present old.pads) other
  fed_latched n phase other e (inl x) =
      let both : Latch B (Some source) ≡ Latch phase (Some other) =
      same_Some (Latch B (Some source)) (Latch phase (Some other))
      (sym fed_here ∙ (ap (slice_get net) (sym x) ∙ e)) in
      let same : source ≡ other = cc in
      let here = stays source.0 (Gate inputs) gate refl in
      subst (IsLatched net (present old.pads)) same (record {
        within = slice_get_within net source.0 (Gate inputs) here;
        pad = λ q. absurd (let z : Some (Gate inputs) ≡ Some Input = sym here ∙ q in cc);
      })
  fed_latched n phase other e (inr ne) =
      let l = well.entered.latches n phase other (sym (fed_other n ne) ∙ e) in
      record {
        within = let w = l.within in omega (arith, w, count);
        pad = λ q. l.pad (was_input other.0 q);
      }
    where
      was_input : (m : ℕ) → slice_get net m ≡ Some Input → slice_get old.slices.net m ≡ Some Input
      was_input m q = by_place (cases_eq m latch.0)
        where
          by_place : (m ≡ latch.0) ⊎ (m ≡ latch.0 → ⊥) → slice_get old.slices.net m ≡ Some Input
          by_place (inl x) =
              absurd (let z : Some (Latch B (Some source)) ≡ Some Input =
              sym fed_here ∙ (ap (slice_get net) (sym x) ∙ q) in cc)
          by_place (inr apart) = sym (fed_other m apart) ∙ q

  fed_joined : AreJoined old.width (length old.control) fed_after.slices old.casts old.lifts
  fed_joined = record {
    chains_in = subst (λ n. All (ChainIn n) old.slices.chains) (sym count) well.joined.chains_in;
    ends_differ = well.joined.ends_differ;
    casts_in = well.joined.casts_in;
    lifts_in = subst (λ n. All (λ (l : Lift). (l.slice < old.width) × (l.from.0 < n)) old.lifts) (sym count)
        well.joined.lifts_in;
    lifts_apart = well.joined.lifts_apart;
  }

  fed_guard : (e : ℕ) (g : Guard) → IsGuardMade old.slices.net old.casts old.names e g
      → IsGuardMade net old.casts old.names e g
  fed_guard e g h = record { is_cast = h.is_cast; is_off = stays g.off.0 (Gate (g.cast ∷ [])) h.is_off refl }

  fed_well : IsWellMade fed_after
  fed_well = record {
    entered = record {
      once = λ n. well.entered.once n ∙ ap (λ b. cond b 1 0) (sym (same_input n));
      latches = λ n phase other e. fed_latched n phase other e (cases_eq n latch.0);
    };
    joined = fed_joined;
    named = record {
      words_in = λ e id s. let l = well.named.words_in e id s in omega (arith, l, count);
      cells_in = λ c id s. let l = well.named.cells_in c id s in omega (arith, l, count);
      cells_made = λ c id s. same_input id.0 ∙ well.named.cells_made c id s;
      cells_apart = well.named.cells_apart;
    };
    cast = record {
      count = well.cast.count;
      guards = λ e g s. fed_guard e g (well.cast.guards e g s);
      clear = well.cast.clear;
    };
    marks = record {
      rise = well.marks.rise;
      slices_in = let l = well.marks.slices_in in omega (arith, l, count);
      control_in = well.marks.control_in;
      ups = well.marks.ups;
      downs = well.marks.downs;
      casts = well.marks.casts;
      lifts = well.marks.lifts;
    };
  }

  abbrev part_now : Part
  part_now = Latch B (Some source)

  inside : latch.0 < length old.slices.net
  inside = slice_get_within old.slices.net latch.0 (Latch B None) waits

  was : get_or old.slices.net latch.0 Input ≡ Latch B None
  was = get_or_from_slice_get old.slices.net latch.0 (Latch B None) Input waits

  same_sum : (f : Part → ℕ) → f part_now ≡ f (Latch B None) → sum_by f net ≡ sum_by f old.slices.net
  same_sum f e =
      let s = sum_by-set f old.slices.net latch.0 part_now Input inside in
      let w = ap f was in
      let n = ap (sum_by f) is_net in
      omega (arith, s, w, n, e)

  pub slave_fed : IsSlaveFed latch source old fed_after
  slave_fed = record {
    made = fed_well;
    grows = record {
      width = refl;
      control = refl;
      names = refl;
      reset = refl;
      longer = omega (arith, count);
      parts = stays;
      chains = nothing_more (λ (k : Chain). length old.slices.net ≤ (chain_to k).0) old.slices.chains;
      programs = nothing_more (λ (p : Programmed). length old.slices.net ≤ p.net.0) old.slices.programs;
      casts = nothing_on old.casts;
      lifts = nothing_on old.lifts;
      cell_count = refl;
      word_count = refl;
      pad_count = refl;
      guard_count = refl;
    };
    bounded = record {
      nets = omega (arith, count);
      inputs = let e : gate_inputs net ≡ gate_inputs old.slices.net = same_sum fan_in refl in omega (arith, e);
      columns = let e = same_sum active refl in omega (arith, e);
      crossings = omega arith;
    };
    net = is_net;
    marks = refl;
    cells = refl;
    words = refl;
    pads = refl;
    lifts = refl;
    clear = refl;
  }
