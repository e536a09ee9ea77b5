-- Words that latches have.
use Rattle.std.proofs.Common.{◌≡◌, ℕ, zero, suc, ◌<◌, ◌≤◌, ◌+◌, ◌⊎◌, inl, inr, List, [], ◌∷◌, ◌++◌, Option, Some, None}
use Rattle.std.proofs.Common.{true, length, refl, sym, ◌∙◌, ap, subst, arith}
use Rattle.std.specs.Prelude.{slice_get, slice_set}
use Rattle.std.proofs.lemmas.Option.{none-some}
use Rattle.std.proofs.lemmas.List.Elements.{All-nil, All-cons}
use Rattle.std.proofs.lemmas.List.{append-nil, length-set}
use Rattle.nor_net.specs.declared.net.NetId.{NetId}
use Rattle.nor_net.specs.declared.net.Phase.{Phase}
use Rattle.nor_net.specs.declared.net.Phase.TheVariants.{B, C}
use Rattle.nor_net.specs.declared.net.Part.{Part}
use Rattle.nor_net.specs.declared.net.Part.TheVariants.{Input, Gate, Latch}
use Rattle.organelles.specs.declared.slices.Programmed.{Programmed}
use Rattle.path_form.specs.Shape.{is_fed, is_input, times}
use Rattle.datapath_making.specs.declared.making.Making.{Making}
use Rattle.datapath_making.specs.Additions.{Adds, CastFits, ChainFits, Fits, LiftFits}
use Rattle.datapath_making.specs.Growing.{IsUnfed}
use Rattle.datapath_making.specs.Steps.{IsFree, IsPortAdded, IsPortMade, IsSlaveAdded, IsSlaveMade, IsStep}
use Rattle.datapath_making.specs.WellMade.{AreNamed, IsLatched, IsWellMade, present}
use Rattle.datapath_making.proofs.Added.{cast_on, cell_named}
use Rattle.datapath_making.proofs.Entering.{length_added}
use Rattle.datapath_making.proofs.Lists.{get_by, get_cases, one_here, times_set}
use Rattle.datapath_making.proofs.Stepping.{entered_by, fits_parts, net_is, NoneLatched, parts_only, same_lifts_apart}
use Rattle.datapath_making.proofs.Stepping.{step_by, well_by, well_plain}

-- the element at a place behind what stood, of two
two_first : (old new : List Part) (p q : Part) (n : ℕ) → new ≡ old ++ p ∷ q ∷ [] → n ≡ length old
    → slice_get new n ≡ Some p
two_first old new p q n e at =
    ap (λ ps. slice_get ps n) e ∙ get_by old (p ∷ q ∷ []) n 0 (omega (arith, at))

two_second : (old new : List Part) (p q : Part) (n : ℕ) → new ≡ old ++ p ∷ q ∷ [] → n ≡ suc (length old)
    → slice_get new n ≡ Some q
two_second old new p q n e at =
    ap (λ ps. slice_get ps n) e ∙ get_by old (p ∷ q ∷ []) n 1 (omega (arith, at))

-- ---- the word of an input cell

module _ (c k : ℕ) (old : Making) (net : List Part) (pad latch : NetId) (h : IsPortAdded old.slices.net net pad latch)
    (cells pads : List (Option NetId)) (is_cells : cells ≡ slice_set old.cell_words c (Some latch))
    (is_pads : pads ≡ slice_set old.pads k (Some pad))
    (well : IsWellMade old) (free : IsFree old.cell_words c) (free_pad : IsFree old.pads k) where
  abbrev port_after : Making
  port_after = record old {
    slices = record old.slices { net = net };
    cell_words = cells;
    pads = pads;
  }

  abbrev port_parts : List Part
  port_parts = Input ∷ Latch C (Some pad) ∷ []

  port_adds : Adds (parts_only port_parts) old port_after
  port_adds = record {
    width = refl;
    control = refl;
    names = refl;
    reset = refl;
    marks = refl;
    net = h.parts;
    chains = sym (append-nil old.slices.chains);
    programs = sym (append-nil old.slices.programs);
    casts = sym (append-nil old.casts);
    lifts = sym (append-nil old.lifts);
    cell_count = ap length is_cells ∙ length-set old.cell_words c (Some latch);
    word_count = refl;
    pad_count = ap length is_pads ∙ length-set old.pads k (Some pad);
    guard_count = refl;
  }

  port_fits : Fits (parts_only port_parts) (pad ∷ []) old
  port_fits = record {
    chains = All-nil (ChainFits old (length old.slices.net + 2));
    programs = All-nil (λ (p : Programmed). length old.slices.net ≤ p.net.0);
    casts = All-nil (CastFits old);
    lifts = All-nil (LiftFits old (length old.slices.net + 2));
    lifts_apart = same_lifts_apart old well.joined.lifts_apart;
    entered = λ n. ap (λ (id : NetId). times n (id ∷ [])) (net_is pad (length old.slices.net) h.at_pad);
  }

  pad_times : (n : ℕ) → times n (present port_after.pads) ≡ times n (pad ∷ []) + times n (present old.pads)
  pad_times n =
      let i = ap (λ (ps : List (Option NetId)). times n (present ps)) is_pads in
      let e = times_set n old.pads k pad free_pad in omega (arith, i, e)

  port_latched : (i : ℕ) (phase : Phase) (source : NetId) → slice_get port_parts i ≡ Some (Latch phase (Some source))
      → IsLatched net (present port_after.pads) source
  port_latched zero phase source e = absurd cc
  port_latched (suc zero) phase source e =
      let same : pad ≡ source = cc in
      let n = length_added (parts_only port_parts) old port_after port_adds in
      subst (IsLatched net (present port_after.pads)) same (record {
        within = let a = h.at_pad in omega (arith, n, a);
        pad = λ q. let t = pad_times pad.0 in let o = one_here pad.0 pad refl in omega (arith, t, o);
      })
  port_latched (suc (suc i)) phase source e = absurd (none-some (Latch phase (Some source)) e)

  port_well : IsWellMade port_after
  port_well =
      well_by (parts_only port_parts) (pad ∷ []) old port_after port_adds port_fits well
      (entered_by (parts_only port_parts) (pad ∷ []) old port_after port_adds port_fits well pad_times port_latched)
      (subst (λ (cs : List (Option NetId)). AreNamed net cs old.words) (sym is_cells)
      (cell_named (parts_only port_parts) old port_after port_adds old.cell_words old.words well.named c latch
      (let a = h.at_latch in omega (arith, a))
      (let a = h.at_latch in let n = length_added (parts_only port_parts) old port_after port_adds in
      omega (arith, a, n))
      (ap is_input (two_second old.slices.net net Input (Latch C (Some pad)) latch.0 h.parts h.at_latch))))
      (cast_on (parts_only port_parts) old port_after port_adds well.cast refl refl)

  pub port_step : IsStep 2 0 old port_after
  port_step =
      step_by (parts_only port_parts) (pad ∷ []) old port_after port_adds port_fits well 2 0 port_well
      (omega arith) (omega arith) (omega arith) (omega arith)

  pub port_made : IsPortMade c k old port_after
  port_made = record {
    id = latch;
    pad = pad;
    is_port = (
      two_second old.slices.net net Input (Latch C (Some pad)) latch.0 h.parts h.at_latch,
      two_first old.slices.net net Input (Latch C (Some pad)) pad.0 h.parts h.at_pad,
    );
    cells = is_cells;
    pads = is_pads;
    words = refl;
    lifts = refl;
    appends = (
      port_parts,
      h.parts,
      All-cons (λ q. is_fed q ≡ true) Input (Latch C (Some pad) ∷ []) refl
          (All-cons (λ q. is_fed q ≡ true) (Latch C (Some pad)) [] refl (All-nil (λ q. is_fed q ≡ true))),
    );
  }

-- ---- the word of a stored cell

module _ (c : ℕ) (old : Making) (net : List Part) (word : NetId) (h : IsSlaveAdded old.slices.net net word)
    (cells : List (Option NetId)) (is_cells : cells ≡ slice_set old.cell_words c (Some word))
    (well : IsWellMade old) (free : IsFree old.cell_words c) where
  abbrev slave_after : Making
  slave_after = record old {
    slices = record old.slices { net = net };
    cell_words = cells;
  }

  abbrev slave_parts : List Part
  slave_parts = Latch B None ∷ Gate (h.slave ∷ []) ∷ []

  slave_adds : Adds (parts_only slave_parts) old slave_after
  slave_adds = record {
    width = refl;
    control = refl;
    names = refl;
    reset = refl;
    marks = refl;
    net = h.parts;
    chains = sym (append-nil old.slices.chains);
    programs = sym (append-nil old.slices.programs);
    casts = sym (append-nil old.casts);
    lifts = sym (append-nil old.lifts);
    cell_count = ap length is_cells ∙ length-set old.cell_words c (Some word);
    word_count = refl;
    pad_count = refl;
    guard_count = refl;
  }

  none_latched : NoneLatched slave_parts
  none_latched zero phase source e = cc
  none_latched (suc zero) phase source e = cc
  none_latched (suc (suc i)) phase source e = none-some (Latch phase (Some source)) e

  slave_fits : Fits (parts_only slave_parts) [] old
  slave_fits = fits_parts slave_parts old well refl

  slave_well : IsWellMade slave_after
  slave_well =
      well_plain (parts_only slave_parts) old slave_after slave_adds slave_fits well refl none_latched refl refl
      (subst (λ (cs : List (Option NetId)). AreNamed net cs old.words) (sym is_cells)
      (cell_named (parts_only slave_parts) old slave_after slave_adds old.cell_words old.words well.named c word
      (let a = h.at_word in omega (arith, a))
      (let a = h.at_word in let n = length_added (parts_only slave_parts) old slave_after slave_adds in
      omega (arith, a, n))
      (ap is_input (two_second old.slices.net net (Latch B None) (Gate (h.slave ∷ [])) word.0 h.parts h.at_word))))

  pub slave_step : IsStep 2 0 old slave_after
  slave_step =
      step_by (parts_only slave_parts) [] old slave_after slave_adds slave_fits well 2 0 slave_well
      (omega arith) (omega arith) (omega arith) (omega arith)

  unfed_only : (n : ℕ) → length old.slices.net ≤ n → IsUnfed net n → word.0 ≡ suc n
  unfed_only n l u = by_case (get_cases old.slices.net slave_parts n (Latch u.0 None)
      (sym (ap (λ ps. slice_get ps n) h.parts) ∙ u.1))
    where
      by_place : (i : ℕ) → n ≡ length old.slices.net + i → slice_get slave_parts i ≡ Some (Latch u.0 None)
          → word.0 ≡ suc n
      by_place zero at e = let a = h.at_word in omega (arith, a, at)
      by_place (suc zero) at e = absurd cc
      by_place (suc (suc i)) at e = absurd (none-some (Latch u.0 None) e)

      by_case : ((n < length old.slices.net) × (slice_get old.slices.net n ≡ Some (Latch u.0 None)))
          ⊎ ((i : ℕ) × (n ≡ length old.slices.net + i) × (slice_get slave_parts i ≡ Some (Latch u.0 None)))
          → word.0 ≡ suc n
      by_case (inl x) = absurd (let k = x.0 in omega (arith, k, l))
      by_case (inr x) = by_place x.0 x.1 x.2

  pub slave_made : IsSlaveMade c old slave_after
  slave_made = record {
    id = word;
    waiting = record {
      slave = h.slave;
      behind = let a = h.at_word in let b = h.at_slave in omega (arith, a, b);
      is_slave = two_first old.slices.net net (Latch B None) (Gate (h.slave ∷ [])) h.slave.0 h.parts h.at_slave;
      is_word = two_second old.slices.net net (Latch B None) (Gate (h.slave ∷ [])) word.0 h.parts h.at_word;
    };
    cells = is_cells;
    pads = refl;
    words = refl;
    lifts = refl;
    parts = (slave_parts, h.parts);
    unfed = unfed_only;
  }
