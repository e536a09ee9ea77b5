-- A word that stands already, and a net that is lifted.
use Rattle.std.proofs.Common.{◌≡◌, ℕ, suc, ◌<◌, ◌≤◌, ◌+◌, inl, inr, List, [], ◌∷◌, ◌++◌, Some, length, refl}
use Rattle.std.proofs.Common.{sym, ap, arith}
use Rattle.std.proofs.lemmas.Option.{none-some}
use Rattle.std.proofs.lemmas.List.Elements.{All-nil}
use Rattle.std.proofs.lemmas.List.{append-nil, length-set}
use Rattle.nor_net.specs.declared.net.NetId.{NetId}
use Rattle.nor_net.specs.declared.net.Part.TheVariants.{Latch}
use Rattle.organelles.specs.declared.slices.Programmed.{Programmed}
use Rattle.control_nor.specs.Lowering.{Stands}
use Rattle.path_form.specs.declared.path.Lift.{Lift}
use Rattle.datapath_making.specs.declared.making.Making.{Making}
use Rattle.datapath_making.specs.Additions.{Addition, Adds, CastFits, ChainFits, Fits}
use Rattle.datapath_making.specs.Steps.{IsStep, IsWaited}
use Rattle.datapath_making.specs.WellMade.{IsWellMade}
use Rattle.datapath_making.proofs.Added.{named_on}
use Rattle.datapath_making.proofs.Keeping.{grows_refl}
use Rattle.datapath_making.proofs.Lists.{set_cases}
use Rattle.datapath_making.proofs.Stepping.{step_by, well_plain}
use Rattle.datapath_steps.proofs.Words.{lift_fits, lifts_apart_on}
use Rattle.datapath_sharing.specs.Sharing.{IsLiftMade, with_word}

-- ---- a word that stands already

module _ (e : ℕ) (id : NetId) (old : Making) (well : IsWellMade old) (within : id.0 < length old.slices.net) where
  shared_well : IsWellMade (with_word e id old)
  shared_well = record {
    entered = well.entered;
    joined = well.joined;
    named = record {
      words_in = λ d o s.
          elim (set_cases old.words e id d o s) [
            | inl now ↦ (let q = ap (λ (i : NetId). i.0) now.1 in omega (arith, q, within))
            | inr before ↦ well.named.words_in d o before.1
          ];
      cells_in = well.named.cells_in;
      cells_made = well.named.cells_made;
      cells_apart = well.named.cells_apart;
    };
    cast = record { count = well.cast.count; guards = well.cast.guards; clear = well.cast.clear };
    marks = record {
      rise = well.marks.rise;
      slices_in = well.marks.slices_in;
      control_in = well.marks.control_in;
      ups = well.marks.ups;
      downs = well.marks.downs;
      casts = well.marks.casts;
      lifts = well.marks.lifts;
    };
  }

  pub shared_step : IsStep 0 0 old (with_word e id old)
  shared_step = record {
    grows = record {
      width = refl;
      control = refl;
      names = refl;
      reset = refl;
      longer = omega arith;
      parts = (grows_refl old).parts;
      chains = (grows_refl old).chains;
      programs = (grows_refl old).programs;
      casts = (grows_refl old).casts;
      lifts = (grows_refl old).lifts;
      cell_count = refl;
      word_count = length-set old.words e (Some id);
      pad_count = refl;
      guard_count = refl;
    };
    spends = record {
      nets = omega arith;
      inputs = omega arith;
      columns = omega arith;
      crossings = omega arith;
    };
    marks = refl;
    made = shared_well;
  }

-- ---- a net that is lifted

module _ (e : ℕ) (old : Making) (lift : Lift) (lifts : List Lift) (is_lifts : lifts ≡ old.lifts ++ lift ∷ [])
    (entry : IsWaited old e) (is_entry : Stands old.names.exprs e lift.control)
    (within : lift.from.0 < length old.slices.net) (low : lift.slice < old.width) (well : IsWellMade old) where
  abbrev lift_after : Making
  lift_after = record old { lifts = lifts }

  abbrev lift_addition : Addition
  lift_addition = record { parts = []; chains = []; programs = []; casts = []; lifts = lift ∷ [] }

  lift_adds : Adds lift_addition old lift_after
  lift_adds = record {
    width = refl;
    control = refl;
    names = refl;
    reset = refl;
    marks = refl;
    net = sym (append-nil old.slices.net);
    chains = sym (append-nil old.slices.chains);
    programs = sym (append-nil old.slices.programs);
    casts = sym (append-nil old.casts);
    lifts = is_lifts;
    cell_count = refl;
    word_count = refl;
    pad_count = refl;
    guard_count = refl;
  }

  one_fits : Fits lift_addition [] old
  one_fits = record {
    chains = All-nil (ChainFits old (length old.slices.net + 0));
    programs = All-nil (λ (p : Programmed). length old.slices.net ≤ p.net.0);
    casts = All-nil (CastFits old);
    lifts = lift_fits old e lift entry is_entry (length old.slices.net + 0) (omega (arith, within)) low;
    lifts_apart = lifts_apart_on old e lift entry is_entry well.joined.lifts_apart;
    entered = λ n. refl;
  }

  pub lift_step : IsStep 1 1 old lift_after
  lift_step =
      step_by lift_addition [] old lift_after lift_adds one_fits well 1 1
      (well_plain lift_addition old lift_after lift_adds one_fits well refl
      (λ i phase source q. none-some (Latch phase (Some source)) q) refl refl
      (named_on lift_addition old lift_after lift_adds old.cell_words old.words well.named))
      (omega arith) (omega arith) (omega arith) (omega arith)

  pub lift_made : (from : NetId) → lift.from ≡ from → suc lift.slice ≡ old.width → IsLiftMade e from old lift_after
  lift_made from is_from top = record {
    lift = lift;
    is_entry = is_entry;
    is_top = top;
    is_from = is_from;
    lifts = is_lifts;
    words = refl;
    cells = refl;
    pads = refl;
    slices = refl;
  }
