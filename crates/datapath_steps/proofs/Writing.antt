-- Words that transfers drive.
use Rattle.std.proofs.Common.{◌≡◌, ℕ, ◌<◌, ◌≤◌, ◌+◌, ◌*◌, List, [], ◌∷◌, Option, Some, false, length, refl, sym, ◌∙◌}
use Rattle.std.proofs.Common.{ap, subst, arith}
use Rattle.std.specs.Prelude.{slice_get, slice_set}
use Rattle.std.proofs.lemmas.Slice.Zip.{AllZip-long}
use Rattle.std.proofs.lemmas.List.{length-set}
use Rattle.nor_net.specs.declared.net.NetId.{NetId}
use Rattle.organelles.specs.declared.slices.Chain.{Chain}
use Rattle.organelles.specs.declared.slices.Programmed.{Programmed}
use Rattle.rtl_form.specs.declared.rtl.Transfer.{Transfer}
use Rattle.rtl_form.specs.declared.rtl.Rtl.{Rtl}
use Rattle.control_nor.specs.Lowering.{Stands}
use Rattle.path_form.specs.Shape.{chain_to, is_input}
use Rattle.path_values.specs.Allocated.{IsTerm, transfers_to}
use Rattle.datapath_making.specs.declared.making.Making.{Making}
use Rattle.datapath_steps.specs.declared.transfers.Terms.{Terms}
use Rattle.datapath_making.specs.Additions.{IsBounded}
use Rattle.datapath_steps.specs.Continuing.{AreTerms, Continues, IsGateMade}
use Rattle.datapath_making.specs.Growing.{Grows}
use Rattle.datapath_making.specs.Steps.{IsDrivenMade, IsStep}
use Rattle.datapath_making.specs.WellMade.{AreNamed, IsWellMade}
use Rattle.datapath_making.proofs.Added.{cell_set, spends_by}
use Rattle.datapath_steps.proofs.Continuing.{cont_on}
use Rattle.datapath_making.proofs.Keeping.{gate_lasts, grows_on, nothing_more, nothing_on, terms_last}

-- a net stands for a cell
module _ (m : Making) (c : ℕ) (id : NetId) (cells : List (Option NetId))
    (is_cells : cells ≡ slice_set m.cell_words c (Some id)) (well : IsWellMade m) (inside : id.0 < length m.slices.net)
    (made : is_input (slice_get m.slices.net id.0) ≡ false) (fresh : (d : ℕ) → Stands m.cell_words d id → ⊥) where
  abbrev celled : Making
  celled = record m { cell_words = cells }

  pub celled_well : IsWellMade celled
  celled_well = record {
    entered = well.entered;
    joined = well.joined;
    named = subst (λ (cs : List (Option NetId)). AreNamed m.slices.net cs m.words) (sym is_cells)
        (cell_set m.slices.net m.cell_words m.words well.named c id inside made fresh);
    cast = record { count = well.cast.count; guards = well.cast.guards; clear = well.cast.clear };
    marks = record {
      rise = well.marks.rise;
      slices_in = well.marks.slices_in;
      control_in = well.marks.control_in;
      ups = well.marks.ups;
      downs = well.marks.downs;
      casts = well.marks.casts;
      lifts = well.marks.lifts;
    };
  }

  pub celled_grows : Grows m celled
  celled_grows = record {
    width = refl;
    control = refl;
    names = refl;
    reset = refl;
    longer = omega arith;
    parts = λ n q e f. e;
    chains = nothing_more (λ (k : Chain). length m.slices.net ≤ (chain_to k).0) m.slices.chains;
    programs = nothing_more (λ (p : Programmed). length m.slices.net ≤ p.net.0) m.slices.programs;
    casts = nothing_on m.casts;
    lifts = nothing_on m.lifts;
    cell_count = ap length is_cells ∙ length-set m.cell_words c (Some id);
    word_count = refl;
    pad_count = refl;
    guard_count = refl;
  }

module _ (r : Rtl) (c : ℕ) (old first second third : Making) (terms : Terms) (off word : NetId)
    (are_terms : AreTerms (transfers_to r c) old first terms) (is_off : IsGateMade terms.nets first second off)
    (is_word : IsGateMade (off ∷ []) second third word) (cells : List (Option NetId))
    (is_cells : cells ≡ slice_set third.cell_words c (Some word)) where
  abbrev driven_after : Making
  driven_after = record third { cell_words = cells }

  abbrev ts : List Transfer
  ts = transfers_to r c

  abbrev k : ℕ
  k = length ts

  nets_count : length terms.nets ≡ k
  nets_count =
      AllZip-long (IsTerm first.slices first.casts old.names old.words) ts terms.nets are_terms.are_terms

  tail : Continues 2 (length terms.nets + 1) 2 0 first third
  tail = cont_on 1 (length terms.nets) 1 0 1 1 1 0 first second third is_off.continues is_word.continues

  whole : Continues (4 * k + 2) (4 * k + (length terms.nets + 1)) (4 * k + 2) (k + 0) old third
  whole = cont_on (4 * k) (4 * k) (4 * k) k 2 (length terms.nets + 1) 2 0 old first third are_terms.continues tail

  fresh : (d : ℕ) → Stands third.cell_words d word → ⊥
  fresh d s =
      let l = is_off.continues.made.named.cells_in d word
      (subst (λ (cs : List (Option NetId)). Stands cs d word) is_word.continues.cells s) in
      let n = is_word.number in omega (arith, l, n)

  inside : word.0 < length third.slices.net
  inside = let n = is_word.number in let t = is_word.count in omega (arith, n, t)

  no_input : is_input (slice_get third.slices.net word.0) ≡ false
  no_input = ap is_input is_word.is_gate

  bounded : IsBounded (4 * k + 2) (4 * k + (length terms.nets + 1)) (4 * k + 2) (k + 0) old driven_after
  bounded = record {
    nets = whole.bounded.nets;
    inputs = whole.bounded.inputs;
    columns = whole.bounded.columns;
    crossings = whole.bounded.crossings;
  }

  pub driven_step : IsStep (2 + 4 * k) k old driven_after
  driven_step = record {
    grows = grows_on old third driven_after whole.grows
        (celled_grows third c word cells is_cells whole.made inside no_input fresh);
    spends = spends_by (4 * k + 2) (4 * k + (length terms.nets + 1)) (4 * k + 2) (k + 0) (2 + 4 * k) k old
        driven_after bounded (omega arith) (let n = nets_count in omega (arith, n)) (omega arith) (omega arith);
    marks = whole.marks;
    made = celled_well third c word cells is_cells whole.made inside no_input fresh;
  }

  pub driven_made : IsDrivenMade r c old driven_after
  driven_made = record {
    id = word;
    is_word = record {
      terms = terms.nets;
      off = off;
      are_terms = terms_last first third tail.grows old.names old.words old.words (λ e id s. s) ts terms.nets
          are_terms.are_terms;
      is_off = gate_lasts second third is_word.continues.grows off terms.nets is_off.is_gate;
      is_word = is_word.is_gate;
    };
    cells = is_cells ∙ ap (λ (cs : List (Option NetId)). slice_set cs c (Some word)) whole.cells;
    pads = whole.pads;
    words = whole.words;
    lifts = whole.lifts;
    clear = is_word.clear ∙ (is_off.clear ∙ are_terms.clear);
    appends = whole.appends;
  }
