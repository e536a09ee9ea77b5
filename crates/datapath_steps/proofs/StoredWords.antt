-- Stored words and their next values.
use Rattle.std.proofs.Common.{◌≡◌, ℕ, ◌<◌, ◌+◌, ◌-◌, ◌*◌, ◌⊎◌, inl, inr, List, [], ◌∷◌, ◌++◌, Option, Some, None}
use Rattle.std.proofs.Common.{length, length-append, refl, sym, ◌∙◌, ap, subst, arith}
use Rattle.std.specs.Prelude.{◌≢◌, IsSome, slice_get}
use Rattle.std.proofs.lemmas.Bool.{false≢true, cases_eq}
use Rattle.std.proofs.lemmas.Option.{get_or_from_slice_get, same_Some, slice_get_within}
use Rattle.mp_base.proofs.Entries.{get_kept, get_set_same, get_set_other}
use Rattle.std.proofs.lemmas.Slice.Zip.{AllZip-long}
use Rattle.nor_net.specs.declared.net.NetId.{NetId}
use Rattle.nor_net.specs.declared.net.Phase.{Phase}
use Rattle.nor_net.specs.declared.net.Phase.TheVariants.{A, B}
use Rattle.nor_net.specs.declared.net.Part.{Part}
use Rattle.nor_net.specs.declared.net.Part.TheVariants.{Input, Latch}
use Rattle.organelles.specs.Tables.{net_at}
use Rattle.rtl_form.specs.declared.rtl.Transfer.{Transfer}
use Rattle.rtl_form.specs.declared.rtl.Rtl.{Rtl}
use Rattle.control_nor.specs.Lowering.{Stands}
use Rattle.path_form.specs.Shape.{is_fed}
use Rattle.path_values.specs.Allocated.{IsGate, IsGuard, IsTerm, StoredWord, transfers_to}
use Rattle.datapath_making.specs.declared.making.Making.{Making}
use Rattle.datapath_steps.specs.declared.transfers.Terms.{Terms}
use Rattle.datapath_making.specs.Additions.{IsBounded}
use Rattle.datapath_steps.specs.Continuing.{AreTerms, Continues, IsCastMade, IsClearFound, IsGateMade, IsMasterMade}
use Rattle.datapath_steps.specs.Continuing.{IsSourceMade}
use Rattle.datapath_making.specs.Growing.{Appends, Grows, IsUnfed}
use Rattle.datapath_making.specs.Sizes.{cast_cost}
use Rattle.datapath_making.specs.Steps.{IsNextMade, IsStep, IsWaiting}
use Rattle.datapath_making.specs.WellMade.{AreCast, IsWellMade}
use Rattle.datapath_making.proofs.Added.{bounded_on, spends_by}
use Rattle.datapath_steps.proofs.Continuing.{cont_none, cont_on, cont_within, told_on}
use Rattle.datapath_making.proofs.Keeping.{cast_lasts, gate_lasts, grows_on, guards_last, terms_last}
use Rattle.datapath_making.proofs.Lists.{get_cases, one_stands}
use Rattle.datapath_making.proofs.Stepping.{net_is}

-- ---- the cast of reset

pub clear_there : (m : Making) (id : NetId) → m.clear ≡ Some id → IsWellMade m → IsClearFound m m id
clear_there m id e well =
    let h = well.cast.clear id e in
    record {
      continues = cont_within 0 0 0 0 (cast_cost m.clear) 0 (cast_cost m.clear) (cast_cost m.clear) m m
          (cont_none m well) (omega arith) (omega arith) (omega arith) (omega arith);
      clear = e;
      cast = h.0;
      is_cast = h.1;
      from = h.2;
      to = h.3;
    }

module _ (control id : NetId) (old first : Making) (none : old.clear ≡ None) (h : IsCastMade control old first id)
    (is_reset : old.reset ≡ Some control) where
  abbrev clear_after : Making
  clear_after = record first { clear = Some id }

  reset_from : first.reset ≡ Some h.cast.control
  reset_from = h.continues.grows.reset ∙ (is_reset ∙ ap Some (sym h.from))

  clear_cast : AreCast clear_after
  clear_cast = record {
    count = h.continues.made.cast.count;
    guards = h.continues.made.cast.guards;
    clear = λ x s. (h.cast, h.is_cast, reset_from, h.to ∙ same_Some id x s);
  }

  cost_is : cast_cost old.clear ≡ cast_cost None
  cost_is = ap cast_cost none

  pub clear_made : IsClearFound old clear_after id
  clear_made = record {
    continues = cont_within (1 + 0) (0 + 0) (1 + 0) (1 + 0) (cast_cost old.clear) 0 (cast_cost old.clear)
        (cast_cost old.clear) old clear_after
        (cont_on 1 0 1 1 0 0 0 0 old first clear_after h.continues
        (told_on first first.guards (Some id) refl h.continues.made clear_cast))
        (let e = cost_is in omega (arith, e)) (omega arith) (let e = cost_is in omega (arith, e))
        (let e = cost_is in omega (arith, e));
    clear = refl;
    cast = h.cast;
    is_cast = h.is_cast;
    from = reset_from;
    to = h.to;
  }

-- ---- the slave of a stored word

pub word_is : (old first second : Making) (ts : List Transfer) (terms : Terms) (clear : NetId)
    → AreTerms ts old first terms → IsClearFound first second clear → (c : ℕ) (word id : NetId)
    → Stands second.cell_words c word → Stands old.cell_words c id → word ≡ id
word_is old first second ts terms clear a f c word id s t =
    one_stands old.cell_words c word id
    (subst (λ (cs : List (Option NetId)). Stands cs c word) (f.continues.cells ∙ a.continues.cells) s) t

pub slave_is : (net : List Part) (id word : NetId) (w : IsWaiting net id) → word ≡ id
    → w.slave ≡ net_at (word.0 - 1)
slave_is net id word w e =
    net_is w.slave (word.0 - 1) (let b = w.behind in let q = ap (λ (i : NetId). i.0) e in omega (arith, b, q))

-- what stood still stands, in each of three additions
pub slave_waits : (old first second third : Making) (ts : List Transfer) (terms : Terms) (clear slave source : NetId)
    → AreTerms ts old first terms → IsClearFound first second clear
    → IsSourceMade terms slave clear second third source → (id : NetId) (w : IsWaiting old.slices.net id)
    → w.slave ≡ slave → slice_get third.slices.net slave.0 ≡ Some (Latch B None)
slave_waits old first second third ts terms clear slave source a f s id w e =
    kept second third s.continues.appends (kept first second f.continues.appends
    (kept old first a.continues.appends
    (subst (λ (x : NetId). slice_get old.slices.net x.0 ≡ Some (Latch B None)) e w.is_slave)))
  where
    kept : (x y : Making) → Appends x.slices.net y.slices.net
        → slice_get x.slices.net slave.0 ≡ Some (Latch B None)
        → slice_get y.slices.net slave.0 ≡ Some (Latch B None)
    kept x y g q = ap (λ ps. slice_get ps slave.0) g.1 ∙ get_kept x.slices.net g.0 slave.0 (Latch B None) q

-- ---- the next value

module _ (terms : Terms) (slave clear : NetId) (old first second third : Making) (hold off source : NetId)
    (guards nets : List NetId) (is_guards : guards ≡ slave ∷ terms.guards)
    (is_nets : nets ≡ terms.nets ++ hold ∷ [])
    (is_hold : IsGateMade guards old first hold) (is_off : IsGateMade nets first second off)
    (is_source : IsGateMade (off ∷ clear ∷ []) second third source) where
  two_gates : Continues 2 (length nets + 2) 2 0 first third
  two_gates = cont_on 1 (length nets) 1 0 1 2 1 0 first second third is_off.continues is_source.continues

  pub source_made : IsSourceMade terms slave clear old third source
  source_made = record {
    hold = hold;
    off = off;
    continues = cont_within (1 + 2) (length guards + (length nets + 2)) (1 + 2) (0 + 0) 3
        (length terms.guards + length terms.nets + 4) 3 0 old third
        (cont_on 1 (length guards) 1 0 2 (length nets + 2) 2 0 old first third is_hold.continues two_gates)
        (omega arith)
        (let g = ap length is_guards in let n = ap length is_nets ∙ length-append terms.nets (hold ∷ []) in
        omega (arith, g, n))
        (omega arith) (omega arith);
    cleared = is_source.clear ∙ (is_off.clear ∙ is_hold.clear);
    is_hold = gate_lasts first third two_gates.grows hold (slave ∷ terms.guards)
        (subst (λ (gs : List NetId). IsGate first.slices.net hold gs) is_guards is_hold.is_gate);
    is_off = gate_lasts second third is_source.continues.grows off (terms.nets ++ hold ∷ [])
        (subst (λ (ns : List NetId). IsGate second.slices.net off ns) is_nets is_off.is_gate);
    is_source = is_source.is_gate;
  }

module _ (r : Rtl) (c reset : ℕ) (old first second third new : Making) (terms : Terms) (clear id source slave at :
    NetId)
    (are_terms : AreTerms (transfers_to r c) old first terms) (found : IsClearFound first second clear)
    (is_source : IsSourceMade terms slave clear second third source)
    (is_master : IsMasterMade slave source third new)
    (waits : IsWaiting old.slices.net id) (stands : Stands old.cell_words c id) (is_slave : waits.slave ≡ slave)
    (is_reset : old.reset ≡ Some at) (named : Stands old.names.cells reset at) where
  abbrev ts : List Transfer
  ts = transfers_to r c

  abbrev k : ℕ
  k = length ts

  abbrev reset_cost : ℕ
  reset_cost = cast_cost first.clear

  abbrev fourth : Making
  fourth = is_master.first

  abbrev fifth : Making
  fifth = is_master.middle

  abbrev i : ℕ
  i = length terms.guards + length terms.nets + 4

  latched : Continues 2 1 2 0 third fifth
  latched = cont_on 1 0 1 0 1 1 1 0 third fourth fifth is_master.is_master.continues is_master.is_negation.continues

  sourced : Continues (3 + 2) (i + 1) (3 + 2) (0 + 0) second fifth
  sourced = cont_on 3 i 3 0 2 1 2 0 second third fifth is_source.continues latched

  cleared : Continues (reset_cost + (3 + 2)) (0 + (i + 1)) (reset_cost + (3 + 2)) (reset_cost + (0 + 0)) first fifth
  cleared = cont_on reset_cost 0 reset_cost reset_cost (3 + 2) (i + 1) (3 + 2) (0 + 0) first second fifth
      found.continues sourced

  whole : Continues (4 * k + (reset_cost + (3 + 2))) (4 * k + (0 + (i + 1))) (4 * k + (reset_cost + (3 + 2))) (k +
      (reset_cost + (0 + 0)))
      old fifth
  whole = cont_on (4 * k) (4 * k) (4 * k) k (reset_cost + (3 + 2)) (0 + (i + 1)) (reset_cost + (3 + 2)) (reset_cost +
      (0 + 0)) old first fifth
      are_terms.continues cleared

  all_grows : Grows old new
  all_grows = grows_on old fifth new whole.grows is_master.is_fed.grows

  first_grows : Grows first new
  first_grows = grows_on first fifth new cleared.grows is_master.is_fed.grows

  second_grows : Grows second new
  second_grows = grows_on second fifth new sourced.grows is_master.is_fed.grows

  third_grows : Grows third new
  third_grows = grows_on third fifth new latched.grows is_master.is_fed.grows

  fourth_grows : Grows fourth new
  fourth_grows = grows_on fourth fifth new is_master.is_negation.continues.grows is_master.is_fed.grows

  nets_count : length terms.nets ≡ k
  nets_count =
      AllZip-long (IsTerm first.slices first.casts old.names old.words) ts terms.nets are_terms.are_terms

  guards_count : length terms.guards ≡ k
  guards_count =
      AllZip-long (λ (t : Transfer) g. IsGuard first.casts old.names t.guard g) ts terms.guards are_terms.are_guards

  bounded : IsBounded (4 * k + (reset_cost + (3 + 2)) + 0) (4 * k + (0 + (i + 1)) + 0) (4 * k + (reset_cost + (3 + 2))
      + 0)
      (k + (reset_cost + (0 + 0)) + 0) old new
  bounded = bounded_on (4 * k + (reset_cost + (3 + 2))) (4 * k + (0 + (i + 1))) (4 * k + (reset_cost + (3 + 2))) (k +
      (reset_cost + (0 + 0)))
      0 0 0 0 old fifth new whole.bounded is_master.is_fed.bounded

  first_cost : reset_cost ≡ cast_cost old.clear
  first_cost = ap cast_cost are_terms.clear

  pub next_step : IsStep (5 + 4 * k + cast_cost old.clear) (k + cast_cost old.clear) old new
  next_step = record {
    grows = all_grows;
    spends = spends_by (4 * k + (reset_cost + (3 + 2)) + 0) (4 * k + (0 + (i + 1)) + 0) (4 * k + (reset_cost + (3 +
        2)) + 0)
        (k + (reset_cost + (0 + 0)) + 0) (5 + 4 * k + cast_cost old.clear) (k + cast_cost old.clear) old new bounded
        (let e = first_cost in omega (arith, e))
        (let n = nets_count in let g = guards_count in omega (arith, n, g))
        (let e = first_cost in omega (arith, e)) (let e = first_cost in omega (arith, e));
    marks = is_master.is_fed.marks ∙ whole.marks;
    made = is_master.is_fed.made;
  }

  same_words : (e : ℕ) (i : NetId) → Stands old.words e i → Stands old.words e i
  same_words e i s = s

  waiting : slice_get fifth.slices.net slave.0 ≡ Some (Latch B None)
  waiting =
      ap (λ ps. slice_get ps slave.0) whole.appends.1
      ∙ get_kept old.slices.net whole.appends.0 slave.0 (Latch B None)
      (subst (λ (s : NetId). slice_get old.slices.net s.0 ≡ Some (Latch B None)) is_slave waits.is_slave)

  fed_here : slice_get new.slices.net slave.0 ≡ Some (Latch B (Some is_master.negation))
  fed_here =
      ap (λ ps. slice_get ps slave.0) is_master.is_fed.net
      ∙ get_set_same fifth.slices.net slave.0 (Latch B (Some is_master.negation))
      (slice_get_within fifth.slices.net slave.0 (Latch B None) waiting)

  fed_other : (n : ℕ) → (n ≡ slave.0 → ⊥) → slice_get new.slices.net n ≡ slice_get fifth.slices.net n
  fed_other n ne =
      ap (λ ps. slice_get ps n) is_master.is_fed.net
      ∙ get_set_other fifth.slices.net slave.0 (Latch B (Some is_master.negation)) n ne

  same_at : at ≡ found.cast.control
  same_at = same_Some at found.cast.control
      (sym is_reset ∙ (sym (found.continues.grows.reset ∙ are_terms.continues.grows.reset) ∙ found.from))

  abbrev stored : StoredWord r new.slices new.casts old.names old.words c reset id
  stored = record {
    master = is_master.master;
    negation = is_master.negation;
    slave = slave;
    source = source;
    terms = terms.nets;
    guards = terms.guards;
    hold = is_source.hold;
    off = is_source.off;
    clear = found.cast;
    is_master = fourth_grows.parts is_master.master.0 (Latch A (Some source)) is_master.is_master.is_latch refl;
    is_negation = gate_lasts fifth new is_master.is_fed.grows is_master.negation (is_master.master ∷ [])
        is_master.is_negation.is_gate;
    is_slave = fed_here;
    is_word = gate_lasts old new all_grows id (slave ∷ [])
        (subst (λ (s : NetId). IsGate old.slices.net id (s ∷ [])) is_slave waits.is_word);
    are_terms = terms_last first new first_grows old.names old.words old.words same_words ts terms.nets
        are_terms.are_terms;
    are_guards = guards_last first new first_grows old.names old.words old.words same_words ts terms.guards
        are_terms.are_guards;
    is_hold = gate_lasts third new third_grows is_source.hold (slave ∷ terms.guards) is_source.is_hold;
    is_off = gate_lasts third new third_grows is_source.off (terms.nets ++ is_source.hold ∷ []) is_source.is_off;
    is_source = gate_lasts third new third_grows source (is_source.off ∷ found.cast.slice ∷ [])
        (subst (λ (s : NetId). IsGate third.slices.net source (is_source.off ∷ s ∷ [])) (sym found.to)
        is_source.is_source);
    is_clear = (
      cast_lasts second new second_grows found.cast found.is_cast,
      subst (Stands old.names.cells reset) same_at named,
    );
  }

  unfed_in : (n : ℕ) → IsUnfed new.slices.net n → (n ≡ slave.0) ⊎ (n ≡ slave.0 → ⊥)
      → IsUnfed old.slices.net n × (n ≢ slave.0)
  unfed_in n (phase, e) (inl x) =
      absurd (let q = same_Some (Latch B (Some is_master.negation)) (Latch phase None)
      (sym fed_here ∙ (ap (slice_get new.slices.net) (sym x) ∙ e)) in fed_not_unfed phase q)
    where
      fed_not_unfed : (phase : Phase) → Latch B (Some is_master.negation) ≡ Latch phase None → ⊥
      fed_not_unfed phase q = false≢true (sym (ap is_fed q))
  unfed_in n (phase, e) (inr ne) = (
    by_case (get_cases old.slices.net whole.appends.0 n (Latch phase None)
        (sym (ap (λ ps. slice_get ps n) whole.appends.1) ∙ (sym (fed_other n ne) ∙ e))),
    ne,
  )
    where
      by_case : ((n < length old.slices.net) × (slice_get old.slices.net n ≡ Some (Latch phase None)))
          ⊎ ((j : ℕ) × (n ≡ length old.slices.net + j) × (slice_get whole.appends.0 j ≡ Some (Latch phase None)))
          → IsUnfed old.slices.net n
      by_case (inl h) = (phase, h.1)
      by_case (inr h) =
          absurd (false≢true (sym (ap is_fed (get_or_from_slice_get whole.appends.0 h.0 (Latch phase None) Input h.2))
          ∙ whole.appends.2 h.0 Input (slice_get_within whole.appends.0 h.0 (Latch phase None) h.2)))

  clear_is : new.clear ≡ Some clear
  clear_is = is_master.is_fed.clear ∙ (is_master.is_negation.clear ∙ (is_master.is_master.clear
      ∙ (is_source.cleared ∙ found.clear)))

  pub next_made : IsNextMade r c reset old new
  next_made = record {
    id = id;
    is_id = stands;
    is_word = stored;
    behind = let b = waits.behind in let s = ap (λ (i : NetId). i.0) is_slave in omega (arith, b, s);
    cells = is_master.is_fed.cells ∙ whole.cells;
    pads = is_master.is_fed.pads ∙ whole.pads;
    words = is_master.is_fed.words ∙ whole.words;
    lifts = is_master.is_fed.lifts ∙ whole.lifts;
    clear = subst IsSome (sym clear_is) refl;
    others = λ n q ne e. fed_other n ne ∙ (ap (λ ps. slice_get ps n) whole.appends.1
        ∙ get_kept old.slices.net whole.appends.0 n q e);
    unfed = λ n u. unfed_in n u (cases_eq n slave.0);
  }
