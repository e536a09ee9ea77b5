-- Words and bits of expressions.
use Rattle.std.proofs.Common.{◌≡◌, ℕ, zero, suc, ◌<◌, ◌≤◌, ◌+◌, ◌-◌, ◌⊎◌, inl, inr, List, [], ◌∷◌, ◌++◌, Option, Some}
use Rattle.std.proofs.Common.{None, Bool, true, get_or, length, map, refl, sym, ◌∙◌, ap, subst, arith}
use Rattle.std.specs.Prelude.{All, Contains, slice_get, slice_set, slice_index_or, if◌then◌else◌}
use Rattle.std.proofs.lemmas.Bool.{cases_lt, cases_eq}
use Rattle.std.proofs.lemmas.List.{get_or_past, append-nil, length-set}
use Rattle.std.proofs.lemmas.Option.{none-some, same_Some, slice_get-get_or, slice_get_within}
use Rattle.std.proofs.lemmas.List.Elements.{All-nil, All-cons, Contains-push}
use Rattle.mp_base.specs.declared.op.Op.{Op}
use Rattle.mp_base.proofs.Entries.{get_set_same, get_set_other}
use Rattle.nor_net.specs.declared.net.NetId.{NetId}
use Rattle.nor_net.specs.declared.net.Part.{Part}
use Rattle.nor_net.specs.declared.net.Part.TheVariants.{Input, Latch}
use Rattle.nor_net.specs.Shape as net_shape
use Rattle.organelles.specs.declared.slices.Programmed.{Programmed}
use Rattle.organelles.specs.declared.slices.SliceNet.{SliceNet}
use Rattle.organelles.specs.Computing.{with_table}
use Rattle.organelles.specs.Tables.{is_test, table_of}
use Rattle.rtl_form.specs.Cost.{op_cost}
use Rattle.control_nor.specs.Lowering.{Stands}
use Rattle.path_form.specs.declared.path.Lift.{Lift}
use Rattle.path_form.specs.Shape.{AreApart, is_fed, times}
use Rattle.path_values.specs.Allocated.{Placed}
use Rattle.datapath_making.specs.declared.making.Making.{Making}
use Rattle.datapath_making.specs.Additions.{Addition, Adds, CastFits, ChainFits, Fits, LiftFits}
use Rattle.datapath_making.specs.Steps.{IsBitMade, IsNumberMade, IsOperatorAdded, IsOperatorMade, IsStep, IsTestMade}
use Rattle.datapath_making.specs.Steps.{IsWaited, read_cell}
use Rattle.datapath_making.specs.WellMade.{AreNamed, IsWellMade}
use Rattle.datapath_making.proofs.Added.{appends_by, named_on, word_named}
use Rattle.datapath_making.proofs.Entering.{length_added}
use Rattle.datapath_making.proofs.Keeping.{extends_refl}
use Rattle.datapath_making.proofs.Lists.{one_at, one_else, one_here, one_stands}
use Rattle.datapath_making.proofs.Stepping.{net_is, NoneLatched, same_lifts_apart, step_by, well_plain}
use Rattle.datapath_making.proofs.Tables.{chains_fit, chains_of, ends_entered, is_paid, none_latched, parts_are_fed}
use Rattle.datapath_making.proofs.Tables.{parts_of, result_of, result_within}

no_inputs_latched : NoneLatched (Input ∷ [])
no_inputs_latched zero phase source e = cc
no_inputs_latched (suc i) phase source e = none-some (Latch phase (Some source)) e

-- ---- numbers

module _ (e n : ℕ) (old : Making) (net : List Part) (id : NetId) (h : net_shape.IsAdded old.slices.net Input net id)
    (programs : List Programmed) (words : List (Option NetId))
    (is_programs : programs ≡ old.slices.programs ++ (let p : Programmed = record { net = id; bits = n } in p) ∷ [])
    (is_words : words ≡ slice_set old.words e (Some id)) (well : IsWellMade old) where
  abbrev program : Programmed
  program = record { net = id; bits = n }

  abbrev number_after : Making
  number_after = record old {
    slices = record old.slices { net = net; programs = programs };
    words = words;
  }

  abbrev number_addition : Addition
  number_addition = record { parts = Input ∷ []; chains = []; programs = program ∷ []; casts = []; lifts = [] }

  number_adds : Adds number_addition old number_after
  number_adds = record {
    width = refl;
    control = refl;
    names = refl;
    reset = refl;
    marks = refl;
    net = h.parts;
    chains = sym (append-nil old.slices.chains);
    programs = is_programs;
    casts = sym (append-nil old.casts);
    lifts = sym (append-nil old.lifts);
    cell_count = refl;
    word_count = ap length is_words ∙ length-set old.words e (Some id);
    pad_count = refl;
    guard_count = refl;
  }

  number_fits : Fits number_addition [] old
  number_fits = record {
    chains = All-nil (ChainFits old (length old.slices.net + 1));
    programs = All-cons (λ (p : Programmed). length old.slices.net ≤ p.net.0) program []
        (let a = h.number in omega (arith, a)) (All-nil (λ (p : Programmed). length old.slices.net ≤ p.net.0));
    casts = All-nil (CastFits old);
    lifts = All-nil (LiftFits old (length old.slices.net + 1));
    lifts_apart = same_lifts_apart old well.joined.lifts_apart;
    entered = λ m. ap (λ (i : NetId). times m (i ∷ [])) (net_is id (length old.slices.net) h.number);
  }

  pub number_step : IsStep 1 0 old number_after
  number_step =
      step_by number_addition [] old number_after number_adds number_fits well 1 0
      (well_plain number_addition old number_after number_adds number_fits well refl no_inputs_latched refl refl
      (subst (λ (ws : List (Option NetId)). AreNamed net old.cell_words ws) (sym is_words)
      (word_named number_addition old number_after number_adds old.cell_words old.words well.named e id
      (let a = h.number in let l = length_added number_addition old number_after number_adds in
      omega (arith, a, l)))))
      (omega arith) (omega arith) (omega arith) (omega arith)

  pub number_made : IsNumberMade e n old number_after
  number_made = record {
    program = program;
    is_program = subst (λ (ps : List Programmed). Contains ps program) (sym is_programs)
        (Contains-push old.slices.programs program);
    bits = refl;
    words = is_words;
    cells = refl;
    pads = refl;
    lifts = refl;
    appends = appends_by number_addition old number_after number_adds
        (All-cons (λ q. is_fed q ≡ true) Input [] refl (All-nil (λ q. is_fed q ≡ true)));
  }

-- ---- the word of a cell

pub read_well : (e c : ℕ) (old : Making) → IsWellMade old → IsWellMade (read_cell e c old)
read_well e c old well = record {
  entered = well.entered;
  joined = well.joined;
  named = record {
    words_in = λ d id s. by_case d id (cases_eq d e) s;
    cells_in = well.named.cells_in;
    cells_made = well.named.cells_made;
    cells_apart = well.named.cells_apart;
  };
  cast = record { count = well.cast.count; guards = well.cast.guards; clear = well.cast.clear };
  marks = record {
    rise = well.marks.rise;
    slices_in = well.marks.slices_in;
    control_in = well.marks.control_in;
    ups = well.marks.ups;
    downs = well.marks.downs;
    casts = well.marks.casts;
    lifts = well.marks.lifts;
  };
}
  where
    entry : Option NetId
    entry = slice_index_or old.cell_words c None

    stands : (id : NetId) → entry ≡ Some id → Stands old.cell_words c id
    stands id q = by_place (cases_lt c (length old.cell_words))
      where
        by_place : (c < length old.cell_words) ⊎ (length old.cell_words ≤ c) → Stands old.cell_words c id
        by_place (inl l) = slice_get-get_or old.cell_words c None l ∙ ap Some q
        by_place (inr l) = absurd (none-some id
            (sym (get_or_past old.cell_words c None l) ∙ q))

    by_case : (d : ℕ) (id : NetId) → (d ≡ e) ⊎ (d ≡ e → ⊥) → Stands (slice_set old.words e entry) d id
        → id.0 < length old.slices.net
    by_case d id (inl q) s =
        let l = slice_get_within (slice_set old.words e entry) d (Some id) s in
        let n = length-set old.words e entry in
        let same = get_set_same old.words e entry (omega (arith, l, n, q)) in
        well.named.cells_in c id (stands id (same_Some entry (Some id)
        (sym same ∙ (ap (slice_get (slice_set old.words e entry)) (sym q) ∙ s))))
    by_case d id (inr ne) s =
        well.named.words_in d id (sym (get_set_other old.words e entry d ne) ∙ s)

-- ---- lifts

module _ (m : Making) (e : ℕ) (lift : Lift) (entry : IsWaited m e) (is_entry : Stands m.names.exprs e lift.control)
  where
    pub same_entry : entry.0 ≡ lift.control
    same_entry = one_stands m.names.exprs e entry.0 lift.control entry.1 is_entry

    pub lift_fits : (end : ℕ) → lift.from.0 < end → lift.slice < m.width → All (LiftFits m end) (lift ∷ [])
    lift_fits end from low =
        All-cons (LiftFits m end) lift [] (record {
          slice = low;
          from = from;
          ahead = let a = entry.2 in let q = ap (λ (i : NetId). i.0) same_entry in omega (arith, a, q);
        }) (All-nil (LiftFits m end))

    pub lifts_apart_on : AreApart (map (λ (l : Lift). l.control) m.lifts)
        → AreApart (map (λ (l : Lift). l.control) (m.lifts ++ lift ∷ []))
    lifts_apart_on apart n = by_place (cases_eq lift.control.0 n)
      where
        total : times n (map (λ (l : Lift). l.control) (m.lifts ++ lift ∷ []))
            ≡ times n (map (λ (l : Lift). l.control) m.lifts) + one_at n lift.control
        total = mapped_push m.lifts
          where
            mapped_push : (ls : List Lift) → times n (map (λ (l : Lift). l.control) (ls ++ lift ∷ []))
                ≡ times n (map (λ (l : Lift). l.control) ls) + one_at n lift.control
            mapped_push [] = omega arith
            mapped_push (l ∷ ls) = let r = mapped_push ls in omega (arith, r)

        by_place : (lift.control.0 ≡ n) ⊎ (lift.control.0 ≡ n → ⊥)
            → times n (map (λ (l : Lift). l.control) (m.lifts ++ lift ∷ [])) ≤ 1
        by_place (inl q) =
            let z = subst (λ i. times i (map (λ (l : Lift). l.control) m.lifts) ≡ 0)
            (ap (λ (i : NetId). i.0) same_entry ∙ q) entry.3 in
            let o = one_here n lift.control q in omega (arith, total, z, o)
        by_place (inr ne) =
            let o = one_else n lift.control ne in let a = apart n in omega (arith, total, o, a)

-- ---- operators

abbrev one_test : Bool → ℕ
one_test b = if b then 1 else 0

one_if : (b : Bool) → b ≡ true → one_test b ≡ 1
one_if b e = ap one_test e

module _ (op : Op) (args : List ℕ) (old middle : Making) (id : NetId) (h : IsOperatorAdded op args old middle id)
    (well : IsWellMade old) where
  abbrev at : ℕ
  at = length old.slices.net

  abbrev operator_addition : List Lift → Addition
  operator_addition lifts = record {
    parts = parts_of h.kind h.a h.b at;
    chains = chains_of h.kind h.a h.b at;
    programs = [];
    casts = [];
    lifts = lifts;
  }

  a_in : h.a.0 < at
  a_in = well.named.words_in (get_or args 0 0) h.a h.is_a

  operator_fits : (lifts : List Lift)
      → All (LiftFits old (at + length (parts_of h.kind h.a h.b at))) lifts
      → AreApart (map (λ (l : Lift). l.control) (old.lifts ++ lifts)) → Fits (operator_addition lifts) [] old
  operator_fits lifts fit apart = record {
    chains = chains_fit old h.kind h.a h.b a_in h.reached;
    programs = All-nil (λ (p : Programmed). length old.slices.net ≤ p.net.0);
    casts = All-nil (CastFits old);
    lifts = fit;
    lifts_apart = apart;
    entered = λ n. ends_entered h.kind h.a h.b at n a_in;
  }

  no_latches : NoneLatched (parts_of h.kind h.a h.b at)
  no_latches i phase source e = none_latched h.kind h.a h.b at i phase source a_in e

  id_in : id.0 < at + length (parts_of h.kind h.a h.b at)
  id_in =
      let r = result_within h.kind h.a h.b at in
      let e : id.0 ≡ result_of h.kind h.a h.b at = ap (λ (i : NetId). i.0) h.is_result in
      omega (arith, r, e)

  abbrev operator_slices : SliceNet
  operator_slices = with_table (table_of h.kind) h.a h.b old.slices

  pub operator_placed : Placed operator_slices old.words op args id
  operator_placed = record {
    kind = h.kind;
    is_kind = h.is_kind;
    a = h.a;
    b = h.b;
    before = old.slices;
    a_in = a_in;
    b_in = well.named.words_in (get_or args (length args - 1) 0) h.b h.is_b;
    chains_in = well.joined.chains_in;
    grown = extends_refl operator_slices;
    is_result = h.is_result;
    is_a = h.is_a;
    is_b = h.is_b;
  }

  -- the word of an expression
  module _ (e : ℕ) (words : List (Option NetId)) (is_words : words ≡ slice_set old.words e (Some id)) where
    abbrev operator_after : Making
    operator_after = record old { slices = operator_slices; words = words }

    operator_adds : Adds (operator_addition []) old operator_after
    operator_adds = record {
      width = refl;
      control = refl;
      names = refl;
      reset = refl;
      marks = refl;
      net = refl;
      chains = refl;
      programs = sym (append-nil old.slices.programs);
      casts = sym (append-nil old.casts);
      lifts = sym (append-nil old.lifts);
      cell_count = refl;
      word_count = ap length is_words ∙ length-set old.words e (Some id);
      pad_count = refl;
      guard_count = refl;
    }

    word_fits : Fits (operator_addition []) [] old
    word_fits =
        operator_fits [] (All-nil (LiftFits old (at + length (parts_of h.kind h.a h.b at))))
        (same_lifts_apart old well.joined.lifts_apart)

    pub operator_step : IsStep (op_cost op (length args)) 0 old operator_after
    operator_step =
        let paid = is_paid h.kind (length args) h.a h.b at in
        let n = paid.nets in let i = paid.inputs in let c = paid.columns in
        let o = ap (λ (x : Op). op_cost x (length args)) h.is_kind in
        step_by (operator_addition []) [] old operator_after operator_adds word_fits well
        (op_cost op (length args)) 0
        (well_plain (operator_addition []) old operator_after operator_adds word_fits well refl no_latches refl refl
        (subst (λ (ws : List (Option NetId)). AreNamed operator_slices.net old.cell_words ws) (sym is_words)
        (word_named (operator_addition []) old operator_after operator_adds old.cell_words old.words well.named e id
        (let l = length_added (operator_addition []) old operator_after operator_adds in
        omega (arith, l, id_in)))))
        (omega (arith, n, o)) (omega (arith, i, o)) (omega (arith, c, o)) (omega arith)

    pub operator_made : IsOperatorMade e op args old operator_after
    operator_made = record {
      id = id;
      placed = operator_placed;
      words = is_words;
      cells = refl;
      pads = refl;
      lifts = refl;
      appends = appends_by (operator_addition []) old operator_after operator_adds
          (parts_are_fed h.kind h.a h.b at a_in);
    }

  -- a test, which is lifted
  module _ (e : ℕ) (lift : Lift) (lifts : List Lift) (is_lifts : lifts ≡ old.lifts ++ lift ∷ [])
      (entry : IsWaited old e) (is_entry : Stands old.names.exprs e lift.control)
      (from : lift.from ≡ id) (top : suc lift.slice ≡ old.width) (tests : is_test h.kind ≡ true) where
    abbrev test_after : Making
    test_after = record old { slices = operator_slices; lifts = lifts }

    test_adds : Adds (operator_addition (lift ∷ [])) old test_after
    test_adds = record {
      width = refl;
      control = refl;
      names = refl;
      reset = refl;
      marks = refl;
      net = refl;
      chains = refl;
      programs = sym (append-nil old.slices.programs);
      casts = sym (append-nil old.casts);
      lifts = is_lifts;
      cell_count = refl;
      word_count = refl;
      pad_count = refl;
      guard_count = refl;
    }

    test_fits : Fits (operator_addition (lift ∷ [])) [] old
    test_fits =
        operator_fits (lift ∷ [])
        (lift_fits old e lift entry is_entry (at + length (parts_of h.kind h.a h.b at))
        (let x = ap (λ (i : NetId). i.0) from in omega (arith, x, id_in)) (omega (arith, top)))
        (lifts_apart_on old e lift entry is_entry well.joined.lifts_apart)

    pub test_step : IsStep (op_cost op (length args)) 1 old test_after
    test_step =
        let paid = is_paid h.kind (length args) h.a h.b at in
        let n = paid.nets in let i = paid.inputs in let c = paid.columns in
        let o = ap (λ (x : Op). op_cost x (length args)) h.is_kind in
        let t = one_if (is_test h.kind) tests in
        step_by (operator_addition (lift ∷ [])) [] old test_after test_adds test_fits well
        (op_cost op (length args)) 1
        (well_plain (operator_addition (lift ∷ [])) old test_after test_adds test_fits well refl no_latches refl refl
        (named_on (operator_addition (lift ∷ [])) old test_after test_adds old.cell_words old.words well.named))
        (omega (arith, n, o)) (omega (arith, i, o)) (omega (arith, c, o, t)) (omega arith)

    pub test_made : IsTestMade e op args old test_after
    test_made = record {
      lift = lift;
      is_entry = is_entry;
      is_top = top;
      placed = subst (Placed operator_slices old.words op args) (sym from) operator_placed;
      lifts = is_lifts;
      words = refl;
      cells = refl;
      pads = refl;
      appends = appends_by (operator_addition (lift ∷ [])) old test_after test_adds
          (parts_are_fed h.kind h.a h.b at a_in);
    }

-- ---- a bit of a word

module _ (e index arg : ℕ) (old : Making) (lift : Lift) (lifts : List Lift)
    (is_lifts : lifts ≡ old.lifts ++ lift ∷ []) (entry : IsWaited old e)
    (is_entry : Stands old.names.exprs e lift.control) (is_word : Stands old.words arg lift.from)
    (at_index : lift.slice ≡ index) (low : lift.slice < old.width) (well : IsWellMade old) where
  abbrev bit_after : Making
  bit_after = record old { lifts = lifts }

  abbrev bit_addition : Addition
  bit_addition = record { parts = []; chains = []; programs = []; casts = []; lifts = lift ∷ [] }

  bit_adds : Adds bit_addition old bit_after
  bit_adds = record {
    width = refl;
    control = refl;
    names = refl;
    reset = refl;
    marks = refl;
    net = sym (append-nil old.slices.net);
    chains = sym (append-nil old.slices.chains);
    programs = sym (append-nil old.slices.programs);
    casts = sym (append-nil old.casts);
    lifts = is_lifts;
    cell_count = refl;
    word_count = refl;
    pad_count = refl;
    guard_count = refl;
  }

  bit_fits : Fits bit_addition [] old
  bit_fits = record {
    chains = All-nil (ChainFits old (length old.slices.net + 0));
    programs = All-nil (λ (p : Programmed). length old.slices.net ≤ p.net.0);
    casts = All-nil (CastFits old);
    lifts = lift_fits old e lift entry is_entry (length old.slices.net + 0)
        (let l = well.named.words_in arg lift.from is_word in omega (arith, l)) low;
    lifts_apart = lifts_apart_on old e lift entry is_entry well.joined.lifts_apart;
    entered = λ n. refl;
  }

  pub bit_step : IsStep 1 1 old bit_after
  bit_step =
      step_by bit_addition [] old bit_after bit_adds bit_fits well 1 1
      (well_plain bit_addition old bit_after bit_adds bit_fits well refl
      (λ i phase source q. none-some (Latch phase (Some source)) q) refl refl
      (named_on bit_addition old bit_after bit_adds old.cell_words old.words well.named))
      (omega arith) (omega arith) (omega arith) (omega arith)

  pub bit_made : IsBitMade e index arg old bit_after
  bit_made = record {
    lift = lift;
    is_entry = is_entry;
    at_index = at_index;
    is_word = is_word;
    lifts = is_lifts;
    words = refl;
    cells = refl;
    pads = refl;
    slices = refl;
  }

-- ---- the same where an operator was added before

module _ (op : Op) (args : List ℕ) (old middle : Making) (id : NetId) (h : IsOperatorAdded op args old middle id)
    (well : IsWellMade old) (e : ℕ) where
  pub operator_step_on : (words : List (Option NetId)) → words ≡ slice_set middle.words e (Some id)
      → IsStep (op_cost op (length args)) 0 old (record middle { words = words })
  operator_step_on =
      subst (λ (m : Making). (words : List (Option NetId)) → words ≡ slice_set m.words e (Some id)
      → IsStep (op_cost op (length args)) 0 old (record m { words = words })) (sym h.added)
      (operator_step op args old middle id h well e)

  pub operator_made_on : (words : List (Option NetId)) → words ≡ slice_set middle.words e (Some id)
      → IsOperatorMade e op args old (record middle { words = words })
  operator_made_on =
      subst (λ (m : Making). (words : List (Option NetId)) → words ≡ slice_set m.words e (Some id)
      → IsOperatorMade e op args old (record m { words = words })) (sym h.added)
      (operator_made op args old middle id h well e)

  module _ (lift : Lift) (entry : IsWaited old e) (is_entry : Stands old.names.exprs e lift.control)
      (from : lift.from ≡ id) (top : suc lift.slice ≡ old.width) (tests : is_test h.kind ≡ true) where
    pub test_step_on : (lifts : List Lift) → lifts ≡ middle.lifts ++ lift ∷ []
        → IsStep (op_cost op (length args)) 1 old (record middle { lifts = lifts })
    test_step_on =
        subst (λ (m : Making). (lifts : List Lift) → lifts ≡ m.lifts ++ lift ∷ []
        → IsStep (op_cost op (length args)) 1 old (record m { lifts = lifts })) (sym h.added)
        (λ lifts is. test_step op args old middle id h well e lift lifts is entry is_entry from top tests)

    pub test_made_on : (lifts : List Lift) → lifts ≡ middle.lifts ++ lift ∷ []
        → IsTestMade e op args old (record middle { lifts = lifts })
    test_made_on =
        subst (λ (m : Making). (lifts : List Lift) → lifts ≡ m.lifts ++ lift ∷ []
        → IsTestMade e op args old (record m { lifts = lifts })) (sym h.added)
        (λ lifts is. test_made op args old middle id h well e lift lifts is entry is_entry from top tests)
