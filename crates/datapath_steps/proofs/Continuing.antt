-- Nets and casts that are added piece by piece.
use Rattle.std.proofs.Common.{◌≡◌, ℕ, zero, suc, ◌<◌, ◌≤◌, ◌+◌, ◌*◌, ◌⊎◌, inl, inr, List, [], ◌∷◌, ◌++◌, Option, Some}
use Rattle.std.proofs.Common.{Bool, true, false, cond, get_or, length, take, length-take, map, refl, sym, ◌∙◌, ap}
use Rattle.std.proofs.Common.{subst, arith, append_assoc}
use Rattle.std.specs.Prelude.{All, Contains, slice_get, slice_set}
use Rattle.std.specs.List.{sum_by}
use Rattle.std.proofs.lemmas.Bool.{true≢false, cases_eq}
use Rattle.std.proofs.lemmas.Option.{none-some, same_Some, slice_get-get_or, slice_get_within}
use Rattle.std.proofs.lemmas.List.Elements.{All-append, All-cons, All-nil, All-weaker, Contains-push}
use Rattle.mp_base.proofs.Entries.{get_set_same, get_set_other}
use Rattle.mp_base.proofs.Zips.{zip_all_right}
use Rattle.std.proofs.lemmas.List.{append-nil, length-set}
use Rattle.nor_net.specs.declared.net.NetId.{NetId}
use Rattle.nor_net.specs.declared.net.Part.{Part}
use Rattle.nor_net.specs.declared.net.Part.TheVariants.{Input, Gate, Latch}
use Rattle.nor_net.specs.Shape as net_shape
use Rattle.nor_net.specs.Shape.{gate_inputs}
use Rattle.organelles.specs.declared.slices.Programmed.{Programmed}
use Rattle.rtl_form.specs.declared.rtl.Transfer.{Transfer}
use Rattle.control_nor.specs.declared.names.Names.{Names}
use Rattle.control_nor.specs.Lowering.{Stands}
use Rattle.bit_gates.proofs.Zipping.{zip_more}
use Rattle.path_form.specs.declared.path.Cast.{Cast}
use Rattle.path_form.specs.Shape.{chain_to, is_fed, is_input, slice_ends, times}
use Rattle.path_form.specs.Sizes.{active}
use Rattle.path_order.specs.declared.order.Mark.{Mark}
use Rattle.path_order.specs.Order.{start}
use Rattle.path_values.specs.Allocated.{IsGuard, IsTerm}
use Rattle.datapath_making.specs.declared.making.Guard.{Guard}
use Rattle.datapath_making.specs.declared.making.Making.{Making}
use Rattle.datapath_steps.specs.declared.transfers.Term.{Term}
use Rattle.datapath_steps.specs.declared.transfers.Terms.{Terms}
use Rattle.datapath_making.specs.Additions.{Addition, Adds, CastFits, ChainFits, Fits, LiftFits}
use Rattle.datapath_steps.specs.Continuing.{AreTerms, Continues, IsCastMade, IsGateMade, IsGuardFound, IsTermMade}
use Rattle.datapath_making.specs.Growing.{Appends}
use Rattle.datapath_making.specs.Marking.{last_from, last_mark}
use Rattle.datapath_making.specs.Steps.{IsBitReached, IsTransferReached}
use Rattle.datapath_making.specs.WellMade.{AreCast, IsGuardMade, IsWellMade, present}
use Rattle.datapath_making.proofs.Added.{appends_by, bounded_by, bounded_none, bounded_on, bounded_within, grows_by}
use Rattle.datapath_making.proofs.Added.{named_on}
use Rattle.datapath_making.proofs.Entering.{ends_count, length_added}
use Rattle.datapath_making.proofs.Keeping.{gate_lasts, grows_on, grows_refl, guard_lasts, nothing_more, nothing_on}
use Rattle.datapath_making.proofs.Keeping.{terms_last, guards_last}
use Rattle.datapath_making.proofs.Lists.{get_by, one_here}
use Rattle.datapath_making.proofs.Stepping.{fits_parts, net_is, NoneLatched, parts_only, same_lifts_apart, well_plain}

appends_on : (old middle new : List Part) → Appends old middle → Appends middle new → Appends old new
appends_on old middle new g h = (
  g.0 ++ h.0,
  h.1 ∙ (ap (λ ps. ps ++ h.0) g.1 ∙ append_assoc old g.0 h.0),
  All-append (λ q. is_fed q ≡ true) g.0 h.0 g.2 h.2,
)

pub cont_none : (m : Making) → IsWellMade m → Continues 0 0 0 0 m m
cont_none m well = record {
  made = well;
  grows = grows_refl m;
  bounded = bounded_none m;
  appends = ([], sym (append-nil m.slices.net), All-nil (λ q. is_fed q ≡ true));
  marks = refl;
  cells = refl;
  words = refl;
  pads = refl;
  lifts = refl;
}

pub cont_on : (n i c x m j d y : ℕ) (old middle new : Making) → Continues n i c x old middle
    → Continues m j d y middle new → Continues (n + m) (i + j) (c + d) (x + y) old new
cont_on n i c x m j d y old middle new g h = record {
  made = h.made;
  grows = grows_on old middle new g.grows h.grows;
  bounded = bounded_on n i c x m j d y old middle new g.bounded h.bounded;
  appends = appends_on old.slices.net middle.slices.net new.slices.net g.appends h.appends;
  marks = h.marks ∙ g.marks;
  cells = h.cells ∙ g.cells;
  words = h.words ∙ g.words;
  pads = h.pads ∙ g.pads;
  lifts = h.lifts ∙ g.lifts;
}

pub cont_within : (n i c x m j d y : ℕ) (old new : Making) → Continues n i c x old new → n ≤ m → i ≤ j → c ≤ d
    → x ≤ y → Continues m j d y old new
cont_within n i c x m j d y old new g a b e f = record {
  made = g.made;
  grows = g.grows;
  bounded = bounded_within n i c x m j d y old new g.bounded a b e f;
  appends = g.appends;
  marks = g.marks;
  cells = g.cells;
  words = g.words;
  pads = g.pads;
  lifts = g.lifts;
}

mapped_some : (casts : List Cast) (c : Cast) → Contains casts c → (id : NetId) → c.slice ≡ id
    → 1 ≤ times id.0 (map (λ (k : Cast). k.slice) casts)
mapped_some [] c (i, l, q) id e = absurd (omega (arith, l))
mapped_some (k ∷ casts) c (zero, l, q) id e =
    let o = one_here id.0 k.slice (ap (λ (x : Cast). x.slice.0) q ∙ ap (λ (x : NetId). x.0) e) in omega (arith, o)
mapped_some (k ∷ casts) c (suc i, l, q) id e =
    let r = mapped_some casts c (i, omega (arith, l), q) id e in omega (arith, r)

input_within : (net : List Part) (n : ℕ) → is_input (slice_get net n) ≡ true → n < length net
input_within [] n e = absurd (true≢false (sym e))
input_within (p ∷ net) zero e = omega arith
input_within (p ∷ net) (suc n) e = let l = input_within net n e in omega (arith, l)

-- ---- a gate

module _ (inputs : List NetId) (old : Making) (net : List Part) (id : NetId)
    (h : net_shape.IsAdded old.slices.net (Gate inputs) net id) (well : IsWellMade old) where
  abbrev gate_after : Making
  gate_after = record old { slices = record old.slices { net = net } }

  abbrev gate_parts : List Part
  gate_parts = Gate inputs ∷ []

  gate_adds : Adds (parts_only gate_parts) old gate_after
  gate_adds = record {
    width = refl;
    control = refl;
    names = refl;
    reset = refl;
    marks = refl;
    net = h.parts;
    chains = sym (append-nil old.slices.chains);
    programs = sym (append-nil old.slices.programs);
    casts = sym (append-nil old.casts);
    lifts = sym (append-nil old.lifts);
    cell_count = refl;
    word_count = refl;
    pad_count = refl;
    guard_count = refl;
  }

  gate_unlatched : NoneLatched gate_parts
  gate_unlatched zero phase source e = cc
  gate_unlatched (suc i) phase source e = none-some (Latch phase (Some source)) e

  gate_fits : Fits (parts_only gate_parts) [] old
  gate_fits = fits_parts gate_parts old well refl

  gate_well : IsWellMade gate_after
  gate_well =
      well_plain (parts_only gate_parts) old gate_after gate_adds gate_fits well refl gate_unlatched refl refl
      (named_on (parts_only gate_parts) old gate_after gate_adds old.cell_words old.words well.named)

  pub gate_made : IsGateMade inputs old gate_after id
  gate_made = record {
    continues = record {
      made = gate_well;
      grows = grows_by (parts_only gate_parts) old gate_after gate_adds [] gate_fits;
      bounded = bounded_within 1 (gate_inputs gate_parts)
          (sum_by active gate_parts + (0 + 0) + (0 + 0)) (0 + 0) 1 (length inputs) 1 0 old gate_after
          (bounded_by (parts_only gate_parts) old gate_after gate_adds)
          (omega arith) (omega arith) (omega arith) (omega arith);
      appends = appends_by (parts_only gate_parts) old gate_after gate_adds
          (All-cons (λ q. is_fed q ≡ true) (Gate inputs) [] refl (All-nil (λ q. is_fed q ≡ true)));
      marks = refl;
      cells = refl;
      words = refl;
      pads = refl;
      lifts = refl;
    };
    clear = refl;
    number = h.number;
    count = let e = length_added (parts_only gate_parts) old gate_after gate_adds in omega (arith, e);
    is_gate = ap (λ ps. slice_get ps id.0) h.parts
        ∙ get_by old.slices.net gate_parts id.0 0 (let n = h.number in omega (arith, n));
  }

-- ---- a cast

module _ (control : NetId) (old : Making) (net : List Part) (id : NetId)
    (h : net_shape.IsAdded old.slices.net Input net id) (casts : List Cast)
    (is_casts : casts ≡ old.casts ++ (let k : Cast = record { control = control; slice = id } in k) ∷ [])
    (reached : control.0 < (last_mark old).control) (well : IsWellMade old) where
  abbrev cast_after : Making
  cast_after = record old { slices = record old.slices { net = net }; casts = casts }

  abbrev the_cast : Cast
  the_cast = record { control = control; slice = id }

  abbrev cast_addition : Addition
  cast_addition = record { parts = Input ∷ []; chains = []; programs = []; casts = the_cast ∷ []; lifts = [] }

  cast_adds : Adds cast_addition old cast_after
  cast_adds = record {
    width = refl;
    control = refl;
    names = refl;
    reset = refl;
    marks = refl;
    net = h.parts;
    chains = sym (append-nil old.slices.chains);
    programs = sym (append-nil old.slices.programs);
    casts = is_casts;
    lifts = sym (append-nil old.lifts);
    cell_count = refl;
    word_count = refl;
    pad_count = refl;
    guard_count = refl;
  }

  cast_unlatched : NoneLatched (Input ∷ [])
  cast_unlatched zero phase source e = cc
  cast_unlatched (suc i) phase source e = none-some (Latch phase (Some source)) e

  cast_fits : Fits cast_addition [] old
  cast_fits = record {
    chains = All-nil (ChainFits old (length old.slices.net + 1));
    programs = All-nil (λ (p : Programmed). length old.slices.net ≤ p.net.0);
    casts = All-cons (CastFits old) the_cast [] (record {
      reached = reached;
      behind = let n = h.number in omega (arith, n);
    }) (All-nil (CastFits old));
    lifts = All-nil (LiftFits old (length old.slices.net + 1));
    lifts_apart = same_lifts_apart old well.joined.lifts_apart;
    entered = λ m. ap (λ (i : NetId). times m (i ∷ [])) (net_is id (length old.slices.net) h.number);
  }

  pub cast_made : IsCastMade control old cast_after id
  cast_made = record {
    continues = record {
      made = well_plain cast_addition old cast_after cast_adds cast_fits well refl cast_unlatched refl refl
          (named_on cast_addition old cast_after cast_adds old.cell_words old.words well.named);
      grows = grows_by cast_addition old cast_after cast_adds [] cast_fits;
      bounded = bounded_within 1 (gate_inputs (Input ∷ []))
          (sum_by active (Input ∷ []) + (0 + 0) + (1 + 0)) (1 + 0) 1 0 1 1 old cast_after
          (bounded_by cast_addition old cast_after cast_adds)
          (omega arith) (omega arith) (omega arith) (omega arith);
      appends = appends_by cast_addition old cast_after cast_adds
          (All-cons (λ q. is_fed q ≡ true) Input [] refl (All-nil (λ q. is_fed q ≡ true)));
      marks = refl;
      cells = refl;
      words = refl;
      pads = refl;
      lifts = refl;
    };
    clear = refl;
    guards = refl;
    count = let e = length_added cast_addition old cast_after cast_adds in omega (arith, e);
    number = h.number;
    cast = the_cast;
    is_cast = subst (λ (cs : List Cast). Contains cs the_cast) (sym is_casts) (Contains-push old.casts the_cast);
    from = refl;
    to = refl;
  }

-- ---- what tells guards and the cast of reset

module _ (m : Making) (guards : List (Option Guard)) (clear : Option NetId) (count : length guards ≡ length m.guards)
    (well : IsWellMade m) where
  abbrev told : Making
  told = record m { guards = guards; clear = clear }

  told_well : AreCast told → IsWellMade told
  told_well cast = record {
    entered = well.entered;
    joined = well.joined;
    named = well.named;
    cast = cast;
    marks = record {
      rise = well.marks.rise;
      slices_in = well.marks.slices_in;
      control_in = well.marks.control_in;
      ups = well.marks.ups;
      downs = well.marks.downs;
      casts = well.marks.casts;
      lifts = well.marks.lifts;
    };
  }

  pub told_on : AreCast told → Continues 0 0 0 0 m told
  told_on cast = record {
    made = told_well cast;
    grows = record {
      width = refl;
      control = refl;
      names = refl;
      reset = refl;
      longer = omega arith;
      parts = λ n q e f. e;
      chains = nothing_more (λ c. length m.slices.net ≤ (chain_to c).0) m.slices.chains;
      programs = nothing_more (λ (p : Programmed). length m.slices.net ≤ p.net.0) m.slices.programs;
      casts = nothing_on m.casts;
      lifts = nothing_on m.lifts;
      cell_count = refl;
      word_count = refl;
      pad_count = refl;
      guard_count = count;
    };
    bounded = record {
      nets = omega arith;
      inputs = omega arith;
      columns = omega arith;
      crossings = omega arith;
    };
    appends = ([], sym (append-nil m.slices.net), All-nil (λ q. is_fed q ≡ true));
    marks = refl;
    cells = refl;
    words = refl;
    pads = refl;
    lifts = refl;
  }

module _ (m : Making) (e : ℕ) (g : Guard) (guards : List (Option Guard))
    (is_guards : guards ≡ slice_set m.guards e (Some g)) (well : IsWellMade m)
    (is_guard : IsGuardMade m.slices.net m.casts m.names e g) where
  guards_count : length guards ≡ length m.guards
  guards_count = ap length is_guards ∙ length-set m.guards e (Some g)

  stands_now : (d : ℕ) (other : Guard) → (d ≡ e) ⊎ (d ≡ e → ⊥) → slice_get guards d ≡ Some (Some other)
      → IsGuardMade m.slices.net m.casts m.names d other
  stands_now d other (inl q) s =
      let inside = slice_get_within guards d (Some other) s in
      let here = get_set_same m.guards e (Some g) (omega (arith, inside, guards_count, q)) in
      let same = same_Some g other (same_Some (Some g) (Some other)
      (sym here ∙ (ap (λ gs. slice_get gs e) (sym is_guards) ∙ (ap (slice_get guards) (sym q) ∙ s)))) in
      subst (λ o. IsGuardMade m.slices.net m.casts m.names d o) same
      (subst (λ k. IsGuardMade m.slices.net m.casts m.names k g) (sym q) is_guard)
  stands_now d other (inr ne) s =
      well.cast.guards d other (sym (get_set_other m.guards e (Some g) d ne)
      ∙ (ap (λ gs. slice_get gs d) (sym is_guards) ∙ s))

  pub guard_told : Continues 0 0 0 0 m (record m { guards = guards })
  guard_told =
      told_on m guards m.clear guards_count well (record {
        count = guards_count ∙ well.cast.count;
        guards = λ d other s. stands_now d other (cases_eq d e) s;
        clear = well.cast.clear;
      })

-- ---- guards

pub guard_within : (m : Making) (e : ℕ) → IsWellMade m → IsBitReached m m.names.exprs e → e < length m.guards
guard_within m e well (id, s, l) =
    let k = slice_get_within m.names.exprs e (Some id) s in let n = well.cast.count in omega (arith, k, n)

pub found_there : (guards : List (Option Guard)) (e : ℕ) (o : Option Guard) (g : Guard) → e < length guards
    → o ≡ get_or guards e o → o ≡ Some g → slice_get guards e ≡ Some (Some g)
found_there guards e o g l h is = slice_get-get_or guards e o l ∙ ap Some (sym h ∙ is)

pub guard_there : (m : Making) (e : ℕ) (g : Guard) → slice_get m.guards e ≡ Some (Some g) → IsWellMade m
    → IsGuardFound e m m g
guard_there m e g s well = record {
  continues = cont_within 0 0 0 0 2 1 2 1 m m (cont_none m well) (omega arith) (omega arith) (omega arith)
      (omega arith);
  clear = refl;
  is_guard = well.cast.guards e g s;
}

module _ (e : ℕ) (control cast off : NetId) (old first second : Making) (guards : List (Option Guard))
    (stands : Stands old.names.exprs e control) (is_cast : IsCastMade control old first cast)
    (is_off : IsGateMade (cast ∷ []) first second off)
    (is_guards : guards ≡ slice_set second.guards e (Some (let g : Guard = record { cast = cast; off = off } in g)))
  where
    abbrev the_guard : Guard
    the_guard = record { cast = cast; off = off }

    both : Continues 2 1 2 1 old second
    both = cont_on 1 0 1 1 1 1 1 0 old first second is_cast.continues is_off.continues

    is_guard : IsGuardMade second.slices.net second.casts old.names e the_guard
    is_guard = record {
      is_cast = guard_lasts first second is_off.continues.grows old.names e cast (
        is_cast.cast,
        is_cast.is_cast,
        subst (Stands old.names.exprs e) (sym is_cast.from) stands,
        is_cast.to,
      );
      is_off = is_off.is_gate;
    }

    pub guard_made : IsGuardFound e old (record second { guards = guards }) the_guard
    guard_made = record {
      continues = cont_on 2 1 2 1 0 0 0 0 old second (record second { guards = guards }) both
          (guard_told second e the_guard guards is_guards is_off.continues.made
          (subst (λ (names : Names). IsGuardMade second.slices.net second.casts names e the_guard)
          (sym both.grows.names) is_guard));
      clear = is_off.clear ∙ is_cast.clear;
      is_guard = is_guard;
    }

-- ---- terms

-- the slice net of a cast is one of the slices
pub cast_within : (m : Making) → IsWellMade m → (c : Cast) → Contains m.casts c → (id : NetId) → c.slice ≡ id
    → id.0 < length m.slices.net
cast_within m well c has id e = by_test (is_input (slice_get m.slices.net id.0)) refl
  where
    some : 1 ≤ times id.0 (slice_ends (present m.pads) m.slices m.casts)
    some =
        let n = ends_count id.0 (present m.pads) m.slices m.casts in
        let t = mapped_some m.casts c has id e in
        omega (arith, n, t)

    by_test : (b : Bool) → is_input (slice_get m.slices.net id.0) ≡ b → id.0 < length m.slices.net
    by_test true q = input_within m.slices.net id.0 q
    by_test false q =
        absurd (let o = well.entered.once id.0 ∙ ap (λ b. cond b 1 0) q in omega (arith, o, some))

pub bit_reached_on : (n i c x e : ℕ) (old new : Making) → Continues n i c x old new
    → IsBitReached old old.names.exprs e → IsBitReached new new.names.exprs e
bit_reached_on n i c x e old new h (id, s, l) = (
  id,
  subst (λ (names : Names). Stands names.exprs e id) (sym h.grows.names) s,
  (let k = ap (λ (ms : List Mark). (last_from start ms).control) h.marks in omega (arith, l, k)),
)

pub reached_on : (n i c x : ℕ) (t : Transfer) (old new : Making) → Continues n i c x old new
    → IsTransferReached old t → IsTransferReached new t
reached_on n i c x t old new h r = (
  (r.0.0, subst (λ (ws : List (Option NetId)). Stands ws t.value r.0.0) (sym h.words) r.0.1),
  bit_reached_on n i c x t.guard old new h r.1,
)

module _ (t : Transfer) (old first second third : Making) (g : Guard) (value off term : NetId)
    (found : IsGuardFound t.guard old first g) (stands : Stands first.words t.value value)
    (is_off : IsGateMade (value ∷ []) first second off)
    (is_term : IsGateMade (off ∷ g.off ∷ []) second third term) where
  abbrev the_term : Term
  the_term = record { net = term; guard = g.cast }

  two_on : Continues 2 3 2 0 first third
  two_on = cont_on 1 1 1 0 1 2 1 0 first second third is_off.continues is_term.continues

  guard_in : g.cast.0 < length first.slices.net
  guard_in = cast_within first found.continues.made found.is_guard.is_cast.0 found.is_guard.is_cast.1 g.cast
      found.is_guard.is_cast.3

  pub term_made : IsTermMade t old third the_term
  term_made = record {
    continues = cont_on 2 1 2 1 2 3 2 0 old first third found.continues two_on;
    clear = is_term.clear ∙ (is_off.clear ∙ found.clear);
    is_term = record {
      value = value;
      off_value = off;
      guard = g.cast;
      off_guard = g.off;
      is_value = subst (λ (ws : List (Option NetId)). Stands ws t.value value) found.continues.words stands;
      is_guard = guard_lasts first third two_on.grows old.names t.guard g.cast found.is_guard.is_cast;
      is_off_value = gate_lasts second third is_term.continues.grows off (value ∷ []) is_off.is_gate;
      is_off_guard = gate_lasts first third two_on.grows g.off (g.cast ∷ []) found.is_guard.is_off;
      is_term = is_term.is_gate;
    };
    is_guard = guard_lasts first third two_on.grows old.names t.guard g.cast found.is_guard.is_cast;
    guard_in = let l = two_on.grows.longer in omega (arith, guard_in, l);
  }

pub no_terms : (m : Making) → IsWellMade m → AreTerms [] m m (record { nets = []; guards = [] })
no_terms m well = record {
  continues = cont_none m well;
  clear = refl;
  are_terms = tt;
  are_guards = tt;
  guards_in = All-nil (λ (id : NetId). id.0 < length m.slices.net);
}

-- one more term
module _ (ts : List Transfer) (i : ℕ) (d : Transfer) (old middle new : Making) (made : Terms) (term : Term)
    (l : i < length ts) (h : AreTerms (take i ts) old middle made) (one : IsTermMade (get_or ts i d) middle new term)
  where
    abbrev more : Terms
    more = record { nets = made.nets ++ term.net ∷ []; guards = made.guards ++ term.guard ∷ [] }

    short : length (take i ts) ≡ i
    short = let e = length-take i ts in omega (arith, e)

    long : length (take (i + 1) ts) ≡ i + 1
    long = let e = length-take (i + 1) ts in omega (arith, e)

    abbrev k : ℕ
    k = length (take i ts)

    same_words : (e : ℕ) (id : NetId) → Stands old.words e id → Stands old.words e id
    same_words e id s = s

    pub terms_more : AreTerms (take (i + 1) ts) old new more
    terms_more = record {
      continues = cont_within (4 * k + 4) (4 * k + 4) (4 * k + 4) (k + 1) (4 * length (take (i + 1) ts))
          (4 * length (take (i + 1) ts)) (4 * length (take (i + 1) ts)) (length (take (i + 1) ts)) old new
          (cont_on (4 * k) (4 * k) (4 * k) k 4 4 4 1 old middle new h.continues one.continues)
          (omega (arith, short, long)) (omega (arith, short, long)) (omega (arith, short, long))
          (omega (arith, short, long));
      clear = one.clear ∙ h.clear;
      are_terms = zip_more (IsTerm new.slices new.casts old.names old.words) ts made.nets i d term.net l
          (terms_last middle new one.continues.grows old.names old.words old.words same_words (take i ts) made.nets
          h.are_terms)
          (subst (λ (ws : List (Option NetId)). IsTerm new.slices new.casts old.names ws (get_or ts i d) term.net)
          h.continues.words
          (subst (λ (names : Names). IsTerm new.slices new.casts names middle.words (get_or ts i d) term.net)
          h.continues.grows.names one.is_term));
      are_guards = zip_more (λ (t : Transfer) g. IsGuard new.casts old.names t.guard g) ts made.guards i d term.guard l
          (guards_last middle new one.continues.grows old.names old.words old.words same_words (take i ts)
          made.guards h.are_guards)
          (subst (λ (names : Names). IsGuard new.casts names (get_or ts i d).guard term.guard)
          h.continues.grows.names one.is_guard);
      guards_in = All-append (λ (id : NetId). id.0 < length new.slices.net) made.guards (term.guard ∷ [])
          (All-weaker (λ (id : NetId). id.0 < length middle.slices.net) (λ (id : NetId). id.0 < length new.slices.net)
          (λ id g. let e = one.continues.grows.longer in omega (arith, g, e)) made.guards h.guards_in)
          (All-cons (λ (id : NetId). id.0 < length new.slices.net) term.guard [] one.guard_in
          (All-nil (λ (id : NetId). id.0 < length new.slices.net)));
    }

-- terms stand in the net
pub terms_in : (ts : List Transfer) (old new : Making) (made : Terms) → AreTerms ts old new made
    → All (λ (id : NetId). id.0 < length new.slices.net) made.nets
terms_in ts old new made h =
    zip_all_right (IsTerm new.slices new.casts old.names old.words) (λ (id : NetId). id.0 < length new.slices.net)
    (λ t id is. slice_get_within new.slices.net id.0 (Gate (is.off_value ∷ is.off_guard ∷ [])) is.is_term)
    ts
    made.nets
    h.are_terms
