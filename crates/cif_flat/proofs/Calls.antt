-- What is met at calls.
use Rattle.std.proofs.Common.{ℕ, suc, ◌≡◌, ◌+◌, ◌*◌, ◌^◌, ◌<◌, ◌⊎◌, refl, sym, ◌∙◌, ap, subst, arith, inl, inr, List}
use Rattle.std.proofs.Common.{[], ◌∷◌, ◌++◌, length, get_or, append-nil, Option, Some, None}
use Rattle.std.specs.Prelude.{◌≢◌, ℤ, pos, Contains, slice_get, slice_range, Ok, Err}
use Rattle.std.specs.BTreeMap.{BTreeMap, get}
use Rattle.std.specs.Ordering.{nat_cmp}
use Rattle.std.proofs.lemmas.Bool.{cases_order}
use Rattle.std.proofs.lemmas.Int.{ints}
use Rattle.std.proofs.lemmas.List.{length-append}
use Rattle.std.proofs.lemmas.List.Elements.{Contains-append_left, Contains-append_right, Contains-append_cases}
use Rattle.std.proofs.lemmas.List.Elements.{Contains-push, Contains-get_or}
use Rattle.mp_base.proofs.Contents.{nothing_in, contains_one, is_only_one, contains_head}
use Rattle.mp_base.proofs.Entries.{one_value}
use Rattle.cif_form.specs.declared.command.Turn.{Turn}
use Rattle.cif_form.specs.declared.command.Command.TheVariants.{Call}
use Rattle.cif_form.specs.declared.command.Item.{Item}
use Rattle.cif_form.specs.Place.{IsScale}
use Rattle.cif_form.specs.Expansion.{Definition, Stands, item_at}
use Rattle.cif_form.specs.Walk.{Frame, Visit, Breaks, within}
use Rattle.cif_form.specs.Walk.DrawRule.{F1, F2, F4}
use Rattle.cif_form.proofs.OneWalk.{one_definition}
use Rattle.cif_flat.specs.declared.called.Composed.{Composed}
use Rattle.cif_flat.specs.declared.fault.Fault.{Fault}
use Rattle.cif_flat.specs.declared.fault.Fault.TheVariants as faults
use Rattle.cif_flat.specs.declared.level.Level.{Level}
use Rattle.cif_place.specs.declared.placement.Placement.{Placement}
use Rattle.cif_place.specs.declared.ratio.Ratio.{Ratio}
use Rattle.cif_flat.specs.declared.symbol.Symbol.{Symbol}
use Rattle.cif_place.specs.declared.turned.Turned.{Turned}
use Rattle.cif_flat.specs.declared.walker.Walker.{Walker}
use Rattle.cif_place.specs.Placing.{IsHeld, scale_of, place_of, after}
use Rattle.cif_place.specs.Turning.{IsTurned, IsHeldTurned, HasUneven}
use Rattle.cif_flat.specs.Calling.{IsCallOf, AreCalls, IsCallAt, IsCalled}
use Rattle.cif_flat.specs.Refusing.{RefusesWalk, refusal_of}
use Rattle.cif_form.specs.Names.{way_into}
use Rattle.cif_flat.specs.Naming.{name_of, way_of}
use Rattle.cif_flat.specs.declared.names.Names.{Names}
use Rattle.cif_flat.specs.Walking.{IsBehind, IsWayAt, AreNamed}
use Rattle.cif_flat.proofs.Ways.{named_last, named_same, named_inside, named_behind, way_same}
use Rattle.cif_flat.specs.Walking.{frame_of, symbol_of, onto, state_of, definition_of, IsNested, IsLevel, EachLevel}
use Rattle.cif_flat.specs.Walking.{IsOpen, entered, Leads, IsWalking, IsVisit, rest, distance, IsAfter}
use Rattle.cif_place.specs.Laws.{AfterPlaces, AfterHolds}
use Rattle.cif_flat.proofs.Rules.{none, first1, first2, first3, first4, first7, first8}
use Rattle.cif_form.proofs.WalkExamples.{never}
use Rattle.cif_flat.proofs.Walks.{visit_at, stops, onward, onto_push, each_push, level_later, level_onward, left_next}
use Rattle.cif_flat.proofs.Walks.{stack_of, level_of, leads_step, rest_less}

-- ---- composed turns

pub call_found : (items : List Item) (calls : BTreeMap ℕ Composed) (at : ℕ) (turns : List Turn) (c : Composed)
    → AreCalls items calls → IsCallAt items at turns → get nat_cmp calls at ≡ Some c
    → IsTurned (scale_of c.ratio) turns c.turned × IsHeldTurned (2 ^ 104) c.turned
call_found items calls at turns c a (o, n, e) g = a at c g (item_at o (Call n turns)) e o n turns refl

same_turns : (o p : ℕ) (n m : ℤ) (ts us : List Turn) → item_at o (Call n ts) ≡ item_at p (Call m us) → ts ≡ us
same_turns o p n m ts us e = let f : Call n ts ≡ Call m us = ap (λ i. i.command) e in cc

pub calls_set : (items : List Item) (old new : BTreeMap ℕ Composed) (at : ℕ) (ratio : Ratio) (turned : Turned)
    (turns : List Turn) → AreCalls items old → IsCallAt items at turns
    → IsTurned (scale_of ratio) turns turned → IsHeldTurned (2 ^ 104) turned
    → get nat_cmp new at ≡ Some (record { ratio = ratio; turned = turned })
    → ((k : ℕ) → k ≢ at → get nat_cmp new k ≡ get nat_cmp old k) → AreCalls items new
calls_set items old new at ratio turned turns a (o, n, e) t h here others k c g i s = elim (cases_order k at) [
  | inl same ↦
      let d : record { ratio = ratio; turned = turned } ≡ c = one_value _ _ _ here
      (ap (get nat_cmp new) (sym same) ∙ g) in
      let j : item_at o (Call n turns) ≡ i = one_value _ _ _ e (ap (slice_get items) (sym same) ∙ s) in
      subst (IsCallOf i) d
      (λ p m us f. let ts : turns ≡ us = same_turns o p n m turns us (j ∙ f) in
      (subst (λ us. IsTurned (scale_of ratio) us turned) ts t, h))
  | inr l ↦ a k c (sym (others k (λ f. elim l [ inl x ↦ omega arith | inr x ↦ omega arith ])) ∙ g) i s
]

-- ---- definitions that are being expanded

frames_back : (items : List Item) (vs : List Level) (fs : List Frame) (f : Frame) → Contains (onto items vs fs) f
    → ((v : Level) × Contains vs v × (f.symbol ≡ symbol_of v.symbol)) ⊎ Contains fs f
frames_back items [] fs f h = inr h
frames_back items (v ∷ vs) fs f h = elim (frames_back items vs (frame_of items fs v ∷ fs) f h) [
  | inl a ↦ inl (a.0, Contains-append_right (v ∷ []) vs a.0 a.1, a.2)
  | inr b ↦ elim (Contains-append_cases (frame_of items fs v ∷ []) fs f b) [
    | inl c ↦ inl (
      v,
      Contains-append_left (v ∷ []) vs v (contains_one v),
      ap (λ g. g.symbol) (is_only_one (frame_of items fs v) f c),
    )
    | inr c ↦ inr c
  ]
]

frames_has : (items : List Item) (vs : List Level) (fs : List Frame) (f : Frame) → Contains fs f
    → Contains (onto items vs fs) f
frames_has items [] fs f h = h
frames_has items (v ∷ vs) fs f h =
    frames_has items vs (frame_of items fs v ∷ fs) f (Contains-append_right (frame_of items fs v ∷ []) fs f h)

frames_there : (items : List Item) (vs : List Level) (fs : List Frame) (v : Level) → Contains vs v
    → (f : Frame) × Contains (onto items vs fs) f × (f.symbol ≡ symbol_of v.symbol)
frames_there items [] fs v h = absurd (nothing_in v h)
frames_there items (u ∷ vs) fs v h = elim (Contains-append_cases (u ∷ []) vs v h) [
  | inl c ↦ (
    frame_of items fs u,
    frames_has items vs (frame_of items fs u ∷ fs) (frame_of items fs u) (contains_head (frame_of items fs u) fs),
    ap (λ (o : Level). symbol_of o.symbol) (sym (is_only_one u v c)),
  )
  | inr c ↦ frames_there items vs (frame_of items fs u ∷ fs) v c
]

some_symbol : (o : Option ℕ) (n : ℕ) → symbol_of o ≡ Some (pos n) → o ≡ Some n
some_symbol None n h = cc
some_symbol (Some m) n h = let e : pos m ≡ pos n = cc in ap (λ n. Some n) (omega (arith, ints, e))

rest_deeper : (vs : List Level) (v : Level) → 0 < length vs → rest (vs ++ (v ∷ [])) ≡ rest vs
rest_deeper [] v h = absurd (omega arith)
rest_deeper (u ∷ vs) v h = refl

-- ---- calls

module _ (items : List Item) (w : Walker) (v : Level) (o : ℕ) (n : ℤ) (ts : List Turn)
    (h : IsVisit items w v (item_at o (Call n ts))) (key : ℕ) (is : pos key ≡ n) where
  abbrev call_item : Item
  call_item = item_at o (Call n ts)

  abbrev call_visit : Visit
  call_visit = visit_at items w v call_item h

  abbrev all_levels : List Level
  all_levels = w.levels.items ++ (v ∷ [])

  pub call_unknown : get nat_cmp w.symbols key ≡ None → RefusesWalk items (refusal_of faults.F1 o)
  call_unknown g =
      stops items w v call_item h faults.F1
      (first1 call_visit
      (subst (λ m. (d : Definition) → ¬ Stands h.walking.definitions m d) is (h.walking.table.missing key g)))

  module _ (s : Symbol) (known : get nat_cmp w.symbols key ≡ Some s) where
    stands : Stands h.walking.definitions n (definition_of items key s)
    stands =
        subst (λ m. Stands h.walking.definitions m (definition_of items key s)) is (h.walking.table.stands key s known)

    no_f1 : ¬ Breaks call_visit F1
    no_f1 b = b (definition_of items key s) stands

    pub call_open : IsOpen all_levels key → RefusesWalk items (refusal_of faults.F2 o)
    call_open (u, c, e) =
        let there = frames_there items all_levels [] u c in
        stops items w v call_item h faults.F2 (first2 call_visit (
          there.0,
          subst (λ fs. Contains fs there.0) (onto_push items w.levels.items v []) there.1,
          there.2 ∙ ap symbol_of e ∙ ap (λ m. Some m) is,
        ) no_f1)

    module _ (shut : ¬ IsOpen all_levels key) where
      no_f2 : ¬ Breaks call_visit F2
      no_f2 (f, c, e) =
          elim (frames_back items all_levels [] f
          (subst (λ fs. Contains fs f) (sym (onto_push items w.levels.items v [])) c)) [
            | inl a ↦
                shut (
                  a.0,
                  a.1,
                  some_symbol a.0.symbol key
                      (sym a.2 ∙ e ∙ ap (λ m. Some m) (sym is)),
                )
            | inr b ↦ nothing_in f b
          ]

      no_f4 : IsScale (scale_of s.ratio) → ¬ HasUneven (scale_of v.ratio) ts → ¬ Breaks call_visit F4
      no_f4 b c (inl (d, st, wrong)) =
          wrong (subst (λ d. IsScale d.scale) (one_definition _ _ (definition_of items key s) d stands st) b)
      no_f4 b c (inr u) = c u

      pub call_fault : (f : Fault) → IsCalled (scale_of v.ratio) ts s.ratio w.count (Err f)
          → RefusesWalk items (refusal_of f o)
      call_fault faults.F3 a = stops items w v call_item h faults.F3 (first3 call_visit a no_f1 no_f2)
      call_fault faults.F4 (a, inl b) =
          stops items w v call_item h faults.F4
          (first4 call_visit (inl (definition_of items key s, stands, b)) no_f1 no_f2 a)
      call_fault faults.F4 (a, inr b) = stops items w v call_item h faults.F4 (first4 call_visit (inr b) no_f1 no_f2 a)
      call_fault faults.F7 (a, b, c, d) =
          stops items w v call_item h faults.F7
          (first7 call_visit (omega (arith, d)) no_f1 no_f2 a (no_f4 b c) never never)
      call_fault faults.F8 (a, b, c, d, e) =
          stops items w v call_item h faults.F8
          (first8 call_visit e no_f1 no_f2 a (no_f4 b c) never never (λ k. omega (arith, k, d)))
      call_fault faults.F1 a = absurd a
      call_fault faults.F2 a = absurd a
      call_fault faults.F5 a = absurd a
      call_fault faults.F6 a = absurd a
      call_fault faults.F9 a = absurd a
      call_fault faults.F10 a = absurd a

      module _ (p : Placement) (a : IsCalled (scale_of v.ratio) ts s.ratio w.count (Ok p)) (held : IsHeld (2 ^ 104) p)
          (opened : BTreeMap ℕ ℕ)
          (way : Option ℕ) (m : Names) (behind : IsBehind w.names.ways.items m.ways.items v.way s.named way)
          (stepped : m ≡ record w.names { ways = m.ways; steps = m.steps })
          (here : get nat_cmp opened key ≡ Some (length w.levels.items + 1))
          (others : (k : ℕ) → k ≢ key → get nat_cmp opened k ≡ get nat_cmp w.opened k) (places : AfterPlaces)
          (holds : AfterHolds) where
        abbrev outer_levels : List Level
        outer_levels = w.levels.items ++ (onward v v.layer ∷ [])

        abbrev inner : Level
        inner = entered v key s way p

        -- a number that is open keeps its depth
        still_open : (u : Level) (k : ℕ) → Contains all_levels u
            → ((m : ℕ) → u.symbol ≡ Some m → get nat_cmp w.opened m ≡ Some k) → (m : ℕ) → u.symbol ≡ Some m
            → get nat_cmp opened m ≡ Some k
        still_open u k c f m e = others m (λ i. shut (u, c, e ∙ ap (λ j. Some j) i)) ∙ f m e

        level_kept : (k : ℕ) (u : Level) → Contains all_levels u → IsLevel items w.count w.opened k u
            → IsLevel items (w.count + 1) opened k u
        level_kept k u c l =
            let m = level_later items w.count (w.count + 1) w.opened k u (omega arith) l in
            record {
              ratio = m.ratio;
              held = m.held;
              forward = m.forward;
              within = m.within;
              nested = m.nested;
              number = still_open u k c l.number;
            }

        level_in : IsLevel items (w.count + 1) opened (length outer_levels) inner
        level_in =
            let f = h.walking.table.fits key s known in
            let l = level_of items w v call_item h in
            let deep : suc (length w.levels.items) ≡ length outer_levels =
            omega (arith, length-append w.levels.items (onward v v.layer ∷ [])) in
            let b = a.1 in
            record {
              ratio = record { a = b.0; b = b.1; short_a = f.ratio.short_a; short_b = f.ratio.short_b };
              held = subst (λ n. IsHeld n (after v.placement p)) (omega arith)
                  (holds (2 ^ 104 * w.count) (2 ^ 104) v.placement p l.held held);
              forward = f.forward;
              within = f.within;
              nested = subst (λ k. IsNested k (slice_range items s.first s.end)) deep f.inside;
              number = λ m e. ap (get nat_cmp opened) (number_of m e) ∙ here
                  ∙ ap (λ k. Some k) (omega (arith, length-append w.levels.items (onward v v.layer ∷ [])));
            }
          where
            number_of : (m : ℕ) → Some key ≡ Some m → m ≡ key
            number_of m e = cc

        level_out : IsLevel items (w.count + 1) opened (length w.levels.items) (onward v v.layer)
        level_out =
            let l = level_of items w v call_item h in
            let m = level_onward items w.count (w.count + 1) w.opened (length w.levels.items) v v.layer call_item
            (omega arith) h.more (left_next items v call_item h.more h.here) (λ b e. cc) l in
            record {
              ratio = m.ratio;
              held = m.held;
              forward = m.forward;
              within = m.within;
              nested = m.nested;
              number = still_open v (length w.levels.items) (Contains-push w.levels.items v) l.number;
            }

        stack_in : EachLevel (IsLevel items (w.count + 1) opened) (outer_levels ++ (inner ∷ []))
        stack_in = each_push (IsLevel items (w.count + 1) opened) outer_levels inner
            (each_push (IsLevel items (w.count + 1) opened) w.levels.items (onward v v.layer)
            (λ k d m. level_kept k (get_or w.levels.items k d)
            (Contains-append_left w.levels.items (v ∷ []) (get_or w.levels.items k d)
            (Contains-get_or w.levels.items k d m)) (stack_of items w v call_item h k d m)) level_out)
            level_in

        named_in : AreNamed items m w.met (outer_levels ++ (inner ∷ []))
        named_in =
            let last = named_last items w.names w.met w.levels.items v h.walking.named in
            let here = way_of items all_levels in
            let out = onward v v.layer in
            let b = named_behind items w.names w.met all_levels h.walking.named m v.way s.named way here last
            behind stepped in
            let g = named_same items m w.met w.levels.items out v refl refl b.0 in
            named_inside items m w.met outer_levels g inner
            (omega (arith, length-append w.levels.items (out ∷ [])))
            (subst (λ z. IsWayAt b.0.ways way (way_into z (name_of items s.named)))
            (way_same items w.levels.items v out refl) b.1)

        came_in : (let t = within call_visit (definition_of items key s) a.5.0 in
            t ≡ state_of items h.walking.definitions (w.count + 1) h.walking.names (outer_levels ++ (inner ∷ [])))
        came_in =
            let fs =
            onto_push items outer_levels inner []
            ∙ ap (λ gs. frame_of items gs inner ∷ gs) (onto_push items w.levels.items (onward v v.layer) []) in
            let around = onto items w.levels.items [] in
            let caller = frame_of items around (onward v v.layer) in
            let same : frame_of items (caller ∷ around) inner ∷ caller ∷ around
            ≡ onto items (outer_levels ++ (inner ∷ [])) [] = sym fs in
            (λ i. record {
              definitions = h.walking.definitions;
              count = w.count + 1;
              names = h.walking.names;
              frames =
                  record {
                    symbol = Some (pos key);
                    way = way_into caller.way (name_of items s.named);
                    scale = scale_of s.ratio;
                    layer = None;
                    place = λ r. (ap (place_of v.placement) (a.5.2 r) ∙ sym (places v.placement p r)) i;
                    left = slice_range items s.first s.end;
                  }
                  ∷ caller ∷ around;
            }) ∙ (λ i. record {
              definitions = h.walking.definitions;
              count = w.count + 1;
              names = h.walking.names;
              frames = same i;
            })

        pub call_entered : (new : Walker) (calls : BTreeMap ℕ Composed) → AreCalls items calls
            → new ≡ record w {
              opened = opened;
              calls = calls;
              names = m;
              count = w.count + 1;
              levels = new.levels;
            }
            → new.levels.items ≡ outer_levels ++ (inner ∷ []) → IsAfter items w v new
        call_entered new calls ac kept pushed =
            let leads = leads_step items w v call_item h [] [] (within call_visit (definition_of items key s) a.5.0)
            (none call_visit no_f1 no_f2 a.0 (no_f4 a.1 a.2) never never (λ k. omega (arith, k, a.3)) a.4 never never)
            (definition_of items key s, a.5.0, stands, a.5.1, refl, refl, refl) in
            let mid : Walker = record w {
              opened = opened;
              calls = calls;
              names = m;
              count = w.count + 1;
              levels = new.levels;
            } in
            let walking : IsWalking items mid (outer_levels ++ (inner ∷ [])) = record {
              definitions = h.walking.definitions;
              table = h.walking.table;
              calls = ac;
              names = h.walking.names;
              met = h.walking.met;
              named = named_in;
              leads = subst
                  (λ xs. Leads items xs w.labels
                  (state_of items h.walking.definitions (w.count + 1) h.walking.names (outer_levels ++ (inner ∷ []))))
                  (append-nil w.shapes)
                  (subst (λ ys. Leads items (w.shapes ++ []) ys
                  (state_of items h.walking.definitions (w.count + 1) h.walking.names (outer_levels ++ (inner ∷ []))))
                  (append-nil w.labels)
                  (subst (Leads items (w.shapes ++ []) (w.labels ++ [])) came_in leads));
              limit = omega (arith, a.3);
              stack = stack_in;
            } in
            let count : new.count ≡ w.count + 1 = ap (λ x. x.count) kept in
            let less = rest_less w.levels.items (onward v v.layer) v (omega arith) in
            let deeper =
            rest_deeper outer_levels inner (omega (arith, length-append w.levels.items (onward v v.layer ∷ []))) in
            let size : length (outer_levels ++ (inner ∷ [])) ≡ length (w.levels.items ++ (v ∷ [])) + 1 =
            omega (
              arith,
              length-append outer_levels (inner ∷ []),
              length-append w.levels.items
                  (onward v v.layer ∷ []),
              length-append w.levels.items (v ∷ []),
            ) in
            record {
              walking =
                  subst (λ x. IsWalking items x new.levels.items) (sym kept)
                  (subst (IsWalking items mid) (sym pushed) walking);
              closer =
                  subst (λ c. distance c new.levels.items < distance w.count (w.levels.items ++ (v ∷ []))) (sym count)
                  (subst (λ us. distance (w.count + 1) us < distance w.count (w.levels.items ++ (v ∷ []))) (sym pushed)
                  (omega (arith, less, deeper, size, a.3)));
            }
