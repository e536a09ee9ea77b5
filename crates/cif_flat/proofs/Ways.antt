-- Ways by number, and names that were met behind them.
use Rattle.std.proofs.Common.{ℕ, zero, suc, ◌≡◌, ◌<◌, ◌⊎◌, inl, inr, refl, sym, ◌∙◌, ap, subst, arith, List, []}
use Rattle.std.proofs.Common.{◌∷◌, ◌++◌, length, take, get_or, Option, Some, None, true, ◌||◌}
use Rattle.std.specs.Prelude.{Vec, slice_get}
use Rattle.std.specs.BTreeMap.{get}
use Rattle.std.specs.Ordering.{nat_cmp}
use Rattle.std.specs.HashSet.{HashSet}
use Rattle.std.proofs.Math.Bool.{or-true}
use Rattle.std.proofs.Math.ListN.{get_or-append}
use Rattle.std.proofs.lemmas.Bool.{cases_lt}
use Rattle.std.proofs.lemmas.Option.{slice_get_within}
use Rattle.std.proofs.lemmas.List.{length-append, get_or_at, take_all, take-append-le}
use Rattle.mp_base.proofs.Entries.{one_value}
use Rattle.cif_form.specs.declared.command.Item.{Item}
use Rattle.cif_form.specs.Names.{way_into}
use Rattle.cif_flat.specs.declared.level.Level.{Level}
use Rattle.cif_flat.specs.declared.symbol.Naming.{Naming}
use Rattle.cif_flat.specs.declared.names.Step.{Step}
use Rattle.cif_flat.specs.declared.names.Names.{Names}
use Rattle.cif_flat.specs.Naming.{naming_bytes, name_of, way_from, way_of}
use Rattle.cif_flat.specs.Meeting.{was_met, is_name}
use Rattle.cif_flat.specs.Labelling.{AreRead}
use Rattle.cif_flat.specs.Walking.{IsBehind, IsWayAt, IsStepAt, IsMetAt, AreNamed}
use Rattle.cif_flat.proofs.Namings.{way_split, nowhere, unnamed}

-- ---- lists that grow

grown : {X : Type 0} (xs ys : List X) (n : ℕ) (x : X) → slice_get xs n ≡ Some x → slice_get (xs ++ ys) n ≡ Some x
grown [] ys n x e = absurd (omega (arith, slice_get_within [] n x e))
grown (z ∷ xs) ys zero x e = e
grown (z ∷ xs) ys (suc n) x e = grown xs ys n x e

pub last_at : {X : Type 0} (xs : List X) (x : X) → slice_get (xs ++ (x ∷ [])) (length xs) ≡ Some x
last_at [] x = refl
last_at (y ∷ xs) x = last_at xs x

the_same : {X : Type 0} (x y : X) → Some x ≡ Some y → y ≡ x
the_same x y e = cc

pushed_at : {X : Type 0} (xs : List X) (x : X) (k : ℕ) (y : X) → slice_get (xs ++ (x ∷ [])) k ≡ Some y
    → (slice_get xs k ≡ Some y) ⊎ ((k ≡ length xs) × (y ≡ x))
pushed_at [] x zero y e = inr (refl, the_same x y e)
pushed_at [] x (suc k) y e = absurd (omega (arith, slice_get_within [] k y e))
pushed_at (z ∷ xs) x zero y e = inl e
pushed_at (z ∷ xs) x (suc k) y e = elim (pushed_at xs x k y e) [
  | inl a ↦ inl a
  | inr b ↦ inr (ap suc b.0, b.1)
]

-- ---- ways

way_at_end : (items : List Item) (us : List Level) (v : Level) → 0 < length us
    → way_of items (us ++ (v ∷ [])) ≡ way_into (way_of items us) (name_of items v.named)
way_at_end items [] v h = absurd (omega (arith, h))
way_at_end items (u ∷ us) v h = way_split items (Some []) us (v ∷ [])

pub way_same : (items : List Item) (vs : List Level) (u v : Level) → u.named ≡ v.named
    → way_of items (vs ++ (u ∷ [])) ≡ way_of items (vs ++ (v ∷ []))
way_same items [] u v e = refl
way_same items (t ∷ vs) u v e =
    way_split items (Some []) vs (u ∷ [])
    ∙ ap (λ n. way_into (way_from items (Some []) vs) (name_of items n)) e
    ∙ sym (way_split items (Some []) vs (v ∷ []))

way_grown : (ways more : List (List ℕ)) (n : Option ℕ) (way : Option (List ℕ)) → IsWayAt ways n way
    → IsWayAt (ways ++ more) n way
way_grown ways more None way e = e
way_grown ways more (Some n) way (b, g, e) = (b, grown ways more n b g, e)

module _ {A S : Type 0} (items : List Item) (n : Names) (met : HashSet (Vec ℕ A) S) (vs : List Level) where
  -- ---- levels

  abbrev pub named_front : (v : Level) → AreNamed items n met (vs ++ (v ∷ [])) → AreNamed items n met vs
  named_front v h = record {
    ways = h.ways;
    size = h.size;
    root = h.root;
    steps = h.steps;
    repeated = h.repeated;
    read = h.read;
    levels = λ k d m.
        let us = vs ++ (v ∷ []) in
        let f : take (suc k) us ≡ take (suc k) vs = take-append-le (suc k) vs (v ∷ []) (omega (arith, m)) in
        subst (λ (u : Level). IsWayAt h.ways u.way (way_of items (take (suc k) vs))) (get_or-append vs (v ∷ []) d k m)
        (subst (λ xs. IsWayAt h.ways (get_or us k d).way (way_of items xs)) f
        (h.levels k d (omega (arith, length-append vs (v ∷ []), m))));
  }

  pub named_last : (v : Level) (h : AreNamed items n met (vs ++ (v ∷ [])))
      → IsWayAt h.ways v.way (way_of items (vs ++ (v ∷ [])))
  named_last v h =
      let us = vs ++ (v ∷ []) in
      let size = length-append vs (v ∷ []) in
      let f : take (suc (length vs)) us ≡ us = take_all (suc (length vs)) us (omega (arith, size)) in
      subst (λ (u : Level). IsWayAt h.ways u.way (way_of items us)) (get_or_at vs v [] v (length vs) refl)
      (subst (λ xs. IsWayAt h.ways (get_or us (length vs) v).way (way_of items xs)) f
      (h.levels (length vs) v (omega (arith, size))))

  abbrev pub named_push : (h : AreNamed items n met vs) (v : Level)
      → IsWayAt h.ways v.way (way_of items (vs ++ (v ∷ []))) → AreNamed items n met (vs ++ (v ∷ []))
  named_push h v p = record {
    ways = h.ways;
    size = h.size;
    root = h.root;
    steps = h.steps;
    repeated = h.repeated;
    read = h.read;
    levels = λ k d m. elim (cases_lt k (length vs)) [
      | inl l ↦
          (let us = vs ++ (v ∷ []) in
          let f : take (suc k) us ≡ take (suc k) vs = take-append-le (suc k) vs (v ∷ []) (omega (arith, l)) in
          subst (λ (u : Level). IsWayAt h.ways u.way (way_of items (take (suc k) us)))
          (sym (get_or-append vs (v ∷ []) d k l))
          (subst (λ xs. IsWayAt h.ways (get_or vs k d).way (way_of items xs)) (sym f) (h.levels k d l)))
      | inr l ↦
          (let us = vs ++ (v ∷ []) in
          let size = length-append vs (v ∷ []) in
          let e : length vs ≡ k = omega (arith, size, m, l) in
          let f : take (suc k) us ≡ us = take_all (suc k) us (omega (arith, size, l)) in
          subst (λ (u : Level). IsWayAt h.ways u.way (way_of items (take (suc k) us))) (sym (get_or_at vs v [] d k e))
          (subst (λ xs. IsWayAt h.ways v.way (way_of items xs)) (sym f) p))
    ];
  }

  -- the innermost level is changed, but neither its name nor its way
  abbrev pub named_same : (u v : Level) → u.named ≡ v.named → u.way ≡ v.way → AreNamed items n met (vs ++ (v ∷ []))
      → AreNamed items n met (vs ++ (u ∷ []))
  named_same u v e f h =
      named_push (named_front v h) u
      (subst (λ w. IsWayAt h.ways w (way_of items (vs ++ (u ∷ [])))) (sym f)
      (subst (IsWayAt h.ways v.way) (sym (way_same items vs u v e)) (named_last v h)))

  -- a level inside of them
  pub named_inside : (h : AreNamed items n met vs) (v : Level) → 0 < length vs
      → IsWayAt h.ways v.way (way_into (way_of items vs) (name_of items v.named))
      → AreNamed items n met (vs ++ (v ∷ []))
  named_inside h v some p = named_push h v (subst (IsWayAt h.ways v.way) (sym (way_at_end items vs v some)) p)

  -- ---- notes

  pub named_met : (new : HashSet (Vec ℕ A) S) (name : List ℕ)
      → ((q : List ℕ) → was_met new q ≡ (is_name name q || was_met met q)) → AreNamed items n met vs
      → AreNamed items n new vs
  named_met new name more h = record {
    ways = h.ways;
    size = h.size;
    root = h.root;
    steps = h.steps;
    repeated = λ k s g.
        let r = h.repeated k s g in
        let q = r.0 ++ naming_bytes items s.naming in
        (r.0, r.1, more q ∙ ap (λ b. is_name name q || b) r.2 ∙ or-true (is_name name q));
    read = h.read;
    levels = h.levels;
  }

  pub named_first : (m : Names) → m ≡ record n { first = m.first } → AreNamed items n met vs → AreNamed items m met vs
  named_first m e h = subst (λ x. AreNamed items x met vs) (sym e) (record {
    ways = h.ways;
    size = h.size;
    root = h.root;
    steps = h.steps;
    repeated = h.repeated;
    read = h.read;
    levels = h.levels;
  })

  pub named_read : (m : Names) → m ≡ record n { first = m.first; read = m.read } → AreRead items m.read
      → AreNamed items n met vs → AreNamed items m met vs
  named_read m e r h = subst (λ x. AreNamed items x met vs) (sym e) (record {
    ways = h.ways;
    size = h.size;
    root = h.root;
    steps = h.steps;
    repeated = h.repeated;
    read = r;
    levels = h.levels;
  })

  pub named_repeated : (m : Names) → m ≡ record n { repeated = m.repeated } → (s : Step)
      → ((k : ℕ) (t : Step) → get nat_cmp m.repeated k ≡ Some t → (t ≡ s) ⊎ (get nat_cmp n.repeated k ≡ Some t))
      → (h : AreNamed items n met vs) → IsMetAt items h.ways met s → AreNamed items m met vs
  named_repeated m e s noted h is = subst (λ x. AreNamed items x met vs) (sym e) (record {
    ways = h.ways;
    size = h.size;
    root = h.root;
    steps = h.steps;
    repeated = λ k t g. elim (noted k t g) [
      | inl f ↦ subst (IsMetAt items h.ways met) (sym f) is
      | inr g ↦ h.repeated k t g
    ];
    read = h.read;
    levels = h.levels;
  })

  -- ---- a way more

  module _ (h : AreNamed items n met vs) (m : Names) where
    abbrev stepped : Names
    stepped = record n { ways = m.ways; steps = m.steps }

    abbrev same_ways : m.ways.items ≡ n.ways.items → AreNamed items stepped met vs
    same_ways e = record {
      ways = h.ways;
      size = h.size ∙ ap (λ xs. suc (length xs)) (sym e);
      root = h.root;
      steps = λ k s g. h.steps k s (subst (λ xs. slice_get xs k ≡ Some s) e g);
      repeated = h.repeated;
      read = h.read;
      levels = h.levels;
    }

    module _ (s : Step) (outer : List ℕ) (at : slice_get h.ways s.way ≡ Some outer)
        (e : m.ways.items ≡ n.ways.items ++ (s ∷ [])) where
      abbrev added : List ℕ
      added = outer ++ (naming_bytes items s.naming ++ (47 ∷ []))

      abbrev more : List (List ℕ)
      more = h.ways ++ (added ∷ [])

      step_here : IsStepAt items more (suc (length n.ways.items)) s
      step_here = (
        outer,
        grown h.ways (added ∷ []) s.way outer at,
        subst (λ j. slice_get more j ≡ Some added) h.size (last_at h.ways added),
      )

      steps_more : (k : ℕ) (t : Step) → slice_get m.ways.items k ≡ Some t → IsStepAt items more (suc k) t
      steps_more k t g = elim (pushed_at n.ways.items s k t (subst (λ xs. slice_get xs k ≡ Some t) e g)) [
        | inl a ↦
            (let r = h.steps k t a in (
              r.0,
              grown h.ways (added ∷ []) t.way r.0 r.1,
              grown h.ways (added ∷ []) (suc k) (r.0 ++ (naming_bytes items t.naming ++ (47 ∷ []))) r.2,
            ))
        | inr b ↦
            subst (IsStepAt items more (suc k)) (sym b.1)
            (subst (λ j. IsStepAt items more (suc j) s) (sym b.0) step_here)
      ]

      abbrev more_ways : AreNamed items stepped met vs
      more_ways =
          let size = length-append n.ways.items (s ∷ []) in
          let long = ap (λ xs. length xs) e in
          record {
            ways = more;
            size = omega (arith, length-append h.ways (added ∷ []), h.size, size, long);
            root = grown h.ways (added ∷ []) 0 [] h.root;
            steps = steps_more;
            repeated = λ k t g.
                let r = h.repeated k t g in (r.0, grown h.ways (added ∷ []) t.way r.0 r.1, r.2);
            read = h.read;
            levels = λ k d l.
                way_grown h.ways (added ∷ []) (get_or vs k d).way (way_of items (take (suc k) vs)) (h.levels k d l);
          }

    -- the way at the end of a step
    stepped_way : (g : AreNamed items stepped met vs) (s : Step) (k : ℕ) (b : List ℕ) (outer : Option (List ℕ))
        → slice_get m.ways.items k ≡ Some s → slice_get g.ways s.way ≡ Some b → outer ≡ Some b
        → IsWayAt g.ways (Some (suc k)) (way_into outer (Some (naming_bytes items s.naming)))
    stepped_way g s k b outer at is e =
        let r = g.steps k s at in
        let bytes = naming_bytes items s.naming in
        let same : b ≡ r.0 = one_value (slice_get g.ways s.way) b r.0 is r.1 in (
          r.0 ++ (bytes ++ (47 ∷ [])),
          r.2,
          ap (λ o. way_into o (Some bytes)) e ∙ ap (λ z. Some (z ++ (bytes ++ (47 ∷ [])))) same,
        )

    behind : (way : Option ℕ) (named : Option Naming) (id : Option ℕ) (outer : Option (List ℕ))
        → IsWayAt h.ways way outer → IsBehind n.ways.items m.ways.items way named id
        → (g : AreNamed items stepped met vs) × IsWayAt g.ways id (way_into outer (name_of items named))
    behind None named None outer o e =
        (same_ways e, ap (λ z. way_into z (name_of items named)) o ∙ nowhere (name_of items named))
    behind None named (Some id) outer o e = absurd e
    behind (Some way) None None outer o e = (same_ways e, unnamed outer)
    behind (Some way) None (Some id) outer o e = absurd e
    behind (Some way) (Some naming) None outer o e = absurd e
    behind (Some way) (Some naming) (Some zero) outer o e = absurd e
    behind (Some way) (Some naming) (Some (suc k)) outer (b, is, o) (at, inl e) =
        let g = same_ways e in
        (g, stepped_way g (record { way = way; naming = naming }) k b outer at is o)
    behind (Some way) (Some naming) (Some (suc k)) outer (b, is, o) (at, inr e) =
        let s : Step = record { way = way; naming = naming } in
        let g = more_ways s b is e in
        let added = b ++ (naming_bytes items naming ++ (47 ∷ [])) in
        (g, stepped_way g s k b outer at (grown h.ways (added ∷ []) way b is) o)

    pub named_behind : (way : Option ℕ) (named : Option Naming) (id : Option ℕ) (outer : Option (List ℕ))
        → IsWayAt h.ways way outer → IsBehind n.ways.items m.ways.items way named id
        → m ≡ record n { ways = m.ways; steps = m.steps }
        → (g : AreNamed items m met vs) × IsWayAt g.ways id (way_into outer (name_of items named))
    named_behind way named id outer o b e =
        subst (λ x. (g : AreNamed items x met vs) × IsWayAt g.ways id (way_into outer (name_of items named))) (sym e)
        (behind way named id outer o b)

-- ---- labels in the innermost level

module _ {A S : Type 0} (items : List Item) (n : Names) (met : HashSet (Vec ℕ A) S) (vs : List Level) (v : Level)
    (h : AreNamed items n met (vs ++ (v ∷ []))) where
  abbrev here : Option (List ℕ)
  here = way_of items (vs ++ (v ∷ []))

  pub way_none : v.way ≡ None → here ≡ None
  way_none e = subst (λ w. IsWayAt h.ways w here) e (named_last items n met vs v h)

  pub way_some : (k : ℕ) → v.way ≡ Some k → IsWayAt h.ways (Some k) here
  way_some k e = subst (λ w. IsWayAt h.ways w here) e (named_last items n met vs v h)

  -- a label that was noted was met
  pub noted_met : (s : Step) → v.way ≡ Some s.way → (k : ℕ) × (get nat_cmp n.repeated k ≡ Some s)
      → (outer : List ℕ) × (here ≡ Some outer) × (was_met met (outer ++ naming_bytes items s.naming) ≡ true)
  noted_met s e (k, g) =
      let r = h.repeated k s g in
      let w = way_some s.way e in
      let same : w.0 ≡ r.0 = one_value (slice_get h.ways s.way) w.0 r.0 w.1 r.1 in
      (r.0, w.2 ∙ ap (λ z. Some z) same, r.2)

  -- and one that was met may be noted
  pub met_noted : (s : Step) → v.way ≡ Some s.way → (outer : List ℕ) → here ≡ Some outer
      → was_met met (outer ++ naming_bytes items s.naming) ≡ true → IsMetAt items h.ways met s
  met_noted s e outer is m =
      let w = way_some s.way e in
      let same : outer ≡ w.0 = one_value here outer w.0 is w.2 in
      (w.0, w.1, ap (λ z. was_met met (z ++ naming_bytes items s.naming)) (sym same) ∙ m)
