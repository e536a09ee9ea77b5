-- The strips that have begun and not finished stand side by side, and an event keeps what is known of them.
use Rattle.std.proofs.Common.{ℕ, ◌≡◌, ◌≢◌, ◌⊎◌, inl, inr, refl, sym, ap, ◌∙◌, subst, arith, ◌+◌, ◌<◌, ◌≤◌, List, All}
use Rattle.std.proofs.Common.{Option, Some, None, length}
use Rattle.std.specs.Prelude.{ℤ, pos, negsuc, ◌+ℤ◌, ◌≤ℤ◌, ◌<ℤ◌, Contains}
use Rattle.std.proofs.lemmas.Bool.{cases_eq, cases_lt}
use Rattle.std.proofs.lemmas.Int.{ints, by_lt_z}
use Rattle.std.proofs.lemmas.List.{get_or_default}
use Rattle.std.proofs.lemmas.Option.{same_Some, none-some}
use Rattle.lam_geom.specs.declared.layer.Layer.{Layer}
use Rattle.lam_geom.specs.declared.rect.Rect.{Rect}
use Rattle.lam_geom.specs.Squares.{Covers}
use Rattle.layer_strips.specs.declared.part.Part.{Part}
use Rattle.layer_strips.specs.declared.part.Part.TheVariants.{Body, Top}
use Rattle.layer_strips.specs.declared.event.Step.{Step}
use Rattle.layer_strips.specs.declared.event.Step.TheVariants.{Begin, Ask, Finish}
use Rattle.layer_strips.specs.declared.event.Event.{Event}
use Rattle.layer_strips.proofs.Meeting.{grows_none}
use Rattle.layer_strips.specs.Sweep.{first, last, IsSolid, thrice, begin, ask, finish, strip, no_strip, IsOf, IsAt}
use Rattle.layer_strips.specs.Sweep.{event, no_event, IsSchedule, AreApart, IsRow, Grows, Joins, Does, Catches, IsLive}
use Rattle.layer_strips.specs.Sweep.{IsSwept}

-- ---- places and steps

z_cases : (a b : ℤ) → (a ≡ b) ⊎ (a ≢ b)
z_cases a b = by_lt_z a b
    (λ l. inr (λ e. absurd (omega (arith, ints))))
    (λ l. by_lt_z b a (λ m. inr (λ e. absurd (omega (arith, ints)))) (λ m. inl (omega (arith, ints))))

begin_finish : Begin ≡ Finish → ⊥
begin_finish e = grind arith

begin_ask : Begin ≡ Ask → ⊥
begin_ask e = grind arith

ask_finish : Ask ≡ Finish → ⊥
ask_finish e = grind arith

step_cases : (t : Step) → (t ≡ Begin) ⊎ ((t ≡ Ask) ⊎ (t ≡ Finish))
step_cases Begin = inl refl
step_cases Ask = inr (inl refl)
step_cases Finish = inr (inr refl)

-- ---- two strips

runs : (part : Part) (r : Rect) → IsSolid r → first part r ≤ℤ last part r
runs Body r s = let a = s.tall in omega (arith, ints)
runs Top r s = omega (arith, ints)

covers : (r : Rect) (x y : ℤ) → r.x0 ≤ℤ x → x <ℤ r.x1 → r.y0 ≤ℤ y → y <ℤ r.y1 → Covers r r.layer x y
covers r x y a b c d = record { same = refl; left = a; right = b; bottom = c; top = d }

-- a row of both
record Row (r q : Rect) : Type 0 where
  y : ℤ
  r0 : r.y0 ≤ℤ y
  r1 : y <ℤ r.y1
  q0 : q.y0 ≤ℤ y
  q1 : y <ℤ q.y1

common : (part : Part) (r q : Rect) → IsSolid r → IsSolid q → first part r ≤ℤ last part q → first part q ≤ℤ last part r
    → Row r q
common Body r q s t h k =
    let a = s.tall in
    let b = t.tall in
    by_lt_z r.y0 q.y0
    (λ l. record {
      y = q.y0;
      r0 = omega (arith, ints);
      r1 = omega (arith, ints);
      q0 = omega (arith, ints);
      q1 = omega (arith, ints);
    })
    (λ l. record {
      y = r.y0;
      r0 = omega (arith, ints);
      r1 = omega (arith, ints);
      q0 = omega (arith, ints);
      q1 = omega (arith, ints);
    })
common Top r q s t h k =
    let a = s.tall in
    let b = t.tall in
    record {
      y = r.y1 +ℤ negsuc 0;
      r0 = omega (arith, ints);
      r1 = omega (arith, ints);
      q0 = omega (arith, ints);
      q1 = omega (arith, ints);
    }

module _ (layer : Layer) (part : Part) (strips : List Rect) (solid : All IsSolid strips) (apart : AreApart strips) where
  -- strips of the layer that have rows in common, of which one ends inside the other, are one
  same : (i j : ℕ) → IsOf layer strips i → IsOf layer strips j
      → first part (strip strips i) ≤ℤ last part (strip strips j)
      → first part (strip strips j) ≤ℤ last part (strip strips i)
      → (strip strips j).x0 <ℤ (strip strips i).x1 → (strip strips i).x1 ≤ℤ (strip strips j).x1 → i ≡ j
  same i j h k a b l m =
      let r = strip strips i in
      let q = strip strips j in
      let s : IsSolid r = solid i no_strip h.inside in
      let t : IsSolid q = solid j no_strip k.inside in
      let w = s.wide in
      let c = common part r q s t a b in
      let x = r.x1 +ℤ negsuc 0 in
      apart i j layer x c.y h.inside k.inside
      (subst (λ n. Covers r n x c.y) h.same (covers r x c.y (omega (arith, ints)) (omega (arith, ints)) c.r0 c.r1))
      (subst (λ n. Covers q n x c.y) k.same (covers q x c.y (omega (arith, ints)) (omega (arith, ints)) c.q0 c.q1))

  module _ (events : List Event) (s : IsSchedule layer part strips events) where
    -- ---- what an event says, by its step

    begins : (n i : ℕ) → n < length events → (event events n).step ≡ Begin → (event events n).index ≡ i
        → IsOf layer strips i × ((event events n).time ≡ thrice (first part (strip strips i)))
    begins n i h e f =
        let g = (s.whole.each n no_event h).1 in
        let at = subst (λ t. IsAt layer part strips t (event events n)) e g in
        (subst (IsOf layer strips) f at.0, ap (λ v. v.time) at.1 ∙ ap (λ j. thrice (first part (strip strips j))) f)

    finishes : (n i : ℕ) → n < length events → (event events n).step ≡ Finish → (event events n).index ≡ i
        → IsOf layer strips i × ((event events n).time ≡ thrice (last part (strip strips i)) +ℤ pos 2)
    finishes n i h e f =
        let g = (s.whole.each n no_event h).1 in
        let at = subst (λ t. IsAt layer part strips t (event events n)) e g in (
          subst (IsOf layer strips) f at.0,
          ap (λ v. v.time) at.1
              ∙ ap (λ j. thrice (last part (strip strips j)) +ℤ pos 2) f,
        )

    asks : (n i : ℕ) → n < length events → (event events n).step ≡ Ask → (event events n).index ≡ i
        → (event events n).time ≡ thrice (strip strips i).y0 +ℤ pos 1
    asks n i h e f =
        let g = (s.whole.each n no_event h).1 in
        let at = subst (λ t. IsAt layer part strips t (event events n)) e g in
        ap (λ v. v.time) at ∙ ap (λ j. thrice (strip strips j).y0 +ℤ pos 1) f

    -- ---- where an event stands

    place : (e : Event) → Contains events e → (k : ℕ) × (k < length events) × (event events k ≡ e)
    place e h = (h.0, h.1, get_or_default events h.0 no_event e h.1 ∙ h.2)

    begun : (i : ℕ) → IsOf layer strips i
        → (k : ℕ) × (k < length events) × (event events k ≡ begin part i (strip strips i))
    begun i h = place (begin part i (strip strips i)) (s.whole.begun i h.inside h.same)

    finished : (i : ℕ) → IsOf layer strips i
        → (k : ℕ) × (k < length events) × (event events k ≡ finish part i (strip strips i))
    finished i h = place (finish part i (strip strips i)) (s.whole.finished i h.inside h.same)

    live_of : (n i : ℕ) → n ≤ length events → IsLive events n i → IsOf layer strips i
    live_of n i h v = let b = v.before in (begins v.at i (omega arith) v.begins v.own).0

    -- a strip that has begun begins no later than one finishes that has not
    before_end : (n i j : ℕ) → n ≤ length events → IsLive events n i → IsOf layer strips j
        → ((q : ℕ) → q < n → (event events q).step ≡ Finish → (event events q).index ≢ j)
        → first part (strip strips i) ≤ℤ last part (strip strips j)
    before_end n i j h v k lasts =
        let b = v.before in
        let t = (begins v.at i (omega arith) v.begins v.own).1 in
        let f = finished j k in
        let u : (event events f.0).time ≡ thrice (last part (strip strips j)) +ℤ pos 2 = ap (λ e. e.time) f.2 in
        elim (cases_lt f.0 n) [
          | inl l ↦ absurd (lasts f.0 l (ap (λ e. e.step) f.2) (ap (λ e. e.index) f.2))
          | inr l ↦ let up = s.ascending v.at f.0 (omega arith) f.1 in omega (arith, ints)
        ]

    -- two that have begun and not finished, of which one ends inside the other, are one
    same_live : (n i j : ℕ) → n ≤ length events → IsLive events n i → IsLive events n j
        → (strip strips j).x0 <ℤ (strip strips i).x1 → (strip strips i).x1 ≤ℤ (strip strips j).x1 → i ≡ j
    same_live n i j h v w =
        let a = live_of n i h v in
        let b = live_of n j h w in
        same i j a b (before_end n i j h v b w.lasts) (before_end n j i h w a v.lasts)

    -- ---- the row of those that have begun and not finished

    pub is_row : (n : ℕ) (row : ℤ → Option ℕ) (pairs : List (ℕ × ℕ)) → n ≤ length events
        → IsSwept layer part strips events n row pairs
        → IsRow strips row
    is_row n row pairs h v = record {
      each = λ k i e. ((live_of n i h (v.found k i e).0).inside, (v.found k i e).1);
      apart = λ k m i j e g l.
          let f : (strip strips i).x1 ≡ k = (v.found k i e).1 in
          let u : (strip strips j).x1 ≡ m = (v.found m j g).1 in
          by_lt_z (strip strips j).x0 k
          (λ o.
          let q = same_live n i j h (v.found k i e).0 (v.found m j g).0 (omega (arith, ints)) (omega (arith, ints)) in
          let w : k ≡ m = sym f ∙ ap (λ z. (strip strips z).x1) q ∙ u in
          absurd (omega (arith, ints)))
          (λ o. o);
    }

    live_more : (n i : ℕ) → ((event events n).step ≡ Finish → (event events n).index ≢ i) → IsLive events n i
        → IsLive events (n + 1) i
    live_more n i e v = let b = v.before in record {
      at = v.at;
      before = omega arith;
      begins = v.begins;
      own = v.own;
      lasts = λ q l f g. elim (cases_lt q n) [
        | inl m ↦ v.lasts q m f g
        | inr m ↦ let o : q ≡ n = omega arith in
            e (subst (λ z. (event events z).step ≡ Finish) o f) (subst (λ z. (event events z).index ≡ i) o g)
      ];
    }

    live_less : (n i : ℕ) → ((event events n).step ≡ Begin → (event events n).index ≢ i) → IsLive events (n + 1) i
        → IsLive events n i
    live_less n i e v = let b = v.before in record {
      at = v.at;
      before = elim (cases_lt v.at n) [
        | inl m ↦ m
        | inr m ↦ let o : v.at ≡ n = omega arith in
            absurd (e (subst (λ z. (event events z).step ≡ Begin) o v.begins)
            (subst (λ z. (event events z).index ≡ i) o v.own))
      ];
      begins = v.begins;
      own = v.own;
      lasts = λ q l. v.lasts q (omega arith);
    }

    live_new : (n i : ℕ) → n < length events → (event events n).step ≡ Begin → (event events n).index ≡ i
        → IsLive events (n + 1) i
    live_new n i h e f = record {
      at = n;
      before = omega arith;
      begins = e;
      own = f;
      lasts = λ q l g k.
          let a = begins n i h e f in
          let t = a.1 in
          let u = (finishes q i (omega arith) g k).1 in
          let up = s.ascending q n (omega arith) h in
          let w = runs part (strip strips i) (solid i no_strip a.0.inside) in
          absurd (omega (arith, ints));
    }

    -- ---- what an event does

    begins_one : (n i : ℕ) (row new : ℤ → Option ℕ) (pairs more : List (ℕ × ℕ)) → n < length events
        → (event events n).step ≡ Begin
        → (event events n).index ≡ i
        → IsSwept layer part strips events n row pairs → Does strips Begin i row new pairs more
        → IsSwept layer part strips events (n + 1) new more
    begins_one n i row new pairs more h e f v d =
        let own = live_new n i h e f in
        subst (λ ps. IsSwept layer part strips events (n + 1) new ps) (sym d.2) (record {
          found = λ k j g. elim (z_cases k (strip strips i).x1) [
            | inl o ↦
                let u : i ≡ j = same_Some i j (sym d.0 ∙ ap new (sym o) ∙ g) in
                subst (λ z. IsLive events (n + 1) z × ((strip strips z).x1 ≡ k)) u (own, sym o)
            | inr o ↦ let w = v.found k j (sym (d.1 k o) ∙ g) in
                (live_more n j (λ x. absurd (begin_finish (sym e ∙ x))) w.0, w.1)
          ];
          has = λ j w. elim (cases_eq i j) [
            | inl o ↦ subst (λ z. new (strip strips z).x1 ≡ Some z) o d.0
            | inr o ↦ elim (z_cases (strip strips j).x1 (strip strips i).x1) [
              | inl p ↦
                  let wide = (solid j no_strip (live_of (n + 1) j (omega arith) w).inside).wide in
                  absurd (o (same_live (n + 1) i j (omega arith) own w (omega (arith, ints)) (omega (arith, ints))))
              | inr p ↦ d.1 (strip strips j).x1 p ∙ v.has j (live_less n j (λ x y. o (sym f ∙ y)) w)
            ]
          ];
          caught = λ m l g j w. elim (cases_lt m n) [
            | inl o ↦ v.caught m o g j w
            | inr o ↦ let p : m ≡ n = omega arith in
                absurd (begin_ask (sym e ∙ subst (λ z. (event events z).step ≡ Ask) p g))
          ];
        })

    finishes_one : (n i : ℕ) (row new : ℤ → Option ℕ) (pairs more : List (ℕ × ℕ)) → n < length events
        → (event events n).step ≡ Finish
        → (event events n).index ≡ i
        → IsSwept layer part strips events n row pairs → Does strips Finish i row new pairs more
        → IsSwept layer part strips events (n + 1) new more
    finishes_one n i row new pairs more h e f v d =
        let own = finishes n i h e f in
        let t = own.1 in
        subst (λ ps. IsSwept layer part strips events (n + 1) new ps) (sym d.2) (record {
          found = λ k j g. elim (z_cases k (strip strips i).x1) [
            | inl o ↦ absurd (none-some j (sym d.0 ∙ ap new (sym o) ∙ g))
            | inr o ↦
                let w = v.found k j (sym (d.1 k o) ∙ g) in
                (live_more n j (λ x y. o (sym w.1 ∙ ap (λ z. (strip strips z).x1) (sym y ∙ f))) w.0, w.1)
          ];
          has = λ j w.
              let w' = live_less n j (λ x. absurd (begin_finish (sym x ∙ e))) w in
              elim (z_cases (strip strips j).x1 (strip strips i).x1) [
                | inl p ↦
                    let k = live_of (n + 1) j (omega arith) w in
                    let wide = (solid j no_strip k.inside).wide in
                    let b = w'.before in
                    let bt = (begins w'.at j (omega arith) w'.begins w'.own).1 in
                    let bu = s.ascending w'.at n (omega arith) h in
                    let q = finished j k in
                    let qt : (event events q.0).time ≡ thrice (last part (strip strips j)) +ℤ pos 2 =
                    ap (λ e. e.time) q.2 in
                    let later : n ≤ q.0 = elim (cases_lt q.0 n) [
                      | inl l ↦ absurd (w'.lasts q.0 l (ap (λ e. e.step) q.2) (ap (λ e. e.index) q.2))
                      | inr l ↦ l
                    ] in
                    let qu = s.ascending n q.0 later q.1 in
                    let r = runs part (strip strips i) (solid i no_strip own.0.inside) in
                    let is =
                    same i j own.0 k (omega (arith, ints)) (omega (arith, ints)) (omega (arith, ints))
                    (omega (arith, ints)) in
                    absurd (w.lasts n (omega arith) e (f ∙ is))
                | inr p ↦ d.1 (strip strips j).x1 p ∙ v.has j w'
              ];
          caught = λ m l g j w. elim (cases_lt m n) [
            | inl o ↦ v.caught m o g j w
            | inr o ↦ let p : m ≡ n = omega arith in
                absurd (ask_finish (sym (subst (λ z. (event events z).step ≡ Ask) p g) ∙ e))
          ];
        })

    asks_one : (n i : ℕ) (row new : ℤ → Option ℕ) (pairs more : List (ℕ × ℕ)) → (event events n).step ≡ Ask
        → (event events n).index ≡ i
        → IsSwept layer part strips events n row pairs → Does strips Ask i row new pairs more
        → IsSwept layer part strips events (n + 1) new more
    asks_one n i row new pairs more e f v d = record {
      found = λ k j g. let w = v.found k j (sym (d.0 k) ∙ g) in
          (live_more n j (λ x. absurd (ask_finish (sym e ∙ x))) w.0, w.1);
      has = λ j w. d.0 (strip strips j).x1 ∙ v.has j (live_less n j (λ x. absurd (begin_ask (sym x ∙ e))) w);
      caught = λ m l g j w. elim (cases_lt m n) [
        | inl o ↦ (λ x y. d.1.kept _ (v.caught m o g j w x y))
        | inr o ↦
            let p : m ≡ n = omega arith in
            let q : i ≡ (event events m).index = sym f ∙ ap (λ z. (event events z).index) (sym p) in
            subst (λ z. Joins strips z j more) q
            (d.2 (strip strips j).x1 j (v.has j (subst (λ z. IsLive events z j) p w)))
      ];
    }

    pub does_one : (n : ℕ) (row new : ℤ → Option ℕ) (pairs more : List (ℕ × ℕ)) → n < length events
        → IsSwept layer part strips events n row pairs
        → Does strips (event events n).step (event events n).index row new pairs more
        → IsSwept layer part strips events (n + 1) new more × Grows strips pairs more
    does_one n row new pairs more h v d =
        let i = (event events n).index in
        let at = λ (t : Step) (e : (event events n).step ≡ t). subst (λ z. Does strips z i row new pairs more) e d in
        elim (step_cases (event events n).step) [
          | inl e ↦ (
            begins_one n i row new pairs more h e refl v (at Begin e),
            subst (Grows strips pairs)
                (sym (at Begin e).2) (grows_none strips pairs),
          )
          | inr o ↦ elim o [
            | inl e ↦ (asks_one n i row new pairs more e refl v (at Ask e), (at Ask e).1)
            | inr e ↦ (
              finishes_one n i row new pairs more h e refl v (at Finish e),
              subst (Grows strips pairs)
                  (sym (at Finish e).2) (grows_none strips pairs),
            )
          ]
        ]

    pub none_yet : (row : ℤ → Option ℕ) (pairs : List (ℕ × ℕ)) → ((k : ℤ) → row k ≡ None)
        → IsSwept layer part strips events 0 row pairs
    none_yet row pairs h = record {
      found = λ k i e. absurd (none-some i (sym (h k) ∙ e));
      has = λ i v. let b = v.before in absurd (omega arith);
      caught = λ m l. absurd (omega arith);
    }

    pub catches : (n : ℕ) (row : ℤ → Option ℕ) (pairs : List (ℕ × ℕ)) → length events ≤ n
        → IsSwept layer part strips events n row pairs → Catches layer part strips pairs
    catches n row pairs h v = λ i j own l a b.
        let m = place (ask j (strip strips j)) (s.whole.asked j l) in
        let t : (event events m.0).time ≡ thrice (strip strips j).y0 +ℤ pos 1 = ap (λ e. e.time) m.2 in
        let p = begun i own in
        let u : (event events p.0).time ≡ thrice (first part (strip strips i)) = ap (λ e. e.time) p.2 in
        let before : p.0 < m.0 = elim (cases_lt p.0 m.0) [
          | inl o ↦ o
          | inr o ↦ let up = s.ascending m.0 p.0 o p.1 in absurd (omega (arith, ints))
        ] in
        let mm = m.1 in
        let live : IsLive events m.0 i = record {
          at = p.0;
          before = before;
          begins = ap (λ e. e.step) p.2;
          own = ap (λ e. e.index) p.2;
          lasts = λ q o f g.
              let w = (finishes q i (omega arith) f g).1 in
              let up = s.ascending q m.0 (omega arith) m.1 in
              absurd (omega (arith, ints));
        } in
        subst (λ z. Joins strips z i pairs) (ap (λ e. e.index) m.2)
        (v.caught m.0 (omega arith) (ap (λ e. e.step) m.2) i live)
