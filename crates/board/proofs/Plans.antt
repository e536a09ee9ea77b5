-- Plans that words stand for, or the first rule that they break.
use Rattle.std.proofs.Common.{◌≡◌, ◌≢◌, ◌∙◌, ◌⊎◌, ℕ, zero, suc, ◌+◌, ◌<◌, ◌≤◌, List, [], ◌∷◌, ◌++◌, Bool, true, false, eqb}
use Rattle.std.proofs.Common.{Option, Some, None, length, drop, map, take, get_or, refl, sym, ap, subst, inl, inr, arith}
use Rattle.std.specs.Prelude.{All, Any}
use Rattle.std.proofs.lemmas.Bool.{cases_lt, eqb-true}
use Rattle.std.specs.List.{slice_split, take-map}
use Rattle.std.proofs.lemmas.List.{get_or-map, get_or_default, length-map, map_more}
use Rattle.std.proofs.lemmas.List.Elements.{All-nil, All-cons, All-head, All-tail}
use Rattle.std.proofs.lemmas.List.Quantifiers.{position-Some, all_pairs_push}
use Rattle.mp_base.specs.declared.refusal.Broken.{Broken}
use Rattle.mp_base.specs.declared.refusal.Refusal.{Refusal}
use Rattle.mp_base.specs.declared.refusal.Refusal.TheVariants as refusals
use Rattle.mp_base.specs.declared.refusal.Rule.{Rule}
use Rattle.mp_base.specs.declared.refusal.Spot.TheVariants.{Named}
use Rattle.mp_base.specs.Refuses.{IsRefusal}
use Rattle.mp_base.proofs.Decisions.{Decided, decided_below, is_number, is_within, one_of}
use Rattle.board.specs.declared.link.Link.{Link}
use Rattle.board.specs.declared.link.Naming.{Naming}
use Rattle.board.specs.declared.plan.Plan.{Plan}
use Rattle.board.specs.declared.plan.Swap.{Swap}
use Rattle.board.specs.declared.plan.SwapNaming.{SwapNaming}
use Rattle.board.specs.Boarding.{AreApart, IsWire}
use Rattle.board.specs.Links.{Breaks, BreaksB1, BreaksB2, IsBrokenAt, IsLinkOf, IsThree, naming}
use Rattle.board.specs.Links.{place_of, rule_b}
use Rattle.board.specs.Plans.{BreaksAs, BreaksFirst, Follows, FollowsAs, IsBrokenBehind, IsPlan, IsSwapOf}
use Rattle.board.specs.Plans.{IsTaken, IsUnlinked, IsUntimely, IsWhole, LeadsTo, OfPlan, Setting, clock_of}
use Rattle.board.specs.Plans.{empty_plan, is_swap_word, link_with, swap_named_by, swap_naming, with_link, with_swap}
use Rattle.board.specs.Laws.{FirstOnce, PlanOnce, PlanOrBroken, PlanVerdict}
use Rattle.board.proofs.Existence.{any_of, is_none, judged}
use Rattle.board.proofs.Verdict.{one_rule, same_link}
use Rattle.board.proofs.Words.{place_inside, wire_by}

-- ---- lists

none_of : {X : Type 0} (P : X → Type 0) (xs : List X) → (Any P xs → ⊥) → All (λ x. P x → ⊥) xs
none_of P xs none k d lt p =
    let x = get_or xs k d in none (k, x, lt, get_or_default xs k x d lt, p)

all_push : {X : Type 0} (P : X → Type 0) (xs : List X) (x : X) → All P xs → P x → All P (xs ++ x ∷ [])
all_push P [] x all p = All-cons P x [] p all
all_push P (y ∷ ys) x all p = All-cons P y (ys ++ x ∷ []) (All-head P y ys all) (all_push P ys x (All-tail P y ys all) p)

some_value : (o : Option ℕ) (P : Option ℕ → Type 0) → P None → (P o → ⊥) → (v : ℕ) × (o ≡ Some v)
some_value None P none not = absurd (not none)
some_value (Some v) P none not = (v, refl)

-- ---- what a swap word names

module _ (parts : List (List ℕ)) where
  pub named_three : (fs : List (List ℕ)) (a b c : List ℕ) (n : SwapNaming) → fs ≡ a ∷ b ∷ c ∷ []
      → n.clock ≡ clock_of a → n.old ≡ place_of parts b → n.fresh ≡ place_of parts c → n ≡ swap_named_by parts fs
  named_three fs a b c n e k o f = make k o f ∙ sym (ap (swap_named_by parts) e)
    where
      named : Option ℕ → Option ℕ → Option ℕ → SwapNaming
      named x y z = record { clock = x; old = y; fresh = z }

      make : n.clock ≡ clock_of a → n.old ≡ place_of parts b → n.fresh ≡ place_of parts c
          → n ≡ named (clock_of a) (place_of parts b) (place_of parts c)
      make k o f = λ i. record { clock = k i; old = o i; fresh = f i }

  pub named_none : (fs : List (List ℕ)) (n : SwapNaming) → (IsThree fs → ⊥)
      → n ≡ record { clock = None; old = None; fresh = None } → n ≡ swap_named_by parts fs
  named_none [] n none is = is
  named_none (a ∷ []) n none is = is
  named_none (a ∷ b ∷ []) n none is = is
  named_none (a ∷ b ∷ c ∷ []) n none is = absurd (none tt)
  named_none (a ∷ b ∷ c ∷ d ∷ fs) n none is = is

  pub named_at : (word text : List ℕ) → word ≡ 64 ∷ text
      → swap_named_by parts (slice_split (λ c. eqb c 58) text) ≡ swap_naming parts word
  named_at word text is = ap (λ w. swap_named_by parts (slice_split (λ c. eqb c 58) (drop 1 w))) (sym is)

  -- the new part is there
  fresh_inside : (fs : List (List ℕ)) (v : ℕ) → (swap_named_by parts fs).fresh ≡ Some v → v < length parts
  fresh_inside [] v e = absurd (let x : None ≡ Some v = e in cc)
  fresh_inside (a ∷ []) v e = absurd (let x : None ≡ Some v = e in cc)
  fresh_inside (a ∷ b ∷ []) v e = absurd (let x : None ≡ Some v = e in cc)
  fresh_inside (a ∷ b ∷ c ∷ []) v e = (place_inside parts c v e).0
  fresh_inside (a ∷ b ∷ c ∷ d ∷ fs) v e = absurd (let x : None ≡ Some v = e in cc)

pub at_word : (word text : List ℕ) → word ≡ 64 ∷ text → is_swap_word word ≡ true
at_word word text is = ap is_swap_word is

pub plain_word : (word : List ℕ) → ((text : List ℕ) → word ≡ 64 ∷ text → ⊥) → is_swap_word word ≡ false
plain_word [] none = refl
plain_word (c ∷ cs) none = by (eqb c 64) refl
  where
    by : (b : Bool) → eqb c 64 ≡ b → eqb c 64 ≡ false
    by true e = absurd (none cs (ap (λ x. x ∷ cs) (eqb-true c 64 e)))
    by false e = e

-- ---- one word behind a plan

same_swap : (clocks : ℕ) (plan : Plan) (n : SwapNaming) (s t : Swap) → IsSwapOf clocks plan n s
    → IsSwapOf clocks plan n t → s ≡ t
same_swap clocks plan n s t a b =
    let clocks_are : Some s.clock ≡ Some t.clock = sym a.clock ∙ b.clock in
    let parts_are : Some a.part ≡ Some b.part = sym a.old ∙ b.old in
    let part : a.part ≡ b.part = cc in
    let links_are : Some s.link ≡ Some t.link = sym a.linked ∙ ap (link_with plan.links) part ∙ b.linked in
    let fresh_are : Some s.fresh ≡ Some t.fresh = sym a.fresh ∙ b.fresh in
    let clock : s.clock ≡ t.clock = cc in
    let link : s.link ≡ t.link = cc in
    let fresh : s.fresh ≡ t.fresh = cc in
    λ i. record { clock = clock i; link = link i; fresh = fresh i }

-- a link breaks no rule
link_whole : (earlier : List Link) (n : Naming) (l : Link) (rule : Rule) → IsLinkOf n earlier l
    → Breaks earlier n rule → ⊥
link_whole earlier n l rule is breaks = elim breaks [ inl one ↦ first one.0 | inr two ↦ second two.1 ]
  where
    part : n.part ≡ Some l.part
    part = ap (λ (x : Naming). x.part) is.named

    seen : n.seen ≡ Some l.seen
    seen = ap (λ (x : Naming). x.seen) is.named

    driven : n.driven ≡ Some l.driven
    driven = ap (λ (x : Naming). x.driven) is.named

    apart : (any : (k : ℕ) × (x : Link) × (k < length earlier) × (get_or earlier k x ≡ x)) → AreApart any.1 l
    apart (k, x, lt, at) = let P : Link → Type 0 = λ y. AreApart y l in subst P at (is.follows k x lt)

    first : BreaksB1 earlier n → ⊥
    first (inl missing) = let x : None ≡ Some l.part = sym missing ∙ part in cc
    first (inr (k, x, lt, at, p)) =
        let both : Some x.part ≡ Some l.part = sym p ∙ part in
        let same : x.part ≡ l.part = cc in (apart (k, x, lt, at)).part same

    second : BreaksB2 earlier n → ⊥
    second (inl missing) = let x : None ≡ Some l.seen = sym missing ∙ seen in cc
    second (inr (inl missing)) = let x : None ≡ Some l.driven = sym missing ∙ driven in cc
    second (inr (inr (k, x, lt, at, p))) =
        let both : Some x.driven ≡ Some l.driven = sym p ∙ driven in
        let same : x.driven ≡ l.driven = cc in (apart (k, x, lt, at)).driven same

pub keeps_first : (earlier : List Link) (n : Naming) (l : Link) → IsLinkOf n earlier l → BreaksB1 earlier n → ⊥
keeps_first earlier n l is broken = link_whole earlier n l (rule_b 1) is (inl (broken, refl))

pub keeps_second : (earlier : List Link) (n : Naming) (l : Link) → IsLinkOf n earlier l → BreaksB2 earlier n → ⊥
keeps_second earlier n l is broken =
    link_whole earlier n l (rule_b 2) is (inr (keeps_first earlier n l is, broken, refl))

module _ (setting : Setting) (plan : Plan) (word : List ℕ) where
  follows_once : (b : Bool) (p q : Plan) → FollowsAs b setting plan word p → FollowsAs b setting plan word q → p ≡ q
  follows_once true p q (s, is, e) (t, are, f) =
      e ∙ ap (with_swap plan) (same_swap setting.clocks plan (swap_naming setting.parts word) s t is are) ∙ sym f
  follows_once false p q (l, is, none, e) (m, are, none_too, f) =
      e ∙ ap (with_link plan) (same_link l m (sym is.named ∙ are.named)) ∙ sym f

  apart : (b : Bool) (p : Plan) (rule : Rule) → FollowsAs b setting plan word p → BreaksAs b setting plan word rule → ⊥
  apart true p rule (s, is, e) (broken, r) = elim broken [
    | inl late ↦ is.timely late
    | inr (inl unlinked) ↦
        let P : Option ℕ → Type 0 = IsUnlinked plan.links in
        let none : link_with plan.links is.part ≡ None = subst P is.old unlinked in
        (let x : Some s.link ≡ None = sym is.linked ∙ none in cc)
    | inr (inr already) ↦ is.free already
  ]
  apart false p rule (l, is, none, e) (inl breaks) =
      link_whole plan.links (naming setting.parts setting.pads word) l rule is breaks
  apart false p rule (l, is, none, e) (inr (one, two, some, r)) = some none

  rule_once : (b : Bool) (r t : Rule) → BreaksAs b setting plan word r → BreaksAs b setting plan word t → r ≡ t
  rule_once true r t (x, e) (y, f) = e ∙ sym f
  rule_once false r t (inl x) (inl y) =
      one_rule setting.parts setting.pads plan.links (naming setting.parts setting.pads word) r t x y
  rule_once false r t (inl x) (inr (one, two, some, f)) =
      absurd (elim x [ inl a ↦ one a.0 | inr b ↦ two b.1 ])
  rule_once false r t (inr (one, two, some, e)) (inl y) =
      absurd (elim y [ inl a ↦ one a.0 | inr b ↦ two b.1 ])
  rule_once false r t (inr (one, two, some, e)) (inr (other, too, more, f)) = e ∙ sym f

  broken_once : (a b : Broken) → IsBrokenBehind setting plan word a → IsBrokenBehind setting plan word b → a ≡ b
  broken_once a b x y =
      let rule = rule_once (is_swap_word word) a.rule b.rule x.breaks y.breaks in
      let spot : a.spot ≡ b.spot = x.spot ∙ sym y.spot in λ i. record { rule = rule i; spot = spot i }

  -- ---- what is decided

  untimely : (o : Option ℕ) → Decided (IsUntimely setting.clocks plan.swaps o)
  untimely None = inl tt
  untimely (Some k) = one_of (is_within setting.clocks k)
      (any_of (λ (s : Swap). k < s.clock) (λ (s : Swap). decided_below k s.clock) plan.swaps)

  unlinked : (o : Option ℕ) → Decided (IsUnlinked plan.links o)
  unlinked None = inl tt
  unlinked (Some part) = is_none (link_with plan.links part)

  taken : (o : Option ℕ) → Decided (IsTaken plan o)
  taken None = inl tt
  taken (Some part) = one_of
      (any_of (λ (l : Link). l.part ≡ part) (λ (l : Link). is_number l.part part) plan.links)
      (any_of (λ (s : Swap). s.fresh ≡ part) (λ (s : Swap). is_number s.fresh part) plan.swaps)

  linked : (o : Option ℕ) → (IsUnlinked plan.links o → ⊥)
      → (part : ℕ) × (o ≡ Some part) × (link : ℕ) × (link_with plan.links part ≡ Some link)
  linked None not = absurd (not tt)
  linked (Some part) not =
      let l = some_value (link_with plan.links part) (λ o. o ≡ None) refl not in (part, refl, l.0, l.1)

  abbrev Judged : Bool → Type 0
  Judged b = ((next : Plan) × FollowsAs b setting plan word next) ⊎ ((r : Rule) × BreaksAs b setting plan word r)

  swap_judged : Judged true
  swap_judged = by (untimely n.clock) (unlinked n.old) (taken n.fresh)
    where
      n : SwapNaming
      n = swap_naming setting.parts word

      by : Decided (IsUntimely setting.clocks plan.swaps n.clock) → Decided (IsUnlinked plan.links n.old)
          → Decided (IsTaken plan n.fresh) → Judged true
      by (inl late) old fresh = inr (rule_b 3, (inl late, refl))
      by (inr timely) (inl none) fresh = inr (rule_b 3, (inr (inl none), refl))
      by (inr timely) (inr some) (inl already) = inr (rule_b 3, (inr (inr already), refl))
      by (inr timely) (inr some) (inr free) =
          let k = some_value n.clock (IsUntimely setting.clocks plan.swaps) tt timely in
          let l = linked n.old some in
          let f = some_value n.fresh (IsTaken plan) tt free in
          let s : Swap = record { clock = k.0; link = l.2; fresh = f.0 } in
          inl (
            with_swap plan s,
            (
              s,
              record {
                timely = timely;
                clock = k.1;
                part = l.0;
                old = l.1;
                linked = l.3;
                free = free;
                fresh = f.1;
              },
              refl,
            ),
          )

  link_judged : Judged false
  link_judged = by (judged plan.links n) plan.swaps refl
    where
      n : Naming
      n = naming setting.parts setting.pads word

      by : ((l : Link) × IsLinkOf n plan.links l) ⊎ ((r : Rule) × Breaks plan.links n r) → (ss : List Swap)
          → plan.swaps ≡ ss → Judged false
      by (inr (r, breaks)) ss e = inr (r, inl breaks)
      by (inl (l, is)) [] e = inl (with_link plan l, (l, is, e, refl))
      by (inl (l, is)) (s ∷ ss) e = inr (
        rule_b 3,
        inr (
          keeps_first plan.links n l is,
          keeps_second plan.links n l is,
          (λ none. (let x : s ∷ ss ≡ [] = sym e ∙ none in cc)),
          refl,
        ),
      )

  word_judged : (b : Bool) → Judged b
  word_judged true = swap_judged
  word_judged false = link_judged

-- ---- word by word

module _ (setting : Setting) where
  leads_once : (words : List (List ℕ)) (p q r : Plan) → LeadsTo setting p words q → LeadsTo setting p words r → q ≡ r
  leads_once [] p q r a b = sym a ∙ b
  leads_once (w ∷ ws) p q r (m, f, a) (n, g, b) =
      let P : Plan → Type 0 = λ x. LeadsTo setting x ws q in
      leads_once ws n q r (subst P (follows_once setting p w (is_swap_word w) m n f g) a) b

  first_once : (words : List (List ℕ)) (p : Plan) (a b : Broken) → BreaksFirst setting p words a
      → BreaksFirst setting p words b → a ≡ b
  first_once [] p a b x y = absurd x
  first_once (w ∷ ws) p a b (inl x) (inl y) = broken_once setting p w a b x y
  first_once (w ∷ ws) p a b (inl x) (inr (n, g, y)) = absurd (apart setting p w (is_swap_word w) n a.rule g x.breaks)
  first_once (w ∷ ws) p a b (inr (m, f, x)) (inl y) = absurd (apart setting p w (is_swap_word w) m b.rule f y.breaks)
  first_once (w ∷ ws) p a b (inr (m, f, x)) (inr (n, g, y)) =
      let P : Plan → Type 0 = λ z. BreaksFirst setting z ws a in
      first_once ws n a b (subst P (follows_once setting p w (is_swap_word w) m n f g) x) y

  plan_or_broken : (words : List (List ℕ)) (p q : Plan) (b : Broken) → LeadsTo setting p words q
      → BreaksFirst setting p words b → ⊥
  plan_or_broken [] p q b a y = y
  plan_or_broken (w ∷ ws) p q b (m, f, a) (inl y) = apart setting p w (is_swap_word w) m b.rule f y.breaks
  plan_or_broken (w ∷ ws) p q b (m, f, a) (inr (n, g, y)) =
      let P : Plan → Type 0 = λ z. BreaksFirst setting z ws b in
      plan_or_broken ws m q b a (subst P (follows_once setting p w (is_swap_word w) n m g f) y)

  verdict_from : (words : List (List ℕ)) (p : Plan)
      → ((q : Plan) × LeadsTo setting p words q) ⊎ ((b : Broken) × BreaksFirst setting p words b)
  verdict_from [] p = inl (p, refl)
  verdict_from (w ∷ ws) p = elim (word_judged setting p w (is_swap_word w)) [
    | inr (r, breaks) ↦ inr (record { rule = r; spot = Named w }, inl (record { breaks = breaks; spot = refl }))
    | inl (m, f) ↦ elim (verdict_from ws m) [
      | inl (q, a) ↦ inl (q, (m, f, a))
      | inr (b, y) ↦ inr (b, inr (m, f, y))
    ]
  ]

  -- one more word
  pub leads_more : (words : List (List ℕ)) (word : List ℕ) (p m q : Plan) → LeadsTo setting p words m
      → Follows setting m word q → LeadsTo setting p (words ++ word ∷ []) q
  leads_more [] word p m q e f = let P : Plan → Type 0 = λ x. Follows setting x word q in (q, subst P (sym e) f, refl)
  leads_more (w ∷ ws) word p m q (n, g, a) f = (n, g, leads_more ws word n m q a f)

  pub breaks_at : (words : List (List ℕ)) (k : ℕ) (d : List ℕ) (p m : Plan) (b : Broken) → k < length words
      → LeadsTo setting p (take k words) m → IsBrokenBehind setting m (get_or words k d) b
      → BreaksFirst setting p words b
  breaks_at [] k d p m b lt a y = absurd (omega (arith, lt))
  breaks_at (w ∷ ws) zero d p m b lt e y =
      let P : Plan → Type 0 = λ x. IsBrokenBehind setting x w b in inl (subst P (sym e) y)
  breaks_at (w ∷ ws) (suc k) d p m b lt (n, g, a) y = inr (n, g, breaks_at ws k d n m b (omega (arith, lt)) a y)

  -- ---- whole plans

  empty_whole : IsWhole setting empty_plan
  empty_whole = record {
    wires = record { each = All-nil _; apart = λ i j d less lt. absurd (omega (arith, lt)) };
    within = All-nil _;
    timely = All-nil _;
    in_order = λ i j d less lt. absurd (omega (arith, lt));
    linked = All-nil _;
    fresh = All-nil _;
    apart = λ i j d less lt. absurd (omega (arith, lt));
    free = All-nil _;
  }

  module _ (p : Plan) (word : List ℕ) (whole : IsWhole setting p) where
    with_swap_whole : (s : Swap) → IsSwapOf setting.clocks p (swap_naming setting.parts word) s
        → IsWhole setting (with_swap p s)
    with_swap_whole s is = record {
      wires = whole.wires;
      within = whole.within;
      timely = all_push (λ (t : Swap). t.clock < setting.clocks) p.swaps s whole.timely in_time;
      in_order = all_pairs_push (λ (t u : Swap). t.clock ≤ u.clock) p.swaps s whole.in_order
          (λ k d lt. not_less s.clock (get_or p.swaps k d).clock (none_of (λ (t : Swap). s.clock < t.clock) p.swaps (λ any. timely (inr any)) k d lt));
      linked = all_push (λ (t : Swap). t.link < length p.links) p.swaps s whole.linked
          (position-Some (λ (l : Link). eqb l.part is.part) p.links s.link
          (record { part = 0; seen = 0; driven = 0 }) is.linked).0;
      fresh = all_push (λ (t : Swap). t.fresh < length setting.parts) p.swaps s whole.fresh
          (fresh_inside setting.parts (slice_split (λ c. eqb c 58) (drop 1 word)) s.fresh is.fresh);
      apart = all_pairs_push (λ (t u : Swap). t.fresh ≢ u.fresh) p.swaps s whole.apart
          (none_of (λ (t : Swap). t.fresh ≡ s.fresh) p.swaps (λ any. free (inr any)));
      free = all_push (λ (t : Swap). All (λ (l : Link). l.part ≢ t.fresh) p.links) p.swaps s whole.free
          (none_of (λ (l : Link). l.part ≡ s.fresh) p.links (λ any. free (inl any)));
    }
      where
        timely : IsUntimely setting.clocks p.swaps (Some s.clock) → ⊥
        timely late = is.timely (subst (IsUntimely setting.clocks p.swaps) (sym is.clock) late)

        free : IsTaken p (Some s.fresh) → ⊥
        free taken = is.free (subst (IsTaken p) (sym is.fresh) taken)

        in_time : s.clock < setting.clocks
        in_time = elim (cases_lt s.clock setting.clocks) [ inl lt ↦ lt | inr ge ↦ absurd (timely (inl ge)) ]

        not_less : (a b : ℕ) → (a < b → ⊥) → b ≤ a
        not_less a b none = elim (cases_lt a b) [ inl lt ↦ absurd (none lt) | inr ge ↦ ge ]

    with_link_whole : (l : Link) → IsLinkOf (naming setting.parts setting.pads word) p.links l → p.swaps ≡ []
        → IsWhole setting (with_link p l)
    with_link_whole l is none =
        let wire = wire_by setting.parts setting.pads (slice_split (λ c. eqb c 58) word) l is.named in
        let P : List Swap → Type 0 =
        λ ss. IsWhole setting (record { links = p.links ++ l ∷ []; swaps = ss }) in
        subst P (sym none) (record {
          wires = record {
            each = all_push (IsWire setting.pads) p.links l (whole.wires).each wire.1;
            apart = all_pairs_push AreApart p.links l (whole.wires).apart is.follows;
          };
          within = all_push (λ (x : Link). x.part < length setting.parts) p.links l whole.within wire.0;
          timely = All-nil _;
          in_order = λ i j d less lt. absurd (omega (arith, lt));
          linked = All-nil _;
          fresh = All-nil _;
          apart = λ i j d less lt. absurd (omega (arith, lt));
          free = All-nil _;
        })

    follows_whole : (b : Bool) (q : Plan) → FollowsAs b setting p word q → IsWhole setting q
    follows_whole true q (s, is, e) = subst (IsWhole setting) (sym e) (with_swap_whole s is)
    follows_whole false q (l, is, none, e) = subst (IsWhole setting) (sym e) (with_link_whole l is none)

  whole_from : (words : List (List ℕ)) (p q : Plan) → IsWhole setting p → LeadsTo setting p words q → IsWhole setting q
  whole_from [] p q whole e = subst (IsWhole setting) e whole
  whole_from (w ∷ ws) p q whole (m, f, a) =
      whole_from ws m q (follows_whole p w whole (is_swap_word w) m f) a

  pub whole_plan : (words : List (List ℕ)) (q : Plan) → IsPlan setting words q → IsWhole setting q
  whole_plan words q a = whole_from words empty_plan q empty_whole a

pub plan_once : PlanOnce
plan_once setting words plan other a b = leads_once setting words empty_plan plan other a b

pub broken_first_once : FirstOnce
broken_first_once setting words a b x y = first_once setting words empty_plan a b x y

pub one_or_other : PlanOrBroken
one_or_other setting words plan b a y = plan_or_broken setting words empty_plan plan b a y

pub verdict : PlanVerdict
verdict setting words = elim (verdict_from setting words empty_plan) [
  | inl plan ↦ (None, plan)
  | inr (b, y) ↦ (Some b, y)
]

-- ---- in words of the code

-- the rule that a link word breaks
pub plain_broken : (setting : Setting) (plan : Plan) (word : List ℕ) (why : Refusal)
    → IsRefusal (IsBrokenAt (naming setting.parts setting.pads word) plan.links word) why
    → IsRefusal (λ b. BreaksAs false setting plan word b.rule × (b.spot ≡ Named word)) why
plain_broken setting plan word refusals.NoMemory h = tt
plain_broken setting plan word (refusals.Broken b) h = (inl h.breaks, h.spot)

-- the same of a word that is no swap word, and of one that is
pub behind : (setting : Setting) (plan : Plan) (word : List ℕ) (kind : Bool) (why : Refusal)
    → is_swap_word word ≡ kind → IsRefusal (λ b. BreaksAs kind setting plan word b.rule × (b.spot ≡ Named word)) why
    → IsRefusal (IsBrokenBehind setting plan word) why
behind setting plan word kind refusals.NoMemory is h = tt
behind setting plan word kind (refusals.Broken b) is (breaks, spot) =
    let P : Bool → Type 0 = λ k. BreaksAs k setting plan word b.rule in
    record { breaks = subst P (sym is) breaks; spot = spot }

pub follows_by : (setting : Setting) (plan : Plan) (word : List ℕ) (kind : Bool) (next : Plan)
    → is_swap_word word ≡ kind → FollowsAs kind setting plan word next → Follows setting plan word next
follows_by setting plan word kind next is f =
    let P : Bool → Type 0 = λ k. FollowsAs k setting plan word next in subst P (sym is) f

module _ (setting : Setting) {W : Type 0} (text : W → List ℕ) (words : List W) (i : ℕ) (d : W) (w : List ℕ)
    (lt : i < length words) (at : w ≡ text (get_or words i d)) where
  pub plan_more : (m q : Plan) → IsPlan setting (map text (take i words)) m → Follows setting m w q
      → IsPlan setting (map text (take (i + 1) words)) q
  plan_more m q a f =
      let P : List (List ℕ) → Type 0 = λ ws. IsPlan setting ws q in
      let more : map text (take i words) ++ w ∷ [] ≡ map text (take (i + 1) words) =
      ap (λ x. map text (take i words) ++ x ∷ []) at ∙ sym (map_more text words i d lt) in
      subst P more (leads_more setting (map text (take i words)) w empty_plan m q a f)

  pub plan_broken : (m : Plan) (why : Refusal) → IsPlan setting (map text (take i words)) m
      → IsRefusal (IsBrokenBehind setting m w) why
      → IsRefusal (λ b. OfPlan setting (map text words) (Some b)) why
  plan_broken m refusals.NoMemory a h = tt
  plan_broken m (refusals.Broken b) a h =
      let here : get_or (map text words) i w ≡ w = get_or-map text words i d w lt ∙ sym at in
      let P : List ℕ → Type 0 = λ x. IsBrokenBehind setting m x b in
      let Q : List (List ℕ) → Type 0 = λ ws. LeadsTo setting empty_plan ws m in
      breaks_at setting (map text words) i w empty_plan m b (let n = length-map words text in omega (arith, lt, n))
      (subst Q (sym (take-map text i words)) a) (subst P (sym here) h)
