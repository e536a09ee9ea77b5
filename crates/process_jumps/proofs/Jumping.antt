-- The jumps of processes, one after another.
use Rattle.std.proofs.Common.{
  ◌≡◌,
  ◌⊎◌,
  inl,
  inr,
  ◌∙◌,
  ℕ,
  zero,
  suc,
  ◌+◌,
  ◌<◌,
  ◌≤◌,
  List,
  [],
  ◌∷◌,
  ◌++◌,
  Bool,
  true,
  false,
  cond,
  Option,
  Some,
  None,
  refl,
  sym,
  ap,
  subst,
  arith,
  length,
  get_or,
}
use Rattle.std.specs.Prelude.{Contains, MatchOption, ◌↔◌, ◌&&◌}
use Rattle.std.proofs.lemmas.List.Sums.{sum_by_more}
use Rattle.std.proofs.lemmas.Option.{same_Some, none-some, get_or_from_slice_get}
use Rattle.std.proofs.lemmas.List.{length_push}
use Rattle.mp_base.specs.declared.op.Op.TheVariants.{And, Nor}
use Rattle.mp_base.proofs.Contents.{nothing_in}
use Rattle.mp_base.proofs.Induction.{by_test, upward}
use Rattle.mp_program.specs.declared.program.FormKind.{FormKind}
use Rattle.mp_program.specs.declared.program.FormKind.TheVariants as forms
use Rattle.mp_program.specs.declared.program.Form.{Form}
use Rattle.mp_program.specs.declared.program.Process.{Process}
use Rattle.mp_program.specs.declared.program.Program.{Program}
use Rattle.mp_base.specs.Entries.{IsAt}
use Rattle.mp_rules.specs.Standing.{is_transfer}
use Rattle.mp_base.proofs.Entries.{one_entry, some_entry, push_cases, within}
use Rattle.rtl_form.specs.declared.rtl.Cell as cells
use Rattle.rtl_form.specs.declared.rtl.RtlExpr.{RtlExpr}
use Rattle.rtl_form.specs.declared.rtl.RtlExpr.TheVariants.{Cell, Apply}
use Rattle.process_plan.specs.declared.role.Role.{Role}
use Rattle.process_plan.specs.declared.enable.Enable.{Enable}
use Rattle.process_plan.specs.declared.enable.Origin.{Origin}
use Rattle.process_plan.specs.declared.enable.Origin.TheVariants.{At}
use Rattle.process_plan.specs.Enables.{HasEnable, AreEnables, IsPlaceExpr, StandsInside, InnerEnables}
use Rattle.process_plan.specs.Plan.{
  is_call,
  is_return,
  IsMoveEnable,
  HasMove,
  IsUnionOf,
  IsFall,
  AreMovesAt,
}
use Rattle.process_plan.specs.Bill.{exprs_cost}
use Rattle.process_plan.proofs.Members.{cases_of}
use Rattle.process_plan.proofs.Sorts.{has_sort_kept}
use Rattle.process_layout.specs.Counts.{is_cond, has_at, parted_of, tally_of, tallies_of}
use Rattle.process_layout.specs.Steps.{Keeps, moves_cost}
use Rattle.process_layout.proofs.Keeping.{keeps_more}
use Rattle.process_jumps.specs.declared.jumps.Jumps.{Jumps}
use Rattle.process_jumps.specs.declared.moves.Group.TheVariants.{Calls, Returns, Inside}
use Rattle.process_jumps.specs.Growth.{IsGrown, IsFallMade, IsUnionMade}
use Rattle.process_jumps.specs.Moves.{moves_in, picked}
use Rattle.process_jumps.specs.Jumps.{
  IsExtended,
  IsFallAt,
  inside_to,
  AreFallsMade,
  AllFallsMade,
  IsJumps,
  MakesJumps,
  AreJumpsMade,
  AllJumpsMade,
}
use Rattle.process_jumps.proofs.Growing.{negations_kept}
use Rattle.process_jumps.proofs.Moving.{
  calls_are,
  returns_are,
  moves_inside,
  calls_long,
  returns_long,
  inside_counted,
  has_in,
}

-- ---- what stays where expressions are added

match_more : {X : Type 0} (o : Option X) (A : Type 0) (B C : X → Type 0) → ((x : X) → B x → C x) → MatchOption o A B
    → MatchOption o A C
match_more None A B C f h = h
match_more (Some x) A B C f h = f x h

module _ (p : Program) (roles : List Role) (enables : List (Option Enable)) (old new : List RtlExpr)
    (kept : Keeps old new) where
  pub place_kept : (k i a : ℕ) → IsPlaceExpr p old roles k i a → IsPlaceExpr p new roles k i a
  place_kept k zero a (q, at, inl h) = (q, at, inl h)
  place_kept k zero a (q, at, inr (es, at_a, are)) = (
    q,
    at,
    inr (
      es,
      kept a (Apply Nor 0 es) at_a,
      record {
        each = λ e c. let (d, j, at_d, at_e) = are.each e c in (d, j, at_d, kept e (Cell d) at_e);
        all = λ j c at_c. let (e, ce, at_e) = are.all j c at_c in (e, ce, kept e (Cell c) at_e);
      },
    ),
  )
  place_kept k (suc i) a (c, at_c, at_a) = (c, at_c, kept a (Cell c) at_a)

  pub fall_kept : (k i a e : ℕ) → IsFall p old enables k i a e → IsFall p new enables k i a e
  fall_kept k i a e (ms, are, inl h) = (ms, are, inl h)
  fall_kept k i a e (ms, are, inr (inl h)) = (ms, are, inr (inl h))
  fall_kept k i a e (ms, are, inr (inr (ns, negated, at))) =
      (ms, are, inr (inr (ns, negations_kept old new ms ns kept negated, kept e (Apply And 0 (a ∷ ns)) at)))

  pub union_kept : (t : FormKind → Bool) (k u : ℕ) → IsUnionOf p old enables t k u → IsUnionOf p new enables t k u
  union_kept t k u (guards, are, inl same) = (guards, are, inl same)
  union_kept t k u (guards, are, inr at) = (guards, are, inr (kept u _ at))

  pub fall_at_kept : (k i e : ℕ) → IsFallAt p old roles enables k i e → IsFallAt p new roles enables k i e
  fall_at_kept k i e (a, place, fall) = (a, place_kept k i a place, fall_kept k i a e fall)

  pub jumps_kept : (k : ℕ) (q : Process) (m : Jumps) → IsJumps p old roles enables k q m
      → IsJumps p new roles enables k q m
  jumps_kept k q m h = record {
    calls = match_more m.calls (HasMove p enables is_call k → ⊥) (IsUnionOf p old enables is_call k)
        (IsUnionOf p new enables is_call k) (union_kept is_call k) h.calls;
    returns = match_more m.returns (HasMove p enables is_return k → ⊥) (IsUnionOf p old enables is_return k)
        (IsUnionOf p new enables is_return k) (union_kept is_return k) h.returns;
    size = h.size;
    falls = λ i e at. fall_at_kept k i e (h.falls i e at);
  }

-- what a place costs that has a `cond` and a move
abbrev truth_cost : Bool → ℕ
truth_cost b = cond {A = ℕ} b 1 0

enable_same : (enables : List (Option Enable)) (f a b : ℕ) (o : Origin) → HasEnable enables f o a
    → HasEnable enables f o b → a ≡ b
enable_same enables f a b o h g =
    ap (λ (x : Enable). x.expr) (same_Some (record { origin = o; expr = a }) (record { origin = o; expr = b })
    (one_entry enables f (Some (record { origin = o; expr = a })) (Some (record { origin = o; expr = b })) h g))

module _ (p : Program) (roles : List Role) (xs : List cells.Cell) (enables : List (Option Enable)) where
  -- what is added to by means of enables is still an extension
  pub extended_grown : (bits : List ℕ) (price : ℕ) (old new : List RtlExpr) → IsExtended p roles xs enables old
      → ((e : ℕ) → Contains bits e → (f : ℕ) × (o : Origin) × HasEnable enables f o e)
      → IsGrown bits price old new → IsExtended p roles xs enables new
  extended_grown bits price old new ext of grown = record {
    base = ext.base;
    kept = keeps_more ext.base old new ext.kept grown.kept;
    enabled = ext.enabled;
    bits = ext.bits;
    fits = grown.fits p.width xs ext.fits (λ e c.
        let (f, o, has) = of e c in
        has_sort_kept xs xs ext.base old e false (λ k x h. h) ext.kept (ext.bits f e o has));
  }

  -- ---- the form at a place

  module _ (base : List RtlExpr) (enabled : AreEnables p base roles enables) (k i f0 a : ℕ) (q : Process)
      (at_q : IsAt p.processes k q) (at_f : IsAt q.forms i f0) where
    root_place : (x : Enable) → IsAt enables f0 (Some x)
        → (x ≡ record { origin = At k i; expr = x.expr }) × IsPlaceExpr p base roles k i x.expr
    root_place x at_x =
        let (b, place, has) = enabled.roots (At k i) f0 (q, at_q, at_f) in
        let same : x ≡ record { origin = At k i; expr = b } =
        same_Some x (record { origin = At k i; expr = b })
        (one_entry enables f0 (Some x) (Some (record { origin = At k i; expr = b })) at_x has) in
        let expr : b ≡ x.expr = sym (ap (λ (z : Enable). z.expr) same) in (
          same ∙ ap (λ n. record { origin = At k i; expr = n }) expr,
          subst (IsPlaceExpr p base roles k i) expr place,
        )

    -- where the form has no `cond` in it, all forms in it have its enable
    only_enable : HasEnable enables f0 (At k i) a → has_at is_cond k i p.forms enables ≡ false → (f b : ℕ)
        → HasEnable enables f (At k i) b → b ≡ a
    only_enable own none = upward (λ f. (b : ℕ) → HasEnable enables f (At k i) b → b ≡ a) step
      where
        by_kind : (f b g c : ℕ) (y : Form) (kind : FormKind) → y.kind ≡ kind → IsAt p.forms g y
            → HasEnable enables g (At k i) c → HasEnable enables f (At k i) b → StandsInside kind f
            → InnerEnables p base enables (At k i) c kind → b ≡ c
        by_kind f b g c y (forms.Par fs) is at_y has_g has_f inside inner =
            enable_same enables f b c (At k i) has_f (inner f inside)
        by_kind f b g c y (forms.Cond bs) is at_y has_g has_f inside inner =
            let clash : true ≡ false = sym (has_in is_cond k i p.forms enables g c y at_y has_g (ap is_cond is))
            ∙ none in
            absurd (cc)
        by_kind f b g c y (forms.Set x at v) is at_y has_g has_f inside inner = absurd inside
        by_kind f b g c y (forms.Go l) is at_y has_g has_f inside inner = absurd inside
        by_kind f b g c y (forms.Call l) is at_y has_g has_f inside inner = absurd inside
        by_kind f b g c y forms.Return is at_y has_g has_f inside inner = absurd inside

        step : (f : ℕ) → ((g : ℕ) → g < f → (b : ℕ) → HasEnable enables g (At k i) b → b ≡ a) → (b : ℕ)
            → HasEnable enables f (At k i) b → b ≡ a
        step f earlier b has = elim (enabled.reasons f (At k i) b has) as (λ _. b ≡ a) [
          | inl ((q2, at_q2, at_f2), place) ↦
              let at_f3 : IsAt q.forms i f =
              subst (λ (z : Process). IsAt z.forms i f) (one_entry p.processes k q2 q at_q2 at_q) at_f2 in
              let same = one_entry q.forms i f f0 at_f3 at_f in
              enable_same enables f0 b a (At k i) (subst (λ n. HasEnable enables n (At k i) b) same has) own
          | inr (g, y, c, at_y, lt, has_g, inside) ↦
              by_kind f b g c y y.kind refl at_y has_g has inside (enabled.inner g y (At k i) c at_y has_g)
              ∙ earlier g lt c has_g
        ]

    some_member : (ms : List ℕ) → 0 < length ms → (m : ℕ) × Contains ms m
    some_member [] some = absurd (omega (arith, some))
    some_member (m ∷ ms) some = (m, (0, omega arith, refl))

    -- a fall costs the moves in the form, and 1 more where there is a `cond` in it
    fall_price : (old new : List RtlExpr) (ms : List ℕ) (e : ℕ) → HasEnable enables f0 (At k i) a
        → AreMovesAt p enables k i ms → IsFallMade old new a ms e
        → exprs_cost new ≤ exprs_cost old
        + (truth_cost (has_at is_cond k i p.forms enables && has_at is_transfer k i p.forms enables) + length ms)
    fall_price old new ms e own inside made = by_cost made.grown
      where
        by_cost : IsGrown (a ∷ ms) 0 old new
            ⊎ ((Contains ms a → ⊥) × (0 < length ms) × IsGrown (a ∷ ms) (1 + length ms) old new)
            → exprs_cost new ≤ exprs_cost old
            + (truth_cost (has_at is_cond k i p.forms enables && has_at is_transfer k i p.forms enables) + length ms)
        by_cost (inl grown) = let cost = grown.cost in omega (arith, cost)
        by_cost (inr (other, some, grown)) =
            let (m, cm) = some_member ms some in
            let (f, y, at_y, moves, has) = (inside m).0 cm in
            let cost = grown.cost in
            by_test (has_at is_cond k i p.forms enables)
            (λ parted.
            let moved = has_in is_transfer k i p.forms enables f m y at_y has moves in
            let one : truth_cost (has_at is_cond k i p.forms enables && has_at is_transfer k i p.forms enables) ≡ 1 =
            ap (λ b. truth_cost (b && has_at is_transfer k i p.forms enables)) parted ∙ ap truth_cost moved in
            omega (arith, cost, one))
            (λ none. absurd (other (subst (Contains ms) (only_enable own none f m has) cm)))

-- ---- falls

abbrev pub FallsSoFar : Program → List (Option Enable) → ℕ → ℕ → List RtlExpr → List RtlExpr → List ℕ → Type 0
FallsSoFar p enables k n old now falls = (roles : List Role) (xs : List cells.Cell) (q : Process)
    → IsAt p.processes k q → IsExtended p roles xs enables old → AreFallsMade p roles xs enables k n old now falls

pub falls_more : (p : Program) (enables : List (Option Enable)) (k n f a e : ℕ) (q : Process) (inside : List ℕ)
    (old now next : List RtlExpr) (falls more : List ℕ) → IsAt p.processes k q → IsAt q.forms n f
    → (x : Enable) × IsAt enables f (Some x) × (a ≡ x.expr)
    → inside ≡ picked (Inside k n) (moves_in p.forms enables)
    → FallsSoFar p enables k n old now falls → IsFallMade now next a inside e → more ≡ falls ++ e ∷ []
    → FallsSoFar p enables k (n + 1) old next more
falls_more p enables k n f a e q inside old now next falls more at_q at_f (x, at_x, expr) is before made added =
    λ roles xs q2 at_q2 ext.
    let so_far = before roles xs q at_q ext in
    let now_ext = so_far.extended in
    let enabled = now_ext.enabled in
    let (origin, place) = root_place p roles xs enables now_ext.base enabled k n f a q at_q at_f x at_x in
    let own : HasEnable enables f (At k n) a =
    subst (λ z. IsAt enables f (Some z)) (origin ∙ ap (λ m. record { origin = At k n; expr = m }) (sym expr)) at_x in
    let fell : IsFallMade now next a (picked (Inside k n) (moves_in p.forms enables)) e =
    subst (λ ms. IsFallMade now next a ms e) is made in
    let (price, grown) = grown_of fell.grown in
    let cost = fall_price p roles xs enables now_ext.base enabled k n f a q at_q at_f now next
    (picked (Inside k n) (moves_in p.forms enables)) e own (moves_inside p enables k n) fell in
    let earlier = so_far.cost in
    let next_n : n + 1 ≡ suc n = omega arith in
    let parted : parted_of k (n + 1) p.forms enables ≡ parted_of k (suc n) p.forms enables =
    ap (λ m. parted_of k m p.forms enables) next_n in
    let counted : inside_to k (n + 1) (moves_in p.forms enables) ≡ inside_to k (suc n) (moves_in p.forms enables) =
    ap (λ m. inside_to k m (moves_in p.forms enables)) next_n in
    let size = so_far.size in
    let long = ap length added ∙ length_push falls e in record {
      size = omega (arith, size, long);
      each = λ i d at_d. elim (push_cases falls e i d (subst (λ es. IsAt es i d) added at_d)) as
          (λ _. IsFallAt p next roles enables k i d) [
            | inl (lt, there) ↦ fall_at_kept p roles enables now next grown.kept k i d (so_far.each i d there)
            | inr (last, same) ↦
                let here : IsFallAt p next roles enables k n e = (
                  a,
                  place_kept p roles enables now_ext.base next
                      (keeps_more now_ext.base now next now_ext.kept grown.kept) k n a
                      (subst (IsPlaceExpr p now_ext.base roles k n) (sym expr) place),
                  (picked (Inside k n) (moves_in p.forms enables), moves_inside p enables k n, fell.made),
                ) in
                subst (λ m. IsFallAt p next roles enables k m d) (sym (last ∙ size))
                (subst (IsFallAt p next roles enables k n) same here)
          ];
      kept = keeps_more old now next so_far.kept grown.kept;
      extended = extended_grown p roles xs enables (a ∷ picked (Inside k n) (moves_in p.forms enables)) price now next
          now_ext (enabled_bits own) grown;
      cost = omega (arith, cost, earlier, parted, counted);
    }
  where
    grown_of : IsGrown (a ∷ picked (Inside k n) (moves_in p.forms enables)) 0 now next
        ⊎ ((Contains (picked (Inside k n) (moves_in p.forms enables)) a → ⊥)
        × (0 < length (picked (Inside k n) (moves_in p.forms enables)))
        × IsGrown (a ∷ picked (Inside k n) (moves_in p.forms enables))
        (1 + length (picked (Inside k n) (moves_in p.forms enables))) now next)
        → (price : ℕ) × IsGrown (a ∷ picked (Inside k n) (moves_in p.forms enables)) price now next
    grown_of (inl grown) = (0, grown)
    grown_of (inr (other, some, grown)) = (1 + length (picked (Inside k n) (moves_in p.forms enables)), grown)

    enabled_bits : HasEnable enables f (At k n) a → (d : ℕ)
        → Contains (a ∷ picked (Inside k n) (moves_in p.forms enables)) d
        → (g : ℕ) × (o : Origin) × HasEnable enables g o d
    enabled_bits own d c = elim (cases_of d a (picked (Inside k n) (moves_in p.forms enables)) c) as
        (λ _. (g : ℕ) × (o : Origin) × HasEnable enables g o d) [
          | inl same ↦ (f, At k n, subst (HasEnable enables f (At k n)) same own)
          | inr behind ↦
              let (g, y, at_y, moves, has) = (moves_inside p enables k n d).0 behind in (g, At k n, has)
        ]

pub falls_all : (p : Program) (enables : List (Option Enable)) (k n : ℕ) (q : Process) (old now : List RtlExpr)
    (falls : List ℕ) → IsAt p.processes k q → n ≡ length q.forms → FallsSoFar p enables k n old now falls
    → AllFallsMade p enables k old now falls
falls_all p enables k n q old now falls at_q is before = λ roles xs q2 at_q2 ext.
    let same : n ≡ length q2.forms = is ∙ ap (λ (z : Process). length z.forms) (one_entry p.processes k q q2 at_q
    at_q2) in
    subst (λ m. AreFallsMade p roles xs enables k m old now falls) same (before roles xs q2 at_q2 ext)

-- ---- unions

union_is : (p : Program) (enables : List (Option Enable)) (t : FormKind → Bool) (k : ℕ) (old new : List RtlExpr)
    (guards : List ℕ) (u : Option ℕ) → ((a : ℕ) → Contains guards a ↔ IsMoveEnable p enables t k a)
    → IsUnionMade old new guards u → MatchOption u (HasMove p enables t k → ⊥) (IsUnionOf p new enables t k)
union_is p enables t k old new guards None agree made =
    λ (a, moves). nothing_in a (subst (λ xs. Contains xs a) made.made ((agree a).1 moves))
union_is p enables t k old new guards (Some u) agree made = (guards, agree, made.made)

-- ---- jumps

pub jumps_made : (p : Program) (enables : List (Option Enable)) (k : ℕ) (old one two new : List RtlExpr)
    (calls returns : List ℕ) (c r : Option ℕ) (falls : List ℕ)
    → calls ≡ picked (Calls k) (moves_in p.forms enables) → returns ≡ picked (Returns k) (moves_in p.forms enables)
    → IsUnionMade old one calls c → IsUnionMade one two returns r → AllFallsMade p enables k two new falls
    → MakesJumps p enables k old new (record { calls = c; returns = r; falls = falls })
jumps_made p enables k old one two new calls returns c r falls calls_is returns_is first second fell =
    λ roles xs q at_q ext.
    let ms = moves_in p.forms enables in
    let calls_made = subst (λ gs. IsUnionMade old one gs c) calls_is first in
    let returns_made = subst (λ gs. IsUnionMade one two gs r) returns_is second in
    let one_grown = calls_made.grown in
    let two_grown = returns_made.grown in
    let ext_one = extended_grown p roles xs enables (picked (Calls k) ms) (length (picked (Calls k) ms)) old one ext
    (λ a ca. let (f, i, y, at_y, is, has) = (calls_are p enables k a).0 ca in (f, At k i, has)) one_grown in
    let ext_two = extended_grown p roles xs enables (picked (Returns k) ms) (length (picked (Returns k) ms)) one two
    ext_one (λ a ca. let (f, i, y, at_y, is, has) = (returns_are p enables k a).0 ca in (f, At k i, has)) two_grown in
    let made = fell roles xs q at_q ext_two in
    let from_one = keeps_more one two new two_grown.kept made.kept in
    let cost_one = one_grown.cost in
    let cost_two = two_grown.cost in
    let cost_three = made.cost in
    let some_calls = calls_long k p.forms enables in
    let some_returns = returns_long k p.forms enables in
    let inside = inside_counted k (length q.forms) p.forms enables in record {
      jumps = record {
        calls = match_more c (HasMove p enables is_call k → ⊥) (IsUnionOf p one enables is_call k)
            (IsUnionOf p new enables is_call k) (union_kept p roles enables one new from_one is_call k)
            (union_is p enables is_call k old one (picked (Calls k) ms) c (calls_are p enables k) calls_made);
        returns = match_more r (HasMove p enables is_return k → ⊥) (IsUnionOf p two enables is_return k)
            (IsUnionOf p new enables is_return k) (union_kept p roles enables two new made.kept is_return k)
            (union_is p enables is_return k one two (picked (Returns k) ms) r (returns_are p enables k) returns_made);
        size = made.size;
        falls = made.each;
      };
      kept = keeps_more old one new one_grown.kept from_one;
      extended = made.extended;
      cost = omega (arith, cost_one, cost_two, cost_three, some_calls, some_returns, inside);
    }

abbrev pub JumpsSoFar : Program → List (Option Enable) → ℕ → List RtlExpr → List RtlExpr → List Jumps → Type 0
JumpsSoFar p enables n old now ms = (roles : List Role) (xs : List cells.Cell) → IsExtended p roles xs enables old
    → AreJumpsMade p roles xs enables n old now ms

pub tally_at : (p : Program) (enables : List (Option Enable)) (j n : ℕ) (q : Process) (qs : List Process) → IsAt qs n q
    → IsAt (tallies_of p enables j qs) n (tally_of p enables (j + n) q)
tally_at p enables j n q [] at = absurd (none-some q at)
tally_at p enables j zero q (r ∷ qs) at =
    let start : j ≡ j + 0 = omega arith in
    ap (λ (z : Process). Some (tally_of p enables j z)) (same_Some r q at)
    ∙ ap (λ m. Some (tally_of p enables m q)) start
tally_at p enables j (suc n) q (r ∷ qs) at =
    let shift : suc j + n ≡ j + suc n = omega arith in
    subst (λ m. IsAt (tallies_of p enables (suc j) qs) n (tally_of p enables m q)) shift
    (tally_at p enables (suc j) n q qs at)

pub jumps_more : (p : Program) (enables : List (Option Enable)) (n : ℕ) (old now next : List RtlExpr)
    (ms more : List Jumps) (m : Jumps) → n < length p.processes → JumpsSoFar p enables n old now ms
    → MakesJumps p enables n now next m → more ≡ ms ++ m ∷ [] → JumpsSoFar p enables (n + 1) old next more
jumps_more p enables n old now next ms more m lt before makes added = λ roles xs ext.
    let so_far = before roles xs ext in
    let (q, at_q) = some_entry p.processes n lt in
    let made = makes roles xs q at_q so_far.extended in
    let ts = tallies_of p enables 0 p.processes in
    let t = tally_of p enables (0 + n) q in
    let at_t : IsAt ts n t = tally_at p enables 0 n q p.processes at_q in
    let zero_n : 0 + n ≡ n = omega arith in
    let price : moves_cost (get_or ts n t) ≡ moves_cost (tally_of p enables n q) =
    ap moves_cost (get_or_from_slice_get ts n t t at_t) ∙ ap (λ i. moves_cost (tally_of p enables i q)) zero_n in
    let total = sum_by_more moves_cost ts n t (within ts n at_t) in
    let cost = made.cost in
    let earlier = so_far.cost in
    let size = so_far.size in
    let long = ap length added ∙ length_push ms m in record {
      size = omega (arith, size, long);
      each = λ k r z at_r at_z. elim (push_cases ms m k z (subst (λ ns. IsAt ns k z) added at_z)) as
          (λ _. IsJumps p next roles enables k r z) [
            | inl (before_it, there) ↦
                jumps_kept p roles enables now next made.kept k r z (so_far.each k r z at_r there)
            | inr (last, same) ↦
                let at_n : IsAt p.processes n r = subst (λ i. IsAt p.processes i r) (last ∙ size) at_r in
                let here = makes roles xs r at_n so_far.extended in
                subst (λ i. IsJumps p next roles enables i r z) (sym (last ∙ size))
                (subst (IsJumps p next roles enables n r) same here.jumps)
          ];
      kept = keeps_more old now next so_far.kept made.kept;
      extended = made.extended;
      cost = omega (arith, cost, earlier, price, total);
    }

pub jumps_all : (p : Program) (enables : List (Option Enable)) (n : ℕ) (old now : List RtlExpr) (ms : List Jumps)
    → n ≡ length p.processes → JumpsSoFar p enables n old now ms → AllJumpsMade p enables old now ms
jumps_all p enables n old now ms is before = λ roles xs ext.
    subst (λ m. AreJumpsMade p roles xs enables m old now ms) is (before roles xs ext)
