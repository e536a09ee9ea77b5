-- Lists of expressions that grow.
use Rattle.std.proofs.Common.{
  ◌≡◌,
  inl,
  inr,
  ◌∙◌,
  ℕ,
  suc,
  ◌+◌,
  ◌<◌,
  ◌≤◌,
  List,
  [],
  ◌∷◌,
  ◌++◌,
  Bool,
  true,
  false,
  Some,
  refl,
  sym,
  ap,
  subst,
  arith,
  length,
  get_or,
  take,
}
use Rattle.std.specs.Prelude.{Contains, nat_eq}
use Rattle.std.specs.List.{IsAnyAnswer}
use Rattle.std.proofs.lemmas.Bool.{lt-ltb, eq-eqb, false≢true}
use Rattle.std.proofs.lemmas.List.{take_more, get_or_default}
use Rattle.std.proofs.lemmas.List.Sums.{sum_by_push}
use Rattle.mp_base.specs.declared.op.Op.TheVariants.{And, Or, Not}
use Rattle.mp_base.proofs.Contents.{contains_head, contains_behind as there, nothing_in, only_one}
use Rattle.mp_base.specs.Entries.{IsAt}
use Rattle.mp_base.proofs.Entries.{get_middle, get_kept, push_cases, within}
use Rattle.rtl_form.specs.declared.rtl.Cell as cells
use Rattle.rtl_form.specs.declared.rtl.RtlExpr.{RtlExpr}
use Rattle.rtl_form.specs.declared.rtl.RtlExpr.TheVariants.{Apply}
use Rattle.rtl_form.specs.Cost.{expr_cost}
use Rattle.process_plan.specs.Bill.{exprs_cost}
use Rattle.process_plan.specs.Fits.{ExprsFit, ExprFitsIn, HasSortIn}
use Rattle.process_plan.specs.Plan.{AreNegations}
use Rattle.process_plan.proofs.Members.{cases_of}
use Rattle.process_plan.proofs.Sorts.{has_sort_kept, fits_kept}
use Rattle.process_layout.specs.Steps.{Keeps}
use Rattle.process_layout.proofs.Keeping.{keeps_more}
use Rattle.process_jumps.specs.Growth.{
  AreBits,
  IsGrown,
  IsPut,
  IsNegationMade,
  AreNegationsMade,
  IsFallMade,
  IsUnionMade,
}

-- ---- bits

pub bits_kept : (xs : List cells.Cell) (old new : List RtlExpr) (es : List ℕ) → Keeps old new → AreBits xs old es
    → AreBits xs new es
bits_kept xs old new es kept bits e c =
    has_sort_kept xs xs old new e false (λ k x h. h) kept (bits e c)

module _ (old : List RtlExpr) (x : RtlExpr) where
  fit_pushed : (w : ℕ) (xs : List cells.Cell) → ExprsFit w xs old → ExprFitsIn w xs (old ++ x ∷ []) (length old) x
      → ExprsFit w xs (old ++ x ∷ [])
  fit_pushed w xs fit last e y at = elim (push_cases old x e y at) as (λ _. ExprFitsIn w xs (old ++ x ∷ []) e y) [
    | inl (lt, there) ↦ fits_kept w xs xs old (old ++ x ∷ []) e y (λ k z h. h) (get_kept old (x ∷ [])) (fit e y there)
    | inr (same, is) ↦
        subst (λ n. ExprFitsIn w xs (old ++ x ∷ []) n y) (sym same)
        (subst (ExprFitsIn w xs (old ++ x ∷ []) (length old)) is last)
  ]

  -- an expression that fits is added
  pub grown_pushed : (bits : List ℕ) (price : ℕ) → expr_cost x ≤ price
      → ((w : ℕ) (xs : List cells.Cell) → AreBits xs old bits → ExprFitsIn w xs (old ++ x ∷ []) (length old) x)
      → IsGrown bits price old (old ++ x ∷ [])
  grown_pushed bits price cheap fits = record {
    kept = get_kept old (x ∷ []);
    cost = omega (arith, cheap, sum_by_push expr_cost old x);
    fits = λ w xs fit are. fit_pushed w xs fit (fits w xs are);
  }

  pub free_pushed : expr_cost x ≡ 0 → exprs_cost (old ++ x ∷ []) ≡ exprs_cost old
  free_pushed free = omega (arith, free, sum_by_push expr_cost old x)

  pub one_pushed : (w : ℕ) (xs : List cells.Cell) → ExprsFit w xs old
      → ExprFitsIn w xs (old ++ x ∷ []) (length old) x → ExprsFit w xs (old ++ x ∷ [])
  one_pushed w xs fit last = fit_pushed w xs fit last

  -- arguments that are bits stand before it
  pub args_fit : (xs : List cells.Cell) (args : List ℕ) → AreBits xs old args → (a : ℕ) → Contains args a
      → (a < length old) × HasSortIn xs (old ++ x ∷ []) a false
  args_fit xs args are a c =
      let (y, at, is) = are a c in (
        within old a at,
        has_sort_kept xs xs old (old ++ x ∷ []) a false (λ k z h. h) (get_kept old (x ∷ [])) (y, at, is),
      )

pub bits_within : (xs : List cells.Cell) (exprs : List RtlExpr) (es more : List ℕ)
    → ((e : ℕ) → Contains es e → Contains more e) → AreBits xs exprs more → AreBits xs exprs es
bits_within xs exprs es more within are e c = are e (within e c)

pub grown_within : (es more : List ℕ) (price : ℕ) (old new : List RtlExpr)
    → ((e : ℕ) → Contains es e → Contains more e) → IsGrown es price old new → IsGrown more price old new
grown_within es more price old new within grown = record {
  kept = grown.kept;
  cost = grown.cost;
  fits = λ w xs fit are. grown.fits w xs fit (bits_within xs old es more within are);
}

pub grown_both : (bits more : List ℕ) (a b : ℕ) (old mid new : List RtlExpr)
    → ((xs : List cells.Cell) → AreBits xs old bits → AreBits xs mid more)
    → IsGrown bits a old mid → IsGrown more b mid new → IsGrown bits (a + b) old new
grown_both bits more a b old mid new are first second =
    let one = first.cost in
    let two = second.cost in record {
      kept = keeps_more old mid new first.kept second.kept;
      cost = omega (arith, one, two);
      fits = λ w xs fit old_bits. second.fits w xs (first.fits w xs fit old_bits) (are xs old_bits);
    }

-- ---- operators on bits

pub negation_grown : (old : List RtlExpr) (e : ℕ) → IsGrown (e ∷ []) 0 old (old ++ Apply Not 0 (e ∷ []) ∷ [])
negation_grown old e = grown_pushed old (Apply Not 0 (e ∷ [])) (e ∷ []) 0 (omega arith)
    (λ w xs are. (refl, tt, args_fit old (Apply Not 0 (e ∷ [])) xs (e ∷ []) are))

pub and_grown : (old : List RtlExpr) (a b : ℕ) (rest : List ℕ)
    → IsGrown (a ∷ b ∷ rest) (2 + length rest) old (old ++ Apply And 0 (a ∷ b ∷ rest) ∷ [])
and_grown old a b rest = grown_pushed old (Apply And 0 (a ∷ b ∷ rest)) (a ∷ b ∷ rest) (2 + length rest) (omega arith)
    (λ w xs are. (
      lt-ltb 0 (length (a ∷ b ∷ rest)) (omega arith),
      tt,
      args_fit old (Apply And 0 (a ∷ b ∷ rest)) xs (a ∷ b ∷ rest)
          are,
    ))

pub or_grown : (old : List RtlExpr) (a b : ℕ) (rest : List ℕ)
    → IsGrown (a ∷ b ∷ rest) (2 + length rest) old (old ++ Apply Or 0 (a ∷ b ∷ rest) ∷ [])
or_grown old a b rest = grown_pushed old (Apply Or 0 (a ∷ b ∷ rest)) (a ∷ b ∷ rest) (2 + length rest) (omega arith)
    (λ w xs are. (
      lt-ltb 0 (length (a ∷ b ∷ rest)) (omega arith),
      tt,
      args_fit old (Apply Or 0 (a ∷ b ∷ rest)) xs (a ∷ b ∷ rest)
          are,
    ))

-- ---- negations

pub negations_kept : (old new : List RtlExpr) (ms ns : List ℕ) → Keeps old new → AreNegations old ms ns
    → AreNegations new ms ns
negations_kept old new [] [] kept h = h
negations_kept old new [] (n ∷ ns) kept h = h
negations_kept old new (m ∷ ms) [] kept h = h
negations_kept old new (m ∷ ms) (n ∷ ns) kept (at, rest) =
    (kept n (Apply Not 0 (m ∷ [])) at, negations_kept old new ms ns kept rest)

pub negations_pushed : (exprs : List RtlExpr) (ms ns : List ℕ) (m n : ℕ) → AreNegations exprs ms ns
    → IsAt exprs n (Apply Not 0 (m ∷ [])) → AreNegations exprs (ms ++ m ∷ []) (ns ++ n ∷ [])
negations_pushed exprs [] [] m n h at = (at, tt)
negations_pushed exprs [] (z ∷ ns) m n h at = absurd h
negations_pushed exprs (y ∷ ms) [] m n h at = absurd h
negations_pushed exprs (y ∷ ms) (z ∷ ns) m n (first, rest) at =
    (first, negations_pushed exprs ms ns m n rest at)

pub negations_long : (exprs : List RtlExpr) (ms ns : List ℕ) → AreNegations exprs ms ns → length ns ≡ length ms
negations_long exprs [] [] h = refl
negations_long exprs [] (z ∷ ns) h = absurd h
negations_long exprs (y ∷ ms) [] h = absurd h
negations_long exprs (y ∷ ms) (z ∷ ns) (first, rest) = ap suc (negations_long exprs ms ns rest)

-- they are bits
pub negations_bits : (xs : List cells.Cell) (exprs : List RtlExpr) (ms ns : List ℕ) → AreNegations exprs ms ns
    → AreBits xs exprs ns
negations_bits xs exprs [] [] h e c = absurd (nothing_in e c)
negations_bits xs exprs [] (z ∷ ns) h e c = absurd h
negations_bits xs exprs (y ∷ ms) [] h e c = absurd h
negations_bits xs exprs (y ∷ ms) (z ∷ ns) (first, rest) e c =
    elim (cases_of e z ns c) as (λ _. HasSortIn xs exprs e false) [
      | inl same ↦ subst (λ n. HasSortIn xs exprs n false) same (Apply Not 0 (y ∷ []), first, refl)
      | inr behind ↦ negations_bits xs exprs ms ns rest e behind
    ]

-- an expression and these are bits where it is one
pub both_bits : (xs : List cells.Cell) (exprs : List RtlExpr) (a : ℕ) (ns : List ℕ) → HasSortIn xs exprs a false
    → AreBits xs exprs ns → AreBits xs exprs (a ∷ ns)
both_bits xs exprs a ns first rest e c = elim (cases_of e a ns c) as (λ _. HasSortIn xs exprs e false) [
  | inl same ↦ subst (λ n. HasSortIn xs exprs n false) same first
  | inr behind ↦ rest e behind
]

-- ---- what functions add

pub negation_put : (old new : List RtlExpr) (e n : ℕ) (args : List ℕ) → args ≡ e ∷ []
    → IsPut old new (Apply Not 0 args) n → IsNegationMade old new e n
negation_put old new e n args is (added, at) =
    let put : new ≡ old ++ Apply Not 0 (e ∷ []) ∷ [] = added ∙ ap (λ xs. old ++ Apply Not 0 xs ∷ []) is in record {
      made = subst (λ es. IsAt es n (Apply Not 0 (e ∷ []))) (sym put)
          (subst (λ i. IsAt (old ++ Apply Not 0 (e ∷ []) ∷ []) i (Apply Not 0 (e ∷ []))) (sym at)
          (get_middle old (Apply Not 0 (e ∷ [])) []));
      grown = subst (IsGrown (e ∷ []) 0 old) (sym put) (negation_grown old e);
    }

-- the negations of the first i of these
pub record NegationsSoFar (old now : List RtlExpr) (first : ℕ) (others : List ℕ) (i : ℕ) (args : List ℕ) : Type 0 where
  pub made : (ns : List ℕ) × (args ≡ first ∷ ns) × AreNegations now (take i others) ns
  pub grown : IsGrown others 0 old now

pub so_far_more : (old now next : List RtlExpr) (first : ℕ) (others : List ℕ) (i n : ℕ) (args more : List ℕ)
    → NegationsSoFar old now first others i args → i < length others → IsNegationMade now next (get_or others i 0) n
    → more ≡ args ++ n ∷ [] → NegationsSoFar old next first others (i + 1) more
so_far_more old now next first others i n args more before lt one is =
    let (ns, are, negated) = before.made in
    let m = get_or others i 0 in
    let taken : take (i + 1) others ≡ take i others ++ m ∷ [] = take_more others i 0 lt in record {
      made = (
        ns ++ n ∷ [],
        is ∙ ap (λ xs. xs ++ n ∷ []) are,
        subst (λ ms. AreNegations next ms (ns ++ n ∷ [])) (sym taken)
            (negations_pushed next (take i others) ns m n
            (negations_kept now next (take i others) ns (one.grown).kept negated) one.made),
      );
      grown = grown_both others (m ∷ []) 0 0 old now next (λ xs are.
          bits_within xs now (m ∷ []) others (λ e c. subst (Contains others) (only_one m e c) (
            i,
            lt,
            get_or_default
                others i m 0 lt,
          ))
          (bits_kept xs old now others (before.grown).kept are)) before.grown one.grown;
    }

-- ---- falls and unions

pub not_in : (r : Bool) (a : ℕ) (ms : List ℕ) → IsAnyAnswer (λ y b. nat_eq y a ≡ b) ms r → r ≡ false → Contains ms a → ⊥
not_in true a ms h e c = absurd (cc)
not_in false a ms h e (k, lt, is) =
    let other = h k a (omega arith) lt in
    let clash : nat_eq a a ≡ false = ap (λ n. nat_eq n a) (sym is) ∙ other in false≢true (sym clash ∙ eq-eqb a a refl)

pub fall_put : (old mid new : List RtlExpr) (a e : ℕ) (ms args : List ℕ) → (Contains ms a → ⊥) → 0 < length ms
    → AreNegationsMade old mid a ms args → IsPut mid new (Apply And 0 args) e → IsFallMade old new a ms e
fall_put old mid new a e ms args other some made put = with_ns made.made
  where
    with_ns : (ns : List ℕ) × (args ≡ a ∷ ns) × AreNegations mid ms ns → IsFallMade old new a ms e
    with_ns ([], are, negated) = let long = negations_long mid ms [] negated in absurd (omega (arith, long, some))
    with_ns (n ∷ ns, are, negated) =
        let long = negations_long mid ms (n ∷ ns) negated in
        let added : new ≡ mid ++ Apply And 0 (a ∷ n ∷ ns) ∷ [] = put.0 ∙ ap (λ xs. mid ++ Apply And 0 xs ∷ []) are in
        let price : 0 + (2 + length ns) ≡ 1 + length ms = omega (arith, long) in
        let grown = grown_both (a ∷ ms) (a ∷ n ∷ ns) 0 (2 + length ns) old mid (mid ++ Apply And 0 (a ∷ n ∷ ns) ∷ [])
        (λ xs are_bits. both_bits xs mid a (n ∷ ns)
        (bits_kept xs old mid (a ∷ ms) (made.grown).kept are_bits a (contains_head a ms))
        (negations_bits xs mid ms (n ∷ ns) negated))
        (grown_within ms (a ∷ ms) 0 old mid (λ x c. there x a ms c) made.grown) (and_grown mid a n ns) in
        let kept = get_kept mid (Apply And 0 (a ∷ n ∷ ns) ∷ []) in
        subst (λ xs. IsFallMade old xs a ms e) (sym added) (record {
          made = inr (inr (
            n ∷ ns,
            negations_kept mid (mid ++ Apply And 0 (a ∷ n ∷ ns) ∷ []) ms (n ∷ ns) kept negated,
            subst (λ i. IsAt (mid ++ Apply And 0 (a ∷ n ∷ ns) ∷ []) i (Apply And 0 (a ∷ n ∷ ns))) (sym put.1)
                (get_middle mid (Apply And 0 (a ∷ n ∷ ns)) []),
          ));
          grown = inr (
            other,
            some,
            subst (λ n2. IsGrown (a ∷ ms) n2 old (mid ++ Apply And 0 (a ∷ n ∷ ns) ∷ [])) price grown,
          );
        })

pub union_put : (old new : List RtlExpr) (guards : List ℕ) (u : ℕ) → 1 < length guards
    → IsPut old new (Apply Or 0 guards) u → IsUnionMade old new guards (Some u)
union_put old new [] u some put = absurd (omega (arith, some))
union_put old new (a ∷ []) u some put = absurd (omega (arith, some))
union_put old new (a ∷ b ∷ rest) u some (added, at) = subst (λ xs. IsUnionMade old xs (a ∷ b ∷ rest) (Some u))
    (sym added) (record {
      made = inr (subst (λ i. IsAt (old ++ Apply Or 0 (a ∷ b ∷ rest) ∷ []) i (Apply Or 0 (a ∷ b ∷ rest))) (sym at)
          (get_middle old (Apply Or 0 (a ∷ b ∷ rest)) []));
      grown = subst (λ n. IsGrown (a ∷ b ∷ rest) n old (old ++ Apply Or 0 (a ∷ b ∷ rest) ∷ [])) price
          (or_grown old a b rest);
    })
  where
    price : 2 + length rest ≡ length (a ∷ b ∷ rest)
    price = omega arith
