-- The enables of branches, one branch after another.
use Rattle.std.proofs.Common.{
  ◌≡◌,
  ◌⊎◌,
  inl,
  inr,
  ◌∙◌,
  ℕ,
  ◌-◌,
  ◌<◌,
  ◌≤◌,
  List,
  [],
  ◌∷◌,
  false,
  Option,
  refl,
  sym,
  ap,
  subst,
  arith,
  length,
  get_or,
  take,
  drop,
}
use Rattle.std.specs.Prelude.{Contains}
use Rattle.mp_base.specs.declared.op.Op.TheVariants.{And, Not}
use Rattle.mp_base.proofs.Contents.{contains_head, contains_behind, only_one}
use Rattle.mp_base.proofs.Lists.{take_whole}
use Rattle.mp_program.specs.declared.program.Branch.{Branch}
use Rattle.mp_program.specs.declared.program.Program.{Program}
use Rattle.mp_base.specs.Entries.{IsAt}
use Rattle.rtl_form.specs.declared.rtl.RtlExpr.{RtlExpr}
use Rattle.rtl_form.specs.declared.rtl.RtlExpr.TheVariants.{Apply}
use Rattle.process_plan.specs.declared.enable.Enable.{Enable}
use Rattle.process_plan.specs.Enables.{copy_of}
use Rattle.process_plan.specs.Fits.{HasSortIn}
use Rattle.process_plan.proofs.Members.{cases_of}
use Rattle.process_layout.specs.Steps.{Keeps}
use Rattle.process_layout.proofs.Keeping.{keeps_same, keeps_more}
use Rattle.process_enables.specs.Adding.{IsPut}
use Rattle.process_enables.specs.Forms.{Assigns, EntersBranch, Narrows, guards, EntersBranches}
use Rattle.process_enables.proofs.Adding.{
  put_at,
  put_keeps,
  put_cost,
  put_fits,
  bit_kept,
  and_fits,
}
use Rattle.process_enables.proofs.Assigning.{same_enables, more_enables}

-- the AND of what tells that no guard before was 1 and of a guard, and then the enables of the branch
pub enters_is : (p : Program) (x : Enable) (b : Branch) (exprs more : List RtlExpr) (a : ℕ)
    (old new : List (Option Enable)) → IsPut exprs (Apply And 0 (x.expr ∷ copy_of p b.guard ∷ [])) more a
    → Assigns b.body (record { origin = x.origin; expr = a }) old new → EntersBranch p x b exprs more old new
enters_is p x b exprs more a old new put assigned =
    let y : RtlExpr = Apply And 0 (x.expr ∷ copy_of p b.guard ∷ []) in
    let at : IsAt more a y = put_at exprs y more a put in
    let kept : Keeps exprs more = put_keeps exprs y more a put in
    record {
      grown = record {
        exprs_kept = kept;
        kept = assigned.kept;
        added = λ f u n has. elim (assigned.added f u n has) [
          | inl before ↦ inl before
          | inr (inside, from, same) ↦ inr (inside, from)
        ];
        cost = let price = put_cost exprs y more a put in omega (arith, price);
        fits = λ w xs bits fit. record {
          exprs_fit = put_fits exprs y more a put w xs (and_fits w xs exprs x.expr (copy_of p b.guard)
              (bits x.expr (contains_head x.expr (copy_of p b.guard ∷ [])))
              (bits (copy_of p b.guard)
              (contains_behind (copy_of p b.guard) x.expr (copy_of p b.guard ∷ []) (contains_head (copy_of p
              b.guard) []))))
              fit.exprs_fit;
          bits = λ f n u has. elim (assigned.added f u n has) as (λ _. HasSortIn xs more n false) [
            | inl before ↦ bit_kept xs exprs more n kept (fit.bits f n u before)
            | inr (inside, from, same) ↦ subst (λ k. HasSortIn xs more k false) (sym same) (y, at, refl)
          ];
        };
      };
      given = (a, at, assigned.given);
    }

-- ---- no branch, one, and more

pub no_branches : (p : Program) (x : Enable) (exprs : List RtlExpr) (enables : List (Option Enable))
    → EntersBranches p x [] exprs exprs enables enables
no_branches p x exprs enables = record {
  grown = record {
    exprs_kept = keeps_same exprs;
    kept = same_enables enables;
    added = λ f u a has. inl has;
    cost = omega arith;
    fits = λ w xs bits fit. fit;
  };
  given = tt;
}

pub one_branch : (p : Program) (x : Enable) (b : Branch) (exprs more : List RtlExpr) (old new : List (Option Enable))
    → EntersBranch p x b exprs more old new → EntersBranches p x (b ∷ []) exprs more old new
one_branch p x b exprs more old new entered = record {
  grown = record {
    exprs_kept = (entered.grown).exprs_kept;
    kept = (entered.grown).kept;
    added = λ f u a has. elim ((entered.grown).added f u a has) [
      | inl before ↦ inl before
      | inr (inside, from) ↦ inr ((b, contains_head b [], inside), from)
    ];
    cost = let price = (entered.grown).cost in omega (arith, price);
    fits = (entered.grown).fits;
  };
  given = entered.given;
}

more_branches : (p : Program) (x : Enable) (b d : Branch) (bs : List Branch) (m : ℕ) (e0 e1 e2 e3 : List RtlExpr)
    (old mid new : List (Option Enable)) → EntersBranch p x b e0 e1 old mid
    → Narrows x.expr (copy_of p b.guard) e1 e2 m
    → EntersBranches p (record { origin = x.origin; expr = m }) (d ∷ bs) e2 e3 mid new
    → EntersBranches p x (b ∷ d ∷ bs) e0 e3 old new
more_branches p x b d bs m e0 e1 e2 e3 old mid new entered narrowed later =
    let first = entered.grown in
    let rest = later.grown in
    let (a, at_a, body) = entered.given in
    let (n, at_n, at_m) = narrowed.made in
    let y : RtlExpr = Apply And 0 (x.expr ∷ copy_of p b.guard ∷ []) in
    record {
      grown = record {
        exprs_kept = keeps_more e0 e1 e3 first.exprs_kept (keeps_more e1 e2 e3 narrowed.exprs_kept rest.exprs_kept);
        kept = more_enables old mid new first.kept rest.kept;
        added = λ f u k has. elim (rest.added f u k has) [
          | inl before ↦ elim (first.added f u k before) [
            | inl older ↦ inl older
            | inr (inside, from) ↦ inr ((b, contains_head b (d ∷ bs), inside), from)
          ]
          | inr ((c, among, inside), from) ↦ inr ((c, contains_behind c b (d ∷ bs) among, inside), from)
        ];
        cost =
            let c1 = first.cost in
            let c2 = narrowed.cost in
            let c3 = rest.cost in
            omega (arith, c1, c2, c3);
        fits = λ w xs bits fit.
            let rest_bit = bits x.expr (contains_head x.expr (guards p (b ∷ d ∷ bs))) in
            let guard_bit = bits (copy_of p b.guard) (contains_behind (copy_of p b.guard) x.expr (guards p (b ∷ d ∷ bs))
            (contains_head (copy_of p b.guard) (guards p (d ∷ bs)))) in
            let one = first.fits w xs (λ k c. elim (cases_two k x.expr (copy_of p b.guard) c) as
            (λ _. HasSortIn xs e0 k false) [
              | inl is ↦ subst (λ j. HasSortIn xs e0 j false) is rest_bit
              | inr is ↦ subst (λ j. HasSortIn xs e0 j false) is guard_bit
            ]) fit in
            let two = narrowed.fits w xs (bit_kept xs e0 e1 x.expr first.exprs_kept rest_bit)
            (bit_kept xs e0 e1 (copy_of p b.guard) first.exprs_kept guard_bit) one.exprs_fit in
            rest.fits w xs (λ k c. elim (cases_of k m (guards p (d ∷ bs)) c) as (λ _. HasSortIn xs e2 k false) [
              | inl is ↦ subst (λ j. HasSortIn xs e2 j false) is (Apply And 0 (x.expr ∷ n ∷ []), at_m, refl)
              | inr among ↦ bit_kept xs e1 e2 k narrowed.exprs_kept (bit_kept xs e0 e1 k first.exprs_kept
                  (bits k (contains_behind k x.expr (guards p (b ∷ d ∷ bs))
                  (contains_behind k (copy_of p b.guard) (guards p (d ∷ bs))
                  among))))
            ]) (record {
              exprs_fit = two;
              bits = λ f k u has. bit_kept xs e1 e2 k narrowed.exprs_kept (one.bits f k u has);
            });
      };
      given = (
        a,
        n,
        m,
        rest.exprs_kept a y (narrowed.exprs_kept a y at_a),
        λ f c. (rest.kept).kept f x.origin a (body f c),
        rest.exprs_kept n (Apply Not 0 (copy_of p b.guard ∷ [])) at_n,
        rest.exprs_kept m (Apply And 0 (x.expr ∷ n ∷ [])) at_m,
        later.given,
      );
    }
  where
    cases_two : (k i j : ℕ) → Contains (i ∷ j ∷ []) k → (i ≡ k) ⊎ (j ≡ k)
    cases_two k i j c = elim (cases_of k i (j ∷ []) c) [
      | inl is ↦ inl is
      | inr later ↦ inr (only_one j k later)
    ]

-- ---- branches of a slice

pub first_in : (bs : List Branch) (b : Branch) → 0 < length bs → b ≡ get_or bs 0 b → Contains bs b
first_in bs b lt is = (0, lt, sym is)

others : {X : Type 0} (x : X) (xs : List X) → take (length (x ∷ xs) - 1) (drop 1 (x ∷ xs)) ≡ xs
others x xs = let e : length (x ∷ xs) - 1 ≡ length xs = omega arith in ap (λ n. take n xs) e ∙ take_whole xs

pub other_in : (bs : List Branch) (b : Branch) → Contains (take (length bs - 1) (drop 1 bs)) b → Contains bs b
other_in [] b (k, lt, is) = absurd (omega (arith, lt))
other_in (x ∷ xs) b c = contains_behind b x xs (subst (λ ys. Contains ys b) (others x xs) c)

-- no branch
pub branches_none : (p : Program) (x : Enable) (bs : List Branch) (exprs : List RtlExpr) (enables : List (Option
    Enable))
    → length bs ≡ 0 → EntersBranches p x bs exprs exprs enables enables
branches_none p x [] exprs enables e = no_branches p x exprs enables
branches_none p x (b ∷ bs) exprs enables e = absurd (omega (arith, e))

-- a single branch
pub branches_one : (p : Program) (x : Enable) (bs : List Branch) (b : Branch) (exprs more : List RtlExpr)
    (old new : List (Option Enable)) → 1 ≤ length bs → length bs < 2 → b ≡ get_or bs 0 b
    → EntersBranch p x b exprs more old new → EntersBranches p x bs exprs more old new
branches_one p x [] b exprs more old new le lt is entered = absurd (omega (arith, le))
branches_one p x (d ∷ []) b exprs more old new le lt is entered =
    one_branch p x d exprs more old new (subst (λ z. EntersBranch p x z exprs more old new) is entered)
branches_one p x (d ∷ e ∷ bs) b exprs more old new le lt is entered = absurd (omega (arith, lt))

-- a branch before others
pub branches_more : (p : Program) (x : Enable) (bs : List Branch) (b : Branch) (m : ℕ) (e0 e1 e2 e3 : List RtlExpr)
    (old mid new : List (Option Enable)) → 2 ≤ length bs → b ≡ get_or bs 0 b → EntersBranch p x b e0 e1 old mid
    → Narrows x.expr (copy_of p b.guard) e1 e2 m
    → EntersBranches p (record { origin = x.origin; expr = m }) (take (length bs - 1) (drop 1 bs)) e2 e3 mid new
    → EntersBranches p x bs e0 e3 old new
branches_more p x [] b m e0 e1 e2 e3 old mid new le is entered narrowed later = absurd (omega (arith, le))
branches_more p x (d ∷ []) b m e0 e1 e2 e3 old mid new le is entered narrowed later = absurd (omega (arith, le))
branches_more p x (d ∷ e ∷ bs) b m e0 e1 e2 e3 old mid new le is entered narrowed later =
    more_branches p x d e bs m e0 e1 e2 e3 old mid new
    (subst (λ z. EntersBranch p x z e0 e1 old mid) is entered)
    (subst (λ (z : Branch). Narrows x.expr (copy_of p z.guard) e1 e2 m) is narrowed)
    (subst (λ ys. EntersBranches p (record { origin = x.origin; expr = m }) ys e2 e3 mid new) (others d (e ∷ bs)) later)
