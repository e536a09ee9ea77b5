-- Which forms have a call.
use Rattle.std.proofs.Common.{
  ◌≡◌,
  ◌⊎◌,
  inl,
  inr,
  ◌∙◌,
  ℕ,
  zero,
  suc,
  ◌+◌,
  ◌<◌,
  ◌≤◌,
  List,
  [],
  ◌∷◌,
  Bool,
  false,
  refl,
  sym,
  ap,
  subst,
  arith,
  length,
  zero-add,
}
use Rattle.std.specs.Prelude.{◌||◌, nat_lt, slice_index_or, slice_set}
use Rattle.std.specs.List.{sum_by, flat_map, list_any}
use Rattle.std.proofs.lemmas.Bool.{lt-ltb}
use Rattle.std.proofs.lemmas.List.{get_or-set_same, get_or-set_other}
use Rattle.std.proofs.lemmas.List.Sums.{sum_by-cons, sum_by-append}
use Rattle.mp_program.specs.declared.program.FormKind.{FormKind}
use Rattle.mp_program.specs.declared.program.FormKind.TheVariants.{Set, Cond, Par, Go, Call, Return}
use Rattle.mp_program.specs.declared.program.Branch.{Branch}
use Rattle.mp_program.specs.declared.program.Form.{Form}
use Rattle.mp_program.specs.declared.program.Program.{Program}
use Rattle.mp_program.specs.Sound.{AllBetween, BranchesFit, InnerFit}
use Rattle.mp_program.specs.Weight.{inner, is_call, calls_in}
use Rattle.mp_base.specs.Entries.{IsAt}
use Rattle.mp_base.proofs.Entries.{within}
use Rattle.process_plan.specs.Lawful.{Known}
use Rattle.process_plan.proofs.Counting.{calls_is}
use Rattle.process_layout.specs.Calling.{kind_calls}

-- a sum is more than 0 where one of its parts is
either_more : (a b : ℕ) → nat_lt 0 (a + b) ≡ (nat_lt 0 a || nat_lt 0 b)
either_more zero b = ap (nat_lt 0) (zero-add b)
either_more (suc a) b =
    lt-ltb 0 (suc a + b) (omega arith) ∙ sym (ap (λ x. x || nat_lt 0 b) (lt-ltb 0 (suc a) (omega arith)))

abbrev IsTold : (v : ℕ → Bool) (c : ℕ → ℕ) (i n : ℕ) → Type 0
IsTold v c i n = (f : ℕ) → i < f → f < n → v f ≡ nat_lt 0 (c f)

any_told : (v : ℕ → Bool) (c : ℕ → ℕ) (i n : ℕ) (fs : List ℕ) → IsTold v c i n → AllBetween i n fs
    → list_any v fs ≡ nat_lt 0 (sum_by c fs)
any_told v c i n [] told fit = refl
any_told v c i n (f ∷ fs) told ((low, high), others) =
    ap (λ b. b || list_any v fs) (told f low high)
    ∙ ap (λ b. nat_lt 0 (c f) || b) (any_told v c i n fs told others)
    ∙ sym (either_more (c f) (sum_by c fs)) ∙ sym (ap (nat_lt 0) (sum_by-cons c f fs))

branches_told : (v : ℕ → Bool) (c : ℕ → ℕ) (e i n : ℕ) (bs : List Branch) → IsTold v c i n → BranchesFit e i n bs
    → list_any (λ (b : Branch). list_any v b.body) bs ≡ nat_lt 0 (sum_by c (flat_map (λ (b : Branch). b.body) bs))
branches_told v c e i n [] told fit = refl
branches_told v c e i n (b ∷ bs) told ((_, body), others) =
    ap (λ x. x || list_any (λ (z : Branch). list_any v z.body) bs) (any_told v c i n b.body told body)
    ∙ ap (λ x. nat_lt 0 (sum_by c b.body) || x) (branches_told v c e i n bs told others)
    ∙ sym (either_more (sum_by c b.body) (sum_by c (flat_map (λ (z : Branch). z.body) bs)))
    ∙ sym (ap (nat_lt 0) (sum_by-append c b.body (flat_map (λ (z : Branch). z.body) bs)))

-- a kind tells of a call where what stands in it does
kind_told : (v : ℕ → Bool) (c : ℕ → ℕ) (e i n : ℕ) (k : FormKind) → IsTold v c i n → InnerFit e i n k
    → kind_calls v k ≡ nat_lt 0 (is_call k + sum_by c (inner k))
kind_told v c e i n (Set x at value) told fit = refl
kind_told v c e i n (Cond bs) told fit =
    branches_told v c e i n bs told fit
    ∙ ap (nat_lt 0) (sym (zero-add (sum_by c (flat_map (λ (b : Branch). b.body) bs))))
kind_told v c e i n (Par fs) told fit =
    any_told v c i n fs told fit ∙ ap (nat_lt 0) (sym (zero-add (sum_by c fs)))
kind_told v c e i n (Go l) told fit = refl
kind_told v c e i n (Call l) told fit = refl
kind_told v c e i n Return told fit = refl

-- it is told of the forms from f on
pub record AreTold (p : Program) (f : ℕ) (calling : List Bool) : Type 0 where
  pub size : length calling ≡ length p.forms
  pub each : (g : ℕ) → f ≤ g → g < length p.forms → slice_index_or calling g false ≡ nat_lt 0 (calls_in p g)

pub told_more : (p : Program) → Known p → (f : ℕ) (x : Form) (calling : List Bool) (b : Bool) → IsAt p.forms f x
    → AreTold p (suc f) calling → b ≡ kind_calls (λ g. slice_index_or calling g false) x.kind
    → (length (slice_set calling f b) ≡ length calling) → AreTold p f (slice_set calling f b)
told_more p known f x calling b at told is kept = record {
  size = kept ∙ told.size;
  each = λ g le lt. elim (below_or_same f g le) [
    | inl same ↦
        let inside = within p.forms f at in
        let here : slice_index_or (slice_set calling f b) f false ≡ b =
        get_or-set_same calling f b false (omega (arith, inside, told.size)) in
        subst (λ n. slice_index_or (slice_set calling f b) n false ≡ nat_lt 0 (calls_in p n)) same (here ∙ now)
    | inr above ↦
        get_or-set_other calling f g b false (λ e. omega (arith, e, above)) ∙ told.each g (omega (arith, above)) lt
  ];
}
  where
    below_or_same : (m n : ℕ) → m ≤ n → (m ≡ n) ⊎ (m < n)
    below_or_same zero zero le = inl refl
    below_or_same zero (suc n) le = inr (omega arith)
    below_or_same (suc m) zero le = absurd (omega (arith, le))
    below_or_same (suc m) (suc n) le = elim (below_or_same m n (omega (arith, le))) [
      | inl e ↦ inl (ap suc e)
      | inr l ↦ inr (omega (arith, l))
    ]

    now : b ≡ nat_lt 0 (calls_in p f)
    now = is ∙ kind_told (λ g. slice_index_or calling g false) (calls_in p) (length p.exprs) f (length p.forms) x.kind
        (λ g above lt. told.each g (omega (arith, above)) lt) (known.sound.forms f x at)
        ∙ ap (nat_lt 0) (sym (calls_is p known f x at))
