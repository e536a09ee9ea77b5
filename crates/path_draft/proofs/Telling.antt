-- What flags tell of how often nets are told.
use Rattle.std.proofs.Common.{◌≡◌, ◌≢◌, ◌≤◌, ◌<◌, ◌+◌, ℕ, zero, suc, ◌⊎◌, inl, inr, List, [], ◌∷◌, ◌++◌, Some, None}
use Rattle.std.proofs.Common.{Bool, true, false, cond, eqb, refl, sym, ◌∙◌, ap, subst, get_or, length, take, arith}
use Rattle.std.specs.Prelude.{All, Contains, ◌||◌, slice_get, slice_set, nat_lt}
use Rattle.std.specs.List.{list_all, list_any}
use Rattle.std.proofs.lemmas.Bool.{cases_lt, false≢true}
use Rattle.std.proofs.lemmas.Bool.Decides.{nat_tests}
use Rattle.std.proofs.lemmas.List.{get_or-set_other, get_or-set_same, take_more, take_all}
use Rattle.std.proofs.lemmas.List.Elements.{All-contains}
use Rattle.std.proofs.lemmas.Option.{slice_get_past}
use Rattle.mp_base.proofs.Tests.{and_left, and_right, if_at_most_one}
use Rattle.nor_net.specs.declared.net.NetId.{NetId}
use Rattle.nor_net.specs.declared.net.Part.{Part}
use Rattle.nor_net.specs.declared.net.Part.TheVariants.{Input, Gate, Latch}
use Rattle.path_form.specs.Shape.{AreApart, AreInputs, is_input, takes_pad, times}
use Rattle.path_form.proofs.Joining.{times_append}
use Rattle.path_draft.specs.Testing.{AreFlags, ArePads, LatchesFit, flag_at, is_input_at, takes_flagged, told_inputs}

module _ {A : Type 0} (test : A → Bool) where
  -- all pass
  pub all_pass : (xs : List A) → list_all test xs ≡ true → All (λ x. test x ≡ true) xs
  all_pass [] h k d l = absurd (omega arith)
  all_pass (x ∷ xs) h zero d l = and_left (test x) (list_all test xs) h
  all_pass (x ∷ xs) h (suc k) d l = all_pass xs (and_right (test x) (list_all test xs) h) k d (omega arith)

  pub passes : (xs : List A) (x : A) → list_all test xs ≡ true → Contains xs x → test x ≡ true
  passes xs x h c = All-contains (λ x. test x ≡ true) xs x (all_pass xs h) c

  -- some one passes
  pub one_passes : (xs : List A) → list_any test xs ≡ true → (x : A) × Contains xs x × (test x ≡ true)
  one_passes [] h = absurd (false≢true h)
  one_passes (x ∷ xs) h = by_head (test x) refl h (one_passes xs)
    where
      by_head : (b : Bool) → test x ≡ b → (b || list_any test xs) ≡ true
          → (list_any test xs ≡ true → (y : A) × Contains xs y × (test y ≡ true))
          → (y : A) × Contains (x ∷ xs) y × (test y ≡ true)
      by_head true e h again = (x, (0, omega arith, refl), e)
      by_head false e h again =
          let y = again h in
          let c = y.1 in (y.0, (suc c.0, (let m = c.1 in omega (arith, m)), c.2), y.2)

-- each net is told as often as its flag says
abbrev pub AreTold : List NetId → List Bool → Type 0
AreTold ids flags = (n : ℕ) → times n ids ≡ cond (flag_at flags n) 1 0

pub told_none : (flags : List Bool) → ((n : ℕ) → flag_at flags n ≡ false) → AreTold [] flags
told_none flags h n = ap (λ b. cond b 1 0) (sym (h n))

-- one more is told
pub told_more : (ids : List NetId) (i : ℕ) (d : NetId) (flags new : List Bool) → i < length ids
    → AreTold (take i ids) flags → (get_or ids i d).0 < length flags → flag_at flags (get_or ids i d).0 ≡ false
    → new ≡ slice_set flags (get_or ids i d).0 true → AreTold (take (i + 1) ids) new
told_more ids i d flags new l told inside free is n =
    ap (times n) (take_more ids i d l) ∙ times_append n (take i ids) (get_or ids i d ∷ [])
    ∙ ap (λ a. a + (cond (eqb (get_or ids i d).0 n) 1 0 + 0)) (told n)
    ∙ by_test (eqb (get_or ids i d).0 n) refl
    ∙ ap (λ (fs : List Bool). cond (flag_at fs n) 1 0) (sym is)
  where
    by_test : (b : Bool) → eqb (get_or ids i d).0 n ≡ b
        → cond (flag_at flags n) 1 0 + (cond b 1 0 + 0)
        ≡ cond (flag_at (slice_set flags (get_or ids i d).0 true) n) 1 0
    by_test true e =
        let same : (get_or ids i d).0 ≡ n = grind (arith, nat_tests) in
        ap (λ b. cond b 1 0 + (1 + 0)) (ap (flag_at flags) (sym same) ∙ free)
        ∙ ap (λ b. cond b 1 0) (sym (ap (flag_at (slice_set flags (get_or ids i d).0 true)) (sym same)
        ∙ get_or-set_same flags (get_or ids i d).0 true false inside))
    by_test false e =
        let other : n ≢ (get_or ids i d).0 = grind (arith, nat_tests) in
        let z : cond (flag_at flags n) 1 0 + (0 + 0) ≡ cond (flag_at flags n) 1 0 = omega arith in
        z ∙ ap (λ b. cond b 1 0) (sym (get_or-set_other flags (get_or ids i d).0 n true false other))

pub told_all : (ids : List NetId) (i : ℕ) (flags : List Bool) → length ids ≤ i → AreTold (take i ids) flags
    → AreTold ids flags
told_all ids i flags l h n = ap (times n) (sym (take_all i ids l)) ∙ h n

-- each input has its flag, so it is told once
pub inputs_are : (net : List Part) (ids : List NetId) (flags : List Bool) → AreTold ids flags
    → told_inputs net ids ≡ true
    → ((n : ℕ) → n < length net → is_input_at net n ≡ true → flag_at flags n ≡ true) → AreInputs net ids
inputs_are net ids flags told all each = (all_pass (λ (id : NetId). is_input_at net id.0) ids all, once)
  where
    once : (n : ℕ) → is_input (slice_get net n) ≡ true → times n ids ≡ 1
    once n e = by_cases (cases_lt n (length net))
      where
        by_cases : (n < length net) ⊎ (length net ≤ n) → times n ids ≡ 1
        by_cases (inl l) = told n ∙ ap (λ b. cond b 1 0) (each n l e)
        by_cases (inr g) = absurd (false≢true (sym (ap is_input (slice_get_past net n g)) ∙ e))

pub apart_is : (ids : List NetId) (flags : List Bool) → AreTold ids flags → AreApart ids
apart_is ids flags told n = subst (λ t. t ≤ 1) (sym (told n)) (if_at_most_one (flag_at flags n))

-- a latch that takes what is flagged takes a pad
takes_is : (net : List Part) (ids : List NetId) (flags : List Bool) → AreTold ids flags → (part : Part)
    → takes_flagged net flags part ≡ true → takes_pad net ids part ≡ true
takes_is net ids flags told Input e = refl
takes_is net ids flags told (Gate inputs) e = refl
takes_is net ids flags told (Latch p None) e = refl
takes_is net ids flags told (Latch p (Some m)) e = by_test (is_input_at net m.0) e
  where
    by_test : (b : Bool) → cond b (flag_at flags m.0) true ≡ true → cond b (nat_lt 0 (times m.0 ids)) true ≡ true
    by_test true f = ap (nat_lt 0) (told m.0 ∙ ap (λ b. cond b 1 0) f)
    by_test false f = refl

pub latches_are : (net : List Part) (ids : List NetId) (flags : List Bool) → AreTold ids flags
    → All (λ part. takes_flagged net flags part ≡ true) net → LatchesFit net ids
latches_are net ids flags told h k d l = takes_is net ids flags told (get_or net k d) (h k d l)

-- the first of two lists, and the second
pub left_all : {A : Type 0} (P : A → Type 0) (xs ys : List A) → All P (xs ++ ys) → All P xs
left_all P [] ys h k d l = absurd (omega arith)
left_all P (x ∷ xs) ys h zero d l = h zero d (omega arith)
left_all P (x ∷ xs) ys h (suc k) d l = left_all P xs ys (λ k d l. h (suc k) d (omega arith)) k d (omega arith)

pub right_all : {A : Type 0} (P : A → Type 0) (xs ys : List A) → All P (xs ++ ys) → All P ys
right_all P [] ys h = h
right_all P (x ∷ xs) ys h = right_all P xs ys (λ k d l. h (suc k) d (omega arith))

pub pads_are : (net : List Part) (inputs outputs : List NetId) (flags : List Bool)
    → AreFlags (inputs ++ outputs) (length net) flags → LatchesFit net inputs → ArePads net inputs outputs
pads_are net inputs outputs flags h latches = record {
  inputs_in = left_all (λ (id : NetId). id.0 < length net) inputs outputs h.below;
  outputs_in = right_all (λ (id : NetId). id.0 < length net) inputs outputs h.below;
  apart = apart_is (inputs ++ outputs) flags h.each;
  latches = latches;
}
