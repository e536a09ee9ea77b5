-- The equations of a setting, by cases, are those of nor_net.
use Rattle.std.proofs.Common.{◌≡◌, ◌↔◌, ℕ, zero, suc, ◌<◌, List, [], ◌∷◌, Option, Some, None, Bool, true, false, cond}
use Rattle.std.proofs.Common.{◌&&◌, length, map, get_or, refl, sym, ◌∙◌, ap, inl, inr, arith}
use Rattle.std.specs.Prelude.{All, Any, ◌||◌}
use Rattle.std.specs.List.{list_any, list_all}
use Rattle.std.proofs.lemmas.Bool.{cases_Bool}
use Rattle.std.proofs.lemmas.List.Elements.{All-cons, All-nil, All-head, All-tail}
use Rattle.mp_base.specs.declared.value.Trit.{Trit}
use Rattle.mp_base.specs.declared.value.Trit.TheVariants.{Zero, One, X}
use Rattle.mp_base.proofs.Tests.{false_true}
use Rattle.nor_net.specs.declared.net.Phase.{Phase}
use Rattle.nor_net.specs.declared.net.Phase.TheVariants.{A, B, C}
use Rattle.nor_net.specs.Elements.{Spot, Given, Nor, Latched, Joined, Low}
use Rattle.nor_net.specs.Settled.{is_zero, is_one, nor_value, is_open, IsSolution}
use Rattle.drawn_nets.specs.Law.{NetSetting}
use Rattle.drawn_nets.proofs.Cases.{IsNetSolution}

zero_is : (t : Trit) → is_zero t ≡ true → t ≡ Zero
zero_is Zero e = refl
zero_is One e = absurd (cc e)
zero_is X e = absurd (cc e)

one_is : (t : Trit) → is_one t ≡ true → t ≡ One
one_is Zero e = absurd (cc e)
one_is One e = refl
one_is X e = absurd (cc e)

module _ (u : Spot → Trit) where
  pub any_from : (ins : List Spot) → list_any is_one (map u ins) ≡ true → Any (λ i. u i ≡ One) ins
  any_from [] e = absurd (cc e)
  any_from (i ∷ ins) e = elim (cases_Bool (is_one (u i))) [
    | inl q ↦ (0, i, omega arith, refl, one_is (u i) q)
    | inr q ↦ (let w = any_from ins (sym (ap (λ t. t || list_any is_one (map u ins)) q) ∙ e) in
        (suc w.0, w.1, omega (arith, w.2), w.3, w.4))
  ]

  pub any_to : (ins : List Spot) (k : ℕ) (i : Spot) → k < length ins → get_or ins k i ≡ i → u i ≡ One
      → list_any is_one (map u ins) ≡ true
  any_to [] k i h e o = absurd (omega arith)
  any_to (j ∷ ins) zero i h e o = ap (λ t. t || list_any is_one (map u ins)) (ap is_one (ap u e ∙ o))
  any_to (j ∷ ins) (suc k) i h e o = elim (cases_Bool (is_one (u j))) [
    | inl q ↦ ap (λ t. t || list_any is_one (map u ins)) q
    | inr q ↦ ap (λ t. t || list_any is_one (map u ins)) q ∙ any_to ins k i (omega arith) e o
  ]

  pub all_from : (ins : List Spot) → list_all is_zero (map u ins) ≡ true → All (λ i. u i ≡ Zero) ins
  all_from [] e = All-nil (λ i. u i ≡ Zero)
  all_from (i ∷ ins) e = elim (cases_Bool (is_zero (u i))) [
    | inl q ↦ All-cons (λ i. u i ≡ Zero) i ins (zero_is (u i) q)
        (all_from ins (sym (ap (λ t. t && list_all is_zero (map u ins)) q) ∙ e))
    | inr q ↦ absurd (false_true (sym (ap (λ t. t && list_all is_zero (map u ins)) q) ∙ e))
  ]

  pub all_to : (ins : List Spot) → All (λ i. u i ≡ Zero) ins → list_all is_zero (map u ins) ≡ true
  all_to [] h = refl
  all_to (i ∷ ins) h = ap (λ t. t && list_all is_zero (map u ins)) (ap is_zero (All-head (λ i. u i ≡ Zero) i ins h))
      ∙ all_to ins (All-tail (λ i. u i ≡ Zero) i ins h)

  true_false : (b : Bool) → b ≡ true → b ≡ false → ⊥
  true_false b p q = cc (sym p ∙ q)

  pub nor_is : (ins : List Spot) (x : Trit) → (x ≡ One) ↔ All (λ i. u i ≡ Zero) ins → (x ≡ Zero)
      ↔ Any (λ i. u i ≡ One) ins → x ≡ nor_value (map u ins)
  nor_is ins x one zero_ = elim (cases_Bool (list_any is_one (map u ins))) [
    | inl q ↦ zero_.1 (any_from ins q) ∙ sym (ap (λ t. cond t Zero (cond (list_all is_zero (map u ins)) One X)) q)
    | inr q ↦ elim (cases_Bool (list_all is_zero (map u ins))) [
      | inl r ↦ one.1 (all_from ins r) ∙ sym (ap (λ t. cond t Zero (cond (list_all is_zero (map u ins)) One X)) q
          ∙ ap (λ t. cond t One X) r)
      | inr r ↦ neither x one zero_ q r ∙ sym (ap (λ t. cond t Zero (cond (list_all is_zero (map u ins)) One X)) q
          ∙ ap (λ t. cond t One X) r)
    ]
  ]
    where
      neither : (x : Trit) → (x ≡ One) ↔ All (λ i. u i ≡ Zero) ins → (x ≡ Zero) ↔ Any (λ i. u i ≡ One) ins
          → list_any is_one (map u ins) ≡ false → list_all is_zero (map u ins) ≡ false → x ≡ X
      neither Zero one zero_ q r = let w = zero_.0 refl in
          absurd (true_false (list_any is_one (map u ins)) (any_to ins w.0 w.1 w.2 w.3 w.4) q)
      neither One one zero_ q r = absurd (true_false (list_all is_zero (map u ins)) (all_to ins (one.0 refl)) r)
      neither X one zero_ q r = refl

-- open is open
pub open_on : (o : Option Phase) (p : Phase) → is_open o p ≡ true → o ≡ Some p
open_on None p e = absurd (cc e)
open_on (Some A) A e = refl
open_on (Some A) B e = absurd (cc e)
open_on (Some A) C e = absurd (cc e)
open_on (Some B) A e = absurd (cc e)
open_on (Some B) B e = refl
open_on (Some B) C e = absurd (cc e)
open_on (Some C) A e = absurd (cc e)
open_on (Some C) B e = absurd (cc e)
open_on (Some C) C e = refl

pub open_off : (o : Option Phase) (p : Phase) → is_open o p ≡ false → o ≡ Some p → ⊥
open_off None p e h = cc h
open_off (Some A) A e h = cc e
open_off (Some A) B e h = cc h
open_off (Some A) C e h = cc h
open_off (Some B) A e h = cc h
open_off (Some B) B e h = cc e
open_off (Some B) C e h = cc h
open_off (Some C) A e h = cc h
open_off (Some C) B e h = cc h
open_off (Some C) C e h = cc e

pub is_solution : (t : NetSetting) (u : Spot → Trit) → IsNetSolution t u → IsSolution t u
is_solution t u sol n Given h = sol.input n h
is_solution t u sol n Low h = sol.lows n h
is_solution t u sol n (Joined m) h = sol.joins n m h
is_solution t u sol n (Nor ins) h = nor_is u ins (u n) (sol.gate_one n ins h) (sol.gate_zero n ins h)
is_solution t u sol n (Latched p d) h = elim (cases_Bool (is_open t.phase p)) [
  | inl e ↦ sol.takes n p d h (open_on t.phase p e) ∙ sym (ap (λ b. cond b (u d) (t.before n)) e)
  | inr e ↦ sol.keeps n p d h (open_off t.phase p e) ∙ sym (ap (λ b. cond b (u d) (t.before n)) e)
]
