-- How many `call` there are in forms, from the last form to the first.
use Rattle.std.proofs.Common.{◌≡◌, inl, inr, ℕ, suc, ◌+◌, ◌-◌, ◌<◌, ◌≤◌, List, [], ◌∷◌, refl, sym, ◌∙◌, ap, arith}
use Rattle.std.proofs.Common.{length, get_or, drop, replicate, slice_set, slice_index, min}
use Rattle.std.specs.List.{sum_by, AllByRecursion}
use Rattle.std.proofs.lemmas.Bool.{cases_eq}
use Rattle.std.proofs.lemmas.List.{get_or-set_same, get_or-set_other, length-set, length-replicate}
use Rattle.std.proofs.Math.Seq.{drop-cons}
use Rattle.mp_base.proofs.Entries.{zeros_at}
use Rattle.mp_program.specs.declared.program.Form.{Form}
use Rattle.mp_program.specs.Sound.{AllBetween}
use Rattle.mp_program.specs.Weight.{inner, is_call}
use Rattle.mp_weight.specs.Weighing.{AreCalls, calls_from}
use Rattle.mp_weight.proofs.Capping.{sum_capped}

pub dropped_all : {X : Type 0} (xs : List X) → drop (length xs) xs ≡ []
dropped_all [] = refl
dropped_all (x ∷ xs) = dropped_all xs

-- past the last form
pub no_calls : (cap : ℕ) (forms : List Form) (calls : List ℕ) → calls ≡ replicate (length forms) 0
    → AreCalls cap forms (length forms) (calls_from (length forms) (drop (length forms) forms)) calls
no_calls cap forms calls e = record {
  size = ap length e ∙ length-replicate {A = ℕ} (length forms) 0;
  each = λ f le.
      let nothing : slice_index (calls_from (length forms) (drop (length forms) forms)) (f - length forms) ≡ 0 =
      ap (λ xs. slice_index (calls_from (length forms) xs) (f - length forms)) (dropped_all forms) in
      omega (arith, ap (λ xs. get_or xs f 0) e ∙ zeros_at (length forms) f, nothing);
}

-- a form before those that are done
pub more_calls : (cap : ℕ) (forms : List Form) (n i : ℕ) (x : Form) (calls : List ℕ) (count : ℕ) → i < length forms
    → x ≡ get_or forms i x → AllBetween i n (inner x.kind)
    → AreCalls cap forms (suc i) (calls_from (suc i) (drop (suc i) forms)) calls
    → count ≡ min cap (is_call x.kind + sum_by (slice_index calls) (inner x.kind))
    → AreCalls cap forms i (calls_from i (drop i forms)) (slice_set calls i count)
more_calls cap forms n i x calls count lt is behind h e = record { size = length-set calls i count ∙ h.size; each = at }
  where
    rest : List ℕ
    rest = calls_from (suc i) (drop (suc i) forms)

    ahead : (k : ℕ) → ℕ
    ahead k = slice_index (calls_from (suc i) (drop (suc i) forms)) (k - suc i)

    first : calls_from i (drop i forms)
        ≡ (is_call x.kind
        + sum_by (λ k. slice_index (calls_from (suc i) (drop (suc i) forms)) (k - suc i)) (inner x.kind))
        ∷ calls_from (suc i) (drop (suc i) forms)
    first = ap (calls_from i) (drop-cons forms i x lt ∙ ap (λ y. y ∷ drop (suc i) forms) (sym is))

    same : (ks : List ℕ) → AllBetween i n ks
        → AllByRecursion
        (λ k. min cap (slice_index calls k)
        ≡ min cap (slice_index (calls_from (suc i) (drop (suc i) forms)) (k - suc i))) ks
    same [] b = tt
    same (k ∷ ks) ((above, under), b) = (omega (arith, h.each k (omega (arith, above))), same ks b)

    counted : count
        ≡ min cap
        (is_call x.kind
        + sum_by (λ k. slice_index (calls_from (suc i) (drop (suc i) forms)) (k - suc i)) (inner x.kind))
    counted =
        let sums =
        sum_capped (slice_index calls) (λ k. slice_index (calls_from (suc i) (drop (suc i) forms)) (k - suc i)) cap
        (inner x.kind) (same (inner x.kind) behind) in
        omega (arith, e, sums)

    at : (f : ℕ) → i ≤ f
        → slice_index (slice_set calls i count) f ≡ min cap (slice_index (calls_from i (drop i forms)) (f - i))
    at f le = elim (cases_eq f i) [
      | inl here ↦ ap (λ k. slice_index (slice_set calls i count) k) here
          ∙ get_or-set_same calls i count 0 (omega (arith, lt, h.size)) ∙ counted
          ∙ ap (λ xs. min cap (slice_index xs 0)) (sym first)
          ∙ ap (λ k. min cap (slice_index (calls_from i (drop i forms)) k))
          (let z : 0 ≡ f - i = omega (arith, here) in z)
      | inr later ↦ get_or-set_other calls i f count 0 later ∙ h.each f (omega (arith, le, later))
          ∙ ap (λ xs. min cap (slice_index xs (suc (f - suc i)))) (sym first)
          ∙ ap (λ k. min cap (slice_index (calls_from i (drop i forms)) k))
          (let z : suc (f - suc i) ≡ f - i = omega (arith, le, later) in z)
    ]

-- all forms are done
pub all_calls : (cap : ℕ) (forms : List Form) (i : ℕ) (calls : List ℕ) → i ≡ 0
    → AreCalls cap forms i (calls_from i (drop i forms)) calls
    → (f : ℕ) → slice_index calls f ≡ min cap (slice_index (calls_from 0 forms) f)
all_calls cap forms i calls none h f =
    h.each f (omega (arith, none)) ∙ ap (λ k. min cap (slice_index (calls_from k (drop k forms)) (f - k))) none
    ∙ ap (λ k. min cap (slice_index (calls_from 0 forms) k)) (let e : f - 0 ≡ f = omega arith in e)
