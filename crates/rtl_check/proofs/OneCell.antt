-- Exactly one cell of a kind, by a count.
use Rattle.std.proofs.Common.{◌≡◌, ◌∙◌, ℕ, List, Bool, true, refl, sym, ap, subst}
use Rattle.std.specs.Prelude.{◌↔◌, ◌==◌, not, IsTrue}
use Rattle.std.specs.List.{count_by}
use Rattle.std.proofs.lemmas.Bool.{eq-eqb, eqb-true, false≢true}
use Rattle.mp_base.specs.declared.pad.Pad.{Pad}
use Rattle.rtl_form.specs.declared.rtl.Cell.{Cell}
use Rattle.rtl_form.specs.declared.rtl.CellKind.{CellKind}
use Rattle.rtl_form.specs.declared.rtl.CellKind.TheVariants.{Input, Output, Inner, Stored}
use Rattle.mp_base.specs.Entries.{IsAt}
use Rattle.mp_base.proofs.Entries.{one_entry}
use Rattle.rtl_check.specs.Kinds.{is_input, is_input_kind, is_output, is_output_kind}
use Rattle.rtl_form.specs.Sound.{IsCellOf}
use Rattle.rtl_form.specs.Step.{input_number}
use Rattle.rtl_check.specs.Parts.{HasOne, IsResetKind, IsResetPad}
use Rattle.rtl_check.proofs.Counting.{once_counted, counted_once}

input_kind : (pad : ℕ) (k : CellKind) → is_input_kind pad k ≡ true → k ≡ Input pad
input_kind pad (Input j) e = ap Input (eqb-true j pad e)
input_kind pad (Output j) e = absurd (false≢true e)
input_kind pad Inner e = absurd (false≢true e)
input_kind pad Stored e = absurd (false≢true e)

output_kind : (pad : ℕ) (k : CellKind) → is_output_kind pad k ≡ true → k ≡ Output pad
output_kind pad (Output j) e = ap Output (eqb-true j pad e)
output_kind pad (Input j) e = absurd (false≢true e)
output_kind pad Inner e = absurd (false≢true e)
output_kind pad Stored e = absurd (false≢true e)

module _ (p : Cell → Bool) (kind : CellKind) (to : (x : Cell) → p x ≡ true → x.kind ≡ kind)
    (from : (x : Cell) → x.kind ≡ kind → p x ≡ true) (xs : List Cell) where
  one_counted : count_by p xs ≡ 1 → HasOne xs kind
  one_counted e =
      let (c, (x, at, h), only) = once_counted p xs e in record {
        only = (c, (x, at, to x h), λ d y there is. only d y there (from y is));
      }

  counted_one : HasOne xs kind → count_by p xs ≡ 1
  counted_one one =
      let (c, (x, at, is), only) = one.only in
      counted_once p xs (c, (x, at, from x is), λ d y there h. only d y there (to y h))

  pub one_by_count : (n : ℕ) → n ≡ count_by p xs → IsTrue (n == 1) ↔ HasOne xs kind
  one_by_count n e = (
    (λ h. one_counted (sym e ∙ eqb-true n 1 h)),
    (λ one. eq-eqb n 1 (e ∙ counted_one one)),
  )

pub one_input : (pad : ℕ) (xs : List Cell) (n : ℕ) → n ≡ count_by (is_input pad) xs
    → IsTrue (n == 1) ↔ HasOne xs (Input pad)
one_input pad xs = one_by_count (is_input pad) (Input pad) (λ x. input_kind pad x.kind)
    (λ x is. ap (is_input_kind pad) is ∙ eq-eqb pad pad refl) xs

pub one_output : (pad : ℕ) (xs : List Cell) (n : ℕ) → n ≡ count_by (is_output pad) xs
    → IsTrue (n == 1) ↔ HasOne xs (Output pad)
one_output pad xs = one_by_count (is_output pad) (Output pad) (λ x. output_kind pad x.kind)
    (λ x is. ap (is_output_kind pad) is ∙ eq-eqb pad pad refl) xs

pub pad_of : (pads : List Pad) (index : ℕ) (word : Bool) (pad : Pad) (b : Bool) → IsAt pads index pad
    → (IsTrue b ↔ (word ≡ not (pad.width == 0))) → IsTrue b ↔ IsCellOf pads index word
pad_of pads index word pad b at says = (
  (λ h. (pad, at, says.0 h)),
  (λ (other, there, is).
      let P : Pad → Type 0 = λ y. word ≡ not (y.width == 0) in
      says.1 (subst P (one_entry pads index other pad there at) is)),
)

pub reset_kind : (pads : List Pad) (kind : CellKind) (k : ℕ) (pad : Pad) (b : Bool) → kind ≡ Input k → IsAt pads k pad
    → (IsTrue b ↔ IsResetPad pad) → IsTrue b ↔ IsResetKind pads kind
reset_kind pads kind k pad b input at says = (
  (λ h. record { number = k; pad = pad; input = input; at = at; reset = says.0 h }),
  (λ is.
      let same : is.number ≡ k = ap input_number (sym is.input ∙ input) in
      let P : ℕ → Type 0 = λ n. IsAt pads n is.pad in
      let one : is.pad ≡ pad = one_entry pads k is.pad pad (subst P same is.at) at in
      says.1 (subst IsResetPad one is.reset)),
)
