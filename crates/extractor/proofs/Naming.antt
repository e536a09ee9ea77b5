-- Nodes of labels, one more.
use Rattle.std.proofs.Common.{◌≡◌, ℕ, ◌+◌, ◌<◌, inl, inr, List, [], ◌∷◌, ◌++◌, length, get_or, refl, ◌∙◌, ap, sym}
use Rattle.std.proofs.Common.{arith}
use Rattle.std.specs.Prelude.{Option, Some, None, slice_get, pos}
use Rattle.std.proofs.lemmas.Bool.{cases_lt}
use Rattle.std.proofs.lemmas.List.{length_push}
use Rattle.std.proofs.lemmas.Option.{same_Some}
use Rattle.std.proofs.lemmas.Grind.{common_steps}
use Rattle.lam_geom.specs.declared.label.FlatLabel.{FlatLabel}
use Rattle.extractor.specs.Naming.{AreNamed, named_node, over_at}

pub no_label : FlatLabel
no_label = record { offset = 0; name = []; x = pos 0; y = pos 0; layer = None }

-- what a list has with one more is that one at its place, and else what it had
pub at_push : (xs : List (Option ℕ)) (y d : Option ℕ) (n : ℕ) → n < length xs
    → get_or (xs ++ y ∷ []) n d ≡ get_or xs n d
at_push xs y d n l = grind (arith, common_steps)

pub at_push_last : (xs : List (Option ℕ)) (y d : Option ℕ) (n : ℕ) → n ≡ length xs → get_or (xs ++ y ∷ []) n d ≡ y
at_push_last xs y d n e = grind (arith, common_steps)

module _ (labels : List FlatLabel) (metal polysilicon diffusion : List (Option ℕ)) where
  pub named_none : AreNamed labels metal polysilicon diffusion 0 []
  named_none = record { long = refl; each = λ n label l at. absurd (omega arith) }

  pub named_more : (i : ℕ) (nodes : List (Option ℕ)) (label : FlatLabel) (node : Option ℕ)
      → AreNamed labels metal polysilicon diffusion i nodes
      → slice_get labels i ≡ Some label → node ≡ named_node (over_at metal polysilicon diffusion i) label.layer
      → AreNamed labels metal polysilicon diffusion (i + 1) (nodes ++ node ∷ [])
  named_more i nodes label node h at is = record {
    long = length_push nodes node ∙ ap (λ n. n + 1) h.long;
    each = λ n other l there.
        let none : Option ℕ = None in
        elim (cases_lt n i) [
          | inl k ↦ at_push nodes node none n (omega (arith, h.long)) ∙ h.each n other k there
          | inr k ↦ (
              let e : n ≡ i = omega arith in
              let same : label ≡ other = same_Some label other (sym at ∙ ap (slice_get labels) (sym e) ∙ there) in
              at_push_last nodes node none n (omega (arith, h.long)) ∙ is
              ∙ ap (λ k. named_node (over_at metal polysilicon diffusion k) label.layer) (sym e)
              ∙ ap (λ (x : FlatLabel). named_node (over_at metal polysilicon diffusion n) x.layer) same
              )
        ];
  }
