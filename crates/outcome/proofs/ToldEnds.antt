-- What work did, from its end and the line that was told.
use Rattle.std.proofs.Common.{◌≡◌, ◌≤◌, ℕ, List, [], ◌++◌, refl, sym, subst, ◌∙◌, inl, inr, Option, Some, Err}
use Rattle.outside.specs.Outside.{Files, Rose, WhereTold, Gains}
use Rattle.mp_base.specs.declared.refusal.Broken.{Broken}
use Rattle.outcome.specs.Order.{Breaks}
use Rattle.outcome.specs.Work.{Work, IsRefused, IsPartOf}
use Rattle.outcome.specs.Line.{line_of}
use Rattle.outcome.specs.World.{World, HasCauses, PrintFailed, Leaves, whole, cut, IsTold, DidWork}
use Rattle.outcome.specs.Halt.{Ends}
use Rattle.outcome.specs.declared.halt.Halt.TheVariants as halt
use Rattle.outcome.specs.declared.status.Status.{Status}
use Rattle.outcome.specs.declared.status.Status.TheVariants.{Refused}
use Rattle.outside.proofs.Told.{told_map, gains_twice}

-- a print failed, and nothing had failed before it
since : (before mid after : World) → mid.prints ≡ before.prints → after.writes ≡ before.writes
    → mid.prints ≤ after.prints → Rose mid.prints after.prints → PrintFailed before after
since before mid after p w le rose = record {
  later = subst (λ n. n ≤ after.prints) p le;
  failed = subst (λ n. Rose n after.prints) p rose;
  writes = w;
}

-- a refusal's line was told, and nothing had failed before it
pub causes_told : (line : List ℕ) (stray : Type 0) (result : Status) (before mid after : World)
    → HasCauses Refused stray before mid → after.reads ≡ mid.reads → after.writes ≡ mid.writes
    → IsTold line mid.text after.text mid.prints after.prints result → HasCauses result stray before after
causes_told line stray result before mid after none r w (inl (whole is same said)) = subst
    (λ s. HasCauses s stray before after) (sym is) (r ∙ none.0, w ∙ none.1, same ∙ none.2)
causes_told line stray result before mid after none r w (inl (cut is le rose part first said)) = subst
    (λ s. HasCauses s stray before after) (sym is) (
      r ∙ none.0,
      inr (since before mid after none.2 (w ∙ none.1) le rose),
    )
causes_told line stray result before mid after none r w (inr wanting) = subst
    (λ s. HasCauses s stray before after) (sym wanting.0) (r ∙ none.0, w ∙ none.1, wanting.2 ∙ none.2)

module _ (work : Work) (broken : Broken) where
  -- what refused work did
  abbrev Refuses : List ℕ → Files → Files → Type 0
  Refuses printed old new = work.First old (Some (Breaks broken)) × (new ≡ old) × (printed ≡ [])

  refused : (printed line : List ℕ) (Q : List ℕ → List ℕ → Type 0) (x y : Option Files) → Q line (line_of broken)
      → WhereTold (Refuses printed) x y → WhereTold (IsRefused work (λ b. Q (printed ++ line) (line_of b))) x y
  refused printed line Q x y q told = told_map _ _ x y
      (λ a b r. record {
        broken = broken;
        fault = r.0;
        kept = r.1;
        line = subst (λ p. Q (p ++ line) (line_of broken)) (sym r.2) q;
      }) told

  pub leaves_told : (result : Status) (before mid after : World) → mid.prints ≡ before.prints
      → after.writes ≡ before.writes → Leaves (Ends {T = Unit {0}} work (Err (halt.Refused broken))) before mid
      → IsTold (line_of broken) mid.text after.text mid.prints after.prints result → after.files ≡ mid.files
      → Leaves (DidWork work result) before after
  leaves_told result before mid after p w ends (inl (whole is same_count said)) same = subst
      (λ r. Leaves (DidWork work r) before after) (sym is) (record {
        printed = ends.printed ++ line_of broken;
        gained = gains_twice ends.printed (line_of broken) before.text mid.text after.text ends.gained said;
        told = subst (λ files. WhereTold
            (IsRefused work (λ b. ends.printed ++ line_of broken ≡ line_of b)) before.files files) (sym same)
            (refused ends.printed (line_of broken) (λ p l. p ≡ l) before.files mid.files refl ends.told);
      })
  leaves_told result before mid after p w ends (inl (cut is le rose part first said)) same = subst
      (λ r. Leaves (DidWork work r) before after) (sym is) (record {
        printed = ends.printed ++ part;
        gained = gains_twice ends.printed part before.text mid.text after.text ends.gained said;
        told = told_map _ _ before.files after.files (λ a b r. inl (since before mid after p w le rose, r))
            (subst (λ files. WhereTold
            (IsRefused work (λ b. IsPartOf (ends.printed ++ part) (line_of b))) before.files files) (sym same)
            (refused ends.printed part (λ p l. IsPartOf p l) before.files mid.files first ends.told));
      })
  leaves_told result before mid after p w ends (inr none) same = subst
      (λ r. Leaves (DidWork work r) before after) (sym none.0) (record {
        printed = ends.printed;
        gained = subst (λ t. WhereTold (Gains ends.printed) before.text t) (sym none.1) ends.gained;
        told = told_map _ _ before.files after.files (λ a b r. (r.1, r.2))
            (subst (λ files. WhereTold (Refuses ends.printed) before.files files) (sym same) ends.told);
      })
