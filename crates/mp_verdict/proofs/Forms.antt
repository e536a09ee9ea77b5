-- Where forms stand, and which is later: decided.
use Rattle.std.proofs.Common.{◌≡◌, ◌⊎◌, inl, inr, ℕ, zero, suc, ◌+◌, ◌<◌, ◌≤◌, List, true, Option, Some, None, length}
use Rattle.std.proofs.Common.{refl, sym, subst, arith}
use Rattle.std.specs.Prelude.{Contains}
use Rattle.std.proofs.lemmas.Bool.{cases_lt, cases_eq}
use Rattle.std.proofs.lemmas.Option.{slice_get_within}
use Rattle.std.proofs.lemmas.List.Elements.{All-contains}
use Rattle.mp_base.proofs.Decisions.{Decided, same_claim, both_of, is_true, decided_below}
use Rattle.mp_program.specs.declared.program.FormKind.{FormKind}
use Rattle.mp_program.specs.declared.program.Form.{Form}
use Rattle.mp_program.specs.declared.program.Program.{Program}
use Rattle.mp_program.specs.Weight.{inner}
use Rattle.mp_program.specs.Sound.{IsSound}
use Rattle.mp_program.proofs.Inside.{Between, kind_between}
use Rattle.mp_base.specs.Entries.{IsAt}
use Rattle.mp_rules.specs.Standing.{Under, itself, deeper, StandsIn, is_transfer, label_of, sequences, IsLater}
use Rattle.mp_base.proofs.Entries.{one_entry, some_entry}
use Rattle.mp_verdict.proofs.Deciding.{some_at, some_in}

module _ (p : Program) (sound : IsSound p) where
  -- what stands in a form is it, or stands in one directly in it
  under_cases : (r f : ℕ) (y : Form) → IsAt p.forms r y → Under p r f → (r ≡ f)
      ⊎ ((g : ℕ) × Contains (inner y.kind) g × Under p g f)
  under_cases r f y at itself = inl refl
  under_cases r f y at (deeper {g = g} z also c rest) = inr
      (g, subst (λ (w : Form). Contains (inner w.kind) g) (one_entry p.forms r z y also at) c, rest)

  outside : (r f : ℕ) → length p.forms ≤ r → Under p r f → r ≡ f
  outside r f past itself = refl
  outside r f past (deeper z also c rest) =
      absurd (let lt = slice_get_within p.forms r z also in omega (arith, lt, past))

  under_past : (r f : ℕ) → length p.forms ≤ r → (r ≡ f) ⊎ (r ≡ f → ⊥) → Decided (Under p r f)
  under_past r f past (inl same) = inl (subst (λ k. Under p r k) same itself)
  under_past r f past (inr other) = inr (λ under. other (outside r f past under))

  under_here : (r f : ℕ) (y : Form) → IsAt p.forms r y → (r ≡ f) ⊎ (r ≡ f → ⊥)
      → Decided ((g : ℕ) × Contains (inner y.kind) g × Under p g f) → Decided (Under p r f)
  under_here r f y at (inl same) inside = inl (subst (λ k. Under p r k) same itself)
  under_here r f y at (inr other) (inl (g, c, under)) = inl (deeper y at c under)
  under_here r f y at (inr other) (inr none) = inr (λ under. elim (under_cases r f y at under)
      [ inl same ↦ other same | inr found ↦ none found ])

  within : (r g : ℕ) (y : Form) → IsAt p.forms r y → Contains (inner y.kind) g → (r < g) × (g < length p.forms)
  within r g y at c = All-contains (Between r (length p.forms)) (inner y.kind) g
      (kind_between (length p.exprs) r (length p.forms) y.kind (sound.forms r y at)) c

  under_from : (m r f : ℕ) → length p.forms ≤ r + m → Decided (Under p r f)
  under_from zero r f le = under_past r f (omega (arith, le)) (cases_eq r f)
  under_from (suc m) r f le = elim (cases_lt r (length p.forms)) [
    | inr past ↦ under_past r f past (cases_eq r f)
    | inl lt ↦
        let (y, at) = some_entry p.forms r lt in
        under_here r f y at (cases_eq r f) (some_in (inner y.kind) (λ g. Under p g f)
        (λ g c. under_from m g f (let (rg, gn) = within r g y at c in omega (arith, le, rg))))
  ]

  pub is_under : (r f : ℕ) → Decided (Under p r f)
  is_under r f = under_from (length p.forms) r f (omega arith)

  pub stands_in : (forms : List ℕ) (f : ℕ) (y : Form) → IsAt p.forms f y → Decided (StandsIn p forms f y)
  stands_in forms f y at = same_claim (some_in forms (λ r. Under p r f) (λ r c. is_under r f))
      (λ (r, c, under). (r, c, under, at)) (λ (r, c, under, also). (r, c, under))

  -- a transfer stands in form g
  abbrev HasTransfer : ℕ → Type 0
  HasTransfer g = (a : ℕ) × (x : Form) × IsAt p.forms a x × (Under p g a × (is_transfer x.kind ≡ true))

  -- in this sequence the transfer at b stands behind another
  abbrev FollowsIn : List ℕ → ℕ → Type 0
  FollowsIn forms b = (j h : ℕ) × IsAt forms j h × (Under p h b
      × ((i g : ℕ) × IsAt forms i g × ((i < j) × HasTransfer g)))

  follows_in : (forms : List ℕ) (b : ℕ) → Decided (FollowsIn forms b)
  follows_in forms b = some_at forms (λ j h. Under p h b × ((i g : ℕ) × IsAt forms i g × ((i < j) × HasTransfer g)))
      (λ j h at. both_of (is_under h b) (some_at forms (λ i g. (i < j) × HasTransfer g)
      (λ i g also. both_of (decided_below i j)
      (some_at p.forms (λ a x. Under p g a × (is_transfer x.kind ≡ true))
      (λ a x there. both_of (is_under g a) (is_true (is_transfer x.kind)))))))

  -- the same as `IsLater`, one form inside another
  abbrev Nested : ℕ → ℕ → Form → Type 0
  Nested r b z = (is_transfer z.kind ≡ true) × ((c : ℕ) × (y : Form) × IsAt p.forms c y
      × (Under p r c × ((forms : List ℕ) × Contains (sequences y.kind) forms × FollowsIn forms b)))

  pub is_later : (r b : ℕ) (z : Form) → IsAt p.forms b z → Decided (IsLater p r b z)
  is_later r b z at_b = same_claim (both_of (is_true (is_transfer z.kind))
      (some_at p.forms (λ c y. Under p r c × ((forms : List ℕ) × Contains (sequences y.kind) forms × FollowsIn forms b))
      (λ c y at. both_of (is_under r c) (some_in (sequences y.kind) (λ forms. FollowsIn forms b)
      (λ forms seq. follows_in forms b)))))
      fore back
    where
      fore : Nested r b z → IsLater p r b z
      fore (
        moves,
        (
          c,
          y,
          at_c,
          (
            under,
            (
              forms,
              seq,
              (
                j,
                h,
                at_j,
                (under_b, (i, g, at_i, (lt, (a, x, at_a, (under_a, also))))),
              ),
            ),
          ),
        ),
      ) =
          (c, y, x, forms, i, j, a, g, h, under, at_c, seq, at_i, at_j, lt, under_a, under_b, at_a, at_b, also, moves)

      back : IsLater p r b z → Nested r b z
      back (
        c,
        y,
        x,
        forms,
        i,
        j,
        a,
        g,
        h,
        under,
        at_c,
        seq,
        at_i,
        at_j,
        lt,
        under_a,
        under_b,
        at_a,
        also_b,
        also,
        moves,
      ) = (
        moves,
        (
          c,
          y,
          at_c,
          (
            under,
            (
              forms,
              seq,
              (
                j,
                h,
                at_j,
                (under_b, (i, g, at_i, (lt, (a, x, at_a, (under_a, also))))),
              ),
            ),
          ),
        ),
      )

-- a `go` or `call` names its label
pub label_named : (kind : FormKind) (R : List ℕ → Type 0) → ((l : List ℕ) → Decided (R l))
    → Decided ((l : List ℕ) × (label_of kind ≡ Some l) × R l)
label_named kind R known = by (label_of kind)
  where
    by : (o : Option (List ℕ)) → Decided ((l : List ℕ) × (o ≡ Some l) × R l)
    by None = inr (λ (l, e, h). absurd (cc))
    by (Some n) = same_claim (known n) (λ h. (n, refl, h)) (λ (l, e, h). let same : n ≡ l = cc in subst R (sym same) h)
