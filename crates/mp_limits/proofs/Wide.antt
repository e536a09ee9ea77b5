-- Rules E23 and E24 by tests of definitions and expressions.
use Rattle.std.proofs.Common.{◌≡◌, ◌⊎◌, inl, inr, ℕ, ◌≤◌, ◌^◌, List, refl, true, Option, None}
use Rattle.std.proofs.lemmas.Bool.{leb-true, le-leb, false≢true}
use Rattle.std.proofs.Common.{ap, ◌∙◌}
use Rattle.mp_base.specs.declared.refusal.Place.{Place}
use Rattle.mp_base.specs.declared.op.Op.TheVariants.{Bit}
use Rattle.mp_program.specs.declared.program.ExprKind.{ExprKind}
use Rattle.mp_program.specs.declared.program.ExprKind.TheVariants.{Number, Apply}
use Rattle.mp_program.specs.declared.program.What.{What}
use Rattle.mp_program.specs.declared.program.What.TheVariants.{Constant}
use Rattle.mp_program.specs.declared.program.Def.{Def}
use Rattle.mp_program.specs.declared.program.Expr.{Expr}
use Rattle.mp_program.specs.declared.program.Program.{Program}
use Rattle.mp_rules.specs.Breaking.{IsEarliest}
use Rattle.mp_rules.specs.Rules.{E23, E24}
use Rattle.mp_limits.specs.Finding.{earliest_in, place_that, is_wide_constant, is_wide_number, is_past_word}
use Rattle.mp_limits.proofs.Scans.{IsFoundIn, earliest_one, earliest_two, passes, passed}
use Rattle.mp_rules.proofs.EarliestPlaces.{earliest_same}

wide_constant : (w : ℕ) (x : What) → is_wide_constant w x ≡ true → (c : ℕ) × (x ≡ Constant c) × (2 ^ w ≤ c)
wide_constant w (Constant c) h = (c, refl, leb-true (2 ^ w) c h)
wide_constant w _ h = absurd (false≢true h)

wide_number : (w : ℕ) (x : ExprKind) → is_wide_number w x ≡ true → (n : ℕ) × (x ≡ Number n) × (2 ^ w ≤ n)
wide_number w (Number n) h = (n, refl, leb-true (2 ^ w) n h)
wide_number w _ h = absurd (false≢true h)

past_word : (w : ℕ) (x : ExprKind) → is_past_word w x ≡ true
    → (k : ℕ) × (args : List ℕ) × (x ≡ Apply Bit k args) × (w ≤ k)
past_word w (Apply Bit k args) h = (k, args, refl, leb-true w k h)
past_word w _ h = absurd (false≢true h)

abbrev pub def_place : Def → Place
def_place d = d.place

abbrev pub expr_place : Expr → Place
expr_place e = e.place

pub wide_earliest : (p : Program) (found : Option Place)
    → found ≡ earliest_in (place_that expr_place (λ (e : Expr). is_wide_number p.width e.kind))
    (earliest_in (place_that def_place (λ (d : Def). is_wide_constant p.width d.what)) None p.defs) p.exprs
    → IsEarliest (E23 p) found
wide_earliest p found e =
    rw e (earliest_same
    (λ at. IsFoundIn (place_that def_place (λ (d : Def). is_wide_constant p.width d.what)) p.defs at
    ⊎ IsFoundIn (place_that expr_place (λ (e : Expr). is_wide_number p.width e.kind)) p.exprs at)
    (E23 p) _ (earliest_two _ _ p.defs p.exprs) to from)
  where
    to : (at : Place)
        → IsFoundIn (place_that def_place (λ (d : Def). is_wide_constant p.width d.what)) p.defs at
        ⊎ IsFoundIn (place_that expr_place (λ (e : Expr). is_wide_number p.width e.kind)) p.exprs at → E23 p at
    to at (inl (k, x, is, f)) = let h = passes def_place (λ (d : Def). is_wide_constant p.width d.what) x at f in
        let c = wide_constant p.width x.what h.0 in inl (k, x, c.0, is, c.1, c.2, h.1)
    to at (inr (k, x, is, f)) = let h = passes expr_place (λ (e : Expr). is_wide_number p.width e.kind) x at f in
        let c = wide_number p.width x.kind h.0 in inr (k, x, c.0, is, c.1, c.2, h.1)

    from : (at : Place) → E23 p at
        → IsFoundIn (place_that def_place (λ (d : Def). is_wide_constant p.width d.what)) p.defs at
        ⊎ IsFoundIn (place_that expr_place (λ (e : Expr). is_wide_number p.width e.kind)) p.exprs at
    from at (inl (k, x, c, is, what, big, e)) =
        inl (
          k,
          x,
          is,
          passed def_place (λ (d : Def). is_wide_constant p.width d.what) x at
              (ap (is_wide_constant p.width) what ∙ le-leb (2 ^ p.width) c big) e,
        )
    from at (inr (k, x, n, is, kind, big, e)) =
        inr (
          k,
          x,
          is,
          passed expr_place (λ (e : Expr). is_wide_number p.width e.kind) x at
              (ap (is_wide_number p.width) kind ∙ le-leb (2 ^ p.width) n big) e,
        )

pub past_earliest : (p : Program) (found : Option Place)
    → found ≡ earliest_in (place_that expr_place (λ (e : Expr). is_past_word p.width e.kind)) None p.exprs
    → IsEarliest (E24 p) found
past_earliest p found e =
    rw e (earliest_same (IsFoundIn (place_that expr_place (λ (e : Expr). is_past_word p.width e.kind)) p.exprs)
    (E24 p) _ (earliest_one _ p.exprs) to from)
  where
    to : (at : Place) → IsFoundIn (place_that expr_place (λ (e : Expr). is_past_word p.width e.kind)) p.exprs at
        → E24 p at
    to at (k, x, is, f) = let h = passes expr_place (λ (e : Expr). is_past_word p.width e.kind) x at f in
        let c = past_word p.width x.kind h.0 in (k, x, c.0, c.1, is, c.2, c.3, h.1)

    from : (at : Place) → E24 p at
        → IsFoundIn (place_that expr_place (λ (e : Expr). is_past_word p.width e.kind)) p.exprs at
    from at (e, x, k, args, is, kind, past, s) = (
      e,
      x,
      is,
      passed expr_place (λ (e : Expr). is_past_word p.width e.kind) x at
          (ap (is_past_word p.width) kind ∙ le-leb p.width k past) s,
    )
