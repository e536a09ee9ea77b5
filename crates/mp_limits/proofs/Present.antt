-- Rules E34 to E36 by tests of definitions and processes.
use Rattle.std.proofs.Common.{◌≡◌, ◌≢◌, ◌⊎◌, inl, inr, zero, suc, List, [], ◌∷◌, refl, sym, ◌∙◌, ap, subst, arith}
use Rattle.std.proofs.Common.{length, get_or, Bool, true, false, Option, Some, None}
use Rattle.std.specs.Prelude.{◌==◌, ◌||◌, Contains}
use Rattle.std.specs.List.{All, list_all, list_any}
use Rattle.std.proofs.lemmas.Bool.{true≢false, false≢true, eqb-true, eq-eqb, and_cases, cases_Bool}
use Rattle.std.proofs.lemmas.List.Sums.{AllPass-from_list_all}
use Rattle.std.proofs.lemmas.List.Folds.{list_any_none}
use Rattle.mp_base.specs.declared.refusal.Place.{Place}
use Rattle.mp_base.proofs.Lists.{empty_of}
use Rattle.mp_program.specs.declared.program.What.{What}
use Rattle.mp_program.specs.declared.program.What.TheVariants.{Power, Ground, Phia, Phib, Phic}
use Rattle.mp_program.specs.declared.program.Def.{Def}
use Rattle.mp_program.specs.declared.program.Process.{Process}
use Rattle.mp_program.specs.declared.program.Program.{Program}
use Rattle.mp_program.specs.Names.{is_reset, is_stored}
use Rattle.mp_rules.specs.Naming.{supplies}
use Rattle.mp_rules.specs.Breaking.{IsEarliest}
use Rattle.mp_rules.specs.Rules.{E34, E35, E36}
use Rattle.mp_limits.specs.Finding.{earliest_in, place_that, stored_in, is_same_supply, defines}
use Rattle.mp_limits.proofs.Scans.{IsFoundIn, earliest_one, earliest_two, passes, passed}
use Rattle.mp_rules.proofs.EarliestPlaces.{earliest_same}
use Rattle.mp_limits.proofs.Wide.{def_place}

abbrev pub process_place : Process → Place
process_place q = q.place

-- where no element passes a test, each fails it
pub none_passes : {X : Type 0} (t : X → Bool) (xs : List X) → list_any t xs ≡ false → All (λ x. t x ≡ false) xs
none_passes t [] h = λ k d lt. absurd (omega (arith, lt))
none_passes t (x ∷ xs) h = by_first (none_passes t xs) (t x) refl h
  where
    by_first : (list_any t xs ≡ false → All (λ y. t y ≡ false) xs) → (b : Bool) → t x ≡ b
        → (b || list_any t xs) ≡ false → All (λ y. t y ≡ false) (x ∷ xs)
    by_first rest true e h = absurd (true≢false h)
    by_first rest false e h = at
      where
        at : All (λ y. t y ≡ false) (x ∷ xs)
        at zero d lt = e
        at (suc k) d lt = rest h k d (omega (arith, lt))

pub no_reset_needed : (p : Program) → list_any is_reset p.defs ≡ true → (at : Place) → E34 p at → ⊥
no_reset_needed p h at (none, rest) = true≢false (sym h ∙ list_any_none is_reset p.defs none)

pub stored_earliest : (p : Program) (found : Option Place) → list_any is_reset p.defs ≡ false → found ≡ stored_in p
    → IsEarliest (E34 p) found
stored_earliest p found none e =
    rw e (earliest_same
    (λ at. IsFoundIn (place_that def_place (λ (d : Def). is_stored d.what)) p.defs at
    ⊎ IsFoundIn (λ (q : Process). Some q.place) p.processes at)
    (E34 p) (stored_in p) (earliest_two (place_that def_place (λ (d : Def). is_stored d.what))
    (λ (q : Process). Some q.place) p.defs p.processes) to
    from)
  where
    to : (at : Place)
        → IsFoundIn (place_that def_place (λ (d : Def). is_stored d.what)) p.defs at
        ⊎ IsFoundIn (λ (q : Process). Some q.place) p.processes at → E34 p at
    to at (inl (k, x, is, f)) = let h = passes def_place (λ (d : Def). is_stored d.what) x at f in
        (none_passes is_reset p.defs none, inl (k, x, is, h.0, h.1))
    to at (inr (k, q, is, f)) = (none_passes is_reset p.defs none, inr (k, q, is, (let s : q.place ≡ at = cc in sym s)))

    from : (at : Place) → E34 p at
        → IsFoundIn (place_that def_place (λ (d : Def). is_stored d.what)) p.defs at
        ⊎ IsFoundIn (λ (q : Process). Some q.place) p.processes at
    from at (all, inl (k, x, is, st, e)) = inl (k, x, is, passed def_place (λ (d : Def). is_stored d.what) x at st e)
    from at (all, inr (k, q, is, e)) = inr (k, q, is, ap Some (sym e))

pub empty_earliest : (p : Program) (found : Option Place)
    → found ≡ earliest_in (place_that process_place (λ (q : Process). length q.forms == 0)) None p.processes
    → IsEarliest (E36 p) found
empty_earliest p found e =
    rw e (earliest_same (IsFoundIn (place_that process_place (λ (q : Process). length q.forms == 0)) p.processes)
    (E36 p) _ (earliest_one _ p.processes) to from)
  where
    to : (at : Place) → IsFoundIn (place_that process_place (λ (q : Process). length q.forms == 0)) p.processes at
        → E36 p at
    to at (k, q, is, f) = let h = passes process_place (λ (q : Process). length q.forms == 0) q at f in
        (k, q, is, empty_of q.forms (eqb-true (length q.forms) 0 h.0), h.1)

    from : (at : Place) → E36 p at
        → IsFoundIn (place_that process_place (λ (q : Process). length q.forms == 0)) p.processes at
    from at (k, q, is, none, e) = (
      k,
      q,
      is,
      passed process_place (λ (q : Process). length q.forms == 0) q at
          (eq-eqb (length q.forms) 0 (ap length none)) e,
    )

same_supply : (s x : What) → is_same_supply s x ≡ true → x ≡ s
same_supply Power Power h = refl
same_supply Ground Ground h = refl
same_supply Phia Phia h = refl
same_supply Phib Phib h = refl
same_supply Phic Phic h = refl
same_supply _ _ h = absurd (false≢true h)

not_same : (s x : What) → x ≢ s → is_same_supply s x ≡ false
not_same s x ne = elim (cases_Bool (is_same_supply s x)) [ inl e ↦ absurd (ne (same_supply s x e)) | inr e ↦ e ]

own : (s : What) → Contains supplies s → is_same_supply s s ≡ true
own s (zero, lt, e) = let P : What → Type 0 = λ w. is_same_supply w w ≡ true in subst P e refl
own s (suc zero, lt, e) = let P : What → Type 0 = λ w. is_same_supply w w ≡ true in subst P e refl
own s (suc (suc zero), lt, e) = let P : What → Type 0 = λ w. is_same_supply w w ≡ true in subst P e refl
own s (suc (suc (suc zero)), lt, e) = let P : What → Type 0 = λ w. is_same_supply w w ≡ true in subst P e refl
own s (suc (suc (suc (suc zero))), lt, e) = let P : What → Type 0 = λ w. is_same_supply w w ≡ true in subst P e refl
own s (suc (suc (suc (suc (suc k)))), lt, e) = absurd (omega (arith, lt))

-- where not all elements pass a test, one fails it
some_fails : {X : Type 0} (t : X → Bool) (xs : List X) → list_all t xs ≡ false → (x : X) × Contains xs x × (t x ≡ false)
some_fails t [] h = absurd (true≢false h)
some_fails t (x ∷ xs) h = elim (and_cases (t x) (list_all t xs) h) [
  | inl e ↦ (x, (0, omega arith, refl), e)
  | inr e ↦ let (y, (k, within, there), fails) = some_fails t xs e in (y, (suc k, omega (arith, within), there), fails)
]

pub missing : (p : Program) → list_all (defines p.defs) supplies ≡ false → IsEarliest (E35 p) (Some p.place)
missing p h = (lacks, λ there e. omega (arith, ap (λ (z : Place). z.offset) e.3))
  where
    lacks : E35 p p.place
    lacks = let f = some_fails (defines p.defs) supplies h in (
      f.0,
      f.1,
      (λ k d lt same. true≢false
          (sym (own f.0 f.1) ∙ ap (is_same_supply f.0) (sym same)
          ∙ none_passes (λ (x : Def). is_same_supply f.0 x.what) p.defs f.2 k d lt)),
      refl,
    )

pub supplied : (p : Program) → list_all (defines p.defs) supplies ≡ true → IsEarliest (E35 p) None
supplied p h = λ at (s, (k, lt, is), none, e).
    let P : What → Type 0 = λ w. defines p.defs w ≡ true in
    let has : defines p.defs s ≡ true = subst P is (AllPass-from_list_all (defines p.defs) supplies h k s lt) in
    true≢false
    (sym has
    ∙ list_any_none (λ (x : Def). is_same_supply s x.what) p.defs
    (λ j d jl. not_same s (get_or p.defs j d).what (none j d jl)))
