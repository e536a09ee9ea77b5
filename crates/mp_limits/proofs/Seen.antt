-- Rules E25 and E26: pins that were seen, and ports with too few or too many.
use Rattle.std.proofs.Common.{◌≡◌, ◌⊎◌, inl, inr, ℕ, zero, suc, ◌+◌, ◌<◌, List, [], ◌∷◌, ◌++◌, refl, sym, ◌∙◌, ap}
use Rattle.std.proofs.Common.{arith, length, get_or, take, append_assoc, append-nil, Bool, true, false, Option, Some}
use Rattle.std.proofs.Common.{None, cond}
use Rattle.std.specs.Prelude.{◌==◌, ◌||◌, ◌&&◌, not, slice_get}
use Rattle.std.specs.Option.{option_map}
use Rattle.std.specs.Ordering.{nat_cmp, is_eq}
use Rattle.std.specs.List.{list_any, flat_map}
use Rattle.std.specs.Cmp.{nat_cmp_is}
use Rattle.std.specs.declared.cmp.Ordering.TheVariants.{Less, Equal, Greater}
use Rattle.std.specs.BTreeSet.{BTreeSet, contains}
use Rattle.std.proofs.lemmas.Bool.{eqb-true, eqb-false, eq-eqb, and_parts, and_from, not-true, ne_eqb, or_cases}
use Rattle.std.proofs.lemmas.Bool.{true≢false, false≢true, cases_order}
use Rattle.std.proofs.lemmas.List.{take_more}
use Rattle.std.proofs.lemmas.Option.{none-some, same_Some, slice_get_within}
use Rattle.std.proofs.lemmas.List.Concat.{flat_map-append}
use Rattle.mp_base.specs.declared.refusal.Place.{Place}
use Rattle.mp_program.specs.declared.program.Way.TheVariants.{Input, Output}
use Rattle.mp_program.specs.declared.program.What.{What}
use Rattle.mp_program.specs.declared.program.What.TheVariants.{Port}
use Rattle.mp_program.specs.declared.program.Pin.{Pin}
use Rattle.mp_program.specs.declared.program.Def.{Def}
use Rattle.mp_program.specs.declared.program.Program.{Program}
use Rattle.mp_base.specs.Entries.{IsAt}
use Rattle.mp_rules.specs.Breaking.{IsEarliest, earlier}
use Rattle.mp_rules.specs.Rules.{E26}
use Rattle.mp_base.proofs.Entries.{get_middle, get_kept, push_cases}
use Rattle.mp_base.proofs.Tests.{or_false, or_group}
use Rattle.mp_limits.specs.Finding.{earliest_in, is_padded_port, uneven_port, IsRepeatedIn, SeenPins, pins_before}
use Rattle.mp_limits.proofs.Scans.{IsFoundIn, earliest_one}
use Rattle.mp_rules.proofs.EarliestPlaces.{earliest_same, earliest_either, earliest_at}

-- a number is among those of pins
HasNumber : List Pin → ℕ → Type 0
HasNumber ps n = (j : ℕ) × (a : Pin) × IsAt ps j a × (a.number ≡ n)

has_number : (ps : List Pin) (n : ℕ) → list_any (λ (y : Pin). y.number == n) ps ≡ true
    → (j : ℕ) × (a : Pin) × IsAt ps j a × (a.number ≡ n)
has_number [] n h = absurd (false≢true h)
has_number (y ∷ ys) n h = elim (or_cases (y.number == n) (list_any (λ (y : Pin). y.number == n) ys) h) [
  | inl e ↦ (0, y, refl, eqb-true y.number n e)
  | inr e ↦ let f = has_number ys n e in (suc f.0, f.1, f.2, f.3)
]

no_number : (ps : List Pin) (n j : ℕ) (a : Pin) → list_any (λ (y : Pin). y.number == n) ps ≡ false → IsAt ps j a
    → a.number ≡ n → ⊥
no_number [] n j a h is e = none-some a is
no_number (y ∷ ys) n zero a h is e =
    true≢false
    (sym (ap (λ b. b || list_any (λ (y : Pin). y.number == n) ys)
    (eq-eqb y.number n (ap (λ (z : Pin). z.number) (same_Some y a is) ∙ e))) ∙ h)
no_number (y ∷ ys) n (suc j) a h is e = no_number ys n j a (rest (y.number == n) h) is e
  where
    rest : (b : Bool) → (b || list_any (λ (y : Pin). y.number == n) ys) ≡ false
        → list_any (λ (y : Pin). y.number == n) ys ≡ false
    rest true h = absurd (true≢false h)
    rest false h = h

any_push : (ps : List Pin) (y : Pin) (n : ℕ)
    → list_any (λ (z : Pin). z.number == n) (ps ++ y ∷ [])
    ≡ (list_any (λ (z : Pin). z.number == n) ps || (y.number == n))
any_push [] y n = or_false (y.number == n)
any_push (z ∷ zs) y n = ap (λ b. (z.number == n) || b) (any_push zs y n) ∙ or_group (z.number == n) _ _

-- a repeated pin among these and one more
repeated_push : (ps : List Pin) (y : Pin) (at : Place) → IsRepeatedIn (ps ++ y ∷ []) at
    → IsRepeatedIn ps at ⊎ ((at ≡ y.place) × (j : ℕ) × (a : Pin) × IsAt ps j a × (a.number ≡ y.number))
repeated_push ps y at (j, k, a, b, aj, bk, jk, same, is) = elim (push_cases ps y k b bk) [
  | inl (kl, late) ↦ elim (push_cases ps y j a aj) [
    | inl (jl, early) ↦ inl (j, k, a, b, early, late, jk, same, is)
    | inr (jl, last) ↦ absurd (omega (arith, jl, kl, jk))
  ]
  | inr (kl, now) ↦ elim (push_cases ps y j a aj) [
    | inl (jl, early) ↦
        inr (is ∙ ap (λ (z : Pin). z.place) (sym now), j, a, early, same ∙ ap (λ (z : Pin). z.number) (sym now))
    | inr (jl, last) ↦ absurd (omega (arith, jl, kl, jk))
  ]
]

repeated_kept : (ps : List Pin) (y : Pin) (at : Place) → IsRepeatedIn ps at → IsRepeatedIn (ps ++ y ∷ []) at
repeated_kept ps y at (j, k, a, b, aj, bk, jk, same, is) =
    (j, k, a, b, get_kept ps (y ∷ []) j a aj, get_kept ps (y ∷ []) k b bk, jk, same, is)

-- one more element of a part of a list
pub pushed : {X : Type 0} (front xs : List X) (i : ℕ) (d : X) → i < length xs
    → front ++ take (i + 1) xs ≡ (front ++ take i xs) ++ get_or xs i d ∷ []
pushed front xs i d lt =
    ap (λ ys. front ++ ys) (take_more xs i d lt) ∙ sym (append_assoc front (take i xs) (get_or xs i d ∷ []))

-- a set that has got a number
pub grows : (k : ℕ) (old new : BTreeSet ℕ)
    → ((n : ℕ) → contains nat_cmp new n ≡ cond (is_eq (nat_cmp k n)) true (contains nat_cmp old n))
    → (n : ℕ) → contains nat_cmp new n ≡ (contains nat_cmp old n || (k == n))
grows k old new h n = h n ∙ elim (cases_order k n) [
  | inl e ↦
      either (is_eq (nat_cmp k n)) (k == n) (contains nat_cmp old n)
      (ap is_eq (sym (nat_cmp_is k n Equal e)) ∙ sym (eq-eqb k n e))
  | inr ne ↦ elim ne [
    | inl l ↦
        either (is_eq (nat_cmp k n)) (k == n) (contains nat_cmp old n)
        (ap is_eq (sym (nat_cmp_is k n Less l)) ∙ sym (ne_eqb k n (λ e. omega (arith, e, l))))
    | inr g ↦
        either (is_eq (nat_cmp k n)) (k == n) (contains nat_cmp old n)
        (ap is_eq (sym (nat_cmp_is k n Greater g)) ∙ sym (ne_eqb k n (λ e. omega (arith, e, g))))
  ]
]
  where
    either : (a c b : Bool) → a ≡ c → cond a true b ≡ (b || c)
    either true true true e = refl
    either true true false e = refl
    either false false true e = refl
    either false false false e = refl
    either true false b e = absurd (true≢false e)
    either false true b e = absurd (false≢true e)

-- a pin that wasn't seen
pub seen_new : (ps : List Pin) (y : Pin) (old new : BTreeSet ℕ) (found : Option Place) → SeenPins ps old found
    → contains nat_cmp old y.number ≡ false
    → ((n : ℕ) → contains nat_cmp new n ≡ (contains nat_cmp old n || (y.number == n)))
    → SeenPins (ps ++ y ∷ []) new found
seen_new ps y old new found s absent grown = record {
  numbers = λ n. grown n ∙ ap (λ b. b || (y.number == n)) (s.numbers n) ∙ sym (any_push ps y n);
  earliest =
      earliest_same (IsRepeatedIn ps) (IsRepeatedIn (ps ++ y ∷ [])) found s.earliest
      (λ at h. repeated_kept ps y at h) (λ at h. elim (repeated_push ps y at h) [
        | inl before ↦ before
        | inr now ↦ absurd (no_number ps y.number now.1 now.2 (sym (s.numbers y.number) ∙ absent) now.3 now.4)
      ]);
}

-- a pin that was seen
pub seen_again : (ps : List Pin) (y : Pin) (old new : BTreeSet ℕ) (found : Option Place) → SeenPins ps old found
    → contains nat_cmp old y.number ≡ true
    → ((n : ℕ) → contains nat_cmp new n ≡ (contains nat_cmp old n || (y.number == n)))
    → SeenPins (ps ++ y ∷ []) new (earlier found y.place)
seen_again ps y old new found s there grown = record {
  numbers = λ n. grown n ∙ ap (λ b. b || (y.number == n)) (s.numbers n) ∙ sym (any_push ps y n);
  earliest =
      earliest_same (λ at. IsRepeatedIn ps at ⊎ (at ≡ y.place)) (IsRepeatedIn (ps ++ y ∷ [])) (earlier found y.place)
      (earliest_either (IsRepeatedIn ps) (λ at. at ≡ y.place) found (Some y.place) s.earliest (earliest_at y.place))
      (λ at h. elim h [ inl before ↦ repeated_kept ps y at before | inr now ↦ repeats at now ])
      (λ at h. elim (repeated_push ps y at h) [ inl before ↦ inl before | inr now ↦ inr now.0 ]);
}
  where
    repeats : (at : Place) → at ≡ y.place → IsRepeatedIn (ps ++ y ∷ []) at
    repeats at e = let f = has_number ps y.number (sym (s.numbers y.number) ∙ there) in
        let first = get_kept ps (y ∷ []) f.0 f.1 f.2 in
        (f.0, length ps, f.1, y, first, get_middle ps y [], slice_get_within ps f.0 f.1 f.2, f.3, e)

-- at the start
pub seen_none : (seen : BTreeSet ℕ) → ((n : ℕ) → contains nat_cmp seen n ≡ false) → SeenPins [] seen None
seen_none seen empty =
    record { numbers = empty; earliest = λ at (j, k, a, b, first, rest, jk, same, e). none-some a first }

-- the pins before an index and those of the definition there
pub pins_more : (defs : List Def) (k : ℕ) (x : Def) → k < length defs
    → pins_before defs (k + 1) ≡ pins_before defs k ++ (get_or defs k x).pins
pins_more defs k x lt = ap (flat_map (λ (d : Def). d.pins)) (take_more defs k x lt)
    ∙ flat_map-append (λ (d : Def). d.pins) (take k defs) (get_or defs k x ∷ [])
    ∙ ap (λ ys. pins_before defs k ++ ys) (append-nil (get_or defs k x).pins)

-- the first pin of an uneven port
port_ways : (w : What) → is_padded_port w ≡ true → (w ≡ Port Input) ⊎ (w ≡ Port Output)
port_ways (Port Input) h = inl refl
port_ways (Port Output) h = inr refl
port_ways _ h = absurd (false≢true h)

uneven_found : (w : ℕ) (x : Def) (at : Place) → uneven_port w x ≡ Some at
    → (first : Pin) × ((x.what ≡ Port Input) ⊎ (x.what ≡ Port Output)) × (length x.pins ≡ w → ⊥) × IsAt x.pins 0 first
    × (at ≡ first.place)
uneven_found w x at h = by_test (is_padded_port x.what && not (length x.pins == w)) refl h
  where
    by_pin : (is_padded_port x.what && not (length x.pins == w)) ≡ true → (o : Option Pin) → slice_get x.pins 0 ≡ o
        → option_map (λ (y : Pin). y.place) o ≡ Some at
        → (first : Pin) × ((x.what ≡ Port Input) ⊎ (x.what ≡ Port Output)) × (length x.pins ≡ w → ⊥)
        × IsAt x.pins 0 first × (at ≡ first.place)
    by_pin t None e h = absurd (cc)
    by_pin t (Some y) e h = let parts = and_parts (is_padded_port x.what) (not (length x.pins == w)) t in (
      y,
      port_ways x.what parts.0,
      eqb-false (length x.pins) w
          (not-true (length x.pins == w) parts.1),
      e,
      (let s : y.place ≡ at = cc in sym s),
    )

    by_test : (b : Bool) → (is_padded_port x.what && not (length x.pins == w)) ≡ b
        → cond b (option_map (λ (y : Pin). y.place) (slice_get x.pins 0)) None ≡ Some at
        → (first : Pin) × ((x.what ≡ Port Input) ⊎ (x.what ≡ Port Output)) × (length x.pins ≡ w → ⊥)
        × IsAt x.pins 0 first × (at ≡ first.place)
    by_test true t h = by_pin t (slice_get x.pins 0) refl h
    by_test false t h = absurd (cc)

pub uneven_earliest : (p : Program) (found : Option Place) → found ≡ earliest_in (uneven_port p.width) None p.defs
    → IsEarliest (E26 p) found
uneven_earliest p found e =
    rw e (earliest_same (IsFoundIn (uneven_port p.width) p.defs) (E26 p) _ (earliest_one (uneven_port p.width) p.defs)
    to
    from)
  where
    to : (at : Place) → IsFoundIn (uneven_port p.width) p.defs at → E26 p at
    to at (k, x, is, f) = let h = uneven_found p.width x at f in (k, x, h.0, is, h.1, h.2, h.3, h.4)

    from : (at : Place) → E26 p at → IsFoundIn (uneven_port p.width) p.defs at
    from at (k, x, first, is, way, other, pin, e) =
        let port : is_padded_port x.what ≡ true =
        elim way [ inl i ↦ ap is_padded_port i | inr o ↦ ap is_padded_port o ] in
        let odd : not (length x.pins == p.width) ≡ true = ap not (ne_eqb (length x.pins) p.width other) in
        let test : (is_padded_port x.what && not (length x.pins == p.width)) ≡ true = and_from _ _ port odd in (
          k,
          x,
          is,
          ap (λ b. cond b (option_map (λ (y : Pin). y.place) (slice_get x.pins 0)) None) test
              ∙ ap (option_map (λ (y : Pin). y.place)) pin ∙ ap Some (sym e),
        )
