-- The entries of the tables.
use Rattle.std.proofs.Common.{◌≡◌, ◌⊎◌, inl, inr, ℕ, ◌+◌, ◌<◌, ◌≤◌, List, length, slice_set, Option, Some, None, Bool}
use Rattle.std.proofs.Common.{true, false, refl, sym, ◌∙◌, ap, subst, arith}
use Rattle.std.specs.Prelude.{Contains}
use Rattle.std.specs.Option.{is_some}
use Rattle.std.proofs.lemmas.List.{get_or-set_same, get_or-set_other, length-set}
use Rattle.std.proofs.lemmas.Bool.{cases_lt}
use Rattle.mp_base.specs.declared.refusal.Place.{Place}
use Rattle.mp_program.specs.declared.program.Form.{Form}
use Rattle.mp_program.specs.declared.program.Program.{Program}
use Rattle.mp_program.specs.Weight.{inner}
use Rattle.mp_program.specs.Sound.{IsSound}
use Rattle.mp_base.specs.Entries.{IsAt}
use Rattle.mp_rules.specs.Standing.{itself, deeper, sequences}
use Rattle.mp_rules.specs.Breaking.{IsEarliest, earlier, earlier_of}
use Rattle.mp_base.proofs.Entries.{one_entry, contains_from_get}
use Rattle.mp_rules.proofs.Sequences.{in_sequence}
use Rattle.mp_transfers.specs.declared.tables.Sought.{Sought}
use Rattle.mp_transfers.specs.declared.tables.Sought.TheVariants.{Transfer}
use Rattle.mp_transfers.specs.Tables.{is_sought, entry, IsAmong, IsBehind, IsBehindInOne, IsFound, IsSecond}
use Rattle.mp_transfers.specs.Tables.{AreFirsts}
use Rattle.mp_transfers.proofs.Earliest.{earliest_then, earliest_itself}
use Rattle.mp_rules.proofs.EarliestPlaces.{earliest_through, earliest_same, earliest_either, earliest_at}
use Rattle.mp_transfers.proofs.Earliest.{found_is, found_covers, Upto, upto_join, upto_skip, upto_all}
use Rattle.mp_transfers.proofs.Earliest.{InAny}
use Rattle.mp_transfers.proofs.Inside.{inner_behind, under_cases}

-- the entries from form f on are the earliest places
pub record Done (p : Program) (P : ℕ → Place → Type 0) (f : ℕ) (table : List (Option Place)) : Type 0 where
  pub size : length table ≡ length p.forms
  pub entries : (g : ℕ) → f ≤ g → g < length p.forms → IsEarliest (P g) (entry table g)

-- a form directly in y has this place
abbrev pub InOneOf : (ℕ → Place → Type 0) → List ℕ → Place → Type 0
InOneOf P forms at = (h : ℕ) × Contains forms h × P h at

-- the earliest of the entries of some forms
pub among : (P : ℕ → Place → Type 0) (table : List (Option Place)) (forms : List ℕ) (found : Option Place)
    → ((h : ℕ) → Contains forms h → IsEarliest (P h) (entry table h))
    → IsEarliest (IsAmong table forms) found → IsEarliest (InOneOf P forms) found
among P table forms found entries h = earliest_through (IsAmong table forms) (InOneOf P forms) found h
    (λ at (g, c, e). (g, c, found_is (P g) (entry table g) at (entries g c) e))
    (λ at (g, c, there). let (v, e, le) = found_covers (P g) (entry table g) at (entries g c) there in
    (v, (g, c, e), le))

inner_done : (p : Program) (P : ℕ → Place → Type 0) (f : ℕ) (table : List (Option Place)) (y : Form) → IsSound p
    → IsAt p.forms f y → Done p P (f + 1) table
    → (h : ℕ) → Contains (inner y.kind) h → IsEarliest (P h) (entry table h)
inner_done p P f table y s is d h c = let (l, m) = inner_behind p s f y h is c in d.entries h (omega (arith, l)) m

-- a form of these kinds, or none, and the forms in it
abbrev own : Sought → Form → Place → Type 0
own sought y at = (is_sought sought y.kind ≡ true) × (at ≡ y.place)

found_cases : (p : Program) (sought : Sought) (f : ℕ) (y : Form) (at : Place) → IsAt p.forms f y
    → IsFound p sought f at → InOneOf (IsFound p sought) (inner y.kind) at ⊎ own sought y at
found_cases p sought f y at is (g, z, u, is_z, t, e) = elim (under_cases p f g y is u) [
  | inl same ↦ (
      let P : ℕ → Type 0 = λ i. IsAt p.forms i z in
      let Q : Form → Type 0 = λ x. own sought x at in
      inr (subst Q (one_entry p.forms f z y (subst P (sym same) is_z) is) (t, e)))
  | inr (h, c, v) ↦ inl (h, c, (g, z, v, is_z, t, e))
]

cases_found : (p : Program) (sought : Sought) (f : ℕ) (y : Form) (at : Place) → IsAt p.forms f y
    → InOneOf (IsFound p sought) (inner y.kind) at ⊎ own sought y at → IsFound p sought f at
cases_found p sought f y at is there = elim there [
  | inl (h, c, (g, z, v, is_z, t, e)) ↦ (g, z, deeper y is c v, is_z, t, e)
  | inr (t, e) ↦ (f, y, itself, is, t, e)
]

-- the entry of a form of these kinds
pub first_own : (p : Program) (sought : Sought) (f : ℕ) (table : List (Option Place)) (y : Form) (found : Option Place)
    → IsSound p → IsAt p.forms f y → Done p (IsFound p sought) (f + 1) table
    → IsEarliest (IsAmong table (inner y.kind)) found → is_sought sought y.kind ≡ true
    → IsEarliest (IsFound p sought f) (earlier found y.place)
first_own p sought f table y found s is d h t =
    earliest_same (λ at. InOneOf (IsFound p sought) (inner y.kind) at ⊎ (at ≡ y.place)) (IsFound p sought f)
    (earlier found y.place)
    (earliest_either (InOneOf (IsFound p sought) (inner y.kind)) (λ at. at ≡ y.place) found (Some y.place)
    (among (IsFound p sought) table (inner y.kind) found (inner_done p (IsFound p sought) f table y s is d) h)
    (earliest_at y.place))
    (λ at there. cases_found p sought f y at is (elim there [ inl a ↦ inl a | inr e ↦ inr (t, e) ]))
    (λ at there. elim (found_cases p sought f y at is there) [ inl a ↦ inl a | inr o ↦ inr o.1 ])

-- the entry of another form
pub first_other : (p : Program) (sought : Sought) (f : ℕ) (table : List (Option Place)) (y : Form)
    (found : Option Place) → IsSound p → IsAt p.forms f y → Done p (IsFound p sought) (f + 1) table
    → IsEarliest (IsAmong table (inner y.kind)) found → is_sought sought y.kind ≡ false
    → IsEarliest (IsFound p sought f) found
first_other p sought f table y found s is d h t =
    earliest_same (InOneOf (IsFound p sought) (inner y.kind)) (IsFound p sought f) found
    (among (IsFound p sought) table (inner y.kind) found (inner_done p (IsFound p sought) f table y s is d) h)
    (λ at there. cases_found p sought f y at is (inl there))
    (λ at there. elim (found_cases p sought f y at is there) [ inl a ↦ a | inr o ↦ absurd (let q = o.0 in cc) ])

-- one more entry, before those that are done
pub done_more : (p : Program) (P : ℕ → Place → Type 0) (f : ℕ) (table : List (Option Place)) (v : Option Place)
    → f < length p.forms → Done p P (f + 1) table → IsEarliest (P f) v
    → Done p P f (slice_set table f v)
done_more p P f table v lt d h = record {
  size = length-set table f v ∙ d.size;
  entries = λ g le gl. elim (cases_lt f g) [ inl l ↦ other g l gl | inr ge ↦ same g (omega (arith, le, ge)) ];
}
  where
    other : (g : ℕ) → f < g → g < length p.forms → IsEarliest (P g) (entry (slice_set table f v) g)
    other g l gl =
        let Q : Option Place → Type 0 = IsEarliest (P g) in
        subst Q (sym (get_or-set_other table f g v None (λ e. omega (arith, l, e)))) (d.entries g (omega (arith, l)) gl)

    same : (g : ℕ) → f ≡ g → IsEarliest (P g) (entry (slice_set table f v) g)
    same g e =
        let Q : ℕ → Type 0 = λ k. IsEarliest (P k) (entry (slice_set table f v) k) in
        let R : Option Place → Type 0 = IsEarliest (P f) in
        subst Q e
        (subst R
        (sym (get_or-set_same table f v None (let n : length table ≡ length p.forms = d.size in omega (arith, lt, n))))
        h)

-- a form before j has an entry
abbrev pub HasBegun : List (Option Place) → List ℕ → ℕ → Type 0
HasBegun table forms j = (i g : ℕ) × (first : Place) × (i < j) × IsAt forms i g × (entry table g ≡ Some first)

-- at is the entry of form h, which stands at j behind one that has an entry
abbrev pub IsNext : List (Option Place) → List ℕ → ℕ → ℕ → Place → Type 0
IsNext table forms j h at = HasBegun table forms j × (entry table h ≡ Some at)

-- the forms before j of a sequence
pub record Run (P : Place → Type 0) (table : List (Option Place)) (forms : List ℕ) (j : ℕ) (begun : Bool)
    (found : Option Place) : Type 0 where
  pub upto : Upto P forms (IsNext table forms) j found
  pub begun_is : begun ≡ true → HasBegun table forms j
  pub is_begun : HasBegun table forms j → begun ≡ true

-- a form behind one that has an entry
pub run_on : {P : Place
    → Type 0} {table : List (Option Place)} {forms : List ℕ} {j : ℕ} {begun : Bool} {found : Option Place}
    → Run P table forms j begun found → (h : ℕ) → IsAt forms j h → begun ≡ true
    → Run P table forms (j + 1) begun (earlier_of found (entry table h))
run_on {P = P} {table = table} {forms = forms} {j = j} {begun = begun} {found = found} r h is on = record {
  upto = upto_join r.upto h is (entry table h)
      (earliest_same (λ at. entry table h ≡ Some at) (IsNext table forms j h) (entry table h)
      (earliest_itself (entry table h)) (λ at e. (r.begun_is on, e)) (λ at n. n.1));
  begun_is = λ e. let (i, g, first, lt, is_g, en) = r.begun_is on in (i, g, first, omega (arith, lt), is_g, en);
  is_begun = λ b. on;
}

-- a form before the first that has an entry, or that one
pub run_first : {P : Place
    → Type 0} {table : List (Option Place)} {forms : List ℕ} {j : ℕ} {begun : Bool} {found : Option Place}
    → Run P table forms j begun found → (h : ℕ) → IsAt forms j h → begun ≡ false
    → Run P table forms (j + 1) (is_some (entry table h)) found
run_first {P = P} {table = table} {forms = forms} {j = j} {begun = begun} {found = found} r h is off = record {
  upto = upto_skip r.upto h is (λ at n. let on : begun ≡ true = r.is_begun n.0 in cc);
  begun_is = λ e. let (first, en) = some_of (entry table h) e in (j, h, first, omega arith, is, en);
  is_begun = λ (i, g, first, lt, is_g, en). elim (cases_lt i j) [
    | inl l ↦ absurd (let on : begun ≡ true = r.is_begun (i, g, first, l, is_g, en) in cc)
    | inr ge ↦ last i g first (omega (arith, lt, ge)) is_g en
  ];
}
  where
    some_of : (o : Option Place) → is_some o ≡ true → (first : Place) × (o ≡ Some first)
    some_of None e = absurd (cc)
    some_of (Some x) e = (x, refl)

    last : (i g : ℕ) (first : Place) → i ≡ j → IsAt forms i g → entry table g ≡ Some first
        → is_some (entry table h) ≡ true
    last i g first e is_g en =
        let S : ℕ → Type 0 = λ k. IsAt forms k g in
        let same : g ≡ h = one_entry forms j g h (subst S e is_g) is in
        ap is_some (ap (entry table) (sym same) ∙ en)

pub run_all : {P : Place
    → Type 0} {table : List (Option Place)} {forms : List ℕ} {j : ℕ} {begun : Bool} {found : Option Place}
    → Run P table forms j begun found → length forms ≤ j
    → IsEarliest (λ at. P at ⊎ IsBehind table forms at) found
run_all {P = P} {table = table} {forms = forms} {j = j} {begun = begun} {found = found} r all =
    earliest_same (λ at. P at ⊎ InAny forms (IsNext table forms) at) (λ at. P at ⊎ IsBehind table forms at) found
    (upto_all r.upto all)
    (λ at there. elim there [
      | inl p ↦ inl p
      | inr (k, h, is_h, ((i, g, first, lt, is_g, en), e)) ↦ inr (i, k, g, h, first, is_g, is_h, lt, en, e)
    ])
    (λ at there. elim there [
      | inl p ↦ inl p
      | inr (i, k, g, h, first, is_g, is_h, lt, en, e) ↦ inr (k, h, is_h, ((i, g, first, lt, is_g, en), e))
    ])

-- the entry of a form that has these sequences and forms in it
pub second_entry : (p : Program) (f : ℕ) (firsts table : List (Option Place)) (y : Form) (inside found : Option Place)
    → IsSound p → IsAt p.forms f y → AreFirsts p Transfer firsts → Done p (IsSecond p) (f + 1) table
    → IsEarliest (IsAmong table (inner y.kind)) inside
    → IsEarliest (λ at. (inside ≡ Some at) ⊎ IsBehindInOne firsts (sequences y.kind) at) found
    → IsEarliest (IsSecond p f) found
second_entry p f firsts table y inside found s is a d h k =
    earliest_through (λ at. InOneOf (IsSecond p) (inner y.kind) at ⊎ IsBehindInOne firsts (sequences y.kind) at)
    (IsSecond p f) found
    (earliest_then (InOneOf (IsSecond p) (inner y.kind)) (IsBehindInOne firsts (sequences y.kind)) inside found
    (among (IsSecond p) table (inner y.kind) inside (inner_done p (IsSecond p) f table y s is d) h) k)
    sound cover
  where
    entry_of : (forms : List ℕ) (i g : ℕ) → Contains (sequences y.kind) forms → IsAt forms i g
        → IsEarliest (IsFound p Transfer g) (entry firsts g)
    entry_of forms i g seq is_g =
        a.entries g (inner_behind p s f y g is (in_sequence y.kind forms g seq (contains_from_get forms i g is_g))).1

    sound : (at : Place) → InOneOf (IsSecond p) (inner y.kind) at ⊎ IsBehindInOne firsts (sequences y.kind) at
        → IsSecond p f at
    sound at there = elim there [
      | inl (g, c, (b, z, later, e)) ↦ (
        b,
        z,
        (
          later.0,
          later.1,
          later.2,
          later.3,
          later.4,
          later.5,
          later.6,
          later.7,
          later.8,
          deeper y is c
              later.9,
          later.10,
          later.11,
          later.12,
          later.13,
          later.14,
          later.15,
          later.16,
          later.17,
          later.18,
          later.19,
          later.20,
        ),
        e,
      )
      | inr (forms, seq, (i, j, g, g', first, is_g, is_h, lt, en, e)) ↦ (
          let (b, x, u, is_b, tx, ex) =
          found_is (IsFound p Transfer g) (entry firsts g) first (entry_of forms i g seq is_g) en in
          let (b', z, v, is_z, tz, ez) =
          found_is (IsFound p Transfer g') (entry firsts g') at (entry_of forms j g' seq is_h) e in
          (b', z, (f, y, x, forms, i, j, b, g, g', itself, is, seq, is_g, is_h, lt, u, v, is_b, is_z, tx, tz), ez))
    ]

    cover : (at : Place) → IsSecond p f at
        → (v : Place) × (InOneOf (IsSecond p) (inner y.kind) v ⊎ IsBehindInOne firsts (sequences y.kind) v)
        × (v.offset ≤ at.offset)
    cover at
        (b', z, (c, y', x, forms, i, j, b, g, g', under, is_c, seq, is_g, is_h, lt, u, v, is_b, is_z, tx, tz), ez) =
        elim (under_cases p f c y is under) [
          | inl same ↦ (
              let P : ℕ → Type 0 = λ m. IsAt p.forms m y' in
              let Q : Form → Type 0 = λ m. Contains (sequences m.kind) forms in
              let here : Contains (sequences y.kind) forms =
              subst Q (one_entry p.forms f y' y (subst P (sym same) is_c) is) seq in
              let (first, en, le) =
              found_covers (IsFound p Transfer g) (entry firsts g) x.place (entry_of forms i g here is_g)
              (b, x, u, is_b, tx, refl) in
              let (w, e, le') =
              found_covers (IsFound p Transfer g') (entry firsts g') at (entry_of forms j g' here is_h)
              (b', z, v, is_z, tz, ez) in
              (w, inr (forms, here, (i, j, g, g', first, is_g, is_h, lt, en, e)), le'))
          | inr (m, in_y, under') ↦ (
            at,
            inl (
              m,
              in_y,
              (
                b',
                z,
                (c, y', x, forms, i, j, b, g, g', under', is_c, seq, is_g, is_h, lt, u, v, is_b, is_z, tx, tz),
                ez,
              ),
            ),
            omega arith,
          )
        ]
