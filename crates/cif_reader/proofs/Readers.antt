-- Readers, one after another.
use Rattle.std.proofs.Common.{◌≡◌, ◌≢◌, ◌∙◌, ◌+◌, ◌<◌, ◌≤◌, List, ◌∷◌, ℕ, zero, suc, refl, sym, ap, arith, length, drop}
use Rattle.std.proofs.Common.{get_or, Option, Some, None, neg_ℤ, pos, eqb, true, false}
use Rattle.std.specs.Prelude.{MatchOption, IfSome}
use Rattle.std.proofs.lemmas.List.{drop_all}
use Rattle.cif_form.specs.Readers.{Reader, goes_on, and_then, gives, past, separator_from, then_separator, natural_from}
use Rattle.cif_form.specs.Readers.{signed_digits_from, signed_from}
use Rattle.cif_reader.specs.declared.found.Found.{Found}
use Rattle.cif_reader.specs.Capped.{cut, cut_number}
use Rattle.cif_reader.specs.Finding.{IsFound}
use Rattle.cif_reader.proofs.Stepping.{next}

-- a separator and the one, and then the other
pub both : {A B : Type 0} (p : Reader A) (q : A → Reader B) (text : List ℕ)
    → then_separator (and_then p q) text ≡ goes_on q (then_separator p text)
both p q text = at (separator_from text)
  where
    at : (r : Option (Unit {0} × List ℕ)) → goes_on (λ _. and_then p q) r ≡ goes_on q (goes_on (λ _. p) r)
    at None = refl
    at (Some r) = refl

-- what is found at a later place is found here, where the reader here goes on there
pub found_later : {A V : Type 0} (cut : A → V) (here there : Option (A × List ℕ)) (bytes : List ℕ) (at start : ℕ)
    (r : Option (Found V))
    → there ≡ here → at ≤ start
    → MatchOption r (there ≡ None) (λ r. IsFound cut there bytes start r.value r.end)
    → MatchOption r (here ≡ None) (λ r. IsFound cut here bytes at r.value r.end)
found_later cut here there bytes at start None e le h = sym e ∙ h
found_later cut here there bytes at start (Some r) e le f =
    let more = f.behind in
    record {
      exact = f.exact;
      found = sym e ∙ f.found;
      value_is = f.value_is;
      behind = omega (arith, le, more);
      within = f.within;
    }

pub ends_later : {V : Type 0} (at start : ℕ) (r : Option (Found V)) → at ≤ start → IfSome r (λ r. start < r.end)
    → IfSome r (λ r. at < r.end)
ends_later at start None le h = tt
ends_later at start (Some r) le h = omega (arith, le, h)

-- the sign of a number that is cut
pub cut_negative : (n v : ℕ) → v ≡ cut n → neg_ℤ (pos v) ≡ cut_number (neg_ℤ (pos n))
cut_negative zero v e = ap (λ v. neg_ℤ (pos v)) e
cut_negative (suc n) v e = ap (λ v. neg_ℤ (pos v)) e

-- a number behind a `-`, and one without
pub signed_minus : (bytes : List ℕ) (at start : ℕ) → drop start bytes ≡ past (drop at bytes) → start < length bytes
    → get_or bytes start 0 ≡ 45
    → and_then natural_from (gives (λ n. neg_ℤ (pos n))) (drop (start + 1) bytes) ≡ signed_from (drop at bytes)
signed_minus bytes at start rest less minus =
    let e : eqb (get_or bytes start 0) 45 ≡ true = grind arith in
    let k : signed_digits_from (get_or bytes start 0 ∷ drop (start + 1) bytes)
    ≡ and_then natural_from (gives (λ n. neg_ℤ (pos n))) (drop (start + 1) bytes) = rw (e, signed_digits_from) refl in
    sym (ap signed_digits_from (sym rest ∙ next bytes start less) ∙ k)

pub signed_plain : (bytes : List ℕ) (at start : ℕ) → drop start bytes ≡ past (drop at bytes) → start < length bytes
    → get_or bytes start 0 ≢ 45
    → and_then natural_from (gives pos) (drop start bytes) ≡ signed_from (drop at bytes)
signed_plain bytes at start rest less minus =
    let e : eqb (get_or bytes start 0) 45 ≡ false = grind arith in
    let text = get_or bytes start 0 ∷ drop (start + 1) bytes in
    let k : signed_digits_from text ≡ and_then natural_from (gives pos) text = rw (e, signed_digits_from) refl in
    ap (and_then natural_from (gives pos)) (next bytes start less) ∙ sym k
    ∙ ap signed_digits_from (sym (next bytes start less) ∙ rest)

pub signed_none : (bytes : List ℕ) (at start : ℕ) → drop start bytes ≡ past (drop at bytes) → length bytes ≤ start
    → and_then natural_from (gives pos) (drop start bytes) ≡ signed_from (drop at bytes)
signed_none bytes at start rest end =
    let none = drop_all start bytes end in
    ap (and_then natural_from (gives pos)) none ∙ ap signed_digits_from (sym none ∙ rest)
