-- Entries, one for each thing of a list.
use Rattle.std.proofs.Common.{ℕ, ◌≡◌, ◌+◌, ◌-◌, ◌<◌, ◌≤◌, inl, inr, refl, sym, ◌∙◌, ap, subst, arith, true, false, leb}
use Rattle.std.proofs.Common.{List, [], ◌∷◌, ◌++◌, length, get_or, Contains}
use Rattle.std.specs.Prelude.{◌↔◌}
use Rattle.std.specs.List.Sorted.{IsPermutation, IsPartitionPoint}
use Rattle.std.proofs.lemmas.Bool.{cases_lt, leb-true, le-leb}
use Rattle.std.proofs.lemmas.List.{get_or_default}
use Rattle.std.proofs.lemmas.List.Elements.{Contains-push, Contains-push_cases, Contains-append_left, Contains-get_or}
use Rattle.std.proofs.lemmas.List.Sorted.{Contains-permutation, IsPermutation-sym}
use Rattle.fabric.specs.declared.places.Entry.{Entry}
use Rattle.fabric.specs.Places.{IsEntry, IsInOrder, AreEntries, HasUpTo, IsLastUpTo}

module _ {A : Type 0} (key : A → ℕ) (things : List A) where
  -- the entries of the first of the things
  abbrev pub AreFirst : ℕ → List Entry → Type 0
  AreFirst i entries = (e : Entry) → Contains entries e ↔ ((e.number < i) × IsEntry key things e)

  pub none_yet : (entries : List Entry) → entries ≡ [] → AreFirst 0 entries
  none_yet entries empty e = (
    λ c. (let n = subst (λ z. Contains z e) empty c in let h = n.1 in absurd (omega arith)),
    λ c. (let h = c.0 in absurd (omega arith)),
  )

  module _ (i : ℕ) (d : A) (h : i < length things) where
    abbrev a : A
    a = get_or things i d

    at : get_or things i a ≡ a
    at = get_or_default things i a d h

    abbrev entry : Entry
    entry = record { key = key a; number = i }

    is_entry : IsEntry key things entry
    is_entry = record { thing = a; below = h; is = at; keyed = refl }

    only_entry : (e : Entry) → IsEntry key things e → e.number ≡ i → entry ≡ e
    only_entry e k n =
        let same : a ≡ k.thing =
        sym at ∙ ap (λ z. get_or things z a) (sym n) ∙ get_or_default things e.number a k.thing k.below ∙ k.is in
        let keys : key a ≡ e.key = ap key same ∙ sym k.keyed in
        let numbers : i ≡ e.number = sym n in
        λ j. record { key = keys j; number = numbers j }

    pub one_more : (entries new : List Entry) → AreFirst i entries → new ≡ entries ++ entry ∷ [] → AreFirst (i + 1) new
    one_more entries new first e x = (
      λ c. elim (Contains-push_cases entries entry x (subst (λ z. Contains z x) e c)) [
        | inl old ↦ (let u = (first x).0 old in let l = u.0 in (omega arith, u.1))
        | inr same ↦ subst (λ z. (z.number < i + 1) × IsEntry key things z) same (omega arith, is_entry)
      ],
      λ u. elim (cases_lt x.number i) [
        | inl l ↦ subst (λ z. Contains z x) (sym e) (Contains-append_left entries (entry ∷ []) x ((first x).1 (l, u.1)))
        | inr l ↦ (let below = u.0 in
            subst (λ z. Contains z x) (sym e)
            (subst (Contains (entries ++ entry ∷ [])) (only_entry x u.1 (omega arith)) (Contains-push entries entry)))
      ],
    )

  pub are_entries : (i : ℕ) (entries sorted : List Entry) → AreFirst i entries → i ≡ length things
      → ((e : Entry) → Contains sorted e ↔ Contains entries e) → IsInOrder sorted → AreEntries key things sorted
  are_entries i entries sorted first all same order = record {
    each = λ e. (
      λ c. ((first e).0 ((same e).0 c)).1,
      λ k. (same e).1 ((first e).1 (subst (λ z. e.number < z) (sym all) k.below, k)),
    );
    sorted = order;
  }

pub same_entries : (old new : List Entry) → IsPermutation old new → (e : Entry) → Contains new e ↔ Contains old e
same_entries old new p e =
    (λ c. Contains-permutation new old e (IsPermutation-sym old new p) c, λ c. Contains-permutation old new e p c)

-- ---- the last entry up to a bound, where i entries come up to it
module _ (entries : List Entry) (bound i : ℕ) (order : IsInOrder entries) (within : i ≤ length entries)
    (point : IsPartitionPoint (λ (e : Entry). leb e.key bound ≡ true) (λ e. leb e.key bound ≡ false) entries i) where
  comes_before : (e : Entry) → e.key ≤ bound → (k : ℕ) → k < length entries → get_or entries k e ≡ e → k < i
  comes_before e h k l at = elim (cases_lt k i) [
    | inl m ↦ m
    | inr m ↦ (let no : leb e.key bound ≡ false = subst (λ z. leb z.key bound ≡ false) at (point.1 k e m l) in
        let yes = le-leb e.key bound h in absurd (cc (yes, no)))
  ]

  pub some_come : HasUpTo entries bound → 1 ≤ i
  some_come (e, (k, l, at), h) = let m = comes_before e h k l at in omega arith

  pub is_last : HasUpTo entries bound → (d : Entry) → IsLastUpTo entries bound (get_or entries (i - 1) d).number
  is_last some d =
      let n = some_come some in
      record {
        entry = get_or entries (i - 1) d;
        among = Contains-get_or entries (i - 1) d (omega arith);
        numbered = refl;
        within = leb-true (get_or entries (i - 1) d).key bound (point.0 (i - 1) d (omega arith) (omega arith));
        last = λ e c h. (let m = comes_before e h c.0 c.1 c.2 in
            let up : (get_or entries c.0 d).key ≤ (get_or entries (i - 1) d).key =
            order c.0 (i - 1) d (omega arith) (omega arith) in
            subst (λ z. z.key ≤ (get_or entries (i - 1) d).key)
            (get_or_default entries c.0 d e c.1 ∙ c.2) up);
      }
