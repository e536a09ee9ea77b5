-- The rows that are told at the indices of intervals.
use Rattle.std.proofs.Common.{ℕ, ◌≡◌, ◌<◌, ◌≤◌, ◌+◌, inl, inr, sym, ap, subst, ◌∙◌, arith, List, [], ◌∷◌, ◌++◌, length}
use Rattle.std.proofs.Common.{get_or, set, take, slice_index, get_or-set_same, get_or-set_other}
use Rattle.std.proofs.lemmas.List.{length_push, length-set, length-take, get_or_push, get_or_append_left, get_or-take}
use Rattle.std.proofs.lemmas.List.{get_or_default, take_more}
use Rattle.mp_base.proofs.Lists.{below_or_pushed}
use Rattle.track_assign.specs.declared.rows.Entry.{Entry}
use Rattle.track_assign.specs.Rows.{IsPlaced, taken, opened, AreAscending, AreDistinct, AreAt}
use Rattle.track_assign.proofs.Steps.{IsGoing, going_on}

told_more : (told : List ℕ) (done : List Entry) (rows : List ℕ) (e : Entry) (row : ℕ) → AreAt told done rows
    → length rows ≡ length done → e.index < length told
    → ((k : ℕ) (d : Entry) → k < length done → (get_or done k d).index ≡ e.index → ⊥)
    → AreAt (set told e.index row) (done ++ e ∷ []) (rows ++ row ∷ [])
told_more told done rows e row at long inside apart i d lt = elim (below_or_pushed done e i lt) [
  | inl l ↦ (let p : get_or (done ++ e ∷ []) i d ≡ get_or done i d = get_or_append_left done (e ∷ []) d i l in
      ap (λ (x : Entry). slice_index (set told e.index row) x.index) p
      ∙ get_or-set_other told e.index (get_or done i d).index row 0 (apart i d l)
      ∙ at i d l ∙ sym (get_or_append_left rows (row ∷ []) 0 i (omega (arith, l, long))))
  | inr h ↦ (let p : get_or (done ++ e ∷ []) i d ≡ e = get_or_push done e d i (sym h) in
      ap (λ (x : Entry). slice_index (set told e.index row) x.index) p
      ∙ get_or-set_same told e.index row 0 inside ∙ sym (get_or_push rows row 0 i (omega (arith, h, long))))
]

pub few_more : (old : List ℕ) (column : ℕ) (e : Entry) (new : List ℕ) (later row k : ℕ)
    → IsPlaced old column e new later row → length old ≤ k → length new ≤ k + 1
few_more old column e new later row k (taken inside before is same) h = let l = ap length is
    ∙ length-set old row e.end in omega (arith, l, h)
few_more old column e new later row k (opened at_end all is same) h = let l = ap length is ∙ length_push old e.end in
    omega (arith, l, h)

-- the intervals so far are packed, and those to come begin no earlier than a column
pub record Packed (entries : List Entry) (i : ℕ) (told ends : List ℕ) (column : ℕ) : Type 0 where
  pub rows : List ℕ
  pub low : ℕ
  pub going : IsGoing (take i entries) rows ends column low
  pub coming : (j : ℕ) (d : Entry) → i ≤ j → j < length entries → low ≤ (get_or entries j d).first
  pub at : AreAt told (take i entries) rows

pub packed_more : (entries : List Entry) (i : ℕ) (d : Entry) (told ends : List ℕ) (column : ℕ)
    (new : List ℕ) (later row : ℕ) → AreAscending entries → i < length entries → AreDistinct entries
    → (get_or entries i d).index < length told → IsPlaced ends column (get_or entries i d) new later row
    → Packed entries i told ends column
    → Packed entries (i + 1) (set told (get_or entries i d).index row) new later
packed_more entries i d told ends column new later row ascends lt distinct inside placed p =
    let e : Entry = get_or entries i d in
    let size : length (take i entries) ≡ i = length-take i entries ∙ omega (arith, lt) in
    let some : e.first ≤ e.end = ascends.some i d lt in
    let more : take (i + 1) entries ≡ take i entries ++ e ∷ [] = take_more entries i d lt in
    let on = going_on (take i entries) p.rows ends column p.low e p.going
    (p.coming i d (omega arith) lt) some new later row placed in
    let told' = told_more told (take i entries) p.rows e row p.at p.going.packing.long inside (λ k x l same.
    let kl : k < i = omega (arith, l, size) in
    let here = get_or_default entries k d x (omega (arith, kl, lt)) ∙ sym (get_or-take i entries k x kl) in
    distinct k i d kl lt (ap (λ (y : Entry). y.index) here ∙ same)) in
    record {
      rows = p.rows ++ row ∷ [];
      low = e.first;
      going = subst (λ xs. IsGoing xs (p.rows ++ row ∷ []) new later e.first) (sym more) on;
      coming = λ j x le l. (
          let h = ascends.ascend i j d (omega (arith, le)) l in
          let q = ap (λ (y : Entry). y.first) (get_or_default entries j d x l) in
          omega (arith, h, q));
      at = subst (λ xs. AreAt (set told e.index row) xs (p.rows ++ row ∷ [])) (sym more) told';
    }
