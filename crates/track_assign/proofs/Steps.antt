-- One more interval in its row.
use Rattle.std.proofs.Common.{ℕ, ◌≡◌, ◌<◌, ◌≤◌, ◌+◌, ◌⊎◌, inl, inr, refl, sym, ap, ◌∙◌, arith, List, [], ◌∷◌, ◌++◌}
use Rattle.std.proofs.Common.{length, get_or, set, All, slice_index, get_or-set_same, get_or-set_other}
use Rattle.std.proofs.lemmas.Bool.{cases_lt, cases_eq}
use Rattle.std.proofs.lemmas.List.{length_push, length-set, get_or_push, get_or_append_left}
use Rattle.std.proofs.lemmas.List.Elements.{All-nil, All-head, All-tail, All-push}
use Rattle.std.proofs.lemmas.List.Sums.{sum_by-cons, sum_by_push, sum_by-set, sum_by-le}
use Rattle.mp_base.proofs.Lists.{below_or_pushed}
use Rattle.track_assign.specs.declared.rows.Entry.{Entry}
use Rattle.track_assign.specs.Rows.{entry_over, over, reaches, reaching, IsPlaced, taken, opened, IsPacking}

-- a packing of the intervals so far, whose first columns and whose column are not past a column
pub record IsGoing (done : List Entry) (rows ends : List ℕ) (column low : ℕ) : Type 0 where
  pub packing : IsPacking done rows ends column
  pub early : All (λ e. e.first ≤ low) done
  pub first_column : column ≤ low
  pub held : (i : ℕ) (d : Entry) → i < length done → (get_or done i d).end ≤ slice_index ends (slice_index rows i)
  pub later : (c : ℕ) → low ≤ c → over c done ≡ reaching c ends

pub going_start : IsGoing [] [] [] 0 0
going_start = record {
  packing = record {
    long = refl;
    inside = λ i lt. absurd (omega arith);
    apart = λ i j d lt gt. absurd (omega arith);
    most = λ c. omega arith;
    reached = refl;
    least = λ c lt. absurd (omega arith);
  };
  early = All-nil (λ (e : Entry). e.first ≤ 0);
  first_column = omega arith;
  held = λ i d lt. absurd (omega arith);
  later = λ c le. refl;
}

over_from : (c : ℕ) (e : Entry) → e.first ≤ c → entry_over c e ≡ reaches c e.end
over_from c e h = grind (arith, h)

over_before : (c : ℕ) (e : Entry) → c < e.first → entry_over c e ≡ 0
over_before c e h = grind (arith, h)

reaches_none : (c end : ℕ) → end < c → reaches c end ≡ 0
reaches_none c end h = grind (arith, h)

reaches_one : (c end : ℕ) → c ≤ end → reaches c end ≡ 1
reaches_one c end h = grind (arith, h)

reaches_most : (c end : ℕ) → reaches c end ≤ 1
reaches_most c end = grind arith

reaching_most : (c : ℕ) (ends : List ℕ) → reaching c ends ≤ length ends
reaching_most c ends = let e = sum_by-le (reaches c) 1 ends (λ k d lt. reaches_most c (get_or ends k d)) in
    omega (arith, e)

reaching_all : (c : ℕ) (ends : List ℕ) → All (λ end. c ≤ end) ends → reaching c ends ≡ length ends
reaching_all c [] h = refl
reaching_all c (e ∷ es) h =
    let one = reaches_one c e (All-head (λ end. c ≤ end) e es h) in
    let rest = reaching_all c es (All-tail (λ end. c ≤ end) e es h) in
    sum_by-cons (reaches c) e es ∙ omega (arith, one, rest)

module _ (done : List Entry) (rows ends : List ℕ) (column low : ℕ) (e : Entry) (g : IsGoing done rows ends column low)
    (ascends : low ≤ e.first) (some : e.first ≤ e.end) where
  abbrev more : List Entry
  more = done ++ e ∷ []

  abbrev more_rows : ℕ → List ℕ
  more_rows row = rows ++ row ∷ []

  many : length more ≡ length done + 1
  many = length_push done e

  counted : (c : ℕ) → over c more ≡ over c done + entry_over c e
  counted c = sum_by_push (entry_over c) done e

  early : All (λ x. x.first ≤ e.first) more
  early = All-push (λ x. x.first ≤ e.first) done e (λ k d lt. let h = g.early k d lt in
      omega (arith, h, ascends)) (omega arith)

  -- to the left of the interval nothing changes
  left : (c : ℕ) → c < e.first → over c more ≡ over c done
  left c lt = counted c ∙ (let z = over_before c e lt in omega (arith, z))

  right : (c : ℕ) → e.first ≤ c → over c more ≡ reaching c ends + reaches c e.end
  right c le = counted c ∙ (let a = g.later c (omega (arith, ascends, le)) in let b = over_from c e le in
      omega (arith, a, b))

  -- the row of an interval, which may be the last
  row_of : (row i : ℕ) → i < length more → ((i < length done) × (slice_index (more_rows row) i ≡ slice_index rows i))
      ⊎ ((i ≡ length done) × (slice_index (more_rows row) i ≡ row))
  row_of row i lt = elim (below_or_pushed done e i lt) [
    | inl l ↦ inl (l, get_or_append_left rows (row ∷ []) 0 i (omega (arith, l, g.packing.long)))
    | inr h ↦ inr (h, get_or_push rows row 0 i (omega (arith, h, g.packing.long)))
  ]

  entry_of : (i : ℕ) (d : Entry) → i < length done → get_or more i d ≡ get_or done i d
  entry_of i d lt = get_or_append_left done (e ∷ []) d i lt

  entry_last : (i : ℕ) (d : Entry) → i ≡ length done → get_or more i d ≡ e
  entry_last i d h = get_or_push done e d i (sym h)

  long : (row : ℕ) → length (more_rows row) ≡ length more
  long row = length_push rows row ∙ (let l = g.packing.long in omega (arith, l, many))

  -- none of the same row meets the last
  apart : (row : ℕ) → ((i : ℕ) (d : Entry) → i < length done → slice_index rows i ≡ row
      → (get_or done i d).end < e.first)
      → (i j : ℕ) (d : Entry) → i < j → j < length more → slice_index (more_rows row) i ≡ slice_index (more_rows row) j
      → (get_or more i d).end < (get_or more j d).first
  apart row ahead i j d lt inside same = elim (row_of row j inside) [
    | inl b ↦ elim (row_of row i (omega (arith, lt, inside))) [
      | inl a ↦ (let h = g.packing.apart i j d lt b.0 (sym a.1 ∙ same ∙ b.1) in
          let p = ap (λ (x : Entry). x.end) (entry_of i d a.0) in
          let q = ap (λ (x : Entry). x.first) (entry_of j d b.0) in
          omega (arith, h, p, q))
      | inr a ↦ absurd (omega (arith, a.0, b.0, lt))
    ]
    | inr b ↦ elim (row_of row i (omega (arith, lt, inside))) [
      | inl a ↦ (let h = ahead i d a.0 (sym a.1 ∙ same ∙ b.1) in
          let p = ap (λ (x : Entry). x.end) (entry_of i d a.0) in
          let q = ap (λ (x : Entry). x.first) (entry_last j d b.0) in
          omega (arith, h, p, q))
      | inr a ↦ absurd (omega (arith, a.0, b.0, lt))
    ]
  ]

  pub going_on : (new : List ℕ) (column' row : ℕ) → IsPlaced ends column e new column' row
      → IsGoing more (more_rows row) new column' e.first
  going_on new column' row (taken inside before is same) =
      let size : length new ≡ length ends = ap length is ∙ length-set ends row e.end in
      let put : (i : ℕ) → slice_index new i
      ≡ slice_index (set ends row e.end) i = λ i. ap (λ xs. slice_index xs i) is in
      let here : slice_index new row ≡ e.end = put row ∙ get_or-set_same ends row e.end 0 inside in
      let later : (c : ℕ) → e.first ≤ c → over c more ≡ reaching c new = λ c le.
      (let r = right c le in let s = sum_by-set (reaches c) ends row e.end 0 inside in
      let z = reaches_none c (slice_index ends row) (omega (arith, before, le)) in
      let q = ap (reaching c) is in omega (arith, r, s, z, q)) in
      let most : (c : ℕ) → over c more ≤ length new = λ c. elim (cases_lt c e.first) [
        | inl lt ↦ (let l = left c lt in let m = g.packing.most c in omega (arith, l, m, size))
        | inr le ↦ (let l = later c le in let m = reaching_most c new in omega (arith, l, m))
      ] in
      record {
        packing = record {
          long = long row;
          inside = λ i lt. elim (row_of row i (omega (arith, lt, long row))) [
            | inl a ↦ (let h = g.packing.inside i (omega (arith, a.0, g.packing.long)) in omega (arith, h, a.1, size))
            | inr a ↦ omega (arith, a.1, inside, size)
          ];
          apart = apart row (λ i d lt is_row. let h = g.held i d lt in let q = ap (slice_index ends) is_row in
              omega (arith, h, q, before));
          most = most;
          reached = (let a = g.packing.reached in let b = counted column in let m = most column in
              let q = ap (λ c. over c more) same in
              omega (arith, a, b, m, q, size));
          least = λ c lt. (let a = g.packing.least c (omega (arith, lt, same)) in
              let l = left c (omega (arith, lt, same, g.first_column, ascends)) in omega (arith, a, l, size));
        };
        early = early;
        first_column = omega (arith, same, g.first_column, ascends);
        held = λ i d lt. elim (row_of row i lt) [
          | inl a ↦ (let h = g.held i d a.0 in let p = ap (λ (x : Entry). x.end) (entry_of i d a.0) in
              let q = ap (slice_index new) a.1 in
              elim (cases_eq (slice_index rows i) row) [
                | inl eq ↦ (let u = ap (slice_index ends) eq in let w = ap (slice_index new) eq in
                    omega (arith, h, p, q, u, w, here, before, some))
                | inr ne ↦
                    (let u = put (slice_index rows i) ∙ get_or-set_other ends row (slice_index rows i) e.end 0 ne in
                    omega (arith, h, p, q, u))
              ])
          | inr a ↦ (let p = ap (λ (x : Entry). x.end) (entry_last i d a.0) in let q = ap (slice_index new) a.1 in
              omega (arith, p, q, here))
        ];
        later = later;
      }
  going_on new column' row (opened at_end all is same) =
      let size : length new ≡ length ends + 1 = ap length is ∙ length_push ends e.end in
      let later : (c : ℕ) → e.first ≤ c → over c more ≡ reaching c new = λ c le.
      (let r = right c le in let s = sum_by_push (reaches c) ends e.end in let q = ap (reaching c) is in
      omega (arith, r, s, q)) in
      let most : (c : ℕ) → over c more ≤ length new = λ c. elim (cases_lt c e.first) [
        | inl lt ↦ (let l = left c lt in let m = g.packing.most c in omega (arith, l, m, size))
        | inr le ↦ (let l = later c le in let m = reaching_most c new in omega (arith, l, m))
      ] in
      record {
        packing = record {
          long = long row;
          inside = λ i lt. elim (row_of row i (omega (arith, lt, long row))) [
            | inl a ↦ (let h = g.packing.inside i (omega (arith, a.0, g.packing.long)) in omega (arith, h, a.1, size))
            | inr a ↦ omega (arith, a.1, at_end, size)
          ];
          apart = apart row (λ i d lt is_row. let h = g.packing.inside i (omega (arith, lt, g.packing.long)) in
              absurd (omega (arith, h, is_row, at_end)));
          most = most;
          reached = (let r = right e.first (omega arith) in let a = reaching_all e.first ends all in
              let o = reaches_one e.first e.end some in
              let q = ap (λ c. over c more) same in omega (arith, r, a, o, q, size));
          least = λ c lt. (let l = left c (omega (arith, lt, same)) in let m = g.packing.most c in
              omega (arith, l, m, size));
        };
        early = early;
        first_column = omega (arith, same);
        held = λ i d lt. elim (row_of row i lt) [
          | inl a ↦ (let h = g.held i d a.0 in let p = ap (λ (x : Entry). x.end) (entry_of i d a.0) in
              let q = ap (slice_index new) a.1 in
              let n = ap (λ xs. slice_index xs (slice_index rows i)) is
              ∙ get_or_append_left ends (e.end ∷ []) 0 (slice_index rows i)
              (g.packing.inside i (omega (arith, a.0, g.packing.long))) in
              omega (arith, h, p, q, n))
          | inr a ↦ (let p = ap (λ (x : Entry). x.end) (entry_last i d a.0) in let q = ap (slice_index new) a.1 in
              let n = ap (λ xs. slice_index xs row) is ∙ get_or_push ends e.end 0 row (sym at_end) in
              omega (arith, p, q, n))
        ];
        later = later;
      }
