-- The first and the last column of each segment carry a mark on it.
use Rattle.std.proofs.Common.{◌≡◌, ◌⊎◌, inl, inr, ℕ, suc, ◌<◌, ◌+◌, Option, Some, None, true}
use Rattle.std.proofs.Common.{false, cond, List, [], ◌∷◌, ◌++◌, length, map, refl, sym, ◌∙◌, ap, subst, arith}
use Rattle.std.specs.Prelude.{slice_get}
use Rattle.std.specs.List.{range_with_len}
use Rattle.std.proofs.lemmas.Bool.{cases_Bool}
use Rattle.std.proofs.lemmas.Option.{slice_get_within, slice_get_cases}
use Rattle.mp_base.proofs.Members.{Member, member_map, map_member, member_filter, range_has, member_append, flat_member}
use Rattle.tile_cells.specs.declared.tile.Tile.TheVariants.{TapL, TapR, Tran}
use Rattle.fabric.specs.declared.thing.Mark.{Mark}
use Rattle.nor_net.specs.declared.net.Phase.{Phase}
use Rattle.nor_net.specs.declared.net.Phase.TheVariants.{A, B, C}
use Rattle.nor_net.specs.declared.net.Part.{Part}
use Rattle.nor_net.specs.declared.net.Part.TheVariants.{Input, Gate, Latch}
use Rattle.array_form.specs.Lists.{mark}
use Rattle.array_form.specs.Band.{inputs_of}
use Rattle.array_form.specs.Homes.{Columns, home, marks, numbers, reads, beats, is_of, phase_marks, phase_number}
use Rattle.array_form.specs.Laying.{column_marks, band_marks}
use Rattle.array_form.proofs.Listing.{distinct_has, has_member, same_from}

-- a mark stands there
pub record MarkedAt (ms : List Mark) (b r c : ℕ) : Type 0 where
  pub the_mark : Mark
  pub among : Member ms the_mark
  pub band : the_mark.band ≡ b
  pub row : the_mark.row ≡ r
  pub column : the_mark.column ≡ c

pub one_phase : (p q : Phase) → is_of p q ≡ true → p ≡ q
one_phase A A e = refl
one_phase A B e = absurd (cc e)
one_phase A C e = absurd (cc e)
one_phase B A e = absurd (cc e)
one_phase B B e = refl
one_phase B C e = absurd (cc e)
one_phase C A e = absurd (cc e)
one_phase C B e = absurd (cc e)
one_phase C C e = refl

module _ (b top : ℕ) (row : ℕ → ℕ) (y : Columns) (parts : List Part) where
  abbrev all : List Mark
  all = band_marks b top row y parts

  in_column : (n : ℕ) (q : Part) (m : Mark) → slice_get parts n ≡ Some q
      → Member (column_marks b top row (length parts) (home y n) (y.stub n) n (Some q)) m → Member all m
  in_column n q m h k =
      flat_member (λ n. column_marks b top row (length parts) (home y n) (y.stub n) n (slice_get parts n))
      (range_with_len 0 (length parts)) n m
      (range_has 0 (length parts) n (omega arith) (let w = slice_get_within parts n q h in omega arith))
      (subst (λ z. Member (column_marks b top row (length parts) (home y n) (y.stub n) n z) m) (sym h) k)

  -- how a column that is marked for a net carries its mark: among those of `place`, as one of the further ones, or
  -- as the end of a joint
  pub data Carries (n c : ℕ) : Type 0 where
    placed : MarkedAt all b (suc (row n)) c → Carries n c
    further : Member (y.more n) c → Carries n c
    joint : slice_get parts n ≡ Some Input → y.stub n ≡ false → c ≡ home y n → Carries n c

  stub_there : (n : ℕ) → slice_get parts n ≡ Some Input → y.stub n ≡ true → MarkedAt all b (suc (row n)) (home y n)
  stub_there n h e = record {
    the_mark = mark TapL b (suc (row n)) (home y n);
    among = in_column n Input (mark TapL b (suc (row n)) (home y n)) h
        (subst (λ t. Member {A = Mark} (cond t (mark TapL b (suc (row n)) (home y n) ∷ []) [])
        (mark TapL b (suc (row n)) (home y n))) (sym e) (inl refl));
    band = refl;
    row = refl;
    column = refl;
  }

  own_there : (n : ℕ) (q : Option Part) → slice_get parts n ≡ q → n < length parts
      → ((ph : Phase) → slice_get parts n ≡ Some (Latch ph None) → ⊥) → Carries n (home y n)
  own_there n None h lt fed =
      elim (slice_get_cases parts n).1 [ inl w ↦ absurd (cc (sym h ∙ w.2)) | inr w ↦ absurd (omega (arith, w.0)) ]
  own_there n (Some Input) h lt fed =
      elim (cases_Bool (y.stub n)) [ inl e ↦ placed (stub_there n h e) | inr e ↦ joint h e refl ]
  own_there n (Some (Gate ins)) h lt fed =
      placed (record {
        the_mark = mark TapL b (suc (row n)) (home y n);
        among =
            in_column n (Gate ins) (mark TapL b (suc (row n)) (home y n)) h (inl refl);
        band = refl;
        row = refl;
        column = refl;
      })
  own_there n (Some (Latch ph None)) h lt fed = absurd (fed ph h)
  own_there n (Some (Latch ph (Some d))) h lt fed =
      placed (record {
        the_mark = mark TapL b (suc (row n)) (home y n);
        among =
            in_column n (Latch ph (Some d)) (mark TapL b (suc (row n)) (home y n)) h (inl refl);
        band = refl;
        row =
            refl;
        column = refl;
      })

  reader_there : (n j : ℕ) (q : Option Part) → slice_get parts j ≡ q → reads n q ≡ true
      → MarkedAt all b (suc (row n)) (home y j)
  reader_there n j None h e = absurd (cc e)
  reader_there n j (Some Input) h e = absurd (cc e)
  reader_there n j (Some (Gate ins)) h e = record {
    the_mark = mark Tran b (suc (row n)) (home y j);
    among = in_column j (Gate ins) (mark Tran b (suc (row n)) (home y j)) h
        (inr (inr (inr
        (map_member (λ i. mark Tran b (suc (row i)) (home y j)) (inputs_of ins) n
        (distinct_has (map (λ i. i.0) ins) n (has_member n (map (λ i. i.0) ins) e))))));
    band = refl;
    row = refl;
    column = refl;
  }
  reader_there n j (Some (Latch ph None)) h e = absurd (cc e)
  reader_there n j (Some (Latch ph (Some d))) h e = record {
    the_mark = mark TapR b (suc (row d.0)) (home y j);
    among = in_column j (Latch ph (Some d)) (mark TapR b (suc (row d.0)) (home y j)) h (inr (inl refl));
    band = refl;
    row = ap (λ z. suc (row z)) (same_from d.0 n e);
    column = refl;
  }

  -- every marked column of a net carries a mark on its segment
  pub carried : (n c : ℕ) → n < length parts → ((ph : Phase) → slice_get parts n ≡ Some (Latch ph None) → ⊥)
      → Member (marks y parts n) c → Carries n c
  carried n c lt fed m =
      elim (member_append (cond (y.homed n) (home y n ∷ []) [])
      (map (home y) (numbers (reads n) parts) ++ y.more n) c m) [
        | inl k ↦ own k
        | inr k ↦ elim (member_append (map (home y) (numbers (reads n) parts)) (y.more n) c k) [
          | inl k ↦ (let w = member_map (home y) (numbers (reads n) parts) c k in
              let u = member_filter (λ j. reads n (slice_get parts j)) (range_with_len 0 (length parts)) w.0 w.1 in
              subst (Carries n) w.2 (placed (reader_there n w.0 (slice_get parts w.0) refl u.1)))
          | inr k ↦ further k
        ]
      ]
    where
      own : Member (cond (y.homed n) (home y n ∷ []) []) c → Carries n c
      own k = elim (cases_Bool (y.homed n)) [
        | inl e ↦ elim (subst (λ t. Member (cond t (home y n ∷ []) []) c) e k)
            [ inl q ↦ subst (Carries n) q (own_there n (slice_get parts n) refl lt fed) | inr q ↦ absurd q ]
        | inr e ↦ absurd (subst (λ t. Member (cond t (home y n ∷ []) []) c) e k)
      ]

  beat_there : (ph : Phase) (j : ℕ) (q : Option Part) → slice_get parts j ≡ q → beats ph q ≡ true
      → MarkedAt all b (suc (row (length parts + phase_number ph))) (home y j)
  beat_there ph j None h e = absurd (cc e)
  beat_there ph j (Some Input) h e = absurd (cc e)
  beat_there ph j (Some (Gate ins)) h e = absurd (cc e)
  beat_there ph j (Some (Latch other None)) h e = absurd (cc e)
  beat_there ph j (Some (Latch other (Some d))) h e = record {
    the_mark = mark Tran b (suc (row (length parts + phase_number other))) (home y j);
    among = in_column j (Latch other (Some d))
        (mark Tran b (suc (row (length parts + phase_number other))) (home y j)) h (inr (inr (inl refl)));
    band = refl;
    row = ap (λ z. suc (row (length parts + phase_number z))) (sym (one_phase ph other e));
    column =
        refl;
  }

  -- and of a phase, but for the column of the phase itself, where its line is tapped
  pub phase_carried : (ph : Phase) (c : ℕ) → Member (phase_marks y parts ph) c
      → (c ≡ y.first_phase + phase_number ph) ⊎ MarkedAt all b (suc (row (length parts + phase_number ph))) c
      ⊎ Member y.phase_more c
  phase_carried ph c (inl e) = inl (sym e)
  phase_carried ph c (inr k) = elim (member_append (map (home y) (numbers (beats ph) parts)) y.phase_more c k) [
    | inl k ↦ (let w = member_map (home y) (numbers (beats ph) parts) c k in
        let u = member_filter (λ j. beats ph (slice_get parts j)) (range_with_len 0 (length parts)) w.0 w.1 in
        inr (inl (subst (MarkedAt all b (suc (row (length parts + phase_number ph)))) w.2
        (beat_there ph w.0 (slice_get parts w.0) refl u.1))))
    | inr k ↦ inr (inr k)
  ]
