-- What the reader has reached, and what it refuses.
use Rattle.std.proofs.Common.{◌≡◌, ◌≢◌, ℕ, suc, ◌+◌, ◌-◌, ◌^◌, ◌<◌, ◌≤◌, List, [], true, false, refl, sym, ◌∙◌, ap}
use Rattle.std.proofs.Common.{subst, inl, inr, length, arith}
use Rattle.std.specs.Prelude.{slice_range, slice_index, ◌||◌, ◌==◌}
use Rattle.std.specs.List.{list_all}
use Rattle.std.specs.Str.Parse.{digits_value}
use Rattle.std.proofs.lemmas.Bool.{cases_lt, both_ways, or_from, or_parts, ne_eqb}
use Rattle.mp_base.specs.Token.{is_digit, is_token}
use Rattle.mp_base.specs.Refuses.{SpotIs, RefusesAt}
use Rattle.mp_base.specs.declared.refusal.Place.{Place}
use Rattle.mp_base.specs.declared.refusal.Family.TheVariants.{E}
use Rattle.mp_base.specs.declared.refusal.Spot.{Spot}
use Rattle.mp_base.specs.declared.refusal.Spot.TheVariants.{At, Offset, Named, Nowhere}
use Rattle.mp_base.specs.declared.refusal.Refusal.{Refusal}
use Rattle.mp_base.specs.declared.refusal.Refusal.TheVariants.{NoMemory, Broken}
use Rattle.form_reader.specs.declared.forms.Kind.{Kind}
use Rattle.form_reader.specs.declared.forms.Kind.TheVariants.{Number, Symbol, Group}
use Rattle.form_reader.specs.declared.forms.Node.{Node}
use Rattle.form_reader.specs.Text.{is_blank, is_mark, fills_gap, IsGapBetween, EndsInGap, IsRun, IsByte, place_at}
use Rattle.form_reader.specs.Spelling.{IsKindOf, Spelled, Spells}
use Rattle.form_reader.specs.Rules.{IsFirst, RefusesFirst}
use Rattle.form_reader.specs.Reading.{Clean, Reached, HasRead, IsClosed, HasListed}
use Rattle.form_reader.proofs.Scan.{own_place, offset_of}
use Rattle.form_reader.proofs.Gaps.{run_first}
use Rattle.form_reader.proofs.Clean.{clean_gap, clean_open, clean_close, clean_run, clean_end, first_open, first_here}

-- ---- places

pub reached_gap : (text : List ℕ) (depth : ℕ) (outer at start : Place) → Reached text depth outer at
    → start.offset ≤ length text → IsGapBetween text at.offset start.offset
    → start ≡ place_at text start.offset → Reached text depth outer start
reached_gap text depth outer at start reached within gap place = record {
  clean = clean_gap text depth outer.offset at.offset start.offset within reached.clean gap;
  place = place;
  outer_place = reached.outer_place;
}

pub reached_open : (text : List ℕ) (depth d : ℕ) (outer start inside from : Place) → Reached text depth outer start
    → IsByte text start.offset 40 → depth < 64 → d ≡ depth + 1
    → (depth ≡ 0 → inside ≡ start) → (0 < depth → inside ≡ outer) → from ≡ place_at text (start.offset + 1)
    → Reached text d inside from
reached_open text depth d outer start inside from reached byte shallow d_is this that place =
    let deeper : suc depth ≡ d = omega (arith, d_is) in
    record {
      clean = subst (λ z. Clean text d inside.offset z) (sym (offset_of text from (start.offset + 1) place))
          (subst (λ z. Clean text z inside.offset (start.offset + 1)) deeper
          (clean_open text depth outer.offset start.offset inside.offset reached.clean byte shallow
          (λ z. ap (λ (p : Place). p.offset) (this z)) (λ z. ap (λ (p : Place). p.offset) (that z))));
      place = own_place text from (start.offset + 1) place;
      outer_place = λ pos. elim (cases_lt 0 depth) [
        | inl deep ↦ subst (λ (p : Place). p ≡ place_at text p.offset) (sym (that deep)) (reached.outer_place deep)
        | inr top ↦ subst (λ (p : Place). p ≡ place_at text p.offset) (sym (this (omega (arith, top)))) reached.place
      ];
    }

pub reached_close : (text : List ℕ) (depth d at : ℕ) (outer inside start end : Place) → Reached text depth outer start
    → d ≡ depth + 1 → (0 < depth → inside ≡ outer)
    → IsClosed text d inside.offset at end → Reached text depth outer end
reached_close text depth d at outer inside start end reached d_is that closed =
    let deeper : d ≡ suc depth = omega (arith, d_is) in
    record {
      clean = subst (λ z. Clean text depth outer.offset z) (sym (offset_of text end (closed.close + 1) closed.end_is))
          (clean_close text depth outer.offset inside.offset closed.close
          (λ z. ap (λ (p : Place). p.offset) (sym (that z)))
          (subst (λ z. Clean text z inside.offset closed.close) deeper closed.clean) closed.byte);
      place = own_place text end (closed.close + 1) closed.end_is;
      outer_place = reached.outer_place;
    }

pub small_kind : (run : List ℕ) (kind : Kind) → IsKindOf run kind → list_all is_digit run ≡ true
    → digits_value 10 run < 2 ^ 64
small_kind run (Number n) is digits = omega (arith, is.1, is.2)
small_kind run (Symbol x) is digits = absurd (both_ways (list_all is_digit run) is.0 digits)
small_kind run (Group items) is digits = absurd is

pub reached_run : (text : List ℕ) (depth : ℕ) (outer start end : Place) (kind : Kind) → Reached text depth outer start
    → IsRun text start.offset end.offset
    → IsKindOf (slice_range text start.offset end.offset) kind → end ≡ place_at text end.offset
    → Reached text depth outer end
reached_run text depth outer start end kind reached run is place = record {
  clean = clean_run text depth outer.offset start.offset end.offset reached.clean run
      (small_kind (slice_range text start.offset end.offset) kind is);
  place = place;
  outer_place = reached.outer_place;
}

-- ---- the end of the items

pub ended_list : (text : List ℕ) (depth : ℕ) (outer : Place) (from : ℕ) (old new : List Node) (items : List ℕ)
    (at start : Place) → depth ≡ 0 → Reached text depth outer at
    → HasRead text depth from old new items at.offset → EndsInGap text at.offset → start ≡ place_at text start.offset
    → start.offset ≡ length text
    → HasListed text depth outer.offset from old new items start
ended_list text depth outer from old new items at start top reached read rest place end = record {
  at = at.offset;
  read = read;
  closed = λ pos. absurd (omega (arith, pos, top));
  ended = λ z. record {
    rest = rest;
    end_is = place ∙ ap (place_at text) end;
    whole = clean_end text outer.offset at.offset
        (subst (λ d. Clean text d outer.offset at.offset) top reached.clean) rest;
  };
}

pub closed_list : (text : List ℕ) (depth : ℕ) (outer : Place) (from : ℕ) (old new : List Node) (items : List ℕ)
    (at start end : Place) → (depth ≡ 0 → ⊥) → Reached text depth outer start
    → HasRead text depth from old new items at.offset → IsGapBetween text at.offset start.offset
    → IsByte text start.offset 41 → end ≡ place_at text (start.offset + 1)
    → HasListed text depth outer.offset from old new items end
closed_list text depth outer from old new items at start end deep reached read gap byte place = record {
  at = at.offset;
  read = read;
  closed = λ pos. record { close = start.offset; gap = gap; byte = byte; end_is = place; clean = reached.clean };
  ended = λ top. absurd (deep top);
}

-- the items outside all lists are the forms
pub spells_all : (text : List ℕ) (outer : ℕ) (old new : List Node) (items : List ℕ) (end : Place) → old ≡ []
    → HasListed text 0 outer 0 old new items end
    → Spells text (record { nodes = new; roots = items; end = end })
spells_all text outer old new items end none listed =
    let ended = listed.ended refl in
    record {
      to = listed.at;
      items = subst (λ z. Spelled text new 0 0 (length z) items listed.at (length new)) none (listed.read).spelled;
      rest = ended.rest;
      end = ended.end_is;
    }

-- ---- refusals

refuses : (text : List ℕ) (number : ℕ) (place : Place) (e : Refusal)
    → e ≡ Broken (record { rule = record { family = E; number = number }; spot = At place })
    → place ≡ place_at text place.offset
    → IsFirst text number place.offset → RefusesFirst text e
refuses text number place e is at first = subst (RefusesFirst text) (sym is) (refl, (at, first))

pub refuses_e1 : (text : List ℕ) (depth : ℕ) (outer start : Place) (e : Refusal) → Reached text depth outer start
    → start.offset < length text → fills_gap false (slice_index text start.offset) ≡ false
    → slice_index text start.offset ≢ 40 → slice_index text start.offset ≢ 41
    → is_token (slice_index text start.offset) ≡ false
    → e ≡ Broken (record { rule = record { family = E; number = 1 }; spot = At start }) → RefusesFirst text e
refuses_e1 text depth outer start e reached inside stop no_open no_close other is =
    let b = slice_index text start.offset in
    let parts = or_parts (b == 59) (is_blank b) stop in
    let unknown : (is_blank b || is_mark b || is_token b) ≡ false
    = or_from (is_blank b || is_mark b) (is_token b)
    (or_from (is_blank b) (is_mark b) parts.1
    (or_from (b == 40 || b == 41) (b == 59)
    (or_from (b == 40) (b == 41) (ne_eqb b 40 no_open) (ne_eqb b 41 no_close)) parts.0)) other in
    refuses text 1 start e is reached.place
    (first_here text depth outer.offset start.offset 1 reached.clean (λ q. omega (arith, q))
    (inl (refl, ((inside, reached.clean.outside), unknown))))

pub refuses_e2 : (text : List ℕ) (depth : ℕ) (outer at : Place) (e : Refusal) → Reached text depth outer at
    → (depth ≡ 0 → ⊥) → EndsInGap text at.offset
    → e ≡ Broken (record { rule = record { family = E; number = 2 }; spot = At outer }) → RefusesFirst text e
refuses_e2 text depth outer at e reached deep rest is =
    let pos : 0 < depth = omega (arith, deep) in
    refuses text 2 outer e is (reached.outer_place pos)
    (first_open text depth outer.offset at.offset pos reached.clean rest)

pub refuses_e3 : (text : List ℕ) (depth : ℕ) (outer start : Place) (e : Refusal) → Reached text depth outer start
    → depth ≡ 0 → IsByte text start.offset 41
    → e ≡ Broken (record { rule = record { family = E; number = 3 }; spot = At start }) → RefusesFirst text e
refuses_e3 text depth outer start e reached top byte is =
    refuses text 3 start e is reached.place
    (first_here text depth outer.offset start.offset 3 reached.clean (λ q. omega (arith, q))
    (inr (inr (inl (refl, ((byte.0, reached.clean.outside), byte.1, reached.clean.depth_is ∙ top))))))

pub refuses_e5 : (text : List ℕ) (depth : ℕ) (outer start : Place) (e : Refusal) → Reached text depth outer start
    → depth ≡ 64 → IsByte text start.offset 40
    → e ≡ Broken (record { rule = record { family = E; number = 5 }; spot = At start }) → RefusesFirst text e
refuses_e5 text depth outer start e reached deep byte is =
    refuses text 5 start e is reached.place
    (first_here text depth outer.offset start.offset 5 reached.clean (λ q. omega (arith, q))
    (inr (inr
    (inr (inr (refl, ((byte.0, reached.clean.outside), byte.1, omega (arith, reached.clean.depth_is, deep))))))))

spot_map : (s : Spot) (P Q : Place → Type 0) → ((at : Place) → P at → Q at) → SpotIs s P → SpotIs s Q
spot_map (At at) P Q f h = f at h
spot_map (Offset o) P Q f h = absurd h
spot_map (Named x) P Q f h = absurd h
spot_map Nowhere P Q f h = absurd h

refuses_map : (e : Refusal) (P Q : ℕ → Place → Type 0) → ((k : ℕ) (at : Place) → P k at → Q k at) → RefusesAt E e P
    → RefusesAt E e Q
refuses_map NoMemory P Q f h = tt
refuses_map (Broken b) P Q f h = (h.0, spot_map b.spot (P b.rule.number) (Q b.rule.number) (f b.rule.number) h.1)

pub refuses_e4 : (text : List ℕ) (depth : ℕ) (outer start : Place) (end : ℕ) (e : Refusal)
    → Reached text depth outer start → IsRun text start.offset end
    → RefusesAt E e
    (λ k at. (k ≡ 4) × (at ≡ start) × (list_all is_digit (slice_range text start.offset end) ≡ true)
    × (2 ^ 64 ≤ digits_value 10 (slice_range text start.offset end)))
    → RefusesFirst text e
refuses_e4 text depth outer start end e reached run refused =
    refuses_map e _ (λ k at. (at ≡ place_at text at.offset) × IsFirst text k at.offset)
    (λ k at h. subst (λ (p : Place). (p ≡ place_at text p.offset) × IsFirst text k p.offset) (sym h.1)
    (subst (λ z. (start ≡ place_at text start.offset) × IsFirst text z start.offset) (sym h.0)
    (reached.place, first h.2 h.3)))
    refused
  where
    first : list_all is_digit (slice_range text start.offset end) ≡ true
        → 2 ^ 64 ≤ digits_value 10 (slice_range text start.offset end) → IsFirst text 4 start.offset
    first digits big =
        let clean = reached.clean in
        let inside : start.offset < length text = omega (arith, run.some, run.within) in
        let fresh : 0 < start.offset
        → is_token (slice_index text (start.offset - 1))
        ≡ false = λ pos. clean.fresh pos (run_first text start.offset end run) in
        first_here text depth outer.offset start.offset 4 clean (λ q. omega (arith, q))
        (inr (inr (inr (inl (refl, (end, ((inside, clean.outside), run, digits, fresh), big))))))
