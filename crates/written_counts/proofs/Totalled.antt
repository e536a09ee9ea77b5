-- What guards and values count together, up to a cap.
use Rattle.std.proofs.Common.{◌≡◌, ◌∙◌, ℕ, zero, suc, ◌<◌, ◌≤◌, ◌+◌, List, [], ◌∷◌, ◌++◌, Bool, true, false, cond}
use Rattle.std.proofs.Common.{refl, sym, ap}
use Rattle.std.proofs.Common.{subst, arith, length, get_or, filter, None}
use Rattle.std.specs.Prelude.{min, Contains, ◌==◌}
use Rattle.std.specs.List.{sum_by, list_any, range_with_len}
use Rattle.std.proofs.lemmas.List.Sums.{sum_by-cons, sum_by-append}
use Rattle.std.proofs.lemmas.List.Elements.{filter-append}
use Rattle.std.proofs.lemmas.List.FromFn.{length-range_with_len, get_or-range_with_len}
use Rattle.mp_base.proofs.Contents.{contains_filter}
use Rattle.mp_base.proofs.Entries.{entry, contains_from_get}
use Rattle.mp_written.specs.declared.program.Program.{Program}
use Rattle.mp_written.specs.Expansion.{tops, form_exprs}
use Rattle.expansion.specs.Walking.{AreTops}
use Rattle.written_counts.specs.declared.tally.Tally.{Tally}
use Rattle.written_counts.specs.declared.tally.Measure.{Measure}
use Rattle.written_counts.specs.Counts.{counted}
use Rattle.written_counts.specs.Tallies.{cost, IsNothing, IsOpen}
use Rattle.mp_program.specs.declared.program.Program as plain
use Rattle.mp_written.specs.Weight.{weight}
use Rattle.written_frame.specs.Frame.{IsFrame}
use Rattle.written_counts.specs.declared.tally.Measure.TheVariants as measures
use Rattle.written_counts.specs.Frames.{weight_beside}
use Rattle.written_counts.proofs.Cuts.{cut_first}
use Rattle.std.specs.Bool.{then_some}
use Rattle.std.proofs.Math.Dec.{ltb}
use Rattle.std.proofs.lemmas.Bool.{ltb-true, ltb-false}
use Rattle.mp_base.specs.declared.refusal.Place.{Place}
use Rattle.mp_rules.specs.Breaking.{IsEarliest}
use Rattle.mp_written.specs.Expansion.{all_pieces}
use Rattle.written_rules.specs.Rules.{E45}
use Rattle.written_counts.proofs.Weighed.{weight_counted, length_counted}
use Rattle.written_counts.proofs.FrameWeights.{beside_same}

range_more : (a n : ℕ) → range_with_len a (n + 1) ≡ range_with_len a n ++ (a + n) ∷ []
range_more a n = subst (λ k. range_with_len a k ≡ range_with_len a n ++ (a + n) ∷ [])
    (let e : suc n ≡ n + 1 = omega arith in e)
    (next a n)
  where
    next : (a n : ℕ) → range_with_len a (suc n) ≡ range_with_len a n ++ (a + n) ∷ []
    next a zero = let e : a ≡ a + 0 = omega arith in ap (λ k. k ∷ []) e
    next a (suc n) = ap (λ ks. a ∷ ks) (next (a + 1) n
        ∙ (let e : (a + 1) + n ≡ a + suc n = omega arith in ap (λ k. range_with_len (a + 1) n ++ k ∷ []) e))

-- a guard or value by its flag
pub top_at : (w : Program) (flags : List Bool) (e : ℕ) → AreTops w flags → e < length w.exprs
    → get_or flags e false ≡ true
    → Contains (tops w) e
top_at w flags e are lt is =
    contains_filter (λ k. list_any (λ v. v == k) (form_exprs w.forms)) (range_with_len 0 (length w.exprs)) e
    (contains_from_get (range_with_len 0 (length w.exprs)) e e
    (entry (range_with_len 0 (length w.exprs)) e
    (let n = length-range_with_len 0 (length w.exprs) in omega (arith, n, lt))
    (sym (get_or-range_with_len 0 (length w.exprs) e e lt ∙ (let z : 0 + e ≡ e = omega arith in z)))))
    (sym (are.each e lt) ∙ is)

-- what the guards and values among the first n expressions count
abbrev pub first_total : Program → (ℕ → ℕ) → ℕ → ℕ
first_total w f n = sum_by f (filter (λ k. list_any (λ v. v == k) (form_exprs w.forms)) (range_with_len 0 n))

pub total_more : (w : Program) (f : ℕ → ℕ) (flags : List Bool) (n : ℕ) → AreTops w flags → n < length w.exprs
    → first_total w f (n + 1) ≡ first_total w f n + cond (get_or flags n false) (f n) 0
total_more w f flags n are lt =
    let test : ℕ → Bool = λ k. list_any (λ v. v == k) (form_exprs w.forms) in
    ap (λ ks. sum_by f (filter test ks)) (range_more 0 n ∙ ap (λ k. range_with_len 0 n ++ k ∷ []) zero_plus)
    ∙ ap (sum_by f) (filter-append test (range_with_len 0 n) (n ∷ []))
    ∙ sum_by-append f (filter test (range_with_len 0 n)) (filter test (n ∷ []))
    ∙ ap (λ k. first_total w f n + k) (turn (test n) ∙ ap (λ b. cond b (f n) 0) (sym (are.each n lt)))
  where
    zero_plus : 0 + n ≡ n
    zero_plus = omega arith

    turn : (b : Bool) → sum_by f (cond b (n ∷ []) []) ≡ cond b (f n) 0
    turn true = sum_by-cons f n [] ∙ (let e : f n + 0 ≡ f n = omega arith in e)
    turn false = refl

-- a tally without arguments, to which the first guards and values are added
pub record IsTotal (m : Measure) (w : Program) (cap n : ℕ) (sum : Tally) : Type 0 where
  pub own : sum.own ≡ min cap (first_total w (counted (cost m w) w) n)
  pub open_ : IsOpen cap w None sum

pub total_next : (m : Measure) (w : Program) (cap n : ℕ) (flags : List Bool) (sum next : Tally) → AreTops w flags
    → n < length w.exprs → next.own ≡ min cap (sum.own + cond (get_or flags n false) (counted (cost m w) w n) 0)
    → IsOpen cap w None next → IsTotal m w cap n sum → IsTotal m w cap (n + 1) next
total_next m w cap n flags sum next are lt own open_next is = record {
  own =
      let f = counted (cost m w) w in
      let add = cond (get_or flags n false) (f n) 0 in
      own ∙ ap (λ k. min cap (k + add)) is.own ∙ cut_first cap (first_total w f n) add
      ∙ ap (min cap) (sym (total_more w f flags n are lt));
  open_ = open_next;
}

pub total_begun : (m : Measure) (w : Program) (cap : ℕ) (sum : Tally) → IsNothing 0 sum → IsTotal m w cap 0 sum
total_begun m w most sum is = record {
  own = is.own ∙ (let e : 0 ≡ min most 0 = omega arith in e);
  open_ = record {
    capped = record {
      own = (let e = is.own in omega (arith, e));
      times = λ i. (let e = is.times i in omega (arith, e));
    };
    room = omega arith;
  };
}

pub total_all : (m : Measure) (w : Program) (cap n : ℕ) (sum : Tally) → n ≡ length w.exprs → IsTotal m w cap n sum
    → sum.own ≡ min cap (sum_by (counted (cost m w) w) (tops w))
total_all m w cap n sum all is =
    is.own ∙ ap (λ k. min cap (first_total w (counted (cost m w) w) k)) all

-- ---- against a limit

-- what an expansion weighs: its frame, and what is counted
pub weight_parts : (w : Program) (s : plain.Program) → IsFrame w s
    → weight w ≡ weight_beside s + sum_by (counted (cost measures.Weight w) w) (tops w)
weight_parts w s is = weight_counted w
    ∙ ap (λ n. n + sum_by (counted (cost measures.Weight w) w) (tops w)) (sym (beside_same w s is))

pub over_limit : (limit b x total : ℕ) → total ≡ min (limit + 1) x → limit < b + total → limit < b + x
over_limit limit b x total is lt = omega (arith, is, lt)

pub in_limit : (limit b x total : ℕ) → total ≡ min (limit + 1) x → b + total ≤ limit → b + total ≡ b + x
in_limit limit b x total is le = omega (arith, is, le)

-- too many expressions
pub earliest_many : (w : Program) (total : ℕ)
    → total ≡ min 4097 (sum_by (counted (cost measures.Number w) w) (tops w))
    → IsEarliest (E45 w) (then_some (ltb 4096 total) w.place)
earliest_many w total is = turn (ltb 4096 total) refl
  where
    many : length (all_pieces w) ≡ sum_by (counted (cost measures.Number w) w) (tops w)
    many = length_counted w

    turn : (b : Bool) → ltb 4096 total ≡ b → IsEarliest (E45 w) (then_some b w.place)
    turn true e = (
      ((let lt = ltb-true 4096 total e in omega (arith, lt, is, many)), refl),
      λ there (over, same). (let at = ap (λ (p : Place). p.offset) same in omega (arith, at)),
    )
    turn false e = λ there (over, same). (let le = ltb-false 4096 total e in omega (arith, le, is, many, over))
