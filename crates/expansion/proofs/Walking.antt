-- Guards and values in the order of the text, and what they become.
use Rattle.std.proofs.Common.{◌≡◌, ◌∙◌, ℕ, zero, suc, ◌+◌, ◌<◌, ◌≤◌, List, [], ◌∷◌, ◌++◌, Bool, true, false, refl, sym}
use Rattle.std.proofs.Common.{ap, subst}
use Rattle.std.proofs.Common.{append_assoc, arith, length, length-append, map}
use Rattle.std.specs.Prelude.{Contains, None, Option, Result, Err, filter, nat_lt, slice_get, slice_index_or}
use Rattle.std.specs.Prelude.{if◌then◌else◌}
use Rattle.std.specs.Prelude.{slice_index}
use Rattle.std.specs.List.{flat_map, range_with_len, AllByRecursion}
use Rattle.std.proofs.lemmas.Bool.{lt-ltb, ltb-true}
use Rattle.std.proofs.lemmas.Grind.{flat_map-append}
use Rattle.std.proofs.lemmas.List.{length-map, map-append}
use Rattle.std.proofs.lemmas.List.Elements.{filter-append}
use Rattle.std.proofs.lemmas.List.FromFn.{get_or-map-range_with_len, map-range_with_len_more}
use Rattle.mp_base.specs.declared.refusal.Place.{Place}
use Rattle.mp_base.proofs.Contents.{contains_filter, nothing_in}
use Rattle.mp_base.proofs.Members.{member_contains, range_has}
use Rattle.mp_base.proofs.Induction.{by_test}
use Rattle.mp_rules.specs.declared.limits.TheConstants.{EXPR_LIMIT}
use Rattle.mp_written.specs.declared.program.Expr.{Expr}
use Rattle.mp_written.specs.declared.program.Program.{Program}
use Rattle.mp_written.specs.Pieces.{pieces}
use Rattle.mp_written.specs.Expansion.{all_pieces, form_exprs, start, tops}
use Rattle.expansion.specs.declared.item.Item.{Item}
use Rattle.expansion.specs.declared.item.Item.TheVariants.{Copied, Argument}
use Rattle.expansion.specs.declared.item.Piece.{Piece}
use Rattle.expansion.specs.declared.item.Stop.{Stop}
use Rattle.expansion.specs.declared.item.Stop.TheVariants.{TooLong}
use Rattle.expansion.specs.Filling.{Stops}
use Rattle.expansion.specs.Templates.{AreOperands, IsFound, IsInside, IsLong, IsWord, item_pieces, kind_at, pieces_of}
use Rattle.expansion.specs.Templates.{place_at, place_of}
use Rattle.expansion.proofs.Fills.{append_end}
use Rattle.expansion.specs.Walking.{AddsPieces, AreTops, HavePieces, begin, is_in, piece_of, tops_before}

-- ---- ranges

range_more : (a k : ℕ) → range_with_len a (suc k) ≡ range_with_len a k ++ (a + k) ∷ []
range_more a zero = let e : a ≡ a + 0 = omega arith in ap (λ n. n ∷ []) e
range_more a (suc k) =
    let e : a + 1 + k ≡ a + suc k = omega arith in
    ap (λ ns. a ∷ ns) (range_more (a + 1) k ∙ ap (λ n. range_with_len (a + 1) k ++ n ∷ []) e)

range_split : (a j k : ℕ) → range_with_len a (j + k) ≡ range_with_len a j ++ range_with_len (a + j) k
range_split a zero k =
    let e : zero + k ≡ k = omega arith in
    let f : a ≡ a + zero = omega arith in
    ap (range_with_len a) e ∙ ap (λ b. range_with_len b k) f
range_split a (suc j) k =
    let e : suc j + k ≡ suc (j + k) = omega arith in
    let f : a + 1 + j ≡ a + suc j = omega arith in
    ap (range_with_len a) e
    ∙ ap (λ ns. a ∷ ns) (range_split (a + 1) j k ∙ ap (λ b. range_with_len (a + 1) j ++ range_with_len b k) f)

-- ---- one expression more

module _ (w : Program) where
  before_more : (e : ℕ) → tops_before w (suc e)
      ≡ tops_before w e ++ (if is_in (form_exprs w.forms) e then e ∷ [] else [])
  before_more e =
      let test = is_in (form_exprs w.forms) in
      let zero_e : 0 + e ≡ e = omega arith in
      ap (filter test) (range_more 0 e ∙ ap (λ n. range_with_len 0 e ++ n ∷ []) zero_e)
      ∙ filter-append test (range_with_len 0 e) (e ∷ [])

  pub top_more : (e : ℕ) → is_in (form_exprs w.forms) e ≡ true → flat_map (pieces w) (tops_before w (e + 1))
      ≡ flat_map (pieces w) (tops_before w e) ++ pieces w e
  top_more e here =
      let next : e + 1 ≡ suc e = omega arith in
      ap (λ n. flat_map (pieces w) (tops_before w n)) next
      ∙ ap (flat_map (pieces w)) (before_more e ∙ ap (λ b. tops_before w e ++ (if b then e ∷ [] else [])) here)
      ∙ flat_map-append (pieces w) (tops_before w e) (e ∷ [])
      ∙ ap (λ ys. flat_map (pieces w) (tops_before w e) ++ ys) (append_end (pieces w e))

  pub other_more : (e : ℕ) → is_in (form_exprs w.forms) e ≡ false
      → flat_map (pieces w) (tops_before w (e + 1)) ≡ flat_map (pieces w) (tops_before w e)
  other_more e no_top =
      let next : e + 1 ≡ suc e = omega arith in
      ap (λ n. flat_map (pieces w) (tops_before w n)) next
      ∙ ap (flat_map (pieces w))
      (before_more e ∙ ap (λ b. tops_before w e ++ (if b then e ∷ [] else [])) no_top ∙ append_end (tops_before w e))

  -- no more than in all
  pub begin_short : (e k : ℕ) → e + k ≡ length w.exprs → begin w e ≤ length (all_pieces w)
  begin_short e k all =
      let test = is_in (form_exprs w.forms) in
      let zero_e : 0 + e ≡ e = omega arith in
      let split : tops w ≡ tops_before w e ++ filter test (range_with_len (0 + e) k) =
      ap (λ n. filter test (range_with_len 0 n)) (sym all)
      ∙ ap (filter test) (range_split 0 e k)
      ∙ filter-append test (range_with_len 0 e) (range_with_len (0 + e) k) in
      let both = ap (λ ts. length (flat_map (pieces w) ts)) split
      ∙ ap length (flat_map-append (pieces w) (tops_before w e) (filter test (range_with_len (0 + e) k)))
      ∙ length-append (flat_map (pieces w) (tops_before w e))
      (flat_map (pieces w) (filter test (range_with_len (0 + e) k))) in
      omega (arith, both)

  pub starts_more : (e : ℕ) (starts : List ℕ) → starts ≡ map (begin w) (range_with_len 0 e)
      → starts ++ begin w e ∷ [] ≡ map (begin w) (range_with_len 0 (e + 1))
  starts_more e starts are =
      ap (λ ss. ss ++ begin w e ∷ []) are ∙ sym (map-range_with_len_more (begin w) 0 e e (omega arith))

  -- ---- guards and values

  one_short : (ts : List ℕ) (t : ℕ) → Contains ts t → length (pieces w t) ≤ length (flat_map (pieces w) ts)
  one_short [] t c = absurd (nothing_in t c)
  one_short (u ∷ us) t (zero, lt, is) =
      let both = length-append (pieces w u) (flat_map (pieces w) us) in
      let same = ap (λ v. length (pieces w v)) is in
      omega (arith, both, same)
  one_short (u ∷ us) t (suc k, lt, is) =
      let both = length-append (pieces w u) (flat_map (pieces w) us) in
      let rest = one_short us t (k, omega (arith, lt), is) in
      omega (arith, both, rest)

  -- the template of a guard or value is never too long
  pub never_long : (t : ℕ) → Contains (tops w) t → length (all_pieces w) ≤ EXPR_LIMIT → IsLong w None t → ⊥
  never_long t c few long =
      let at : Place = record { offset = 0; line = 0; column = 0 } in
      let none : AreOperands w None [] = record { as_many = refl; some = tt } in
      let over : EXPR_LIMIT < length (pieces w t) = long at [] none in
      let short = one_short (tops w) t c in
      omega (arith, over, short, few)

  -- what is found of it is its template
  pub long_found : (t : ℕ) (found : Result (List Item) Stop) (stop : Stop) → IsFound w None t found → found ≡ Err stop
      → stop ≡ TooLong → IsLong w None t
  long_found t found stop is err long =
      subst (Stops (IsLong w None t)) long (subst (IsFound w None t) err is)

  -- a flag tells a guard or value
  pub top_flag : (flags : List Bool) → AreTops w flags → (e : ℕ) → e < length w.exprs → (b : Bool)
      → b ≡ slice_index_or flags e b → b ≡ is_in (form_exprs w.forms) e
  top_flag flags are e lt b is =
      let size = are.size in
      is ∙ any_default flags e b false (omega (arith, size, lt)) ∙ are.each e lt
    where
      any_default : (xs : List Bool) (i : ℕ) (x y : Bool) → i < length xs
          → slice_index_or xs i x ≡ slice_index_or xs i y
      any_default [] i x y below = absurd (omega (arith, below))
      any_default (z ∷ zs) zero x y below = refl
      any_default (z ∷ zs) (suc i) x y below = any_default zs i x y (omega (arith, below))

  pub top_in : (e : ℕ) → is_in (form_exprs w.forms) e ≡ true → e < length w.exprs → Contains (tops w) e
  top_in e here lt =
      contains_filter (is_in (form_exprs w.forms)) (range_with_len 0 (length w.exprs)) e
      (member_contains (range_with_len 0 (length w.exprs)) e
      (range_has 0 (length w.exprs) e (omega arith) (omega (arith, lt)))) here

  -- ---- where they begin

  none_below : (test : ℕ → Bool) (v a k : ℕ) → v ≤ a → filter (λ e. nat_lt e v) (filter test (range_with_len a k)) ≡ []
  none_below test v a zero le = refl
  none_below test v a (suc k) le =
      let rest = none_below test v (a + 1) k (omega (arith, le)) in
      let more = filter test (range_with_len (a + 1) k) in
      by_test (test a)
      (λ yes. ap (λ b. filter (λ e. nat_lt e v) (if b then a ∷ more else more)) yes
      ∙ by_test (nat_lt a v) (λ lt. (let bad = ltb-true a v lt in absurd (omega (arith, bad, le))))
      (λ ge. ap (λ b. if b then a ∷ filter (λ e. nat_lt e v) more else filter (λ e. nat_lt e v) more) ge ∙ rest))
      (λ other. ap (λ b. filter (λ e. nat_lt e v) (if b then a ∷ more else more)) other ∙ rest)

  below_are : (test : ℕ → Bool) (v a n j : ℕ) → j ≤ n → v ≡ a + j
      → filter (λ e. nat_lt e v) (filter test (range_with_len a n)) ≡ filter test (range_with_len a j)
  below_are test v a n zero le e = none_below test v a n (omega (arith, e))
  below_are test v a zero (suc j) le e = absurd (omega (arith, le))
  below_are test v a (suc n) (suc j) le e =
      let rest = below_are test v (a + 1) n j (omega (arith, le)) (omega (arith, e)) in
      let more = filter test (range_with_len (a + 1) n) in
      let fewer = filter test (range_with_len (a + 1) j) in
      let lt : nat_lt a v ≡ true = lt-ltb a v (omega (arith, e)) in
      by_test (test a)
      (λ yes. ap (λ b. filter (λ i. nat_lt i v) (if b then a ∷ more else more)) yes
      ∙ ap (λ b. if b then a ∷ filter (λ i. nat_lt i v) more else filter (λ i. nat_lt i v) more) lt
      ∙ ap (λ ys. a ∷ ys) rest ∙ sym (ap (λ b. if b then a ∷ fewer else fewer) yes))
      (λ other. ap (λ b. filter (λ i. nat_lt i v) (if b then a ∷ more else more)) other ∙ rest
      ∙ sym (ap (λ b. if b then a ∷ fewer else fewer) other))

  begin_is : (v : ℕ) → v < length w.exprs → begin w v ≡ start w v
  begin_is v lt =
      ap (λ ts. length (flat_map (pieces w) ts))
      (sym (below_are (is_in (form_exprs w.forms)) v 0 (length w.exprs) v (omega (arith, lt)) (omega arith)))

  pub starts_are : (starts : List ℕ) → starts ≡ map (begin w) (range_with_len 0 (length w.exprs)) → (v : ℕ)
      → v < length w.exprs → slice_index starts v ≡ start w v
  starts_are starts are v lt =
      ap (λ ss. slice_index ss v) are
      ∙ get_or-map-range_with_len (begin w) 0 (length w.exprs) v v 0 lt (omega arith)
      ∙ begin_is v lt

-- ---- pieces

pub adds_none : (exprs : List Expr) (top : ℕ) (ps : List Piece) → AddsPieces exprs top [] ps ps
adds_none exprs top ps = record { are = sym (append_end (map (piece_of exprs) ps)); inside = λ h. h }

all_end : (n : ℕ) (ps : List Piece) (p : Piece) → AllByRecursion (λ (q : Piece). q.expr < n) ps → p.expr < n
    → AllByRecursion (λ (q : Piece). q.expr < n) (ps ++ p ∷ [])
all_end n [] p all lt = (lt, tt)
all_end n (q ∷ qs) p all lt = (all.0, all_end n qs p all.1 lt)

pub adds_copied : (exprs : List Expr) (top : ℕ) (items : List Item) (old mid : List Piece) (e : ℕ) (own : Option ℕ)
    (p : Piece) → AddsPieces exprs top items old mid → IsInside (length exprs) (Copied e own) → p.expr ≡ e
    → p.place ≡ place_of exprs (place_at (slice_get exprs top)) own
    → AddsPieces exprs top (items ++ Copied e own ∷ []) old (mid ++ p ∷ [])
adds_copied exprs top items old mid e own p adds inside is place = record {
  are =
      map-append (piece_of exprs) mid (p ∷ [])
      ∙ ap (λ ys. ys ++ piece_of exprs p ∷ []) adds.are
      ∙ append_assoc (map (piece_of exprs) old) (pieces_of exprs (place_at (slice_get exprs top)) [] items)
      (piece_of exprs p ∷ [])
      ∙ ap (λ ys. map (piece_of exprs) old ++ (pieces_of exprs (place_at (slice_get exprs top)) [] items ++ ys)) same
      ∙ ap (λ ys. map (piece_of exprs) old ++ ys)
      (sym (flat_map-append (item_pieces exprs (place_at (slice_get exprs top)) []) items (Copied e own ∷ [])));
  inside = λ h. all_end (length exprs) mid p (adds.inside h) (subst (λ i. i < length exprs) (sym is) inside.0);
}
  where
    same : piece_of exprs p ∷ [] ≡ pieces_of exprs (place_at (slice_get exprs top)) [] (Copied e own ∷ [])
    same =
        ap (λ i. record { place = p.place; kind = kind_at (slice_get exprs i) } ∷ []) is
        ∙ ap (λ q. record { place = q; kind = kind_at (slice_get exprs e) } ∷ []) place

pub adds_argument : (exprs : List Expr) (top : ℕ) (items : List Item) (old mid : List Piece) (i : ℕ)
    → AddsPieces exprs top items old mid → AddsPieces exprs top (items ++ Argument i ∷ []) old mid
adds_argument exprs top items old mid i adds = record {
  are =
      adds.are ∙ ap (λ ys. map (piece_of exprs) old ++ ys)
      (sym (flat_map-append (item_pieces exprs (place_at (slice_get exprs top)) []) items (Argument i ∷ [])
      ∙ append_end _));
  inside = adds.inside;
}

-- those of one guard or value more
pub have_more : (w : Program) (top : ℕ) (items : List Item) (old new : List Piece) → IsWord w None top items
    → HavePieces w.exprs (flat_map (pieces w) (tops_before w top)) old → AddsPieces w.exprs top items old new
    → is_in (form_exprs w.forms) top ≡ true
    → HavePieces w.exprs (flat_map (pieces w) (tops_before w (top + 1))) new
have_more w top items old new word have adds here = record {
  are =
      adds.are
      ∙ ap (λ xs. xs ++ pieces_of w.exprs (place_at (slice_get w.exprs top)) [] items) have.are
      ∙ ap (λ xs. flat_map (pieces w) (tops_before w top) ++ xs) (word.means (place_at (slice_get w.exprs top)) [])
      ∙ sym (top_more w top here);
  inside = adds.inside have.inside;
}

-- without a guard or value
pub have_same : (w : Program) (e : ℕ) (ps : List Piece) → HavePieces w.exprs (flat_map (pieces w) (tops_before w e)) ps
    → is_in (form_exprs w.forms) e ≡ false → HavePieces w.exprs (flat_map (pieces w) (tops_before w (e + 1))) ps
have_same w e ps have other =
    subst (λ xs. HavePieces w.exprs xs ps) (sym (other_more w e other)) have

pub have_size : (w : Program) (e : ℕ) (ps : List Piece) → HavePieces w.exprs (flat_map (pieces w) (tops_before w e)) ps
    → length ps ≡ begin w e
have_size w e ps have = sym (length-map ps (piece_of w.exprs)) ∙ ap length have.are

pub have_none : (w : Program) → HavePieces w.exprs (flat_map (pieces w) (tops_before w 0)) []
have_none w = record { are = refl; inside = tt }
