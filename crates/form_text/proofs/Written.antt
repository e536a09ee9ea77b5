-- Written items stand in their text.
use Rattle.std.proofs.Common.{◌≡◌, ℕ, suc, ◌+◌, ◌<◌, ◌≤◌, ◌^◌, List, [], ◌∷◌, ◌++◌, Bool, true, false, refl, sym, ◌∙◌}
use Rattle.std.proofs.Common.{ap, subst, length, arith, append_assoc, length-append, add-zero, zero-add, append-nil}
use Rattle.std.specs.Prelude.{slice_range, slice_index, slice_index_or, not, ◌&&◌, nat_lt}
use Rattle.std.specs.List.{list_all}
use Rattle.std.specs.Str.Parse.{digits_value}
use Rattle.std.proofs.lemmas.Bool.{and_parts, ltb-true, not-true}
use Rattle.std.proofs.Math.Seq.{get_or-append_seam, drop-append_seam}
use Rattle.mp_base.specs.Token.{is_token, is_digit}
use Rattle.mp_base.specs.declared.refusal.Place.{Place}
use Rattle.form_reader.specs.declared.forms.Kind.{Kind}
use Rattle.form_reader.specs.declared.forms.Kind.TheVariants.{Number, Symbol, Group}
use Rattle.form_reader.specs.declared.forms.Node.{Node}
use Rattle.form_reader.specs.Sound.{no_node}
use Rattle.form_reader.specs.Text.{is_gap, place_at, IsGapBetween, IsRun, IsByte}
use Rattle.form_reader.specs.Spelling.{IsNode, Spelled, none, token, list, Spells}
use Rattle.form_text.specs.Items.{Items, nothing, symbol, number, group, text_of, first_of, is_fine, size_of}
use Rattle.form_text.specs.Items.{roots_from, nodes_from, forms_of, IsWritten}
use Rattle.form_text.proofs.Pieces.{piece_is, byte_is, length_is}

-- ---- the byte that follows

-- ---- tests that all hold

pub record All5 (a b c d e : Bool) : Type 0 where
  pub first : a ≡ true
  pub second : b ≡ true
  pub third : c ≡ true
  pub fourth : d ≡ true
  pub fifth : e ≡ true

all5 : (a b c d e : Bool) → (a && (b && (c && (d && e)))) ≡ true → All5 a b c d e
all5 a b c d e h =
    let p = and_parts a (b && (c && (d && e))) h in
    let q = and_parts b (c && (d && e)) p.1 in
    let r = and_parts c (d && e) q.1 in
    let s = and_parts d e r.1 in
    record { first = p.0; second = q.0; third = r.0; fourth = s.0; fifth = s.1 }

-- what a symbol, a number and a list have
pub record IsFineSymbol (depth next : ℕ) (gap run : List ℕ) (more : Items) : Type 0 where
  pub gap_is : is_gap false gap ≡ true
  pub tokens : list_all is_token run ≡ true
  pub digits : list_all is_digit run ≡ false
  pub ended : is_token (first_of next more) ≡ false
  pub rest : is_fine depth next more ≡ true

fine_symbol : (depth next : ℕ) (gap run : List ℕ) (more : Items) → is_fine depth next (symbol gap run more) ≡ true
    → IsFineSymbol depth next gap run more
fine_symbol depth next gap run more h =
    let p = all5 (is_gap false gap) (list_all is_token run) (not (list_all is_digit run))
    (not (is_token (first_of next more))) (is_fine depth next more) h in
    record {
      gap_is = p.first;
      tokens = p.second;
      digits = not-true (list_all is_digit run) p.third;
      ended = not-true (is_token (first_of next more)) p.fourth;
      rest = p.fifth;
    }

pub record IsFineNumber (depth next : ℕ) (gap run : List ℕ) (more : Items) : Type 0 where
  pub gap_is : is_gap false gap ≡ true
  pub tokens : list_all is_token run ≡ true
  pub some : 0 < length run
  pub digits : list_all is_digit run ≡ true
  pub small : digits_value 10 run < 2 ^ 64
  pub ended : is_token (first_of next more) ≡ false
  pub rest : is_fine depth next more ≡ true

fine_number : (depth next : ℕ) (gap run : List ℕ) (more : Items) → is_fine depth next (number gap run more) ≡ true
    → IsFineNumber depth next gap run more
fine_number depth next gap run more h =
    let few = nat_lt (digits_value 10 run) (2 ^ 64)
    && (not (is_token (first_of next more)) && is_fine depth next more) in
    let p = all5 (is_gap false gap) (list_all is_token run) (nat_lt 0 (length run)) (list_all is_digit run) few h in
    let q = and_parts (nat_lt (digits_value 10 run) (2 ^ 64))
    (not (is_token (first_of next more)) && is_fine depth next more) p.fifth in
    let r = and_parts (not (is_token (first_of next more))) (is_fine depth next more) q.1 in
    record {
      gap_is = p.first;
      tokens = p.second;
      some = ltb-true 0 (length run) p.third;
      digits = p.fourth;
      small = ltb-true (digits_value 10 run) (2 ^ 64) q.0;
      ended = not-true (is_token (first_of next more)) r.0;
      rest = r.1;
    }

-- ---- the byte that follows

first_gap : (gap run rest : List ℕ) → 0 < length run → slice_index (gap ++ (run ++ rest)) 0 ≡ slice_index (gap ++ run) 0
first_gap [] [] rest some = absurd (omega arith)
first_gap [] (r ∷ run) rest some = refl
first_gap (g ∷ gap) run rest some = refl

first_byte : (c : ℕ) (gap rest : List ℕ) → slice_index (gap ++ c ∷ rest) 0 ≡ slice_index (gap ++ c ∷ []) 0
first_byte c [] rest = refl
first_byte c (g ∷ gap) rest = refl

some_symbol : (run : List ℕ) → list_all is_digit run ≡ false → 0 < length run
some_symbol [] h = absurd (cc)
some_symbol (r ∷ run) h = omega arith

-- a text of three pieces, with another behind it
apart : (gap run more after : List ℕ) → (gap ++ (run ++ more)) ++ after ≡ gap ++ (run ++ (more ++ after))
apart gap run more after = append_assoc gap (run ++ more) after ∙ ap (λ t. gap ++ t) (append_assoc run more after)

pub first_is : (depth next : ℕ) (items : Items) (after : List ℕ) → next ≡ slice_index after 0
    → is_fine depth next items ≡ true
    → slice_index (text_of items ++ after) 0 ≡ first_of next items
first_is depth next nothing after is fine = sym is
first_is depth next (symbol gap run more) after is fine =
    let p = fine_symbol depth next gap run more fine in
    ap (λ t. slice_index t 0) (apart gap run (text_of more) after)
    ∙ first_gap gap run (text_of more ++ after) (some_symbol run p.digits)
first_is depth next (number gap run more) after is fine =
    let p = fine_number depth next gap run more fine in
    ap (λ t. slice_index t 0) (apart gap run (text_of more) after) ∙ first_gap gap run (text_of more ++ after) p.some
first_is depth next (group gap inner close more) after is fine =
    let inside : List ℕ = text_of inner ++ (close ++ (41 ∷ text_of more)) in
    ap (λ t. slice_index t 0) (append_assoc gap (40 ∷ inside) after) ∙ first_byte 40 gap (inside ++ after)

-- ---- one item

-- a piece of a text, from s to e, between others
pub record IsPiece (text before piece after : List ℕ) (s e : ℕ) : Type 0 where
  pub whole : text ≡ before ++ (piece ++ after)
  pub start : s ≡ length before
  pub end : e ≡ s + length piece

range_of : (text before piece after : List ℕ) (s e : ℕ) → IsPiece text before piece after s e
    → slice_range text s e ≡ piece
range_of text before piece after s e p = piece_is text before piece after s e p.whole p.start p.end

gap_between : (text before gap after : List ℕ) (s e : ℕ) → IsPiece text before gap after s e → is_gap false gap ≡ true
    → IsGapBetween text s e
gap_between text before gap after s e piece fine =
    let le : s ≤ e = omega (arith, piece.end) in
    (le, ap (is_gap false) (range_of text before gap after s e piece) ∙ fine)

run_stands : (text before run after : List ℕ) (s e : ℕ) → IsPiece text before run after s e → 0 < length run
    → list_all is_token run ≡ true
    → is_token (slice_index after 0) ≡ false → IsRun text s e
run_stands text before run after s e piece some all ended =
    let at_end : e ≡ length (before ++ run) = omega (arith, piece.end, piece.start, length-append before run) in
    record {
      some = omega (arith, piece.end, some);
      within = length_is text before run after s e piece.whole piece.start piece.end;
      all = ap (list_all is_token) (range_of text before run after s e piece) ∙ all;
      ended = ap is_token (byte_is text (before ++ run) after e (piece.whole
          ∙ sym (append_assoc before run after)) at_end) ∙ ended;
    }

byte_stands : (text before after : List ℕ) (s c : ℕ) → text ≡ before ++ c ∷ after → s ≡ length before → IsByte text s c
byte_stands text before after s c whole start =
    let lt : s < length text = omega (arith, start, ap length whole ∙ length-append before (c ∷ after)) in
    (lt, byte_is text before (c ∷ after) s whole start)

node_stands : (nodes earlier later : List Node) (i : ℕ) (place : Place) (kind : Kind)
    → nodes ≡ earlier ++ record { place = place; kind = kind } ∷ later
    → i ≡ length earlier → IsNode nodes i place kind
node_stands nodes earlier later i place kind whole index =
    let n : Node = record { place = place; kind = kind } in
    let lt : i < length nodes = omega (arith, index, ap length whole ∙ length-append earlier (n ∷ later)) in (
      lt,
      ap (λ ns. slice_index_or ns i no_node) whole ∙ ap (λ k. slice_index_or (earlier ++ n ∷ later) k no_node) index
          ∙ get_or-append_seam earlier n later no_node,
    )

-- ---- items

length-nodes : (place : ℕ → Place) (at i : ℕ) (items : Items) → length (nodes_from place at i items) ≡ size_of items
length-nodes place at i nothing = refl
length-nodes place at i (symbol gap run more) = ap suc (length-nodes place (at + length gap + length run) (suc i) more)
length-nodes place at i (number gap run more) = ap suc (length-nodes place (at + length gap + length run) (suc i) more)
length-nodes place at i (group gap inner close more) =
    let a : List Node = nodes_from place (at + length gap + 1) (suc i) inner in
    let later : ℕ = at + length gap + 1 + length (text_of inner) + length close + 1 in
    let b : List Node = nodes_from place later (suc i + size_of inner) more in
    ap suc (length-append a b ∙ ap (λ n. n + length b) (length-nodes place (at + length gap + 1) (suc i) inner)
    ∙ ap (λ n. size_of inner + n) (length-nodes place later (suc i + size_of inner) more))

none_stands : (text : List ℕ) (nodes : List Node) (depth at i to j : ℕ) → to ≡ at → j ≡ i
    → Spelled text nodes depth at i [] to j
none_stands text nodes depth at i to j e f =
    subst (λ k. Spelled text nodes depth at i [] to k) (sym f)
    (subst (λ k. Spelled text nodes depth at i [] k i) (sym e) none)

-- items stand in a text behind one part of it and before another, and their nodes likewise among all nodes
pub record Stand (text before after : List ℕ) (nodes earlier later : List Node) (at i to j : ℕ)
    (items : Items) : Type 0 where
  pub whole : text ≡ before ++ (text_of items ++ after)
  pub start : at ≡ length before
  pub end : to ≡ at + length (text_of items)
  pub all : nodes ≡ earlier ++ (nodes_from (place_at text) at i items ++ later)
  pub index : i ≡ length earlier
  pub last : j ≡ i + size_of items

-- behind a run that stands first
behind_run : (text before after gap run : List ℕ) (nodes earlier later : List Node) (at i to j : ℕ) (kind : Kind)
    (more : Items)
    → text ≡ before ++ ((gap ++ (run ++ text_of more)) ++ after) → at ≡ length before
    → to ≡ at + length (gap ++ (run ++ text_of more))
    → nodes ≡ earlier ++ record { place = place_at text (at + length gap); kind = kind }
    ∷ (nodes_from (place_at text) (at + length gap + length run) (suc i) more ++ later)
    → i ≡ length earlier → j ≡ i + suc (size_of more)
    → Stand text ((before ++ gap) ++ run) after nodes
    (earlier ++ record { place = place_at text (at + length gap); kind = kind } ∷ []) later
    (at + length gap + length run) (suc i) to j more
behind_run text before after gap run nodes earlier later at i to j kind more whole start end all index last =
    let n : Node = record { place = place_at text (at + length gap); kind = kind } in
    let rest : List Node = nodes_from (place_at text) (at + length gap + length run) (suc i) more ++ later in
    record {
      whole = whole ∙ ap (λ t. before ++ t) (apart gap run (text_of more) after)
          ∙ sym (append_assoc before gap (run ++ (text_of more ++ after)))
          ∙ sym (append_assoc (before ++ gap) run (text_of more ++ after));
      start = omega (arith, start, length-append (before ++ gap) run, length-append before gap);
      end = omega (arith, end, length-append gap (run ++ text_of more), length-append run (text_of more));
      all = all ∙ sym (append_assoc earlier (n ∷ []) rest);
      index = omega (arith, index, length-append earlier (n ∷ []));
      last = omega (arith, last);
    }

gap_piece : (text before after gap run more : List ℕ) (at : ℕ) → text ≡ before ++ ((gap ++ (run ++ more)) ++ after)
    → at ≡ length before
    → IsPiece text before gap (run ++ (more ++ after)) at (at + length gap)
gap_piece text before after gap run more at whole start =
    record { whole = whole ∙ ap (λ t. before ++ t) (apart gap run more after); start = start; end = refl }

run_piece : (text before after gap run more : List ℕ) (at : ℕ) → text ≡ before ++ ((gap ++ (run ++ more)) ++ after)
    → at ≡ length before
    → IsPiece text (before ++ gap) run (more ++ after) (at + length gap) (at + length gap + length run)
run_piece text before after gap run more at whole start = record {
  whole = whole ∙ ap (λ t. before ++ t) (apart gap run more after)
      ∙ sym (append_assoc before gap (run ++ (more ++ after)));
  start = omega (arith, start, length-append before gap);
  end = refl;
}

-- a list, taken apart: up to its `(`, its items, and from its `)` on
pub record Parts (text before after gap inner close more : List ℕ) (at : ℕ) : Type 0 where
  pub opens : text ≡ (before ++ gap) ++ 40 ∷ (inner ++ (close ++ (41 ∷ (more ++ after))))
  pub inside : text ≡ ((before ++ gap) ++ 40 ∷ []) ++ (inner ++ (close ++ (41 ∷ (more ++ after))))
  pub behind : text ≡ (((before ++ gap) ++ 40 ∷ []) ++ inner) ++ (close ++ (41 ∷ (more ++ after)))
  pub closes : text ≡ ((((before ++ gap) ++ 40 ∷ []) ++ inner) ++ close) ++ 41 ∷ (more ++ after)
  pub later : text ≡ (((((before ++ gap) ++ 40 ∷ []) ++ inner) ++ close) ++ 41 ∷ []) ++ (more ++ after)

parts_of : (text before after gap inner close more : List ℕ) (at : ℕ)
    → text ≡ before ++ ((gap ++ (40 ∷ (inner ++ (close ++ (41 ∷ more))))) ++ after)
    → Parts text before after gap inner close more at
parts_of text before after gap inner close more at whole =
    let tail : List ℕ = close ++ (41 ∷ (more ++ after)) in
    let b1 : List ℕ = before ++ gap in
    let b2 : List ℕ = b1 ++ 40 ∷ [] in
    let b3 : List ℕ = b2 ++ inner in
    let w0 : (gap ++ (40 ∷ (inner ++ (close ++ (41 ∷ more))))) ++ after ≡ gap ++ (40 ∷ (inner ++ tail)) =
    append_assoc gap (40 ∷ (inner ++ (close ++ (41 ∷ more)))) after
    ∙ ap (λ t. gap ++ (40 ∷ t)) (apart inner close (41 ∷ more) after) in
    let w1 : text ≡ b1 ++ 40 ∷ (inner ++ tail) = whole ∙ ap (λ t. before ++ t) w0
    ∙ sym (append_assoc before gap (40 ∷ (inner ++ tail))) in
    let w2 : text ≡ b2 ++ (inner ++ tail) = w1 ∙ sym (append_assoc b1 (40 ∷ []) (inner ++ tail)) in
    let w3 : text ≡ b3 ++ tail = w2 ∙ sym (append_assoc b2 inner tail) in
    let w4 : text ≡ (b3 ++ close) ++ 41 ∷ (more ++ after) = w3 ∙ sym (append_assoc b3 close (41 ∷ (more ++ after))) in
    record {
      opens = w1;
      inside = w2;
      behind = w3;
      closes = w4;
      later = w4
          ∙ sym (append_assoc (b3 ++ close) (41 ∷ []) (more ++ after));
    }

pub items_stand : (text before after : List ℕ) (nodes earlier later : List Node) (depth next at i to j : ℕ)
    (items : Items)
    → Stand text before after nodes earlier later at i to j items → next ≡ slice_index after 0
    → is_fine depth next items ≡ true
    → Spelled text nodes depth at i (roots_from i items) to j
items_stand text before after nodes earlier later depth next at i to j nothing stand is fine =
    none_stands text nodes depth at i to j (stand.end ∙ add-zero at) (stand.last ∙ add-zero i)
items_stand text before after nodes earlier later depth next at i to j (symbol gap run more) stand is fine =
    let p = fine_symbol depth next gap run more fine in
    let some : 0 < length run = some_symbol run p.digits in
    let s : ℕ = at + length gap in
    let e : ℕ = s + length run in
    let n : Node = record { place = place_at text s; kind = Symbol run } in
    let gp = gap_piece text before after gap run (text_of more) at stand.whole stand.start in
    let rp = run_piece text before after gap run (text_of more) at stand.whole stand.start in
    let range = range_of text (before ++ gap) run (text_of more ++ after) s e rp in
    let ended = ap is_token (first_is depth next more after is p.rest) ∙ p.ended in
    token s e (Symbol run) (gap_between text before gap (run ++ (text_of more ++ after)) at s gp p.gap_is)
    (run_stands text (before ++ gap) run (text_of more ++ after) s e rp some p.tokens ended)
    (ap (list_all is_digit) range ∙ p.digits, sym range)
    (node_stands nodes earlier (nodes_from (place_at text) e (suc i) more ++ later) i (place_at text s)
    (Symbol run) stand.all stand.index)
    (items_stand text ((before ++ gap) ++ run) after nodes (earlier ++ n ∷ []) later depth next e (suc i) to j more
    (behind_run text before after gap run nodes earlier later at i to j
    (Symbol run) more stand.whole stand.start stand.end stand.all stand.index stand.last)
    is p.rest)
items_stand text before after nodes earlier later depth next at i to j (number gap run more) stand is fine =
    let p = fine_number depth next gap run more fine in
    let s : ℕ = at + length gap in
    let e : ℕ = s + length run in
    let kind : Kind = Number (digits_value 10 run) in
    let n : Node = record { place = place_at text s; kind = kind } in
    let gp = gap_piece text before after gap run (text_of more) at stand.whole stand.start in
    let rp = run_piece text before after gap run (text_of more) at stand.whole stand.start in
    let range = range_of text (before ++ gap) run (text_of more ++ after) s e rp in
    let ended = ap is_token (first_is depth next more after is p.rest) ∙ p.ended in
    token s e kind (gap_between text before gap (run ++ (text_of more ++ after)) at s gp p.gap_is)
    (run_stands text (before ++ gap) run (text_of more ++ after) s e rp p.some p.tokens ended)
    (ap (list_all is_digit) range ∙ p.digits, ap (digits_value 10) (sym range), p.small)
    (node_stands nodes earlier (nodes_from (place_at text) e (suc i) more ++ later) i
    (place_at text s) kind stand.all stand.index)
    (items_stand text ((before ++ gap) ++ run) after nodes (earlier ++ n ∷ []) later depth next e (suc i) to j more
    (behind_run text before after gap run nodes earlier later at i to j kind more stand.whole stand.start stand.end
    stand.all stand.index stand.last)
    is p.rest)
items_stand text before after nodes earlier later depth next at i to j (group gap inner close more) stand is fine =
    let p = all5 (is_gap false gap) (nat_lt depth 64) (is_fine (suc depth) (slice_index (close ++ 41 ∷ []) 0) inner)
    (is_gap false close) (is_fine depth next more) fine in
    let s : ℕ = at + length gap in
    let e : ℕ = s + 1 + length (text_of inner) in
    let c : ℕ = e + length close in
    let k : ℕ = suc i + size_of inner in
    let kind : Kind = Group (roots_from (suc i) inner) in
    let n : Node = record { place = place_at text s; kind = kind } in
    let tail : List ℕ = close ++ (41 ∷ (text_of more ++ after)) in
    let b1 : List ℕ = before ++ gap in
    let b2 : List ℕ = b1 ++ 40 ∷ [] in
    let b3 : List ℕ = b2 ++ text_of inner in
    let b4 : List ℕ = b3 ++ close in
    let one : List Node = earlier ++ n ∷ [] in
    let ins : List Node = nodes_from (place_at text) (s + 1) (suc i) inner in
    let outs : List Node = nodes_from (place_at text) (c + 1) k more in
    let w = parts_of text before after gap (text_of inner) close (text_of more) at stand.whole in
    let l1 : length b1 ≡ s = length-append before gap ∙ ap (λ m. m + length gap) (sym stand.start) in
    let l2 : length b2 ≡ s + 1 = length-append b1 (40 ∷ []) ∙ ap (λ m. m + 1) l1 in
    let l3 : length b3 ≡ e = length-append b2 (text_of inner) ∙ ap (λ m. m + length (text_of inner)) l2 in
    let l4 : length b4 ≡ c = length-append b3 close ∙ ap (λ m. m + length close) l3 in
    let l5 : length (b4 ++ 41 ∷ []) ≡ c + 1 = length-append b4 (41 ∷ []) ∙ ap (λ m. m + 1) l4 in
    let all1 : nodes ≡ earlier ++ n ∷ (ins ++ (outs ++ later)) = stand.all
    ∙ ap (λ ns. earlier ++ n ∷ ns) (append_assoc ins outs later) in
    let all2 : nodes ≡ one ++ (ins ++ (outs ++ later)) = all1
    ∙ sym (append_assoc earlier (n ∷ []) (ins ++ (outs ++ later))) in
    let all3 : nodes ≡ (one ++ ins) ++ (outs ++ later) = all2 ∙ sym (append_assoc one ins (outs ++ later)) in
    let i1 : suc i ≡ length one = omega (arith, stand.index, length-append earlier (n ∷ [])) in
    let i2 : k ≡ length (one ++ ins) = sym (length-append one ins ∙ ap (λ m. m + length ins) (sym i1)
    ∙ ap (λ m. suc i + m) (length-nodes (place_at text) (s + 1) (suc i) inner)) in
    let long : length (gap ++ (40 ∷ (text_of inner ++ (close ++ (41 ∷ text_of more)))))
    ≡ length gap + suc (length (text_of inner) + (length close + suc (length (text_of more)))) =
    length-append gap (40 ∷ (text_of inner ++ (close ++ (41 ∷ text_of more))))
    ∙ ap (λ m. length gap + suc m) (length-append (text_of inner) (close ++ (41 ∷ text_of more))
    ∙ ap (λ m. length (text_of inner) + m) (length-append close (41 ∷ text_of more))) in
    list s e c k (roots_from (suc i) inner)
    (gap_between text before gap (40 ∷ (text_of inner ++ tail)) at s
    (record {
      whole = w.opens ∙ append_assoc before gap (40 ∷ (text_of inner ++ tail));
      start = stand.start;
      end =
          refl;
    }) p.first)
    (byte_stands text b1 (text_of inner ++ tail) s 40 w.opens (sym l1)) (ltb-true depth 64 p.second)
    (node_stands nodes earlier (ins ++ (outs ++ later)) i (place_at text s) kind all1 stand.index)
    (items_stand text b2 tail nodes one (outs ++ later) (suc depth) (slice_index (close ++ 41 ∷ []) 0) (s + 1)
    (suc i) e k inner
    (record { whole = w.inside; start = sym l2; end = refl; all = all2; index = i1; last = refl })
    (sym (first_byte 41 close (text_of more ++ after))) p.third)
    (gap_between text b3 close (41 ∷ (text_of more ++ after)) e c
    (record { whole = w.behind; start = sym l3; end = refl }) p.fourth)
    (byte_stands text b4 (text_of more ++ after) c 41 w.closes (sym l4))
    (items_stand text (b4 ++ 41 ∷ []) after nodes (one ++ ins) later depth next (c + 1) k to j more
    (record {
      whole = w.later;
      start = sym l5;
      end = omega (arith, stand.end, long);
      all = all3;
      index = i2;
      last =
          omega (arith, stand.last);
    })
    is p.fifth)

-- ---- the whole text

pub written_is_spelled : (items : Items) (gap : List ℕ) → IsWritten items gap
    → Spells (text_of items ++ gap) (forms_of items gap)
written_is_spelled items gap written =
    let text : List ℕ = text_of items ++ gap in
    let nodes : List Node = nodes_from (place_at text) 0 0 items in
    let to : ℕ = length (text_of items) in
    let le : to ≤ length text = omega (arith, length-append (text_of items) gap) in
    record {
      to = to;
      items = items_stand text [] gap nodes [] [] 0 (slice_index gap 0) 0 0 to (length nodes) items
          (record {
            whole = refl;
            start = refl;
            end = sym (zero-add to);
            all = sym (append-nil nodes);
            index = refl;
            last = length-nodes (place_at text) 0 0 items ∙ sym (zero-add (size_of items));
          }) refl written.fine;
      rest = (le, ap (λ t. is_gap false (t ++ 10 ∷ [])) (drop-append_seam (text_of items) gap) ∙ written.rest);
      end = refl;
    }
