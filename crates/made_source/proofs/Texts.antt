-- The text of a made source is that of the items that are written.
use Rattle.std.proofs.Common.{◌≡◌, ℕ, zero, suc, ◌*◌, ◌<◌, List, [], ◌∷◌, ◌++◌, Bool, true, false, cond, refl, sym, ◌∙◌}
use Rattle.std.proofs.Common.{ap, codes, length, map, arith, append_assoc, lit<}
use Rattle.std.specs.Prelude.{not, ◌&&◌, ◌||◌, nat_lt, slice_index_or}
use Rattle.std.specs.List.{flat_map, range_with_len, list_all, list_any}
use Rattle.std.proofs.lemmas.Bool.{and_from, and_parts, not-true}
use Rattle.mp_base.specs.Token.{is_token, is_digit}
use Rattle.mp_base.specs.declared.op.Op.{Op}
use Rattle.mp_base.specs.declared.op.Op.TheVariants.{Add, Sub, WordAnd, WordOr, WordXor}
use Rattle.mp_base.proofs.Tests.{or_true}
use Rattle.mp_base.proofs.Lists.{flat_map_same}
use Rattle.mp_program.specs.Names.{is_same}
use Rattle.mp_program.proofs.Definitions.{is_same_of}
use Rattle.form_reader.specs.Text.{is_gap}
use Rattle.form_text.specs.Items.{Items, nothing, symbol, group, text_of, first_of, is_fine, IsWritten}
use Rattle.program_maker.specs.Draws.{after, draw, below}
use Rattle.program_maker.specs.Texts as made
use Rattle.program_maker.specs.Texts.{registers, operands, operators, drawn_setting, source_text}
use Rattle.made_program.specs.Made.{Row, IsRow, AreRows, is_drawn, targets}
use Rattle.made_program.proofs.Lists.{name_passes}
use Rattle.made_program.proofs.Tests.{drawn_cases}
use Rattle.made_source.specs.Written.{op_word, space, feed, setting, settings, heading, made_items}
use Rattle.made_source.proofs.Table.{thirteen}

-- ---- the rows that are drawn

abbrev pub op_at : ℕ → Op
op_at zero = Add
op_at (suc zero) = Sub
op_at (suc (suc zero)) = WordAnd
op_at (suc (suc (suc zero))) = WordOr
op_at (suc (suc (suc (suc k)))) = WordXor

op_drawn : (k : ℕ) → is_drawn (op_at k) ≡ true
op_drawn zero = refl
op_drawn (suc zero) = refl
op_drawn (suc (suc zero)) = refl
op_drawn (suc (suc (suc zero))) = refl
op_drawn (suc (suc (suc (suc k)))) = refl

op_named : (k : ℕ) → k < 5 → slice_index_or operators k [] ≡ op_word (op_at k)
op_named zero h = refl
op_named (suc zero) h = refl
op_named (suc (suc zero)) h = refl
op_named (suc (suc (suc zero))) h = refl
op_named (suc (suc (suc (suc zero)))) h = refl
op_named (suc (suc (suc (suc (suc k))))) h = absurd (omega (arith, h))

-- what register i takes on
abbrev pub row_of : ℕ → ℕ → Row
row_of seed i = let x : ℕ = after seed (3 * i) in record {
  target = slice_index_or registers i [];
  op = op_at (draw x 0 5);
  x = slice_index_or operands (draw x 1 14) [];
  y = slice_index_or operands (draw x 2 14) [];
}

abbrev pub last_row : Row
last_row = record { target = codes "q"; op = WordXor; x = codes "r0"; y = codes "r11" }

-- the rows of a seed: of the registers, and then of the output
abbrev pub row_at : ℕ → ℕ → Row
row_at seed i = cond (nat_lt i 12) (row_of seed i) last_row

known : (xs : List (List ℕ)) (k : ℕ) → k < length xs → list_any (is_same (slice_index_or xs k [])) xs ≡ true
known [] k h = absurd (omega (arith, h))
known (x ∷ xs) zero h = ap (λ b. b || list_any (is_same x) xs) (is_same_of x x refl)
known (x ∷ xs) (suc k) h =
    ap (λ b. is_same (slice_index_or xs k []) x || b) (known xs k (omega (arith, h)))
    ∙ or_true (is_same (slice_index_or xs k []) x)

draw_small : (x k m : ℕ) → 0 < m → draw x k m < m
draw_small x k m h = mod_less (after x (suc k)) m h
  where
    mod_less : (y m : ℕ) → 0 < m → below m y < m
    mod_less y m h = omega (arith, h)

pub row_of_is : (seed i : ℕ) → IsRow (row_of seed i)
row_of_is seed i = let x : ℕ = after seed (3 * i) in record {
  op = op_drawn (draw x 0 5);
  x = known operands (draw x 1 14) (draw_small x 1 14 (lit< tt));
  y = known operands (draw x 2 14) (draw_small x 2 14 (lit< tt));
}

last_row_is : IsRow last_row
last_row_is = record { op = refl; x = refl; y = refl }

pub rows_are : (seed : ℕ) → AreRows (thirteen (row_at seed))
rows_are seed = (
  row_of_is seed 0,
  (
    row_of_is seed 1,
    (
      row_of_is seed 2,
      (
        row_of_is seed 3,
        (
          row_of_is seed 4,
          (
            row_of_is seed 5,
            (
              row_of_is seed 6,
              (
                row_of_is seed 7,
                (
                  row_of_is seed 8,
                  (row_of_is seed 9, (row_of_is seed 10, (row_of_is seed 11, (last_row_is, tt)))),
                ),
              ),
            ),
          ),
        ),
      ),
    ),
  ),
)

pub targets_are : (seed : ℕ) → map (λ (row : Row). row.target) (thirteen (row_at seed)) ≡ targets
targets_are seed = refl

-- ---- texts of rows

-- a row, and a text behind it
abbrev body : Row → List ℕ → List ℕ
body row t = codes "(always (setq "
    ++ (row.target ++ (codes " ("
    ++ (op_word row.op ++ (codes " " ++ (row.x ++ (codes " " ++ (row.y ++ (codes ")))" ++ t))))))))

abbrev bodies : List Row → List ℕ → List ℕ
bodies [] t = t
bodies (row ∷ rows) t = 10 ∷ body row (bodies rows t)

three : (o x y e t : List ℕ) → (o ++ (32 ∷ (x ++ (32 ∷ (y ++ e))))) ++ t ≡ o ++ (32 ∷ (x ++ (32 ∷ (y ++ (e ++ t)))))
three o x y e t = append_assoc o (32 ∷ (x ++ (32 ∷ (y ++ e)))) t
    ∙ ap (λ z. o ++ (32 ∷ z)) (append_assoc x (32 ∷ (y ++ e)) t ∙ ap (λ z. x ++ (32 ∷ z)) (append_assoc y e t))

four : (g o x y e t : List ℕ) → (g ++ (32 ∷ 40 ∷ (o ++ (32 ∷ (x ++ (32 ∷ (y ++ e))))))) ++ t ≡ g
    ++ (32 ∷ 40 ∷ (o ++ (32 ∷ (x ++ (32 ∷ (y ++ (e ++ t)))))))
four g o x y e t = append_assoc g (32 ∷ 40 ∷ (o ++ (32 ∷ (x ++ (32 ∷ (y ++ e)))))) t
    ∙ ap (λ z. g ++ (32 ∷ 40 ∷ z)) (three o x y e t)

body-append : (row : Row) (t u : List ℕ) → body row t ++ u ≡ body row (t ++ u)
body-append row t u =
    ap (λ z. codes "(always (setq " ++ z) (four row.target (op_word row.op) row.x row.y (codes ")))" ++ t) u)

bodies-append : (rows : List Row) (t u : List ℕ) → bodies rows t ++ u ≡ bodies rows (t ++ u)
bodies-append [] t u = refl
bodies-append (row ∷ rows) t u = ap (λ z. 10 ∷ z) (body-append row (bodies rows t) u
    ∙ ap (body row) (bodies-append rows t u))

setting_text : (row : Row) (more : Items) → text_of (setting row more) ≡ 10 ∷ body row (text_of more)
setting_text row more =
    let g : List ℕ = row.target in
    let o : List ℕ = op_word row.op in
    ap (λ z. codes "\n(always (setq " ++ (((g ++ (32 ∷ 40 ∷ z)) ++ 41 ∷ []) ++ 41 ∷ text_of more))
    (three o row.x row.y [] (41 ∷ []))
    ∙ ap (λ z. codes "\n(always (setq " ++ (z ++ 41 ∷ text_of more)) (four g o row.x row.y (41 ∷ []) (41 ∷ []))
    ∙ ap (λ z. codes "\n(always (setq " ++ z) (four g o row.x row.y (41 ∷ 41 ∷ []) (41 ∷ text_of more))

settings_text : (rows : List Row) → text_of (settings rows) ≡ bodies rows []
settings_text [] = refl
settings_text (row ∷ rows) = setting_text row (settings rows) ∙ ap (λ t. 10 ∷ body row t) (settings_text rows)

-- a row as the source has it, with its line feed
abbrev pub row_text : Row → List ℕ
row_text row = made.setting row.target (op_word row.op) row.x row.y

lines : (rows : List Row) (u : List ℕ) → 10 ∷ (flat_map row_text rows ++ u) ≡ bodies rows (10 ∷ u)
lines [] u = refl
lines (row ∷ rows) u =
    ap (λ t. 10 ∷ t) (append_assoc (row_text row) (flat_map row_text rows) u
    ∙ ap (λ z. codes "(always (setq " ++ z)
    (four row.target (op_word row.op) row.x row.y (codes ")))\n") (flat_map row_text rows ++ u))
    ∙ ap (body row) (lines rows u))

-- ---- the whole text

pub drawn_is : (seed i : ℕ) → drawn_setting seed i ≡ row_text (row_of seed i)
drawn_is seed i = let x : ℕ = after seed (3 * i) in
    ap (λ o. made.setting (slice_index_or registers i []) o (slice_index_or operands (draw x 1 14) [])
    (slice_index_or operands (draw x 2 14) []))
    (op_named (draw x 0 5) (draw_small x 0 5 (lit< tt)))

abbrev pub twelve : (ℕ → Row) → List Row
twelve r = r 0 ∷ r 1 ∷ r 2 ∷ r 3 ∷ r 4 ∷ r 5 ∷ r 6 ∷ r 7 ∷ r 8 ∷ r 9 ∷ r 10 ∷ r 11 ∷ []

abbrev pub last : List ℕ
last = codes "(always (setq q (word-xor r0 r11))))\n"

-- all up to the settings
abbrev pub before : List ℕ
before = 40 ∷ text_of (heading nothing)

tail_is : (seed : ℕ) → 10 ∷ (flat_map (drawn_setting seed) (range_with_len 0 12) ++ last)
    ≡ (text_of (settings (thirteen (row_at seed))) ++ 41 ∷ []) ++ 10 ∷ []
tail_is seed =
    let rows : List Row = thirteen (row_at seed) in
    ap (λ t. 10 ∷ (t ++ last)) (flat_map_same (drawn_setting seed) (λ i. row_text (row_of seed i)) (range_with_len 0 12)
    (drawn_is seed))
    ∙ lines (twelve (row_of seed)) last
    ∙ sym (ap (λ t. (t ++ 41 ∷ []) ++ 10 ∷ []) (settings_text rows)
    ∙ ap (λ t. t ++ 10 ∷ []) (bodies-append rows [] (41 ∷ [])) ∙ bodies-append rows (41 ∷ []) (10 ∷ []))

pub source_is : (seed : ℕ) → source_text seed ≡ text_of (made_items (thirteen (row_at seed))) ++ feed
source_is seed = ap (λ t. before ++ t) (tail_is seed)

-- ---- well-formed items

symbol_fine : (depth next : ℕ) (gap run : List ℕ) (more : Items) → is_gap false gap ≡ true
    → list_all is_token run ≡ true → list_all is_digit run ≡ false
    → is_token (first_of next more) ≡ false → is_fine depth next more ≡ true → is_fine depth next (symbol gap run more)
    ≡ true
symbol_fine depth next gap run more g t d e rest =
    let last_two = not (is_token (first_of next more)) && is_fine depth next more in
    and_from (is_gap false gap) (list_all is_token run && (not (list_all is_digit run) && last_two)) g
    (and_from (list_all is_token run) (not (list_all is_digit run) && last_two) t
    (and_from (not (list_all is_digit run)) last_two (ap not d)
    (and_from (not (is_token (first_of next more))) (is_fine depth next more) (ap not e) rest)))

group_fine : (depth next : ℕ) (gap : List ℕ) (inner more : Items) → is_gap false gap ≡ true → nat_lt depth 64 ≡ true
    → is_fine (suc depth) 41 inner ≡ true
    → is_fine depth next more ≡ true → is_fine depth next (group gap inner [] more) ≡ true
group_fine depth next gap inner more g d i rest =
    and_from (is_gap false gap) (nat_lt depth 64 && (is_fine (suc depth) 41 inner && is_fine depth next more)) g
    (and_from (nat_lt depth 64) (is_fine (suc depth) 41 inner && is_fine depth next more) d
    (and_from (is_fine (suc depth) 41 inner) (is_fine depth next more) i rest))

abbrev is_word : List ℕ → Bool
is_word x = list_all is_token x && not (list_all is_digit x)

record IsWord (x : List ℕ) : Type 0 where
  pub tokens : list_all is_token x ≡ true
  pub digits : list_all is_digit x ≡ false

word_of : (x : List ℕ) → is_word x ≡ true → IsWord x
word_of x h = let p = and_parts (list_all is_token x) (not (list_all is_digit x)) h in
    record { tokens = p.0; digits = not-true (list_all is_digit x) p.1 }

settings_fine : (rows : List Row) → AreRows rows → list_all is_word (map (λ (row : Row). row.target) rows) ≡ true
    → is_fine 1 41 (settings rows) ≡ true
settings_fine [] are words = refl
settings_fine (row ∷ rows) are words =
    let p = and_parts (is_word row.target) (list_all is_word (map (λ (row : Row). row.target) rows)) words in
    let g : IsWord row.target = word_of row.target p.0 in
    let o : IsWord (op_word row.op) =
    word_of (op_word row.op) (drawn_cases (λ o. is_word (op_word o) ≡ true) refl refl refl refl refl row.op
    (are.0).op) in
    let x : IsWord row.x = word_of row.x (name_passes is_word operands row.x refl (are.0).x) in
    let y : IsWord row.y = word_of row.y (name_passes is_word operands row.y refl (are.0).y) in
    let i3 : Items = symbol [] (op_word row.op) (symbol space row.x (symbol space row.y nothing)) in
    let i2 : Items = symbol [] (codes "setq") (symbol space row.target (group space i3 [] nothing)) in
    let i1 : Items = symbol [] (codes "always") (group space i2 [] nothing) in
    let f3 : is_fine 4 41 i3 ≡ true =
    symbol_fine 4 41 [] (op_word row.op) (symbol space row.x (symbol space row.y nothing)) refl o.tokens o.digits
    refl
    (symbol_fine 4 41 space row.x (symbol space row.y nothing) refl x.tokens x.digits refl
    (symbol_fine 4 41 space row.y nothing refl y.tokens y.digits refl refl)) in
    let f2 : is_fine 3 41 i2 ≡ true =
    symbol_fine 3 41 [] (codes "setq") (symbol space row.target (group space i3 [] nothing)) refl refl refl refl
    (symbol_fine 3 41 space row.target (group space i3 [] nothing) refl g.tokens g.digits refl
    (group_fine 3 41 space i3 nothing refl refl f3 refl)) in
    let f1 : is_fine 2 41 i1 ≡ true =
    symbol_fine 2 41 [] (codes "always") (group space i2 [] nothing) refl refl refl refl
    (group_fine 2 41 space i2 nothing refl refl f2 refl) in
    group_fine 1 41 feed i1 (settings rows) refl refl f1 (settings_fine rows are.1 p.1)

pub made_is_written : (seed : ℕ) → IsWritten (made_items (thirteen (row_at seed))) feed
made_is_written seed = record {
  fine = ap (λ b. b && true) (settings_fine (thirteen (row_at seed)) (rows_are seed) refl);
  rest = refl;
}
