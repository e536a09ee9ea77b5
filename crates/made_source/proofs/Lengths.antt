-- A made source is short.
use Rattle.std.proofs.Common.{◌≡◌, ℕ, suc, ◌+◌, ◌*◌, ◌≤◌, List, [], ◌∷◌, ◌++◌, Bool, true, refl, ◌∙◌, ap, codes, length}
use Rattle.std.proofs.Common.{map, arith, length-append, mul-suc, rules}
use Rattle.std.specs.Prelude.{nat_le}
use Rattle.std.specs.List.{flat_map, range_with_len, list_all}
use Rattle.std.proofs.lemmas.Bool.{and_parts, leb-true}
use Rattle.program_maker.specs.Texts.{operands, drawn_setting, source_text}
use Rattle.made_program.specs.Made.{Row, IsRow, AreRows}
use Rattle.made_program.proofs.Lists.{name_passes}
use Rattle.made_program.proofs.Tests.{drawn_cases}
use Rattle.made_source.specs.Written.{op_word}
use Rattle.made_source.proofs.Texts.{row_text, row_of, twelve, last, before, drawn_is, row_of_is}
use Rattle.mp_base.proofs.Lists.{flat_map_same}

abbrev is_short : List ℕ → Bool
is_short x = nat_le (length x) 8

setting_short : (row : Row) → IsRow row → is_short row.target ≡ true → length (row_text row) ≤ 60
setting_short row is short =
    let g : List ℕ = row.target in
    let o : List ℕ = op_word row.op in
    let y_end : List ℕ = row.y ++ codes ")))\n" in
    let x_end : List ℕ = row.x ++ (32 ∷ y_end) in
    let o_end : List ℕ = o ++ (32 ∷ x_end) in
    let lg : length g ≤ 8 = leb-true (length g) 8 short in
    let lo : length o ≤ 8 =
    leb-true (length o) 8 (drawn_cases (λ o. is_short (op_word o) ≡ true) refl refl refl refl refl row.op is.op) in
    let lx : length row.x ≤ 8 = leb-true (length row.x) 8 (name_passes is_short operands row.x refl is.x) in
    let ly : length row.y ≤ 8 = leb-true (length row.y) 8 (name_passes is_short operands row.y refl is.y) in
    let e1 : length y_end ≡ length row.y + 4 = length-append row.y (codes ")))\n") in
    let e2 : length x_end ≡ length row.x + suc (length y_end) = length-append row.x (32 ∷ y_end) in
    let e3 : length o_end ≡ length o + suc (length x_end) = length-append o (32 ∷ x_end) in
    let e4 : length (g ++ (32 ∷ 40 ∷ o_end)) ≡ length g + suc (suc (length o_end)) =
    length-append g (32 ∷ 40 ∷ o_end) in
    let e5 : length (row_text row) ≡ 14 + length (g ++ (32 ∷ 40 ∷ o_end)) =
    length-append (codes "(always (setq ") (g ++ (32 ∷ 40 ∷ o_end)) in
    omega (arith, lg, lo, lx, ly, e1, e2, e3, e4, e5)

settings_short : (rows : List Row) → AreRows rows → list_all is_short (map (λ (row : Row). row.target) rows) ≡ true
    → length (flat_map row_text rows) ≤ 60 * length rows
settings_short [] are short = search rules
settings_short (row ∷ rows) are short =
    let p = and_parts (is_short row.target) (list_all is_short (map (λ (row : Row). row.target) rows)) short in
    let here = setting_short row are.0 p.0 in
    let rest = settings_short rows are.1 p.1 in
    let e = length-append (row_text row) (flat_map row_text rows) in
    let m : 60 * suc (length rows) ≡ 60 * length rows + 60 = mul-suc 60 (length rows) in
    omega (arith, here, rest, e, m)

pub made_is_short : (seed : ℕ) → length (source_text seed) ≤ 2000
made_is_short seed =
    let rows : List Row = twelve (row_of seed) in
    let lines : List ℕ = flat_map row_text rows in
    let are : AreRows rows = (
      row_of_is seed 0,
      (
        row_of_is seed 1,
        (
          row_of_is seed 2,
          (
            row_of_is seed 3,
            (
              row_of_is seed 4,
              (
                row_of_is seed 5,
                (
                  row_of_is seed 6,
                  (
                    row_of_is seed 7,
                    (
                      row_of_is seed 8,
                      (row_of_is seed 9, (row_of_is seed 10, (row_of_is seed 11, tt))),
                    ),
                  ),
                ),
              ),
            ),
          ),
        ),
      ),
    ) in
    let e : source_text seed ≡ before ++ (10 ∷ (lines ++ last)) =
    ap (λ t. before ++ (10 ∷ (t ++ last)))
    (flat_map_same (drawn_setting seed) (λ i. row_text (row_of seed i)) (range_with_len 0 12) (drawn_is seed)) in
    let few : length lines ≤ 720 = settings_short rows are refl in
    let l1 : length (lines ++ last) ≡ length lines + length last = length-append lines last in
    let l2 : length (source_text seed) ≡ length before + suc (length (lines ++ last)) = ap length e
    ∙ length-append before (10 ∷ (lines ++ last)) in
    omega (arith, few, l1, l2)
