-- A made stimulus is short.
use Rattle.std.proofs.Common.{◌≡◌, ℕ, suc, ◌+◌, ◌*◌, ◌<◌, ◌≤◌, List, [], ◌∷◌, ◌++◌, codes, length, arith, lit<}
use Rattle.std.proofs.Common.{length-append, mul-suc, rules}
use Rattle.std.specs.Prelude.{decimal}
use Rattle.std.specs.List.{flat_map, range_with_len}
use Rattle.std.proofs.lemmas.Fmt.{length-decimal-le}
use Rattle.std.proofs.lemmas.List.FromFn.{length-range_with_len}
use Rattle.program_maker.specs.Draws.{after, draw}
use Rattle.program_maker.specs.Texts.{clock, drawn_clock, stimulus_text}
use Rattle.made_stimulus.proofs.Stimuli.{draw_small}

number_short : (n : ℕ) → n < 65536 → length (decimal n) ≤ 5
number_short n h = length-decimal-le 5 n (lit< tt) (omega (arith, h)) (omega (arith, h))

clock_short : (a b : ℕ) → a < 65536 → b < 65536 → length (clock a b) ≤ 22
clock_short a b small_a small_b =
    let b_end : List ℕ = decimal b ++ codes "\n" in
    let a_end : List ℕ = decimal a ++ (codes " b=" ++ b_end) in
    let la = number_short a small_a in
    let lb = number_short b small_b in
    let e1 : length b_end ≡ length (decimal b) + 1 = length-append (decimal b) (codes "\n") in
    let e2 : length a_end ≡ length (decimal a) + suc (suc (suc (length b_end))) =
    length-append (decimal a) (codes " b=" ++ b_end) in
    let e3 : length (clock a b) ≡ 8 + length a_end = length-append (codes "clock a=") a_end in
    omega (arith, la, lb, e1, e2, e3)

clocks_short : (seed : ℕ) (ks : List ℕ) → length (flat_map (drawn_clock seed) ks) ≤ 22 * length ks
clocks_short seed [] = search rules
clocks_short seed (k ∷ ks) =
    let here = clock_short (draw seed (2 * k) 65536) (draw seed (2 * k + 1) 65536) (draw_small seed (2 * k))
    (draw_small seed (2 * k + 1)) in
    let rest = clocks_short seed ks in
    let e = length-append (drawn_clock seed k) (flat_map (drawn_clock seed) ks) in
    let m : 22 * suc (length ks) ≡ 22 * length ks + 22 = mul-suc 22 (length ks) in
    omega (arith, here, rest, e, m)

pub made_is_short : (seed : ℕ) → length (stimulus_text seed) ≤ 2000
made_is_short seed =
    let ks : List ℕ = range_with_len 0 64 in
    let few = clocks_short (after seed 36) ks in
    let long : length ks ≡ 64 = length-range_with_len 0 64 in
    let e : length (stimulus_text seed) ≡ 14 + length (flat_map (drawn_clock (after seed 36)) ks) =
    length-append (codes "clock reset=1\n") (flat_map (drawn_clock (after seed 36)) ks) in
    omega (arith, few, long, e)
