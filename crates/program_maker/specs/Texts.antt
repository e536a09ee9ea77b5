-- The source and the stimulus that are made of a seed.
use Rattle.std.specs.Prelude.{ℕ, ◌+◌, ◌*◌, List, [], ◌∷◌, ◌++◌, codes, decimal, slice_index_or}
use Rattle.std.specs.List.{flat_map, range_with_len}
use Rattle.program_maker.specs.Draws.{after, draw}

-- supplies, `reset`, the words that come in and the one that goes out
abbrev pub head : List ℕ
head = codes "(program made 16\n"
    ++ (codes "(def 1 power)(def 2 ground)(def 3 phia)(def 4 phib)(def 5 phic)\n"
    ++ (codes "(def reset signal input 6)\n"
    ++ (codes "(def a port input (10 11 12 13 14 15 16 17 18 19 20 21 22 23 24 25))\n"
    ++ (codes "(def b port input (26 27 28 29 30 31 32 33 34 35 36 37 38 39 40 41))\n"
    ++ codes "(def q port output (42 43 44 45 46 47 48 49 50 51 52 53 54 55 56 57))\n"))))

abbrev pub registers : List (List ℕ)
registers = codes "r0" ∷ codes "r1" ∷ codes "r2" ∷ codes "r3" ∷ codes "r4" ∷ codes "r5" ∷ codes "r6" ∷ codes "r7"
    ∷ codes "r8"
    ∷ codes "r9" ∷ codes "r10" ∷ codes "r11" ∷ []

abbrev pub operands : List (List ℕ)
operands = codes "a" ∷ codes "b" ∷ registers

abbrev pub operators : List (List ℕ)
operators = codes "+" ∷ codes "-" ∷ codes "word-and" ∷ codes "word-or" ∷ codes "word-xor" ∷ []

abbrev pub definition : List ℕ → List ℕ
definition register = codes "(def " ++ (register ++ codes " register)\n")

-- a register takes on an operator of two operands
abbrev pub setting : (register op x y : List ℕ) → List ℕ
setting register op x y = codes "(always (setq "
    ++ (register ++ (codes " (" ++ (op ++ (codes " " ++ (x ++ (codes " " ++ (y ++ codes ")))\n")))))))

-- what a register takes on, drawn from a state: the operator and then its operands
abbrev pub setting_from : ℕ → List ℕ → List ℕ
setting_from x register = setting register (slice_index_or operators (draw x 0 5) [])
    (slice_index_or operands (draw x 1 14) []) (slice_index_or operands (draw x 2 14) [])

-- what register i takes on: each takes three draws
abbrev pub drawn_setting : ℕ → ℕ → List ℕ
drawn_setting seed i = setting_from (after seed (3 * i)) (slice_index_or registers i [])

-- the source: pads, 12 registers, what each takes on, and the output
abbrev pub source_text : ℕ → List ℕ
source_text seed = head ++ (flat_map definition registers ++ (flat_map (drawn_setting seed) (range_with_len 0 12)
    ++ codes "(always (setq q (word-xor r0 r11))))\n"))

-- a clock in which a and b are given these numbers
abbrev pub clock : ℕ → ℕ → List ℕ
clock a b = codes "clock a=" ++ (decimal a ++ (codes " b=" ++ (decimal b ++ codes "\n")))

-- what clock k behind the reset gives: two draws
abbrev pub drawn_clock : ℕ → ℕ → List ℕ
drawn_clock seed k = clock (draw seed (2 * k) 65536) (draw seed (2 * k + 1) 65536)

-- the stimulus: a reset, and 64 clocks, whose draws go on from the last of the 36 of the source
abbrev pub stimulus_text : ℕ → List ℕ
stimulus_text seed = codes "clock reset=1\n" ++ flat_map (drawn_clock (after seed 36)) (range_with_len 0 64)
