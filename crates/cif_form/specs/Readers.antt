-- A reader of commands that is a function: what it finds at the front of a text, and the rest of the text.
use Rattle.std.specs.Prelude.{ℕ, zero, suc, ◌+◌, ◌*◌, ◌-◌, ◌==◌, List, [], ◌∷◌, length, ℤ, pos, neg_ℤ, Bool, true}
use Rattle.std.specs.Prelude.{false, not, ◌&&◌, ◌||◌, nat_le, Option, Some, None}
use Rattle.mp_base.specs.Token.{is_digit}
use Rattle.lam_geom.specs.declared.place.Point.{Point}
use Rattle.cif_form.specs.declared.command.Turn.{Turn}
use Rattle.cif_form.specs.declared.command.Turn.TheVariants.{Move, MirrorX, MirrorY, Rotate}
use Rattle.cif_form.specs.declared.command.Command.{Command}
use Rattle.cif_form.specs.declared.command.Command.TheVariants.{Polygon, Box, Round, Wire, Layer, Start, Finish, Delete}
use Rattle.cif_form.specs.declared.command.Command.TheVariants.{Call, User, Comment}
use Rattle.cif_form.specs.Text.{right}

abbrev pub Reader : Type 0 → Type 0
Reader A = List ℕ → Option (A × List ℕ)

-- the reader, on what was found
abbrev pub goes_on : {A B : Type 0} → (A → Reader B) → Option (A × List ℕ) → Option (B × List ℕ)
goes_on q None = None
goes_on q (Some r) = q r.0 r.1

-- the one, and then the other
abbrev pub and_then : {A B : Type 0} → Reader A → (A → Reader B) → Reader B
and_then p q text = goes_on q (p text)

abbrev pub gives : {A B : Type 0} → (A → B) → A → Reader B
gives f a text = Some (f a, text)

-- ---- bytes

abbrev pub is_upper : ℕ → Bool
is_upper b = nat_le 65 b && nat_le b 90

abbrev pub is_separator : ℕ → Bool
is_separator b = not (is_digit b || b == 45 || b == 40 || b == 41 || b == 59)

abbrev pub is_blank : ℕ → Bool
is_blank b = is_separator b && not (is_upper b)

-- what follows the blanks in front
abbrev pub past_blanks : List ℕ → List ℕ
past_blanks [] = []
past_blanks (b ∷ bs) = elim (is_blank b) [ true ↦ past_blanks bs | false ↦ b ∷ bs ]

-- what follows the separators in front
abbrev pub past : List ℕ → List ℕ
past [] = []
past (b ∷ bs) = elim (is_separator b) [ true ↦ past bs | false ↦ b ∷ bs ]

-- one separator
abbrev pub separator_from : Reader (Unit {0})
separator_from [] = None
separator_from (b ∷ bs) = elim (is_separator b) [ true ↦ Some (tt, bs) | false ↦ None ]

abbrev pub then_separator : {A : Type 0} → Reader A → Reader A
then_separator p = and_then separator_from (λ _. p)

-- ---- numbers and points

-- the value of the digits in front, after n, and the rest
abbrev pub digits_from : ℕ → List ℕ → ℕ × List ℕ
digits_from n [] = (n, [])
digits_from n (b ∷ bs) = elim (is_digit b) [ true ↦ digits_from (n * 10 + (b - 48)) bs | false ↦ (n, b ∷ bs) ]

-- digits in front, one at least
abbrev pub natural_from : Reader ℕ
natural_from [] = None
natural_from (b ∷ bs) = elim (is_digit b) [ true ↦ Some (digits_from 0 (b ∷ bs)) | false ↦ None ]

abbrev pub signed_digits_from : Reader ℤ
signed_digits_from [] = None
signed_digits_from (b ∷ bs) = elim (b == 45) [
  | true ↦ and_then natural_from (gives (λ n. neg_ℤ (pos n))) bs
  | false ↦ and_then natural_from (gives pos) (b ∷ bs)
]

abbrev pub integer_from : Reader ℤ
integer_from text = and_then natural_from (gives pos) (past text)

abbrev pub signed_from : Reader ℤ
signed_from text = signed_digits_from (past text)

abbrev pub point_from : Reader Point
point_from =
    and_then signed_from
    (λ x. and_then separator_from (λ _. and_then signed_from (gives (λ y. record { x = x; y = y }))))

-- behind separators a digit or a `-` follows
abbrev pub starts : List ℕ → Bool
starts [] = false
starts (b ∷ bs) = is_digit b || b == 45

abbrev pub follows : List ℕ → Bool
follows text = starts (past text)

-- what may be left out
abbrev pub tail_from : {A : Type 0} → A → Reader A → Reader A
tail_from usual p text = elim (follows text) [ true ↦ p text | false ↦ Some (usual, text) ]

-- ---- paths and turns

-- the other points of a path, behind a separator, with this one in front
abbrev pub others : Reader (List Point) → Point → Unit {0} → Reader (List Point)
others more p u = and_then more (gives (λ ps. p ∷ ps))

abbrev pub path_on : Reader (List Point) → Point → Reader (List Point)
path_on more p = tail_from (p ∷ []) (and_then separator_from (others more p))

-- a path of at most n points
abbrev pub path_from : ℕ → Reader (List Point)
path_from zero = λ text. None
path_from (suc n) = and_then point_from (path_on (path_from n))

abbrev pub path_here : Reader (List Point)
path_here text = path_from (length text) text

abbrev pub mirror_from : Reader Turn
mirror_from [] = None
mirror_from (b ∷ bs) =
    elim (b == 88) [ true ↦ Some (MirrorX, bs) | false ↦ elim (b == 89) [ true ↦ Some (MirrorY, bs) | false ↦ None ] ]

abbrev pub turn_from : Reader Turn
turn_from [] = None
turn_from (b ∷ bs) = elim (b == 84) [
  | true ↦ and_then point_from (gives Move) bs
  | false ↦ elim (b == 82) [
    | true ↦ and_then point_from (gives Rotate) bs
    | false ↦ elim (b == 77) [ true ↦ mirror_from (past_blanks bs) | false ↦ None ]
  ]
]

-- the turns of a call, at most n, behind a point where one may begin
abbrev pub turns_on : List ℕ → Reader (List Turn) → Option (Turn × List ℕ) → Option (List Turn × List ℕ)
turns_on text more None = Some ([], text)
turns_on text more (Some r) = and_then more (gives (λ ts. r.0 ∷ ts)) r.1

abbrev pub turns_from : ℕ → Reader (List Turn)
turns_from zero = λ text. Some ([], text)
turns_from (suc n) = λ text. turns_on text (turns_from n) (turn_from (past_blanks text))

abbrev pub turns_here : Reader (List Turn)
turns_here text = turns_from (length text) text

-- ---- names, words and comments

abbrev pub is_name_byte : ℕ → Bool
is_name_byte b = is_digit b || is_upper b

-- the bytes of a name in front, and the rest
abbrev pub name_from : List ℕ → List ℕ × List ℕ
name_from [] = ([], [])
name_from (b ∷ bs) = elim (is_name_byte b) [ true ↦ (b ∷ (name_from bs).0, (name_from bs).1) | false ↦ ([], b ∷ bs) ]

-- the words up to the semicolon, and the rest
abbrev pub words_from : List ℕ → List ℕ × List ℕ
words_from [] = ([], [])
words_from (b ∷ bs) = elim (b == 59) [ true ↦ ([], b ∷ bs) | false ↦ (b ∷ (words_from bs).0, (words_from bs).1) ]

abbrev pub prefixed : ℕ → Option (List ℕ × List ℕ) → Option (List ℕ × List ℕ)
prefixed b None = None
prefixed b (Some r) = Some (b ∷ r.0, r.1)

-- the words of a comment up to the parenthesis that closes it, where so many more are open
abbrev pub comment_from : ℕ → Reader (List ℕ)
comment_from depth [] = None
comment_from depth (b ∷ bs) = elim (b == 40) [
  | true ↦ prefixed b (comment_from (depth + 1) bs)
  | false ↦ elim (b == 41) [
    | true ↦ elim (depth == 0) [ true ↦ Some ([], bs) | false ↦ prefixed b (comment_from (depth - 1) bs) ]
    | false ↦ prefixed b (comment_from depth bs)
  ]
]

-- ---- commands, behind their letters

abbrev pub box_at : ℤ → ℤ → Point → Reader Command
box_at long wide center = and_then (tail_from right (then_separator point_from)) (gives (Box long wide center))

abbrev pub box_sized : ℤ → ℤ → Reader Command
box_sized long wide = then_separator (and_then point_from (box_at long wide))

abbrev pub box_long : ℤ → Reader Command
box_long long = then_separator (and_then integer_from (box_sized long))

abbrev pub round_of : ℤ → Reader Command
round_of diameter = then_separator (and_then point_from (gives (Round diameter)))

abbrev pub wire_of : ℤ → Reader Command
wire_of wide = then_separator (and_then path_here (gives (Wire wide)))

abbrev pub call_of : ℤ → Reader Command
call_of number = and_then turns_here (gives (Call number))

abbrev pub scale_under : ℤ → Reader (ℤ × ℤ)
scale_under a = then_separator (and_then integer_from (gives (λ b. (a, b))))

abbrev pub scale_from : Reader (ℤ × ℤ)
scale_from = tail_from (pos 1, pos 1) (then_separator (and_then integer_from scale_under))

abbrev pub start_of : ℤ → Reader Command
start_of number = and_then scale_from (gives (λ s. Start number s.0 s.1))

abbrev pub definition_from : Reader Command
definition_from [] = None
definition_from (b ∷ bs) = elim (b == 83) [
  | true ↦ and_then integer_from start_of bs
  | false ↦ elim (b == 70) [
    | true ↦ Some (Finish, bs)
    | false ↦ elim (b == 68) [ true ↦ and_then integer_from (gives Delete) bs | false ↦ None ]
  ]
]

abbrev pub layer_named : List ℕ × List ℕ → Option (Command × List ℕ)
layer_named r = elim (nat_le 1 (length r.0) && nat_le (length r.0) 4) [ true ↦ Some (Layer r.0, r.1) | false ↦ None ]

abbrev pub layer_from : Reader Command
layer_from text = layer_named (name_from text)

abbrev pub user_of : ℕ → List ℕ × List ℕ → Option (Command × List ℕ)
user_of digit r = Some (User digit r.0, r.1)

abbrev pub letter_from : ℕ → Reader Command
letter_from b bs = elim (b == 80) [
  | true ↦ and_then path_here (gives Polygon) bs
  | false ↦ elim (b == 66) [
    | true ↦ and_then integer_from box_long bs
    | false ↦ elim (b == 82) [
      | true ↦ and_then integer_from round_of bs
      | false ↦ elim (b == 87) [
        | true ↦ and_then integer_from wire_of bs
        | false ↦ elim (b == 76) [
          | true ↦ layer_from (past_blanks bs)
          | false ↦ elim (b == 68) [
            | true ↦ definition_from (past_blanks bs)
            | false ↦ elim (b == 67) [
              | true ↦ and_then integer_from call_of bs
              | false ↦ elim (b == 40) [
                | true ↦ and_then (comment_from 0) (gives Comment) bs
                | false ↦ None
              ]
            ]
          ]
        ]
      ]
    ]
  ]
]

-- the command at the front
abbrev pub command_from : Reader Command
command_from [] = None
command_from (b ∷ bs) = elim (is_digit b) [ true ↦ user_of (b - 48) (words_from bs) | false ↦ letter_from b bs ]
