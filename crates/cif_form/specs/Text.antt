-- The text of a CIF file, by the grammar of Mead and Conway, chapter 4.
use Rattle.std.specs.Prelude.{ℕ, ◌+◌, ◌<◌, ◌≤◌, ◌≡◌, ◌≢◌, ◌⊎◌, List, [], ◌∷◌, ◌++◌, length, All, ℤ, pos, neg_ℤ}
use Rattle.std.specs.Str.Parse.{IsNumeral, digits_value}
use Rattle.lam_geom.specs.declared.place.Point.{Point}
use Rattle.cif_form.specs.declared.command.Turn.{Turn}
use Rattle.cif_form.specs.declared.command.Turn.TheVariants.{Move, MirrorX, MirrorY, Rotate}
use Rattle.cif_form.specs.declared.command.Command.{Command}
use Rattle.cif_form.specs.declared.command.Command.TheVariants.{Polygon, Box, Round, Wire, Layer, Start, Finish, Delete}
use Rattle.cif_form.specs.declared.command.Command.TheVariants.{Call, User, Comment}
use Rattle.cif_form.specs.declared.command.Item.{Item}

-- ---- bytes

abbrev pub IsDigit : ℕ → Type 0
IsDigit b = (48 ≤ b) × (b ≤ 57)

abbrev pub IsUpper : ℕ → Type 0
IsUpper b = (65 ≤ b) × (b ≤ 90)

-- any byte but digits, upper-case letters, `-`, `(`, `)` and `;`
abbrev pub IsBlank : ℕ → Type 0
IsBlank b = ¬ IsDigit b × ¬ IsUpper b × (b ≢ 45) × (b ≢ 40) × (b ≢ 41) × (b ≢ 59)

abbrev pub IsSeparator : ℕ → Type 0
IsSeparator b = IsUpper b ⊎ IsBlank b

-- ---- kinds of text

-- the one, and then the other
infixr 30 ◌▹◌
abbrev pub ◌▹◌ : (List ℕ → Type 0) → (List ℕ → Type 0) → List ℕ → Type 0
(P ▹ Q) text = (front rest : List ℕ) × (text ≡ front ++ rest) × P front × Q rest

abbrev pub Nothing : List ℕ → Type 0
Nothing text = text ≡ []

abbrev pub Byte : ℕ → List ℕ → Type 0
Byte b text = text ≡ b ∷ []

abbrev pub Blanks : List ℕ → Type 0
Blanks text = All IsBlank text

abbrev pub Separators : List ℕ → Type 0
Separators text = All IsSeparator text

abbrev pub Separator : List ℕ → Type 0
Separator text = (b : ℕ) × (text ≡ b ∷ []) × IsSeparator b

-- at least one digit, and they write n
abbrev pub Digits : ℕ → List ℕ → Type 0
Digits n text = IsNumeral 10 text × (digits_value 10 text ≡ n)

-- the digits of z, behind a `-` or not
abbrev pub SignedDigits : ℤ → List ℕ → Type 0
SignedDigits z text = (n : ℕ) × ((z ≡ pos n) × Digits n text ⊎ (z ≡ neg_ℤ (pos n)) × (Byte 45 ▹ Digits n) text)

-- a number without a sign
abbrev pub Integer : ℤ → List ℕ → Type 0
Integer z = Separators ▹ λ text. (n : ℕ) × (z ≡ pos n) × Digits n text

-- a number that may have a `-`
abbrev pub Signed : ℤ → List ℕ → Type 0
Signed z = Separators ▹ SignedDigits z

abbrev pub PointText : Point → List ℕ → Type 0
PointText p = Signed p.x ▹ Separator ▹ Signed p.y

abbrev pub Path : List Point → List ℕ → Type 0
Path [] = λ text. ⊥
Path (p ∷ []) = PointText p
Path (p ∷ q ∷ ps) = PointText p ▹ Separator ▹ Path (q ∷ ps)

abbrev pub TurnText : Turn → List ℕ → Type 0
TurnText (Move p) = Byte 84 ▹ PointText p
TurnText MirrorX = Byte 77 ▹ Blanks ▹ Byte 88
TurnText MirrorY = Byte 77 ▹ Blanks ▹ Byte 89
TurnText (Rotate p) = Byte 82 ▹ PointText p

abbrev pub Turns : List Turn → List ℕ → Type 0
Turns [] = Nothing
Turns (t ∷ ts) = Blanks ▹ TurnText t ▹ Turns ts

-- what may be left out where it has its usual value
abbrev pub Either : Type 0 → (List ℕ → Type 0) → List ℕ → Type 0
Either usual Written text = usual × Nothing text ⊎ Written text

abbrev pub IsShortName : List ℕ → Type 0
IsShortName name = (0 < length name) × (length name ≤ 4) × All (λ b. IsDigit b ⊎ IsUpper b) name

-- parentheses are balanced, with so many of them open at the start
abbrev pub IsBalanced : ℕ → List ℕ → Type 0
IsBalanced depth [] = depth ≡ 0
IsBalanced depth (b ∷ bs) = (b ≡ 40) × IsBalanced (depth + 1) bs
    ⊎ (b ≡ 41) × ((outer : ℕ) × (depth ≡ outer + 1) × IsBalanced outer bs)
    ⊎ (b ≢ 40) × (b ≢ 41) × IsBalanced depth bs

-- the direction that a box has where none is written
abbrev pub right : Point
right = record { x = pos 1; y = pos 0 }

-- the text of a command, up to its semicolon
abbrev pub Spells : Command → List ℕ → Type 0
Spells (Polygon path) = Byte 80 ▹ Path path
Spells (Box long wide center direction) =
    Byte 66 ▹ Integer long ▹ Separator ▹ Integer wide ▹ Separator ▹ PointText center
    ▹ Either (direction ≡ right) (Separator ▹ PointText direction)
Spells (Round diameter center) = Byte 82 ▹ Integer diameter ▹ Separator ▹ PointText center
Spells (Wire wide path) = Byte 87 ▹ Integer wide ▹ Separator ▹ Path path
Spells (Layer name) = Byte 76 ▹ Blanks ▹ λ text. (text ≡ name) × IsShortName name
Spells (Start number a b) = Byte 68 ▹ Blanks ▹ Byte 83 ▹ Integer number
    ▹ Either ((a ≡ pos 1) × (b ≡ pos 1)) (Separator ▹ Integer a ▹ Separator ▹ Integer b)
Spells Finish = Byte 68 ▹ Blanks ▹ Byte 70
Spells (Delete number) = Byte 68 ▹ Blanks ▹ Byte 68 ▹ Integer number
Spells (Call number turns) = Byte 67 ▹ Integer number ▹ Turns turns
Spells (User digit words) = λ text. (text ≡ (48 + digit) ∷ words) × (digit ≤ 9) × All (λ b. b ≢ 59) words
Spells (Comment words) = λ text. (text ≡ 40 ∷ words ++ 41 ∷ []) × IsBalanced 0 words

-- a semicolon, with blanks around it
abbrev pub Semicolon : List ℕ → Type 0
Semicolon = Blanks ▹ Byte 59 ▹ Blanks

-- what follows a command: the text of a user command goes up to its semicolon, blanks included
abbrev pub After : Command → List ℕ → Type 0
After (User digit words) = Byte 59 ▹ Blanks
After _ = Semicolon

-- The text from an offset on has these commands, and then the end. Definitions are flat: their start and their finish
-- are commands like others.
pub data Reads : ℕ → List ℕ → List Item → Type 0 where
  finish : {offset : ℕ} {text blanks : List ℕ} → text ≡ 69 ∷ blanks → Blanks blanks → Reads offset text []
  nothing : {offset : ℕ} {text rest : List ℕ} {items : List Item} (before semi : List ℕ)
      → text ≡ before ++ (semi ++ rest)
      → Blanks before → Semicolon semi → Reads (offset + (length before + length semi)) rest items
      → Reads offset text items
  command : {offset : ℕ} {text rest : List ℕ} {items : List Item} (before spelled semi : List ℕ) (c : Command)
      → text ≡ before ++ (spelled ++ (semi ++ rest)) → Blanks before → Spells c spelled → After c semi
      → Reads (offset + (length before + (length spelled + length semi))) rest items
      → Reads offset text (record { offset = offset + length before; command = c } ∷ items)
