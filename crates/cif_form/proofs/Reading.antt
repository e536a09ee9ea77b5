-- A text has at most one reading as commands.
use Rattle.std.proofs.Common.{ℕ, zero, suc, ◌≡◌, ◌+◌, ◌-◌, refl, sym, ◌∙◌, ap, arith, List, [], ◌∷◌, ◌++◌, length, true}
use Rattle.std.proofs.Common.{false, eqb, ◌||◌, Option, Some, None, append_assoc, length-append}
use Rattle.std.proofs.lemmas.List.Elements.{All-head, All-tail, All-nil}
use Rattle.cif_form.specs.declared.command.Command.{Command}
use Rattle.cif_form.specs.declared.command.Command.TheVariants.{Polygon, Box, Round, Wire, Layer, Start, Finish, Delete}
use Rattle.cif_form.specs.declared.command.Command.TheVariants.{Call, User, Comment}
use Rattle.cif_form.specs.declared.command.Item.{Item}
use Rattle.cif_form.specs.Text.{◌▹◌, Byte, IsBlank, Blanks, Spells, Semicolon, After, Reads}
use Rattle.cif_form.specs.Readers.{is_blank, command_from}
use Rattle.cif_form.proofs.Numbers.{blank_reads}
use Rattle.cif_form.proofs.Parts.{Ends}
use Rattle.cif_form.proofs.Commands.{command_reads, EndsAfter}

abbrev with_item : ℕ → Command → Option (List Item) → Option (List Item)
with_item offset c None = None
with_item offset c (Some items) = Some (record { offset = offset; command = c } ∷ items)

-- the commands from an offset on, where so many bytes still belong to the last command
abbrev items_from : ℕ → ℕ → List ℕ → Option (List Item)
items_from k offset [] = None
items_from (suc k) offset (b ∷ bs) = items_from k (offset + 1) bs
items_from zero offset (b ∷ bs) = elim (is_blank b || eqb b 59) [
  | true ↦ items_from 0 (offset + 1) bs
  | false ↦ elim (eqb b 69) [
    | true ↦ Some []
    | false ↦ elim (command_from (b ∷ bs)) [
      | None ↦ None
      | Some r ↦ with_item offset r.0 (items_from (length bs - length r.1) (offset + 1) bs)
    ]
  ]
]

passed : (front : List ℕ) (offset : ℕ) (rest : List ℕ)
    → items_from (length front) offset (front ++ rest) ≡ items_from 0 (offset + length front) rest
passed [] offset rest = let e : offset ≡ offset + 0 = omega arith in ap (λ o. items_from 0 o rest) e
passed (b ∷ front) offset rest =
    let e : offset + 1 + length front ≡ offset + suc (length front) = omega arith in
    passed front (offset + 1) rest ∙ ap (λ o. items_from 0 o rest) e

blanks_passed : (bs : List ℕ) (offset : ℕ) (rest : List ℕ) → Blanks bs
    → items_from 0 offset (bs ++ rest) ≡ items_from 0 (offset + length bs) rest
blanks_passed [] offset rest h = let e : offset ≡ offset + 0 = omega arith in ap (λ o. items_from 0 o rest) e
blanks_passed (b ∷ bs) offset rest h =
    let e : offset + 1 + length bs ≡ offset + suc (length bs) = omega arith in
    let a : items_from 0 offset (b ∷ (bs ++ rest)) ≡ items_from 0 (offset + 1) (bs ++ rest) =
    rw (blank_reads b (All-head IsBlank b bs h), items_from) refl in
    a ∙ blanks_passed bs (offset + 1) rest (All-tail IsBlank b bs h) ∙ ap (λ o. items_from 0 o rest) e

semicolon_passed : (semi : List ℕ) (offset : ℕ) (rest : List ℕ) → Semicolon semi
    → items_from 0 offset (semi ++ rest) ≡ items_from 0 (offset + length semi) rest
semicolon_passed semi offset rest (before, more, e, h, (byte, after, f, k, m)) =
    let g : more ≡ 59 ∷ after = f ∙ ap (λ t. t ++ after) k in
    let a : semi ++ rest ≡ before ++ (59 ∷ (after ++ rest)) =
    ap (λ t. t ++ rest) e ∙ append_assoc before more rest ∙ ap (λ t. before ++ (t ++ rest)) g in
    let b : offset + length before + 1 + length after ≡ offset + length semi =
    (let c = ap length e ∙ length-append before more in let d = ap length g in omega arith) in
    ap (items_from 0 offset) a ∙ blanks_passed before offset (59 ∷ (after ++ rest)) h
    ∙ blanks_passed after (offset + length before + 1) rest m ∙ ap (λ o. items_from 0 o rest) b

-- a command begins with a byte that is neither blank, a semicolon nor `E`
pub record Begins (front : List ℕ) : Type 0 where
  pub byte : ℕ
  pub back : List ℕ
  pub split : front ≡ byte ∷ back
  pub no_blank : (is_blank byte || eqb byte 59) ≡ false
  pub no_end : eqb byte 69 ≡ false

by_byte : (b : ℕ) (P : List ℕ → Type 0) (front : List ℕ) → (is_blank b || eqb b 59) ≡ false → eqb b 69 ≡ false
    → (Byte b ▹ P) front → Begins front
by_byte b P front h k (byte, back, e, f, m) =
    record { byte = b; back = back; split = e ∙ ap (λ t. t ++ back) f; no_blank = h; no_end = k }

pub begins : (c : Command) (front : List ℕ) → Spells c front → Begins front
begins (Polygon ps) front h = by_byte 80 _ front refl refl h
begins (Box long wide center direction) front h = by_byte 66 _ front refl refl h
begins (Round diameter center) front h = by_byte 82 _ front refl refl h
begins (Wire wide path) front h = by_byte 87 _ front refl refl h
begins (Layer name) front h = by_byte 76 _ front refl refl h
begins (Start number a b) front h = by_byte 68 _ front refl refl h
begins Finish front h = by_byte 68 _ front refl refl h
begins (Delete number) front h = by_byte 68 _ front refl refl h
begins (Call number turns) front h = by_byte 67 _ front refl refl h
begins (User digit words) front (e, h, k) =
    record { byte = 48 + digit; back = words; split = e; no_blank = grind arith; no_end = grind arith }
begins (Comment words) front (e, h) =
    record { byte = 40; back = words ++ 41 ∷ []; split = e; no_blank = refl; no_end = refl }

item_found : (c : Command) (front rest : List ℕ) (offset : ℕ) → Spells c front → EndsAfter c rest
    → items_from 0 offset (front ++ rest) ≡ with_item offset c (items_from 0 (offset + length front) rest)
item_found c front rest offset h e =
    let g = begins c front h in
    let r : command_from (g.byte ∷ (g.back ++ rest)) ≡ Some (c, rest) =
    ap (λ t. command_from (t ++ rest)) (sym g.split) ∙ command_reads c front rest h e in
    let a : items_from 0 offset (g.byte ∷ (g.back ++ rest))
    ≡ with_item offset c (items_from (length (g.back ++ rest) - length rest) (offset + 1) (g.back ++ rest)) =
    rw (g.no_blank, g.no_end, r, items_from) refl in
    let k : length (g.back ++ rest) - length rest ≡ length g.back =
    (let l = length-append g.back rest in omega arith) in
    let m : offset + 1 + length g.back ≡ offset + length front = (let l = ap length g.split in omega arith) in
    ap (λ t. items_from 0 offset (t ++ rest)) g.split ∙ a
    ∙ ap (λ n. with_item offset c (items_from n (offset + 1) (g.back ++ rest))) k
    ∙ ap (with_item offset c) (passed g.back (offset + 1) rest ∙ ap (λ o. items_from 0 o rest) m)

-- ---- what follows a command

pub no_blanks_before : (semi : List ℕ) → (Byte 59 ▹ Blanks) semi → Semicolon semi
no_blanks_before semi h = ([], semi, refl, All-nil IsBlank, h)

semicolon_ends : (semi rest : List ℕ) → Semicolon semi → Ends (semi ++ rest)
semicolon_ends semi rest (before, more, e, h, (byte, after, f, k, m)) =
    let g : more ≡ 59 ∷ after = f ∙ ap (λ t. t ++ after) k in
    record {
      blanks = before;
      more = after ++ rest;
      split = ap (λ t. t ++ rest) e ∙ append_assoc before more rest ∙ ap (λ t. before ++ (t ++ rest)) g;
      are_blanks = h;
    }

after_semicolon : (c : Command) (semi : List ℕ) → After c semi → Semicolon semi
after_semicolon (Polygon ps) semi h = h
after_semicolon (Box long wide center direction) semi h = h
after_semicolon (Round diameter center) semi h = h
after_semicolon (Wire wide path) semi h = h
after_semicolon (Layer name) semi h = h
after_semicolon (Start number a b) semi h = h
after_semicolon Finish semi h = h
after_semicolon (Delete number) semi h = h
after_semicolon (Call number turns) semi h = h
after_semicolon (User digit words) semi h = no_blanks_before semi h
after_semicolon (Comment words) semi h = h

after_ends : (c : Command) (semi rest : List ℕ) → After c semi → EndsAfter c (semi ++ rest)
after_ends (Polygon ps) semi rest h = semicolon_ends semi rest h
after_ends (Box long wide center direction) semi rest h = semicolon_ends semi rest h
after_ends (Round diameter center) semi rest h = semicolon_ends semi rest h
after_ends (Wire wide path) semi rest h = semicolon_ends semi rest h
after_ends (Layer name) semi rest h = semicolon_ends semi rest h
after_ends (Start number a b) semi rest h = semicolon_ends semi rest h
after_ends Finish semi rest h = semicolon_ends semi rest h
after_ends (Delete number) semi rest h = semicolon_ends semi rest h
after_ends (Call number turns) semi rest h = semicolon_ends semi rest h
after_ends (User digit words) semi rest (byte, after, f, k, m) =
    (after ++ rest, ap (λ t. t ++ rest) (f ∙ ap (λ t. t ++ after) k))
after_ends (Comment words) semi rest h = semicolon_ends semi rest h

-- ---- readings

reads_found : {offset : ℕ} {text : List ℕ} {items : List Item} → Reads offset text items
    → items_from 0 offset text ≡ Some items
reads_found {offset = offset} (Reads.finish e h) = ap (items_from 0 offset) e
reads_found {offset = offset} (Reads.nothing {rest = rest} {items = items} before semi e h k r) =
    let a : offset + length before + length semi ≡ offset + (length before + length semi) = omega arith in
    ap (items_from 0 offset) e ∙ blanks_passed before offset (semi ++ rest) h
    ∙ semicolon_passed semi (offset + length before) rest k
    ∙ ap (λ o. items_from 0 o rest) a ∙ reads_found r
reads_found {offset = offset} (Reads.command {rest = rest} {items = items} before spelled semi c e h k m r) =
    let a : offset + length before + length spelled + length semi ≡ offset
    + (length before + (length spelled + length semi)) = omega arith in
    ap (items_from 0 offset) e ∙ blanks_passed before offset (spelled ++ (semi ++ rest)) h
    ∙ item_found c spelled (semi ++ rest) (offset + length before) k (after_ends c semi rest m)
    ∙ ap (with_item (offset + length before) c)
    (semicolon_passed semi (offset + length before + length spelled) rest (after_semicolon c semi m)
    ∙ ap (λ o. items_from 0 o rest) a ∙ reads_found r)

-- A text has at most one reading as commands.
pub reads_once : (offset : ℕ) (text : List ℕ) (items others : List Item) → Reads offset text items
    → Reads offset text others → items ≡ others
reads_once offset text items others h k = let e : Some items ≡ Some others = sym (reads_found h) ∙ reads_found k in cc
