-- A read whose bytes come one piece after another.
use Rattle.std.proofs.Common.{◌≡◌, ℕ, zero, suc, ◌+◌, ◌-◌, ◌≤◌, ◌<◌, min, List, [], ◌++◌, length, take, drop, refl}
use Rattle.mp_base.proofs.Lists.{empty_of}
use Rattle.std.proofs.Common.{sym, ap, ◌∙◌, arith, ◌⊎◌, inl, inr, subst, Option, Some, None, true, is_some, unwrap_or}
use Rattle.std.proofs.lemmas.List.{append-nil, drop-append-le, take-append-le, take_all, length-drop, length-append}
use Rattle.std.proofs.Math.Seq.{drop-append-add, take-append-add}
use Rattle.outside.specs.Outside.{GivesPiece}
use Rattle.outside_doubles.specs.QuietReading.{HasRead}
use Rattle.outside_doubles.specs.declared.quiet_log.Cursor.{Cursor}

-- the first bytes of two lists, of which those of the second begin where the first is used up
pieces : (count n : ℕ) (xs ys : List ℕ) → count ≤ length xs → (0 < n → count ≡ length xs)
    → take (count + n) (xs ++ ys) ≡ take count xs ++ take n ys
pieces count zero xs ys le full =
    ap (λ k. take k (xs ++ ys)) (let none : count + 0 ≡ count = omega arith in none)
    ∙ take-append-le count xs ys le ∙ sym (append-nil (take count xs))
pieces count (suc n) xs ys le full =
    let is : count ≡ length xs = full (omega arith) in
    let whole : take count xs ≡ xs = take_all count xs (omega arith) in
    ap (λ k. take (k + suc n) (xs ++ ys)) is ∙ take-append-add xs ys (suc n)
    ∙ ap (λ t. t ++ take (suc n) ys) (sym whole)

le_or : (a b : ℕ) → (a ≤ b) ⊎ (b ≤ a)
le_or a b = grind arith

drop_all : (at : ℕ) (xs : List ℕ) → length xs ≤ at → drop at xs ≡ []
drop_all at xs le = empty_of (drop at xs) (omega (arith, length-drop at xs))

-- what stands from a place on in two lists
drop_both : (at : ℕ) (xs ys : List ℕ) → drop at (xs ++ ys) ≡ drop at xs ++ drop (at - length xs) ys
drop_both at xs ys = elim (le_or at (length xs)) [
  | inl le ↦ drop-append-le at xs ys le ∙ ap (λ k. drop at xs ++ drop k ys)
      (let none : 0 ≡ at - length xs = omega arith in none)
  | inr le ↦
      ap (λ k. drop k (xs ++ ys)) (let is : at ≡ length xs + (at - length xs) = omega arith in is)
      ∙ drop-append-add xs ys (at - length xs)
      ∙ ap (λ t. t ++ drop (at - length xs) ys) (sym (drop_all at xs le))
]

skipped : (n skip from : ℕ) (text : List ℕ) → from ≡ min skip (length text) → n ≤ length text - from
    → take n (drop from text) ≡ take n (drop skip text)
skipped n skip from text is le = elim (le_or skip (length text)) [
  | inl under ↦ ap (λ k. take n (drop k text)) (let same : from ≡ skip = omega arith in same)
  | inr over ↦
      let none : n ≡ 0 = omega arith in
      ap (λ k. take k (drop from text)) none ∙ ap (λ k. take k (drop skip text)) (sym none)
]

-- one more piece was copied behind what was read
pub copied : (bytes text old new : List ℕ) (at skip from count n : ℕ) → skip ≡ at - length bytes
    → count ≡ min (length old) (length bytes - at)
    → take count old ≡ take count (drop at bytes) → from ≡ min skip (length text)
    → n ≡ min (length text - from) (length old - count)
    → take (count + n) new ≡ take count old ++ take n (drop from text)
    → take (count + n) new ≡ take (count + n) (drop at (bytes ++ text))
copied bytes text old new at skip from count n skips counts front starts size is =
    let le : count ≤ length (drop at bytes) = omega (arith, length-drop at bytes) in
    let full : 0 < n → count ≡ length (drop at bytes) = λ more. omega (arith, length-drop at bytes) in
    let second : take n (drop from text) ≡ take n (drop (at - length bytes) text) =
    skipped n skip from text starts (omega arith) ∙ ap (λ k. take n (drop k text)) skips in
    is
    ∙ ap (λ t. t ++ take n (drop from text)) front
    ∙ ap (λ t. take count (drop at bytes) ++ t) second
    ∙ sym (pieces count n (drop at bytes) (drop (at - length bytes) text) le full)
    ∙ ap (take (count + n)) (sym (drop_both at bytes text))

-- a read goes on at one more piece
pub reads_on : (bytes text old new : List ℕ) (at from n : ℕ) (cursor : Cursor) → HasRead bytes at cursor old
    → from ≡ min cursor.skip (length text)
    → n ≡ min (length text - from) (length old - cursor.count) → length new ≡ length old
    → take (cursor.count + n) new ≡ take cursor.count old ++ take n (drop from text)
    → HasRead (bytes ++ text) at (record { skip = cursor.skip - from; count = cursor.count + n }) new
reads_on bytes text old new at from n cursor read starts size same is = record {
  skip = omega (arith, length-append bytes text, read.skip);
  count = omega (arith, length-append bytes text, read.skip, read.count);
  copied = copied bytes text old new at cursor.skip from cursor.count n read.skip read.count read.copied starts size is;
}

-- two parts of a list with more behind them
pub front_of : (xs ys rest : List ℕ) (count n : ℕ) → length xs ≡ count → length ys ≡ n
    → take (count + n) (xs ++ (ys ++ rest)) ≡ xs ++ ys
front_of xs ys rest count n front back =
    ap (λ k. take (k + n) (xs ++ (ys ++ rest))) (sym front)
    ∙ take-append-add xs (ys ++ rest) n
    ∙ ap (λ t. xs ++ t) (take-append-le n ys rest (omega arith) ∙ take_all n ys (omega arith))

-- what was read of a file that is held is a piece of it
pub gives_piece : (o : Option (List ℕ)) (at : ℕ) (cursor : Cursor) (buf : List ℕ) → is_some o ≡ true
    → HasRead (unwrap_or o []) at cursor buf
    → GivesPiece o at cursor.count buf
gives_piece None at cursor buf held read = cc
gives_piece (Some bytes) at cursor buf held read =
    (omega (arith, read.count), read.copied, λ room none. omega (arith, read.count))

-- a read whose bytes are told otherwise, by a cursor and a buffer that are told otherwise
pub has_read : (a b : List ℕ) (at : ℕ) (c d : Cursor) (x y : List ℕ) → a ≡ b → c ≡ d → x ≡ y → HasRead b at d y
    → HasRead a at c x
has_read a b at c d x y bytes cursor buf read =
    subst (λ z. HasRead z at c x) (sym bytes)
    (subst (λ z. HasRead b at z x) (sym cursor) (subst (λ z. HasRead b at d z) (sym buf) read))

-- nothing is read yet
pub not_read : (at : ℕ) (buf : List ℕ) → HasRead [] at (record { skip = at; count = 0 }) buf
not_read at buf = record { skip = omega arith; count = omega arith; copied = refl }

-- a read past one more piece, which is told otherwise
pub read_more : (bytes text other : List ℕ) (at : ℕ) (cursor : Cursor) (buf : List ℕ) → text ≡ other
    → HasRead (bytes ++ text) at cursor buf
    → HasRead (bytes ++ other) at cursor buf
read_more bytes text other at cursor buf same read = subst (λ t. HasRead (bytes ++ t) at cursor buf) same read
