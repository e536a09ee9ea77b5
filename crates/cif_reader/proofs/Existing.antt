-- How the reading of a file ends is known for every text.
use Rattle.std.proofs.Common.{◌≡◌, ◌≢◌, ◌⊎◌, inl, inr, ℕ, zero, suc, ◌+◌, ◌<◌, ◌≤◌, List, [], ◌∷◌, ◌++◌, Bool, true}
use Rattle.std.proofs.Common.{false, Option, Some, None, refl, sym, ◌∙◌, ap, subst, arith, length, length-append}
use Rattle.std.proofs.lemmas.Bool.{cases_eq, cases_lt, cases_Bool}
use Rattle.std.proofs.lemmas.List.{append-nil}
use Rattle.cif_form.specs.declared.command.Command.{Command}
use Rattle.cif_form.specs.declared.command.Item.{Item}
use Rattle.cif_form.specs.Fits.{unsigned_numbers, signed_numbers}
use Rattle.cif_form.specs.Readers.{is_blank, past_blanks, command_from}
use Rattle.cif_form.specs.Scans.{TextEnd, IsReadAs, IsReadable, HasBig, opens, Scans, IsLateEnd, FileScans}
use Rattle.cif_form.specs.Scans.TextRule.{C1, C2, C3, C4, C5}
use Rattle.cif_form.specs.Scans.TextEnd.{Whole, Broken}
use Rattle.cif_form.specs.Text.{Blanks}
use Rattle.cif_form.proofs.Parts.{blanks_past}
use Rattle.cif_form.proofs.Scanning.{blank_means}
use Rattle.cif_reader.proofs.Cutting.{small_or_big, none_is_big}
use Rattle.cif_reader.proofs.Readable.{IsLaw, unread_lacks, unread_open, no_blanks}
use Rattle.cif_reader.proofs.Scanned.{not_blank, stopped}
use Rattle.cif_reader.proofs.Sound.{blanks_split}
use Rattle.cif_reader.proofs.SoundCommands.{command_sound}
use Rattle.cif_reader.proofs.SoundParts.{Stops}

-- a scan of a text from an offset on
abbrev Scanned : Bool → ℕ → List ℕ → Type 0
Scanned inside offset text = (items : List Item) × (e : TextEnd) × Scans inside offset text items e

-- ---- the end

ended : (offset : ℕ) (rest blanks tail : List ℕ) → rest ≡ blanks ++ tail → Blanks blanks → past_blanks rest ≡ tail
    → Scanned false offset (69 ∷ rest)
ended offset rest blanks [] split are past = ([], Whole, Scans.end (subst Blanks (sym (split ∙ append-nil blanks)) are))
ended offset rest blanks (c ∷ more) split are past = (
  [],
  Broken C5 (offset + (1 + length blanks)),
  subst (λ t. Scans false offset (69 ∷ t) [] (Broken C5 (offset + (1 + length blanks)))) (sym split)
      (Scans.more blanks more c are (not_blank c (stopped rest c more past))),
)

end_scanned : (inside : Bool) (offset : ℕ) (rest : List ℕ) → Scanned inside offset (69 ∷ rest)
end_scanned true offset rest = ([], Broken C4 offset, Scans.open_end)
end_scanned false offset rest = let (blanks, split, are) = blanks_split rest in ended offset rest blanks
    (past_blanks rest) split are refl

-- ---- a command

has_big : (c : Command) → HasBig c ⊎ (¬ HasBig c)
has_big c = elim (small_or_big (unsigned_numbers c ++ signed_numbers c)) [
  | inl small ↦ inr (λ big. none_is_big (unsigned_numbers c ++ signed_numbers c) small big)
  | inr big ↦ inl big
]

module _ (law : IsLaw) where
  -- the command that is read, or that none can be
  abbrev Read : List ℕ → Type 0
  Read text = ((c : Command) × (size : ℕ) × (rest : List ℕ) × IsReadAs text c size rest) ⊎ (IsReadable text → ⊥)

  read_upto : (text : List ℕ) (c : Command) (r blanks tail : List ℕ) → command_from text ≡ Some (c, r)
      → r ≡ blanks ++ tail → Blanks blanks → past_blanks r ≡ tail → Read text
  read_upto text c r blanks [] found split are past = inr
      (unread_open law text c r found (λ more k. absurd (let e : [] ≡ 59 ∷ more = sym past ∙ k in cc)))
  read_upto text c r blanks (b ∷ rest) found split are past = elim (cases_eq b 59) [
    | inr other ↦ inr (unread_open law text c r found (λ more k. other
        (let e : b ∷ rest ≡ 59 ∷ more = sym past ∙ k in cc)))
    | inl semi ↦
        let s = command_sound text c r found in
        let behind : r ≡ blanks ++ (59 ∷ rest) = split ∙ ap (λ x. blanks ++ (x ∷ rest)) semi in
        inl (
          c,
          length s.front + (length blanks + 1),
          rest,
          record {
            spelled = s.front;
            blanks = blanks;
            split = s.split ∙ ap (λ t. s.front ++ t) behind;
            spells = s.spells;
            are_blanks = are;
            user = (λ digit words u. no_blanks blanks rest are (subst Stops behind (s.stops digit words u)));
            counted = refl;
          },
        )
  ]

  read_by : (text : List ℕ) (o : Option (Command × List ℕ)) → command_from text ≡ o → Read text
  read_by text None none = inr (unread_lacks law text none)
  read_by text (Some (c, r)) found = let (blanks, split, are) = blanks_split r in read_upto text c r blanks
      (past_blanks r) found split are refl

  -- the rest of a text behind a command is shorter
  shorter : (text : List ℕ) (c : Command) (size : ℕ) (rest : List ℕ) → IsReadAs text c size rest
      → length rest < length text
  shorter text c size rest r =
      let a = ap (length {A = ℕ}) r.split in
      let b = length-append r.spelled (r.blanks ++ (59 ∷ rest)) in
      let d = length-append r.blanks (59 ∷ rest) in
      omega (arith, a, b, d)

  abbrev Upto : ℕ → Type 0
  Upto m = (inside : Bool) (offset : ℕ) (text : List ℕ) → length text ≤ m → Scanned inside offset text

  placed : (m : ℕ) → Upto m → (inside : Bool) (offset : ℕ) (text : List ℕ) → length text ≤ suc m
      → (c : Command) (size : ℕ) (rest : List ℕ) → IsReadAs text c size rest → ¬ HasBig c
      → (o : Option Bool) → opens inside c ≡ o → Scanned inside offset text
  placed m scan inside offset text le c size rest r small None astray =
      ([], Broken C4 offset, Scans.nested c size rest r small astray)
  placed m scan inside offset text le c size rest r small (Some within) stands =
      let less = shorter text c size rest r in
      let (items, e, s) = scan within (offset + size) rest (omega (arith, less, le)) in
      (record { offset = offset; command = c } ∷ items, e, Scans.command c size r small stands s)

  commanded : (m : ℕ) → Upto m → (inside : Bool) (offset b : ℕ) (rest : List ℕ) → length (b ∷ rest) ≤ suc m
      → is_blank b ≡ false → b ≢ 59 → b ≢ 69 → Read (b ∷ rest)
      → Scanned inside offset (b ∷ rest)
  commanded m scan inside offset b rest le other no_semi no_end (inr none) =
      ([], Broken C1 offset, Scans.unread b (not_blank b other) no_semi no_end none)
  commanded m scan inside offset b rest le other no_semi no_end (inl (c, size, more, r)) = elim (has_big c) [
    | inl big ↦ ([], Broken C3 offset, Scans.big c size more r big)
    | inr small ↦ placed m scan inside offset (b ∷ rest) le c size more r small (opens inside c) refl
  ]

  step : (m : ℕ) → Upto m → Upto (suc m)
  step m scan inside offset [] le = ([], Broken C2 offset, Scans.short)
  step m scan inside offset (b ∷ rest) le = elim (cases_Bool (is_blank b)) [
    | inl blank ↦ (let (items, e, s) = scan inside (offset + 1) rest (omega (arith, le)) in
        (items, e, Scans.blank b (blank_means b blank) s))
    | inr other ↦ elim (cases_eq b 59) [
      | inl semi ↦ (let (items, e, s) = scan inside (offset + 1) rest (omega (arith, le)) in
          (items, e, subst (λ x. Scans inside offset (x ∷ rest) items e) (sym semi) (Scans.nothing s)))
      | inr no_semi ↦ elim (cases_eq b 69) [
        | inl end ↦ subst (λ x. Scanned inside offset (x ∷ rest)) (sym end) (end_scanned inside offset rest)
        | inr no_end ↦ commanded m scan inside offset b rest le other no_semi no_end
            (read_by (b ∷ rest) (command_from (b ∷ rest)) refl)
      ]
    ]
  ]

  scan : (m : ℕ) → Upto m
  scan zero inside offset [] le = ([], Broken C2 offset, Scans.short)
  scan zero inside offset (b ∷ rest) le = absurd (omega (arith, le))
  scan (suc m) inside offset text le = step m (scan m) inside offset text le

  -- ---- the file

  by_front : (text blanks tail : List ℕ) → text ≡ blanks ++ tail → Blanks blanks → past_blanks text ≡ tail
      → ((offset : ℕ) × IsLateEnd text offset) ⊎ ((offset : ℕ) → ¬ IsLateEnd text offset)
  by_front text blanks [] split are past = inr (λ offset l. absurd
      (let e = sym past ∙ ap past_blanks l.split ∙ blanks_past l.before (69 ∷ l.after) l.blanks in cc))
  by_front text blanks (b ∷ more) split are past = elim (cases_eq b 69) [
    | inr other ↦ inr (λ offset l. other (let e : b ∷ more ≡ 69 ∷ l.after = sym past ∙ ap past_blanks l.split
        ∙ blanks_past l.before (69 ∷ l.after) l.blanks in cc))
    | inl end ↦ elim (cases_lt 0 (length blanks)) [
      | inl some ↦ inl (
        length blanks,
        record {
          before = blanks;
          after = more;
          split = split
              ∙ ap (λ x. blanks ++ (x ∷ more)) end;
          blanks = are;
          late = some;
          counted = refl;
        },
      )
      | inr none ↦ inr (λ offset l. never l none)
    ]
  ]
    where
      never : {offset : ℕ} → IsLateEnd text offset → length blanks ≤ 0 → ⊥
      never l none =
          let e : b ∷ more ≡ 69 ∷ l.after = sym past ∙ ap past_blanks l.split
          ∙ blanks_past l.before (69 ∷ l.after) l.blanks in
          let same = ap (length {A = ℕ}) (sym split ∙ l.split) in
          let left = length-append blanks (b ∷ more) in
          let right = length-append l.before (69 ∷ l.after) in
          let tails = ap (length {A = ℕ}) e in
          let late = l.late in
          let counted = l.counted in
          omega (arith, none, same, left, right, tails, late, counted)

  pub file_scans : (text : List ℕ) → (items : List Item) × (e : TextEnd) × FileScans text items e
  file_scans text =
      let (blanks, split, are) = blanks_split text in
      elim (by_front text blanks (past_blanks text) split are refl) [
        | inl (offset, late) ↦ ([], Broken C1 offset, inl (offset, late, refl, refl))
        | inr never ↦ (let (items, e, s) = scan (length text) false 0 text (omega arith) in (items, e, inr (never, s)))
      ]
