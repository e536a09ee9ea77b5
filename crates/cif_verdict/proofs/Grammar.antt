-- Whether a text is that of a label, or names a symbol.
use Rattle.std.proofs.Common.{◌≡◌, ◌⊎◌, inl, inr, ℕ, ◌<◌, List, [], ◌∷◌, ◌++◌, Option, Some, None, length, refl, sym}
use Rattle.std.proofs.Common.{◌∙◌, ap, subst}
use Rattle.std.specs.Prelude.{All, ℤ, pos, neg_ℤ, ◌*ℤ◌, nat_abs, ◌^◌}
use Rattle.std.specs.Char.{digit_value}
use Rattle.std.specs.Str.Parse.{AllDigits, IsNumeral, digits_value}
use Rattle.mp_base.proofs.Decisions.{Decided, same_claim, both_of, one_of, not_so, is_number, decided_below, is_name}
use Rattle.mp_base.proofs.Decisions.{holds_of_all}
use Rattle.mp_base.proofs.Lists.{head_of, tail_of}
use Rattle.lam_geom.specs.declared.layer.Layer.{Layer}
use Rattle.lam_geom.specs.declared.layer.Layer.TheVariants.{ND, NP, NM}
use Rattle.lam_geom.specs.declared.label.FlatLabel.{FlatLabel}
use Rattle.cif_form.specs.Text.{◌▹◌, Byte}
use Rattle.cif_form.specs.Fits.{IsSmall}
use Rattle.cif_form.specs.Place.{layer_name}
use Rattle.cif_form.specs.Labels.{IsSpace, Spaces, Solid, Coordinate, OwnLayer, IsLabelText}
use Rattle.cif_form.specs.Names.{IsNameText}

abbrev Known : (List ℕ → Type 0) → Type 0
Known P = (text : List ℕ) → Decided (P text)

-- a text of one kind and then a text of another
pub in_turn : (P Q : List ℕ → Type 0) → Known P → Known Q → Known (P ▹ Q)
in_turn P Q p q [] = same_claim (both_of (p []) (q [])) (λ (h, k). ([], [], refl, h, k)) back
  where
    back : (P ▹ Q) [] → P [] × Q []
    back ([], rest, e, h, k) = (h, subst Q (sym e) k)
    back (x ∷ front, rest, e, h, k) = absurd (let f : [] ≡ x ∷ (front ++ rest) = e in cc)
in_turn P Q p q (b ∷ bs) =
    same_claim (one_of (both_of (p []) (q (b ∷ bs))) (in_turn (λ t. P (b ∷ t)) Q (λ t. p (b ∷ t)) q bs)) fore back
  where
    fore : (P [] × Q (b ∷ bs)) ⊎ ((λ t. P (b ∷ t)) ▹ Q) bs → (P ▹ Q) (b ∷ bs)
    fore (inl (h, k)) = ([], b ∷ bs, refl, h, k)
    fore (inr (front, rest, e, h, k)) = (b ∷ front, rest, ap (λ t. b ∷ t) e, h, k)

    back : (P ▹ Q) (b ∷ bs) → (P [] × Q (b ∷ bs)) ⊎ ((λ t. P (b ∷ t)) ▹ Q) bs
    back ([], rest, e, h, k) = inl (h, subst Q (sym e) k)
    back (x ∷ front, rest, e, h, k) =
        inr (front, rest, tail_of e, subst (λ c. P (c ∷ front)) (sym (head_of e)) h, k)

is_byte : (b : ℕ) → Known (Byte b)
is_byte b text = is_name text (b ∷ [])

is_space : (b : ℕ) → Decided (IsSpace b)
is_space b = one_of (is_number b 32) (one_of (is_number b 9) (one_of (is_number b 10) (is_number b 13)))

are_spaces : Known Spaces
are_spaces text = both_of (decided_below 0 (length text)) (holds_of_all IsSpace is_space text)

-- ---- words

abbrev Name : List ℕ → Type 0
Name text = (name : List ℕ) × Solid name text

is_word : Known Name
is_word text = same_claim
    (both_of (decided_below 0 (length text)) (holds_of_all (λ b. ¬ IsSpace b) (λ b. not_so (is_space b)) text))
    (λ (some, solid). (text, (refl, some, solid))) back
  where
    back : Name text → (0 < length text) × All (λ b. ¬ IsSpace b) text
    back (name, (e, some, solid)) =
        subst (λ t. (0 < length t) × All (λ b. ¬ IsSpace b) t) (sym e) (some, solid)

are_digits : Known (AllDigits 10)
are_digits [] = inl tt
are_digits (b ∷ bs) = both_of (decided_below (digit_value b) 10) (are_digits bs)

-- digits whose number, with a sign, is small
abbrev Small : (ℕ → ℤ) → List ℕ → Type 0
Small sign text = IsNumeral 10 text × IsSmall (sign (digits_value 10 text))

is_small : (sign : ℕ → ℤ) → Known (Small sign)
is_small sign text = both_of (both_of (decided_below 0 (length text)) (are_digits text))
    (decided_below (nat_abs (sign (digits_value 10 text))) (2 ^ 31))

abbrev Number : List ℕ → Type 0
Number text = (half : ℤ) × Coordinate half text

is_coordinate : Known Number
is_coordinate text = same_claim (one_of (is_small pos text)
    (in_turn (Byte 45) (Small (λ n. neg_ℤ (pos n))) (is_byte 45) (is_small (λ n. neg_ℤ (pos n))) text)) fore back
  where
    fore : Small pos text ⊎ (Byte 45 ▹ Small (λ n. neg_ℤ (pos n))) text → Number text
    fore (inl (digits, small)) =
        let n = digits_value 10 text in (pos 2 *ℤ pos n, (pos n, refl, small, (n, inl (refl, (digits, refl)))))
    fore (inr (minus, ds, e, byte, (digits, small))) =
        let n = digits_value 10 ds in
        (pos 2 *ℤ neg_ℤ (pos n), (neg_ℤ (pos n), refl, small, (n, inr (refl, (minus, ds, e, byte, (digits, refl))))))

    back : Number text → Small pos text ⊎ (Byte 45 ▹ Small (λ n. neg_ℤ (pos n))) text
    back (half, (z, twice, small, (n, inl (e, (digits, is))))) =
        inl (digits, subst IsSmall (e ∙ ap pos (sym is)) small)
    back (half, (z, twice, small, (n, inr (e, (minus, ds, split, byte, (digits, is)))))) =
        inr (minus, ds, split, byte, (digits, subst IsSmall (e ∙ ap (λ m. neg_ℤ (pos m)) (sym is)) small))

-- ---- layers

abbrev Own : List ℕ → Type 0
Own text = (l : Option Layer) × OwnLayer l text

abbrev LabelLayer : List ℕ → Type 0
LabelLayer text = (text ≡ layer_name NM) ⊎ (text ≡ layer_name NP) ⊎ (text ≡ layer_name ND)

is_label_layer : Known LabelLayer
is_label_layer text =
    one_of (is_name text (layer_name NM)) (one_of (is_name text (layer_name NP)) (is_name text (layer_name ND)))

is_own : Known Own
is_own text =
    same_claim (one_of (is_name text []) (in_turn Spaces LabelLayer are_spaces is_label_layer text)) fore back
  where
    fore : (text ≡ []) ⊎ (Spaces ▹ LabelLayer) text → Own text
    fore (inl e) = (None, e)
    fore (inr (front, name, e, spaces, inl is)) = (Some NM, (front, name, e, spaces, (is, inl refl)))
    fore (inr (front, name, e, spaces, inr (inl is))) = (Some NP, (front, name, e, spaces, (is, inr (inl refl))))
    fore (inr (front, name, e, spaces, inr (inr is))) = (Some ND, (front, name, e, spaces, (is, inr (inr refl))))

    back : Own text → (text ≡ []) ⊎ (Spaces ▹ LabelLayer) text
    back (None, e) = inl e
    back (Some l, (front, name, e, spaces, (is, inl m))) =
        inr (front, name, e, spaces, inl (is ∙ ap layer_name m))
    back (Some l, (front, name, e, spaces, (is, inr (inl m)))) =
        inr (front, name, e, spaces, inr (inl (is ∙ ap layer_name m)))
    back (Some l, (front, name, e, spaces, (is, inr (inr m)))) =
        inr (front, name, e, spaces, inr (inr (is ∙ ap layer_name m)))

-- ---- labels

abbrev Closing : List ℕ → Type 0
Closing text = All IsSpace text

abbrev Labelling : List ℕ → Type 0
Labelling = Byte 52 ▹ Spaces ▹ Name ▹ Spaces ▹ Number ▹ Spaces ▹ Number ▹ Own ▹ Closing

is_labelling : Known Labelling
is_labelling = in_turn (Byte 52) (Spaces ▹ Name ▹ Spaces ▹ Number ▹ Spaces ▹ Number ▹ Own ▹ Closing) (is_byte 52)
    (in_turn Spaces (Name ▹ Spaces ▹ Number ▹ Spaces ▹ Number ▹ Own ▹ Closing) are_spaces
    (in_turn Name (Spaces ▹ Number ▹ Spaces ▹ Number ▹ Own ▹ Closing) is_word
    (in_turn Spaces (Number ▹ Spaces ▹ Number ▹ Own ▹ Closing) are_spaces
    (in_turn Number (Spaces ▹ Number ▹ Own ▹ Closing) is_coordinate
    (in_turn Spaces (Number ▹ Own ▹ Closing) are_spaces
    (in_turn Number (Own ▹ Closing) is_coordinate
    (in_turn Own Closing is_own (λ text. holds_of_all IsSpace is_space text))))))))

-- the label at an offset
pub some_label : (offset : ℕ) (text : List ℕ)
    → Decided ((label : FlatLabel) × (label.offset ≡ offset) × IsLabelText label text)
some_label offset text = same_claim (is_labelling text) fore back
  where
    fore : Labelling text → (label : FlatLabel) × (label.offset ≡ offset) × IsLabelText label text
    fore (
      b,
      t1,
      e1,
      four,
      (
        s1,
        t2,
        e2,
        h1,
        (
          w,
          t3,
          e3,
          (name, hw),
          (
            s2,
            t4,
            e4,
            h2,
            (
              n,
              t5,
              e5,
              (x, hx),
              (s3, t6, e6, h3, (m, t7, e7, (y, hy), (own, t8, e8, (layer, hl), end))),
            ),
          ),
        ),
      ),
    ) = (
      record { offset = offset; name = name; x = x; y = y; layer = layer },
      refl,
      (
        b,
        t1,
        e1,
        four,
        (
          s1,
          t2,
          e2,
          h1,
          (
            w,
            t3,
            e3,
            hw,
            (
              s2,
              t4,
              e4,
              h2,
              (
                n,
                t5,
                e5,
                hx,
                (s3, t6, e6, h3, (m, t7, e7, hy, (own, t8, e8, hl, end))),
              ),
            ),
          ),
        ),
      ),
    )

    back : (label : FlatLabel) × (label.offset ≡ offset) × IsLabelText label text → Labelling text
    back (
      label,
      at,
      (
        b,
        t1,
        e1,
        four,
        (
          s1,
          t2,
          e2,
          h1,
          (
            w,
            t3,
            e3,
            hw,
            (
              s2,
              t4,
              e4,
              h2,
              (
                n,
                t5,
                e5,
                hx,
                (s3, t6, e6, h3, (m, t7, e7, hy, (own, t8, e8, hl, end))),
              ),
            ),
          ),
        ),
      ),
    ) = (
      b,
      t1,
      e1,
      four,
      (
        s1,
        t2,
        e2,
        h1,
        (
          w,
          t3,
          e3,
          (label.name, hw),
          (
            s2,
            t4,
            e4,
            h2,
            (
              n,
              t5,
              e5,
              (label.x, hx),
              (s3, t6, e6, h3, (m, t7, e7, (label.y, hy), (own, t8, e8, (label.layer, hl), end))),
            ),
          ),
        ),
      ),
    )

-- ---- names of symbols

abbrev Naming : List ℕ → Type 0
Naming = Spaces ▹ Name ▹ Closing

pub some_name : (text : List ℕ) → Decided ((name : List ℕ) × IsNameText name text)
some_name text = same_claim (in_turn Spaces (Name ▹ Closing) are_spaces
    (in_turn Name Closing is_word (λ t. holds_of_all IsSpace is_space t)) text) fore back
  where
    fore : Naming text → (name : List ℕ) × IsNameText name text
    fore (s, rest, e, spaces, (word, end, f, (name, solid), closing)) =
        (name, (s, rest, e, spaces, (word, end, f, solid, closing)))

    back : (name : List ℕ) × IsNameText name text → Naming text
    back (name, (s, rest, e, spaces, (word, end, f, solid, closing))) =
        (s, rest, e, spaces, (word, end, f, (name, solid), closing))
