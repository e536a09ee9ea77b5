-- The text of a label.
use Rattle.std.proofs.Common.{ℕ, suc, ◌≡◌, ◌≢◌, ◌<◌, ◌⊎◌, inl, inr, refl, sym, subst, arith, List, [], ◌∷◌, ◌++◌}
use Rattle.std.proofs.Common.{length, lit<, lit≤}
use Rattle.std.specs.Prelude.{ℤ, pos, negsuc, ◌*ℤ◌, ◌+ℤ◌, ◌≤ℤ◌, int_div, int_rem, All, Some, decimal}
use Rattle.std.specs.Fmt.{signed_decimal}
use Rattle.std.specs.Char.{digit_value}
use Rattle.std.specs.Str.Parse.{AllDigits}
use Rattle.std.proofs.lemmas.Int.{ints, quot-rem}
use Rattle.std.proofs.lemmas.Fmt.{decimal_is_IsNumeral}
use Rattle.std.proofs.lemmas.List.{append-nil}
use Rattle.std.proofs.lemmas.List.Elements.{All-nil, All-cons, All-append, All-weaker}
use Rattle.lam_geom.specs.declared.layer.Layer.{Layer}
use Rattle.lam_geom.specs.declared.layer.Layer.TheVariants.{ND, NP, NM}
use Rattle.lam_geom.specs.declared.label.FlatLabel.{FlatLabel}
use Rattle.cif_form.specs.Fits.{Fits, IsSmall}
use Rattle.cif_form.specs.Place.{layer_name}
use Rattle.cif_form.specs.Labels.{IsLabelText, IsSpace, Spaces, Coordinate}
use Rattle.cif_form.specs.Writing.{space}
use Rattle.cif_form.proofs.Written.{signed_digits}
use Rattle.fabric.specs.declared.chip.ChipLabel.{ChipLabel}
use Rattle.fabric.specs.Even.{IsEven}
use Rattle.cif_emit.specs.Emittable.{IsPlainLabel}
use Rattle.cif_emit.specs.Commands.{label_words, label_of}
use Rattle.cif_emit.proofs.Offsets.{next}

-- the label of a chip, at an offset of a file
abbrev pub flat_at : ℕ → ChipLabel → FlatLabel
flat_at o l = record { offset = o; name = l.name; x = l.x; y = l.y; layer = Some l.layer }

-- the labels at these offsets
abbrev pub flat_labels : (ℕ → ℕ) → List ChipLabel → List FlatLabel
flat_labels at [] = []
flat_labels at (l ∷ ls) = flat_at (at 0) l ∷ flat_labels (next at) ls

-- ---- numbers

halved : (z q m : ℤ) → m ≡ pos 0 → q *ℤ pos 2 +ℤ m ≡ z → IsSmall z → (z ≡ pos 2 *ℤ q) × IsSmall q
halved z q m e f s = (omega (arith, ints), omega (arith, ints))

half_of : (z : ℤ) → IsEven z → IsSmall z → (z ≡ pos 2 *ℤ int_div z (pos 2)) × IsSmall (int_div z (pos 2))
half_of z e s = halved z (int_div z (pos 2)) (int_rem z (pos 2)) e (quot-rem z (pos 2)) s

coordinate : (z : ℤ) → IsEven z → IsSmall z → Coordinate z (signed_decimal (int_div z (pos 2)))
coordinate z e s = let h = half_of z e s in (int_div z (pos 2), h.0, h.1, signed_digits (int_div z (pos 2)) h.1)

-- ---- the text

spaces : Spaces space
spaces = (lit< tt, All-cons IsSpace 32 [] (inl refl) (All-nil IsSpace))

label_text : (o : ℕ) (name : List ℕ) (x y : ℤ) (l : Layer) (tx ty : List ℕ) → 0 < length name
    → All (λ b. ¬ IsSpace b) name
    → Coordinate x tx → Coordinate y ty → (l ≡ NM) ⊎ (l ≡ NP) ⊎ (l ≡ ND)
    → IsLabelText (record { offset = o; name = name; x = x; y = y; layer = Some l })
    (52 ∷ (space ++ (name ++ (space ++ (tx ++ (space ++ (ty ++ ((space ++ layer_name l) ++ []))))))))
label_text o name x y l tx ty some plain hx hy hl =
    let end : List ℕ = (space ++ layer_name l) ++ [] in (
      52 ∷ [],
      space ++ (name ++ (space ++ (tx ++ (space ++ (ty ++ end))))),
      refl,
      refl,
      (
        space,
        name ++ (space ++ (tx ++ (space ++ (ty ++ end)))),
        refl,
        spaces,
        (
          name,
          space ++ (tx ++ (space ++ (ty ++ end))),
          refl,
          (refl, some, plain),
          (
            space,
            tx ++ (space ++ (ty ++ end)),
            refl,
            spaces,
            (
              tx,
              space ++ (ty ++ end),
              refl,
              hx,
              (
                space,
                ty ++ end,
                refl,
                spaces,
                (
                  ty,
                  end,
                  refl,
                  hy,
                  (space ++ layer_name l, [], refl, (space, layer_name l, refl, spaces, (refl, hl)), All-nil IsSpace),
                ),
              ),
            ),
          ),
        ),
      ),
    )

-- ---- no semicolon

abbrev IsPlain : ℕ → Type 0
IsPlain b = b ≢ 59

digits_plain : (ds : List ℕ) → AllDigits 10 ds → All IsPlain ds
digits_plain [] h = All-nil IsPlain
digits_plain (c ∷ cs) h = All-cons IsPlain c cs (λ e. let k : digit_value 59 < 10 = subst
    (λ b. digit_value b < 10) e h.0 in absurd (omega arith)) (digits_plain cs h.1)

number_plain : (z : ℤ) → IsSmall z → All IsPlain (signed_decimal z)
number_plain (pos n) h = digits_plain (decimal n) (decimal_is_IsNumeral n (omega arith)).0.1
number_plain (negsuc n) h =
    All-cons IsPlain 45 (decimal (suc n)) (λ e. omega arith)
    (digits_plain (decimal (suc n)) (decimal_is_IsNumeral (suc n) (omega arith)).0.1)

two : (b : ℕ) → b < 59 ⊎ 59 < b → All IsPlain (78 ∷ b ∷ [])
two b h = All-cons IsPlain 78 (b ∷ []) (λ e. omega arith) (All-cons IsPlain b []
    (λ e. elim h [ inl k ↦ omega arith | inr k ↦ omega arith ]) (All-nil IsPlain))

spaced : (text : List ℕ) → All IsPlain text → All IsPlain (space ++ text)
spaced text h = All-cons IsPlain 32 text (λ e. omega arith) h

layer_plain : (l : Layer) → (l ≡ NM) ⊎ (l ≡ NP) ⊎ (l ≡ ND) → All IsPlain (layer_name l)
layer_plain l h = elim h [
  | inl e ↦ subst (λ m. All IsPlain (layer_name m)) (sym e) (two 77 (inr (lit< tt)))
  | inr k ↦ elim k [
    | inl e ↦ subst (λ m. All IsPlain (layer_name m)) (sym e) (two 80 (inr (lit< tt)))
    | inr e ↦ subst
        (λ m. All IsPlain (layer_name m)) (sym e) (two 68 (inr (lit< tt)))
  ]
]

module _ (l : ChipLabel) (plain : IsPlainLabel l) where
  pub words_are_label : (o : ℕ) → IsLabelText (flat_at o l) (label_words l)
  words_are_label o =
      let text = label_text o l.name l.x l.y l.layer (signed_decimal (int_div l.x (pos 2)))
      (signed_decimal (int_div l.y (pos 2)))
      plain.named (All-weaker (λ b. (b ≢ 59) × ¬ IsSpace b) (λ b. ¬ IsSpace b) (λ b h. h.1) l.name plain.plain)
      (coordinate l.x l.even_x plain.x) (coordinate l.y l.even_y plain.y) plain.layer in
      rw append-nil at text

  words_plain : All IsPlain (label_words l)
  words_plain =
      let hx = (half_of l.x l.even_x plain.x).1 in
      let hy = (half_of l.y l.even_y plain.y).1 in
      let tx : List ℕ = signed_decimal (int_div l.x (pos 2)) in
      let ty : List ℕ = signed_decimal (int_div l.y (pos 2)) in
      let end : List ℕ = space ++ layer_name l.layer in
      let after : List ℕ = space ++ (ty ++ end) in
      let last : All IsPlain end = spaced (layer_name l.layer) (layer_plain l.layer plain.layer) in
      let y : All IsPlain after = spaced (ty ++ end) (All-append IsPlain ty end
      (number_plain (int_div l.y (pos 2)) hy) last) in
      let x : All IsPlain (space ++ (tx ++ after)) = spaced (tx ++ after)
      (All-append IsPlain tx after (number_plain (int_div l.x (pos 2)) hx) y) in
      let own : All IsPlain l.name = All-weaker (λ b. (b ≢ 59) × ¬ IsSpace b) IsPlain
      (λ b h. h.0) l.name plain.plain in
      let name : All IsPlain (l.name ++ (space ++ (tx ++ after))) = All-append IsPlain l.name
      (space ++ (tx ++ after)) own x in
      All-cons IsPlain 52 (space ++ (l.name ++ (space ++ (tx ++ after)))) (λ e. omega arith)
      (spaced (l.name ++ (space ++ (tx ++ after))) name)

  pub label_fits : Fits (label_of l)
  label_fits = record {
    unsigned = All-nil (λ z. (pos 0 ≤ℤ z) × IsSmall z);
    signed = All-nil IsSmall;
    formed = (lit≤ tt, words_plain);
  }
