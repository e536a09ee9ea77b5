-- A text is that of at most one label.
use Rattle.std.proofs.Common.{ℕ, ◌≡◌, ◌<◌, ◌≤◌, inl, inr, refl, sym, ◌∙◌, ap, subst, arith, List, [], ◌∷◌, ◌++◌, length}
use Rattle.std.proofs.Common.{All, true, false, eqb, leb, ◌&&◌, Option, Some, None, append_assoc}
use Rattle.std.specs.Prelude.{ℤ, pos, ◌*ℤ◌}
use Rattle.std.specs.Str.Parse.{AllDigits}
use Rattle.std.proofs.lemmas.List.{append-nil}
use Rattle.std.proofs.lemmas.List.Elements.{All-head, All-tail, All-cons, All-nil}
use Rattle.mp_base.proofs.Lists.{head_of, tail_of}
use Rattle.lam_geom.specs.declared.layer.Layer.{Layer}
use Rattle.lam_geom.specs.declared.layer.Layer.TheVariants.{ND, NP, NC, NM, NI, NB, NG}
use Rattle.lam_geom.specs.declared.label.FlatLabel.{FlatLabel}
use Rattle.cif_form.specs.Text.{◌▹◌, SignedDigits}
use Rattle.cif_form.specs.Place.{layer_name}
use Rattle.cif_form.specs.Labels.{IsSpace, Spaces, Coordinate, OwnLayer, IsLabelText}
use Rattle.cif_form.proofs.Numbers.{digit_reads, signed_digits_read}

-- ---- where a run of bytes of one kind ends

-- a first byte is of the kind
abbrev pub Heads : (ℕ → Type 0) → List ℕ → Type 0
Heads P [] = Unit {0}
Heads P (b ∷ bs) = P b

pub one_cut : (P : ℕ → Type 0) (a b c d : List ℕ) → All P a → All P b → Heads (λ x. ¬ P x) c → Heads (λ x. ¬ P x) d
    → a ++ c ≡ b ++ d → (a ≡ b) × (c ≡ d)
one_cut P [] [] c d h k m n e = (refl, e)
one_cut P [] (y ∷ b) [] d h k m n e = absurd (let f : [] ≡ y ∷ (b ++ d) = e in cc)
one_cut P [] (y ∷ b) (x ∷ c) d h k m n e = absurd (m (subst P (sym (head_of e)) (All-head P y b k)))
one_cut P (x ∷ a) [] c [] h k m n e = absurd (let f : x ∷ (a ++ c) ≡ [] = e in cc)
one_cut P (x ∷ a) [] c (y ∷ d) h k m n e = absurd (n (subst P (head_of e) (All-head P x a h)))
one_cut P (x ∷ a) (y ∷ b) c d h k m n e =
    let r = one_cut P a b c d (All-tail P x a h) (All-tail P y b k) m n (tail_of e) in
    ((λ i. head_of e i ∷ r.0 i), r.1)

abbrev Space : ℕ → Type 0
Space = IsSpace

abbrev pub Word : ℕ → Type 0
Word b = ¬ IsSpace b

-- behind a first part that isn't empty, what follows it doesn't matter
heads_front : (P : ℕ → Type 0) (a c : List ℕ) → 0 < length a → All P a → Heads P (a ++ c)
heads_front P [] c l h = absurd (omega arith)
heads_front P (b ∷ a) c l h = All-head P b a h

heads_spaces : (s c : List ℕ) → Spaces s → Heads (λ b. ¬ Word b) (s ++ c)
heads_spaces [] c h = absurd (omega (arith, h.0))
heads_spaces (b ∷ s) c h = λ k. k (All-head IsSpace b s h.1)

-- ---- numbers and layers

digit_word : (b : ℕ) → (leb 48 b && leb b 57) ≡ true → Word b
digit_word b h (inl e) = grind arith
digit_word b h (inr (inl e)) = grind arith
digit_word b h (inr (inr (inl e))) = grind arith
digit_word b h (inr (inr (inr e))) = grind arith

pub digits_word : (ds : List ℕ) → AllDigits 10 ds → All Word ds
digits_word [] h = All-nil Word
digits_word (b ∷ ds) h = All-cons Word b ds (digit_word b (digit_reads b h.0).0) (digits_word ds h.1)

pub number_word : (z : ℤ) (text : List ℕ) → SignedDigits z text → (0 < length text) × All Word text
number_word z text (n, inl (e, ((some, digits), value))) = (some, digits_word text digits)
number_word z text (n, inr (e, (minus, ds, f, g, ((some, digits), value)))) =
    let k : text ≡ 45 ∷ ds = f ∙ ap (λ m. m ++ ds) g in
    let no : Word 45 =
    (λ h. elim h [
      | inl e ↦ omega arith
      | inr h ↦ elim h [ inl e ↦ omega arith | inr h ↦ elim h [ inl e ↦ omega arith | inr e ↦ omega arith ] ]
    ]) in (
      subst (λ t. 0 < length t) (sym k) (omega arith),
      subst (All Word) (sym k)
          (All-cons Word 45 ds no (digits_word ds digits)),
    )

number_in : Option (ℤ × List ℕ) → ℤ
number_in None = pos 0
number_in (Some r) = r.0

one_number : (y z : ℤ) (text : List ℕ) → SignedDigits y text → SignedDigits z text → y ≡ z
unfolding number_in
one_number y z text h k =
    ap number_in (sym (signed_digits_read y text [] h tt).0 ∙ (signed_digits_read z text [] k tt).0)

one_coordinate : (x y : ℤ) (a b : List ℕ) → a ≡ b → Coordinate x a → Coordinate y b → x ≡ y
one_coordinate x y a b e (v, f, s, h) (w, g, t, k) =
    f ∙ ap (λ z. pos 2 *ℤ z) (one_number v w b (subst (SignedDigits v) e h) k) ∙ sym g

layer_of : List ℕ → Layer
layer_of (a ∷ b ∷ cs) = elim (eqb b 68) [
  | true ↦ ND
  | false ↦ elim (eqb b 80) [
    | true ↦ NP
    | false ↦ elim (eqb b 67) [
      | true ↦ NC
      | false ↦ elim (eqb b 77) [
        | true ↦ NM
        | false ↦ elim (eqb b 73) [ true ↦ NI | false ↦ elim (eqb b 66) [ true ↦ NB | false ↦ NG ] ]
      ]
    ]
  ]
]
layer_of _ = NG

layer_of_its_name : (l : Layer) → layer_of (layer_name l) ≡ l
unfolding layer_of
layer_of_its_name ND = refl
layer_of_its_name NP = refl
layer_of_its_name NC = refl
layer_of_its_name NM = refl
layer_of_its_name NI = refl
layer_of_its_name NB = refl
layer_of_its_name NG = refl

pub one_layer : (name : List ℕ) (l m : Layer) → name ≡ layer_name l → name ≡ layer_name m → l ≡ m
one_layer name l m h k = sym (layer_of_its_name l) ∙ ap layer_of (sym h ∙ k) ∙ layer_of_its_name m

pub upper_word : (b : ℕ) → 65 ≤ b → Word b
upper_word b h (inl e) = omega arith
upper_word b h (inr (inl e)) = omega arith
upper_word b h (inr (inr (inl e))) = omega arith
upper_word b h (inr (inr (inr e))) = omega arith

pub two_words : (a b : ℕ) → 65 ≤ a → 65 ≤ b → All Word (a ∷ b ∷ [])
two_words a b h k = All-cons Word a (b ∷ []) (upper_word a h) (All-cons Word b [] (upper_word b k) (All-nil Word))

pub layer_word : (l : Layer) → (0 < length (layer_name l)) × All Word (layer_name l)
layer_word ND = (omega arith, two_words 78 68 (omega arith) (omega arith))
layer_word NP = (omega arith, two_words 78 80 (omega arith) (omega arith))
layer_word NC = (omega arith, two_words 78 67 (omega arith) (omega arith))
layer_word NM = (omega arith, two_words 78 77 (omega arith) (omega arith))
layer_word NI = (omega arith, two_words 78 73 (omega arith) (omega arith))
layer_word NB = (omega arith, two_words 78 66 (omega arith) (omega arith))
layer_word NG = (omega arith, two_words 78 71 (omega arith) (omega arith))

-- ---- labels

heads_all : (P : ℕ → Type 0) (a : List ℕ) → All P a → Heads P a
heads_all P [] h = tt
heads_all P (b ∷ a) h = All-head P b a h

heads_not : (a : List ℕ) → Heads Space a → Heads (λ b. ¬ Word b) a
heads_not [] h = tt
heads_not (b ∷ a) h = λ k. k h

-- the layer and the end of a label
abbrev Tail : Option Layer → List ℕ → Type 0
Tail l = OwnLayer l ▹ λ text. All IsSpace text

tail_heads : (l : Option Layer) (text : List ℕ) → Tail l text → Heads (λ b. ¬ Word b) text
tail_heads None text (own, end, e, h, k) =
    subst (Heads (λ b. ¬ Word b)) (sym (e ∙ ap (λ t. t ++ end) h)) (heads_not end (heads_all IsSpace end k))
tail_heads (Some l) text (own, end, e, (s, name, f, h, m), k) =
    subst (Heads (λ b. ¬ Word b)) (sym (e ∙ ap (λ t. t ++ end) f ∙ append_assoc s name end))
    (heads_spaces s (name ++ end) h)

no_layer : (l : Layer) (text : List ℕ) → Tail None text → Tail (Some l) text → ⊥
no_layer l text (own, end, e, h, k) (own', end', e', (s, name, f, m, (g, n)), k') =
    let a : end ++ [] ≡ s ++ (name ++ end') =
    append-nil end ∙ sym (e ∙ ap (λ t. t ++ end) h) ∙ e' ∙ ap (λ t. t ++ end') f ∙ append_assoc s name end' in
    let w = layer_word l in
    let c = one_cut Space end s [] (name ++ end') k m.1 tt
    (subst (λ t. Heads Word (t ++ end')) (sym g) (heads_front Word (layer_name l) end' w.0 w.1)) a in
    empty name end' (subst (λ t. 0 < length t) (sym g) w.0) c.1
  where
    empty : (a b : List ℕ) → 0 < length a → [] ≡ a ++ b → ⊥
    empty [] b h e = omega arith
    empty (x ∷ a) b h e = let f : [] ≡ x ∷ (a ++ b) = e in cc

one_tail : (l m : Option Layer) (text : List ℕ) → Tail l text → Tail m text → l ≡ m
one_tail None None text h k = refl
one_tail None (Some m) text h k = absurd (no_layer m text h k)
one_tail (Some l) None text h k = absurd (no_layer l text k h)
one_tail (Some l) (Some m) text (own, end, e, (s, name, f, h, (g, n)), k)
    (own', end', e', (s', name', f', h', (g', n')), k') =
    let a : s ++ (name ++ end) ≡ s' ++ (name' ++ end') =
    sym (e ∙ ap (λ t. t ++ end) f ∙ append_assoc s name end) ∙ e' ∙ ap (λ t. t ++ end') f'
    ∙ append_assoc s' name' end' in
    let w = layer_word l in
    let v = layer_word m in
    let c = one_cut Space s s' (name ++ end) (name' ++ end') h.1 h'.1
    (subst (λ t. Heads Word (t ++ end)) (sym g) (heads_front Word (layer_name l) end w.0 w.1))
    (subst (λ t. Heads Word (t ++ end')) (sym g') (heads_front Word (layer_name m) end' v.0 v.1)) a in
    let d = one_cut Word name name' end end' (subst (All Word) (sym g) w.1) (subst (All Word) (sym g') v.1)
    (heads_not end (heads_all IsSpace end k))
    (heads_not end' (heads_all IsSpace end' k')) c.1 in
    ap (λ x. Some x) (one_layer name l m g (d.0 ∙ g'))

-- spaces, then a word and what follows it
pub one_spaced : (s s' w w' r r' : List ℕ) → Spaces s → Spaces s' → (0 < length w) × All Word w
    → (0 < length w') × All Word w' → Heads (λ b. ¬ Word b) r → Heads (λ b. ¬ Word b) r'
    → s ++ (w ++ r) ≡ s' ++ (w' ++ r') → (w ≡ w') × (r ≡ r')
one_spaced s s' w w' r r' h h' k k' m m' e =
    let c = one_cut Space s s' (w ++ r) (w' ++ r') h.1 h'.1 (heads_front Word w r k.0 k.1)
    (heads_front Word w' r' k'.0 k'.1) e in
    one_cut Word w w' r r' k.1 k'.1 m m' c.1

same_label : (o : ℕ) (n n' : List ℕ) (x x' y y' : ℤ) (l l' : Option Layer) → n ≡ n' → x ≡ x' → y ≡ y' → l ≡ l'
    → (let a : FlatLabel = record { offset = o; name = n; x = x; y = y; layer = l } in
    let b : FlatLabel = record { offset = o; name = n'; x = x'; y = y'; layer = l' } in a ≡ b)
same_label o n n' x x' y y' l l' e f g h = λ i. record { offset = o; name = e i; x = f i; y = g i; layer = h i }

pub one_label : (l m : FlatLabel) (text : List ℕ) → l.offset ≡ m.offset → IsLabelText l text → IsLabelText m text
    → l ≡ m
one_label l m text o (
  b,
  t1,
  e1,
  f1,
  (s1, t2, e2, h1, (n, t3, e3, (g, kn, hn), (s2, t4, e4, h2, (x, t5, e5, hx, (s3, t6, e6, h3, (y, t, e7, hy, ht)))))),
) (
  b',
  t1',
  e1',
  f1',
  (
    s1',
    t2',
    e2',
    h1',
    (
      n',
      t3',
      e3',
      (g', kn', hn'),
      (s2', t4', e4', h2', (x', t5', e5', hx', (s3', t6', e6', h3', (y', t', e7', hy', ht')))),
    ),
  ),
) =
    let whole : 52 ∷ t1 ≡ 52 ∷ t1' = sym (e1 ∙ ap (λ c. c ++ t1) f1) ∙ e1' ∙ ap (λ c. c ++ t1') f1' in
    let a1 : s1 ++ (n ++ t3) ≡ s1' ++ (n' ++ t3') =
    ap (λ c. s1 ++ c) (sym e3) ∙ sym e2 ∙ tail_of whole ∙ e2' ∙ ap (λ c. s1' ++ c) e3' in
    let wn : (0 < length n) × All Word n = subst (λ c. (0 < length c) × All Word c) (sym g) (kn, hn) in
    let wn' : (0 < length n') × All Word n' = subst (λ c. (0 < length c) × All Word c) (sym g') (kn', hn') in
    let c1 =
    one_spaced s1 s1' n n' t3 t3' h1 h1' wn wn' (subst (Heads (λ b. ¬ Word b)) (sym e4) (heads_spaces s2 t4 h2))
    (subst (Heads (λ b. ¬ Word b)) (sym e4') (heads_spaces s2' t4' h2')) a1 in
    let a2 : s2 ++ (x ++ t5) ≡ s2' ++ (x' ++ t5') =
    ap (λ c. s2 ++ c) (sym e5) ∙ sym e4 ∙ c1.1 ∙ e4' ∙ ap (λ c. s2' ++ c) e5' in
    let c2 =
    one_spaced s2 s2' x x' t5 t5' h2 h2' (number_word hx.0 x hx.3) (number_word hx'.0 x' hx'.3)
    (subst (Heads (λ b. ¬ Word b)) (sym e6) (heads_spaces s3 t6 h3))
    (subst (Heads (λ b. ¬ Word b)) (sym e6') (heads_spaces s3' t6' h3')) a2 in
    let a3 : s3 ++ (y ++ t) ≡ s3' ++ (y' ++ t') =
    ap (λ c. s3 ++ c) (sym e7) ∙ sym e6 ∙ c2.1 ∙ e6' ∙ ap (λ c. s3' ++ c) e7' in
    let c3 =
    one_spaced s3 s3' y y' t t' h3 h3' (number_word hy.0 y hy.3) (number_word hy'.0 y' hy'.3) (tail_heads l.layer t ht)
    (tail_heads m.layer t' ht') a3 in
    let name : l.name ≡ m.name = sym g ∙ c1.0 ∙ g' in
    λ i. record {
      offset = o i;
      name = name i;
      x = one_coordinate l.x m.x x x' c2.0 hx hx' i;
      y = one_coordinate l.y m.y y y' c3.0 hy hy' i;
      layer = one_tail l.layer m.layer t' (subst (Tail l.layer) c3.1 ht) ht' i;
    }
