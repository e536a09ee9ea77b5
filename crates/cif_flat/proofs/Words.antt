-- Words of labels.
use Rattle.std.proofs.Common.{ℕ, zero, suc, ◌≡◌, ◌-◌, ◌<◌, ◌≤◌, ◌^◌, inl, inr, refl, sym, ◌∙◌, ap, subst, arith, List}
use Rattle.std.proofs.Common.{[], ◌∷◌, ◌++◌, length, take, drop, All, Option, Some, None, append_assoc}
use Rattle.std.specs.Prelude.{ℤ, pos, negsuc, neg_ℤ, nat_abs}
use Rattle.std.specs.Int.{IsInRange}
use Rattle.std.proofs.Math.Seq.{drop-cons}
use Rattle.std.proofs.lemmas.Int.{ints}
use Rattle.std.proofs.lemmas.List.{take-append-drop, take_all, length-take}
use Rattle.std.proofs.lemmas.List.Elements.{All-head, All-tail}
use Rattle.mp_base.proofs.Lists.{head_of, tail_of}
use Rattle.outside.proofs.FilesLemmas.{rest_of}
use Rattle.lam_geom.specs.declared.layer.Layer.{Layer}
use Rattle.lam_geom.specs.declared.label.FlatLabel.{FlatLabel}
use Rattle.cif_form.specs.Place.{layer_name}
use Rattle.cif_form.specs.Labels.{IsSpace, Coordinate, IsLabelText}
use Rattle.cif_form.proofs.OneLabel.{Word, number_word, layer_word}
use Rattle.cif_place.specs.Placing.{IsWithin}
use Rattle.cif_flat.specs.Labelling.{Begins, IsNextWord, Tail, IsLabelLayer}

-- ---- where a run of bytes of one kind ends

one_cut : (P : ℕ → Type 0) (a b c d : List ℕ) → All P a → All P b → Begins (λ x. ¬ P x) c → Begins (λ x. ¬ P x) d
    → a ++ c ≡ b ++ d → (a ≡ b) × (c ≡ d)
one_cut P [] [] c d h k m n e = (refl, e)
one_cut P [] (y ∷ b) [] d h k m n e = absurd (let f : [] ≡ y ∷ (b ++ d) = e in cc)
one_cut P [] (y ∷ b) (x ∷ c) d h k m n e = absurd (m (subst P (sym (head_of e)) (All-head P y b k)))
one_cut P (x ∷ a) [] c [] h k m n e = absurd (let f : x ∷ (a ++ c) ≡ [] = e in cc)
one_cut P (x ∷ a) [] c (y ∷ d) h k m n e = absurd (n (subst P (head_of e) (All-head P x a h)))
one_cut P (x ∷ a) (y ∷ b) c d h k m n e =
    let r = one_cut P a b c d (All-tail P x a h) (All-tail P y b k) m n (tail_of e) in
    ((λ i. head_of e i ∷ r.0 i), r.1)

begins_front : (P : ℕ → Type 0) (a c : List ℕ) → 0 < length a → All P a → Begins P (a ++ c)
begins_front P [] c l h = absurd (omega arith)
begins_front P (b ∷ a) c l h = All-head P b a h

begins_not : (a : List ℕ) → Begins IsSpace a → Begins (λ b. ¬ Word b) a
begins_not [] h = tt
begins_not (b ∷ a) h = λ k. k h

begins_all : (P : ℕ → Type 0) (a : List ℕ) → All P a → Begins P a
begins_all P [] h = tt
begins_all P (b ∷ a) h = All-head P b a h

apart : (a : List ℕ) → Begins IsSpace a → Begins Word a → 0 < length a → ⊥
apart [] h k l = omega arith
apart (b ∷ a) h k l = k h

pub one_word : (text w w' r r' : List ℕ) → IsNextWord text w r → IsNextWord text w' r' → (w ≡ w') × (r ≡ r')
one_word text w w' r r' h k =
    let c = one_cut IsSpace h.spaces k.spaces (w ++ r) (w' ++ r') h.are_spaces.1 k.are_spaces.1
    (begins_front Word w r h.some h.solid) (begins_front Word w' r' k.some k.solid) (sym h.split ∙ k.split) in
    one_cut Word w w' r r' h.solid k.solid (begins_not r h.stops) (begins_not r' k.stops) c.1

-- ---- the next word

pub no_spaces : (text w r : List ℕ) → Begins Word text → IsNextWord text w r → ⊥
no_spaces text w r b h =
    apart (h.spaces ++ (w ++ r)) (begins_front IsSpace h.spaces (w ++ r) h.are_spaces.0 h.are_spaces.1)
    (subst (Begins Word) h.split b)
    (long h.spaces (w ++ r) h.are_spaces.0)
  where
    long : (a c : List ℕ) → 0 < length a → 0 < length (a ++ c)
    long [] c l = absurd (omega arith)
    long (x ∷ a) c l = omega arith

long_front : (a c : List ℕ) → 0 < length a → 0 < length (a ++ c)
long_front [] c l = absurd (omega arith)
long_front (x ∷ a) c l = omega arith

pub no_word : (text w r : List ℕ) (n : ℕ) → All IsSpace (take n text) → Begins Word (drop n text)
    → Begins IsSpace (drop n text) → IsNextWord text w r → ⊥
no_word text w r n a b c h =
    let k = one_cut IsSpace (take n text) h.spaces (drop n text) (w ++ r) a h.are_spaces.1 b
    (begins_front Word w r h.some h.solid) (take-append-drop n text ∙ h.split) in
    apart (w ++ r) (subst (Begins IsSpace) k.1 c) (begins_front Word w r h.some h.solid) (long_front w r h.some)

pub next_word_is : (text : List ℕ) (n m : ℕ) → n ≤ length text → 0 < n → 0 < m → m ≤ length (drop n text)
    → All IsSpace (take n text) → All Word (take m (drop n text)) → Begins IsSpace (drop m (drop n text))
    → IsNextWord text (take m (drop n text)) (drop m (drop n text))
next_word_is text n m l p q k a b c = record {
  spaces = take n text;
  split = sym (take-append-drop n text) ∙ ap (λ t. take n text ++ t) (sym (take-append-drop m (drop n text)));
  are_spaces = (omega (arith, length-take n text), a);
  some = omega (arith, length-take m (drop n text));
  solid = b;
  stops = c;
}

-- the same of a rest that is cut off
pub next_word_of : (text : List ℕ) (n m : ℕ) (rest : List ℕ) → rest ≡ drop n text → n ≤ length text → 0 < n → 0 < m
    → m ≤ length rest → All IsSpace (take n text) → All Word (take m rest)
    → Begins IsSpace (drop m rest) → IsNextWord text (take m rest) (take (length rest - m) (drop m rest))
next_word_of text n m rest e l p q k a b c =
    subst (λ end. IsNextWord text (take m rest) end) (sym (rest_of rest m))
    (subst (λ t. IsNextWord text (take m t) (drop m t)) (sym e)
    (next_word_is text n m l p q (subst (λ t. m ≤ length t) e k) a (subst (λ t. All Word (take m t)) e b)
    (subst (λ t. Begins IsSpace (drop m t)) e c)))

-- ---- numbers

digit_word : (b : ℕ) → IsInRange 48 57 b → Word b
digit_word b h (inl e) = omega (arith, h.0, e)
digit_word b h (inr (inl e)) = omega (arith, h.0, e)
digit_word b h (inr (inr (inl e))) = omega (arith, h.0, e)
digit_word b h (inr (inr (inr e))) = omega (arith, h.0, e)

pub small_negative : (n : ℕ) → n < 2 ^ 31 → nat_abs (neg_ℤ (pos n)) < 2 ^ 31
small_negative zero h = omega arith
small_negative (suc n) h = h

-- ---- the end of a label

pub tail_spaces : (text : List ℕ) → Tail None text → All IsSpace text
tail_spaces text (own, end, e, h, k) = subst (All IsSpace) (sym (e ∙ ap (λ t. t ++ end) h)) k

pub tail_word : (l : Layer) (text : List ℕ) → Tail (Some l) text
    → (end : List ℕ) × IsNextWord text (layer_name l) end × All IsSpace end × IsLabelLayer l
tail_word l text (own, end, e, (s, name, f, h, (g, n)), k) =
    let w = layer_word l in (
      end,
      record {
        spaces = s;
        split = e ∙ ap (λ t. t ++ end) (f ∙ ap (λ t. s ++ t) g)
            ∙ append_assoc s (layer_name l) end;
        are_spaces = h;
        some = w.0;
        solid = w.1;
        stops = begins_all IsSpace end k;
      },
      k,
      n,
    )

pub word_tail : (l : Layer) (text word end : List ℕ) → IsNextWord text word end → word ≡ layer_name l → IsLabelLayer l
    → All IsSpace end → Tail (Some l) text
word_tail l text word end h e n k = (
  h.spaces ++ word,
  end,
  h.split
      ∙ sym (append_assoc h.spaces word end),
  (h.spaces, word, refl, h.are_spaces, (e, n)),
  k,
)

pub tail_stops : (l : Option Layer) (text : List ℕ) → Tail l text → Begins IsSpace text
tail_stops None text t = begins_all IsSpace text (tail_spaces text t)
tail_stops (Some l) text t =
    let w = tail_word l text t in
    subst (Begins IsSpace) (sym w.1.split)
    (begins_front IsSpace w.1.spaces (layer_name l ++ w.0) w.1.are_spaces.0 w.1.are_spaces.1)

pub not_all : (text : List ℕ) (n : ℕ) → n < length text → Begins Word (drop n text) → All IsSpace text → ⊥
not_all text n l b a = subst (Begins Word) (drop-cons text n 0 l) b (a n 0 l)

pub all_spaces : (text : List ℕ) (n : ℕ) → length text ≤ n → All IsSpace (take n text) → All IsSpace text
all_spaces text n l a = subst (All IsSpace) (take_all n text l) a

-- ---- labels

pub record IsLabelOf (text : List ℕ) (label : FlatLabel) : Type 0 where
  pub body : List ℕ
  pub after_name : List ℕ
  pub across : List ℕ
  pub after_x : List ℕ
  pub up : List ℕ
  pub end : List ℕ
  pub four : text ≡ 52 ∷ body
  pub name : IsNextWord body label.name after_name
  pub x_word : IsNextWord after_name across after_x
  pub y_word : IsNextWord after_x up end
  pub x : Coordinate label.x across
  pub y : Coordinate label.y up
  pub layer : Tail label.layer end

pub label_words : (text : List ℕ) (l : FlatLabel) → IsLabelText l text → IsLabelOf text l
label_words text l (
  b,
  t1,
  e1,
  f1,
  (s1, t2, e2, h1, (n, t3, e3, (g, kn, hn), (s2, t4, e4, h2, (x, t5, e5, hx, (s3, t6, e6, h3, (y, t, e7, hy, ht)))))),
) =
    let nx = number_word hx.0 x hx.3 in
    let ny = number_word hy.0 y hy.3 in
    record {
      body = t1;
      after_name = t3;
      across = x;
      after_x = t5;
      up = y;
      end = t;
      four = e1 ∙ ap (λ c. c ++ t1) f1;
      name = record {
        spaces = s1;
        split = e2 ∙ ap (λ c. s1 ++ c) (e3 ∙ ap (λ c. c ++ t3) g);
        are_spaces = h1;
        some = kn;
        solid = hn;
        stops = subst (Begins IsSpace) (sym e4) (begins_front IsSpace s2 t4 h2.0 h2.1);
      };
      x_word =
          record {
            spaces = s2;
            split = e4 ∙ ap (λ c. s2 ++ c) e5;
            are_spaces = h2;
            some = nx.0;
            solid = nx.1;
            stops = subst (Begins IsSpace) (sym e6) (begins_front IsSpace s3 t6 h3.0 h3.1);
          };
      y_word =
          record {
            spaces = s3;
            split = e6 ∙ ap (λ c. s3 ++ c) e7;
            are_spaces = h3;
            some = ny.0;
            solid = ny.1;
            stops = tail_stops l.layer t ht;
          };
      x = hx;
      y = hy;
      layer = ht;
    }

pub words_label : (text : List ℕ) (l : FlatLabel) → IsLabelOf text l → IsLabelText l text
words_label text l h = (
  52 ∷ [],
  h.body,
  h.four,
  refl,
  (
    h.name.spaces,
    l.name ++ h.after_name,
    h.name.split,
    h.name.are_spaces,
    (
      l.name,
      h.after_name,
      refl,
      (refl, h.name.some, h.name.solid),
      (
        h.x_word.spaces,
        h.across ++ h.after_x,
        h.x_word.split,
        h.x_word.are_spaces,
        (
          h.across,
          h.after_x,
          refl,
          h.x,
          (h.y_word.spaces, h.up ++ h.end, h.y_word.split, h.y_word.are_spaces, (h.up, h.end, refl, h.y, h.layer)),
        ),
      ),
    ),
  ),
)

-- what is read of a label, step by step
module _ (text rest : List ℕ) (first : ℕ) (e : text ≡ first ∷ rest) (l : FlatLabel) (h : IsLabelOf text l) where
  pub the_name : IsNextWord rest l.name h.after_name
  the_name = subst (λ t. IsNextWord t l.name h.after_name) (tail_of (sym h.four ∙ e)) h.name

  module _ (name r2 : List ℕ) (n : IsNextWord rest name r2) where
    pub the_x : IsNextWord r2 h.across h.after_x
    the_x = subst (λ t. IsNextWord t h.across h.after_x)
        (sym (one_word rest name l.name r2 h.after_name n the_name).1) h.x_word

    module _ (xw r3 : List ℕ) (x : IsNextWord r2 xw r3) where
      pub the_y : IsNextWord r3 h.up h.end
      the_y = subst (λ t. IsNextWord t h.up h.end) (sym (one_word r2 xw h.across r3 h.after_x x the_x).1) h.y_word

      pub the_across : Coordinate l.x xw
      the_across = subst (Coordinate l.x) (sym (one_word r2 xw h.across r3 h.after_x x the_x).0) h.x

      module _ (yw r4 : List ℕ) (y : IsNextWord r3 yw r4) where
        pub the_up : Coordinate l.y yw
        the_up = subst (Coordinate l.y) (sym (one_word r3 yw h.up r4 h.end y the_y).0) h.y

        pub the_tail : Tail l.layer r4
        the_tail = subst (Tail l.layer) (sym (one_word r3 yw h.up r4 h.end y the_y).1) h.layer

pub coordinate_within : (half : ℤ) (text : List ℕ) → Coordinate half text → IsWithin (2 ^ 33) half
coordinate_within half text (pos n, e, s, d) = (omega (arith, ints, e, s), omega (arith, ints, e, s))
coordinate_within half text (negsuc n, e, s, d) = (omega (arith, ints, e, s), omega (arith, ints, e, s))
