-- Links that are added.
use Rattle.std.proofs.Common.{◌≡◌, ◌≢◌, ℕ, ◌+◌, ◌⊎◌, inl, inr, List, [], ◌∷◌, ◌++◌, length, get_or, refl, sym}
use Rattle.std.proofs.Common.{◌∙◌, ap, subst, subst₂, arith}
use mathlib.Core.Bool.{beq}
use Rattle.std.specs.Prelude.{◌↔◌, Bool, true, false, Contains, Option, Some, None, pos, slice_get, if◌then◌else◌}
use Rattle.std.proofs.lemmas.Bool.{cases_eq}
use Rattle.std.proofs.lemmas.List.Elements.{Contains-append_left, Contains-append_cases, Contains-push}
use Rattle.std.proofs.lemmas.Option.{same_Some}
use Rattle.mp_base.proofs.Contents.{only_one}
use Rattle.lam_geom.specs.declared.layer.Layer.{Layer}
use Rattle.lam_geom.specs.declared.layer.Layer.TheVariants.{ND, NP, NM}
use Rattle.mask_tiles.specs.declared.tile.Tile.{Tile}
use Rattle.union_find.specs.declared.pair.Pair.{Pair}
use Rattle.mask_pieces.specs.declared.cut.Cut.{Cut}
use Rattle.mask_pieces.specs.declared.masks.Masks.{Masks}
use Rattle.mask_pieces.specs.declared.piece.Piece.{Piece}
use Rattle.mask_pieces.specs.Pieces.{conducts_at}
use Rattle.piece_classes.specs.Linking.{Gains, IsTouchLink, joins, AreTwo, AreBoth, column_of, IsContactLink}
use Rattle.piece_classes.specs.Linking.{IsTouchOf, IsContactOf, AreAllLinks}
use Rattle.piece_classes.specs.Linking.AreTwo.{upper, outer, lower}

-- the tile that stands where a list has none
abbrev pub no_tile : Tile
no_tile = record { x0 = pos 0; y0 = pos 0; x1 = pos 0; y1 = pos 0; colour = 0 }

pub beq_false : (a b : Bool) → beq a b ≡ false → a ≢ b
beq_false true true h e = cc
beq_false false false h e = cc
beq_false true false h e = cc
beq_false false true h e = cc

pub gains_one : (old : List Pair) (l : Pair) → Gains old (old ++ l ∷ []) (λ x. l ≡ x)
gains_one old l = record {
  each = λ x. (
    λ c. elim (Contains-append_cases old (l ∷ []) x c) [ inl u ↦ inl u | inr u ↦ inr (only_one l x u) ],
    λ c. elim c [
      | inl u ↦ Contains-append_left old (l ∷ []) x u
      | inr e ↦ subst (Contains (old ++ l ∷ [])) e (Contains-push old l)
    ],
  );
}

pub gains_then : (old mid new : List Pair) (P Q R : Pair → Type 0) → Gains old mid P → Gains mid new Q
    → ((x : Pair) → R x ↔ (P x ⊎ Q x)) → Gains old new R
gains_then old mid new P Q R g h f = record {
  each = λ x. (
    λ c. elim ((h.each x).0 c) [
      | inl u ↦ elim ((g.each x).0 u) [ inl v ↦ inl v | inr v ↦ inr ((f x).1 (inl v)) ]
      | inr u ↦ inr ((f x).1 (inr u))
    ],
    λ c. elim c [
      | inl u ↦ (h.each x).1 (inl ((g.each x).1 (inl u)))
      | inr u ↦ elim ((f x).0 u) [ inl v ↦ (h.each x).1 (inl ((g.each x).1 (inr v))) | inr v ↦ (h.each x).1 (inr v) ]
    ],
  );
}

pub gains_none : (old : List Pair) (P : Pair → Type 0) → ((x : Pair) → P x → ⊥) → Gains old old P
gains_none old P n = record { each = λ x. (λ c. inl c, λ c. elim c [ inl u ↦ u | inr u ↦ absurd (n x u) ]) }

-- ---- tiles that touch

touch_wider : (touching : List Pair) (numbers : List ℕ) (pieces : List Piece) (place : ℕ) (x : Pair)
    → IsTouchLink touching numbers pieces place x → IsTouchLink touching numbers pieces (place + 1) x
touch_wider touching numbers pieces place x t =
    let b = t.before in
    record {
      at = t.at;
      before = omega arith;
      pair = t.pair;
      is = t.is;
      first = t.first;
      second = t.second;
      alike = t.alike;
    }

touch_narrower : (touching : List Pair) (numbers : List ℕ) (pieces : List Piece) (place : ℕ) (x : Pair)
    (t : IsTouchLink touching numbers pieces (place + 1) x) → t.at ≢ place
    → IsTouchLink touching numbers pieces place x
touch_narrower touching numbers pieces place x t n =
    let b = t.before in
    record {
      at = t.at;
      before = omega arith;
      pair = t.pair;
      is = t.is;
      first = t.first;
      second = t.second;
      alike = t.alike;
    }

module _ (touching : List Pair) (numbers : List ℕ) (pieces : List Piece) (place : ℕ) (p : Pair)
    (at : slice_get touching place ≡ Some p) (l : Pair)
    (first : l.a ≡ get_or numbers p.a 0) (second : l.b ≡ get_or numbers p.b 0) where
  same_link : (x : Pair) (t : IsTouchLink touching numbers pieces (place + 1) x) → t.at ≡ place → l ≡ x
  same_link x t e =
      let f : p ≡ t.pair = same_Some p t.pair (sym at ∙ ap (slice_get touching) (sym e) ∙ t.is) in
      let a : l.a ≡ x.a = first ∙ ap (λ (q : Pair). get_or numbers q.a 0) f ∙ sym t.first in
      let b : l.b ≡ x.b = second ∙ ap (λ (q : Pair). get_or numbers q.b 0) f ∙ sym t.second in
      λ i. record { a = a i; b = b i }

  pub touch_added : conducts_at pieces l.a ≡ conducts_at pieces l.b → (x : Pair)
      → IsTouchLink touching numbers pieces (place + 1) x ↔ (IsTouchLink touching numbers pieces place x ⊎ (l ≡ x))
  touch_added alike x = (
    λ t. elim (cases_eq t.at place) [
      | inl e ↦ inr (same_link x t e)
      | inr n ↦ inl (touch_narrower touching numbers pieces place x t n)
    ],
    λ c. elim c [
      | inl t ↦ touch_wider touching numbers pieces place x t
      | inr e ↦
          subst (IsTouchLink touching numbers pieces (place + 1)) e
          (record {
            at = place;
            before = omega arith;
            pair = p;
            is = at;
            first = first;
            second = second;
            alike = alike;
          })
    ],
  )

  pub touch_left : conducts_at pieces l.a ≢ conducts_at pieces l.b → (old new : List Pair)
      → Gains old new (IsTouchLink touching numbers pieces place)
      → Gains old new (IsTouchLink touching numbers pieces (place + 1))
  touch_left unlike old new g = record {
    each = λ x. (
      λ c. elim ((g.each x).0 c) [ inl u ↦ inl u | inr t ↦ inr (touch_wider touching numbers pieces place x t) ],
      λ c. elim c [
        | inl u ↦ (g.each x).1 (inl u)
        | inr t ↦ elim (cases_eq t.at place) [
          | inl e ↦
              absurd (unlike
              (subst (λ (y : Pair). conducts_at pieces y.a ≡ conducts_at pieces y.b) (sym (same_link x t e)) t.alike))
          | inr n ↦ (g.each x).1 (inr (touch_narrower touching numbers pieces place x t n))
        ]
      ],
    );
  }

-- ---- contacts

both_then : (j : Bool) (o : Option ℕ) (n : ℕ) → (if j then o else None) ≡ Some n → (j ≡ true) × (o ≡ Some n)
both_then true o n e = (refl, e)
both_then false o n e = absurd (cc)

then_both : (j : Bool) (o : Option ℕ) (n : ℕ) → j ≡ true → o ≡ Some n → (if j then o else None) ≡ Some n
then_both j o n e f = subst (λ b. (if b then o else None) ≡ Some n) (sym e) f

module _ (contacts : List Tile) (metal polysilicon diffusion : List (Option ℕ)) (place : ℕ) (c : Tile)
    (at : slice_get contacts place ≡ Some c)
    (m p d : Option ℕ) (at_m : slice_get metal place ≡ Some m) (at_p : slice_get polysilicon place ≡ Some p)
    (at_d : slice_get diffusion place ≡ Some d) where
  abbrev here_of : Layer → Option ℕ → Option ℕ
  here_of l o = if joins c.colour l then o else None

  abbrev Link : ℕ → Pair → Type 0
  Link n x = IsContactLink contacts metal polysilicon diffusion n x

  contact_wider : (x : Pair) → Link place x → Link (place + 1) x
  contact_wider x t =
      let b = t.before in
      record {
        at = t.at;
        before = omega arith;
        contact = t.contact;
        is = t.is;
        one = t.one;
        other = t.other;
        two = t.two;
        joins_one = t.joins_one;
        joins_other = t.joins_other;
        first = t.first;
        second = t.second;
      }

  contact_narrower : (x : Pair) (t : Link (place + 1) x) → t.at ≢ place → Link place x
  contact_narrower x t n =
      let b = t.before in
      record {
        at = t.at;
        before = omega arith;
        contact = t.contact;
        is = t.is;
        one = t.one;
        other = t.other;
        two = t.two;
        joins_one = t.joins_one;
        joins_other = t.joins_other;
        first = t.first;
        second = t.second;
      }

  made : (one other : Layer) → AreTwo one other → (o q : Option ℕ)
      → slice_get (column_of metal polysilicon diffusion one) place ≡ Some o
      → slice_get (column_of metal polysilicon diffusion other) place ≡ Some q → (x : Pair)
      → AreBoth (here_of one o) (here_of other q) x → Link (place + 1) x
  made one other two o q eo eq x b =
      let u = both_then (joins c.colour one) o x.a b.0 in
      let v = both_then (joins c.colour other) q x.b b.1 in
      record {
        at = place;
        before = omega arith;
        contact = c;
        is = at;
        one = one;
        other = other;
        two = two;
        joins_one = u.0;
        joins_other = v.0;
        first = eo ∙ ap (λ z. Some z) u.1;
        second = eq ∙ ap (λ z. Some z) v.1;
      }

  both : (one other : Layer) (o q : Option ℕ) (x : Pair) → joins c.colour one ≡ true → joins c.colour other ≡ true
      → (column : Layer → List (Option ℕ)) → slice_get (column one) place ≡ Some o
      → slice_get (column other) place ≡ Some q
      → slice_get (column one) place ≡ Some (Some x.a) → slice_get (column other) place ≡ Some (Some x.b)
      → AreBoth (here_of one o) (here_of other q) x
  both one other o q x j k column eo eq f g = (
    then_both (joins c.colour one) o x.a j (same_Some o (Some x.a) (sym eo ∙ f)),
    then_both (joins c.colour other) q x.b k (same_Some q (Some x.b) (sym eq ∙ g)),
  )

  abbrev Three : Pair → Type 0
  Three x = AreBoth (here_of NM m) (here_of NP p) x ⊎ AreBoth (here_of NM m) (here_of ND d) x
      ⊎ AreBoth (here_of NP p) (here_of ND d) x

  found : (x : Pair) {one other : Layer} → AreTwo one other → joins c.colour one ≡ true → joins c.colour other ≡ true
      → slice_get (column_of metal polysilicon diffusion one) place ≡ Some (Some x.a)
      → slice_get (column_of metal polysilicon diffusion other) place ≡ Some (Some x.b) → Three x
  found x upper j k f g = inl (both NM NP m p x j k (column_of metal polysilicon diffusion) at_m at_p f g)
  found x outer j k f g = inr (inl (both NM ND m d x j k (column_of metal polysilicon diffusion) at_m at_d f g))
  found x lower j k f g = inr (inr (both NP ND p d x j k (column_of metal polysilicon diffusion) at_p at_d f g))

  contact_there : (x : Pair) (t : Link (place + 1) x) → t.at ≡ place → Three x
  contact_there x t e =
      let f : t.contact ≡ c = same_Some t.contact c (sym t.is ∙ ap (slice_get contacts) e ∙ at) in
      found x t.two (ap (λ (u : Tile). joins u.colour t.one) (sym f) ∙ t.joins_one)
      (ap (λ (u : Tile). joins u.colour t.other) (sym f) ∙ t.joins_other)
      (ap (slice_get (column_of metal polysilicon diffusion t.one)) (sym e) ∙ t.first)
      (ap (slice_get (column_of metal polysilicon diffusion t.other)) (sym e) ∙ t.second)

  contact_added : (x : Pair) → Link (place + 1) x ↔ (Link place x ⊎ Three x)
  contact_added x = (
    λ t. elim (cases_eq t.at place) [ inl e ↦ inr (contact_there x t e) | inr n ↦ inl (contact_narrower x t n) ],
    λ w. elim w [
      | inl t ↦ contact_wider x t
      | inr (inl b) ↦ made NM NP upper m p at_m at_p x b
      | inr (inr (inl b)) ↦ made NM ND outer m d at_m at_d x b
      | inr (inr (inr b)) ↦ made NP ND lower p d at_p at_d x b
    ],
  )

  pub contacts_more : (old a b e new : List Pair) → Gains old a (Link place)
      → Gains a b (AreBoth (here_of NM m) (here_of NP p)) → Gains b e (AreBoth (here_of NM m) (here_of ND d))
      → Gains e new (AreBoth (here_of NP p) (here_of ND d)) → Gains old new (Link (place + 1))
  contacts_more old a b e new g0 g1 g2 g3 =
      let h1 : Gains old b (λ x. Link place x ⊎ AreBoth (here_of NM m) (here_of NP p) x) =
      gains_then old a b (Link place) (AreBoth (here_of NM m) (here_of NP p))
      (λ x. Link place x ⊎ AreBoth (here_of NM m) (here_of NP p) x) g0 g1 (λ x. (λ u. u, λ u. u)) in
      let h2 : Gains old e
      (λ x. (Link place x ⊎ AreBoth (here_of NM m) (here_of NP p) x) ⊎ AreBoth (here_of NM m) (here_of ND d) x) =
      gains_then old b e (λ x. Link place x ⊎ AreBoth (here_of NM m) (here_of NP p) x)
      (AreBoth (here_of NM m) (here_of ND d))
      (λ x. (Link place x ⊎ AreBoth (here_of NM m) (here_of NP p) x) ⊎ AreBoth (here_of NM m) (here_of ND d) x) h1 g2
      (λ x. (λ u. u, λ u. u)) in
      gains_then old e new
      (λ x. (Link place x ⊎ AreBoth (here_of NM m) (here_of NP p) x) ⊎ AreBoth (here_of NM m) (here_of ND d) x)
      (AreBoth (here_of NP p) (here_of ND d)) (Link (place + 1)) h2 g3
      (λ x. (
        λ t. elim ((contact_added x).0 t) [
          | inl u ↦ inl (inl (inl u))
          | inr (inl u) ↦ inl (inl (inr u))
          | inr (inr (inl u)) ↦ inl (inr u)
          | inr (inr (inr u)) ↦ inr u
        ],
        λ w. (contact_added x).1
            (elim w [
              | inl (inl (inl u)) ↦ inl u
              | inl (inl (inr u)) ↦ inr (inl u)
              | inl (inr u) ↦ inr (inr (inl u))
              | inr u ↦ inr (inr (inr u))
            ]),
      ))

-- ---- all links

pub touch_same : (old new : List Pair) (ts us : List Pair) (ns ms : List ℕ) (ps qs : List Piece) → ts ≡ us → ns ≡ ms
    → ps ≡ qs → Gains old new (IsTouchLink ts ns ps (length ts)) → Gains old new (IsTouchLink us ms qs (length us))
touch_same old new ts us ns ms ps qs et en ep g =
    subst (λ p. Gains old new (IsTouchLink us ms p (length us))) ep
    (subst₂ (λ t n. Gains old new (IsTouchLink t n ps (length t))) et en g)

pub contact_same : (old new : List Pair) (cs ds : List Tile) (m n p q d e : List (Option ℕ)) → cs ≡ ds → m ≡ n → p ≡ q
    → d ≡ e → Gains old new (IsContactLink cs m p d (length cs)) → Gains old new (IsContactLink ds n q e (length ds))
contact_same old new cs ds m n p q d e ec em ep ed g =
    subst₂ (λ x y. Gains old new (IsContactLink ds n x y (length ds))) ep ed
    (subst₂ (λ x y. Gains old new (IsContactLink x y p d (length x))) ec em g)

pub all_links : (masks : Masks) (cut : Cut) (start a b e new : List Pair) → start ≡ []
    → Gains start a (IsTouchOf masks.metal cut.metal cut.pieces)
    → Gains a b (IsTouchOf masks.polysilicon cut.polysilicon cut.pieces)
    → Gains b e (IsTouchOf masks.diffusion cut.diffusion cut.pieces)
    → Gains e new (IsContactOf masks.contacts cut) → AreAllLinks masks cut new
all_links masks cut start a b e new none g1 g2 g3 g4 = record { each = each }
  where
    empty : (l : Pair) → Contains start l → ⊥
    empty l c = let k = subst (λ xs. Contains xs l) none c in absurd (omega (arith, k.1))

    each : (l : Pair)
        → Contains new l
        ↔ (((IsTouchOf masks.metal cut.metal cut.pieces l ⊎ IsTouchOf masks.polysilicon cut.polysilicon cut.pieces l)
        ⊎ IsTouchOf masks.diffusion cut.diffusion cut.pieces l)
        ⊎ IsContactOf masks.contacts cut l)
    each l = (
      λ c. elim ((g4.each l).0 c) [
        | inr u ↦ inr u
        | inl v ↦ elim ((g3.each l).0 v) [
          | inr u ↦ inl (inr u)
          | inl w ↦ elim ((g2.each l).0 w) [
            | inr u ↦ inl (inl (inr u))
            | inl x ↦ elim ((g1.each l).0 x) [ inr u ↦ inl (inl (inl u)) | inl y ↦ absurd (empty l y) ]
          ]
        ]
      ],
      λ c. elim c [
        | inl (inl (inl u)) ↦ (g4.each l).1 (inl ((g3.each l).1 (inl ((g2.each l).1 (inl ((g1.each l).1 (inr u)))))))
        | inl (inl (inr u)) ↦ (g4.each l).1 (inl ((g3.each l).1 (inl ((g2.each l).1 (inr u)))))
        | inl (inr u) ↦ (g4.each l).1 (inl ((g3.each l).1 (inr u)))
        | inr u ↦ (g4.each l).1 (inr u)
      ],
    )
