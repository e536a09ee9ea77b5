-- The strips of layer after layer.
use Rattle.std.proofs.Common.{ℕ, ◌≡◌, ◌≢◌, ◌+◌, ◌-◌, ◌<◌, ◌≤◌, List, [], ◌++◌, inl, inr, sym, ap, ◌∙◌, subst, arith}
use Rattle.std.proofs.Common.{length, get_or}
use Rattle.std.specs.Prelude.{AllPairs}
use Rattle.std.proofs.lemmas.Bool.{cases_lt}
use Rattle.std.proofs.lemmas.List.{get_or_append_left, get_or-append-add, length-append}
use Rattle.std.proofs.lemmas.List.Elements.{All-append, All-weaker, Contains-append_left, Contains-append_right}
use Rattle.lam_geom.specs.declared.layer.Layer.{Layer}
use Rattle.lam_geom.specs.declared.layer.Layer.TheVariants.{ND, NP, NC, NM, NI, NB, NG}
use Rattle.lam_geom.specs.declared.rect.Rect.{Rect}
use Rattle.lam_geom.specs.Squares.{rank}
use Rattle.lam_geom.proofs.SquareOrder.{of_ranks}
use Rattle.layer_strips.specs.Strips.{IsStrip, AreStrips}
use Rattle.layer_strips.specs.Layers.{AddsLayer, AreUpTo}

pub rank_below : (l : Layer) → rank l < 7
rank_below NM = omega arith
rank_below NP = omega arith
rank_below ND = omega arith
rank_below NC = omega arith
rank_below NI = omega arith
rank_below NB = omega arith
rank_below NG = omega arith

-- two lists of which no element of one is related to none of the other
pairs_append : {X : Type 0} (R : X → X → Type 0) (xs ys : List X) → AllPairs R xs → AllPairs R ys
    → ((i j : ℕ) (d : X) → i < length xs → j < length ys → R (get_or xs i d) (get_or ys j d)) → AllPairs R (xs ++ ys)
pairs_append {X} R xs ys h k m i j d l n =
    let len = length-append xs ys in
    elim (cases_lt j (length xs)) [
      | inl a ↦
          subst (λ u. R u (get_or (xs ++ ys) j d)) (sym (get_or_append_left xs ys d i (omega arith)))
          (subst (R (get_or xs i d)) (sym (get_or_append_left xs ys d j a)) (h i j d l a))
      | inr a ↦
          let q = j - length xs in
          let e : length xs + q ≡ j = omega arith in
          let g : get_or (xs ++ ys) j d ≡ get_or ys q d =
          ap (λ z. get_or (xs ++ ys) z d) (sym e) ∙ get_or-append-add xs ys q d in
          elim (cases_lt i (length xs)) [
            | inl b ↦
                subst (λ u. R u (get_or (xs ++ ys) j d)) (sym (get_or_append_left xs ys d i b))
                (subst (R (get_or xs i d)) (sym g) (m i q d b (omega arith)))
            | inr b ↦
                let p = i - length xs in
                let f : length xs + p ≡ i = omega arith in
                let o : get_or (xs ++ ys) i d ≡ get_or ys p d =
                ap (λ z. get_or (xs ++ ys) z d) (sym f) ∙ get_or-append-add xs ys p d in
                subst (λ u. R u (get_or (xs ++ ys) j d)) (sym o)
                (subst (R (get_or ys p d)) (sym g) (k p q d (omega arith) (omega arith)))
          ]
    ]

module _ (shapes : List Rect) where
  pub up_none : AreUpTo shapes 0 []
  up_none = record {
    each = λ k d l. absurd (omega arith);
    all = λ r h l. absurd (omega arith);
    once = λ i j d l m. absurd (omega arith);
  }

  pub up_more : (n : ℕ) (l : Layer) (old new : List Rect) → rank l ≡ n → AddsLayer shapes l old new
      → AreUpTo shapes n old
      → AreUpTo shapes (n + 1) new
  up_more n l old new e a h =
      let b = a.added in
      let own = a.are in
      let P = λ (r : Rect). IsStrip shapes r × (rank r.layer < n + 1) in
      subst (AreUpTo shapes (n + 1)) (sym a.is) (record {
        each = All-append P old b
            (All-weaker (λ r. IsStrip shapes r × (rank r.layer < n)) P
            (λ r k. (k.0, (let m = k.1 in omega arith))) old h.each)
            (All-weaker (λ r. IsStrip shapes r × (r.layer ≡ l)) P
            (λ r k. (k.0, (let m : rank r.layer ≡ rank l = ap rank k.1 in omega arith))) b own.each);
        all = λ r k m. elim (cases_lt (rank r.layer) n) [
          | inl o ↦ Contains-append_left old b r (h.all r k o)
          | inr o ↦ Contains-append_right old b r (own.all r k (of_ranks r.layer l (omega arith)))
        ];
        once = pairs_append (λ r q. r ≢ q) old b h.once own.once (λ i j d k m f.
            let u = (h.each i d k).1 in
            let v : rank (get_or b j d).layer ≡ rank l = ap rank (own.each j d m).1 in
            let w : rank (get_or old i d).layer ≡ rank (get_or b j d).layer = ap (λ r. rank r.layer) f in
            omega arith);
      })

  pub up_all : (n : ℕ) (strips : List Rect) → 7 ≤ n → AreUpTo shapes n strips → AreStrips shapes strips
  up_all n strips l h = record {
    each = All-weaker (λ r. IsStrip shapes r × (rank r.layer < n)) (IsStrip shapes) (λ r k. k.0) strips h.each;
    all = λ r k. h.all r k (let m = rank_below r.layer in omega arith);
    once = h.once;
  }
