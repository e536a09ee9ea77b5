-- What a mask with glued pieces covers, conducts and joins, by what the mask does.
use Rattle.std.proofs.Common.{ℕ, zero, suc, ◌≡◌, ◌⊎◌, inl, inr, refl, sym, ◌∙◌, subst, arith, List, [], ◌∷◌, ◌++◌}
use Rattle.std.proofs.Common.{Contains, ap, subst₂, get_or}
use Rattle.std.specs.Prelude.{ℤ, ◌≢◌, ◌<◌, All, AllPairs}
use Rattle.std.proofs.lemmas.Bool.{cases_order}
use Rattle.std.proofs.lemmas.List.{get_or_default}
use Rattle.std.proofs.lemmas.List.Elements.{All-contains}
use Rattle.mp_base.proofs.Contents.{contains_head, contains_behind, nothing_in}
use Rattle.lam_geom.specs.declared.layer.Layer.{Layer}
use Rattle.lam_geom.specs.declared.layer.Layer.TheVariants.{ND, NP, NC, NM, NI, NB, NG}
use Rattle.lam_geom.specs.declared.rect.Rect.{Rect}
use Rattle.lam_geom.specs.Chains.{Chain}
use Rattle.lam_geom.specs.Squares.{Square, Covers, covered, Adjoin, ShareEdge}
use Rattle.lam_geom.proofs.Covered.{covered_by}
use Rattle.switch_net.specs.Conductors.{IsChannel, ConductsOn, Conducts, Contact, Joined, IsChannelSquare}
use Rattle.switch_net.specs.Conductors.Joined.{beside, contact}
use Rattle.metal_pieces.specs.Pieces.{IsOf, AreNear, AreFar, all_of}
use Rattle.metal_pieces.proofs.Covering.{covered_append, append_covered, covered_all, all_covered}
use Rattle.mask_gluing.specs.Gluing.{IsGlued, AreGlued}

pub near_flip : (s t : Square) → AreNear s t → AreNear t s
near_flip s t h = (
  sym h.0,
  elim h.1 [
    | inl e ↦ inl (sym e.0, sym e.1)
    | inr j ↦ inr (elim j [
      | inl a ↦ inl (sym a.0, elim a.1 [ inl e ↦ inr e | inr e ↦ inl e ])
      | inr a ↦ inr (sym a.0, elim a.1 [ inl e ↦ inr e | inr e ↦ inl e ])
    ])
  ],
)

pub near_self : (s : Square) → AreNear s s
near_self s = (refl, inl (refl, refl))

-- two members of a list whose members are related in pairs
pair_of : {A : Type 0} (R : A → A → Type 0) (xs : List A) → AllPairs R xs → (x y : A) → Contains xs x → Contains xs y
    → (x ≡ y) ⊎ R x y ⊎ R y x
pair_of R xs a x y (i, li, ei) (j, lj, ej) =
    let gy : get_or xs j x ≡ y = get_or_default xs j x y lj ∙ ej in
    elim (cases_order i j) [
      | inl e ↦ inl (sym ei ∙ ap (λ k. get_or xs k x) e ∙ gy)
      | inr (inl l) ↦ inr (inl (subst₂ R ei gy (a i j x l lj)))
      | inr (inr l) ↦ inr (inr (subst₂ R gy ei (a j i x l li)))
    ]

module _ (rects : List Rect) (pieces : List (List Rect)) (g : AreGlued rects pieces) where
  abbrev pub Old : Layer → ℤ → ℤ → Type 0
  Old = covered rects

  abbrev pub New : Layer → ℤ → ℤ → Type 0
  New = covered (rects ++ all_of pieces)

  pub piece_is : (p : List Rect) → Contains pieces p → IsGlued rects p
  piece_is p c = All-contains (IsGlued rects) pieces p g.each c

  -- two pieces of which two squares are near are one
  pub one_piece : (p q : List Rect) → Contains pieces p → Contains pieces q → (s t : Square) → IsOf p s → IsOf q t
      → AreNear s t → p ≡ q
  one_piece p q cp cq s t hs ht n = elim (pair_of AreFar pieces g.apart p q cp cq) [
    | inl e ↦ e
    | inr (inl far) ↦ absurd (far s t hs ht n)
    | inr (inr far) ↦ absurd (far t s ht hs (near_flip s t n))
  ]

  -- squares of pieces are metal
  pub metal_of : (p : List Rect) → Contains pieces p → (l : Layer) (x y : ℤ) → covered p l x y → l ≡ NM
  metal_of p c l x y h = (piece_is p c).metal (record { layer = l; x = x; y = y }) h

  -- what is covered was covered, or is of a piece
  pub new_from : (l : Layer) (x y : ℤ) → New l x y → Old l x y ⊎ ((p : List Rect) × Contains pieces p × covered p l x y)
  new_from l x y h = elim (covered_append rects (all_of pieces) l x y h)
      [ inl a ↦ inl a | inr a ↦ inr (covered_all pieces l x y a) ]

  pub old_stays : (l : Layer) (x y : ℤ) → Old l x y → New l x y
  old_stays l x y h = append_covered rects (all_of pieces) l x y (inl h)

  pub piece_stays : (p : List Rect) → Contains pieces p → (l : Layer) (x y : ℤ) → covered p l x y → New l x y
  piece_stays p c l x y h = append_covered rects (all_of pieces) l x y (inr (all_covered pieces l x y p c h))

  -- on all layers but metal nothing changes
  pub off_metal : (l : Layer) (x y : ℤ) → l ≢ NM → New l x y → Old l x y
  off_metal l x y n h = elim (new_from l x y h)
      [ inl a ↦ a | inr a ↦ absurd (n (metal_of a.0 a.1 l x y a.2)) ]

  pub channel_stays : (x y : ℤ) → IsChannel Old x y → IsChannel New x y
  channel_stays x y h = record {
    gate = old_stays NP x y h.gate;
    diffusion = old_stays ND x y h.diffusion;
    unburied = λ b. h.unburied (off_metal NB x y (λ e. cc) b);
  }

  pub channel_was : (x y : ℤ) → IsChannel New x y → IsChannel Old x y
  channel_was x y h = record {
    gate = off_metal NP x y (λ e. cc) h.gate;
    diffusion = off_metal ND x y (λ e. cc) h.diffusion;
    unburied = λ b. h.unburied (old_stays NB x y b);
  }

  pub conducts_stays : (l : Layer) (x y : ℤ) → ConductsOn Old l x y → ConductsOn New l x y
  conducts_stays NM x y h = old_stays NM x y h
  conducts_stays NP x y h = old_stays NP x y h
  conducts_stays ND x y h = (old_stays ND x y h.0, λ k. h.1 (channel_was x y k))
  conducts_stays NC x y h = h
  conducts_stays NI x y h = h
  conducts_stays NB x y h = h
  conducts_stays NG x y h = h

  -- a conductor was one, or is of a piece
  pub conducts_from : (l : Layer) (x y : ℤ) → ConductsOn New l x y
      → ConductsOn Old l x y ⊎ ((p : List Rect) × Contains pieces p × covered p l x y)
  conducts_from NM x y h = new_from NM x y h
  conducts_from NP x y h = inl (off_metal NP x y (λ e. cc) h)
  conducts_from ND x y h = inl (off_metal ND x y (λ e. cc) h.0, λ k. h.1 (channel_stays x y k))
  conducts_from NC x y h = absurd h
  conducts_from NI x y h = absurd h
  conducts_from NB x y h = absurd h
  conducts_from NG x y h = absurd h

  pub piece_conducts : (p : List Rect) → Contains pieces p → (s : Square) → IsOf p s → Conducts New s
  piece_conducts p c s h =
      subst (λ l. ConductsOn New l s.x s.y) (sym (metal_of p c s.layer s.x s.y h))
      (subst (λ l. New l s.x s.y) (metal_of p c s.layer s.x s.y h) (piece_stays p c s.layer s.x s.y h))

  pub join_stays : (s t : Square) → Joined Old s t → Joined New s t
  join_stays s t (beside j) = beside (record {
    from = conducts_stays s.layer s.x s.y j.from;
    to = conducts_stays t.layer t.x t.y j.to;
    same = j.same;
    beside = j.beside;
  })
  join_stays s t (contact j) = contact (record {
    from = conducts_stays s.layer s.x s.y j.from;
    to = conducts_stays t.layer t.x t.y j.to;
    x = j.x;
    y = j.y;
    by = elim j.by [ inl a ↦ inl (old_stays NC s.x s.y a) | inr b ↦ inr (old_stays NB s.x s.y b.0, b.1, b.2) ];
  })

  pub channel_square_stays : (s : Square) → IsChannelSquare Old s → IsChannelSquare New s
  channel_square_stays s h = (h.0, channel_stays s.x s.y h.1)

  pub channel_square_was : (s : Square) → IsChannelSquare New s → IsChannelSquare Old s
  channel_square_was s h = (h.0, channel_was s.x s.y h.1)
