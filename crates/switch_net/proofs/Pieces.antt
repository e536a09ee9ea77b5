-- Where squares are cut into rectangles, they are joined by a chain exactly where their rectangles are linked by one.
use Rattle.std.proofs.Common.{◌≡◌, inl, inr, refl, sym, ◌∙◌, subst, List}
use Rattle.std.specs.Prelude.{ℤ, Contains}
use Rattle.lam_geom.specs.declared.layer.Layer.{Layer}
use Rattle.lam_geom.specs.declared.rect.Rect.{Rect}
use Rattle.lam_geom.specs.Chains.{Chain}
use Rattle.lam_geom.specs.Chains.Chain.{here}
use Rattle.lam_geom.specs.Squares.{Square, Adjoin, IsIn, ShareEdge, RectanglesAreJoined, covered}
use Rattle.switch_net.specs.Conductors.{Conducts, Joined, IsChannelSquare}
use Rattle.switch_net.specs.Conductors.Joined.{beside, contact}
use Rattle.switch_net.specs.Cutting.{AreCut, Touching, Linked, ConductorsFollowPieces, ChannelsFollowPieces}
use Rattle.switch_net.specs.Cutting.Linked.{touch, meet}
use Rattle.lam_geom.proofs.Chains.{one_link, map_chain}
use Rattle.lam_geom.proofs.SquareOrder.{same_square}
use Rattle.switch_net.proofs.Owners.{Follows, owners_from_things, things_from_owners}

-- one of the rectangles has the square
record Owns (pieces : List Rect) (r : Rect) (s : Square) : Type 0 where
  pub in_ : Contains pieces r
  pub is : IsIn r s

-- a square of each of two rectangles, joined
record Bridge (Is : Square → Type 0) (pieces : List Rect) (r q : Rect) : Type 0 where
  pub s : Square
  pub t : Square
  pub one : Owns pieces r s
  pub other : Owns pieces q t
  pub chain : Chain (Adjoin Is) s t

module _ (joined : RectanglesAreJoined) (Is : Square → Type 0) (pieces : List Rect) (cut : AreCut Is pieces) where
  inside : (r : Rect) (s t : Square) → Owns pieces r s → Owns pieces r t → Chain (Adjoin Is) s t
  inside r s t h k =
      map_chain
      (λ a b j.
      record { from = cut.within r a h.in_ j.from; to = cut.within r b h.in_ j.to; same = j.same; beside = j.beside })
      (joined r s t h.is k.is)

  step : (s t : Square) (r : Rect) → Adjoin Is s t → Owns pieces r s
      → (q : Rect) × Owns pieces q t × Touching pieces r q
  step s t r j h =
      let w = cut.whole t j.to in (
        w.0,
        record { in_ = w.1; is = w.2 },
        record {
          one = h.in_;
          other = w.1;
          same = h.is.same ∙ j.same ∙ sym w.2.same;
          touch = record { s = s; t = t; in_first = h.is; in_second = w.2; meet = inr j.beside };
        },
      )

  shared : (r q : Rect) (s : Square) → Owns pieces r s → Owns pieces q s → Touching pieces r q
  shared r q s h k = record {
    one = h.in_;
    other = k.in_;
    same = h.is.same ∙ sym k.is.same;
    touch = record { s = s; t = s; in_first = h.is; in_second = k.is; meet = inl (refl, refl) };
  }

  bridge : (r q : Rect) → Touching pieces r q → Bridge Is pieces r q
  bridge r q w =
      let s : Square = w.touch.s in
      let t : Square = w.touch.t in
      let same : s.layer ≡ t.layer = sym w.touch.in_first.same ∙ w.same ∙ w.touch.in_second.same in
      let at_one : (s.x ≡ t.x) × (s.y ≡ t.y)
      → Chain (Adjoin Is) s t = λ e. subst (Chain (Adjoin Is) s) (same_square s t same e.0 e.1) here in
      let across : ShareEdge s t → Chain (Adjoin Is) s t = λ e.
      one_link
      (record {
        from = cut.within r s w.one w.touch.in_first;
        to = cut.within q t w.other w.touch.in_second;
        same = same;
        beside = e;
      }) in
      record {
        s = s;
        t = t;
        one = record { in_ = w.one; is = w.touch.in_first };
        other = record { in_ = w.other; is = w.touch.in_second };
        chain = elim w.touch.meet [ inl e ↦ at_one e | inr e ↦ across e ];
      }

  touching_follow : Follows (Adjoin Is) (Touching pieces) (Owns pieces)
  touching_follow = record {
    join = λ s t r j h. let w = step s t r j h in (w.0, w.1, one_link w.2);
    one = inside;
    shared = λ r q s h k. one_link (shared r q s h k);
    bridge = λ r q w. let b = bridge r q w in (b.s, b.t, b.one, b.other, b.chain);
  }

module _ (joined : RectanglesAreJoined) (covers : Layer → ℤ → ℤ → Type 0) (pieces : List Rect)
    (cut : AreCut (Conducts covers) pieces) where
  linked_step : (s t : Square) (r : Rect) → Joined covers s t → Owns pieces r s
      → (q : Rect) × Owns pieces q t × Chain (Linked covers pieces) r q
  linked_step s t r (beside j) h = let w = step joined (Conducts covers) pieces cut s t r j h in
      (w.0, w.1, one_link (touch w.2))
  linked_step s t r (contact j) h =
      let w = cut.whole t j.to in (
        w.0,
        record { in_ = w.1; is = w.2 },
        one_link (meet (record { one = h.in_; other = w.1; s = s; t = t; in_one = h.is; in_other = w.2; contact = j })),
      )

  linked_bridge : (r q : Rect) → Linked covers pieces r q
      → (s : Square) × (t : Square) × Owns pieces r s × Owns pieces q t × Chain (Joined covers) s t
  linked_bridge r q (touch w) =
      let b = bridge joined (Conducts covers) pieces cut r q w in
      (b.s, b.t, b.one, b.other, map_chain (λ s t j. beside j) b.chain)
  linked_bridge r q (meet w) = (
    w.s,
    w.t,
    record { in_ = w.one; is = w.in_one },
    record { in_ = w.other; is = w.in_other },
    one_link
        (contact w.contact),
  )

  linked_follow : Follows (Joined covers) (Linked covers pieces) (Owns pieces)
  linked_follow = record {
    join = linked_step;
    one = λ r s t h k. map_chain (λ a b j. beside j) (inside joined (Conducts covers) pieces cut r s t h k);
    shared = λ r q s h k. one_link (touch (shared joined (Conducts covers) pieces cut r q s h k));
    bridge = linked_bridge;
  }

pub conductors_follow : RectanglesAreJoined → ConductorsFollowPieces
conductors_follow joined shapes pieces cut r q s t in_r in_q at_s at_t =
    let f = linked_follow joined (covered shapes) pieces cut in
    let h : Owns pieces r s = record { in_ = in_r; is = at_s } in
    let k : Owns pieces q t = record { in_ = in_q; is = at_t } in
    (owners_from_things f h k, things_from_owners f h k)

pub channels_follow : RectanglesAreJoined → ChannelsFollowPieces
channels_follow joined shapes pieces cut r q s t in_r in_q at_s at_t =
    let f = touching_follow joined (IsChannelSquare (covered shapes)) pieces cut in
    let h : Owns pieces r s = record { in_ = in_r; is = at_s } in
    let k : Owns pieces q t = record { in_ = in_q; is = at_t } in
    (owners_from_things f h k, things_from_owners f h k)
