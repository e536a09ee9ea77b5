-- The rectangles and motions of commands are determined.
use Rattle.std.proofs.Common.{◌≡◌, ◌⊎◌, inl, inr, refl, sym, ◌∙◌, ap, subst, arith, List, [], ◌∷◌, ◌++◌}
use Rattle.std.specs.Prelude.{ℤ, pos, negsuc, ◌*ℤ◌, ◌<ℤ◌, ◌≤ℤ◌}
use Rattle.std.proofs.lemmas.Int.{ints}
use Rattle.mp_base.proofs.Numbers.{cancel_integer_factor}
use Rattle.lam_geom.specs.declared.layer.Layer.{Layer}
use Rattle.lam_geom.specs.declared.place.Point.{Point}
use Rattle.lam_geom.specs.declared.rect.Rect.{Rect}
use Rattle.cif_form.specs.declared.command.Turn.{Turn}
use Rattle.cif_form.specs.declared.command.Turn.TheVariants.{Move, MirrorX, MirrorY, Rotate}
use Rattle.cif_form.specs.Place.{Scale, IsScaled, IsBox, IsAround, IsSegment, AreSegments, Motion}
use Rattle.cif_form.specs.Place.{AreMotions, IsMotion}
use Rattle.cif_form.specs.Place.Motion.{Shift}

-- ---- numbers

pub by_scale : (b z v : ℤ) → pos 0 <ℤ b → b *ℤ z ≡ b *ℤ v → z ≡ v
by_scale (pos b) z v h e = cancel_integer_factor b z v (omega (arith, ints)) e
by_scale (negsuc b) z v h e = absurd (omega (arith, ints))

pub one_scaled : (s : Scale) (w z v : ℤ) → IsScaled s w z → IsScaled s w v → z ≡ v
one_scaled s w z v h k = by_scale s.b z v h.0 (h.1 ∙ sym k.1)

-- ---- rectangles

pub same_rect : (l m : Layer) (a b c d e f g h : ℤ) → l ≡ m → a ≡ e → b ≡ f → c ≡ g → d ≡ h
    → (let r : Rect = record { layer = l; x0 = a; y0 = b; x1 = c; y1 = d } in
    let q : Rect = record { layer = m; x0 = e; y0 = f; x1 = g; y1 = h } in r ≡ q)
same_rect l m a b c d e f g h p x0 y0 x1 y1 = λ i. record { layer = p i; x0 = x0 i; y0 = y0 i; x1 = x1 i; y1 = y1 i }

pub one_around : (s : Scale) (l : Layer) (p o : Point) (a u : ℤ) (r q : Rect) → IsAround s l p o a u r
    → IsAround s l p o a u q → r ≡ q
one_around s l p o a u r q h k =
    same_rect _ _ _ _ _ _ _ _ _ _ (h.layer ∙ sym k.layer) (one_scaled s _ _ _ h.left k.left)
    (one_scaled s _ _ _ h.bottom k.bottom)
    (one_scaled s _ _ _ h.right k.right) (one_scaled s _ _ _ h.top k.top)

pub one_box : (s : Scale) (l : Layer) (a b : ℤ) (c d : Point) (r q : Rect) → IsBox s l a b c d r → IsBox s l a b c d q
    → r ≡ q
one_box s l a b c d r q (inl h) (inl k) = one_around s l c c a b r q h.2 k.2
one_box s l a b c d r q (inr h) (inr k) = one_around s l c c b a r q h.2 k.2
one_box s l a b c d r q (inl h) (inr k) = absurd (h.1 k.0)
one_box s l a b c d r q (inr h) (inl k) = absurd (k.1 h.0)

crossed : (l h m k : Point) → l ≡ k → h ≡ m → l.x ≤ℤ h.x → l.y ≤ℤ h.y → m.x ≤ℤ k.x → m.y ≤ℤ k.y → (l ≡ m) × (h ≡ k)
crossed l h m k p q c d e f =
    let a = ap (λ o. o.x) p in
    let b = ap (λ o. o.y) p in
    let g = ap (λ o. o.x) q in
    let i = ap (λ o. o.y) q in
    let x : l.x ≡ m.x = omega (arith, ints) in
    let y : l.y ≡ m.y = omega (arith, ints) in
    let v : h.x ≡ k.x = omega (arith, ints) in
    let w : h.y ≡ k.y = omega (arith, ints) in
    ((λ j. record { x = x j; y = y j }), (λ j. record { x = v j; y = w j }))

one_low : (p q l h m k : Point) → (l ≡ p) × (h ≡ q) ⊎ (l ≡ q) × (h ≡ p) → (m ≡ p) × (k ≡ q) ⊎ (m ≡ q) × (k ≡ p)
    → l.x ≤ℤ h.x → l.y ≤ℤ h.y → m.x ≤ℤ k.x → m.y ≤ℤ k.y → (l ≡ m) × (h ≡ k)
one_low p q l h m k (inl a) (inl b) c d e f = (a.0 ∙ sym b.0, a.1 ∙ sym b.1)
one_low p q l h m k (inr a) (inr b) c d e f = (a.0 ∙ sym b.0, a.1 ∙ sym b.1)
one_low p q l h m k (inl a) (inr b) c d e f = crossed l h m k (a.0 ∙ sym b.1) (a.1 ∙ sym b.0) c d e f
one_low p q l h m k (inr a) (inl b) c d e f = crossed l h m k (a.0 ∙ sym b.1) (a.1 ∙ sym b.0) c d e f

pub one_segment : (s : Scale) (l : Layer) (w : ℤ) (p q : Point) (r o : Rect) → IsSegment s l w p q r
    → IsSegment s l w p q o → r ≡ o
one_segment s l w p q r o h k =
    let e = one_low p q h.low h.high k.low k.high h.ends k.ends h.across h.upward k.across k.upward in
    one_around s l h.low h.high w w r o h.around
    (subst (λ a. IsAround s l a h.high w w o) (sym e.0) (subst (λ a. IsAround s l k.low a w w o) (sym e.1) k.around))

pub one_wire : (s : Scale) (l : Layer) (w : ℤ) (ps : List (Point × Point)) (rs qs : List Rect)
    → AreSegments s l w ps rs → AreSegments s l w ps qs → rs ≡ qs
one_wire s l w [] [] [] h k = refl
one_wire s l w (p ∷ ps) (r ∷ rs) (q ∷ qs) h k =
    λ i. one_segment s l w p.0 p.1 r q h.0 k.0 i ∷ one_wire s l w ps rs qs h.1 k.1 i
one_wire s l w [] (r ∷ rs) qs h k = absurd h
one_wire s l w [] [] (q ∷ qs) h k = absurd k
one_wire s l w (p ∷ ps) [] qs h k = absurd h
one_wire s l w (p ∷ ps) (r ∷ rs) [] h k = absurd k

-- ---- motions

pub one_motion : (s : Scale) (t : Turn) (ms ns : List Motion) → IsMotion s t ms → IsMotion s t ns → ms ≡ ns
one_motion s (Move p) ms ns (dx, dy, hx, hy, h) (ex, ey, kx, ky, k) =
    h ∙ (λ i. Shift (one_scaled s _ dx ex hx kx i) (one_scaled s _ dy ey hy ky i) ∷ []) ∙ sym k
one_motion s MirrorX ms ns h k = h ∙ sym k
one_motion s MirrorY ms ns h k = h ∙ sym k
one_motion s (Rotate p) ms ns (inl h) (inl k) = h.2 ∙ sym k.2
one_motion s (Rotate p) ms ns (inl h) (inr (inl k)) = absurd (omega (arith, ints, h.0, h.1, k.0, k.1))
one_motion s (Rotate p) ms ns (inl h) (inr (inr (inl k))) = absurd (omega (arith, ints, h.0, h.1, k.0, k.1))
one_motion s (Rotate p) ms ns (inl h) (inr (inr (inr k))) = absurd (omega (arith, ints, h.0, h.1, k.0, k.1))
one_motion s (Rotate p) ms ns (inr (inl h)) (inl k) = absurd (omega (arith, ints, h.0, h.1, k.0, k.1))
one_motion s (Rotate p) ms ns (inr (inl h)) (inr (inl k)) = h.2 ∙ sym k.2
one_motion s (Rotate p) ms ns (inr (inl h)) (inr (inr (inl k))) = absurd (omega (arith, ints, h.0, h.1, k.0, k.1))
one_motion s (Rotate p) ms ns (inr (inl h)) (inr (inr (inr k))) = absurd (omega (arith, ints, h.0, h.1, k.0, k.1))
one_motion s (Rotate p) ms ns (inr (inr (inl h))) (inl k) = absurd (omega (arith, ints, h.0, h.1, k.0, k.1))
one_motion s (Rotate p) ms ns (inr (inr (inl h))) (inr (inl k)) = absurd (omega (arith, ints, h.0, h.1, k.0, k.1))
one_motion s (Rotate p) ms ns (inr (inr (inl h))) (inr (inr (inl k))) = h.2 ∙ sym k.2
one_motion s (Rotate p) ms ns (inr (inr (inl h))) (inr (inr (inr k))) = absurd (omega (arith, ints, h.0, h.1, k.0, k.1))
one_motion s (Rotate p) ms ns (inr (inr (inr h))) (inl k) = absurd (omega (arith, ints, h.0, h.1, k.0, k.1))
one_motion s (Rotate p) ms ns (inr (inr (inr h))) (inr (inl k)) = absurd (omega (arith, ints, h.0, h.1, k.0, k.1))
one_motion s (Rotate p) ms ns (inr (inr (inr h))) (inr (inr (inl k))) = absurd (omega (arith, ints, h.0, h.1, k.0, k.1))
one_motion s (Rotate p) ms ns (inr (inr (inr h))) (inr (inr (inr k))) = h.2 ∙ sym k.2

pub one_motions : (s : Scale) (ts : List Turn) (ms ns : List Motion) → AreMotions s ts ms → AreMotions s ts ns → ms ≡ ns
one_motions s [] ms ns h k = h ∙ sym k
one_motions s (t ∷ ts) ms ns (a, b, h, hm, hr) (c, d, k, km, kr) =
    h ∙ (λ i. one_motion s t a c hm km i ++ one_motions s ts b d hr kr i) ∙ sym k
