-- Names that taps join have one number exactly where they have one root.
use Rattle.std.proofs.Common.{◌≡◌, inl, inr, ℕ, refl, sym, ◌∙◌, ap, subst}
use Rattle.std.specs.Prelude.{◌≢◌}
use Rattle.lam_geom.specs.Chains.{Chain}
use Rattle.lam_geom.specs.Chains.Chain.{here, link}
use Rattle.tile_cells.specs.declared.tile.Tile.{Tile}
use Rattle.tile_cells.specs.declared.tile.Tile.TheVariants.{Tran, PullUp, Under}
use Rattle.fabric.specs.declared.thing.Side.{Side}
use Rattle.fabric.specs.declared.thing.Side.TheVariants.{L, R}
use Rattle.fabric.specs.Plan.{Plan, IsFabric}
use Rattle.fabric.specs.Switches.{Net, IsNet, LineOf, IsTapOn, Taps}
use Rattle.fabric.specs.Switches.{Tapped, up, down, AreNumbers}
use Rattle.array_form.specs.Named.{Tie, tap, tran, pull, IsAt, IsNamed, Speaks, Joins, forth, back}
use Rattle.array_form.specs.Roots.{Root, AreRooted}
use Rattle.array_form.proofs.Once.{line_once, segment_once, no_segment}

-- the sides of a tap's tile are one
one_side : (s t : Side) (tile : Tile) → IsTapOn s tile → IsTapOn t tile → s ≡ t
one_side L L tile a b = refl
one_side L R tile a b = absurd (cc (sym a ∙ b))
one_side R L tile a b = absurd (cc (sym a ∙ b))
one_side R R tile a b = refl

not_tran : (s : Side) (tile : Tile) → IsTapOn s tile → tile ≡ Tran → ⊥
not_tran L tile a b = cc (sym a ∙ b)
not_tran R tile a b = cc (sym a ∙ b)

not_pull : (s : Side) (tile : Tile) → IsTapOn s tile → tile ≡ PullUp → ⊥
not_pull L tile a b = cc (sym a ∙ b)
not_pull R tile a b = cc (sym a ∙ b)

not_under : (s : Side) (tile : Tile) → IsTapOn s tile → tile ≢ Under
not_under L tile a b = cc (sym a ∙ b)
not_under R tile a b = cc (sym a ∙ b)

module _ (W : Type 0) (In : W → Type 0) (T : Tie W → Type 0) (f : Plan) (lawful : IsFabric f) (net_of : W → Net)
    (named : IsNamed W In T f net_of)
    (speaks : (t : Tie W) → T t → Speaks W In t) where
  -- a tap of the fabric is a tie
  tap_tie : (n k : Net) → Taps f n k → (w v : W) → In w → In v → net_of w ≡ n → net_of v ≡ k → Joins W T w v
  tap_tie n k h w v iw iv ew ev = go (named.marked h.mark h.among (not_under h.side h.mark.tile h.tile))
    where
      go : (t : Tie W) × T t × IsAt W f net_of h.mark t → Joins W T w v
      go (tran g a b, q, r) = absurd (not_tran h.side h.mark.tile h.tile r.0)
      go (pull a, q, r) = absurd (not_pull h.side h.mark.tile h.tile r.0)
      go (tap s a b, q, r) =
          subst (λ x. Joins W T x v) (sym first) (subst (λ x. Joins W T a x) (sym second) (forth s q))
        where
          side_is : s ≡ h.side
          side_is = one_side s h.side h.mark.tile r.0 h.tile

          first : w ≡ a
          first = named.one w a iw (speaks (tap s a b) q).0
              (ew ∙ line_once f lawful h.mark h.side n (net_of a) h.the_line
              (subst (λ x. LineOf f h.mark x (net_of a)) side_is r.1))

          net_is : k ≡ net_of b
          net_is = elim h.other [
            | inl g ↦ elim r.2
                [ inl g2 ↦ g.1 ∙ sym g2.1 | inr s2 ↦ absurd (no_segment f lawful h.mark (net_of b) s2 g.0) ]
            | inr s1 ↦ elim r.2 [
              | inl g2 ↦ absurd (no_segment f lawful h.mark k s1 g2.0)
              | inr s2 ↦ segment_once f lawful h.mark k
                  (net_of b) s1 s2
            ]
          ]

          second : v ≡ b
          second = named.one v b iv (speaks (tap s a b) q).1 (ev ∙ net_is)

  tie_tap : (w v : W) (s : Side) → T (tap s w v) → Taps f (net_of w) (net_of v)
  tie_tap w v s q =
      let (mark, among, (tile, the_line, other)) = named.tied (tap s w v) q in
      record { mark = mark; among = among; side = s; tile = tile; the_line = the_line; other = other }

  pub joined_tapped : (w v : W) → Joins W T w v → Tapped f (net_of w) (net_of v)
  joined_tapped w v (forth s q) = up (tie_tap w v s q)
  joined_tapped w v (back s q) = down (tie_tap v w s q)

  turn : (w v : W) → Joins W T w v → Joins W T v w
  turn w v (forth s q) = back s q
  turn w v (back s q) = forth s q

  tapped_joined : (n k : Net) → Tapped f n k → (w v : W) → In w → In v → net_of w ≡ n → net_of v ≡ k → Joins W T w v
  tapped_joined n k (up h) w v iw iv ew ev = tap_tie n k h w v iw iv ew ev
  tapped_joined n k (down h) w v iw iv ew ev = turn v w (tap_tie k n h v w iv iw ev ew)

  -- what a tap of the fabric joins is in the fabric
  joined_in : (n k : Net) → Taps f n k → IsNet f n × IsNet f k
  joined_in n k h = (
    subst (IsNet f) (sym h.the_line.is) h.the_line.among,
    elim h.other [ inl g ↦ subst (IsNet f) (sym g.1) tt | inr s ↦ subst (IsNet f) (sym s.is) s.among ],
  )

  tapped_in : (n k : Net) → Tapped f n k → IsNet f n × IsNet f k
  tapped_in n k (up h) = joined_in n k h
  tapped_in n k (down h) = let w = joined_in k n h in (w.1, w.0)

  module _ (root : W → Root) (hub : Root → W) (rooted : AreRooted W In T root hub) where
    follow : (n k : Net) → Chain (Tapped f) n k → (w v : W) → In w → In v → net_of w ≡ n → net_of v ≡ k
        → root w ≡ root v
    follow n k here w v iw iv ew ev = ap root (named.one w v iw iv (ew ∙ sym ev))
    follow n k (link {t = t} j c) w v iw iv ew ev =
        let u = named.onto t (tapped_in n t j).1 in
        rooted.tapped w u.0 (tapped_joined n t j w u.0 iw u.1 ew u.2) ∙ follow t k c u.0 v u.1 iv u.2 ev

    along : {w v : W} → Chain (Joins W T) w v → Chain (Tapped f) (net_of w) (net_of v)
    along here = here
    along (link {s = w} {t = v} j c) = link (joined_tapped w v j) (along c)

    module _ (count : ℕ) (number : Net → ℕ) (numbers : AreNumbers f count number) where
      -- the number of a wire is that of the wire of its root
      pub hub_number : (w : W) → In w → number (net_of w) ≡ number (net_of (hub (root w)))
      hub_number w i =
          let r = rooted.reach w i in
          (numbers.same (net_of w) (net_of (hub (root w))) (named.is_in w i) (named.is_in (hub (root w)) r.1)).1
          (along r.0)

      pub roots_from_numbers : (w v : W) → In w → In v → number (net_of w) ≡ number (net_of v) → root w ≡ root v
      roots_from_numbers w v iw iv e =
          follow (net_of w) (net_of v)
          ((numbers.same (net_of w) (net_of v) (named.is_in w iw) (named.is_in v iv)).0 e) w v iw iv refl refl

      pub numbers_from_roots : (w v : W) → In w → In v → root w ≡ root v → number (net_of w) ≡ number (net_of v)
      numbers_from_roots w v iw iv e = hub_number w iw ∙ (ap (λ r. number (net_of (hub r))) e ∙ sym (hub_number v iv))
