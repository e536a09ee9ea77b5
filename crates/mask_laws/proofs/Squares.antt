-- The squares that finitely many rectangles cover, and tests of them.
use Rattle.std.proofs.Common.{ℕ, zero, suc, ◌≡◌, ◌⊎◌, inl, inr, refl, sym, subst, ap, arith, List, [], ◌∷◌, ◌++◌}
use Rattle.std.specs.Prelude.{ℤ, pos, negsuc, ◌+ℤ◌, ◌-ℤ◌, ◌≤ℤ◌, ◌<ℤ◌, nat_abs}
use Rattle.std.proofs.lemmas.Int.{ints, by_lt_z}
use Rattle.std.proofs.lemmas.Bool.{cases_eq}
use Rattle.mp_base.proofs.Decisions.{Decided, both_of, one_of, not_so, same_claim, is_integer, is_at_most, is_less}
use Rattle.mp_base.proofs.Members.{Member, append_left, append_right}
use Rattle.lam_geom.specs.declared.layer.Layer.{Layer}
use Rattle.lam_geom.specs.declared.layer.Layer.TheVariants.{ND, NP, NC, NM, NI, NB, NG}
use Rattle.lam_geom.specs.declared.rect.Rect.{Rect}
use Rattle.lam_geom.specs.Squares.{Square, Covers, covered, ShareEdge, Adjoin, Before, rank}
use Rattle.switch_net.specs.Conductors.{IsChannel, ConductsOn, Conducts, Contact, Joined, IsChannelSquare}
use Rattle.switch_net.specs.Conductors.Joined.{beside, contact}
use Rattle.switch_net.specs.Drawn.{AreNodes, AreRegions}
use Rattle.mask_laws.specs.Laws.{NumberingExists}
use Rattle.lam_geom.proofs.Adjoins.{adjoin_flip}
use Rattle.lam_geom.proofs.SquareOrder.{of_ranks, same_square, before_then, before_total, before_asymmetric}
use Rattle.switch_net.proofs.Joins.{join_flip, join_ends}
use Rattle.mask_laws.proofs.Ordered.{Rises, keep, keep_in, keep_has, keep_rises, sorted, sorted_has, sorted_rises}
use Rattle.mask_laws.proofs.Classes.{classes_exist}

-- ---- numbers and layers

pub layer_same : (l m : Layer) → Decided (l ≡ m)
layer_same l m = elim (cases_eq (rank l) (rank m)) [ inl e ↦ inl (of_ranks l m e) | inr n ↦ inr (λ e. n (ap rank e)) ]

pub square_same : (s t : Square) → Decided (s ≡ t)
square_same s t =
    same_claim (both_of (layer_same s.layer t.layer) (both_of (is_integer s.x t.x) (is_integer s.y t.y)))
    (λ (layer, (x, y)). same_square s t layer x y)
    (λ e. (ap (λ (q : Square). q.layer) e, (ap (λ (q : Square). q.x) e, ap (λ (q : Square). q.y) e)))

-- ---- what is covered

covers_told : (r : Rect) (l : Layer) (x y : ℤ) → Decided (Covers r l x y)
covers_told r l x y =
    same_claim (both_of (layer_same r.layer l)
    (both_of (is_at_most r.x0 x) (both_of (is_less x r.x1) (both_of (is_at_most r.y0 y) (is_less y r.y1)))))
    (λ (same, (left, (right, (bottom, top)))).
    record { same = same; left = left; right = right; bottom = bottom; top = top })
    (λ c. (c.same, (c.left, (c.right, (c.bottom, c.top)))))

pub covered_told : (rs : List Rect) (l : Layer) (x y : ℤ) → Decided (covered rs l x y)
covered_told [] l x y = inr (λ h. h)
covered_told (r ∷ rs) l x y = one_of (covers_told r l x y) (covered_told rs l x y)

pub share_told : (s t : Square) → Decided (ShareEdge s t)
share_told s t = one_of
    (both_of (is_integer s.y t.y) (one_of (is_integer t.x (s.x +ℤ pos 1)) (is_integer s.x (t.x +ℤ pos 1))))
    (both_of (is_integer s.x t.x) (one_of (is_integer t.y (s.y +ℤ pos 1)) (is_integer s.y (t.y +ℤ pos 1))))

pub adjoin_told : (Is : Square → Type 0) → ((s : Square) → Decided (Is s)) → (s t : Square) → Decided (Adjoin Is s t)
adjoin_told Is t a b =
    same_claim (both_of (t a) (both_of (t b) (both_of (layer_same a.layer b.layer) (share_told a b))))
    (λ (from, (to, (same, edge))). record { from = from; to = to; same = same; beside = edge })
    (λ j. (j.from, (j.to, (j.same, j.beside))))

module _ (rs : List Rect) where
  abbrev c : Layer → ℤ → ℤ → Type 0
  c = covered rs

  channel_told : (x y : ℤ) → Decided (IsChannel c x y)
  channel_told x y =
      same_claim (both_of (covered_told rs NP x y) (both_of (covered_told rs ND x y) (not_so (covered_told rs NB x y))))
      (λ (gate, (diffusion, unburied)). record { gate = gate; diffusion = diffusion; unburied = unburied })
      (λ k. (k.gate, (k.diffusion, k.unburied)))

  pub on_told : (l : Layer) (x y : ℤ) → Decided (ConductsOn c l x y)
  on_told NM x y = covered_told rs NM x y
  on_told NP x y = covered_told rs NP x y
  on_told ND x y = both_of (covered_told rs ND x y) (not_so (channel_told x y))
  on_told NC x y = inr (λ h. h)
  on_told NI x y = inr (λ h. h)
  on_told NB x y = inr (λ h. h)
  on_told NG x y = inr (λ h. h)

  pub conducts_told : (s : Square) → Decided (Conducts c s)
  conducts_told s = on_told s.layer s.x s.y

  contact_told : (s t : Square) → Decided (Contact c s t)
  contact_told s t =
      same_claim
      (both_of (conducts_told s) (both_of (conducts_told t) (both_of (is_integer s.x t.x) (both_of (is_integer s.y t.y)
      (one_of (covered_told rs NC s.x s.y)
      (same_claim (both_of (covered_told rs NB s.x s.y)
      (both_of (not_so (layer_same s.layer NM)) (not_so (layer_same t.layer NM))))
      (λ (buried, (s_other, t_other)). (buried, s_other, t_other))
      (λ (buried, s_other, t_other). (buried, (s_other, t_other)))))))))
      (λ (from, (to, (x, (y, by)))). record { from = from; to = to; x = x; y = y; by = by })
      (λ k. (k.from, (k.to, (k.x, (k.y, k.by)))))

  pub joined_told : (s t : Square) → Decided (Joined c s t)
  joined_told s t = same_claim (one_of (adjoin_told (Conducts c) conducts_told s t) (contact_told s t)) to from
    where
      to : Adjoin (Conducts c) s t ⊎ Contact c s t → Joined c s t
      to (inl j) = beside j
      to (inr j) = contact j

      from : Joined c s t → Adjoin (Conducts c) s t ⊎ Contact c s t
      from (beside j) = inl j
      from (contact j) = inr j

  pub channel_square_told : (s : Square) → Decided (IsChannelSquare c s)
  channel_square_told s = both_of (layer_same s.layer NP) (channel_told s.x s.y)

-- ---- the squares, listed

run : ℤ → ℕ → List ℤ
run x zero = []
run x (suc n) = x ∷ run (x +ℤ pos 1) n

run_has : (x : ℤ) (n : ℕ) (z : ℤ) → x ≤ℤ z → z <ℤ (x +ℤ pos n) → Member (run x n) z
unfolding run
run_has x zero z le lt = absurd (omega (arith, ints, le, lt))
run_has x (suc n) z le lt = elim (is_integer x z) [
  | inl e ↦ inl e
  | inr ne ↦ inr (run_has (x +ℤ pos 1) n z
      (by_lt_z x z (λ l. omega (arith, ints, l)) (λ g. absurd (ne (omega (arith, ints, le, g)))))
      (omega (arith, ints, lt)))
]

abbrev at : Layer → ℤ → ℤ → Square
at l x y = record { layer = l; x = x; y = y }

row : List ℤ → ℤ → List Square
row [] y = []
row (x ∷ xs) y = at NM x y ∷ at NP x y ∷ at ND x y ∷ row xs y

grid : List ℤ → List ℤ → List Square
grid xs [] = []
grid xs (y ∷ ys) = row xs y ++ grid xs ys

-- a layer that may conduct
abbrev Metallic : Layer → Type 0
Metallic l = (l ≡ NM) ⊎ (l ≡ NP) ⊎ (l ≡ ND)

row_has : (xs : List ℤ) (l : Layer) (x y : ℤ) → Metallic l → Member xs x → Member (row xs y) (at l x y)
unfolding row
row_has [] l x y k m = absurd m
row_has (z ∷ xs) l x y (inl e) (inl f) = inl (λ i. at (sym e i) (f i) y)
row_has (z ∷ xs) l x y (inr (inl e)) (inl f) = inr (inl (λ i. at (sym e i) (f i) y))
row_has (z ∷ xs) l x y (inr (inr e)) (inl f) = inr (inr (inl (λ i. at (sym e i) (f i) y)))
row_has (z ∷ xs) l x y k (inr m) = inr (inr (inr (row_has xs l x y k m)))

grid_has : (xs ys : List ℤ) (l : Layer) (x y : ℤ) → Metallic l → Member xs x → Member ys y
    → Member (grid xs ys) (at l x y)
unfolding grid
grid_has xs [] l x y k m n = absurd n
grid_has xs (z ∷ ys) l x y k m (inl e) =
    append_left (row xs z) (grid xs ys) (at l x y)
    (subst (λ w. Member (row xs w) (at l x y)) (sym e) (row_has xs l x y k m))
grid_has xs (z ∷ ys) l x y k m (inr n) = append_right (row xs z) (grid xs ys) (at l x y) (grid_has xs ys l x y k m n)

size_of : (a b z : ℤ) → a ≤ℤ z → z <ℤ b → z <ℤ (a +ℤ pos (nat_abs (b -ℤ a)))
size_of a b z le lt = go (b -ℤ a) refl
  where
    go : (d : ℤ) → b -ℤ a ≡ d → z <ℤ (a +ℤ pos (nat_abs d))
    go (pos n) e = omega (arith, ints, e, le, lt)
    go (negsuc n) e = absurd (omega (arith, ints, e, le, lt))

squares_in : Rect → List Square
squares_in r = grid (run r.x0 (nat_abs (r.x1 -ℤ r.x0))) (run r.y0 (nat_abs (r.y1 -ℤ r.y0)))

in_rect : (r : Rect) (l m : Layer) (x y : ℤ) → Covers r m x y → Metallic l → Member (squares_in r) (at l x y)
unfolding squares_in
in_rect r l m x y h k =
    grid_has (run r.x0 (nat_abs (r.x1 -ℤ r.x0))) (run r.y0 (nat_abs (r.y1 -ℤ r.y0))) l x y k
    (run_has r.x0 (nat_abs (r.x1 -ℤ r.x0)) x h.left (size_of r.x0 r.x1 x h.left h.right))
    (run_has r.y0 (nat_abs (r.y1 -ℤ r.y0)) y h.bottom (size_of r.y0 r.y1 y h.bottom h.top))

pub squares : List Rect → List Square
squares [] = []
squares (r ∷ rs) = squares_in r ++ squares rs

in_squares : (rs : List Rect) (l m : Layer) (x y : ℤ) → covered rs m x y → Metallic l → Member (squares rs) (at l x y)
unfolding squares
in_squares [] l m x y h k = absurd h
in_squares (r ∷ rs) l m x y (inl h) k = append_left (squares_in r) (squares rs) (at l x y) (in_rect r l m x y h k)
in_squares (r ∷ rs) l m x y (inr h) k = append_right (squares_in r) (squares rs) (at l x y) (in_squares rs l m x y h k)

-- ---- nodes and regions

module _ (rs : List Rect) where
  abbrev pub listed : List Square
  listed = sorted Before before_then before_total (squares rs)

  abbrev pub conducting : List Square
  conducting = keep Before (Conducts (covered rs)) (conducts_told rs) listed

  abbrev pub channels : List Square
  channels = keep Before (IsChannelSquare (covered rs)) (channel_square_told rs) listed

  conducts_listed : (l : Layer) (x y : ℤ) → ConductsOn (covered rs) l x y → Member listed (at l x y)
  conducts_listed NM x y h =
      sorted_has Before before_then before_total (squares rs) (at NM x y) (in_squares rs NM NM x y h (inl refl))
  conducts_listed NP x y h =
      sorted_has Before before_then before_total (squares rs) (at NP x y) (in_squares rs NP NP x y h (inr (inl refl)))
  conducts_listed ND x y h =
      sorted_has Before before_then before_total (squares rs) (at ND x y) (in_squares rs ND ND x y h.0 (inr (inr refl)))
  conducts_listed NC x y h = absurd h
  conducts_listed NI x y h = absurd h
  conducts_listed NB x y h = absurd h
  conducts_listed NG x y h = absurd h

  pub every_conductor : (s : Square) → Conducts (covered rs) s → Member conducting s
  every_conductor s h =
      keep_has Before (Conducts (covered rs)) (conducts_told rs) listed s (conducts_listed s.layer s.x s.y h) h

  pub every_channel : (s : Square) → IsChannelSquare (covered rs) s → Member channels s
  every_channel s h =
      let m : Member listed (at s.layer s.x s.y) =
      sorted_has Before before_then before_total (squares rs) (at s.layer s.x s.y)
      (in_squares rs s.layer NP s.x s.y h.1.gate (inr (inl h.0))) in
      keep_has Before (IsChannelSquare (covered rs)) (channel_square_told rs) listed s m h

  rising : Rises Before listed
  rising = sorted_rises Before before_then before_total (squares rs)

  pub nodes_exist : (nodes : List Square) × AreNodes (covered rs) nodes
  nodes_exist =
      classes_exist (Conducts (covered rs)) (Joined (covered rs)) Before (join_flip (covered rs))
      (join_ends (covered rs)) square_same (joined_told rs) before_asymmetric
      conducting (keep_rises Before (Conducts (covered rs)) (conducts_told rs) listed rising)
      (λ s m. (keep_in Before (Conducts (covered rs)) (conducts_told rs) listed s m).1) every_conductor

  pub regions_exist : (regions : List Square) × AreRegions (covered rs) regions
  regions_exist =
      classes_exist (IsChannelSquare (covered rs)) (Adjoin (IsChannelSquare (covered rs))) Before
      (adjoin_flip (IsChannelSquare (covered rs))) (λ a b j. (j.from, j.to))
      square_same (adjoin_told (IsChannelSquare (covered rs)) (channel_square_told rs)) before_asymmetric
      channels (keep_rises Before (IsChannelSquare (covered rs)) (channel_square_told rs) listed rising)
      (λ s m. (keep_in Before (IsChannelSquare (covered rs)) (channel_square_told rs) listed s m).1) every_channel

pub numbering_exists : NumberingExists
numbering_exists shapes = (nodes_exist shapes, regions_exist shapes)
