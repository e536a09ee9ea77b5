-- Which rule a command breaks first.
use Rattle.std.proofs.Common.{◌≡◌, ◌⊎◌, inl, inr, ℕ, zero, suc, ◌+◌, ◌<◌, List, [], ◌∷◌, Option, Some, None, refl, sym}
use Rattle.std.proofs.Common.{◌∙◌, ap, subst, arith, get_or, length}
use Rattle.std.specs.Prelude.{◌≢◌, All, Contains, ℤ}
use Rattle.std.proofs.lemmas.Bool.{cases_eq}
use Rattle.mp_base.proofs.Decisions.{Decided, same_claim, both_of, one_of, not_so, is_number, decided_below, is_integer}
use Rattle.mp_base.proofs.Decisions.{is_name, holds_of_all, IsDetermined}
use Rattle.lam_geom.specs.declared.layer.Layer.{Layer}
use Rattle.lam_geom.specs.declared.layer.Layer.TheVariants.{ND, NP, NC, NM, NI, NB, NG}
use Rattle.lam_geom.specs.declared.place.Point.{Point}
use Rattle.lam_geom.specs.declared.rect.Rect.{Rect}
use Rattle.lam_geom.specs.Moves.{IsNearRect}
use Rattle.lam_geom.specs.Inside.{sides}
use Rattle.poly_split.specs.Splitting.{IsAskew}
use Rattle.cif_form.specs.declared.command.Turn.{Turn}
use Rattle.cif_form.specs.declared.command.Turn.TheVariants.{Move, MirrorX, MirrorY, Rotate}
use Rattle.cif_form.specs.declared.command.Command.{Command}
use Rattle.cif_form.specs.declared.command.Command.TheVariants as commands
use Rattle.cif_form.specs.declared.command.Command.TheVariants.{Polygon, Box, Round, Wire, Call}
use Rattle.cif_form.specs.Expansion.{Definition, Stands}
use Rattle.cif_form.specs.Place.{Scale, IsScale, IsOnAxis, HasEdges, segments, layer_name}
use Rattle.cif_form.specs.Walk.{Frame, Visit, DrawRule, draw_rule_number, walk_limit, weight, IsWholePoint, IsFarPoint}
use Rattle.cif_form.specs.Walk.{IsOfNoScale, BreaksBy, Breaks, BreaksFirst, BreaksNone}
use Rattle.cif_form.specs.Walk.DrawRule.{F1, F2, F3, F4, F5, F6, F7, F8, F9, F10}
use Rattle.cif_form.proofs.OnePlace.{one_box, one_wire}
use Rattle.cif_form.proofs.OneWalk.{one_definition}
use Rattle.cif_verdict.proofs.Deciding.{of_the_one, some_in}
use Rattle.cif_verdict.proofs.Scaling.{is_scale, is_on_axis, is_whole_point, is_far_point}
use Rattle.cif_verdict.proofs.Edges.{Found, box_edges, wire_edges, is_near_rect}
use Rattle.cif_verdict.proofs.Polygons.{IsPlacedFar, is_placed_far, is_askew}

-- ---- what a command names

pub some_definition : (n : ℤ) (ds : List Definition) → Decided ((d : Definition) × Stands ds n d)
some_definition n [] = inr (λ (d, h). elim h [ ])
some_definition n (e ∷ ds) = by (is_integer e.number n) (some_definition n ds)
  where
    by : Decided (e.number ≡ n) → Decided ((d : Definition) × Stands ds n d)
        → Decided ((d : Definition) × Stands (e ∷ ds) n d)
    by (inl here) older = inl (e, Stands.newest here)
    by (inr other) older = same_claim older (λ (d, h). (d, Stands.older other h)) (λ (d, h). (d, behind h))
      where
        behind : {d : Definition} → Stands (e ∷ ds) n d → Stands ds n d
        behind (Stands.newest same) = absurd (other same)
        behind (Stands.older not h) = h

abbrev Named : List ℕ → Layer → Type 0
Named name l = name ≡ layer_name l

abbrev Layered : List ℕ → Type 0
Layered name =
    Named name ND ⊎ Named name NP ⊎ Named name NC ⊎ Named name NM ⊎ Named name NI ⊎ Named name NB ⊎ Named name NG

pub some_layer : (name : List ℕ) → Decided ((l : Layer) × (name ≡ layer_name l))
some_layer name = same_claim (one_of (is ND) (one_of (is NP) (one_of (is NC) (one_of (is NM)
    (one_of (is NI) (one_of (is NB) (is NG))))))) fore back
  where
    is : (l : Layer) → Decided (Named name l)
    is l = is_name name (layer_name l)

    fore : Layered name → (l : Layer) × (name ≡ layer_name l)
    fore (inl e) = (ND, e)
    fore (inr (inl e)) = (NP, e)
    fore (inr (inr (inl e))) = (NC, e)
    fore (inr (inr (inr (inl e)))) = (NM, e)
    fore (inr (inr (inr (inr (inl e))))) = (NI, e)
    fore (inr (inr (inr (inr (inr (inl e)))))) = (NB, e)
    fore (inr (inr (inr (inr (inr (inr e)))))) = (NG, e)

    back : (l : Layer) × (name ≡ layer_name l) → Layered name
    back (ND, e) = inl e
    back (NP, e) = inr (inl e)
    back (NC, e) = inr (inr (inl e))
    back (NM, e) = inr (inr (inr (inl e)))
    back (NI, e) = inr (inr (inr (inr (inl e))))
    back (NB, e) = inr (inr (inr (inr (inr (inl e)))))
    back (NG, e) = inr (inr (inr (inr (inr (inr e)))))

-- ---- turns

module _ (P : Point → Type 0) (known : (p : Point) → Decided (P p)) where
  -- the turn is this one of a point with the property
  abbrev Moves : Turn → Type 0
  Moves t = (p : Point) × (t ≡ Move p) × P p

  abbrev Rotates : Turn → Type 0
  Rotates t = (p : Point) × (t ≡ Rotate p) × P p

  moves : (t : Turn) → Decided (Moves t)
  moves (Move q) = same_claim (known q) (λ h. (q, refl, h))
      (λ (p, e, h). let same : q ≡ p = cc in subst P (sym same) h)
  moves MirrorX = inr (λ (p, e, h). absurd (cc))
  moves MirrorY = inr (λ (p, e, h). absurd (cc))
  moves (Rotate q) = inr (λ (p, e, h). absurd (cc))

  rotates : (t : Turn) → Decided (Rotates t)
  rotates (Rotate q) = same_claim (known q) (λ h. (q, refl, h))
      (λ (p, e, h). let same : q ≡ p = cc in subst P (sym same) h)
  rotates MirrorX = inr (λ (p, e, h). absurd (cc))
  rotates MirrorY = inr (λ (p, e, h). absurd (cc))
  rotates (Move q) = inr (λ (p, e, h). absurd (cc))

  some_move : (ts : List Turn) → Decided ((p : Point) × Contains ts (Move p) × P p)
  some_move ts = same_claim (some_in Moves moves ts) (λ (t, among, (p, e, h)). (p, subst (Contains ts) e among, h))
      (λ (p, among, h). (Move p, among, (p, refl, h)))

  some_rotation : (ts : List Turn) → Decided ((p : Point) × Contains ts (Rotate p) × P p)
  some_rotation ts = same_claim (some_in Rotates rotates ts)
      (λ (t, among, (p, e, h)). (p, subst (Contains ts) e among, h)) (λ (p, among, h). (Rotate p, among, (p, refl, h)))

-- ---- frames

is_symbol : (o : Option ℤ) (n : ℤ) → Decided (o ≡ Some n)
is_symbol None n = inr (λ e. absurd (cc))
is_symbol (Some m) n = same_claim (is_integer m n) (λ e. ap (λ z. Some z) e) (λ e. let same : m ≡ n = cc in same)

is_unset : (o : Option Layer) → Decided (o ≡ None)
is_unset None = inl refl
is_unset (Some l) = inr (λ e. absurd (cc))

-- ---- each rule

no_scale : (v : Visit) (n : ℤ) → Decided (IsOfNoScale v n)
no_scale v n = of_the_one (λ d. Stands v.definitions n d) (λ d. ¬ IsScale d.scale) (one_definition v.definitions n)
    (some_definition n v.definitions) (λ d. not_so (is_scale d.scale))

-- the command at v has these rectangles, whose layer matters to no edge
abbrev Edged : Visit → Command → Layer → List Rect → Type 0
Edged v c l rs = HasEdges v.frame.scale l c rs

-- it has none
abbrev Lacks : Visit → Command → Type 0
Lacks v c = (rs : List Rect) → ¬ Edged v c ND rs

-- one of them is too far where it is placed
abbrev HasFar : Visit → Command → Type 0
HasFar v c = (rs : List Rect) × Edged v c ND rs × ¬ All (λ r. IsNearRect (v.frame.place r)) rs

lacks : (v : Visit) (c : Command) → Found (Edged v c) → Decided (Lacks v c)
lacks v c (inl here) = inr (λ none. let (rs, h) = here ND in none rs h)
lacks v c (inr none) = inl (none ND)

has_far : (v : Visit) (c : Command) → IsDetermined (Edged v c ND) → Found (Edged v c) → Decided (HasFar v c)
has_far v c one found = of_the_one (Edged v c ND)
    (λ rs. ¬ All (λ r. IsNearRect (v.frame.place r)) rs) one (drawn found)
    (λ rs. not_so (holds_of_all (λ r. IsNearRect (v.frame.place r)) (λ r. is_near_rect (v.frame.place r)) rs))
  where
    drawn : Found (Edged v c) → Decided ((rs : List Rect) × Edged v c ND rs)
    drawn (inl here) = inl (here ND)
    drawn (inr none) = inr (λ (rs, h). none ND rs h)

one_box_of : (s : Scale) (long wide : ℤ) (center direction : Point)
    → IsDetermined (HasEdges s ND (Box long wide center direction))
one_box_of s long wide center direction rs qs (r, e, h) (q, f, k) =
    e ∙ ap (λ r. r ∷ []) (one_box s ND long wide center direction r q h k) ∙ sym f

breaks_by : (v : Visit) (c : Command) (rule : DrawRule) → c ≡ v.item.command → Decided (BreaksBy v c rule)
breaks_by v (Call n ts) F1 e = same_claim (not_so (some_definition n v.definitions)) (λ none d h. none (d, h))
    (λ none (d, h). none d h)
breaks_by v (Call n ts) F2 e =
    some_in (λ (f : Frame). f.symbol ≡ Some n) (λ f. is_symbol f.symbol n) (v.frame ∷ v.outer)
breaks_by v (Call n ts) F3 e = some_rotation (λ p. ¬ IsOnAxis p) (λ p. not_so (is_on_axis p)) ts
breaks_by v (Box long wide center direction) F3 e = not_so (is_on_axis direction)
breaks_by v (Wire wide path) F3 e = same_claim
    (some_in IsAskew is_askew (segments path))
    (λ (p, among, (across, up)). (p, among, across, up)) (λ (p, among, across, up). (p, among, (across, up)))
breaks_by v (Call n ts) F4 e = one_of (no_scale v n)
    (some_move (λ p. ¬ IsWholePoint v.frame.scale p) (λ p. not_so (is_whole_point v.frame.scale p)) ts)
breaks_by v (Box long wide center direction) F4 e =
    same_claim (lacks v (Box long wide center direction) (box_edges v.frame.scale long wide center direction))
    (subst (Lacks v) e) (subst (Lacks v) (sym e))
breaks_by v (Wire wide path) F4 e =
    same_claim (lacks v (Wire wide path) (wire_edges v.frame.scale wide path)) (subst (Lacks v) e)
    (subst (Lacks v) (sym e))
breaks_by v (Polygon path) F4 e =
    some_in (λ p. ¬ IsWholePoint v.frame.scale p) (λ p. not_so (is_whole_point v.frame.scale p)) path
breaks_by v (Round diameter center) F5 e = inl tt
breaks_by v (Polygon path) F6 e = one_of (decided_below (length path) 4) (some_in IsAskew is_askew (sides path))
breaks_by v c F7 e = decided_below walk_limit (v.count + weight c)
breaks_by v (Call n ts) F8 e =
    some_move (λ p. IsFarPoint v.frame.scale p) (λ p. is_far_point v.frame.scale p) ts
breaks_by v (Box long wide center direction) F8 e =
    same_claim (has_far v (Box long wide center direction) (one_box_of v.frame.scale long wide center direction)
    (box_edges v.frame.scale long wide center direction)) (subst (HasFar v) e) (subst (HasFar v) (sym e))
breaks_by v (Wire wide path) F8 e =
    same_claim (has_far v (Wire wide path) (one_wire v.frame.scale ND wide (segments path))
    (wire_edges v.frame.scale wide path)) (subst (HasFar v) e) (subst (HasFar v) (sym e))
breaks_by v (Polygon path) F8 e = same_claim
    (some_in (IsPlacedFar v.frame.scale v.frame.place) (is_placed_far v.frame.scale v.frame.place) path)
    (λ (p, among, (q, scaled, far)). (p, q, among, scaled, far))
    (λ (p, q, among, scaled, far). (p, among, (q, scaled, far)))
breaks_by v (Box long wide center direction) F9 e = is_unset v.frame.layer
breaks_by v (Wire wide path) F9 e = is_unset v.frame.layer
breaks_by v (Polygon path) F9 e = is_unset v.frame.layer
breaks_by v (commands.Layer name) F10 e = same_claim (not_so (some_layer name)) (λ none l h. none (l, h))
    (λ none (l, h). none l h)
breaks_by v c rule e = inr (λ h. h)

breaks : (v : Visit) (rule : DrawRule) → Decided (Breaks v rule)
breaks v rule = breaks_by v v.item.command rule refl

-- ---- the first

-- each rule under its number
rules : List DrawRule
rules = F1 ∷ F1 ∷ F2 ∷ F3 ∷ F4 ∷ F5 ∷ F6 ∷ F7 ∷ F8 ∷ F9 ∷ F10 ∷ []

numbered : (rule : DrawRule) → (get_or rules (draw_rule_number rule) F1 ≡ rule) × (draw_rule_number rule < 11)
unfolding rules
numbered F1 = (refl, omega arith)
numbered F2 = (refl, omega arith)
numbered F3 = (refl, omega arith)
numbered F4 = (refl, omega arith)
numbered F5 = (refl, omega arith)
numbered F6 = (refl, omega arith)
numbered F7 = (refl, omega arith)
numbered F8 = (refl, omega arith)
numbered F9 = (refl, omega arith)
numbered F10 = (refl, omega arith)

-- the rule of a number is broken
abbrev Numbered : Visit → ℕ → Type 0
Numbered v k = (rule : DrawRule) × (draw_rule_number rule ≡ k) × Breaks v rule

at_number : (v : Visit) (k : ℕ) → Decided (Numbered v k)
at_number v k = same_claim
    (both_of (is_number (draw_rule_number (get_or rules k F1)) k) (breaks v (get_or rules k F1)))
    (λ (e, h). (get_or rules k F1, e, h)) back
  where
    back : Numbered v k → (draw_rule_number (get_or rules k F1) ≡ k) × Breaks v (get_or rules k F1)
    back (rule, e, h) =
        let same : get_or rules k F1 ≡ rule = ap (λ j. get_or rules j F1) (sym e) ∙ (numbered rule).0 in
        (ap draw_rule_number same ∙ e, subst (Breaks v) (sym same) h)

-- the least number with a property, or none up to this one has it
least : (P : ℕ → Type 0) → ((k : ℕ) → Decided (P k)) → (n : ℕ)
    → ((k : ℕ) × P k × ((j : ℕ) → j < k → ¬ P j)) ⊎ ((j : ℕ) → j < n → ¬ P j)
least P known zero = inr (λ j lt h. omega (arith, lt))
least P known (suc n) = elim (least P known n) [
  | inl found ↦ inl found
  | inr none ↦ elim (known n) [
    | inl h ↦ inl (n, h, none)
    | inr not ↦ inr (λ j lt h. elim (cases_eq j n) [
      | inl same ↦ not (subst P same h)
      | inr other ↦ none j (omega (arith, lt, other)) h
    ])
  ]
]

pub first_broken : (v : Visit) → ((rule : DrawRule) × BreaksFirst v rule) ⊎ BreaksNone v
first_broken v = elim (least (Numbered v) (at_number v) 11) [
  | inl (k, (rule, e, h), before) ↦ inl (
    rule,
    (
      h,
      λ q lt broken. before (draw_rule_number q) (omega (arith, lt, e))
          (q, refl, broken),
    ),
  )
  | inr none ↦ inr (λ rule h. none (draw_rule_number rule) (numbered rule).1 (rule, refl, h))
]
