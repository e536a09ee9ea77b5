-- Each walk comes to an end.
use Rattle.std.proofs.Common.{◌≡◌, inl, inr, ℕ, zero, suc, ◌+◌, ◌<◌, ◌≤◌, List, [], ◌∷◌, ◌++◌, false, length, refl, ap}
use Rattle.std.proofs.Common.{subst, arith}
use Rattle.std.proofs.lemmas.List.Elements.{All-nil}
use Rattle.std.specs.Prelude.{All}
use Rattle.lam_geom.specs.declared.rect.Rect.{Rect}
use Rattle.lam_geom.specs.declared.label.FlatLabel.{FlatLabel}
use Rattle.poly_split.specs.Polygons.{PolygonsAreSplit}
use Rattle.cif_form.specs.declared.command.Item.{Item}
use Rattle.cif_form.specs.Scans.{Nests}
use Rattle.cif_form.specs.Expansion.{Definition}
use Rattle.cif_form.specs.Walk.{Frame, State, Visit, Visits, walk_limit, BreaksNone, WalkEnd, Walks, start, FileWalks}
use Rattle.cif_form.specs.Walk.WalkEnd.{Whole, Broken}
use Rattle.cif_verdict.proofs.Rules.{first_broken}
use Rattle.cif_verdict.proofs.Frames.{commands_of, AreInside, FramesNest, IsOrdered, left_in, outer_nest, placed_of}
use Rattle.cif_verdict.proofs.Stepping.{IsNearer, Goes, goes}

abbrev Ends : State → Type 0
Ends s = (rs : List Rect) × (ls : List FlatLabel) × (e : WalkEnd) × Walks s rs ls e

-- a state in which fewer items than this may still be walked comes to an end
abbrev EndsBelow : ℕ → Type 0
EndsBelow room = (t : State) → IsOrdered t → t.count ≤ walk_limit → walk_limit < t.count + room → Ends t

-- so does one with room for so many, and no more than this left in its frames
abbrev EndsWithin : ℕ → ℕ → Type 0
EndsWithin room left = (s : State) → IsOrdered s → walk_limit ≤ s.count + room → left_in s.frames ≤ left → Ends s

-- behind a step
onto : (room left : ℕ) → EndsBelow room → EndsWithin room left → (s : State) (v : Visit) (t : State) → Visits s v
    → walk_limit ≤ s.count + room → left_in s.frames ≤ suc left → IsOrdered t → IsNearer v t → Ends t
onto room left below within s v t visits few le ordered (inl (counted, some)) =
    let same = visits.count in
    below t ordered (omega (arith, counted, some)) (omega (arith, counted, same, few))
onto room left below within s v t visits few le ordered (inr (counted, less)) =
    let same = visits.count in
    let here : left_in s.frames ≡ length v.frame.left + 1 + left_in v.outer = ap left_in visits.frames in
    let size : length v.frame.left ≡ suc (length v.after) = ap length visits.left in
    within t ordered (omega (arith, counted, same, few)) (omega (arith, here, size, less, le))

stepped : (room left : ℕ) → EndsBelow room → EndsWithin room left → (s : State) (v : Visit) → Visits s v → IsOrdered s
    → walk_limit ≤ s.count + room → left_in s.frames ≤ suc left → BreaksNone v → Goes v v.item.command → Ends s
stepped room left below within s v visits ordered few le none (rs, ls, t, steps, reached) =
    let (qs, ms, e, w) = onto room left below within s v t visits few le reached.ordered reached.nearer in
    (rs ++ qs, ls ++ ms, e, Walks.step v rs ls t visits none steps w)

module _ (split : PolygonsAreSplit) where
  visited : (room left : ℕ) → EndsBelow room → EndsWithin room left → (s : State) (v : Visit) → Visits s v → IsOrdered s
      → walk_limit ≤ s.count + room → left_in s.frames ≤ suc left → Ends s
  visited room left below within s v visits ordered few le = elim (first_broken v) [
    | inl (rule, first) ↦ ([], [], Broken rule v.item.offset, Walks.broken v rule visits first)
    | inr none ↦ stepped room left below within s v visits ordered few le none (goes split v
        (subst (λ ds. All (λ (d : Definition). AreInside d.body) ds) visits.definitions ordered.bodies)
        v.item.command refl none
        (placed_of v.frame v.item v.after v.outer visits.left (subst FramesNest visits.frames ordered.frames)))
  ]

  in_frame : (room left : ℕ) → EndsBelow room → EndsWithin room left → (s : State) (f : Frame) (fs : List Frame)
      (items : List Item) → s.frames ≡ f ∷ fs → f.left ≡ items → IsOrdered s → walk_limit ≤ s.count + room
      → left_in s.frames ≤ suc left → Ends s
  in_frame room left below within s f fs [] e k ordered few le =
      let here : left_in s.frames ≡ length f.left + 1 + left_in fs = ap left_in e in
      let nests = outer_nest f fs (subst FramesNest e ordered.frames) in
      let (qs, ms, end, w) = within (record s { frames = fs }) (record { bodies = ordered.bodies; frames = nests }) few
      (omega (arith, here, le)) in
      (qs, ms, end, Walks.back f fs e k w)
  in_frame room left below within s f fs (i ∷ is) e k ordered few le = visited room left below within s
      (record {
        definitions = s.definitions;
        count = s.count;
        names = s.names;
        frame = f;
        outer = fs;
        item = i;
        after = is;
      })
      (record { definitions = refl; count = refl; names = refl; frames = e; left = k }) ordered few le

  at_frames : (room left : ℕ) → EndsBelow room → EndsWithin room left → (s : State) (frames : List Frame)
      → s.frames ≡ frames → IsOrdered s → walk_limit ≤ s.count + room → left_in s.frames ≤ suc left → Ends s
  at_frames room left below within s [] e ordered few le = ([], [], Whole, Walks.done e)
  at_frames room left below within s (f ∷ fs) e ordered few le =
      in_frame room left below within s f fs f.left e refl ordered few le

  walk_upto : (room : ℕ) → EndsBelow room → (left : ℕ) → EndsWithin room left
  walk_upto room below zero s ordered few le = none_left s.frames refl
    where
      none_left : (frames : List Frame) → s.frames ≡ frames → Ends s
      none_left [] e = ([], [], Whole, Walks.done e)
      none_left (f ∷ fs) e =
          let here : left_in s.frames ≡ length f.left + 1 + left_in fs = ap left_in e in absurd (omega (arith, here, le))
  walk_upto room below (suc left) s ordered few le =
      at_frames room left below (walk_upto room below left) s s.frames refl ordered few le

  walk : (room : ℕ) (t : State) → IsOrdered t → walk_limit ≤ t.count + room → Ends t
  walk zero t ordered few = walk_upto zero (λ u o within more. absurd (omega (arith, within, more))) (left_in t.frames) t
      ordered few (omega arith)
  walk (suc room) t ordered few = walk_upto (suc room) (λ u o within more. walk room u o (omega (arith, more)))
      (left_in t.frames) t ordered few (omega arith)

  pub file_walks : (items : List Item) → Nests false (commands_of items)
      → (rs : List Rect) × (ls : List FlatLabel) × (e : WalkEnd) × FileWalks items rs ls e
  file_walks items nests = walk walk_limit (start items)
      (record { bodies = All-nil (λ (d : Definition). AreInside d.body); frames = nests }) (omega arith)
