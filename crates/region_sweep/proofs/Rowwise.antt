-- From one row to the next.
use Rattle.std.proofs.Common.{ℕ, ◌≡◌, ◌+◌, ◌-◌, ◌<◌, ◌≤◌, ◌⊎◌, List, Some, None, Option, inl, inr, refl, sym, ap, ◌∙◌}
use Rattle.std.proofs.Common.{subst, arith, length, get_or, set, max, eq-or-lt_of_le, get_or-set_other, get_or-set_same}
use Rattle.std.specs.Prelude.{All}
use Rattle.std.specs.List.Sorted.{IsNonDecreasingBy}
use Rattle.std.proofs.lemmas.Bool.{cases_lt, cases_eq, cases_Bool}
use Rattle.lam_geom.proofs.Ranks.{layer_or_not}
use Rattle.row_windows.specs.declared.window.Window.{Window}
use Rattle.row_windows.specs.Windows.{seen, in_windows, IsGuarded, ChangeAt, TellChange}
use Rattle.mask_runs.specs.declared.mask.Mask.{Mask}
use Rattle.mask_runs.specs.declared.run.Run.{Run}
use Rattle.mask_runs.specs.Runs.{IsRun, AreRuns}
use Rattle.mask_runs.specs.Laws.{ColoursByLayers}
use Rattle.cover_tree.specs.declared.tree.CoverTree.{CoverTree}
use Rattle.cover_tree.specs.Changes.{AreChanges}
use Rattle.cover_tree.specs.Covers.{Cover, IsBare, IsRaised, row_colour}
use Rattle.cover_tree.specs.Trees.{cover_of, told_of}
use Rattle.kept_runs.specs.declared.runs.KeptRuns.{KeptRuns}
use Rattle.kept_runs.specs.Kept.{colours_of, width_of}
use Rattle.strip_rows.specs.declared.rows.StripRows.{StripRows}
use Rattle.strip_rows.specs.declared.strip.Strip.{Strip}
use Rattle.strip_rows.specs.Changes.{LieInRow, IsChange}
use Rattle.strip_rows.specs.Swept.{strips_of, IsOpenAt, IsSwept, KeepNumbers}
use Rattle.region_sweep.specs.declared.block.Block.{Block}
use Rattle.region_sweep.specs.declared.spot.Spot.{Spot}
use Rattle.region_sweep.specs.Blocks.{painted, AreStacked}
use Rattle.region_sweep.specs.Rows.{block, no_block, spot, no_spot, ReachesOver, AreWithin, AreRaised}
use Rattle.region_sweep.specs.Rows.{IsUpTo, IsSweptTo, AreAsked, IsFront, IsAnswer, AreAnswered}
use Rattle.region_sweep.proofs.Changing.{AreTold, told}
use Rattle.region_sweep.proofs.Painting.{row_painted, blank_right, blank_below}

-- what is known of the rows up to one, in the middle of the loop
pub record IsAt (mask : Mask) (cells : ℕ) (blocks : List Block) (row : ℕ) (tree : CoverTree) (kept : KeptRuns)
    (strips : StripRows) (raised : ℕ)
    (spots : List Spot) (answered : ℕ) (found : List (Option ℕ)) : Type 0 where
  pub to : IsSweptTo mask cells blocks row raised tree kept strips
  pub answers : AreAnswered (painted mask blocks) (strips_of strips) spots answered found
  pub waiting : (j : ℕ) → answered ≤ j → j < length spots → row < (spot spots j).row

-- the same of an equal mask and as many cells
pub same_grid : {mask m : Mask} {cells n : ℕ} {blocks : List Block} {row raised : ℕ} {tree : CoverTree}
    {kept : KeptRuns} {strips : StripRows} → m ≡ mask → n ≡ cells
    → IsSweptTo mask cells blocks row raised tree kept strips → IsSweptTo m n blocks row raised tree kept strips
same_grid e f h = rw (e, f) h

in_or_out : (a b c : ℕ) → (a ≤ c) × (c < b) ⊎ ((c < a) ⊎ (b ≤ c))
in_or_out a b c = elim (cases_lt c a) [
  | inl l ↦ inr (inl l)
  | inr l ↦ elim (cases_lt c b) [ inl m ↦ inl (l, m) | inr m ↦ inr (inr m) ]
]

-- one more block is raised
pub raised_more : (blocks : List Block) (row n : ℕ) (old now : Cover) → AreRaised blocks row n old → n < length blocks
    → (block blocks n).low ≤ row
    → IsRaised old now (block blocks n).layer (block blocks n).left (block blocks n).right (block blocks n).high
    → AreRaised blocks row (n + 1) now
raised_more blocks row n old now h l m r =
    let b = block blocks n in
    record {
      within = omega arith;
      begun = λ k p. elim (eq-or-lt_of_le {n = k} {m = n} (omega arith)) [ inl e ↦ rw e m | inr q ↦ h.begun k q ];
      tops = λ l c z. (
        λ t. elim (layer_or_not l b.layer) [
          | inr other ↦ let e = r.others l c other in let g = (h.tops l c z).0 (omega arith) in (g.0, omega arith, g.2)
          | inl e ↦ elim (in_or_out b.left b.right c) [
            | inr out ↦
                let q : now.top l c ≡ old.top l c = subst (λ x. now.top x c ≡ old.top x c) (sym e) (r.beside c out) in
                let g = (h.tops l c z).0 (omega arith) in (g.0, omega arith, g.2)
            | inl in' ↦
                let q : now.top l c ≡ max (old.top l c) b.high =
                subst (λ x. now.top x c ≡ max (old.top x c) b.high) (sym e) (r.within c in'.0 in'.1) in
                elim (cases_lt z (old.top l c)) [
                  | inl p ↦ let g = (h.tops l c z).0 p in (g.0, omega arith, g.2)
                  | inr p ↦ (n, omega arith, record { same = sym e; left = in'.0; right = in'.1; high = omega arith })
                ]
          ]
        ],
        λ g. elim (eq-or-lt_of_le {n = g.0} {m = n} (let q = g.1 in omega arith)) [
          | inl e ↦
              let o = subst (λ k. ReachesOver (block blocks k) l c z) e g.2 in
              let q : now.top l c ≡ max (old.top l c) b.high =
              subst (λ x. now.top x c ≡ max (old.top x c) b.high) o.same (r.within c o.left o.right) in
              let high = o.high in
              omega arith
          | inr p ↦
              let t = (h.tops l c z).1 (g.0, p, g.2) in
              elim (layer_or_not l b.layer) [
                | inr other ↦ let e = r.others l c other in omega arith
                | inl e ↦ elim (in_or_out b.left b.right c) [
                  | inr out ↦ let q : now.top l c ≡ old.top l c =
                      subst (λ x. now.top x c ≡ old.top x c) (sym e) (r.beside c out) in omega arith
                  | inl in' ↦
                      let q : now.top l c ≡ max (old.top l c) b.high =
                      subst (λ x. now.top x c ≡ max (old.top x c) b.high) (sym e) (r.within c in'.0 in'.1) in
                      omega arith
                ]
              ]
        ],
      );
    }

-- those that begin above the row wait
pub rest_waits : (blocks : List Block) (row n : ℕ) → IsNonDecreasingBy (λ b. b.low) blocks
    → (n < length blocks → row < (block blocks n).low)
    → (k : ℕ) → n ≤ k → k < length blocks → row < (block blocks k).low
rest_waits blocks row n up h k l m = let a = up n k no_block l m in let b = h (omega arith) in omega arith

pub nothing_raised : (mask : Mask) (cells : ℕ) (blocks : List Block) (cover : Cover) → IsBare mask cells cover
    → AreRaised blocks 0 0 cover
nothing_raised mask cells blocks cover h = record {
  within = omega arith;
  begun = λ k l. absurd (omega arith);
  tops = λ l c z. (λ t. let e = h.none l c in absurd (omega arith), λ g. let m = g.1 in absurd (omega arith));
}

pub raised_later : (blocks : List Block) (row next n : ℕ) (cover : Cover) → row ≤ next → AreRaised blocks row n cover
    → AreRaised blocks next n cover
raised_later blocks row next n cover l h = record {
  within = h.within;
  begun = λ k m. let b = h.begun k m in omega arith;
  tops = h.tops;
}

pub fits : (mask : Mask) (cells rows : ℕ) (blocks : List Block) → AreStacked mask cells rows blocks
    → AreWithin mask cells blocks
fits mask cells rows blocks h = record {
  used = λ k d l. (h.each k d l).used;
  within = λ k d l. (h.each k d l).right;
  order = h.order;
}

-- runs of a row lie in it
pub runs_lie : (colour : ℕ → ℕ) (cells : ℕ) (runs : List Run) → AreRuns colour runs
    → ((c : ℕ) → cells ≤ c → colour c ≡ 0) → LieInRow cells runs
runs_lie colour cells runs h last = record {
  wide = λ k d l. (h.each k d l).wide;
  within = λ k d l.
      let r = get_or runs k d in
      let is = h.each k d l in
      let w = is.wide in
      elim (cases_lt cells r.right) [
        | inr m ↦ m
        | inl m ↦
            let e = is.each (r.right - 1) (omega arith) (omega arith) in
            let z = last (r.right - 1) (omega arith) in
            let s = is.some in
            absurd (omega arith)
      ];
  ascending = h.ascending;
}

-- the tree has the colours of the row whose blocks are raised
pub tree_tells : ColoursByLayers → (mask : Mask) (blocks : List Block) (row raised : ℕ) (cover : Cover)
    → cover.mask ≡ mask → AreRaised blocks row raised cover
    → ((k : ℕ) → raised ≤ k → k < length blocks → row < (block blocks k).low) → (c : ℕ)
    → painted mask blocks row c ≡ row_colour cover row c
tree_tells law mask blocks row raised cover e h rest c =
    sym (subst (λ m. row_colour cover row c ≡ painted m blocks row c) e
    (row_painted law blocks row raised cover c h rest))

-- the last cell has no colour
pub guarded : ColoursByLayers → (mask : Mask) (cells rows : ℕ) (blocks : List Block) (row : ℕ) (kept : KeptRuns)
    → AreStacked mask cells rows blocks
    → width_of kept ≡ cells → ((c : ℕ) → painted mask blocks row c ≡ colours_of kept c)
    → IsGuarded (width_of kept) (colours_of kept)
guarded law mask cells rows blocks row kept st w same =
    λ c l. sym (same c) ∙ blank_right law mask cells rows blocks row c st (omega arith)

-- runs in windows as those of the row that is painted
pub runs_painted : (colour : ℕ → ℕ) (kept : KeptRuns) (windows : List Window) (runs : List Run)
    → ((c : ℕ) → colour c ≡ colours_of kept c)
    → AreRuns (seen windows (colours_of kept)) runs → AreRuns (seen windows colour) runs
runs_painted colour kept windows runs same are =
    let e : colours_of kept ≡ colour = λ i c. sym (same c) i in
    subst (λ f. AreRuns (seen windows f) runs) e are

seen_blank : (windows : List Window) (f : ℕ → ℕ) (c : ℕ) → f c ≡ 0 → seen windows f c ≡ 0
seen_blank windows f c e = elim (cases_Bool (in_windows windows c)) [ inl t ↦ rw t e | inr t ↦ rw t refl ]

-- and they lie in the row
pub lie_in : ColoursByLayers
    → (mask : Mask) (cells rows : ℕ) (blocks : List Block) (row wide : ℕ) (windows : List Window) (runs : List Run)
    → AreStacked mask cells rows blocks → wide ≡ cells → AreRuns (seen windows (painted mask blocks row)) runs
    → LieInRow wide runs
lie_in law mask cells rows blocks row wide windows runs st e are =
    subst (λ n. LieInRow n runs) (sym e) (runs_lie (seen windows (painted mask blocks row)) cells runs are
    (λ c l. seen_blank windows (painted mask blocks row) c
    (blank_right law mask cells rows blocks row c st (omega arith))))

still_answer : (colour : ℕ → ℕ → ℕ) (old new : List Strip) (p : Spot) → KeepNumbers old new → (a : Option ℕ)
    → IsAnswer colour old p a → IsAnswer colour new p a
still_answer colour old new p k None h = h
still_answer colour old new p k (Some n) h =
    let same = k.each n h.0 in
    let longer = k.longer in
    let left = ap (λ (r : Run). r.left) same.run in
    let right = ap (λ (r : Run). r.right) same.run in
    let low = same.low in
    let a = h.1.left in
    let b = h.1.right in
    let c = h.1.low in (
      let m = h.0 in omega arith,
      record {
        left = omega arith;
        right = omega arith;
        low = omega arith;
        each = λ z l m. subst (IsRun (colour z)) same.run (h.1.each z (omega arith) m);
      },
    )

-- answers stay while strips keep their numbers
pub still_answered : (colour : ℕ → ℕ → ℕ) (old new : List Strip) (spots : List Spot) (n : ℕ) (found : List (Option ℕ))
    → KeepNumbers old new
    → AreAnswered colour old spots n found → AreAnswered colour new spots n found
still_answered colour old new spots n found k h = record {
  within = h.within;
  each = λ j l. still_answer colour old new (spot spots j) k (get_or found (spot spots j).index None) (h.each j l);
}

-- one more spot is answered
pub answered_more : (colour : ℕ → ℕ → ℕ) (strips : List Strip) (spots : List Spot) (n : ℕ) (found : List (Option ℕ))
    (a : Option ℕ)
    → AreAsked (length found) spots → n < length spots → AreAnswered colour strips spots n found
    → IsAnswer colour strips (spot spots n) a
    → AreAnswered colour strips spots (n + 1) (set found (spot spots n).index a)
answered_more colour strips spots n found a asked l h is = record {
  within = omega arith;
  each = λ j m.
      let i = (spot spots n).index in
      elim (cases_eq (spot spots j).index i) [
        | inl e ↦
            let same = asked.one n j l (omega arith) (sym e) in
            let at : get_or (set found i a) i None ≡ a = get_or-set_same found i a None (asked.within n no_spot l) in
            subst (λ p. IsAnswer colour strips p (get_or (set found i a) p.index None)) same
            (subst (IsAnswer colour strips (spot spots n)) (sym at) is)
        | inr other ↦
            let at : get_or (set found i a) (spot spots j).index None ≡ get_or found (spot spots j).index None =
            get_or-set_other found i _ a None other in
            subst (IsAnswer colour strips (spot spots j)) (sym at)
            (elim (eq-or-lt_of_le {n = j} {m = n} (omega arith)) [
              | inl e ↦ absurd (other (ap (λ k. (spot spots k).index) e))
              | inr p ↦ h.each j p
            ])
      ];
}

-- the run that has the cell is of a strip that has the spot
pub answer_run : (colour : ℕ → ℕ → ℕ) (row n : ℕ) (strips : StripRows) (kept : KeptRuns) (p : Spot) (r : Run)
    → IsFront colour row strips kept
    → IsRun (colours_of kept) r → r.left ≤ p.cell → p.cell < r.right → p.row ≡ row
    → ((colour : ℕ → ℕ → ℕ) (y : ℕ) → IsSwept colour y strips → (q : Run) → q.left ≡ r.left → IsRun (colour y) q
    → IsOpenAt colour y (strips_of strips) n q) → IsAnswer colour (strips_of strips) p (Some n)
answer_run colour row n strips kept p r front is a b e at =
    let same : colours_of kept ≡ colour row = λ i c. sym (front.same c) i in
    let o = at colour row front.swept r refl (subst (λ f. IsRun f r) same is) in
    let left = ap (λ (q : Run). q.left) o.run in
    let right = ap (λ (q : Run). q.right) o.run in
    let low = o.since.start in (
      o.among,
      record {
        left = omega arith;
        right = omega arith;
        low = omega arith;
        each = λ z x y. o.since.each z x (omega arith);
      },
    )

-- and where no run has it there is no colour
pub answer_none : (colour : ℕ → ℕ → ℕ) (row cell : ℕ) (strips : StripRows) (kept : KeptRuns) (p : Spot)
    → IsFront colour row strips kept
    → colours_of kept cell ≡ 0 → p.row ≡ row → p.cell ≡ cell → colour p.row p.cell ≡ 0
answer_none colour row cell strips kept p front z e f = rw (e, f) (front.same cell ∙ z)

pub nothing_answered : (colour : ℕ → ℕ → ℕ) (strips : List Strip) (spots : List Spot) (found : List (Option ℕ))
    → AreAnswered colour strips spots 0 found
nothing_answered colour strips spots found = record { within = omega arith; each = λ j l. absurd (omega arith) }

pub fit_tree : (mask m : Mask) (cells n rows : ℕ) (blocks : List Block) → m ≡ mask → n ≡ cells
    → AreStacked mask cells rows blocks → AreWithin m n blocks
fit_tree mask m cells n rows blocks e f st = rw (e, f) (fits mask cells rows blocks st)

-- what windows tell is told of the rows that are painted
pub whole_step : (colour : ℕ → ℕ → ℕ) (below : ℕ) (old now : KeptRuns) (changed same : List Run)
    (windows first second : List Window) (olds news : List Run)
    → ((c : ℕ) → colour below c ≡ colours_of old c) → ((c : ℕ) → colour (below + 1) c ≡ colours_of now c)
    → ChangeAt changed (colour below) (colour (below + 1)) → same ≡ changed → first ≡ windows → second ≡ windows
    → ((f : ℕ → ℕ → ℕ) (y : ℕ) → ((c : ℕ) → f y c ≡ colours_of old c) → ChangeAt same (f y) (f (y + 1))
    → TellChange f y windows)
    → AreRuns (seen first (colours_of old)) olds → AreRuns (seen second (colours_of now)) news
    → IsChange colour below olds news
whole_step colour below old now changed same windows first second olds news p q at g a b tell h k =
    tell colour below p (subst (λ ss. ChangeAt ss (colour below) (colour (below + 1))) (sym g) at) olds news
    (subst (λ ws. AreRuns (seen ws (colour below)) olds) a (runs_painted (colour below) old first olds p h))
    (subst (λ ws. AreRuns (seen ws (colour (below + 1))) news) b
    (runs_painted (colour (below + 1)) now second news q k))

-- the last cell has no colour in either row
pub last_alike : ColoursByLayers → (mask : Mask) (cells rows : ℕ) (blocks : List Block) (below : ℕ)
    → AreStacked mask cells rows blocks
    → (c : ℕ) → cells ≤ c + 1 → painted mask blocks below c ≡ painted mask blocks (below + 1) c
last_alike law mask cells rows blocks below st c l =
    blank_right law mask cells rows blocks below c st l
    ∙ sym (blank_right law mask cells rows blocks (below + 1) c st l)

-- nothing waits in row 0
pub rest_above : (mask : Mask) (cells rows : ℕ) (blocks : List Block) → AreStacked mask cells rows blocks → (k : ℕ)
    → k < length blocks → 0 < (block blocks k).low
rest_above mask cells rows blocks st k l = (st.each k no_block l).low

pub swept_first : ColoursByLayers → (mask : Mask) (cells rows : ℕ) (blocks : List Block) (strips : StripRows)
    → AreStacked mask cells rows blocks
    → ((colour : ℕ → ℕ → ℕ) → ((c : ℕ) → colour 0 c ≡ 0) → IsSwept colour 0 strips)
    → IsSwept (painted mask blocks) 0 strips
swept_first law mask cells rows blocks strips st h =
    h (painted mask blocks) (λ c. blank_below law mask cells rows blocks c st)

-- all spots are answered when all rows are swept
pub all_answered : (spots : List Spot) (rows below answered : ℕ) → All (λ s. s.row < rows) spots → rows ≤ below + 1
    → answered ≤ length spots
    → ((j : ℕ) → answered ≤ j → j < length spots → below < (spot spots j).row) → answered ≡ length spots
all_answered spots rows below answered h l m waiting = elim (cases_lt answered (length spots)) [
  | inr k ↦ omega arith
  | inl k ↦ let a = waiting answered (omega arith) k in let b = h answered no_spot k in absurd (omega arith)
]

pub up_to_own : {mask m : Mask} {cells n : ℕ} {blocks : List Block} {row raised : ℕ} {cover : Cover} → m ≡ mask
    → n ≡ cells → IsUpTo m n blocks row raised cover → IsUpTo mask cells blocks row raised cover
up_to_own e f h = record { of_mask = h.of_mask ∙ e; wide = h.wide ∙ f; are = h.are; waiting = h.waiting }

-- what the tree tells of the next row, when the blocks are raised that begin in it
pub next_told : {mask : Mask} {cells rows : ℕ} {blocks : List Block} {below : ℕ} {tree : CoverTree} {kept : KeptRuns}
    {strips : StripRows} {raised next : ℕ} {changed : List Run} (upper : CoverTree) → ColoursByLayers
    → AreStacked mask cells rows blocks
    → IsSweptTo mask cells blocks below raised tree kept strips
    → IsUpTo (cover_of tree).mask (cover_of tree).cells blocks (below + 1) next (cover_of upper)
    → ((c : ℕ) → told_of upper c ≡ told_of tree c)
    → AreChanges (told_of upper) (row_colour (cover_of upper) (below + 1)) (cover_of upper).cells changed
    → AreTold (painted mask blocks below) (painted mask blocks (below + 1)) cells changed
next_told {mask} {cells} {rows} {blocks} {below} {next = next} {changed = changed} upper law st inv up same h =
    let own = up_to_own inv.up_to.of_mask inv.up_to.wide up in
    told (told_of upper) (row_colour (cover_of upper) (below + 1)) (painted mask blocks below)
    (painted mask blocks (below + 1)) cells changed (λ c l. inv.told c l ∙ sym (same c))
    (tree_tells law mask blocks (below + 1) next (cover_of upper) own.of_mask own.are own.waiting)
    (last_alike law mask cells rows blocks below st)
    (subst (λ n. AreChanges (told_of upper) (row_colour (cover_of upper) (below + 1)) n changed) own.wide h)
