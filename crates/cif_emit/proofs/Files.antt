-- Commands at top level, one kind after another: what they draw, how many they are, and how their walk ends.
use Rattle.std.proofs.Common.{ℕ, suc, ◌≡◌, ◌+◌, ◌*◌, refl, sym, ◌∙◌, ap, subst, arith}
use Rattle.std.proofs.Common.{List, [], ◌∷◌, ◌++◌, map, length, get_or, append_assoc, None, All}
use Rattle.std.specs.Prelude.{ℤ, pos}
use Rattle.std.specs.List.{flat_map}
use Rattle.std.proofs.lemmas.Int.{ints}
use Rattle.std.proofs.lemmas.List.{append-nil}
use Rattle.std.proofs.lemmas.List.Elements.{All-append, All-filter, All-head, All-nil, All-tail}
use Rattle.lam_geom.specs.declared.layer.Layer.{Layer}
use Rattle.lam_geom.specs.declared.rect.Rect.{Rect}
use Rattle.lam_geom.specs.declared.label.FlatLabel.{FlatLabel}
use Rattle.lam_geom.specs.Moves.{IsNearRect}
use Rattle.cif_form.specs.declared.command.Command.{Command}
use Rattle.cif_form.specs.declared.command.Command.TheVariants.{Start, Finish}
use Rattle.cif_form.specs.Place.{placed}
use Rattle.cif_form.specs.Expansion.{Definition, Stands, Draws, Expands, item_at}
use Rattle.cif_form.specs.Counts.{Counts, CountsAtTop}
use Rattle.fabric.specs.declared.chip.ChipLabel.{ChipLabel}
use Rattle.fabric.specs.Labelled.{AreLabelsOf}
use Rattle.slice_symbols.specs.declared.symbols.Symbol.{Symbol}
use Rattle.slice_symbols.specs.Heights.{raised}
use Rattle.cif_emit.specs.Emittable.{IsDrawable, IsOnLambda, IsPlainLabel}
use Rattle.cif_emit.specs.Commands.{all_symbols, box_commands, call_at, drawn_on, is_on, label_of, layers, symbol}
use Rattle.cif_emit.specs.Commands.{symbol_commands, turns_of}
use Rattle.cif_emit.proofs.Offsets.{behind, laid, laid-append, next}
use Rattle.cif_emit.proofs.Drawn.{drawn}
use Rattle.cif_emit.proofs.Painted.{Paints, paints_boxes_of}
use Rattle.cif_emit.proofs.Raised.{all_placed, boxes_at, boxes_of, call_moves, motions}
use Rattle.cif_emit.proofs.Words.{flat_labels}
use Rattle.cif_emit.proofs.Expanded.{are_labels, boxes_inside, boxes_unnamed, counts_boxes, definition, draws_boxes}
use Rattle.cif_emit.proofs.Expanded.{labels_count, labels_expand}
use Rattle.cif_emit.proofs.Walked.{Ends, boxes_end, call_ends, define_ends, labels_end, top}

-- where these definitions stand, the commands draw the rectangles and labels, are n walked items, and their walk ends
pub record Follows (ds : List Definition) (at : ℕ → ℕ) (cs : List Command) (rs : List Rect) (flat : List FlatLabel)
    (n : ℕ) : Type 0 where
  pub expands : Expands ds None (laid at cs) rs
  pub counts : CountsAtTop ds (laid at cs) n
  pub ends : (names : List (List ℕ)) (k : ℕ) → Ends (top ds names k (laid at cs)) rs flat

-- ---- the labels

labels_follow : (ds : List Definition) (ls : List ChipLabel) → All IsPlainLabel ls → (at : ℕ → ℕ)
    → Follows ds at (map label_of ls) [] (flat_labels at ls) (length ls)
labels_follow ds ls plain at = record {
  expands = labels_expand ds ls at;
  counts = labels_count ds ls at;
  ends = λ names k. labels_end ds ls plain at names k;
}

-- ---- the calls of a symbol

-- each rectangle, raised so much, is near
abbrev AreNearAt : List Rect → ℤ → Type 0
AreNearAt rs h = All (λ r. IsNearRect (raised h r)) rs

-- the rectangles at each of the heights
abbrev at_heights : List Rect → List ℤ → List Rect
at_heights rs hs = flat_map (λ h. map (raised h) rs) hs

once_more : (m size n : ℕ) → 1 + size + (m * (1 + size) + n) ≡ suc m * (1 + size) + n
once_more m size n = grind arith

module _ (number : ℤ) (body : List Command) (rs : List Rect) (paints : Paints None body rs) (within : ℕ → ℕ)
    (ds : List Definition)
  where
    abbrev d : Definition
    d = definition number body within

    one_call : (h : ℤ) → IsOnLambda h → AreNearAt rs h → (at : ℕ → ℕ) (cs : List Command) (qs : List Rect)
        (flat : List FlatLabel) (n : ℕ) → Follows (d ∷ ds) (next at) cs qs flat n
        → Follows (d ∷ ds) at (call_at number h ∷ cs) (map (raised h) rs ++ qs) flat (1 + length body + n)
    one_call h on near at cs qs flat n f =
        record {
          expands = subst (λ ps. Expands (d ∷ ds) None (laid at (call_at number h ∷ cs)) (ps ++ qs))
              (append-nil (map (placed (motions h)) rs) ∙ all_placed h rs)
              (Expands.draw (call_at number h) (map (placed (motions h)) rs ++ []) tt
              (Draws.call number (turns_of h) d (motions h) rs (Stands.newest refl)
              (omega (arith, ints), omega (arith, ints)) (call_moves h on)
              (draws_boxes (d ∷ ds) paints within) Draws.done)
              f.expands);
          counts = subst (CountsAtTop (d ∷ ds) (laid at (call_at number h ∷ cs))) (omega arith)
              (CountsAtTop.item tt (Counts.call number (turns_of h) d refl (Stands.newest refl)
              (counts_boxes (d ∷ ds) paints within) Counts.none) f.counts);
          ends = λ names k. subst (λ ps. Ends (top (d ∷ ds) names k (laid at (call_at number h ∷ cs))) (ps ++ qs) flat)
              (all_placed h rs) (call_ends number h on (laid within body) ds names k (at 0) (laid (next at) cs)
              (boxes_end (d ∷ ds) names _ number h paints near within (k + 1) qs flat (λ m. f.ends names m)));
        }

    calls : (hs : List ℤ) → All IsOnLambda hs → All (AreNearAt rs) hs → (at : ℕ → ℕ) (cs : List Command)
        (qs : List Rect) (flat : List FlatLabel) (n : ℕ)
        → Follows (d ∷ ds) (behind (map (call_at number) hs) at) cs qs flat n
        → Follows (d ∷ ds) at (map (call_at number) hs ++ cs) (at_heights rs hs ++ qs) flat
        (length hs * (1 + length body) + n)
    calls [] on near at cs qs flat n f = subst (Follows (d ∷ ds) at cs qs flat) (omega arith) f
    calls (h ∷ hs) on near at cs qs flat n f =
        let more =
        calls hs (All-tail IsOnLambda h hs on) (All-tail (AreNearAt rs) h hs near) (next at) cs qs flat n f in
        let all = one_call h (All-head IsOnLambda h hs on) (All-head (AreNearAt rs) h hs near) at
        (map (call_at number) hs ++ cs) (at_heights rs hs ++ qs) flat (length hs * (1 + length body) + n) more in
        subst (λ m. Follows (d ∷ ds) at (call_at number h ∷ (map (call_at number) hs ++ cs))
        (at_heights rs (h ∷ hs) ++ qs) flat m) (once_more (length hs) (length body) n)
        (subst (λ ps. Follows (d ∷ ds) at (call_at number h ∷ (map (call_at number) hs ++ cs)) ps flat
        (1 + length body + (length hs * (1 + length body) + n)))
        (sym (append_assoc (map (raised h) rs) (at_heights rs hs) qs)) all)

-- ---- a symbol

-- the offsets behind a symbol's body
abbrev after_at : List Command → (ℕ → ℕ) → ℕ → ℕ
after_at body at = behind body (next at)

-- the items of a symbol and of what is behind it
symbol_laid : (number : ℤ) (body cs : List Command) (at : ℕ → ℕ)
    → laid at (symbol number body ++ cs)
    ≡ item_at (at 0) (Start number (pos 125) (pos 1)) ∷ (laid (next at) body ++ (item_at (after_at body at 0) Finish
    ∷ laid (next (after_at body at)) cs))
symbol_laid number body cs at =
    ap (λ cs. item_at (at 0) (Start number (pos 125) (pos 1)) ∷ laid (next at) cs)
    (append_assoc body (Finish ∷ []) cs)
    ∙ ap (λ is. item_at (at 0) (Start number (pos 125) (pos 1)) ∷ is) (laid-append body (Finish ∷ cs) (next at))

module _ (number : ℤ) (body : List Command) (rs : List Rect) (paints : Paints None body rs) (at : ℕ → ℕ)
    (ds : List Definition)
  where
    -- behind a definition it stands
    defines : (cs : List Command) (qs : List Rect) (flat : List FlatLabel) (n : ℕ)
        → Follows (definition number body (next at) ∷ ds) (next (after_at body at)) cs qs flat n
        → Follows ds at (symbol number body ++ cs) qs flat n
    defines cs qs flat n f =
        let same = sym (symbol_laid number body cs at) in
        let inside = boxes_inside paints (next at) in
        let unnamed = boxes_unnamed paints (next at) in
        record {
          expands = subst (λ is. Expands ds None is qs) same
              (Expands.define number (pos 125) (pos 1) None (laid (next at) body) _
              (after_at body at 0) inside unnamed refl f.expands);
          counts = subst (λ is. CountsAtTop ds is n) same
              (CountsAtTop.define number (pos 125) (pos 1) None (laid (next at) body) _ (after_at body at 0) refl inside
              unnamed refl f.counts);
          ends = λ names k. subst (λ is. Ends (top ds names k is) qs flat) same
              (define_ends number (laid (next at) body) inside unnamed ds names k (at 0) (after_at body at 0)
              (laid (next (after_at body at)) cs) (f.ends names));
        }

-- ---- all symbols

all_on : (P : Rect → Type 0) (ls : List Layer) (rs : List Rect) → All P rs → All P (drawn ls rs)
all_on P [] rs h = All-nil P
all_on P (l ∷ ls) rs h = All-append P (drawn_on l rs) (drawn ls rs) (All-filter (is_on l) P rs h) (all_on P ls rs h)

near_drawn : (rs : List Rect) (hs : List ℤ) → All (AreNearAt rs) hs → All (AreNearAt (drawn layers rs)) hs
near_drawn rs hs near = λ k e within. all_on (λ r. IsNearRect (raised (get_or hs k e) r)) layers rs
    (near k e within)

-- how many walked items symbols are
abbrev pub count_of : List Symbol → ℕ
count_of [] = 0
count_of (s ∷ ss) = length s.heights * (1 + length (box_commands s.shapes)) + count_of ss

-- commands draw the symbols and the labels
pub record DrawAll (symbols : List Symbol) (labels : List ChipLabel) (ds : List Definition) (at : ℕ → ℕ)
    (cs : List Command) : Type 0 where
  pub flat : List FlatLabel
  pub are_labels : AreLabelsOf labels flat
  pub follows : Follows ds at cs (boxes_of symbols) flat (count_of symbols + length labels)

module _ (labels : List ChipLabel) (plain : All IsPlainLabel labels) where
  one_symbol : (number : ℕ) (s : Symbol) (ss : List Symbol) → IsDrawable s → (cs : List Command)
      → ((ds : List Definition) (at : ℕ → ℕ) → DrawAll ss labels ds at cs)
      → (ds : List Definition) (at : ℕ → ℕ) → DrawAll (s ∷ ss) labels ds at (symbol_commands number s ++ cs)
  one_symbol number s ss is cs behind_it ds at =
      let body : List Command = box_commands s.shapes in
      let rs : List Rect = drawn layers s.shapes in
      let paints = paints_boxes_of s.shapes is.corners None in
      let head : List Command = map (call_at (pos number)) s.heights in
      let after : ℕ → ℕ = next (after_at body at) in
      let f = behind_it (definition (pos number) body (next at) ∷ ds) (behind head after) in
      let n : ℕ = count_of ss + length labels in
      let called = calls (pos number) body rs paints (next at) ds s.heights is.heights
      (near_drawn s.shapes s.heights is.near) after cs (boxes_of ss) f.flat n f.follows in
      let all = defines (pos number) body rs paints at ds (head ++ cs) (boxes_at s.shapes s.heights ++ boxes_of ss)
      f.flat (length s.heights * (1 + length body) + n) called in
      let same : length s.heights * (1 + length body) + n ≡ count_of (s ∷ ss) + length labels = omega arith in
      record {
        flat = f.flat;
        are_labels = f.are_labels;
        follows = subst (λ ks. Follows ds at ks (boxes_of (s ∷ ss)) f.flat (count_of (s ∷ ss) + length labels))
            (sym (append_assoc (symbol (pos number) body) head cs))
            (subst (Follows ds at (symbol (pos number) body ++ (head ++ cs)) (boxes_of (s ∷ ss)) f.flat) same all);
      }

  pub all_follow : (number : ℕ) (symbols : List Symbol) → All IsDrawable symbols → (ds : List Definition) (at : ℕ → ℕ)
      → DrawAll symbols labels ds at (all_symbols number symbols ++ map label_of labels)
  all_follow number [] each ds at = record {
    flat = flat_labels at labels;
    are_labels = are_labels labels at;
    follows = subst (Follows ds at (map label_of labels) [] (flat_labels at labels)) (omega arith)
        (labels_follow ds labels plain at);
  }
  all_follow number (s ∷ ss) each ds at =
      subst (DrawAll (s ∷ ss) labels ds at)
      (sym (append_assoc (symbol_commands number s) (all_symbols (suc number) ss) (map label_of labels)))
      (one_symbol number s ss (All-head IsDrawable s ss each) (all_symbols (suc number) ss ++ map label_of labels)
      (λ es bt. all_follow (suc number) ss (All-tail IsDrawable s ss each) es bt) ds at)
