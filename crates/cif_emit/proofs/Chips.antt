-- The commands of a chip draw it.
use Rattle.std.proofs.Common.{ℕ, suc, ◌≡◌, ◌+◌, ◌*◌, ◌<◌, ◌≤◌, ◌⊎◌, inl, inr, refl, sym, ◌∙◌, ap, subst, arith}
use Rattle.mp_base.proofs.Numbers.{times_suc}
use Rattle.std.proofs.Common.{List, [], ◌∷◌, ◌++◌}
use Rattle.std.proofs.Math.Nat.{mul-le-mul_left}
use Rattle.std.proofs.Common.{map, length, length-append, append_assoc, lit<, lit≤, true, false, Option, None, All}
use Rattle.std.specs.Prelude.{ℤ, pos, ◌≤ℤ◌}
use Rattle.std.specs.List.{flat_map}
use Rattle.std.proofs.lemmas.Int.{ints}
use Rattle.std.proofs.lemmas.List.{length-map}
use Rattle.std.proofs.lemmas.List.Elements.{
  All-nil,
  All-cons,
  All-append,
  All-head,
  All-map,
  All-tail,
  All-weaker,
}
use Rattle.lam_geom.specs.declared.layer.Layer.{Layer}
use Rattle.lam_geom.specs.declared.layer.Layer.TheVariants.{ND, NP, NC, NM, NI, NB, NG}
use Rattle.lam_geom.specs.declared.rect.Rect.{Rect}
use Rattle.lam_geom.specs.declared.label.FlatLabel.{FlatLabel}
use Rattle.cif_form.specs.declared.command.Command.{Command}
use Rattle.cif_form.specs.declared.command.Command.TheVariants as commands
use Rattle.cif_form.specs.declared.command.Command.TheVariants.{Start, Finish}
use Rattle.cif_form.specs.declared.command.Item.{Item}
use Rattle.cif_form.specs.Place.{layer_name}
use Rattle.cif_form.specs.Text.{IsDigit, IsUpper, IsShortName}
use Rattle.cif_form.specs.Fits.{Fits, IsSmall}
use Rattle.cif_form.specs.Scans.{Nests}
use Rattle.cif_form.specs.Laws.{WalkIsUnique}
use Rattle.cif_form.specs.Counts.{FileCounts, CountKeepsLimit}
use Rattle.cif_form.specs.Walk.{DrawRule, FileWalks, walk_limit, start}
use Rattle.cif_form.specs.Walk.DrawRule.{F7}
use Rattle.cif_form.specs.Walk.WalkEnd.{Whole, Broken}
use Rattle.cif_form.proofs.Fitting.{IsUnsigned}
use Rattle.fabric.specs.declared.chip.ChipLabel.{ChipLabel}
use Rattle.slice_symbols.specs.declared.symbols.Symbol.{Symbol}
use Rattle.slice_symbols.specs.Heights.{raised}
use Rattle.cif_emit.specs.Emittable.{IsDrawable, IsOnLambda, IsPlainLabel}
use Rattle.cif_emit.specs.Emitted.{AreSymbolsFor, IsDrawnBy, IsEmitted}
use Rattle.cif_emit.specs.Commands.{layers, drawn_on, box_of, box_commands, layer_commands, symbol, label_of}
use Rattle.cif_emit.specs.Commands.{all_symbols, call_at, chip_commands, symbol_commands}
use Rattle.cif_emit.proofs.Offsets.{laid, are_laid}
use Rattle.cif_emit.proofs.Drawn.{drawn}
use Rattle.cif_emit.proofs.Painted.{Paints, paints_boxes_of}
use Rattle.cif_emit.proofs.Edges.{box_fits}
use Rattle.cif_emit.proofs.Words.{label_fits}
use Rattle.cif_emit.proofs.Raised.{boxes_at, boxes_of, call_fits, few_boxes, same_boxes}
use Rattle.cif_emit.proofs.Walked.{Ends}
use Rattle.cif_emit.proofs.Files.{all_follow, count_of}

-- ---- commands that fit, each where it may stand

two_letters : (b c : ℕ) → IsUpper b → IsUpper c → IsShortName (b ∷ c ∷ [])
two_letters b c hb hc = (
  lit< tt,
  lit≤ tt,
  All-cons (λ b. IsDigit b ⊎ IsUpper b) b (c ∷ []) (inr hb)
      (All-cons (λ b. IsDigit b ⊎ IsUpper b) c [] (inr hc) (All-nil (λ b. IsDigit b ⊎ IsUpper b))),
)

short : (m : Layer) → IsShortName (layer_name m)
short ND = two_letters 78 68 (lit≤ tt, lit≤ tt) (lit≤ tt, lit≤ tt)
short NP = two_letters 78 80 (lit≤ tt, lit≤ tt) (lit≤ tt, lit≤ tt)
short NC = two_letters 78 67 (lit≤ tt, lit≤ tt) (lit≤ tt, lit≤ tt)
short NM = two_letters 78 77 (lit≤ tt, lit≤ tt) (lit≤ tt, lit≤ tt)
short NI = two_letters 78 73 (lit≤ tt, lit≤ tt) (lit≤ tt, lit≤ tt)
short NB = two_letters 78 66 (lit≤ tt, lit≤ tt) (lit≤ tt, lit≤ tt)
short NG = two_letters 78 71 (lit≤ tt, lit≤ tt) (lit≤ tt, lit≤ tt)

pub layer_fits : (m : Layer) → Fits (commands.Layer (layer_name m))
layer_fits m = record {
  unsigned = All-nil (λ z. (pos 0 ≤ℤ z) × IsSmall z);
  signed = All-nil IsSmall;
  formed = short m;
}

boxes_fit : {l : Option Layer} {cs : List Command} {rs : List Rect} → Paints l cs rs → All Fits cs
boxes_fit Paints.none = All-nil Fits
boxes_fit (Paints.layer {cs = cs} m p) = All-cons Fits (commands.Layer (layer_name m)) cs (layer_fits m) (boxes_fit p)
boxes_fit (Paints.box {cs = cs} r b p) = All-cons Fits (box_of r) cs (box_fits r b.grid b.solid) (boxes_fit p)

labels_fit : (ls : List ChipLabel) → All IsPlainLabel ls → All Fits (map label_of ls)
labels_fit ls h = All-map Fits label_of ls (All-weaker IsPlainLabel (λ l. Fits (label_of l))
    (λ l p. label_fits l p) ls h)

pub start_fits : (number : ℤ) → IsUnsigned number → Fits (Start number (pos 125) (pos 1))
start_fits number h = record {
  unsigned = All-cons IsUnsigned number (pos 125 ∷ pos 1 ∷ []) h
      (All-cons IsUnsigned (pos 125) (pos 1 ∷ []) (omega (arith, ints), lit< tt)
      (All-cons IsUnsigned (pos 1) [] (omega (arith, ints), lit< tt) (All-nil IsUnsigned)));
  signed = All-nil IsSmall;
  formed = tt;
}

small_number : (number : ℕ) → number < 100 → IsUnsigned (pos number)
small_number number h = (omega (arith, ints), omega (arith, h))

pub finish_fits : Fits Finish
finish_fits = record { unsigned = All-nil IsUnsigned; signed = All-nil IsSmall; formed = tt }

boxes_nest : {l : Option Layer} {cs : List Command} {rs : List Rect} (ds : List Command) → Paints l cs rs
    → Nests true ds → Nests true (cs ++ ds)
boxes_nest ds Paints.none n = n
boxes_nest ds (Paints.layer m p) n = (true, refl, boxes_nest ds p n)
boxes_nest ds (Paints.box r b p) n = (true, refl, boxes_nest ds p n)

labels_nest : (ls : List ChipLabel) → Nests false (map label_of ls)
labels_nest [] = refl
labels_nest (l ∷ ls) = (false, refl, labels_nest ls)

-- ---- the laws of walks that are used

pub record AreLaws : Type 0 where
  pub walk : WalkIsUnique
  pub limit : CountKeepsLimit

module _ (laws : AreLaws) (items : List Item) (shapes : List Rect) (flat : List FlatLabel)
    (ends : Ends (start items) shapes flat) where
  -- within the limit the walk is whole
  walks_whole : (n : ℕ) → FileCounts items n → n ≤ walk_limit → FileWalks items shapes flat Whole
  walks_whole n counts few = elim ends [
    | inl w ↦ w
    | inr (rs, ls, offset, w) ↦ absurd (laws.limit items n counts few rs ls offset w)
  ]

  breaks_count : (rs : List Rect) (ls : List FlatLabel) (rule : DrawRule) (offset : ℕ)
      → FileWalks items rs ls (Broken rule offset) → rule ≡ F7
  breaks_count rs ls rule offset w = elim ends [
    | inl own ↦ absurd (let e : Broken rule offset ≡ Whole =
        (laws.walk items rs shapes ls flat (Broken rule offset) Whole w own).2 in cc)
    | inr (qs, ms, at, own) ↦ let e : Broken rule offset ≡ Broken F7 at =
        (laws.walk items rs qs ls ms (Broken rule offset) (Broken F7 at) w own).2 in cc
  ]

-- ---- the chip

-- a layer's boxes and its name are at most one command more than its rectangles
layer_length : (l : Layer) (rs : List Rect) → length (layer_commands l rs) ≤ 1 + length rs
layer_length l [] = lit≤ tt
layer_length l (r ∷ rs) = let a = length-map rs box_of in omega arith

body_length : (ls : List Layer) (rects : List Rect)
    → length (flat_map (λ l. layer_commands l (drawn_on l rects)) ls) ≤ length ls + length (drawn ls rects)
body_length [] rects = lit≤ tt
body_length (l ∷ ls) rects =
    let a = layer_length l (drawn_on l rects) in
    let i = body_length ls rects in
    let b = length-append (layer_commands l (drawn_on l rects))
    (flat_map (λ l. layer_commands l (drawn_on l rects)) ls) in
    let c = length-append (drawn_on l rects) (drawn ls rects) in
    omega arith

-- a symbol's boxes and their layers' names, at each of its heights
symbol_count : (m size most : ℕ) → m ≤ 64 → size ≤ 7 + most → m * (1 + size) ≤ 512 + m * most
symbol_count m size most h k =
    let a : m * (1 + size) ≤ m * (8 + most) = mul-le-mul_left m (omega (arith, k)) in
    let b : m * (8 + most) ≡ 8 * m + m * most = grind arith in
    omega (arith, a, b, h)

boxes_length : (rs : List Rect) (hs : List ℤ) → length (boxes_at rs hs) ≡ length hs * length (drawn layers rs)
boxes_length rs [] = omega arith
boxes_length rs (h ∷ hs) =
    length-append (map (raised h) (drawn layers rs)) (boxes_at rs hs)
    ∙ (λ i. length-map (drawn layers rs) (raised h) i + boxes_length rs hs i)
    ∙ times_suc (length hs) (length (drawn layers rs))

few_items : (symbols : List Symbol) → All IsDrawable symbols
    → count_of symbols ≤ 512 * length symbols + length (boxes_of symbols)
few_items [] each = lit≤ tt
few_items (s ∷ ss) each =
    let i = few_items ss (All-tail IsDrawable s ss each) in
    let is = All-head IsDrawable s ss each in
    let a = symbol_count (length s.heights) (length (box_commands s.shapes)) (length (drawn layers s.shapes)) is.few
    (body_length layers s.shapes) in
    let b = boxes_length s.shapes s.heights in
    let c = length-append (boxes_at s.shapes s.heights) (boxes_of ss) in
    omega (arith, i, a, b, c)

calls_fit : (number : ℕ) → number < 100 → (hs : List ℤ) → All IsOnLambda hs → All Fits (map (call_at (pos number)) hs)
calls_fit number few hs on =
    All-map Fits (call_at (pos number)) hs (All-weaker IsOnLambda (λ h. Fits (call_at (pos number) h))
    (λ h p. call_fits (pos number) (small_number number few) h p) hs on)

symbols_fit : (number : ℕ) (symbols : List Symbol) → number + length symbols < 100 → All IsDrawable symbols
    → All Fits (all_symbols number symbols)
symbols_fit number [] few each = All-nil Fits
symbols_fit number (s ∷ ss) few each =
    let is = All-head IsDrawable s ss each in
    let body : List Command = box_commands s.shapes in
    let closed : All Fits (body ++ (Finish ∷ [])) = All-append Fits body (Finish ∷ [])
    (boxes_fit (paints_boxes_of s.shapes is.corners None)) (All-cons Fits Finish [] finish_fits (All-nil Fits)) in
    All-append Fits (symbol_commands number s) (all_symbols (suc number) ss)
    (All-append Fits (symbol (pos number) body) (map (call_at (pos number)) s.heights)
    (All-cons Fits (Start (pos number) (pos 125) (pos 1)) (body ++ (Finish ∷ []))
    (start_fits (pos number) (small_number number (omega (arith, few)))) closed)
    (calls_fit number (omega (arith, few)) s.heights is.heights))
    (symbols_fit (suc number) ss (omega (arith, few)) (All-tail IsDrawable s ss each))

calls_nest : (number : ℤ) (hs : List ℤ) (ds : List Command) → Nests false ds
    → Nests false (map (call_at number) hs ++ ds)
calls_nest number [] ds n = n
calls_nest number (h ∷ hs) ds n = (false, refl, calls_nest number hs ds n)

symbol_nests : (number : ℕ) (s : Symbol) → IsDrawable s → (ds : List Command) → Nests false ds
    → Nests false (symbol_commands number s ++ ds)
symbol_nests number s is ds n =
    let body : List Command = box_commands s.shapes in
    let head : List Command = map (call_at (pos number)) s.heights in
    let tail : List Command = head ++ ds in
    subst (Nests false) (sym (append_assoc (symbol (pos number) body) head ds)) (
      true,
      refl,
      subst (Nests true) (sym (append_assoc body (Finish ∷ []) tail))
          (boxes_nest (Finish ∷ tail) (paints_boxes_of s.shapes is.corners None)
          (false, refl, calls_nest (pos number) s.heights ds n)),
    )

symbols_nest : (number : ℕ) (symbols : List Symbol) → All IsDrawable symbols → (ds : List Command) → Nests false ds
    → Nests false (all_symbols number symbols ++ ds)
symbols_nest number [] each ds n = n
symbols_nest number (s ∷ ss) each ds n =
    subst (Nests false) (sym (append_assoc (symbol_commands number s) (all_symbols (suc number) ss) ds))
    (symbol_nests number s (All-head IsDrawable s ss each) (all_symbols (suc number) ss ++ ds)
    (symbols_nest (suc number) ss (All-tail IsDrawable s ss each) ds n))

module _ (laws : AreLaws) (rects : List Rect) (labels : List ChipLabel) (symbols : List Symbol)
    (are : AreSymbolsFor rects labels symbols)
  where
    abbrev all : List Command
    all = chip_commands symbols labels

    laid_draws : (at : ℕ → ℕ) → IsDrawnBy rects labels (laid at all)
    laid_draws at =
        let each = (are.drawable).each in
        let follows = all_follow labels (are.drawable).names 1 symbols each [] at in
        let f = follows.follows in
        let few = few_boxes symbols in
        let fewer = are.few in
        let count = few_items symbols each in
        let two = (are.drawable).two in
        record {
          shapes = boxes_of symbols;
          flat = follows.flat;
          expands = f.expands;
          same = λ l x y. let a = are.same l x y in let b = same_boxes symbols l x y in
              (λ c. b.0 (a.0 c), λ c. a.1 (b.1 c));
          few = omega (arith, few, fewer);
          labelled = follows.are_labels;
          count = count_of symbols + length labels;
          counted = f.counts;
          few_walked = omega (arith, few, fewer, count, two);
          walks = walks_whole laws (laid at all) (boxes_of symbols) follows.flat (f.ends [] 0)
              (count_of symbols + length labels) f.counts;
          breaks = breaks_count laws (laid at all) (boxes_of symbols) follows.flat (f.ends [] 0);
        }

    pub chip_emitted : IsEmitted rects labels all
    chip_emitted =
        let each = (are.drawable).each in
        let two = (are.drawable).two in
        record {
          fit = All-append Fits (all_symbols 1 symbols) (map label_of labels)
              (symbols_fit 1 symbols (omega (arith, two)) each) (labels_fit labels (are.drawable).names);
          nest = symbols_nest 1 symbols each (map label_of labels) (labels_nest labels);
          drawn = λ items e.
              let at = are_laid items in
              subst (IsDrawnBy rects labels) (sym (at.1 ∙ ap (laid at.0) e)) (laid_draws at.0);
        }
