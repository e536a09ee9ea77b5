-- What is left at a cursor is the command there, and what is left behind it.
use Rattle.std.proofs.Common.{ℕ, suc, ◌≡◌, ◌+◌, ◌<◌, ◌≤◌, sym, ◌∙◌, ap, subst, arith, true, false, cond}
use Rattle.std.proofs.Common.{List, [], ◌∷◌, ◌++◌, map, length, drop, get_or, drop-cons, append_assoc, Some}
use Rattle.std.specs.Prelude.{ℤ, pos, slice_get, Result, Ok, Err, IfOk}
use Rattle.std.specs.List.{flat_map}
use Rattle.std.proofs.lemmas.List.{append-nil, drop_all, get_or_default, map-append}
use Rattle.std.proofs.lemmas.Option.{slice_get-get_or, get_or_from_slice_get}
use Rattle.mp_base.specs.declared.refusal.NoMemory.{NoMemory}
use Rattle.lam_geom.specs.declared.layer.Layer.{Layer}
use Rattle.lam_geom.specs.declared.rect.Rect.{Rect}
use Rattle.cif_form.specs.declared.command.Command.{Command}
use Rattle.cif_form.specs.declared.command.Command.TheVariants as commands
use Rattle.cif_form.specs.declared.command.Item.{Item}
use Rattle.cif_form.specs.Place.{layer_name}
use Rattle.cif_writer.specs.Texts.{commands_of}
use Rattle.fabric.specs.declared.chip.Chip.{Chip}
use Rattle.fabric.specs.declared.chip.ChipLabel.{ChipLabel}
use Rattle.slice_symbols.specs.declared.symbols.Symbol.{Symbol}
use Rattle.cif_emit.specs.Commands.{layers, is_on, drawn_on, box_of, layer_commands, box_commands, label_of}
use Rattle.cif_emit.specs.Commands.{chip_commands}
use Rattle.cif_emit.specs.Commands.{all_symbols, call_at, symbol}
use Rattle.cif_emit.specs.Emitted.{AreCommandsOf, AreSymbolsOfChip, IsEmitted}
use Rattle.cif_emit.specs.Rest.{calls_from, from_symbol, no_symbol, rest_of_symbol, symbol_at, IsNextOn, IsNextLayer}

-- ---- the rectangles of a layer

module _ (l : Layer) (rs : List Rect) where
  rect_here : (i : ℕ) (d : Rect) → i < length rs
      → drawn_on l (drop i rs) ≡ cond (is_on l (get_or rs i d)) (get_or rs i d ∷ drawn_on l (drop (i + 1) rs))
      (drawn_on l (drop (i + 1) rs))
  rect_here i d h =
      let r = get_or rs i d in
      let next : suc i ≡ i + 1 = omega arith in
      ap (drawn_on l) (drop-cons rs i d h)
      ∙ ap (λ k. cond (is_on l r) (r ∷ drawn_on l (drop k rs)) (drawn_on l (drop k rs))) next

  -- one that isn't on the layer is passed over
  pub passed : (start i : ℕ) (d : Rect) → i < length rs → is_on l (get_or rs i d) ≡ false
      → drawn_on l (drop start rs) ≡ drawn_on l (drop i rs)
      → drawn_on l (drop start rs) ≡ drawn_on l (drop (i + 1) rs)
  passed start i d h off same =
      let r = get_or rs i d in
      let left = drawn_on l (drop (i + 1) rs) in
      same ∙ rect_here i d h ∙ ap (λ b. cond b (r ∷ left) left) off

  -- one that is on it is the next
  pub found : (start i : ℕ) (d : Rect) → i < length rs → is_on l (get_or rs i d) ≡ true
      → drawn_on l (drop start rs) ≡ drawn_on l (drop i rs) → IsNextOn l rs start i
  found start i d h on same =
      let r = get_or rs i d in
      let left = drawn_on l (drop (i + 1) rs) in
      let here : drawn_on l (drop i rs) ≡ r ∷ left = rect_here i d h ∙ ap (λ b. cond b (r ∷ left) left) on in
      record { within = h; rect = r; is = slice_get-get_or rs i d h; on = on; first = same ∙ here; same = same }

  -- none is left at the end
  pub none_on : (start i : ℕ) → length rs ≤ i → drawn_on l (drop start rs) ≡ drawn_on l (drop i rs)
      → drawn_on l (drop start rs) ≡ []
  none_on start i h same = same ∙ ap (drawn_on l) (drop_all i rs h)

-- ---- the layers

module _ (rs : List Rect) where
  -- the boxes of these layers
  abbrev pub boxes_on : List Layer → List Command
  boxes_on ls = flat_map (λ l. layer_commands l (drawn_on l rs)) ls

  layer_here : (i : ℕ) (d : Layer) → i < length layers → boxes_on (drop i layers)
      ≡ layer_commands (get_or layers i d) (drawn_on (get_or layers i d) rs) ++ boxes_on (drop (i + 1) layers)
  layer_here i d h =
      let next : suc i ≡ i + 1 = omega arith in
      let l = get_or layers i d in
      ap boxes_on (drop-cons layers i d h)
      ∙ ap (λ k. layer_commands l (drawn_on l rs) ++ boxes_on (drop k layers)) next

  -- a layer without boxes is passed over
  pub layer_passed : (ls : List Layer) (start i : ℕ) (d : Layer) → ls ≡ layers → i < length ls
      → drawn_on (get_or ls i d) rs ≡ [] → boxes_on (drop start layers) ≡ boxes_on (drop i layers)
      → boxes_on (drop start layers) ≡ boxes_on (drop (i + 1) layers)
  layer_passed ls start i d are h none same =
      let P : List Layer → Type 0 = λ ks. i < length ks → drawn_on (get_or ks i d) rs ≡ []
      → boxes_on (drop start layers) ≡ boxes_on (drop (i + 1) layers) in
      subst P (sym are) (λ within off. same ∙ layer_here i d within
      ∙ ap (λ on. layer_commands (get_or layers i d) on ++ boxes_on (drop (i + 1) layers)) off) h none

  pub layer_found : (ls : List Layer) (start i at : ℕ) (d : Layer) → ls ≡ layers → i < length ls
      → IsNextOn (get_or ls i d) rs 0 at → boxes_on (drop start layers) ≡ boxes_on (drop i layers)
      → IsNextLayer rs start i at
  layer_found ls start i at d are h on same =
      let P : List Layer → Type 0 = λ ks. i < length ks → IsNextOn (get_or ks i d) rs 0 at
      → IsNextLayer rs start i at in
      subst P (sym are) (λ within drawn. record {
        within = within;
        layer = get_or layers i d;
        is = slice_get-get_or layers i d within;
        drawn = drawn;
        first = same;
      }) h on

  pub none_layer : (ls : List Layer) (start i : ℕ) → ls ≡ layers → length ls ≤ i
      → boxes_on (drop start layers) ≡ boxes_on (drop i layers)
      → boxes_on (drop start layers) ≡ []
  none_layer ls start i are h same = same ∙ ap boxes_on (drop_all i layers (subst (λ ks. length ks ≤ i) are h))

  -- ---- what is left

  -- behind the last layer the symbol ends
  pub symbol_ends : (start : ℕ) (behind : List Command) → boxes_on (drop start layers) ≡ []
      → rest_of_symbol start rs behind ≡ commands.Finish ∷ behind
  symbol_ends start behind none = ap (λ body. body ++ (commands.Finish ∷ behind)) none

  -- the next layer is named, and then come its boxes
  pub layer_named : (start number at : ℕ) (l : Layer) (behind : List Command) → IsNextLayer rs start number at
      → slice_get layers number ≡ Some l
      → rest_of_symbol start rs behind ≡ commands.Layer (layer_name l)
      ∷ (map box_of (drawn_on l (drop at rs)) ++ rest_of_symbol (number + 1) rs behind)
  layer_named start number at l behind n is =
      let here : get_or layers number l ≡ l = get_or_from_slice_get layers number l l is in
      let same : n.layer ≡ l = sym (get_or_from_slice_get layers number n.layer l n.is) ∙ here in
      let on : IsNextOn l rs 0 at = subst (λ k. IsNextOn k rs 0 at) same n.drawn in
      let left = drawn_on l (drop (at + 1) rs) in
      let all : drawn_on l rs ≡ on.rect ∷ left = on.first in
      let some : drawn_on l (drop at rs) ≡ on.rect ∷ left = sym on.same ∙ on.first in
      let later = boxes_on (drop (number + 1) layers) in
      let end = commands.Finish ∷ behind in
      let name = commands.Layer (layer_name l) in
      ap (λ body. body ++ end) (n.first ∙ layer_here number l n.within
      ∙ ap (λ k. layer_commands k (drawn_on k rs) ++ later) here
      ∙ ap (λ rects. layer_commands l rects ++ later) all)
      ∙ append_assoc (name ∷ map box_of (on.rect ∷ left)) later end
      ∙ ap (λ rects. name ∷ (map box_of rects ++ (later ++ end))) (sym some)

  -- a box, where one is left on the layer
  pub box_here : (l : Layer) (start at : ℕ) (d : Rect) (later : List Command) → IsNextOn l rs start at
      → map box_of (drawn_on l (drop start rs)) ++ later
      ≡ box_of (get_or rs at d) ∷ (map box_of (drawn_on l (drop (at + 1) rs)) ++ later)
  box_here l start at d later n =
      ap (λ rects. map box_of rects ++ later) n.first
      ∙ ap (λ r. box_of r ∷ (map box_of (drawn_on l (drop (at + 1) rs)) ++ later))
      (sym (get_or_from_slice_get rs at n.rect d n.is))

  pub no_box_here : (l : Layer) (start : ℕ) (later : List Command) → drawn_on l (drop start rs) ≡ []
      → map box_of (drawn_on l (drop start rs)) ++ later ≡ later
  no_box_here l start later none = ap (λ rects. map box_of rects ++ later) none

-- ---- the symbols

-- the first symbol of those from one on
pub symbols_here : (symbols : List Symbol) (i : ℕ) (labels : List ChipLabel) → i < length symbols
    → from_symbol i symbols labels ≡ commands.Start (pos (suc i)) (pos 125) (pos 1)
    ∷ rest_of_symbol 0 (symbol_at symbols i).shapes (calls_from i 0 symbols labels)
symbols_here symbols i labels h =
    let s : Symbol = symbol_at symbols i in
    let number : ℤ = pos (suc i) in
    let body : List Command = box_commands s.shapes in
    let head : List Command = map (call_at number) s.heights in
    let later : List Command = all_symbols (suc (suc i)) (drop (suc i) symbols) in
    let names : List Command = map label_of labels in
    ap (λ ss. all_symbols (suc i) ss ++ names) (drop-cons symbols i no_symbol h)
    ∙ append_assoc (symbol number body ++ head) later names
    ∙ append_assoc (symbol number body) head (later ++ names)
    ∙ ap (λ cs. commands.Start number (pos 125) (pos 1) ∷ cs)
    (append_assoc body (commands.Finish ∷ []) (head ++ (later ++ names)))

-- behind the last are the labels
pub no_symbol_here : (symbols : List Symbol) (i : ℕ) (labels : List ChipLabel) → length symbols ≤ i
    → from_symbol i symbols labels ≡ map label_of (drop 0 labels)
no_symbol_here symbols i labels h = ap (λ ss. all_symbols (suc i) ss ++ map label_of labels) (drop_all i symbols h)

-- the rectangles of a symbol that is read
pub shapes_here : (symbols : List Symbol) (i : ℕ) (s : Symbol) (rects : List Rect) → i < length symbols
    → rects ≡ (get_or symbols i s).shapes → rects ≡ (symbol_at symbols i).shapes
shapes_here symbols i s rects h same =
    same ∙ ap (λ (t : Symbol). t.shapes) (get_or_default symbols i s no_symbol h)

-- ---- the calls

pub call_here : (symbols : List Symbol) (i at : ℕ) (d : ℤ) (labels : List ChipLabel)
    → at < length (symbol_at symbols i).heights
    → calls_from i at symbols labels ≡ call_at (pos (suc i)) (get_or (symbol_at symbols i).heights at d)
    ∷ calls_from i (at + 1) symbols labels
call_here symbols i at d labels h =
    let heights : List ℤ = (symbol_at symbols i).heights in
    let call : ℤ → Command = call_at (pos (suc i)) in
    let later : List Command = from_symbol (suc i) symbols labels in
    let next : suc at ≡ at + 1 = omega arith in
    ap (λ hs. map call hs ++ later) (drop-cons heights at d h)
    ∙ ap (λ k. call (get_or heights at d) ∷ (map call (drop k heights) ++ later)) next

pub no_call_here : (symbols : List Symbol) (i at : ℕ) (labels : List ChipLabel)
    → length (symbol_at symbols i).heights ≤ at
    → calls_from i at symbols labels ≡ from_symbol (i + 1) symbols labels
no_call_here symbols i at labels h =
    let next : suc i ≡ i + 1 = omega arith in
    ap (λ hs. map (call_at (pos (suc i))) hs ++ from_symbol (suc i) symbols labels)
    (drop_all at (symbol_at symbols i).heights h)
    ∙ ap (λ k. from_symbol k symbols labels) next

-- ---- the labels

pub label_here : (labels : List ChipLabel) (i : ℕ) (d : ChipLabel) → i < length labels
    → map label_of (drop i labels) ≡ label_of (get_or labels i d) ∷ map label_of (drop (i + 1) labels)
label_here labels i d h =
    let next : suc i ≡ i + 1 = omega arith in
    ap (map label_of) (drop-cons labels i d h)
    ∙ ap (λ k. label_of (get_or labels i d) ∷ map label_of (drop k labels)) next

pub no_label : (labels : List ChipLabel) (i : ℕ) → length labels ≤ i → map label_of (drop i labels) ≡ []
no_label labels i h = ap (map label_of) (drop_all i labels h)

-- ---- the commands in a list

pub shorter : (c : Command) (left more : List Command) → left ≡ c ∷ more → length more < length left
shorter c left more e = let same : length left ≡ length (c ∷ more) = ap length e in omega arith

-- one more command in the list, and one fewer left
pub one_more : (items new : List Item) (c : Command) (left more all : List Command)
    → new ≡ items ++ (record { offset = 0; command = c }) ∷ [] → left ≡ c ∷ more → commands_of items ++ left ≡ all
    → commands_of new ++ more ≡ all
one_more items new c left more all e first same =
    let command : Item → Command = λ i. i.command in
    ap (λ is. commands_of is ++ more) e
    ∙ ap (λ cs. cs ++ more) (map-append command items (record { offset = 0; command = c } ∷ []))
    ∙ append_assoc (commands_of items) (c ∷ []) more
    ∙ ap (λ cs. commands_of items ++ cs) (sym first) ∙ same

pub all_listed : (items : List Item) (left all : List Command) → left ≡ [] → commands_of items ++ left ≡ all
    → commands_of items ≡ all
all_listed items left all none same =
    sym (append-nil (commands_of items)) ∙ ap (λ cs. commands_of items ++ cs) (sym none) ∙ same

-- what is listed are commands of the chip's symbols
pub listed_form : (result : Result (List Item) NoMemory) (chip : Chip) (symbols : List Symbol)
    (labels : List ChipLabel) → labels ≡ chip.labels
    → IfOk result (λ cif. commands_of cif ≡ chip_commands symbols labels) → AreSymbolsOfChip chip symbols
    → IfOk result (λ cif. AreCommandsOf chip (commands_of cif))
listed_form (Ok cif) chip symbols labels e same of_chip =
    record { symbols = symbols; of_chip = of_chip; are = same ∙ ap (chip_commands symbols) e }
listed_form (Err e) chip symbols labels _ same of_chip = same

-- what is listed draws the chip
pub listed_drawn : (result : Result (List Item) NoMemory) (rects : List Rect) (symbols : List Symbol)
    (labels own : List ChipLabel) → labels ≡ own
    → IfOk result (λ cif. commands_of cif ≡ chip_commands symbols labels)
    → IsEmitted rects own (chip_commands symbols own) → IfOk result (λ cif. IsEmitted rects own (commands_of cif))
listed_drawn (Ok cif) rects symbols labels own e same drawn =
    let P : List Command → Type 0 = λ cs. IsEmitted rects own cs in
    subst P (sym (same ∙ ap (chip_commands symbols) e)) drawn
listed_drawn (Err e) rects symbols labels own _ same drawn = same
