-- The places of forms are places of the text that spells them.
use Rattle.std.proofs.Common.{◌≡◌, ℕ, ◌<◌, ◌≤◌, List, refl, sym, ◌∙◌, ap, subst, inl, inr, length, arith, get_or}
use Rattle.std.specs.Prelude.{slice_index}
use Rattle.std.proofs.lemmas.Bool.{cases_lt}
use Rattle.std.proofs.lemmas.List.{get_or_past}
use Rattle.mp_base.specs.declared.refusal.Place.{Place}
use Rattle.form_reader.specs.declared.forms.Forms.{Forms}
use Rattle.form_reader.specs.declared.forms.Node.{Node}
use Rattle.form_reader.specs.Text.{place_at}
use Rattle.form_reader.specs.Sound.{node, no_node, kind_at, items_of, IsSound}
use Rattle.form_reader.specs.Spelling.{Spelled, none, token, list, Spells}

-- the node at an index has the place of some offset
abbrev IsPlaced : List ℕ → List Node → ℕ → Type 0
IsPlaced text nodes n = (s : ℕ) × ((get_or nodes n no_node).place ≡ place_at text s)

placed_in : {text : List ℕ} {nodes : List Node} {depth at i to j : ℕ} {items : List ℕ}
    → Spelled text nodes depth at i items to j
    → (n : ℕ) → i ≤ n → n < j → IsPlaced text nodes n
placed_in none n low high = absurd (omega (arith, low, high))
placed_in {text = text} {nodes = nodes} {i = i} (token s e kind gap run is at rest) n low high = elim (cases_lt i n) [
  | inl after ↦ placed_in rest n after high
  | inr here ↦ (let same : i ≡ n = omega (arith, low, here) in
      subst (IsPlaced text nodes) same (s, ap Node.place at.1))
]
placed_in {text = text} {nodes = nodes} {i = i} (list s e c k inner gap byte shallow at within close byte2 rest) n low
    high = elim (cases_lt i n) [
      | inl after ↦ elim (cases_lt n k) [
        | inl below ↦ placed_in within n after below
        | inr above ↦ placed_in rest n above high
      ]
      | inr here ↦ (let same : i ≡ n = omega (arith, low, here) in
          subst (IsPlaced text nodes) same (s, ap Node.place at.1))
    ]

-- a place of the text is that of its offset
pub IsPlaceOf : List ℕ → Place → Type 0
IsPlaceOf text at = at ≡ place_at text at.offset

pub place_is : (text : List ℕ) (s : ℕ) (at : Place) → at ≡ place_at text s → at ≡ place_at text at.offset
place_is text s at is = is ∙ ap (place_at text) (sym (ap Place.offset is))

pub node_placed : (text : List ℕ) (f : Forms) (n : ℕ) → Spells text f → n < length f.nodes
    → (node f n).place ≡ place_at text (node f n).place.offset
node_placed text f n spells lt = let found = placed_in spells.items n (omega arith) lt in
    place_is text found.0 (node f n).place found.1

-- an item of a node, or the default for none, is a node
pub item_within : (f : Forms) (n j : ℕ) → IsSound f → n < length f.nodes
    → slice_index (items_of (kind_at f n)) j < length f.nodes
item_within f n j sound lt = elim (cases_lt j (length (items_of (kind_at f n)))) [
  | inl inside ↦ (sound.behind n j (slice_index (items_of (kind_at f n)) j) (lt, inside, refl)).1
  | inr past ↦ (let zero_is = get_or_past (items_of (kind_at f n)) j 0 past in omega (arith, zero_is, lt))
]
