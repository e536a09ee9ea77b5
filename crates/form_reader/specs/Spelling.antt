-- The forms that a text spells.
use Rattle.std.specs.Prelude.{◌≡◌, ℕ, suc, ◌+◌, ◌<◌, ◌^◌, List, [], ◌∷◌, true, false, length, slice_index_or}
use Rattle.std.specs.Prelude.{slice_range}
use Rattle.std.specs.List.{list_all}
use Rattle.std.specs.Str.Parse.{digits_value}
use Rattle.mp_base.specs.Token.{is_digit}
use Rattle.mp_base.specs.declared.refusal.Place.{Place}
use Rattle.form_reader.specs.declared.forms.Kind.{Kind}
use Rattle.form_reader.specs.declared.forms.Kind.TheVariants.{Number, Symbol, Group}
use Rattle.form_reader.specs.declared.forms.Node.{Node}
use Rattle.form_reader.specs.declared.forms.Forms.{Forms}
use Rattle.form_reader.specs.Sound.{no_node}
use Rattle.form_reader.specs.Text.{IsGapBetween, EndsInGap, IsRun, IsByte, place_at}
use Rattle.form_reader.specs.declared.limits.TheConstants.{NESTING_LIMIT}

-- the kind that a run of token characters has
abbrev pub IsKindOf : List ℕ → Kind → Type 0
IsKindOf run (Number n) = (list_all is_digit run ≡ true) × (n ≡ digits_value 10 run) × (n < 2 ^ 64)
IsKindOf run (Symbol x) = (list_all is_digit run ≡ false) × (x ≡ run)
IsKindOf run (Group items) = ⊥

-- node i has this place and kind
abbrev pub IsNode : List Node → ℕ → Place → Kind → Type 0
IsNode nodes i place kind =
    (i < length nodes) × (slice_index_or nodes i no_node ≡ record { place = place; kind = kind })

-- inside `depth` lists these items stand in the text from one offset to another; their nodes, and those of all under
-- them, are the nodes from one index to another, in text order
pub data Spelled (text : List ℕ) (nodes : List Node) : (depth at i : ℕ) (items : List ℕ) (to j : ℕ) → Type 0 where
  none : {depth at i : ℕ} → Spelled text nodes depth at i [] at i
  token : {depth at i to j : ℕ} {items : List ℕ} (s e : ℕ) (kind : Kind) → IsGapBetween text at s → IsRun text s e
      → IsKindOf (slice_range text s e) kind
      → IsNode nodes i (place_at text s) kind → Spelled text nodes depth e (suc i) items to j
      → Spelled text nodes depth at i (i ∷ items) to j
  list : {depth at i to j : ℕ} {items : List ℕ} (s e c k : ℕ) (inner : List ℕ) → IsGapBetween text at s
      → IsByte text s 40 → depth < NESTING_LIMIT
      → IsNode nodes i (place_at text s) (Group inner) → Spelled text nodes (suc depth) (s + 1) (suc i) inner e k
      → IsGapBetween text e c → IsByte text c 41
      → Spelled text nodes depth (c + 1) k items to j → Spelled text nodes depth at i (i ∷ items) to j

-- the roots stand in the text, with nothing behind them, and every node is a root or under one
pub record Spells (text : List ℕ) (f : Forms) : Type 0 where
  pub to : ℕ
  pub items : Spelled text f.nodes 0 0 0 f.roots to (length f.nodes)
  pub rest : EndsInGap text to
  pub end : f.end ≡ place_at text (length text)
