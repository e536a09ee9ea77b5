-- Forms whose nodes are in text order.
use Rattle.std.specs.Prelude.{◌≡◌, ℕ, suc, ◌<◌, List, [], ◌∷◌, ◌&&◌, not, true, length, slice_index, slice_index_or}
use Rattle.std.specs.List.{list_all}
use Rattle.mp_base.specs.Token.{is_token, is_digit}
use Rattle.form_reader.specs.declared.forms.Kind.{Kind}
use Rattle.form_reader.specs.declared.forms.Kind.TheVariants.{Number, Symbol, Group}
use Rattle.form_reader.specs.declared.forms.Node.{Node}
use Rattle.form_reader.specs.declared.forms.Forms.{Forms}
use Rattle.form_reader.specs.declared.limits.TheConstants.{NESTING_LIMIT}

-- what stands past the end of the nodes
abbrev pub no_node : Node
no_node = record { place = record { offset = 0; line = 0; column = 0 }; kind = Number 0 }

abbrev pub node : Forms → ℕ → Node
node f i = slice_index_or f.nodes i no_node

abbrev pub kind_at : Forms → ℕ → Kind
kind_at f i = (node f i).kind

-- the items of a list, and none of a number or symbol
abbrev pub items_of : Kind → List ℕ
items_of (Group items) = items
items_of _ = []

-- node m is the item of node n at j
abbrev pub IsItem : Forms → ℕ → ℕ → ℕ → Type 0
IsItem f n j m =
    (n < length f.nodes) × (j < length (items_of (kind_at f n))) × (m ≡ slice_index (items_of (kind_at f n)) j)

-- at most d nodes stand one inside another, of which the outermost is n
pub data NestsIn (f : Forms) : (d n : ℕ) → Type 0 where
  nests : (d n : ℕ) → ((j m : ℕ) → IsItem f n j m → NestsIn f d m) → NestsIn f (suc d) n

-- items stand behind their list, each node is an item once at most, lists are nested no deeper than may be, and the
-- offsets ascend
pub record IsSound (f : Forms) : Type 0 where
  pub behind : (n j m : ℕ) → IsItem f n j m → (n < m) × (m < length f.nodes)
  pub one_list : (a b i j m : ℕ) → IsItem f a i m → IsItem f b j m → a ≡ b
  pub one_place : (a b i j m : ℕ) → IsItem f a i m → IsItem f b j m → i ≡ j
  pub shallow : (n : ℕ) → n < length f.nodes → NestsIn f (suc NESTING_LIMIT) n
  pub first : (r : ℕ) (rs : List ℕ) → f.roots ≡ r ∷ rs → r ≡ 0
  pub roots : (k : ℕ) → k < length f.roots → slice_index f.roots k < length f.nodes
  pub apart : (a b : ℕ) (rs : List ℕ) → f.roots ≡ a ∷ b ∷ rs → (a < b) × ((n j m : ℕ) → IsItem f n j m → n < b → m < b)
  pub ascend : (i j : ℕ) → i < j → j < length f.nodes → (node f i).place.offset < (node f j).place.offset

-- a symbol is a run of token characters that is no numeral
abbrev pub HasSymbols : Forms → Type 0
HasSymbols f = (n : ℕ) (x : List ℕ) → kind_at f n ≡ Symbol x → (list_all is_token x && not (list_all is_digit x)) ≡ true
