-- Forms as they are written, with the gaps between them.
use Rattle.std.specs.Prelude.{◌≡◌, ℕ, suc, ◌+◌, ◌^◌, List, [], ◌∷◌, ◌++◌, Bool, true, false, not, ◌&&◌, nat_lt, length}
use Rattle.std.specs.Prelude.{slice_index}
use Rattle.std.specs.List.{list_all}
use Rattle.std.specs.Str.Parse.{digits_value}
use Rattle.mp_base.specs.Token.{is_token, is_digit}
use Rattle.mp_base.specs.declared.refusal.Place.{Place}
use Rattle.form_reader.specs.declared.forms.Kind.TheVariants.{Number, Symbol, Group}
use Rattle.form_reader.specs.declared.forms.Node.{Node}
use Rattle.form_reader.specs.declared.forms.Forms.{Forms}
use Rattle.form_reader.specs.Text.{is_gap, place_at}

-- symbols, numbers and lists, one behind another, each behind a gap; a list has a gap before its `)` too
pub data Items : Type 0 where
  nothing : Items
  symbol : (gap run : List ℕ) (more : Items) → Items
  number : (gap run : List ℕ) (more : Items) → Items
  group : (gap : List ℕ) (inner : Items) (close : List ℕ) (more : Items) → Items

abbrev pub text_of : Items → List ℕ
text_of nothing = []
text_of (symbol gap run more) = gap ++ (run ++ text_of more)
text_of (number gap run more) = gap ++ (run ++ text_of more)
text_of (group gap inner close more) = gap ++ (40 ∷ (text_of inner ++ (close ++ (41 ∷ text_of more))))

-- the byte that follows what stands before items, of which this one follows
abbrev pub first_of : ℕ → Items → ℕ
first_of next nothing = next
first_of next (symbol gap run more) = slice_index (gap ++ run) 0
first_of next (number gap run more) = slice_index (gap ++ run) 0
first_of next (group gap inner close more) = slice_index (gap ++ 40 ∷ []) 0

-- gaps are gaps, symbols and numbers are such and longest runs, and lists are nested 64 deep at most
abbrev pub is_fine : (depth next : ℕ) → Items → Bool
is_fine depth next nothing = true
is_fine depth next (symbol gap run more) =
    is_gap false gap && (list_all is_token run
    && (not (list_all is_digit run) && (not (is_token (first_of next more)) && is_fine depth next more)))
is_fine depth next (number gap run more) =
    is_gap false gap && (list_all is_token run
    && (nat_lt 0 (length run) && (list_all is_digit run && (nat_lt (digits_value 10 run) (2 ^ 64)
    && (not (is_token (first_of next more)) && is_fine depth next more)))))
is_fine depth next (group gap inner close more) =
    is_gap false gap && (nat_lt depth 64
    && (is_fine (suc depth) (slice_index (close ++ 41 ∷ []) 0) inner
    && (is_gap false close && is_fine depth next more)))

-- how many nodes items have
abbrev pub size_of : Items → ℕ
size_of nothing = 0
size_of (symbol gap run more) = suc (size_of more)
size_of (number gap run more) = suc (size_of more)
size_of (group gap inner close more) = suc (size_of inner + size_of more)

-- the nodes of the items themselves, where the first has this index
abbrev pub roots_from : ℕ → Items → List ℕ
roots_from i nothing = []
roots_from i (symbol gap run more) = i ∷ roots_from (suc i) more
roots_from i (number gap run more) = i ∷ roots_from (suc i) more
roots_from i (group gap inner close more) = i ∷ roots_from (suc i + size_of inner) more

-- the nodes of items at an offset and an index, where a function gives the place of each offset
abbrev pub nodes_from : (ℕ → Place) → (at i : ℕ) → Items → List Node
nodes_from place at i nothing = []
nodes_from place at i (symbol gap run more) = record { place = place (at + length gap); kind = Symbol run }
    ∷ nodes_from place (at + length gap + length run) (suc i) more
nodes_from place at i (number gap run more) =
    record { place = place (at + length gap); kind = Number (digits_value 10 run) }
    ∷ nodes_from place (at + length gap + length run) (suc i) more
nodes_from place at i (group gap inner close more) =
    record { place = place (at + length gap); kind = Group (roots_from (suc i) inner) }
    ∷ (nodes_from place (at + length gap + 1) (suc i) inner
    ++ nodes_from place (at + length gap + 1 + length (text_of inner) + length close + 1) (suc i + size_of inner) more)

-- the forms that items are, in their text with this gap behind it
abbrev pub forms_of : Items → List ℕ → Forms
forms_of items gap = let text = text_of items ++ gap in record {
  nodes = nodes_from (place_at text) 0 0 items;
  roots = roots_from 0 items;
  end = place_at text (length text);
}

-- well-formed items, with a gap behind them that may end in a comment
pub record IsWritten (items : Items) (gap : List ℕ) : Type 0 where
  pub fine : is_fine 0 (slice_index gap 0) items ≡ true
  pub rest : is_gap false (gap ++ 10 ∷ []) ≡ true
