-- What the reader keeps between the items of a list.
use Rattle.std.specs.Prelude.{◌≡◌, ℕ, ◌+◌, ◌-◌, ◌<◌, ◌≤◌, List, [], ◌∷◌, ◌++◌, true, false, length, take, slice_index}
use Rattle.mp_base.specs.Token.{is_token}
use Rattle.mp_base.specs.declared.refusal.Place.{Place}
use Rattle.form_reader.specs.declared.forms.Node.{Node}
use Rattle.form_reader.specs.Text.{comment_after, IsGapBetween, EndsInGap, IsByte, place_at}
use Rattle.form_reader.specs.Spelling.{Spelled}
use Rattle.form_reader.specs.Rules.{IsOpenUpTo, depth_at, Breaks}

-- up to an offset only rule E2 may be broken; a token may begin there, outside comments and inside `depth` lists, of
-- which the outermost begins at `outer`
pub record Clean (text : List ℕ) (depth outer at : ℕ) : Type 0 where
  pub within : at ≤ length text
  pub outside : comment_after false (take at text) ≡ false
  pub depth_is : depth_at text at ≡ depth
  pub fine : (k o : ℕ) → o < at → Breaks text k o → k ≡ 2
  pub fresh : 0 < at → is_token (slice_index text at) ≡ true → is_token (slice_index text (at - 1)) ≡ false
  pub opened : 0 < depth → IsOpenUpTo text at outer

-- the same of places
pub record Reached (text : List ℕ) (depth : ℕ) (outer at : Place) : Type 0 where
  pub clean : Clean text depth outer.offset at.offset
  pub place : at ≡ place_at text at.offset
  pub outer_place : 0 < depth → outer ≡ place_at text outer.offset

-- these items were read, and their nodes added at the end
pub record HasRead (text : List ℕ) (depth from : ℕ) (old new : List Node) (items : List ℕ) (at : ℕ) : Type 0 where
  pub more : List Node
  pub nodes : new ≡ old ++ more
  pub spelled : Spelled text new depth from (length old) items at (length new)

-- one item was read from s to e, and its nodes added at the end
pub record AddsItem (text : List ℕ) (depth s : ℕ) (old new : List Node) (e : ℕ) : Type 0 where
  pub more : List Node
  pub nodes : new ≡ old ++ more
  pub spelled : (at : ℕ) → IsGapBetween text at s
      → Spelled text new depth at (length old) (length old ∷ []) e (length new)

-- the items of a list were read, and its `)`
pub record IsClosed (text : List ℕ) (depth outer at : ℕ) (end : Place) : Type 0 where
  pub close : ℕ
  pub gap : IsGapBetween text at close
  pub byte : IsByte text close 41
  pub end_is : end ≡ place_at text (close + 1)
  pub clean : Clean text depth outer close

-- the items outside all lists were read, up to the end of the text
pub record IsEnded (text : List ℕ) (at : ℕ) (end : Place) : Type 0 where
  pub rest : EndsInGap text at
  pub end_is : end ≡ place_at text (length text)
  pub whole : (k o : ℕ) → ¬ Breaks text k o

-- the items of a list were read, and what ends it
pub record HasListed (text : List ℕ) (depth outer from : ℕ) (old new : List Node) (items : List ℕ)
    (end : Place) : Type 0 where
  pub at : ℕ
  pub read : HasRead text depth from old new items at
  pub closed : 0 < depth → IsClosed text depth outer at end
  pub ended : depth ≡ 0 → IsEnded text at end
