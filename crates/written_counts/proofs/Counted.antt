-- What an expression becomes counts as much as is counted without making it.
use Rattle.std.proofs.Common.{◌≡◌, ◌∙◌, ℕ, zero, suc, ◌+◌, ◌<◌, List, [], ◌∷◌, ◌++◌, refl, sym, ap, arith, length}
use Rattle.std.proofs.Common.{get_or, length-append}
use Rattle.std.specs.Prelude.{map, slice_get, slice_index_or, Some, None, Option, unwrap_or, take, ◌==◌, if◌then◌else◌}
use Rattle.std.specs.List.{sum_by, flat_map}
use Rattle.std.proofs.lemmas.List.Sums.{sum_by-cons, sum_by-append}
use Rattle.mp_base.specs.declared.refusal.Place.{Place}
use Rattle.mp_base.proofs.Induction.{downward}
use Rattle.mp_base.proofs.Entries.{some_entry}
use Rattle.mp_program.specs.Sound.{AllBetween}
use Rattle.mp_written.specs.declared.program.ExprKind.{ExprKind}
use Rattle.mp_written.specs.declared.program.ExprKind.TheVariants.{Number, Named, True, False, Apply, Use}
use Rattle.mp_written.specs.declared.program.Expr.{Expr}
use Rattle.mp_written.specs.declared.program.Program.{Program}
use Rattle.mp_written.specs.Functions.{Function, functions, function_index, arg_index}
use Rattle.mp_written.specs.Tree.{operands}
use Rattle.mp_written.specs.Sound.{AreBehind}
use Rattle.written_counts.specs.Totals.{total, worth, AreCounts}
use Rattle.mp_written.specs.Pieces.{Scope, Body, kind_pieces, copied, name_pieces, pieces_in, nothing, body_scope}
use Rattle.mp_written.specs.Pieces.{body_of}
use Rattle.mp_written.specs.Pieces.{bodies, outside, pieces}
use Rattle.written_counts.specs.Counts.{Count, kind_count, count_in, no_count, weighed, one_of}
use Rattle.written_counts.specs.Counts.{body_count, function_counts, counted}
use Rattle.written_counts.proofs.Sums.{sum_behind, sum_flat, sum_plus, sum_map, map_map, weighed_none}
use Rattle.written_counts.proofs.Sums.{weighed_sum, weighed_through, weighed_one, same_weighed}
use Rattle.mp_written.proofs.Pieces.{pieces_is, map_behind}
use Rattle.written_counts.proofs.Equations.{count_is}

total_at : (m : ExprKind → ℕ) (os : List (List Expr)) (i : ℕ)
    → total m (slice_index_or os i []) ≡ get_or (map (total m) os) i 0
total_at m [] zero = refl
total_at m [] (suc i) = refl
total_at m (o ∷ os) zero = refl
total_at m (o ∷ os) (suc i) = total_at m os i

zero_more : (n : ℕ) → n ≡ 0 + n
zero_more n = omega arith

none_weighed : (n : ℕ) (ns : List ℕ) → n ≡ n + weighed (λ i. 0) 0 ns
none_weighed n ns = omega (arith, weighed_none 0 ns)

one : (m : ExprKind → ℕ) (s : Scope) (x : Expr) → total m (copied s x) ≡ m x.kind
one m s x = sum_by-cons (λ (y : Expr). m y.kind) (record { place = unwrap_or s.outermost x.place; kind = x.kind }) []
    ∙ omega arith

module _ (m : ExprKind → ℕ) (s : Scope) (cs : List Count) (exprs : List Expr) where
  abbrev counts : ℕ → Count
  counts e = count_in m s.functions cs s.args exprs e

  abbrev ns : List ℕ
  ns = map (total m) s.operands

  abbrev Counts : ℕ → Type 0
  Counts e = total m (pieces_in s exprs e) ≡ worth (counts e) ns

  name_counts : (x : Expr) (name : List ℕ) → x.kind ≡ Named name → (o : Option ℕ)
      → total m (name_pieces s x o) ≡ worth (one_of o (m (Named name))) ns
  name_counts x name is None = one m s x ∙ ap m is ∙ none_weighed (m (Named name)) ns
  name_counts x name is (Some i) =
      let e : i ≡ 0 + i = omega arith in
      let there = ap (λ j. weighed (λ k. if k == j then 1 else 0) 0 ns) e in
      let here : total m (slice_index_or s.operands i []) ≡ get_or ns i 0 = total_at m s.operands i in
      let goal : total m (slice_index_or s.operands i []) ≡ weighed (λ k. if k == i then 1 else 0) 0 ns =
      here ∙ sym (there ∙ weighed_one i 0 ns) in
      goal ∙ zero_more (weighed (λ k. if k == i then 1 else 0) 0 ns)

  kind_counts : (i : ℕ) (x : Expr) (kind : ExprKind) → x.kind ≡ kind → AllBetween i (length exprs) (operands kind)
      → ((j : ℕ) → i < j → j < length exprs → Counts j) → AreCounts m s.bodies cs
      → total m (kind_pieces s x kind (pieces_in s exprs)) ≡ worth (kind_count m s.functions cs s.args kind counts) ns
  kind_counts i x (Number n) is fit below known = one m s x ∙ ap m is ∙ none_weighed (m (Number n)) ns
  kind_counts i x (Named name) is fit below known = name_counts x name is (arg_index s.args name)
  kind_counts i x True is fit below known = one m s x ∙ ap m is ∙ none_weighed (m True) ns
  kind_counts i x False is fit below known = one m s x ∙ ap m is ∙ none_weighed (m False) ns
  kind_counts i x (Apply op k os) is fit below known =
      let split = sum_by-append (λ (y : Expr). m y.kind) (copied s x) (flat_map (pieces_in s exprs) os) in
      let flat = sum_flat (λ (y : Expr). m y.kind) (pieces_in s exprs) os in
      let each = sum_behind i (length exprs) os (λ a. total m (pieces_in s exprs a)) (λ a. worth
      (counts a) ns) below fit in
      let plus = sum_plus (λ a. (counts a).own) (λ a. weighed (counts a).times 0 ns) os in
      let turn = weighed_sum (λ a. (counts a).times) 0 ns os in
      let owns = sum_map (λ (c : Count). c.own) counts os in
      let times = same_times os in
      let own = one m s x ∙ ap m is in
      omega (arith, split, flat, each, plus, turn, owns, times, own)
    where
      same_times : (rs : List ℕ) → weighed (λ j. sum_by (λ a. (counts a).times j) rs) 0 ns
          ≡ weighed (λ j. sum_by (λ (c : Count). c.times j) (map counts rs)) 0 ns
      same_times rs = same_weighed _ _ 0 ns (λ j. sym (sum_map (λ (c : Count). c.times j) counts rs))
  kind_counts i x (Use at name os) is fit below known =
      let f = slice_index_or cs (function_index s.functions name) no_count in
      let whole = known (function_index s.functions name) (unwrap_or s.outermost x.place) (map
      (pieces_in s exprs) os) in
      let twice = map_map (total m) (pieces_in s exprs) os in
      let each = map_behind i (length exprs) os (λ a. total m (pieces_in s exprs a)) (λ a. worth
      (counts a) ns) below fit in
      let through = weighed_through f.times (λ a. (counts a).own) (λ a. (counts a).times) ns 0 os in
      let inner = ap (λ ks. weighed f.times 0 ks) (twice ∙ each) in
      let owns = ap (λ ks. weighed f.times 0 ks) (map_map (λ (c : Count). c.own) counts os) in
      let times = same_weighed (λ j. weighed f.times 0 (map (λ a. (counts a).times j) os))
      (λ j. weighed f.times 0 (map (λ (c : Count). c.times j) (map counts os))) 0 ns
      (λ j. ap (λ ks. weighed f.times 0 ks) (sym (map_map (λ (c : Count). c.times j) counts os))) in
      omega (arith, whole, through, inner, owns, times)

  pub counts_in : AreBehind exprs → AreCounts m s.bodies cs → (e : ℕ) → e < length exprs
      → total m (pieces_in s exprs e) ≡ worth (count_in m s.functions cs s.args exprs e) (map (total m) s.operands)
  counts_in sound known = downward Counts (length exprs) (λ i lt below.
      let (x, at) = some_entry exprs i lt in
      ap (total m) (pieces_is s exprs sound i x at)
      ∙ kind_counts i x x.kind refl (sound i x at) below known
      ∙ ap (λ c. worth c ns) (sym (count_is m s.functions cs s.args exprs sound i x at)))

-- one function more
one_more : (m : ExprKind → ℕ) (bs : List Body) (cs : List Count) (b : Body) (c : Count) → length bs ≡ length cs
    → AreCounts m bs cs → ((at : Place) (os : List (List Expr)) → total m (b at os) ≡ worth c (map (total m) os))
    → AreCounts m (bs ++ b ∷ []) (cs ++ c ∷ [])
one_more m [] [] b c same known new zero at os = new at os
one_more m [] [] b c same known new (suc k) at os = past k
  where
    past : (j : ℕ) → total m (slice_index_or [] j nothing at os) ≡ worth (slice_index_or [] j no_count) (map
        (total m) os)
    past zero = none_weighed 0 (map (total m) os)
    past (suc j) = none_weighed 0 (map (total m) os)
one_more m [] (d ∷ cs) b c same known new k at os = absurd (omega (arith, same))
one_more m (a ∷ bs) [] b c same known new k at os = absurd (omega (arith, same))
one_more m (a ∷ bs) (d ∷ cs) b c same known new zero at os = known 0 at os
one_more m (a ∷ bs) (d ∷ cs) b c same known new (suc k) at os =
    one_more m bs cs b c (omega (arith, same)) (λ j. known (suc j)) new k at os

-- the bodies of functions are expressions
abbrev pub HaveBodies : List Expr → List Function → Type 0
HaveBodies exprs fs = (k : ℕ) (f : Function) → slice_get fs k ≡ Some f → f.body < length exprs

module _ (m : ExprKind → ℕ) (exprs : List Expr) (fs : List Function) (sound : AreBehind exprs)
    (have : HaveBodies exprs fs) where
  length-bodies : (k : ℕ) → length (bodies exprs fs k) ≡ k
  length-bodies zero = refl
  length-bodies (suc k) = let rest = length-bodies k in
      omega (
        arith,
        rest,
        length-append (bodies exprs fs k) (body_of exprs (take k fs) (bodies exprs fs k)
            (slice_get fs k) ∷ []),
      )

  length-counts : (k : ℕ) → length (function_counts m exprs fs k) ≡ k
  length-counts zero = refl
  length-counts (suc k) = let rest = length-counts k in
      omega (
        arith,
        rest,
        length-append (function_counts m exprs fs k)
            (body_count m exprs (take k fs) (function_counts m exprs fs k) (slice_get fs k) ∷ []),
      )

  body_counts : (k : ℕ) (o : Option Function) → slice_get fs k ≡ o
      → AreCounts m (bodies exprs fs k) (function_counts m exprs fs k) → (at : Place) (os : List (List Expr))
      → total m (body_of exprs (take k fs) (bodies exprs fs k) o at os)
      ≡ worth (body_count m exprs (take k fs) (function_counts m exprs fs k) o) (map (total m) os)
  body_counts k None is known at os = none_weighed 0 (map (total m) os)
  body_counts k (Some f) is known at os =
      counts_in m (body_scope (take k fs) (bodies exprs fs k) f at os) (function_counts m exprs fs k) exprs sound known
      f.body (have k f is)

  no_counts : AreCounts m [] []
  no_counts zero at os = none_weighed 0 (map (total m) os)
  no_counts (suc i) at os = none_weighed 0 (map (total m) os)

  are_counts : (k : ℕ) → AreCounts m (bodies exprs fs k) (function_counts m exprs fs k)
  are_counts zero = no_counts
  are_counts (suc k) =
      one_more m (bodies exprs fs k) (function_counts m exprs fs k) _ _ (length-bodies k ∙ sym (length-counts k))
      (are_counts k) (body_counts k (slice_get fs k) refl (are_counts k))

-- the law: what an expression becomes counts what is counted without making it
pub counted_is : (m : ExprKind → ℕ) (w : Program) → AreBehind w.exprs → HaveBodies w.exprs (functions w) → (e : ℕ)
    → e < length w.exprs → total m (pieces w e) ≡ counted m w e
counted_is m w sound have e lt =
    let fs = functions w in
    counts_in m (outside w.exprs fs) (function_counts m w.exprs fs (length fs)) w.exprs sound
    (are_counts m w.exprs fs sound have (length fs)) e lt
    ∙ omega arith
