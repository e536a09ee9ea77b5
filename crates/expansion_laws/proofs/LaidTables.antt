-- What a table says of those of laid out expressions that stand in no other, word by word.
use Rattle.std.proofs.Common.{◌≡◌, ◌∙◌, ℕ, zero, suc, ◌+◌, ◌-◌, List, [], ◌∷◌, refl, ap, subst, arith, length}
use Rattle.std.proofs.Common.{take, drop}
use Rattle.std.specs.Prelude.{map, slice_index_or}
use Rattle.mp_base.specs.Table.{table}
use Rattle.mp_program.specs.declared.program.Expr as plain
use Rattle.mp_written.specs.declared.program.ExprKind.{ExprKind}
use Rattle.mp_written.specs.declared.program.Expr.{Expr}
use Rattle.mp_written.specs.Laying.{laid, laid_kind, arity}
use Rattle.expansion_laws.proofs.Laid.{Within, tops_within, within_drop}
use Rattle.expansion_laws.proofs.Words.{vals_of}

pub map_take : {X Y : Type 0} (f : X → Y) (k : ℕ) (xs : List X) → map f (take k xs) ≡ take k (map f xs)
map_take f zero xs = refl
map_take f (suc k) [] = refl
map_take f (suc k) (x ∷ xs) = ap (λ ys. f x ∷ ys) (map_take f k xs)

pub map_drop : {X Y : Type 0} (f : X → Y) (k : ℕ) (xs : List X) → map f (drop k xs) ≡ drop k (map f xs)
map_drop f zero xs = refl
map_drop f (suc k) [] = refl
map_drop f (suc k) (x ∷ xs) = map_drop f k xs

module _ {V : Type 0} (none : V) (g : ExprKind → List V → V) (f : plain.Expr → (ℕ → V) → V)
    (agree : (at : _) (k : ExprKind) (ts : List ℕ) (h : ℕ → V)
    → f (record { place = at; kind = laid_kind k ts }) h ≡ g k (map h (take (arity k) ts))) where
  abbrev pub tabled : ℕ → List Expr → List V
  tabled at xs = table none f at (laid at xs).exprs

  further : (at b : ℕ) (h : V) (hs : List V) (ts : List ℕ) → Within (at + 1) b ts
      → map (λ t. slice_index_or (h ∷ hs) (t - at) none) ts ≡ map (λ t. slice_index_or hs (t - suc at) none) ts
  further at b h hs [] inside = refl
  further at b h hs (t ∷ ts) inside =
      let (low, _) = inside.0 in
      let e : t - at ≡ suc (t - suc at) = omega (arith, low) in
      ap (λ k. slice_index_or (h ∷ hs) k none ∷ map (λ u. slice_index_or (h ∷ hs) (u - at) none) ts) e
      ∙ ap (λ ys. slice_index_or hs (t - suc at) none ∷ ys) (further at b h hs ts inside.1)

  pub values_laid : (at : ℕ) (xs : List Expr)
      → map (λ t. slice_index_or (tabled at xs) (t - at) none) (laid at xs).tops ≡ vals_of g xs
  values_laid at [] = refl
  values_laid at (x ∷ xs) =
      let below = laid (at + 1) xs in
      let next : at + 1 ≡ suc at = omega arith in
      let hs = table none f (suc at) below.exprs in
      let rest : map (λ t. slice_index_or hs (t - suc at) none) below.tops ≡ vals_of g xs =
      subst (λ j. map (λ t. slice_index_or (table none f j below.exprs) (t - j) none) below.tops ≡ vals_of g xs) next
      (values_laid (at + 1) xs) in
      let look : ℕ → V = λ k. slice_index_or hs (k - suc at) none in
      let head = f (record { place = x.place; kind = laid_kind x.kind below.tops }) look in
      let here : at - at ≡ 0 = omega arith in
      let inside = within_drop (at + 1) (at + 1 + length xs) (arity x.kind) below.tops (tops_within (at + 1) xs) in
      ap (λ k. slice_index_or (head ∷ hs) k none
      ∷ map (λ t. slice_index_or (head ∷ hs) (t - at) none) (drop (arity x.kind) below.tops)) here
      ∙ ap (λ v. v ∷ map (λ t. slice_index_or (head ∷ hs) (t - at) none) (drop (arity x.kind) below.tops))
      (agree x.place x.kind below.tops look ∙ ap (g x.kind) (map_take look (arity x.kind) below.tops
      ∙ ap (take (arity x.kind)) rest))
      ∙ ap (λ vs. g x.kind (take (arity x.kind) (vals_of g xs)) ∷ vs)
      (further at (at + 1 + length xs) head hs (drop (arity x.kind) below.tops) inside
      ∙ map_drop look (arity x.kind) below.tops ∙ ap (drop (arity x.kind)) rest)
