-- Lists that a text spells are nested 64 deep at most.
use Rattle.std.proofs.Common.{◌≡◌, ℕ, zero, suc, ◌+◌, ◌<◌, ◌≤◌, List, [], ap, sym, ◌∙◌, subst, inl, inr, length}
use Rattle.std.proofs.Common.{arith}
use Rattle.std.specs.Prelude.{slice_index, slice_range}
use Rattle.std.proofs.lemmas.Bool.{cases_lt}
use Rattle.form_reader.specs.declared.forms.Node.{Node}
use Rattle.form_reader.specs.declared.forms.Forms.{Forms}
use Rattle.form_reader.specs.Sound.{NestsIn, nests, items_of, kind_at}
use Rattle.form_reader.specs.Spelling.{Spelled, none, token, list}
use Rattle.form_reader.proofs.Order.{no_items, ordered}
use Rattle.form_reader.proofs.Nested.{deeper}

leaf : (f : Forms) (d n : ℕ) → items_of (kind_at f n) ≡ [] → NestsIn f (suc d) n
leaf f d n bare = nests d n (λ j m it. let size = ap length bare in absurd (omega (arith, it.1, size)))

-- the nodes of items inside `depth` lists
pub nested : (text : List ℕ) (f : Forms) (depth at i to j : ℕ) (items : List ℕ)
    → Spelled text f.nodes depth at i items to j
    → (d : ℕ) → depth + d ≡ 64 → (n : ℕ) → i ≤ n → n < j → NestsIn f (suc d) n
nested text f depth at i to j items (none) d sum n low high = absurd (omega (arith, low, high))
nested text f depth at i to j _ (token {items = items} s e kind gap run is node rest) d sum n low high =
    elim (cases_lt i n) [
      | inl later ↦ nested text f depth e (suc i) to j items rest d sum n (omega (arith, later)) high
      | inr here ↦
          let same : n ≡ i = omega (arith, here, low) in
          let P : ℕ → Type 0 = NestsIn f (suc d) in
          subst P (sym same)
          (leaf f d i (ap (λ (x : Node). items_of x.kind) node.1 ∙ no_items (slice_range text s e) kind is))
    ]
nested text f depth at i to j _ (list s e c k inner gap byte shallow node within gap2 byte2 rest) zero sum n low high =
    absurd (omega (arith, shallow, sum))
nested text f depth at i to j _ (list {items = items} s e c k inner _ _ _ node within _ _ rest) (suc d) sum n low high =
    elim (cases_lt n k) [
      | inl before ↦ elim (cases_lt i n) [
        | inl under ↦
            let next = nested text f (suc depth) (s + 1) (suc i) e k inner within d (omega (arith, sum)) n in
            deeper f (suc d) n (next (omega (arith, under)) before)
        | inr here ↦
            let same : n ≡ i = omega (arith, here, low) in
            let P : ℕ → Type 0 = NestsIn f (suc (suc d)) in
            subst P (sym same) (nests (suc d) i (λ p m it.
            let listed = ap (λ (x : Node). items_of x.kind) node.1 in
            let place =
            (ordered within).top p m (subst (λ xs. (p < length xs) × (m ≡ slice_index xs p)) listed (it.1, it.2)) in
            nested text f (suc depth) (s + 1) (suc i) e k inner within d (omega (arith, sum)) m place.0 place.1))
      ]
      | inr behind ↦ nested text f depth (c + 1) k to j items rest (suc d) sum n behind high
    ]
