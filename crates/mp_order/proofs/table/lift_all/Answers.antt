use Rattle.std.proofs.Common.{◌≡◌, inl, inr, ℕ, ◌+◌, ◌<◌, List, length, arith, get_or, sym}
use Rattle.std.specs.Prelude.{Contains}
use Rattle.mp_order.specs.Tables.{Lifted}
use Rattle.mp_order.proofs.Tables.{Among, among_all, among_more, among_cases, contains, lifted_none, lifted_as}
use Rattle.mp_order.proofs.Tables.{lifted_join}
use Rattle.mp_order.proofs.table.lift_all.Goals as goal

-- one more index is lifted
more : (n : ℕ) (xs : List ℕ) (v : ℕ) (old mid new : List ℕ) → n < length xs
    → Lifted (λ i k. Among n xs i × (k ≡ v)) old mid
    → Lifted (λ i k. (i ≡ get_or xs n 0) × (k ≡ v)) mid new → Lifted (λ i k. Among (n + 1) xs i × (k ≡ v)) old new
more n xs v old mid new lt first second =
    lifted_join (λ i k. Among n xs i × (k ≡ v)) (λ i k. (i ≡ get_or xs n 0) × (k ≡ v))
    (λ i k. Among (n + 1) xs i × (k ≡ v)) old mid new first second
    (λ i k (a, e). (among_more n xs i a, e))
    (λ i k (h, e). ((n, omega arith, lt, sym h), e))
    (λ i k (a, e). elim (among_cases n xs i a) [
      | inl before ↦ inl (before, e)
      | inr here ↦ inr (k, omega arith, (here, e))
    ])

pub loop-index-init : goal.loop-index-init
loop-index-init c =
    lifted_none (λ i k. Among 0 c.args.indices.now i × (k ≡ c.args.value)) c.args.numbers.now
    (λ i k lt g. absurd (omega (arith, g.0.1)))

pub loop-index-preserved : goal.loop-index-preserved
loop-index-preserved c =
    more c.loop-index.index-index c.args.indices.now c.args.value c.args.numbers.now c.loop-index.numbers
    c.lift.new.numbers c.loop-index-test.true c.loop-index.invariant c.lift.ensures

pub returns : goal.returns
returns c =
    lifted_as (λ i k. Among c.loop-index.index-index c.args.indices.now i × (k ≡ c.args.value))
    (λ i k. Contains c.args.indices.now i × (k ≡ c.args.value))
    c.args.numbers.now c.loop-index.numbers c.loop-index.invariant
    (λ i k (a, e). (contains c.loop-index.index-index c.args.indices.now i a, e))
    (λ i k (h, e). (all i (among_all c.args.indices.now i h), e))
  where
    all : (i : ℕ) → Among (length c.args.indices.now) c.args.indices.now i
        → Among c.loop-index.index-index c.args.indices.now i
    all i (j, less, lt, e) = (j, omega (arith, less, c.loop-index-test.false), lt, e)
