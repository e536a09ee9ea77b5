-- Each net of a path has a root.
use Rattle.std.proofs.Common.{◌≡◌, ℕ, zero, suc, ◌<◌, Option, Some, None, refl, ◌∙◌, ap, arith}
use Rattle.nor_net.specs.Elements.{Spot, Element, Given, Nor, Latched, Joined, Low, Nets}
use Rattle.drawing.specs.Draws.{OfNet, Ground, IsOwn}
use Rattle.array_form.specs.Roots.{Root, at, AreRoots}

step : (Spot → Root) → Spot → Option Element → Root
step next s None = at (OfNet s)
step next s (Some Given) = at (OfNet s)
step next s (Some (Nor inputs)) = at (OfNet s)
step next s (Some (Latched p source)) = at (OfNet s)
step next s (Some (Joined m)) = next m
step next s (Some Low) = at Ground

-- the root, where joins are followed at most so often
root_by : Nets → ℕ → Spot → Root
root_by nets zero s = at (OfNet s)
root_by nets (suc k) s = step (root_by nets k) s (nets s)

pub root_at : Nets → (Spot → ℕ) → Spot → Root
root_at nets rank s = root_by nets (suc (rank s)) s

own_step : (next : Spot → Root) (s : Spot) (e : Option Element) → IsOwn e → step next s e ≡ at (OfNet s)
unfolding step
own_step next s None own = absurd own
own_step next s (Some Given) own = refl
own_step next s (Some (Nor inputs)) own = refl
own_step next s (Some (Latched p source)) own = refl
own_step next s (Some (Joined m)) own = absurd own
own_step next s (Some Low) own = absurd own

module _ (nets : Nets) (rank : Spot → ℕ) (falls : (n m : Spot) → nets n ≡ Some (Joined m) → rank m < rank n) where
  -- enough steps are enough
  same_step : (f g : Spot → Root) (s : Spot) (e : Option Element) → ((m : Spot) → e ≡ Some (Joined m) → f m ≡ g m)
      → step f s e ≡ step g s e
  unfolding step
  same_step f g s None h = refl
  same_step f g s (Some Given) h = refl
  same_step f g s (Some (Nor inputs)) h = refl
  same_step f g s (Some (Latched p source)) h = refl
  same_step f g s (Some (Joined m)) h = h m refl
  same_step f g s (Some Low) h = refl

  enough : (k j : ℕ) (s : Spot) → rank s < k → rank s < j → root_by nets k s ≡ root_by nets j s
  unfolding root_by
  enough zero j s a b = absurd (omega arith)
  enough (suc k) zero s a b = absurd (omega arith)
  enough (suc k) (suc j) s a b =
      same_step (root_by nets k) (root_by nets j) s (nets s) (λ m e. let f = falls s m e in
      enough k j m (omega arith) (omega arith))

  pub are_roots : AreRoots nets (root_at nets rank) rank
  unfolding root_at root_by step
  are_roots = record {
    own = λ n own. own_step (root_by nets (rank n)) n (nets n) own;
    lows = λ n e. ap (step (root_by nets (rank n)) n) e;
    joins = λ n m e. ap (step (root_by nets (rank n)) n) e
        ∙ (let f = falls n m e in enough (rank n) (suc (rank m)) m (omega arith) (omega arith));
    falls = falls;
  }
