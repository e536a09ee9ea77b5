-- One pass over the nodes.
use Rattle.std.proofs.Common.{◌≡◌, ◌<◌, ◌≤◌, ◌+◌, ℕ, List, Bool, true, false, length, sym, ◌∙◌, subst, inl, inr, ◌⊎◌}
use Rattle.std.proofs.Common.{arith}
use Rattle.mp_base.specs.declared.value.Trit.{Trit}
use Rattle.mp_base.proofs.Numbers.{below_suc}
use Rattle.node_clusters.specs.declared.board.Board.{Board}
use Rattle.node_clusters.specs.declared.sets.Sets.{Sets}
use Rattle.node_clusters.specs.Values.{IsMarked}
use Rattle.switch_net.specs.Values.{value_at}
use Rattle.node_clusters.specs.Board.{setting_of, nodes_of, IsMoment}
use Rattle.settle_events.specs.Climb.{unknown, Climbs, IsStuck}
use Rattle.node_clusters.specs.Rooms.{HaveRoom}

pub moment_kept : (b : Board) (vs ws : List Trit) → length ws ≡ length vs → IsMoment b vs → IsMoment b ws
moment_kept b vs ws e m = record {
  linked = m.linked;
  at_sized = m.at_sized;
  gated = m.gated;
  gated_sized = m.gated_sized;
  drive_sized = m.drive_sized;
  before_sized = m.before_sized;
  values_sized = e ∙ m.values_sized;
}

-- a pass, as far as the nodes below i
pub record PassesFirst (b : Board) (i : ℕ) (changed : Bool) (sets : Sets) (looked : List Bool)
    (old new : List Trit) : Type 0 where
  pub rooms : HaveRoom (nodes_of b) sets
  pub climbs : Climbs (setting_of b) (value_at new)
  pub fewer : unknown new ≤ unknown old
  pub more : changed ≡ true → unknown new < unknown old
  pub stuck : changed ≡ false → (k : ℕ) → k < i → IsStuck (setting_of b) (value_at new) k
  pub marked : changed ≡ false → (k : ℕ) → IsMarked looked k → IsStuck (setting_of b) (value_at new) k

module _ (b : Board) (i : ℕ) (old : List Trit) where
  -- a node that is driven, has a value or is marked
  pub passes_skip : (changed : Bool) (sets : Sets) (looked : List Bool) (mid : List Trit)
      → PassesFirst b i changed sets looked old mid → (changed ≡ false → IsStuck (setting_of b) (value_at mid) i)
      → PassesFirst b (i + 1) changed sets looked old mid
  passes_skip changed sets looked mid h here = record {
    rooms = h.rooms;
    climbs = h.climbs;
    fewer = h.fewer;
    more = h.more;
    stuck = λ c k lt. by_place c k (below_suc k i lt);
    marked = h.marked;
  }
    where
      by_place : changed ≡ false → (k : ℕ) → (k < i) ⊎ (k ≡ i) → IsStuck (setting_of b) (value_at mid) k
      by_place c k (inl lt) = h.stuck c k lt
      by_place c k (inr e) = subst (λ m. IsStuck (setting_of b) (value_at mid) m) (sym e) (here c)

  -- a look that changed something
  pub passes_more : (j : ℕ) (sets : Sets) (looked : List Bool) (new : List Trit) → HaveRoom (nodes_of b) sets
      → Climbs (setting_of b) (value_at new) → unknown new < unknown old → PassesFirst b j true sets looked old new
  passes_more j sets looked new rooms climbs less = record {
    rooms = rooms;
    climbs = climbs;
    fewer = omega arith;
    more = λ _. less;
    stuck = λ c. cc;
    marked = λ c. cc;
  }

  -- a look that changed nothing
  pub passes_look : (changed : Bool) (sets sets' : Sets) (looked looked' : List Bool) (mid new : List Trit)
      → PassesFirst b i changed sets looked old mid → HaveRoom (nodes_of b) sets' → new ≡ mid
      → IsStuck (setting_of b) (value_at mid) i
      → ((n : ℕ) → IsMarked looked' n → IsMarked looked n ⊎ IsStuck (setting_of b) (value_at mid) n)
      → PassesFirst b (i + 1) changed sets' looked' old new
  passes_look changed sets sets' looked looked' mid new h rooms e here marks =
      subst (λ (vs : List Trit). PassesFirst b (i + 1) changed sets' looked' old vs) (sym e)
      (record {
        rooms = rooms;
        climbs = h.climbs;
        fewer = h.fewer;
        more = h.more;
        stuck = (passes_skip changed sets looked mid h (λ _. here)).stuck;
        marked = λ c k q. marked c k (marks k q);
      })
    where
      marked : changed ≡ false → (k : ℕ) → IsMarked looked k ⊎ IsStuck (setting_of b) (value_at mid) k
          → IsStuck (setting_of b) (value_at mid) k
      marked c k (inl q) = h.marked c k q
      marked c k (inr q) = q
