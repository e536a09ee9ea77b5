-- Lines of groups, one after another.
use Rattle.std.proofs.Common.{◌≡◌, ℕ, zero, suc, ◌+◌, ◌<◌, ◌≤◌, List, [], ◌∷◌, ◌++◌, length, get_or, take, sym}
use Rattle.std.proofs.Common.{◌∙◌, ap, arith}
use Rattle.std.proofs.lemmas.List.{append-nil, append_assoc, take_all}
use Rattle.track_assign.specs.declared.packing.Tracks.{Tracks}
use Rattle.plan_stats.specs.Text.{group_line, group_lines}

one_more : (a k : ℕ) (groups : List Tracks) (d : Tracks) → k < length groups
    → group_lines a (take (suc k) groups) ≡ group_lines a (take k groups) ++ group_line (a + k) (get_or groups k d)
one_more a k [] d h = absurd (omega (arith, h))
one_more a zero (t ∷ ts) d h =
    append-nil (group_line a t) ∙ ap (λ i. group_line i t) (let e : a ≡ a + 0 = omega arith in e)
one_more a (suc k) (t ∷ ts) d h =
    ap (λ l. group_line a t ++ l)
    (one_more (a + 1) k ts d (omega (arith, h))
    ∙ ap (λ i. group_lines (a + 1) (take k ts) ++ group_line i (get_or ts k d))
    (let e : a + 1 + k ≡ a + suc k = omega arith in e))
    ∙ sym (append_assoc (group_line a t) (group_lines (a + 1) (take k ts)) (group_line (a + suc k) (get_or ts k d)))

pub group_added : (k : ℕ) (groups : List Tracks) (t : Tracks) (old now new : List ℕ) → k < length groups
    → now ≡ old ++ group_lines 0 (take k groups) → new ≡ now ++ group_line k t → t ≡ get_or groups k t
    → new ≡ old ++ group_lines 0 (take (k + 1) groups)
group_added k groups t old now new h before added is =
    let e : k + 1 ≡ suc k = omega arith in
    let z : 0 + k ≡ k = omega arith in
    added ∙ (λ i. before i ++ group_line k (is i))
    ∙ append_assoc old (group_lines 0 (take k groups)) (group_line k (get_or groups k t))
    ∙ ap (λ l. old ++ l)
    (ap (λ n. group_lines 0 (take k groups) ++ group_line n (get_or groups k t)) (sym z)
    ∙ sym (one_more 0 k groups t h) ∙ ap (λ n. group_lines 0 (take n groups)) (sym e))

pub all_added : (k : ℕ) (groups : List Tracks) (old new : List ℕ) → length groups ≤ k
    → new ≡ old ++ group_lines 0 (take k groups) → new ≡ old ++ group_lines 0 groups
all_added k groups old new h e = e ∙ ap (λ l. old ++ group_lines 0 l) (take_all k groups h)
