-- Every network has settled values.
use Rattle.std.proofs.Common.{◌≡◌, ℕ, ◌<◌, ◌≤◌, ◌+◌, List, [], ◌∷◌, Option, Some, None, Bool, true, false, cond, eqb}
use Rattle.std.proofs.Common.{zero, suc, length, get_or, refl, sym, ◌∙◌, ap, subst, inl, inr, ◌⊎◌, arith}
use Rattle.std.specs.Prelude.{◌≢◌, ◌↔◌, IsSome, Contains, All}
use Rattle.std.proofs.lemmas.Bool.{cases_lt, cases_eq, eq-eqb, ne_eqb}
use Rattle.std.proofs.lemmas.List.Elements.{All-contains}
use Rattle.mp_base.specs.declared.value.Trit.{Trit}
use Rattle.mp_base.specs.declared.value.Trit.TheVariants.{Zero, One, X}
use Rattle.mp_base.proofs.Contents.{contains_head, contains_behind}
use Rattle.mp_base.proofs.Decisions.{Decided, both_of, not_so}
use Rattle.mp_base.proofs.Values.{same_trit as trit_same, same_trit_or_not}
use Rattle.switch_net.specs.declared.network.ChannelKind.{ChannelKind}
use Rattle.switch_net.specs.declared.network.ChannelKind.TheVariants.{Enhancement, Depletion, Partial}
use Rattle.switch_net.specs.declared.network.Channel.{Channel}
use Rattle.switch_net.specs.Settled.{Setting, KindIsOn, KindMayBeOn, IsOn, MayBeOn, IsAgainst, Gives, Follows, IsBelow}
use Rattle.switch_net.specs.Settled.{IsSettled}
use Rattle.switch_net.specs.Reaching.{Reach, here, over, IsStrongOn, MayBeStrongOn, IsFor, IsForeign}
use Rattle.switch_net.proofs.Rounds.{follows_kept, gives_once}
use Rattle.switch_net.proofs.Bounds.{IsBound, IsLeastBound, round_below_bound, settled_from_bound}
use Rattle.switch_net.proofs.Marks.{GivesBySets, by_strong, by_held, by_kept, gives_from_sets, sets_from_gives}

pub all_or_one : {Y : Type 0} (P Q : Y → Type 0) → ((x : Y) → P x ⊎ Q x) → (xs : List Y)
    → All P xs ⊎ ((x : Y) × Contains xs x × Q x)
all_or_one P Q dec [] = inl (λ k d lt. absurd (omega arith))
all_or_one {Y} P Q dec (x ∷ xs) = step (dec x) (all_or_one P Q dec xs)
  where
    step : P x ⊎ Q x → All P xs ⊎ ((y : Y) × Contains xs y × Q y)
        → All P (x ∷ xs) ⊎ ((y : Y) × Contains (x ∷ xs) y × Q y)
    step (inr q) _ = inr (x, contains_head x xs, q)
    step (inl p) (inr (y, c, q)) = inr (y, contains_behind y x xs c, q)
    step (inl p) (inl h) = inl cover
      where
        cover : All P (x ∷ xs)
        cover zero d lt = p
        cover (suc k) d lt = h k d (omega arith)

abbrev gap : Bool → ℕ
gap true = 0
gap false = 1

abbrev missing : ℕ → (ℕ → Bool) → ℕ
missing zero m = 0
missing (suc k) m = gap (m k) + missing k m

abbrev put : (ℕ → Bool) → ℕ → ℕ → Bool
put m b n = cond (eqb n b) true (m n)

put_same : (m : ℕ → Bool) (b : ℕ) → put m b b ≡ true
put_same m b = ap (λ t. cond t true (m b)) (eq-eqb b b refl)

put_kept : (m : ℕ → Bool) (b n : ℕ) → m n ≡ true → put m b n ≡ true
put_kept m b n h = by_test (eqb n b)
  where
    by_test : (t : Bool) → cond t true (m n) ≡ true
    by_test true = refl
    by_test false = h

put_other : (m : ℕ → Bool) (b n : ℕ) → (n ≡ b → ⊥) → put m b n ≡ m n
put_other m b n ne = ap (λ t. cond t true (m n)) (ne_eqb n b ne)

missing_same : (k : ℕ) (m : ℕ → Bool) (b : ℕ) → k ≤ b → missing k (put m b) ≡ missing k m
missing_same zero m b le = refl
missing_same (suc k) m b le =
    let here_same : put m b k ≡ m k = put_other m b k (λ e. absurd (omega arith)) in
    let rest : missing k (put m b) ≡ missing k m = missing_same k m b (omega arith) in
    ap (λ t. gap t + missing k (put m b)) here_same ∙ ap (λ r. gap (m k) + r) rest

missing_put : (k : ℕ) (m : ℕ → Bool) (b : ℕ) → b < k → m b ≡ false → missing k (put m b) < missing k m
missing_put zero m b lt f = absurd (omega arith)
missing_put (suc k) m b lt f = by_case (cases_eq k b) (missing_put k m b)
  where
    by_case : (k ≡ b) ⊎ (k ≡ b → ⊥) → (b < k → m b ≡ false → missing k (put m b) < missing k m)
        → missing (suc k) (put m b) < missing (suc k) m
    by_case (inl e) _ =
        let now : gap (put m b k) ≡ 0 = ap (λ n. gap (put m b n)) e ∙ ap gap (put_same m b) in
        let was : gap (m k) ≡ 1 = ap (λ n. gap (m n)) e ∙ ap gap f in
        let rest : missing k (put m b) ≡ missing k m = missing_same k m b (omega arith) in
        omega arith
    by_case (inr ne) again =
        let same : gap (put m b k) ≡ gap (m k) = ap gap (put_other m b k ne) in
        let rest : missing k (put m b) < missing k m = again (omega arith) f in
        omega arith

module _ (s : Setting) (nodes : ℕ)
    (ends_in : (c : Channel) (e : ℕ) → Contains s.channels c → Contains c.ends e → e < nodes) where
  module _ (ok : Channel → Type 0) (dec_ok : (c : Channel) → Decided (ok c)) (from : ℕ → Type 0)
      (dec_from : (n : ℕ) → Decided (from n)) where
    abbrev Fine : (ℕ → Bool) → ℕ → ℕ → Type 0
    Fine m a b = s.driver b ≡ None → m a ≡ true → m b ≡ true

    abbrev Open : (ℕ → Bool) → ℕ → ℕ → Type 0
    Open m a b = (s.driver b ≡ None) × (m a ≡ true) × (m b ≡ false)

    fine_or_open : (m : ℕ → Bool) (a b : ℕ) → Fine m a b ⊎ Open m a b
    fine_or_open m a b = by_case (s.driver b) refl (m a) refl (m b) refl
      where
        by_case : (d : Option Trit) → s.driver b ≡ d → (x : Bool) → m a ≡ x → (y : Bool) → m b ≡ y
            → Fine m a b ⊎ Open m a b
        by_case (Some t) d x ex y ey = inl (λ free. absurd (cc))
        by_case None d false ex y ey = inl (λ free h. absurd (cc))
        by_case None d true ex true ey = inl (λ free h. ey)
        by_case None d true ex false ey = inr (d, ex, ey)

    abbrev ChannelFine : (ℕ → Bool) → Channel → Type 0
    ChannelFine m c = ok c → All (λ a. All (λ b. Fine m a b) c.ends) c.ends

    -- one end of the channel is reached, and the next isn't yet
    record ChannelOpen (m : ℕ → Bool) (c : Channel) : Type 0 where
      pub allowed : ok c
      pub reached : ℕ
      pub at_reached : Contains c.ends reached
      pub next : ℕ
      pub at_next : Contains c.ends next
      pub free : s.driver next ≡ None
      pub marked_reached : m reached ≡ true
      pub unmarked_next : m next ≡ false

    channel_or_open : (m : ℕ → Bool) (c : Channel) → ChannelFine m c ⊎ ChannelOpen m c
    channel_or_open m c =
        by_ok (dec_ok c)
        (all_or_one (λ a. All (λ b. Fine m a b) c.ends) (λ a. (b : ℕ) × Contains c.ends b × Open m a b)
        (λ a. all_or_one (λ b. Fine m a b) (λ b. Open m a b) (fine_or_open m a) c.ends) c.ends)
      where
        by_ok : Decided (ok c)
            → All (λ a. All (λ b. Fine m a b) c.ends) c.ends
            ⊎ ((a : ℕ) × Contains c.ends a × ((b : ℕ) × Contains c.ends b × Open m a b))
            → ChannelFine m c ⊎ ChannelOpen m c
        by_ok (inr bad) _ = inl (λ okc. absurd (bad okc))
        by_ok (inl okc) (inl h) = inl (λ _. h)
        by_ok (inl okc) (inr (a, at_a, (b, at_b, (free, marked_a, unmarked_b)))) = inr (record {
          allowed = okc;
          reached = a;
          at_reached = at_a;
          next = b;
          at_next = at_b;
          free = free;
          marked_reached = marked_a;
          unmarked_next = unmarked_b;
        })

    record Closure (m : ℕ → Bool) : Type 0 where
      pub sound : (n : ℕ) → m n ≡ true → Reach s ok from n
      pub begun : (n : ℕ) → from n → m n ≡ true

    record Closed : Type 0 where
      pub marks : ℕ → Bool
      pub closure : Closure marks
      pub complete : All (ChannelFine marks) s.channels

    -- a channel that is open marks its next end
    grown : (m : ℕ → Bool) → Closure m → (c : Channel) → Contains s.channels c → (o : ChannelOpen m c)
        → Closure (put m o.next)
    grown m h c in' o =
        record { sound = λ n q. by_case n q (cases_eq n o.next); begun = λ n f. put_kept m o.next n (h.begun n f) }
      where
        by_case : (n : ℕ) → put m o.next n ≡ true → (n ≡ o.next) ⊎ (n ≡ o.next → ⊥) → Reach s ok from n
        by_case n q (inl e) =
            subst (λ x. Reach s ok from x) (sym e)
            (over c (h.sound o.reached o.marked_reached) in' o.at_reached o.at_next o.free o.allowed)
        by_case n q (inr ne) = h.sound n (sym (put_other m o.next n ne) ∙ q)

    close : (k : ℕ) (m : ℕ → Bool) → missing nodes m ≤ k → Closure m → Closed
    close k m le h = by_channels k m le h (all_or_one (ChannelFine m) (ChannelOpen m) (channel_or_open m) s.channels)
      where
        by_channels : (k : ℕ) (m : ℕ → Bool) → missing nodes m ≤ k → Closure m
            → All (ChannelFine m) s.channels ⊎ ((c : Channel) × Contains s.channels c × ChannelOpen m c) → Closed
        by_channels k m le h (inl done) = record { marks = m; closure = h; complete = done }
        by_channels zero m le h (inr (c, in', o)) =
            let fewer = missing_put nodes m o.next (ends_in c o.next in' o.at_next) o.unmarked_next in
            absurd (omega (arith, fewer))
        by_channels (suc k) m le h (inr (c, in', o)) =
            let fewer = missing_put nodes m o.next (ends_in c o.next in' o.at_next) o.unmarked_next in
            by_channels k (put m o.next) (omega (arith, fewer)) (grown m h c in' o)
            (all_or_one (ChannelFine (put m o.next)) (ChannelOpen (put m o.next)) (channel_or_open (put m o.next))
            s.channels)

    abbrev test : {P : Type 0} → Decided P → Bool
    test (inl p) = true
    test (inr q) = false

    test_true : {P : Type 0} (d : Decided P) → test d ≡ true → P
    test_true (inl p) e = p
    test_true (inr q) e = absurd (cc)

    true_test : {P : Type 0} (d : Decided P) → P → test d ≡ true
    true_test (inl p) h = refl
    true_test (inr q) h = absurd (q h)

    closed : Closed
    closed =
        close (missing nodes (λ n. test (dec_from n))) (λ n. test (dec_from n)) (omega arith)
        (record { sound = λ n e. here (test_true (dec_from n) e); begun = λ n f. true_test (dec_from n) f })

    marked : (n : ℕ) → Reach s ok from n → closed.marks n ≡ true
    marked n (here f) = closed.closure.begun n f
    marked n (over {a} c r in' at_a at_n free okc) =
        All-contains (λ b. Fine closed.marks a b) c.ends n
        (All-contains (λ x. All (λ b. Fine closed.marks x b) c.ends) c.ends a
        (All-contains (ChannelFine closed.marks) s.channels c closed.complete in' okc) at_a) at_n free (marked a r)

    pub reach_decided : (n : ℕ) → Decided (Reach s ok from n)
    reach_decided n = by_mark (closed.marks n) refl
      where
        by_mark : (b : Bool) → closed.marks n ≡ b → Decided (Reach s ok from n)
        by_mark true e = inl (closed.closure.sound n e)
        by_mark false e = inr (λ r. let t = marked n r in cc)

strong_decided : (k : ChannelKind) → Decided (k ≢ Depletion)
strong_decided Enhancement = inl (λ e. cc)
strong_decided Depletion = inr (λ h. h refl)
strong_decided Partial = inl (λ e. cc)

on_decided : (k : ChannelKind) (g : Trit) → Decided (KindIsOn k g)
on_decided Enhancement g = same_trit_or_not g One
on_decided Depletion g = inl tt
on_decided Partial g = inr (λ h. h)

maybe_decided : (k : ChannelKind) (g : Trit) → Decided (KindMayBeOn k g)
maybe_decided Enhancement Zero = inr (λ h. h refl)
maybe_decided Enhancement One = inl (λ e. cc)
maybe_decided Enhancement X = inl (λ e. cc)
maybe_decided Depletion g = inl tt
maybe_decided Partial g = inl tt

for_decided : (d : Option Trit) (b : Trit) → Decided (d ≡ Some b)
for_decided None b = inr (λ e. cc)
for_decided (Some t) b = by_same (same_trit_or_not t b)
  where
    by_same : Decided (t ≡ b) → Decided (Some t ≡ Some b)
    by_same (inl e) = inl (ap (λ x. Some x) e)
    by_same (inr ne) = inr (λ e. ne (cc))

against_decided : (d : Option Trit) (b : Trit) → Decided ((t : Trit) × (d ≡ Some t) × (t ≢ b))
against_decided None b = inr (λ h. let e = h.1 in cc)
against_decided (Some t) b = by_same (same_trit_or_not t b)
  where
    by_same : Decided (t ≡ b) → Decided ((u : Trit) × (Some t ≡ Some u) × (u ≢ b))
    by_same (inl e) = inr (λ h. let q = h.1 in h.2 (let same : h.0 ≡ t = cc in same ∙ e))
    by_same (inr ne) = inl (t, refl, ne)

foreign_decided : (d : Option Trit) (x b : Trit) → Decided ((IsSome d) ⊎ (x ≢ b))
foreign_decided (Some t) x b = inl (inl refl)
foreign_decided None x b = by_same (same_trit_or_not x b)
  where
    neither : x ≡ b → (IsSome {T = Trit} None) ⊎ (x ≢ b) → ⊥
    neither e (inl h) = cc
    neither e (inr ne) = ne e

    by_same : Decided (x ≡ b) → Decided ((IsSome {T = Trit} None) ⊎ (x ≢ b))
    by_same (inl e) = inr (neither e)
    by_same (inr ne) = inl (inr ne)

abbrev value_of : Option Trit → Bool → Bool → Trit
value_of (Some t) z o = t
value_of None true o = Zero
value_of None false true = One
value_of None false false = X

unopposed_decided : {P Q : Type 0} → Decided P → Decided Q → Decided (P × (Q → ⊥))
unopposed_decided (inl p) (inl q) = inr (λ h. h.1 q)
unopposed_decided (inl p) (inr q) = inl (p, q)
unopposed_decided (inr p) _ = inr (λ h. p h.0)

abbrev weight : Trit → ℕ
weight Zero = 0
weight One = 0
weight X = 1

-- how many of the first k nodes are X
abbrev unsettled : ℕ → (ℕ → Trit) → ℕ
unsettled zero v = 0
unsettled (suc k) v = weight (v k) + unsettled k v

same_or_fewer : (k : ℕ) (v w : ℕ → Trit) → IsBelow v w
    → (((n : ℕ) → n < k → v n ≡ w n) × (unsettled k w ≡ unsettled k v)) ⊎ (unsettled k w < unsettled k v)
same_or_fewer zero v w b = inl (λ n lt. absurd (omega arith), refl)
same_or_fewer (suc k) v w b = step (v k) refl (w k) refl (b k) (same_or_fewer k v w b)
  where
    below_suc : (n : ℕ) → n < suc k → (n < k) ⊎ (n ≡ k)
    below_suc n h = grind arith

    upto : v k ≡ w k → ((n : ℕ) → n < k → v n ≡ w n) → (n : ℕ) → (n < k) ⊎ (n ≡ k) → v n ≡ w n
    upto e h n (inl lt) = h n lt
    upto e h n (inr q) = ap v q ∙ e ∙ ap w (sym q)

    both : v k ≡ w k
        → (((n : ℕ) → n < k → v n ≡ w n) × (unsettled k w ≡ unsettled k v)) ⊎ (unsettled k w < unsettled k v)
        → (((n : ℕ) → n < suc k → v n ≡ w n) × (unsettled (suc k) w ≡ unsettled (suc k) v))
        ⊎ (unsettled (suc k) w < unsettled (suc k) v)
    both e (inl h) = let q : weight (v k) ≡ weight (w k) = ap weight e in
        let r : unsettled k w ≡ unsettled k v = h.1 in inl (λ n lt. upto e h.0 n (below_suc n lt), omega arith)
    both e (inr f) = let q : weight (v k) ≡ weight (w k) = ap weight e in inr (omega arith)

    less : weight (v k) ≡ 1 → weight (w k) ≡ 0
        → (((n : ℕ) → n < k → v n ≡ w n) × (unsettled k w ≡ unsettled k v)) ⊎ (unsettled k w < unsettled k v)
        → unsettled (suc k) w < unsettled (suc k) v
    less p q (inl h) = let r : unsettled k w ≡ unsettled k v = h.1 in omega arith
    less p q (inr f) = omega arith

    step : (t : Trit) → v k ≡ t → (u : Trit) → w k ≡ u → (v k ≡ X) ⊎ (v k ≡ w k)
        → (((n : ℕ) → n < k → v n ≡ w n) × (unsettled k w ≡ unsettled k v)) ⊎ (unsettled k w < unsettled k v)
        → (((n : ℕ) → n < suc k → v n ≡ w n) × (unsettled (suc k) w ≡ unsettled (suc k) v))
        ⊎ (unsettled (suc k) w < unsettled (suc k) v)
    step t e u f (inr q) r = both q r
    step t e Zero f (inl q) r = inr (less (ap weight q) (ap weight f) r)
    step t e One f (inl q) r = inr (less (ap weight q) (ap weight f) r)
    step t e X f (inl q) r = both (q ∙ sym f) r

module _ (s : Setting) (nodes : ℕ)
    (ends_in : (c : Channel) (e : ℕ) → Contains s.channels c → Contains c.ends e → e < nodes) where
  gives_decided : (v : ℕ → Trit) (n : ℕ) (b : Trit) → Decided (Gives s v n b)
  gives_decided v n b =
      by_case
      (unopposed_decided
      (reach_decided s nodes ends_in (IsStrongOn v)
      (λ c. both_of (strong_decided c.kind) (on_decided c.kind (v c.gate))) (IsFor s b)
      (λ a. for_decided (s.driver a) b) n)
      (reach_decided s nodes ends_in (MayBeStrongOn v)
      (λ c. both_of (strong_decided c.kind) (maybe_decided c.kind (v c.gate))) (IsAgainst s b)
      (λ a. against_decided (s.driver a) b) n))
      (unopposed_decided
      (reach_decided s nodes ends_in (IsOn v) (λ c. on_decided c.kind (v c.gate)) (IsFor s b)
      (λ a. for_decided (s.driver a) b) n)
      (reach_decided s nodes ends_in (MayBeOn v) (λ c. maybe_decided c.kind (v c.gate)) (IsAgainst s b)
      (λ a. against_decided (s.driver a) b) n))
      (not_so (reach_decided s nodes ends_in (MayBeOn v) (λ c. maybe_decided c.kind (v c.gate)) (IsForeign s b)
      (λ a. foreign_decided (s.driver a) (s.before a) b) n))
    where
      by_case : Decided (Reach s (IsStrongOn v) (IsFor s b) n × (Reach s (MayBeStrongOn v) (IsAgainst s b) n → ⊥))
          → Decided (Reach s (IsOn v) (IsFor s b) n × (Reach s (MayBeOn v) (IsAgainst s b) n → ⊥))
          → Decided (Reach s (MayBeOn v) (IsForeign s b) n → ⊥) → Decided (Gives s v n b)
      by_case (inl h) _ _ = inl (gives_from_sets s v n b (by_strong h.0 h.1))
      by_case (inr _) (inl h) _ = inl (gives_from_sets s v n b (by_held h.0 h.1))
      by_case (inr _) (inr _) (inl h) = inl (gives_from_sets s v n b (by_kept h))
      by_case (inr p) (inr q) (inr r) = inr (λ g. out (sets_from_gives s v n b g))
        where
          out : GivesBySets s v n b → ⊥
          out (by_strong h none) = p (h, none)
          out (by_held h none) = q (h, none)
          out (by_kept none) = r none

  abbrev test_of : {P : Type 0} → Decided P → Bool
  test_of (inl p) = true
  test_of (inr q) = false

  -- the values after a round
  abbrev round : (ℕ → Trit) → ℕ → Trit
  round v n = value_of (s.driver n) (test_of (gives_decided v n Zero)) (test_of (gives_decided v n One))

  round_follows : (v : ℕ → Trit) → Follows s v (round v)
  round_follows v = record {
    driven = λ n t e. ap (λ d. value_of d (test_of (gives_decided v n Zero)) (test_of (gives_decided v n One))) e;
    zero = λ n e. zero_at n (gives_decided v n Zero) (gives_decided v n One)
        (ap (λ d. value_of d (test_of (gives_decided v n Zero)) (test_of (gives_decided v n One))) e);
    one = λ n e. one_at n (gives_decided v n Zero) (gives_decided v n One)
        (ap (λ d. value_of d (test_of (gives_decided v n Zero)) (test_of (gives_decided v n One))) e);
  }
    where
      zero_at : (n : ℕ) (z : Decided (Gives s v n Zero)) (o : Decided (Gives s v n One)) {x : Trit}
          → x ≡ value_of None (test_of z) (test_of o) → (x ≡ Zero) ↔ Gives s v n Zero
      zero_at n (inl z) o e = (λ _. z, λ _. e)
      zero_at n (inr z) (inl o) e = (λ q. absurd (cc), λ g. absurd (z g))
      zero_at n (inr z) (inr o) e = (λ q. absurd (cc), λ g. absurd (z g))

      one_at : (n : ℕ) (z : Decided (Gives s v n Zero)) (o : Decided (Gives s v n One)) {x : Trit}
          → x ≡ value_of None (test_of z) (test_of o) → (x ≡ One) ↔ Gives s v n One
      one_at n (inl z) o e = (λ q. absurd (cc), λ g. absurd (gives_once s v n Zero One (λ q. cc) z g))
      one_at n (inr z) (inl o) e = (λ _. o, λ _. e)
      one_at n (inr z) (inr o) e = (λ q. absurd (cc), λ g. absurd (o g))

  reach_far : (ok : Channel → Type 0) (from : ℕ → Type 0) (n : ℕ) → nodes ≤ n → Reach s ok from n → from n
  reach_far ok from n far (here f) = f
  reach_far ok from n far (over c r in' at_a at_n free okc) = absurd (omega (arith, ends_in c n in' at_n))

  gives_far : (v w : ℕ → Trit) (n : ℕ) (b : Trit) → nodes ≤ n → Gives s v n b → Gives s w n b
  gives_far v w n b far g = gives_from_sets s w n b (by_sets (sets_from_gives s v n b g))
    where
      by_sets : GivesBySets s v n b → GivesBySets s w n b
      by_sets (by_strong r none) =
          by_strong (here (reach_far (IsStrongOn v) (IsFor s b) n far r))
          (λ q. none (here (reach_far (MayBeStrongOn w) (IsAgainst s b) n far q)))
      by_sets (by_held r none) =
          by_held (here (reach_far (IsOn v) (IsFor s b) n far r))
          (λ q. none (here (reach_far (MayBeOn w) (IsAgainst s b) n far q)))
      by_sets (by_kept none) = by_kept (λ q. none (here (reach_far (MayBeOn w) (IsForeign s b) n far q)))

  round_far : (v w : ℕ → Trit) (n : ℕ) → nodes ≤ n → round v n ≡ round w n
  round_far v w n far = by_driver (s.driver n) refl
    where
      by_driver : (d : Option Trit) → s.driver n ≡ d → round v n ≡ round w n
      by_driver (Some t) e = (round_follows v).driven n t e ∙ sym ((round_follows w).driven n t e)
      by_driver None e =
          trit_same (round v n) (round w n)
          (λ z. ((round_follows w).zero n e).1 (gives_far v w n Zero far (((round_follows v).zero n e).0 z)))
          (λ z. ((round_follows v).zero n e).1 (gives_far w v n Zero far (((round_follows w).zero n e).0 z)))
          (λ z. ((round_follows w).one n e).1 (gives_far v w n One far (((round_follows v).one n e).0 z)))
          (λ z. ((round_follows v).one n e).1 (gives_far w v n One far (((round_follows w).one n e).0 z)))

  record Climbs (v : ℕ → Trit) : Type 0 where
    pub below : (w : ℕ → Trit) → IsBound s w → IsBelow v w
    pub grows : (w : ℕ → Trit) → Follows s v w → IsBelow v w

  climbs_round : (v : ℕ → Trit) → Climbs v → Climbs (round v)
  climbs_round v h = record {
    below = λ w b. round_below_bound s v (round v) w (h.below w b) b (round_follows v);
    grows = λ w g. follows_kept s v (round v) (round v) w (h.grows (round v) (round_follows v)) (round_follows v) g;
  }

  settled_at : (v : ℕ → Trit) → Climbs v → ((n : ℕ) → v n ≡ round v n) → IsLeastBound s v
  settled_at v h same = record {
    solution = record {
      driven = λ n t e. same n ∙ (round_follows v).driven n t e;
      zero = λ n e.
          (λ z. ((round_follows v).zero n e).0 (sym (same n) ∙ z), λ g. same n ∙ ((round_follows v).zero n e).1 g);
      one = λ n e.
          (λ z. ((round_follows v).one n e).0 (sym (same n) ∙ z), λ g. same n ∙ ((round_follows v).one n e).1 g);
    };
    least = h.below;
  }

  climb : (k : ℕ) (v : ℕ → Trit) → unsettled nodes v ≤ k → Climbs v → ((n : ℕ) → nodes ≤ n → v n ≡ round v n)
      → (w : ℕ → Trit) × IsLeastBound s w
  climb k v le h far = by_rounds k v le h far (same_or_fewer nodes v (round v) (h.grows (round v) (round_follows v)))
    where
      by_rounds : (k : ℕ) (v : ℕ → Trit) → unsettled nodes v ≤ k → Climbs v → ((n : ℕ) → nodes ≤ n → v n ≡ round v n)
          → (((n : ℕ) → n < nodes → v n ≡ round v n) × (unsettled nodes (round v) ≡ unsettled nodes v))
          ⊎ (unsettled nodes (round v) < unsettled nodes v) → (w : ℕ → Trit) × IsLeastBound s w
      by_rounds k v le h far (inl q) = (v, settled_at v h (λ n. near n (cases_lt n nodes)))
        where
          near : (n : ℕ) → (n < nodes) ⊎ (nodes ≤ n) → v n ≡ round v n
          near n (inl lt) = q.0 n lt
          near n (inr past) = far n past
      by_rounds zero v le h far (inr fewer) = absurd (omega arith)
      by_rounds (suc k) v le h far (inr fewer) =
          by_rounds k (round v) (omega arith) (climbs_round v h) (λ n past. round_far v (round v) n past)
          (same_or_fewer nodes (round v) (round (round v))
          ((climbs_round v h).grows (round (round v)) (round_follows (round v))))

  bound_among : (w : ℕ → Trit) × IsLeastBound s w
  bound_among =
      climb (unsettled nodes (round (λ n. X))) (round (λ n. X)) (omega arith)
      (climbs_round (λ n. X) (record { below = λ w g n. inl refl; grows = λ w g n. inl refl }))
      (λ n past. round_far (λ m. X) (round (λ m. X)) n past)

-- a number that is above each of the list
above_all : (xs : List ℕ) → (n : ℕ) × ((x : ℕ) → Contains xs x → x < n)
above_all [] = (0, λ x h. absurd (omega (arith, h.1)))
above_all (y ∷ ys) =
    let rest = above_all ys in
    (suc (y + rest.0), λ x h. by_place h.0 x h.1 h.2 rest.0 rest.1)
  where
    by_place : (k x : ℕ) → k < length (y ∷ ys) → get_or (y ∷ ys) k x ≡ x → (n : ℕ) → ((z : ℕ) → Contains ys z → z < n)
        → x < suc (y + n)
    by_place zero x lt e n h = omega arith
    by_place (suc k) x lt e n h = let b = h x (k, omega arith, e) in omega arith

-- a number that is above each end of the channels
above_ends : (cs : List Channel) → (n : ℕ) × ((c : Channel) (e : ℕ) → Contains cs c → Contains c.ends e → e < n)
above_ends [] = (0, λ c e h. absurd (omega (arith, h.1)))
above_ends (d ∷ ds) =
    let first = above_all d.ends in
    let rest = above_ends ds in
    (first.0 + rest.0, λ c e h at. by_place h.0 c h.1 h.2 e at first.0 first.1 rest.0 rest.1)
  where
    by_place : (k : ℕ) (c : Channel) → k < length (d ∷ ds) → get_or (d ∷ ds) k c ≡ c → (e : ℕ) → Contains c.ends e
        → (m : ℕ) → ((x : ℕ) → Contains d.ends x → x < m) → (n : ℕ)
        → ((b : Channel) (x : ℕ) → Contains ds b → Contains b.ends x → x < n) → e < m + n
    by_place zero c lt same e at m f n g =
        let b = f e (subst (λ x. Contains x.ends e) (sym same) at) in omega arith
    by_place (suc k) c lt same e at m f n g = let b = g c e (k, omega arith, same) at in omega arith

pub least_bound_exists : (s : Setting) → (w : ℕ → Trit) × IsLeastBound s w
least_bound_exists s = let n = above_ends s.channels in bound_among s n.0 n.1

-- every setting has settled values
pub settled_exists : (s : Setting) → (w : ℕ → Trit) × IsSettled s w
settled_exists s = let w = least_bound_exists s in (w.0, settled_from_bound s w.0 w.1)
