-- Nodes that come into a set one by one.
use Rattle.std.proofs.Common.{◌≡◌, ◌<◌, ◌≤◌, ◌+◌, ◌++◌, ◌∷◌, [], ℕ, List, Option, None, Some, length, get_or, take}
use Rattle.std.proofs.Common.{refl, sym, ◌∙◌, ap, subst, inl, inr, ◌⊎◌, arith}
use Rattle.std.specs.Prelude.{Contains, Any, slice_get}
use Rattle.std.proofs.lemmas.List.{get_or_append_left, length_push, take_all}
use Rattle.std.proofs.lemmas.Option.{get_or_from_slice_get}
use Rattle.mp_base.specs.declared.value.Trit.{Trit}
use Rattle.mp_base.proofs.Numbers.{below_suc}
use Rattle.mp_base.proofs.Contents.{nothing_in}
use Rattle.mp_base.proofs.Entries.{contains_from_get}
use Rattle.switch_net.specs.declared.network.Channel.{Channel}
use Rattle.switch_net.specs.Settled.{Setting}
use Rattle.switch_net.specs.Reaching.{Reach, here, over}
use Rattle.node_clusters.specs.Links.{listed, AreLinked}
use Rattle.node_clusters.specs.Spread.{Borders, Adjoins, Extends, AddsEnds, AddsAdjoining, Spreads}
use Rattle.node_clusters.proofs.Listing.{contains_push, contains_more, contains_index, index_of}

pub extends_self : (xs : List ℕ) → Extends xs xs
extends_self xs = record { longer = omega arith; same = λ k lt. refl }

pub extends_then : (xs ys zs : List ℕ) → Extends xs ys → Extends ys zs → Extends xs zs
extends_then xs ys zs h g = record {
  longer = let a = h.longer in let b = g.longer in omega arith;
  same = λ k lt. let a = h.longer in g.same k (omega arith) ∙ h.same k lt;
}

pub extends_push : (xs : List ℕ) (y : ℕ) → Extends xs (xs ++ y ∷ [])
extends_push xs y = record {
  longer = let l = length_push xs y in omega arith;
  same = λ k lt. get_or_append_left xs (y ∷ []) 0 k lt;
}

pub extends_kept : (xs ys : List ℕ) → Extends xs ys → (n : ℕ) → Contains xs n → Contains ys n
extends_kept xs ys h n q =
    let p = index_of xs n q in
    let lt : p.0 < length ys = let a = p.1 in let b = h.longer in omega arith in
    subst (λ (m : ℕ). Contains ys m) (h.same p.0 p.1 ∙ p.2) (contains_index ys p.0 lt)

module _ (driver : ℕ → Option Trit) (ends : List ℕ) where
  pub adds_ends_none : (old : List ℕ) → AddsEnds driver (take 0 ends) old old
  adds_ends_none old = record {
    extends = extends_self old;
    added = λ n h. absurd (nothing_in n h);
    only = λ n h. inl h;
  }

  wider : (i e n : ℕ) → i < length ends → e ≡ get_or ends i e → {P : Type 0}
      → P ⊎ (Contains (take i ends) n × (driver n ≡ None)) → P ⊎ (Contains (take (i + 1) ends) n × (driver n ≡ None))
  wider i e n lt is (inl p) = inl p
  wider i e n lt is (inr q) = inr ((contains_more ends i e n lt is).1 (inl q.0), q.1)

  pub adds_ends_more : (i e : ℕ) (old mid : List ℕ) → i < length ends → e ≡ get_or ends i e → driver e ≡ None
      → AddsEnds driver (take i ends) old mid → AddsEnds driver (take (i + 1) ends) old (mid ++ e ∷ [])
  adds_ends_more i e old mid lt is free h = record {
    extends = extends_then old mid (mid ++ e ∷ []) h.extends (extends_push mid e);
    added = λ n q d. (contains_push mid e n).1 (added n d ((contains_more ends i e n lt is).0 q));
    only = λ n q. only n ((contains_push mid e n).0 q);
  }
    where
      added : (n : ℕ) → driver n ≡ None → Contains (take i ends) n ⊎ (e ≡ n) → Contains mid n ⊎ (e ≡ n)
      added n d (inl q) = inl (h.added n q d)
      added n d (inr q) = inr q

      only : (n : ℕ) → Contains mid n ⊎ (e ≡ n) → Contains old n ⊎ (Contains (take (i + 1) ends) n × (driver n ≡ None))
      only n (inl q) = wider i e n lt is (h.only n q)
      only n (inr q) = inr ((contains_more ends i e n lt is).1 (inr q), ap driver (sym q) ∙ free)

  pub adds_ends_skip : (i e : ℕ) (old mid : List ℕ) → i < length ends → e ≡ get_or ends i e
      → (driver e ≡ None → Contains mid e) → AddsEnds driver (take i ends) old mid
      → AddsEnds driver (take (i + 1) ends) old mid
  adds_ends_skip i e old mid lt is there h = record {
    extends = h.extends;
    added = λ n q d. added n d ((contains_more ends i e n lt is).0 q);
    only = λ n q. wider i e n lt is (h.only n q);
  }
    where
      added : (n : ℕ) → driver n ≡ None → Contains (take i ends) n ⊎ (e ≡ n) → Contains mid n
      added n d (inl q) = h.added n q d
      added n d (inr q) = subst (λ (m : ℕ). Contains mid m) q (there (ap driver q ∙ d))

  pub adds_ends_all : (i : ℕ) (old new : List ℕ) → length ends ≤ i → AddsEnds driver (take i ends) old new
      → AddsEnds driver ends old new
  adds_ends_all i old new le h = subst (λ (xs : List ℕ). AddsEnds driver xs old new) (take_all i ends le) h

module _ (s : Setting) (allowed : Channel → Type 0) where
  abbrev pub NoBorder : (ℕ → Type 0) → Channel → Type 0
  NoBorder from c = allowed c → Any from c.ends → ⊥

  -- a channel of a list of numbers that has the node as an end and a source as another
  pub borders_here : (from : ℕ → Type 0) (lists : List (List ℕ)) (node j : ℕ) (c : Channel)
      → AreLinked s.channels (length s.channels) lists → Contains (listed lists node) j
      → slice_get s.channels j ≡ Some c → allowed c → Any from c.ends → Borders s allowed from node
  borders_here from lists node j c linked at is ok any = (
    c,
    contains_from_get s.channels j c is,
    ok,
    subst (λ (x : Channel). Contains x.ends node) (get_or_from_slice_get s.channels j c c is) (linked.ends node j c at),
    any.1,
    (any.0, any.2, any.3),
    any.4,
  )

  -- a channel that ends at a node stands in the node's list
  place_of : (lists : List (List ℕ)) (node : ℕ) (c : Channel) → AreLinked s.channels (length s.channels) lists
      → Contains s.channels c → Contains c.ends node
      → (k : ℕ) × (k < length (listed lists node)) × (get_or s.channels (get_or (listed lists node) k 0) c ≡ c)
  place_of lists node c linked (j, inside, same) at =
      let (k, below, is) = index_of (listed lists node) j
      (linked.all node j c inside (subst (λ (x : Channel). Contains x.ends node) (sym same) at)) in
      (k, below, ap (λ i. get_or s.channels i c) is ∙ same)

  pub borders_none : (from : ℕ → Type 0) (lists : List (List ℕ)) (node : ℕ)
      → AreLinked s.channels (length s.channels) lists
      → ((k : ℕ) (c : Channel) → k < length (listed lists node)
      → NoBorder from (get_or s.channels (get_or (listed lists node) k 0) c))
      → Borders s allowed from node → ⊥
  borders_none from lists node linked none (c, in', ok, at, a, (e, inside, end), source) =
      let (k, below, is) = place_of lists node c linked in' at in
      subst (λ (x : Channel). NoBorder from x) is (none k c below) ok (e, a, inside, end, source)

  pub no_border_more : (from : ℕ → Type 0) (list : List ℕ) (i : ℕ) (ch : Channel)
      → ((c : Channel) → get_or s.channels (get_or list i 0) c ≡ ch) → NoBorder from ch
      → ((k : ℕ) (c : Channel) → k < i → NoBorder from (get_or s.channels (get_or list k 0) c))
      → (k : ℕ) (c : Channel) → k < i + 1 → NoBorder from (get_or s.channels (get_or list k 0) c)
  no_border_more from list i ch is none h k c lt = by_place (below_suc k i lt)
    where
      by_place : (k < i) ⊎ (k ≡ i) → NoBorder from (get_or s.channels (get_or list k 0) c)
      by_place (inl below) = h k c below
      by_place (inr e) =
          subst (λ (x : Channel). NoBorder from x) (sym (ap (λ m. get_or s.channels (get_or list m 0) c) e ∙ is c)) none

  -- what adjoins a over the first channels of a list comes in
  pub record AddsFirst (a : ℕ) (list : List ℕ) (i : ℕ) (old new : List ℕ) : Type 0 where
    pub extends : Extends old new
    pub added : (k n : ℕ) (c : Channel) → k < i → allowed (get_or s.channels (get_or list k 0) c)
        → Contains (get_or s.channels (get_or list k 0) c).ends n → s.driver n ≡ None → Contains new n
    pub only : (n : ℕ) → Contains new n → Contains old n ⊎ Adjoins s allowed a n

  pub adds_first_none : (a : ℕ) (list old : List ℕ) → AddsFirst a list 0 old old
  adds_first_none a list old =
      record { extends = extends_self old; added = λ k n c lt. absurd (omega arith); only = λ n h. inl h }

  pub adds_first_skip : (a : ℕ) (list : List ℕ) (i : ℕ) (ch : Channel) (old new : List ℕ)
      → ((c : Channel) → get_or s.channels (get_or list i 0) c ≡ ch) → (allowed ch → ⊥) → AddsFirst a list i old new
      → AddsFirst a list (i + 1) old new
  adds_first_skip a list i ch old new is refused h = record {
    extends = h.extends;
    added = λ k n c lt ok at free. by_place k n c ok at free (below_suc k i lt);
    only = h.only;
  }
    where
      by_place : (k n : ℕ) (c : Channel) → allowed (get_or s.channels (get_or list k 0) c)
          → Contains (get_or s.channels (get_or list k 0) c).ends n → s.driver n ≡ None → (k < i) ⊎ (k ≡ i)
          → Contains new n
      by_place k n c ok at free (inl lt) = h.added k n c lt ok at free
      by_place k n c ok at free (inr e) =
          absurd (refused (subst allowed (ap (λ m. get_or s.channels (get_or list m 0) c) e ∙ is c) ok))

  pub adds_first_more : (a : ℕ) (list : List ℕ) (i : ℕ) (ch : Channel) (old mid new : List ℕ) → Contains s.channels ch
      → Contains ch.ends a → ((c : Channel) → get_or s.channels (get_or list i 0) c ≡ ch) → allowed ch
      → AddsEnds s.driver ch.ends mid new → AddsFirst a list i old mid → AddsFirst a list (i + 1) old new
  adds_first_more a list i ch old mid new in' at_a is ok adds h = record {
    extends = extends_then old mid new h.extends adds.extends;
    added = λ k n c lt ok' at free. by_place k n c ok' at free (below_suc k i lt);
    only = λ n q. only n (adds.only n q);
  }
    where
      by_place : (k n : ℕ) (c : Channel) → allowed (get_or s.channels (get_or list k 0) c)
          → Contains (get_or s.channels (get_or list k 0) c).ends n → s.driver n ≡ None → (k < i) ⊎ (k ≡ i)
          → Contains new n
      by_place k n c ok' at free (inl lt) = extends_kept mid new adds.extends n (h.added k n c lt ok' at free)
      by_place k n c ok' at free (inr e) =
          adds.added n
          (subst (λ (x : Channel). Contains x.ends n) (ap (λ m. get_or s.channels (get_or list m 0) c) e ∙ is c) at)
          free

      only : (n : ℕ) → Contains mid n ⊎ (Contains ch.ends n × (s.driver n ≡ None))
          → Contains old n ⊎ Adjoins s allowed a n
      only n (inl q) = h.only n q
      only n (inr q) = inr (ch, in', ok, at_a, q.0, q.1)

  pub adds_first_all : (lists : List (List ℕ)) (a i : ℕ) (old new : List ℕ)
      → AreLinked s.channels (length s.channels) lists → length (listed lists a) ≤ i
      → AddsFirst a (listed lists a) i old new → AddsAdjoining s allowed a old new
  adds_first_all lists a i old new linked le h = record { extends = h.extends; added = added; only = h.only }
    where
      added : (n : ℕ) → Adjoins s allowed a n → Contains new n
      added n (c, in', ok, at_a, at_n, free) =
          let (k, below, is) = place_of lists a c linked in' at_a in
          h.added k n c (omega (arith, le, below)) (subst allowed (sym is) ok)
          (subst (λ (x : Channel). Contains x.ends n) (sym is) at_n) free

  -- a set as it grows: the neighbours of its first nodes are in it
  pub record GrowsFirst (i : ℕ) (old new : List ℕ) : Type 0 where
    pub within : i ≤ length new
    pub kept : (n : ℕ) → Contains old n → Contains new n
    pub reached : (n : ℕ) → Contains new n → Reach s allowed (Contains old) n
    pub closed : (k n : ℕ) → k < i → Adjoins s allowed (get_or new k 0) n → Contains new n

  pub grows_none : (old : List ℕ) → GrowsFirst 0 old old
  grows_none old =
      record { within = omega arith; kept = λ n h. h; reached = λ n h. here h; closed = λ k n lt. absurd (omega arith) }

  pub grows_more : (i node : ℕ) (old mid new : List ℕ) → i < length mid → node ≡ get_or mid i 0
      → AddsAdjoining s allowed node mid new → GrowsFirst i old mid → GrowsFirst (i + 1) old new
  grows_more i node old mid new lt is adds h = record {
    within = let l = adds.extends.longer in omega arith;
    kept = λ n q. extends_kept mid new adds.extends n (h.kept n q);
    reached = λ n q. reached n (adds.only n q);
    closed = λ k n below q. closed k n q (below_suc k i below);
  }
    where
      reached : (n : ℕ) → Contains mid n ⊎ Adjoins s allowed node n → Reach s allowed (Contains old) n
      reached n (inl q) = h.reached n q
      reached n (inr q) =
          over q.0
          (h.reached node (subst (λ (m : ℕ). Contains mid m) (sym is) (contains_index mid i lt))) q.1 q.3 q.4 q.5 q.2

      closed : (k n : ℕ) → Adjoins s allowed (get_or new k 0) n → (k < i) ⊎ (k ≡ i) → Contains new n
      closed k n q (inl below) =
          let same : get_or new k 0 ≡ get_or mid k 0 = adds.extends.same k (omega arith) in
          extends_kept mid new adds.extends n (h.closed k n below (subst (λ (m : ℕ). Adjoins s allowed m n) same q))
      closed k n q (inr e) =
          let same : get_or new k 0 ≡ node = ap (λ m. get_or new m 0) e ∙ adds.extends.same i lt ∙ sym is in
          adds.added n (subst (λ (m : ℕ). Adjoins s allowed m n) same q)

  pub grows_all : (i : ℕ) (old new : List ℕ) → length new ≤ i → GrowsFirst i old new → Spreads s allowed old new
  grows_all i old new le h = record {
    kept = h.kept;
    reached = h.reached;
    closed = λ a n at q. let k = index_of new a at in
        h.closed k.0 n (let l = k.1 in omega arith) (subst (λ (m : ℕ). Adjoins s allowed m n) (sym k.2) q);
  }

-- the channel whose number stands at a place of a node's list
module _ (channels : List Channel) (lists : List (List ℕ)) (linked : AreLinked channels (length channels) lists)
    (node : ℕ) (list : List ℕ) (is_list : list ≡ listed lists node) (i : ℕ) (lt : i < length list) where
  pub number_listed : Contains (listed lists node) (get_or list i 0)
  number_listed = subst (λ (xs : List ℕ). Contains xs (get_or list i 0)) is_list (contains_index list i lt)

  module _ (ch : Channel) (is : slice_get channels (get_or list i 0) ≡ Some ch) where
    pub channel_at : (c : Channel) → get_or channels (get_or (listed lists node) i 0) c ≡ ch
    channel_at c = ap (λ (xs : List ℕ). get_or channels (get_or xs i 0) c) (sym is_list)
        ∙ get_or_from_slice_get channels (get_or list i 0) ch c is

    pub channel_ends : Contains ch.ends node
    channel_ends = subst (λ (x : Channel). Contains x.ends node)
        (get_or_from_slice_get channels (get_or list i 0) ch ch is)
        (linked.ends node (get_or list i 0) ch number_listed)
