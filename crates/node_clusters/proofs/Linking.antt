-- Channels that are listed at their ends.
use Rattle.std.proofs.Common.{◌≡◌, ◌<◌, ◌≤◌, ◌+◌, ◌++◌, ◌∷◌, [], ℕ, List, length, get_or, take, sym, ◌∙◌, ap, subst}
use Rattle.std.proofs.Common.{inl, inr, ◌⊎◌, arith}
use Rattle.std.specs.Prelude.{Contains, ◌↔◌, ◌≢◌, replicate}
use Rattle.std.proofs.Math.ListN.{set}
use Rattle.std.proofs.lemmas.Bool.{cases_eq}
use Rattle.std.proofs.lemmas.List.{get_or_default, get_or-set_same, get_or-set_other}
use Rattle.std.proofs.lemmas.List.Elements.{Contains-append_left, Contains-append_right}
use Rattle.mp_base.proofs.Numbers.{below_suc}
use Rattle.mp_base.proofs.Contents.{nothing_in}
use Rattle.switch_net.specs.declared.network.ChannelKind.TheVariants.{Enhancement}
use Rattle.switch_net.specs.declared.network.Channel.{Channel}
use Rattle.node_clusters.specs.Links.{listed, AddsLink, AreLinked, AddsGated, AreGated}
use Rattle.node_clusters.proofs.Listing.{contains_push, contains_more, replicate_at}

pub adds_link_none : (nodes : List ℕ) (j : ℕ) (lists : List (List ℕ)) → AddsLink (take 0 nodes) j lists lists
adds_link_none nodes j lists n i = (inl, back)
  where
    back : Contains (listed lists n) i ⊎ ((i ≡ j) × Contains [] n) → Contains (listed lists n) i
    back (inl h) = h
    back (inr h) = absurd (nothing_in n h.1)

pub adds_link_more : (nodes : List ℕ) (k j : ℕ) (old mid : List (List ℕ)) (e : ℕ) (list : List ℕ) → k < length nodes
    → e ≡ get_or nodes k e → e < length mid → list ≡ listed mid e ++ j ∷ []
    → AddsLink (take k nodes) j old mid → AddsLink (take (k + 1) nodes) j old (set mid e list)
adds_link_more nodes k j old mid e list lt is in' pushed h n i = by_node (cases_eq n e)
  where
    more : Contains (take (k + 1) nodes) n ↔ (Contains (take k nodes) n ⊎ (e ≡ n))
    more = contains_more nodes k e n lt is

    wider : Contains (listed old n) i ⊎ ((i ≡ j) × Contains (take k nodes) n)
        → (Contains (listed old n) i ⊎ ((i ≡ j) × Contains (take (k + 1) nodes) n))
    wider (inl q) = inl q
    wider (inr q) = inr (q.0, more.1 (inl q.1))

    by_node : (n ≡ e) ⊎ (n ≢ e)
        → (Contains (listed (set mid e list) n) i)
        ↔ (Contains (listed old n) i ⊎ ((i ≡ j) × Contains (take (k + 1) nodes) n))
    by_node (inl same) = (forth, back)
      where
        at : listed (set mid e list) n ≡ listed mid n ++ j ∷ []
        at = ap (λ m. listed (set mid e list) m) same ∙ get_or-set_same mid e list [] in' ∙ pushed
            ∙ ap (λ m. listed mid m ++ j ∷ []) (sym same)

        forth : Contains (listed (set mid e list) n) i
            → (Contains (listed old n) i ⊎ ((i ≡ j) × Contains (take (k + 1) nodes) n))
        forth q = from ((contains_push (listed mid n) j i).0 (subst (λ (xs : List ℕ). Contains xs i) at q))
          where
            from : Contains (listed mid n) i ⊎ (j ≡ i)
                → (Contains (listed old n) i ⊎ ((i ≡ j) × Contains (take (k + 1) nodes) n))
            from (inl r) = wider ((h n i).0 r)
            from (inr r) = inr (sym r, more.1 (inr (sym same)))

        back : (Contains (listed old n) i ⊎ ((i ≡ j) × Contains (take (k + 1) nodes) n))
            → Contains (listed (set mid e list) n) i
        back t = subst (λ (xs : List ℕ). Contains xs i) (sym at) ((contains_push (listed mid n) j i).1 (to t))
          where
            to : (Contains (listed old n) i ⊎ ((i ≡ j) × Contains (take (k + 1) nodes) n))
                → Contains (listed mid n) i ⊎ (j ≡ i)
            to (inl q) = inl ((h n i).1 (inl q))
            to (inr q) = inr (sym q.0)
    by_node (inr other) = (forth, back)
      where
        at : listed (set mid e list) n ≡ listed mid n
        at = get_or-set_other mid e n list [] other

        forth : Contains (listed (set mid e list) n) i
            → (Contains (listed old n) i ⊎ ((i ≡ j) × Contains (take (k + 1) nodes) n))
        forth q = wider ((h n i).0 (subst (λ (xs : List ℕ). Contains xs i) at q))

        back : (Contains (listed old n) i ⊎ ((i ≡ j) × Contains (take (k + 1) nodes) n))
            → Contains (listed (set mid e list) n) i
        back t = subst (λ (xs : List ℕ). Contains xs i) (sym at) ((h n i).1 (to t))
          where
            narrow : i ≡ j → Contains (take k nodes) n ⊎ (e ≡ n) → (i ≡ j) × Contains (take k nodes) n
            narrow p (inl r) = (p, r)
            narrow p (inr r) = absurd (other (sym r))

            to : (Contains (listed old n) i ⊎ ((i ≡ j) × Contains (take (k + 1) nodes) n))
                → Contains (listed old n) i ⊎ ((i ≡ j) × Contains (take k nodes) n)
            to (inl q) = inl q
            to (inr q) = inr (narrow q.0 (more.0 q.1))

pub adds_link_all : (nodes : List ℕ) (k j : ℕ) (old new : List (List ℕ)) → take k nodes ≡ nodes
    → AddsLink (take k nodes) j old new → AddsLink nodes j old new
adds_link_all nodes k j old new e h = subst (λ (xs : List ℕ). AddsLink xs j old new) e h

pub linked_none : (channels : List Channel) (nodes : ℕ) (lists : List (List ℕ)) → lists ≡ replicate nodes []
    → AreLinked channels 0 lists
linked_none channels nodes lists e = record {
  inside = λ n j h. absurd (nothing n j h);
  ends = λ n j c h. absurd (nothing n j h);
  all = λ n j c lt. absurd (omega arith);
}
  where
    nothing : (n j : ℕ) → Contains (listed lists n) j → ⊥
    nothing n j h =
        let empty : listed lists n ≡ [] = ap (λ (x : List (List ℕ)). listed x n) e ∙ replicate_at nodes n [] in
        nothing_in j (subst (λ (xs : List ℕ). Contains xs j) empty h)

pub linked_more : (channels : List Channel) (j : ℕ) (mid new : List (List ℕ)) (ch : Channel) → j < length channels
    → ch ≡ get_or channels j ch → AddsLink ch.ends j mid new → AreLinked channels j mid → AreLinked channels (j + 1) new
linked_more channels j mid new ch lt is adds h = record {
  inside = λ n i q. inside n i ((adds n i).0 q);
  ends = λ n i c q. ends n i c ((adds n i).0 q);
  all = λ n i c below q. all n i c q (below_suc i j below);
}
  where
    at : (c : Channel) → get_or channels j c ≡ ch
    at c = get_or_default channels j c ch lt ∙ sym is

    inside : (n i : ℕ) → Contains (listed mid n) i ⊎ ((i ≡ j) × Contains ch.ends n) → i < j + 1
    inside n i (inl q) = let b = h.inside n i q in omega arith
    inside n i (inr q) = let e = q.0 in omega arith

    ends : (n i : ℕ) (c : Channel) → Contains (listed mid n) i ⊎ ((i ≡ j) × Contains ch.ends n)
        → Contains (get_or channels i c).ends n
    ends n i c (inl q) = h.ends n i c q
    ends n i c (inr q) = subst (λ (x : Channel). Contains x.ends n) (sym (ap (λ k. get_or channels k c) q.0 ∙ at c)) q.1

    all : (n i : ℕ) (c : Channel) → Contains (get_or channels i c).ends n → (i < j) ⊎ (i ≡ j)
        → Contains (listed new n) i
    all n i c q (inl below) = (adds n i).1 (inl (h.all n i c below q))
    all n i c q (inr same) =
        (adds n i).1
        (inr (same, subst (λ (x : Channel). Contains x.ends n) (ap (λ k. get_or channels k c) same ∙ at c) q))

-- the ends of the first channels are listed at their gates
abbrev pub GatedFirst : List Channel → ℕ → List (List ℕ) → Type 0
GatedFirst channels first lists =
    (j e : ℕ) (c : Channel) → j < first → c ≡ get_or channels j c → c.kind ≡ Enhancement → Contains c.ends e
    → Contains (listed lists c.gate) e

pub adds_gated : (c : Channel) (lists : List (List ℕ)) (list : List ℕ) → c.gate < length lists
    → list ≡ listed lists c.gate ++ c.ends → AddsGated c lists (set lists c.gate list)
adds_gated c lists list inside is =
    record { kept = λ g e q. kept g e q (cases_eq g c.gate); added = λ e _ q. added e q }
  where
    at : listed (set lists c.gate list) c.gate ≡ listed lists c.gate ++ c.ends
    at = get_or-set_same lists c.gate list [] inside ∙ is

    kept : (g e : ℕ) → Contains (listed lists g) e → (g ≡ c.gate) ⊎ (g ≢ c.gate)
        → Contains (listed (set lists c.gate list) g) e
    kept g e q (inl same) =
        subst (λ k. Contains (listed (set lists c.gate list) k) e) (sym same)
        (subst (λ (xs : List ℕ). Contains xs e) (sym at)
        (Contains-append_left (listed lists c.gate) c.ends e (subst (λ k. Contains (listed lists k) e) same q)))
    kept g e q (inr other) =
        subst (λ (xs : List ℕ). Contains xs e) (sym (get_or-set_other lists c.gate g list [] other)) q

    added : (e : ℕ) → Contains c.ends e → Contains (listed (set lists c.gate list) c.gate) e
    added e q = subst (λ (xs : List ℕ). Contains xs e) (sym at) (Contains-append_right (listed lists c.gate) c.ends e q)

pub adds_no_gated : (c : Channel) (lists : List (List ℕ)) → (c.kind ≡ Enhancement → ⊥) → AddsGated c lists lists
adds_no_gated c lists other = record { kept = λ g e q. q; added = λ e kind _. absurd (other kind) }

pub gated_none : (channels : List Channel) (lists : List (List ℕ)) → GatedFirst channels 0 lists
gated_none channels lists j e c lt = absurd (omega arith)

pub gated_more : (channels : List Channel) (j : ℕ) (mid new : List (List ℕ)) (ch : Channel) → j < length channels
    → ch ≡ get_or channels j ch → AddsGated ch mid new → GatedFirst channels j mid → GatedFirst channels (j + 1) new
gated_more channels j mid new ch inside at adds h i e c lt is kind q = by_place (below_suc i j lt)
  where
    by_place : (i < j) ⊎ (i ≡ j) → Contains (listed new c.gate) e
    by_place (inl below) = adds.kept c.gate e (h i e c below is kind q)
    by_place (inr same) =
        let one : c ≡ ch = is ∙ ap (λ k. get_or channels k c) same ∙ get_or_default channels j c ch inside ∙ sym at in
        subst (λ (x : Channel). Contains (listed new x.gate) e) (sym one)
        (adds.added e (ap (λ (x : Channel). x.kind) (sym one) ∙ kind)
        (subst (λ (x : Channel). Contains x.ends e) one q))

pub gated_all : (channels : List Channel) (first : ℕ) (lists : List (List ℕ)) → length channels ≤ first
    → GatedFirst channels first lists → AreGated channels lists
gated_all channels first lists le h c e in' kind q = let below = in'.1 in h in'.0 e c (omega arith) (sym in'.2) kind q
