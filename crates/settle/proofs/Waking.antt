-- Nodes that wait, one by one.
use Rattle.std.proofs.Common.{◌≡◌, ◌<◌, ◌≤◌, ◌+◌, ℕ, List, Option, None, Bool, true, false, length, get_or, take, refl}
use Rattle.std.proofs.Common.{sym, ◌∙◌, ap, subst, inl, inr, ◌⊎◌, arith}
use Rattle.std.specs.Prelude.{Contains, ◌≢◌}
use Rattle.std.proofs.Math.ListN.{set}
use Rattle.std.proofs.lemmas.Bool.{cases_eq}
use Rattle.std.proofs.lemmas.List.{get_or_default, get_or-set_same, get_or-set_other, length-set, take_all}
use Rattle.mp_base.specs.declared.value.Trit.{Trit}
use Rattle.mp_base.specs.declared.value.Trit.TheVariants.{X}
use Rattle.mp_base.proofs.Numbers.{below_suc}
use Rattle.mp_base.proofs.Contents.{nothing_in}
use Rattle.node_clusters.specs.Values.{IsMarked}
use Rattle.switch_net.specs.Values.{value_at}
use Rattle.switch_net.specs.declared.network.Channel.{Channel}
use Rattle.node_clusters.specs.Links.{listed, AreLinked}
use Rattle.settle.specs.Wake.{Widens, Wakes, WakesBeside, IsVerdict, Renews}
use Rattle.node_clusters.proofs.Listing.{contains_more, index_of}

abbrev pub mark_at : List Bool → ℕ → Bool
mark_at marks n = get_or marks n false

pub marked_here : (waits : List Bool) (e : ℕ) → e < length waits → IsMarked (set waits e true) e
marked_here waits e lt = get_or-set_same waits e true false lt

pub marked_still : (waits : List Bool) (e n : ℕ) → e < length waits → IsMarked waits n → IsMarked (set waits e true) n
marked_still waits e n lt m = by_node (cases_eq n e)
  where
    by_node : (n ≡ e) ⊎ (n ≢ e) → IsMarked (set waits e true) n
    by_node (inl same) = subst (λ k. IsMarked (set waits e true) k) (sym same) (marked_here waits e lt)
    by_node (inr other) = get_or-set_other waits e n true false other ∙ m

pub marked_from : (waits : List Bool) (e n : ℕ) → IsMarked (set waits e true) n → (n ≡ e) ⊎ IsMarked waits n
marked_from waits e n m = by_node (cases_eq n e)
  where
    by_node : (n ≡ e) ⊎ (n ≢ e) → (n ≡ e) ⊎ IsMarked waits n
    by_node (inl same) = inl same
    by_node (inr other) = inr (sym (get_or-set_other waits e n true false other) ∙ m)

module _ (driver : ℕ → Option Trit) where
  pub widens_same : (waits : List Bool) → Widens driver waits waits
  widens_same waits = record { kept = λ n m. m; undriven = λ n m. inl m }

  pub widens_then : (old mid new : List Bool) → Widens driver old mid → Widens driver mid new → Widens driver old new
  widens_then old mid new f g = record {
    kept = λ n m. g.kept n (f.kept n m);
    undriven = λ n m. elim (g.undriven n m) [ inl q ↦ f.undriven n q | inr q ↦ inr q ];
  }

  pub widens_mark : (waits : List Bool) (e : ℕ) → e < length waits → driver e ≡ None
      → Widens driver waits (set waits e true)
  widens_mark waits e lt free = record {
    kept = λ n m. marked_still waits e n lt m;
    undriven = λ n m. elim (marked_from waits e n m) [ inl same ↦ inr (ap driver same ∙ free) | inr q ↦ inl q ];
  }

  -- wider marks serve too
  pub wakes_wider : (nodes : List ℕ) (old new : List Bool) → length new ≡ length old → Widens driver old new
      → Wakes driver nodes old → Wakes driver nodes new
  wakes_wider nodes old new sized w h n in' lt free = w.kept n (h n in' (omega arith) free)

  -- `Widens` and `Wakes`, as far as the first i nodes
  pub record WakesFirst (nodes : List ℕ) (i : ℕ) (old new : List Bool) : Type 0 where
    pub widens : Widens driver old new
    pub wakes : Wakes driver (take i nodes) new

  pub wakes_none : (nodes : List ℕ) (old : List Bool) → WakesFirst nodes 0 old old
  wakes_none nodes old = record { widens = widens_same old; wakes = λ n in'. absurd (nothing_in n in') }

  module _ (nodes : List ℕ) (i e : ℕ) (old mid : List Bool) (lt : i < length nodes) (is : e ≡ get_or nodes i e)
      (h : WakesFirst nodes i old mid) where
    pub wakes_more : e < length mid → driver e ≡ None → WakesFirst nodes (i + 1) old (set mid e true)
    wakes_more inside free = record {
      widens = widens_then old mid (set mid e true) h.widens (widens_mark mid e inside free);
      wakes = λ n in' below undriven. wakes n below undriven ((contains_more nodes i e n lt is).0 in');
    }
      where
        wakes : (n : ℕ) → n < length (set mid e true) → driver n ≡ None → Contains (take i nodes) n ⊎ (e ≡ n)
            → IsMarked (set mid e true) n
        wakes n below undriven (inl q) =
            marked_still mid e n inside
            (h.wakes n q (let l : length (set mid e true) ≡ length mid = length-set mid e true in omega arith) undriven)
        wakes n below undriven (inr q) = subst (λ k. IsMarked (set mid e true) k) q (marked_here mid e inside)

    pub wakes_skip : (e < length mid → driver e ≡ None → ⊥) → WakesFirst nodes (i + 1) old mid
    wakes_skip none = record {
      widens = h.widens;
      wakes = λ n in' below undriven. wakes n below undriven ((contains_more nodes i e n lt is).0 in');
    }
      where
        wakes : (n : ℕ) → n < length mid → driver n ≡ None → Contains (take i nodes) n ⊎ (e ≡ n) → IsMarked mid n
        wakes n below undriven (inl q) = h.wakes n q below undriven
        wakes n below undriven (inr q) = absurd (none (let s = q in omega arith) (ap driver q ∙ undriven))

  pub wakes_all : (nodes : List ℕ) (i : ℕ) (old new : List Bool) → length nodes ≤ i → WakesFirst nodes i old new
      → Wakes driver nodes new
  wakes_all nodes i old new le h = subst (λ (xs : List ℕ). Wakes driver xs new) (take_all i nodes le) h.wakes

-- the ends of the channels of the first numbers of a list wait
pub record BesideFirst (driver : ℕ → Option Trit) (channels : List Channel) (numbers : List ℕ) (i : ℕ)
    (old new : List Bool) : Type 0 where
  pub widens : Widens driver old new
  pub wakes : (k : ℕ) (c : Channel) → k < i → get_or numbers k 0 < length channels
      → c ≡ get_or channels (get_or numbers k 0) c → Wakes driver c.ends new

module _ (driver : ℕ → Option Trit) (channels : List Channel) (numbers : List ℕ) where
  pub beside_none : (old : List Bool) → BesideFirst driver channels numbers 0 old old
  beside_none old = record { widens = widens_same driver old; wakes = λ k c lt. absurd (omega arith) }

  module _ (i : ℕ) (old mid : List Bool) (h : BesideFirst driver channels numbers i old mid) where
    pub beside_skip : length channels ≤ get_or numbers i 0 → BesideFirst driver channels numbers (i + 1) old mid
    beside_skip far = record { widens = h.widens; wakes = λ k c lt below is. wakes k c below is (below_suc k i lt) }
      where
        wakes : (k : ℕ) (c : Channel) → get_or numbers k 0 < length channels
            → c ≡ get_or channels (get_or numbers k 0) c → (k < i) ⊎ (k ≡ i) → Wakes driver c.ends mid
        wakes k c below is (inl lt) = h.wakes k c lt below is
        wakes k c below is (inr e) =
            absurd (let q : get_or numbers k 0 ≡ get_or numbers i 0 = ap (λ m. get_or numbers m 0) e in omega arith)

    pub beside_more : (ch : Channel) (new : List Bool) → length new ≡ length mid
        → ch ≡ get_or channels (get_or numbers i 0) ch → Widens driver mid new → Wakes driver ch.ends new
        → BesideFirst driver channels numbers (i + 1) old new
    beside_more ch new sized at widens woken =
        record {
          widens = widens_then driver old mid new h.widens widens;
          wakes = λ k c lt below is. wakes k c below is (below_suc k i lt);
        }
      where
        wakes : (k : ℕ) (c : Channel) → get_or numbers k 0 < length channels
            → c ≡ get_or channels (get_or numbers k 0) c → (k < i) ⊎ (k ≡ i) → Wakes driver c.ends new
        wakes k c below is (inl lt) = wakes_wider driver c.ends mid new sized widens (h.wakes k c lt below is)
        wakes k c below is (inr e) =
            let same : c ≡ ch =
            is ∙ ap (λ m. get_or channels (get_or numbers m 0) c) e
            ∙ get_or_default channels (get_or numbers i 0) c ch
            (let q : get_or numbers k 0 ≡ get_or numbers i 0 = ap (λ m. get_or numbers m 0) e in omega arith)
            ∙ sym at in
            subst (λ (x : Channel). Wakes driver x.ends new) (sym same) woken

  pub beside_all : (lists : List (List ℕ)) (node i : ℕ) (old new : List Bool)
      → AreLinked channels (length channels) lists → numbers ≡ listed lists node → length numbers ≤ i
      → BesideFirst driver channels numbers i old new → WakesBeside driver channels node new
  beside_all lists node i old new linked are le h c in' at =
      let there : Contains (get_or channels in'.0 c).ends node =
      subst (λ (x : Channel). Contains x.ends node) (sym in'.2) at in
      let q : Contains numbers in'.0 =
      subst (λ (xs : List ℕ). Contains xs in'.0) (sym are) (linked.all node in'.0 c in'.1 there) in
      let k = index_of numbers in'.0 q in
      let below = k.1 in
      let number : get_or numbers k.0 0 ≡ in'.0 = k.2 in
      let inside = in'.1 in
      h.wakes k.0 c (omega arith) (omega arith) (sym in'.2 ∙ ap (λ j. get_or channels j c) (sym number))

-- marks that are taken one by one
pub rests_more : (nodes : List ℕ) (i e : ℕ) (old mid : List Bool) → i < length nodes → e ≡ get_or nodes i e
    → ((n : ℕ) → IsMarked old n → IsMarked mid n ⊎ Contains (take i nodes) n)
    → (n : ℕ) → IsMarked old n → IsMarked (set mid e false) n ⊎ Contains (take (i + 1) nodes) n
rests_more nodes i e old mid lt is h n m = by_node (cases_eq n e)
  where
    from : n ≢ e → IsMarked mid n ⊎ Contains (take i nodes) n
        → IsMarked (set mid e false) n ⊎ Contains (take (i + 1) nodes) n
    from other (inl q) = inl (get_or-set_other mid e n false false other ∙ q)
    from other (inr q) = inr ((contains_more nodes i e n lt is).1 (inl q))

    by_node : (n ≡ e) ⊎ (n ≢ e) → IsMarked (set mid e false) n ⊎ Contains (take (i + 1) nodes) n
    by_node (inl same) = inr ((contains_more nodes i e n lt is).1 (inr (sym same)))
    by_node (inr other) = from other (h n m)

pub rests_fewer : (e : ℕ) (old mid : List Bool) → e < length mid → ((n : ℕ) → IsMarked mid n → IsMarked old n)
    → (n : ℕ) → IsMarked (set mid e false) n → IsMarked old n
rests_fewer e old mid inside h n m = by_node (cases_eq n e)
  where
    by_node : (n ≡ e) ⊎ (n ≢ e) → IsMarked old n
    by_node (inl same) =
        absurd (let gone : get_or (set mid e false) n false ≡ false =
        ap (λ k. get_or (set mid e false) k false) same ∙ get_or-set_same mid e false false inside in
        let there : get_or (set mid e false) n false ≡ true = m in cc)
    by_node (inr other) = h n (sym (get_or-set_other mid e n false false other) ∙ m)

-- verdicts that are given one by one
module _ (driver : ℕ → Option Trit) (gated : List (List ℕ)) (zeros ones nodes : List ℕ) (old : List Trit)
    (before : List Bool) where
  abbrev pub RenewsFirst : ℕ → List Trit → List Bool → Type 0
  RenewsFirst i new after = Renews driver gated zeros ones (take i nodes) old new before after

  pub renews_none : RenewsFirst 0 old before
  renews_none = record {
    given = λ n in'. absurd (nothing_in n in');
    kept = λ n _. refl;
    told = λ g. inl refl;
    widens = widens_same driver before;
  }

  module _ (i e : ℕ) (mid : List Trit) (waits : List Bool) (lt : i < length nodes) (is : e ≡ get_or nodes i e)
      (h : RenewsFirst i mid waits) where
    pub renews_same : IsVerdict zeros ones e (value_at mid e) → RenewsFirst (i + 1) mid waits
    renews_same verdict = record {
      given = λ n in'. given n ((contains_more nodes i e n lt is).0 in');
      kept = λ n out. h.kept n (λ q. out ((contains_more nodes i e n lt is).1 (inl q)));
      told = h.told;
      widens = h.widens;
    }
      where
        given : (n : ℕ) → Contains (take i nodes) n ⊎ (e ≡ n) → IsVerdict zeros ones n (value_at mid n)
        given n (inl q) = h.given n q
        given n (inr q) = subst (λ k. IsVerdict zeros ones k (value_at mid k)) q verdict

    pub renews_more : (t : Trit) (after : List Bool) → e < length mid → length after ≡ length waits
        → IsVerdict zeros ones e t → Widens driver waits after → Wakes driver (listed gated e) after
        → RenewsFirst (i + 1) (set mid e t) after
    renews_more t after inside sized verdict widens wakes = record {
      given = λ n in'. given n (cases_eq n e) ((contains_more nodes i e n lt is).0 in');
      kept = λ n out. kept n out (cases_eq n e);
      told = λ g. told g (cases_eq g e);
      widens = widens_then driver before waits after h.widens widens;
    }
      where
        at : value_at (set mid e t) e ≡ t
        at = get_or-set_same mid e t X inside

        given : (n : ℕ) → (n ≡ e) ⊎ (n ≢ e) → Contains (take i nodes) n ⊎ (e ≡ n)
            → IsVerdict zeros ones n (value_at (set mid e t) n)
        given n (inl same) q =
            subst (λ k. IsVerdict zeros ones k (value_at (set mid e t) k)) (sym same)
            (subst (λ x. IsVerdict zeros ones e x) (sym at) verdict)
        given n (inr other) (inl q) =
            subst (λ x. IsVerdict zeros ones n x) (sym (get_or-set_other mid e n t X other)) (h.given n q)
        given n (inr other) (inr q) = absurd (other (sym q))

        kept : (n : ℕ) → (Contains (take (i + 1) nodes) n → ⊥) → (n ≡ e) ⊎ (n ≢ e)
            → value_at (set mid e t) n ≡ value_at old n
        kept n out (inl same) = absurd (out ((contains_more nodes i e n lt is).1 (inr (sym same))))
        kept n out (inr other) =
            get_or-set_other mid e n t X other ∙ h.kept n (λ q. out ((contains_more nodes i e n lt is).1 (inl q)))

        told : (g : ℕ) → (g ≡ e) ⊎ (g ≢ e)
            → (value_at (set mid e t) g ≡ value_at old g) ⊎ Wakes driver (listed gated g) after
        told g (inl same) = inr (subst (λ k. Wakes driver (listed gated k) after) (sym same) wakes)
        told g (inr other) = elim (h.told g) [
          | inl q ↦ inl (get_or-set_other mid e g t X other ∙ q)
          | inr w ↦ inr (wakes_wider driver (listed gated g) waits after sized widens w)
        ]

  pub renews_all : (i : ℕ) (new : List Trit) (after : List Bool) → length nodes ≤ i → RenewsFirst i new after
      → Renews driver gated zeros ones nodes old new before after
  renews_all i new after le h =
      subst (λ (xs : List ℕ). Renews driver gated zeros ones xs old new before after) (take_all i nodes le) h
