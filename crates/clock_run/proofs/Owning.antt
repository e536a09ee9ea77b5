-- The first label of a driver on each node.
use Rattle.std.proofs.Common.{◌≡◌, ◌≢◌, ◌⊎◌, inl, inr, ◌∙◌, ℕ, ◌+◌, ◌<◌, List, length, get_or, set, refl, sym, ap}
use Rattle.std.proofs.Common.{subst, arith, Option, Some, None, Bool, true, false, not, replicate, zero, suc}
use Rattle.std.specs.Prelude.{Contains, slice_get}
use Rattle.std.proofs.lemmas.Bool.{cases_eq, false≢true}
use Rattle.std.proofs.lemmas.Option.{slice_get_within, get_or_from_slice_get, none-some}
use Rattle.std.proofs.lemmas.List.{get_or-set_same, get_or-set_other, length-replicate}
use Rattle.mp_base.proofs.Numbers.{below_suc}
use Rattle.switch_net.specs.declared.network.Tag.{Tag}
use Rattle.switch_net.specs.declared.network.Network.{Network}
use Rattle.switch_net.specs.Breaks.{IsDrivenTwice, MeetsDriver}
use Rattle.clock_run.specs.Owners.{IsOwner, HasOwner, AreOwners, AreWithin}
use Rattle.mp_base.proofs.Entries.{one_value}

module _ (drivers : List (List ℕ)) (tags : List Tag) (i : ℕ) (t : Tag) (at : slice_get tags i ≡ Some t) where
  here : (k : ℕ) (u : Tag) → k ≡ i → slice_get tags k ≡ Some u → u ≡ t
  here k u e h = one_value (slice_get tags i) u t (subst (λ n. slice_get tags n ≡ Some u) e h) at

  -- no earlier label of a driver on the node has another name
  agree : ((k : ℕ) (u : Tag) → k < i → slice_get tags k ≡ Some u → Contains drivers u.name → u.node ≡ t.node
      → u.name ≡ t.name)
      → ¬ MeetsDriver drivers tags i
  agree h (tag, d) =
      let e = here i tag refl d.at in
      d.names (h d.j d.earlier d.before d.there d.another (d.node ∙ ap (λ (x : Tag). x.node) e)
      ∙ sym (ap (λ (x : Tag). x.name) e))

  none_more : (owners : List (Option ℕ)) → AreOwners drivers tags owners i → ¬ MeetsDriver drivers tags i → (k : ℕ)
      → k < i + 1
      → ¬ MeetsDriver drivers tags k
  none_more owners o n k lt m = by_place (below_suc k i lt)
    where
      by_place : (k < i) ⊎ (k ≡ i) → ⊥
      by_place (inl l) = o.none k l m
      by_place (inr e) = n (subst (λ x. MeetsDriver drivers tags x) e m)

  pub owners_skip : (owners : List (Option ℕ)) → AreOwners drivers tags owners i → (Contains drivers t.name → ⊥)
      → AreOwners drivers tags owners (i + 1)
  owners_skip owners o not = record {
    held = λ n j e. let h = o.held n j e in (omega (arith, h.0), h.1);
    each = λ k u lt s d. each k u s d (below_suc k i lt);
    none = none_more owners o
        (λ m. not (subst (λ (x : Tag). Contains drivers x.name) (here i m.0 refl m.1.at) m.1.driver));
  }
    where
      each : (k : ℕ) (u : Tag) → slice_get tags k ≡ Some u → Contains drivers u.name → (k < i) ⊎ (k ≡ i)
          → HasOwner tags owners u
      each k u s d (inl l) = o.each k u l s d
      each k u s d (inr e) = absurd (not (subst (λ (x : Tag). Contains drivers x.name) (here k u e s) d))

  pub owners_same : (owners : List (Option ℕ)) (j : ℕ) (first : Tag) → AreOwners drivers tags owners i
      → get_or owners t.node None ≡ Some j
      → slice_get tags j ≡ Some first → first.name ≡ t.name → AreOwners drivers tags owners (i + 1)
  owners_same owners j first o own there name = record {
    held = λ n k e. let h = o.held n k e in (omega (arith, h.0), h.1);
    each = λ k u lt s d. each k u s d (below_suc k i lt);
    none = none_more owners o (agree (λ k u lt s d same. alike u same (o.each k u lt s d)));
  }
    where
      each : (k : ℕ) (u : Tag) → slice_get tags k ≡ Some u → Contains drivers u.name → (k < i) ⊎ (k ≡ i)
          → HasOwner tags owners u
      each k u s d (inl l) = o.each k u l s d
      each k u s d (inr e) =
          subst (HasOwner tags owners) (sym (here k u e s))
          (record { j = j; tag = first; held = own; at = there; name = name })

      alike : (u : Tag) → u.node ≡ t.node → HasOwner tags owners u → u.name ≡ t.name
      alike u same h =
          let e : h.j ≡ j =
          one_value (get_or owners t.node None) h.j j (subst (λ n. get_or owners n None ≡ Some h.j) same h.held) own in
          let f : h.tag ≡ first =
          one_value (slice_get tags j) h.tag first (subst (λ n. slice_get tags n ≡ Some h.tag) e h.at) there in
          sym h.name ∙ ap (λ (x : Tag). x.name) f ∙ name

  pub owners_new : (owners : List (Option ℕ)) → AreOwners drivers tags owners i → t.node < length owners
      → Contains drivers t.name
      → get_or owners t.node None ≡ None
      → AreOwners drivers tags (set owners t.node (Some i)) (i + 1)
  owners_new owners o inside driver free = record {
    held = λ n j e. held n j e (cases_eq n t.node);
    each = λ k u lt s d. each k u s d (below_suc k i lt);
    none = none_more owners o (agree (λ k u lt s d same. absurd (clash u same (o.each k u lt s d))));
  }
    where
      clash : (u : Tag) → u.node ≡ t.node → HasOwner tags owners u → ⊥
      clash u same h =
          let e : ◌≡◌ {A = Option ℕ} (Some h.j) None = sym h.held ∙ ap (λ n. get_or owners n None) same ∙ free in cc

      here_set : (n : ℕ) → n ≡ t.node → get_or (set owners t.node (Some i)) n None ≡ Some i
      here_set n e =
          ap (λ m. get_or (set owners t.node (Some i)) m None) e ∙ get_or-set_same owners t.node (Some i) None inside

      other_set : (n : ℕ) → (n ≡ t.node → ⊥) → get_or (set owners t.node (Some i)) n None ≡ get_or owners n None
      other_set n d = get_or-set_other owners t.node n (Some i) None d

      held : (n j : ℕ) → get_or (set owners t.node (Some i)) n None ≡ Some j → (n ≡ t.node) ⊎ (n ≡ t.node → ⊥)
          → (j < i + 1) × IsOwner drivers tags n j
      held n j e (inl is) =
          let f : i ≡ j = one_value (get_or (set owners t.node (Some i)) n None) i j (here_set n is) e in (
            omega (arith, f),
            subst (λ k. IsOwner drivers tags n k) f
                (record { tag = t; at = at; driver = driver; node = sym is }),
          )
      held n j e (inr d) = let h = o.held n j (sym (other_set n d) ∙ e) in (omega (arith, h.0), h.1)

      each : (k : ℕ) (u : Tag) → slice_get tags k ≡ Some u → Contains drivers u.name → (k < i) ⊎ (k ≡ i)
          → HasOwner tags (set owners t.node (Some i)) u
      each k u s d (inl l) =
          let h = o.each k u l s d in
          record {
            j = h.j;
            tag = h.tag;
            held = other_set u.node (λ same. clash u same h) ∙ h.held;
            at = h.at;
            name = h.name;
          }
      each k u s d (inr e) =
          subst (HasOwner tags (set owners t.node (Some i))) (sym (here k u e s))
          (record { j = i; tag = t; held = here_set t.node refl; at = at; name = refl })

  pub owners_meet : (owners : List (Option ℕ)) (j : ℕ) (first : Tag) → AreOwners drivers tags owners i
      → Contains drivers t.name
      → get_or owners t.node None ≡ Some j
      → slice_get tags j ≡ Some first → first.name ≢ t.name → IsDrivenTwice drivers tags i t
  owners_meet owners j first o driver own there differ =
      let h = o.held t.node j own in
      let e : h.1.tag ≡ first = one_value (slice_get tags j) h.1.tag first h.1.at there in
      record {
        at = at;
        driver = driver;
        j = j;
        before = h.0;
        earlier = first;
        there = there;
        another = subst (λ (x : Tag). Contains drivers x.name) e h.1.driver;
        names = differ;
        node = sym (ap (λ (x : Tag). x.node) e) ∙ h.1.node;
      }

-- two names differed, or were alike
pub have_differed : (same equal : Bool) → same ≡ equal → not same ≡ true → equal ≡ true → ⊥
have_differed true equal told differ is = false≢true differ
have_differed false equal told differ is = false≢true (told ∙ is)

pub were_alike : (same equal : Bool) → same ≡ equal → not same ≡ false → equal ≡ true
were_alike true equal told alike = sym told
were_alike false equal told alike = absurd (false≢true (sym alike))

-- before the first label no node has an owner
pub begun : (drivers : List (List ℕ)) (net : Network) (owners : List (Option ℕ)) → owners ≡ replicate net.nodes None
    → AreWithin net.tags owners × AreOwners drivers net.tags owners 0
begun drivers net owners is = (
  record {
    nodes = λ k t at. let lt = slice_get_within net.tags k t at in
        let inside : t.node < net.nodes = subst (λ (x : Tag). x.node < net.nodes)
        (get_or_from_slice_get net.tags k t t at) (net.tags_in k t lt) in
        let long = ap (λ (xs : List (Option ℕ)). length xs) is ∙ length-replicate {A = Option ℕ} net.nodes None in
        omega (arith, inside, long);
    places = λ n j e. absurd (free n j e);
  },
  record {
    held = λ n j e. absurd (free n j e);
    each = λ k t lt. absurd (omega (arith, lt));
    none = λ k lt. absurd (omega (arith, lt));
  },
)
  where
    none_at : (m n : ℕ) → get_or (replicate {A = Option ℕ} m None) n None ≡ None
    none_at zero n = refl
    none_at (suc m) zero = refl
    none_at (suc m) (suc n) = none_at m n

    free : (n j : ℕ) → get_or owners n None ≡ Some j → ⊥
    free n j e = none-some j (sym (none_at net.nodes n) ∙ ap (λ (xs : List (Option ℕ)). get_or xs n None) (sym is) ∙ e)
