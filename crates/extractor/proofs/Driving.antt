-- The first drivers of nodes, one label further.
use Rattle.std.proofs.Common.{◌≡◌, ℕ, ◌+◌, ◌≤◌, length, inl, inr, List, Bool, true, false, refl, ◌∙◌, ap, sym, subst}
use Rattle.std.proofs.Common.{arith}
use Rattle.std.specs.Prelude.{◌≢◌, not, Option, Some, None, Contains, slice_get}
use Rattle.std.specs.Str.{bytes_eq}
use Rattle.std.proofs.lemmas.Bool.{cases_lt, cases_eq, false≢true, not-false}
use Rattle.std.proofs.lemmas.List.Folds.{Any-from_list_any, list_any-from_Any}
use Rattle.std.proofs.lemmas.Option.{same_Some, slice_get_within}
use Rattle.std.proofs.lemmas.Slice.Eq.{bytes_eq-Decides}
use Rattle.mp_base.specs.PadNames.{supplies, is_supply}
use Rattle.mp_base.proofs.Entries.{same_at}
use Rattle.switch_net.specs.declared.network.Tag.{Tag}
use Rattle.switch_net.specs.Breaks.{IsDrivenTwice, MeetsDriver}
use Rattle.extractor.specs.Driving.{AreFirst, IsFirstMeeting, TellsMeeting}

pub supply_from_test : (name : List ℕ) → is_supply name ≡ true → Contains supplies name
supply_from_test name h =
    let a = Any-from_list_any (λ label. bytes_eq name label) supplies h in
    subst (Contains supplies) (sym ((bytes_eq-Decides name a.1).0 a.4)) (a.0, a.2, a.3)

pub no_supply_from_test : (name : List ℕ) → is_supply name ≡ false → Contains supplies name → ⊥
no_supply_from_test name h c =
    let t : is_supply name ≡ true =
    list_any-from_Any (λ label. bytes_eq name label) supplies
    (c.0, name, c.1, c.2, (bytes_eq-Decides name name).1 refl) in
    absurd (cc)

module _ (tags : List Tag) where
  pub first_none : (find : ℕ → Option ℕ) → ((n : ℕ) → find n ≡ None) → AreFirst find tags 0
  first_none find none = record {
    from = λ node place e. let f = none node in absurd (cc);
    here = λ j tag l. absurd (omega arith);
    apart = λ j l. absurd (omega arith);
  }

  module _ (find : ℕ → Option ℕ) (i : ℕ) (first : AreFirst find tags i) (tag : Tag)
      (at : slice_get tags i ≡ Some tag) where
    -- a label of no driver
    pub first_beside : (Contains supplies tag.name → ⊥) → AreFirst find tags (i + 1)
    first_beside absent = record {
      from = λ node place e. let f = first.from node place e in (f.0, omega (arith, f.1), f.2, f.3, f.4);
      here = λ j t l is driver. elim (cases_lt j i) [
        | inl k ↦ first.here j t k is driver
        | inr k ↦
            absurd (absent
            (subst (λ (x : Tag). Contains supplies x.name) (same_at tags j i t tag (omega arith) is at) driver))
      ];
      apart = λ j l m. elim (cases_lt j i) [
        | inl k ↦ first.apart j k m
        | inr k ↦
            absent (subst (λ (x : Tag). Contains supplies x.name)
            (same_at tags j i m.0 tag (omega arith) m.1.at at) m.1.driver)
      ];
    }

    -- another label of the driver that is the first on the node
    pub first_again : (p : ℕ) (other : Tag) → find tag.node ≡ Some p → slice_get tags p ≡ Some other
        → other.name ≡ tag.name → AreFirst find tags (i + 1)
    first_again p other known there same = record {
      from = λ node place e. let f = first.from node place e in (f.0, omega (arith, f.1), f.2, f.3, f.4);
      here = λ j t l is driver. elim (cases_lt j i) [
        | inl k ↦ first.here j t k is driver
        | inr k ↦ (
            let e = same_at tags i j tag t (omega arith) at is in
            (p, other, ap (λ (x : Tag). find x.node) (sym e) ∙ known, there, same ∙ ap (λ (x : Tag). x.name) e)
            )
      ];
      apart = λ j l m. elim (cases_lt j i) [ inl k ↦ first.apart j k m | inr k ↦ alone j (omega arith) m ];
    }
      where
        alone : (j : ℕ) → j ≡ i → MeetsDriver supplies tags j → ⊥
        alone j e m =
            let is : m.0 ≡ tag = same_at tags j i m.0 tag e m.1.at at in
            let f = first.here m.1.j m.1.earlier (omega (arith, m.1.before)) m.1.there m.1.another in
            let n : find m.1.earlier.node ≡ Some p = ap find (m.1.node ∙ ap (λ (x : Tag). x.node) is) ∙ known in
            let q : f.0 ≡ p = same_Some f.0 p (sym f.2 ∙ n) in
            let o : f.1 ≡ other = same_at tags f.0 p f.1 other q f.3 there in
            m.1.names (sym f.4 ∙ ap (λ (x : Tag). x.name) o ∙ same ∙ ap (λ (x : Tag). x.name) (sym is))

    -- the first label of a driver on its node
    pub first_here : (now : ℕ → Option ℕ) → find tag.node ≡ None → Contains supplies tag.name → now tag.node ≡ Some i
        → ((k : ℕ) → k ≢ tag.node → now k ≡ find k)
        → AreFirst now tags (i + 1)
    first_here now none driver set others = record {
      from = λ node place e. elim (cases_eq node tag.node) [
        | inl k ↦ (
            let p : i ≡ place = same_Some i place (sym set ∙ ap now (sym k) ∙ e) in
            (tag, omega arith, ap (slice_get tags) (sym p) ∙ at, driver, sym k)
            )
        | inr k ↦ (let f = first.from node place (sym (others node k) ∙ e) in (f.0, omega (arith, f.1), f.2, f.3, f.4))
      ];
      here = λ j t l is d. elim (cases_lt j i) [
        | inl k ↦ (let f = first.here j t k is d in (f.0, f.1, others t.node (new t.node f.0 f.2) ∙ f.2, f.3, f.4))
        | inr k ↦ (
            let e = same_at tags i j tag t (omega arith) at is in
            (i, tag, ap (λ (x : Tag). now x.node) (sym e) ∙ set, at, ap (λ (x : Tag). x.name) e)
            )
      ];
      apart = λ j l m. elim (cases_lt j i) [ inl k ↦ first.apart j k m | inr k ↦ alone j (omega arith) m ];
    }
      where
        new : (node p : ℕ) → find node ≡ Some p → node ≢ tag.node
        new node p f e = let g : find node ≡ None = ap find e ∙ none in absurd (cc)

        alone : (j : ℕ) → j ≡ i → MeetsDriver supplies tags j → ⊥
        alone j e m =
            let is : m.0 ≡ tag = same_at tags j i m.0 tag e m.1.at at in
            let f = first.here m.1.j m.1.earlier (omega (arith, m.1.before)) m.1.there m.1.another in
            new m.1.earlier.node f.0 f.2 (m.1.node ∙ ap (λ (x : Tag). x.node) is)

    -- a label on a node whose first driver is another
    pub meets_first : (p : ℕ) (other : Tag) → find tag.node ≡ Some p → slice_get tags p ≡ Some other
        → other.name ≢ tag.name → Contains supplies tag.name
        → IsDrivenTwice supplies tags i tag
    meets_first p other known there apart driver =
        let f = first.from tag.node p known in
        let e : f.0 ≡ other = same_Some f.0 other (sym f.2 ∙ there) in
        record {
          at = at;
          driver = driver;
          j = p;
          before = f.1;
          earlier = other;
          there = there;
          another = subst (λ (x : Tag). Contains supplies x.name) e f.3;
          names = apart;
          node = ap (λ (x : Tag). x.node) (sym e) ∙ f.4;
        }

-- a label that meets another driver, where none before does
pub first_meets : (find now : ℕ → Option ℕ) (tags : List Tag) (i offset : ℕ) (tag : Tag) (b : Bool)
    → AreFirst find tags i → TellsMeeting now tags i b → b ≡ true
    → slice_get tags i ≡ Some tag → offset ≡ tag.offset → IsFirstMeeting tags offset
first_meets find now tags i offset tag true first h e at is =
    record {
      place = i;
      tag = h.0;
      meets = h.1;
      none_before = first.apart;
      offset_is = is
          ∙ ap (λ (x : Tag). x.offset) (same_at tags i i tag h.0 refl at h.1.at);
    }
first_meets find now tags i offset tag false first h e at is = absurd (cc)

pub first_goes_on : (now : ℕ → Option ℕ) (tags : List Tag) (i : ℕ) (b : Bool) → TellsMeeting now tags i b → b ≡ false
    → AreFirst now tags (i + 1)
first_goes_on now tags i true h e = absurd (cc)
first_goes_on now tags i false h e = h

pub none_meets : (find : ℕ → Option ℕ) (tags : List Tag) (n : ℕ) → AreFirst find tags n → length tags ≤ n → (i : ℕ)
    → MeetsDriver supplies tags i → ⊥
none_meets find tags n first l i m = let k = slice_get_within tags i m.0 m.1.at in first.apart i (omega arith) m

-- what a comparison of the names tells
pub told : (find : ℕ → Option ℕ) (tags : List Tag) (i : ℕ) (first : AreFirst find tags i) (tag : Tag)
    → slice_get tags i ≡ Some tag → Contains supplies tag.name
    → (p : ℕ) (other : Tag) → find tag.node ≡ Some p → slice_get tags p ≡ Some other → (a b : List ℕ) (r : Bool)
    → r ≡ not (bytes_eq a b) → a ≡ other.name → b ≡ tag.name
    → TellsMeeting find tags i r
told find tags i first tag at driver p other known there a b true e x y = (
  tag,
  meets_first tags find i first tag at p other known there
      (λ q. false≢true (sym (e ∙ ap not ((bytes_eq-Decides a b).1 (x ∙ q ∙ sym y))))) driver,
)
told find tags i first tag at driver p other known there a b false e x y =
    first_again tags find i first tag at p other known there
    (sym x ∙ (bytes_eq-Decides a b).0 (not-false _ (sym e)) ∙ y)
