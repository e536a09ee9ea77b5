-- The other direction of the law: what solves the equations of the nets extends to what solves those of the network.
-- So settled values are
-- settled values.
use Rattle.std.proofs.Common.{
  ◌≡◌,
  ℕ,
  ◌<◌,
  List,
  [],
  ◌∷◌,
  Option,
  Some,
  None,
  Bool,
  true,
  false,
  cond,
  eqb,
  zero,
  suc,
  length,
  map,
  get_or,
  refl,
  sym,
  ◌∙◌,
  ap,
  subst,
  inl,
  inr,
  ◌⊎◌,
  ◌↔◌,
  ◌&&◌,
  arith,
}
use Rattle.std.specs.Prelude.{All, Any}
use Rattle.std.specs.List.{list_any, list_all}
use Rattle.std.proofs.lemmas.Bool.{eqb-true, eq-eqb, cases_Bool, and_parts}
use Rattle.mp_base.specs.declared.value.Trit.{Trit}
use Rattle.mp_base.specs.declared.value.Trit.TheVariants.{Zero, One, X}
use Rattle.switch_net.specs.Laws.{GivesAlongReach}
use Rattle.switch_net.specs.Settled.{Setting, Gives, IsSolution, IsSettled}
use Rattle.nor_net.specs.declared.net.Phase.{Phase}
use Rattle.nor_net.specs.declared.net.Phase.TheVariants.{A, B, C}
use Rattle.nor_net.specs.Elements.{Spot, Element, Given, Nor, Latched, Joined, Low}
use Rattle.nor_net.specs.Settled as nor
use Rattle.nor_net.specs.Settled.{is_zero, is_one, nor_value, is_open}
use Rattle.drawing.specs.Draws.{Point, OfNet, Ground, Power, OfPhase, IsOwn, HasOwnNode, Draws}
use Rattle.drawn_nets.specs.Law.{
  IsKind,
  AreFed,
  AreClosed,
  IsElementAt,
  NetSetting,
  IsDriven,
  HeldBefore,
  SettledValuesAreDrawn,
}
use Rattle.drawn_nets.proofs.Cases.{IsNetSolution}
use Rattle.drawn_nets.proofs.Solutions.{any_from, any_to, all_from, all_to, open_on, is_solution}
use Rattle.drawn_nets.proofs.Near.{same_net, not_ground}
use Rattle.drawn_nets.proofs.Local.{
  PhasesIn,
  IsOnCluster,
  gate_node,
  latch_node,
  zero_from,
  zero_to,
  one_from,
  one_to,
  driven_from,
  driven_to,
  off_from,
  off_to,
  gives_other,
}
use Rattle.drawn_nets.proofs.Lawful.{to_net}

phase_cases : (o : Option Phase) (p : Phase) → (o ≡ Some p) ⊎ (o ≡ Some p → ⊥)
phase_cases None p = inr (λ e. cc)
phase_cases (Some A) A = inl refl
phase_cases (Some A) B = inr (λ e. cc)
phase_cases (Some A) C = inr (λ e. cc)
phase_cases (Some B) A = inr (λ e. cc)
phase_cases (Some B) B = inl refl
phase_cases (Some B) C = inr (λ e. cc)
phase_cases (Some C) A = inr (λ e. cc)
phase_cases (Some C) B = inr (λ e. cc)
phase_cases (Some C) C = inl refl

-- ---- the equations of nor_net, case by case

module _ (u : Spot → Trit) (ins : List Spot) where
  abbrev value : Bool → Bool → Trit
  value a b = cond a Zero (cond b One X)

  zero_one : Zero ≡ One → ⊥
  zero_one e = cc e

  -- an input at 1 and all inputs at 0 don't go together
  not_both : Any (λ i. u i ≡ One) ins → All (λ i. u i ≡ Zero) ins → ⊥
  not_both w h = zero_one (sym (subst (λ i. u i ≡ Zero) w.3 (h w.0 w.1 w.2)) ∙ w.4)

  one_iff : (x : Trit) → x ≡ nor_value (map u ins) → (x ≡ One) ↔ All (λ i. u i ≡ Zero) ins
  one_iff x e = (
    λ o. by_any (list_any is_one (map u ins)) (list_all is_zero (map u ins)) refl (sym o ∙ e),
    λ h. elim (cases_Bool (list_any is_one (map u ins))) [
      | inl q ↦ absurd (not_both (any_from u ins q) h)
      | inr q ↦ e ∙ ap (λ a. cond a Zero (cond (list_all is_zero (map u ins)) One X)) q
          ∙ ap (λ b. cond b One X) (all_to u ins h)
    ],
  )
    where
      by_any : (a b : Bool) → list_all is_zero (map u ins) ≡ b → One ≡ value a b → All (λ i. u i ≡ Zero) ins
      by_any true b q o = absurd (cc o)
      by_any false true q o = all_from u ins q
      by_any false false q o = absurd (cc o)

  zero_iff : (x : Trit) → x ≡ nor_value (map u ins) → (x ≡ Zero) ↔ Any (λ i. u i ≡ One) ins
  zero_iff x e = (
    λ o. by_any (list_any is_one (map u ins)) (list_all is_zero (map u ins)) refl (sym o ∙ e),
    λ w. e ∙ ap (λ a. cond a Zero (cond (list_all is_zero (map u ins)) One X)) (any_to u ins w.0 w.1 w.2 w.3 w.4),
  )
    where
      by_any : (a b : Bool) → list_any is_one (map u ins) ≡ a → Zero ≡ value a b → Any (λ i. u i ≡ One) ins
      by_any true b q o = any_from u ins q
      by_any false true q o = absurd (cc o)
      by_any false false q o = absurd (cc o)

open_is : (o : Option Phase) (p : Phase) → o ≡ Some p → is_open o p ≡ true
open_is None p e = absurd (cc e)
open_is (Some A) A e = refl
open_is (Some A) B e = absurd (cc e)
open_is (Some A) C e = absurd (cc e)
open_is (Some B) A e = absurd (cc e)
open_is (Some B) B e = refl
open_is (Some B) C e = absurd (cc e)
open_is (Some C) A e = absurd (cc e)
open_is (Some C) B e = absurd (cc e)
open_is (Some C) C e = refl

open_not : (o : Option Phase) (p : Phase) → (o ≡ Some p → ⊥) → is_open o p ≡ false
open_not o p n = elim (cases_Bool (is_open o p)) [ inl e ↦ absurd (n (open_on o p e)) | inr e ↦ e ]

by_cases : (t : NetSetting) (u : Spot → Trit) → nor.IsSolution t u → IsNetSolution t u
by_cases t u sol = record {
  input = λ k h. sol k Given h;
  lows = λ k h. sol k Low h;
  joins = λ k m h. sol k (Joined m) h;
  gate_one = λ k ins h. one_iff u ins (u k) (sol k (Nor ins) h);
  gate_zero = λ k ins h. zero_iff u ins (u k) (sol k (Nor ins) h);
  takes = λ k p d h on. sol k (Latched p d) h ∙ ap (λ b. cond b (u d) (t.before k)) (open_is t.phase p on);
  keeps = λ k p d h off. sol k (Latched p d) h ∙ ap (λ b. cond b (u d) (t.before k)) (open_not t.phase p off);
}

-- ---- from the nets to the network

abbrev IsRoot : Element → Type 0
IsRoot (Joined m) = ⊥
IsRoot Given = Unit {0}
IsRoot (Nor ins) = Unit {0}
IsRoot (Latched p d) = Unit {0}
IsRoot Low = Unit {0}

own_has : (o : Option Element) → IsOwn o → (e : Element) × (o ≡ Some e)
own_has None own = absurd own
own_has (Some e) own = (e, refl)

abbrev is_there : Option Element → Bool
is_there None = false
is_there (Some e) = true

there_has : (o : Option Element) → is_there o ≡ true → (e : Element) × (o ≡ Some e)
there_has None h = absurd (cc h)
there_has (Some e) h = (e, refl)

module _ (law : GivesAlongReach) (t : NetSetting) (s : Setting) (node : Point → ℕ) (isnet : AreFed t.nets)
    (closed : AreClosed t.nets) (dr : Draws s.channels t.nets node) (drv : IsDriven t node s.driver)
    (hb : HeldBefore t node s.before) where
  phases_in : (v : ℕ → Trit) → ((n : ℕ) (x : Trit) → s.driver n ≡ Some x → v n ≡ x) → PhasesIn t node v
  phases_in v d = record {
    on = λ p e. d (node (OfPhase p)) One (drv.phase_on p e);
    off = λ p e. d (node (OfPhase p)) Zero (drv.phase_off p e);
  }

  low_driver : (k : Spot) → IsKind t.nets k Low → s.driver (node (OfNet k)) ≡ Some Zero
  low_driver k h = ap s.driver (dr.lows k h) ∙ drv.ground

  abbrev Both : (ℕ → Trit) → ℕ → Type 0
  Both w n = ((w n ≡ Zero) ↔ Gives s w n Zero) × ((w n ≡ One) ↔ Gives s w n One)

  -- a solution of the net, at the nodes of gates and latches, is one of the network
  from_net : (w : ℕ → Trit) → PhasesIn t node w → ((n : ℕ) (x : Trit) → s.driver n ≡ Some x → w n ≡ x)
      → IsNetSolution t (λ k. w (node (OfNet k))) → (k : Spot) (kd : Element) → IsRoot kd → IsKind t.nets k kd
      → s.driver (node (OfNet k)) ≡ None → Both w (node (OfNet k))
  from_net w ph dw g k Given x h free = let d = drv.input k h in absurd (cc)
  from_net w ph dw g k Low x h free = let d = low_driver k h in absurd (cc)
  from_net w ph dw g k (Nor ins) x h free = (
    (
      λ e. zero_from law t s node isnet dr drv w ph k ins h (node (OfNet k)) (gate_node refl)
          ((g.gate_zero k ins h).0 e),
      λ q. (g.gate_zero k ins h).1 (zero_to law t s node isnet dr drv w ph k ins h (node (OfNet k)) (gate_node refl) q),
    ),
    (
      λ e. one_from law t s node isnet dr drv w ph k ins h (node (OfNet k)) (gate_node refl) ((g.gate_one k ins h).0 e),
      λ q. (g.gate_one k ins h).1 (one_to law t s node isnet dr drv w ph k ins h (node (OfNet k)) (gate_node refl) q),
    ),
  )
  from_net w ph dw g k (Joined m) x h free = absurd x
  from_net w ph dw g k (Latched p d) x h free = by_phase (phase_cases t.phase p)
    where
      by_driver : t.phase ≡ Some p → (x : Trit) → s.driver (node (OfNet d)) ≡ Some x → Both w (node (OfNet k))
      by_driver on x hd =
          let e : w (node (OfNet k)) ≡ x = g.takes k p d h on ∙ dw (node (OfNet d)) x hd in (
            (
              λ q. driven_from law t s node isnet dr drv w ph k p d h Zero on x hd (sym e ∙ q),
              λ q. e ∙ driven_to law t s node isnet dr drv w ph k p d h Zero on x hd q,
            ),
            (
              λ q. driven_from law t s node isnet dr drv w ph k p d h One on x hd (sym e ∙ q),
              λ q. e ∙ driven_to law t s node isnet dr drv w ph k p d h One on x hd q,
            ),
          )

      by_data : t.phase ≡ Some p → ((ins : List Spot) × IsKind t.nets d (Nor ins)) ⊎ IsKind t.nets d Given
          ⊎ IsKind t.nets d Low → Both w (node (OfNet k))
      by_data on (inr (inl i)) = by_driver on (t.given d) (drv.input d i)
      by_data on (inr (inr l)) = by_driver on Zero (low_driver d l)
      by_data on (inl q) =
          let near : IsOnCluster law t s node isnet dr drv w ph d (node (OfNet k)) = latch_node k p h on refl in
          let e : w (node (OfNet k)) ≡ w (node (OfNet d)) = g.takes k p d h on in (
            (
              λ z. zero_from law t s node isnet dr drv w ph d q.0 q.1 (node (OfNet k)) near
                  ((g.gate_zero d q.0 q.1).0 (sym e ∙ z)),
              λ z. e ∙ (g.gate_zero d q.0 q.1).1 (zero_to law t s node isnet dr drv w ph d q.0 q.1
                  (node (OfNet k)) near z),
            ),
            (
              λ z. one_from law t s node isnet dr drv w ph d q.0 q.1 (node (OfNet k)) near
                  ((g.gate_one d q.0 q.1).0 (sym e ∙ z)),
              λ z. e ∙ (g.gate_one d q.0 q.1).1 (one_to law t s node isnet dr drv w ph d q.0 q.1
                  (node (OfNet k)) near z),
            ),
          )

      by_phase : (t.phase ≡ Some p) ⊎ (t.phase ≡ Some p → ⊥) → Both w (node (OfNet k))
      by_phase (inl on) = by_data on (isnet.fed k p d h)
      by_phase (inr off) =
          let e : w (node (OfNet k)) ≡ s.before (node (OfNet k)) = g.keeps k p d h off ∙ hb k p d h in (
            (
              λ q. off_from law t s node isnet dr drv w ph k p d h Zero off (sym e ∙ q),
              λ q. e ∙ off_to law t s node isnet dr drv w ph k p d h Zero off q,
            ),
            (
              λ q. off_from law t s node isnet dr drv w ph k p d h One off (sym e ∙ q),
              λ q. e ∙ off_to law t s node isnet dr drv w ph k p d h One off q,
            ),
          )

  -- where joints lead from a net: to one with the same node and value
  record RootOf (u : Spot → Trit) (k : Spot) : Type 0 where
    r : Spot
    kind : Element
    is : IsKind t.nets r kind
    root : IsRoot kind
    node_is : node (OfNet r) ≡ node (OfNet k)
    value_is : u r ≡ u k

  here : (u : Spot → Trit) (k : Spot) (e : Element) → IsRoot e → IsKind t.nets k e → RootOf u k
  here u k e x h = record { r = k; kind = e; is = h; root = x; node_is = refl; value_is = refl }

  root_of : (u : Spot → Trit) → ((k m : Spot) → IsKind t.nets k (Joined m) → u k ≡ u m)
      → (b : ℕ) (k : Spot) (e : Element) → closed.rank k < b → IsKind t.nets k e → RootOf u k
  root_of u js b k Given lt h = here u k Given tt h
  root_of u js b k (Nor ins) lt h = here u k (Nor ins) tt h
  root_of u js b k (Latched p d) lt h = here u k (Latched p d) tt h
  root_of u js b k Low lt h = here u k Low tt h
  root_of u js zero k (Joined m) lt h = absurd (omega (arith, lt))
  root_of u js (suc b) k (Joined m) lt h =
      let x = closed.joins k m h in
      let less = closed.falls k m h in
      let rest = root_of u js b m x.0 (omega (arith, less, lt)) x.1 in
      record {
        r = rest.r;
        kind = rest.kind;
        is = rest.is;
        root = rest.root;
        node_is =
            rest.node_is ∙ sym (dr.joins k m h);
        value_is = rest.value_is ∙ sym (js k m h);
      }

  -- a root has a node of its own, or is 0
  own_or_low : (k : Spot) (e : Element) → IsRoot e → IsKind t.nets k e → HasOwnNode t.nets (OfNet k)
      ⊎ IsKind t.nets k Low
  own_or_low k Given x h = inl (subst IsOwn (sym h) tt)
  own_or_low k (Nor ins) x h = inl (subst IsOwn (sym h) tt)
  own_or_low k (Latched p d) x h = inl (subst IsOwn (sym h) tt)
  own_or_low k (Joined m) x h = absurd x
  own_or_low k Low x h = inr h

  -- the net at a node, if there is one
  abbrev stands_at : ℕ → Spot → Bool
  stands_at n j = is_there (t.nets j) && eqb (node (OfNet j)) n

  abbrev place : List Spot → ℕ → Option Spot
  place [] n = None
  place (j ∷ js) n = cond (stands_at n j) (Some j) (place js n)

  place_some : (xs : List Spot) (n : ℕ) (j : Spot) → place xs n ≡ Some j → IsElementAt t.nets j × (node (OfNet j) ≡ n)
  place_some [] n j e = absurd (cc e)
  place_some (x ∷ xs) n j e = by_test (stands_at n x) refl e (place_some xs n j)
    where
      by_test : (b : Bool) → stands_at n x ≡ b → cond b (Some x) (place xs n) ≡ Some j
          → (place xs n ≡ Some j → IsElementAt t.nets j × (node (OfNet j) ≡ n)) → IsElementAt t.nets j
          × (node (OfNet j) ≡ n)
      by_test true q e' again =
          let same : x ≡ j = cc e' in
          let both = and_parts (is_there (t.nets x)) (eqb (node (OfNet x)) n) q in
          subst (λ z. IsElementAt t.nets z × (node (OfNet z) ≡ n)) same
          (there_has (t.nets x) both.0, eqb-true (node (OfNet x)) n both.1)
      by_test false q e' again = again e'

  place_none : (xs : List Spot) (n : ℕ) → place xs n ≡ None → (i : ℕ) (k : Spot) → i < length xs → get_or xs i k ≡ k
      → IsElementAt t.nets k → node (OfNet k) ≡ n → ⊥
  place_none [] n e i k lt is has same = absurd (omega (arith, lt))
  place_none (x ∷ xs) n e zero k lt is has same = by_test (stands_at n x) (ap (stands_at n) is ∙ stands) e
    where
      stands : stands_at n k ≡ true
      stands = ap (λ b. b && eqb (node (OfNet k)) n) (ap is_there has.1) ∙ eq-eqb (node (OfNet k)) n same

      by_test : (b : Bool) → b ≡ true → cond b (Some x) (place xs n) ≡ None → ⊥
      by_test true q e' = cc e'
      by_test false q e' = cc q
  place_none (x ∷ xs) n e (suc i) k lt is has same = by_test (stands_at n x) e
      (λ e'. place_none xs n e' i k (omega (arith, lt)) is has same)
    where
      by_test : (b : Bool) → cond b (Some x) (place xs n) ≡ None → (place xs n ≡ None → ⊥) → ⊥
      by_test true e' again = cc e'
      by_test false e' again = again e'

  -- a solution of the nets gives one of the network: its values at the nodes of nets, and those of v elsewhere
  module _ (v : ℕ → Trit) (f : IsSolution s v) (u : Spot → Trit) (g : IsNetSolution t u) where
    abbrev at_place : Option Spot → ℕ → Trit
    at_place (Some k) n = u k
    at_place None n = v n

    abbrev w : ℕ → Trit
    w n = at_place (place closed.cover n) n

    root : (k : Spot) → IsElementAt t.nets k → RootOf u k
    root k h = root_of u g.joins (suc (closed.rank k)) k h.0 (omega arith) h.1

    -- nets of one node have one value
    roots_agree : (j k : Spot) → node (OfNet j) ≡ node (OfNet k) → HasOwnNode t.nets (OfNet j) ⊎ IsKind t.nets j Low
        → HasOwnNode t.nets (OfNet k) ⊎ IsKind t.nets k Low → u j ≡ u k
    roots_agree j k e (inl oj) (inl ok) = ap u (same_net t.nets s.channels node isnet dr j k oj ok e)
    roots_agree j k e (inl oj) (inr lk) = absurd (not_ground t.nets s.channels node isnet dr j oj (e ∙ dr.lows k lk))
    roots_agree j k e (inr lj) (inl ok) = absurd (not_ground t.nets s.channels node isnet dr k ok
        (sym e ∙ dr.lows j lj))
    roots_agree j k e (inr lj) (inr lk) = g.lows j lj ∙ sym (g.lows k lk)

    one_value : (j k : Spot) → node (OfNet j) ≡ node (OfNet k) → IsElementAt t.nets j → IsElementAt t.nets k → u j ≡ u k
    one_value j k e hj hk =
        let a = root j hj in
        let b = root k hk in
        sym a.value_is ∙ roots_agree a.r b.r (a.node_is ∙ e ∙ sym b.node_is) (own_or_low a.r a.kind a.root a.is)
        (own_or_low b.r b.kind b.root b.is) ∙ b.value_is

    w_at : (k : Spot) → IsElementAt t.nets k → w (node (OfNet k)) ≡ u k
    w_at k h = by_place (place closed.cover (node (OfNet k))) refl
      where
        by_place : (o : Option Spot) → place closed.cover (node (OfNet k)) ≡ o → at_place o (node (OfNet k)) ≡ u k
        by_place (Some j) e = let p = place_some closed.cover (node (OfNet k)) j e in one_value j k p.1 p.0 h
        by_place None e = let c = closed.covers k h.0 h.1 in
            absurd (place_none closed.cover (node (OfNet k)) e c.0 k c.1 c.2 h refl)

    -- the nets' equations hold of w at the nodes
    at_nodes : IsNetSolution t (λ k. w (node (OfNet k)))
    at_nodes = record {
      input = λ k h. w_at k (Given, h) ∙ g.input k h;
      lows = λ k h. w_at k (Low, h) ∙ g.lows k h;
      joins = λ k m h. w_at k (Joined m, h) ∙ g.joins k m h ∙ sym (w_at m (closed.joins k m h));
      gate_one = λ k ins h.
          let at_k = w_at k (Nor ins, h) in (
            λ e j x lt. w_at (get_or ins j x) (closed.inputs k ins h j x lt)
                ∙ (g.gate_one k ins h).0 (sym at_k ∙ e) j x lt,
            λ z. at_k ∙ (g.gate_one k ins h).1 (λ j x lt. sym (w_at (get_or ins j x) (closed.inputs k ins h j x lt))
                ∙ z j x lt),
          );
      gate_zero = λ k ins h.
          let at_k = w_at k (Nor ins, h) in (
            λ e. let o = (g.gate_zero k ins h).0 (sym at_k ∙ e) in
                (o.0, o.1, o.2, o.3, w_at o.1 (in_net k ins h o.0 o.1 o.2 o.3) ∙ o.4),
            λ o. at_k ∙ (g.gate_zero k ins h).1 (
              o.0,
              o.1,
              o.2,
              o.3,
              sym (w_at o.1 (in_net k ins h o.0 o.1 o.2 o.3))
                  ∙ o.4,
            ),
          );
      takes = λ k p d h on. w_at k (Latched p d, h) ∙ g.takes k p d h on
          ∙ sym (w_at d (data_in k p d h (isnet.fed k p d h)));
      keeps = λ k p d h off. w_at k (Latched p d, h) ∙ g.keeps k p d h off;
    }
      where
        in_net : (k : Spot) (ins : List Spot) → IsKind t.nets k (Nor ins) → (j : ℕ) (x : Spot) → j < length ins
            → get_or ins j x ≡ x → IsElementAt t.nets x
        in_net k ins h j x lt e = subst (IsElementAt t.nets) e (closed.inputs k ins h j x lt)

        data_in : (k : Spot) (p : Phase) (d : Spot) → IsKind t.nets k (Latched p d)
            → ((ins : List Spot) × IsKind t.nets d (Nor ins)) ⊎ IsKind t.nets d Given ⊎ IsKind t.nets d Low
            → IsElementAt t.nets d
        data_in k p d h (inl q) = (Nor q.0, q.1)
        data_in k p d h (inr (inl q)) = (Given, q)
        data_in k p d h (inr (inr q)) = (Low, q)

    driven_w : (n : ℕ) (x : Trit) → s.driver n ≡ Some x → w n ≡ x
    driven_w n x d = by_place (place closed.cover n) refl
      where
        by_kind : (j : Spot) → s.driver (node (OfNet j)) ≡ Some x → (kd : Element) → IsRoot kd → IsKind t.nets j kd
            → u j ≡ x
        by_kind j dj Given y h = let e = drv.input j h in let ui = g.input j h in
            let same : Some (t.given j) ≡ Some x = sym e ∙ dj in cc
        by_kind j dj Low y h = let e = low_driver j h in let ui = g.lows j h in let same : Some Zero ≡ Some x =
            sym e ∙ dj in cc
        by_kind j dj (Nor ins) y h = let e = drv.gate j ins h in absurd (cc)
        by_kind j dj (Latched p q) y h = let e = drv.latch j p q h in absurd (cc)
        by_kind j dj (Joined m) y h = absurd y

        by_place : (o : Option Spot) → place closed.cover n ≡ o → at_place o n ≡ x
        by_place (Some j) e =
            let p = place_some closed.cover n j e in
            let r = root j p.0 in
            sym r.value_is ∙ by_kind r.r (ap s.driver (r.node_is ∙ p.1) ∙ d) r.kind r.root r.is
        by_place None e = f.driven n x d

    both_w : (n : ℕ) → s.driver n ≡ None → Both w n
    both_w n free = by_place (place closed.cover n) refl
      where
        ph : PhasesIn t node w
        ph = phases_in w driven_w

        other : place closed.cover n ≡ None → (p : Point) → HasOwnNode t.nets p → node p ≡ n → ⊥
        other e (OfNet k) own same = let h = own_has (t.nets k) own in let c = closed.covers k h.0 h.1 in
            place_none closed.cover n e c.0 k c.1 c.2 h same
        other e Ground own same = let d : s.driver n ≡ Some Zero = ap s.driver (sym same) ∙ drv.ground in cc
        other e Power own same = let d : s.driver n ≡ Some One = ap s.driver (sym same) ∙ drv.power in cc
        other e (OfPhase p) own same = by_phase (phase_cases t.phase p)
          where
            by_phase : (t.phase ≡ Some p) ⊎ (t.phase ≡ Some p → ⊥) → ⊥
            by_phase (inl on) = let d : s.driver n ≡ Some One = ap s.driver (sym same) ∙ drv.phase_on p on in cc
            by_phase (inr off) = let d : s.driver n ≡ Some Zero = ap s.driver (sym same) ∙ drv.phase_off p off in cc

        by_place : (o : Option Spot) → place closed.cover n ≡ o → Both w n
        by_place (Some j) e =
            let p = place_some closed.cover n j e in
            let r = root j p.0 in
            let at : node (OfNet r.r) ≡ n = r.node_is ∙ p.1 in
            subst (λ x. Both w x) at (from_net w ph driven_w at_nodes r.r r.kind r.root r.is (ap s.driver at ∙ free))
        by_place None e =
            let same : w n ≡ v n = ap (λ o. at_place o n) e in
            let apart = other e in (
              (
                λ q. gives_other law t s node isnet dr drv v w n Zero apart ((f.zero n free).0 (sym same ∙ q)),
                λ q. same ∙ (f.zero n free).1 (gives_other law t s node isnet dr drv w v n Zero apart q),
              ),
              (
                λ q. gives_other law t s node isnet dr drv v w n One apart ((f.one n free).0 (sym same ∙ q)),
                λ q. same ∙ (f.one n free).1 (gives_other law t s node isnet dr drv w v n One apart q),
              ),
            )

    from_solution : IsSolution s w
    from_solution = record { driven = driven_w; zero = λ n free. (both_w n free).0; one = λ n free. (both_w n free).1 }

  least : (v : ℕ → Trit) → IsSettled s v → (u : Spot → Trit) → nor.IsSolution t u → (k : Spot) → IsElementAt t.nets k
      → (v (node (OfNet k)) ≡ X) ⊎ (v (node (OfNet k)) ≡ u k)
  least v h u sol k has = at_net (h.least (w v h.solution u (by_cases t u sol))
      (from_solution v h.solution u (by_cases t u sol)) (node (OfNet k)))
    where
      at_net : (v (node (OfNet k)) ≡ X) ⊎ (v (node (OfNet k)) ≡ w v h.solution u (by_cases t u sol) (node (OfNet k)))
          → (v (node (OfNet k)) ≡ X) ⊎ (v (node (OfNet k)) ≡ u k)
      at_net (inl e) = inl e
      at_net (inr e) = inr (e ∙ w_at v h.solution u (by_cases t u sol) k has)

pub settled_holds : GivesAlongReach → SettledValuesAreDrawn
settled_holds law t s node v isnet closed dr drv hb h = (
  is_solution t (λ k. v (node (OfNet k))) (to_net law t s node isnet dr drv hb v h.solution),
  λ u sol k has. least law t s node isnet closed dr drv hb v h u sol k has,
)
