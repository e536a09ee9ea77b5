-- What is checked of an order at each channel orders the settings that it serves.
use Rattle.std.proofs.Common.{◌≡◌, ◌<◌, ◌≤◌, ◌+◌, ℕ, List, Option, Some, None, length, get_or, refl, sym, ◌∙◌, ap}
use Rattle.std.proofs.Common.{subst, inl, inr, ◌⊎◌, arith}
use Rattle.std.specs.Prelude.{Contains}
use Rattle.std.proofs.lemmas.List.{get_or_default}
use Rattle.mp_base.specs.declared.value.Trit.{Trit}
use Rattle.mp_base.specs.declared.value.Trit.TheVariants.{Zero}
use Rattle.mp_base.proofs.Numbers.{below_suc}
use Rattle.switch_net.specs.declared.network.Channel.{Channel}
use Rattle.settle_order.specs.declared.order.Demand.{Demand}
use Rattle.settle_order.specs.declared.order.Demand.TheVariants.{Undriven, Driven, Low}
use Rattle.settle_order.specs.Order.{Fits, demand_at, IsChannelOrdered, Serves}

undriven_of : (d : Demand) (driver : Option Trit) → Fits d driver → driver ≡ None → d ≡ Undriven
undriven_of Undriven driver fits free = refl
undriven_of Driven None fits free = absurd (cc)
undriven_of Driven (Some t) fits free = absurd (cc)
undriven_of Low driver fits free = absurd (cc)

low_of : (d : Demand) (driver : Option Trit) → Fits d driver → d ≡ Low → driver ≡ Some Zero
low_of Undriven driver fits low = absurd (cc)
low_of Driven driver fits low = absurd (cc)
low_of Low driver fits low = fits

module _ (channels : List Channel) (demands : List Demand) (ranks : List ℕ) where
  -- the first channels are in order
  abbrev pub OrderedFirst : ℕ → Type 0
  OrderedFirst i = (k : ℕ) (c : Channel) → k < i → c ≡ get_or channels k c → IsChannelOrdered demands ranks c

  pub ordered_more : (i : ℕ) (ch : Channel) → i < length channels → ch ≡ get_or channels i ch
      → IsChannelOrdered demands ranks ch → OrderedFirst i → OrderedFirst (i + 1)
  ordered_more i ch inside at here h k c lt is = by_place (below_suc k i lt)
    where
      by_place : (k < i) ⊎ (k ≡ i) → IsChannelOrdered demands ranks c
      by_place (inl below) = h k c below is
      by_place (inr e) =
          subst (λ (x : Channel). IsChannelOrdered demands ranks x)
          (sym (is ∙ ap (λ j. get_or channels j c) e ∙ get_or_default channels i c ch inside ∙ sym at)) here

  pub ordered_serves : (i : ℕ) → length channels ≤ i → OrderedFirst i → Serves channels demands ranks
  ordered_serves i le h s same fits = record {
    gates = λ c e in' kind free at_e free_e.
        (each c (inside c in')).gate e kind
        (undriven_of (demand_at demands c.gate) (s.driver c.gate) (fits c.gate) free) at_e
        (undriven_of (demand_at demands e) (s.driver e) (fits e) free_e);
    joined = λ c a b in' whole at_a at_b free_a free_b.
        (each c (inside c in')).joined a b
        (λ cut. whole (cut.0, low_of (demand_at demands c.gate) (s.driver c.gate) (fits c.gate) cut.1)) at_a at_b
        (undriven_of (demand_at demands a) (s.driver a) (fits a) free_a)
        (undriven_of (demand_at demands b) (s.driver b) (fits b) free_b);
  }
    where
      inside : (c : Channel) → Contains s.channels c → Contains channels c
      inside c in' = subst (λ (xs : List Channel). Contains xs c) same in'

      each : (c : Channel) → Contains channels c → IsChannelOrdered demands ranks c
      each c in' = let lt = in'.1 in h in'.0 c (omega arith) (sym in'.2)
