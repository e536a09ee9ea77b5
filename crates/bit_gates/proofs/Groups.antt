-- Small groups of parts: the room that is left after one part, and what a group is made of.
use Rattle.std.proofs.Common.{◌≡◌, ℕ, suc, ◌+◌, ◌<◌, ◌≤◌, List, [], ◌∷◌, ◌++◌, Option, Some, None, length, refl, sym}
use Rattle.std.proofs.Common.{◌∙◌, ap, subst, arith, append_assoc}
use Rattle.std.specs.Prelude.{All, slice_get}
use Rattle.std.proofs.lemmas.List.Elements.{All-nil, All-cons, All-append}
use Rattle.nor_net.specs.declared.net.NetId.{NetId}
use Rattle.nor_net.specs.declared.net.Phase.{Phase}
use Rattle.nor_net.specs.declared.net.Phase.TheVariants.{B, C}
use Rattle.nor_net.specs.declared.net.Part.{Part}
use Rattle.nor_net.specs.declared.net.Part.TheVariants.{Input, Gate, Latch}
use Rattle.nor_net.specs.Shape.{fan_in, gate_inputs, net_limit, IsAdded, MayFeed, MayTake}
use Rattle.bit_gates.specs.declared.rails.Rails.{Rails}
use Rattle.bit_gates.specs.Adding.{IsEntryPair, IsExclusive, IsPair, IsPort, IsSlave}
use Rattle.bit_gates.proofs.Adding.{added_at, added_counted, added_keeps, added_three, added_two}

abbrev InFirst : ℕ → List NetId → Type 0
InFirst n ids = All (λ (j : NetId). j.0 < n) ids

pub one_below : (n : ℕ) (i : NetId) → i.0 < n → InFirst n (i ∷ [])
one_below n i l = All-cons (λ (j : NetId). j.0 < n) i [] l (All-nil (λ (j : NetId). j.0 < n))

pub two_below : (n : ℕ) (i j : NetId) → i.0 < n → j.0 < n → InFirst n (i ∷ j ∷ [])
two_below n i j l m = All-cons (λ (k : NetId). k.0 < n) i (j ∷ []) l (one_below n j m)

pub last_below : (n : ℕ) (ids : List NetId) (i : NetId) → InFirst n ids → i.0 < n → InFirst n (ids ++ i ∷ [])
last_below n ids i h l = All-append (λ (j : NetId). j.0 < n) ids (i ∷ []) h (one_below n i l)

-- after one part
module _ (old new : List Part) (p : Part) (id : NetId) (added : IsAdded old p new id) where
  pub longer : length new ≡ suc (length old)
  longer = let e = (added_counted old new p id added).net_count in omega (arith, e)

  pub nets_left : (m n : ℕ) → m ≡ suc n → length old + m < net_limit → length new + n < net_limit
  nets_left m n e room = let l = longer in omega (arith, l, e, room)

  pub inputs_left : (m n : ℕ) → fan_in p + n ≤ m → gate_inputs old + m < net_limit → gate_inputs new + n < net_limit
  inputs_left m n few room =
      let e = (added_counted old new p id added).input_count in omega (arith, e, few, room)

  pub is_below : id.0 < length new
  is_below = let l = longer in let n = added.number in omega (arith, l, n)

  pub was_below : (i : NetId) → i.0 < length old → i.0 < length new
  was_below i b = let l = longer in omega (arith, l, b)

  pub kept_below : (ids : List NetId) → InFirst (length old) ids → InFirst (length new) ids
  kept_below ids h k d inside = let b = h k d inside in let l = longer in omega (arith, l, b)

  pub next_number : (j : NetId) → j.0 ≡ length new → j.0 ≡ suc (length old)
  next_number j e = e ∙ longer

pub pair_made : (old middle new : List Part) (inputs : List NetId) (bit negation : NetId)
    → IsAdded old (Gate inputs) middle bit → IsAdded middle (Gate (bit ∷ [])) new negation
    → IsPair inputs old new (record { bit = bit; negation = negation })
pair_made old middle new inputs bit negation a b = record {
  parts = added_two old middle new (Gate inputs) (Gate (bit ∷ [])) bit negation a b;
  at_bit = a.number;
  at_negation = next_number old middle (Gate inputs) bit a negation b.number;
}

pub entry_made : (old middle new : List Part) (bit negation : NetId)
    → IsAdded old Input middle bit → IsAdded middle (Gate (bit ∷ [])) new negation
    → IsEntryPair old new (record { bit = bit; negation = negation })
entry_made old middle new bit negation a b = record {
  parts = added_two old middle new Input (Gate (bit ∷ [])) bit negation a b;
  at_bit = a.number;
  at_negation = next_number old middle Input bit a negation b.number;
}

pub slave_made : (old middle new : List Part) (bit negation : NetId)
    → IsAdded old (Latch B None) middle negation → IsAdded middle (Gate (negation ∷ [])) new bit
    → IsSlave old new (record { bit = bit; negation = negation })
slave_made old middle new bit negation a b = record {
  parts = added_two old middle new (Latch B None) (Gate (negation ∷ [])) negation bit a b;
  at_negation = a.number;
  at_bit = next_number old middle (Latch B None) negation a bit b.number;
}

pub port_made : (old first middle new : List Part) (pad bit negation : NetId)
    → IsAdded old Input first pad → IsAdded first (Latch C (Some pad)) middle bit
    → IsAdded middle (Gate (bit ∷ [])) new negation
    → IsPort old new pad (record { bit = bit; negation = negation })
port_made old first middle new pad bit negation a b c = record {
  parts = added_three old first middle new Input (Latch C (Some pad)) (Gate (bit ∷ [])) pad bit negation a b c;
  at_pad = a.number;
  at_bit = next_number old first Input pad a bit b.number;
  at_negation = next_number first middle (Latch C (Some pad)) bit b negation c.number
      ∙ ap suc (longer old first Input pad a);
}

pub exclusive_made : (a b : Rails) (old first middle new : List Part) (none both : NetId) (rails : Rails)
    → IsAdded old (Gate (a.bit ∷ b.bit ∷ [])) first none
    → IsAdded first (Gate (a.negation ∷ b.negation ∷ [])) middle both
    → IsPair (none ∷ both ∷ []) middle new rails → IsExclusive a b old new rails
exclusive_made a b old first middle new none both rails g h pair = record {
  none = none;
  both = both;
  parts = pair.parts
      ∙ (ap (λ ps. ps ++ Gate (none ∷ both ∷ []) ∷ Gate (rails.bit ∷ []) ∷ []) two
      ∙ append_assoc old (p ∷ q ∷ []) (Gate (none ∷ both ∷ []) ∷ Gate (rails.bit ∷ []) ∷ []));
  at_none = g.number;
  at_both = next_number old first p none g both h.number;
  at_bit = pair.at_bit ∙ long;
  at_negation = pair.at_negation ∙ ap suc long;
}
  where
    p : Part
    p = Gate (a.bit ∷ b.bit ∷ [])

    q : Part
    q = Gate (a.negation ∷ b.negation ∷ [])

    two : middle ≡ old ++ p ∷ q ∷ []
    two = added_two old first middle p q none both g h

    long : length middle ≡ suc (suc (length old))
    long = longer first middle q both h ∙ ap suc (longer old first p none g)

-- a latch that was added last may take what it might before
pub may_take_now : (phase : Phase) (old middle : List Part) (id source : NetId)
    → IsAdded old (Latch phase None) middle id → MayFeed phase (slice_get old source.0)
    → MayTake (slice_get middle id.0) (slice_get middle source.0)
may_take_now phase old middle id source a feeds =
    subst (λ o. MayTake o (slice_get middle source.0)) (sym (added_at old middle (Latch phase None) id a))
    (of (slice_get old source.0) refl feeds)
  where
    of : (o : Option Part) → slice_get old source.0 ≡ o → MayFeed phase o → MayFeed phase (slice_get middle source.0)
    of None e h = absurd h
    of (Some p) e h =
        subst (MayFeed phase) (sym (added_keeps old middle (Latch phase None) id a source.0 p e)) h
