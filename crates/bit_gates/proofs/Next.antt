-- What is added for the next value of a stored bit.
use Rattle.std.proofs.Common.{◌≡◌, ℕ, ◌+◌, ◌*◌, ◌<◌, ◌≤◌, List, [], ◌∷◌, ◌++◌, Option, Some, None, length, sym, ap}
use Rattle.std.proofs.Common.{subst, arith, length-append}
use Rattle.std.specs.Prelude.{All, IfSome, slice_get, slice_set}
use Rattle.std.specs.List.{AllZip}
use Rattle.mp_base.proofs.Zips.{zip_all_right}
use Rattle.std.proofs.lemmas.Slice.Zip.{AllZip-long}
use Rattle.nor_net.specs.declared.net.NetId.{NetId}
use Rattle.nor_net.specs.declared.net.Phase.TheVariants.{A, B}
use Rattle.nor_net.specs.declared.net.Part.{Part}
use Rattle.nor_net.specs.declared.net.Part.TheVariants.{Gate, Latch}
use Rattle.nor_net.specs.Shape.{fed, gate_inputs, net_limit, IsAdded, MayTake}
use Rattle.rtl_form.specs.declared.rtl.Transfer.{Transfer}
use Rattle.bit_gates.specs.declared.rails.Rails.{Rails}
use Rattle.bit_gates.specs.Adding.{AddsGates, IsCounted}
use Rattle.bit_gates.specs.Cells.{GuardOf, IsNextMade, IsSourceMade, IsTerm}
use Rattle.bit_gates.specs.Rails.{AllBelow}
use Rattle.bit_gates.proofs.Adding.{added_at, added_counted, added_keeps, added_two, counted_list, counted_on}
use Rattle.bit_gates.proofs.Adding.{gates_keep, gates_on, three_gates}

pub guards_below : (n : ℕ) (exprs : List (Option Rails)) → AllBelow n exprs → (ts : List Transfer) (ids : List NetId)
    → AllZip (GuardOf exprs) ts ids → All (λ (j : NetId). j.0 < n) ids
guards_below n exprs below ts ids h =
    zip_all_right (GuardOf exprs) (λ (j : NetId). j.0 < n)
    (λ t id g. subst (λ (i : NetId). i.0 < n) (sym g.2) (below t.guard g.0 g.1).bit_below) ts
    ids h

pub below_later : (m n : ℕ) (ids : List NetId) → m ≤ n → All (λ (j : NetId). j.0 < m) ids
    → All (λ (j : NetId). j.0 < n) ids
below_later m n ids l h k d inside = let b = h k d inside in omega (arith, b)

-- the room for the hold term, for the NOR of all terms and for the data, behind the terms of so many transfers
module _ (inputs count first : ℕ) (by_terms : first ≡ inputs + 2 * count)
    (room : inputs + 4 * (5 + count) < net_limit) where
  pub hold_room : (guards : ℕ) → guards ≡ count → first + guards + 1 < net_limit
  hold_room guards g = omega (arith, by_terms, room, g)

  pub off_room : (held terms : ℕ) → held ≡ first + (count + 1) → terms ≡ count → held + terms + 1 < net_limit
  off_room held terms h t = omega (arith, by_terms, room, h, t)

  pub data_room : (held off : ℕ) → held ≡ first + (count + 1) → off ≡ held + (count + 1) → off + 2 < net_limit
  data_room held off h o = omega (arith, by_terms, room, h, o)

-- a gate on the nets of a list, which has one for each transfer, and on one more
pub gate_counted : (n : ℕ) (ids : List NetId) (last : NetId) (old new : List Part) (id : NetId) → length ids ≡ n
    → IsAdded old (Gate (ids ++ last ∷ [])) new id → gate_inputs new ≡ gate_inputs old + (n + 1)
gate_counted n ids last old new id e a =
    let i = (added_counted old new (Gate (ids ++ last ∷ [])) id a).input_count in
    let l = length-append ids (last ∷ []) in omega (arith, e, i, l)

-- the gates of the data of a master
pub source_gates : (exprs : List (Option Rails)) (ts : List Transfer) (slave reset source : NetId)
    (old new : List Part)
    → IsSourceMade exprs ts slave reset old new source → AddsGates old new
source_gates exprs ts slave reset source old new h =
    gates_on old h.middle new h.are_terms.adds (
      Gate (h.guards ++ slave ∷ []) ∷ Gate (h.terms ++ h.hold ∷ []) ∷ Gate (h.off ∷ reset ∷ []) ∷ [],
      h.parts,
      three_gates (h.guards ++ slave ∷ []) (h.terms ++ h.hold ∷ []) (h.off ∷ reset ∷ []),
    )

pub source_counted : (exprs : List (Option Rails)) (ts : List Transfer) (slave reset source : NetId)
    (old new : List Part)
    → IsSourceMade exprs ts slave reset old new source
    → IsCounted (length ts + 3) (4 * length ts + 4) (length ts + 3) old new
source_counted exprs ts slave reset source old new h = record {
  net_count = let e = all.net_count in omega (arith, e);
  input_count = let e = all.input_count in omega (arith, e, guards, terms, guards_more, terms_more);
  active_count = let e = all.active_count in omega (arith, e);
}
  where
    more : List Part
    more = Gate (h.guards ++ slave ∷ []) ∷ Gate (h.terms ++ h.hold ∷ []) ∷ Gate (h.off ∷ reset ∷ []) ∷ []

    guards : length h.guards ≡ length ts
    guards = AllZip-long (GuardOf exprs) ts h.guards h.are_guards

    terms : length h.terms ≡ length ts
    terms = AllZip-long (IsTerm exprs (length old) h.middle) ts h.terms h.are_terms.each

    guards_more : length (h.guards ++ slave ∷ []) ≡ length h.guards + 1
    guards_more = length-append h.guards (slave ∷ [])

    terms_more : length (h.terms ++ h.hold ∷ []) ≡ length h.terms + 1
    terms_more = length-append h.terms (h.hold ∷ [])

    all : IsCounted (length ts + 3) (2 * length ts + (length (h.guards ++ slave ∷ []) +
        (length (h.terms ++ h.hold ∷ []) + 2))) (length ts + 3) old new
    all = let c = counted_list h.middle (Gate (h.guards ++ slave ∷ []) ∷ Gate (h.terms ++ h.hold ∷ []) ∷ Gate
        (h.off ∷ reset ∷ []) ∷ []) in
        let t = h.are_terms.counted in
        let d : IsCounted 3 (length (h.guards ++ slave ∷ []) + (length (h.terms ++ h.hold ∷ []) + 2)) 3 h.middle new =
        subst (IsCounted 3 (length (h.guards ++ slave ∷ []) + (length (h.terms ++ h.hold ∷ []) + 2)) 3 h.middle)
        (sym h.parts)
        (record {
          net_count = let e = c.net_count in omega (arith, e);
          input_count = let e = c.input_count in omega (arith, e);
          active_count = let e = c.active_count in omega (arith, e);
        }) in
        counted_on (length ts) (2 * length ts) (length ts) 3
        (length (h.guards ++ slave ∷ []) + (length (h.terms ++ h.hold ∷ []) + 2)) 3
        old h.middle new t d

-- the latch of a slave, which waits for its data, stands until it is fed
module _ (exprs : List (Option Rails)) (ts : List Transfer) (slave reset source master negation : NetId)
    (old middle latched grown : List Part)
    (is_source : IsSourceMade exprs ts slave reset old middle source)
    (is_master : IsAdded middle (Latch A (Some source)) latched master)
    (is_negation : IsAdded latched (Gate (master ∷ [])) grown negation)
    (waits : slice_get old slave.0 ≡ Some (Latch B None)) where
  still : slice_get grown slave.0 ≡ Some (Latch B None)
  still = added_keeps latched grown (Gate (master ∷ [])) negation is_negation slave.0 (Latch B None)
      (added_keeps middle latched (Latch A (Some source)) master is_master slave.0 (Latch B None)
      (gates_keep old middle slave.0 (Latch B None) (source_gates exprs ts slave reset source old middle is_source)
      waits))

  pub may_take : MayTake (slice_get grown slave.0) (slice_get grown negation.0)
  may_take =
      subst (λ o. MayTake o (slice_get grown negation.0)) (sym still)
      (subst (MayTake (Some (Latch B None))) (sym (added_at latched grown (Gate (master ∷ [])) negation is_negation))
      tt)

  pub next_made : (new : List Part) → IfSome (slice_get grown slave.0)
      (λ p. new ≡ slice_set grown slave.0 (fed negation p))
      → IsNextMade exprs ts slave reset old new
  next_made new h = record {
    middle = middle;
    grown = grown;
    source = source;
    master = master;
    negation = negation;
    is_source = is_source;
    is_grown = added_two middle latched grown (Latch A (Some source))
        (Gate (master ∷ [])) master negation is_master is_negation;
    at_master = is_master.number;
    at_negation = let e = ap length is_master.parts in
        let f = length-append middle (Latch A (Some source) ∷ []) in
        let n = is_negation.number in omega (arith, e, f, n);
    is_fed = subst (λ o. IfSome o (λ p. new ≡ slice_set grown slave.0 (fed negation p))) still h;
  }
