-- What each operator adds to a slice.
use Rattle.std.proofs.Common.{◌≡◌, ℕ, suc, ◌<◌, ◌≤◌, ◌+◌, ◌*◌, ◌⊎◌, inl, inr, List, [], ◌∷◌, ◌++◌, Option, Some, true}
use Rattle.std.proofs.Common.{false, get_or, length, map, refl, sym, ◌∙◌, ap, subst, arith}
use Rattle.std.specs.Prelude.{◌≢◌, All, slice_get, if◌then◌else◌}
use Rattle.std.specs.List.{sum_by}
use Rattle.std.proofs.lemmas.Bool.{eqb-true, ltb-true, true≢false}
use Rattle.std.proofs.lemmas.Option.{get_or_from_slice_get, slice_get_within}
use Rattle.std.proofs.lemmas.List.Elements.{All-nil, All-cons}
use Rattle.mp_base.specs.declared.op.Op.{Op}
use Rattle.mp_base.specs.declared.op.Op.TheVariants as ops
use Rattle.nor_net.specs.declared.net.NetId.{NetId}
use Rattle.nor_net.specs.declared.net.Phase.{Phase}
use Rattle.nor_net.specs.declared.net.Part.{Part}
use Rattle.nor_net.specs.declared.net.Part.TheVariants as parts
use Rattle.nor_net.specs.Shape.{gate_inputs}
use Rattle.organelles.specs.declared.slices.Chain.{Chain}
use Rattle.organelles.specs.declared.slices.Chain.TheVariants.{Up, Down}
use Rattle.organelles.specs.declared.slices.Organelle.{Organelle}
use Rattle.organelles.specs.declared.slices.Organelle.TheVariants.{Add, Sub, Inc, Dec, And, Or, Xor, Not, Left, Right}
use Rattle.organelles.specs.declared.slices.Organelle.TheVariants.{Zero, Equal, Less}
use Rattle.organelles.specs.Tables.{chains_from, first_gate, gates_from, is_test, net_at, op_of, parts_from, place}
use Rattle.organelles.specs.Tables.{table_of}
use Rattle.rtl_form.specs.Cost.{op_cost}
use Rattle.rtl_form.specs.Operands.{gives_word}
use Rattle.mp_base.specs.Apply.{takes}
use Rattle.path_form.specs.Sizes.{active}
use Rattle.path_form.specs.Shape.{chain_to, is_fed, times}
use Rattle.datapath_making.specs.declared.making.Making.{Making}
use Rattle.datapath_making.specs.Additions.{ChainFits, new_inputs}
use Rattle.datapath_making.specs.Marking.{last_mark}

-- the parts and the chains of an operator behind so many nets
abbrev pub parts_of : Organelle → NetId → NetId → ℕ → List Part
parts_of kind a b at = parts_from (table_of kind).joint (table_of kind).gates a b at

abbrev pub chains_of : Organelle → NetId → NetId → ℕ → List Chain
chains_of kind a b at = chains_from (table_of kind).joint a b at

abbrev gates_of : Organelle → List (List ℕ)
gates_of kind = (table_of kind).gates

-- gates, behind an input that a chain ends in
record IsChained (kind : Organelle) (a b : NetId) (at : ℕ) : Type 0 where
  pub from : NetId
  pub within : from.0 < at + length (parts_of kind a b at)
  pub differs : from.0 ≢ at
  pub parts : parts_of kind a b at ≡ parts.Input ∷ gates_from a b at (at + 1) (gates_of kind)
  pub chains : (chains_of kind a b at ≡ Up from (net_at at) ∷ [])
      ⊎ ((chains_of kind a b at ≡ Down from (net_at at) ∷ []) × (from.0 ≡ a.0))

-- gates alone
record IsAlone (kind : Organelle) (a b : NetId) (at : ℕ) : Type 0 where
  pub parts : parts_of kind a b at ≡ gates_from a b b.0 at (gates_of kind)
  pub chains : chains_of kind a b at ≡ []

alone_or_chained : (kind : Organelle) (a b : NetId) (at : ℕ) → a.0 < at
    → IsAlone kind a b at ⊎ IsChained kind a b at
alone_or_chained Add a b at l = inr (record {
  from = net_at (place a b at (at + 1) 11);
  within = omega arith;
  differs = λ e. omega (arith, e);
  parts = refl;
  chains = inl refl;
})
alone_or_chained Sub a b at l = inr (record {
  from = net_at (place a b at (at + 1) 14);
  within = omega arith;
  differs = λ e. omega (arith, e);
  parts = refl;
  chains = inl refl;
})
alone_or_chained Inc a b at l = inr (record {
  from = net_at (place a b at (at + 1) 7);
  within = omega arith;
  differs = λ e. omega (arith, e);
  parts = refl;
  chains = inl refl;
})
alone_or_chained Dec a b at l = inr (record {
  from = net_at (place a b at (at + 1) 7);
  within = omega arith;
  differs = λ e. omega (arith, e);
  parts = refl;
  chains = inl refl;
})
alone_or_chained And a b at l = inl (record { parts = refl; chains = refl })
alone_or_chained Or a b at l = inl (record { parts = refl; chains = refl })
alone_or_chained Xor a b at l = inl (record { parts = refl; chains = refl })
alone_or_chained Not a b at l = inl (record { parts = refl; chains = refl })
alone_or_chained Left a b at l = inr (record {
  from = net_at (place a b at (at + 1) 0);
  within = omega (arith, l);
  differs = λ e. omega (arith, e, l);
  parts = refl;
  chains = inl refl;
})
alone_or_chained Right a b at l = inr (record {
  from = net_at (place a b at (at + 1) 0);
  within = omega (arith, l);
  differs = λ e. omega (arith, e, l);
  parts = refl;
  chains = inr (refl, refl);
})
alone_or_chained Zero a b at l = inr (record {
  from = net_at (place a b at (at + 1) 4);
  within = omega arith;
  differs = λ e. omega (arith, e);
  parts = refl;
  chains = inl refl;
})
alone_or_chained Equal a b at l = inr (record {
  from = net_at (place a b at (at + 1) 9);
  within = omega arith;
  differs = λ e. omega (arith, e);
  parts = refl;
  chains = inl refl;
})
alone_or_chained Less a b at l = inr (record {
  from = net_at (place a b at (at + 1) 9);
  within = omega arith;
  differs = λ e. omega (arith, e);
  parts = refl;
  chains = inl refl;
})

-- ---- gates are no latches, and no inputs

abbrev pub IsLogic : Part → Type 0
IsLogic q = (phase : Phase) (source : Option NetId) → q ≡ parts.Latch phase source → ⊥

gate_is_logic : (inputs : List NetId) → IsLogic (parts.Gate inputs)
gate_is_logic inputs phase source e = cc

input_is_logic : IsLogic parts.Input
input_is_logic phase source e = cc

gates_are_logic : (a b : NetId) (c first : ℕ) (gates : List (List ℕ)) → All IsLogic (gates_from a b c first gates)
gates_are_logic a b c first [] = All-nil IsLogic
gates_are_logic a b c first (js ∷ gates) =
    All-cons IsLogic (parts.Gate (map (λ j. net_at (place a b c first j)) js)) (gates_from a b c first gates)
    (gate_is_logic (map (λ j. net_at (place a b c first j)) js)) (gates_are_logic a b c first gates)

pub parts_are_logic : (kind : Organelle) (a b : NetId) (at : ℕ) → a.0 < at → All IsLogic (parts_of kind a b at)
parts_are_logic kind a b at l = by_case (alone_or_chained kind a b at l)
  where
    by_case : IsAlone kind a b at ⊎ IsChained kind a b at → All IsLogic (parts_of kind a b at)
    by_case (inl h) = subst (All IsLogic) (sym h.parts) (gates_are_logic a b b.0 at (gates_of kind))
    by_case (inr h) = subst (All IsLogic) (sym h.parts)
        (All-cons IsLogic parts.Input (gates_from a b at (at + 1) (gates_of kind)) input_is_logic
        (gates_are_logic a b at (at + 1) (gates_of kind)))

no_inputs : (n : ℕ) (a b : NetId) (c first : ℕ) (gates : List (List ℕ))
    → new_inputs n (gates_from a b c first gates) ≡ []
no_inputs n a b c first [] = refl
no_inputs n a b c first (js ∷ gates) = no_inputs (suc n) a b c first gates

-- ---- how much that is

pub some_parts : (kind : Organelle) (a b : NetId) (at : ℕ) → 0 < length (parts_of kind a b at)
some_parts Add a b at = omega arith
some_parts Sub a b at = omega arith
some_parts Inc a b at = omega arith
some_parts Dec a b at = omega arith
some_parts And a b at = omega arith
some_parts Or a b at = omega arith
some_parts Xor a b at = omega arith
some_parts Not a b at = omega arith
some_parts Left a b at = omega arith
some_parts Right a b at = omega arith
some_parts Zero a b at = omega arith
some_parts Equal a b at = omega arith
some_parts Less a b at = omega arith

-- the cost of an operator pays for its nets, and a test's for its lift too
pub record IsPaid (kind : Organelle) (n : ℕ) (a b : NetId) (at : ℕ) : Type 0 where
  pub nets : length (parts_of kind a b at) ≤ op_cost (op_of kind) n
  pub inputs : gate_inputs (parts_of kind a b at) ≤ 2 * op_cost (op_of kind) n
  pub columns : sum_by active (parts_of kind a b at) + length (chains_of kind a b at)
      + (if is_test kind then 1 else 0) ≤ op_cost (op_of kind) n

pub is_paid : (kind : Organelle) (n : ℕ) (a b : NetId) (at : ℕ) → IsPaid kind n a b at
is_paid Add n a b at = record { nets = omega arith; inputs = omega arith; columns = omega arith }
is_paid Sub n a b at = record { nets = omega arith; inputs = omega arith; columns = omega arith }
is_paid Inc n a b at = record { nets = omega arith; inputs = omega arith; columns = omega arith }
is_paid Dec n a b at = record { nets = omega arith; inputs = omega arith; columns = omega arith }
is_paid And n a b at = record { nets = omega arith; inputs = omega arith; columns = omega arith }
is_paid Or n a b at = record { nets = omega arith; inputs = omega arith; columns = omega arith }
is_paid Xor n a b at = record { nets = omega arith; inputs = omega arith; columns = omega arith }
is_paid Not n a b at = record { nets = omega arith; inputs = omega arith; columns = omega arith }
is_paid Left n a b at = record { nets = omega arith; inputs = omega arith; columns = omega arith }
is_paid Right n a b at = record { nets = omega arith; inputs = omega arith; columns = omega arith }
is_paid Zero n a b at = record { nets = omega arith; inputs = omega arith; columns = omega arith }
is_paid Equal n a b at = record { nets = omega arith; inputs = omega arith; columns = omega arith }
is_paid Less n a b at = record { nets = omega arith; inputs = omega arith; columns = omega arith }

-- ---- where its value stands

abbrev pub result_of : Organelle → NetId → NetId → ℕ → ℕ
result_of kind a b at = place a b at (first_gate (table_of kind).joint at) (table_of kind).result

pub result_within : (kind : Organelle) (a b : NetId) (at : ℕ)
    → result_of kind a b at < at + length (parts_of kind a b at)
result_within Add a b at = omega arith
result_within Sub a b at = omega arith
result_within Inc a b at = omega arith
result_within Dec a b at = omega arith
result_within And a b at = omega arith
result_within Or a b at = omega arith
result_within Xor a b at = omega arith
result_within Not a b at = omega arith
result_within Left a b at = omega arith
result_within Right a b at = omega arith
result_within Zero a b at = omega arith
result_within Equal a b at = omega arith
result_within Less a b at = omega arith

-- ---- what is added fits

pub none_latched : (kind : Organelle) (a b : NetId) (at i : ℕ) (phase : Phase) (source : NetId) → a.0 < at
    → slice_get (parts_of kind a b at) i ≡ Some (parts.Latch phase (Some source)) → ⊥
none_latched kind a b at i phase source l e =
    parts_are_logic kind a b at l i parts.Input (slice_get_within (parts_of kind a b at) i
    (parts.Latch phase (Some source)) e) phase (Some source)
    (get_or_from_slice_get (parts_of kind a b at) i (parts.Latch phase (Some source)) parts.Input e)

pub chains_fit : (m : Making) (kind : Organelle) (a b : NetId) → a.0 < length m.slices.net
    → a.0 < (last_mark m).slices
    → All (ChainFits m (length m.slices.net + length (parts_of kind a b (length m.slices.net))))
    (chains_of kind a b (length m.slices.net))
chains_fit m kind a b l r = by_case (alone_or_chained kind a b (length m.slices.net) l)
  where
    one_fits : (c : Chain) → ChainFits m (length m.slices.net + length (parts_of kind a b (length m.slices.net))) c
        → All (ChainFits m (length m.slices.net + length (parts_of kind a b (length m.slices.net)))) (c ∷ [])
    one_fits c f = All-cons (ChainFits m (length m.slices.net + length (parts_of kind a b (length m.slices.net)))) c []
        f (All-nil (ChainFits m (length m.slices.net + length (parts_of kind a b (length m.slices.net)))))

    by_chain : (h : IsChained kind a b (length m.slices.net))
        → (chains_of kind a b (length m.slices.net) ≡ Up h.from (net_at (length m.slices.net)) ∷ [])
        ⊎ ((chains_of kind a b (length m.slices.net) ≡ Down h.from (net_at (length m.slices.net)) ∷ [])
        × (h.from.0 ≡ a.0))
        → All (ChainFits m (length m.slices.net + length (parts_of kind a b (length m.slices.net))))
        (chains_of kind a b (length m.slices.net))
    by_chain h (inl e) =
        subst (All (ChainFits m (length m.slices.net + length (parts_of kind a b (length m.slices.net))))) (sym e)
        (one_fits (Up h.from (net_at (length m.slices.net))) (record {
          within = (h.within, let s = some_parts kind a b (length m.slices.net) in omega (arith, s));
          differs = h.differs;
          behind = omega arith;
          reached = tt;
        }))
    by_chain h (inr e) =
        subst (All (ChainFits m (length m.slices.net + length (parts_of kind a b (length m.slices.net))))) (sym e.0)
        (one_fits (Down h.from (net_at (length m.slices.net))) (record {
          within = (h.within, let s = some_parts kind a b (length m.slices.net) in omega (arith, s));
          differs = h.differs;
          behind = omega arith;
          reached = let q = e.1 in omega (arith, q, r);
        }))

    by_case : IsAlone kind a b (length m.slices.net) ⊎ IsChained kind a b (length m.slices.net)
        → All (ChainFits m (length m.slices.net + length (parts_of kind a b (length m.slices.net))))
        (chains_of kind a b (length m.slices.net))
    by_case (inl h) =
        subst (All (ChainFits m (length m.slices.net + length (parts_of kind a b (length m.slices.net)))))
        (sym h.chains)
        (All-nil (ChainFits m (length m.slices.net + length (parts_of kind a b (length m.slices.net)))))
    by_case (inr h) = by_chain h h.chains

-- its chain ends in its input, if it has one
pub ends_entered : (kind : Organelle) (a b : NetId) (at n : ℕ) → a.0 < at
    → times n (map chain_to (chains_of kind a b at) ++ []) ≡ times n (new_inputs at (parts_of kind a b at))
ends_entered kind a b at n l = by_case (alone_or_chained kind a b at l)
  where
    ends : (cs : List Chain) → chains_of kind a b at ≡ cs
        → times n (map chain_to (chains_of kind a b at) ++ []) ≡ times n (map chain_to cs ++ [])
    ends cs e = ap (λ (ks : List Chain). times n (map chain_to ks ++ [])) e

    by_chain : (h : IsChained kind a b at)
        → (chains_of kind a b at ≡ Up h.from (net_at at) ∷ [])
        ⊎ ((chains_of kind a b at ≡ Down h.from (net_at at) ∷ []) × (h.from.0 ≡ a.0))
        → times n (map chain_to (chains_of kind a b at) ++ []) ≡ times n (net_at at ∷ [])
    by_chain h (inl e) = ends (Up h.from (net_at at) ∷ []) e
    by_chain h (inr e) = ends (Down h.from (net_at at) ∷ []) e.0

    by_case : IsAlone kind a b at ⊎ IsChained kind a b at
        → times n (map chain_to (chains_of kind a b at) ++ []) ≡ times n (new_inputs at (parts_of kind a b at))
    by_case (inl h) =
        ends [] h.chains ∙ ap (times n) (sym (ap (new_inputs at) h.parts
        ∙ no_inputs at a b b.0 at (gates_of kind)))
    by_case (inr h) =
        by_chain h h.chains ∙ ap (times n) (sym (ap (new_inputs at) h.parts
        ∙ ap (λ (ids : List NetId). net_at at ∷ ids) (no_inputs (suc at) a b at (at + 1) (gates_of kind))))

-- no latch without data is among what is added
pub parts_are_fed : (kind : Organelle) (a b : NetId) (at : ℕ) → a.0 < at
    → All (λ q. is_fed q ≡ true) (parts_of kind a b at)
parts_are_fed kind a b at l i d k = by_part (get_or (parts_of kind a b at) i d) (parts_are_logic kind a b at l i d k)
  where
    by_part : (q : Part) → IsLogic q → is_fed q ≡ true
    by_part parts.Input h = refl
    by_part (parts.Gate inputs) h = refl
    by_part (parts.Latch phase source) h = absurd (h phase source refl)

-- ---- operators on words

pub tests_are_tests : (kind : Organelle) (op : Op) → op_of kind ≡ op → gives_word op ≡ false → is_test kind ≡ true
tests_are_tests kind op e h = by_kind kind (ap gives_word e ∙ h)
  where
    by_kind : (kind : Organelle) → gives_word (op_of kind) ≡ false → is_test kind ≡ true
    by_kind Add h = absurd (true≢false h)
    by_kind Sub h = absurd (true≢false h)
    by_kind Inc h = absurd (true≢false h)
    by_kind Dec h = absurd (true≢false h)
    by_kind And h = absurd (true≢false h)
    by_kind Or h = absurd (true≢false h)
    by_kind Xor h = absurd (true≢false h)
    by_kind Not h = absurd (true≢false h)
    by_kind Left h = absurd (true≢false h)
    by_kind Right h = absurd (true≢false h)
    by_kind Zero h = refl
    by_kind Equal h = refl
    by_kind Less h = refl

pub some_taken : (op : Op) (n : ℕ) → takes op n ≡ true → 0 < n
some_taken ops.Add n h = let e = eqb-true n 2 h in omega (arith, e)
some_taken ops.Sub n h = let e = eqb-true n 2 h in omega (arith, e)
some_taken ops.Inc n h = let e = eqb-true n 1 h in omega (arith, e)
some_taken ops.Dec n h = let e = eqb-true n 1 h in omega (arith, e)
some_taken ops.WordAnd n h = let e = eqb-true n 2 h in omega (arith, e)
some_taken ops.WordOr n h = let e = eqb-true n 2 h in omega (arith, e)
some_taken ops.WordXor n h = let e = eqb-true n 2 h in omega (arith, e)
some_taken ops.WordNot n h = let e = eqb-true n 1 h in omega (arith, e)
some_taken ops.Left n h = let e = eqb-true n 1 h in omega (arith, e)
some_taken ops.Right n h = let e = eqb-true n 1 h in omega (arith, e)
some_taken ops.And n h = ltb-true 0 n h
some_taken ops.Or n h = ltb-true 0 n h
some_taken ops.Nor n h = ltb-true 0 n h
some_taken ops.Nand n h = ltb-true 0 n h
some_taken ops.Xor n h = let e = eqb-true n 2 h in omega (arith, e)
some_taken ops.Not n h = let e = eqb-true n 1 h in omega (arith, e)
some_taken ops.Bit n h = let e = eqb-true n 1 h in omega (arith, e)
some_taken ops.Zero n h = let e = eqb-true n 1 h in omega (arith, e)
some_taken ops.Equal n h = let e = eqb-true n 2 h in omega (arith, e)
some_taken ops.Less n h = let e = eqb-true n 2 h in omega (arith, e)
