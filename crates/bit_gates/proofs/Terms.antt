-- Terms of transfers.
use Rattle.std.proofs.Common.{◌≡◌, ℕ, ◌+◌, ◌*◌, ◌<◌, List, [], ◌∷◌, ◌++◌, Option, length, take, get_or, sym, ◌∙◌, ap}
use Rattle.std.proofs.Common.{subst, arith, length-take}
use Rattle.std.specs.Prelude.{All, slice_get}
use Rattle.mp_base.proofs.Entries.{get_middle}
use Rattle.mp_base.proofs.Zips.{zip_map, zip_all_right}
use Rattle.nor_net.specs.declared.net.NetId.{NetId}
use Rattle.nor_net.specs.declared.net.Part.{Part}
use Rattle.nor_net.specs.declared.net.Part.TheVariants.{Gate}
use Rattle.nor_net.specs.Shape.{IsAdded}
use Rattle.rtl_form.specs.declared.rtl.Transfer.{Transfer}
use Rattle.bit_gates.specs.declared.rails.Rails.{Rails}
use Rattle.bit_gates.specs.Adding.{AddsGates, IsCounted}
use Rattle.bit_gates.specs.Cells.{AreTerms, IsTerm}
use Rattle.bit_gates.specs.Rails.{Named}
use Rattle.bit_gates.proofs.Adding.{counted_none, counted_on, counted_part, gates_none, gates_on, gates_one}
use Rattle.bit_gates.proofs.Adding.{gates_keep, gates_longer}
use Rattle.bit_gates.proofs.Zipping.{zip_more}

pub no_terms : (exprs : List (Option Rails)) (parts : List Part) → AreTerms exprs [] parts parts []
no_terms exprs parts = record { adds = gates_none parts; counted = counted_none parts; each = tt }

kept_term : (exprs : List (Option Rails)) (first : ℕ) (old new : List Part) → AddsGates old new
    → (t : Transfer) (id : NetId) → IsTerm exprs first old t id → IsTerm exprs first new t id
kept_term exprs first old new g t id h = record {
  guard = h.guard;
  value = h.value;
  is_guard = h.is_guard;
  is_value = h.is_value;
  behind = h.behind;
  is_gate = gates_keep old new id.0 (Gate (h.value.negation ∷ h.guard.negation ∷ [])) g h.is_gate;
}

-- one more term
pub term_more : (exprs : List (Option Rails)) (ts : List Transfer) (i : ℕ) (d : Transfer) (old middle new : List Part)
    (terms : List NetId) (guard value : Rails) (id : NetId) → i < length ts
    → AreTerms exprs (take i ts) old middle terms
    → Named exprs (get_or ts i d).guard guard → Named exprs (get_or ts i d).value value
    → IsAdded middle (Gate (value.negation ∷ guard.negation ∷ [])) new id
    → AreTerms exprs (take (i + 1) ts) old new (terms ++ id ∷ [])
term_more exprs ts i d old middle new terms guard value id l h is_guard is_value a = record {
  adds = gates_on old middle new h.adds here;
  counted = record {
    net_count = let e = counted.net_count in omega (arith, e, short, long);
    input_count = let e = counted.input_count in omega (arith, e, short, long);
    active_count = let e = counted.active_count in omega (arith, e, short, long);
  };
  each = zip_more (IsTerm exprs (length old) new) ts terms i d id l
      (zip_map (IsTerm exprs (length old) middle) (IsTerm exprs (length old) new)
      (kept_term exprs (length old) middle new here) (take i ts)
      terms h.each) last;
}
  where
    part : List NetId
    part = value.negation ∷ guard.negation ∷ []

    here : AddsGates middle new
    here = gates_one middle new part a.parts

    short : length (take i ts) ≡ i
    short = let e = length-take i ts in omega (arith, e)

    long : length (take (i + 1) ts) ≡ i + 1
    long = let e = length-take (i + 1) ts in omega (arith, e)

    counted : IsCounted (length (take i ts) + 1) (2 * length (take i ts) + 2) (length (take i ts) + 1) old new
    counted = counted_on (length (take i ts)) (2 * length (take i ts))
        (length (take i ts)) 1 2 1 old middle new h.counted
        (subst (IsCounted 1 2 1 middle) (sym a.parts) (counted_part middle (Gate part)))

    last : IsTerm exprs (length old) new (get_or ts i d) id
    last = record {
      guard = guard;
      value = value;
      is_guard = is_guard;
      is_value = is_value;
      behind = let g = gates_longer old middle h.adds in let n = a.number in omega (arith, g, n);
      is_gate = ap (slice_get new) a.number ∙ (ap (λ ps. slice_get ps (length middle)) a.parts
          ∙ get_middle middle (Gate part) []);
    }

-- the terms stand where they were added
pub terms_below : (exprs : List (Option Rails)) (ts : List Transfer) (old new : List Part) (terms : List NetId)
    → AreTerms exprs ts old new terms → All (λ (j : NetId). j.0 < length new) terms
terms_below exprs ts old new terms h =
    zip_all_right (IsTerm exprs (length old) new) (λ (j : NetId). j.0 < length new)
    (λ t id is. Rattle.std.proofs.lemmas.Option.slice_get_within new id.0
    (Gate (is.value.negation ∷ is.guard.negation ∷ [])) is.is_gate) ts
    terms h.each
