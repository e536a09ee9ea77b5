-- Rules E42 and E43 by what is found in processes.
use Rattle.std.proofs.Common.{◌≡◌, ℕ, List, Bool, refl, sym, ◌∙◌, ap, Option, Some, None}
use Rattle.std.specs.Prelude.{nat_lt, option_and_then, slice_get}
use Rattle.std.specs.Option.{option_map}
use Rattle.std.proofs.lemmas.Bool.{ltb-true, lt-ltb}
use Rattle.mp_base.specs.declared.refusal.Place.{Place}
use Rattle.mp_program.specs.declared.program.Form.{Form}
use Rattle.mp_program.specs.declared.program.Process.{Process}
use Rattle.mp_program.specs.declared.program.Program.{Program}
use Rattle.mp_base.specs.Entries.{IsAt}
use Rattle.mp_rules.specs.Breaking.{IsEarliest}
use Rattle.mp_rules.specs.Rules.{E42, E43}
use Rattle.mp_rules.specs.declared.limits.TheConstants.{FORM_LIMIT, DEPTH_LIMIT}
use Rattle.mp_limits.specs.Finding.{earliest_in, place_that, far_form}
use Rattle.mp_limits.proofs.Scans.{IsFoundIn, earliest_one, passes, passed}
use Rattle.mp_rules.proofs.EarliestPlaces.{earliest_same}

abbrev pub depth_place : Process → Place
depth_place q = q.depth_at

-- the first form too many of a process, where it is found
far_found : (forms : List Form) (q : Process) (at : Place) → far_form forms q ≡ Some at
    → (f : ℕ) × (y : Form) × IsAt q.forms FORM_LIMIT f × IsAt forms f y × (at ≡ y.place)
far_found forms q at h = by_index (slice_get q.forms FORM_LIMIT) refl h
  where
    by_form : (f : ℕ) → slice_get q.forms FORM_LIMIT ≡ Some f → (o : Option Form) → slice_get forms f ≡ o
        → option_map (λ (y : Form). y.place) o ≡ Some at
        → (f : ℕ) × (y : Form) × IsAt q.forms FORM_LIMIT f × IsAt forms f y × (at ≡ y.place)
    by_form f is None e h = absurd (cc)
    by_form f is (Some y) e h = (f, y, is, e, (let s : y.place ≡ at = cc in sym s))

    by_index : (o : Option ℕ) → slice_get q.forms FORM_LIMIT ≡ o
        → option_and_then (λ f. option_map (λ (y : Form). y.place) (slice_get forms f)) o ≡ Some at
        → (f : ℕ) × (y : Form) × IsAt q.forms FORM_LIMIT f × IsAt forms f y × (at ≡ y.place)
    by_index None e h = absurd (cc)
    by_index (Some f) e h = by_form f e (slice_get forms f) refl h

pub long_earliest : (p : Program) (found : Option Place) → found ≡ earliest_in (far_form p.forms) None p.processes
    → IsEarliest (E42 p) found
long_earliest p found e =
    rw e (earliest_same (IsFoundIn (far_form p.forms) p.processes) (E42 p) _
    (earliest_one (far_form p.forms) p.processes) to
    from)
  where
    to : (at : Place) → IsFoundIn (far_form p.forms) p.processes at → E42 p at
    to at (k, q, is, f) = let h = far_found p.forms q at f in (k, q, h.0, h.1, is, h.2, h.3, h.4)

    from : (at : Place) → E42 p at → IsFoundIn (far_form p.forms) p.processes at
    from at (k, q, f, y, is, far, form, e) = (
      k,
      q,
      is,
      ap (option_and_then (λ i. option_map (λ (z : Form). z.place) (slice_get p.forms i))) far
          ∙ ap (option_map (λ (z : Form). z.place)) form ∙ ap Some (sym e),
    )

abbrev pub is_too_deep : Process → Bool
is_too_deep q = nat_lt DEPTH_LIMIT q.depth

pub deep_earliest : (p : Program) (found : Option Place)
    → found ≡ earliest_in (place_that depth_place is_too_deep) None p.processes
    → IsEarliest (E43 p) found
deep_earliest p found e =
    rw e (earliest_same (IsFoundIn (place_that depth_place is_too_deep) p.processes) (E43 p) _
    (earliest_one (place_that depth_place is_too_deep) p.processes) to
    from)
  where
    to : (at : Place) → IsFoundIn (place_that depth_place is_too_deep) p.processes at → E43 p at
    to at (k, q, is, f) = let h = passes depth_place is_too_deep q at f in
        (k, q, is, ltb-true DEPTH_LIMIT q.depth h.0, h.1)

    from : (at : Place) → E43 p at → IsFoundIn (place_that depth_place is_too_deep) p.processes at
    from at (k, q, is, deep, e) = (k, q, is, passed depth_place is_too_deep q at (lt-ltb DEPTH_LIMIT q.depth deep) e)
