-- A network that has its pads runs.
use Rattle.std.proofs.Common.{◌≡◌, ℕ, suc, ◌⊎◌, inl, inr, List, [], ◌∷◌, Some, refl, ap, subst, ◌∙◌, arith}
use Rattle.std.specs.Prelude.{◌≢◌, All, Contains, flat_map}
use Rattle.std.specs.List.{AllZip}
use Rattle.std.proofs.lemmas.Option.{slice_get-get_or}
use Rattle.std.proofs.lemmas.List.Elements.{Contains-append_right}
use Rattle.mp_base.specs.declared.value.Trit.{Trit}
use Rattle.mp_base.specs.declared.pad.Pads.{Pads}
use Rattle.switch_net.specs.declared.network.Tag.{Tag}
use Rattle.switch_net.specs.declared.network.Network.{Network}
use Rattle.switch_net.specs.Pads.{bit_labels, driver_labels, chip_labels}
use Rattle.mp_base.specs.PadBits.{Fit}
use Rattle.mp_base.proofs.Contents.{contains_flat}
use Rattle.switch_net.specs.Clock.{Phases, drives, SettlesTo, RunsTo, HasValue, Shows, IsClock, IsCircuitTrace}
use Rattle.switch_net.specs.Clock.{settings_until_outputs, settings_after_outputs}
use Rattle.switch_net.specs.Breaks.{HasPads}
use Rattle.switch_net.specs.Laws.{TraceExists}
use Rattle.switch_net.proofs.Exists.{all_or_one, settled_exists}
use Rattle.switch_net.proofs.Driving.{same_name, drivers_exist, names_of_drives}
use Rattle.switch_net.proofs.Labelling.{labels_differ}

-- ---- what is shown

-- where each item has a partner, there is a list of them
zip_exists : {A B : Type 0} (R : A → B → Type 0) (xs : List A) → ((x : A) → Contains xs x → (y : B) × R x y)
    → (ys : List B) × AllZip R xs ys
zip_exists R [] f = ([], tt)
zip_exists R (x ∷ xs) f =
    let y = f x (0, omega arith, refl) in
    let r = zip_exists R xs (λ z c. f z (suc c.0, omega (arith, c.1), c.2)) in
    (y.0 ∷ r.0, (y.1, r.1))

module _ (net : Network) (pads : Pads) (has : HasPads net pads) where
  labelled : (name : List ℕ) → Contains (chip_labels pads) name → (t : Tag) × Contains net.tags t × (t.name ≡ name)
  labelled name c = found (all_or_one (λ (t : Tag). t.name ≢ name) (λ (t : Tag). t.name ≡ name) cases net.tags)
    where
      cases : (t : Tag) → (t.name ≢ name) ⊎ (t.name ≡ name)
      cases t = elim (same_name t.name name) [ inl e ↦ inr e | inr n ↦ inl n ]

      found : All (λ (t : Tag). t.name ≢ name) net.tags ⊎ ((t : Tag) × Contains net.tags t × (t.name ≡ name))
          → (t : Tag) × Contains net.tags t × (t.name ≡ name)
      found (inr w) = w
      found (inl h) =
          absurd (has.labelled c.0 name (record {
            at = slice_get-get_or (chip_labels pads) c.0 name c.1 ∙ ap (λ x. Some x) c.2;
            none = λ t k. subst (λ (x : Tag). x.name ≢ name) k.2 (h k.0 t k.1);
          }))

  value_exists : (values : ℕ → Trit) (name : List ℕ) → Contains (chip_labels pads) name
      → (b : Trit) × HasValue net values name b
  value_exists values name c =
      let t = labelled name c in
      (values t.0.node, (t.0.node, (t.0, t.1, t.2, refl), refl))

  shown_exists : (values : ℕ → Trit) → (shown : List (List Trit)) × AllZip (Shows net values) pads.outputs shown
  shown_exists values = zip_exists (Shows net values) pads.outputs (λ pad c.
      zip_exists (HasValue net values) (bit_labels pad) (λ name k.
      value_exists values name
      (Contains-append_right (driver_labels pads.inputs) (flat_map bit_labels pads.outputs) name
      (contains_flat bit_labels pads.outputs pad name c k))))

  settles : (phases : Phases) (words : List ℕ) (before : ℕ → Trit) → Fit pads.inputs words
      → (after : ℕ → Trit) × SettlesTo net (drives phases pads.inputs words) before after
  settles phases words before f =
      let d = drivers_exist net (driver_labels pads.inputs) has.apart (drives phases pads.inputs words)
      (names_of_drives phases pads.inputs words f) (labels_differ pads) in
      let s = settled_exists (record { channels = net.channels; driver = d.0; before = before }) in
      (s.0, record { driver = d.0; drivers = d.1; settled = s.1 })

  runs : (ps : List Phases) (words : List ℕ) (before : ℕ → Trit) → Fit pads.inputs words
      → (after : ℕ → Trit) × RunsTo net pads.inputs words ps before after
  runs [] words before f = (before, λ n. refl)
  runs (p ∷ ps) words before f =
      let s = settles p words before f in
      let r = runs ps words s.0 f in
      (r.0, (s.0, s.1, r.1))

  clock : (words : List ℕ) (before : ℕ → Trit) → Fit pads.inputs words
      → (shown : List (List Trit)) × (after : ℕ → Trit) × IsClock net pads words before shown after
  clock words before f =
      let until = runs settings_until_outputs words before f in
      let rest = runs settings_after_outputs words until.0 f in
      let shown = shown_exists until.0 in
      (shown.0, rest.0, record { values = until.0; until = until.1; shows = shown.1; rest = rest.1 })

  trace : (before : ℕ → Trit) (inputs : List (List ℕ)) → All (Fit pads.inputs) inputs
      → (outputs : List (List (List Trit))) × (after : ℕ → Trit) × IsCircuitTrace net pads before inputs outputs after
  trace before [] f = ([], before, λ n. refl)
  trace before (words ∷ inputs) f =
      let c = clock words before (f 0 words (omega arith)) in
      let r = trace c.1 inputs (λ k d l. f (suc k) d (omega arith)) in
      (c.0 ∷ r.0, r.1, (c.1, c.2, r.2))

pub trace_exists : TraceExists
trace_exists net pads before inputs has f = trace net pads has before inputs f
