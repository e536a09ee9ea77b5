-- A circuit that is the same up to numbering shows the same.
use Rattle.std.proofs.Common.{ℕ, zero, suc, ◌≡◌, ◌<◌, inl, inr, refl, sym, ◌∙◌, ap, subst, arith, List, [], ◌∷◌, length}
use Rattle.std.proofs.Common.{get_or, Contains}
use Rattle.std.specs.Prelude.{Option, Some, None}
use Rattle.std.specs.List.{AllZip}
use Rattle.std.proofs.lemmas.Bool.{cases_lt}
use Rattle.std.proofs.lemmas.List.Elements.{All-contains}
use Rattle.mp_base.specs.declared.value.Trit.{Trit}
use Rattle.mp_base.specs.declared.pad.Pad.{Pad}
use Rattle.mp_base.specs.declared.pad.Pads.{Pads}
use Rattle.mp_base.proofs.Zips.{zip_map}
use Rattle.switch_net.specs.declared.network.Tag.{Tag}
use Rattle.switch_net.specs.declared.network.Network.{Network}
use Rattle.switch_net.specs.Clock.{Phases, Drive, drives, settings_until_outputs, settings_after_outputs, IsLabelled}
use Rattle.switch_net.specs.Clock.{AreDrivers, SettlesTo, RunsTo, HasValue, Shows, IsClock, IsCircuitTrace}
use Rattle.switch_net.specs.Pads.{bit_labels}
use Rattle.switch_net.specs.Laws.{SettledExists}
use Rattle.renumbering.specs.Same.{Renumbering, SameTag, SameUpToNumbering, AreAlike}
use Rattle.renumbering.specs.Laws.{setting, RunsAlike}
use Rattle.renumbering.proofs.Composing.{same_turns}
use Rattle.renumbering.proofs.Settling.{within_or, within, beyond, settles_alike}

-- the partner of an element
partner : {A B : Type 0} (R : A → B → Type 0) (xs : List A) (ys : List B) → AllZip R xs ys → (i : ℕ) (d : A)
    → i < length xs
    → (y : B) × Contains ys y × R (get_or xs i d) y
partner R [] ys z i d lt = absurd (omega (arith, lt))
partner R (x ∷ xs) [] z i d lt = absurd z
partner R (x ∷ xs) (y ∷ ys) z zero d lt = (y, (0, omega arith, refl), z.0)
partner R (x ∷ xs) (y ∷ ys) z (suc i) d lt =
    let (v, (k, within, there), related) = partner R xs ys z.1 i d (omega (arith, lt)) in
    (v, (suc k, omega (arith, within), there), related)

-- a labelled number is a node
labelled_low : (n : Network) (name : List ℕ) (k : ℕ) → IsLabelled n name k → k < n.nodes
labelled_low n name k (t, has, e, at) =
    subst (λ z. z < n.nodes) at (All-contains (λ (u : Tag). u.node < n.nodes) n.tags t n.tags_in has)

labelled_there : (n m : Network) (s : SameUpToNumbering n m) (name : List ℕ) (k : ℕ) → IsLabelled n name k
    → IsLabelled m name (s.numbers.node k)
labelled_there n m s name k (t, (i, lt, same), e, at) =
    let w = partner (SameTag s.numbers.node) n.tags m.tags s.tags i t lt in
    let tag : SameTag s.numbers.node t w.0 = subst (λ x. SameTag s.numbers.node x w.0) same w.2 in
    (w.0, w.1, sym tag.name ∙ e, sym tag.node_is ∙ ap s.numbers.node at)

module _ (exists : SettledExists) (n m : Network) (s : SameUpToNumbering n m) where
  abbrev r : Renumbering n m
  r = s.numbers

  labelled_back : (name : List ℕ) (j : ℕ) → IsLabelled m name j → IsLabelled n name (r.node_back j)
  labelled_back name j h = labelled_there m n (same_turns n m s) name j h

  -- the drivers of the other network
  abbrev others : (ℕ → Option Trit) → ℕ → Option Trit
  others driver j = within_or j m.nodes (driver (r.node_back j)) None

  others_in : (driver : ℕ → Option Trit) (j : ℕ) → j < m.nodes → others driver j ≡ driver (r.node_back j)
  others_in driver j lt = within j m.nodes (driver (r.node_back j)) None lt

  others_alike : (driver : ℕ → Option Trit) → AreAlike n m r driver (others driver)
  others_alike driver k lt =
      sym (others_in driver (r.node k) (r.nodes.within k lt) ∙ ap driver (r.nodes.there_back k lt))

  drivers_there : (driven : List Drive) (driver : ℕ → Option Trit) → AreDrivers n driven driver
      → AreDrivers m driven (others driver)
  drivers_there driven driver h = record {
    each =
        λ d j c l. others_in driver j (labelled_low m d.name j l)
        ∙ h.each d (r.node_back j) c (labelled_back d.name j l);
    only = λ j b e. elim (cases_lt j m.nodes) [
      | inl lt ↦ (let w = h.only (r.node_back j) b (sym (others_in driver j lt) ∙ e) in (
        w.0,
        w.1,
        subst (IsLabelled m (w.0).name) (r.nodes.back_there j lt)
            (labelled_there n m s (w.0).name (r.node_back j) w.2),
        w.3,
      ))
      | inr ge ↦ (let none : None ≡ Some b = sym (beyond j m.nodes (driver (r.node_back j)) None ge) ∙ e in absurd (cc))
    ];
  }

  -- what one settles to, the other does
  settles : (driven : List Drive) (before past after : ℕ → Trit) → AreAlike n m r before past
      → SettlesTo n driven before after
      → (later : ℕ → Trit) × AreAlike n m r after later × SettlesTo m driven past later
  settles driven before past after keeps h =
      let other : ℕ → Option Trit = others h.driver in
      let w = exists (setting m other past) in (
        w.0,
        settles_alike n m r h.driver other before past after w.0 (others_alike h.driver) keeps h.settled w.1,
        record { driver = other; drivers = drivers_there driven h.driver h.drivers; settled = w.1 },
      )

  runs : (inputs : List Pad) (words : List ℕ) (ps : List Phases) (before past after : ℕ → Trit)
      → AreAlike n m r before past
      → RunsTo n inputs words ps before after
      → (later : ℕ → Trit) × AreAlike n m r after later × RunsTo m inputs words ps past later
  runs inputs words [] before past after keeps h = (past, (λ k lt. h k ∙ keeps k lt), (λ k. refl))
  runs inputs words (p ∷ ps) before past after keeps (between, first, rest) =
      let a = settles (drives p inputs words) before past between keeps first in
      let b = runs inputs words ps between a.0 after a.1 rest in
      (b.0, b.1, (a.0, a.2, b.2))

  module _ (values others : ℕ → Trit) (alike : AreAlike n m r values others) where
    value_there : (name : List ℕ) (bit : Trit) → HasValue n values name bit → HasValue m others name bit
    value_there name bit (k, l, e) =
        (r.node k, labelled_there n m s name k l, sym (alike k (labelled_low n name k l)) ∙ e)

    shows_there : (pad : Pad) (bits : List Trit) → Shows n values pad bits → Shows m others pad bits
    shows_there pad bits h = zip_map (HasValue n values) (HasValue m others) value_there (bit_labels pad) bits h

  clock : (pads : Pads) (words : List ℕ) (before past after : ℕ → Trit) (shown : List (List Trit))
      → AreAlike n m r before past
      → IsClock n pads words before shown after
      → (later : ℕ → Trit) × AreAlike n m r after later × IsClock m pads words past shown later
  clock pads words before past after shown keeps h =
      let a = runs pads.inputs words settings_until_outputs before past h.values keeps h.until in
      let b = runs pads.inputs words settings_after_outputs h.values a.0 after a.1 h.rest in (
        b.0,
        b.1,
        record {
          values = a.0;
          until = a.2;
          shows = zip_map (Shows n h.values) (Shows m a.0) (shows_there h.values a.0 a.1) pads.outputs shown h.shows;
          rest = b.2;
        },
      )

  trace : (pads : Pads) (before past after : ℕ → Trit) (inputs : List (List ℕ)) (shown : List (List (List Trit)))
      → AreAlike n m r before past → IsCircuitTrace n pads before inputs shown after
      → (later : ℕ → Trit) × AreAlike n m r after later × IsCircuitTrace m pads past inputs shown later
  trace pads before past after [] [] keeps h = (past, (λ k lt. h k ∙ keeps k lt), (λ k. refl))
  trace pads before past after [] (o ∷ os) keeps h = absurd h
  trace pads before past after (i ∷ is) [] keeps h = absurd h
  trace pads before past after (i ∷ is) (o ∷ os) keeps (between, first, rest) =
      let a = clock pads i before past between o keeps first in
      let b = trace pads between a.0 after is os a.1 rest in
      (b.0, b.1, (a.0, a.2, b.2))

pub runs_alike : SettledExists → RunsAlike
runs_alike exists n m s pads before past after inputs shown keeps h =
    trace exists n m s pads before past after inputs shown keeps h
