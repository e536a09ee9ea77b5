-- A path that was added to is well made, has grown, and by how much.
use Rattle.std.proofs.Common.{◌≡◌, ℕ, ◌<◌, ◌≤◌, ◌+◌, ◌⊎◌, inl, inr, List, [], ◌∷◌, Option, Some, true, false, length}
use Rattle.std.proofs.Common.{sym, ◌∙◌, ap, subst, arith, length-append}
use Rattle.std.specs.Prelude.{All, Contains, slice_get, slice_set}
use Rattle.std.specs.List.{sum_by}
use Rattle.std.proofs.lemmas.List.Elements.{All-weaker, Contains-append_left}
use Rattle.std.proofs.lemmas.List.Sums.{sum_by-append}
use Rattle.mp_base.proofs.Entries.{get_kept, get_front}
use Rattle.nor_net.specs.declared.net.NetId.{NetId}
use Rattle.nor_net.specs.declared.net.Part.{Part}
use Rattle.nor_net.specs.declared.net.Part.TheVariants as parts
use Rattle.nor_net.specs.Shape.{fan_in, gate_inputs}
use Rattle.organelles.specs.declared.slices.Chain.{Chain}
use Rattle.control_nor.specs.declared.names.Names.{Names}
use Rattle.control_nor.specs.Lowering.{Stands}
use Rattle.path_form.specs.declared.path.Cast.{Cast}
use Rattle.path_form.specs.Shape.{chain_to, is_fed, is_input}
use Rattle.path_form.specs.Sizes.{active}
use Rattle.path_values.specs.Allocated.{IsGuard}
use Rattle.datapath_making.specs.declared.making.Guard.{Guard}
use Rattle.datapath_making.specs.declared.making.Making.{Making}
use Rattle.datapath_making.specs.Additions.{Addition, ChainFits, Fits, Adds, IsBounded}
use Rattle.datapath_making.specs.Growing.{Appends, Grows}
use Rattle.datapath_making.specs.Sizes.{Spends}
use Rattle.datapath_making.specs.WellMade.{AreCast, AreNamed, IsGuardMade}
use Rattle.datapath_making.proofs.Entering.{length_added}
use Rattle.datapath_making.proofs.Lists.{set_cases}

-- a net that stands for no cell stands for one now
module _ (net : List Part) (cells words : List (Option NetId)) (h : AreNamed net cells words) (c : ℕ) (id : NetId)
    (inside : id.0 < length net) (made : is_input (slice_get net id.0) ≡ false)
    (fresh : (d : ℕ) → Stands cells d id → ⊥) where
  in_case : (d : ℕ) (other : NetId) → ((d ≡ c) × (id ≡ other)) ⊎ ((d ≡ c → ⊥) × Stands cells d other)
      → other.0 < length net
  in_case d other (inl e) = subst (λ (i : NetId). i.0 < length net) e.1 inside
  in_case d other (inr s) = h.cells_in d other s.1

  made_case : (d : ℕ) (other : NetId) → ((d ≡ c) × (id ≡ other)) ⊎ ((d ≡ c → ⊥) × Stands cells d other)
      → is_input (slice_get net other.0) ≡ false
  made_case d other (inl e) = subst (λ (i : NetId). is_input (slice_get net i.0) ≡ false) e.1 made
  made_case d other (inr s) = h.cells_made d other s.1

  no_other : (d : ℕ) (other : NetId) → id ≡ other → Stands cells d other → ⊥
  no_other d other e s = fresh d (subst (λ (i : NetId). Stands cells d i) (sym e) s)

  apart_case : (d e : ℕ) (other : NetId)
      → ((d ≡ c) × (id ≡ other)) ⊎ ((d ≡ c → ⊥) × Stands cells d other)
      → ((e ≡ c) × (id ≡ other)) ⊎ ((e ≡ c → ⊥) × Stands cells e other) → d ≡ e
  apart_case d e other (inl x) (inl y) = x.0 ∙ sym y.0
  apart_case d e other (inl x) (inr y) = absurd (no_other e other x.1 y.1)
  apart_case d e other (inr x) (inl y) = absurd (no_other d other y.1 x.1)
  apart_case d e other (inr x) (inr y) = h.cells_apart d e other x.1 y.1

  pub cell_set : AreNamed net (slice_set cells c (Some id)) words
  cell_set = record {
    words_in = h.words_in;
    cells_in = λ d other s. in_case d other (set_cases cells c id d other s);
    cells_made = λ d other s. made_case d other (set_cases cells c id d other s);
    cells_apart = λ d e other s t. apart_case d e other (set_cases cells c id d other s)
        (set_cases cells c id e other t);
  }

module _ (a : Addition) (old new : Making) (is : Adds a old new) where
  part_stays : (n : ℕ) (q : Part) → slice_get old.slices.net n ≡ Some q → slice_get new.slices.net n ≡ Some q
  part_stays n q e = ap (λ ps. slice_get ps n) is.net ∙ get_kept old.slices.net a.parts n q e

  -- all that stood stands
  pub grows_by : (fresh : List NetId) → Fits a fresh old → Grows old new
  grows_by fresh fits = record {
    width = is.width;
    control = is.control;
    names = is.names;
    reset = is.reset;
    longer = let e = length_added a old new is in omega (arith, e);
    parts = λ n q e f. part_stays n q e;
    chains = (
      a.chains,
      is.chains,
      All-weaker (ChainFits old (length old.slices.net + length a.parts))
          (λ (c : Chain). length old.slices.net ≤ (chain_to c).0)
          (λ c f. f.behind) a.chains fits.chains,
    );
    programs = (a.programs, is.programs, fits.programs);
    casts = (a.casts, is.casts);
    lifts = (a.lifts, is.lifts);
    cell_count = is.cell_count;
    word_count = is.word_count;
    pad_count = is.pad_count;
    guard_count = is.guard_count;
  }

  pub appends_by : All (λ q. is_fed q ≡ true) a.parts → Appends old.slices.net new.slices.net
  appends_by fed = (a.parts, is.net, fed)

  pub bounded_by : IsBounded (length a.parts) (gate_inputs a.parts)
      (sum_by active a.parts + (length a.chains + length a.programs) + (length a.casts + length a.lifts))
      (length a.casts + length a.lifts) old new
  bounded_by =
      let n = length_added a old new is in
      let i : gate_inputs new.slices.net ≡ gate_inputs old.slices.net + gate_inputs a.parts =
      ap gate_inputs is.net ∙ sum_by-append fan_in old.slices.net a.parts in
      let s : sum_by active new.slices.net ≡ sum_by active old.slices.net + sum_by active a.parts =
      ap (sum_by active) is.net ∙ sum_by-append active old.slices.net a.parts in
      let c = ap length is.chains ∙ length-append old.slices.chains a.chains in
      let p = ap length is.programs ∙ length-append old.slices.programs a.programs in
      let k = ap length is.casts ∙ length-append old.casts a.casts in
      let l = ap length is.lifts ∙ length-append old.lifts a.lifts in
      record {
        nets = omega (arith, n);
        inputs = omega (arith, i);
        columns = omega (arith, s, c, p, k, l);
        crossings = omega (arith, k, l);
      }

  -- ---- names

  module _ (cells words : List (Option NetId)) (h : AreNamed old.slices.net cells words) where
    longer : length old.slices.net ≤ length new.slices.net
    longer = let e = length_added a old new is in omega (arith, e)

    pub named_on : AreNamed new.slices.net cells words
    named_on = record {
      words_in = λ e id s. let l = h.words_in e id s in omega (arith, l, longer);
      cells_in = λ c id s. let l = h.cells_in c id s in omega (arith, l, longer);
      cells_made = λ c id s. ap is_input (ap (λ ps. slice_get ps id.0) is.net
          ∙ get_front old.slices.net a.parts id.0 (h.cells_in c id s)) ∙ h.cells_made c id s;
      cells_apart = h.cells_apart;
    }

    -- a new net stands for a cell
    pub cell_named : (c : ℕ) (id : NetId) → length old.slices.net ≤ id.0 → id.0 < length new.slices.net
        → is_input (slice_get new.slices.net id.0) ≡ false
        → AreNamed new.slices.net (slice_set cells c (Some id)) words
    cell_named c id ge l made =
        cell_set new.slices.net cells words named_on c id l made
        (λ d s. let x = h.cells_in d id s in omega (arith, x, ge))

    -- a net stands for an expression
    pub word_named : (e : ℕ) (id : NetId) → id.0 < length new.slices.net
        → AreNamed new.slices.net cells (slice_set words e (Some id))
    word_named e id l = record {
      words_in = λ d other s. word_case d other (set_cases words e id d other s);
      cells_in = named_on.cells_in;
      cells_made = named_on.cells_made;
      cells_apart = h.cells_apart;
    }
      where
        word_case : (d : ℕ) (other : NetId) → ((d ≡ e) × (id ≡ other)) ⊎ ((d ≡ e → ⊥) × Stands words d other)
            → other.0 < length new.slices.net
        word_case d other (inl q) = subst (λ (i : NetId). i.0 < length new.slices.net) q.1 l
        word_case d other (inr s) = named_on.words_in d other s.1

  -- ---- guards

  cast_stays : (c : Cast) → Contains old.casts c → Contains new.casts c
  cast_stays c h =
      subst (λ (cs : List Cast). Contains cs c) (sym is.casts) (Contains-append_left old.casts a.casts c h)

  pub guard_stays : (e : ℕ) (g : Guard) → IsGuardMade old.slices.net old.casts old.names e g
      → IsGuardMade new.slices.net new.casts new.names e g
  guard_stays e g h = record {
    is_cast = subst (λ (names : Names). IsGuard new.casts names e g.cast) (sym is.names)
        (h.is_cast.0, cast_stays h.is_cast.0 h.is_cast.1, h.is_cast.2, h.is_cast.3);
    is_off = part_stays g.off.0 (parts.Gate (g.cast ∷ [])) h.is_off;
  }

  pub clear_stays : (id : NetId)
      → (c : Cast) × Contains old.casts c × (old.reset ≡ Some c.control) × (c.slice ≡ id)
      → (c : Cast) × Contains new.casts c × (new.reset ≡ Some c.control) × (c.slice ≡ id)
  clear_stays id h = (h.0, cast_stays h.0 h.1, is.reset ∙ h.2, h.3)

  same_count : AreCast old → length new.guards ≡ length new.names.exprs
  same_count h = is.guard_count ∙ (h.count ∙ ap (λ (names : Names). length names.exprs) (sym is.names))

  pub cast_on : AreCast old → new.guards ≡ old.guards → new.clear ≡ old.clear → AreCast new
  cast_on h guards clear = record {
    count = same_count h;
    guards = λ e g s. guard_stays e g (h.guards e g (sym (ap (λ gs. slice_get gs e) guards) ∙ s));
    clear = λ id s. clear_stays id (h.clear id (sym clear ∙ s));
  }

-- ---- bounds

pub bounded_none : (m : Making) → IsBounded 0 0 0 0 m m
bounded_none m = record {
  nets = omega arith;
  inputs = omega arith;
  columns = omega arith;
  crossings = omega arith;
}

pub bounded_on : (n i c x m j d y : ℕ) (old middle new : Making) → IsBounded n i c x old middle
    → IsBounded m j d y middle new → IsBounded (n + m) (i + j) (c + d) (x + y) old new
bounded_on n i c x m j d y old middle new g h = record {
  nets = let p = g.nets in let q = h.nets in omega (arith, p, q);
  inputs = let p = g.inputs in let q = h.inputs in omega (arith, p, q);
  columns = let p = g.columns in let q = h.columns in omega (arith, p, q);
  crossings = let p = g.crossings in let q = h.crossings in omega (arith, p, q);
}

pub bounded_within : (n i c x m j d y : ℕ) (old new : Making) → IsBounded n i c x old new → n ≤ m → i ≤ j → c ≤ d
    → x ≤ y → IsBounded m j d y old new
bounded_within n i c x m j d y old new g a b e f = record {
  nets = let p = g.nets in omega (arith, p, a);
  inputs = let p = g.inputs in omega (arith, p, b);
  columns = let p = g.columns in omega (arith, p, e);
  crossings = let p = g.crossings in omega (arith, p, f);
}

pub spends_by : (n i c x cost crossed : ℕ) (old new : Making) → IsBounded n i c x old new → n ≤ cost
    → i ≤ cost + cost → c ≤ cost → x ≤ crossed → Spends cost crossed old new
spends_by n i c x cost crossed old new g a b e f = record {
  nets = let p = g.nets in omega (arith, p, a);
  inputs = let p = g.inputs in omega (arith, p, b);
  columns = let p = g.columns in omega (arith, p, e);
  crossings = let p = g.crossings in omega (arith, p, f);
}
