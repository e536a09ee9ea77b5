-- What lasts while a path grows.
use Rattle.std.proofs.Common.{◌≡◌, ℕ, ◌<◌, ◌≤◌, ◌+◌, ◌-◌, List, [], ◌∷◌, ◌++◌, Option, Some, None, true, false, get_or}
use Rattle.std.proofs.Common.{length, refl, sym, ◌∙◌, ap, subst, arith, append_assoc, length-append}
use Rattle.std.specs.Prelude.{All, Contains, slice_get}
use Rattle.std.specs.List.{AllZip}
use Rattle.std.proofs.lemmas.Bool.{true≢false}
use Rattle.std.proofs.lemmas.Option.{slice_get-get_or, slice_get_within}
use Rattle.std.proofs.lemmas.List.Elements.{All-nil, All-append, All-weaker, Contains-append_left}
use Rattle.std.proofs.lemmas.List.{append-nil}
use Rattle.mp_base.specs.declared.op.Op.{Op}
use Rattle.mp_base.proofs.Entries.{get_behind}
use Rattle.mp_base.proofs.Zips.{zip_map}
use Rattle.nor_net.specs.declared.net.NetId.{NetId}
use Rattle.nor_net.specs.declared.net.Phase.TheVariants as phases
use Rattle.nor_net.specs.declared.net.Part.{Part}
use Rattle.nor_net.specs.declared.net.Part.TheVariants as parts
use Rattle.organelles.specs.declared.slices.Chain.{Chain}
use Rattle.organelles.specs.declared.slices.Programmed.{Programmed}
use Rattle.organelles.specs.declared.slices.SliceNet.{SliceNet}
use Rattle.organelles.specs.declared.slices.Organelle.{Organelle}
use Rattle.organelles.specs.Computing.{with_table}
use Rattle.organelles.specs.Tables.{table_of}
use Rattle.rtl_form.specs.declared.rtl.Transfer.{Transfer}
use Rattle.rtl_form.specs.declared.rtl.Rtl.{Rtl}
use Rattle.control_nor.specs.declared.names.Names.{Names}
use Rattle.control_nor.specs.Lowering.{Stands}
use Rattle.path_form.specs.declared.path.Cast.{Cast}
use Rattle.path_form.specs.Extending.{Extends, is_latch}
use Rattle.path_form.specs.Shape.{chain_to, is_fed}
use Rattle.path_values.specs.Allocated.{DrivenWord, InputWord, IsGate, IsGuard, IsTerm, Placed, StoredWord}
use Rattle.path_values.specs.Allocated.{transfers_to}
use Rattle.datapath_making.specs.declared.making.Making.{Making}
use Rattle.datapath_making.specs.Growing.{Grows}
use Rattle.datapath_making.specs.Sizes.{Spends}
use Rattle.datapath_making.proofs.Tables.{IsLogic, parts_are_logic, parts_of, some_parts}

-- two additions at the end of a list are one
on_end : {X : Type 0} (P Q : X → Type 0) (xs ys zs : List X) → ((x : X) → Q x → P x)
    → (more : List X) × (ys ≡ xs ++ more) × All P more
    → (more : List X) × (zs ≡ ys ++ more) × All Q more
    → (more : List X) × (zs ≡ xs ++ more) × All P more
on_end P Q xs ys zs f g h = (
  g.0 ++ h.0,
  h.1 ∙ (ap (λ ws. ws ++ h.0) g.1 ∙ append_assoc xs g.0 h.0),
  All-append P g.0 h.0 g.2 (All-weaker Q P f h.0 h.2),
)

on_list : {X : Type 0} (xs ys zs : List X) → (more : List X) × (ys ≡ xs ++ more)
    → (more : List X) × (zs ≡ ys ++ more)
    → (more : List X) × (zs ≡ xs ++ more)
on_list xs ys zs g h = (g.0 ++ h.0, h.1 ∙ (ap (λ ws. ws ++ h.0) g.1 ∙ append_assoc xs g.0 h.0))

pub nothing_more : {X : Type 0} (P : X → Type 0) (xs : List X) → (more : List X) × (xs ≡ xs ++ more) × All P more
nothing_more P xs = ([], sym (append-nil xs), All-nil P)

pub nothing_on : {X : Type 0} (xs : List X) → (more : List X) × (xs ≡ xs ++ more)
nothing_on xs = ([], sym (append-nil xs))

pub grows_refl : (m : Making) → Grows m m
grows_refl m = record {
  width = refl;
  control = refl;
  names = refl;
  reset = refl;
  longer = omega arith;
  parts = λ n q e f. e;
  chains = nothing_more (λ c. length m.slices.net ≤ (chain_to c).0) m.slices.chains;
  programs = nothing_more (λ (p : Programmed). length m.slices.net ≤ p.net.0) m.slices.programs;
  casts = nothing_on m.casts;
  lifts = nothing_on m.lifts;
  cell_count = refl;
  word_count = refl;
  pad_count = refl;
  guard_count = refl;
}

pub grows_on : (old middle new : Making) → Grows old middle → Grows middle new → Grows old new
grows_on old middle new g h = record {
  width = h.width ∙ g.width;
  control = h.control ∙ g.control;
  names = h.names ∙ g.names;
  reset = h.reset ∙ g.reset;
  longer = let x = g.longer in let y = h.longer in omega (arith, x, y);
  parts = λ n q e f. h.parts n q (g.parts n q e f) f;
  chains = on_end (λ (c : Chain). length old.slices.net ≤ (chain_to c).0)
      (λ (c : Chain). length middle.slices.net ≤ (chain_to c).0) old.slices.chains
      middle.slices.chains new.slices.chains
      (λ c l. let x = g.longer in omega (arith, x, l)) g.chains h.chains;
  programs = on_end (λ (p : Programmed). length old.slices.net ≤ p.net.0)
      (λ (p : Programmed). length middle.slices.net ≤ p.net.0) old.slices.programs
      middle.slices.programs new.slices.programs
      (λ p l. let x = g.longer in omega (arith, x, l)) g.programs h.programs;
  casts = on_list old.casts middle.casts new.casts g.casts h.casts;
  lifts = on_list old.lifts middle.lifts new.lifts g.lifts h.lifts;
  cell_count = h.cell_count ∙ g.cell_count;
  word_count = h.word_count ∙ g.word_count;
  pad_count = h.pad_count ∙ g.pad_count;
  guard_count = h.guard_count ∙ g.guard_count;
}

fed_unless : (q : Part) → is_latch q ≡ false → is_fed q ≡ true
fed_unless parts.Input e = refl
fed_unless (parts.Gate inputs) e = refl
fed_unless (parts.Latch phase None) e = absurd (true≢false e)
fed_unless (parts.Latch phase (Some source)) e = refl

pub grows_extends : (old new : Making) → Grows old new → Extends old.slices new.slices
grows_extends old new g = record {
  parts = λ n q e l. g.parts n q e (fed_unless q l);
  chains = g.chains;
  programs = g.programs;
}

pub extends_on : (s t u : SliceNet) → length s.net ≤ length t.net → Extends s t → Extends t u → Extends s u
extends_on s t u l g h = record {
  parts = λ n q e f. h.parts n q (g.parts n q e f) f;
  chains = on_end (λ (c : Chain). length s.net ≤ (chain_to c).0) (λ (c : Chain). length t.net ≤ (chain_to c).0)
      s.chains t.chains u.chains (λ c k. omega (arith, l, k)) g.chains h.chains;
  programs = on_end (λ (p : Programmed). length s.net ≤ p.net.0) (λ (p : Programmed). length t.net ≤ p.net.0)
      s.programs t.programs u.programs (λ p k. omega (arith, l, k)) g.programs h.programs;
}

pub extends_refl : (s : SliceNet) → Extends s s
extends_refl s = record {
  parts = λ n q e l. e;
  chains = nothing_more (λ c. length s.net ≤ (chain_to c).0) s.chains;
  programs = nothing_more (λ (p : Programmed). length s.net ≤ p.net.0) s.programs;
}

pub spends_none : (m : Making) → Spends 0 0 m m
spends_none m = record {
  nets = omega arith;
  inputs = omega arith;
  columns = omega arith;
  crossings = omega arith;
}

pub spends_on : (a b c d : ℕ) (old middle new : Making) → Spends a c old middle → Spends b d middle new
    → Spends (a + b) (c + d) old new
spends_on a b c d old middle new g h = record {
  nets = let x = g.nets in let y = h.nets in omega (arith, x, y);
  inputs = let x = g.inputs in let y = h.inputs in omega (arith, x, y);
  columns = let x = g.columns in let y = h.columns in omega (arith, x, y);
  crossings = let x = g.crossings in let y = h.crossings in omega (arith, x, y);
}

-- ---- a slice net that grew from one with an operator at its end is as long

no_latch : (q : Part) → IsLogic q → is_latch q ≡ false
no_latch parts.Input h = refl
no_latch (parts.Gate inputs) h = refl
no_latch (parts.Latch phase source) h = absurd (h phase source refl)

last_stands : (s t : SliceNet) (old more : List Part) → s.net ≡ old ++ more → 0 < length more
    → All IsLogic more → Extends s t → length s.net ≤ length t.net
last_stands s t old more e some logic g =
    let k : ℕ = length more - 1 in
    let q = get_or more k parts.Input in
    let here = slice_get-get_or more k parts.Input (omega (arith, some)) in
    let at : slice_get s.net (length old + k) ≡ Some q =
    ap (λ ps. slice_get ps (length old + k)) e ∙ (get_behind old more k ∙ here) in
    let there = g.parts (length old + k) q at (no_latch q (logic k parts.Input (omega (arith, some)))) in
    let l = slice_get_within t.net (length old + k) q there in
    let n = ap length e ∙ length-append old more in
    omega (arith, l, n, some)

pub tables_extend : (kind : Organelle) (a b : NetId) (s t : SliceNet) → a.0 < length s.net
    → Extends (with_table (table_of kind) a b s) t → length (with_table (table_of kind) a b s).net ≤ length t.net
tables_extend kind a b s t l g =
    last_stands (with_table (table_of kind) a b s) t s.net (parts_of kind a b (length s.net)) refl
    (some_parts kind a b (length s.net)) (parts_are_logic kind a b (length s.net) l) g

-- ---- what stands for words lasts: nets that are no latches without data stay, and casts stay

module _ (old new : Making) (grows : Grows old new) where
  pub gate_lasts : (id : NetId) (inputs : List NetId) → IsGate old.slices.net id inputs
      → IsGate new.slices.net id inputs
  gate_lasts id inputs h = grows.parts id.0 (parts.Gate inputs) h refl

  pub cast_lasts : (c : Cast) → Contains old.casts c → Contains new.casts c
  cast_lasts c h =
      subst (λ (cs : List Cast). Contains cs c) (sym grows.casts.1)
      (Contains-append_left old.casts grows.casts.0 c h)

  pub guard_lasts : (names : Names) (e : ℕ) (id : NetId) → IsGuard old.casts names e id
      → IsGuard new.casts names e id
  guard_lasts names e id h = (h.0, cast_lasts h.0 h.1, h.2, h.3)

  pub input_lasts : (id pad : NetId) → InputWord old.slices.net id pad → InputWord new.slices.net id pad
  input_lasts id pad h =
      (grows.parts id.0 (parts.Latch phases.C (Some pad)) h.0 refl, grows.parts pad.0 parts.Input h.1 refl)

  module _ (names : Names) (words words' : List (Option NetId))
      (keeps : (e : ℕ) (id : NetId) → Stands words e id → Stands words' e id) where
    pub term_lasts : (t : Transfer) (id : NetId) → IsTerm old.slices old.casts names words t id
        → IsTerm new.slices new.casts names words' t id
    term_lasts t id h = record {
      value = h.value;
      off_value = h.off_value;
      guard = h.guard;
      off_guard = h.off_guard;
      is_value = keeps t.value h.value h.is_value;
      is_guard = guard_lasts names t.guard h.guard h.is_guard;
      is_off_value = gate_lasts h.off_value (h.value ∷ []) h.is_off_value;
      is_off_guard = gate_lasts h.off_guard (h.guard ∷ []) h.is_off_guard;
      is_term = gate_lasts id (h.off_value ∷ h.off_guard ∷ []) h.is_term;
    }

    pub terms_last : (ts : List Transfer) (terms : List NetId)
        → AllZip (IsTerm old.slices old.casts names words) ts terms
        → AllZip (IsTerm new.slices new.casts names words') ts terms
    terms_last ts terms h =
        zip_map (IsTerm old.slices old.casts names words) (IsTerm new.slices new.casts names words') term_lasts ts
        terms h

    pub guards_last : (ts : List Transfer) (guards : List NetId)
        → AllZip (λ (t : Transfer) g. IsGuard old.casts names t.guard g) ts guards
        → AllZip (λ (t : Transfer) g. IsGuard new.casts names t.guard g) ts guards
    guards_last ts guards h =
        zip_map (λ (t : Transfer) g. IsGuard old.casts names t.guard g)
        (λ (t : Transfer) g. IsGuard new.casts names t.guard g) (λ t g i. guard_lasts names t.guard g i) ts
        guards h

    pub driven_lasts : (r : Rtl) (c : ℕ) (id : NetId) → DrivenWord r old.slices old.casts names words c id
        → DrivenWord r new.slices new.casts names words' c id
    driven_lasts r c id h = record {
      terms = h.terms;
      off = h.off;
      are_terms = terms_last (transfers_to r c) h.terms h.are_terms;
      is_off = gate_lasts h.off h.terms h.is_off;
      is_word = gate_lasts id (h.off ∷ []) h.is_word;
    }

    pub stored_lasts : (r : Rtl) (c reset : ℕ) (id : NetId)
        → StoredWord r old.slices old.casts names words c reset id
        → StoredWord r new.slices new.casts names words' c reset id
    stored_lasts r c reset id h = record {
      master = h.master;
      negation = h.negation;
      slave = h.slave;
      source = h.source;
      terms = h.terms;
      guards = h.guards;
      hold = h.hold;
      off = h.off;
      clear = h.clear;
      is_master = grows.parts h.master.0 (parts.Latch phases.A (Some h.source)) h.is_master refl;
      is_negation = gate_lasts h.negation (h.master ∷ []) h.is_negation;
      is_slave = grows.parts h.slave.0 (parts.Latch phases.B (Some h.negation)) h.is_slave refl;
      is_word = gate_lasts id (h.slave ∷ []) h.is_word;
      are_terms = terms_last (transfers_to r c) h.terms h.are_terms;
      are_guards = guards_last (transfers_to r c) h.guards h.are_guards;
      is_hold = gate_lasts h.hold (h.slave ∷ h.guards) h.is_hold;
      is_off = gate_lasts h.off (h.terms ++ h.hold ∷ []) h.is_off;
      is_source = gate_lasts h.source (h.off ∷ h.clear.slice ∷ []) h.is_source;
      is_clear = (cast_lasts h.clear h.is_clear.0, h.is_clear.1);
    }

    pub placed_lasts : (op : Op) (args : List ℕ) (id : NetId)
        → Placed old.slices words op args id → Placed new.slices words' op args id
    placed_lasts op args id h = record {
      kind = h.kind;
      is_kind = h.is_kind;
      a = h.a;
      b = h.b;
      before = h.before;
      a_in = h.a_in;
      b_in = h.b_in;
      chains_in = h.chains_in;
      grown = extends_on table old.slices new.slices (longer h.grown) h.grown (grows_extends old new grows);
      is_result = h.is_result;
      is_a = keeps _ h.a h.is_a;
      is_b = keeps _ h.b h.is_b;
    }
      where
        table : SliceNet
        table = with_table (table_of h.kind) h.a h.b h.before

        longer : Extends table old.slices → length table.net ≤ length old.slices.net
        longer g = tables_extend h.kind h.a h.b h.before old.slices h.a_in g
