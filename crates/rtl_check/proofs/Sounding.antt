-- All conditions of soundness, from those that are tested.
use Rattle.std.proofs.Common.{◌≡◌, ◌∙◌, ◌⊎◌, inl, inr, ℕ, ◌<◌, List, sym, subst, arith, length, take}
use Rattle.std.proofs.Common.{Option, Some, None}
use Rattle.std.specs.Prelude.{Contains, IfSome, slice_index}
use Rattle.std.proofs.lemmas.List.{get_or-take, get_or_default, length-take}
use Rattle.mp_base.specs.declared.pad.Pad.{Pad}
use Rattle.rtl_form.specs.declared.rtl.Rtl.{Rtl}
use Rattle.rtl_form.specs.declared.rtl.Transfer.{Transfer}
use Rattle.mp_base.specs.Entries.{IsAt}
use Rattle.mp_base.proofs.Entries.{all_at, all_from, contains_from_get, get_from_contains}
use Rattle.rtl_form.specs.Sound.{IsOrder, IsReset, IsSound, Reads, ReadsCell}
use Rattle.rtl_check.specs.Parts.{HasContents, HasPorts, IsFitting, IsResetCell}
use Rattle.rtl_check.specs.Reading.{HasOrder, IsDriven, ReadsBefore}

-- ---- each element

member_of : {X : Type 0} (P : X → Type 0) (xs : List X) → ((k : ℕ) (x : X) → IsAt xs k x → P x) → (x : X)
    → Contains xs x → P x
member_of P xs each x has = let at = get_from_contains xs x has in each at.0 x at.1

-- ---- the order

module _ (r : Rtl) where
  order_of : HasOrder r → IsOrder r
  order_of o = record {
    driven = λ k lt. let d = (o.lists).driven k 0 lt in (d.cell, d.at, d.driven);
    once = ((o.lists).once).once;
    all = λ c x at driven. let p = ((o.lists).all).all c x at driven in (p.place, p.inside, p.there);
    after = λ k c lt reads. stands_before k c lt reads;
  }
    where
      before_at : (k c : ℕ) → Contains (take k r.order) c → k < length r.order
          → (j : ℕ) × (j < k) × (slice_index r.order j ≡ c)
      before_at k c (j, lt, is) in' =
          let long = length-take k r.order in
          let under : j < k = omega (arith, lt, long) in
          let inside_order : j < length r.order = omega (arith, under, in') in
          (j, under, get_or_default r.order j 0 c inside_order ∙ sym (get_or-take k r.order j c under) ∙ is)

      stands_before : (k c : ℕ) → k < length r.order → Reads r (slice_index r.order k) c
          → (j : ℕ) × (j < k) × (slice_index r.order j ≡ c)
      stands_before k c lt (t, y, has, target, at, driven, some) =
          let both = (member_of (ReadsBefore r) r.transfers (o.before).each t has).before k lt (sym target) in
          let is : IsDriven r.cells c = record { cell = y; at = at; driven = driven } in
          before_at k c (elim some [
            | inl guard ↦ (both.guard).only c is guard
            | inr value ↦ (both.value).only c is value
          ]) lt

  order_parts : IsOrder r → HasOrder r
  order_parts o = record {
    lists = record {
      driven = λ k d lt.
          let (x, at, driven) = o.driven k lt in
          let P : ℕ → Type 0 = IsDriven r.cells in
          subst P (get_or_default r.order k 0 d lt) (record { cell = x; at = at; driven = driven });
      once = record { once = o.once };
      all = record {
        all = λ c x at driven.
            let (k, lt, is) = o.all c x at driven in record { place = k; inside = lt; there = is };
      };
    };
    before = record {
      each = λ n t there. record {
        before = λ k lt target. record {
          guard = record {
            only = λ c is reads. known k c lt (o.after k c lt (read_by n t there k c target is (inl reads)));
          };
          value = record {
            only = λ c is reads. known k c lt (o.after k c lt (read_by n t there k c target is (inr reads)));
          };
        };
      };
    };
  }
    where
      read_by : (n : ℕ) (t : Transfer) → IsAt r.transfers n t → (k c : ℕ) → slice_index r.order k ≡ t.target
          → IsDriven r.cells c → ReadsCell r.exprs c t.guard ⊎ ReadsCell r.exprs c t.value
          → Reads r (slice_index r.order k) c
      read_by n t there k c target is some =
          (t, is.cell, contains_from_get r.transfers n t there, sym target, is.at, is.driven, some)

      known : (k c : ℕ) → k < length r.order → (j : ℕ) × (j < k) × (slice_index r.order j ≡ c)
          → Contains (take k r.order) c
      known k c lt (j, under, is) =
          let long = length-take k r.order in
          let inside_order : j < length r.order = omega (arith, under, lt) in (
            j,
            omega (arith, under, lt, long),
            get_or-take k r.order j c under ∙ get_or_default r.order j c 0 inside_order ∙ is,
          )

  -- ---- `reset`

  reset_of : (c : ℕ) → IsResetCell r c → IsReset r c
  reset_of c is =
      let k = is.kind in (is.cell, k.number, k.pad, is.at, k.input, k.at, (k.reset).0, (k.reset).1)

  reset_parts : (c : ℕ) → IsReset r c → IsResetCell r c
  reset_parts c (x, k, pad, at, input, there, signal, named) = record {
    cell = x;
    at = at;
    kind = record { number = k; pad = pad; input = input; at = there; reset = (signal, named) };
  }

  if_some : {X : Type 0} (P Q : X → Type 0) (o : Option X) → ((x : X) → P x → Q x) → IfSome o P → IfSome o Q
  if_some P Q (Some x) to is = to x is
  if_some P Q None to is = is

  -- ---- all

  pub sound_of : HasPorts r → HasContents r → IsSound r
  sound_of ports parts =
      let pads = ports.pads in
      let W : Pad → Type 0 = λ pad. (pad.width ≡ r.width) ⊎ (pad.width ≡ 0) in record {
        width = (ports.some, ports.narrow);
        inputs = λ k pad at. all_at W (r.pads).inputs k pad (pads.widths).inputs at;
        outputs = λ k pad at. all_at W (r.pads).outputs k pad (pads.widths).outputs at;
        input_cells = λ k lt. (((pads.of_pads).inputs).each k lt).only;
        output_cells = λ k lt. (((pads.of_pads).outputs).each k lt).only;
        cells = (pads.fits).each;
        exprs = parts.exprs;
        transfers = λ t has. (member_of (IsFitting r) r.transfers (parts.transfers).each t has).fits;
        order = order_of parts.order;
        reset = if_some (IsResetCell r) (IsReset r) r.reset reset_of (ports.reset).reset;
        resets = (ports.reset).resets;
      }

  pub ports_of : IsSound r → HasPorts r
  ports_of sound = let W : Pad → Type 0 = λ pad. (pad.width ≡ r.width) ⊎ (pad.width ≡ 0) in record {
    some = sound.width.0;
    narrow = sound.width.1;
    pads = record {
      widths = record {
        inputs = all_from W (r.pads).inputs sound.inputs;
        outputs = all_from W (r.pads).outputs sound.outputs;
      };
      of_pads = record {
        inputs = record { each = λ k lt. record { only = sound.input_cells k lt } };
        outputs = record { each = λ k lt. record { only = sound.output_cells k lt } };
      };
      fits = record { each = sound.cells };
    };
    reset = record {
      reset = if_some (IsReset r) (IsResetCell r) r.reset reset_parts sound.reset;
      resets = sound.resets;
    };
  }

  pub contents_of : IsSound r → HasContents r
  contents_of sound = record {
    exprs = sound.exprs;
    transfers = record {
      each = λ k t at. record { fits = sound.transfers t (contains_from_get r.transfers k t at) };
    };
    order = order_parts sound.order;
  }
