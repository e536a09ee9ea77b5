use Rattle.std.proofs.Common.{◌≡◌, ◌∙◌, ◌++◌, ℕ, List, Option, Bool, length, take, drop, ap, subst, sym, arith}
use Rattle.std.proofs.lemmas.List.{take_at}
use Rattle.mp_base.specs.declared.value.Trit.{Trit}
use Rattle.switch_net.specs.Settled.{IsSettled}
use Rattle.switch_net.specs.Values.{value_at, driver_at}
use Rattle.node_clusters.specs.Links.{AreLinked, AreGated}
use Rattle.settle.specs.Settler.{Settling}
use Rattle.settle.proofs.settler.Settler.settle.Goals as goal

pub settle_values-requires-clause-moment : goal.settle_values-requires-clause-moment
settle_values-requires-clause-moment c =
    let i = c.self.invariant.0 in
    let net = c.self.inside.network in
    let had : c.as_slice-3.result.now ≡ c.self.inside.values.items =
    c.as_slice-3.ensures.value ∙ c.copy_from_slice.ensures.items ∙ c.deref.ensures.value in
    record {
      linked =
          subst (λ (xs : List (List ℕ)). AreLinked net.channels (length net.channels) xs)
          (sym c.as_slice.ensures.value) i.linked;
      at_sized = ap (λ (xs : List (List ℕ)). length xs) c.as_slice.ensures.value ∙ i.at_sized;
      gated = subst (λ (xs : List (List ℕ)). AreGated net.channels xs) (sym c.as_slice-2.ensures.value) i.gated;
      gated_sized = ap (λ (xs : List (List ℕ)). length xs) c.as_slice-2.ensures.value ∙ i.gated_sized;
      drive_sized = c.requires ∙ sym (ap (λ (x : Settling). x.network.nodes) c.self.view_is);
      before_sized = ap (λ (xs : List Trit). length xs) had ∙ i.values_sized;
      values_sized = ap (λ (xs : List Trit). length xs) c.deref_mut.ensures.value ∙ i.values_sized;
    }

pub invariant_of-self : goal.invariant_of-self
invariant_of-self c =
    let i = c.self.invariant.0 in
    let net = c.self.inside.network in
    let new = c.settle_values.new.values in
    let marks = c.settle_values.new.marks in
    let drive = c.args.drive.now in
    let values_kept = c.settle_values.auto.values in
    let marks_kept = c.settle_values.auto.marks in
    let whole : take c.self.inside.values.len (new ++ drop (length new) c.self.inside.values.items) ≡ new =
    take_at new (drop (length new) c.self.inside.values.items) c.self.inside.values.len
    (let l = c.deref_mut.ensures.len in omega arith) in
    let whole_marks : take c.self.inside.marks.len (marks ++ drop (length marks) c.self.inside.marks.items) ≡ marks =
    take_at marks (drop (length marks) c.self.inside.marks.items) c.self.inside.marks.len
    (let l = c.deref_mut-2.ensures.len in omega arith) in
    let last : c.copy_from_slice-2.new.self.items ≡ drive = c.copy_from_slice-2.ensures.items in
    let rests : IsSettled (record { channels = net.channels; driver = driver_at drive; before = value_at new })
    (value_at new) =
    c.networks_settle.ensures.again
    (record { channels = net.channels; driver = driver_at drive; before = value_at c.as_slice-3.result.now })
    (value_at new) c.settle_values.ensures.settled in (
      record {
        linked = i.linked;
        at_sized = i.at_sized;
        gated = i.gated;
        gated_sized = i.gated_sized;
        values_sized = ap (λ (xs : List Trit). length xs) whole ∙ values_kept
            ∙ ap (λ (xs : List Trit). length xs) c.deref_mut.ensures.value ∙ i.values_sized;
        before_sized = ap (λ (xs : List Trit). length xs) (c.copy_from_slice.ensures.items ∙ c.deref.ensures.value)
            ∙ i.values_sized;
        last_sized = ap (λ (xs : List (Option Trit)). length xs) last ∙ c.requires
            ∙ sym (ap (λ (x : Settling). x.network.nodes) c.self.view_is);
        rooms = c.settle_values.ensures.sets;
        marks_sized = ap (λ (xs : List Bool). length xs) whole_marks ∙ marks_kept
            ∙ ap (λ (xs : List Bool). length xs) c.deref_mut-2.ensures.value ∙ i.marks_sized;
      },
      record { room = c.find-has_order.ensures.room ∙ c.self.invariant.1.room; sound = c.find-has_order.ensures.sound },
      λ _. subst
          (λ (ds : List (Option Trit)). IsSettled
          (record {
            channels = net.channels;
            driver = driver_at ds;
            before = value_at (take c.self.inside.values.len (new ++ drop (length new) c.self.inside.values.items));
          }) (value_at (take c.self.inside.values.len (new ++ drop (length new) c.self.inside.values.items))))
          (sym last)
          (subst (λ (vs : List Trit). IsSettled
          (record { channels = net.channels; driver = driver_at drive; before = value_at vs }) (value_at vs))
          (sym whole) rests),
    )

pub returns-clause-settled : goal.returns-clause-settled
returns-clause-settled c =
    let net = c.self.inside.network in
    let new = c.settle_values.new.values in
    let drive = c.args.drive.now in
    let values_kept = c.settle_values.auto.values in
    let whole : take c.self.inside.values.len (new ++ drop (length new) c.self.inside.values.items) ≡ new =
    take_at new (drop (length new) c.self.inside.values.items) c.self.inside.values.len
    (let l = c.deref_mut.ensures.len in omega arith) in
    let had : c.as_slice-3.result.now ≡ c.self.inside.values.items =
    c.as_slice-3.ensures.value ∙ c.copy_from_slice.ensures.items ∙ c.deref.ensures.value in
    let base : IsSettled
    (record { channels = net.channels; driver = driver_at drive; before = value_at c.self.inside.values.items })
    (value_at new) =
    subst (λ (vs : List Trit). IsSettled
    (record { channels = net.channels; driver = driver_at drive; before = value_at vs }) (value_at new)) had
    c.settle_values.ensures.settled in
    let seen : IsSettled
    (record {
      channels = c.args.self.now.network.channels;
      driver = driver_at drive;
      before = value_at c.args.self.now.values;
    }) (value_at new) =
    subst (λ (x : Settling). IsSettled
    (record { channels = x.network.channels; driver = driver_at drive; before = value_at x.values }) (value_at new))
    c.self.view_is base in
    subst
    (λ (vs : List Trit). IsSettled
    (record {
      channels = c.args.self.now.network.channels;
      driver = driver_at drive;
      before = value_at c.args.self.now.values;
    }) (value_at vs))
    (sym whole) seen
