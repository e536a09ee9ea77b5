-- Where stored bits and words, and the latches of inputs, stand: found from their nets.
use Rattle.std.proofs.Common.{◌≡◌, ℕ, suc, ◌<◌, ◌≤◌, ◌⊎◌, inl, inr, List, ◌∷◌, Option, Some, None, Bool, true, false}
use Rattle.std.proofs.Common.{length, refl, sym, ◌∙◌, ap, subst, arith}
use Rattle.std.specs.Prelude.{if◌then◌else◌, ◌&&◌, nat_lt, option_and_then, slice_get}
use Rattle.std.proofs.lemmas.Bool.{and_parts, cases_lt, false≢true, lt-ltb, ltb-true}
use Rattle.std.proofs.lemmas.Option.{none-some}
use Rattle.nor_net.specs.declared.net.NetId.{NetId}
use Rattle.nor_net.specs.declared.net.Part.{Part}
use Rattle.nor_net.specs.declared.net.Part.TheVariants.{Gate, Latch}
use Rattle.nor_net.specs.Elements.{spot}
use Rattle.nor_net.specs.Machine.{Port, Ports, Store, Stores}
use Rattle.organelles.specs.Tables.{net_at}
use Rattle.organelles.specs.declared.slices.SliceNet.{SliceNet}
use Rattle.rtl_form.specs.declared.rtl.Cell as cells
use Rattle.rtl_form.specs.declared.rtl.CellKind.{CellKind}
use Rattle.rtl_form.specs.declared.rtl.CellKind.TheVariants as kinds
use Rattle.rtl_form.specs.declared.rtl.Rtl.{Rtl}
use Rattle.mp_base.specs.Entries.{IsAt}
use Rattle.mp_base.proofs.Entries.{one_entry, within}
use Rattle.rtl_form.specs.Environment.{is_stored}
use Rattle.rtl_form.specs.Sound.{CellFits, IsSound}
use Rattle.control_nor.specs.declared.names.Names.{Names}
use Rattle.control_nor.specs.Lowering.{Stands, StoredBit}
use Rattle.path_form.specs.declared.path.Cast.{Cast}
use Rattle.path_values.specs.Allocated.{StoredWord, bit_store, cell_bits, port_at, word_store}

-- the only input of a gate, and the data of a latch
abbrev input_of : Option Part → NetId
input_of (Some (Gate (id ∷ ids))) = id
input_of _ = net_at 0

abbrev data_of : Option Part → NetId
data_of (Some (Latch phase (Some id))) = id
data_of _ = net_at 0

-- the latches of a stored bit, from the net that has it
abbrev store_at : ℕ → List Part → NetId → Store
store_at band net id =
    let slave = input_of (slice_get net id.0) in
    let negation = data_of (slice_get net slave.0) in
    let master = input_of (slice_get net negation.0) in
    record {
      master = spot band master;
      negation = spot band negation;
      slave = spot band slave;
      source = spot band (data_of (slice_get net master.0));
    }

module _ (band : ℕ) (net : List Part) (id : NetId) (master negation slave source : NetId)
    (is_master : data_of (slice_get net master.0) ≡ source) (is_negation : input_of (slice_get net negation.0) ≡ master)
    (is_slave : data_of (slice_get net slave.0) ≡ negation) (is_bit : input_of (slice_get net id.0) ≡ slave) where
  abbrev given_store : NetId → NetId → NetId → NetId → Store
  given_store m n s d =
      record { master = spot band m; negation = spot band n; slave = spot band s; source = spot band d }

  found : store_at band net id ≡ given_store master negation slave source
  found =
      ap (λ s. given_store (input_of (slice_get net (data_of (slice_get net s.0)).0)) (data_of (slice_get net s.0)) s
      (data_of (slice_get net (input_of (slice_get net (data_of (slice_get net s.0)).0)).0))) is_bit
      ∙ (ap (λ n. given_store (input_of (slice_get net n.0)) n slave
      (data_of (slice_get net (input_of (slice_get net n.0)).0))) is_slave
      ∙ (ap (λ m. given_store m negation slave (data_of (slice_get net m.0))) is_negation
      ∙ ap (given_store master negation slave) is_master))

pub bit_found : (net : List Part) (id : NetId) (h : StoredBit net id) → store_at 0 net id ≡ bit_store net id h
bit_found net id h =
    found 0 net id h.master h.negation h.slave h.source (ap data_of h.is_master) (ap input_of h.is_negation)
    (ap data_of h.is_slave) (ap input_of h.is_bit)

pub word_found : (r : Rtl) (s : SliceNet) (casts : List Cast) (names : Names) (words : List (Option NetId))
    (c reset : ℕ) (id : NetId) (k : ℕ) (h : StoredWord r s casts names words c reset id)
    → store_at (suc k) s.net id ≡ word_store r s casts names words c reset id k h
word_found r s casts names words c reset id k h =
    found (suc k) s.net id h.master h.negation h.slave h.source (ap data_of h.is_master) (ap input_of h.is_negation)
    (ap data_of h.is_slave) (ap input_of h.is_word)

-- ---- nets by names

abbrev of_entry : Option (Option NetId) → NetId
of_entry (Some (Some id)) = id
of_entry _ = net_at 0

abbrev of_net : Option NetId → NetId
of_net (Some id) = id
of_net None = net_at 0

-- what a test admits
admitted : {A : Type 0} (b : Bool) (x y : A) → (if b then Some x else None) ≡ Some y → b ≡ true
admitted true x y e = refl
admitted false x y e = absurd (none-some y e)

module _ (r : Rtl) (control : List Part) (s : SliceNet) (bits words : List (Option NetId)) where
  -- ---- stores

  -- the store of bit k of a cell
  abbrev cell_store : ℕ → ℕ → cells.Cell → Option Store
  cell_store c k x =
      if is_stored x.kind && nat_lt k (cell_bits r x) then
      Some (if x.word then store_at (suc k) s.net (of_entry (slice_get words c))
      else store_at 0 control (of_entry (slice_get bits c)))
      else None

  abbrev pub stores_of : Stores
  stores_of c k = option_and_then (cell_store c k) (slice_get r.cells c)

  module _ (c : ℕ) (x : cells.Cell) (at : IsAt r.cells c x) (is : x.kind ≡ kinds.Stored) where
    found_cell : (k : ℕ) → k < cell_bits r x
        → stores_of c k ≡ Some (if x.word then store_at (suc k) s.net (of_entry (slice_get words c))
        else store_at 0 control (of_entry (slice_get bits c)))
    found_cell k l =
        ap (option_and_then (cell_store c k)) at
        ∙ ap (λ b. if b then Some (if x.word then store_at (suc k) s.net (of_entry (slice_get words c))
        else store_at 0 control (of_entry (slice_get bits c))) else None)
        (ap (λ b. b && nat_lt k (cell_bits r x)) (ap is_stored is) ∙ lt-ltb k (cell_bits r x) l)

    pub word_store_at : (k : ℕ) (id : NetId) → x.word ≡ true → Stands words c id → k < r.width
        → stores_of c k ≡ Some (store_at (suc k) s.net id)
    word_store_at k id word on l =
        found_cell k (subst (λ b. k < (if b then r.width else 1)) (sym word) l)
        ∙ (ap (λ b. Some (if b then store_at (suc k) s.net (of_entry (slice_get words c))
        else store_at 0 control (of_entry (slice_get bits c)))) word
        ∙ ap (λ o. Some (store_at (suc k) s.net (of_entry o))) on)

    pub bit_store_at : (id : NetId) → x.word ≡ false → Stands bits c id
        → stores_of c 0 ≡ Some (store_at 0 control id)
    bit_store_at id bit on =
        found_cell 0 (subst (λ b. 0 < (if b then r.width else 1)) (sym bit) (let q : 0 < 1 = omega arith in q))
        ∙ (ap (λ b. Some (if b then store_at 1 s.net (of_entry (slice_get words c))
        else store_at 0 control (of_entry (slice_get bits c)))) bit
        ∙ ap (λ o. Some (store_at 0 control (of_entry o))) on)

  pub stores_only : (c k : ℕ) (b : Store) → stores_of c k ≡ Some b
      → (x : cells.Cell) × IsAt r.cells c x × (x.kind ≡ kinds.Stored) × (k < cell_bits r x)
  stores_only c k b e = by_entry (slice_get r.cells c) refl e
    where
      stored : (kind : CellKind) → is_stored kind ≡ true → kind ≡ kinds.Stored
      stored (kinds.Input i) h = absurd (false≢true h)
      stored (kinds.Output i) h = absurd (false≢true h)
      stored kinds.Inner h = absurd (false≢true h)
      stored kinds.Stored h = refl

      by_entry : (o : Option cells.Cell) → slice_get r.cells c ≡ o → option_and_then (cell_store c k) o ≡ Some b
          → (x : cells.Cell) × IsAt r.cells c x × (x.kind ≡ kinds.Stored) × (k < cell_bits r x)
      by_entry None q h = absurd (none-some b h)
      by_entry (Some x) q h =
          let both = and_parts (is_stored x.kind) (nat_lt k (cell_bits r x)) (admitted _ _ b h) in (
            x,
            q,
            stored x.kind both.0,
            ltb-true k (cell_bits r x) both.1,
          )

  -- ---- ports

  module _ (sound : IsSound r) (inputs : List NetId) where
    -- the port of bit k of a cell
    abbrev cell_port : ℕ → ℕ → ℕ → cells.Cell → Option Port
    cell_port i k c x =
        if nat_lt k (cell_bits r x) then
        Some (if x.word then port_at (suc k) (of_entry (slice_get words c)) (of_net (slice_get inputs i))
        else port_at 0 (of_entry (slice_get bits c)) (of_net (slice_get inputs i)))
        else None

    abbrev port_of : (i k : ℕ) → (i < length (r.pads).inputs) ⊎ (length (r.pads).inputs ≤ i) → Option Port
    port_of i k (inl l) = let (c, (x, _, _), _) = sound.input_cells i l in cell_port i k c x
    port_of i k (inr l) = None

    abbrev pub ports_of : Ports
    ports_of i k = port_of i k (cases_lt i (length (r.pads).inputs))

    module _ (c i : ℕ) (x : cells.Cell) (at : IsAt r.cells c x) (is : x.kind ≡ kinds.Input i) where
      inside : i < length (r.pads).inputs
      inside = let f : CellFits r x (kinds.Input i) = subst (CellFits r x) is (sound.cells c x at) in
          within (r.pads).inputs i f.1

      found_port : (k : ℕ) → ports_of i k ≡ cell_port i k c x
      found_port k = by_side (cases_lt i (length (r.pads).inputs))
        where
          by_side : (o : (i < length (r.pads).inputs) ⊎ (length (r.pads).inputs ≤ i))
              → port_of i k o ≡ cell_port i k c x
          by_side (inl l) =
              let (d, (y, at_cell, kind), only) = sound.input_cells i l in
              let same : c ≡ d = only c x at is in
              let there = subst (λ n. IsAt r.cells n y) (sym same) at_cell in
              ap (λ n. cell_port i k n y) (sym same) ∙ ap (cell_port i k c) (one_entry r.cells c y x there at)
          by_side (inr l) = absurd (let h = inside in omega (arith, l, h))

      pub word_port_at : (k : ℕ) (id pad : NetId) → x.word ≡ true → Stands words c id → slice_get inputs i ≡ Some pad
          → k < r.width → ports_of i k ≡ Some (port_at (suc k) id pad)
      word_port_at k id pad word on to l =
          found_port k
          ∙ (ap (λ b. if b then Some (if x.word then port_at (suc k) (of_entry (slice_get words c))
          (of_net (slice_get inputs i)) else port_at 0 (of_entry (slice_get bits c)) (of_net (slice_get inputs i)))
          else None) (lt-ltb k (cell_bits r x) (subst (λ b. k < (if b then r.width else 1)) (sym word) l))
          ∙ (ap (λ b. Some (if b then port_at (suc k) (of_entry (slice_get words c)) (of_net (slice_get inputs i))
          else port_at 0 (of_entry (slice_get bits c)) (of_net (slice_get inputs i)))) word
          ∙ (ap (λ o. Some (port_at (suc k) (of_entry o) (of_net (slice_get inputs i)))) on
          ∙ ap (λ o. Some (port_at (suc k) id (of_net o))) to)))

      pub bit_port_at : (id pad : NetId) → x.word ≡ false → Stands bits c id → slice_get inputs i ≡ Some pad
          → ports_of i 0 ≡ Some (port_at 0 id pad)
      bit_port_at id pad bit on to =
          found_port 0
          ∙ (ap (λ b. if b then Some (if x.word then port_at 1 (of_entry (slice_get words c))
          (of_net (slice_get inputs i)) else port_at 0 (of_entry (slice_get bits c)) (of_net (slice_get inputs i)))
          else None) (lt-ltb 0 (cell_bits r x)
          (subst (λ b. 0 < (if b then r.width else 1)) (sym bit) (let q : 0 < 1 = omega arith in q)))
          ∙ (ap (λ b. Some (if b then port_at 1 (of_entry (slice_get words c)) (of_net (slice_get inputs i))
          else port_at 0 (of_entry (slice_get bits c)) (of_net (slice_get inputs i)))) bit
          ∙ (ap (λ o. Some (port_at 0 (of_entry o) (of_net (slice_get inputs i)))) on
          ∙ ap (λ o. Some (port_at 0 id (of_net o))) to)))

    pub ports_only : (i k : ℕ) (q : Port) → ports_of i k ≡ Some q
        → (c : ℕ) × (x : cells.Cell) × IsAt r.cells c x × (x.kind ≡ kinds.Input i) × (k < cell_bits r x)
    ports_only i k q e = by_side (cases_lt i (length (r.pads).inputs)) e
      where
        by_side : (o : (i < length (r.pads).inputs) ⊎ (length (r.pads).inputs ≤ i)) → port_of i k o ≡ Some q
            → (c : ℕ) × (x : cells.Cell) × IsAt r.cells c x × (x.kind ≡ kinds.Input i) × (k < cell_bits r x)
        by_side (inl l) h =
            let (c, (x, at, kind), only) = sound.input_cells i l in
            (c, x, at, kind, ltb-true k (cell_bits r x) (admitted _ _ q h))
        by_side (inr l) h = absurd (none-some q h)
