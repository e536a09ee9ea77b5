-- What transfers write to the words of a path that stands for them.
use Rattle.std.proofs.Common.{◌≡◌, ℕ, ◌<◌, suc, List, [], ◌∷◌, ◌++◌, None, Bool, true, false, cond, map, refl, sym, ◌∙◌}
use Rattle.std.proofs.Common.{ap, arith}
use Rattle.std.specs.Prelude.{Contains, ◌&&◌, ◌||◌, ◌==◌, not, if◌then◌else◌, slice_get, slice_index, unwrap_or}
use Rattle.std.specs.List.{AllZip, filter, list_all, list_any}
use Rattle.std.proofs.lemmas.Bool.{lt-ltb, eqb-true}
use Rattle.std.proofs.lemmas.Nat.Bits.{bit_at-zero}
use Rattle.mp_base.specs.declared.value.Trit.{Trit}
use Rattle.mp_base.specs.declared.value.Trit.TheVariants.{Zero, One, X}
use Rattle.mp_base.specs.Merge.{merged}
use Rattle.mp_base.proofs.Contents.{contains_from_filter}
use Rattle.nor_net.specs.declared.net.NetId.{NetId}
use Rattle.nor_net.specs.Elements.{Spot, Nor, Nets, spot}
use Rattle.nor_net.specs.Settled.{nor_value}
use Rattle.nor_net.specs.Machine.{Solves}
use Rattle.nor_net.specs.Laws.{bit}
use Rattle.nor_net.proofs.Values.{nor_bits}
use Rattle.rtl_form.specs.declared.rtl.Transfer.{Transfer}
use Rattle.rtl_form.specs.declared.rtl.Rtl.{Rtl}
use Rattle.rtl_form.specs.Environment.{driven_value}
use Rattle.rtl_form.specs.Values.{value_of}
use Rattle.rtl_form.specs.Written.{writes, written}
use Rattle.rtl_form.specs.Digits.{digit, writes_one}
use Rattle.rtl_form.proofs.Digits.{written_digits}
use Rattle.control_nor.specs.Lowering.{next_bit}
use Rattle.path_form.specs.declared.path.DataPath.{DataPath}
use Rattle.path_form.specs.Nets.{slice_part}
use Rattle.path_form.specs.Showing.{path_nets}
use Rattle.path_values.specs.Allocated.{IsGate, IsGuard, IsTerm, DrivenWord, StoredWord, IsAllocated, Known}
use Rattle.path_values.specs.Allocated.{transfers_to}
use Rattle.path_form.proofs.Joining.{casts_join}

abbrev off : Bool → Bool
off b = cond b false true

-- ---- bits in lists

all_append : (xs ys : List Bool) → list_all off (xs ++ ys) ≡ (list_all off xs && list_all off ys)
all_append [] ys = refl
all_append (x ∷ xs) ys = by_head (off x) (all_append xs ys)
  where
    by_head : (b : Bool) → list_all off (xs ++ ys) ≡ (list_all off xs && list_all off ys)
        → (b && list_all off (xs ++ ys)) ≡ ((b && list_all off xs) && list_all off ys)
    by_head true q = q
    by_head false q = refl

all_mapped : {A : Type 0} (f : A → Bool) (ts : List A) → list_all off (map f ts) ≡ not (list_any f ts)
all_mapped f [] = refl
all_mapped f (t ∷ ts) = by_head (f t) (all_mapped f ts)
  where
    by_head : (b : Bool) → list_all off (map f ts) ≡ not (list_any f ts)
        → (off b && list_all off (map f ts)) ≡ not (b || list_any f ts)
    by_head true q = refl
    by_head false q = q

any_filtered : {A : Type 0} (q f : A → Bool) (ts : List A) → list_any f (filter q ts) ≡ list_any (λ t. q t && f t) ts
any_filtered q f [] = refl
any_filtered q f (t ∷ ts) = by_head (q t) (any_filtered q f ts)
  where
    by_head : (b : Bool) → list_any f (filter q ts) ≡ list_any (λ t. q t && f t) ts
        → list_any f (cond b (t ∷ filter q ts) (filter q ts)) ≡ ((b && f t) || list_any (λ t. q t && f t) ts)
    by_head true e = ap (λ x. f t || x) e
    by_head false e = e

any_same : {A : Type 0} (f g : A → Bool) → ((t : A) → f t ≡ g t) → (ts : List A) → list_any f ts ≡ list_any g ts
any_same f g h [] = refl
any_same f g h (t ∷ ts) = ap (λ b. b || list_any f ts) (h t) ∙ ap (λ b. g t || b) (any_same f g h ts)

and_assoc : (a b c : Bool) → (a && (b && c)) ≡ ((a && b) && c)
and_assoc true b c = refl
and_assoc false b c = refl

module _ (r : Rtl) (p : DataPath) (a : IsAllocated r p) (v : Spot → Trit) (solves : Solves (path_nets p) v)
    (env : List ℕ) (k : ℕ) (l : k < p.width) where
  abbrev value : ℕ → ℕ
  value = value_of r env

  abbrev E : ℕ → Type 0
  E e = Known r p a v env e

  abbrev val : NetId → Trit
  val id = v (spot (suc k) id)

  abbrev on : Transfer → Bool
  on t = value t.guard == 1

  abbrev one : Transfer → Bool
  one t = on t && digit (value t.value) k

  mapped : (inputs : List NetId) → map v (map (spot (suc k)) inputs) ≡ map val inputs
  mapped [] = refl
  mapped (m ∷ ms) = ap (λ vs. val m ∷ vs) (mapped ms)

  gate : (id : NetId) (inputs : List NetId) → IsGate p.slices.net id inputs → val id ≡ nor_value (map val inputs)
  gate id inputs is =
      solves.2 (spot (suc k) id) (Nor (map (spot (suc k)) inputs))
      (ap (λ (f : Nets). f (spot (suc k) id)) solves.1 ∙ ap
      (λ b. cond b (slice_part p.width p.slices p.casts k id.0 (slice_get p.slices.net id.0)) None)
      (lt-ltb k p.width l)
      ∙ ap (slice_part p.width p.slices p.casts k id.0) is)
      ∙ ap nor_value (mapped inputs)

  -- a gate on bits
  pub gate_bits : (id : NetId) (inputs : List NetId) (bits : List Bool) → IsGate p.slices.net id inputs
      → map val inputs ≡ map bit bits → val id ≡ bit (list_all off bits)
  gate_bits id inputs bits is e = gate id inputs is ∙ ap nor_value e ∙ nor_bits (λ b. b) bits

  one_bit : (m : NetId) (b : Bool) → val m ≡ bit b → map val (m ∷ []) ≡ map bit (b ∷ [])
  one_bit m b e = ap (λ t. t ∷ []) e

  guard_value : (t : Transfer) (id : NetId) → IsGuard p.casts a.names t.guard id → E t.guard → val id ≡ bit (on t)
  guard_value t id g known = sym (ap val g.3) ∙ casts_join p v g.0 k solves g.1 l ∙ known.1 g.0.control g.2

  term_value : (t : Transfer) (id : NetId) → IsTerm p.slices p.casts a.names a.words t id → E t.guard → E t.value
      → val id ≡ bit (one t)
  term_value t id h guard has =
      let nv : val h.off_value ≡ bit (off (digit (value t.value) k) && true) = gate_bits h.off_value (h.value ∷ [])
      (digit (value t.value) k ∷ []) h.is_off_value (one_bit h.value (digit (value t.value) k)
      (has.0 h.value h.is_value k l)) in
      let ng : val h.off_guard ≡ bit (off (on t) && true) = gate_bits h.off_guard (h.guard ∷ [])
      (on t ∷ []) h.is_off_guard (one_bit h.guard (on t) (guard_value t h.guard h.is_guard guard)) in
      gate_bits id (h.off_value ∷ h.off_guard ∷ []) ((off (digit (value t.value) k) && true) ∷
      (off (on t) && true) ∷ []) h.is_term (λ i. nv i ∷ ng i ∷ [])
      ∙ ap bit (by_bits (digit (value t.value) k) (on t))
    where
      by_bits : (d g : Bool) → (off (off d && true) && (off (off g && true) && true)) ≡ (g && d)
      by_bits true true = refl
      by_bits true false = refl
      by_bits false true = refl
      by_bits false false = refl

  terms_value : (ts : List Transfer) (ids : List NetId) → AllZip (IsTerm p.slices p.casts a.names a.words) ts ids
      → ((t : Transfer) → Contains ts t → E t.guard × E t.value) → map val ids ≡ map bit (map one ts)
  terms_value [] [] z known = refl
  terms_value [] (id ∷ ids) z known = absurd z
  terms_value (t ∷ ts) [] z known = absurd z
  terms_value (t ∷ ts) (id ∷ ids) z known =
      let here = known t (0, omega arith, refl) in
      let e = term_value t id z.0 here.0 here.1 in
      let rest = terms_value ts ids z.1 (λ u c. known u (suc c.0, (let m = c.1 in omega (arith, m)), c.2)) in
      λ i. e i ∷ rest i

  guards_value : (ts : List Transfer) (ids : List NetId) → AllZip
      (λ (t : Transfer) g. IsGuard p.casts a.names t.guard g) ts ids
      → ((t : Transfer) → Contains ts t → E t.guard × E t.value) → map val ids ≡ map bit (map on ts)
  guards_value [] [] z known = refl
  guards_value [] (id ∷ ids) z known = absurd z
  guards_value (t ∷ ts) [] z known = absurd z
  guards_value (t ∷ ts) (id ∷ ids) z known =
      let e = guard_value t id z.0 (known t (0, omega arith, refl)).0 in
      let rest = guards_value ts ids z.1 (λ u c. known u (suc c.0, (let m = c.1 in omega (arith, m)), c.2)) in
      λ i. e i ∷ rest i

  module _ (c : ℕ) (fetched : (t : Transfer) → Contains r.transfers t → t.target ≡ c → E t.guard × E t.value) where
    abbrev to : List Transfer
    to = transfers_to r c

    known : (t : Transfer) → Contains to t → E t.guard × E t.value
    known t h = let f = contains_from_filter (λ (t : Transfer). t.target == c) r.transfers t h in
        fetched t f.0 (eqb-true t.target c f.1)

    ones : list_any one to ≡ list_any (writes_one value c k) r.transfers
    ones = any_filtered (λ (t : Transfer). t.target == c) one r.transfers
        ∙ any_same (λ t. (t.target == c) && one t) (writes_one value c k)
        (λ t. and_assoc (t.target == c) (on t) (digit (value t.value) k)) r.transfers

    actives : list_any on to ≡ list_any (writes value c) r.transfers
    actives = any_filtered (λ (t : Transfer). t.target == c) on r.transfers

    -- a driven word has what is written to it
    pub driven_word : (id : NetId) → DrivenWord r p.slices p.casts a.names a.words c id
        → slice_index env c ≡ driven_value r env c
        → val id ≡ bit (digit (slice_index env c) k)
    driven_word id h is =
        let t : val h.off ≡ bit (not (list_any one to)) = gate_bits h.off h.terms (map one to) h.is_off
        (terms_value to h.terms h.are_terms known) ∙ ap bit (all_mapped one to) in
        gate_bits id (h.off ∷ []) (not (list_any one to) ∷ []) h.is_word (one_bit h.off (not (list_any one to)) t)
        ∙ ap bit (twice (list_any one to) ∙ ones ∙ sym last ∙ ap (λ x. digit x k) (sym is))
      where
        twice : (b : Bool) → (off (not b) && true) ≡ b
        twice true = refl
        twice false = refl

        drop : (x y z : Bool) → z ≡ false → (x || (y && z)) ≡ x
        drop true y z e = refl
        drop false true z e = e
        drop false false z e = refl

        last : digit (driven_value r env c) k ≡ list_any (writes_one value c k) r.transfers
        last =
            written_digits value c 0 k r.transfers
            ∙ drop (list_any (writes_one value c k) r.transfers) (not (list_any (writes value c) r.transfers))
            (digit 0 k) (ap (λ n. n == 1) (bit_at-zero k))

    -- the source of a stored word has the next value
    pub stored_word : (reset : ℕ) (id : NetId) (h : StoredWord r p.slices p.casts a.names a.words c reset id)
        → val h.slave ≡ bit (off (digit (slice_index env c) k))
        → v (spot 0 h.clear.control) ≡ bit (slice_index env reset == 1)
        → val h.source ≡ bit (digit (next_bit r env reset c) k)
    stored_word reset id h held clear =
        let s = digit (slice_index env c) k in
        let cleared : val h.clear.slice ≡ bit (slice_index env reset == 1) = casts_join p v h.clear k solves
        h.is_clear.0 l ∙ clear in
        let hold : val h.hold ≡ bit (off (off (digit (slice_index env c) k)) && not (list_any on to)) =
        gate_bits h.hold (h.slave ∷ h.guards) (off (digit (slice_index env c) k) ∷ map on to) h.is_hold
        (let g = guards_value to h.guards h.are_guards known in λ i. held i ∷ g i)
        ∙ ap (λ b. bit (off (off (digit (slice_index env c) k)) && b)) (all_mapped on to) in
        let nn : val h.off ≡ bit (not (list_any one to) &&
        (off (off (off (digit (slice_index env c) k)) && not (list_any on to)) && true)) =
        gate_bits h.off (h.terms ++ h.hold ∷ []) (map one to
        ++ (off (off (digit (slice_index env c) k)) && not (list_any on to)) ∷ []) h.is_off
        (appended h.terms h.hold (map one to) (off (off (digit (slice_index env c) k)) && not (list_any on to))
        (terms_value to h.terms h.are_terms known) hold)
        ∙ ap bit (all_append (map one to) ((off (off (digit (slice_index env c) k)) && not (list_any on to)) ∷ [])
        ∙ ap (λ b. b && (off (off (off (digit (slice_index env c) k)) && not (list_any on to)) && true))
        (all_mapped one to)) in
        gate_bits h.source (h.off ∷ h.clear.slice ∷ []) ((not (list_any one to)
        && (off (off (off (digit (slice_index env c) k)) && not (list_any on to)) && true)) ∷
        (slice_index env reset == 1) ∷ []) h.is_source
        (λ i. nn i ∷ cleared i ∷ [])
        ∙ ap bit (by_reset (slice_index env reset == 1))
      where
        appended : (ids : List NetId) (m : NetId) (bits : List Bool) (b : Bool) → map val ids ≡ map bit bits
            → val m ≡ bit b → map val (ids ++ m ∷ []) ≡ map bit (bits ++ b ∷ [])
        appended ids m bits b e f =
            mapped_append ids m ∙ ap (λ xs. xs ++ val m ∷ []) e ∙ ap (λ t. map bit bits ++ t ∷ []) f
            ∙ sym (bits_append bits b)
          where
            mapped_append : (ids : List NetId) (m : NetId) → map val (ids ++ m ∷ []) ≡ map val ids ++ val m ∷ []
            mapped_append [] m = refl
            mapped_append (x ∷ xs) m = ap (λ ys. val x ∷ ys) (mapped_append xs m)

            bits_append : (bits : List Bool) (b : Bool) → map bit (bits ++ b ∷ []) ≡ map bit bits ++ bit b ∷ []
            bits_append [] b = refl
            bits_append (x ∷ xs) b = ap (λ ys. bit x ∷ ys) (bits_append xs b)

        none : digit 0 k ≡ false
        none = ap (λ n. n == 1) (bit_at-zero k)

        by_bits : (x y s : Bool) → (off (not x && (off (off (off s) && not y) && true)) && (off false && true))
            ≡ (x || (not y && s))
        by_bits true true true = refl
        by_bits true true false = refl
        by_bits true false true = refl
        by_bits true false false = refl
        by_bits false true true = refl
        by_bits false true false = refl
        by_bits false false true = refl
        by_bits false false false = refl

        by_off : (b : Bool) → (b && (off true && true)) ≡ false
        by_off true = refl
        by_off false = refl

        by_reset : (z : Bool) → (off (not (list_any one to)
            && (off (off (off (digit (slice_index env c) k)) && not (list_any on to)) && true)) && (off z && true))
            ≡ digit (if z then 0 else unwrap_or (merged (written value c r.transfers)) (slice_index env c)) k
        by_reset true = by_off (off (not (list_any one to)
            && (off (off (off (digit (slice_index env c) k)) && not (list_any on to)) && true))) ∙ sym none
        by_reset false =
            by_bits (list_any one to) (list_any on to) (digit (slice_index env c) k)
            ∙ ap (λ b. b || (not (list_any on to) && digit (slice_index env c) k)) ones
            ∙ ap (λ b. list_any (writes_one value c k) r.transfers || (not b && digit (slice_index env c) k)) actives
            ∙ sym (written_digits value c (slice_index env c) k r.transfers)

  -- with reset at 1 the source is 0, whatever else is X
  pub cleared_word : (c reset : ℕ) (id : NetId) (h : StoredWord r p.slices p.casts a.names a.words c reset id)
      → v (spot 0 h.clear.control) ≡ One → val h.source ≡ Zero
  cleared_word c reset id h high =
      let one : val h.clear.slice ≡ One = casts_join p v h.clear k solves h.is_clear.0 l ∙ high in
      gate h.source (h.off ∷ h.clear.slice ∷ []) h.is_source ∙ nor_last (val h.off) (val h.clear.slice) one
    where
      nor_last : (t u : Trit) → u ≡ One → nor_value (t ∷ u ∷ []) ≡ Zero
      nor_last t u e = ap (λ u. nor_value (t ∷ u ∷ [])) e ∙ by_first t
        where
          by_first : (t : Trit) → nor_value (t ∷ One ∷ []) ≡ Zero
          by_first Zero = refl
          by_first One = refl
          by_first X = refl
