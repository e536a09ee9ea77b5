-- What forms spell is nested no deeper than their nodes.
use Rattle.std.proofs.Common.{◌≡◌, inl, inr, ℕ, zero, suc, ◌+◌, ◌<◌, ◌≤◌, Bool, true, false, List, [], ◌∷◌, ◌++◌}
use Rattle.std.proofs.Common.{refl, sym, ◌∙◌, ap, subst, length, map, arith, get_or}
use Rattle.std.specs.Prelude.{max, nat_le}
use Rattle.std.proofs.Math.ListN.{get_or-append}
use Rattle.std.proofs.Math.Nat.{max-le}
use Rattle.std.proofs.Math.Seq.{get_or-append_seam}
use Rattle.std.proofs.lemmas.Bool.{and_from, cases_lt, le-leb}
use Rattle.std.proofs.lemmas.List.{length-map, length_push, map-append}
use Rattle.mp_base.specs.Table.{table}
use Rattle.mp_base.proofs.Lists.{length-table}
use Rattle.form_reader.specs.declared.forms.Forms.{Forms}
use Rattle.form_reader.specs.Sound.{IsItem, IsSound, NestsIn, nests}
use Rattle.form_reader.proofs.Nested.{deeper}
use Rattle.mp_program.specs.Tree.{are_low, tallest}
use Rattle.mp_program.proofs.Tables.{table_at}
use Rattle.mp_entries.specs.Entries.{nodes_below}
use Rattle.mp_syntax.proofs.Distinct.{Among}
use Rattle.mp_syntax.proofs.Holding.{index_of}
use Rattle.mp_entries.proofs.Numbering.{nodes_below_with, nodes_below_without}
use Rattle.mp_syntax.proofs.Standing.{index_is, less}

tallest_within : (h : ℕ → ℕ) (d : ℕ) (ks : List ℕ) → ((z : ℕ) → Among z ks → h z ≤ d) → tallest h ks ≤ d
tallest_within h d [] each = omega arith
tallest_within h d (k ∷ ks) each = max-le (each k (inl refl)) (tallest_within h d ks (λ z a. each z (inr a)))

tallest_same : (g h : ℕ → ℕ) (ks : List ℕ) → ((z : ℕ) → Among z ks → g z ≡ h z) → tallest g ks ≡ tallest h ks
tallest_same g h [] each = refl
tallest_same g h (k ∷ ks) each =
    ap (λ x. max x (tallest g ks)) (each k (inl refl)) ∙ ap (max (h k)) (tallest_same g h ks (λ z a. each z (inr a)))

each_low : (hs : List ℕ) → ((k : ℕ) → k < length hs → get_or hs k 0 ≤ 1024) → are_low hs ≡ true
each_low [] each = refl
each_low (x ∷ xs) each =
    and_from (nat_le x 1024) (are_low xs) (le-leb x 1024 (each 0 (omega arith)))
    (each_low xs (λ k lt. each (suc k) (omega (arith, lt))))

-- the entry of a node
entry_at : {X : Type 0} (entry : ℕ → X) (test : ℕ → Bool) (count n : ℕ) (d : X) → n < count → test n ≡ true
    → get_or (map entry (nodes_below test count)) (length (nodes_below test n)) d ≡ entry n
entry_at entry test zero n d lt is = absurd (omega (arith, lt))
entry_at {X} entry test (suc c) n d lt is =
    ap (λ m. get_or (map entry (nodes_below test m)) (length (nodes_below test n)) d) next
    ∙ by_test (test c) refl (λ l. entry_at entry test c n d l is)
  where
    next : suc c ≡ c + 1
    next = omega arith

    by_test : (b : Bool) → test c ≡ b
        → (n < c → get_or (map entry (nodes_below test c)) (length (nodes_below test n)) d ≡ entry n)
        → get_or (map entry (nodes_below test (c + 1))) (length (nodes_below test n)) d ≡ entry n
    by_test false fails before =
        let rest : get_or (map entry (nodes_below test c)) (length (nodes_below test n)) d ≡ entry n =
        elim (cases_lt n c) [
          | inl l ↦ before l
          | inr ge ↦
              let same : n ≡ c = omega (arith, lt, ge) in
              let both : true ≡ false = sym is ∙ ap test same ∙ fails in
              absurd (cc)
        ] in
        ap (λ xs. get_or (map entry xs) (length (nodes_below test n)) d) (nodes_below_without test c fails) ∙ rest
    by_test true passes before =
        let more : map entry (nodes_below test (c + 1)) ≡ map entry (nodes_below test c) ++ entry c ∷ [] =
        ap (map entry) (nodes_below_with test c passes) ∙ map-append entry (nodes_below test c) (c ∷ []) in
        let rest : get_or (map entry (nodes_below test c) ++ entry c ∷ []) (length (nodes_below test n)) d ≡ entry n =
        elim (cases_lt n c) [
          | inl l ↦
              get_or-append (map entry (nodes_below test c)) (entry c ∷ []) d (length (nodes_below test n))
              (omega (arith, length-map (nodes_below test c) entry, less test n c is l)) ∙ before l
          | inr ge ↦
              let same : n ≡ c = omega (arith, lt, ge) in
              let size : length (nodes_below test n) ≡ length (map entry (nodes_below test c)) =
              ap (λ m. length (nodes_below test m)) same ∙ sym (length-map (nodes_below test c) entry) in
              ap (λ i. get_or (map entry (nodes_below test c) ++ entry c ∷ []) i d) size
              ∙ get_or-append_seam (map entry (nodes_below test c)) (entry c) [] d ∙ ap entry (sym same)
        ] in
        ap (λ xs. get_or xs (length (nodes_below test n)) d) more ∙ rest

-- the node of an entry
pub record NodeOf (test : ℕ → Bool) (count i : ℕ) : Type 0 where
  pub node : ℕ
  pub inside : node < count
  pub passes : test node ≡ true
  pub index : length (nodes_below test node) ≡ i

node_of : (test : ℕ → Bool) (count i : ℕ) → i < length (nodes_below test count) → NodeOf test count i
node_of test zero i lt = absurd (omega (arith, lt))
node_of test (suc c) i lt = by_test (test c) refl (node_of test c i)
  where
    next : suc c ≡ c + 1
    next = omega arith

    from : NodeOf test c i → NodeOf test (suc c) i
    from r = record { node = r.node; inside = omega (arith, r.inside); passes = r.passes; index = r.index }

    by_test : (b : Bool) → test c ≡ b → (i < length (nodes_below test c) → NodeOf test c i) → NodeOf test (suc c) i
    by_test false fails before =
        from (before
        (omega (arith, lt, ap (λ m. length (nodes_below test m)) next, ap length (nodes_below_without test c fails))))
    by_test true passes before =
        elim (cases_lt i (length (nodes_below test c))) [
          | inl l ↦ from (before l)
          | inr ge ↦
              let size : length (nodes_below test (suc c)) ≡ length (nodes_below test c) + 1 =
              ap (λ m. length (nodes_below test m)) next ∙ ap length (nodes_below_with test c passes)
              ∙ length_push (nodes_below test c) c in
              record { node = c; inside = omega arith; passes = passes; index = omega (arith, ge, lt, size) }
        ]

-- z is the entry of an item of n, or of an item of an item
pub data Under (f : Forms) (test : ℕ → Bool) (n z : ℕ) : Type 0 where
  child : (j m : ℕ) → IsItem f n j m → test m ≡ true → z ≡ index_of f test m → Under f test n z
  grandchild : (i j b m : ℕ) → IsItem f n i b → IsItem f b j m → test m ≡ true → z ≡ index_of f test m
      → Under f test n z

item_nests : (f : Forms) (d n j m : ℕ) → NestsIn f d n → IsItem f n j m → NestsIn f d m
item_nests f _ _ j m (nests d n each) it = deeper f d m (each j m it)

abbrev pub heights_of : {X : Type 0} → (X → List ℕ) → List X → List ℕ
heights_of kids xs = table 0 (λ x h. suc (tallest h (kids x))) 0 xs

module _ {X : Type 0} (f : Forms) (s : IsSound f) (test : ℕ → Bool) (entry : ℕ → X) (kids : X → List ℕ)
    (under : (n z : ℕ) → n < length f.nodes → test n ≡ true → Among z (kids (entry n)) → Under f test n z) where
  abbrev tall : ℕ → ℕ
  tall z = get_or (heights_of kids (map entry (nodes_below test (length f.nodes)))) z 0

  behind : (n m z : ℕ) → n < m → m < length f.nodes → test n ≡ true → z ≡ index_of f test m
      → length (nodes_below test n) < z
  behind n m z nm lt is e = omega (arith, e, index_is test (length f.nodes) m lt, less test n m is nm)

  all_behind : (n z : ℕ) → n < length f.nodes → test n ≡ true → Under f test n z → length (nodes_below test n) < z
  all_behind n z lt is (child j m it passes e) =
      let (later, inside) = s.behind n j m it in behind n m z later inside is e
  all_behind n z lt is (grandchild i j b m it there passes e) =
      let (later, _) = s.behind n i b it in
      let (next, inside) = s.behind b j m there in
      behind n m z (omega (arith, later, next)) inside is e

  height_is : (n : ℕ) → n < length f.nodes → test n ≡ true
      → tall (length (nodes_below test n))
      ≡ suc (tallest tall (kids (entry n)))
  height_is n lt is =
      table_at 0 (λ (x : X) h. suc (tallest h (kids x))) (map entry (nodes_below test (length f.nodes)))
      (length (nodes_below test n)) (entry n)
      (omega (arith, length-map (nodes_below test (length f.nodes)) entry, less test n (length f.nodes) is lt))
      (sym (entry_at entry test (length f.nodes) n (entry n) lt is))
      (λ g h same. ap suc
      (tallest_same g h (kids (entry n)) (λ z a. same z (all_behind n z lt is (under n z lt is a)))))

  low : (d n : ℕ) → NestsIn f d n → n < length f.nodes → test n ≡ true
      → tall (length (nodes_below test n)) ≤ d
  low zero n nested lt is = absurd (none n nested)
    where
      none : (m : ℕ) → NestsIn f 0 m → ⊥
      none m h = elim h [ ]
  low (suc d) n nested lt is =
      let within = tallest_within tall d (kids (entry n))
      (λ z a. by_place z (under n z lt is a) (λ m inner inside passes. low d m inner inside passes)) in
      omega (arith, height_is n lt is, within)
    where
      items : (d m : ℕ) → NestsIn f (suc d) m → (j i : ℕ) → IsItem f m j i → NestsIn f d i
      items _ _ (nests d m each) = each

      by_place : (z : ℕ) → Under f test n z
          → ((m : ℕ) → NestsIn f d m → m < length f.nodes → test m ≡ true
          → tall (length (nodes_below test m)) ≤ d)
          → tall z ≤ d
      by_place z (child j m it passes e) rest =
          let (later, inside) = s.behind n j m it in
          let same : length (nodes_below test m) ≡ z = sym (e ∙ index_is test (length f.nodes) m inside) in
          subst (λ i. tall i ≤ d) same
          (rest m (items d n nested j m it) inside passes)
      by_place z (grandchild i j b m it there passes e) rest =
          let (later, inside) = s.behind b j m there in
          let same : length (nodes_below test m) ≡ z = sym (e ∙ index_is test (length f.nodes) m inside) in
          subst (λ k. tall k ≤ d) same
          (rest m (item_nests f d b j m (items d n nested i b it) there) inside passes)

  pub all_low : are_low (heights_of kids (map entry (nodes_below test (length f.nodes)))) ≡ true
  all_low =
      each_low (heights_of kids (map entry (nodes_below test (length f.nodes)))) (λ i lt.
      let size =
      length-table 0 (λ (x : X) (h : ℕ → ℕ). suc (tallest h (kids x))) 0
      (map entry (nodes_below test (length f.nodes))) in
      let it =
      node_of test (length f.nodes) i (omega (arith, lt, size, length-map (nodes_below test (length f.nodes)) entry)) in
      let bound = low 65 it.node (s.shallow it.node it.inside) it.inside it.passes in
      let same = ap (λ k. tall k) it.index in
      omega (arith, bound, same))
