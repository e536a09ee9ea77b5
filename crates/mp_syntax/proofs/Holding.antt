-- Which node holds what stands in a place of the program.
use Rattle.std.proofs.Common.{◌≡◌, inl, inr, ℕ, ◌<◌, ◌≤◌, Bool, true, List, [], refl, sym, ◌∙◌, subst, length}
use Rattle.std.proofs.Common.{map, arith, drop, Option, Some, slice_index}
use Rattle.std.specs.List.{flat_map}
use Rattle.std.proofs.lemmas.Bool.{cases_lt}
use Rattle.form_reader.specs.declared.forms.Forms.{Forms}
use Rattle.form_reader.specs.Sound.{IsItem, kind_at, items_of}
use Rattle.mp_shapes.specs.declared.table.Class.{Class}
use Rattle.mp_shapes.specs.declared.table.Class.TheVariants.{Branch}
use Rattle.mp_shapes.specs.declared.table.Layout.{Layout}
use Rattle.mp_shapes.specs.declared.table.Layout.TheVariants.{Guarded}
use Rattle.mp_shapes.specs.Layout.{layout, item_class}
use Rattle.mp_shapes.specs.Standing.{StandsFor}
use Rattle.mp_entries.specs.Entries.{ranks}
use Rattle.mp_syntax.proofs.Fitting.{Known, inner}
use Rattle.mp_syntax.proofs.Standing.{index_is, less}
use Rattle.mp_syntax.proofs.Distinct.{Among, Distinct, among_drop, among_flat, among_map, distinct_drop, distinct_flat}
use Rattle.mp_syntax.proofs.Distinct.{distinct_items, distinct_map}

-- the index of the entry of a node, among those that pass a test
abbrev pub index_of : Forms → (ℕ → Bool) → ℕ → ℕ
index_of f test = slice_index (ranks test (length f.nodes))

abbrev pub items_at : Forms → ℕ → List ℕ
items_at f n = items_of (kind_at f n)

-- entries of nodes differ
one_node : (test : ℕ → Bool) (count m o : ℕ) → m < count → o < count → test m ≡ true → test o ≡ true
    → slice_index (ranks test count) m ≡ slice_index (ranks test count) o → m ≡ o
one_node test count m o ml ol mt ot same =
    elim (cases_lt m o) [
      | inl lt ↦ absurd (omega (arith, index_is test count m ml, index_is test count o ol, same, less test m o mt lt))
      | inr le ↦ elim (cases_lt o m) [
        | inl lt ↦ absurd (omega (arith, index_is test count m ml, index_is test count o ol, same, less test o m ot lt))
        | inr ge ↦ omega (arith, le, ge)
      ]
    ]

-- z is the entry of an item of the node n, which has a class and a shape
pub record Holds (f : Forms) (test : ℕ → Bool) (n : ℕ) (c : Class) (l : Layout) (z : ℕ) : Type 0 where
  pub child : ℕ
  pub place : ℕ
  pub item : IsItem f n place child
  pub stands : StandsFor f n c
  pub shape : layout f c (kind_at f n) ≡ Some l
  pub passes : test child ≡ true
  pub index : z ≡ index_of f test child

-- entries of items of n, which differ
pub record Group (f : Forms) (test : ℕ → Bool) (n : ℕ) (c : Class) (l : Layout) (zs : List ℕ) : Type 0 where
  pub distinct : Distinct zs
  pub held : (z : ℕ) → Among z zs → Holds f test n c l z

-- z is the entry of an item of n, which has the shape l, or of a branch of n
pub data Stems (f : Forms) (test : ℕ → Bool) (l : Layout) (n z : ℕ) : Type 0 where
  direct : (c : Class) → Holds f test n c l z → Stems f test l n z
  guarded : (b j : ℕ) → IsItem f n j b → Holds f test b Branch Guarded z → Stems f test l n z

-- entries of items of nodes of a class and a shape
pub record AllHeld (f : Forms) (test : ℕ → Bool) (c : Class) (l : Layout) (zs : List ℕ) : Type 0 where
  pub distinct : Distinct zs
  pub held : (z : ℕ) → Among z zs → (n : ℕ) × Holds f test n c l z

pub record AllStem (f : Forms) (test : ℕ → Bool) (l : Layout) (zs : List ℕ) : Type 0 where
  pub distinct : Distinct zs
  pub held : (z : ℕ) → Among z zs → (n : ℕ) × Stems f test l n z

pub record Stemming (f : Forms) (test : ℕ → Bool) (l : Layout) (n : ℕ) (zs : List ℕ) : Type 0 where
  pub distinct : Distinct zs
  pub held : (z : ℕ) → Among z zs → Stems f test l n z

module _ (f : Forms) (cs : List (Option Class)) (k : Known f cs) (test : ℕ → Bool) where
  one_child : (n o : ℕ) (c d : Class) (l m : Layout) (z : ℕ) (h : Holds f test n c l z) (g : Holds f test o d m z)
      → h.child ≡ g.child
  one_child n o c d l m z h g =
      one_node test (length f.nodes) h.child g.child (k.sound.behind n h.place h.child h.item).1
      (k.sound.behind o g.place g.child g.item).1 h.passes g.passes (sym h.index ∙ g.index)

  pub one_holder : (n o : ℕ) (c d : Class) (l m : Layout) (z : ℕ) → Holds f test n c l z → Holds f test o d m z → n ≡ o
  one_holder n o c d l m z h g =
      let same = one_child n o c d l m z h g in
      k.sound.one_list n o h.place g.place h.child h.item (subst (λ x. IsItem f o g.place x) (sym same) g.item)

  pub one_shape : (n o : ℕ) (c d : Class) (l m : Layout) (z : ℕ) → Holds f test n c l z → Holds f test o d m z → l ≡ m
  one_shape n o c d l m z h g =
      let same : n ≡ o = one_holder n o c d l m z h g in
      let class : Some c ≡ Some d =
      sym (k.classes.complete n c h.stands)
      ∙ k.classes.complete n d (subst (λ x. StandsFor f x d) (sym same) g.stands) in
      let one : c ≡ d = cc in
      let there : layout f d (kind_at f n) ≡ Some m =
      subst (λ x. layout f d (kind_at f x) ≡ Some m) (sym same) g.shape in
      let shape : layout f c (kind_at f n) ≡ Some m = subst (λ x. layout f x (kind_at f n) ≡ Some m) (sym one) there in
      let both : Some l ≡ Some m = sym h.shape ∙ shape in
      cc

  pub one_stem : (l : Layout) → (l ≡ Guarded → ⊥) → (n o z : ℕ) → Stems f test l n z → Stems f test l o z → n ≡ o
  one_stem l other n o z (direct c h) (direct d g) = one_holder n o c d l l z h g
  one_stem l other n o z (direct c h) (guarded b j at g) = absurd (other (one_shape n b c Branch l Guarded z h g))
  one_stem l other n o z (guarded b j at h) (direct d g) = absurd (other (one_shape o b d Branch l Guarded z g h))
  one_stem l other n o z (guarded a i at h) (guarded b j there g) =
      let same = one_holder a b Branch Branch Guarded Guarded z h g in
      k.sound.one_list n o i j a at (subst (λ x. IsItem f o j x) (sym same) there)

  pub no_group : (n : ℕ) (c : Class) (l : Layout) → Group f test n c l []
  no_group n c l = record { distinct = tt; held = λ z a. absurd a }

  pub no_stems : (l : Layout) (n : ℕ) → Stemming f test l n []
  no_stems l n = record { distinct = tt; held = λ z a. absurd a }

  pub direct_stems : (n : ℕ) (c : Class) (l : Layout) (zs : List ℕ) → Group f test n c l zs → Stemming f test l n zs
  direct_stems n c l zs g = record { distinct = g.distinct; held = λ z a. direct c (g.held z a) }

  pub group : (n : ℕ) (c : Class) (l : Layout) → StandsFor f n c → layout f c (kind_at f n) ≡ Some l → (xs : List ℕ)
      → Distinct xs
      → ((x : ℕ) → Among x xs → (j : ℕ) × IsItem f n j x × (test x ≡ true))
      → Group f test n c l (map (index_of f test) xs)
  group n c l st lay xs d each = record { distinct = distinct_map (index_of f test) xs d one; held = held }
    where
      one : (x y : ℕ) → Among x xs → Among y xs → index_of f test x ≡ index_of f test y → x ≡ y
      one x y a b e =
          let (i, at, passes) = each x a in
          let (j, there, too) = each y b in
          one_node test (length f.nodes) x y (k.sound.behind n i x at).1 (k.sound.behind n j y there).1 passes too e

      held : (z : ℕ) → Among z (map (index_of f test) xs) → Holds f test n c l z
      held z a =
          let (x, b, e) = among_map (index_of f test) z xs a in
          let (j, at, is) = each x b in
          record { child = x; place = j; item = at; stands = st; shape = lay; passes = is; index = e }

  pub nodes_distinct : (n : ℕ) → n < length f.nodes → Distinct (items_at f n)
  nodes_distinct n lt =
      distinct_items (items_at f n) (λ i j il jl e.
      k.sound.one_place n n i j (slice_index (items_at f n) i) (lt, il, refl) (lt, jl, e))

  -- the items from an index on
  pub dropped : (n from : ℕ) (c d : Class) (l : Layout) → StandsFor f n c → n < length f.nodes
      → layout f c (kind_at f n) ≡ Some l
      → ((j : ℕ) → from ≤ j → item_class l j ≡ Some d) → ((m : ℕ) → StandsFor f m d → test m ≡ true)
      → Group f test n c l (map (index_of f test) (drop from (items_at f n)))
  dropped n from c d l st lt lay are passes =
      let items = items_at f n in
      group n c l st lay (drop from items) (distinct_drop from items (nodes_distinct n lt)) (λ x a.
      let (j, le, jl, e) = among_drop from x items a in (
        j,
        (lt, jl, e),
        passes x
            (subst (λ m. StandsFor f m d) (sym e) (inner f cs k n j c d l st lt lay (are j le) jl).stands),
      ))

  -- ---- over several nodes

  pub all_held : (c : Class) (l : Layout) (g : ℕ → List ℕ) (xs : List ℕ) → Distinct xs
      → ((x : ℕ) → Among x xs → Group f test x c l (g x)) → AllHeld f test c l (flat_map g xs)
  all_held c l g xs d each = record {
    distinct = distinct_flat g xs d (λ x a. (each x a).distinct) (λ x y z a b here there.
        one_holder x y c c l l z ((each x a).held z here) ((each y b).held z there));
    held = λ z a. let (x, b, here) = among_flat g z xs a in (x, (each x b).held z here);
  }

  pub all_stem : (l : Layout) → (l ≡ Guarded → ⊥) → (g : ℕ → List ℕ) (xs : List ℕ) → Distinct xs
      → ((x : ℕ) → Among x xs → Stemming f test l x (g x)) → AllStem f test l (flat_map g xs)
  all_stem l other g xs d each = record {
    distinct = distinct_flat g xs d (λ x a. (each x a).distinct) (λ x y z a b here there.
        one_stem l other x y z ((each x a).held z here) ((each y b).held z there));
    held = λ z a. let (x, b, here) = among_flat g z xs a in (x, (each x b).held z here);
  }

  -- what is held by a node of one shape does not stem from one of another
  pub held_apart : (n o : ℕ) (c : Class) (l m : Layout) (z : ℕ) → (l ≡ m → ⊥) → (l ≡ Guarded → ⊥) → Holds f test n c l z
      → Stems f test m o z → ⊥
  held_apart n o c l m z other plain h (direct d g) = other (one_shape n o c d l m z h g)
  held_apart n o c l m z other plain h (guarded b j at g) = plain (one_shape n b c Branch l Guarded z h g)
