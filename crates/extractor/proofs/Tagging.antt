-- Tags of labels, one more.
use Rattle.std.proofs.Common.{◌≡◌, ℕ, ◌+◌, ◌⊎◌, inl, inr, List, [], ◌∷◌, ◌++◌, Bool, true, false, cond, get_or, refl}
use Rattle.std.proofs.Common.{◌∙◌, ap, sym, arith}
use Rattle.std.specs.Prelude.{Option, Some, None, Contains, slice_get}
use Rattle.std.specs.BTreeMap.{BTreeMap, is_at}
use Rattle.std.specs.Borrow.{Bor}
use Rattle.std.specs.Cmp.Lexicographic.{slice_cmp}
use Rattle.std.specs.Map.{update, lookup}
use Rattle.std.specs.Ordering.{nat_cmp}
use Rattle.std.specs.Str.{bytes_eq}
use Rattle.std.proofs.lemmas.List.{length_push}
use Rattle.std.proofs.lemmas.List.Elements.{Contains-append_left, Contains-append_right, Contains-append_cases}
use Rattle.std.proofs.lemmas.Option.{same_Some}
use Rattle.std.proofs.lemmas.Slice.Eq.{bytes_eq-Decides}
use Rattle.mp_base.specs.declared.refusal.Refusal.{Refusal}
use Rattle.mp_base.specs.declared.refusal.Refusal.TheVariants as refusals
use Rattle.mp_base.proofs.Contents.{nothing_in, only_one}
use Rattle.mp_base.proofs.Entries.{push_cases}
use Rattle.lam_geom.specs.declared.label.FlatLabel.{FlatLabel}
use Rattle.switch_net.specs.declared.network.Tag.{Tag}
use Rattle.switch_net.specs.OneNode.{OneNodeEach}
use Rattle.extractor.specs.Tagging.{AreSeen, AreTagged, IsTagged, IsElsewhere, IsTwice, RefusesFirst, RefusesLabel}
use Rattle.switch_net.specs.Names.{number_of}

-- a look-up after one entry is set
at_update : (find : List ℕ → Option ℕ) (name q : List ℕ) (w o : Option ℕ) → o ≡ update bytes_eq find name w q
    → (name ≡ q) × (o ≡ w) ⊎ (o ≡ find q)
at_update find name q w o e = at (bytes_eq name q) refl e
  where
    at : (b : Bool) → bytes_eq name q ≡ b → o ≡ cond b w (find q) → (name ≡ q) × (o ≡ w) ⊎ (o ≡ find q)
    at true h k = inl ((bytes_eq-Decides name q).0 h, k)
    at false h k = inr k

at_set : (find : List ℕ → Option ℕ) (name q : List ℕ) (w : Option ℕ) → name ≡ q → update bytes_eq find name w q ≡ w
at_set find name q w e = ap (λ b. cond b w (find q)) ((bytes_eq-Decides name q).1 e)

pub seen_none : (m : BTreeMap (Bor (List ℕ)) ℕ) → m.entries ≡ [] → AreSeen (number_of m) []
seen_none m e = record {
  here = λ tag c. absurd (nothing_in tag c);
  from = λ name node f.
      let none : number_of m name ≡ None = ap (lookup (is_at (λ (k : Bor (List ℕ)). slice_cmp nat_cmp name k.now))) e in
      absurd (cc);
}

module _ (labels : List FlatLabel) (nodes : List (Option ℕ)) where
  pub tagged_none : AreTagged labels nodes 0 []
  tagged_none =
      record {
        long = refl;
        each = λ n label tag l at is. absurd (omega arith);
        one_node_each = λ a b c d e. absurd (nothing_in a c);
      }

  module _ (i : ℕ) (tags : List Tag) (find : List ℕ → Option ℕ) (tagged : AreTagged labels nodes i tags)
      (seen : AreSeen find tags)
      (label : FlatLabel) (at : slice_get labels i ≡ Some label) where
    pub refused_at : (e : Refusal) → RefusesLabel (find label.name) label (get_or nodes i None) e
        → RefusesFirst labels nodes e
    refused_at refusals.NoMemory h = tt
    refused_at (refusals.Broken b) h =
        record {
          place = i;
          label = label;
          at = at;
          tags = tags;
          before = tagged;
          breaks = elim h [ inl u ↦ inl u | inr w ↦ inr (twice w) ];
        }
      where
        twice : IsElsewhere (find label.name) label (get_or nodes i None) b → IsTwice tags label (get_or nodes i None) b
        twice w =
            let t = seen.from label.name w.first w.known_on in
            record {
              tag = t.0;
              earlier = t.1;
              name = t.2;
              second = w.second;
              names = w.names;
              apart = λ e. w.apart (sym t.3 ∙ e);
              rule = w.rule;
            }

    module _ (tag : Tag) (is : IsTagged (find label.name) label (get_or nodes i None) tag) where
      -- an earlier tag of that name is on that node
      same_node : (a : Tag) → Contains tags a → a.name ≡ tag.name → a.node ≡ tag.node
      same_node a c e =
          let f : find label.name ≡ Some a.node = ap find (is.name ∙ sym e) ∙ seen.here a c in
          elim is.one [ inl n ↦ absurd (cc) | inr s ↦ same_Some a.node tag.node (sym f ∙ s) ]

      one_each : OneNodeEach (tags ++ tag ∷ [])
      one_each a b c d e = both (Contains-append_cases tags (tag ∷ []) a c) (Contains-append_cases tags (tag ∷ []) b d)
        where
          both : Contains tags a ⊎ Contains (tag ∷ []) a → Contains tags b ⊎ Contains (tag ∷ []) b → a.node ≡ b.node
          both (inl p) (inl q) = tagged.one_node_each a b p q e
          both (inl p) (inr q) = let k = only_one tag b q in
              same_node a p (e ∙ ap (λ (t : Tag). t.name) (sym k)) ∙ ap (λ (t : Tag). t.node) k
          both (inr p) (inl q) = let k = only_one tag a p in
              sym (same_node b q (sym e ∙ ap (λ (t : Tag). t.name) (sym k)) ∙ ap (λ (t : Tag). t.node) k)
          both (inr p) (inr q) = ap (λ (t : Tag). t.node) (sym (only_one tag a p) ∙ only_one tag b q)

      pub tagged_more : AreTagged labels nodes (i + 1) (tags ++ tag ∷ [])
      tagged_more = record {
        long = length_push tags tag ∙ ap (λ n. n + 1) tagged.long;
        each = λ n other t l there tag_there.
            elim (push_cases tags tag n t tag_there) [
              | inl a ↦ tagged.each n other t (omega (arith, a.0, tagged.long)) there a.1
              | inr a ↦ (
                  let e : n ≡ i = a.0 ∙ tagged.long in
                  let same : label ≡ other = same_Some label other (sym at ∙ ap (slice_get labels) (sym e) ∙ there) in (
                    ap (λ (x : FlatLabel). x.offset) (sym same) ∙ is.offset ∙ ap (λ (x : Tag). x.offset) a.1,
                    ap (λ (x : FlatLabel). x.name) (sym same) ∙ is.name ∙ ap (λ (x : Tag). x.name) a.1,
                    ap (λ k. get_or nodes k None) e ∙ is.node_is ∙ ap (λ (x : Tag). Some x.node) a.1,
                  )
                  )
            ];
        one_node_each = one_each;
      }

      pub seen_more : (now : List ℕ → Option ℕ)
          → ((q : List ℕ) → now q ≡ update bytes_eq find label.name (Some tag.node) q) → AreSeen now (tags ++ tag ∷ [])
      seen_more now changed = record {
        here = λ t c. elim (Contains-append_cases tags (tag ∷ []) t c) [
          | inl k ↦ (elim (at_update find label.name t.name (Some tag.node) (now t.name) (changed t.name)) [
            | inl u ↦ u.1 ∙ ap (λ (n : ℕ). Some n) (sym (same_node t k (sym u.0 ∙ is.name)))
            | inr u ↦ u ∙ seen.here t k
          ])
          | inr k ↦ (
              let e = only_one tag t k in
              changed t.name ∙ at_set find label.name t.name (Some tag.node) (is.name ∙ ap (λ (x : Tag). x.name) e)
              ∙ ap (λ (x : Tag). Some x.node) e
              )
        ];
        from = λ q node f. elim (at_update find label.name q (Some tag.node) (now q) (changed q)) [
          | inl u ↦ (
            tag,
            Contains-append_right tags (tag ∷ []) tag (0, omega arith, refl),
            sym is.name
                ∙ u.0,
            same_Some tag.node node (sym u.1 ∙ f),
          )
          | inr u ↦
              (let t = seen.from q node (sym u ∙ f) in (t.0, Contains-append_left tags (tag ∷ []) t.0 t.1, t.2, t.3))
        ];
      }
