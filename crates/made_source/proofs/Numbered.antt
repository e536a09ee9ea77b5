-- Nodes by their numbers: the kinds of written items, and the place of each node.
use Rattle.std.proofs.Common.{◌≡◌, ℕ, zero, suc, ◌+◌, List, [], ◌∷◌, ◌++◌, refl, sym, ◌∙◌, ap, map, length, arith}
use Rattle.std.proofs.Common.{add-zero}
use Rattle.std.specs.Prelude.{slice_index_or}
use Rattle.std.specs.Str.Parse.{digits_value}
use Rattle.std.proofs.lemmas.List.{map-append}
use Rattle.mp_base.specs.declared.refusal.Place.{Place}
use Rattle.form_reader.specs.declared.forms.Kind.{Kind}
use Rattle.form_reader.specs.declared.forms.Kind.TheVariants.{Number, Symbol, Group}
use Rattle.form_reader.specs.declared.forms.Node.{Node}
use Rattle.form_reader.specs.declared.forms.Forms.{Forms}
use Rattle.form_reader.specs.Sound.{no_node}
use Rattle.form_reader.specs.Text.{place_at}
use Rattle.form_text.specs.Items.{Items, nothing, symbol, number, group, text_of, size_of, roots_from, nodes_from}
use Rattle.form_text.specs.Items.{forms_of}

-- nodes of these kinds, where a function gives the place of each number
abbrev pub numbered : (ℕ → Place) → ℕ → List Kind → List Node
numbered at i [] = []
numbered at i (k ∷ ks) = record { place = at i; kind = k } ∷ numbered at (suc i) ks

-- the kinds of the nodes of items, of which the first has this number
abbrev pub kinds_from : ℕ → Items → List Kind
kinds_from i nothing = []
kinds_from i (symbol gap run more) = Symbol run ∷ kinds_from (suc i) more
kinds_from i (number gap run more) = Number (digits_value 10 run) ∷ kinds_from (suc i) more
kinds_from i (group gap inner close more) = Group (roots_from (suc i) inner)
    ∷ (kinds_from (suc i) inner ++ kinds_from (suc i + size_of inner) more)

abbrev kind_of : Node → Kind
kind_of n = n.kind

kinds_are : (place : ℕ → Place) (at i : ℕ) (items : Items) → map kind_of (nodes_from place at i items)
    ≡ kinds_from i items
kinds_are place at i nothing = refl
kinds_are place at i (symbol gap run more) =
    ap (λ ks. Symbol run ∷ ks) (kinds_are place (at + length gap + length run) (suc i) more)
kinds_are place at i (number gap run more) = ap (λ ks. Number (digits_value 10 run) ∷ ks)
    (kinds_are place (at + length gap + length run) (suc i) more)
kinds_are place at i (group gap inner close more) =
    let later : ℕ = at + length gap + 1 + length (text_of inner) + length close + 1 in
    let a : List Node = nodes_from place (at + length gap + 1) (suc i) inner in
    let b : List Node = nodes_from place later (suc i + size_of inner) more in
    ap (λ ks. Group (roots_from (suc i) inner) ∷ ks)
    (map-append kind_of a b ∙ ap (λ ks. ks ++ map kind_of b) (kinds_are place (at + length gap + 1) (suc i) inner)
    ∙ ap (λ ks. kinds_from (suc i) inner ++ ks) (kinds_are place later (suc i + size_of inner) more))

renumbered : (at : ℕ → Place) (i : ℕ) (ns : List Node) → ((k : ℕ) → at (i + k) ≡ (slice_index_or ns k no_node).place)
    → numbered at i (map kind_of ns) ≡ ns
renumbered at i [] h = refl
renumbered at i (n ∷ ns) h =
    ap (λ p. record { place = p; kind = n.kind } ∷ numbered at (suc i) (map kind_of ns)) (ap at (sym (add-zero i))
    ∙ h zero)
    ∙ ap (λ ms. n ∷ ms) (renumbered at (suc i) ns (λ k. ap at {x = suc i + k} {y = i + suc k} (omega arith)
    ∙ h (suc k)))

-- forms whose nodes have these kinds, all in one form
abbrev pub one_form : (ℕ → Place) → Place → List Kind → Forms
one_form at end kinds = record { nodes = numbered at 0 kinds; roots = 0 ∷ []; end = end }

-- the places of the nodes of a text
abbrev pub places_of : Forms → ℕ → Place
places_of f i = (slice_index_or f.nodes i no_node).place

pub forms_are : (gap close behind : List ℕ) (items : Items) → forms_of (group gap items close nothing) behind
    ≡ one_form (places_of (forms_of (group gap items close nothing) behind))
    ((forms_of (group gap items close nothing) behind).end) (kinds_from 0 (group gap items close nothing))
forms_are gap close behind items =
    let whole : Items = group gap items close nothing in
    let text : List ℕ = text_of whole ++ behind in
    let ns : List Node = nodes_from (place_at text) 0 0 whole in
    let at : ℕ → Place = λ i. (slice_index_or ns i no_node).place in
    let e : ns ≡ numbered at 0 (kinds_from 0 whole) =
    sym (renumbered at 0 ns (λ k. ap at {x = 0 + k} {y = k} (omega arith)))
    ∙ ap (numbered at 0) (kinds_are (place_at text) 0 0 whole) in
    ap (λ ms. let f : Forms = record { nodes = ms; roots = 0 ∷ []; end = place_at text (length text) } in f) e
