-- The symbols of a text are runs of token characters that are no numerals.
use Rattle.std.proofs.Common.{◌≡◌, inl, inr, ℕ, ◌<◌, ◌≤◌, true, not, ◌&&◌, List, []}
use Rattle.std.proofs.Common.{sym, ◌∙◌, ap, subst, length, arith, slice_index_or, slice_range}
use Rattle.std.specs.List.{list_all}
use Rattle.std.proofs.lemmas.Bool.{and_from, cases_lt, cases_eq, not_from_false}
use Rattle.std.proofs.lemmas.List.{get_or_past}
use Rattle.mp_base.specs.Token.{is_token, is_digit}
use Rattle.form_reader.specs.declared.forms.Kind.{Kind}
use Rattle.form_reader.specs.declared.forms.Kind.TheVariants.{Number, Symbol, Group}
use Rattle.form_reader.specs.declared.forms.Node.{Node}
use Rattle.form_reader.specs.declared.forms.Forms.{Forms}
use Rattle.form_reader.specs.Sound.{no_node, HasSymbols}
use Rattle.form_reader.specs.Spelling.{Spelled, Spells, IsKindOf, none, token, list}

symbol_of : (run x : List ℕ) → IsKindOf run (Symbol x) → list_all is_token run ≡ true
    → (list_all is_token x && not (list_all is_digit x)) ≡ true
symbol_of run x (other, is) all =
    let P : List ℕ → Type 0 = λ y. (list_all is_token y && not (list_all is_digit y)) ≡ true in
    subst P (sym is)
    (and_from (list_all is_token run) (not (list_all is_digit run)) all (not_from_false (list_all is_digit run) other))

here : (nodes : List Node) (n i : ℕ) (x : List ℕ) (y : Node) → n ≡ i → slice_index_or nodes i no_node ≡ y
    → (slice_index_or nodes n no_node).kind ≡ Symbol x → y.kind ≡ Symbol x
here nodes n i x y same node is =
    ap (λ (z : Node). z.kind) (sym node ∙ sym (ap (λ k. slice_index_or nodes k no_node) same)) ∙ is

token_symbol : (run x : List ℕ) (kind : Kind) → IsKindOf run kind → list_all is_token run ≡ true → kind ≡ Symbol x
    → (list_all is_token x && not (list_all is_digit x)) ≡ true
token_symbol run x kind of all is = let P : Kind → Type 0 = λ k. IsKindOf run k in symbol_of run x (subst P is of) all

no_symbol : (inner x : List ℕ) → Group inner ≡ Symbol x → ⊥
no_symbol inner x e = cc

in_block : (text : List ℕ) (nodes : List Node) {depth at i : ℕ} {items : List ℕ} {to j : ℕ}
    → Spelled text nodes depth at i items to j
    → (n : ℕ) (x : List ℕ) → i ≤ n → n < j → (slice_index_or nodes n no_node).kind ≡ Symbol x
    → (list_all is_token x && not (list_all is_digit x)) ≡ true
in_block text nodes none n x low high is = absurd (omega (arith, low, high))
in_block text nodes {i = i} (token s e kind gap run of node rest) n x low high is = elim (cases_eq n i) [
  | inl same ↦ token_symbol (slice_range text s e) x kind of run.all (here nodes n i x _ same node.1 is)
  | inr other ↦ in_block text nodes rest n x (omega (arith, low, other)) high is
]
in_block text nodes {i = i} (list s e c k inner gap byte shallow node inside end close rest) n x low high is =
    elim (cases_eq n i) [
      | inl same ↦ absurd (no_symbol inner x (here nodes n i x _ same node.1 is))
      | inr other ↦ elim (cases_lt n k) [
        | inl lt ↦ in_block text nodes inside n x (omega (arith, low, other)) lt is
        | inr ge ↦ in_block text nodes rest n x ge high is
      ]
    ]

pub has_symbols : (text : List ℕ) (f : Forms) → Spells text f → HasSymbols f
has_symbols text f s n x is = elim (cases_lt n (length f.nodes)) [
  | inl lt ↦ in_block text f.nodes s.items n x (omega arith) lt is
  | inr ge ↦ absurd (clash (sym (ap (λ (y : Node). y.kind) (get_or_past f.nodes n no_node ge)) ∙ is))
]
  where
    clash : Number 0 ≡ Symbol x → ⊥
    clash e = cc
