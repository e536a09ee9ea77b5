-- The names of a header's pads.
use Rattle.std.proofs.Common.{◌≡◌, ◌≢◌, ℕ, zero, suc, ◌<◌, List, [], ◌∷◌, ◌++◌, true, false, refl, sym, ◌∙◌, ap, subst}
use Rattle.std.proofs.Common.{inl, inr, length, arith, get_or, Option, append_assoc}
use Rattle.std.specs.Prelude.{◌⊎◌, map, not}
use Rattle.std.specs.Str.{bytes_eq}
use Rattle.std.proofs.lemmas.Bool.{and_parts, and_from, or_parts, or_from, not-true, both_ways}
use Rattle.std.proofs.lemmas.List.{append-nil, map-append, map_push}
use Rattle.std.proofs.lemmas.List.Folds.{list_any-append}
use Rattle.std.proofs.lemmas.Slice.Eq.{bytes_eq-Decides}
use Rattle.mp_base.specs.PadNames.{is_run, is_pad_name, names_of, ArePadNames, is_supply}
use Rattle.mp_base.specs.declared.pad.Pad.{Pad}
use Rattle.mp_base.specs.declared.pad.Pads.{Pads}
use Rattle.stimulus_lines.specs.declared.piece.Piece.{Piece}
use Rattle.stimulus_lines.specs.declared.form.Form.{Form}
use Rattle.stimulus_lines.specs.declared.form.Form.TheVariants.{Input, Output, Clock}
use Rattle.stimulus.specs.declared.reading.Reading.{Reading}
use Rattle.stimulus_lines.specs.Forms.{is_name, IsPad, IsForm}
use Rattle.stimulus.specs.Rules.{has_pad, is_new_pad, IsInPlace, AddsForm}
use Rattle.stimulus.specs.Reading.{Reads, nothing}

-- an element of a list with one more is that one, or one of the others
member : (xs ys : List (List ℕ)) (n : List ℕ) (k : ℕ) → k < length (xs ++ n ∷ ys)
    → (get_or (xs ++ n ∷ ys) k [] ≡ n)
    ⊎ ((l : ℕ) × (l < length (xs ++ ys)) × (get_or (xs ++ n ∷ ys) k [] ≡ get_or (xs ++ ys) l []))
member [] ys n zero lt = inl refl
member [] ys n (suc k) lt = inr (k, omega arith, refl)
member (x ∷ xs) ys n zero lt = inr (0, omega arith, refl)
member (x ∷ xs) ys n (suc k) lt =
    elim (member xs ys n k (omega arith)) [ inl e ↦ inl e | inr h ↦ inr (suc h.0, omega (arith, h.1), h.2) ]

abbrev Differ : List (List ℕ) → Type 0
Differ ns = (i j : ℕ) → i < j → j < length ns → get_or ns i [] ≢ get_or ns j []

differ_more : (xs ys : List (List ℕ)) (n : List ℕ) → Differ (xs ++ ys)
    → ((k : ℕ) → k < length (xs ++ ys) → get_or (xs ++ ys) k [] ≢ n) → Differ (xs ++ n ∷ ys)
differ_more [] ys n d other i zero less lt e = absurd (omega arith)
differ_more [] ys n d other zero (suc j) less lt e = other j (omega arith) (sym e)
differ_more [] ys n d other (suc i) (suc j) less lt e = d i j (omega arith) (omega arith) e
differ_more (x ∷ xs) ys n d other i zero less lt e = absurd (omega arith)
differ_more (x ∷ xs) ys n d other zero (suc j) less lt e = elim (member xs ys n j (omega arith)) [
  | inl f ↦ other 0 (omega arith) (e ∙ f)
  | inr h ↦ d 0 (suc h.0) (omega arith) (omega (arith, h.1)) (e ∙ h.2)
]
differ_more (x ∷ xs) ys n d other (suc i) (suc j) less lt e =
    differ_more xs ys n (λ a b l m. d (suc a) (suc b) (omega arith) (omega arith))
    (λ k l. other (suc k) (omega arith)) i j (omega arith) (omega arith) e

named_more : (xs ys : List (List ℕ)) (n : List ℕ) → ArePadNames (xs ++ ys) → is_pad_name n ≡ true
    → ((k : ℕ) → k < length (xs ++ ys) → get_or (xs ++ ys) k [] ≢ n) → ArePadNames (xs ++ n ∷ ys)
named_more xs ys n old good other = record {
  each = λ i lt. elim (member xs ys n i lt) [
    | inl e ↦ ap is_pad_name e ∙ good
    | inr h ↦ ap is_pad_name h.2 ∙ old.each h.0 h.1
  ];
  differ = differ_more xs ys n old.differ other;
}

run_name : (w : List ℕ) → is_name w ≡ true → is_run w ≡ true
run_name [] h = h
run_name (c ∷ cs) h = (and_parts _ _ h).1

-- no pad has a name that is new
other_names : (ps : List Pad) (name : List ℕ) → has_pad name ps ≡ false → (k : ℕ)
    → k < length (map (λ (p : Pad). p.name) ps) → get_or (map (λ (p : Pad). p.name) ps) k [] ≢ name
other_names [] name h k lt e = absurd (omega arith)
other_names (p ∷ ps) name h zero lt e =
    both_ways _ (or_parts (bytes_eq p.name name) (has_pad name ps) h).0 ((bytes_eq-Decides p.name name).1 e)
other_names (p ∷ ps) name h (suc k) lt e =
    other_names ps name (or_parts (bytes_eq p.name name) (has_pad name ps) h).1 k (omega arith) e

record IsNew (r : Reading) (name : List ℕ) : Type 0 where
  good : is_name name ≡ true → is_pad_name name ≡ true
  other : has_pad name (r.inputs ++ r.outputs) ≡ false

new_name : (r : Reading) (name : List ℕ) → is_new_pad r name ≡ true → IsNew r name
new_name r name h =
    let a = and_parts _ _ h in
    let b = and_parts _ _ a.1 in
    let c = and_parts _ _ b.1 in
    let d = and_parts _ _ c.1 in
    record {
      good = λ run. and_from (is_run name) (not (is_supply name)) (run_name name run) c.0;
      other = list_any-append (λ (p : Pad). bytes_eq p.name name) r.inputs r.outputs
          ∙ or_from _ _ (not-true _ d.0) (not-true _ d.1);
    }

abbrev Named : List Pad → List Pad → Type 0
Named ins outs = ArePadNames (names_of ins outs (λ (p : Pad). p.name))

input_named : (r : Reading) (p : Pad) → is_name p.name ≡ true → IsNew r p.name → Named r.inputs r.outputs
    → Named (r.inputs ++ p ∷ []) r.outputs
input_named r p run new old =
    let f : Pad → List ℕ = λ p. p.name in
    let before : map f (r.inputs ++ r.outputs) ≡ map f r.inputs ++ map f r.outputs = map-append f r.inputs r.outputs in
    let after : map f ((r.inputs ++ p ∷ []) ++ r.outputs) ≡ map f r.inputs ++ p.name ∷ map f r.outputs =
    ap (map f) (append_assoc r.inputs (p ∷ []) r.outputs) ∙ map-append f r.inputs (p ∷ r.outputs) in
    let P : List (List ℕ) → Type 0 = λ ns. (k : ℕ) → k < length ns → get_or ns k [] ≢ p.name in
    let other : P (map f (r.inputs ++ r.outputs)) = other_names (r.inputs ++ r.outputs) p.name new.other in
    subst ArePadNames (sym after)
    (named_more (map f r.inputs) (map f r.outputs) p.name (subst ArePadNames before old) (new.good run)
    (subst P before other))

output_named : (r : Reading) (p : Pad) → is_name p.name ≡ true → IsNew r p.name → Named r.inputs r.outputs
    → Named r.inputs (r.outputs ++ p ∷ [])
output_named r p run new old =
    let f : Pad → List ℕ = λ p. p.name in
    let before : map f (r.inputs ++ r.outputs) ≡ map f (r.inputs ++ r.outputs) ++ [] =
    sym (append-nil (map f (r.inputs ++ r.outputs))) in
    let after : map f (r.inputs ++ (r.outputs ++ p ∷ [])) ≡ map f (r.inputs ++ r.outputs) ++ p.name ∷ [] =
    ap (map f) (sym (append_assoc r.inputs r.outputs (p ∷ []))) ∙ map_push f (r.inputs ++ r.outputs) p in
    let P : List (List ℕ) → Type 0 = λ ns. (k : ℕ) → k < length ns → get_or ns k [] ≢ p.name in
    let other : P (map f (r.inputs ++ r.outputs)) = other_names (r.inputs ++ r.outputs) p.name new.other in
    subst ArePadNames (sym after)
    (named_more (map f (r.inputs ++ r.outputs)) [] p.name (subst ArePadNames before old) (new.good run)
    (subst P before other))

pad_name : (ws : List Piece) (p : Pad) → IsPad ws p → is_name p.name ≡ true
pad_name [] p h = absurd h
pad_name (n ∷ []) p h = ap is_name h.1 ∙ h.0
pad_name (n ∷ w ∷ []) p h = ap is_name h.1 ∙ h.0
pad_name (n ∷ w ∷ x ∷ more) p h = absurd h

named_form : (known : Option Pads) (r : Reading) (line : List Piece) (f : Form) (t : Reading) → IsForm line f
    → IsInPlace r f → AddsForm known r f t → Named r.inputs r.outputs → Named t.inputs t.outputs
named_form known r [] f t is here adds old = absurd is
named_form known r (w ∷ ws) (Input p) t is here adds old =
    let P : Reading → Type 0 = λ q. Named q.inputs q.outputs in
    subst P (sym adds.1) (input_named r p (pad_name ws p is.1) (new_name r p.name here) old)
named_form known r (w ∷ ws) (Output p) t is here adds old =
    let P : Reading → Type 0 = λ q. Named q.inputs q.outputs in
    subst P (sym adds.1) (output_named r p (pad_name ws p is.1) (new_name r p.name here) old)
named_form known r (w ∷ ws) (Clock xs) t is here adds old =
    let P : Reading → Type 0 = λ q. Named q.inputs q.outputs in subst P (sym adds.2) old

named_lines : (known : Option Pads) (r t : Reading) (ls : List (List Piece)) → Reads known r ls t
    → Named r.inputs r.outputs → Named t.inputs t.outputs
named_lines known r t [] h old = let P : Reading → Type 0 = λ q. Named q.inputs q.outputs in subst P h old
named_lines known r t (l ∷ ls) h old =
    named_lines known h.0 t ls h.2 (named_form known r l (h.1).form h.0 (h.1).is (h.1).«in_place» (h.1).adds old)

-- the pads of what was read may be pads
pub named_read : (known : Option Pads) (t : Reading) (ls : List (List Piece)) → Reads known nothing ls t
    → ArePadNames (names_of t.inputs t.outputs (λ (p : Pad). p.name))
named_read known t ls h =
    named_lines known nothing t ls h
    (record { each = λ i lt. absurd (omega arith); differ = λ i j less lt. absurd (omega arith) })
