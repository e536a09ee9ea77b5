-- The names of labels have bytes, and none that CIF has for something else.
use Rattle.std.proofs.Common.{◌≡◌, ◌≢◌, inl, inr, ℕ, zero, suc, ◌<◌, ◌≤◌, ◌^◌, true, false, List, [], ◌∷◌, ◌++◌}
use Rattle.std.proofs.Common.{length, map, get_or, refl, sym, ◌∙◌, subst, arith}
use Rattle.std.specs.Prelude.{All, codes, flat_map, IsTrue, not}
use Rattle.std.specs.Char.{digit_value}
use Rattle.std.specs.Fmt.{decimal}
use Rattle.std.specs.List.{list_all}
use Rattle.std.specs.Str.Parse.{AllDigits}
use Rattle.std.proofs.lemmas.Bool.{and_parts}
use Rattle.std.proofs.lemmas.Fmt.{decimal_is_IsNumeral}
use Rattle.std.proofs.lemmas.List.{length-append}
use Rattle.std.proofs.lemmas.List.Elements.{All-append, All-cons, All-nil}
use Rattle.mp_base.specs.declared.pad.Pad.{Pad}
use Rattle.mp_base.specs.declared.pad.Pads.{Pads}
use Rattle.mp_base.specs.PadNames.{is_run, is_pad_name, is_supply, supplies}
use Rattle.mp_base.specs.Token.{is_token}
use Rattle.mp_base.proofs.Tests.{false_true, true_false}
use Rattle.cif_form.specs.Labels.{IsSpace}
use Rattle.switch_net.specs.Pads.{bit_labels, chip_labels, labels_of, word_labels}

-- no byte that ends a label's name
abbrev pub IsNameByte : ℕ → Type 0
IsNameByte b = (b ≢ 59) × ¬ IsSpace b

abbrev pub IsPlainName : List ℕ → Type 0
IsPlainName name = (0 < length name) × All IsNameByte name

-- ---- bytes

unlike : (b : ℕ) → b ≢ 59 → b ≢ 32 → b ≢ 9 → b ≢ 10 → b ≢ 13 → IsNameByte b
unlike b semicolon blank tab feed back = (semicolon, space)
  where
    space : ¬ IsSpace b
    space (inl e) = blank e
    space (inr (inl e)) = tab e
    space (inr (inr (inl e))) = feed e
    space (inr (inr (inr e))) = back e

token : (b : ℕ) → is_token b ≡ true → IsNameByte b
token b t = unlike b (other 59 refl) (other 32 refl) (other 9 refl) (other 10 refl) (other 13 refl)
  where
    other : (c : ℕ) → is_token c ≡ false → b ≢ c
    other c f e = true_false (sym (subst (λ x. is_token x ≡ true) e t) ∙ f)

tokens : (name : List ℕ) → list_all is_token name ≡ true → All IsNameByte name
tokens [] t = All-nil IsNameByte
tokens (c ∷ cs) t =
    let p = and_parts (is_token c) (list_all is_token cs) t in
    All-cons IsNameByte c cs (token c p.0) (tokens cs p.1)

digit : (b : ℕ) → digit_value b < 10 → IsNameByte b
digit b h =
    unlike b (other 59 (omega arith)) (other 32 (omega arith)) (other 9 (omega arith)) (other 10 (omega arith))
    (other 13 (omega arith))
  where
    other : (c : ℕ) → 10 ≤ digit_value c → b ≢ c
    other c k e = let d : digit_value c < 10 = subst (λ x. digit_value x < 10) e h in absurd (omega arith)

digits : (ds : List ℕ) → AllDigits 10 ds → All IsNameByte ds
digits [] h = All-nil IsNameByte
digits (c ∷ cs) h = All-cons IsNameByte c cs (digit c h.0) (digits cs h.1)

dot : IsNameByte 46
dot = unlike 46 (λ e. omega arith) (λ e. omega arith) (λ e. omega arith) (λ e. omega arith) (λ e. omega arith)

-- ---- names

run : (name : List ℕ) → is_run name ≡ true → IsPlainName name
run [] h = absurd (false_true h)
run (c ∷ cs) h = (omega arith, tokens (c ∷ cs) h)

abbrev ArePlain : List (List ℕ) → Type 0
ArePlain names = All IsPlainName names

bit : (p : List ℕ) (k : ℕ) → k < 2 ^ 64 → IsPlainName p → IsPlainName (p ++ (codes "." ++ decimal k))
bit p k h plain = (
  (let l = length-append p (codes "." ++ decimal k) in let n = plain.0 in omega (arith, l, n)),
  All-append IsNameByte p (codes "." ++ decimal k) plain.1
      (All-cons IsNameByte 46 (decimal k) dot (digits (decimal k) (decimal_is_IsNumeral k h).0.1)),
)

word : (p : List ℕ) (n : ℕ) → n ≤ 64 → IsPlainName p → ArePlain (word_labels p n)
word p zero h plain = All-nil IsPlainName
word p (suc n) h plain =
    All-append IsPlainName (word_labels p n) ((p ++ (codes "." ++ decimal n)) ∷ []) (word p n (omega arith) plain)
    (All-cons IsPlainName (p ++ (codes "." ++ decimal n)) [] (bit p n (omega arith) plain) (All-nil IsPlainName))

pad_labels : (p : List ℕ) (width : ℕ) → width ≤ 64 → IsPlainName p → ArePlain (labels_of p width)
pad_labels p zero h plain = All-cons IsPlainName p [] plain (All-nil IsPlainName)
pad_labels p (suc w) h plain = word p (suc w) h plain

pads_labels : (pads : List Pad) → All (λ (p : Pad). IsPlainName p.name) pads → ArePlain (flat_map bit_labels pads)
pads_labels [] h = All-nil IsPlainName
pads_labels (p ∷ ps) h =
    All-append IsPlainName (bit_labels p) (flat_map bit_labels ps)
    (pad_labels p.name p.width p.narrow (h 0 p (omega arith)))
    (pads_labels ps (λ i d l. h (suc i) d (omega arith)))

supplies_plain : ArePlain supplies
supplies_plain =
    All-cons IsPlainName (codes "vdd") (codes "gnd" ∷ codes "phia" ∷ codes "phib" ∷ codes "phic" ∷ [])
    (run (codes "vdd") refl)
    (All-cons IsPlainName (codes "gnd") (codes "phia" ∷ codes "phib" ∷ codes "phic" ∷ []) (run (codes "gnd") refl)
    (All-cons IsPlainName (codes "phia") (codes "phib" ∷ codes "phic" ∷ []) (run (codes "phia") refl)
    (All-cons IsPlainName (codes "phib") (codes "phic" ∷ []) (run (codes "phib") refl)
    (All-cons IsPlainName (codes "phic") [] (run (codes "phic") refl) (All-nil IsPlainName)))))

-- the names of pads, of which each is a run
named : (pads : List Pad)
    → ((i : ℕ) → i < length (map (λ (p : Pad). p.name) pads)
    → IsTrue (is_pad_name (get_or (map (λ (p : Pad). p.name) pads) i [])))
    → All (λ (p : Pad). IsPlainName p.name) pads
named [] h i d l = absurd (omega arith)
named (p ∷ ps) h zero d l =
    run p.name (and_parts (is_run p.name) (not (is_supply p.name)) (h 0 (omega arith))).0
named (p ∷ ps) h (suc i) d l = named ps (λ j k. h (suc j) (omega arith)) i d (omega arith)

pub labels_plain : (pads : Pads) → ArePlain (chip_labels pads)
labels_plain pads =
    let all = named (pads.inputs ++ pads.outputs) (pads.named).each in
    All-append IsPlainName (supplies ++ flat_map bit_labels pads.inputs) (flat_map bit_labels pads.outputs)
    (All-append IsPlainName supplies (flat_map bit_labels pads.inputs) supplies_plain
    (pads_labels pads.inputs (first pads.inputs pads.outputs all)))
    (pads_labels pads.outputs (second pads.inputs pads.outputs all))
  where
    first : (xs ys : List Pad) → All (λ (p : Pad). IsPlainName p.name) (xs ++ ys)
        → All (λ (p : Pad). IsPlainName p.name) xs
    first [] ys h i d l = absurd (omega arith)
    first (x ∷ xs) ys h zero d l = h 0 d (omega arith)
    first (x ∷ xs) ys h (suc i) d l = first xs ys (λ j e k. h (suc j) e (omega arith)) i d (omega arith)

    second : (xs ys : List Pad) → All (λ (p : Pad). IsPlainName p.name) (xs ++ ys)
        → All (λ (p : Pad). IsPlainName p.name) ys
    second [] ys h = h
    second (x ∷ xs) ys h = second xs ys (λ j e k. h (suc j) e (omega arith))
