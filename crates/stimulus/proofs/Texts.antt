-- The texts of lines, pad by pad.
use Rattle.std.proofs.Common.{◌≡◌, ℕ, zero, suc, ◌+◌, ◌<◌, List, [], ◌∷◌, ◌++◌, sym, ◌∙◌, ap, length, take, drop, arith}
use Rattle.std.proofs.Common.{get_or, append_assoc, codes}
use Rattle.std.proofs.lemmas.List.{append-nil}
use Rattle.mp_base.specs.declared.pad.Pad.{Pad}
use Rattle.mp_base.specs.declared.value.TritWord.{TritWord}
use Rattle.stimulus.specs.Bits.{pad_trits, trits_of}
use Rattle.stimulus.specs.Transcript.{pad_text, pad_texts}

-- the text of a pad's word, and of the words of pads
abbrev pub word_text : Pad → TritWord → List ℕ
word_text pad word = pad_text pad (pad_trits pad word)

abbrev pub word_texts : List Pad → List TritWord → List ℕ
word_texts pads words = pad_texts pads (trits_of pads words)

-- the texts of pads, up to one of them, and behind it
pub texts_split : (ps : List Pad) (vs : List TritWord) (i : ℕ) (p : Pad) (v : TritWord) → i < length ps
    → i < length vs → p ≡ get_or ps i p → v ≡ get_or vs i v
    → word_texts ps vs
    ≡ word_texts (take i ps) (take i vs) ++ (word_text p v ++ word_texts (drop (suc i) ps) (drop (suc i) vs))
texts_split [] vs i p v lt less e f = absurd (omega arith)
texts_split (q ∷ ps) [] i p v lt less e f = absurd (omega arith)
texts_split (q ∷ ps) (w ∷ vs) zero p v lt less e f =
    ap (λ x. word_text x w ++ word_texts ps vs) (sym e) ∙ ap (λ x. word_text p x ++ word_texts ps vs) (sym f)
texts_split (q ∷ ps) (w ∷ vs) (suc i) p v lt less e f =
    ap (λ t. word_text q w ++ t) (texts_split ps vs i p v (omega arith) (omega arith) e f)
    ∙ sym (append_assoc (word_text q w) (word_texts (take i ps) (take i vs))
    (word_text p v ++ word_texts (drop (suc i) ps) (drop (suc i) vs)))

pub texts_more : (ps : List Pad) (vs : List TritWord) (i : ℕ) (p : Pad) (v : TritWord) → i < length ps → i < length vs
    → p ≡ get_or ps i p → v ≡ get_or vs i v
    → word_texts (take (i + 1) ps) (take (i + 1) vs) ≡ word_texts (take i ps) (take i vs) ++ word_text p v
texts_more [] vs i p v lt less e f = absurd (omega arith)
texts_more (q ∷ ps) [] i p v lt less e f = absurd (omega arith)
texts_more (q ∷ ps) (w ∷ vs) zero p v lt less e f =
    append-nil (word_text q w) ∙ ap (λ x. word_text x w) (sym e) ∙ ap (λ x. word_text p x) (sym f)
texts_more (q ∷ ps) (w ∷ vs) (suc i) p v lt less e f =
    let n : suc i + 1 ≡ suc (i + 1) = omega arith in
    ap (λ k. word_texts (take k (q ∷ ps)) (take k (w ∷ vs))) n
    ∙ ap (λ t. word_text q w ++ t) (texts_more ps vs i p v (omega arith) (omega arith) e f)
    ∙ sym (append_assoc (word_text q w) (word_texts (take i ps) (take i vs)) (word_text p v))

-- a line, parted at one of its pads
pub line_split : (start : List ℕ) (ps : List Pad) (vs : List TritWord) (i : ℕ) (p : Pad) (v : TritWord)
    → i < length ps → i < length vs → p ≡ get_or ps i p → v ≡ get_or vs i v
    → start ++ (word_texts ps vs ++ codes "\n")
    ≡ (start ++ word_texts (take i ps) (take i vs)) ++
    (word_text p v ++ (word_texts (drop (suc i) ps) (drop (suc i) vs) ++ codes "\n"))
line_split start ps vs i p v lt less e f =
    let front = word_texts (take i ps) (take i vs) in
    let rest = word_texts (drop (suc i) ps) (drop (suc i) vs) in
    ap (λ t. start ++ (t ++ codes "\n")) (texts_split ps vs i p v lt less e f)
    ∙ ap (λ t. start ++ t)
    (append_assoc front (word_text p v ++ rest) (codes "\n") ∙ ap (λ t. front ++ t)
    (append_assoc (word_text p v) rest (codes "\n")))
    ∙ sym (append_assoc start front (word_text p v ++ (rest ++ codes "\n")))
