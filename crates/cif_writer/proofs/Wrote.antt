-- One text written behind another.
use Rattle.std.proofs.Common.{◌≡◌, ℕ, suc, ◌+◌, ◌<◌, List, ◌∷◌, ◌++◌, sym, ◌∙◌, ap, subst, length, take, drop, get_or}
use Rattle.std.proofs.Common.{drop-cons, arith, Option, Some, None, Result, Ok, Err, append_assoc}
use Rattle.std.proofs.lemmas.List.{length-append, take_all, take-append-le}
use Rattle.std.proofs.Math.Seq.{take-append-add}
use Rattle.std.specs.Prelude.{OnOk, OnErr}
use Rattle.outside.specs.Outside.{WhereTold, Gains}
use Rattle.outside.specs.Piece.{TakesAll}

-- what was held gained this text
abbrev pub Wrote : Option (List ℕ) → Option (List ℕ) → List ℕ → Type 0
Wrote a b xs = WhereTold (Gains xs) a b

pub wrote_more : (a b c : Option (List ℕ)) (xs ys : List ℕ) → Wrote a b xs → Wrote b c ys → Wrote a c (xs ++ ys)
wrote_more a b None xs ys h k = k
wrote_more a None (Some z) xs ys h k = absurd k
wrote_more None (Some y) (Some z) xs ys h k = absurd h
wrote_more (Some x) (Some y) (Some z) xs ys h k = k ∙ ap (λ t. t ++ ys) h ∙ append_assoc x xs ys

-- a whole text
pub wrote_all : {T E : Type 0} (a b : Option (List ℕ)) (xs : List ℕ) (u : T)
    → TakesAll {T = T} {E = E} Gains a b xs (Ok u) → Wrote a b xs
wrote_all a b xs u h =
    let P : List ℕ → Type 0 = λ t. Wrote a b t in
    subst P (take_all h.count xs (omega (arith, h.all))) h.taken

-- a text behind what was written
pub wrote_then : {T E : Type 0} (a b c : Option (List ℕ)) (xs ys : List ℕ) (r : Result T E) → Wrote a b xs
    → TakesAll {T = T} {E = E} Gains b c ys r → TakesAll {T = T} {E = E} Gains a c (xs ++ ys) r
wrote_then {T} {E} a b c xs ys r h k = record {
  count = length xs + k.count;
  within = omega (arith, length-append xs ys, k.within);
  all = whole r k.all;
  cut = part r k.cut;
  taken = rw take-append-add (wrote_more a b c xs (take k.count ys) h k.taken);
}
  where
    whole : (q : Result T E) → OnOk q (k.count ≡ length ys) → OnOk q (length xs + k.count ≡ length (xs ++ ys))
    whole (Ok u) e = omega (arith, e, length-append xs ys)
    whole (Err f) e = e

    part : (q : Result T E) → OnErr q (k.count < length ys) → OnErr q (length xs + k.count < length (xs ++ ys))
    part (Ok u) e = e
    part (Err f) e = omega (arith, e, length-append xs ys)

-- a text that was cut short, before another
pub cut_before : {S T E F : Type 0} (a b : Option (List ℕ)) (xs ys : List ℕ) (e : E) (f : F)
    → TakesAll {T = S} {E = E} Gains a b xs (Err e)
    → TakesAll {T = T} {E = F} Gains a b (xs ++ ys) (Err f)
cut_before a b xs ys e f h = record {
  count = h.count;
  within = omega (arith, length-append xs ys, h.within);
  all = h.all;
  cut = omega (arith, length-append xs ys, h.cut);
  taken = let P : List ℕ → Type 0 = λ t. Wrote a b t in subst P (sym (take-append-le h.count xs ys h.within)) h.taken;
}

-- of a whole text all but the rest was written
pub record Going (a b : Option (List ℕ)) (whole rest : List ℕ) : Type 0 where
  pub front : List ℕ
  pub wrote : Wrote a b front
  pub split : whole ≡ front ++ rest

pub going_on : {T E : Type 0} (a b c : Option (List ℕ)) (whole rest xs more : List ℕ) (u : T) → rest ≡ xs ++ more
    → Going a b whole rest
    → TakesAll {T = T} {E = E} Gains b c xs (Ok u) → Going a c whole more
going_on a b c whole rest xs more u e g h = record {
  front = g.front ++ xs;
  wrote = wrote_more a b c g.front xs g.wrote (wrote_all b c xs u h);
  split = g.split ∙ ap (λ t. g.front ++ t) e ∙ sym (append_assoc g.front xs more);
}

pub going_cut : {S T E F : Type 0} (a b c : Option (List ℕ)) (whole rest xs more : List ℕ) (e : E) (f : F)
    (r : Result T F) → rest ≡ xs ++ more → r ≡ Err f
    → Going a b whole rest → TakesAll {T = S} {E = E} Gains b c xs (Err e) → TakesAll {T = T} {E = F} Gains a c whole r
going_cut {S} {T} {E} {F} a b c whole rest xs more e f r split is g h =
    let P : List ℕ → Type 0 = λ t. TakesAll {T = T} {E = F} Gains a c t r in
    let Q : Result T F → Type 0 = λ q. TakesAll {T = T} {E = F} Gains b c (xs ++ more) q in
    subst P (sym (g.split ∙ ap (λ t. g.front ++ t) split))
    (wrote_then a b c g.front (xs ++ more) r g.wrote (subst Q (sym is) (cut_before {S = S} {T = T} b c xs more e f h)))

-- what a function writes of a list's rest is what it writes of the element there, and of the rest behind it
pub next_of : {X : Type 0} (texts : List X → List ℕ) (text : X → List ℕ) (xs : List X) (i : ℕ) (d : X)
    → ((x : X) (ys : List X) → texts (x ∷ ys) ≡ text x ++ texts ys)
    → i < length xs → texts (drop i xs) ≡ text (get_or xs i d) ++ texts (drop (i + 1) xs)
next_of texts text xs i d step h =
    let e : suc i ≡ i + 1 = omega arith in
    ap texts (drop-cons xs i d h) ∙ step (get_or xs i d) (drop (suc i) xs)
    ∙ ap (λ k. text (get_or xs i d) ++ texts (drop k xs)) e
