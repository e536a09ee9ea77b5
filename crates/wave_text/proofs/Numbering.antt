-- Texts of things that have numbers, one more at a time.
use Rattle.std.proofs.Common.{◌≡◌, ℕ, suc, ◌+◌, ◌<◌, List, [], ◌∷◌, ◌++◌, length, get_or, take, sym, ap, ◌∙◌, arith}
use Rattle.std.proofs.Common.{append_assoc, if◌then◌else◌, is_ok, Err, Ok, OnOk, Result}
use Rattle.std.proofs.lemmas.List.{append-nil, length-take-le, take_more}
use Rattle.wave_text.specs.Numbered.{numbered}

-- text behind text
pub behind : (old a b : List ℕ) {mid new : List ℕ} → mid ≡ old ++ a → new ≡ mid ++ b → new ≡ old ++ (a ++ b)
behind old a b p q = q ∙ ap (λ t. t ++ b) p ∙ append_assoc old a b

-- the same of bytes that are added last
pub ended : {T E : Type 0} (r : Result T E) (old a b : List ℕ) {mid new : List ℕ}
    → mid ≡ old ++ a → new ≡ (if is_ok r then mid ++ b else mid) → OnOk r (new ≡ old ++ (a ++ b))
ended (Ok v) old a b p e = behind old a b p e
ended (Err v) old a b p e = tt

-- texts of things behind others, of which there are so many that these have numbers from n on
joined : {A : Type 0} (text : ℕ → A → List ℕ) (k n : ℕ) (xs ys : List A) → k + length xs ≡ n
    → numbered text k (xs ++ ys) ≡ numbered text k xs ++ numbered text n ys
joined text k n [] ys e = ap (λ m. numbered text m ys) (let s : k ≡ n = omega arith in s)
joined text k n (x ∷ xs) ys e =
    ap (λ t. text k x ++ t) (joined text (suc k) n xs ys (omega arith))
    ∙ sym (append_assoc (text k x) (numbered text (suc k) xs) (numbered text n ys))

-- the texts of one thing more
numbered_more : {A : Type 0} (text : ℕ → A → List ℕ) (xs : List A) (i : ℕ) (d : A) → i < length xs
    → numbered text 0 (take (i + 1) xs) ≡ numbered text 0 (take i xs) ++ text i (get_or xs i d)
numbered_more text xs i d h =
    ap (numbered text 0) (take_more xs i d h)
    ∙ joined text 0 i (take i xs) (get_or xs i d ∷ [])
    (let e : 0 + length (take i xs) ≡ i = omega (arith, length-take-le i xs (omega arith)) in e)
    ∙ ap (λ t. numbered text 0 (take i xs) ++ t) (append-nil (text i (get_or xs i d)))

-- the text of the thing x behind those of the things before it
pub more : {A : Type 0} (text : ℕ → A → List ℕ) (xs : List A) (i : ℕ) (x : A) (old : List ℕ) {mid new : List ℕ}
    → i < length xs → x ≡ get_or xs i x → mid ≡ old ++ numbered text 0 (take i xs) → new ≡ mid ++ text i x
    → new ≡ old ++ numbered text 0 (take (i + 1) xs)
more text xs i x old h is p q =
    q ∙ ap (λ t. t ++ text i x) p ∙ append_assoc old (numbered text 0 (take i xs)) (text i x)
    ∙ ap (λ y. old ++ (numbered text 0 (take i xs) ++ text i y)) is
    ∙ ap (λ t. old ++ t) (sym (numbered_more text xs i x h))

-- the same of the thing at this place
pub more_at : {A : Type 0} (text : ℕ → A → List ℕ) (xs : List A) (i : ℕ) (d : A) (old : List ℕ) {mid new : List ℕ}
    → i < length xs → mid ≡ old ++ numbered text 0 (take i xs) → new ≡ mid ++ text i (get_or xs i d)
    → new ≡ old ++ numbered text 0 (take (i + 1) xs)
more_at text xs i d old h p q =
    q ∙ ap (λ t. t ++ text i (get_or xs i d)) p
    ∙ append_assoc old (numbered text 0 (take i xs)) (text i (get_or xs i d))
    ∙ ap (λ t. old ++ t) (sym (numbered_more text xs i d h))
