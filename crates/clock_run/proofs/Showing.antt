-- What output pads show, pad by pad.
use Rattle.std.proofs.Common.{◌≡◌, ◌∙◌, ℕ, zero, suc, ◌+◌, ◌<◌, ◌≤◌, ◌^◌, List, [], ◌∷◌, ◌++◌, length, get_or, map, set}
use Rattle.std.proofs.Common.{take, refl, sym, subst, arith}
use Rattle.std.specs.List.{AllZip}
use Rattle.std.proofs.Math.Seq.{take-suc-set}
use Rattle.std.proofs.lemmas.List.{take_all}
use Rattle.mp_base.specs.declared.value.Trit.{Trit}
use Rattle.mp_base.specs.declared.value.TritWord.{TritWord}
use Rattle.mp_base.specs.declared.pad.Pad.{Pad}
use Rattle.mp_base.proofs.Zips.{zip_at, zip_length}
use Rattle.switch_net.specs.declared.network.Network.{Network}
use Rattle.switch_net.specs.Pads.{bit_labels}
use Rattle.mp_base.specs.PadBits.{bit_count}
use Rattle.switch_net.specs.Clock.{IsLabelled, HasValue, Shows}
use Rattle.stimulus.specs.Bits.{low_trits, pad_trits, trits_of}
use Rattle.clock_run.specs.Plan.{AreNodesOf}
use Rattle.clock_run.proofs.Splitting.{length_labels}

-- the pad shows the bits of this word, which is 0 past its width
pub record IsShown (net : Network) (values : ℕ → Trit) (pad : Pad) (word : TritWord) : Type 0 where
  pub shows : Shows net values pad (pad_trits pad word)
  pub narrow : word.known < 2 ^ bit_count pad.width

values_of : (net : Network) (values : ℕ → Trit) (names : List (List ℕ)) (nodes : List ℕ)
    → AllZip (IsLabelled net) names nodes
    → AllZip (HasValue net values) names (map values nodes)
values_of net values [] [] z = tt
values_of net values [] (n ∷ ns) z = absurd z
values_of net values (x ∷ xs) [] z = absurd z
values_of net values (x ∷ xs) (n ∷ ns) z = ((n, z.0, refl), values_of net values xs ns z.1)

pub pad_shown : (net : Network) (values : ℕ → Trit) (pad : Pad) (nodes : List ℕ) (word : TritWord)
    → AreNodesOf net pad nodes
    → word.known < 2 ^ length nodes → low_trits (length nodes) word ≡ map values nodes → IsShown net values pad word
pad_shown net values pad nodes word z narrow bits =
    let l : length nodes ≡ bit_count pad.width =
    sym (zip_length (IsLabelled net) (bit_labels pad) nodes z) ∙ length_labels pad in
    record {
      shows = subst (λ n. AllZip (HasValue net values) (bit_labels pad) (low_trits n word)) l
          (subst (λ bs. AllZip (HasValue net values) (bit_labels pad) bs) (sym bits)
          (values_of net values (bit_labels pad) nodes z));
      narrow = subst (λ n. word.known < 2 ^ n) l narrow;
    }

-- one more element beside the next
zip_next : {A B : Type 0} (R : A → B → Type 0) (xs : List A) (ys : List B) (y : B) (k : ℕ) → k < length xs
    → AllZip R (take k xs) ys
    → ((x : A) → x ≡ get_or xs k x → R x y) → AllZip R (take (suc k) xs) (ys ++ y ∷ [])
zip_next R [] ys y k lt h f = absurd (omega (arith, lt))
zip_next R (x ∷ xs) [] y zero lt h f = (f x refl, tt)
zip_next R (x ∷ xs) (z ∷ ys) y zero lt h f = absurd h
zip_next R (x ∷ xs) [] y (suc k) lt h f = absurd h
zip_next R (x ∷ xs) (z ∷ ys) y (suc k) lt h f = (h.0, zip_next R xs ys y k (omega (arith, lt)) h.1 f)

pub shown_more : (net : Network) (values : ℕ → Trit) (pads : List Pad) (own : List (List ℕ)) (words : List TritWord)
    (k : ℕ)
    (nodes : List ℕ) (word : TritWord)
    → k < length own → k < length words → nodes ≡ get_or own k nodes → AllZip (AreNodesOf net) pads own
    → word.known < 2 ^ length nodes → low_trits (length nodes) word ≡ map values nodes
    → AllZip (IsShown net values) (take k pads) (take k words)
    → AllZip (IsShown net values) (take (k + 1) pads) (take (k + 1) (set words k word))
shown_more net values pads own words k nodes word lt room is z narrow bits h =
    let e : suc k ≡ k + 1 = omega arith in
    let l : length pads ≡ length own = zip_length (AreNodesOf net) pads own z in
    subst (λ n. AllZip (IsShown net values) (take n pads) (take n (set words k word))) e
    (subst (λ ws. AllZip (IsShown net values) (take (suc k) pads) ws) (sym (take-suc-set words k word room))
    (zip_next (IsShown net values) pads (take k words) word k (omega (arith, lt, l)) h
    (λ pad at. pad_shown net values pad nodes word (here pad at (omega (arith, lt, l))) narrow bits)))
  where
    here : (pad : Pad) → pad ≡ get_or pads k pad → k < length pads → AreNodesOf net pad nodes
    here pad at inside =
        subst (λ ns. AreNodesOf net pad ns) (sym is)
        (subst (λ (p : Pad). AreNodesOf net p (get_or own k nodes)) (sym at)
        (zip_at (AreNodesOf net) pads own z k pad nodes inside))

-- all of them
pub all_shown : (net : Network) (values : ℕ → Trit) (pads : List Pad) (words : List TritWord) (k : ℕ) → length pads ≤ k
    → length words ≤ k
    → AllZip (IsShown net values) (take k pads) (take k words) → AllZip (IsShown net values) pads words
all_shown net values pads words k l r h =
    subst (λ ps. AllZip (IsShown net values) ps words) (take_all k pads l)
    (subst (λ ws. AllZip (IsShown net values) (take k pads) ws) (take_all k words r) h)

-- what all pads show
pub all_show : (net : Network) (values : ℕ → Trit) (pads : List Pad) (words : List TritWord)
    → AllZip (IsShown net values) pads words
    → AllZip (Shows net values) pads (trits_of pads words)
all_show net values [] [] h = tt
all_show net values [] (w ∷ ws) h = absurd h
all_show net values (p ∷ ps) [] h = absurd h
all_show net values (p ∷ ps) (w ∷ ws) h = (h.0.shows, all_show net values ps ws h.1)

pub all_narrow : (net : Network) (values : ℕ → Trit) (pads : List Pad) (words : List TritWord)
    → AllZip (IsShown net values) pads words
    → AllZip (λ (pad : Pad) (word : TritWord). word.known < 2 ^ bit_count pad.width) pads words
all_narrow net values [] [] h = tt
all_narrow net values [] (w ∷ ws) h = absurd h
all_narrow net values (p ∷ ps) [] h = absurd h
all_narrow net values (p ∷ ps) (w ∷ ws) h = (h.0.narrow, all_narrow net values ps ws h.1)
