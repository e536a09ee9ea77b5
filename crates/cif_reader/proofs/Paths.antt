-- The points of a path and the turns of a call, one after another.
use Rattle.std.proofs.Common.{◌≡◌, ℕ, zero, suc, ◌+◌, ◌-◌, ◌<◌, ◌≤◌, map, List, [], ◌∷◌, ◌++◌, refl, sym, ◌∙◌, ap}
use Rattle.std.proofs.Common.{arith, length, drop, length-drop, append_assoc, true, false, Option, Some, None}
use Rattle.std.proofs.lemmas.List.{append-nil}
use Rattle.lam_geom.specs.declared.place.Point.{Point}
use Rattle.cif_form.specs.declared.command.Turn.{Turn}
use Rattle.cif_form.specs.Readers.{Reader, goes_on, and_then, gives, past_blanks, separator_from, point_from, follows}
use Rattle.cif_form.specs.Readers.{tail_from, path_on, path_from, path_here, others, turn_from, turns_on, turns_from}
use Rattle.cif_form.specs.Readers.{turns_here}
use Rattle.cif_reader.specs.Capped.{cut_point, cut_path, cut_turn, cut_turns}
use Rattle.cif_reader.specs.Finding.{IsFound}

-- what is read behind what was read
abbrev pub behind : {X : Type 0} → List X → Option (List X × List ℕ) → Option (List X × List ℕ)
behind before r = goes_on (gives (λ xs. before ++ xs)) r

pub behind_nothing : {X : Type 0} (r : Option (List X × List ℕ)) → r ≡ behind [] r
behind_nothing None = refl
behind_nothing (Some r) = refl

pub behind_one : {X : Type 0} (before : List X) (x : X) (r : Option (List X × List ℕ))
    → behind before (goes_on (gives (λ xs. x ∷ xs)) r) ≡ behind (before ++ x ∷ []) r
behind_one before x None = refl
behind_one before x (Some r) = ap (λ xs. Some (xs, r.1)) (sym (append_assoc before (x ∷ []) r.0))

cut_more : {X : Type 0} (cut : X → X) (before : List X) (x : X)
    → map cut before ++ cut x ∷ [] ≡ map cut (before ++ x ∷ [])
cut_more cut [] x = refl
cut_more cut (b ∷ before) x = ap (λ t. cut b ∷ t) (cut_more cut before x)

-- of a list that is read from a place on, what was read so far: the rest is read by a reader of n elements at most
pub record SoFar {X : Type 0} (cut : X → X) (whole : Option (List X × List ℕ)) (reader : ℕ → Reader (List X))
    (bytes : List ℕ) (from : ℕ) (xs : List X) : Type 0 where
  pub before : List X
  pub most : ℕ
  pub cut_is : xs ≡ map cut before
  pub enough : length bytes ≤ from + most
  pub same : whole ≡ behind before (reader most (drop from bytes))

begins : {X : Type 0} (cut : X → X) (reader : ℕ → Reader (List X)) (bytes : List ℕ) (at : ℕ) (xs : List X) → xs ≡ []
    → (let t = drop at bytes in SoFar cut (reader (length t) t) reader bytes at xs)
begins cut reader bytes at xs none = record {
  before = [];
  most = length (drop at bytes);
  cut_is = none;
  enough = let e = length-drop at bytes in omega arith;
  same = behind_nothing (reader (length (drop at bytes)) (drop at bytes));
}

-- an element was read
one_more : {X : Type 0} (cut : X → X) (whole : Option (List X × List ℕ)) (reader : ℕ → Reader (List X))
    (bytes : List ℕ) (from next n : ℕ) (xs : List X) (value exact : X)
    → (s : SoFar cut whole reader bytes from xs) → s.most ≡ suc n → value ≡ cut exact → length bytes ≤ next + n
    → reader (suc n) (drop from bytes) ≡ goes_on (gives (λ xs. exact ∷ xs)) (reader n (drop next bytes))
    → SoFar cut whole reader bytes next (xs ++ value ∷ [])
one_more cut whole reader bytes from next n xs value exact s m v e h = record {
  before = s.before ++ exact ∷ [];
  most = n;
  cut_is = (λ i. s.cut_is i ++ v i ∷ []) ∙ cut_more cut s.before exact;
  enough = e;
  same = s.same ∙ ap (λ n. behind s.before (reader n (drop from bytes))) m ∙ ap (behind s.before) h
      ∙ behind_one s.before exact (reader n (drop next bytes));
}

one_left : {X : Type 0} (cut : X → X) (whole : Option (List X × List ℕ)) (reader : ℕ → Reader (List X))
    (bytes : List ℕ) (from end : ℕ) (xs : List X)
    → (s : SoFar cut whole reader bytes from xs) → from < end → end ≤ length bytes
    → (n : ℕ) × (s.most ≡ suc n) × (length bytes ≤ end + n)
one_left cut whole reader bytes from end xs s h k = let e = s.enough in (s.most - 1, omega arith, omega arith)

-- ---- paths

abbrev pub PathSoFar : List ℕ → ℕ → ℕ → List Point → Type 0
PathSoFar bytes at from points = SoFar cut_point (path_here (drop at bytes)) path_from bytes from points

pub path_begins : (bytes : List ℕ) (at : ℕ) (points : List Point) → points ≡ [] → PathSoFar bytes at at points
path_begins bytes at points none = begins cut_point path_from bytes at points none

tail_follows : {A : Type 0} (usual : A) (p : Reader A) (text : List ℕ) → follows text ≡ true
    → tail_from usual p text ≡ p text
tail_follows usual p text h = rw (h, tail_from) refl

tail_lacks : {A : Type 0} (usual : A) (p : Reader A) (text : List ℕ) → follows text ≡ false
    → tail_from usual p text ≡ Some (usual, text)
tail_lacks usual p text h = rw (h, tail_from) refl

at_point : (bytes : List ℕ) (from end n : ℕ) (value : Point)
    → (f : IsFound cut_point (point_from (drop from bytes)) bytes from value end)
    → path_from (suc n) (drop from bytes) ≡ path_on (path_from n) f.exact (drop end bytes)
at_point bytes from end n value f = ap (goes_on (path_on (path_from n))) f.found

pub path_goes_on : (bytes : List ℕ) (at from end next : ℕ) (points : List Point) (value : Point)
    → PathSoFar bytes at from points
    → IsFound cut_point (point_from (drop from bytes)) bytes from value end → from < end
    → follows (drop end bytes) ≡ true
    → separator_from (drop end bytes) ≡ Some (tt, drop next bytes) → end < next
    → PathSoFar bytes at next (points ++ value ∷ [])
path_goes_on bytes at from end next points value s f less go sep more =
    let (n, m, e) = one_left cut_point (path_here (drop at bytes)) path_from bytes from end points s less f.within in
    let on : path_on (path_from n) f.exact (drop end bytes)
    ≡ and_then separator_from (others (path_from n) f.exact) (drop end bytes) =
    tail_follows (f.exact ∷ []) (and_then separator_from (others (path_from n) f.exact)) (drop end bytes) go in
    one_more cut_point (path_here (drop at bytes)) path_from bytes from next n points value f.exact s m f.value_is
    (omega arith)
    (at_point bytes from end n value f ∙ on ∙ ap (goes_on (others (path_from n) f.exact)) sep)

pub path_ends : (bytes : List ℕ) (at from end : ℕ) (points : List Point) (value : Point)
    → PathSoFar bytes at from points → at ≤ from
    → IsFound cut_point (point_from (drop from bytes)) bytes from value end → from < end
    → follows (drop end bytes) ≡ false
    → IsFound cut_path (path_here (drop at bytes)) bytes at (points ++ value ∷ []) end
path_ends bytes at from end points value s le f less stop =
    let (n, m, e) = one_left cut_point (path_here (drop at bytes)) path_from bytes from end points s less f.within in
    let on : path_on (path_from n) f.exact (drop end bytes) ≡ Some (f.exact ∷ [], drop end bytes) =
    tail_lacks (f.exact ∷ []) (and_then separator_from (others (path_from n) f.exact)) (drop end bytes) stop in
    record {
      exact = s.before ++ f.exact ∷ [];
      found = s.same ∙ ap (λ n. behind s.before (path_from n (drop from bytes))) m
          ∙ ap (behind s.before) (at_point bytes from end n value f ∙ on);
      value_is = (λ i. s.cut_is i ++ f.value_is i ∷ []) ∙ cut_more cut_point s.before f.exact;
      behind = omega arith;
      within = f.within;
    }

pub path_lacks : (bytes : List ℕ) (at from : ℕ) (points : List Point) → PathSoFar bytes at from points
    → point_from (drop from bytes) ≡ None → path_here (drop at bytes) ≡ None
path_lacks bytes at from points s h = s.same ∙ ap (behind s.before) (none s.most)
  where
    none : (n : ℕ) → path_from n (drop from bytes) ≡ None
    none zero = refl
    none (suc n) = ap (goes_on (path_on (path_from n))) h

pub path_stops : (bytes : List ℕ) (at from end : ℕ) (points : List Point) (value : Point)
    → PathSoFar bytes at from points
    → IsFound cut_point (point_from (drop from bytes)) bytes from value end → from < end
    → follows (drop end bytes) ≡ true
    → separator_from (drop end bytes) ≡ None → path_here (drop at bytes) ≡ None
path_stops bytes at from end points value s f less go sep =
    let (n, m, e) = one_left cut_point (path_here (drop at bytes)) path_from bytes from end points s less f.within in
    let on : path_on (path_from n) f.exact (drop end bytes)
    ≡ and_then separator_from (others (path_from n) f.exact) (drop end bytes) =
    tail_follows (f.exact ∷ []) (and_then separator_from (others (path_from n) f.exact)) (drop end bytes) go in
    s.same ∙ ap (λ n. behind s.before (path_from n (drop from bytes))) m
    ∙ ap (behind s.before) (at_point bytes from end n value f ∙ on ∙ ap (goes_on (others (path_from n) f.exact)) sep)

-- ---- turns

abbrev pub TurnsSoFar : List ℕ → ℕ → ℕ → List Turn → Type 0
TurnsSoFar bytes at from turns = SoFar cut_turn (turns_here (drop at bytes)) turns_from bytes from turns

pub turns_begin : (bytes : List ℕ) (at : ℕ) (turns : List Turn) → turns ≡ [] → TurnsSoFar bytes at at turns
turns_begin bytes at turns none = begins cut_turn turns_from bytes at turns none

pub turns_go_on : (bytes : List ℕ) (at from start end : ℕ) (turns : List Turn) (value : Turn)
    → TurnsSoFar bytes at from turns
    → drop start bytes ≡ past_blanks (drop from bytes) → from ≤ start
    → IsFound cut_turn (turn_from (drop start bytes)) bytes start value end → start < end
    → TurnsSoFar bytes at end (turns ++ value ∷ [])
turns_go_on bytes at from start end turns value s blank le f less =
    let (n, m, e) =
    one_left cut_turn (turns_here (drop at bytes)) turns_from bytes from end turns s (omega arith) f.within in
    one_more cut_turn (turns_here (drop at bytes)) turns_from bytes from end n turns value f.exact s m f.value_is e
    (ap (λ t. turns_on (drop from bytes) (turns_from n) (turn_from t)) (sym blank)
    ∙ ap (turns_on (drop from bytes) (turns_from n)) f.found)

pub turns_end : (bytes : List ℕ) (at from start : ℕ) (turns : List Turn) → TurnsSoFar bytes at from turns → at ≤ from
    → from ≤ length bytes
    → drop start bytes ≡ past_blanks (drop from bytes) → turn_from (drop start bytes) ≡ None
    → IsFound cut_turns (turns_here (drop at bytes)) bytes at turns from
turns_end bytes at from start turns s le within blank h = record {
  exact = s.before;
  found = s.same ∙ ap (behind s.before) (none s.most) ∙ ap (λ ts. Some (ts, drop from bytes)) (append-nil s.before);
  value_is = s.cut_is;
  behind = le;
  within = within;
}
  where
    none : (n : ℕ) → turns_from n (drop from bytes) ≡ Some ([], drop from bytes)
    none zero = refl
    none (suc n) = ap (λ t. turns_on (drop from bytes) (turns_from n) (turn_from t)) (sym blank)
        ∙ ap (turns_on (drop from bytes) (turns_from n)) h
