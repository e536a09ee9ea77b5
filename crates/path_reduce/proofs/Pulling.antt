-- A trace of the reduced path is one of the path, where what is left out settles as it may.
use Rattle.std.proofs.Common.{◌≡◌, suc, List, [], ◌∷◌, Option, Some, None, Bool, true, false, cond, map, refl}
use Rattle.std.proofs.Common.{sym, ◌∙◌, ap, arith}
use Rattle.std.specs.Prelude.{All}
use Rattle.std.specs.List.{AllZip}
use Rattle.mp_base.specs.declared.value.Trit.{Trit}
use Rattle.nor_net.specs.declared.net.Phase.{Phase}
use Rattle.nor_net.specs.Elements.{Spot, Element, Given, Nor, Latched, Joined, Low}
use Rattle.nor_net.specs.Settled.{Setting, gives, is_open, nor_value, IsSolution}
use Rattle.nor_net.specs.Clock.{RunsBy, IsTraceBy, settings_until_outputs, settings_after_outputs}
use Rattle.nor_net.specs.Laws.{Covers}
use Rattle.nor_net.proofs.Exists.{settled_exists}
use Rattle.path_form.specs.declared.path.DataPath.{DataPath}
use Rattle.path_form.specs.Showing.{path_nets}
use Rattle.path_reduce.specs.Reducing.{Image, net, low, high, left_out, is_kept, image_value, pulled, sources, Reduces}
use Rattle.path_reduce.proofs.Covering.{grid, most, covers}

map_same : (v w : Spot → Trit) (ms : List Spot) → All (λ m. w m ≡ v m) ms → map w ms ≡ map v ms
map_same v w [] h = refl
map_same v w (m ∷ ms) h =
    let rest : All (λ m. w m ≡ v m) ms = λ k d l. h (suc k) d (omega arith) in
    ap (λ x. x ∷ map w ms) (h 0 m (omega arith)) ∙ ap (λ xs. v m ∷ xs) (map_same v w ms rest)

-- what is given where a net is held
abbrev held : Option Element → Option Element
held None = None
held (Some e) = Some Given

image_same : (v w : Spot → Trit) → ((n : Spot) → v n ≡ w n) → (i : Image) → image_value v i ≡ image_value w i
image_same v w h (net m) = h m
image_same v w h low = refl
image_same v w h high = refl
image_same v w h left_out = refl

-- what is left out has one value, of whatever values
out_same : (v w : Spot → Trit) (i : Image) → is_kept i ≡ false → image_value v i ≡ image_value w i
out_same v w left_out k = refl
out_same v w (net m) k = absurd (cc)
out_same v w low k = absurd (cc)
out_same v w high k = absurd (cc)

module _ (p q : DataPath) (image : Spot → Image) (red : Reduces p q image) where
  -- the values of the path are those of the reduced one where nets are kept
  abbrev pub Agrees : (Spot → Trit) → (Spot → Trit) → Type 0
  Agrees v w = (n : Spot) → is_kept (image n) ≡ true → w n ≡ pulled image v n

  -- the nets of the path, where those that are kept are held
  abbrev rest_at : Bool → Option Element → Option Element
  rest_at k o = cond k (held o) o

  abbrev rest : Spot → Option Element
  rest n = rest_at (is_kept (image n)) (path_nets p n)

  some_of : (k : Bool) (o : Option Element) (e : Element) → rest_at k o ≡ Some e → (f : Element) × (o ≡ Some f)
  some_of k (Some f) e h = (f, refl)
  some_of true None e h = absurd (cc)
  some_of false None e h = absurd (cc)

  rest_covered : Covers (grid (suc p.width) (most p)) rest
  rest_covered n e h =
      let f = some_of (is_kept (image n)) (path_nets p n) e h in covers p n f.0 f.1

  module _ (phase : Option Phase) (given before v b : Spot → Trit)
      (sol : IsSolution (record { nets = path_nets q; phase = phase; given = given; before = before }) v)
      (start : Agrees before b) where
    abbrev ours : Setting
    ours = record { nets = path_nets p; phase = phase; given = pulled image given; before = b }

    abbrev loose : Setting
    loose = record { nets = rest; phase = phase; given = pulled image v; before = b }

    abbrev theirs : Setting
    theirs = record { nets = path_nets q; phase = phase; given = pulled image given; before = pulled image before }

    module _ (w : Spot → Trit) (settled : IsSolution loose w) where
      kept_agree : Agrees v w
      kept_agree n k = by_net (path_nets p n) refl
        where
          by_net : (o : Option Element) → path_nets p n ≡ o → w n ≡ pulled image v n
          by_net None at = let f = red.only_nets n at in absurd (cc)
          by_net (Some e) at = settled n Given (ap (λ x. rest_at x (path_nets p n)) k ∙ ap held at)

      all_agree : (ms : List Spot) → All (λ m. is_kept (image m) ≡ true) ms → All (λ m. w m ≡ pulled image v m) ms
      all_agree ms h k d l = kept_agree _ (h k d l)

      -- where it is kept, its sources are
      kept_gives : (n : Spot) (e : Element) → is_kept (image n) ≡ true
          → All (λ m. is_kept (image m) ≡ true) (sources e)
          → gives theirs (pulled image v) n e ≡ gives ours w n e
      kept_gives n Given k h = refl
      kept_gives n (Nor inputs) k h =
          ap nor_value (sym (map_same (pulled image v) w inputs (all_agree inputs h)))
      kept_gives n (Latched ph source) k h = by_phase (is_open phase ph)
        where
          by_phase : (o : Bool) → cond o (pulled image v source) (pulled image before n) ≡ cond o (w source) (b n)
          by_phase true = sym (kept_agree source (h 0 source (omega arith)))
          by_phase false = sym (start n k)
      kept_gives n (Joined other) k h = sym (kept_agree other (h 0 other (omega arith)))
      kept_gives n Low k h = refl

      -- where it is left out, it settles
      out_gives : (n : Spot) (e : Element) → is_kept (image n) ≡ false → gives loose w n e ≡ gives ours w n e
      out_gives n Given k = out_same v given (image n) k
      out_gives n (Nor inputs) k = refl
      out_gives n (Latched ph source) k = refl
      out_gives n (Joined other) k = refl
      out_gives n Low k = refl

      solves : IsSolution ours w
      solves n e at = by_kept (is_kept (image n)) refl
        where
          by_kept : (k : Bool) → is_kept (image n) ≡ k → w n ≡ gives ours w n e
          by_kept true k =
              kept_agree n k
              ∙ red.follows n e at k (record { nets = path_nets q; phase = phase; given = given; before = before }) v
              refl sol
              ∙ kept_gives n e k (red.closed n e at k)
          by_kept false k =
              settled n e (ap (λ x. rest_at x (path_nets p n)) k ∙ at) ∙ out_gives n e k

    pub extended : (w : Spot → Trit) × IsSolution ours w × Agrees v w
    extended =
        let s = settled_exists loose (grid (suc p.width) (most p)) rest_covered in
        (s.0, solves s.0 s.1.solution, kept_agree s.0 s.1.solution)

  runs : (given : Spot → Trit) (ps : List (Option Phase)) (before after b : Spot → Trit) → Agrees before b
      → RunsBy IsSolution (path_nets q) given ps before after
      → (a : Spot → Trit) × RunsBy IsSolution (path_nets p) (pulled image given) ps b a × Agrees after a
  runs given [] before after b start h =
      (b, (λ n. refl), λ n k. start n k ∙ sym (image_same after before h (image n)))
  runs given (ph ∷ ps) before after b start h =
      let x = extended ph given before h.0 b h.1 start in
      let r = runs given ps h.0 after x.0 x.2 h.2 in
      (r.0, (x.0, x.1, r.1), r.2)

  pub trace : (before b : Spot → Trit) (givens showns : List (Spot → Trit)) (after : Spot → Trit) → Agrees before b
      → IsTraceBy IsSolution (path_nets q) before givens showns after
      → (ours : List (Spot → Trit)) × (end : Spot → Trit)
      × IsTraceBy IsSolution (path_nets p) b (map (pulled image) givens) ours end × AllZip Agrees showns ours
  trace before b [] [] after start h = ([], b, (λ n. refl), tt)
  trace before b [] (s ∷ ss) after start h = absurd h
  trace before b (g ∷ gs) [] after start h = absurd h
  trace before b (g ∷ gs) (s ∷ ss) after start h =
      let until = runs g settings_until_outputs before s b start h.1.until in
      let after_outputs = runs g settings_after_outputs s h.0 until.0 until.2 h.1.rest in
      let r = trace h.0 after_outputs.0 gs ss after after_outputs.2 h.2 in
      (until.0 ∷ r.0, r.1, (after_outputs.0, record { until = until.1; rest = after_outputs.1 }, r.2), (until.2, r.3))
