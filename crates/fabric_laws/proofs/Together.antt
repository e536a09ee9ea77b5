-- The squares of one net are joined.
use Rattle.std.proofs.Common.{ℕ, ◌≡◌, ◌+◌, ◌*◌, ◌<◌, ◌≤◌, ◌⊎◌, inl, inr, refl, sym, ◌∙◌, ap, subst, arith, Contains}
use Rattle.std.specs.Prelude.{ℤ, pos}
use Rattle.std.proofs.lemmas.Int.{ints}
use Rattle.mp_base.proofs.Members.{Member}
use Rattle.lam_geom.specs.declared.layer.Layer.{Layer}
use Rattle.lam_geom.specs.declared.layer.Layer.TheVariants.{ND, NM}
use Rattle.lam_geom.specs.declared.rect.Rect.{Rect}
use Rattle.lam_geom.specs.Squares.{Square, IsIn, Covers, covered, RectanglesAreJoined}
use Rattle.lam_geom.specs.Chains.{Chain}
use Rattle.switch_net.specs.Conductors.{ConductsOn, Conducts, Joined}
use Rattle.switch_net.specs.Conductors.Joined.{beside}
use Rattle.tile_cells.specs.Tiles.{cell}
use Rattle.fabric.specs.declared.thing.Side.{Side}
use Rattle.fabric.specs.declared.thing.Segment.{Segment}
use Rattle.fabric.specs.declared.thing.Line.{Line}
use Rattle.fabric.specs.Plan.{Plan, bands, rows_of, Passes, Crosses, IsFabric}
use Rattle.fabric.specs.Shape.{base, last_column, offset, shape, ground_trunk, power_trunk, ground_row, power_rail}
use Rattle.fabric.specs.Shape.{segment_rect, line_rect}
use Rattle.fabric.specs.Switches.{Net}
use Rattle.fabric.specs.Switches.Net.{segment, line, ground, power as the_power}
use Rattle.fabric_laws.proofs.Tile.{Thing, Here, Inside, Slot, Local}
use Rattle.fabric_laws.proofs.Tile.Thing.{lin}
use Rattle.fabric.proofs.Bases.{bands_lie}
use Rattle.fabric.proofs.Lying.{some_rows, line_lies}
use Rattle.fabric_laws.proofs.Local.{trunk_at, power_at, ground_at, rail_at, segment_at, line_at}
use Rattle.fabric_laws.proofs.Back.{drawn_at}
use Rattle.fabric_laws.proofs.Owners.{owner_conducts}
use Rattle.lam_geom.proofs.Chains.{join_chains, map_chain}
use Rattle.fabric_laws.proofs.Tables.{Part, part, parts}
use Rattle.fabric_laws.proofs.Tables.Kind.{of_line}

abbrev pub square : Layer → ℤ → ℤ → Square
square l x y = record { layer = l; x = x; y = y }

-- the square at a place of a tile
abbrev pub spot : Plan → ℕ → ℕ → ℕ → Layer → ℕ → ℕ → Square
spot f b r c l u v = square l (pos (10000 * c + u)) (pos (500 * base f b + 6000 * r + v))

-- a square of each net
abbrev pub anchor : Plan → Net → Square
anchor f (segment s) = spot f s.band s.row s.first NM 0 3000
anchor f (line l) = square ND (pos (500 * (20 * l.column + offset l.side))) (pos (500 * base f l.first_band))
anchor f ground = square NM (pos 3500) (pos 0)
anchor f the_power = square NM (pos (500 * (20 * last_column f + 7))) (pos 0)

module _ (joined : RectanglesAreJoined) (f : Plan) (w : IsFabric f) where
  abbrev pub J : Square → Square → Type 0
  J = Joined (covered (shape f))

  abbrev pub Reached : Net → Square → Type 0
  Reached n s = Chain J (anchor f n) s

  -- where each square of a rectangle conducts, they are joined
  pub in_rectangle : (r : Rect) → ((s : Square) → IsIn r s → Conducts (covered (shape f)) s) → (s t : Square) → IsIn r s
      → IsIn r t → Chain J s t
  in_rectangle r h s t i j = map_chain
      (λ a b k. beside (record { from = h a k.from; to = h b k.to; same = k.same; beside = k.beside }))
      (joined r s t i j)

  pub owner_at : (t : Thing) (p : Part) (b r c u v : ℕ) → b < bands f → Slot f b r v → u < 10000 → Here f b r c t
      → Member (parts t) p → Inside p.cell u v → Conducts (covered (shape f)) (spot f b r c p.cell.layer u v)
  owner_at t p b r c u v hb s hu h m i =
      owner_conducts f w p.cell.layer (pos (10000 * c + u)) (pos (500 * base f b + 6000 * r + v))
      (record {
        b = b;
        r = r;
        c = c;
        u = u;
        v = v;
        at = record
            { band = hb; slot = s; at_x = refl; at_y = refl; in_x = hu };
        thing = t;
        here = h;
        part = p;
        among = m;
        layer = refl;
        inside = i;
      })

  -- ---- the long rectangles
  metal : (r : Rect) → ((l : Layer) (x y : ℤ) → Covers r l x y → covered (shape f) l x y) → r.layer ≡ NM → (s : Square)
      → IsIn r s → Conducts (covered (shape f)) s
  metal r h e s i = subst (λ z. ConductsOn (covered (shape f)) z s.x s.y) (sym e ∙ i.same)
      (h NM s.x s.y (record { same = e; left = i.left; right = i.right; bottom = i.bottom; top = i.top }))

  from_local : (l : Layer) (x y : ℤ) → Local f l x y → covered (shape f) l x y
  from_local l x y k = subst (λ z. covered (shape f) z x y) k.layer
      (drawn_at f w k.thing k.cell k.b k.r k.c k.u k.v x y k.among k.here k.at k.inside)

  on_trunk : (s t : Square) → IsIn (ground_trunk f) s → IsIn (ground_trunk f) t → Chain J s t
  on_trunk = in_rectangle (ground_trunk f)
      (metal (ground_trunk f) (λ l x y c. from_local l x y (trunk_at f w l x y c)) refl)

  on_power : (s t : Square) → IsIn (power_trunk f) s → IsIn (power_trunk f) t → Chain J s t
  on_power = in_rectangle (power_trunk f)
      (metal (power_trunk f) (λ l x y c. from_local l x y (power_at f w l x y c)) refl)

  on_ground_row : (b : ℕ) → b < bands f → (s t : Square) → IsIn (ground_row f b) s → IsIn (ground_row f b) t
      → Chain J s t
  on_ground_row b h = in_rectangle (ground_row f b)
      (metal (ground_row f b) (λ l x y c. from_local l x y (ground_at f w b h l x y c)) refl)

  on_rail : (b : ℕ) → b < bands f → (s t : Square) → IsIn (power_rail f b) s → IsIn (power_rail f b) t → Chain J s t
  on_rail b h = in_rectangle (power_rail f b)
      (metal (power_rail f b) (λ l x y c. from_local l x y (rail_at f w b h l x y c)) refl)

  on_segment : (n : Segment) → Contains f.segments n → (s t : Square) → IsIn (segment_rect f n) s
      → IsIn (segment_rect f n) t → Chain J s t
  on_segment n h = in_rectangle (segment_rect f n)
      (metal (segment_rect f n) (λ l x y c. from_local l x y (segment_at f w n h l x y c)) refl)

  line_conducts : (n : Line) → Contains f.lines n → (s : Square) → IsIn (line_rect f n) s
      → Conducts (covered (shape f)) s
  line_conducts n h s i =
      let k = line_at f w n h s.layer s.x s.y i in
      owner_conducts f w s.layer s.x s.y (record {
        b = k.b;
        r = k.r;
        c = k.c;
        u = k.u;
        v = k.v;
        at = k.at;
        thing = lin n.side;
        here = k.here;
        part = part (of_line n.side) ND (offset n.side) 0 (offset n.side + 4) 36;
        among = inl refl;
        layer = k.layer;
        inside = k.inside;
      })

  on_line : (n : Line) → Contains f.lines n → (s t : Square) → IsIn (line_rect f n) s → IsIn (line_rect f n) t
      → Chain J s t
  on_line n h = in_rectangle (line_rect f n) (line_conducts n h)

  pub some_height : 48 ≤ base f (bands f)
  some_height =
      let i = w.bands in
      let z = bands_lie f 0 (bands f) in
      let n = some_rows f w 0 (omega arith) in
      omega arith

  -- ---- ground, power, segments and lines
  pub reach_trunk : (b r c u v : ℕ) → b < bands f → Slot f b r v → c ≡ 0 → Inside (cell NM 7 0 13 36) u v
      → Reached ground (spot f b r c NM u v)
  reach_trunk b r c u v hb s e i =
      let i0 = i.left in let i1 = i.right in
      let z = bands_lie f b (bands f) in let m = some_height in
      on_trunk (anchor f ground) (spot f b r c NM u v)
      (record {
        same = refl;
        left = omega (arith, ints);
        right = omega (arith, ints);
        bottom = omega (arith, ints);
        top = omega (arith, ints);
      })
      (record {
        same = refl;
        left = omega (arith, ints);
        right = omega (arith, ints);
        bottom = omega (arith, ints);
        top = omega (arith, ints);
      })

  pub reach_power : (b r c u v : ℕ) → b < bands f → Slot f b r v → c ≡ last_column f → Inside (cell NM 7 0 13 36) u v
      → Reached the_power (spot f b r c NM u v)
  reach_power b r c u v hb s e i =
      let i0 = i.left in let i1 = i.right in
      let z = bands_lie f b (bands f) in let m = some_height in
      on_power (anchor f the_power) (spot f b r c NM u v)
      (record {
        same = refl;
        left = omega (arith, ints);
        right = omega (arith, ints);
        bottom = omega (arith, ints);
        top = omega (arith, ints);
      })
      (record {
        same = refl;
        left = omega (arith, ints);
        right = omega (arith, ints);
        bottom = omega (arith, ints);
        top = omega (arith, ints);
      })

  pub reach_ground : (b c u v : ℕ) → b < bands f → c < last_column f → 3500 ≤ 10000 * c + u → u < 10000 → 3000 ≤ v
      → v < 5000 → Reached ground (spot f b 0 c NM u v)
  reach_ground b c u v hb hc hl hu h0 h1 =
      let n = some_rows f w b hb in let q = w.columns in
      join_chains (reach_trunk b 0 0 3500 3000 hb (inl (omega arith, omega arith)) refl
      (record { left = omega arith; right = omega arith; bottom = omega arith; top = omega arith }))
      (on_ground_row b hb (spot f b 0 0 NM 3500 3000) (spot f b 0 c NM u v)
      (record {
        same = refl;
        left = omega (arith, ints);
        right = omega (arith, ints);
        bottom = omega (arith, ints);
        top = omega (arith, ints);
      })
      (record {
        same = refl;
        left = omega (arith, ints);
        right = omega (arith, ints);
        bottom = omega (arith, ints);
        top = omega (arith, ints);
      }))

  pub reach_rail : (b c u v : ℕ) → b < bands f → 1 ≤ c → 10000 * c + u < 10000 * last_column f + 6500 → 13500 ≤ v
      → v < 15500 → Reached the_power (spot f b (rows_of f b) c NM u v)
  reach_rail b c u v hb hc hl h0 h1 =
      let q = w.columns in
      join_chains (reach_power b (rows_of f b) (last_column f) 3500 13500 hb (inr (refl, omega arith)) refl
      (record { left = omega arith; right = omega arith; bottom = omega arith; top = omega arith }))
      (on_rail b hb (spot f b (rows_of f b) (last_column f) NM 3500 13500) (spot f b (rows_of f b) c NM u v)
      (record {
        same = refl;
        left = omega (arith, ints);
        right = omega (arith, ints);
        bottom = omega (arith, ints);
        top = omega (arith, ints);
      })
      (record {
        same = refl;
        left = omega (arith, ints);
        right = omega (arith, ints);
        bottom = omega (arith, ints);
        top = omega (arith, ints);
      }))

  pub reach_segment : (s : Segment) → Contains f.segments s → (b r c u v : ℕ) → Crosses s b r c → u < 10000 → 3000 ≤ v
      → v < 5000 → Reached (segment s) (spot f b r c NM u v)
  reach_segment s m b r c u v p hu h0 h1 =
      let p0 = p.row in let p1 = p.first in let p2 = p.last in let g : base f s.band ≡ base f b = ap (base f) p.band in
      on_segment s m (anchor f (segment s)) (spot f b r c NM u v)
      (record {
        same = refl;
        left = omega (arith, ints);
        right = omega (arith, ints);
        bottom = omega (arith, ints);
        top = omega (arith, ints);
      })
      (record {
        same = refl;
        left = omega (arith, ints);
        right = omega (arith, ints);
        bottom = omega (arith, ints);
        top = omega (arith, ints);
      })

  pub reach_line : (l : Line) → Contains f.lines l → (s : Side) (b r c u v : ℕ) → Passes l s b c
      → (r < rows_of f b) ⊎ (b < l.last_band) → Slot f b r v → 500 * offset s ≤ u → u < 500 * (offset s + 4)
      → Reached (line l) (spot f b r c ND u v)
  reach_line l m s b r c u v p g sl h0 h1 =
      let p0 = p.column in let p1 = p.first in let p2 = p.last in
      let o : offset l.side ≡ offset s = ap offset p.at_side in
      let i = line_lies f w l m in let i0 = i.order in let i1 = i.last in
      let n = some_rows f w l.first_band (omega arith) in
      let n2 = some_rows f w l.last_band i.last in
      let z = bands_lie f l.first_band b in
      let z2 = bands_lie f b l.last_band in
      let z3 = bands_lie f l.first_band l.last_band in
      on_line l m (anchor f (line l)) (spot f b r c ND u v)
      (record {
        same = refl;
        left = omega (arith, ints);
        right = omega (arith, ints);
        bottom = omega (arith, ints);
        top = omega (arith, ints);
      })
      (record {
        same = refl;
        left = omega (arith, ints);
        right = omega (arith, ints);
        bottom = omega (arith, ints);
        top = omega (arith, ints);
      })
