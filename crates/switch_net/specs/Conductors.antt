-- Which squares conduct, and which of these are joined. `covers` says whether a layer covers the square at x and y.
use Rattle.std.specs.Prelude.{◌≡◌, ◌≢◌, ◌⊎◌, ℤ}
use Rattle.lam_geom.specs.declared.layer.Layer.{Layer}
use Rattle.lam_geom.specs.declared.layer.Layer.TheVariants.{ND, NP, NC, NM, NI, NB, NG}
use Rattle.lam_geom.specs.Squares.{Square, Adjoin}

-- polysilicon over diffusion, and no buried contact
pub record IsChannel (covers : Layer → ℤ → ℤ → Type 0) (x y : ℤ) : Type 0 where
  pub gate : covers NP x y
  pub diffusion : covers ND x y
  pub unburied : ¬ covers NB x y

-- metal, polysilicon, and diffusion that is no channel
abbrev pub ConductsOn : (Layer → ℤ → ℤ → Type 0) → Layer → ℤ → ℤ → Type 0
ConductsOn covers NM x y = covers NM x y
ConductsOn covers NP x y = covers NP x y
ConductsOn covers ND x y = covers ND x y × ¬ IsChannel covers x y
ConductsOn covers NC x y = ⊥
ConductsOn covers NI x y = ⊥
ConductsOn covers NB x y = ⊥
ConductsOn covers NG x y = ⊥

-- the square is a conductor
abbrev pub Conducts : (Layer → ℤ → ℤ → Type 0) → Square → Type 0
Conducts covers s = ConductsOn covers s.layer s.x s.y

-- two conductors of one place: a contact cut joins them all, a buried contact those that are not metal
pub record Contact (covers : Layer → ℤ → ℤ → Type 0) (s t : Square) : Type 0 where
  pub from : Conducts covers s
  pub to : Conducts covers t
  pub x : s.x ≡ t.x
  pub y : s.y ≡ t.y
  pub by : covers NC s.x s.y ⊎ covers NB s.x s.y × s.layer ≢ NM × t.layer ≢ NM

-- two conductors are joined as neighbours on one layer, or by a contact
pub data Joined (covers : Layer → ℤ → ℤ → Type 0) (s t : Square) : Type 0 where
  beside : Adjoin (Conducts covers) s t → Joined covers s t
  contact : Contact covers s t → Joined covers s t

-- a square of a channel, named by its polysilicon
abbrev pub IsChannelSquare : (Layer → ℤ → ℤ → Type 0) → Square → Type 0
IsChannelSquare covers s = (s.layer ≡ NP) × IsChannel covers s.x s.y
