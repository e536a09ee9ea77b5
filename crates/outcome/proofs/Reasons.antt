-- Why a command ended: one stage after another.
use Rattle.std.proofs.Common.{◌≡◌, ◌⊎◌, ℕ, ◌≤◌, List, [], refl, sym, subst, ◌∙◌, inl, inr, Option, Some, None, Result}
use Rattle.std.proofs.Common.{Ok, Err, IfSome, unwrap_or}
use Rattle.std.specs.Prelude.{IsErrAnd}
use Rattle.std.specs.FinMap.{get}
use Rattle.outside.specs.Outside.{Files, Rose, Keeps, bytes_of}
use Rattle.mp_base.specs.declared.refusal.Broken.{Broken}
use Rattle.mp_base.specs.declared.refusal.Refusal.{Refusal}
use Rattle.mp_base.specs.Refuses.{IsRefusal}
use Rattle.mp_base.specs.declared.refusal.Refusal.TheVariants as refusal
use Rattle.outcome.specs.Order.{Fault, Stray, Breaks, Then, OfFile, OfLength, OfRule, IsContent, IsStrayBy}
use Rattle.outcome.specs.Halt.{EndsBy, HasReason, halt_of}
use Rattle.outcome.specs.declared.halt.Halt.{Halt}
use Rattle.outcome.specs.declared.halt.Halt.TheVariants.{Refused, ReadFault, WriteFault, NoMemory}

either : {A B C : Type 0} → (B → C) → A ⊎ B → A ⊎ C
either f (inl a) = inl a
either f (inr b) = inr (f b)

-- what holds of the files before holds of the kept files
pub if_kept : (P : Files → Type 0) (x y : Option Files) → Keeps x y → IfSome x P → IfSome y P
if_kept P x None k p = tt
if_kept P None (Some b) k p = absurd k
if_kept P (Some a) (Some b) k p = subst P (sym k) p

module _ (F G : Files → Option Fault → Type 0) where
  -- both stages
  abbrev Both : Files → Option Fault → Type 0
  Both files fault = Then (F files) (G files) fault

  stray_first : (held : Option Files) → IsStrayBy F held → IsStrayBy Both held
  stray_first None s = absurd s
  stray_first (Some files) s = inl s

  if_first : (held : Option Files) (fault : Fault) → IfSome held (λ files. F files (Some fault))
      → IfSome held (λ files. Both files (Some fault))
  if_first None fault s = tt
  if_first (Some files) fault s = inl s

  -- a first stage that ended early ends both
  pub ends_first : (held : Option Files) (r r' : ℕ) (halt : Halt) → EndsBy F held r r' halt → EndsBy Both held r r' halt
  ends_first held r r' (Refused broken) e = (e.0, if_first held (Breaks broken) e.1)
  ends_first held r r' ReadFault e = (e.0, either (stray_first held) e.1)
  ends_first held r r' WriteFault e = absurd e
  ends_first held r r' NoMemory e = e

  pub if_second : (held : Option Files) (fault : Option Fault) → IfSome held (λ files. F files None)
      → IfSome held (λ files. G files fault) → IfSome held (λ files. Both files fault)
  if_second None fault p q = tt
  if_second (Some files) None p q = (p, q)
  if_second (Some files) (Some fault) p q = inr (p, q)

  stray_second : (held : Option Files) → IfSome held (λ files. F files None) → IsStrayBy G held → IsStrayBy Both held
  stray_second None p s = absurd s
  stray_second (Some files) p s = inr (p, s)

  pub ends_second : (held : Option Files) (r m r' : ℕ) (halt : Halt) → m ≡ r → IfSome held (λ files. F files None)
      → EndsBy G held m r' halt → EndsBy Both held r r' halt
  ends_second held r m r' (Refused broken) same p e = (e.0 ∙ same, if_second held (Some (Breaks broken)) p e.1)
  ends_second held r m r' ReadFault same p e = subst (λ k. (k ≤ r') × (Rose k r' ⊎ IsStrayBy Both held)) same (
    e.0,
    either (stray_second held p) e.1,
  )
  ends_second held r m r' WriteFault same p e = absurd e
  ends_second held r m r' NoMemory same p e = e ∙ same

  -- a second stage after a first one without a fault
  pub reason_second : {T : Type 0} (x y : Option Files) (r m r' : ℕ) (result : Result T Halt) → Keeps x y → m ≡ r
      → IfSome x (λ files. F files None) → HasReason G y m r' result → HasReason Both y r r' result
  reason_second x y r m r' (Ok v) kept same p e = (e.0 ∙ same, if_second y None (if_kept _ x y kept p) e.1)
  reason_second x y r m r' (Err halt) kept same p e = ends_second y r m r' halt same (if_kept _ x y kept p) e

-- what holds of a text that was read holds of the file
pub of_content : (limit : ℕ) (P : List ℕ → Type 0) (name text : List ℕ) (held : Option Files) → P text
    → IfSome held (λ files. IsContent limit (get files name) text) → IfSome held (λ files. P (bytes_of files name))
of_content limit P name text None p read = tt
of_content limit P name text (Some files) p read = subst (λ content. P (unwrap_or content [])) (sym read.0) p

-- an error that was passed on
pub reason_err : {T : Type 0} (First : Files → Option Fault
    → Type 0) (held : Option Files) (r m : ℕ) (halt : Halt) (result : Result T Halt) → IsErrAnd result (λ e. e ≡ halt)
    → EndsBy First held r m halt → HasReason First held r m result
reason_err First held r m halt (Ok v) is e = absurd is
reason_err First held r m halt (Err h) is e = subst (EndsBy First held r m) (sym is) e

-- a file that was read and then judged
module _ (limit : ℕ) (Rules : List ℕ → Option Broken
    → Type 0) (name text : List ℕ) (held : Option Files) (r m : ℕ)
    (read : IfSome held (λ files. IsContent limit (get files name) text)) (fits : (m ≡ r)
    × IfSome held (λ files. OfLength limit name (get files name) None)) where
  abbrev Length : Files → Option Fault → Type 0
  Length files = OfLength limit name (get files name)

  abbrev Rest : Files → Option Fault → Type 0
  Rest files = OfRule (Rules (bytes_of files name))

  judged_end : (why : Refusal) → IsRefusal (λ b. Rules text (Some b)) why → EndsBy Rest held m m (halt_of why)
  judged_end (refusal.Broken broken) is = (refl, of_content limit (λ t. Rules t (Some broken)) name text held is read)
  judged_end refusal.NoMemory is = refl

  pub judged_err : (why : Refusal) → IsRefusal (λ b. Rules text (Some b)) why
      → EndsBy (λ files. OfFile limit Rules name (get files name)) held r m (halt_of why)
  judged_err why is = ends_second Length Rest held r m m (halt_of why) fits.0 fits.1 (judged_end why is)

  pub judged_ok : Rules text None → (m ≡ r) × IfSome held (λ files. OfFile limit Rules name (get files name) None)
  judged_ok is = (
    fits.0,
    if_second Length Rest held None fits.1
        (of_content limit (λ t. Rules t None) name text held is read),
  )

-- the same faults by another relation
pub reason_map : {T : Type 0} (F G : Files → Option Fault
    → Type 0) (held : Option Files) (r m : ℕ) (result : Result T Halt)
    → IfSome held (λ files. (fault : Option Fault) → F files fault → G files fault) → HasReason F held r m result
    → HasReason G held r m result
reason_map F G None r m (Ok v) f e = e
reason_map F G (Some files) r m (Ok v) f e = (e.0, f None e.1)
reason_map F G held r m (Err halt) f e = ends_map halt held f e
  where
    ends_map : (halt : Halt) (held : Option Files)
        → IfSome held (λ files. (fault : Option Fault) → F files fault → G files fault) → EndsBy F held r m halt
        → EndsBy G held r m halt
    ends_map (Refused broken) None f e = e
    ends_map (Refused broken) (Some files) f e = (e.0, f (Some (Breaks broken)) e.1)
    ends_map ReadFault None f e = e
    ends_map ReadFault (Some files) f e = (e.0, either (f (Some Stray)) e.1)
    ends_map WriteFault held f e = absurd e
    ends_map NoMemory held f e = e

pub file_map : (limit : ℕ) (R S : List ℕ → Option Broken → Type 0) (name : List ℕ) (content : Option (List ℕ))
    → ((broken : Option Broken) → R (unwrap_or content []) broken → S (unwrap_or content []) broken)
    → (fault : Option Fault) → OfFile limit R name content fault → OfFile limit S name content fault
file_map limit R S name content f None e = (e.0, f None e.1)
file_map limit R S name content f (Some fault) (inl e) = inl e
file_map limit R S name content f (Some Stray) (inr e) = absurd e.1
file_map limit R S name content f (Some (Breaks broken)) (inr e) = inr (e.0, f (Some broken) e.1)
