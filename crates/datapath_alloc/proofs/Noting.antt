-- Which tasks are noted while a path grows.
use Rattle.std.proofs.Common.{◌≡◌, ℕ, suc, ◌≤◌, inl, inr, List, Option, Some, None, sym, ◌∙◌, subst, arith}
use Rattle.std.specs.Prelude.{Contains, slice_get}
use Rattle.std.proofs.lemmas.Option.{none-some, same_Some}
use Rattle.mp_base.specs.declared.op.Op.{Op}
use Rattle.nor_net.specs.declared.net.NetId.{NetId}
use Rattle.rtl_form.specs.declared.rtl.RtlExpr.{RtlExpr}
use Rattle.rtl_form.specs.declared.rtl.Rtl.{Rtl}
use Rattle.mp_base.specs.Entries.{IsAt}
use Rattle.mp_base.proofs.Entries.{one_entry}
use Rattle.control_nor.specs.declared.names.Names.{Names}
use Rattle.task_schedule.specs.declared.task.Task.TheVariants as tasks
use Rattle.control_nor.specs.Lowering.{Stands}
use Rattle.path_form.specs.declared.path.Lift.{Lift}
use Rattle.datapath_making.specs.declared.making.Making.{Making}
use Rattle.datapath_making.specs.Steps.{marked}
use Rattle.datapath_sharing.specs.declared.built.Built.{Built}
use Rattle.datapath_sharing.specs.Sharing.{AreBuilt, IsExprNoted, IsShared, KeepsNoted, Stays, number_in, operator_in}
use Rattle.datapath_sharing.proofs.Sharing.{expr_still, keeps_same}
use Rattle.datapath_alloc.specs.Noting.{AreNoted, IsSharing, KeepsWords}
use Rattle.datapath_alloc.proofs.Steps.{done_cases}

-- a task is done, and its expression, if it is one, is noted
module _ (names : Names) (b c : Built) (words words_now : List (Option NetId)) (lifts lifts_now : List Lift)
    (keeps : KeepsNoted b c) (stay : (e : ℕ) (id : NetId) → Stands words e id → Stands words_now e id)
    (more : (l : Lift) → Contains lifts l → Contains lifts_now l) where
  pub noted_more : (r : Rtl) (t : ℕ)
      → ((e : ℕ) (x : RtlExpr) → IsAt r.exprs e x → slice_get names.tasks t ≡ Some (tasks.Expr e)
      → IsExprNoted names c words_now lifts_now e x)
      → AreNoted r names t b words lifts → AreNoted r names (suc t) c words_now lifts_now
  noted_more r t here h e x at done =
      elim (done_cases names t (tasks.Expr e) done) [
        | inl before ↦ expr_still names b c words words_now lifts lifts_now keeps stay more e x (h e x at before)
        | inr now ↦ here e x at now
      ]

-- the one expression of a task
pub only_expr : (r : Rtl) (names : Names) (t e : ℕ) (x : RtlExpr) (P : ℕ → RtlExpr → Type 0)
    → slice_get names.tasks t ≡ Some (tasks.Expr e) → IsAt r.exprs e x → P e x
    → (d : ℕ) (y : RtlExpr) → IsAt r.exprs d y → slice_get names.tasks t ≡ Some (tasks.Expr d) → P d y
only_expr r names t e x P is at holds d y dat now =
    let task = same_Some (tasks.Expr e) (tasks.Expr d) (sym is ∙ now) in
    let same : e ≡ d = cc in
    subst (λ n. P n y) same
    (subst (P e) (one_entry r.exprs e x y at (subst (λ n. IsAt r.exprs n y) (sym same) dat)) holds)

pub no_expr : (r : Rtl) (names : Names) (t c : ℕ) (P : ℕ → RtlExpr → Type 0)
    → slice_get names.tasks t ≡ Some (tasks.Cell c)
    → (d : ℕ) (y : RtlExpr) → IsAt r.exprs d y → slice_get names.tasks t ≡ Some (tasks.Expr d) → P d y
no_expr r names t c P is d y dat now =
    let q : tasks.Cell c ≡ tasks.Expr d = same_Some _ _ (sym is ∙ now) in cc

pub sharing_more : (r : Rtl) (t : ℕ) (b c : Built) (old new : Making) → Stays old new → KeepsNoted b c
    → AreBuilt c new.slices
    → ((e : ℕ) (x : RtlExpr) → IsAt r.exprs e x → slice_get old.names.tasks t ≡ Some (tasks.Expr e)
    → IsExprNoted old.names c new.words new.lifts e x)
    → IsSharing r t b old → IsSharing r (suc t) c new
sharing_more r t b c old new stays keeps built here h = record {
  built = built;
  noted = subst (λ (n : Names). AreNoted r n (suc t) c new.words new.lifts) (sym stays.names)
      (noted_more old.names b c old.words new.words old.lifts new.lifts keeps stays.words stays.lifts r t here h.noted);
}

-- ---- tasks

module _ (r : Rtl) (t : ℕ) (b : Built) (old : Making) (h : IsSharing r t b old) where
  -- an expression that is noted
  pub shared_on : (c : Built) (new : Making) (e : ℕ) (x : RtlExpr)
      → slice_get old.names.tasks t ≡ Some (tasks.Expr e) → IsAt r.exprs e x → IsShared e x b c old new
      → IsSharing r (suc t) c new
  shared_on c new e x is at s =
      sharing_more r t b c old new s.stays s.keeps s.built
      (only_expr r old.names t e x (IsExprNoted old.names c new.words new.lifts) is at s.noted) h

  -- one of which nothing is noted
  pub nothing_on : (new : Making) (e : ℕ) (x : RtlExpr) → slice_get old.names.tasks t ≡ Some (tasks.Expr e)
      → IsAt r.exprs e x → Stays old new → new.slices ≡ old.slices → IsExprNoted old.names b new.words new.lifts e x
      → IsSharing r (suc t) b new
  nothing_on new e x is at stays slices noted =
      sharing_more r t b b old new stays (keeps_same b) (subst (AreBuilt b) (sym slices) h.built)
      (only_expr r old.names t e x (IsExprNoted old.names b new.words new.lifts) is at noted) h

  -- a driven cell
  pub cell_on : (new : Making) (c : ℕ) → slice_get old.names.tasks t ≡ Some (tasks.Cell c) → Stays old new
      → AreBuilt b new.slices → IsSharing r (suc t) b new
  cell_on new c is stays built =
      sharing_more r t b b old new stays (keeps_same b) built
      (no_expr r old.names t c (IsExprNoted old.names b new.words new.lifts) is) h

-- where nothing is done, nothing is noted
pub none_shared : (r : Rtl) (b : Built) (m : Making)
    → ((op : Op) (first last : NetId) → operator_in b op first last ≡ None) → ((n : ℕ) → number_in b n ≡ None)
    → IsSharing r 0 b m
none_shared r b m operators numbers = record {
  built = record {
    operators = λ op first last id e. absurd (none-some id (sym (operators op first last) ∙ e));
    numbers = λ n id e. absurd (none-some id (sym (numbers n) ∙ e));
  };
  noted = λ e x at d. absurd (let l = d.1 in omega (arith, l));
}

pub marked_shares : (r : Rtl) (t c : ℕ) (b : Built) (m new : Making) → IsSharing r t b m → new ≡ marked c m
    → IsSharing r t b new
marked_shares r t c b m new h e = subst (IsSharing r t b) (sym e) (record { built = h.built; noted = h.noted })

-- the words after two steps
pub words_twice : (a b c : Making) → KeepsWords a b → KeepsWords b c → KeepsWords a c
words_twice a b c h k = record {
  names = k.names ∙ h.names;
  words = k.words ∙ h.words;
  lifts = k.lifts ∙ h.lifts;
}

-- what is noted of more tasks is noted of fewer
pub noted_within : (r : Rtl) (names : Names) (t u : ℕ) (b : Built) (words : List (Option NetId)) (lifts : List Lift)
    → t ≤ u → AreNoted r names u b words lifts → AreNoted r names t b words lifts
noted_within r names t u b words lifts l h e x at d = h e x at (d.0, (let s = d.1 in omega (arith, s, l)), d.2)
