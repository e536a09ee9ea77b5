-- Sound transfers keep within their widths.
use Rattle.std.proofs.Common.{ℕ, ◌<◌, ◌^◌, List, true, cond, sym, subst}
use Rattle.std.specs.Prelude.{slice_index}
use Rattle.rtl_form.specs.declared.rtl.Rtl.{Rtl}
use Rattle.rtl_form.specs.Environment.{IsEnvironment}
use Rattle.rtl_form.specs.Sound.{IsSound}
use Rattle.rtl_form.specs.Fitting.{InputsFit, AllFit}
use Rattle.rtl_form.proofs.Values.{value_is}
use Rattle.rtl_form.proofs.Fitting.{values_fit}
use Rattle.path_form.specs.Showing.{FitPads}
use Rattle.path_values.specs.Realizing.{StateFits}
use Rattle.path_values.specs.Allocated.{IsTame, AllocatedRealizes}
use Rattle.path_values.proofs.Realized.{realizes}

module _ (r : Rtl) (sound : IsSound r) where
  inputs_fit : (inputs : List ℕ) → FitPads (r.pads).inputs inputs → InputsFit r inputs
  inputs_fit inputs fit k pad at = fit k pad at

  fits : (state inputs env : List ℕ) → StateFits r state → FitPads (r.pads).inputs inputs
      → IsEnvironment r state inputs env → AllFit r state inputs env
  fits state inputs env low fit is_env = values_fit r sound state inputs env low (inputs_fit inputs fit) is_env

  pub tame : IsTame r
  tame = record {
    values = λ state inputs env low fit is_env.
        record { each = value_is r sound env; fit = λ e h. (fits state inputs env low fit is_env).exprs e true h };
    bits = λ state inputs env low fit is_env c x at word.
        subst (λ w. slice_index env c < 2 ^ cond w r.width 1) word
        ((fits state inputs env low fit is_env).cells c x at);
    next = λ state inputs outputs after low fit clock.
        subst (StateFits r) (sym clock.next) (fits state inputs clock.env low fit clock.environment).next;
  }

pub allocated_realizes : AllocatedRealizes
allocated_realizes r p sound a = realizes r p sound (tame r sound) a
