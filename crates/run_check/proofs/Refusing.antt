-- Refusals that are handed on.
use Rattle.std.proofs.Common.{◌≡◌, inl, inr, subst, sym}
use Rattle.std.specs.Prelude.{Result, Ok, Err, IfErr, IsErrAnd}
use Rattle.node_names.specs.declared.ids.Origin.{Origin}
use Rattle.protocol.specs.Stimulus.{Stimulus}
use Rattle.frames.specs.Frame.{Frame}
use Rattle.run_check.specs.Following.{Kept}
use Rattle.run_check.specs.Refusals.{IsNoStep, IsRefused}
use Rattle.run_check.specs.declared.error.CheckError.{CheckError}

-- what holds of an error holds of the answer that has it
pub refused_so : {X E : Type 0} (result : Result X E) (P : E → Type 0) (e : E) → IsErrAnd result (λ found. found ≡ e) → P e → IfErr result P
refused_so (Ok x) P e same p = tt
refused_so (Err found) P e same p = subst P (sym same) p

-- a step that is refused refuses the stimulus
pub no_step : {C : Type 0} (is_spent : C → Stimulus Frame → Type 0) (kept : Kept C) (run : Origin) (told : Stimulus Frame) (e : CheckError) →
    IsNoStep is_spent kept.nodes run told e →
    IsRefused is_spent kept run told e
no_step is_spent kept run told e why = inr (inl why)
