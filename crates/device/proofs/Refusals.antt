-- Document 01's own refusals. The laws on what a call refuses by speak of these.
use mathlib.Core.Bool.{Bool, true, false}
use mathlib.Core.Path.{◌≡◌}
use Rattle.device.specs.declared.refusal.Refusal.{Refusal}
use Rattle.device.specs.declared.refusal.Refusal.TheVariants.{Other}

-- each but a number of a caller's own
abbrev pub listed_refusal : Refusal → Bool
listed_refusal (Other number) = false
listed_refusal refusal = true

abbrev pub ListedRefusal : Type 0
ListedRefusal = (refusal : Refusal) × (listed_refusal refusal ≡ true)
