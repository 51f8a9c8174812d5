-- The places that are told lie within the greatest panel: each is below 64. A refusal's number has one digit.
use Rattle.std.specs.Prelude.{◌≤◌, ◌<◌, Option as Maybe, Some, None}
use Rattle.refusals.specs.Outcome.{number}
use Rattle.why_file.specs.declared.WhyFile.{WhyFile}
use Rattle.why_file.specs.declared.WhyFile.TheVariants.{Refused, Factoring, Singular, Solving}

unfoldable pub Placed : Maybe WhyFile → Type 0
Placed None = Unit {0}
Placed (Some (Refused refusal)) = number refusal ≤ 9
Placed (Some (Factoring i j r)) = (i < 64) × (j < 64) × (r < 64)
Placed (Some (Singular j)) = j < 64
Placed (Some (Solving pass j r)) = (j < 64) × (r < 64)
