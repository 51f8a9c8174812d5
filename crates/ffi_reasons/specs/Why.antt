-- What the exported explanations write through their pointers (document 02, request 8): the place that is told; where none is, zeros, and for 6 the column.
use Rattle.std.proofs.Math.Option.{Option, none, some}
use Rattle.std.specs.Prelude.{ℕ}
use Rattle.elimination.specs.Reason.{Place}
use Rattle.why.specs.Factoring.{place_at}
use Rattle.why.specs.Solving.{Spot, spot_at}
use Rattle.why.specs.Why.{Told}

unfoldable pub place_or : Option Place → Place
place_or none = place_at 0 0 0
place_or (some p) = p

abbrev pub place_told : Told Place → Place
place_told t = place_or t.place

unfoldable pub spot_or : Option Spot → Option ℕ → Spot
spot_or (some p) column = p
spot_or none (some j) = spot_at 0 j 0
spot_or none none = spot_at 0 0 0

abbrev pub spot_told : Told Spot → Spot
spot_told t = spot_or t.place t.column
