-- Document 02, request 8, for a panel file: why its answer is refused. By the reader or by factoring, where those refuse it; else by the solve.
use Rattle.std.specs.Prelude.{List, ℕ, ◌*◌, replicate, Option as Maybe, Some, None}
use Rattle.std.proofs.Math.Option.{map, some, none}
use Rattle.numbers.specs.Column.{Column, zeros}
use Rattle.refusals.specs.Outcome.{Outcome, done, refused, number, tested}
use Rattle.elimination.specs.Reason.{Place}
use Rattle.panel_file.specs.File.{pads_of, matrix_of, readings_of}
use Rattle.panel_file.specs.Reading.{file_refusal}
use Rattle.crossing.specs.Below.{Packed}
use Rattle.crossing.specs.Factors.{factors_in}
use Rattle.why.specs.Factoring.{place_at}
use Rattle.why.specs.Solving.{Spot, spot_at}
use Rattle.why.specs.Why.{Told, told_number, explain_factoring, explain_solving}
use Rattle.why_file.specs.declared.WhyFile.{WhyFile}
use Rattle.why_file.specs.declared.WhyFile.TheVariants.{Refused, Factoring, Singular, Solving}

-- where the first result stands that is not finite: one of factoring, or one of the solve
pub data Stage : Type 0 where
  in_factoring : Place → Stage
  in_solving : Spot → Stage

abbrev pub told_in : {Where : Type 0} → (Where → Stage) → Told Where → Told Stage
told_in stage t = record { number = t.number; column = t.column; place = map stage t.place }

-- why the file's matrix is not factored
unfoldable pub explain_factors : List ℕ → Told Stage
explain_factors bytes =
    let n = pads_of bytes in
    tested (file_refusal bytes) told_number (told_in in_factoring (explain_factoring (matrix_of n bytes) n n (zeros (n * n)) (replicate 128 0)))

-- why its factors do not solve for the right-hand column b
unfoldable pub explain_loads : Packed → Column → Told Stage
explain_loads f b = told_in in_solving (explain_solving f.factors f.swaps f.told b 1 (zeros f.told.rows))

-- the one where the file has no factors, else the other
unfoldable pub explained_by : Outcome Packed → Told Stage → (Packed → Told Stage) → Told Stage
explained_by (done f) why next = next f
explained_by (refused number) why next = why

unfoldable pub explain_file : List ℕ → Told Stage
explain_file bytes = explained_by (factors_in bytes) (explain_factors bytes) (λ f. explain_loads f (readings_of (pads_of bytes) bytes))

-- what each case of the answer stands for
unfoldable pub told_file : Maybe WhyFile → Told Stage
told_file None = told_number 0
told_file (Some (Refused refusal)) = told_number (number refusal)
told_file (Some (Factoring i j r)) = record { number = 7; column = none; place = some (in_factoring (place_at i j r)) }
told_file (Some (Singular j)) = record { number = 6; column = some j; place = none }
told_file (Some (Solving pass j r)) = record { number = 7; column = none; place = some (in_solving (spot_at pass j r)) }
